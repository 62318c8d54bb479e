-- The first of several things that are wrong.
use Rattle.std.proofs.Common.{◌≡◌, ℕ, zero, suc, ◌<◌, ◌≤◌, Bool, cond, ◌⊎◌, Some, None, Decides, Option, refl, inl, inr, ⊎_elim, arith}
use Rattle.std.proofs.lemmas.Bool.{cases_lt, cond_both}
use Rattle.std.proofs.lemmas.Bool.Decides.{not_from_Decides}
use Rattle.indication.specs.Rules.{First}
use Rattle.readings.specs.Checks.{either, first_wrong}

-- by another word for the same offsets
pub first_like :
    (P Q : ℕ → Type 0) (r : Option ℕ) → ((at : ℕ) → P at → Q at) → ((at : ℕ) → Q at → P at) → First P r → First Q r
first_like P Q None to from h = λ at q. h at (from at q)
first_like P Q (Some at) to from h = (to at h.0, λ other q. h.1 other (from other q))

-- one of n things, at that offset, is wrong
abbrev pub Among : (ℕ → Type 0) → (ℕ → ℕ) → ℕ → ℕ → Type 0
Among Wrong offset n at = (i : ℕ) × (i < n) × (at ≡ offset i) × Wrong i

module _ (wrong : ℕ → Bool) (Wrong : ℕ → Type 0) (told : (i : ℕ) → Decides (wrong i) (Wrong i))
    (offset : ℕ → ℕ) (up : (i j : ℕ) → i ≤ j → offset i ≤ offset j) where
  -- it is one of the first n, or the next
  among_more : (n at : ℕ) → Among Wrong offset (suc n) at → Among Wrong offset n at ⊎ ((at ≡ offset n) × Wrong n)
  among_more n at (i, l, is, w) =
      ⊎_elim (λ less. inl (i, less, is, w))
      (λ more. let e : i ≡ n = omega arith in inr (rw e at is, rw e at w))
      (cases_lt i n)

  first_more :
      (n : ℕ) (r : Option ℕ) → First (Among Wrong offset n) r
      → First (Among Wrong offset (suc n)) (either r (cond (wrong n) (Some (offset n)) None))
  first_more n (Some at) ((i, l, is, w), least) = (
    (i, omega arith, is, w),
    λ o other. ⊎_elim (least o) (λ next. omega (arith, up i n (omega arith), next.0)) (among_more n o other),
  )
  first_more n None none =
      cond_both (wrong n) (Some (offset n)) None (First (Among Wrong offset (suc n)))
      (λ bad. (
        (n, omega arith, refl, (told n).0 bad),
        λ o other. ⊎_elim (λ w. absurd (none o w)) (λ next. omega (arith, next.0)) (among_more n o other),
      ))
      (λ good o other. ⊎_elim (none o) (λ next. not_from_Decides (wrong n) (told n) good next.1) (among_more n o other))

  pub first_wrong_found : (n : ℕ) → First (Among Wrong offset n) (first_wrong wrong offset n)
  first_wrong_found zero = λ at (i, l, _, _). omega arith
  first_wrong_found (suc n) = first_more n (first_wrong wrong offset n) (first_wrong_found n)
