-- A tariff's entries, collected one by one.
use Rattle.std.proofs.Common.{◌≡◌, ℕ, ◌+◌, ◌<◌, List, [], ◌∷◌, ◌++◌, map, length, take, Ok, Err, Result, sym, refl, ap, ◌∙◌, arith, MatchResult}
use Rattle.std.specs.List.{range_with_len}
use Rattle.std.proofs.lemmas.List.FromFn.{map-range_with_len_more}
use Rattle.std.proofs.lemmas.List.{take_all, take-append-le, length-take, length_push}

-- a table of n that takes one more, or is full
pushed :
    {T X : Type 0} (n : ℕ) (r : Result T X) (xs ys zs : List X) (x : X) → xs ≡ take n zs
    → MatchResult r (λ _. (length xs < n) × (ys ≡ xs ++ x ∷ [])) (λ back. (length xs ≡ n) × (ys ≡ xs) × (back ≡ x))
    → ys ≡ take n (zs ++ x ∷ [])
pushed n (Ok _) xs ys zs x e (room, is) =
    is
    ∙ ap (λ l. l ++ x ∷ []) (e ∙ take_all n zs (omega (arith, length-take n zs, ap length e)))
    ∙ sym (take_all n (zs ++ x ∷ []) (omega (arith, length_push zs x, length-take n zs, ap length e)))
pushed n (Err _) xs ys zs x e (full, is, _) =
    is ∙ e ∙ sym (take-append-le n zs (x ∷ []) (omega (arith, length-take n zs, ap length e)))

pub collected_more :
    {T X : Type 0} (n : ℕ) (f : ℕ → X) (first k : ℕ) (r : Result T X) (xs ys : List X) (x : X)
    → xs ≡ take n (map f (range_with_len first k)) → x ≡ f (first + k)
    → MatchResult r (λ _. (length xs < n) × (ys ≡ xs ++ x ∷ [])) (λ back. (length xs ≡ n) × (ys ≡ xs) × (back ≡ x))
    → ys ≡ take n (map f (range_with_len first (k + 1)))
collected_more n f first k r xs ys x so_far is push =
    pushed n r xs ys (map f (range_with_len first k)) x so_far push
    ∙ ap (λ z. take n (map f (range_with_len first k) ++ z ∷ [])) is
    ∙ ap (take n) (sym (map-range_with_len_more f first k (first + k) refl))
