-- What holds of the bytes of an accepted indication.
use Rattle.std.proofs.Common.{◌≡◌, ℕ, ◌+◌, ◌-◌, ◌<◌, ◌≤◌, List, length, refl, inl, inr, ⊎_elim, lt_of_not-le, arith}
use Rattle.std.proofs.lemmas.Bool.{cases_lt, cases_eq}
use Rattle.indication.specs.declared.header.Kind.{Kind}
use Rattle.indication.specs.declared.header.Kind.TheVariants as kind
use Rattle.indication.specs.declared.fault.Fault.TheVariants.{WrongLength, BrokenLayout}
use Rattle.indication.specs.Codes.{kind_code}
use Rattle.indication.specs.Format.{byte, current_count, next_count, entry_count, full_length, term_offset}
use Rattle.indication.specs.Rules.{Accepted, BrokenHeader, InOrder, MisusedAt, uses_from}

-- a fact whose opposite is refuted
at_most : (n m : ℕ) → (n < m → ⊥) → m ≤ n
at_most n m h = omega (arith, lt_of_not-le h)

same : (n m : ℕ) → ((n ≡ m → ⊥) → ⊥) → n ≡ m
same n m h = ⊎_elim (λ e. e) (λ e. absurd (h e)) (cases_eq n m)

-- the last of some uses in order has a code
ordered_code : (u : ℕ → ℕ) (k : ℕ) → InOrder u (k + 1) → u k ≤ 4
ordered_code u k o =
    ⊎_elim (λ l. omega (arith, o.attempts k l))
    (λ l. ⊎_elim (λ m. omega (arith, o.set_ups k l m)) (λ m. omega (arith, o.subtariffs k m (omega arith))) (cases_lt k o.t))
    (cases_lt k o.s)

-- a kind's code that is not a tariff's is an add-on's
by_kind : (taken : Kind) {n : ℕ} → n ≡ kind_code taken → (n ≡ 1 → ⊥) → n ≡ 2
by_kind kind.Tariff e ne = absurd (ne e)
by_kind kind.AddOn e ne = e

module _ (taken : Kind) (b : List ℕ) (ok : Accepted taken b) where
  pub long : length b ≡ full_length b
  long =
      ⊎_elim (λ l. absurd (ok (WrongLength (length b)) (inl (l, refl))))
      (λ l. same (length b) (full_length b) (λ ne. ok (WrongLength _) (inr (l, ne, refl))))
      (cases_lt (length b) 24)

  header_kept : (at : ℕ) → BrokenHeader taken b at → ⊥
  header_kept at w = ok (BrokenLayout at) (inl w)

  pub few_current : current_count b ≤ 6
  few_current = at_most _ _ (λ l. header_kept 0 (inl (refl, inl l)))

  pub few_next : next_count b ≤ 6
  few_next = at_most _ _ (λ l. header_kept 1 (inr (inl (refl, inl l))))

  pub kind_is : byte b 2 ≡ kind_code taken
  kind_is = same _ _ (λ ne. header_kept 2 (inr (inr (inl (refl, ne)))))

  pub change_flag : byte b 3 ≤ 1
  change_flag = at_most _ _ (λ l. header_kept 3 (inr (inr (inr (inl (refl, inl l))))))

  pub current_flag : byte b 4 ≤ 1
  current_flag = at_most _ _ (λ l. header_kept 4 (inr (inr (inr (inr (inl (refl, inl l)))))))

  pub next_flag : byte b 5 ≤ 1
  next_flag = at_most _ _ (λ l. header_kept 5 (inr (inr (inr (inr (inr (inl (refl, inl l))))))))

  pub zero_byte : byte b 11 ≡ 0
  zero_byte = same _ _ (λ ne. header_kept 11 (inr (inr (inr (inr (inr (inr (inr (refl, ne)))))))))

  -- a tariff's uses have codes
  tariff_code : (first n : ℕ) → ((at : ℕ) → MisusedAt b first n at → ⊥) → (k : ℕ) → k < n → uses_from b first k ≤ 4
  tariff_code first n none k l =
      at_most _ _ (λ big. none _ (k, l, refl, (λ o. omega (arith, ordered_code (uses_from b first) k o))))

  use_code_tariff : byte b 2 ≡ 1 → (i : ℕ) → i < entry_count b → byte b (term_offset b i) ≤ 4
  use_code_tariff t i l =
      ⊎_elim
      (λ m. let e : 0 + i ≡ i = omega arith in
      rw e at (tariff_code 0 (current_count b) (λ at w. ok (BrokenLayout at) (inr (inl (t, inl w)))) i m))
      (λ m. let e : current_count b + (i - current_count b) ≡ i = omega arith in
      rw e at (tariff_code (current_count b) (next_count b) (λ at w. ok (BrokenLayout at) (inr (inl (t, inr w)))) (i - current_count b)
      (omega arith)))
      (cases_lt i (current_count b))

  use_code_add_on : byte b 2 ≡ 2 → (i : ℕ) → i < entry_count b → byte b (term_offset b i) ≤ 4
  use_code_add_on t i l =
      let one : current_count b ≡ 1 = same _ _ (λ ne. header_kept 0 (inl (refl, inr (t, ne)))) in
      let none : next_count b ≡ 0 = same _ _ (λ ne. header_kept 1 (inr (inl (refl, inr (t, ne))))) in
      let only : i ≡ 0 = omega arith in
      let four : byte b (term_offset b 0) ≡ 4 = same _ _ (λ ne. ok (BrokenLayout _) (inr (inr (t, refl, ne)))) in
      rw only (omega arith)

  -- each use has a code
  pub use_code : (i : ℕ) → i < entry_count b → byte b (term_offset b i) ≤ 4
  use_code =
      ⊎_elim use_code_tariff (λ other. use_code_add_on (by_kind taken kind_is other)) (cases_eq (byte b 2) 1)
