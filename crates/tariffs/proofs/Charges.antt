-- What a tariff charges, from one pass or from rounds of its sequence, and how much it is at most.
use Rattle.std.proofs.Common.{◌≡◌, ℕ, ◌+◌, ◌*◌, ◌%◌, ◌<◌, ◌≤◌, Bool, true, false, cond, eqb, leb, List, [], ◌∷◌, is_some, Some, None, Option, sym, refl, ap, ◌∙◌, subst, ⊎_elim, arith}
use Rattle.std.specs.List.{AllByRecursion}
use Rattle.std.proofs.lemmas.Nat.{mul-le}
use Rattle.std.proofs.lemmas.Bool.{and_parts, leb-true, cond_both, cond-true, cond-false, cases_Bool}
use Rattle.std.proofs.lemmas.Bool.Decides.{nat_tests}
use Rattle.units.specs.Meanings.{Meaning, Sound, admitted, lasting}
use Rattle.tariffs.specs.declared.tariff.Charging.{Charging}
use Rattle.tariffs.specs.declared.tariff.Charging.TheVariants.{Periodic, OneTime}
use Rattle.tariffs.specs.declared.tariff.Subtariff.{Subtariff}
use Rattle.tariffs.specs.declared.tariff.Tariff.{Tariff}
use Rattle.tariffs.specs.declared.rounds.InRounds.{InRounds}
use Rattle.tariffs.specs.Sequences.{Admitted, Priced, charged, charged_at, lasts, recurs, round_length, sequence, sum, taken_by, usage_of, within}
use Rattle.tariffs.specs.Stretches.{Prices, Splits, round_of, taken_over}
use Rattle.tariffs.proofs.Sums.{sum_bound, rounds}

-- a sequence that begins again has a round of some seconds
no_round : (t : Tariff) → round_of t ≡ 0 → recurs t ≡ false
no_round t e = grind (arith, nat_tests)

module _ (m : Meaning) (t : Tariff) (p n : ℕ) where
  charged_by : (b : Bool) → recurs t ≡ b → sum (λ k. within m (sequence t) (cond b ((p + k) % round_length (sequence t)) (p + k))) n ≡ charged m t p n
  charged_by b e = ap (λ c. sum (λ k. within m (sequence t) (cond c ((p + k) % round_length (sequence t)) (p + k))) n) (sym e)

  pub charged_once : round_of t ≡ 0 → taken_over m (sequence t) p n ≡ charged m t p n
  charged_once z = charged_by false (no_round t z)

  module _ (round : ℕ) (some : 0 < round) (is : round ≡ round_of t) where
    charged_again : sum (λ k. within m (sequence t) ((p + k) % round)) n ≡ charged m t p n
    charged_again =
        ⊎_elim (λ e. ap (λ r. sum (λ k. within m (sequence t) ((p + k) % r)) n) (is ∙ cond-true _ _ _ e) ∙ charged_by true e)
        (λ e. absurd (omega (arith, cond-false (recurs t) (round_length (sequence t)) 0 e))) (cases_Bool (recurs t))

    pub charged_in_rounds :
        (r : InRounds) → Splits round p n r
        → taken_over m (sequence t) r.at r.first
        + (r.whole * taken_over m (sequence t) 0 round + taken_over m (sequence t) 0 r.last)
        ≡ charged m t p n
    charged_in_rounds r s =
        rw (s.start, s.middle, s.end) (sym (rounds (within m (sequence t)) round p n r.first some s.front) ∙ charged_again)

-- what a second charges at most: 36,000 times 10^9
abbrev pub most : ℕ
most = 36000000000000

module _ (m : Meaning) (sound : Sound m) where
  lump_bound : (s : Subtariff) → m.lump s.charge s.duration ≤ 36000
  lump_bound s = ⊎_elim
      (λ e. omega (arith, sound.lump_high s.charge s.duration, leb-true s.duration 36000 (and_parts (leb 1 s.duration) _ e).1))
      (λ e. omega (arith, sound.lump_none s.charge s.duration e)) (cases_Bool (lasting s.duration))

  price_bound : (s : Subtariff) (c : Charging) → admitted m s.charge (usage_of c) ≡ true → m.price s.charge ≤ 1000000000
  price_bound s c e = leb-true _ _ (and_parts (m.fits s.charge (usage_of c)) _ e).1

  taken_bound : (s : Subtariff) (j : ℕ) (c : Charging) → admitted m s.charge (usage_of c) ≡ true → taken_by c m s j ≤ most
  taken_bound s j Periodic e =
      cond_both (m.ticks s.charge j) _ _ (λ x. x ≤ most) (λ _. omega (arith, price_bound s Periodic e)) (λ _. omega arith)
  taken_bound s j OneTime e =
      cond_both (eqb j 0) _ _ (λ x. x ≤ most)
      (λ _. mul-le (m.price s.charge) (m.lump s.charge s.duration) 1000000000 36000 (price_bound s OneTime e) (lump_bound s)) (λ _. omega arith)

  pub within_bound : (ss : List Subtariff) (p : ℕ) → AllByRecursion (Admitted m) ss → within m ss p ≤ most
  within_bound [] p all = omega arith
  within_bound (s ∷ ss) p (one, all) =
      cond_both (lasts s p) _ _ (λ x. x ≤ most) (λ _. taken_bound s p s.charging one) (λ _. within_bound ss _ all)

  day_fits :
      (t : Tariff) (p n : ℕ) (r : Option ℕ) → Priced r (charged m t p n) → AllByRecursion (Admitted m) (sequence t) → n ≤ 86400 → is_some r ≡ true
  day_fits t p n (Some x) h all low = refl
  day_fits t p n None h all low =
      let each = sum_bound (λ k. charged_at m t (p + k)) most (λ k. within_bound (sequence t) _ all) n in
      absurd (h (omega (arith, mul-le n most 86400 most low (omega arith))))

  pub prices : (t : Tariff) (p n : ℕ) (r : Option ℕ) (x : ℕ) → x ≡ charged m t p n → Priced r x → Prices m t p n r
  prices t p n r x is h =
      let whole = subst (Priced r) is h in
      record { sum = whole; fits = day_fits t p n r whole }
