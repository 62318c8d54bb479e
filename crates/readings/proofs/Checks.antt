-- Each check finds the first offset with a ground, where there is one.
use Rattle.std.proofs.Common.{◌≡◌, ℕ, ◌+◌, min, Bool, false, cond, not, ◌&&◌, eqb, ltb, List, length, Some, None, Decides, Option, refl, inl, inr, arith}
use Rattle.std.proofs.lemmas.Bool.{cond_both, eqb-true, eqb-false, ltb-true, ltb-false, not-true, not_from_false}
use Rattle.std.proofs.lemmas.Bool.Decides.{nat_tests, Decides-eqb, Decides-and, Decides-or, Decides-not, not_from_Decides}
use Rattle.indication.specs.declared.header.Kind.{Kind}
use Rattle.indication.specs.Codes.{kind_code}
use Rattle.indication.specs.Format.{byte, current_count, next_count, entry_count, full_length, charge_offset, term_offset, charge_at, term_at}
use Rattle.indication.specs.Rules.{First, WrongLengthAt, WrongCount, WrongFlag, WrongQuarter, IsTariff, IsAddOn, IsEmpty, BrokenHeader, BrokenUse, MisusedAt, AllowedAt, DisallowedAt, InOrder, uses_from}
use Rattle.reader.proofs.Misuses.{found, left_to_next}
use Rattle.reader.proofs.Refusals.{in_header}
use Rattle.units.specs.Meanings.{Meaning, admitted}
use Rattle.units.specs.Admission.{NotAdmittedAt}
use Rattle.readings.specs.Checks.{either, wrong_length, wrong_count, wrong_flag, wrong_quarter, wrong_header, broken_header, is_tariff, is_add_on, is_empty, misused, broken_use, allowed_at, disallowed, not_admitted}
use Rattle.readings.proofs.Firsts.{first_like, first_wrong_found}
use Rattle.readings.proofs.Ordered.{decides_in_order}

pub length_first : (b : List ℕ) → First (WrongLengthAt b) (wrong_length b)
length_first b =
    cond_both (ltb (length b) 24) (Some (length b)) _ (First (WrongLengthAt b))
    (λ short. let l = ltb-true (length b) 24 short in (inl (l, refl), λ o w. grind arith))
    (λ long. let l = ltb-false (length b) 24 long in
    cond_both (eqb (length b) (full_length b)) None (Some (min (length b) (full_length b))) (First (WrongLengthAt b))
    (λ right. let e = eqb-true (length b) (full_length b) right in λ o w. grind arith)
    (λ other. let n = eqb-false (length b) (full_length b) other in (inr (l, n, refl), λ o w. grind arith)))

-- the tests of the header's bytes tell what the rules say of them
decides_count :
    {P : Type 0} (add_on : Bool) (wanted count : ℕ) → Decides add_on P
    → Decides (wrong_count add_on wanted count) (WrongCount P wanted count)
decides_count add_on wanted count d = (λ h. grind (arith, nat_tests, d.0), λ h. grind (arith, nat_tests, d.1))

decides_flag : {P : Type 0} (idle : Bool) (flag : ℕ) → Decides idle P → Decides (wrong_flag idle flag) (WrongFlag P flag)
decides_flag idle flag d = (λ h. grind (arith, nat_tests, d.0), λ h. grind (arith, nat_tests, d.1))

decides_quarter : (count quarter : ℕ) → Decides (wrong_quarter count quarter) (WrongQuarter count quarter)
decides_quarter count quarter = (λ h. grind (arith, nat_tests), λ h. grind (arith, nat_tests))

-- a test of the byte at one offset
at_offset : {P : Type 0} (at k : ℕ) (r : Bool) → Decides r P → Decides (eqb at k && r) ((at ≡ k) × P)
at_offset at k r d = Decides-and (eqb at k) r (Decides-eqb at k) d

decides_header : (taken : Kind) (b : List ℕ) (at : ℕ) → Decides (wrong_header taken b at) (BrokenHeader taken b at)
decides_header taken b at =
    let add_on : Decides (is_add_on b) (IsAddOn b) = Decides-eqb (byte b 2) 2 in
    let none : (n : ℕ) → Decides (eqb n 0) (n ≡ 0) = λ n. Decides-eqb n 0 in
    Decides-or _ _ (at_offset at 0 _ (decides_count (is_add_on b) 1 (current_count b) add_on))
    (Decides-or _ _ (at_offset at 1 _ (decides_count (is_add_on b) 0 (next_count b) add_on))
    (Decides-or _ _ (at_offset at 2 _ (Decides-not _ (Decides-eqb (byte b 2) (kind_code taken))))
    (Decides-or _ _ (at_offset at 3 _ (decides_flag (is_add_on b) (byte b 3) add_on))
    (Decides-or _ _ (at_offset at 4 _ (decides_flag _ (byte b 4) (Decides-or (is_add_on b) _ add_on (none (current_count b)))))
    (Decides-or _ _ (at_offset at 5 _ (decides_flag _ (byte b 5) (none (next_count b))))
    (Decides-or _ _ (at_offset at 6 _ (decides_quarter (next_count b) (byte b 6)))
    (at_offset at 11 _ (Decides-not _ (none (byte b 11))))))))))

pub header_first : (taken : Kind) (b : List ℕ) → First (BrokenHeader taken b) (broken_header taken b)
header_first taken b =
    first_like _ (BrokenHeader taken b) (broken_header taken b) (λ at (i, l, is, w). rw is w)
    (λ at w. (at, omega (arith, in_header taken b at w), refl, w))
    (first_wrong_found (wrong_header taken b) (BrokenHeader taken b) (decides_header taken b) (λ at. at) (λ i j l. l) 12)

misused_first : (b : List ℕ) (first n : ℕ) → First (MisusedAt b first n) (misused b first n)
misused_first b first =
    first_wrong_found _ (λ k. InOrder (uses_from b first) (k + 1) → ⊥)
    (λ k. Decides-not _ (decides_in_order (uses_from b first) (k + 1)))
    (λ k. term_offset b (first + k)) (λ i j l. omega arith)

-- the uses of a tariff indication, and of any other
tariff_use :
    (b : List ℕ) (r s : Option ℕ) → IsTariff b → First (MisusedAt b 0 (current_count b)) r
    → First (MisusedAt b (current_count b) (next_count b)) s → First (BrokenUse b) (either r s)
tariff_use b (Some at) s t h _ = found b (byte b 2) (current_count b) at t refl refl h
tariff_use b None s t none h = left_to_next b (byte b 2) (current_count b) (next_count b) s t refl refl refl none h

-- a use that breaks the layout of no tariff is that of an add-on
only :
    (b : List ℕ) (at : ℕ) → (IsTariff b → ⊥) → BrokenUse b at
    → IsAddOn b × (at ≡ term_offset b 0) × (byte b (term_offset b 0) ≡ 4 → ⊥)
only b at n (inl (t, _)) = absurd (n t)
only b at n (inr w) = w

add_on_use :
    (b : List ℕ) → (IsTariff b → ⊥)
    → First (BrokenUse b) (cond (is_add_on b && not (eqb (byte b (term_offset b 0)) 4)) (Some (term_offset b 0)) None)
add_on_use b n =
    let d = Decides-and (is_add_on b) _ (Decides-eqb (byte b 2) 2) (Decides-not _ (Decides-eqb (byte b (term_offset b 0)) 4)) in
    cond_both _ (Some (term_offset b 0)) None (First (BrokenUse b))
    (λ wrong. let w = d.0 wrong in (inr (w.0, refl, w.1), λ o v. omega (arith, (only b o n v).1)))
    (λ right o v. let w = only b o n v in not_from_Decides _ d right (w.0, w.2))

pub use_first : (b : List ℕ) → First (BrokenUse b) (broken_use b)
use_first b =
    cond_both (is_tariff b) _ _ (First (BrokenUse b))
    (λ t. tariff_use b _ _ (eqb-true (byte b 2) 1 t) (misused_first b 0 (current_count b))
    (misused_first b (current_count b) (next_count b)))
    (λ n. add_on_use b (eqb-false (byte b 2) 1 n))

pub decides_empty : (b : List ℕ) → Decides (is_empty b) (IsEmpty b)
decides_empty b = Decides-and (is_tariff b) _ (Decides-eqb (byte b 2) 1) (Decides-eqb (entry_count b) 0)

decides_allowed_at : (b : List ℕ) (i : ℕ) → Decides (allowed_at b i) (AllowedAt b i)
decides_allowed_at b i = (λ h. grind (arith, nat_tests), λ h. grind (arith, nat_tests))

pub duration_first : (b : List ℕ) → First (DisallowedAt b) (disallowed b)
duration_first b =
    first_wrong_found _ (λ i. AllowedAt b i → ⊥) (λ i. Decides-not _ (decides_allowed_at b i)) (λ i. term_offset b i + 1)
    (λ i j l. omega arith) (entry_count b)

pub charge_first : (m : Meaning) (b : List ℕ) → First (NotAdmittedAt m b) (not_admitted m b)
charge_first m b =
    first_wrong_found _ (λ i. admitted m (charge_at b i) (term_at b i).usage ≡ false) (λ i. (not-true _, not_from_false _))
    charge_offset (λ i j l. omega arith) (entry_count b)
