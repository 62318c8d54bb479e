-- The refusals of the record are those of the journal.
use Rattle.std.proofs.Common.{◌≡◌, ℕ, zero, suc, ◌+◌, ◌<◌, ◌≤◌, true, false, leb, List, map, length, take, is_some, Some, None, Option, sym, refl, ◌∙◌, inl, inr, ⊎_elim, arith}
use Rattle.std.specs.List.{range_with_len, AllByRecursion}
use Rattle.std.proofs.ByRecursion.{All-append, All-take, All-map}
use Rattle.std.proofs.lemmas.Bool.{both_ways, cond_both, cases_Bool, leb-true, leb-false}
use Rattle.indication.specs.declared.header.Kind.{Kind}
use Rattle.indication.specs.declared.header.Kind.TheVariants.{Tariff, AddOn}
use Rattle.indication.specs.declared.header.TariffControl.{TariffControl}
use Rattle.indication.specs.declared.fault.Fault.{Fault}
use Rattle.indication.specs.declared.fault.Fault.TheVariants.{NotAdmitted, TooManyIndications, AddOnBeforeTariff, NoCurrentTariff, TooManyNetworks}
use Rattle.indication.specs.Format.{current_count, next_count, entry_count, charge_offset, entry_at, header_of, decoded}
use Rattle.indication.specs.Rules.{Precedes, Groundless}
use Rattle.units.specs.Meanings.{Meaning}
use Rattle.units.specs.Admission.{UnitGrounds}
use Rattle.readings.specs.Readings.{Reading, refused, says, Reads, reading}
use Rattle.readings.proofs.Right.{reading_right, reads_computed}
use Rattle.record.specs.declared.call.Call.{Call}
use Rattle.record.specs.Operators.{tariff_in, current_tariff}
use Rattle.record.specs.Refusals.{IsStranger, CallGrounds}
use Rattle.record.proofs.Grounds.{unit_refused}
use Rattle.account.specs.Journals.{Past, accepted_in, is_known, networks}
use Rattle.account.specs.Answers.{is_full, tariff_refusal, add_on_refusal, refusal}
use Rattle.hearing.specs.Hearing.{Shows, bringing, RefusalsAreHeard, EntryAdmitted, ContentAdmitted, WhatIsSaidIsAdmitted}
use Rattle.hearing.proofs.Grounded.{Hears, hears_unique, unit_taken, tariff_grounded_all, add_on_grounded_all}

-- what the bytes say has no current tariff just where they count no entry of it
absent :
    (b : List ℕ) (control : TariffControl) (a n : ℕ)
    → is_some (tariff_in control (take 6 (map (entry_at b) (range_with_len a n)))) ≡ false → n ≡ 0
absent b control a zero e = refl
absent b control a (suc n) e = absurd (both_ways _ e refl)

present :
    (b : List ℕ) (control : TariffControl) (a n : ℕ)
    → is_some (tariff_in control (take 6 (map (entry_at b) (range_with_len a n)))) ≡ true → n ≡ 0 → ⊥
present b control a zero e none = both_ways _ refl e
present b control a (suc n) e none = omega arith

module _ (m : Meaning) (call : Call) (p : Past) (b : List ℕ) (shows : Shows call p) where
  -- the count is full in both, or in none
  full : is_full p.journal ≡ true → 512 ≤ call.accepted
  full e = omega (arith, leb-true 512 (accepted_in p.journal) e, shows.count)

  not_full : is_full p.journal ≡ false → 512 ≤ call.accepted → ⊥
  not_full e w = omega (arith, leb-false 512 (accepted_in p.journal) e, shows.count)

  -- a network that the journal knows is no stranger to the record
  seated : is_known (header_of b).network p.journal ≡ true → IsStranger call b → ⊥
  seated e w = both_ways _ w (shows.known (header_of b).network ∙ e)

  -- the journal's refusal of a tariff indication that the unit takes is the one that the record's grounds ask for
  tariff_says :
      Groundless (UnitGrounds m Tariff b) → Hears (CallGrounds m call Tariff b) (tariff_refusal p.journal (decoded b))
  tariff_says ok =
      let H = Hears (CallGrounds m call Tariff b) in
      cond_both (is_full p.journal) (Some TooManyIndications) _ H
      (λ f. record {
        grounded = full f;
        first = tariff_grounded_all m call b (Precedes TooManyIndications) ok (λ w. inr (refl, omega arith))
            (λ w none. inl (omega arith))
            (λ w. inl (omega arith));
      })
      (λ f. cond_both (is_known (header_of b).network p.journal) None _ H
      (λ k. tariff_grounded_all m call b (λ _. ⊥) ok (not_full f) (λ w none. seated k w)
      (λ w. both_ways _ (shows.no_seat _ w).0 k))
      (λ k. cond_both (is_some (current_tariff (decoded b))) _ (Some NoCurrentTariff) H
      (λ some. cond_both (leb 4 (length (networks p.journal))) (Some TooManyNetworks) None H
      (λ four. record {
        grounded = (refl, shows.seat _ k (leb-true 4 _ four));
        first = tariff_grounded_all m call b (Precedes TooManyNetworks) ok (λ w. absurd (not_full f w))
            (λ w none. absurd (present b _ 0 (current_count b) some none))
            (λ w. inr (refl, omega arith));
      })
      (λ fewer. tariff_grounded_all m call b (λ _. ⊥) ok (not_full f) (λ w. present b _ 0 (current_count b) some)
      (λ w. omega (arith, (shows.no_seat _ w).1, leb-false 4 (length (networks p.journal)) fewer))))
      (λ none. record {
        grounded = (refl, shows.known _ ∙ k, absent b _ 0 (current_count b) none);
        first = tariff_grounded_all m call b (Precedes NoCurrentTariff) ok (λ w. absurd (not_full f w))
            (λ w _. inr (refl, omega arith))
            (λ w. inl (omega arith));
      })))

  -- so is that of an add-on that it takes
  add_on_says :
      Groundless (UnitGrounds m AddOn b) → Hears (CallGrounds m call AddOn b) (add_on_refusal p.journal (decoded b))
  add_on_says ok =
      let H = Hears (CallGrounds m call AddOn b) in
      cond_both (is_full p.journal) (Some TooManyIndications) _ H
      (λ f. record {
        grounded = full f;
        first = add_on_grounded_all m call b (Precedes TooManyIndications) ok (λ w. inr (refl, omega arith))
            (λ w. inl (omega arith));
      })
      (λ f. cond_both (is_known (header_of b).network p.journal) None (Some AddOnBeforeTariff) H
      (λ k. add_on_grounded_all m call b (λ _. ⊥) ok (not_full f) (seated k))
      (λ k. record {
        grounded = (refl, shows.known _ ∙ k);
        first = add_on_grounded_all m call b (Precedes AddOnBeforeTariff) ok (λ w. absurd (not_full f w))
            (λ w. inr (refl, omega arith));
      }))

  -- so is that of any indication, whatever it is read as
  hears :
      (taken : Kind) (r : Reading) → Reads m taken b r
      → Hears (CallGrounds m call taken b) (refusal p (bringing taken r))
  hears Tariff (refused f) h = unit_refused m call Tariff b f h
  hears Tariff (says c) (ok, is) = rw is (tariff_says ok)
  hears AddOn (refused f) h = unit_refused m call AddOn b f h
  hears AddOn (says c) (ok, is) = rw is (add_on_says ok)

  -- they ask for no other
  as_heard :
      (taken : Kind) (r : Option Fault) → Hears (CallGrounds m call taken b) r
      → refusal p (bringing taken (reading m taken b)) ≡ r
  as_heard taken r h = hears_unique _ _ r (hears taken (reading m taken b) (reading_right m taken b)) h

pub refusals_heard : RefusalsAreHeard
refusals_heard m call p taken b shows = (
  λ f h. as_heard m call p b shows taken (Some f) h,
  λ h. (
    sym (reads_computed m taken b (says (decoded b)) (unit_taken m call taken b h, refl)),
    as_heard m call p b shows taken None h,
  ),
)

-- what holds of each of n numbers from a on
all_counting : (P : ℕ → Type 0) (a n : ℕ) → ((i : ℕ) → i < a + n → P i) → AllByRecursion P (range_with_len a n)
all_counting P a zero h = tt
all_counting P a (suc n) h = (h a (omega arith), all_counting P (a + 1) n (λ i l. h i (omega arith)))

-- the charges of bytes that the unit takes
module _ (m : Meaning) (taken : Kind) (b : List ℕ) (ok : Groundless (UnitGrounds m taken b)) where
  entry_admitted : (i : ℕ) → i < entry_count b → EntryAdmitted m (entry_at b i)
  entry_admitted i l =
      ⊎_elim (λ e. e) (λ e. absurd (ok (NotAdmitted (charge_offset i)) (i, l, refl, e))) (cases_Bool _)

  entries_admitted :
      (a n : ℕ) → a + n ≤ entry_count b → AllByRecursion (EntryAdmitted m) (take 6 (map (entry_at b) (range_with_len a n)))
  entries_admitted a n l =
      All-take (EntryAdmitted m) 6 _ (All-map (EntryAdmitted m) (entry_at b) (range_with_len a n)
      (all_counting _ a n (λ i k. entry_admitted i (omega arith))))

  decoded_admitted : ContentAdmitted m (decoded b)
  decoded_admitted =
      All-append (EntryAdmitted m) _ _ (entries_admitted 0 (current_count b) (omega arith))
      (entries_admitted (current_count b) (next_count b) (omega arith))

pub said_admitted : WhatIsSaidIsAdmitted
said_admitted m taken b c e =
    let h : Reads m taken b (says c) = rw e at (reading_right m taken b) in
    rw h.1 (decoded_admitted m taken b h.0)
