-- The refusal that comes first, with the call's grounds beside those of reader and unit.
use Rattle.std.proofs.Common.{◌≡◌, ℕ, ◌<◌, ◌≤◌, not, ◌&&◌, eqb, ◌⊎◌, List, Some, None, Option, Result, sym, refl, ap, ◌∙◌, inl, inr, ⊎_elim, arith, MatchResult}
use Rattle.std.specs.Option.{ok_or}
use Rattle.std.proofs.lemmas.Option.{none-some}
use Rattle.std.proofs.lemmas.Bool.{and_from, and_parts, both_ways, cond_both, eq-eqb, eqb-true, leb-true, leb-false, not-true, not_from_false}
use Rattle.indication.specs.declared.header.Kind.{Kind}
use Rattle.indication.specs.declared.header.Kind.TheVariants.{Tariff, AddOn}
use Rattle.indication.specs.declared.fault.Fault.{Fault}
use Rattle.indication.specs.declared.fault.Fault.TheVariants.{WrongLength, BrokenLayout, EmptyTariff, WrongDuration, ForeignMark, NotAdmitted, NoRoom, TooManyIndications, AddOnBeforeTariff, NoCurrentTariff, TooManyNetworks, PastLimit}
use Rattle.indication.specs.Codes.{kind_code}
use Rattle.indication.specs.Faults.{number_of}
use Rattle.indication.specs.Format.{current_count, header_of}
use Rattle.indication.specs.Rules.{Foremost, Groundless, Precedes}
use Rattle.units.specs.Meanings.{Meaning}
use Rattle.units.specs.Admission.{UnitGrounds}
use Rattle.record.specs.declared.call.Call.{Call}
use Rattle.record.specs.Calls.{is_seated, seat_of}
use Rattle.record.specs.Refusals.{CallGrounds, IsStranger}
use Rattle.record.specs.Seats.{is_full, seat_for, seat_with_room}
use Rattle.record.proofs.Seated.{no_seat}

pub two_kinds : Tariff ≡ AddOn → ⊥
two_kinds e = omega (arith, ap kind_code e)

module _ (m : Meaning) (call : Call) (taken : Kind) (b : List ℕ) where
  abbrev NoSeat : Type 0
  NoSeat = seat_of (header_of b).network call.operators ≡ None

  -- what holds of every refusal with a ground, from what holds of the unit's and of the call's
  pub grounded_all :
      (P : Fault → Type 0) → ((f : Fault) → UnitGrounds m taken b f → P f)
      → (512 ≤ call.accepted → P TooManyIndications)
      → (taken ≡ AddOn → IsStranger call b → P AddOnBeforeTariff)
      → (taken ≡ Tariff → IsStranger call b → current_count b ≡ 0 → P NoCurrentTariff)
      → (taken ≡ Tariff → NoSeat → P TooManyNetworks)
      → (f : Fault) → CallGrounds m call taken b f → P f
  grounded_all P unit many early absent fifth (WrongLength at) w = unit (WrongLength at) w
  grounded_all P unit many early absent fifth (BrokenLayout at) w = unit (BrokenLayout at) w
  grounded_all P unit many early absent fifth EmptyTariff w = unit EmptyTariff w
  grounded_all P unit many early absent fifth (WrongDuration at) w = unit (WrongDuration at) w
  grounded_all P unit many early absent fifth ForeignMark w = unit ForeignMark w
  grounded_all P unit many early absent fifth (NotAdmitted at) w = unit (NotAdmitted at) w
  grounded_all P unit many early absent fifth (NoRoom needed) w = elim w [ ]
  grounded_all P unit many early absent fifth TooManyIndications w = many w
  grounded_all P unit many early absent fifth AddOnBeforeTariff w = early w.0 w.1
  grounded_all P unit many early absent fifth NoCurrentTariff w = absent w.0 w.1 w.2
  grounded_all P unit many early absent fifth TooManyNetworks w = fifth w.0 w.1
  grounded_all P unit many early absent fifth (PastLimit left) w = elim w [ ]

  -- the unit's grounds are among them, with the smaller numbers
  pub unit_ground : (f : Fault) → UnitGrounds m taken b f → CallGrounds m call taken b f × (number_of f < 11)
  unit_ground (WrongLength at) w = (w, omega arith)
  unit_ground (BrokenLayout at) w = (w, omega arith)
  unit_ground EmptyTariff w = (w, omega arith)
  unit_ground (WrongDuration at) w = (w, omega arith)
  unit_ground ForeignMark w = (w, omega arith)
  unit_ground (NotAdmitted at) w = (w, omega arith)
  unit_ground (NoRoom needed) w = elim w [ ]
  unit_ground TooManyIndications w = elim w [ ]
  unit_ground AddOnBeforeTariff w = elim w [ ]
  unit_ground NoCurrentTariff w = elim w [ ]
  unit_ground TooManyNetworks w = elim w [ ]
  unit_ground (PastLimit left) w = elim w [ ]

  whose : (f : Fault) → CallGrounds m call taken b f → UnitGrounds m taken b f ⊎ (11 ≤ number_of f)
  whose =
      grounded_all (λ f. UnitGrounds m taken b f ⊎ (11 ≤ number_of f)) (λ f w. inl w) (λ _. inr (omega arith)) (λ _ _. inr (omega arith))
      (λ _ _ _. inr (omega arith))
      (λ _ _. inr (omega arith))

  -- what reader or unit refuses, the call refuses
  pub unit_refused : (f : Fault) → Foremost (UnitGrounds m taken b) f → Foremost (CallGrounds m call taken b) f
  unit_refused f r =
      let own = unit_ground f r.grounded in
      record { grounded = own.0; first = λ g w. ⊎_elim (r.first g) (λ n. inl (omega (arith, own.1))) (whose g w) }

  module _ (ok : Groundless (UnitGrounds m taken b)) where
    full_refused : 512 ≤ call.accepted → Foremost (CallGrounds m call taken b) TooManyIndications
    full_refused full = record {
      grounded = full;
      first = grounded_all (Precedes TooManyIndications) (λ g w. absurd (ok g w)) (λ _. inr (refl, omega arith)) (λ _ _. inl (omega arith))
          (λ _ _ _. inl (omega arith))
          (λ _ _. inl (omega arith));
    }

-- what a search for a seat answers: the seat, where there is no ground for a refusal, or the foremost refusal
abbrev pub Finds : Meaning → Call → Kind → List ℕ → Result ℕ Fault → Type 0
Finds m call taken b r =
    MatchResult r (λ i. Groundless (CallGrounds m call taken b) × (call.accepted < 512) × (Some i ≡ seat_of (header_of b).network call.operators))
    (λ f. Foremost (CallGrounds m call taken b) f)

module _ (m : Meaning) (call : Call) (taken : Kind) (b : List ℕ) (ok : Groundless (UnitGrounds m taken b)) (room : call.accepted < 512) where
  -- the seat, where the network has one or may begin
  by_seat :
      (taken ≡ AddOn → IsStranger call b → ⊥) → (taken ≡ Tariff → IsStranger call b → current_count b ≡ 0 → ⊥)
      → (NoSeat m call taken b → taken ≡ Tariff)
      → (o : Option ℕ) → o ≡ seat_of (header_of b).network call.operators → Finds m call taken b (ok_or o TooManyNetworks)
  by_seat early absent fifth None e = record {
    grounded = (fifth (sym e), sym e);
    first = grounded_all m call taken b (Precedes TooManyNetworks) (λ g w. absurd (ok g w)) (λ full. absurd (omega arith))
        (λ k s. absurd (early k s))
        (λ k s a. absurd (absent k s a))
        (λ _ _. inr (refl, omega arith));
  }
  by_seat early absent fifth (Some i) e = (
    grounded_all m call taken b (λ _. ⊥) ok (λ full. omega arith) early absent
        (λ _ none. none-some i (sym (e ∙ none))),
    room,
    e,
  )

module _ (m : Meaning) (call : Call) (b : List ℕ) (room : call.accepted < 512) where
  found_with_room :
      (taken : Kind) → Groundless (UnitGrounds m taken b)
      → Finds m call taken b (seat_with_room call taken (header_of b).network (current_count b))
  found_with_room Tariff ok =
      cond_both (eqb (current_count b) 0 && not (is_seated (header_of b).network call.operators)) _ _ (Finds m call Tariff b)
      (λ e.
      let p = and_parts (eqb (current_count b) 0) _ e in
      record {
        grounded = (refl, not-true _ p.1, eqb-true _ _ p.0);
        first = grounded_all m call Tariff b (Precedes NoCurrentTariff) (λ g w. absurd (ok g w)) (λ full. absurd (omega arith))
            (λ k _. absurd (two_kinds k))
            (λ _ _ _. inr (refl, omega arith))
            (λ _ _. inl (omega arith));
      })
      (λ e.
      by_seat m call Tariff b ok room (λ k _. two_kinds k)
      (λ _ s a. both_ways _ e (and_from (eqb (current_count b) 0) _ (eq-eqb _ _ a) (not_from_false _ s)))
      (λ _. refl)
      (seat_of (header_of b).network call.operators)
      refl)
  found_with_room AddOn ok =
      cond_both (is_seated (header_of b).network call.operators) _ _ (Finds m call AddOn b)
      (λ known.
      by_seat m call AddOn b ok room (λ _ s. both_ways _ s known) (λ k _ _. two_kinds (sym k))
      (λ none. absurd (both_ways _ (no_seat (header_of b).network call.operators (sym none)) known))
      (seat_of (header_of b).network call.operators)
      refl)
      (λ stranger. record {
        grounded = (refl, stranger);
        first = grounded_all m call AddOn b (Precedes AddOnBeforeTariff) (λ g w. absurd (ok g w)) (λ full. absurd (omega arith))
            (λ _ _. inr (refl, omega arith))
            (λ _ _ _. inl (omega arith))
            (λ _ _. inl (omega arith));
      })

pub finds_seat :
    (m : Meaning) (call : Call) (taken : Kind) (b : List ℕ) → Groundless (UnitGrounds m taken b)
    → Finds m call taken b (seat_for call taken (header_of b).network (current_count b))
finds_seat m call taken b ok =
    cond_both (is_full call) _ _ (Finds m call taken b) (λ e. full_refused m call taken b ok (leb-true _ _ e))
    (λ free. found_with_room m call b (leb-false _ _ free) taken ok)
