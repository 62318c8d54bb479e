-- The refusal that comes first, with the unit's grounds beside the reader's.
use Rattle.std.proofs.Common.{◌≡◌, ℕ, ◌+◌, ◌*◌, ◌<◌, ◌≤◌, true, false, ◌⊎◌, List, Some, None, Option, refl, inl, inr, ⊎_elim, arith}
use Rattle.std.proofs.lemmas.Bool.Decides.{nat_tests}
use Rattle.std.specs.Option.{MatchOption, IsSomeAnd}
use Rattle.std.proofs.lemmas.Bool.{both_ways}
use Rattle.indication.specs.declared.header.Kind.{Kind}
use Rattle.indication.specs.declared.fault.Fault.{Fault}
use Rattle.indication.specs.declared.fault.Fault.TheVariants.{WrongLength, BrokenLayout, EmptyTariff, WrongDuration, ForeignMark, NotAdmitted, NoRoom, TooManyIndications, AddOnBeforeTariff, NoCurrentTariff, TooManyNetworks, PastLimit}
use Rattle.indication.specs.Faults.{number_of}
use Rattle.indication.specs.Format.{entry_count, header_of}
use Rattle.indication.specs.Rules.{First, Grounds, Precedes, Foremost, Groundless, Refused, Accepted}
use Rattle.indication.proofs.Grounded.{grounded_all}
use Rattle.units.specs.Meanings.{Meaning}
use Rattle.units.specs.Admission.{UnitGrounds, NotAdmittedAt, admits_at}

-- the first charge that is not admitted, from the first entry that the unit does not admit
pub first_charge :
    (m : Meaning) (b : List ℕ) (n : ℕ) (found r : Option ℕ)
    → MatchOption found ((i : ℕ) → i < n → admits_at m b i ≡ true) (λ x. (admits_at m b x ≡ false) × (x < n) × ((i : ℕ) → i < x → admits_at m b i ≡ true))
    → n ≡ entry_count b
    → MatchOption found (r ≡ None) (λ i. IsSomeAnd r (λ at. at ≡ 24 + 6 * i))
    → First (NotAdmittedAt m b) r
first_charge m b n None r all count none = rw none (λ at (i, l, at_is, wrong). grind (arith, nat_tests, all i))
first_charge m b n (Some x) None first count is = absurd is
first_charge m b n (Some x) (Some at) first count is = (
  (x, grind arith, is, grind (arith, nat_tests)),
  λ other (i, l, at_is, wrong). grind (arith, nat_tests, first.2 i),
)

module _ (m : Meaning) (taken : Kind) (b : List ℕ) where
  -- what holds of every refusal with a ground, from what holds of the reader's and of the unit's
  unit_grounded_all :
      (P : Fault → Type 0) → ((f : Fault) → Grounds taken b f → P f)
      → (m.owns (header_of b).mark ≡ false → P ForeignMark)
      → ((at : ℕ) → NotAdmittedAt m b at → P (NotAdmitted at))
      → (f : Fault) → UnitGrounds m taken b f → P f
  unit_grounded_all P reader mark charge (WrongLength at) w = reader (WrongLength at) w
  unit_grounded_all P reader mark charge (BrokenLayout at) w = reader (BrokenLayout at) w
  unit_grounded_all P reader mark charge EmptyTariff w = reader EmptyTariff w
  unit_grounded_all P reader mark charge (WrongDuration at) w = reader (WrongDuration at) w
  unit_grounded_all P reader mark charge ForeignMark w = mark w
  unit_grounded_all P reader mark charge (NotAdmitted at) w = charge at w
  unit_grounded_all P reader mark charge (NoRoom needed) w = elim w [ ]
  unit_grounded_all P reader mark charge TooManyIndications w = elim w [ ]
  unit_grounded_all P reader mark charge AddOnBeforeTariff w = elim w [ ]
  unit_grounded_all P reader mark charge NoCurrentTariff w = elim w [ ]
  unit_grounded_all P reader mark charge TooManyNetworks w = elim w [ ]
  unit_grounded_all P reader mark charge (PastLimit left) w = elim w [ ]

  -- the reader's grounds are among them, with the smaller numbers
  reader_ground : (f : Fault) → Grounds taken b f → UnitGrounds m taken b f × (number_of f < 5)
  reader_ground =
      grounded_all taken b (λ f. UnitGrounds m taken b f × (number_of f < 5)) (λ at w. (w, omega arith))
      (λ at w. (inl w, omega arith))
      (λ at w. (inr w, omega arith))
      (λ w. (w, omega arith))
      (λ at w. (w, omega arith))

  whose : (g : Fault) → UnitGrounds m taken b g → Grounds taken b g ⊎ (5 ≤ number_of g)
  whose =
      unit_grounded_all (λ g. Grounds taken b g ⊎ (5 ≤ number_of g)) (λ g w. inl w) (λ w. inr (omega arith))
      (λ at w. inr (omega arith))

  pub reader_refused : (f : Fault) → Refused taken b f → Foremost (UnitGrounds m taken b) f
  reader_refused f r =
      let g = reader_ground f r.grounded in
      record { grounded = g.0; first = λ h w. ⊎_elim (r.first h) (λ n. inl (omega (arith, g.1))) (whose h w) }

  module _ (ok : Accepted taken b) where
    pub mark_refused : m.owns (header_of b).mark ≡ false → Foremost (UnitGrounds m taken b) ForeignMark
    mark_refused h = record {
      grounded = h;
      first = unit_grounded_all (Precedes ForeignMark) (λ g w. absurd (ok g w)) (λ w. inr (refl, omega arith))
          (λ at w. inl (omega arith));
    }

    module _ (own : m.owns (header_of b).mark ≡ true) where
      pub charge_refused : (at : ℕ) → First (NotAdmittedAt m b) (Some at) → Foremost (UnitGrounds m taken b) (NotAdmitted at)
      charge_refused at h = record {
        grounded = h.0;
        first = unit_grounded_all (Precedes (NotAdmitted at)) (λ g w. absurd (ok g w)) (λ w. absurd (both_ways _ w own))
            (λ x w. inr (refl, h.1 x w));
      }

      pub unit_accepted : First (NotAdmittedAt m b) None → Groundless (UnitGrounds m taken b)
      unit_accepted h = unit_grounded_all (λ _. ⊥) ok (λ w. both_ways _ w own) h
