-- What is computed is what the rule asks, and the rule leaves no choice.
use Rattle.std.proofs.Common.{◌≡◌, ℕ, List, Some, None, Option, sym, refl, ap, ◌∙◌, inl, inr, arith}
use Rattle.std.proofs.lemmas.Bool.{cond_both}
use Rattle.std.proofs.lemmas.Bool.Decides.{not_from_Decides}
use Rattle.indication.specs.declared.header.Kind.{Kind}
use Rattle.indication.specs.declared.fault.Fault.{Fault}
use Rattle.indication.specs.declared.fault.Fault.TheVariants.{WrongLength, BrokenLayout, EmptyTariff, WrongDuration, ForeignMark, NotAdmitted}
use Rattle.indication.specs.Format.{header_of}
use Rattle.indication.specs.Rules.{First, WrongLengthAt, BrokenHeader, BrokenUse, DisallowedAt, Precedes, Refused, Accepted}
use Rattle.indication.proofs.Faults.{same_fault}
use Rattle.indication.proofs.Grounded.{grounded_all}
use Rattle.reader.proofs.Refusals.{header_refused, use_refused, empty_refused, duration_refused, accepted}
use Rattle.units.specs.Meanings.{Meaning}
use Rattle.units.specs.Admission.{NotAdmittedAt}
use Rattle.units.proofs.Grounded.{reader_refused, mark_refused, charge_refused, unit_accepted}
use Rattle.readings.specs.Checks.{wrong_length, broken_header, broken_use, is_empty, disallowed, not_admitted}
use Rattle.readings.specs.Readings.{Reading, refused, says, Reads, refused_at, unit_reading, reading}
use Rattle.readings.proofs.Checks.{length_first, header_first, use_first, decides_empty, duration_first, charge_first}

-- a check that finds something decides; one that finds nothing hands on
checked :
    (R : Reading → Type 0) (P : ℕ → Type 0) (fault : ℕ → Fault) (r : Option ℕ) (later : Reading) → First P r
    → ((at : ℕ) → First P (Some at) → R (refused (fault at))) → (First P None → R later) → R (refused_at fault r later)
checked R P fault (Some at) later h found none = found at h
checked R P fault None later h found none = none h

length_refused : (taken : Kind) (b : List ℕ) (at : ℕ) → First (WrongLengthAt b) (Some at) → Refused taken b (WrongLength at)
length_refused taken b at h = record {
  grounded = h.0;
  first = grounded_all taken b (Precedes (WrongLength at)) (λ x w. inr (refl, h.1 x w)) (λ x w. inl (omega arith))
      (λ x w. inl (omega arith))
      (λ w. inl (omega arith))
      (λ x w. inl (omega arith));
}

module _ (m : Meaning) (taken : Kind) (b : List ℕ) where
  -- of bytes that the reader takes
  unit_right : Accepted taken b → Reads m taken b (unit_reading m b)
  unit_right ok =
      cond_both (m.owns (header_of b).mark) _ (refused ForeignMark) (Reads m taken b)
      (λ own. checked (Reads m taken b) (NotAdmittedAt m b) NotAdmitted (not_admitted m b) _ (charge_first m b)
      (charge_refused m taken b ok own)
      (λ c. (unit_accepted m taken b ok own c, refl)))
      (mark_refused m taken b ok)

  -- what is computed is what the rule asks
  pub reading_right : Reads m taken b (reading m taken b)
  reading_right =
      let R = Reads m taken b in
      checked R (WrongLengthAt b) WrongLength (wrong_length b) _ (length_first b)
      (λ at h. reader_refused m taken b _ (length_refused taken b at h))
      (λ l. checked R (BrokenHeader taken b) BrokenLayout (broken_header taken b) _ (header_first taken b)
      (λ at h. reader_refused m taken b _ (header_refused taken b l at h))
      (λ h. checked R (BrokenUse b) BrokenLayout (broken_use b) _ (use_first b)
      (λ at u. reader_refused m taken b _ (use_refused taken b l h at u))
      (λ u. cond_both (is_empty b) (refused EmptyTariff) _ R
      (λ e. reader_refused m taken b _ (empty_refused taken b l h u ((decides_empty b).0 e)))
      (λ e. let full = not_from_Decides (is_empty b) (decides_empty b) e in
      checked R (DisallowedAt b) WrongDuration (disallowed b) _ (duration_first b)
      (λ at d. reader_refused m taken b _ (duration_refused taken b l h u full at d))
      (λ d. unit_right (accepted taken b l h u full d))))))

-- refusals that go before each other are one
pub both_precede : (f g : Fault) → Precedes f g → Precedes g f → f ≡ g
both_precede f g p q = same_fault f g (grind arith) (grind arith)

-- the rule asks for one reading
pub reads_unique :
    (m : Meaning) (taken : Kind) (b : List ℕ) (r s : Reading) → Reads m taken b r → Reads m taken b s → r ≡ s
reads_unique m taken b (refused f) (refused g) p q =
    ap refused (both_precede f g (p.first g q.grounded) (q.first f p.grounded))
reads_unique m taken b (refused f) (says d) p q = absurd (q.0 f p.grounded)
reads_unique m taken b (says c) (refused g) p q = absurd (p.0 g q.grounded)
reads_unique m taken b (says c) (says d) p q = ap says (p.1 ∙ sym q.1)

-- and so for the one that is computed
pub reads_computed : (m : Meaning) (taken : Kind) (b : List ℕ) (r : Reading) → Reads m taken b r → r ≡ reading m taken b
reads_computed m taken b r p = reads_unique m taken b r (reading m taken b) p (reading_right m taken b)
