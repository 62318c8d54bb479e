-- The refusal that comes first, check by check: each lemma has the answers of the checks before.
use Rattle.std.proofs.Common.{ℕ, ◌≤◌, List, Some, None, refl, inl, inr, arith}
use Rattle.indication.specs.declared.header.Kind.{Kind}
use Rattle.indication.specs.declared.fault.Fault.TheVariants.{BrokenLayout, EmptyTariff, WrongDuration}
use Rattle.indication.specs.Rules.{First, WrongLengthAt, BrokenHeader, BrokenUse, DisallowedAt, IsEmpty, Precedes, Refused, Accepted}
use Rattle.indication.proofs.Grounded.{grounded_all}

-- the header's bytes come before the uses
pub in_header : (taken : Kind) (b : List ℕ) (at : ℕ) → BrokenHeader taken b at → at ≤ 11
in_header taken b at h = grind arith

past_header : (b : List ℕ) (at : ℕ) → BrokenUse b at → 24 ≤ at
past_header b at (inl (_, inl (k, _, is, _))) = omega arith
past_header b at (inl (_, inr (k, _, is, _))) = omega arith
past_header b at (inr (_, is, _)) = omega arith

module _ (taken : Kind) (b : List ℕ) (right_length : First (WrongLengthAt b) None) where
  pub header_refused : (at : ℕ) → First (BrokenHeader taken b) (Some at) → Refused taken b (BrokenLayout at)
  header_refused at h = record {
    grounded = inl h.0;
    first = grounded_all taken b (Precedes (BrokenLayout at)) (λ x w. absurd (right_length x w))
        (λ x w. inr (refl, h.1 x w))
        (λ x w. inr (refl, omega (arith, in_header taken b at h.0, past_header b x w)))
        (λ w. inl (omega arith))
        (λ x w. inl (omega arith));
  }

  module _ (right_header : First (BrokenHeader taken b) None) where
    pub use_refused : (at : ℕ) → First (BrokenUse b) (Some at) → Refused taken b (BrokenLayout at)
    use_refused at h = record {
      grounded = inr h.0;
      first = grounded_all taken b (Precedes (BrokenLayout at)) (λ x w. absurd (right_length x w))
          (λ x w. absurd (right_header x w))
          (λ x w. inr (refl, h.1 x w))
          (λ w. inl (omega arith))
          (λ x w. inl (omega arith));
    }

    module _ (right_uses : First (BrokenUse b) None) where
      pub empty_refused : IsEmpty b → Refused taken b EmptyTariff
      empty_refused h = record {
        grounded = h;
        first = grounded_all taken b (Precedes EmptyTariff) (λ x w. absurd (right_length x w))
            (λ x w. absurd (right_header x w))
            (λ x w. absurd (right_uses x w))
            (λ w. inr (refl, omega arith))
            (λ x w. inl (omega arith));
      }

      module _ (not_empty : IsEmpty b → ⊥) where
        pub duration_refused : (at : ℕ) → First (DisallowedAt b) (Some at) → Refused taken b (WrongDuration at)
        duration_refused at h = record {
          grounded = h.0;
          first = grounded_all taken b (Precedes (WrongDuration at)) (λ x w. absurd (right_length x w))
              (λ x w. absurd (right_header x w))
              (λ x w. absurd (right_uses x w))
              (λ w. absurd (not_empty w))
              (λ x w. inr (refl, h.1 x w));
        }

        pub accepted : First (DisallowedAt b) None → Accepted taken b
        accepted h = grounded_all taken b (λ _. ⊥) right_length right_header right_uses not_empty h
