-- The first entry of a use, found one by one.
use Rattle.std.proofs.Common.{◌≡◌, ℕ, zero, suc, ◌<◌, List, [], ◌∷◌, length, Some, None, Option, Bor, sym, refl, ap, ◌∙◌, arith}
use Rattle.std.specs.List.{AllWithin, HoldsAt}
use Rattle.std.specs.Option.{MatchOption, IsSomeAnd}
use Rattle.std.proofs.lemmas.Bool.{eq-eqb, ne_eqb, cond-true, cond-false}
use Rattle.indication.specs.declared.entry.Usage.{Usage}
use Rattle.indication.specs.declared.entry.Usage.TheVariants.{Periodic, OneTime, SetUp, Attempt, AddOn}
use Rattle.indication.specs.declared.entry.Charge.{Charge}
use Rattle.indication.specs.declared.entry.Entry.{Entry}
use Rattle.indication.specs.Codes.{usage_code, usage_of}
use Rattle.tariffs.specs.Making.{first_charge}

-- a use is known by its code
usage_of_usage_code : (u : Usage) → usage_of (usage_code u) ≡ u
usage_of_usage_code Periodic = refl
usage_of_usage_code OneTime = refl
usage_of_usage_code SetUp = refl
usage_of_usage_code Attempt = refl
usage_of_usage_code AddOn = refl

one_use : (u v : Usage) → usage_code u ≡ usage_code v → u ≡ v
one_use u v e = sym (usage_of_usage_code u) ∙ ap usage_of e ∙ usage_of_usage_code v

first_none :
    (u : Usage) (es : List Entry) → AllWithin (λ e. e.term.usage ≡ u → ⊥) es 0 (length es) → first_charge u es ≡ None
first_none u [] other = refl
first_none u (e ∷ es) other =
    cond-false _ _ _ (ne_eqb _ _ (λ code. other 0 e (omega arith) (omega arith) (one_use _ _ code)))
    ∙ first_none u es (λ k d _ l. other (suc k) d (omega arith) (omega arith))

first_at :
    (u : Usage) (es : List Entry) (i : ℕ) (x : Entry) → x.term.usage ≡ u → i < length es → HoldsAt (λ e. e ≡ x) es i
    → AllWithin (λ e. e.term.usage ≡ u → ⊥) es 0 i → first_charge u es ≡ Some x.charge
first_at u [] i x used low is other = absurd (omega arith)
first_at u (e ∷ es) zero x used low is other =
    cond-true _ _ _ (eq-eqb _ _ (ap (λ y. usage_code y.term.usage) (is e) ∙ ap usage_code used)) ∙ ap (λ y. Some y.charge) (is e)
first_at u (e ∷ es) (suc i) x used low is other =
    cond-false _ _ _ (ne_eqb _ _ (λ code. other 0 e (omega arith) (omega arith) (one_use _ _ code)))
    ∙ first_at u es i x used (omega arith) (λ d. is d) (λ k d _ l. other (suc k) d (omega arith) (omega arith))

-- the charge of the entry that is found
pub first_found :
    (u : Usage) (es : List Entry) (found : Option (Bor Entry)) (r : Option Charge)
    → MatchOption found (AllWithin (λ e. e.term.usage ≡ u → ⊥) es 0 (length es))
    (λ x. (x.now.term.usage ≡ u) × (i : ℕ) × (i < length es) × HoldsAt (λ e. e ≡ x.now) es i × AllWithin (λ e. e.term.usage ≡ u → ⊥) es 0 i)
    → MatchOption found (r ≡ None) (λ x. IsSomeAnd r (λ charge. charge ≡ x.now.charge))
    → r ≡ first_charge u es
first_found u es None r none is = is ∙ sym (first_none u es none)
first_found u es (Some x) None found is = absurd is
first_found u es (Some x) (Some charge) (used, i, low, at, other) is = ap Some is ∙ sym (first_at u es i x.now used low at other)
