-- The moment at which a quarter falls due, by a formula.
use Rattle.std.proofs.Common.{◌≡◌, ℕ, zero, suc, ◌+◌, ◌-◌, ◌*◌, ◌%◌, ◌<◌, Bool, true, false, sym, ap, ◌∙◌, add-zero, arith}
use Rattle.std.proofs.lemmas.Bool.{cond-true, cond-false, eq-eqb, ne_eqb}
use Rattle.record.specs.Quarters.{first_from, quarter_at, due_at}

-- the first that passes, where it lies d after a
first_from_found :
    (p : ℕ → Bool) (a n d : ℕ) → d < n → p (a + d) ≡ true → ((k : ℕ) → k < d → p (a + k) ≡ false) → first_from p a n ≡ a + d
first_from_found p a zero d in_range here before = absurd (omega arith)
first_from_found p a (suc n) zero in_range here before = cond-true _ _ _ (rw add-zero at here) ∙ sym (add-zero a)
first_from_found p a (suc n) (suc d) in_range here before =
    let on : (k : ℕ) → suc a + k ≡ a + suc k = λ k. omega arith in
    cond-false _ _ _ (rw add-zero at (before 0 (omega arith)))
    ∙ first_from_found p (suc a) n d (omega arith) (ap p (on d) ∙ here) (λ k h. ap p (on k) ∙ before (suc k) (omega arith))
    ∙ on d

pub due_at_found :
    (opening quarter clock : ℕ)
    → clock + (900 * quarter % 86400 + 86400 - (opening + clock) % 86400) % 86400 ≡ due_at opening quarter clock
due_at_found opening quarter clock =
    let d = (900 * quarter % 86400 + 86400 - (opening + clock) % 86400) % 86400 in
    sym (first_from_found (quarter_at opening quarter) clock 86400 d (omega arith) (eq-eqb _ _ (omega arith))
    (λ k h. ne_eqb _ _ (λ e. omega arith)))
