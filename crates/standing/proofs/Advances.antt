-- Seconds pass: what the rules charge an operator, with a switch-over among them or not.
use Rattle.std.proofs.Common.{◌≡◌, ℕ, ◌+◌, ◌-◌, ◌^◌, ◌<◌, ◌≤◌, ltb, List, [], ◌∷◌, Some, None, Option, sym, refl, ap, ◌∙◌, ⊎_elim, arith}
use Rattle.std.proofs.lemmas.Bool.{and_from, and_right, cases_lt, cond-true, cond-false, le-leb, lt-leb, lt-ltb}
use Rattle.units.specs.Meanings.{Meaning}
use Rattle.tariffs.specs.declared.tariff.Tariff.{Tariff}
use Rattle.record.specs.Operators.{passed, reached, stretched, switched_over}
use Rattle.account.specs.Journals.{Receipt}
use Rattle.account.specs.Accounts.{TariffChange, last_change, over_seconds, switch_over_to}
use Rattle.account.specs.Records.{if_after, pending_at}
use Rattle.standing.proofs.Changes.{By, Newest, after, due_in, last_settled, next_in, settled, settled_by}
use Rattle.standing.proofs.Switches.{come, none_pending, operator_by, pending, same_operator, switched, to_come, unstopped}
use Rattle.standing.proofs.Stretches.{Began, over, over_more, over_one, over_parts, over_same}

began_later : (a c : ℕ) (b : Option ℕ) → a ≤ c → Began a b → Began c b
began_later a c None l h = tt
began_later a c (Some began) l h = omega arith

newest_later : (a c : ℕ) (rs : List Receipt) → a ≤ c → Newest a rs → Newest c rs
newest_later a c [] l h = tt
newest_later a c (r ∷ rs) l h = omega arith

pending_in :
    (opening : ℕ) (rs : List Receipt) (clock : ℕ)
    → pending_at opening rs clock ≡ if_after clock (switch_over_to (due_in opening rs) (next_in rs))
pending_in opening [] clock = refl
pending_in opening (r ∷ rs) clock = refl

-- the rule of n seconds makes of the operator at a clock the one that it is then
abbrev Passes : Meaning → ℕ → Option ℕ → Option TariffChange → ℕ → Option Tariff → ℕ → ℕ → ℕ → Type 0
Passes m network b x due next clock n owed =
    operator_by network b (after x due next (clock + n)) (if_after (clock + n) (switch_over_to due next)) (owed + over m b (after x due next) clock n)
    ≡ passed m clock n (operator_by network b (after x due next clock) (if_after clock (switch_over_to due next)) owed)

module _ (m : Meaning) (network : ℕ) (b : Option ℕ) where
  -- n seconds without a change
  quiet :
      (clock n owed : ℕ) (x pending : Option TariffChange) (f : ℕ → Option TariffChange) → Began clock b → By clock x
      → ((k : ℕ) → k < n → f (clock + k) ≡ x) → owed + over m b f clock n < 2 ^ 64
      → operator_by network b x pending (owed + over m b f clock n) ≡ stretched m clock n (operator_by network b x pending owed)
  quiet clock n owed x pending f began by same fit =
      ap (operator_by network b x pending)
      (unstopped owed _ _ (over_same m clock b f (λ _. x) n same ∙ over_one m clock b x n began by) fit)

  -- a switch-over to a tariff at a moment
  module _ (due : ℕ) (t : Tariff) (x : Option TariffChange) where
    module _ (clock n owed : ℕ) (began : Began clock b) (fit : owed + over m b (after x due (Some t)) clock n < 2 ^ 64) where
      -- it came before
      passed_after : due ≤ clock → Passes m network b x due (Some t) clock n owed
      passed_after l =
          same_operator network b _ _ _ _ _ (come due t x (clock + n) (omega arith)) (none_pending due t x (clock + n) (omega arith))
          ∙ quiet clock n owed (switch_over_to due (Some t)) None (after x due (Some t)) began l (λ k _. come due t x (clock + k) (omega arith)) fit
          ∙ ap (passed m clock n) (sym (same_operator network b _ _ _ _ owed (come due t x clock l) (none_pending due t x clock l)))

      module _ (by : By clock x) where
        -- it comes later
        passed_before : clock + n < due → Passes m network b x due (Some t) clock n owed
        passed_before l =
            same_operator network b _ _ _ _ _ (to_come due t x (clock + n) l) (pending due t x (clock + n) l)
            ∙ quiet clock n owed x (switch_over_to due (Some t)) (after x due (Some t)) began by (λ k i. to_come due t x (clock + k) (omega arith)) fit
            ∙ sym (cond-false (reached clock n due) _ _ (and_right (ltb clock due) _ (lt-leb due (clock + n) l)))
            ∙ ap (passed m clock n) (sym (same_operator network b _ _ _ _ owed (to_come due t x clock (omega arith)) (pending due t x clock (omega arith))))

        -- it comes among these seconds
        passed_across : clock < due → due ≤ clock + n → Passes m network b x due (Some t) clock n owed
        passed_across l h =
            let first = over m b (after x due (Some t)) clock (due - clock) in
            let last = over m b (after x due (Some t)) due (clock + n - due) in
            let parts = over_parts m clock b (after x due (Some t)) n due (omega arith) h in
            let sums : owed + over m b (after x due (Some t)) clock n ≡ owed + first + last = omega arith in
            same_operator network b _ _ _ _ _ (come due t x (clock + n) h) (none_pending due t x (clock + n) h)
            ∙ ap (operator_by network b (switch_over_to due (Some t)) None) sums
            ∙ quiet due (clock + n - due) (owed + first) (switch_over_to due (Some t)) None (after x due (Some t))
            (began_later clock due b (omega arith) began) (omega arith) (λ k _. come due t x (due + k) (omega arith)) (omega arith)
            ∙ ap (stretched m due (clock + n - due)) (switched due t x network b (owed + first))
            ∙ ap (λ op. stretched m due (clock + n - due) (switched_over op))
            (quiet clock (due - clock) owed x (switch_over_to due (Some t)) (after x due (Some t)) began by
            (λ k i. to_come due t x (clock + k) (omega arith)) (omega arith))
            ∙ sym (cond-true (reached clock n due) _ _ (and_from (ltb clock due) _ (lt-ltb clock due l) (le-leb due (clock + n) h)))
            ∙ ap (passed m clock n) (sym (same_operator network b _ _ _ _ owed (to_come due t x clock l) (pending due t x clock l)))

  passing :
      (x : Option TariffChange) (due : ℕ) (next : Option Tariff) (clock n owed : ℕ) → Began clock b → By clock x
      → owed + over m b (after x due next) clock n < 2 ^ 64 → Passes m network b x due next clock n owed
  passing x due None clock n owed began by fit = quiet clock n owed x None (λ _. x) began by (λ _ _. refl) fit
  passing x due (Some t) clock n owed began by fit =
      ⊎_elim
      (λ l. ⊎_elim (passed_before due t x clock n owed began fit by) (passed_across due t x clock n owed began fit by l) (cases_lt (clock + n) due))
      (passed_after due t x clock n owed began fit) (cases_lt clock due)

  -- n seconds more, whatever indications came
  pub operator_passed :
      (opening : ℕ) (rs : List Receipt) (once clock n : ℕ) → Began clock b → Newest clock rs
      → once + over_seconds m opening rs (clock + n) b < 2 ^ 64
      → operator_by network b (last_change opening rs (clock + n)) (pending_at opening rs (clock + n)) (once + over_seconds m opening rs (clock + n) b)
      ≡ passed m clock n (operator_by network b (last_change opening rs clock) (pending_at opening rs clock) (once + over_seconds m opening rs clock b))
  operator_passed opening rs once clock n began newest fit =
      let x = settled opening rs in
      let due = due_in opening rs in
      let next = next_in rs in
      let more = over_more m clock opening rs b n began in
      let same =
      over_same m clock b (last_change opening rs) (after x due next) n
      (λ k _. last_settled opening rs (clock + k) (newest_later clock (clock + k) rs (omega arith) newest)) in
      let sums : once + over_seconds m opening rs (clock + n) b ≡ once + over_seconds m opening rs clock b + over m b (after x due next) clock n =
      omega arith in
      same_operator network b _ _ _ _ _
      (last_settled opening rs (clock + n) (newest_later clock (clock + n) rs (omega arith) newest)) (pending_in opening rs (clock + n))
      ∙ ap (operator_by network b (after x due next (clock + n)) (if_after (clock + n) (switch_over_to due next))) sums
      ∙ passing x due next clock n (once + over_seconds m opening rs clock b) began (settled_by opening rs clock newest) (omega arith)
      ∙ ap (passed m clock n)
      (sym (same_operator network b _ _ _ _ (once + over_seconds m opening rs clock b) (last_settled opening rs clock newest) (pending_in opening rs clock)))
