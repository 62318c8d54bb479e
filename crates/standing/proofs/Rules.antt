-- The rules keep the record, request by request.
use Rattle.std.proofs.Common.{◌≡◌, ℕ, ◌+◌, ◌^◌, ◌<◌, true, false, cond, not, ◌&&◌, List, [], ◌∷◌, map, is_some, sym, refl, ap, ◌∙◌, arith}
use Rattle.std.specs.List.{AllByRecursion}
use Rattle.std.proofs.ByRecursion.{All-weaker}
use Rattle.std.proofs.lemmas.Bool.{true≢false}
use Rattle.units.specs.Meanings.{Meaning}
use Rattle.record.specs.declared.call.Phase.{Phase}
use Rattle.record.specs.declared.call.Phase.TheVariants.{SetUp, Charging, Closed}
use Rattle.record.specs.declared.operator.Operator.{Operator}
use Rattle.record.specs.Operators.{begun, begun_in, owing, passed, price_of}
use Rattle.record.specs.Calls.{advanced, entering, released_from, started_from}
use Rattle.account.specs.Journals.{started, released, Past, accepted_in, beginning, is_among, is_known, networks, phase_of, receipts}
use Rattle.account.specs.Accounts.{account, at_once, attempt_charge, in_force}
use Rattle.account.specs.Answers.{entered, is_closed, is_set_up, later}
use Rattle.account.specs.Records.{operator_of, record_of, seated}
use Rattle.standing.proofs.Advances.{operator_passed}
use Rattle.standing.proofs.Beginnings.{began_by, newest_by}
use Rattle.standing.proofs.Entries.{operator_then, then_begins, then_owing, then_same}
use Rattle.standing.proofs.Networks.{all_among, among_known}
use Rattle.standing.proofs.Pasts.{Kept}
use Rattle.standing.proofs.Seats.{call_with, seats_everyone}

all_each : {X : Type 0} (P : X → Type 0) (xs : List X) → ((x : X) → P x) → AllByRecursion P xs
all_each P [] h = tt
all_each P (x ∷ xs) h = (h x, all_each P xs h)

of_set_up : (phase : Phase) → is_set_up phase ≡ true → phase ≡ SetUp
of_set_up SetUp e = refl
of_set_up Charging e = absurd (true≢false (sym e))
of_set_up Closed e = absurd (true≢false (sym e))

module _ (m : Meaning) (opening : ℕ) (p : Past) (k : Kept p) where
  abbrev Fits : Past → Type 0
  Fits q = (n : ℕ) → account m opening q n < 2 ^ 64

  -- seconds pass
  pub rule_advance : (n : ℕ) → Fits (later n p) → record_of m opening (later n p) ≡ advanced m n (record_of m opening p)
  rule_advance n fit =
      let j = p.journal in
      let clock = p.clock in
      ap (call_with opening (clock + n) (phase_of j) (accepted_in j))
      (seats_everyone (operator_of m opening p) (operator_of m opening (later n p)) (passed m clock n) 4 (networks j)
      (all_each _ (networks j)
      (λ x. operator_passed m x (beginning x j) opening (receipts x j) (at_once m opening x j) clock n
      (began_by x clock j k.dated) (newest_by x clock j k.dated) (fit x))))

  -- the call enters a phase, with no indication
  enters :
      (phase : Phase) (h : ℕ → Operator) (f : Operator → Operator)
      → AllByRecursion (λ n. h n ≡ f (operator_of m opening p n)) (networks p.journal)
      → call_with opening p.clock phase (accepted_in p.journal + 0) (seated 4 (map h (networks p.journal)))
      ≡ entering phase f (record_of m opening p)
  enters phase h f same =
      let ns = networks p.journal in
      let none : accepted_in p.journal + 0 ≡ accepted_in p.journal = omega arith in
      ap (λ a. call_with opening p.clock phase a (seated 4 (map h ns))) none
      ∙ ap (call_with opening p.clock phase (accepted_in p.journal)) (seats_everyone (operator_of m opening p) h f 4 ns same)

  -- the start
  start_known :
      (n : ℕ) → Fits (entered started p) → is_known n p.journal ≡ true
      → operator_of m opening (entered started p) n ≡ begun_in Charging m p.clock (operator_of m opening p n)
  start_known n fit e =
      let j = p.journal in
      then_begins m opening n p.clock (receipts n j) (beginning n j) (is_known n j) (at_once m opening n j) (fit n)
      ∙ ap (λ t. cond (t && not (is_some (beginning n j))) (begun m p.clock (operator_of m opening p n)) (operator_of m opening p n)) e

  pub rule_start :
      Fits (entered started p) → is_set_up (phase_of p.journal) ≡ true
      → record_of m opening (entered started p) ≡ started_from (phase_of p.journal) m (record_of m opening p)
  rule_start fit e =
      let ns = networks p.journal in
      enters Charging (operator_of m opening (entered started p)) (begun_in Charging m p.clock)
      (All-weaker (λ n. is_among n ns ≡ true) _ (λ n a. start_known n fit (sym (among_known n p.journal) ∙ a)) ns (all_among ns))
      ∙ ap (λ phase. started_from phase m (record_of m opening p)) (sym (of_set_up _ e))

  -- the release
  module _ (fit : Fits (entered released p)) where
    attempted :
        (n : ℕ) → phase_of p.journal ≡ SetUp
        → operator_of m opening (entered released p) n
        ≡ owing (price_of m (operator_of m opening p n).tariff.attempt) (operator_of m opening p n)
    attempted n e =
        let j = p.journal in
        then_owing m opening n p.clock (receipts n j) (beginning n j) false (at_once m opening n j)
        (attempt_charge (phase_of j) m (in_force opening n j p.clock)) (λ f. absurd (true≢false (sym f))) (fit n)
        ∙ ap (λ phase. owing (attempt_charge phase m (in_force opening n j p.clock)) (operator_of m opening p n)) e

    ended :
        (n : ℕ) → phase_of p.journal ≡ Charging
        → operator_of m opening (entered released p) n ≡ operator_of m opening p n
    ended n e =
        let j = p.journal in
        ap (λ phase. operator_then m opening n p.clock (receipts n j) (beginning n j) false (at_once m opening n j)
        (attempt_charge phase m (in_force opening n j p.clock))) e
        ∙ then_same m opening n p.clock (receipts n j) (beginning n j) false (at_once m opening n j) (λ f. absurd (true≢false (sym f)))

    release_from :
        (phase : Phase) → phase_of p.journal ≡ phase → not (is_closed phase) ≡ true
        → record_of m opening (entered released p) ≡ released_from phase m (record_of m opening p)
    release_from SetUp e on =
        enters Closed (operator_of m opening (entered released p)) (λ op. owing (price_of m op.tariff.attempt) op)
        (all_each _ (networks p.journal) (λ n. attempted n e))
    release_from Charging e on =
        enters Closed (operator_of m opening (entered released p)) (λ op. op) (all_each _ (networks p.journal) (λ n. ended n e))
    release_from Closed e on = absurd (true≢false (sym on))

    pub rule_release :
        not (is_closed (phase_of p.journal)) ≡ true
        → record_of m opening (entered released p) ≡ released_from (phase_of p.journal) m (record_of m opening p)
    rule_release on = release_from (phase_of p.journal) refl on
