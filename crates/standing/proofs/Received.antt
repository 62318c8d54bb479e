-- The rules of indications keep the record.
use Rattle.std.proofs.Common.{◌≡◌, ℕ, ◌+◌, ◌^◌, ◌<◌, Bool, true, false, cond, not, ◌&&◌, eqb, List, [], ◌∷◌, ◌++◌, map, sym, refl, ap, ◌∙◌}
use Rattle.std.specs.Option as options
use Rattle.std.proofs.lemmas.Bool.{cond_both, eq-eqb, true≢false}
use Rattle.std.proofs.Math.Bool.{and-true}
use Rattle.indication.specs.Format.{Content}
use Rattle.units.specs.Meanings.{Meaning}
use Rattle.record.specs.declared.operator.Operator.{Operator}
use Rattle.record.specs.Operators.{add_on_price, begun, begun_in, is_charging, owing, received_by}
use Rattle.record.specs.Calls.{received_add_on, received_tariff, seat_changed}
use Rattle.account.specs.Journals.{tariff_came, add_on_came, Past, Receipt, accepted_in, beginning, charges, is_among, is_known, is_any, networks, phase_of, receipts}
use Rattle.account.specs.Accounts.{account, at_once}
use Rattle.account.specs.Answers.{entered}
use Rattle.account.specs.Records.{operator_of, record_of, seated}
use Rattle.standing.proofs.Beginnings.{began_by, charging_began}
use Rattle.standing.proofs.Entries.{operator_now, operator_then, then_begins, then_owing, then_same}
use Rattle.standing.proofs.Networks.{among_known, distinct, eqb_turned}
use Rattle.standing.proofs.Pasts.{Kept}
use Rattle.standing.proofs.Receipts.{receipt_set, seconds_kept}
use Rattle.standing.proofs.Seats.{call_with, seats_known, seats_new}
use Rattle.standing.proofs.Strangers.{stranger}

module _ (m : Meaning) (opening : ℕ) (p : Past) (k : Kept p) (c : Content) where
  -- an add-on
  module _ (fit : (n : ℕ) → account m opening (entered (add_on_came c) p) n < 2 ^ 64) where
    added_own :
        (n : ℕ) → eqb c.header.network n ≡ true
        → operator_of m opening (entered (add_on_came c) p) n ≡ owing (add_on_price m c) (operator_of m opening p n)
    added_own n e =
        let j = p.journal in
        then_owing m opening n p.clock (receipts n j) (beginning n j) (charges n j) (at_once m opening n j)
        (cond (eqb c.header.network n) (add_on_price m c) 0) (charging_began n j) (fit n)
        ∙ ap (λ t. owing (cond t (add_on_price m c) 0) (operator_of m opening p n)) e

    added_others :
        (n : ℕ) → eqb n c.header.network ≡ false → operator_of m opening (entered (add_on_came c) p) n ≡ operator_of m opening p n
    added_others n e =
        let j = p.journal in
        ap (λ t. operator_then m opening n p.clock (receipts n j) (beginning n j) (charges n j) (at_once m opening n j) (cond t (add_on_price m c) 0))
        (eqb_turned n c.header.network e)
        ∙ then_same m opening n p.clock (receipts n j) (beginning n j) (charges n j) (at_once m opening n j) (charging_began n j)

    pub rule_add_on :
        is_known c.header.network p.journal ≡ true
        → record_of m opening (entered (add_on_came c) p) ≡ received_add_on m c (record_of m opening p)
    rule_add_on e =
        let x = c.header.network in
        ap (call_with opening p.clock (phase_of p.journal) (accepted_in p.journal + 1))
        (seats_known (operator_of m opening p) x (λ _. refl) (operator_of m opening (entered (add_on_came c) p)) (owing (add_on_price m c)) added_others
        (added_own x (eq-eqb x x refl)) 4 (networks p.journal) (distinct p.journal) (among_known x p.journal ∙ e))

  -- a tariff indication
  abbrev in_receipts : Bool → List Receipt → List Receipt
  in_receipts t rs = cond t (record { at = p.clock; content = c } ∷ []) [] ++ rs

  module _ (n : ℕ) where
    abbrev received_if : Bool → Operator
    received_if t =
        operator_then m opening n p.clock (in_receipts t (receipts n p.journal)) (beginning n p.journal)
        (is_charging (phase_of p.journal) && is_any (in_receipts t (receipts n p.journal))) (at_once m opening n p.journal) 0

    received_new :
        (received_if true).owed < 2 ^ 64
        → received_if true ≡ received_by m opening (phase_of p.journal) p.clock c (operator_of m opening p n)
    received_new fit =
        let j = p.journal in
        let rs = receipts n j in
        let b = beginning n j in
        let phase = phase_of j in
        let op : ℕ → Operator = operator_now m opening n p.clock (record { at = p.clock; content = c } ∷ rs) b in
        let owed = account m opening p n in
        then_begins m opening n p.clock (record { at = p.clock; content = c } ∷ rs) b (is_charging phase && true) (at_once m opening n j) fit
        ∙ ap (λ x. cond ((is_charging phase && true) && not (options.is_some b)) (begun m p.clock (op (at_once m opening n j + x))) (op (at_once m opening n j + x)))
        (seconds_kept m opening p.clock c rs b)
        ∙ ap (λ t. cond (t && not (options.is_some b)) (begun m p.clock (op owed)) (op owed)) (and-true (is_charging phase))
        ∙ ap (begun_in phase m p.clock) (sym (receipt_set n b owed opening p.clock c rs _ (began_by n p.clock j k.dated)))

    received_own :
        (t : Bool) → t ≡ true → (received_if t).owed < 2 ^ 64
        → received_if t ≡ received_by m opening (phase_of p.journal) p.clock c (operator_of m opening p n)
    received_own true e fit = received_new fit
    received_own false e fit = absurd (true≢false (sym e))

    received_others : eqb n c.header.network ≡ false → operator_of m opening (entered (tariff_came c) p) n ≡ operator_of m opening p n
    received_others e =
        let j = p.journal in
        ap received_if (eqb_turned n c.header.network e)
        ∙ then_same m opening n p.clock (receipts n j) (beginning n j) (charges n j) (at_once m opening n j) (charging_began n j)

  pub rule_tariff :
      ((n : ℕ) → account m opening (entered (tariff_came c) p) n < 2 ^ 64)
      → record_of m opening (entered (tariff_came c) p) ≡ received_tariff m c (record_of m opening p)
  rule_tariff fit =
      let x = c.header.network in
      let ns = networks p.journal in
      let g = operator_of m opening p in
      let h = operator_of m opening (entered (tariff_came c) p) in
      let f : Operator → Operator = received_by m opening (phase_of p.journal) p.clock c in
      let own = received_own x (eqb x x) (eq-eqb x x refl) (fit x) in
      ap (call_with opening p.clock (phase_of p.journal) (accepted_in p.journal + 1))
      (cond_both (is_among x ns) ns (ns ++ (x ∷ [])) (λ l. seated 4 (map h l) ≡ seat_changed f x (seated 4 (map g ns)))
      (seats_known g x (λ _. refl) h f received_others own 4 ns (distinct p.journal))
      (λ e. seats_new g x (λ _. refl) h f received_others
      (own ∙ ap f (stranger m opening x p (sym (among_known x p.journal) ∙ e) k.known)) 4 ns e))
