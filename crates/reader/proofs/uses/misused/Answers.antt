use Rattle.std.proofs.Common.{◌+◌, refl, arith, rules}
use borrow.Author.Tests.{tests}
use Rattle.std.proofs.lemmas.Iterator.{first_from_Range}
use Rattle.indication.specs.Format.{term_offset}
use Rattle.indication.specs.Rules.{InOrder, uses_from}
use Rattle.reader.specs.Order.{GoesOn}
use Rattle.reader.proofs.Orders.{leaves_order}
use Rattle.reader.proofs.Places.{first_place}
use Rattle.reader.proofs.uses.misused.Goals as goal

pub returns : goal.returns
returns c =
    let b = c.args.bytes.now in
    let first = c.args.first in
    let u = uses_from b first in
    first_place (λ k. InOrder u (k + 1)) (λ k. term_offset b (first + k)) _ _ _ _ refl (λ i j l. omega arith)
    (leaves_order u c.args.count c.find.result
    (first_from_Range _ _ _ c.find.result (λ k. GoesOn u k → ⊥) (GoesOn u) c.find.ensures.ran (λ x q k. search (rules, tests)) (λ x q k. search (rules, tests))))
    (search rules)
