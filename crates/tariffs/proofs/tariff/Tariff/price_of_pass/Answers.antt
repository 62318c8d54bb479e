use Rattle.std.proofs.Common.{◌≡◌, ◌-◌, ap, arith}
use Rattle.std.proofs.lemmas.List.{length_push}
use Rattle.tariffs.specs.Stretches.{taken_over}
use Rattle.tariffs.proofs.Slots.{at_turn, at_end}
use Rattle.tariffs.proofs.Sums.{sum_zero}
use Rattle.tariffs.proofs.Parts.{pass_more, pass_over}
use Rattle.tariffs.proofs.tariff.Tariff.price_of_pass.Goals as goal

pub returns-in_err-price : goal.returns-in_err-price
returns-in_err-price g c =
    let rest = at_turn _ c.args.self.now.subtariffs (cc) (cc) (cc) (cc) _ _ c.loop-subtariff.yielded_by _ _ _ c.in-Some.is c.next.ensures.steps in
    let over = rw c.in_err-price.was at c.price.ensures in
    rw c.from_residual.ensures (pass_over (g.U.Unit.meaning c.args.unit.now) rest c.loop-subtariff.from c.loop-subtariff.left c.share-seconds.result c.share-seconds.ensures c.loop-subtariff.total _ c.loop-subtariff.invariant.0 (λ low. over (omega arith)))

pub returns-in_err-total : goal.returns-in_err-total
returns-in_err-total g c =
    let rest = at_turn _ c.args.self.now.subtariffs (cc) (cc) (cc) (cc) _ _ c.loop-subtariff.yielded_by _ _ _ c.in-Some.is c.next.ensures.steps in
    let is = rw c.in_ok-price.was at c.price.ensures in
    let over = rw c.in_err-total.was at c.checked_add.ensures in
    rw c.from_residual-in_err-total.ensures (pass_over (g.U.Unit.meaning c.args.unit.now) rest c.loop-subtariff.from c.loop-subtariff.left c.share-seconds.result c.share-seconds.ensures c.loop-subtariff.total _ c.loop-subtariff.invariant.0 (λ low. over (omega arith)))

pub loop-subtariff-preserved : goal.loop-subtariff-preserved
loop-subtariff-preserved g c =
    let rest = at_turn _ c.args.self.now.subtariffs (cc) (cc) (cc) (cc) _ _ c.loop-subtariff.yielded_by _ _ _ c.in-Some.is c.next.ensures.steps in
    let is = rw c.in_ok-price.was at c.price.ensures in
    let sum_is = rw c.in_ok-total.was at c.checked_add.ensures in
    let past : c.saturating_sub-from.result ≡ c.loop-subtariff.from - c.in-Some.subtariff.duration = omega arith in
    rw (length_push c.loop-subtariff.yielded c.in-Some.subtariff, past)
    (omega (arith, pass_more (g.U.Unit.meaning c.args.unit.now) rest c.loop-subtariff.from c.loop-subtariff.left c.share-seconds.result c.share-seconds.ensures c.loop-subtariff.total _ c.loop-subtariff.invariant.0), omega arith)

pub returns : goal.returns
returns g c =
    let m = g.U.Unit.meaning c.args.unit.now in
    let none = at_end _ c.args.self.now.subtariffs (cc) (cc) (cc) (cc) _ _ c.loop-subtariff.yielded_by _ _ c.in-None.is c.next.ensures.steps in
    omega (arith, ap (λ ss. taken_over m ss c.loop-subtariff.from c.loop-subtariff.left) none, sum_zero c.loop-subtariff.left)
