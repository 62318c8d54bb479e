use Rattle.std.proofs.Common.{◌∙◌, Some, sym, ap, add-zero, arith}
use Rattle.std.proofs.lemmas.List.{length_push}
use Rattle.tariffs.proofs.Slots.{at_turn, few_turns, at_end}
use Rattle.tariffs.proofs.Lengths.{length_after, length_endless, length_more}
use Rattle.tariffs.proofs.tariff.Tariff.round_length.Goals as goal

pub returns-then-subtariff-eq0 : goal.returns-then-subtariff-eq0
returns-then-subtariff-eq0 c =
    let rest = at_turn _ c.args.self.now.subtariffs (cc) (cc) (cc) (cc) _ _ c.loop-subtariff.yielded_by _ _ _ c.in-Some.is c.next.ensures.steps in
    sym (length_endless c.loop-subtariff.length rest c.if-subtariff-eq0.true) ∙ c.loop-subtariff.invariant.0

pub overflow_add-length : goal.overflow_add-length
overflow_add-length c = omega (arith, few_turns _ c.args.self.now.subtariffs (cc) (cc) (cc) (cc) _ _ c.loop-subtariff.yielded_by _ _ _ c.in-Some.is c.next.ensures.steps)

pub loop-subtariff-preserved : goal.loop-subtariff-preserved
loop-subtariff-preserved c =
    let rest = at_turn _ c.args.self.now.subtariffs (cc) (cc) (cc) (cc) _ _ c.loop-subtariff.yielded_by _ _ _ c.in-Some.is c.next.ensures.steps in
    rw (length_push c.loop-subtariff.yielded c.in-Some.subtariff, c.from-length.ensures)
    (sym (length_more c.loop-subtariff.length rest c.if-subtariff-eq0.false) ∙ c.loop-subtariff.invariant.0, omega arith)

pub returns : goal.returns
returns c =
    let none = at_end _ c.args.self.now.subtariffs (cc) (cc) (cc) (cc) _ _ c.loop-subtariff.yielded_by _ _ c.in-None.is c.next.ensures.steps in
    ap Some (sym (add-zero _)) ∙ sym (ap (length_after c.loop-subtariff.length) none) ∙ c.loop-subtariff.invariant.0
