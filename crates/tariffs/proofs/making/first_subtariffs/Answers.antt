use Rattle.std.proofs.Common.{◌∙◌, ap, length, take, length-take, rules, tests, arith}
use Rattle.std.proofs.lemmas.Iterator.{YieldsList-from_slice, YieldsList-from_take}
use Rattle.std.proofs.lemmas.Iterator.Consumers.{YieldsList-from_filter_map, YieldsList-from_enumerate, YieldsList-turn, YieldsList-end}
use Rattle.std.proofs.lemmas.List.{length_push}
use Rattle.std.proofs.lemmas.List.FromFn.{length-enumerate_from}
use Rattle.std.specs.List.{filter_map}
use Rattle.tariffs.specs.Making.{slotted, subtariff_of}
use Rattle.tariffs.proofs.Filling.{kept_listed, slotted_more, slotted_all}
use Rattle.tariffs.proofs.making.first_subtariffs.Goals as goal

pub loop-i-preserved : goal.loop-i-preserved
loop-i-preserved c =
    let turn = YieldsList-turn (YieldsList-from_enumerate (YieldsList-from_take 4 (YieldsList-from_filter_map _ subtariff_of (YieldsList-from_slice c.args.entries.now cc) (cc) (λ x r q k. search (rules, tests))) (cc)) (cc)) c.loop-i.yielded _ c.loop-i.yielded_by _ _ _ c.in-Some.is c.next.ensures.steps in
    rw (length_push c.loop-i.yielded _) (rw c.loop-i.invariant (slotted_more (filter_map subtariff_of c.args.entries.now) (length c.loop-i.yielded) _ turn))

pub returns : goal.returns
returns c =
    let ss = filter_map subtariff_of c.args.entries.now in
    let all = YieldsList-end (YieldsList-from_enumerate (YieldsList-from_take 4 (YieldsList-from_filter_map _ subtariff_of (YieldsList-from_slice c.args.entries.now cc) (cc) (λ x r q k. search (rules, tests))) (cc)) (cc)) c.loop-i.yielded _ c.loop-i.yielded_by _ _ c.in-None.is c.next.ensures.steps in
    c.loop-i.invariant ∙ slotted_all 4 (length c.loop-i.yielded) ss (omega (arith, all.1, length-enumerate_from 0 (take 4 ss), length-take 4 ss))
    ∙ ap (slotted 4) (kept_listed subtariff_of c.args.entries.now)
