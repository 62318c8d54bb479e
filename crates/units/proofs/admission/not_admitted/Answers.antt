use Rattle.std.proofs.Common.{◌≡◌, true, false, refl, arith, rules, tests}
use Rattle.std.proofs.lemmas.Iterator.{first_from_find, YieldsList-from_range}
use Rattle.reader.specs.Readers.{lent}
use Rattle.units.specs.Admission.{admits_at}
use Rattle.units.proofs.Grounded.{first_charge}
use Rattle.units.proofs.Searches.{found_below}
use Rattle.units.proofs.admission.not_admitted.Goals as goal

pub returns : goal.returns
returns g c =
    let m = g.U.Unit.meaning c.args.unit.now in
    let b = lent c.args.reader.now in
    let n = c.entry_count.result in
    let found = first_from_find _ _ c.find.result (λ i. admits_at m b i ≡ false) (λ i. admits_at m b i ≡ true) c.find.ensures.ran
    (YieldsList-from_range 0 n n refl (omega arith)) (λ x q k. search (rules, tests)) (λ x q k. search (rules, tests)) in
    search (rules, first_charge m b n c.find.result c.map.result (found_below (admits_at m b) n c.find.result found))
