use Rattle.tariffs.proofs.Charges.{charged_once, prices}
use Rattle.tariffs.proofs.tariff.Tariff.price_of_one_pass.Goals as goal

pub returns : goal.returns
returns g c =
    let m = g.U.Unit.meaning c.args.unit.now in
    prices m (g.met.U.Unit.sound c.args.unit.now) c.args.self.now _ _ _ _ (charged_once m c.args.self.now _ _ c.requires) c.price_of_pass.ensures
