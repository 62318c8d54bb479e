use Rattle.std.proofs.Common.{◌≡◌, ℕ, Some, None, Option, refl}
use Rattle.std.specs.Option.{option_and}
use Rattle.tariffs.specs.declared.tariff.Tariff.{Tariff}
use Rattle.record.specs.Operators.{due_for}
use Rattle.record.specs.Quarters.{due_at}
use Rattle.record.proofs.call.Call.due_for.Goals as goal

due_and : (opening quarter now : ℕ) (next : Option Tariff) → option_and next (Some (due_at opening quarter now)) ≡ due_for opening quarter now next
due_and opening quarter now None = refl
due_and opening quarter now (Some t) = refl

pub returns : goal.returns
returns c =
    let call = c.args.self.now in
    rw (c.and.ensures, c.due_at.ensures, due_and call.opening c.args.quarter call.clock c.args.next)
