use Rattle.std.proofs.Common.{◌≡◌, ◌++◌, map}
use Rattle.std.specs.List.{flat_map, AllByRecursion}
use Rattle.indication.specs.Fits.{ChargeFits, TermFits}
use Rattle.indication.specs.Format.{charge_bytes, term_bytes}
use Rattle.writer.proofs.encoding.encoding_of.Given as goal

abbrev pub invariant-loop-entry : goal.invariant-loop-entry
invariant-loop-entry l =
    (l.encoding.items ≡ l.initial.encoding.items ++ flat_map charge_bytes (map (λ e. e.now) l.yielded))
    × AllByRecursion ChargeFits (map (λ e. e.now) l.yielded)

abbrev pub invariant-loop-entry-2 : goal.invariant-loop-entry-2
invariant-loop-entry-2 l =
    (l.encoding.items ≡ l.initial.encoding.items ++ flat_map term_bytes (map (λ e. e.now) l.yielded))
    × AllByRecursion TermFits (map (λ e. e.now) l.yielded)
