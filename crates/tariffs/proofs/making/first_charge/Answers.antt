use denote.Enum.Bare.{same_true, same_false}
use Rattle.std.proofs.Common.{◌≡◌, rules, tests}
use Rattle.std.proofs.lemmas.Iterator.{YieldsList-from_slice, first_from_find}
use Rattle.indication.specs.contracts.entry.Usage.{the_type}
use Rattle.tariffs.proofs.Uses.{first_found}
use Rattle.tariffs.proofs.making.first_charge.Goals as goal

pub returns : goal.returns
returns c =
    let found = first_from_find _ _ c.find.result (λ e. e.term.usage ≡ c.args.usage) (λ e. e.term.usage ≡ c.args.usage → ⊥) c.find.ensures.ran
    (YieldsList-from_slice c.args.entries.now cc)
    (λ x q k. same_true the_type (search rules) _ _ (search (rules, tests)))
    (λ x q k. (search (rules, tests), same_false the_type _ _ (search (rules, tests)))) in
    search (rules, first_found c.args.usage c.args.entries.now c.find.result c.map.result found)
