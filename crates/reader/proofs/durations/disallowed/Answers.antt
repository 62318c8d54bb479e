use Rattle.std.proofs.Common.{◌+◌, arith, rules}
use borrow.Author.Tests.{tests}
use Rattle.std.proofs.lemmas.Iterator.{first_from_Range}
use Rattle.indication.specs.Format.{term_offset}
use Rattle.indication.specs.Rules.{AllowedAt}
use Rattle.reader.proofs.Places.{first_place}
use Rattle.reader.proofs.durations.disallowed.Goals as goal

pub returns : goal.returns
returns c =
    let b = c.args.bytes.now in
    first_place (AllowedAt b) (λ i. term_offset b i + 1) _ _ _ _ c.entry_count.ensures (λ i j l. omega arith)
    (first_from_Range _ _ _ c.find.result (λ i. AllowedAt b i → ⊥) (AllowedAt b) c.find.ensures.ran (λ x q k. search (rules, tests)) (λ x q k. search (rules, tests)))
    (search rules)
