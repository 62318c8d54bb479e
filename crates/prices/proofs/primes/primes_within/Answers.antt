use Rattle.std.proofs.Common.{◌-◌, ◌∙◌, refl, rules, tests, arith}
use Rattle.std.proofs.lemmas.Iterator.{YieldsList-from_range}
use Rattle.std.proofs.lemmas.Iterator.Consumers.{YieldsList-from_filter, count_from_yields_List}
use Rattle.std.proofs.lemmas.List.Sums.{length-filter}
use Rattle.std.specs.List.{range_with_len}
use Rattle.prices.specs.Primes.{is_prime}
use Rattle.prices.proofs.Tails.{counted_range, counted_below}
use Rattle.prices.proofs.primes.primes_within.Goals as goal

pub returns : goal.returns
returns c =
    let from = c.args.from in
    let n = c.min-end.result - from in
    count_from_yields_List c.filter.result _ c.count.ensures.ran
    (YieldsList-from_filter _ is_prime (YieldsList-from_range from c.min-end.result n c.filter.ensures.source refl) c.filter.ensures.closure (λ x b q k. search (rules, tests)))
    ∙ length-filter is_prime (range_with_len from n) ∙ counted_range is_prime from n ∙ counted_below from c.args.count n (omega arith)
