use Rattle.std.proofs.Common.{◌+◌, ◌<◌, sym, refl, ◌∙◌, arith, rules}
use Rattle.std.proofs.lemmas.List.{same_lists}
use Rattle.std.proofs.lemmas.List.FromFn.{length-map-range_with_len, get_or-map-range_with_len}
use Rattle.indication.specs.Format.{byte as byte_at}
use Rattle.reader.proofs.Parts.{each_by_call}
use Rattle.reader.proofs.bytes.part.Goals as goal

pub returns : goal.returns
returns g c =
    let b = c.args.bytes.now in
    let at = c.args.at in
    let items = c.from_fn.ensures.items in
    same_lists _ _ (items.long ∙ sym (length-map-range_with_len (byte_at b) at g.row.N))
    (λ k d h.
    let l : k < g.row.N = omega (arith, items.long) in
    each_by_call _ _ (λ i. byte_at b (at + i)) (λ i y q called. search rules) _ 0 g.row.N items.each k d (omega arith) (omega arith)
    ∙ sym (get_or-map-range_with_len (byte_at b) at g.row.N k (at + k) d l refl))
