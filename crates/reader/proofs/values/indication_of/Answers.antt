use Rattle.std.proofs.Common.{◌≡◌, ap, ◌∙◌}
use Rattle.indication.specs.Format.{Content, content_of, decoded, encoded}
use Rattle.indication.proofs.Inverse.{encoded_decoded}
use Rattle.reader.proofs.values.indication_of.Goals as goal

pub returns : goal.returns
returns c =
    let says : ◌≡◌ {A = Content} (content_of record { header = c.header_of.result; current = c.entries.result; next = c.entries-2.result }) (decoded c.args.bytes.now) = cc in
    record { says = says; again = λ taken ok. ap encoded says ∙ encoded_decoded c.args.bytes.now (λ i. (c.type_inv.bytes i).fits) taken ok }
