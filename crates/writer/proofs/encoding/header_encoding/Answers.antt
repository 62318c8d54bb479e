use Rattle.std.proofs.Common.{◌≡◌, ◌++◌, ap, ◌∙◌}
use Rattle.indication.specs.Numbers.{big_endian}
use Rattle.indication.specs.Format.{header_bytes}
use Rattle.writer.proofs.Steps.{header_laid, last_byte}
use Rattle.writer.proofs.encoding.header_encoding.Goals as goal

pub returns-clause-bytes : goal.returns-clause-bytes
returns-clause-bytes c =
    let n_last = last_byte c.args.header.network in
    let r_last = last_byte c.args.header.reference in
    let n : c.to_be_bytes.result ≡ big_endian 8 c.args.header.network = cc in
    let r : c.to_be_bytes-2.result ≡ big_endian 4 c.args.header.reference = cc in
    header_laid c.args.current c.args.next c.args.header _ _ _ _ _ _ _ _ _ c.first_eight.ensures n r c.put.ensures c.put-2.ensures
    c.put-3.ensures c.put-4.ensures c.put-5.ensures
    ∙ ap (λ w. w ++ header_bytes c.args.current c.args.next c.args.header) c.new-encoding.ensures
