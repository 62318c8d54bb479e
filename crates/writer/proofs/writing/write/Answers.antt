use Rattle.std.proofs.Common.{arith}
use Rattle.indication.specs.Format.{content_of}
use Rattle.writer.proofs.Writings.{copied}
use Rattle.writer.proofs.writing.write.Goals as goal

pub returns : goal.returns
returns c =
    copied (content_of c.args.indication.now) _ c.as_slice-bytes.result.now c.args.out.now _ c.encoding_of-encoding.ensures.fits
    c.encoding_of-encoding.ensures.bytes c.as_slice-bytes.ensures.value c.in_ok-read.ensures.0 (omega arith) c.copy_from_slice.ensures.after
