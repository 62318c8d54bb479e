use Rattle.std.proofs.Common.{length, refl, ap, subst, arith}
use Rattle.std.specs.List.{AllByRecursion}
use Rattle.std.proofs.lemmas.Iterator.{YieldsList-from_slice}
use Rattle.std.proofs.lemmas.Iterator.Consumers.{YieldsList-turn, YieldsList-end, YieldsList-from_chain}
use Rattle.indication.specs.Fits.{ChargeFits, TermFits}
use Rattle.indication.specs.Format.{charge_bytes, term_bytes, content_of, listed}
use Rattle.writer.proofs.Steps.{all_laid, length_behind, few, few_of_both}
use Rattle.writer.proofs.encoding.encoding_of.Goals as goal

pub put-requires : goal.put-requires
put-requires c =
    let v = c.args.indication.now in
    let turn = YieldsList-turn (YieldsList-from_chain (YieldsList-from_slice (listed v.current) (cc)) (YieldsList-from_slice (listed v.next) (cc)) (cc) (cc)) c.loop-entry.yielded _ c.loop-entry.yielded_by _ _ c.in-Some.entry c.in-Some.is c.next.ensures.steps in
    omega (
      arith,
      few_of_both v.current v.next,
      turn.0,
      length_behind charge_bytes 6 (λ e. refl) (λ e. e.now) _ _ _ c.loop-entry.invariant.0,
      ap length c.charge_bytes.ensures.bytes,
    )

pub put-requires-in-loop-entry-2 : goal.put-requires-in-loop-entry-2
put-requires-in-loop-entry-2 c =
    let v = c.args.indication.now in
    let charged = YieldsList-end (YieldsList-from_chain (YieldsList-from_slice (listed v.current) (cc)) (YieldsList-from_slice (listed v.next) (cc)) (cc) (cc)) c.loop-entry.yielded _ c.loop-entry.yielded_by _ _ c.in-None.is c.next.ensures.steps in
    let turn = YieldsList-turn (YieldsList-from_chain (YieldsList-from_slice (listed v.current) (cc)) (YieldsList-from_slice (listed v.next) (cc)) (cc) (cc)) c.loop-entry-2.yielded _ c.loop-entry-2.yielded_by _ _ c.in-Some-entry.entry c.in-Some-entry.is c.next-in-loop-entry-2.ensures.steps in
    omega (
      arith,
      few_of_both v.current v.next,
      charged.1,
      turn.0,
      length_behind charge_bytes 6 (λ e. refl) (λ e. e.now) _ _ _ c.loop-entry.invariant.0,
      length_behind term_bytes 3 (λ e. refl) (λ e. e.now) _ _ _ c.loop-entry-2.invariant.0,
      ap length c.term_bytes.ensures.bytes,
    )

pub returns : goal.returns
returns c =
    let v = c.args.indication.now in
    let charged = YieldsList-end (YieldsList-from_chain (YieldsList-from_slice (listed v.current) (cc)) (YieldsList-from_slice (listed v.next) (cc)) (cc) (cc)) c.loop-entry.yielded _ c.loop-entry.yielded_by _ _ c.in-None.is c.next.ensures.steps in
    let timed = YieldsList-end (YieldsList-from_chain (YieldsList-from_slice (listed v.current) (cc)) (YieldsList-from_slice (listed v.next) (cc)) (cc) (cc)) c.loop-entry-2.yielded _ c.loop-entry-2.yielded_by _ _ c.in-None-entry.is c.next-in-loop-entry-2.ensures.steps in
    record {
      bytes =
          all_laid (content_of v) _ _ _ _ _ _ _ c.as_slice-current.ensures c.as_slice-next.ensures charged.0 timed.0 c.header_encoding-encoding.ensures.bytes c.loop-entry.invariant.0
          c.loop-entry-2.invariant.0;
      fits = record {
        few_current = few v.current;
        few_next = few v.next;
        header = c.header_encoding-encoding.ensures.fits;
        charges = subst (AllByRecursion ChargeFits) charged.0 c.loop-entry.invariant.1;
        terms = subst (AllByRecursion TermFits) timed.0 c.loop-entry-2.invariant.1;
      };
    }
