use Rattle.std.proofs.Common.{refl}
use Rattle.reader.proofs.Refusals.{header_refused, use_refused, empty_refused, duration_refused, accepted}
use Rattle.reader.proofs.reading.Reader.read.Goals as goal

pub returns-in-Some-broken_header : goal.returns-in-Some-broken_header
returns-in-Some-broken_header c = header_refused _ _ c.in_default.ensures.first _ c.in-Some-broken_header.ensures

pub returns-in-Some-broken_use : goal.returns-in-Some-broken_use
returns-in-Some-broken_use c =
    use_refused _ _ c.in_default.ensures.first c.in_default-broken_header.ensures _ c.in-Some-broken_use.ensures

pub returns-then-is_empty : goal.returns-then-is_empty
returns-then-is_empty c =
    empty_refused _ _ c.in_default.ensures.first c.in_default-broken_header.ensures c.in_default-broken_use.ensures
    c.if-is_empty.ensures

pub returns-in-Some-disallowed : goal.returns-in-Some-disallowed
returns-in-Some-disallowed c =
    duration_refused _ _ c.in_default.ensures.first c.in_default-broken_header.ensures c.in_default-broken_use.ensures
    c.if-is_empty.ensures _ c.in-Some-disallowed.ensures

pub returns : goal.returns
returns c = (
  accepted _ _ c.in_default.ensures.first c.in_default-broken_header.ensures c.in_default-broken_use.ensures
      c.if-is_empty.ensures c.in_default-disallowed.ensures,
  refl,
)
