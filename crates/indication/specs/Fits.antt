-- The numbers of a content have the widths of their types, as those of every value of the program do.
use Rattle.std.specs.Prelude.{◌≡◌, ◌^◌, ◌<◌, ◌≤◌, length, FitsSigned}
use Rattle.std.specs.Int.{w16}
use Rattle.std.specs.List.{AllByRecursion}
use Rattle.indication.specs.declared.entry.Entry.{Entry}
use Rattle.indication.specs.declared.header.Header.{Header}
use Rattle.indication.specs.Format.{Content, entries}

abbrev pub ChargeFits : Entry → Type 0
ChargeFits e = (e.charge.size < 2 ^ 32) × FitsSigned w16 e.charge.step

abbrev pub TermFits : Entry → Type 0
TermFits e = e.term.duration < 2 ^ 16

pub record HeaderFits (h : Header) : Type 0 where
  pub letters : length h.mark.letters ≡ 3
  pub network : h.network < 2 ^ 64
  pub reference : h.reference < 2 ^ 32

pub record Fits (c : Content) : Type 0 where
  pub few_current : length c.current ≤ 6
  pub few_next : length c.next ≤ 6
  pub header : HeaderFits c.header
  pub charges : AllByRecursion ChargeFits (entries c)
  pub terms : AllByRecursion TermFits (entries c)
