-- What the record of a call shows of its journal, and what it refuses by it.
use Rattle.std.specs.Prelude.{◌≡◌, ℕ, ◌≤◌, true, false, List, length, Some, None}
use Rattle.std.specs.List.{AllByRecursion}
use Rattle.indication.specs.declared.entry.Entry.{Entry}
use Rattle.indication.specs.declared.header.Kind.{Kind}
use Rattle.indication.specs.declared.header.Kind.TheVariants.{Tariff, AddOn}
use Rattle.indication.specs.declared.fault.Fault.{Fault}
use Rattle.indication.specs.Format.{Content, decoded, entries}
use Rattle.indication.specs.Rules.{Foremost, Groundless}
use Rattle.units.specs.Meanings.{Meaning, admitted}
use Rattle.readings.specs.Readings.{says, reading}
use Rattle.record.specs.declared.call.Call.{Call}
use Rattle.record.specs.Calls.{seat_of, is_seated}
use Rattle.record.specs.Refusals.{CallGrounds}
use Rattle.account.specs.Requests.{RequestOf, tariff, add_on}
use Rattle.account.specs.Journals.{Past, accepted_in, is_known, networks}
use Rattle.account.specs.Answers.{refusal}

-- the record shows whom the call knows and how many indications it has accepted
pub record Shows (call : Call) (p : Past) : Type 0 where
  pub count : call.accepted ≡ accepted_in p.journal
  pub known : (n : ℕ) → is_seated n call.operators ≡ is_known n p.journal
  -- a network has no seat where the call knows four others
  pub no_seat : (n : ℕ) → seat_of n call.operators ≡ None → (is_known n p.journal ≡ false) × (4 ≤ length (networks p.journal))
  pub seat : (n : ℕ) → is_known n p.journal ≡ false → 4 ≤ length (networks p.journal) → seat_of n call.operators ≡ None

-- the request that brings an indication of a kind
abbrev pub bringing : {I : Type 0} → Kind → I → RequestOf I
bringing Tariff i = tariff i
bringing AddOn i = add_on i

-- Where the record shows the journal, the refusal that goes before all others with a ground in the record is the one
-- that the request is refused with; where none has a ground, the indication is read and the request is not refused.
abbrev pub RefusalsAreHeard : Type 0
RefusalsAreHeard =
    (m : Meaning) (call : Call) (p : Past) (taken : Kind) (b : List ℕ) → Shows call p
    → ((f : Fault) → Foremost (CallGrounds m call taken b) f → refusal p (bringing taken (reading m taken b)) ≡ Some f)
    × (Groundless (CallGrounds m call taken b)
    → (reading m taken b ≡ says (decoded b)) × (refusal p (bringing taken (reading m taken b)) ≡ None))

-- the charge of an entry is admitted for its use
abbrev pub EntryAdmitted : Meaning → Entry → Type 0
EntryAdmitted m e = admitted m e.charge e.term.usage ≡ true

-- so is every charge of an indication
abbrev pub ContentAdmitted : Meaning → Content → Type 0
ContentAdmitted m c = AllByRecursion (EntryAdmitted m) (entries c)

-- what an indication says where it is read for a unit is admitted
abbrev pub WhatIsSaidIsAdmitted : Type 0
WhatIsSaidIsAdmitted =
    (m : Meaning) (taken : Kind) (b : List ℕ) (c : Content) → reading m taken b ≡ says c → ContentAdmitted m c
