-- The record that a list of requests ends in is, request by request, what the rules make of it. Lists are newest first.
use Rattle.std.specs.Prelude.{◌≡◌, ℕ, ◌^◌, ◌<◌, true, List, [], ◌∷◌, map}
use Rattle.std.specs.List.{AllByRecursion}
use Rattle.units.specs.Meanings.{Meaning, Sound}
use Rattle.record.specs.declared.call.Call.{Call}
use Rattle.record.specs.Calls.{opened, received_tariff, received_add_on, advanced, started, released}
use Rattle.readings.specs.Readings.{Reading, refused, says}
use Rattle.hearing.specs.Hearing.{ContentAdmitted, Shows}
use Rattle.account.specs.Requests.{Request, tariff, add_on, advance, start, release, amount_owed, look_ahead, total, line}
use Rattle.account.specs.Journals.{networks}
use Rattle.account.specs.Accounts.{account}
use Rattle.account.specs.Answers.{is_accepted, past, added_up}
use Rattle.account.specs.Records.{record_after}

abbrev pub ReadingAdmitted : Meaning → Reading → Type 0
ReadingAdmitted m (refused f) = Unit {0}
ReadingAdmitted m (says c) = ContentAdmitted m c

-- of a request: what its indication says is admitted, where it says something
abbrev pub RequestAdmitted : Meaning → Request → Type 0
RequestAdmitted m (tariff r) = ReadingAdmitted m r
RequestAdmitted m (add_on r) = ReadingAdmitted m r
RequestAdmitted m (advance n) = Unit {0}
RequestAdmitted m start = Unit {0}
RequestAdmitted m release = Unit {0}
RequestAdmitted m (amount_owed network) = Unit {0}
RequestAdmitted m (look_ahead network n) = Unit {0}
RequestAdmitted m total = Unit {0}
RequestAdmitted m (line k) = Unit {0}

-- what the rules make of a record by an accepted request
abbrev pub ruled : Meaning → Request → Call → Call
ruled m (tariff (refused f)) call = call
ruled m (tariff (says c)) call = received_tariff m c call
ruled m (add_on (refused f)) call = call
ruled m (add_on (says c)) call = received_add_on m c call
ruled m (advance n) call = advanced m n call
ruled m start call = started m call
ruled m release call = released m call
ruled m (amount_owed network) call = call
ruled m (look_ahead network n) call = call
ruled m total call = call
ruled m (line k) call = call

-- A call of no requests has just been opened.
abbrev pub NoRequestsOpened : Type 0
NoRequestsOpened = (m : Meaning) (opening : ℕ) → opening < 86400 → record_after m opening [] ≡ opened opening

-- The rules keep the record: one more accepted request changes it by its rule.
abbrev pub RulesKeepTheRecord : Type 0
RulesKeepTheRecord =
    (m : Meaning) → Sound m → (opening : ℕ) (r : Request) (h : List Request) → AllByRecursion (RequestAdmitted m) (r ∷ h)
    → is_accepted (past h) r ≡ true → record_after m opening (r ∷ h) ≡ ruled m r (record_after m opening h)

-- Sums fit: what all operators are owed together fits 64 bits.
abbrev pub SumsFit : Type 0
SumsFit =
    (m : Meaning) → Sound m → (opening : ℕ) (h : List Request) → AllByRecursion (RequestAdmitted m) h
    → added_up (map (account m opening (past h)) (networks (past h).journal)) < 2 ^ 64

-- The record shows whom the call knows.
abbrev pub RecordShowsTheKnown : Type 0
RecordShowsTheKnown = (m : Meaning) (opening : ℕ) (h : List Request) → Shows (record_after m opening h) (past h)
