-- Which indications a call refuses.
use Rattle.std.specs.Prelude.{◌≡◌, ℕ, ◌<◌, ◌≤◌, false, List, None, Result, MatchResult}
use Rattle.indication.specs.declared.header.Kind.{Kind}
use Rattle.indication.specs.declared.header.Kind.TheVariants.{Tariff, AddOn}
use Rattle.indication.specs.declared.fault.Fault.{Fault}
use Rattle.indication.specs.declared.fault.Fault.TheVariants.{WrongLength, BrokenLayout, EmptyTariff, WrongDuration, ForeignMark, NotAdmitted, NoRoom, TooManyIndications, AddOnBeforeTariff, NoCurrentTariff, TooManyNetworks, PastLimit}
use Rattle.indication.specs.Format.{Content, current_count, decoded, header_of}
use Rattle.indication.specs.Rules.{Foremost, Groundless}
use Rattle.units.specs.Meanings.{Meaning}
use Rattle.units.specs.Admission.{UnitGrounds}
use Rattle.record.specs.declared.call.Call.{Call}
use Rattle.record.specs.Calls.{seat_of, is_seated, received_tariff, received_add_on, advanced, seconds_left}

-- the indication's network has no accepted tariff
abbrev pub IsStranger : Call → List ℕ → Type 0
IsStranger call b = is_seated (header_of b).network call.operators ≡ false

-- To the grounds of reader and unit come those of the call: 512 indications were accepted; an add-on, or a tariff
-- indication without a current tariff, is the first of its network; a tariff indication comes from a fifth network.
abbrev pub CallGrounds : Meaning → Call → Kind → List ℕ → Fault → Type 0
CallGrounds m call taken b TooManyIndications = 512 ≤ call.accepted
CallGrounds m call taken b AddOnBeforeTariff = (taken ≡ AddOn) × IsStranger call b
CallGrounds m call taken b NoCurrentTariff = (taken ≡ Tariff) × IsStranger call b × (current_count b ≡ 0)
CallGrounds m call taken b TooManyNetworks = (taken ≡ Tariff) × (seat_of (header_of b).network call.operators ≡ None)
CallGrounds m call taken b (PastLimit left) = ⊥
CallGrounds m call taken b (WrongLength at) = UnitGrounds m taken b (WrongLength at)
CallGrounds m call taken b (BrokenLayout at) = UnitGrounds m taken b (BrokenLayout at)
CallGrounds m call taken b EmptyTariff = UnitGrounds m taken b EmptyTariff
CallGrounds m call taken b (WrongDuration at) = UnitGrounds m taken b (WrongDuration at)
CallGrounds m call taken b ForeignMark = UnitGrounds m taken b ForeignMark
CallGrounds m call taken b (NotAdmitted at) = UnitGrounds m taken b (NotAdmitted at)
CallGrounds m call taken b (NoRoom needed) = ⊥

abbrev pub received_as : Kind → Meaning → Content → Call → Call
received_as Tariff m c call = received_tariff m c call
received_as AddOn m c call = received_add_on m c call

-- Bytes are received as an indication of a kind: it is accepted where no refusal has a ground, and otherwise refused by
-- the foremost one, and the call is as it was.
abbrev pub Received : {X : Type 0} → Meaning → Call → Kind → List ℕ → Result X Fault → Call → Type 0
Received m call taken b r exit =
    MatchResult r (λ _. Groundless (CallGrounds m call taken b) × (exit ≡ received_as taken m (decoded b) call))
    (λ f. Foremost (CallGrounds m call taken b) f × (exit ≡ call))

-- n seconds pass where so many are left, and an advance past the limit is refused, and the call is as it was
abbrev pub Passes : {X : Type 0} → Meaning → Call → ℕ → Result X Fault → Call → Type 0
Passes m call n r exit =
    MatchResult r (λ _. (n ≤ seconds_left call.clock) × (exit ≡ advanced m n call))
    (λ f. (seconds_left call.clock < n) × (f ≡ PastLimit (seconds_left call.clock)) × (exit ≡ call))
