-- Which requests are accepted, what each is answered, and what a list of them comes down to. Lists are newest first.
use Rattle.std.specs.Prelude.{ℕ, zero, suc, ◌+◌, Bool, true, false, cond, not, ◌&&◌, List, [], ◌∷◌, map, length, is_some, Some, None, Option, nat_le, nat_lt}
use Rattle.std.specs.Bool.{then_some}
use Rattle.indication.specs.declared.fault.Fault.{Fault}
use Rattle.indication.specs.declared.fault.Fault.TheVariants.{TooManyIndications, AddOnBeforeTariff, NoCurrentTariff, TooManyNetworks, PastLimit}
use Rattle.indication.specs.Format.{Content}
use Rattle.units.specs.Meanings.{Meaning}
use Rattle.record.specs.declared.call.Phase.{Phase}
use Rattle.record.specs.declared.call.Phase.TheVariants.{SetUp, Charging, Closed}
use Rattle.record.specs.Operators.{is_charging, current_tariff}
use Rattle.record.specs.Calls.{seconds_left}
use Rattle.record.specs.declared.statement.StatementLine.{StatementLine}
use Rattle.account.specs.declared.answer.Answer.{Answer}
use Rattle.account.specs.declared.answer.Answer.TheVariants.{NotAllowed, Refused, Accepted, Owed, Total, Line}
use Rattle.readings.specs.Readings.{refused, says}
use Rattle.account.specs.Requests.{Request, tariff, add_on, advance, start, release, amount_owed, look_ahead, total, line}
use Rattle.account.specs.Journals.{Event, tariff_came, add_on_came, started, released, Dated, Past, phase_of, accepted_in, is_known, networks}
use Rattle.account.specs.Accounts.{account}

abbrev pub is_set_up : Phase → Bool
is_set_up SetUp = true
is_set_up Charging = false
is_set_up Closed = false

abbrev pub is_closed : Phase → Bool
is_closed SetUp = false
is_closed Charging = false
is_closed Closed = true

-- the requests that each phase allows
abbrev pub is_allowed : Phase → Request → Bool
is_allowed phase (tariff r) = not (is_closed phase)
is_allowed phase (add_on r) = is_charging phase
is_allowed phase (advance n) = not (is_closed phase)
is_allowed phase start = is_set_up phase
is_allowed phase release = not (is_closed phase)
is_allowed phase (amount_owed network) = is_charging phase
is_allowed phase (look_ahead network n) = is_charging phase
is_allowed phase total = is_closed phase
is_allowed phase (line k) = is_closed phase

-- 512 indications are accepted at most
abbrev pub is_full : List Dated → Bool
is_full j = nat_le 512 (accepted_in j)

-- the first tariff indication of a network has a current tariff, and there are four networks at most
abbrev pub stranger_refusal : List Dated → Content → Option Fault
stranger_refusal j c =
    cond (is_some (current_tariff c))
    (cond (nat_le 4 (length (networks j))) (Some TooManyNetworks) None)
    (Some NoCurrentTariff)

abbrev pub tariff_refusal : List Dated → Content → Option Fault
tariff_refusal j c =
    cond (is_full j) (Some TooManyIndications)
    (cond (is_known c.header.network j) None (stranger_refusal j c))

-- an add-on comes from a known network
abbrev pub add_on_refusal : List Dated → Content → Option Fault
add_on_refusal j c =
    cond (is_full j) (Some TooManyIndications)
    (cond (is_known c.header.network j) None (Some AddOnBeforeTariff))

-- no more seconds pass than are left
abbrev pub time_refusal : ℕ → ℕ → Option Fault
time_refusal clock n = cond (nat_lt (seconds_left clock) n) (Some (PastLimit (seconds_left clock))) None

-- the refusal of a request, by the smallest number
abbrev pub refusal : Past → Request → Option Fault
refusal p (tariff (refused f)) = Some f
refusal p (tariff (says c)) = tariff_refusal p.journal c
refusal p (add_on (refused f)) = Some f
refusal p (add_on (says c)) = add_on_refusal p.journal c
refusal p (advance n) = time_refusal p.clock n
refusal p start = None
refusal p release = None
refusal p (amount_owed network) = None
refusal p (look_ahead network n) = time_refusal p.clock n
refusal p total = None
refusal p (line k) = None

abbrev pub is_accepted : Past → Request → Bool
is_accepted p r = is_allowed (phase_of p.journal) r && not (is_some (refusal p r))

abbrev pub later : ℕ → Past → Past
later n p = record { journal = p.journal; clock = p.clock + n }

abbrev pub entered : Event → Past → Past
entered e p = record { journal = record { at = p.clock; event = e } ∷ p.journal; clock = p.clock }

-- an accepted request: an indication, the start and the release are entered, and an advance moves the clock
abbrev pub further : Request → Past → Past
further (tariff (refused f)) p = p
further (tariff (says c)) p = entered (tariff_came c) p
further (add_on (refused f)) p = p
further (add_on (says c)) p = entered (add_on_came c) p
further (advance n) p = later n p
further start p = entered started p
further release p = entered released p
further (amount_owed network) p = p
further (look_ahead network n) p = p
further total p = p
further (line k) p = p

abbrev pub past_after : Request → Past → Past
past_after r p = cond (is_accepted p r) (further r p) p

-- what a list of requests comes down to
abbrev pub past : List Request → Past
past [] = record { journal = []; clock = 0 }
past (r ∷ h) = past_after r (past h)

abbrev pub owed_to : Meaning → ℕ → Past → ℕ → Option ℕ
owed_to m opening p network = then_some (is_known network p.journal) (account m opening p network)

abbrev pub added_up : List ℕ → ℕ
added_up [] = 0
added_up (x ∷ xs) = x + added_up xs

abbrev pub line_of : {T : Type 0} → ℕ → List T → Option T
line_of k [] = None
line_of zero (x ∷ xs) = Some x
line_of (suc k) (x ∷ xs) = line_of k xs

-- each network with its amount, in order of first acceptance
abbrev pub statement : Meaning → ℕ → Past → List StatementLine
statement m opening p =
    map (λ network. record { network = network; amount = account m opening p network }) (networks p.journal)

abbrev pub reply : Meaning → ℕ → Past → Request → Answer
reply m opening p (tariff r) = Accepted
reply m opening p (add_on r) = Accepted
reply m opening p (advance n) = Accepted
reply m opening p start = Accepted
reply m opening p release = Accepted
reply m opening p (amount_owed network) = Owed (owed_to m opening p network)
reply m opening p (look_ahead network n) = Owed (owed_to m opening (later n p) network)
reply m opening p total = Total (added_up (map (account m opening p) (networks p.journal)))
reply m opening p (line k) = Line (line_of k (statement m opening p))

abbrev pub reply_unless : Option Fault → Meaning → ℕ → Past → Request → Answer
reply_unless (Some f) m opening p r = Refused f
reply_unless None m opening p r = reply m opening p r

abbrev pub answer : Meaning → ℕ → Past → Request → Answer
answer m opening p r =
    cond (is_allowed (phase_of p.journal) r) (reply_unless (refusal p r) m opening p r) NotAllowed

-- the answers to a list of requests
abbrev pub answers : Meaning → ℕ → List Request → List Answer
answers m opening [] = []
answers m opening (r ∷ h) = answer m opening (past h) r ∷ answers m opening h
