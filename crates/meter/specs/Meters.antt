-- What a meter has come to by a list of requests. Lists are newest first.
use Rattle.std.specs.Prelude.{◌≡◌, ℕ, Bool, true, cond, not, List, [], ◌∷◌, map}
use Rattle.units.specs.Meanings.{Meaning}
use Rattle.record.specs.declared.call.Phase.{Phase}
use Rattle.record.specs.declared.call.Phase.TheVariants as phase
use Rattle.record.specs.declared.call.Call.{Call}
use Rattle.inquiry.specs.Inquiries.{owed_in}
use Rattle.account.specs.declared.answer.Answer.{Answer}
use Rattle.account.specs.Requests.{Asked, Request, understood, tariff, add_on, advance, start, release, amount_owed, look_ahead, total, line}
use Rattle.account.specs.Answers.{past, answers, owed_to}
use Rattle.account.specs.Records.{record_after}
use Rattle.account.specs.Laws.{plain, is_advance, is_about, alone, finds_room, answers_to}
use Rattle.meter.specs.declared.request.Request as declared
use Rattle.meter.specs.declared.request.Request.TheVariants.{Tariff, AddOn, Advance, Start, Release, AmountOwed, LookAhead, Total, Line}
use Rattle.meter.specs.declared.meter.Meter.{Meter}
use Rattle.meter.specs.declared.meter.Meter.TheVariants.{SetUp, Charging, Closed}

-- a request of the program, with the bytes of its indication
abbrev pub asked : declared.Request → Asked
asked (Tariff bytes) = tariff bytes.now
asked (AddOn bytes) = add_on bytes.now
asked (Advance n) = advance n
asked Start = start
asked Release = release
asked (AmountOwed network) = amount_owed network
asked (LookAhead network n) = look_ahead network n
asked Total = total
asked (Line k) = line k

-- requests as a meter of a unit understands them
abbrev pub heard : Meaning → List Asked → List Request
heard m h = map (understood m) h

-- a meter's record, its unit, and the phase that its type says
abbrev pub call_of : {U : Type 0} → Meter U → Call
call_of (SetUp s) = s.call
call_of (Charging s) = s.call
call_of (Closed s) = s.call

abbrev pub unit_of : {U : Type 0} → Meter U → U
unit_of (SetUp s) = s.unit
unit_of (Charging s) = s.unit
unit_of (Closed s) = s.unit

abbrev pub state_of : {U : Type 0} → Meter U → Phase
state_of (SetUp s) = phase.SetUp
state_of (Charging s) = phase.Charging
state_of (Closed s) = phase.Closed

-- those of some answers whose requests pass a test
abbrev pub chosen : (Request → Bool) → List Request → List Answer → List Answer
chosen p [] given = []
chosen p (r ∷ h) [] = []
chosen p (r ∷ h) (a ∷ given) = cond (p r) (a ∷ chosen p h given) (chosen p h given)

-- The theorem of the meter, for the requests h, the answers that were given to them and the record in which they ended.
pub record Accounted (m : Meaning) (opening : ℕ) (h : List Asked) (given : List Answer) (call : Call) : Type 0 where
  -- every answer is the one that the definitions give
  pub answered : given ≡ answers m opening (heard m h)
  -- the record is the one that the definitions give: each operator is owed its account
  pub recorded : call ≡ record_after m opening (heard m h)
  -- however else the time is cut into advances, the answers to all other requests and the record are the same
  pub uncut :
      (k : List Asked) → plain (heard m k) ≡ plain (heard m h)
      → (answers_to (λ r. not (is_advance r)) m opening (heard m k) ≡ chosen (λ r. not (is_advance r)) (heard m h) given)
      × (record_after m opening (heard m k) ≡ call)
  -- with the indications of all other networks struck out, what a network is owed and the answers to its indications and
  -- about it are the same, if none of its indications was refused for too many of them or as a fifth network
  pub independent :
      (network : ℕ) → finds_room network (heard m h) ≡ true
      → (answers_to (is_about network) m opening (alone network (heard m h)) ≡ chosen (is_about network) (heard m h) given)
      × (owed_to m opening (past (alone network (heard m h))) network ≡ owed_in network call.operators)

-- a meter that was opened at a second of the day has come, by the requests h, to the answers that were given
pub record CameBy {U : Type 0} (m : Meaning) (opening : ℕ) (h : List Asked) (given : List Answer) (meter : Meter U) : Type 0 where
  pub accounted : Accounted m opening h given (call_of meter)
  -- its type is that of its phase
  pub phased : state_of meter ≡ (call_of meter).phase

-- A request is performed: whatever requests and answers the meter has come by, it has come by one more of each, and its
-- unit is the same.
pub record Performs {U : Type 0} (meaning : U → Meaning) (before : Meter U) (r : Asked) (after : Meter U) (given : Answer) : Type 0 where
  pub kept : unit_of after ≡ unit_of before
  pub came :
      (opening : ℕ) (h : List Asked) (earlier : List Answer) → CameBy (meaning (unit_of before)) opening h earlier before
      → CameBy (meaning (unit_of before)) opening (r ∷ h) (given ∷ earlier) after
