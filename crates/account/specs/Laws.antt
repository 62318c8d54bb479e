-- Two laws of the account. Lists are newest first.
use Rattle.std.specs.Prelude.{◌≡◌, ℕ, zero, suc, Bool, true, false, cond, not, ◌&&◌, ◌||◌, List, [], ◌∷◌, ◌++◌, Some, None, Option, ◌==◌}
use Rattle.indication.specs.declared.fault.Fault.{Fault}
use Rattle.indication.specs.Faults.{number_of}
use Rattle.units.specs.Meanings.{Meaning}
use Rattle.account.specs.declared.answer.Answer.{Answer}
use Rattle.readings.specs.Readings.{Reading, refused, says}
use Rattle.account.specs.Requests.{Request, tariff, add_on, advance, start, release, amount_owed, look_ahead, total, line}
use Rattle.account.specs.Journals.{Past, phase_of}
use Rattle.account.specs.Answers.{is_allowed, is_accepted, refusal, past, answer, owed_to}
use Rattle.account.specs.Records.{record_after}

-- n advances of one second
abbrev pub seconds : ℕ → List Request
seconds zero = []
seconds (suc n) = advance 1 ∷ seconds n

-- a request in the plain form of a list: nothing for an advance that was not accepted, and n advances of one second for
-- any other advance of n
abbrev pub plainly : Request → Bool → List Request
plainly (tariff r) taken = tariff r ∷ []
plainly (add_on r) taken = add_on r ∷ []
plainly (advance n) taken = cond taken (seconds n) []
plainly start taken = start ∷ []
plainly release taken = release ∷ []
plainly (amount_owed network) taken = amount_owed network ∷ []
plainly (look_ahead network n) taken = look_ahead network n ∷ []
plainly total taken = total ∷ []
plainly (line k) taken = line k ∷ []

abbrev pub plain : List Request → List Request
plain [] = []
plain (r ∷ h) = plainly r (is_accepted (past h) r) ++ plain h

abbrev pub is_advance : Request → Bool
is_advance (tariff r) = false
is_advance (add_on r) = false
is_advance (advance n) = true
is_advance start = false
is_advance release = false
is_advance (amount_owed network) = false
is_advance (look_ahead network n) = false
is_advance total = false
is_advance (line k) = false

-- the answers to all requests that pass a test
abbrev pub answers_to : (Request → Bool) → Meaning → ℕ → List Request → List Answer
answers_to p m opening [] = []
answers_to p m opening (r ∷ h) =
    cond (p r) (answer m opening (past h) r ∷ answers_to p m opening h) (answers_to p m opening h)

-- However the time is cut into advances: two lists with the same plain form have the same answers to all requests but
-- the advances, and end in the same record.
abbrev pub CutsOfTimeDoNotMatter : Type 0
CutsOfTimeDoNotMatter =
    (m : Meaning) (opening : ℕ) (h k : List Request) → plain h ≡ plain k
    → (answers_to (λ r. not (is_advance r)) m opening h ≡ answers_to (λ r. not (is_advance r)) m opening k)
    × (record_after m opening h ≡ record_after m opening k)

-- the indication is one of a network; one that was refused by reader or unit is nobody's
abbrev pub comes_from : ℕ → Reading → Bool
comes_from network (refused f) = false
comes_from network (says c) = c.header.network == network

abbrev pub is_from_elsewhere : ℕ → Reading → Bool
is_from_elsewhere network (refused f) = false
is_from_elsewhere network (says c) = not (c.header.network == network)

-- a request about a network: an indication that comes from it, or a question for what it is owed
abbrev pub is_about : ℕ → Request → Bool
is_about network (tariff r) = comes_from network r
is_about network (add_on r) = comes_from network r
is_about network (advance n) = false
is_about network start = false
is_about network release = false
is_about network (amount_owed k) = k == network
is_about network (look_ahead k n) = k == network
is_about network total = false
is_about network (line k) = false

-- an indication of another network
abbrev pub is_others : ℕ → Request → Bool
is_others network (tariff r) = is_from_elsewhere network r
is_others network (add_on r) = is_from_elsewhere network r
is_others network (advance n) = false
is_others network start = false
is_others network release = false
is_others network (amount_owed k) = false
is_others network (look_ahead k n) = false
is_others network total = false
is_others network (line k) = false

-- the list with the indications of all other networks struck out
abbrev pub alone : ℕ → List Request → List Request
alone network [] = []
alone network (r ∷ h) = cond (is_others network r) (alone network h) (r ∷ alone network h)

-- refused for too many indications, or as a fifth network
abbrev pub is_crowded_out : Option Fault → Bool
is_crowded_out None = false
is_crowded_out (Some f) = number_of f == 11 || number_of f == 14

abbrev pub turns_away : Past → Request → Bool
turns_away p r = is_allowed (phase_of p.journal) r && is_crowded_out (refusal p r)

-- none of the network's indications is refused for that
abbrev pub finds_room : ℕ → List Request → Bool
finds_room network [] = true
finds_room network (r ∷ h) = not (is_about network r && turns_away (past h) r) && finds_room network h

-- Operators are independent: what one is owed, and the answers to its indications and to questions for what it is owed, are
-- the same with the indications of all others struck out, if none of its own was refused for too many indications or as a
-- fifth network.
abbrev pub OperatorsAreIndependent : Type 0
OperatorsAreIndependent =
    (m : Meaning) (opening network : ℕ) (h : List Request) → finds_room network h ≡ true
    → (answers_to (is_about network) m opening (alone network h) ≡ answers_to (is_about network) m opening h)
    × (owed_to m opening (past (alone network h)) network ≡ owed_to m opening (past h) network)
