-- One request more: its answer and the record after it are those of the definitions.
use Rattle.std.proofs.Common.{◌≡◌, ℕ, ◌<◌, ◌≤◌, true, false, not, List, [], ◌∷◌, Some, None, Ok, Err, Option, Result, sym, refl, ap, ◌∙◌, subst}
use Rattle.std.specs.List.{AllByRecursion}
use Rattle.std.proofs.lemmas.Bool.{cond-true, cond-false, lt-ltb, le-ltb, true≢false}
use Rattle.indication.specs.declared.header.Kind.{Kind}
use Rattle.indication.specs.declared.header.Kind.TheVariants as kind
use Rattle.indication.specs.declared.fault.Fault.{Fault}
use Rattle.indication.specs.declared.fault.Fault.TheVariants.{PastLimit}
use Rattle.units.specs.Meanings.{Meaning, Sound}
use Rattle.readings.specs.Readings.{Reading, refused, says, reading}
use Rattle.record.specs.declared.call.Phase.{Phase}
use Rattle.record.specs.declared.call.Phase.TheVariants as phase
use Rattle.record.specs.declared.call.Call.{Call}
use Rattle.record.specs.Operators.{is_charging}
use Rattle.record.specs.Calls.{advanced, seconds_left, started, started_from, released, released_from}
use Rattle.record.specs.Refusals.{Received, Passes}
use Rattle.inquiry.specs.Inquiries.{owed_in, total_of, line_in, LooksAhead}
use Rattle.account.specs.declared.answer.Answer.{Answer}
use Rattle.account.specs.declared.answer.Answer.TheVariants.{NotAllowed, Refused, Accepted, Owed, Total, Line}
use Rattle.account.specs.Requests.{Asked, Request, understood, tariff, add_on, advance, start, release, amount_owed, look_ahead, total, line}
use Rattle.account.specs.Journals.{Past, phase_of}
use Rattle.account.specs.Answers.{is_allowed, is_closed, is_accepted, refusal, time_refusal, later, past, answer, reply, reply_unless}
use Rattle.account.specs.Outcomes.{answer_for, answer_ahead}
use Rattle.account.specs.Records.{record_after, record_of}
use Rattle.hearing.specs.Hearing.{Shows, bringing}
use Rattle.hearing.proofs.Heard.{refusals_heard, said_admitted}
use Rattle.standing.specs.Steps.{ReadingAdmitted, RequestAdmitted, ruled}
use Rattle.standing.proofs.Standing.{rules_keep_the_record, sums_fit, record_shows_the_known}
use Rattle.standing.proofs.Pasts.{kept}
use Rattle.told.proofs.Told.{owed_told, total_told, line_told}
use Rattle.meter.specs.declared.meter.Meter.{Meter}
use Rattle.meter.specs.Meters.{heard, call_of, unit_of, state_of, Performs}
use Rattle.meter.proofs.Accounts.{accounted}

-- what is read for a unit is admitted, request by request
admitted_reading : (m : Meaning) (taken : Kind) (b : List ℕ) (r : Reading) → reading m taken b ≡ r → ReadingAdmitted m r
admitted_reading m taken b (refused f) e = tt
admitted_reading m taken b (says c) e = said_admitted m taken b c e

admitted_request : (m : Meaning) (r : Asked) → RequestAdmitted m (understood m r)
admitted_request m (tariff b) = admitted_reading m kind.Tariff b _ refl
admitted_request m (add_on b) = admitted_reading m kind.AddOn b _ refl
admitted_request m (advance n) = tt
admitted_request m start = tt
admitted_request m release = tt
admitted_request m (amount_owed network) = tt
admitted_request m (look_ahead network n) = tt
admitted_request m total = tt
admitted_request m (line k) = tt

admitted_list : (m : Meaning) (h : List Asked) → AllByRecursion (RequestAdmitted m) (heard m h)
admitted_list m [] = tt
admitted_list m (r ∷ h) = (admitted_request m r, admitted_list m h)

-- an answer and a record after a request are those of the definitions
abbrev pub Step : Meaning → ℕ → List Request → Request → Answer → Call → Type 0
Step m opening h r given exit = (given ≡ answer m opening (past h) r) × (exit ≡ record_after m opening (r ∷ h))

-- a call that charges is not closed
still_open : (p : Phase) → is_charging p ≡ true → not (is_closed p) ≡ true
still_open phase.SetUp e = refl
still_open phase.Charging e = refl
still_open phase.Closed e = absurd (true≢false (sym e))

module _ (m : Meaning) (sound : Sound m) (opening : ℕ) (h : List Asked) where
  abbrev before : List Request
  before = heard m h

  abbrev now : Past
  now = past before

  -- a request that the phase allows and that is not refused
  taken : (r : Asked) → is_allowed (phase_of now.journal) (understood m r) ≡ true → refusal now (understood m r) ≡ None
      → Step m opening before (understood m r) (reply m opening now (understood m r)) (ruled m (understood m r) (record_after m opening before))
  taken r allowed unrefused = (
    sym (cond-true _ _ _ allowed ∙ ap (λ o. reply_unless o m opening now (understood m r)) unrefused),
    sym (rules_keep_the_record m sound opening (understood m r) before (admitted_list m (r ∷ h)) (rw (allowed, unrefused) refl)),
  )

  -- one that is refused
  turned_down : (r : Asked) (f : Fault) → is_allowed (phase_of now.journal) (understood m r) ≡ true → refusal now (understood m r) ≡ Some f
      → Step m opening before (understood m r) (Refused f) (record_after m opening before)
  turned_down r f allowed is = (
    sym (cond-true _ _ _ allowed ∙ ap (λ o. reply_unless o m opening now (understood m r)) is),
    sym (ap (record_of m opening) (cond-false (is_accepted now (understood m r)) _ _ (rw (allowed, is) refl))),
  )

  -- one that the phase does not allow
  pub barred : (r : Asked) → is_allowed (phase_of now.journal) (understood m r) ≡ false
      → Step m opening before (understood m r) NotAllowed (record_after m opening before)
  barred r no_way = (
    sym (cond-false _ _ _ no_way),
    sym (ap (record_of m opening) (cond-false (is_accepted now (understood m r)) _ _ (rw no_way refl))),
  )

  module _ (call : Call) (is : call ≡ record_after m opening before) where
    same_phase : phase_of now.journal ≡ call.phase
    same_phase = sym (ap (λ (c : Call). c.phase) is)

    same_clock : call.clock ≡ now.clock
    same_clock = ap (λ (c : Call). c.clock) is

    shows : Shows call now
    shows = subst (λ c. Shows c now) (sym is) (record_shows_the_known m opening before)

    -- an indication
    received : {X : Type 0} (k : Kind) (b : List ℕ) (r : Result X Fault) (exit : Call)
        → is_allowed (phase_of now.journal) (understood m (bringing k b)) ≡ true → Received m call k b r exit
        → Step m opening before (understood m (bringing k b)) (answer_for r) exit
    received kind.Tariff b (Ok x) exit allowed (groundless, e) =
        let heard = (refusals_heard m call now kind.Tariff b shows).1 groundless in
        let step = taken (tariff b) allowed heard.1 in
        (step.0, e ∙ rw (heard.0, is) refl ∙ step.1)
    received kind.AddOn b (Ok x) exit allowed (groundless, e) =
        let heard = (refusals_heard m call now kind.AddOn b shows).1 groundless in
        let step = taken (add_on b) allowed heard.1 in
        (step.0, e ∙ rw (heard.0, is) refl ∙ step.1)
    received kind.Tariff b (Err f) exit allowed (foremost, e) =
        let step = turned_down (tariff b) f allowed ((refusals_heard m call now kind.Tariff b shows).0 f foremost) in
        (step.0, e ∙ is ∙ step.1)
    received kind.AddOn b (Err f) exit allowed (foremost, e) =
        let step = turned_down (add_on b) f allowed ((refusals_heard m call now kind.AddOn b shows).0 f foremost) in
        (step.0, e ∙ is ∙ step.1)

    -- so many seconds are left, or not
    in_time : (n : ℕ) → n ≤ seconds_left call.clock → time_refusal now.clock n ≡ None
    in_time n few = rw (sym same_clock) (cond-false _ _ _ (le-ltb _ _ few))

    too_late : (n : ℕ) → seconds_left call.clock < n → time_refusal now.clock n ≡ Some (PastLimit (seconds_left call.clock))
    too_late n many = rw (sym same_clock) (cond-true _ _ _ (lt-ltb _ _ many))

    pub advances : {X : Type 0} (n : ℕ) (r : Result X Fault) (exit : Call) → is_allowed (phase_of now.journal) (advance n) ≡ true
        → Passes m call n r exit → Step m opening before (advance n) (answer_for r) exit
    advances n (Ok x) exit allowed (few, e) =
        let step = taken (advance n) allowed (in_time n few) in
        (step.0, e ∙ ap (advanced m n) is ∙ step.1)
    advances n (Err f) exit allowed (many, limit, e) =
        let step = turned_down (advance n) f allowed (too_late n many ∙ ap Some (sym limit)) in
        (step.0, e ∙ is ∙ step.1)

    pub starts : (exit : Call) → is_allowed (phase_of now.journal) start ≡ true → exit ≡ started m call → Step m opening before start Accepted exit
    starts exit allowed e = let step = taken start allowed refl in (step.0, e ∙ ap (started m) is ∙ step.1)

    pub releases : (exit : Call) → is_allowed (phase_of now.journal) release ≡ true → exit ≡ released m call → Step m opening before release Accepted exit
    releases exit allowed e = let step = taken release allowed refl in (step.0, e ∙ ap (released m) is ∙ step.1)

    -- questions, which leave the record as it is
    pub owes : (network : ℕ) → is_allowed (phase_of now.journal) (amount_owed network) ≡ true
        → Step m opening before (amount_owed network) (Owed (owed_in network call.operators)) call
    owes network allowed =
        let step = taken (amount_owed network) allowed refl in
        (ap Owed (ap (λ (c : Call). owed_in network c.operators) is ∙ owed_told m opening now (kept before).four network) ∙ step.0, is ∙ step.1)

    -- the record as it would be n seconds later
    ahead : (n : ℕ) → is_charging (phase_of now.journal) ≡ true → time_refusal now.clock n ≡ None → advanced m n call ≡ record_of m opening (later n now)
    ahead n charging unrefused =
        let allowed = still_open (phase_of now.journal) charging in
        ap (advanced m n) is ∙ (taken (advance n) allowed unrefused).1
        ∙ ap (record_of m opening) (cond-true (is_accepted now (advance n)) _ _ (rw (allowed, unrefused) refl))

    pub looks : (network n : ℕ) (r : Result (Option ℕ) Fault) → is_allowed (phase_of now.journal) (look_ahead network n) ≡ true
        → LooksAhead m call network n r → Step m opening before (look_ahead network n) (answer_ahead r) call
    looks network n (Ok owed) allowed (few, e) =
        let step = taken (look_ahead network n) allowed (in_time n few) in
        (ap Owed (e ∙ ap (λ (c : Call). owed_in network c.operators) (ahead n allowed (in_time n few)) ∙ owed_told m opening (later n now) (kept before).four network) ∙ step.0, is ∙ step.1)
    looks network n (Err f) allowed (many, limit) =
        let step = turned_down (look_ahead network n) f allowed (too_late n many ∙ ap Some (sym limit)) in
        (step.0, is ∙ step.1)

    pub totals : is_allowed (phase_of now.journal) total ≡ true → Step m opening before total (Total (total_of call.operators)) call
    totals allowed =
        let step = taken total allowed refl in
        (ap Total (ap (λ (c : Call). total_of c.operators) is ∙ total_told m opening now (kept before).four (sums_fit m sound opening before (admitted_list m h))) ∙ step.0, is ∙ step.1)

    pub lines : (k : ℕ) → is_allowed (phase_of now.journal) (line k) ≡ true → Step m opening before (line k) (Line (line_in k call.operators)) call
    lines k allowed =
        let step = taken (line k) allowed refl in
        (ap Line (ap (λ (c : Call). line_in k c.operators) is ∙ line_told m opening now (kept before).four k) ∙ step.0, is ∙ step.1)

-- the phase after an indication or an advance is the same
received_phase : {X : Type 0} (m : Meaning) (call : Call) (k : Kind) (b : List ℕ) (r : Result X Fault) (exit : Call) → Received m call k b r exit → call.phase ≡ exit.phase
received_phase m call kind.Tariff b (Ok x) exit (_, e) = sym (ap (λ (c : Call). c.phase) e)
received_phase m call kind.AddOn b (Ok x) exit (_, e) = sym (ap (λ (c : Call). c.phase) e)
received_phase m call k b (Err f) exit (_, e) = sym (ap (λ (c : Call). c.phase) e)

passes_phase : {X : Type 0} (m : Meaning) (call : Call) (n : ℕ) (r : Result X Fault) (exit : Call) → Passes m call n r exit → call.phase ≡ exit.phase
passes_phase m call n (Ok x) exit (_, e) = sym (ap (λ (c : Call). c.phase) e)
passes_phase m call n (Err f) exit (_, _, e) = sym (ap (λ (c : Call). c.phase) e)

released_phase : (m : Meaning) (call : Call) (p : Phase) → p ≡ call.phase → phase.Closed ≡ (released_from p m call).phase
released_phase m call phase.SetUp e = refl
released_phase m call phase.Charging e = refl
released_phase m call phase.Closed e = e

module _ {U : Type 0} (meaning : U → Meaning) (sound : (u : U) → Sound (meaning u)) (before after : Meter U) (same_unit : unit_of after ≡ unit_of before) where
  abbrev m : Meaning
  m = meaning (unit_of before)

  performs :
      (r : Asked) (given : Answer)
      → ((opening : ℕ) (h : List Asked) → call_of before ≡ record_after m opening (heard m h)
      → phase_of (past (heard m h)).journal ≡ state_of before → Step m opening (heard m h) (understood m r) given (call_of after))
      → (state_of before ≡ (call_of before).phase → state_of after ≡ (call_of after).phase) → Performs meaning before r after given
  performs r given step phased =
      record {
        kept = same_unit;
        came = λ opening h earlier by.
            let is = by.accounted.recorded in
            let one = step opening h is (sym (by.phased ∙ ap (λ (c : Call). c.phase) is)) in
            record {
              accounted = accounted m opening (r ∷ h) (given ∷ earlier) (call_of after)
                  (ap (λ a. a ∷ earlier) one.0 ∙ ap (λ xs. answer m opening (past (heard m h)) (understood m r) ∷ xs) by.accounted.answered) one.1;
              phased = phased by.phased;
            };
      }

  pub indication_performs :
      {X : Type 0} (k : Kind) (b : List ℕ) (r : Result X Fault) → is_allowed (state_of before) (understood m (bringing k b)) ≡ true
      → state_of after ≡ state_of before → Received m (call_of before) k b r (call_of after) → Performs meaning before (bringing k b) after (answer_for r)
  indication_performs k b r allowed same e =
      performs (bringing k b) (answer_for r)
      (λ opening h is p. received m (sound (unit_of before)) opening h (call_of before) is k b r (call_of after) (ap (λ q. is_allowed q (understood m (bringing k b))) p ∙ allowed) e)
      (λ phased. same ∙ phased ∙ received_phase m (call_of before) k b r (call_of after) e)

  pub advance_performs :
      {X : Type 0} (n : ℕ) (r : Result X Fault) → is_allowed (state_of before) (advance n) ≡ true
      → state_of after ≡ state_of before → Passes m (call_of before) n r (call_of after) → Performs meaning before (advance n) after (answer_for r)
  advance_performs n r allowed same e =
      performs (advance n) (answer_for r)
      (λ opening h is p. advances m (sound (unit_of before)) opening h (call_of before) is n r (call_of after) (ap (λ q. is_allowed q (advance n)) p ∙ allowed) e)
      (λ phased. same ∙ phased ∙ passes_phase m (call_of before) n r (call_of after) e)

  pub start_performs :
      state_of before ≡ phase.SetUp → state_of after ≡ phase.Charging → call_of after ≡ started m (call_of before) → Performs meaning before start after Accepted
  start_performs of_set_up charging e =
      performs start Accepted
      (λ opening h is p. starts m (sound (unit_of before)) opening h (call_of before) is (call_of after) (ap (λ q. is_allowed q start) (p ∙ of_set_up)) e)
      (λ phased. charging ∙ ap (λ p. (started_from p m (call_of before)).phase) (sym of_set_up ∙ phased) ∙ sym (ap (λ (c : Call). c.phase) e))

  pub release_performs :
      is_allowed (state_of before) release ≡ true → state_of after ≡ phase.Closed → call_of after ≡ released m (call_of before) → Performs meaning before release after Accepted
  release_performs allowed closed e =
      performs release Accepted
      (λ opening h is p. releases m (sound (unit_of before)) opening h (call_of before) is (call_of after) (ap (λ q. is_allowed q release) p ∙ allowed) e)
      (λ phased. closed ∙ released_phase m (call_of before) (call_of before).phase refl ∙ sym (ap (λ (c : Call). c.phase) e))

-- questions, and requests that the phase does not allow, leave the meter as it is
module _ {U : Type 0} (meaning : U → Meaning) (sound : (u : U) → Sound (meaning u)) (meter : Meter U) where
  abbrev its : Meaning
  its = meaning (unit_of meter)

  stays :
      (r : Asked) (given : Answer)
      → ((opening : ℕ) (h : List Asked) → call_of meter ≡ record_after its opening (heard its h)
      → phase_of (past (heard its h)).journal ≡ state_of meter → Step its opening (heard its h) (understood its r) given (call_of meter))
      → Performs meaning meter r meter given
  stays r given step = performs meaning sound meter meter refl r given step (λ e. e)

  pub barred_performs : (r : Asked) → is_allowed (state_of meter) (understood its r) ≡ false → Performs meaning meter r meter NotAllowed
  barred_performs r no_way =
      stays r NotAllowed
      (λ opening h is p. let step = barred its (sound (unit_of meter)) opening h r (ap (λ q. is_allowed q (understood its r)) p ∙ no_way) in (step.0, is ∙ step.1))

  pub owed_performs : (network : ℕ) → is_allowed (state_of meter) (amount_owed network) ≡ true → Performs meaning meter (amount_owed network) meter (Owed (owed_in network (call_of meter).operators))
  owed_performs network allowed =
      stays (amount_owed network) _
      (λ opening h is p. owes its (sound (unit_of meter)) opening h (call_of meter) is network (ap (λ q. is_allowed q (amount_owed network)) p ∙ allowed))

  pub look_performs :
      (network n : ℕ) (r : Result (Option ℕ) Fault) → is_allowed (state_of meter) (look_ahead network n) ≡ true
      → LooksAhead its (call_of meter) network n r → Performs meaning meter (look_ahead network n) meter (answer_ahead r)
  look_performs network n r allowed e =
      stays (look_ahead network n) (answer_ahead r)
      (λ opening h is p. looks its (sound (unit_of meter)) opening h (call_of meter) is network n r (ap (λ q. is_allowed q (look_ahead network n)) p ∙ allowed) e)

  pub total_performs : is_allowed (state_of meter) total ≡ true → Performs meaning meter total meter (Total (total_of (call_of meter).operators))
  total_performs allowed =
      stays total _ (λ opening h is p. totals its (sound (unit_of meter)) opening h (call_of meter) is (ap (λ q. is_allowed q total) p ∙ allowed))

  pub line_performs : (k : ℕ) → is_allowed (state_of meter) (line k) ≡ true → Performs meaning meter (line k) meter (Line (line_in k (call_of meter).operators))
  line_performs k allowed =
      stays (line k) _ (λ opening h is p. lines its (sound (unit_of meter)) opening h (call_of meter) is k (ap (λ q. is_allowed q (line k)) p ∙ allowed))
