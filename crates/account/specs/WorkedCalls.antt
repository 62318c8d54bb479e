-- Worked calls: what the definitions give for calls that a person can follow. Amounts of currency are in 0.0000001 EUR.
use Rattle.std.specs.Prelude.{◌≡◌, ℕ, List, [], ◌∷◌, map, reverse, ℤ, pos, negsuc, Some, None, Option}
use Rattle.indication.specs.declared.entry.Usage.{Usage}
use Rattle.indication.specs.declared.entry.Usage.TheVariants as usage
use Rattle.indication.specs.declared.entry.Entry.{Entry}
use Rattle.indication.specs.declared.header.Change.{Change}
use Rattle.indication.specs.declared.header.Change.TheVariants.{WithoutRestart, WithRestart}
use Rattle.indication.specs.declared.header.Kind.{Kind}
use Rattle.indication.specs.declared.header.Kind.TheVariants as kind
use Rattle.indication.specs.declared.header.Mark.{Mark}
use Rattle.indication.specs.declared.header.TariffControl.{TariffControl}
use Rattle.indication.specs.declared.header.TariffControl.TheVariants.{Cyclic, NonCyclic}
use Rattle.indication.specs.declared.fault.Fault.TheVariants.{NotAdmitted, PastLimit}
use Rattle.indication.specs.Format.{Content, encoded}
use Rattle.units.specs.Meanings.{Meaning}
use Rattle.units.specs.Currencies.{currency}
use Rattle.units.specs.PulseCounts.{pulses}
use Rattle.account.specs.declared.answer.Answer.{Answer}
use Rattle.account.specs.declared.answer.Answer.TheVariants.{Refused, Owed, Line}
use Rattle.account.specs.Requests.{Asked, understood, tariff, add_on, advance, start, release, amount_owed, look_ahead, line}
use Rattle.account.specs.Journals.{Past}
use Rattle.account.specs.Answers.{past, answer}
use Rattle.account.specs.Records.{operator_of}

-- a currency or pulses, with its mark
pub record ChargeUnit : Type 0 where
  pub meaning : Meaning
  pub mark : Mark

abbrev pub euros : ChargeUnit
euros = record { meaning = currency; mark = record { kind = 0; letters = 69 ∷ (85 ∷ (82 ∷ [])) } }

abbrev pub pulse_count : ChargeUnit
pulse_count = record { meaning = pulses; mark = record { kind = 1; letters = 0 ∷ (0 ∷ (0 ∷ [])) } }

-- an entry: its use, the size and the step of its charge, and its duration
abbrev pub entry : Usage → ℕ → ℤ → ℕ → Entry
entry u size step duration =
    record { charge = record { size = size; step = step }; term = record { usage = u; duration = duration } }

-- an indication of a network: the current tariff, and the next one with its quarter
abbrev pub indicating : Kind → ℕ → Mark → Change → TariffControl → List Entry → ℕ → List Entry → Content
indicating k network mark change control current quarter next =
    record {
      header =
          record {
            kind = k;
            change = change;
            current_control = control;
            next_control = Cyclic;
            quarter = quarter;
            mark = mark;
            network = network;
            reference = 1;
          };
      current = current;
      next = next;
    }

-- a tariff indication of network 54, in bytes
abbrev pub sent : ChargeUnit → Change → TariffControl → List Entry → ℕ → List Entry → Asked
sent unit change control current quarter next =
    tariff (encoded (indicating kind.Tariff 54 unit.mark change control current quarter next))

-- a current tariff and an add-on of network 7
abbrev pub sent_by_seven : List Entry → Asked
sent_by_seven current = tariff (encoded (indicating kind.Tariff 7 euros.mark WithoutRestart Cyclic current 0 []))

abbrev pub added_on_by_seven : ℕ → Asked
added_on_by_seven size =
    add_on (encoded (indicating kind.AddOn 7 euros.mark WithoutRestart Cyclic (entry usage.AddOn size (negsuc 6) 0 ∷ []) 0 []))

-- what is asked at the end of a call: a request, or when the pending switch-over of network 54 falls due
pub data Question : Type 0 where
  request : Asked → Question
  switch_over : Question

pub data Outcome : Type 0 where
  answered : Answer → Outcome
  due_at : Option ℕ → Outcome

pub record WorkedCall : Type 0 where
  pub unit : ChargeUnit
  pub opening : ℕ
  -- in the order in which they come
  pub requests : List Asked
  pub question : Question

abbrev pub found : Question → Meaning → ℕ → Past → Outcome
found (request r) m opening p = answered (answer m opening p (understood m r))
found switch_over m opening p = due_at (operator_of m opening p 54).due

abbrev pub outcome : WorkedCall → Outcome
outcome w =
    found w.question w.unit.meaning w.opening
    (past (reverse (map (understood w.unit.meaning) w.requests)))

-- a call that goes on: what network 54 is owed
abbrev pub owed_in : ChargeUnit → ℕ → List Asked → WorkedCall
owed_in unit opening requests =
    record { unit = unit; opening = opening; requests = requests; question = request (amount_owed 54) }

abbrev pub owes : ℕ → Outcome
owes x = answered (Owed (Some x))

-- a second of a tariff without end, at so much
abbrev pub per_second : ℕ → List Entry
per_second size = entry usage.Periodic size (negsuc 6) 0 ∷ []

-- only a current tariff
abbrev pub plainly : ChargeUnit → List Entry → Asked
plainly unit current = sent unit WithoutRestart Cyclic current 0 []

-- one-time, 60 s, cyclic, 108,333 at -7
abbrev pub minutes : Asked
minutes = plainly euros (entry usage.OneTime 108333 (negsuc 6) 60 ∷ [])

-- one pulse every 20 s
abbrev pub pulsing : Asked
pulsing = plainly pulse_count (entry usage.Periodic 1 (pos 20) 0 ∷ [])

-- 10,000 a second, and 20,000 from a quarter on
abbrev pub dearer_from : ℕ → Asked
dearer_from quarter = sent euros WithoutRestart Cyclic (per_second 10000) quarter (per_second 20000)

-- 40 s at 10 a second, then 1 a second without end
abbrev pub changed : Change → Asked
changed change = sent euros change NonCyclic (entry usage.Periodic 10 (negsuc 6) 40 ∷ per_second 1) 0 []

-- 30 s that cost nothing, the change, and 20 s more
abbrev pub changed_at_30 : Change → WorkedCall
changed_at_30 change = owed_in euros 0 (plainly euros (per_second 0) ∷ (start ∷ (advance 30 ∷ (changed change ∷ (advance 20 ∷ [])))))

-- 10 a second from network 54; after 5 s 1 a second from network 7, with an add-on of 3; and 5 s more
abbrev pub of_two : Question → WorkedCall
of_two question =
    record {
      unit = euros;
      opening = 0;
      requests = plainly euros (per_second 10) ∷ (start ∷ (advance 5 ∷ (sent_by_seven (per_second 1) ∷ (added_on_by_seven 3 ∷ (advance 5 ∷ [])))));
      question = question;
    }

-- each call with its outcome
abbrev pub worked_calls : List (WorkedCall × Outcome)
worked_calls =
    -- a one-time rate is taken whole at the start of each round
    (owed_in euros 0 (minutes ∷ (start ∷ [])), owes 0)
    ∷ ((owed_in euros 0 (minutes ∷ (start ∷ (advance 60 ∷ []))), owes 6499980)
    ∷ ((owed_in euros 0 (minutes ∷ (start ∷ (advance 61 ∷ []))), owes 12999960)
    -- a set-up charge of 199 at -2
    ∷ ((owed_in euros 0 (plainly euros (entry usage.SetUp 199 (negsuc 1) 0 ∷ []) ∷ (start ∷ [])), owes 19900000)
    -- 1 at 2 costs 10^9 and is admitted, 1 at 3 is not
    ∷ ((owed_in euros 0 (plainly euros (entry usage.Periodic 1 (pos 2) 0 ∷ []) ∷ (start ∷ (advance 1 ∷ []))), owes 1000000000)
    ∷ ((record { unit = euros; opening = 0; requests = []; question = request (plainly euros (entry usage.Periodic 1 (pos 3) 0 ∷ [])) }, answered (Refused (NotAdmitted 24)))
    -- pulses come at the start of each interval
    ∷ ((owed_in pulse_count 0 (pulsing ∷ (start ∷ (advance 20 ∷ []))), owes 1)
    ∷ ((owed_in pulse_count 0 (pulsing ∷ (start ∷ (advance 21 ∷ []))), owes 2)
    -- opened at 9 o'clock: quarter 37 is 15 minutes later, quarter 96 is midnight, and quarter 36 is due on receipt
    ∷ ((owed_in euros 32400 (dearer_from 37 ∷ (start ∷ (advance 901 ∷ []))), owes 9020000)
    ∷ ((record { unit = euros; opening = 32400; requests = dearer_from 96 ∷ []; question = switch_over }, due_at (Some 54000))
    ∷ ((record { unit = euros; opening = 32400; requests = dearer_from 36 ∷ []; question = switch_over }, due_at None)
    ∷ ((owed_in euros 32400 (dearer_from 36 ∷ (start ∷ (advance 1 ∷ []))), owes 20000)
    -- without a restart the seconds 30 to 49 are charged, with one the seconds 0 to 19
    ∷ ((changed_at_30 WithoutRestart, owes 110)
    ∷ ((changed_at_30 WithRestart, owes 200)
    -- an attempt charge of 5 at -2, in a call that was never started
    ∷ ((record { unit = euros; opening = 0; requests = plainly euros (entry usage.Attempt 5 (negsuc 1) 0 ∷ []) ∷ (release ∷ []); question = request (line 0) }, answered (Line (Some record { network = 54; amount = 500000 })))
    -- nothing is charged in set-up, and seconds are counted from the start
    ∷ ((owed_in euros 0 (plainly euros (entry usage.OneTime 7 (negsuc 6) 12 ∷ []) ∷ (advance 10 ∷ (start ∷ (advance 12 ∷ [])))), owes 84)
    -- two networks, each with its own beginning; 20 s later the second would be owed 20 more
    ∷ ((of_two (request (amount_owed 54)), owes 100)
    ∷ ((of_two (request (amount_owed 7)), owes 8)
    ∷ ((of_two (request (look_ahead 7 20)), owes 28)
    ∷ ((of_two (request (amount_owed 8)), answered (Owed None))
    -- the clock reaches 86,400 and no more
    ∷ ((record { unit = euros; opening = 0; requests = advance 86400 ∷ []; question = request (advance 1) }, answered (Refused (PastLimit 0)))
    ∷ []))))))))))))))))))))

-- The definitions give each worked call its outcome.
abbrev pub WorkedCallsComeOut : Type 0
WorkedCallsComeOut = map (λ w. outcome w.0) worked_calls ≡ map (λ w. w.1) worked_calls
