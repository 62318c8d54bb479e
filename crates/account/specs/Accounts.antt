-- What an operator is owed, reckoned from the unit's meaning, the second of the day at which the call was opened, the
-- journal and the clock.
use Rattle.std.specs.Prelude.{ℕ, ◌+◌, ◌-◌, Bool, true, false, cond, not, ◌&&◌, List, [], ◌∷◌, is_some, Some, None, Option, ◌==◌, nat_le, nat_lt}
use Rattle.std.specs.Option.{option_or}
use Rattle.indication.specs.declared.header.Change.{Change}
use Rattle.indication.specs.declared.header.Change.TheVariants.{WithoutRestart, WithRestart}
use Rattle.units.specs.Meanings.{Meaning}
use Rattle.tariffs.specs.declared.tariff.Tariff.{Tariff}
use Rattle.tariffs.specs.Sequences.{charged_at, sum}
use Rattle.record.specs.declared.call.Phase.{Phase}
use Rattle.record.specs.declared.call.Phase.TheVariants.{SetUp, Charging, Closed}
use Rattle.record.specs.Quarters.{due_at}
use Rattle.record.specs.Operators.{current_tariff, next_tariff, no_tariff, price_of, add_on_price}
use Rattle.account.specs.Journals.{Event, tariff_came, add_on_came, started, released, Dated, Past, Receipt, phase_of, receipts, charges, beginning}

-- a change of an operator's tariff
pub record TariffChange : Type 0 where
  pub at : ℕ
  pub tariff : Tariff
  pub restarts : Bool

abbrev pub is_restart : Change → Bool
is_restart WithoutRestart = false
is_restart WithRestart = true

-- the change by a current tariff, if there is one
abbrev pub change_to : ℕ → Change → Option Tariff → Option TariffChange
change_to at change None = None
change_to at change (Some t) = Some record { at = at; tariff = t; restarts = is_restart change }

abbrev pub change_by : Receipt → Option TariffChange
change_by r = change_to r.at r.content.header.change (current_tariff r.content)

-- the switch-over to a next tariff, if there is one; it is no restart
abbrev pub switch_over_to : ℕ → Option Tariff → Option TariffChange
switch_over_to due None = None
switch_over_to due (Some t) = Some record { at = due; tariff = t; restarts = false }

abbrev pub switch_over_by : ℕ → Receipt → Option TariffChange
switch_over_by opening r = switch_over_to (due_at opening r.content.header.quarter r.at) (next_tariff r.content)

-- a change that has come about by a clock
abbrev pub if_by : ℕ → Option TariffChange → Option TariffChange
if_by clock None = None
if_by clock (Some change) = cond (nat_le change.at clock) (Some change) None

-- An operator's last change up to a clock, by its accepted tariff indications, newest first: the newest that came by then
-- decides. It is the switch-over to its next tariff, where that has fallen due; else the change to its current tariff,
-- where it has one; else what was the last change when it came, whatever was pending then having been replaced.
abbrev pub last_change : ℕ → List Receipt → ℕ → Option TariffChange
last_change opening [] clock = None
last_change opening (r ∷ rs) clock =
    cond (nat_lt clock r.at) (last_change opening rs clock)
    (option_or (if_by clock (switch_over_by opening r))
    (option_or (change_by r)
    (last_change opening rs r.at)))

abbrev pub tariff_after : Option TariffChange → Tariff
tariff_after None = no_tariff
tariff_after (Some change) = change.tariff

-- the tariff in force at a clock
abbrev pub in_force : ℕ → ℕ → List Dated → ℕ → Tariff
in_force opening network j clock = tariff_after (last_change opening (receipts network j) clock)

-- the moment from which a tariff's seconds are counted: that of a restart after the beginning, and else the beginning
abbrev pub origin_of : ℕ → TariffChange → ℕ
origin_of began change = cond (change.restarts && nat_lt began change.at) change.at began

-- what is charged for the second that passes from a clock on, after the last change up to it
abbrev pub second_after : Meaning → ℕ → ℕ → Option TariffChange → ℕ
second_after m began clock None = 0
second_after m began clock (Some change) = charged_at m change.tariff (clock - origin_of began change)

-- the sum over the seconds from the beginning up to a clock; nothing before there is a beginning
abbrev pub over_seconds : Meaning → ℕ → List Receipt → ℕ → Option ℕ → ℕ
over_seconds m opening rs clock None = 0
over_seconds m opening rs clock (Some began) =
    sum (λ k. second_after m began (began + k) (last_change opening rs (began + k))) (clock - began)

-- the operator begins with an entry of the journal
abbrev pub begins : ℕ → Dated → List Dated → Bool
begins network d j = not (is_some (beginning network j)) && charges network (d ∷ j)

-- at its beginning: the set-up charge of the tariff then in force
abbrev pub set_up_charge : Meaning → ℕ → ℕ → Dated → List Dated → ℕ
set_up_charge m opening network d j =
    cond (begins network d j) (price_of m (in_force opening network (d ∷ j) d.at).set_up) 0

-- at a release in set-up: the attempt charge of the tariff in force
abbrev pub attempt_charge : Phase → Meaning → Tariff → ℕ
attempt_charge SetUp m t = price_of m t.attempt
attempt_charge Charging m t = 0
attempt_charge Closed m t = 0

-- what an event adds besides
abbrev pub added_by : Event → Meaning → ℕ → ℕ → ℕ → List Dated → ℕ
added_by (tariff_came c) m opening network at j = 0
added_by (add_on_came c) m opening network at j = cond (c.header.network == network) (add_on_price m c) 0
added_by started m opening network at j = 0
added_by released m opening network at j = attempt_charge (phase_of j) m (in_force opening network j at)

-- the charges that are no charges of a second
abbrev pub at_once : Meaning → ℕ → ℕ → List Dated → ℕ
at_once m opening network [] = 0
at_once m opening network (d ∷ j) =
    at_once m opening network j + (set_up_charge m opening network d j + added_by d.event m opening network d.at j)

-- The account of an operator.
abbrev pub account : Meaning → ℕ → Past → ℕ → ℕ
account m opening p network =
    at_once m opening network p.journal
    + over_seconds m opening (receipts network p.journal) p.clock (beginning network p.journal)
