-- How the record of one operator changes.
use Rattle.std.specs.Prelude.{ℕ, ◌+◌, ◌-◌, ◌^◌, min, Bool, true, false, cond, not, ◌&&◌, List, [], ◌∷◌, is_some, Some, None, Option, ◌==◌, nat_le, nat_lt}
use Rattle.std.specs.Option.{unwrap_or}
use Rattle.indication.specs.declared.entry.Charge.{Charge}
use Rattle.indication.specs.declared.entry.Entry.{Entry}
use Rattle.indication.specs.declared.header.Change.{Change}
use Rattle.indication.specs.declared.header.Change.TheVariants.{WithoutRestart, WithRestart}
use Rattle.indication.specs.declared.header.TariffControl.{TariffControl}
use Rattle.indication.specs.declared.header.TariffControl.TheVariants.{Cyclic}
use Rattle.indication.specs.Format.{Content}
use Rattle.units.specs.Meanings.{Meaning}
use Rattle.tariffs.specs.declared.tariff.Tariff.{Tariff}
use Rattle.tariffs.specs.Sequences.{charged}
use Rattle.tariffs.specs.Making.{tariff_of}
use Rattle.record.specs.declared.call.Phase.{Phase}
use Rattle.record.specs.declared.call.Phase.TheVariants.{SetUp, Charging, Closed}
use Rattle.record.specs.declared.operator.Operator.{Operator}
use Rattle.record.specs.Quarters.{due_at}

-- a tariff is absent where it has no entries
abbrev pub tariff_in : TariffControl → List Entry → Option Tariff
tariff_in control [] = None
tariff_in control (e ∷ es) = Some (tariff_of control (e ∷ es))

abbrev pub current_tariff : Content → Option Tariff
current_tariff c = tariff_in c.header.current_control c.current

abbrev pub next_tariff : Content → Option Tariff
next_tariff c = tariff_in c.header.next_control c.next

-- a tariff that charges nothing
abbrev pub no_tariff : Tariff
no_tariff = tariff_of Cyclic []

-- what a charge that a tariff may have costs, once
abbrev pub price_of : Meaning → Option Charge → ℕ
price_of m None = 0
price_of m (Some c) = m.price c

-- To what is owed comes an amount. A sum stops at the largest number of 64 bits; the sums of a call stay below it.
abbrev pub owing : ℕ → Operator → Operator
owing amount op =
    record {
      network = op.network;
      tariff = op.tariff;
      next = op.next;
      due = op.due;
      beginning = op.beginning;
      origin = op.origin;
      owed = min (op.owed + amount) (2 ^ 64 - 1);
    }

-- an operator from which nothing has come
abbrev pub newcomer : ℕ → Operator
newcomer network =
    record {
      network = network;
      tariff = no_tariff;
      next = None;
      due = None;
      beginning = None;
      origin = None;
      owed = 0;
    }

-- where the seconds are counted from after a change: a restart counts only after the beginning
abbrev pub origin_after : ℕ → Change → Option ℕ → Option ℕ
origin_after now change None = None
origin_after now WithRestart (Some beginning) = Some now
origin_after now WithoutRestart (Some beginning) = Some beginning

-- a current tariff replaces the one in force, and its absence changes nothing
abbrev pub with_current : ℕ → Change → Option Tariff → Operator → Operator
with_current now change None op = op
with_current now change (Some t) op =
    record {
      network = op.network;
      tariff = t;
      next = op.next;
      due = op.due;
      beginning = op.beginning;
      origin = origin_after now change op.beginning;
      owed = op.owed;
    }

-- the moment at which a next tariff takes over
abbrev pub due_for : ℕ → ℕ → ℕ → Option Tariff → Option ℕ
due_for opening quarter now None = None
due_for opening quarter now (Some t) = Some (due_at opening quarter now)

-- a next tariff replaces the pending one, and its absence clears it
abbrev pub with_next : ℕ → ℕ → ℕ → Option Tariff → Operator → Operator
with_next opening quarter now next op =
    record {
      network = op.network;
      tariff = op.tariff;
      next = next;
      due = due_for opening quarter now next;
      beginning = op.beginning;
      origin = op.origin;
      owed = op.owed;
    }

-- the pending tariff takes over, counted from the operator's beginning
abbrev pub switched_over : Operator → Operator
switched_over op =
    record {
      network = op.network;
      tariff = unwrap_or op.next op.tariff;
      next = None;
      due = None;
      beginning = op.beginning;
      origin = op.beginning;
      owed = op.owed;
    }

-- the switch-over that falls due at a moment
abbrev pub is_due : ℕ → Option ℕ → Bool
is_due now None = false
is_due now (Some due) = due == now

abbrev pub switched_at : ℕ → Operator → Operator
switched_at now op = cond (is_due now op.due) (switched_over op) op

-- The operator begins: its seconds are counted from now, and the set-up charge of the tariff in force is added.
abbrev pub begun : Meaning → ℕ → Operator → Operator
begun m now op =
    record {
      network = op.network;
      tariff = op.tariff;
      next = op.next;
      due = op.due;
      beginning = Some now;
      origin = Some now;
      owed = min (op.owed + price_of m op.tariff.set_up) (2 ^ 64 - 1);
    }

abbrev pub is_charging : Phase → Bool
is_charging SetUp = false
is_charging Charging = true
is_charging Closed = false

-- in a charging call an operator begins that has not begun
abbrev pub begun_in : Phase → Meaning → ℕ → Operator → Operator
begun_in phase m now op = cond (is_charging phase && not (is_some op.beginning)) (begun m now op) op

-- An accepted tariff indication: its current tariff, its next one, a switch-over that is due on receipt, and then the
-- beginning, so that the set-up charge is that of the tariff then in force.
abbrev pub received_by : Meaning → ℕ → Phase → ℕ → Content → Operator → Operator
received_by m opening phase now c op =
    begun_in phase m now
    (switched_at now
    (with_next opening c.header.quarter now (next_tariff c)
    (with_current now c.header.change (current_tariff c) op)))

-- the charge of an add-on
abbrev pub first_of : List Entry → Option Charge
first_of [] = None
first_of (e ∷ es) = Some e.charge

abbrev pub add_on_price : Meaning → Content → ℕ
add_on_price m c = price_of m (first_of c.current)

-- what a tariff charges over n seconds from a moment on, counted from an origin; nothing before there is one
abbrev pub over_stretch : Meaning → Tariff → ℕ → ℕ → Option ℕ → ℕ
over_stretch m t now n None = 0
over_stretch m t now n (Some origin) = charged m t (now - origin) n

-- n seconds without a switch-over
abbrev pub stretched : Meaning → ℕ → ℕ → Operator → Operator
stretched m now n op = owing (over_stretch m op.tariff now n op.origin) op

-- n seconds, with a switch-over at a moment among them
abbrev pub stretched_across : Meaning → ℕ → ℕ → ℕ → Operator → Operator
stretched_across m now n due op = stretched m due (now + n - due) (switched_over (stretched m now (due - now) op))

-- the switch-over is reached by an advance: after now, and at its end at the latest
abbrev pub reached : ℕ → ℕ → ℕ → Bool
reached now n due = nat_lt now due && nat_le due (now + n)

abbrev pub passed_until : Option ℕ → Meaning → ℕ → ℕ → Operator → Operator
passed_until None m now n op = stretched m now n op
passed_until (Some due) m now n op = cond (reached now n due) (stretched_across m now n due op) (stretched m now n op)

-- n seconds pass
abbrev pub passed : Meaning → ℕ → ℕ → Operator → Operator
passed m now n op = passed_until op.due m now n op
