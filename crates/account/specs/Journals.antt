-- What a list of requests comes down to: the accepted indications, the start and the release, each with the clock at
-- which it came, and the clock. Advances only move the clock.
use Rattle.std.specs.Prelude.{ℕ, ◌+◌, Bool, true, false, cond, ◌&&◌, ◌||◌, List, [], ◌∷◌, ◌++◌, None, Option, ◌==◌}
use Rattle.std.specs.Option.{option_or}
use Rattle.std.specs.Bool.{then_some}
use Rattle.indication.specs.Format.{Content}
use Rattle.record.specs.declared.call.Phase.{Phase}
use Rattle.record.specs.declared.call.Phase.TheVariants.{SetUp, Charging, Closed}
use Rattle.record.specs.Operators.{is_charging}

pub data Event : Type 0 where
  tariff_came : Content → Event
  add_on_came : Content → Event
  started : Event
  released : Event

pub record Dated : Type 0 where
  pub at : ℕ
  pub event : Event

-- a journal is written newest first
pub record Past : Type 0 where
  pub journal : List Dated
  pub clock : ℕ

abbrev pub phase_after : Event → Phase → Phase
phase_after (tariff_came c) phase = phase
phase_after (add_on_came c) phase = phase
phase_after started phase = Charging
phase_after released phase = Closed

abbrev pub phase_of : List Dated → Phase
phase_of [] = SetUp
phase_of (d ∷ j) = phase_after d.event (phase_of j)

abbrev pub is_indication : Event → Bool
is_indication (tariff_came c) = true
is_indication (add_on_came c) = true
is_indication started = false
is_indication released = false

-- how many indications were accepted
abbrev pub accepted_in : List Dated → ℕ
accepted_in [] = 0
accepted_in (d ∷ j) = accepted_in j + cond (is_indication d.event) 1 0

-- an accepted tariff indication of an operator
pub record Receipt : Type 0 where
  pub at : ℕ
  pub content : Content

abbrev pub receipt_in : ℕ → ℕ → Event → List Receipt
receipt_in network at (tariff_came c) = cond (c.header.network == network) (record { at = at; content = c } ∷ []) []
receipt_in network at (add_on_came c) = []
receipt_in network at started = []
receipt_in network at released = []

-- the accepted tariff indications of an operator, newest first
abbrev pub receipts : ℕ → List Dated → List Receipt
receipts network [] = []
receipts network (d ∷ j) = receipt_in network d.at d.event ++ receipts network j

abbrev pub is_any : List Receipt → Bool
is_any [] = false
is_any (r ∷ rs) = true

-- a network is known from its first accepted tariff indication on
abbrev pub is_known : ℕ → List Dated → Bool
is_known network j = is_any (receipts network j)

abbrev pub is_among : ℕ → List ℕ → Bool
is_among network [] = false
is_among network (n ∷ ns) = n == network || is_among network ns

abbrev pub joined_by : Event → List ℕ → List ℕ
joined_by (tariff_came c) ns = cond (is_among c.header.network ns) ns (ns ++ (c.header.network ∷ []))
joined_by (add_on_came c) ns = ns
joined_by started ns = ns
joined_by released ns = ns

-- the known networks, in order of first acceptance
abbrev pub networks : List Dated → List ℕ
networks [] = []
networks (d ∷ j) = joined_by d.event (networks j)

-- the operator charges: the call does, and an indication of the operator was accepted
abbrev pub charges : ℕ → List Dated → Bool
charges network j = is_charging (phase_of j) && is_known network j

-- An operator's beginning is the first moment at which it charges: the start, or its first accepted indication where that
-- comes later.
abbrev pub beginning : ℕ → List Dated → Option ℕ
beginning network [] = None
beginning network (d ∷ j) = option_or (beginning network j) (then_some (charges network (d ∷ j)) d.at)
