-- An operator's last change: it is no later than the clock, and from the newest indication on only its switch-over is to
-- come.
use Rattle.std.proofs.Common.{◌≡◌, ℕ, zero, suc, ◌≤◌, Bool, ltb, leb, List, [], ◌∷◌, Some, None, Option, refl, arith}
use Rattle.std.specs.Option.{option_or}
use Rattle.std.proofs.lemmas.Bool.{cond_both, cond-false, leb-true, le-ltb, ltb-false}
use Rattle.indication.specs.declared.header.Change.{Change}
use Rattle.tariffs.specs.declared.tariff.Tariff.{Tariff}
use Rattle.record.specs.Quarters.{due_at, first_from}
use Rattle.record.specs.Operators.{current_tariff, next_tariff}
use Rattle.account.specs.Journals.{Receipt}
use Rattle.account.specs.Accounts.{TariffChange, change_by, change_to, if_by, last_change, switch_over_by, switch_over_to}

-- a change, if any, is no later than a clock
abbrev pub By : ℕ → Option TariffChange → Type 0
By clock None = Unit {0}
By clock (Some change) = change.at ≤ clock

by_later : (a b : ℕ) (o : Option TariffChange) → a ≤ b → By a o → By b o
by_later a b None l h = tt
by_later a b (Some change) l h = omega arith

by_either : (clock : ℕ) (o p : Option TariffChange) → By clock o → By clock p → By clock (option_or o p)
by_either clock None p h k = k
by_either clock (Some change) p h k = h

by_if : (clock : ℕ) (o : Option TariffChange) → By clock (if_by clock o)
by_if clock None = tt
by_if clock (Some change) = cond_both (leb change.at clock) _ _ (By clock) (λ e. leb-true _ _ e) (λ _. tt)

by_change : (at clock : ℕ) (change : Change) (t : Option Tariff) → at ≤ clock → By clock (change_to at change t)
by_change at clock change None l = tt
by_change at clock change (Some t) l = l

pub last_by : (opening : ℕ) (rs : List Receipt) (clock : ℕ) → By clock (last_change opening rs clock)
last_by opening [] clock = tt
last_by opening (r ∷ rs) clock =
    cond_both (ltb clock r.at) _ _ (By clock) (λ _. last_by opening rs clock)
    (λ e. let l = ltb-false clock r.at e in
    by_either clock _ _ (by_if clock (switch_over_by opening r))
    (by_either clock _ _ (by_change r.at clock r.content.header.change (current_tariff r.content) l)
    (by_later r.at clock _ l (last_by opening rs r.at))))

-- a quarter falls due no earlier than it is asked for
pub due_from : (p : ℕ → Bool) (a n : ℕ) → a ≤ first_from p a n
due_from p a zero = omega arith
due_from p a (suc n) =
    cond_both (p a) _ _ (λ x. a ≤ x) (λ _. omega arith) (λ _. omega (arith, due_from p (suc a) n))

-- the change that the newest indication left behind, and when its switch-over falls due, and to what
abbrev pub settled : ℕ → List Receipt → Option TariffChange
settled opening [] = None
settled opening (r ∷ rs) = option_or (change_by r) (last_change opening rs r.at)

abbrev pub due_in : ℕ → List Receipt → ℕ
due_in opening [] = 0
due_in opening (r ∷ rs) = due_at opening r.content.header.quarter r.at

abbrev pub next_in : List Receipt → Option Tariff
next_in [] = None
next_in (r ∷ rs) = next_tariff r.content

-- the newest indication came by a clock
abbrev pub Newest : ℕ → List Receipt → Type 0
Newest clock [] = Unit {0}
Newest clock (r ∷ rs) = r.at ≤ clock

-- a last change that is settled, unless the switch-over has come
abbrev pub after : Option TariffChange → ℕ → Option Tariff → ℕ → Option TariffChange
after settled due next clock = option_or (if_by clock (switch_over_to due next)) settled

pub last_settled :
    (opening : ℕ) (rs : List Receipt) (clock : ℕ) → Newest clock rs
    → last_change opening rs clock ≡ after (settled opening rs) (due_in opening rs) (next_in rs) clock
last_settled opening [] clock h = refl
last_settled opening (r ∷ rs) clock h = cond-false (ltb clock r.at) _ _ (le-ltb clock r.at h)

pub settled_by : (opening : ℕ) (rs : List Receipt) (clock : ℕ) → Newest clock rs → By clock (settled opening rs)
settled_by opening [] clock h = tt
settled_by opening (r ∷ rs) clock h =
    by_either clock _ _ (by_change r.at clock r.content.header.change (current_tariff r.content) h)
    (by_later r.at clock _ h (last_by opening rs r.at))
