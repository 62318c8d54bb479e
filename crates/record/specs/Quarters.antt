-- When a quarter hour of the day comes. Quarter q begins 900 q seconds after midnight, and quarter 96 at midnight.
use Rattle.std.specs.Prelude.{ℕ, zero, suc, ◌+◌, ◌*◌, ◌%◌, Bool, cond, ◌==◌}

-- the second of the day at a clock value of a call that was opened at a second of the day
abbrev pub second_of_day : ℕ → ℕ → ℕ
second_of_day opening clock = (opening + clock) % 86400

-- the quarter begins at that clock value
abbrev pub quarter_at : ℕ → ℕ → ℕ → Bool
quarter_at opening quarter clock = second_of_day opening clock == 900 * quarter % 86400

-- of the n numbers from a on, the first that passes; a + n where none does
abbrev pub first_from : (ℕ → Bool) → ℕ → ℕ → ℕ
first_from p a zero = a
first_from p a (suc n) = cond (p a) a (first_from p (suc a) n)

-- A quarter falls due at the first clock value, now or later, at which it begins. It comes within a day.
abbrev pub due_at : ℕ → ℕ → ℕ → ℕ
due_at opening quarter now = first_from (quarter_at opening quarter) now 86400
