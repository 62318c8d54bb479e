-- The answer that an outcome comes to.
use Rattle.std.specs.Prelude.{ℕ, Ok, Err, Option, Result}
use Rattle.indication.specs.declared.fault.Fault.{Fault}
use Rattle.account.specs.declared.answer.Answer.{Answer}
use Rattle.account.specs.declared.answer.Answer.TheVariants.{Accepted, Owed, Refused}

-- the answer to an indication or an advance
abbrev pub answer_for : {X : Type 0} → Result X Fault → Answer
answer_for (Ok x) = Accepted
answer_for (Err f) = Refused f

-- the answer to a look-ahead
abbrev pub answer_ahead : Result (Option ℕ) Fault → Answer
answer_ahead (Ok owed) = Owed owed
answer_ahead (Err f) = Refused f
