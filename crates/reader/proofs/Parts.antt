-- An array that calls at each index gave.
use Rattle.std.proofs.Common.{◌≡◌, ℕ, zero, suc, ◌+◌, ◌<◌, ◌≤◌, List, get_or, ⊎_elim, ◌∙◌, arith}
use Rattle.std.proofs.lemmas.Bool.{cases_lt}
use Rattle.std.specs.Array.{IsFromFnResultFrom}
use Rattle.std.specs.Fn.{Called}
use denote.Param.Members.{Mut}

-- calls of a closure that stays as it is gave what each call gives
pub each_by_call :
    {F B : Type 0} (g : Mut F (ℕ × Unit {0}) B) (f : F) (want : ℕ → B)
    → ((i : ℕ) (y : B) (q : F) → Called g f (i, tt) y q → (q ≡ f) × (y ≡ want i))
    → (ys : List B) (i n : ℕ) → IsFromFnResultFrom g f ys i n → (k : ℕ) (d : B) → i ≤ k → k < i + n → get_or ys k d ≡ want k
each_by_call g f want call ys i zero h k d l m = absurd (omega arith)
each_by_call g f want call ys i (suc n) (q, y, is, called, rest) k d l m =
    let c = call i y q called in
    ⊎_elim
    (λ past. each_by_call g f want call ys (i + 1) n (rw c.0 at rest) k d (omega arith) (omega arith))
    (λ here. let e : k ≡ i = omega arith in rw e (is.1 d ∙ c.1))
    (cases_lt i k)
