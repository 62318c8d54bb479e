-- When an operator begins, and what a journal holds of a network that is not known.
use Rattle.std.proofs.Common.{◌≡◌, ℕ, ◌≤◌, Bool, true, false, eqb, List, [], ◌∷◌, ◌++◌, is_some, Some, None, Option, refl}
use Rattle.std.specs.Option.{option_or}
use Rattle.std.specs.Bool.{then_some}
use Rattle.std.specs.List.{AllByRecursion}
use Rattle.std.proofs.lemmas.Bool.{and_right, cond_both, true≢false}
use Rattle.record.specs.Operators.{is_charging}
use Rattle.account.specs.Journals.{Event, tariff_came, add_on_came, started, released, Dated, Receipt, beginning, charges, is_known, phase_of, receipt_in, receipts}
use Rattle.account.specs.Journals as journals
use Rattle.standing.proofs.Changes.{Newest}
use Rattle.standing.proofs.Stretches.{Began}

-- every entry of a journal came by a clock
abbrev pub DatedBy : ℕ → List Dated → Type 0
DatedBy clock j = AllByRecursion (λ d. d.at ≤ clock) j

begins_by : (clock at : ℕ) (b : Option ℕ) (t : Bool) → Began clock b → at ≤ clock → Began clock (option_or b (then_some t at))
begins_by clock at None true h l = l
begins_by clock at None false h l = tt
begins_by clock at (Some began) t h l = h

pub began_by : (n clock : ℕ) (j : List Dated) → DatedBy clock j → Began clock (beginning n j)
began_by n clock [] h = tt
began_by n clock (d ∷ j) (l, h) = begins_by clock d.at _ (charges n (d ∷ j)) (began_by n clock j h) l

newest_in : (n clock at : ℕ) (e : Event) (rs : List Receipt) → at ≤ clock → Newest clock rs → Newest clock (receipt_in n at e ++ rs)
newest_in n clock at (tariff_came c) rs l h =
    cond_both (eqb c.header.network n) (record { at = at; content = c } ∷ []) [] (λ r. Newest clock (r ++ rs)) (λ _. l) (λ _. h)
newest_in n clock at (add_on_came c) rs l h = h
newest_in n clock at started rs l h = h
newest_in n clock at released rs l h = h

pub newest_by : (n clock : ℕ) (j : List Dated) → DatedBy clock j → Newest clock (receipts n j)
newest_by n clock [] h = tt
newest_by n clock (d ∷ j) (l, h) = newest_in n clock d.at d.event (receipts n j) l (newest_by n clock j h)

-- who charges has begun
some_begins : (b : Option ℕ) (t : Bool) (at : ℕ) → t ≡ true → is_some (option_or b (then_some t at)) ≡ true
some_begins None true at e = refl
some_begins None false at e = e
some_begins (Some began) t at e = refl

pub charging_began : (n : ℕ) (j : List Dated) → charges n j ≡ true → is_some (beginning n j) ≡ true
charging_began n [] e = e
charging_began n (d ∷ j) e = some_begins _ (charges n (d ∷ j)) d.at e

none_begins : (b : Option ℕ) (t : Bool) (at : ℕ) → b ≡ None → t ≡ false → option_or b (then_some t at) ≡ None
none_begins b t at e f = rw (e, f)

-- nobody begins that is not known
none_before : (xs rs : List Receipt) → journals.is_any (xs ++ rs) ≡ false → journals.is_any rs ≡ false
none_before [] rs e = e
none_before (x ∷ xs) rs e = absurd (true≢false e)

pub unknown_before : (n : ℕ) (d : Dated) (j : List Dated) → is_known n (d ∷ j) ≡ false → is_known n j ≡ false
unknown_before n d j e = none_before (receipt_in n d.at d.event) (receipts n j) e

pub unbegun_unknown : (n : ℕ) (j : List Dated) → is_known n j ≡ false → beginning n j ≡ None
unbegun_unknown n [] e = refl
unbegun_unknown n (d ∷ j) e =
    none_begins _ (charges n (d ∷ j)) d.at (unbegun_unknown n j (unknown_before n d j e)) (and_right (is_charging (phase_of (d ∷ j))) _ e)
