-- The subtariffs of a tariff's entries put into slots.
use Rattle.std.proofs.Common.{◌≡◌, ℕ, zero, suc, ◌+◌, ◌<◌, ◌≤◌, min, List, [], ◌∷◌, ◌++◌, map, length, get_or, take, set, Some, None, Option, sym, refl, ap, ◌∙◌, length-take, arith}
use Rattle.std.proofs.lemmas.List.{take_more, get_or-take}
use Rattle.std.proofs.lemmas.List.FromFn.{get_or-enumerate_from, length-enumerate_from}
use Rattle.std.specs.List.{cons_option, enumerate_from, filter_map}
use Rattle.tariffs.specs.declared.tariff.Subtariff.{Subtariff}
use Rattle.tariffs.specs.Making.{slotted}
use Rattle.tariffs.specs.Sequences.{listed}

-- those that a filter keeps are those that are listed
one_kept : (o : Option Subtariff) (os : List (Option Subtariff)) (ss : List Subtariff) → ss ≡ listed os → cons_option o ss ≡ listed (o ∷ os)
one_kept None os ss e = e
one_kept (Some s) os ss e = ap (λ xs. s ∷ xs) e

pub kept_listed : {X : Type 0} (f : X → Option Subtariff) (xs : List X) → filter_map f xs ≡ listed (map f xs)
kept_listed f [] = refl
kept_listed f (x ∷ xs) = one_kept (f x) (map f xs) (filter_map f xs) (kept_listed f xs)

-- one more goes into the slot after the last
slotted_push : (n : ℕ) (ss : List Subtariff) (s : Subtariff) → slotted n (ss ++ s ∷ []) ≡ set (slotted n ss) (length ss) (Some s)
slotted_push zero ss s = refl
slotted_push (suc n) [] s = refl
slotted_push (suc n) (x ∷ ss) s = ap (λ zs. Some x ∷ zs) (slotted_push n ss s)

pub slotted_more :
    (ss : List Subtariff) (k : ℕ) (p : ℕ × Subtariff) → (k < length (enumerate_from 0 (take 4 ss))) × (p ≡ get_or (enumerate_from 0 (take 4 ss)) k p)
    → set (slotted 4 (take k ss)) p.0 (Some p.1) ≡ slotted 4 (take (k + 1) ss)
slotted_more ss k p (some, is) =
    let low : k < length (take 4 ss) = omega (arith, length-enumerate_from 0 (take 4 ss)) in
    let pair = is ∙ get_or-enumerate_from 0 (take 4 ss) k p low in
    let at : p.0 ≡ length (take k ss) = omega (arith, ap (λ (q : ℕ × Subtariff). q.0) pair, length-take k ss, length-take 4 ss) in
    let it : p.1 ≡ get_or ss k p.1 = ap (λ (q : ℕ × Subtariff). q.1) pair ∙ get_or-take 4 ss k p.1 (omega (arith, length-take 4 ss)) in
    ap (λ i. set (slotted 4 (take k ss)) i (Some p.1)) at ∙ sym (slotted_push 4 (take k ss) p.1)
    ∙ ap (λ s. slotted 4 (take k ss ++ s ∷ [])) it ∙ ap (slotted 4) (sym (take_more ss k p.1 (omega (arith, length-take 4 ss))))

-- and nothing is left to go in once all slots are taken
pub slotted_all : (n k : ℕ) (ss : List Subtariff) → min n (length ss) ≤ k → slotted n (take k ss) ≡ slotted n ss
slotted_all zero k ss all = refl
slotted_all (suc n) zero [] all = refl
slotted_all (suc n) (suc k) [] all = refl
slotted_all (suc n) zero (s ∷ ss) all = absurd (omega arith)
slotted_all (suc n) (suc k) (s ∷ ss) all = ap (λ zs. Some s ∷ zs) (slotted_all n k ss (omega arith))
