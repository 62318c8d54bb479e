-- A change to every operator of a call.
use Rattle.std.proofs.Common.{◌≡◌, List, [], ◌∷◌, map, length, get_or, Some, None, Option, refl, ap, arith}
use Rattle.std.specs.Option.{option_map}

-- four seats, one by one
pub all_four :
    {X : Type 0} (f : Option X → Option X) (seats : List (Option X)) (a b c d : Option X) → length seats ≡ 4
    → a ≡ f (get_or seats 0 None) → b ≡ f (get_or seats 1 None) → c ≡ f (get_or seats 2 None) → d ≡ f (get_or seats 3 None)
    → a ∷ (b ∷ (c ∷ (d ∷ []))) ≡ map f seats
all_four f [] a b c d e p q r s = absurd (omega arith)
all_four f (_ ∷ []) a b c d e p q r s = absurd (omega arith)
all_four f (_ ∷ (_ ∷ [])) a b c d e p q r s = absurd (omega arith)
all_four f (_ ∷ (_ ∷ (_ ∷ []))) a b c d e p q r s = absurd (omega arith)
all_four f (_ ∷ (_ ∷ (_ ∷ (_ ∷ [])))) a b c d e p q r s = rw (p, q, r, s)
all_four f (_ ∷ (_ ∷ (_ ∷ (_ ∷ (_ ∷ _))))) a b c d e p q r s = absurd (omega arith)

-- no change
pub everyone_same : {X : Type 0} (seats : List (Option X)) → map (option_map (λ op. op)) seats ≡ seats
everyone_same [] = refl
everyone_same (None ∷ seats) = ap (λ rest. None ∷ rest) (everyone_same seats)
everyone_same (Some op ∷ seats) = ap (λ rest. Some op ∷ rest) (everyone_same seats)
