-- The first wrong use of an indication, from the first one of each of its two tariffs.
use Rattle.std.proofs.Common.{◌≡◌, ℕ, ◌≤◌, List, Some, None, Option, MatchOption, sym, refl, inl, inr, arith}
use Rattle.indication.specs.Format.{byte, current_count, next_count}
use Rattle.indication.specs.Rules.{First, MisusedAt, BrokenUse, IsTariff}

-- one wrong use in the current tariff comes before those of the next
found_first :
    (b : List ℕ) (at : ℕ) → IsTariff b → First (MisusedAt b 0 (current_count b)) (Some at)
    → (o : ℕ) → BrokenUse b o → at ≤ o
found_first b at t (m, least) o (inl (_, inl w)) = least o w
found_first b at t ((j, in_current, is, wrong), least) o (inl (_, inr (k, in_next, o_is, o_wrong))) = omega arith
found_first b at t h o (inr (add_on, _, _)) = absurd (omega arith)

pub found :
    (b : List ℕ) (kind n at : ℕ) → kind ≡ 1 → kind ≡ byte b 2 → n ≡ current_count b
    → First (MisusedAt b 0 n) (Some at) → First (BrokenUse b) (Some at)
found b kind n at one k e h =
    let t : IsTariff b = omega arith in
    let m : First (MisusedAt b 0 (current_count b)) (Some at) = rw e at h in
    (inl (t, inl m.0), found_first b at t m)

-- with none there, the first one in the next tariff is the first of all
left_none : (b : List ℕ) → First (MisusedAt b 0 (current_count b)) None → First (MisusedAt b (current_count b) (next_count b)) None → IsTariff b → First (BrokenUse b) None
left_none b none h t at (inl (_, inl w)) = none at w
left_none b none h t at (inl (_, inr w)) = h at w
left_none b none h t at (inr (add_on, _, _)) = omega arith

left_least : (b : List ℕ) (at : ℕ) → First (MisusedAt b 0 (current_count b)) None → First (MisusedAt b (current_count b) (next_count b)) (Some at) → IsTariff b → (o : ℕ) → BrokenUse b o → at ≤ o
left_least b at none (m, least) t o (inl (_, inl w)) = absurd (none o w)
left_least b at none (m, least) t o (inl (_, inr w)) = least o w
left_least b at none (m, least) t o (inr (add_on, _, _)) = absurd (omega arith)

left : (b : List ℕ) (r : Option ℕ) → First (MisusedAt b 0 (current_count b)) None → First (MisusedAt b (current_count b) (next_count b)) r → IsTariff b → First (BrokenUse b) r
left b None none h t = left_none b none h t
left b (Some at) none h t = (inl (t, inr h.0), left_least b at none h t)

pub left_to_next :
    (b : List ℕ) (kind n m : ℕ) (r : Option ℕ) → kind ≡ 1 → kind ≡ byte b 2 → n ≡ current_count b → m ≡ next_count b
    → First (MisusedAt b 0 n) None → First (MisusedAt b n m) r → First (BrokenUse b) r
left_to_next b kind n m r one k e f none h = left b r (rw e at none) (rw (e, f) at h) (omega arith)

-- r is the first in the current tariff, of n entries, and s is r, or else the first in the next tariff, of m
pub first_of_both :
    (b : List ℕ) (n m : ℕ) (r s : Option ℕ) → n ≡ current_count b → m ≡ next_count b → IsTariff b → First (MisusedAt b 0 n) r
    → MatchOption r (First (MisusedAt b n m) s) (λ at. s ≡ Some at) → First (BrokenUse b) s
first_of_both b n m (Some at) s e f t h is = rw is (found b 1 n at refl (sym t) e h)
first_of_both b n m None s e f t none h = left_to_next b 1 n m s refl (sym t) e f none h
