-- Sums over seconds.
use Rattle.std.proofs.Common.{◌≡◌, ℕ, zero, suc, ◌+◌, ◌-◌, ◌*◌, ◌/◌, ◌%◌, ◌<◌, ◌≤◌, min, Bool, true, false, cond, eqb, sym, refl, ap, ◌∙◌, add-zero, add-suc, mod-lt, mod-eq_of_lt, suc-mul, mul-zero, div-add-mod', zero-add, zero-mul, mul-add, arith}
use native.Mathlib.Nat.{mod-add-mod, add-mod_left}
use Rattle.std.proofs.lemmas.Bool.{cond-true, cond-false, eq-eqb, ne_eqb}
use Rattle.units.specs.Meanings.{counted}
use Rattle.tariffs.specs.Sequences.{sum}

pub sum_split : (f : ℕ → ℕ) (m n : ℕ) → sum f (m + n) ≡ sum f m + sum (λ k. f (m + k)) n
sum_split f m zero = rw (add-zero m, add-zero (sum f m))
sum_split f m (suc n) = rw add-suc (omega (arith, sum_split f m n))

pub sum_same : (f g : ℕ → ℕ) (n : ℕ) → ((k : ℕ) → k < n → f k ≡ g k) → sum f n ≡ sum g n
sum_same f g zero h = refl
sum_same f g (suc n) h = omega (arith, sum_same f g n (λ k l. h k (omega arith)), h n (omega arith))

sum_start : (f : ℕ → ℕ) (n : ℕ) → sum (λ k. f (0 + k)) n ≡ sum f n
sum_start f n = sum_same _ f n (λ k _. ap f (zero-add k))

pub sum_zero : (n : ℕ) → sum (λ _. 0) n ≡ 0
sum_zero zero = refl
sum_zero (suc n) = omega (arith, sum_zero n)

pub sum_bound : (f : ℕ → ℕ) (b : ℕ) → ((k : ℕ) → f k ≤ b) → (n : ℕ) → sum f n ≤ n * b
sum_bound f b h zero = omega arith
sum_bound f b h (suc n) = omega (arith, sum_bound f b h n, h n, suc-mul n b)

-- a sum in two parts, each of other values
pub sum_parts :
    (f g h : ℕ → ℕ) (m n : ℕ) → m ≤ n → ((k : ℕ) → k < m → f k ≡ g k) → ((k : ℕ) → k < n - m → f (m + k) ≡ h k)
    → sum f n ≡ sum g m + sum h (n - m)
sum_parts f g h m n few front rest =
    let whole : n ≡ m + (n - m) = omega arith in
    ap (sum f) whole
    ∙ omega (arith, sum_split f m (n - m), sum_same f g m front, sum_same (λ k. f (m + k)) h (n - m) rest)

-- a price that is taken at each second that passes
once_more : (b : Bool) (s x c : ℕ) → s ≡ x * c → s + cond b x 0 ≡ x * (c + cond b 1 0)
once_more true s x c e = omega (arith, mul-add x c 1)
once_more false s x c e = omega (arith, mul-add x c 0)

pub sum_counted : (p : ℕ → Bool) (x a n : ℕ) → sum (λ k. cond (p (a + k)) x 0) n ≡ x * counted p a n
sum_counted p x a zero = sym (mul-zero x)
sum_counted p x a (suc n) = once_more (p (a + n)) _ x _ (sum_counted p x a n)

-- an amount that is taken at offset 0
pub sum_later : (x a n : ℕ) → 0 < a → sum (λ k. cond (eqb (a + k) 0) x 0) n ≡ 0
sum_later x a n h =
    sum_same _ (λ _. 0) n (λ k _. cond-false _ _ _ (ne_eqb (a + k) 0 (λ e. omega arith))) ∙ sum_zero n

pub sum_once : (x a n : ℕ) → a ≡ 0 → 0 < n → sum (λ k. cond (eqb (a + k) 0) x 0) n ≡ x
sum_once x a n z h =
    sum_parts _ (λ _. x) (λ _. 0) 1 n h (λ k l. cond-true _ _ _ (eq-eqb (a + k) 0 (omega arith)))
    (λ k _. cond-false _ _ _ (ne_eqb (a + (1 + k)) 0 (λ e. omega arith)))
    ∙ omega (arith, sum_zero (n - 1))

-- rounds of `round` seconds: w whole ones and r seconds more
whole_rounds :
    (g : ℕ → ℕ) (round w r : ℕ) → r < round → sum (λ k. g (k % round)) (w * round + r) ≡ w * sum g round + sum g r
whole_rounds g round zero r h =
    rw (zero-mul round, zero-mul (sum g round), zero-add r, zero-add (sum g r))
    (sum_same _ g r (λ k l. let low : k < round = omega arith in ap g (mod-eq_of_lt low)))
whole_rounds g round (suc w) r h =
    let rest : suc w * round + r - round ≡ w * round + r = omega (arith, suc-mul w round) in
    sum_parts (λ k. g (k % round)) g (λ k. g (k % round)) round (suc w * round + r) (omega (arith, suc-mul w round))
    (λ k l. ap g (mod-eq_of_lt l)) (λ k _. ap g (add-mod_left round k))
    ∙ rw rest (omega (arith, whole_rounds g round w r h, suc-mul w (sum g round)))

-- a stretch in rounds: what is left of the first, the whole ones, and the last
pub rounds :
    (g : ℕ → ℕ) (round from n first : ℕ) → 0 < round → first ≡ min n (round - from % round)
    → sum (λ k. g ((from + k) % round)) n
    ≡ sum (λ k. g (from % round + k)) first
    + ((n - first) / round * sum (λ k. g (0 + k)) round + sum (λ k. g (0 + k)) ((n - first) % round))
rounds g round from n first pos first_is =
    let low = mod-lt from pos in
    let rest : n - first ≡ (n - first) / round * round + (n - first) % round = sym (div-add-mod' (n - first) round) in
    sum_parts (λ k. g ((from + k) % round)) (λ k. g (from % round + k)) (λ k. g (k % round)) first n (omega arith)
    (λ k l. let in_round : from % round + k < round = omega arith in
    ap g (sym (mod-add-mod from round k) ∙ mod-eq_of_lt in_round))
    (λ k l. let next : from % round + (first + k) ≡ round + k = omega arith in
    ap g (sym (mod-add-mod from round (first + k)) ∙ ap (λ p. p % round) next ∙ add-mod_left round k))
    ∙ rw (sum_start g round, sum_start g ((n - first) % round))
    (ap (λ m. sum (λ k. g (from % round + k)) first + m)
    (ap (sum (λ k. g (k % round))) rest ∙ whole_rounds g round ((n - first) / round) ((n - first) % round) (mod-lt (n - first) pos)))
