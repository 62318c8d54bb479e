-- The bytes of a list from an offset on, in one piece or in pieces of one width.
use Rattle.std.proofs.Common.{◌≡◌, ℕ, zero, suc, ◌+◌, ◌*◌, ◌<◌, ◌≤◌, List, [], ◌∷◌, ◌++◌, map, length, get_or, take, drop, sym, refl, ap, ◌∙◌, append_assoc, add-zero, mul-zero, zero-add, mul-suc, mul-add, arith}
use Rattle.std.specs.List.{range_with_len, flat_map}
use Rattle.std.proofs.lemmas.List.FromFn.{length-map-range_with_len, get_or-map-range_with_len}
use Rattle.std.proofs.lemmas.List.{map-append, same_lists, get_or_default, get_or-append-add, get_or_append_left, length-append, take-append-drop, drop_more, length-take-le}
use Rattle.indication.specs.Format.{byte, part}

pub counting_append : (a m n : ℕ) → range_with_len a (m + n) ≡ range_with_len a m ++ range_with_len (a + m) n
counting_append a zero n = rw (zero-add n, add-zero a)
counting_append a (suc m) n =
    let one_more : suc m + n ≡ suc (m + n) = omega arith in
    let shifted : a + 1 + m ≡ a + suc m = omega arith in
    rw one_more (ap (λ l. a ∷ l) (counting_append (a + 1) m n ∙ ap (λ x. range_with_len (a + 1) m ++ range_with_len x n) shifted))

pub part_append : (b : List ℕ) (at m n : ℕ) → part b at (m + n) ≡ part b at m ++ part b (at + m) n
part_append b at m n = ap (map (byte b)) (counting_append at m n) ∙ map-append (byte b) (range_with_len at m) (range_with_len (at + m) n)

-- all of a list
pub part_all : (b : List ℕ) → part b 0 (length b) ≡ b
part_all b =
    same_lists _ _ (length-map-range_with_len (byte b) 0 (length b))
    (λ k d h.
    let l : k < length b = omega (arith, length-map-range_with_len (byte b) 0 (length b)) in
    get_or-map-range_with_len (byte b) 0 (length b) k k d l (omega arith) ∙ get_or_default b k 0 d l)

-- pieces of width w, one after another, are one piece
pub joined_parts :
    (b : List ℕ) (f : ℕ → List ℕ) (w at : ℕ) (first n : ℕ)
    → ((i : ℕ) → first ≤ i → i < first + n → f i ≡ part b (at + w * i) w)
    → flat_map f (range_with_len first n) ≡ part b (at + w * first) (w * n)
joined_parts b f w at first zero h = rw (mul-zero w)
joined_parts b f w at first (suc n) h =
    let here : f first ≡ part b (at + w * first) w = h first (omega arith) (omega arith) in
    let later : flat_map f (range_with_len (first + 1) n) ≡ part b (at + w * (first + 1)) (w * n) =
    joined_parts b f w at (first + 1) n (λ i g l. h i (omega arith) (omega arith)) in
    let next : at + w * (first + 1) ≡ at + w * first + w = omega (arith, mul-add w first 1) in
    let wide : w * suc n ≡ w + w * n = omega (arith, mul-add w n 1) in
    let cut : part b (at + w * first) (w + w * n) ≡ part b (at + w * first) w ++ part b (at + w * first + w) (w * n) =
    part_append b (at + w * first) w (w * n) in
    cc

pub joined_append : {X A : Type 0} (f : X → List A) (xs ys : List X) → flat_map f (xs ++ ys) ≡ flat_map f xs ++ flat_map f ys
joined_append f [] ys = refl
joined_append f (x ∷ xs) ys = ap (λ zs. f x ++ zs) (joined_append f xs ys) ∙ sym (append_assoc (f x) (flat_map f xs) (flat_map f ys))

-- pieces of width w take w times as many places
pub length_joined : {X A : Type 0} (f : X → List A) (w : ℕ) → ((x : X) → length (f x) ≡ w) → (xs : List X) → length (flat_map f xs) ≡ w * length xs
length_joined f w h [] = sym (mul-zero w)
length_joined f w h (x ∷ xs) =
    omega (arith, length-append (f x) (flat_map f xs), h x, length_joined f w h xs, mul-suc w (length xs))

-- what stands between p and s
pub part_at : (p x s : List ℕ) (at n : ℕ) → length p ≡ at → length x ≡ n → part (p ++ (x ++ s)) at n ≡ x
part_at p x s at n p_long x_long =
    same_lists _ _ (length-map-range_with_len (byte (p ++ (x ++ s))) at n ∙ sym x_long)
    (λ k d h.
    let l : k < n = omega (arith, length-map-range_with_len (byte (p ++ (x ++ s))) at n) in
    let e : at + k ≡ length p + k = omega arith in
    let m : k < length x = omega arith in
    get_or-map-range_with_len (byte (p ++ (x ++ s))) at n k (at + k) d l refl
    ∙ ap (byte (p ++ (x ++ s))) e
    ∙ get_or-append-add p (x ++ s) k 0
    ∙ get_or_append_left x s 0 k m
    ∙ get_or_default x k 0 d m)

-- the piece of element i
pub part_joined :
    {X : Type 0} (f : X → List ℕ) (w : ℕ) → ((x : X) → length (f x) ≡ w)
    → (p s : List ℕ) (xs : List X) (i at : ℕ) (d : X) → i < length xs → length p + w * i ≡ at
    → part (p ++ (flat_map f xs ++ s)) at w ≡ f (get_or xs i d)
part_joined f w h p s xs i at d l e =
    let x = get_or xs i d in
    let front = flat_map f (take i xs) in
    let back = flat_map f (drop (i + 1) xs) in
    let apart : flat_map f xs ≡ front ++ (f x ++ back) =
    ap (flat_map f) (sym (take-append-drop i xs) ∙ ap (λ ys. take i xs ++ ys) (drop_more xs i d l))
    ∙ joined_append f (take i xs) (x ∷ drop (i + 1) xs) in
    let whole : p ++ (flat_map f xs ++ s) ≡ (p ++ front) ++ (f x ++ (back ++ s)) =
    ap (λ ys. p ++ (ys ++ s)) apart ∙ simp append_assoc in
    let long : length (p ++ front) ≡ at =
    length-append p front
    ∙ ap (λ n. length p + n) (length_joined f w h (take i xs) ∙ ap (λ n. w * n) (length-take-le i xs (omega arith)))
    ∙ e in
    ap (λ ys. part ys at w) whole ∙ part_at (p ++ front) (f x) (back ++ s) at w long (h x)
