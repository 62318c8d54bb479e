-- Facts on decoded texts.
use Rattle.std.proofs.Common.{◌≡◌, ℕ, ◌+◌, ◌*◌, ◌<◌, ◌≤◌, List, [], ◌∷◌, length, get_or, drop, zero, suc, refl, arith}
use Rattle.std.specs.Simd.{first_chunks}
use Rattle.lines.specs.Hexadecimal.{byte_of, decoded}
use Rattle.std.proofs.lemmas.List.{drop_more, drop-drop}

-- The pairs of a text, each with its digits.
pub pair_at : (count : ℕ) (text : List ℕ) (i : ℕ) → i < count → 2 * count ≤ length text
    → get_or (first_chunks 2 count text) i [] ≡ get_or text (2 * i) 0 ∷ (get_or text (2 * i + 1) 0 ∷ [])
pair_at zero text i h fits = absurd (omega (arith, h))
pair_at (suc count) [] i h fits = absurd (omega (arith, fits))
pair_at (suc count) (alone ∷ []) i h fits = absurd (omega (arith, fits))
pair_at (suc count) (high ∷ (low ∷ rest)) zero h fits = refl
pair_at (suc count) (high ∷ (low ∷ rest)) (suc i) h fits =
    let first : 2 * suc i ≡ suc (suc (2 * i)) = omega arith in
    let second : 2 * suc i + 1 ≡ suc (suc (2 * i + 1)) = omega arith in
    rw (second, first) (pair_at count rest i (omega (arith, h)) (omega (arith, fits)))

-- One pair of digits on.
pub decoded_more : (text : List ℕ) (i : ℕ) → 2 * i + 1 < length text
    → decoded (drop (2 * i) text) ≡ byte_of (get_or text (2 * i) 0) (get_or text (2 * i + 1) 0) ∷ decoded (drop (2 * (i + 1)) text)
decoded_more text i h =
    let first : 2 * i < length text = omega arith in
    let next : 2 * i + 1 + 1 ≡ 2 * (i + 1) = omega arith in
    rw (drop_more text (2 * i) 0, drop_more text (2 * i + 1) 0, next)

-- Lists that agree from one place on agree from the next on.
pub drop_after : (xs ys : List ℕ) (i : ℕ) → drop i xs ≡ drop i ys → drop (i + 1) xs ≡ drop (i + 1) ys
drop_after xs ys i e = cc (drop-drop 1 i xs, drop-drop 1 i ys)
