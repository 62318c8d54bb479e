-- Numbers and the bytes that write them: each is had back from the other.
use Rattle.std.proofs.Common.{◌≡◌, ℕ, zero, suc, ◌+◌, ◌*◌, ◌/◌, ◌%◌, ◌^◌, ◌<◌, List, [], ◌∷◌, length, sym, refl, ap, ◌∙◌, mod-eq_of_lt, mul_assoc, add_comm, arith}
use lib.Arith.{mod-mul, digits_div, digits_lt}
use native.Mathlib.Nat.{pow-succ', mod-one, add-mul-div_right, add-mul-mod_self_right, pow-le-pow_right}
use Rattle.std.specs.List.{AllByRecursion}
use Rattle.indication.specs.Numbers.{value, big_endian}

pow_pos : (n : ℕ) → 0 < 256 ^ n
pow_pos n = pow-le-pow_right {n = 256} (omega arith) {i = 0} {j = n} (omega arith)

pub length_big_endian : (n x : ℕ) → length (big_endian n x) ≡ n
length_big_endian zero x = refl
length_big_endian (suc n) x = ap suc (length_big_endian n x)

pub value_big_endian : (n x : ℕ) → value (big_endian n x) ≡ x % 256 ^ n
value_big_endian zero x = sym (mod-one x)
value_big_endian (suc n) x =
    rw (length_big_endian n x, value_big_endian n x, pow-succ' 256 n) (sym (mod-mul x {m = 256} {c = 256 ^ n} (omega arith) (pow_pos n)))

-- bytes below 256
abbrev pub Bytes : List ℕ → Type 0
Bytes ds = AllByRecursion (λ d. d < 256) ds

pub value_lt : (ds : List ℕ) → Bytes ds → value ds < 256 ^ length ds
value_lt [] h = omega arith
value_lt (d ∷ ds) h = rw pow-succ' (digits_lt {q = d} {m = 256} h.0 (value_lt ds h.1))

-- what is written to the left of n bytes does not change them
big_endian_add : (n q x : ℕ) → big_endian n (q * 256 ^ n + x) ≡ big_endian n x
big_endian_add zero q x = refl
big_endian_add (suc n) q x =
    let wide : q * 256 ^ suc n ≡ q * 256 * 256 ^ n = ap (λ m. q * m) (pow-succ' 256 n) ∙ sym (mul_assoc q 256 (256 ^ n)) in
    let turn : q * 256 * 256 ^ n + x ≡ x + q * 256 * 256 ^ n = add_comm _ _ in
    let over : (x + q * 256 * 256 ^ n) / 256 ^ n ≡ x / 256 ^ n + q * 256 = add-mul-div_right x (q * 256) (pow_pos n) in
    let top : (x / 256 ^ n + q * 256) % 256 ≡ x / 256 ^ n % 256 = add-mul-mod_self_right (x / 256 ^ n) q 256 in
    let rest : big_endian n (q * 256 * 256 ^ n + x) ≡ big_endian n x = big_endian_add n (q * 256) x in
    cc

pub big_endian_value : (ds : List ℕ) → Bytes ds → big_endian (length ds) (value ds) ≡ ds
big_endian_value [] h = refl
big_endian_value (d ∷ ds) h =
    let over : (d * 256 ^ length ds + value ds) / 256 ^ length ds ≡ d = digits_div d (value_lt ds h.1) in
    let top : d % 256 ≡ d = mod-eq_of_lt h.0 in
    let below : big_endian (length ds) (d * 256 ^ length ds + value ds) ≡ big_endian (length ds) (value ds) =
    big_endian_add (length ds) d (value ds) in
    let rest : big_endian (length ds) (value ds) ≡ ds = big_endian_value ds h.1 in
    cc
