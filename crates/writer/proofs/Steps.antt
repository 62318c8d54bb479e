-- Pieces put down one by one.
use Rattle.std.proofs.Common.{◌≡◌, ℕ, ◌+◌, ◌*◌, ◌/◌, ◌%◌, ◌≤◌, List, [], ◌∷◌, ◌++◌, length, map, ap, ◌∙◌, append_assoc, div-one, arith}
use Rattle.std.specs.List.{flat_map}
use Rattle.std.proofs.lemmas.List.{length-append, length-take, length-map}
use Rattle.indication.specs.declared.entries.Entries.{Entries}
use Rattle.indication.specs.declared.entry.Entry.{Entry}
use Rattle.indication.specs.declared.header.Header.{Header}
use Rattle.indication.specs.Numbers.{big_endian}
use Rattle.indication.specs.Format.{Content, listed, entries, charge_bytes, term_bytes, first_eight, header_bytes, encoded}
use Rattle.indication.proofs.Spans.{length_joined}

-- the five parts of the header, one behind the other
pub header_laid :
    (current next : ℕ) (h : Header) (w p n f one two three four five : List ℕ)
    → p ≡ first_eight current next h → n ≡ big_endian 8 h.network → f ≡ big_endian 4 h.reference
    → one ≡ w ++ p → two ≡ one ++ h.mark.letters → three ≡ two ++ 0 ∷ [] → four ≡ three ++ n → five ≡ four ++ f
    → five ≡ w ++ header_bytes current next h
header_laid current next h w p n f one two three four five e_p e_n e_f e g i j k = rw (k, j, i, g, e, e_p, e_n, e_f) (simp append_assoc)

-- the last byte of a number
pub last_byte : (x : ℕ) → x % 256 ≡ x / 1 % 256
last_byte x = rw (div-one x)

-- the header, then the charges and the terms of all entries
pub all_laid :
    (c : Content) (current next charged timed : List Entry) (h w all : List ℕ)
    → current ≡ c.current → next ≡ c.next → charged ≡ entries c → timed ≡ entries c
    → h ≡ header_bytes (length current) (length next) c.header
    → w ≡ h ++ flat_map charge_bytes charged → all ≡ w ++ flat_map term_bytes timed → all ≡ encoded c
all_laid c current next charged timed h w all d e f g i j k =
    rw (k, j, i, d, e, f, g)
    (append_assoc (header_bytes (length c.current) (length c.next) c.header) (flat_map charge_bytes (entries c)) (flat_map term_bytes (entries c)))

-- how long pieces of width w make what they are put behind
pub length_behind :
    {A : Type 0} (f : Entry → List ℕ) (w : ℕ) → ((e : Entry) → length (f e) ≡ w)
    → (v : A → Entry) (before all : List ℕ) (xs : List A) → all ≡ before ++ flat_map f (map v xs) → length all ≡ length before + w * length xs
length_behind f w wide v before all xs is =
    ap length is
    ∙ length-append before (flat_map f (map v xs))
    ∙ ap (λ n. length before + n) (length_joined f w wide (map v xs) ∙ ap (λ n. w * n) (length-map xs v))

pub few : (e : Entries) → length (listed e) ≤ 6
few e = omega (arith, length-take e.count e.slots, e.six)

pub few_of_both : (current next : Entries) → length (listed current ++ listed next) ≤ 12
few_of_both current next = omega (arith, length-append (listed current) (listed next), few current, few next)
