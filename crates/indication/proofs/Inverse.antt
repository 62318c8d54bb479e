-- The bytes of what accepted bytes say are those bytes.
use Rattle.std.proofs.Common.{◌≡◌, ℕ, zero, suc, ◌+◌, ◌*◌, ◌<◌, ◌≤◌, List, ◌++◌, map, length, sym, refl, ap, ◌∙◌, add-zero, arith, w16, to_z, of_z}
use Rattle.std.specs.List.{range_with_len, flat_map}
use Rattle.std.proofs.lemmas.Int.{of_z-to_z}
use Rattle.std.proofs.lemmas.List.FromFn.{length-map-range_with_len}
use Rattle.std.proofs.lemmas.List.{take_all, map-append}
use Rattle.std.proofs.lemmas.List.Folds.{flat_map-map}
use Rattle.indication.specs.declared.header.Kind.{Kind}
use Rattle.indication.specs.declared.header.Kind.TheVariants as kind
use Rattle.indication.specs.Numbers.{value, big_endian}
use Rattle.indication.specs.Codes.{kind_code, change_code, control_code, usage_code, kind_of, change_of, control_of, usage_of}
use Rattle.indication.specs.Format.{byte, part, current_count, next_count, entry_count, charge_offset, term_offset, entry_at, header_of, decoded, charge_bytes, term_bytes, header_bytes, entries, encoded}
use Rattle.indication.specs.Rules.{Accepted}
use Rattle.indication.proofs.Digits.{Bytes, value_lt, big_endian_value}
use Rattle.indication.proofs.Spans.{counting_append, part_append, part_all, joined_parts}
use Rattle.indication.proofs.WellFormed as formed

-- a code is had back from its case
kind_code_kind_of : (code : ℕ) (k : Kind) → code ≡ kind_code k → kind_code (kind_of code) ≡ code
kind_code_kind_of code kind.Tariff e = rw e
kind_code_kind_of code kind.AddOn e = rw e

flag_change : (code : ℕ) → code ≤ 1 → change_code (change_of code) ≡ code
flag_change zero h = refl
flag_change (suc zero) h = refl
flag_change (suc (suc n)) h = absurd (omega arith)

flag_control : (code : ℕ) → code ≤ 1 → control_code (control_of code) ≡ code
flag_control zero h = refl
flag_control (suc zero) h = refl
flag_control (suc (suc n)) h = absurd (omega arith)

usage_code_usage_of : (code : ℕ) → code ≤ 4 → usage_code (usage_of code) ≡ code
usage_code_usage_of zero h = refl
usage_code_usage_of (suc zero) h = refl
usage_code_usage_of (suc (suc zero)) h = refl
usage_code_usage_of (suc (suc (suc zero))) h = refl
usage_code_usage_of (suc (suc (suc (suc zero)))) h = refl
usage_code_usage_of (suc (suc (suc (suc (suc n))))) h = absurd (omega arith)

module _ (b : List ℕ) (bytes : (i : ℕ) → byte b i < 256) where
  part_bytes : (at n : ℕ) → Bytes (part b at n)
  part_bytes at zero = tt
  part_bytes at (suc n) = (bytes at, part_bytes (at + 1) n)

  charge_part : (i : ℕ) → charge_bytes (entry_at b i) ≡ part b (charge_offset i) 6
  charge_part i =
      let size : big_endian 4 (value (part b (charge_offset i) 4)) ≡ part b (charge_offset i) 4 =
      big_endian_value (part b (charge_offset i) 4) (part_bytes (charge_offset i) 4) in
      let bits : of_z w16 (to_z w16 (value (part b (charge_offset i + 4) 2))) ≡ value (part b (charge_offset i + 4) 2) =
      of_z-to_z w16 _ (value_lt (part b (charge_offset i + 4) 2) (part_bytes (charge_offset i + 4) 2)) in
      let step : big_endian 2 (value (part b (charge_offset i + 4) 2)) ≡ part b (charge_offset i + 4) 2 =
      big_endian_value (part b (charge_offset i + 4) 2) (part_bytes (charge_offset i + 4) 2) in
      let cut : part b (charge_offset i) 6 ≡ part b (charge_offset i) 4 ++ part b (charge_offset i + 4) 2 = part_append b (charge_offset i) 4 2 in
      cc

  term_part : (i : ℕ) → byte b (term_offset b i) ≤ 4 → term_bytes (entry_at b i) ≡ part b (term_offset b i) 3
  term_part i h =
      let code = usage_code_usage_of (byte b (term_offset b i)) h in
      let duration : big_endian 2 (value (part b (term_offset b i + 1) 2)) ≡ part b (term_offset b i + 1) 2 =
      big_endian_value (part b (term_offset b i + 1) 2) (part_bytes (term_offset b i + 1) 2) in
      cc

  module _ (taken : Kind) (ok : Accepted taken b) where
    current_is : (decoded b).current ≡ map (entry_at b) (range_with_len 0 (current_count b))
    current_is = take_all 6 _ (omega (arith, length-map-range_with_len (entry_at b) 0 (current_count b), formed.few_current taken b ok))

    next_is : (decoded b).next ≡ map (entry_at b) (range_with_len (current_count b) (next_count b))
    next_is = take_all 6 _ (omega (arith, length-map-range_with_len (entry_at b) (current_count b) (next_count b), formed.few_next taken b ok))

    entries_are : entries (decoded b) ≡ map (entry_at b) (range_with_len 0 (entry_count b))
    entries_are =
        let cut : range_with_len 0 (entry_count b) ≡ range_with_len 0 (current_count b) ++ range_with_len (0 + current_count b) (next_count b) =
        counting_append 0 (current_count b) (next_count b) in
        let z : 0 + current_count b ≡ current_count b = omega arith in
        let apart = map-append (entry_at b) (range_with_len 0 (current_count b)) (range_with_len (current_count b) (next_count b)) in
        let one = current_is in
        let two = next_is in
        cc

    header_is : header_bytes (length (decoded b).current) (length (decoded b).next) (header_of b) ≡ part b 0 24
    header_is =
        let one : length (decoded b).current ≡ byte b 0 = ap length current_is ∙ length-map-range_with_len (entry_at b) 0 (current_count b) in
        let two : length (decoded b).next ≡ byte b 1 = ap length next_is ∙ length-map-range_with_len (entry_at b) (current_count b) (next_count b) in
        let k = kind_code_kind_of (byte b 2) taken (formed.kind_is taken b ok) in
        let c = flag_change (byte b 3) (formed.change_flag taken b ok) in
        let c1 = flag_control (byte b 4) (formed.current_flag taken b ok) in
        let c2 = flag_control (byte b 5) (formed.next_flag taken b ok) in
        let z = formed.zero_byte taken b ok in
        let network : big_endian 8 (value (part b 12 8)) ≡ part b 12 8 = big_endian_value (part b 12 8) (part_bytes 12 8) in
        let reference : big_endian 4 (value (part b 20 4)) ≡ part b 20 4 = big_endian_value (part b 20 4) (part_bytes 20 4) in
        cc

    charges_are : flat_map charge_bytes (entries (decoded b)) ≡ part b 24 (6 * entry_count b)
    charges_are =
        ap (flat_map charge_bytes) entries_are
        ∙ flat_map-map charge_bytes (entry_at b) (range_with_len 0 (entry_count b))
        ∙ joined_parts b (λ i. charge_bytes (entry_at b i)) 6 24 0 (entry_count b) (λ i l m. charge_part i)

    terms_are : flat_map term_bytes (entries (decoded b)) ≡ part b (24 + 6 * entry_count b) (3 * entry_count b)
    terms_are =
        ap (flat_map term_bytes) entries_are
        ∙ flat_map-map term_bytes (entry_at b) (range_with_len 0 (entry_count b))
        ∙ joined_parts b (λ i. term_bytes (entry_at b i)) 3 (24 + 6 * entry_count b) 0 (entry_count b)
        (λ i l m. term_part i (formed.use_code taken b ok i (omega arith)))
        ∙ ap (λ at. part b at (3 * entry_count b)) (add-zero (24 + 6 * entry_count b))

    pub encoded_decoded : encoded (decoded b) ≡ b
    encoded_decoded =
        let n : ℕ = entry_count b in
        let all : length b ≡ 24 + (6 * n + 3 * n) = omega (arith, formed.long taken b ok) in
        let whole : b ≡ part b 0 (24 + (6 * n + 3 * n)) = sym (part_all b) ∙ ap (part b 0) all in
        let first = header_is in
        let charges = charges_are in
        let terms = terms_are in
        let cut = part_append b 0 24 (6 * n + 3 * n) in
        let rest = part_append b 24 (6 * n) (3 * n) in
        cc
