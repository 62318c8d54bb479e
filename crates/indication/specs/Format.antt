-- Where an indication's values stand in its bytes, and the bytes of a value.
use Rattle.std.specs.Prelude.{ℕ, ◌+◌, ◌*◌, cond, List, [], ◌∷◌, ◌++◌, map, length, take, Some, None, Option, nat_lt, slice_index}
use Rattle.std.specs.Int.{w16}
use Rattle.std.proofs.Common.{to_z, of_z}
use Rattle.std.specs.List.{range_with_len, flat_map}
use Rattle.indication.specs.declared.entry.Charge.{Charge}
use Rattle.indication.specs.declared.entry.Term.{Term}
use Rattle.indication.specs.declared.entry.Entry.{Entry}
use Rattle.indication.specs.declared.entries.Entries.{Entries}
use Rattle.indication.specs.declared.header.Header.{Header}
use Rattle.indication.specs.declared.value.Indication.{Indication}
use Rattle.indication.specs.Numbers.{value, big_endian}
use Rattle.indication.specs.Codes.{kind_code, change_code, control_code, usage_code, kind_of, change_of, control_of, usage_of}

-- the byte at an offset; 0 past the end, where an accepted indication has nothing
abbrev pub byte : List ℕ → ℕ → ℕ
byte b at = slice_index b at

-- the n bytes from an offset on
abbrev pub part : List ℕ → ℕ → ℕ → List ℕ
part b at n = map (byte b) (range_with_len at n)

abbrev pub current_count : List ℕ → ℕ
current_count b = byte b 0

abbrev pub next_count : List ℕ → ℕ
next_count b = byte b 1

abbrev pub entry_count : List ℕ → ℕ
entry_count b = current_count b + next_count b

-- the length that the two counts ask for: the header, a charge and a term for each entry
abbrev pub full_length : List ℕ → ℕ
full_length b = 24 + 9 * entry_count b

-- the first byte of the charge of entry i, and of its term
abbrev pub charge_offset : ℕ → ℕ
charge_offset i = 24 + 6 * i

abbrev pub term_offset : List ℕ → ℕ → ℕ
term_offset b i = 24 + 6 * entry_count b + 3 * i

abbrev pub charge_at : List ℕ → ℕ → Charge
charge_at b i = record { size = value (part b (charge_offset i) 4); step = to_z w16 (value (part b (charge_offset i + 4) 2)) }

abbrev pub term_at : List ℕ → ℕ → Term
term_at b i = record { usage = usage_of (byte b (term_offset b i)); duration = value (part b (term_offset b i + 1) 2) }

abbrev pub entry_at : List ℕ → ℕ → Entry
entry_at b i = record { charge = charge_at b i; term = term_at b i }

-- what is said of entry i, where there is such an entry
abbrev pub if_entry : {X : Type 0} → List ℕ → ℕ → X → Option X
if_entry b i x = cond (nat_lt i (entry_count b)) (Some x) None

abbrev pub header_of : List ℕ → Header
header_of b =
    record {
      kind = kind_of (byte b 2);
      change = change_of (byte b 3);
      current_control = control_of (byte b 4);
      next_control = control_of (byte b 5);
      quarter = byte b 6;
      mark = record { kind = byte b 7; letters = part b 8 3 };
      network = value (part b 12 8);
      reference = value (part b 20 4);
    }

-- what an indication says
pub record Content : Type 0 where
  pub header : Header
  pub current : List Entry
  pub next : List Entry

-- the entries that a table of them holds
abbrev pub listed : Entries → List Entry
listed e = take e.count e.slots

abbrev pub content_of : Indication → Content
content_of v = record { header = v.header; current = listed v.current; next = listed v.next }

-- what bytes say. A tariff has at most six entries.
abbrev pub decoded : List ℕ → Content
decoded b =
    record {
      header = header_of b;
      current = take 6 (map (entry_at b) (range_with_len 0 (current_count b)));
      next = take 6 (map (entry_at b) (range_with_len (current_count b) (next_count b)));
    }

-- the bytes of a content
abbrev pub charge_bytes : Entry → List ℕ
charge_bytes e = big_endian 4 e.charge.size ++ big_endian 2 (of_z w16 e.charge.step)

abbrev pub term_bytes : Entry → List ℕ
term_bytes e = usage_code e.term.usage ∷ big_endian 2 e.term.duration

-- the first eight bytes of the header, with the counts of the two tariffs' entries
abbrev pub first_eight : ℕ → ℕ → Header → List ℕ
first_eight current next h =
    current
    ∷ (next
    ∷ (kind_code h.kind
    ∷ (change_code h.change
    ∷ (control_code h.current_control
    ∷ (control_code h.next_control
    ∷ (h.quarter
    ∷ (h.mark.kind
    ∷ [])))))))

abbrev pub header_bytes : ℕ → ℕ → Header → List ℕ
header_bytes current next h =
    first_eight current next h ++ (h.mark.letters ++ (0 ∷ (big_endian 8 h.network ++ big_endian 4 h.reference)))

abbrev pub entries : Content → List Entry
entries c = c.current ++ c.next

abbrev pub encoded : Content → List ℕ
encoded c =
    header_bytes (length c.current) (length c.next) c.header
    ++ (flat_map charge_bytes (entries c) ++ flat_map term_bytes (entries c))
