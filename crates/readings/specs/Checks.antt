-- The rules as checks: each computes the first offset at which bytes break its rule, if any.
use Rattle.std.specs.Prelude.{ℕ, zero, suc, ◌+◌, ◌-◌, min, Bool, true, cond, not, ◌&&◌, ◌||◌, List, length, Some, None, Option, ◌==◌, nat_le, nat_lt}
use Rattle.indication.specs.declared.header.Kind.{Kind}
use Rattle.indication.specs.Numbers.{value}
use Rattle.indication.specs.Codes.{kind_code}
use Rattle.indication.specs.Format.{byte, part, current_count, next_count, entry_count, full_length, charge_offset, term_offset, charge_at, term_at}
use Rattle.indication.specs.Rules.{uses_from}
use Rattle.units.specs.Meanings.{Meaning, admitted}

-- the first of two answers, if any
abbrev pub either : Option ℕ → Option ℕ → Option ℕ
either (Some at) other = Some at
either None other = other

-- the offset of the first of n things that is wrong
abbrev pub first_wrong : (ℕ → Bool) → (ℕ → ℕ) → ℕ → Option ℕ
first_wrong wrong offset zero = None
first_wrong wrong offset (suc n) = either (first_wrong wrong offset n) (cond (wrong n) (Some (offset n)) None)

-- shorter than a header, or not of the length that the counts ask for
abbrev pub wrong_length : List ℕ → Option ℕ
wrong_length b =
    cond (nat_lt (length b) 24) (Some (length b))
    (cond (length b == full_length b) None (Some (min (length b) (full_length b))))

abbrev pub is_tariff : List ℕ → Bool
is_tariff b = byte b 2 == 1

abbrev pub is_add_on : List ℕ → Bool
is_add_on b = byte b 2 == 2

-- the rules of counts, flags and the quarter, as tests
abbrev pub wrong_count : Bool → ℕ → ℕ → Bool
wrong_count add_on wanted count = nat_lt 6 count || (add_on && not (count == wanted))

abbrev pub wrong_flag : Bool → ℕ → Bool
wrong_flag idle flag = nat_lt 1 flag || (idle && not (flag == 0))

abbrev pub wrong_quarter : ℕ → ℕ → Bool
wrong_quarter count quarter = cond (count == 0) (not (quarter == 0)) (quarter == 0 || nat_lt 96 quarter)

-- the header's byte at an offset breaks the layout
abbrev pub wrong_header : Kind → List ℕ → ℕ → Bool
wrong_header taken b at =
    (at == 0 && wrong_count (is_add_on b) 1 (current_count b))
    || ((at == 1 && wrong_count (is_add_on b) 0 (next_count b))
    || ((at == 2 && not (byte b 2 == kind_code taken))
    || ((at == 3 && wrong_flag (is_add_on b) (byte b 3))
    || ((at == 4 && wrong_flag (is_add_on b || current_count b == 0) (byte b 4))
    || ((at == 5 && wrong_flag (next_count b == 0) (byte b 5))
    || ((at == 6 && wrong_quarter (next_count b) (byte b 6))
    || (at == 11 && not (byte b 11 == 0))))))))

-- the first byte of the header that does
abbrev pub broken_header : Kind → List ℕ → Option ℕ
broken_header taken b = first_wrong (wrong_header taken b) (λ at. at) 12

-- the k-th use goes on with the order: an attempt comes first, a set-up comes first or after an attempt, and a subtariff
-- has no subtariff four places before it
abbrev pub goes_on : (ℕ → ℕ) → ℕ → Bool
goes_on u k =
    (u k == 3 && k == 0)
    || ((u k == 2 && (k == 0 || u (k - 1) == 3))
    || (nat_le (u k) 1 && (nat_lt k 4 || nat_lt 1 (u (k - 4)))))

-- the first uses are in order
abbrev pub in_order : (ℕ → ℕ) → ℕ → Bool
in_order u zero = true
in_order u (suc k) = in_order u k && goes_on u k

-- the first use byte at which the tariff of n entries from `first` on leaves the order
abbrev pub misused : List ℕ → ℕ → ℕ → Option ℕ
misused b first n = first_wrong (λ k. not (in_order (uses_from b first) (k + 1))) (λ k. term_offset b (first + k)) n

-- the first use byte that breaks the layout
abbrev pub broken_use : List ℕ → Option ℕ
broken_use b =
    cond (is_tariff b) (either (misused b 0 (current_count b)) (misused b (current_count b) (next_count b)))
    (cond (is_add_on b && not (byte b (term_offset b 0) == 4)) (Some (term_offset b 0)) None)

abbrev pub is_empty : List ℕ → Bool
is_empty b = is_tariff b && entry_count b == 0

-- an entry of that use, the last of its tariff or not, may have that duration
abbrev pub allowed : ℕ → Bool → ℕ → Bool
allowed u last d = (nat_le u 1 && (nat_le 1 d && nat_le d 36000)) || ((u == 0 && (last && d == 0)) || (nat_lt 1 u && d == 0))

abbrev pub allowed_at : List ℕ → ℕ → Bool
allowed_at b i =
    allowed (byte b (term_offset b i)) (i + 1 == current_count b || i + 1 == entry_count b)
    (value (part b (term_offset b i + 1) 2))

-- the first duration that its entry may not have
abbrev pub disallowed : List ℕ → Option ℕ
disallowed b = first_wrong (λ i. not (allowed_at b i)) (λ i. term_offset b i + 1) (entry_count b)

-- the first charge that the unit does not admit for its use
abbrev pub not_admitted : Meaning → List ℕ → Option ℕ
not_admitted m b =
    first_wrong (λ i. not (admitted m (charge_at b i) (term_at b i).usage)) charge_offset (entry_count b)
