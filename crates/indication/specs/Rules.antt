-- Which byte strings are indications, and which refusal any other gets.
use Rattle.std.specs.Prelude.{◌≡◌, ℕ, ◌+◌, ◌<◌, ◌≤◌, min, Bool, ◌≢◌, ◌⊎◌, List, length, MatchBool, Option, MatchOption}
use Rattle.indication.specs.declared.header.Kind.{Kind}
use Rattle.indication.specs.declared.fault.Fault.{Fault}
use Rattle.indication.specs.declared.fault.Fault.TheVariants.{WrongLength, BrokenLayout, EmptyTariff, WrongDuration, ForeignMark, NotAdmitted, NoRoom, TooManyIndications, AddOnBeforeTariff, NoCurrentTariff, TooManyNetworks, PastLimit}
use Rattle.indication.specs.Faults.{number_of, offset_of}
use Rattle.indication.specs.Numbers.{value}
use Rattle.indication.specs.Codes.{kind_code}
use Rattle.indication.specs.Format.{byte, part, current_count, next_count, entry_count, full_length, term_offset}

-- the codes of the uses
abbrev pub Periodic : ℕ → Type 0
Periodic u = u ≡ 0

abbrev pub Subtariff : ℕ → Type 0
Subtariff u = u ≤ 1

abbrev pub SetUp : ℕ → Type 0
SetUp u = u ≡ 2

abbrev pub Attempt : ℕ → Type 0
Attempt u = u ≡ 3

abbrev pub AddOn : ℕ → Type 0
AddOn u = u ≡ 4

-- The first n uses of a tariff are in order: at most one attempt, then at most one set-up, then at most four subtariffs.
-- The attempts end at place s and the set-ups at place t.
pub record InOrder (use_of : ℕ → ℕ) (n : ℕ) : Type 0 where
  pub s : ℕ
  pub t : ℕ
  pub one_attempt : s ≤ 1
  pub then_one_set_up : (s ≤ t) × (t ≤ s + 1)
  pub then_four_subtariffs : (t ≤ n) × (n ≤ t + 4)
  pub attempts : (k : ℕ) → k < s → Attempt (use_of k)
  pub set_ups : (k : ℕ) → s ≤ k → k < t → SetUp (use_of k)
  pub subtariffs : (k : ℕ) → t ≤ k → k < n → Subtariff (use_of k)

-- the uses of the tariff whose entries begin at entry `first`
abbrev pub uses_from : List ℕ → ℕ → ℕ → ℕ
uses_from b first k = byte b (term_offset b (first + k))

-- The tariff of n entries from `first` on breaks the order at a use byte: the uses up to that one are not in order.
abbrev pub MisusedAt : List ℕ → ℕ → ℕ → ℕ → Type 0
MisusedAt b first n at =
    (k : ℕ) × (k < n) × (at ≡ term_offset b (first + k)) × (InOrder (uses_from b first) (k + 1) → ⊥)

abbrev pub IsTariff : List ℕ → Type 0
IsTariff b = byte b 2 ≡ 1

abbrev pub IsAddOn : List ℕ → Type 0
IsAddOn b = byte b 2 ≡ 2

-- a count is at most 6, and the one wanted in an add-on
abbrev pub WrongCount : Type 0 → ℕ → ℕ → Type 0
WrongCount add_on wanted count = (6 < count) ⊎ (add_on × (count ≢ wanted))

-- a flag is 0 or 1, and 0 where it has nothing to say
abbrev pub WrongFlag : Type 0 → ℕ → Type 0
WrongFlag idle flag = (1 < flag) ⊎ (idle × (flag ≢ 0))

-- the quarter is 1 to 96 where there is a next tariff, and 0 where there is none
abbrev pub WrongQuarter : ℕ → ℕ → Type 0
WrongQuarter count quarter = ((count ≢ 0) × ((quarter ≡ 0) ⊎ (96 < quarter))) ⊎ ((count ≡ 0) × (quarter ≢ 0))

-- A byte of the header breaks the layout. `taken` is the kind that the caller takes.
-- An add-on has one entry and no next tariff. Byte 3 tells a change with restart (1) from one without (0), bytes 4 and 5
-- a tariff that is not cyclic (1) from one that is (0): they have nothing to say in an add-on or of a tariff that is absent.
abbrev pub BrokenHeader : Kind → List ℕ → ℕ → Type 0
BrokenHeader taken b at =
    ((at ≡ 0) × WrongCount (IsAddOn b) 1 (current_count b))
    ⊎ ((at ≡ 1) × WrongCount (IsAddOn b) 0 (next_count b))
    ⊎ ((at ≡ 2) × (byte b 2 ≢ kind_code taken))
    ⊎ ((at ≡ 3) × WrongFlag (IsAddOn b) (byte b 3))
    ⊎ ((at ≡ 4) × WrongFlag (IsAddOn b ⊎ (current_count b ≡ 0)) (byte b 4))
    ⊎ ((at ≡ 5) × WrongFlag (next_count b ≡ 0) (byte b 5))
    ⊎ ((at ≡ 6) × WrongQuarter (next_count b) (byte b 6))
    ⊎ ((at ≡ 11) × (byte b 11 ≢ 0))

-- A use byte breaks the layout: each tariff's uses are in order, and the entry of an add-on is one.
abbrev pub BrokenUse : List ℕ → ℕ → Type 0
BrokenUse b at =
    (IsTariff b × (MisusedAt b 0 (current_count b) at ⊎ MisusedAt b (current_count b) (next_count b) at))
    ⊎ (IsAddOn b × (at ≡ term_offset b 0) × (AddOn (byte b (term_offset b 0)) → ⊥))

-- entry i is the last of its tariff
abbrev pub IsLast : List ℕ → ℕ → Type 0
IsLast b i = (i + 1 ≡ current_count b) ⊎ (i + 1 ≡ entry_count b)

-- A subtariff lasts 1 to 36,000 seconds; the last of its tariff, if periodic, may have 0 and is then without end.
-- No other use has a duration.
abbrev pub Allowed : ℕ → Type 0 → ℕ → Type 0
Allowed u last d =
    (Subtariff u × (1 ≤ d) × (d ≤ 36000)) ⊎ (Periodic u × last × (d ≡ 0)) ⊎ ((Subtariff u → ⊥) × (d ≡ 0))

abbrev pub AllowedAt : List ℕ → ℕ → Type 0
AllowedAt b i = Allowed (byte b (term_offset b i)) (IsLast b i) (value (part b (term_offset b i + 1) 2))

abbrev pub DisallowedAt : List ℕ → ℕ → Type 0
DisallowedAt b at = (i : ℕ) × (i < entry_count b) × (at ≡ term_offset b i + 1) × (AllowedAt b i → ⊥)

-- Shorter than a header, it shows at its end; else where the shorter of the two lengths ends.
abbrev pub WrongLengthAt : List ℕ → ℕ → Type 0
WrongLengthAt b at =
    ((length b < 24) × (at ≡ length b))
    ⊎ ((24 ≤ length b) × (length b ≢ full_length b) × (at ≡ min (length b) (full_length b)))

-- a tariff indication without an entry
abbrev pub IsEmpty : List ℕ → Type 0
IsEmpty b = IsTariff b × (entry_count b ≡ 0)

-- A refusal has a ground in the bytes.
abbrev pub Grounds : Kind → List ℕ → Fault → Type 0
Grounds taken b (WrongLength at) = WrongLengthAt b at
Grounds taken b (BrokenLayout at) = BrokenHeader taken b at ⊎ BrokenUse b at
Grounds taken b EmptyTariff = IsEmpty b
Grounds taken b (WrongDuration at) = DisallowedAt b at
Grounds taken b ForeignMark = ⊥
Grounds taken b (NotAdmitted at) = ⊥
Grounds taken b (NoRoom needed) = ⊥
Grounds taken b TooManyIndications = ⊥
Grounds taken b AddOnBeforeTariff = ⊥
Grounds taken b NoCurrentTariff = ⊥
Grounds taken b TooManyNetworks = ⊥
Grounds taken b (PastLimit left) = ⊥

-- f goes before g: the smaller number, then the smaller offset
abbrev pub Precedes : Fault → Fault → Type 0
Precedes f g = (number_of f < number_of g) ⊎ ((number_of f ≡ number_of g) × (offset_of f ≤ offset_of g))

-- f has a ground, and goes before every refusal that has one
pub record Foremost (grounds : Fault → Type 0) (f : Fault) : Type 0 where
  pub grounded : grounds f
  pub first : (g : Fault) → grounds g → Precedes f g

-- no refusal has a ground
abbrev pub Groundless : (Fault → Type 0) → Type 0
Groundless grounds = (f : Fault) → grounds f → ⊥

abbrev pub Refused : Kind → List ℕ → Fault → Type 0
Refused taken b f = Foremost (Grounds taken b) f

abbrev pub Accepted : Kind → List ℕ → Type 0
Accepted taken b = Groundless (Grounds taken b)

-- a test that is true just where P holds
abbrev pub Tells : Bool → Type 0 → Type 0
Tells r P = MatchBool r P (P → ⊥)

-- what a search for the first offset with P answers
abbrev pub First : (ℕ → Type 0) → Option ℕ → Type 0
First P r = MatchOption r ((at : ℕ) → P at → ⊥) (λ at. P at × ((other : ℕ) → P other → at ≤ other))
