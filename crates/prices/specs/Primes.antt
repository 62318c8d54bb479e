-- A unit whose charges are taken at the offsets that are primes below 100.
use Rattle.std.specs.Prelude.{ℕ, Bool, false, cond, ◌&&◌, ◌||◌, List, [], ◌∷◌, ◌==◌, nat_le}
use Rattle.indication.specs.declared.entry.Charge.{Charge}
use Rattle.units.specs.Meanings.{Meaning, lasting}

-- j is one of the numbers
abbrev pub among : List ℕ → ℕ → Bool
among [] j = false
among (x ∷ xs) j = j == x || among xs j

abbrev pub is_prime : ℕ → Bool
is_prime =
    among
    (2 ∷ (3 ∷ (5 ∷ (7 ∷ (11 ∷ (13 ∷ (17 ∷ (19 ∷ (23 ∷ (29 ∷ (31 ∷ (37 ∷ (41 ∷ (43 ∷ (47 ∷ (53 ∷ (59 ∷ (61 ∷ (67 ∷ (71 ∷ (73 ∷ (79 ∷ (83
    ∷ (89 ∷ (97 ∷ [])))))))))))))))))))))))))

-- a charge fits every use if its size is at most 1,000
abbrev pub small : Charge → Bool
small c = nat_le c.size 1000

abbrev pub primes : Meaning
primes =
    record {
      owns = λ mark. (mark.kind == 9);
      fits = λ c u. small c;
      price = λ c. cond (small c) c.size 0;
      ticks = λ c j. small c && is_prime j;
      lump = λ c d. cond (lasting d) 1 0;
    }
