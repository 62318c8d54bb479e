-- The seat of a network, found one by one, and what stands in it.
use Rattle.std.proofs.Common.{◌≡◌, ℕ, nat_lt, suc, ◌+◌, ◌<◌, ◌≤◌, false, cond, eqb, List, [], ◌∷◌, length, get_or, set, is_some, Some, None, Option, unwrap_or, sym, refl, ap, ◌∙◌, ⊎_elim, arith, MatchOption}
use Rattle.std.specs.List.{position}
use Rattle.record.specs.Seats.{suits}
use Rattle.std.specs.Option.{option_map}
use Rattle.std.proofs.lemmas.Option.{MatchOption-at_some, MatchOption-at_none}
use Rattle.std.proofs.lemmas.Bool.{cases_Bool, cond-true, cond-false, lt-ltb, le-ltb, ltb-true, ltb-false}
use Rattle.record.specs.declared.operator.Operator.{Operator}
use Rattle.record.specs.Operators.{newcomer}
use Rattle.record.specs.Calls.{is_seated, seat_changed, seat_of}

-- a first place, one further on
further : (i n : ℕ) → cond (nat_lt (1 + i) (suc n)) (Some (1 + i)) None ≡ option_map suc (cond (nat_lt i n) (Some i) None)
further i n =
    let more : 1 + i ≡ suc i = omega arith in
    ⊎_elim (λ in_range. let l : i < n = ltb-true i n in_range in rw (in_range, more) (cond-true _ _ _ (lt-ltb (suc i) (suc n) (omega arith))))
    (λ past. let l : n ≤ i = ltb-false i n past in rw (past, more) (cond-false _ _ _ (le-ltb (suc i) (suc n) (omega arith)))) (cases_Bool (nat_lt i n))

-- the seat of a network is the first that suits
pub seat_position : (network : ℕ) (seats : List (Option Operator)) → position (suits network) seats ≡ seat_of network seats
seat_position network [] = refl
seat_position network (None ∷ seats) = cond-true _ _ _ (lt-ltb 0 (suc (length seats)) (omega arith))
seat_position network (Some op ∷ seats) =
    ⊎_elim (λ own. rw own (cond-true _ _ _ (lt-ltb 0 (suc (length seats)) (omega arith))))
    (λ other. rw other (further _ _ ∙ ap (option_map suc) (seat_position network seats))) (cases_Bool (eqb op.network network))

-- what holds of the seat of a network
pub record IsSeat (network : ℕ) (seats : List (Option Operator)) (i : ℕ) : Type 0 where
  pub taken : is_seated network seats ≡ is_some (get_or seats i None)
  pub changed :
      (change : Operator → Operator)
      → seat_changed change network seats ≡ set seats i (Some (change (unwrap_or (get_or seats i None) (newcomer network))))

module _ (network : ℕ) where
  -- behind the seat of another network
  behind :
      (op : Operator) (seats : List (Option Operator)) → eqb op.network network ≡ false → (o : Option ℕ)
      → MatchOption o (is_seated network seats ≡ false) (IsSeat network seats)
      → MatchOption (option_map suc o) (is_seated network seats ≡ false) (IsSeat network (Some op ∷ seats))
  behind op seats other None h = h
  behind op seats other (Some i) h = record {
    taken = rw other h.taken;
    changed = λ change. rw other (ap (λ rest. Some op ∷ rest) (h.changed change));
  }

  pub seat_facts : (seats : List (Option Operator)) → MatchOption (seat_of network seats) (is_seated network seats ≡ false) (IsSeat network seats)
  seat_facts [] = refl
  seat_facts (None ∷ seats) = record { taken = refl; changed = λ change. refl }
  seat_facts (Some op ∷ seats) =
      ⊎_elim (λ own. rw own (record { taken = rw own; changed = λ change. rw own }))
      (λ other. rw other (behind op seats other (seat_of network seats) (seat_facts seats))) (cases_Bool (eqb op.network network))

  pub seat_at : (seats : List (Option Operator)) (i : ℕ) → Some i ≡ seat_of network seats → IsSeat network seats i
  seat_at seats i e = MatchOption-at_some (is_seated network seats ≡ false) (IsSeat network seats) i (sym e) (seat_facts seats)

  pub no_seat : (seats : List (Option Operator)) → None ≡ seat_of network seats → is_seated network seats ≡ false
  no_seat seats e = MatchOption-at_none (is_seated network seats ≡ false) (IsSeat network seats) (sym e) (seat_facts seats)
