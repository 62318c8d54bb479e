-- Seats, filled in order with the operators of some networks.
use Rattle.std.proofs.Common.{◌≡◌, ℕ, zero, suc, ◌≤◌, Bool, true, false, cond, ◌||◌, eqb, List, [], ◌∷◌, ◌++◌, map, length, Some, None, Option, sym, refl, ap, arith}
use Rattle.std.specs.Option.{option_map}
use Rattle.std.specs.List.{AllByRecursion}
use Rattle.std.proofs.lemmas.Bool.{eqb-true, or_parts, true≢false}
use Rattle.std.proofs.lemmas.Option.{none-some}
use Rattle.record.specs.declared.call.Call.{Call}
use Rattle.record.specs.declared.call.Phase.{Phase}
use Rattle.record.specs.declared.operator.Operator.{Operator}
use Rattle.record.specs.Operators.{newcomer}
use Rattle.record.specs.Calls.{seat_of, is_seated, seat_changed, everyone}
use Rattle.account.specs.Journals.{is_among}
use Rattle.account.specs.Records.{seated}
use Rattle.standing.proofs.Networks.{Distinct}

-- the record of a call, by its seats
abbrev pub call_with : ℕ → ℕ → Phase → ℕ → List (Option Operator) → Call
call_with opening clock phase accepted seats =
    record { opening = opening; clock = clock; phase = phase; accepted = accepted; operators = seats }

-- every operator changes
pub seats_everyone :
    (g h : ℕ → Operator) (f : Operator → Operator) (k : ℕ) (ns : List ℕ) → AllByRecursion (λ n. h n ≡ f (g n)) ns
    → seated k (map h ns) ≡ everyone f (seated k (map g ns))
seats_everyone g h f zero ns same = refl
seats_everyone g h f (suc k) [] same = ap (λ s. None ∷ s) (seats_everyone g h f k [] tt)
seats_everyone g h f (suc k) (n ∷ ns) (one, same) =
    rw one (ap (λ s. Some (f (g n)) ∷ s) (seats_everyone g h f k ns same))

module _ (g : ℕ → Operator) (x : ℕ) (own : (n : ℕ) → eqb (g n).network x ≡ eqb n x) where
  pub seats_among : (k : ℕ) (ns : List ℕ) → length ns ≤ k → is_seated x (seated k (map g ns)) ≡ is_among x ns
  seats_among zero [] few = refl
  seats_among zero (n ∷ ns) few = absurd (omega arith)
  seats_among (suc k) [] few = refl
  seats_among (suc k) (n ∷ ns) few = rw (own n) (ap (λ t. eqb n x || t) (seats_among k ns (omega arith)))

  pub seats_full :
      (k : ℕ) (ns : List ℕ) → is_among x ns ≡ false → k ≤ length ns → seat_of x (seated k (map g ns)) ≡ None
  seats_full zero ns e many = refl
  seats_full (suc k) [] e many = absurd (omega arith)
  seats_full (suc k) (n ∷ ns) e many =
      let parts = or_parts (eqb n x) (is_among x ns) e in
      rw (own n, parts.0) (ap (option_map suc) (seats_full k ns parts.1 (omega arith)))

  none_after : (o : Option ℕ) → option_map suc o ≡ None → o ≡ None
  none_after None e = refl
  none_after (Some k) e = absurd (none-some _ (sym e))

  pub full_from :
      (k : ℕ) (ns : List ℕ) → length ns ≤ k → seat_of x (seated k (map g ns)) ≡ None
      → (is_among x ns ≡ false) × (k ≤ length ns)
  full_from zero [] few e = (refl, omega arith)
  full_from zero (n ∷ ns) few e = absurd (omega arith)
  full_from (suc k) [] few e = absurd (none-some _ (sym e))
  full_from (suc k) (n ∷ ns) few e = by (eqb n x) (full_from k ns (omega arith)) (rw (own n) at e)
    where
      by : (b : Bool) → (seat_of x (seated k (map g ns)) ≡ None → (is_among x ns ≡ false) × (k ≤ length ns))
          → cond b (Some 0) (option_map suc (seat_of x (seated k (map g ns)))) ≡ None
          → ((b || is_among x ns) ≡ false) × (suc k ≤ suc (length ns))
      by true rest e = absurd (none-some _ (sym e))
      by false rest e = let both = rest (none_after _ e) in (both.0, omega (arith, both.1))

  -- one operator changes, or a newcomer comes
  module _ (h : ℕ → Operator) (f : Operator → Operator) (others : (n : ℕ) → eqb n x ≡ false → h n ≡ g n) where
    seats_kept : (k : ℕ) (ns : List ℕ) → is_among x ns ≡ false → seated k (map h ns) ≡ seated k (map g ns)
    seats_kept zero ns e = refl
    seats_kept (suc k) [] e = refl
    seats_kept (suc k) (n ∷ ns) e =
        let parts = or_parts (eqb n x) (is_among x ns) e in
        rw (others n parts.0) (ap (λ s. Some (g n) ∷ s) (seats_kept k ns parts.1))

    pub seats_known :
        h x ≡ f (g x) → (k : ℕ) (ns : List ℕ) → Distinct ns → is_among x ns ≡ true
        → seated k (map h ns) ≡ seat_changed f x (seated k (map g ns))
    seats_known changed zero ns d e = refl
    seats_known changed (suc k) [] d e = absurd (true≢false (sym e))
    seats_known changed (suc k) (n ∷ ns) (a, d) e = rw (own n) (by (eqb n x) refl (seats_known changed k ns d) e)
      where
        by : (b : Bool) → eqb n x ≡ b
            → (is_among x ns ≡ true → seated k (map h ns) ≡ seat_changed f x (seated k (map g ns)))
            → (b || is_among x ns) ≡ true
            → Some (h n) ∷ seated k (map h ns)
            ≡ cond b (Some (f (g n)) ∷ seated k (map g ns)) (Some (g n) ∷ seat_changed f x (seated k (map g ns)))
        by true q rest e =
            rw (eqb-true n x q) (rw changed (ap (λ s. Some (f (g x)) ∷ s) (seats_kept k ns (rw (eqb-true n x q) at a))))
        by false q rest e = rw (others n q) (ap (λ s. Some (g n) ∷ s) (rest e))

    pub seats_new :
        h x ≡ f (newcomer x) → (k : ℕ) (ns : List ℕ) → is_among x ns ≡ false
        → seated k (map h (ns ++ (x ∷ []))) ≡ seat_changed f x (seated k (map g ns))
    seats_new came zero ns e = refl
    seats_new came (suc k) [] e = rw came
    seats_new came (suc k) (n ∷ ns) e =
        let parts = or_parts (eqb n x) (is_among x ns) e in
        rw (own n, parts.0, others n parts.0) (ap (λ s. Some (g n) ∷ s) (seats_new came k ns parts.1))
