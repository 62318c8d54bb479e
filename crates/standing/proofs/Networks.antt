-- The known networks: just those with an accepted tariff indication, each once.
use Rattle.std.proofs.Common.{◌≡◌, ℕ, Bool, true, false, cond, ◌||◌, eqb, List, [], ◌∷◌, ◌++◌, sym, refl, ap, ◌∙◌, subst}
use Rattle.std.specs.List.{AllByRecursion}
use Rattle.std.proofs.ByRecursion.{All-weaker}
use Rattle.std.proofs.lemmas.Bool.{cond_both, eqb-true, eqb-false, eq-eqb, ne_eqb, or_left, or_right, or_parts}
use Rattle.indication.specs.Format.{Content}
use Rattle.account.specs.Journals.{Event, tariff_came, add_on_came, started, released, Dated, is_among, is_known, is_any, joined_by, networks, receipt_in, receipts}

among_last : (n : ℕ) (ns : List ℕ) → is_among n (ns ++ (n ∷ [])) ≡ true
among_last n [] = rw (eq-eqb n n refl)
among_last n (y ∷ ns) = or_right (eqb y n) _ (among_last n ns)

among_others : (n x : ℕ) (ns : List ℕ) → eqb x n ≡ false → is_among n (ns ++ (x ∷ [])) ≡ is_among n ns
among_others n x [] e = rw e
among_others n x (y ∷ ns) e = ap (λ t. eqb y n || t) (among_others n x ns e)

pub eqb_turned : (a b : ℕ) → eqb a b ≡ false → eqb b a ≡ false
eqb_turned a b e = ne_eqb b a (λ s. eqb-false a b e (sym s))

-- an entry of the journal makes no network known but that of a tariff indication
module _ (n at : ℕ) (j : List Dated) (known : is_among n (networks j) ≡ is_known n j) where
  known_by_tariff :
      (c : Content) (b : Bool) → eqb c.header.network n ≡ b
      → is_among n (joined_by (tariff_came c) (networks j)) ≡ is_any (cond b (record { at = at; content = c } ∷ []) [] ++ receipts n j)
  known_by_tariff c true e =
      subst (λ x. is_among x (joined_by (tariff_came c) (networks j)) ≡ true) (eqb-true _ n e)
      (cond_both (is_among c.header.network (networks j)) _ _ (λ ns. is_among c.header.network ns ≡ true) (λ a. a)
      (λ _. among_last _ (networks j)))
  known_by_tariff c false e =
      cond_both (is_among c.header.network (networks j)) _ _ (λ ns. is_among n ns ≡ is_among n (networks j)) (λ _. refl)
      (λ _. among_others n _ (networks j) e)
      ∙ known

  known_by : (e : Event) → is_among n (joined_by e (networks j)) ≡ is_any (receipt_in n at e ++ receipts n j)
  known_by (tariff_came c) = known_by_tariff c (eqb c.header.network n) refl
  known_by (add_on_came c) = known
  known_by started = known
  known_by released = known

pub among_known : (n : ℕ) (j : List Dated) → is_among n (networks j) ≡ is_known n j
among_known n [] = refl
among_known n (d ∷ j) = known_by n d.at j (among_known n j) d.event

-- none stands twice
abbrev pub Distinct : List ℕ → Type 0
Distinct [] = Unit {0}
Distinct (n ∷ ns) = (is_among n ns ≡ false) × Distinct ns

distinct_push : (x : ℕ) (ns : List ℕ) → is_among x ns ≡ false → Distinct ns → Distinct (ns ++ (x ∷ []))
distinct_push x [] e d = (refl, tt)
distinct_push x (y ∷ ns) e (a, d) =
    let parts = or_parts (eqb y x) (is_among x ns) e in
    (among_others y x ns (eqb_turned y x parts.0) ∙ a, distinct_push x ns parts.1 d)

distinct_by : (e : Event) (ns : List ℕ) → Distinct ns → Distinct (joined_by e ns)
distinct_by (tariff_came c) ns d =
    cond_both (is_among c.header.network ns) _ _ Distinct (λ _. d) (λ e. distinct_push c.header.network ns e d)
distinct_by (add_on_came c) ns d = d
distinct_by started ns d = d
distinct_by released ns d = d

pub distinct : (j : List Dated) → Distinct (networks j)
distinct [] = tt
distinct (d ∷ j) = distinct_by d.event (networks j) (distinct j)

pub all_among : (ns : List ℕ) → AllByRecursion (λ n. is_among n ns ≡ true) ns
all_among [] = tt
all_among (n ∷ ns) = (
  or_left (eqb n n) _ (eq-eqb n n refl),
  All-weaker (λ x. is_among x ns ≡ true) (λ x. is_among x (n ∷ ns) ≡ true) (λ x e. or_right (eqb n x) _ e) ns (all_among ns),
)
