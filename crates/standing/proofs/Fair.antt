-- Tariffs of admitted indications: what they charge at a time is bounded.
use Rattle.std.proofs.Common.{◌≡◌, ℕ, zero, suc, ◌≤◌, true, eqb, ltb, leb, List, [], ◌∷◌, ◌++◌, map, Some, None, Option, arith}
use Rattle.std.specs.Option.{option_or}
use Rattle.std.specs.List.{AllByRecursion}
use Rattle.std.proofs.lemmas.Bool.{and_parts, cond_both, leb-true}
use Rattle.indication.specs.declared.entry.Entry.{Entry}
use Rattle.indication.specs.declared.entry.Usage.{Usage}
use Rattle.indication.specs.declared.entry.Usage.TheVariants.{Periodic, OneTime, SetUp, Attempt, AddOn}
use Rattle.indication.specs.declared.header.Change.{Change}
use Rattle.indication.specs.declared.header.TariffControl.{TariffControl}
use Rattle.indication.specs.Codes.{usage_code}
use Rattle.indication.specs.Format.{Content}
use Rattle.units.specs.Meanings.{Meaning, admitted}
use Rattle.tariffs.specs.declared.tariff.Subtariff.{Subtariff}
use Rattle.tariffs.specs.declared.tariff.Tariff.{Tariff}
use Rattle.tariffs.specs.Making.{first_charge, slotted, subtariff_for, subtariff_of, tariff_of}
use Rattle.tariffs.specs.Sequences.{Admitted, listed, sequence}
use Rattle.record.specs.Operators.{add_on_price, first_of, price_of, tariff_in}
use Rattle.account.specs.Journals.{Receipt}
use Rattle.account.specs.Accounts.{TariffChange, change_to, if_by, last_change, switch_over_by, switch_over_to, tariff_after}
use Rattle.hearing.specs.Hearing.{ContentAdmitted}

all_parts : {X : Type 0} (P : X → Type 0) (xs ys : List X) → AllByRecursion P (xs ++ ys) → AllByRecursion P xs × AllByRecursion P ys
all_parts P [] ys a = (tt, a)
all_parts P (x ∷ xs) ys (one, a) = let parts = all_parts P xs ys a in ((one, parts.0), parts.1)

all_slotted : (P : Subtariff → Type 0) (n : ℕ) (ss : List Subtariff) → AllByRecursion P ss → AllByRecursion P (listed (slotted n ss))
all_slotted P zero ss a = tt
all_slotted P (suc n) [] a = all_slotted P n [] tt
all_slotted P (suc n) (s ∷ ss) (one, a) = (one, all_slotted P n ss a)

module _ (m : Meaning) where
  abbrev EntryAdmitted : Entry → Type 0
  EntryAdmitted e = admitted m e.charge e.term.usage ≡ true

  pub record Fair (t : Tariff) : Type 0 where
    pub attempt : price_of m t.attempt ≤ 1000000000
    pub of_set_up : price_of m t.set_up ≤ 1000000000
    pub subtariffs : AllByRecursion (Admitted m) (sequence t)

  price_low : (e : Entry) → EntryAdmitted e → m.price e.charge ≤ 1000000000
  price_low e a = leb-true _ _ (and_parts (m.fits e.charge e.term.usage) _ a).1

  first_low : (u : Usage) (es : List Entry) → AllByRecursion EntryAdmitted es → price_of m (first_charge u es) ≤ 1000000000
  first_low u [] a = omega arith
  first_low u (e ∷ es) (one, a) =
      cond_both (eqb (usage_code e.term.usage) (usage_code u)) _ _ (λ c. price_of m c ≤ 1000000000) (λ _. price_low e one)
      (λ _. first_low u es a)

  one_listed :
      (u : Usage) (e : Entry) (slots : List (Option Subtariff)) → admitted m e.charge u ≡ true
      → AllByRecursion (Admitted m) (listed slots) → AllByRecursion (Admitted m) (listed (subtariff_for u e ∷ slots))
  one_listed Periodic e slots one a = (one, a)
  one_listed OneTime e slots one a = (one, a)
  one_listed SetUp e slots one a = a
  one_listed Attempt e slots one a = a
  one_listed AddOn e slots one a = a

  all_listed : (es : List Entry) → AllByRecursion EntryAdmitted es → AllByRecursion (Admitted m) (listed (map subtariff_of es))
  all_listed [] a = tt
  all_listed (e ∷ es) (one, a) = one_listed e.term.usage e (map subtariff_of es) one (all_listed es a)

  fair_of : (control : TariffControl) (es : List Entry) → AllByRecursion EntryAdmitted es → Fair (tariff_of control es)
  fair_of control es a =
      record {
        attempt = first_low Attempt es a;
        of_set_up = first_low SetUp es a;
        subtariffs = all_slotted (Admitted m) 4 (listed (map subtariff_of es)) (all_listed es a);
      }

  pub add_on_low : (c : Content) → ContentAdmitted m c → add_on_price m c ≤ 1000000000
  add_on_low c a = first c.current (all_parts EntryAdmitted c.current c.next a).0
    where
      first : (es : List Entry) → AllByRecursion EntryAdmitted es → price_of m (first_of es) ≤ 1000000000
      first [] a = omega arith
      first (e ∷ es) (one, a) = price_low e one

  -- a change is to a fair tariff
  abbrev FairChange : Option TariffChange → Type 0
  FairChange None = Unit {0}
  FairChange (Some change) = Fair change.tariff

  fair_either : (o p : Option TariffChange) → FairChange o → FairChange p → FairChange (option_or o p)
  fair_either None p h k = k
  fair_either (Some change) p h k = h

  fair_if : (clock : ℕ) (o : Option TariffChange) → FairChange o → FairChange (if_by clock o)
  fair_if clock None h = tt
  fair_if clock (Some change) h = cond_both (leb change.at clock) _ _ FairChange (λ _. h) (λ _. tt)

  fair_change :
      (at : ℕ) (change : Change) (control : TariffControl) (es : List Entry) → AllByRecursion EntryAdmitted es → FairChange (change_to at change (tariff_in control es))
  fair_change at change control [] a = tt
  fair_change at change control (e ∷ es) a = fair_of control (e ∷ es) a

  fair_switch : (due : ℕ) (control : TariffControl) (es : List Entry) → AllByRecursion EntryAdmitted es → FairChange (switch_over_to due (tariff_in control es))
  fair_switch due control [] a = tt
  fair_switch due control (e ∷ es) a = fair_of control (e ∷ es) a

  fair_last :
      (opening : ℕ) (rs : List Receipt) (clock : ℕ) → AllByRecursion (λ r. ContentAdmitted m r.content) rs → FairChange (last_change opening rs clock)
  fair_last opening [] clock a = tt
  fair_last opening (r ∷ rs) clock (one, a) =
      let parts = all_parts EntryAdmitted r.content.current r.content.next one in
      cond_both (ltb clock r.at) _ _ FairChange (λ _. fair_last opening rs clock a)
      (λ _. fair_either _ _ (fair_if clock (switch_over_by opening r) (fair_switch _ r.content.header.next_control r.content.next parts.1))
      (fair_either _ _ (fair_change r.at r.content.header.change r.content.header.current_control r.content.current parts.0)
      (fair_last opening rs r.at a)))

  fair_after : (o : Option TariffChange) → FairChange o → Fair (tariff_after o)
  fair_after None h = fair_of _ [] tt
  fair_after (Some change) h = h

  pub fair :
      (opening : ℕ) (rs : List Receipt) (clock : ℕ) → AllByRecursion (λ r. ContentAdmitted m r.content) rs → Fair (tariff_after (last_change opening rs clock))
  fair opening rs clock a = fair_after _ (fair_last opening rs clock a)
