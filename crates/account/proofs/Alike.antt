-- Two pasts that are alike for a network: the second may hold indications of other networks, and the first holds none.
use Rattle.std.proofs.Common.{◌≡◌, ℕ, ◌+◌, ◌≤◌, Bool, true, false, cond, not, ◌&&◌, eqb, List, [], ◌∷◌, is_some, Some, None, Option, sym, refl, ap, ◌∙◌, add-zero, arith}
use Rattle.std.specs.Option.{option_or}
use Rattle.std.specs.Bool.{then_some}
use Rattle.std.proofs.lemmas.Bool.{true≢false}
use Rattle.units.specs.Meanings.{Meaning}
use Rattle.account.specs.Journals.{Event, tariff_came, add_on_came, started, released, Dated, Past, phase_after, phase_of, accepted_in, receipts, is_known, networks, charges, beginning}
use Rattle.account.specs.Accounts.{account, at_once, added_by}
use Rattle.account.specs.Answers.{entered, later, owed_to}

pub record Alike (m : Meaning) (opening network : ℕ) (p q : Past) : Type 0 where
  pub clock : p.clock ≡ q.clock
  pub phase : phase_of p.journal ≡ phase_of q.journal
  pub receipts : receipts network p.journal ≡ receipts network q.journal
  pub beginning : beginning network p.journal ≡ beginning network q.journal
  pub charges : at_once m opening network p.journal ≡ at_once m opening network q.journal
  pub fewer : accepted_in p.journal ≤ accepted_in q.journal
  pub alone : is_known network p.journal ≡ false → networks p.journal ≡ []

-- an event of the network, or of the whole call
abbrev pub concerns : ℕ → Event → Bool
concerns network (tariff_came c) = eqb c.header.network network
concerns network (add_on_came c) = eqb c.header.network network
concerns network started = true
concerns network released = true

-- an operator that charges has begun
begun_by : (o : Option ℕ) (b : Bool) (x : ℕ) → (not (is_some (option_or o (then_some b x))) && b) ≡ false
begun_by (Some y) b x = refl
begun_by None true x = refl
begun_by None false x = refl

begun : (network : ℕ) (j : List Dated) → (not (is_some (beginning network j)) && charges network j) ≡ false
begun network [] = refl
begun network (d ∷ j) = begun_by (beginning network j) (charges network (d ∷ j)) d.at

-- and does not begin again
begins_once : (o : Option ℕ) (b : Bool) (x : ℕ) → (not (is_some o) && b) ≡ false → option_or o (then_some b x) ≡ o
begins_once (Some y) b x e = refl
begins_once None true x e = absurd (true≢false e)
begins_once None false x e = refl

module _ {m : Meaning} {opening network : ℕ} {p q : Past} (alike : Alike m opening network p q) where
  pub same_account : account m opening p network ≡ account m opening q network
  same_account = rw (alike.clock, alike.receipts, alike.beginning, alike.charges)

  pub same_owed : owed_to m opening p network ≡ owed_to m opening q network
  same_owed = rw (same_account, alike.receipts)

  -- seconds pass in both
  pub alike_later : (n : ℕ) → Alike m opening network (later n p) (later n q)
  alike_later n =
      record {
        clock = ap (λ clock. clock + n) alike.clock;
        phase = alike.phase;
        receipts = alike.receipts;
        beginning = alike.beginning;
        charges = alike.charges;
        fewer = alike.fewer;
        alone = alike.alone;
      }

  same_added : (e : Event) (at : ℕ) → added_by e m opening network at p.journal ≡ added_by e m opening network at q.journal
  same_added (tariff_came c) at = refl
  same_added (add_on_came c) at = refl
  same_added started at = refl
  same_added released at = rw (alike.phase, alike.receipts)

  alone_entered :
      (e : Event) → concerns network e ≡ true → is_known network (entered e p).journal ≡ false → networks (entered e p).journal ≡ []
  alone_entered (tariff_came c) own unknown = absurd (true≢false (sym (rw own) ∙ unknown))
  alone_entered (add_on_came c) own unknown = alike.alone unknown
  alone_entered started own unknown = alike.alone unknown
  alone_entered released own unknown = alike.alone unknown

  -- an event of the network, or of the whole call, is entered in both
  pub alike_entered : (e : Event) → concerns network e ≡ true → Alike m opening network (entered e p) (entered e q)
  alike_entered e own =
      record {
        clock = alike.clock;
        phase = ap (phase_after e) alike.phase;
        receipts = rw (alike.clock, alike.receipts);
        beginning = rw (alike.clock, alike.beginning, alike.phase, alike.receipts);
        charges = rw (alike.clock, alike.charges, alike.beginning, alike.phase, alike.receipts, same_added e q.clock);
        fewer = omega (arith, alike.fewer);
        alone = alone_entered e own;
      }

  -- an indication of another network is nothing to this one
  foreign :
      (e : Event) → concerns network e ≡ false
      → (phase_of (entered e q).journal ≡ phase_of q.journal)
      × (receipts network (entered e q).journal ≡ receipts network q.journal)
      × (added_by e m opening network q.clock q.journal ≡ 0)
  foreign (tariff_came c) off = (refl, rw off, refl)
  foreign (add_on_came c) off = (refl, refl, rw off)
  foreign started off = absurd (true≢false off)
  foreign released off = absurd (true≢false off)

  pub alike_struck : (e : Event) → concerns network e ≡ false → Alike m opening network p (entered e q)
  alike_struck e off =
      let (phase, receipts, added) = foreign e off in
      record {
        clock = alike.clock;
        phase = alike.phase ∙ sym phase;
        receipts = alike.receipts ∙ sym receipts;
        beginning = alike.beginning ∙ sym (rw (phase, receipts) (begins_once _ _ _ (begun network q.journal)));
        charges = alike.charges ∙ rw (phase, receipts, begun network q.journal, added) (sym (add-zero _));
        fewer = omega (arith, alike.fewer);
        alone = alike.alone;
      }

  -- an event in the second past, and in the first unless it is struck out there
  pub alike_event : (e : Event) (b : Bool) → concerns network e ≡ b → Alike m opening network (cond (not b) p (entered e p)) (entered e q)
  alike_event e true own = alike_entered e own
  alike_event e false off = alike_struck e off
