-- What holds of whatever a list of requests comes down to.
use Rattle.std.proofs.Common.{◌≡◌, ℕ, ◌+◌, ◌≤◌, true, false, not, List, [], ◌∷◌, length, is_some, sym, refl, ◌∙◌, arith}
use Rattle.std.proofs.ByRecursion.{All-weaker}
use Rattle.std.proofs.lemmas.List.{length_push}
use Rattle.std.proofs.lemmas.Bool.{cond_both, true≢false}
use Rattle.indication.specs.Format.{Content}
use Rattle.record.specs.declared.call.Phase.{Phase}
use Rattle.record.specs.declared.call.Phase.TheVariants.{SetUp, Charging, Closed}
use Rattle.readings.specs.Readings.{refused, says}
use Rattle.account.specs.Requests.{Request, tariff, add_on, advance, start, release, amount_owed, look_ahead, total, line}
use Rattle.account.specs.Journals.{Event, tariff_came, add_on_came, started, released, Dated, Past, accepted_in, is_among, is_known, joined_by, networks, phase_after, phase_of}
use Rattle.account.specs.Answers.{entered, further, is_accepted, is_closed, is_set_up, later, past, refusal, tariff_refusal}
use Rattle.standing.proofs.Acceptance.{accepted_parts, add_on_fits, room, tariff_fits, time_left}
use Rattle.standing.proofs.Beginnings.{DatedBy}
use Rattle.standing.proofs.Networks.{among_known}

-- an add-on came from a known network
abbrev pub FromKnown : Event → List Dated → Type 0
FromKnown (tariff_came c) j = Unit {0}
FromKnown (add_on_came c) j = is_known c.header.network j ≡ true
FromKnown started j = Unit {0}
FromKnown released j = Unit {0}

abbrev pub AddOnsKnown : List Dated → Type 0
AddOnsKnown [] = Unit {0}
AddOnsKnown (d ∷ j) = FromKnown d.event j × AddOnsKnown j

-- how many entries of a journal are no indications, at most
abbrev pub turns : Phase → ℕ
turns SetUp = 0
turns Charging = 1
turns Closed = 2

pub record Kept (p : Past) : Type 0 where
  pub dated : DatedBy p.clock p.journal
  pub day : p.clock ≤ 86400
  pub few : accepted_in p.journal ≤ 512
  pub short : length p.journal ≤ accepted_in p.journal + turns (phase_of p.journal)
  pub four : length (networks p.journal) ≤ 4
  pub known : AddOnsKnown p.journal

module _ (p : Past) (k : Kept p) where
  kept_joined : (c : Content) → is_some (tariff_refusal p.journal c) ≡ false → length (joined_by (tariff_came c) (networks p.journal)) ≤ 4
  kept_joined c e =
      let n = c.header.network in
      let ns = networks p.journal in
      cond_both (is_among n ns) _ _ (λ l. length l ≤ 4) (λ _. k.four)
      (λ a. omega (arith, length_push ns n, room p.journal c e (sym (among_known n p.journal) ∙ a)))

  kept_received : (c : Content) → is_some (tariff_refusal p.journal c) ≡ false → Kept (entered (tariff_came c) p)
  kept_received c e =
      record {
        dated = (omega arith, k.dated);
        day = k.day;
        few = omega (arith, tariff_fits p.journal c e);
        short = omega (arith, k.short);
        four = kept_joined c e;
        known = (tt, k.known);
      }

  kept_added : (c : Content) → is_some (refusal p (add_on (says c))) ≡ false → Kept (entered (add_on_came c) p)
  kept_added c e =
      let fits = add_on_fits p.journal c e in
      record {
        dated = (omega arith, k.dated);
        day = k.day;
        few = omega (arith, fits.0);
        short = omega (arith, k.short);
        four = k.four;
        known = (fits.1, k.known);
      }

  kept_turned :
      (e : Event) → accepted_in (record { at = p.clock; event = e } ∷ p.journal) ≡ accepted_in p.journal
      → turns (phase_of p.journal) + 1 ≤ turns (phase_after e (phase_of p.journal))
      → joined_by e (networks p.journal) ≡ networks p.journal → FromKnown e p.journal → Kept (entered e p)
  kept_turned e same more ns from =
      record {
        dated = (omega arith, k.dated);
        day = k.day;
        few = omega (arith, k.few);
        short = omega (arith, k.short);
        four = rw ns k.four;
        known = (from, k.known);
      }

  kept_later : (n : ℕ) → p.clock + n ≤ 86400 → Kept (later n p)
  kept_later n l =
      record {
        dated = All-weaker (λ d. d.at ≤ p.clock) (λ d. d.at ≤ p.clock + n) (λ d h. omega arith) p.journal k.dated;
        day = l;
        few = k.few;
        short = k.short;
        four = k.four;
        known = k.known;
      }

in_set_up : (phase : Phase) → is_set_up phase ≡ true → turns phase + 1 ≤ 1
in_set_up SetUp e = omega arith
in_set_up Charging e = absurd (true≢false (sym e))
in_set_up Closed e = absurd (true≢false (sym e))

not_closed : (phase : Phase) → not (is_closed phase) ≡ true → turns phase + 1 ≤ 2
not_closed SetUp e = omega arith
not_closed Charging e = omega arith
not_closed Closed e = absurd (true≢false (sym e))

pub kept_further : (r : Request) (p : Past) → Kept p → is_accepted p r ≡ true → Kept (further r p)
kept_further (tariff (refused f)) p k e = k
kept_further (tariff (says c)) p k e = kept_received p k c (accepted_parts p (tariff (says c)) e).1
kept_further (add_on (refused f)) p k e = k
kept_further (add_on (says c)) p k e = kept_added p k c (accepted_parts p (add_on (says c)) e).1
kept_further (advance n) p k e = kept_later p k n (time_left p.clock n k.day (accepted_parts p (advance n) e).1)
kept_further start p k e = kept_turned p k started (omega arith) (in_set_up _ (accepted_parts p start e).0) refl tt
kept_further release p k e = kept_turned p k released (omega arith) (not_closed _ (accepted_parts p release e).0) refl tt
kept_further (amount_owed network) p k e = k
kept_further (look_ahead network n) p k e = k
kept_further total p k e = k
kept_further (line i) p k e = k

pub kept : (h : List Request) → Kept (past h)
kept [] = record { dated = tt; day = omega arith; few = omega arith; short = omega arith; four = omega arith; known = tt }
kept (r ∷ h) = cond_both (is_accepted (past h) r) _ _ Kept (kept_further r (past h) (kept h)) (λ _. kept h)
