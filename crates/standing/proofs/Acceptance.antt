-- What an accepted request was not refused for.
use Rattle.std.proofs.Common.{◌≡◌, ℕ, ◌+◌, ◌<◌, ◌≤◌, Bool, true, false, cond, ltb, leb, List, length, is_some, Some, Option, refl, arith}
use Rattle.std.proofs.lemmas.Bool.{and_parts, leb-false, ltb-false, not-true, true≢false}
use Rattle.indication.specs.Format.{Content}
use Rattle.record.specs.Operators.{current_tariff}
use Rattle.record.specs.Calls.{seconds_left}
use Rattle.account.specs.Requests.{Request}
use Rattle.account.specs.Journals.{Dated, Past, accepted_in, is_known, networks, phase_of}
use Rattle.account.specs.Answers.{add_on_refusal, is_accepted, is_allowed, is_full, refusal, stranger_refusal, tariff_refusal, time_refusal}

pub accepted_parts :
    (p : Past) (r : Request) → is_accepted p r ≡ true → (is_allowed (phase_of p.journal) r ≡ true) × (is_some (refusal p r) ≡ false)
accepted_parts p r e = let parts = and_parts _ _ e in (parts.0, not-true _ parts.1)

unless : {X : Type 0} (a : Bool) (x : X) (y : Option X) → is_some (cond a (Some x) y) ≡ false → (a ≡ false) × (is_some y ≡ false)
unless true x y e = absurd (true≢false e)
unless false x y e = (refl, e)

only : {X : Type 0} (a : Bool) (x : X) (y : Option X) → is_some (cond a y (Some x)) ≡ false → (a ≡ true) × (is_some y ≡ false)
only true x y e = (refl, e)
only false x y e = absurd (true≢false e)

module _ (j : List Dated) (c : Content) where
  pub tariff_fits : is_some (tariff_refusal j c) ≡ false → accepted_in j < 512
  tariff_fits e = leb-false 512 (accepted_in j) (unless (is_full j) _ _ e).0

  -- there is room for a newcomer
  pub room : is_some (tariff_refusal j c) ≡ false → is_known c.header.network j ≡ false → length (networks j) < 4
  room e stranger =
      let rest : is_some (stranger_refusal j c) ≡ false = rw stranger at (unless (is_full j) _ _ e).1 in
      leb-false 4 (length (networks j)) (unless (leb 4 (length (networks j))) _ _ (only (is_some (current_tariff c)) _ _ rest).1).0

  pub add_on_fits : is_some (add_on_refusal j c) ≡ false → (accepted_in j < 512) × (is_known c.header.network j ≡ true)
  add_on_fits e =
      let parts = unless (is_full j) _ _ e in
      (leb-false 512 (accepted_in j) parts.0, (only (is_known c.header.network j) _ _ parts.1).0)

pub time_left : (clock n : ℕ) → clock ≤ 86400 → is_some (time_refusal clock n) ≡ false → clock + n ≤ 86400
time_left clock n l e = omega (arith, ltb-false (seconds_left clock) n (unless (ltb (seconds_left clock) n) _ _ e).0)
