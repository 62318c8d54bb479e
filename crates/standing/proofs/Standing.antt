-- The record of a list, request by request.
use Rattle.std.proofs.Common.{◌≡◌, ℕ, ◌^◌, ◌<◌, true, sym, refl, ap, ◌∙◌, arith}
use Rattle.std.proofs.lemmas.Bool.{cond-true}
use Rattle.units.specs.Meanings.{Meaning}
use Rattle.readings.specs.Readings.{refused, says}
use Rattle.account.specs.Requests.{Request, tariff, add_on, advance, start, release, amount_owed, look_ahead, total, line}
use Rattle.account.specs.Journals.{Past, networks}
use Rattle.account.specs.Accounts.{account}
use Rattle.account.specs.Answers.{further, is_accepted, past}
use Rattle.account.specs.Records.{operator_of, record_of}
use Rattle.standing.specs.Steps.{RulesKeepTheRecord, SumsFit, RecordShowsTheKnown, ruled}
use Rattle.standing.proofs.Acceptance.{accepted_parts, add_on_fits}
use Rattle.standing.proofs.Amounts.{account_low, four_fit}
use Rattle.standing.proofs.Pasts.{Kept, kept, kept_further}
use Rattle.standing.proofs.Admissions.{admitted_further, admitted_past}
use Rattle.standing.proofs.Received.{rule_add_on, rule_tariff}
use Rattle.standing.proofs.Rules.{rule_advance, rule_release, rule_start}
use Rattle.standing.proofs.Networks.{among_known}
use Rattle.standing.proofs.Seats.{full_from, seats_among, seats_full}

-- by kind of request, where the amounts after it fit
step :
    (m : Meaning) (opening : ℕ) (r : Request) (p : Past) → Kept p → ((n : ℕ) → account m opening (further r p) n < 2 ^ 64)
    → is_accepted p r ≡ true → record_of m opening (further r p) ≡ ruled m r (record_of m opening p)
step m opening (tariff (refused f)) p k fit e = refl
step m opening (tariff (says c)) p k fit e = rule_tariff m opening p k c fit
step m opening (add_on (refused f)) p k fit e = refl
step m opening (add_on (says c)) p k fit e =
    rule_add_on m opening p k c fit (add_on_fits p.journal c (accepted_parts p (add_on (says c)) e).1).1
step m opening (advance n) p k fit e = rule_advance m opening p k n fit
step m opening start p k fit e = rule_start m opening p k fit (accepted_parts p start e).0
step m opening release p k fit e = rule_release m opening p k fit (accepted_parts p release e).0
step m opening (amount_owed network) p k fit e = refl
step m opening (look_ahead network n) p k fit e = refl
step m opening total p k fit e = refl
step m opening (line i) p k fit e = refl

pub rules_keep_the_record : RulesKeepTheRecord
rules_keep_the_record m sound opening r h (one, a) e =
    let k = kept_further r (past h) (kept h) e in
    let admitted = admitted_further m r (past h) (admitted_past m h a) one in
    ap (record_of m opening) (cond-true (is_accepted (past h) r) _ _ e)
    ∙ step m opening r (past h) (kept h) (λ n. omega (arith, account_low m opening n sound (further r (past h)) k admitted)) e

pub sums_fit : SumsFit
sums_fit m sound opening h a =
    four_fit (account m opening (past h)) (networks (past h).journal)
    (λ n. account_low m opening n sound (past h) (kept h) (admitted_past m h a)) (kept h).four

pub record_shows_the_known : RecordShowsTheKnown
record_shows_the_known m opening h =
    let operator = operator_of m opening (past h) in
    let j = (past h).journal in
    record {
      count = refl;
      known = λ n. seats_among operator n (λ _. refl) 4 (networks j) (kept h).four ∙ among_known n j;
      no_seat = λ n e. let both = full_from operator n (λ _. refl) 4 (networks j) (kept h).four e in (sym (among_known n j) ∙ both.0, both.1);
      seat = λ n e many. seats_full operator n (λ _. refl) 4 (networks j) (among_known n j ∙ e) many;
    }
