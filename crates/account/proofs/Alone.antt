-- With the indications of other networks struck out, a list of requests comes down to a past that is alike for the network.
use Rattle.std.proofs.Common.{◌≡◌, ℕ, Bool, true, false, cond, not, ◌&&◌, eqb, List, [], ◌∷◌, Some, None, Option, sym, refl, ap, subst, arith}
use Rattle.std.proofs.lemmas.Bool.{false≢true, both_ways, eqb-true, not-true, not-false, and_parts, cond_both}
use Rattle.indication.specs.Format.{Content}
use Rattle.indication.specs.declared.fault.Fault.{Fault}
use Rattle.units.specs.Meanings.{Meaning}
use Rattle.account.specs.declared.answer.Answer.{Answer}
use Rattle.account.specs.declared.answer.Answer.TheVariants.{Owed}
use Rattle.readings.specs.Readings.{refused, says}
use Rattle.account.specs.Requests.{Request, tariff, add_on, advance, start, release, amount_owed, look_ahead, total, line}
use Rattle.account.specs.Journals.{tariff_came, add_on_came, started, released, Past, phase_of}
use Rattle.account.specs.Answers.{is_allowed, is_accepted, refusal, time_refusal, further, past, past_after, reply, reply_unless, answer}
use Rattle.account.specs.Laws.{is_about, is_others, alone, is_crowded_out, turns_away, finds_room, answers_to, OperatorsAreIndependent}
use Rattle.account.proofs.Alike.{Alike, same_owed, alike_later, alike_event}
use Rattle.account.proofs.Room.{same_tariff_refusal, same_add_on_refusal}

-- p without, and q with, the indications of other networks
module _ {m : Meaning} {opening network : ℕ} {p q : Past} (alike : Alike m opening network p q) where
  -- an accepted request
  alike_further : (r : Request) → Alike m opening network (cond (is_others network r) p (further r p)) (further r q)
  alike_further (tariff (refused f)) = alike
  alike_further (tariff (says c)) = alike_event alike (tariff_came c) (eqb c.header.network network) refl
  alike_further (add_on (refused f)) = alike
  alike_further (add_on (says c)) = alike_event alike (add_on_came c) (eqb c.header.network network) refl
  alike_further (advance n) = alike_later alike n
  alike_further start = alike_event alike started true refl
  alike_further release = alike_event alike released true refl
  alike_further (amount_owed k) = alike
  alike_further (look_ahead k n) = alike
  alike_further total = alike
  alike_further (line k) = alike

  alike_own : (c : Content) → eqb c.header.network network ≡ true → Alike m opening c.header.network p q
  alike_own c own = subst (λ n. Alike m opening n p q) (sym (eqb-true _ _ own)) alike

  same_refusal :
      (r : Request) → is_others network r ≡ false → (is_about network r ≡ true → is_crowded_out (refusal q r) ≡ false) → refusal p r ≡ refusal q r
  same_refusal (tariff (refused f)) ours room = refl
  same_refusal (tariff (says c)) ours room = let own = not-false _ ours in same_tariff_refusal c (alike_own c own) (room own)
  same_refusal (add_on (refused f)) ours room = refl
  same_refusal (add_on (says c)) ours room = let own = not-false _ ours in same_add_on_refusal c (alike_own c own) (room own)
  same_refusal (advance n) ours room = ap (λ clock. time_refusal clock n) alike.clock
  same_refusal start ours room = refl
  same_refusal release ours room = refl
  same_refusal (amount_owed k) ours room = refl
  same_refusal (look_ahead k n) ours room = ap (λ clock. time_refusal clock n) alike.clock
  same_refusal total ours room = refl
  same_refusal (line k) ours room = refl

  -- a request about the network is not struck out, and has the same reply
  same_reply : (r : Request) → is_about network r ≡ true → (is_others network r ≡ false) × (reply m opening p r ≡ reply m opening q r)
  same_reply (tariff (refused f)) about = absurd (false≢true about)
  same_reply (tariff (says c)) about = (rw about, refl)
  same_reply (add_on (refused f)) about = absurd (false≢true about)
  same_reply (add_on (says c)) about = (rw about, refl)
  same_reply (advance n) about = absurd (false≢true about)
  same_reply start about = absurd (false≢true about)
  same_reply release about = absurd (false≢true about)
  same_reply (amount_owed k) about = (refl, rw (eqb-true k network about) (ap Owed (same_owed alike)))
  same_reply (look_ahead k n) about = (refl, rw (eqb-true k network about) (ap Owed (same_owed (alike_later alike n))))
  same_reply total about = absurd (false≢true about)
  same_reply (line k) about = absurd (false≢true about)

  struck_alike : (r : Request) → is_others network r ≡ true → Alike m opening network p (past_after r q)
  struck_alike r others =
      cond_both (is_accepted q r) (further r q) q (Alike m opening network p) (λ _. rw others at (alike_further r)) (λ _. alike)

  module _ (r : Request) (ours : is_others network r ≡ false) (room : not (is_about network r && turns_away q r) ≡ true) where
    same_where_allowed : is_allowed (phase_of q.journal) r ≡ true → refusal p r ≡ refusal q r
    same_where_allowed allowed = same_refusal r ours (λ about. not-true _ (rw (about, allowed) at room))

    same_accepted : (b : Bool) → is_allowed (phase_of q.journal) r ≡ b → is_accepted p r ≡ is_accepted q r
    same_accepted true allowed = rw (alike.phase, same_where_allowed allowed)
    same_accepted false barred = rw (alike.phase, barred)

    alike_if : (b : Bool) → Alike m opening network (cond b (further r p) p) (cond b (further r q) q)
    alike_if true = rw ours at (alike_further r)
    alike_if false = alike

    kept_alike : Alike m opening network (past_after r p) (past_after r q)
    kept_alike = rw (same_accepted _ refl) (alike_if (is_accepted q r))

    same_unless : (f : Option Fault) → is_about network r ≡ true → reply_unless f m opening p r ≡ reply_unless f m opening q r
    same_unless (Some f) about = refl
    same_unless None about = (same_reply r about).1

    same_answer : (b : Bool) → is_allowed (phase_of q.journal) r ≡ b → is_about network r ≡ true → answer m opening p r ≡ answer m opening q r
    same_answer true allowed about = rw (alike.phase, same_where_allowed allowed, same_unless (refusal q r) about)
    same_answer false barred about = rw (alike.phase, barred)

same_listed : {x y : Answer} {xs ys : List Answer} (b : Bool) → (b ≡ true → x ≡ y) → xs ≡ ys → cond b (x ∷ xs) xs ≡ cond b (y ∷ ys) ys
same_listed true first rest = rw (first refl, rest)
same_listed false first rest = rest

module _ (m : Meaning) (opening network : ℕ) where
  -- the answers about the network
  abbrev about : List Request → List Answer
  about h = answers_to (is_about network) m opening h

  -- the network cannot tell two lists apart
  abbrev Same : List Request → List Request → Type 0
  Same g h = Alike m opening network (past g) (past h) × (about g ≡ about h)

  same_more :
      (r : Request) (g h : List Request) (b : Bool) → is_others network r ≡ b → not (is_about network r && turns_away (past h) r) ≡ true
      → Same g h → Same (cond b g (r ∷ g)) (r ∷ h)
  same_more r g h true others room (alike, answers) = (
    struck_alike alike r others,
    cond_both (is_about network r) _ _ (λ xs. about g ≡ xs) (λ own. absurd (both_ways _ (same_reply alike r own).0 others)) (λ _. answers),
  )
  same_more r g h false ours room (alike, answers) =
      (kept_alike alike r ours room, same_listed (is_about network r) (same_answer alike r ours room _ refl) answers)

  same_alone : (h : List Request) → finds_room network h ≡ true → Same (alone network h) h
  same_alone [] room = (
    record { clock = refl; phase = refl; receipts = refl; beginning = refl; charges = refl; fewer = omega arith; alone = λ _. refl },
    refl,
  )
  same_alone (r ∷ h) room =
      let (here, before) = and_parts _ _ room in
      same_more r (alone network h) h _ refl here (same_alone h before)

pub independent : OperatorsAreIndependent
independent m opening network h room =
    let (alike, answers) = same_alone m opening network h room in
    (answers, same_owed alike)
