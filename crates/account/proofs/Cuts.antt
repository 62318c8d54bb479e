-- A list of requests and its plain form come down to the same past, and answer the same to all requests but the advances.
use Rattle.std.proofs.Common.{◌≡◌, ℕ, zero, suc, ◌≤◌, Bool, true, false, not, List, [], ◌∷◌, ◌++◌, sym, refl, ap, ◌∙◌, add-zero, add_assoc, add-one, arith}
use Rattle.std.proofs.lemmas.Bool.Decides.{nat_tests}
use Rattle.units.specs.Meanings.{Meaning}
use Rattle.account.specs.declared.answer.Answer.{Answer}
use Rattle.account.specs.Requests.{Request, tariff, add_on, advance, start, release, amount_owed, look_ahead, total, line}
use Rattle.account.specs.Journals.{Past}
use Rattle.account.specs.Answers.{is_accepted, later, past, past_after}
use Rattle.account.specs.Records.{record_of}
use Rattle.account.specs.Laws.{seconds, plainly, plain, is_advance, answers_to, CutsOfTimeDoNotMatter}

-- where an advance of n is accepted, each of its seconds is
second_accepted : (p : Past) (n k : ℕ) → is_accepted p (advance n) ≡ true → suc k ≤ n → is_accepted (later k p) (advance 1) ≡ true
second_accepted p n k taken low = grind (arith, nat_tests)

-- the first k of them, one by one
seconds_pass :
    (p : Past) (n k : ℕ) (g : List Request) → is_accepted p (advance n) ≡ true → k ≤ n → past g ≡ p → past (seconds k ++ g) ≡ later k p
seconds_pass p n zero g taken low is = rw add-zero is
seconds_pass p n (suc k) g taken low is =
    ap (past_after (advance 1)) (seconds_pass p n k g taken (omega arith) is) ∙ rw (second_accepted p n k taken low, add_assoc, add-one)

module _ (m : Meaning) (opening : ℕ) where
  -- the answers to all requests but the advances
  abbrev others : List Request → List Answer
  others h = answers_to (λ r. not (is_advance r)) m opening h

  seconds_unanswered : (k : ℕ) (g : List Request) → others (seconds k ++ g) ≡ others g
  seconds_unanswered zero g = refl
  seconds_unanswered (suc k) g = seconds_unanswered k g

  -- two lists that differ in their advances at most
  abbrev Same : List Request → List Request → Type 0
  Same g h = (past g ≡ past h) × (others g ≡ others h)

  module _ (g h : List Request) (same : Same g h) where
    same_more : (r : Request) → Same (r ∷ g) (r ∷ h)
    same_more r = (ap (past_after r) same.0, rw (same.0, same.1))

    same_advanced : (n : ℕ) (b : Bool) → is_accepted (past h) (advance n) ≡ b → Same (plainly (advance n) b ++ g) (advance n ∷ h)
    same_advanced n true taken =
        (seconds_pass (past h) n n g taken (omega arith) same.0 ∙ rw taken, seconds_unanswered n g ∙ same.1)
    same_advanced n false struck = (same.0 ∙ rw struck, same.1)

    same_plainly : (r : Request) → Same (plainly r (is_accepted (past h) r) ++ g) (r ∷ h)
    same_plainly (tariff r) = same_more (tariff r)
    same_plainly (add_on r) = same_more (add_on r)
    same_plainly (advance n) = same_advanced n (is_accepted (past h) (advance n)) refl
    same_plainly start = same_more start
    same_plainly release = same_more release
    same_plainly (amount_owed network) = same_more (amount_owed network)
    same_plainly (look_ahead network n) = same_more (look_ahead network n)
    same_plainly total = same_more total
    same_plainly (line k) = same_more (line k)

  same_plain : (h : List Request) → Same (plain h) h
  same_plain [] = (refl, refl)
  same_plain (r ∷ h) = same_plainly (plain h) h (same_plain h) r

pub cuts : CutsOfTimeDoNotMatter
cuts m opening h k plainly_same =
    let first = same_plain m opening h in
    let second = same_plain m opening k in (
      sym first.1 ∙ ap (others m opening) plainly_same ∙ second.1,
      ap (record_of m opening) (sym first.0 ∙ ap past plainly_same ∙ second.0),
    )
