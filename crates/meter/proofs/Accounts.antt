-- The theorem of the meter, from the answers and the record of the definitions.
use Rattle.std.proofs.Common.{◌≡◌, ℕ, Bool, cond, List, [], ◌∷◌, sym, refl, ap, ◌∙◌}
use Rattle.units.specs.Meanings.{Meaning}
use Rattle.record.specs.declared.call.Call.{Call}
use Rattle.inquiry.specs.Inquiries.{owed_in}
use Rattle.account.specs.declared.answer.Answer.{Answer}
use Rattle.account.specs.Requests.{Asked, Request}
use Rattle.account.specs.Answers.{past, answer, answers}
use Rattle.account.specs.Records.{record_after}
use Rattle.account.specs.Laws.{is_about, answers_to}
use Rattle.account.proofs.Cuts.{cuts}
use Rattle.account.proofs.Alone as laws
use Rattle.standing.proofs.Pasts.{kept}
use Rattle.told.proofs.Told.{owed_told}
use Rattle.meter.specs.Meters.{heard, chosen, Accounted}

same_choice :
    (b : Bool) (a : Answer) (xs ys : List Answer) → xs ≡ ys → cond b (a ∷ xs) xs ≡ cond b (a ∷ ys) ys
same_choice b a xs ys e = ap (λ zs. cond b (a ∷ zs) zs) e

-- the answers that are chosen are those to the requests that are
chosen_answers :
    (p : Request → Bool) (m : Meaning) (opening : ℕ) (h : List Request)
    → answers_to p m opening h ≡ chosen p h (answers m opening h)
chosen_answers p m opening [] = refl
chosen_answers p m opening (r ∷ h) =
    same_choice (p r) (answer m opening (past h) r) _ _ (chosen_answers p m opening h)

pub accounted :
    (m : Meaning) (opening : ℕ) (h : List Asked) (given : List Answer) (call : Call)
    → given ≡ answers m opening (heard m h) → call ≡ record_after m opening (heard m h) → Accounted m opening h given call
accounted m opening h given call a r =
    let g = heard m h in
    record {
      answered = a;
      recorded = r;
      uncut = λ k same.
          let law = cuts m opening (heard m k) g same in
          (law.0 ∙ chosen_answers _ m opening g ∙ ap (chosen _ g) (sym a), law.1 ∙ sym r);
      independent = λ network room.
          let law = laws.independent m opening network g room in (
            law.0 ∙ chosen_answers (is_about network) m opening g ∙ ap (chosen (is_about network) g) (sym a),
            law.1 ∙ sym (owed_told m opening (past g) (kept g).four network) ∙ ap (λ c. owed_in network c.operators) (sym r),
          );
    }
