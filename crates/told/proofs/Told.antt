-- What the seats tell of the networks that fill them.
use Rattle.std.proofs.Common.{◌≡◌, ℕ, zero, suc, ◌+◌, ◌≤◌, Bool, true, false, cond, ◌||◌, eqb, List, [], ◌∷◌, map, length, Some, Option, refl, ap, ◌∙◌, arith}
use Rattle.std.specs.Bool.{then_some}
use Rattle.std.proofs.lemmas.Bool.{eqb-true}
use Rattle.units.specs.Meanings.{Meaning}
use Rattle.record.specs.declared.statement.StatementLine.{StatementLine}
use Rattle.account.specs.Journals.{Past, is_among, networks}
use Rattle.account.specs.Accounts.{account}
use Rattle.account.specs.Answers.{added_up, line_of}
use Rattle.account.specs.Records.{operator_of, seated}
use Rattle.standing.proofs.Networks.{among_known}
use Rattle.inquiry.specs.Inquiries.{line_in, owed_in, owed_together}
use Rattle.told.specs.Telling.{LineTold, OwedTold, TotalTold}

module _ (m : Meaning) (opening : ℕ) (p : Past) where
  -- of a network: what it is owed, if it is among them
  owed_seated :
      (x n : ℕ) (ns : List ℕ) → length ns ≤ n
      → owed_in x (seated n (map (operator_of m opening p) ns)) ≡ then_some (is_among x ns) (account m opening p x)
  owed_seated x zero [] few = refl
  owed_seated x zero (y ∷ ns) few = absurd (omega arith)
  owed_seated x (suc n) [] few = owed_seated x n [] (omega arith)
  owed_seated x (suc n) (y ∷ ns) few = by (eqb y x) refl (owed_seated x n ns (omega arith))
    where
      by : (b : Bool) {rest : Option ℕ} → eqb y x ≡ b → rest ≡ then_some (is_among x ns) (account m opening p x)
          → cond b (Some (account m opening p y)) rest ≡ then_some (b || is_among x ns) (account m opening p x)
      by true e same = ap (λ z. Some (account m opening p z)) (eqb-true y x e)
      by false e same = same

  -- together: what they are owed, added up
  total_seated :
      (n : ℕ) (ns : List ℕ) → length ns ≤ n
      → owed_together (seated n (map (operator_of m opening p) ns)) ≡ added_up (map (account m opening p) ns)
  total_seated zero [] few = refl
  total_seated zero (y ∷ ns) few = absurd (omega arith)
  total_seated (suc n) [] few = total_seated n [] (omega arith)
  total_seated (suc n) (y ∷ ns) few = ap (λ t. account m opening p y + t) (total_seated n ns (omega arith))

  -- line by line: each network with its amount
  line_seated :
      (k n : ℕ) (ns : List ℕ) → length ns ≤ n
      → line_in k (seated n (map (operator_of m opening p) ns))
      ≡ line_of {T = StatementLine} k (map (λ y. record { network = y; amount = account m opening p y }) ns)
  line_seated k zero [] few = refl
  line_seated k zero (y ∷ ns) few = absurd (omega arith)
  line_seated zero (suc n) [] few = refl
  line_seated (suc k) (suc n) [] few = line_seated k n [] (omega arith)
  line_seated zero (suc n) (y ∷ ns) few = refl
  line_seated (suc k) (suc n) (y ∷ ns) few = line_seated k n ns (omega arith)

pub owed_told : OwedTold
owed_told m opening p few x =
    owed_seated m opening p x 4 (networks p.journal) few
    ∙ ap (λ b. then_some b (account m opening p x)) (among_known x p.journal)

pub total_told : TotalTold
total_told m opening p few fits = omega (arith, total_seated m opening p 4 (networks p.journal) few, fits)

pub line_told : LineTold
line_told m opening p few k = line_seated m opening p k 4 (networks p.journal) few
