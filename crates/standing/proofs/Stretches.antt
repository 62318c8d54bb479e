-- What is charged over some seconds.
use Rattle.std.proofs.Common.{◌≡◌, ℕ, ◌+◌, ◌-◌, ◌<◌, ◌≤◌, ◌&&◌, ltb, List, Some, None, Option, refl, ap, ◌∙◌, arith}
use Rattle.std.proofs.lemmas.Bool.{cond_both}
use Rattle.units.specs.Meanings.{Meaning}
use Rattle.tariffs.specs.Sequences.{charged_at, sum}
use Rattle.tariffs.proofs.Sums.{sum_split, sum_same}
use Rattle.record.specs.Operators.{over_stretch}
use Rattle.account.specs.Journals.{Receipt}
use Rattle.account.specs.Accounts.{TariffChange, last_change, origin_of, over_seconds, second_after, tariff_after}
use Rattle.account.specs.Records.{origin_after}
use Rattle.standing.proofs.Changes.{By}

-- a beginning, if any, is no later than a clock
abbrev pub Began : ℕ → Option ℕ → Type 0
Began clock None = Unit {0}
Began clock (Some began) = began ≤ clock

-- what is charged for n seconds from a clock on, with the last change of each
abbrev pub over : Meaning → Option ℕ → (ℕ → Option TariffChange) → ℕ → ℕ → ℕ
over m None last clock n = 0
over m (Some began) last clock n = sum (λ k. second_after m began (clock + k) (last (clock + k))) n

module _ (m : Meaning) (clock : ℕ) where
  -- the seconds from the beginning on, and n more
  pub over_more :
      (opening : ℕ) (rs : List Receipt) (b : Option ℕ) (n : ℕ) → Began clock b
      → over_seconds m opening rs (clock + n) b ≡ over_seconds m opening rs clock b + over m b (last_change opening rs) clock n
  over_more opening rs None n h = refl
  over_more opening rs (Some began) n h =
      let f : ℕ → ℕ = λ k. second_after m began (began + k) (last_change opening rs (began + k)) in
      let g : ℕ → ℕ = λ c. second_after m began c (last_change opening rs c) in
      let long : clock + n - began ≡ clock - began + n = omega arith in
      ap (sum f) long
      ∙ sum_split f (clock - began) n
      ∙ ap (λ x. sum f (clock - began) + x)
      (sum_same (λ k. f (clock - began + k)) (λ k. g (clock + k)) n
      (λ k _. let same : began + (clock - began + k) ≡ clock + k = omega arith in ap g same))

  pub over_same :
      (b : Option ℕ) (f g : ℕ → Option TariffChange) (n : ℕ) → ((k : ℕ) → k < n → f (clock + k) ≡ g (clock + k))
      → over m b f clock n ≡ over m b g clock n
  over_same None f g n h = refl
  over_same (Some began) f g n h =
      sum_same _ _ n (λ k l. ap (second_after m began (clock + k)) (h k l))

  -- in two parts
  pub over_parts :
      (b : Option ℕ) (f : ℕ → Option TariffChange) (n due : ℕ) → clock ≤ due → due ≤ clock + n
      → over m b f clock n ≡ over m b f clock (due - clock) + over m b f due (clock + n - due)
  over_parts None f n due l h = refl
  over_parts (Some began) f n due l h =
      let g : ℕ → ℕ = λ c. second_after m began c (f c) in
      let whole : n ≡ due - clock + (clock + n - due) = omega arith in
      ap (sum (λ k. g (clock + k))) whole
      ∙ sum_split (λ k. g (clock + k)) (due - clock) (clock + n - due)
      ∙ ap (λ x. sum (λ k. g (clock + k)) (due - clock) + x)
      (sum_same (λ k. g (clock + (due - clock + k))) (λ k. g (due + k)) (clock + n - due)
      (λ k _. let same : clock + (due - clock + k) ≡ due + k = omega arith in ap g same))

  -- under one tariff
  pub over_one :
      (b : Option ℕ) (x : Option TariffChange) (n : ℕ) → Began clock b → By clock x
      → over m b (λ _. x) clock n ≡ over_stretch m (tariff_after x) clock n (origin_after b x)
  over_one None x n h k = refl
  over_one (Some began) None n h k = refl
  over_one (Some began) (Some change) n h k =
      let low : origin_of began change ≤ clock =
      cond_both (change.restarts && ltb began change.at) _ _ (λ o. o ≤ clock) (λ _. k) (λ _. h) in
      sum_same _ _ n
      (λ i _. let same : clock + i - origin_of began change ≡ clock - origin_of began change + i = omega arith in
      ap (charged_at m change.tariff) same)
