-- How much an operator is owed at most, and all of them together.
use Rattle.std.proofs.Common.{ℕ, ◌+◌, ◌-◌, ◌*◌, ◌^◌, ◌<◌, ◌≤◌, eqb, List, [], ◌∷◌, ◌++◌, map, length, Some, None, Option, suc-mul, arith}
use Rattle.std.specs.List.{AllByRecursion}
use Rattle.std.proofs.lemmas.Nat.{mul-le}
use Rattle.std.proofs.lemmas.Bool.{cond_both}
use Rattle.units.specs.Meanings.{Meaning, Sound}
use Rattle.tariffs.specs.Sequences.{sequence}
use Rattle.tariffs.proofs.Charges.{most, within_bound}
use Rattle.tariffs.proofs.Sums.{sum_bound}
use Rattle.record.specs.declared.call.Phase.{Phase}
use Rattle.record.specs.declared.call.Phase.TheVariants.{SetUp, Charging, Closed}
use Rattle.account.specs.Journals.{Event, tariff_came, add_on_came, started, released, Dated, Past, Receipt, beginning, phase_of, receipt_in, receipts}
use Rattle.account.specs.Accounts.{TariffChange, account, added_by, at_once, attempt_charge, begins, in_force, last_change, over_seconds, second_after, set_up_charge, tariff_after}
use Rattle.account.specs.Answers.{added_up}
use Rattle.hearing.specs.Hearing.{ContentAdmitted}
use Rattle.standing.proofs.Fair.{Fair, add_on_low, fair}
use Rattle.standing.proofs.Pasts.{Kept, turns}
use Rattle.standing.proofs.Admissions.{EventAdmitted, JournalAdmitted}

-- what an operator is owed at most: for each second of a day, and twice for each of 514 entries
abbrev largest : ℕ
largest = 3110401028000000000

turns_low : (phase : Phase) → turns phase ≤ 2
turns_low SetUp = omega arith
turns_low Charging = omega arith
turns_low Closed = omega arith

module _ (m : Meaning) where
  abbrev ReceiptsAdmitted : List Receipt → Type 0
  ReceiptsAdmitted rs = AllByRecursion (λ r. ContentAdmitted m r.content) rs

  receipts_with :
      (n at : ℕ) (e : Event) (rs : List Receipt) → EventAdmitted m e → ReceiptsAdmitted rs → ReceiptsAdmitted (receipt_in n at e ++ rs)
  receipts_with n at (tariff_came c) rs one a =
      cond_both (eqb c.header.network n) (record { at = at; content = c } ∷ []) [] (λ r. ReceiptsAdmitted (r ++ rs)) (λ _. (one, a)) (λ _. a)
  receipts_with n at (add_on_came c) rs one a = a
  receipts_with n at started rs one a = a
  receipts_with n at released rs one a = a

  receipts_admitted : (n : ℕ) (j : List Dated) → JournalAdmitted m j → ReceiptsAdmitted (receipts n j)
  receipts_admitted n [] a = tt
  receipts_admitted n (d ∷ j) (one, a) = receipts_with n d.at d.event (receipts n j) one (receipts_admitted n j a)

  module _ (opening n : ℕ) where
    tariff_fair : (j : List Dated) (clock : ℕ) → JournalAdmitted m j → Fair m (tariff_after (last_change opening (receipts n j) clock))
    tariff_fair j clock a = fair m opening (receipts n j) clock (receipts_admitted n j a)

    -- at once: for each entry 10^9 for the set-up, and 10^9 besides
    attempt_low : (phase : Phase) (at : ℕ) (j : List Dated) → JournalAdmitted m j → attempt_charge phase m (in_force opening n j at) ≤ 1000000000
    attempt_low SetUp at j a = (tariff_fair j at a).attempt
    attempt_low Charging at j a = omega arith
    attempt_low Closed at j a = omega arith

    added_low : (e : Event) (at : ℕ) (j : List Dated) → EventAdmitted m e → JournalAdmitted m j → added_by e m opening n at j ≤ 1000000000
    added_low (tariff_came c) at j one a = omega arith
    added_low (add_on_came c) at j one a =
        cond_both (eqb c.header.network n) _ _ (λ x. x ≤ 1000000000) (λ _. add_on_low m c one) (λ _. omega arith)
    added_low started at j one a = omega arith
    added_low released at j one a = attempt_low (phase_of j) at j a

    set_up_low : (d : Dated) (j : List Dated) → JournalAdmitted m (d ∷ j) → set_up_charge m opening n d j ≤ 1000000000
    set_up_low d j a = cond_both (begins n d j) _ _ (λ x. x ≤ 1000000000) (λ _. (tariff_fair (d ∷ j) d.at a).of_set_up) (λ _. omega arith)

    once_low : (j : List Dated) → JournalAdmitted m j → at_once m opening n j ≤ length j * 2000000000
    once_low [] a = omega arith
    once_low (d ∷ j) (one, a) =
        omega (arith, once_low j a, set_up_low d j (one, a), added_low d.event d.at j one a, suc-mul (length j) 2000000000)

    -- and for each second
    module _ (sound : Sound m) where
      second_low : (began clock : ℕ) (o : Option TariffChange) → Fair m (tariff_after o) → second_after m began clock o ≤ most
      second_low began clock None h = omega arith
      second_low began clock (Some change) h = within_bound m sound (sequence change.tariff) _ h.subtariffs

      seconds_low :
          (j : List Dated) (clock : ℕ) (b : Option ℕ) → JournalAdmitted m j → clock ≤ 86400
          → over_seconds m opening (receipts n j) clock b ≤ 86400 * most
      seconds_low j clock None a l = omega arith
      seconds_low j clock (Some began) a l =
          let last : ℕ → Option TariffChange = λ k. last_change opening (receipts n j) (began + k) in
          let each =
          sum_bound (λ k. second_after m began (began + k) (last k)) most
          (λ k. second_low began (began + k) (last k) (tariff_fair j (began + k) a)) (clock - began) in
          omega (arith, mul-le (clock - began) most 86400 most (omega arith) (omega arith))

      pub account_low : (p : Past) → Kept p → JournalAdmitted m p.journal → account m opening p n ≤ largest
      account_low p k a =
          let few : length p.journal ≤ 514 = omega (arith, k.short, k.few, turns_low (phase_of p.journal)) in
          omega (
            arith,
            once_low p.journal a,
            seconds_low p.journal p.clock (beginning n p.journal) a k.day,
            mul-le (length p.journal) 2000000000 514 2000000000 few (omega arith),
          )

added_up_low : (f : ℕ → ℕ) (b : ℕ) → ((n : ℕ) → f n ≤ b) → (ns : List ℕ) → added_up (map f ns) ≤ length ns * b
added_up_low f b h [] = omega arith
added_up_low f b h (n ∷ ns) = omega (arith, h n, added_up_low f b h ns, suc-mul (length ns) b)

-- four operators together stay below 2^64
pub four_fit : (f : ℕ → ℕ) (ns : List ℕ) → ((n : ℕ) → f n ≤ largest) → length ns ≤ 4 → added_up (map f ns) < 2 ^ 64
four_fit f ns h l = omega (arith, added_up_low f largest h ns, mul-le (length ns) largest 4 largest l (omega arith))
