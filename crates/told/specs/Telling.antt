-- What the record of a call tells is what the definitions answer.
use Rattle.std.specs.Prelude.{◌≡◌, ℕ, ◌^◌, ◌<◌, ◌≤◌, map, length}
use Rattle.units.specs.Meanings.{Meaning}
use Rattle.account.specs.Journals.{Past, networks}
use Rattle.account.specs.Accounts.{account}
use Rattle.account.specs.Answers.{added_up, line_of, owed_to, statement}
use Rattle.account.specs.Records.{record_of}
use Rattle.inquiry.specs.Inquiries.{line_in, owed_in, total_of}

-- the networks of the past have a seat each
abbrev pub FourAtMost : Past → Type 0
FourAtMost p = length (networks p.journal) ≤ 4

-- The seats tell what a network is owed.
abbrev pub OwedTold : Type 0
OwedTold =
    (m : Meaning) (opening : ℕ) (p : Past) → FourAtMost p → (network : ℕ)
    → owed_in network (record_of m opening p).operators ≡ owed_to m opening p network

-- The seats tell the total, where it fits 64 bits.
abbrev pub TotalTold : Type 0
TotalTold =
    (m : Meaning) (opening : ℕ) (p : Past) → FourAtMost p
    → added_up (map (account m opening p) (networks p.journal)) < 2 ^ 64
    → total_of (record_of m opening p).operators ≡ added_up (map (account m opening p) (networks p.journal))

-- The seats tell each line of the statement.
abbrev pub LineTold : Type 0
LineTold =
    (m : Meaning) (opening : ℕ) (p : Past) → FourAtMost p → (k : ℕ)
    → line_in k (record_of m opening p).operators ≡ line_of k (statement m opening p)
