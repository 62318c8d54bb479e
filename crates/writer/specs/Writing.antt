-- What writing an indication comes to.
use Rattle.std.specs.Prelude.{◌≡◌, ℕ, ◌<◌, ◌≤◌, ◌⊎◌, List, ◌++◌, length, drop}
use Rattle.indication.specs.declared.fault.Fault.{Fault}
use Rattle.indication.specs.declared.fault.Fault.TheVariants.{NoRoom}
use Rattle.indication.specs.Format.{Content, encoded, decoded}
use Rattle.indication.specs.Rules.{Accepted, Refused}

-- The first n bytes of the buffer are an accepted indication that reads back as the content; the others are as before.
pub record Written (c : Content) (before after : List ℕ) (n : ℕ) : Type 0 where
  pub accepted : Accepted c.header.kind (encoded c)
  pub long : n ≡ length (encoded c)
  pub room : n ≤ length before
  pub bytes : after ≡ encoded c ++ drop n before
  pub reads_back : decoded (encoded c) ≡ c

-- The refusal that its bytes would get, else that they find no room.
abbrev pub Unwritable : Content → ℕ → Fault → Type 0
Unwritable c room f =
    Refused c.header.kind (encoded c) f
    ⊎ (Accepted c.header.kind (encoded c) × (room < length (encoded c)) × (f ≡ NoRoom (length (encoded c))))
