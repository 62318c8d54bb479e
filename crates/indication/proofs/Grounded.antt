-- What holds of every refusal with a ground, from what holds of each kind of ground.
use Rattle.std.proofs.Common.{ℕ, List, inl, inr}
use Rattle.indication.specs.declared.header.Kind.{Kind}
use Rattle.indication.specs.declared.fault.Fault.{Fault}
use Rattle.indication.specs.declared.fault.Fault.TheVariants.{WrongLength, BrokenLayout, EmptyTariff, WrongDuration, ForeignMark, NotAdmitted, NoRoom, TooManyIndications, AddOnBeforeTariff, NoCurrentTariff, TooManyNetworks, PastLimit}
use Rattle.indication.specs.Rules.{WrongLengthAt, BrokenHeader, BrokenUse, DisallowedAt, IsEmpty, Grounds}

pub grounded_all :
    (taken : Kind) (b : List ℕ) (P : Fault → Type 0)
    → ((at : ℕ) → WrongLengthAt b at → P (WrongLength at))
    → ((at : ℕ) → BrokenHeader taken b at → P (BrokenLayout at))
    → ((at : ℕ) → BrokenUse b at → P (BrokenLayout at))
    → (IsEmpty b → P EmptyTariff)
    → ((at : ℕ) → DisallowedAt b at → P (WrongDuration at))
    → (f : Fault) → Grounds taken b f → P f
grounded_all taken b P length header uses empty duration (WrongLength at) w = length at w
grounded_all taken b P length header uses empty duration (BrokenLayout at) (inl w) = header at w
grounded_all taken b P length header uses empty duration (BrokenLayout at) (inr w) = uses at w
grounded_all taken b P length header uses empty duration EmptyTariff w = empty w
grounded_all taken b P length header uses empty duration (WrongDuration at) w = duration at w
grounded_all taken b P length header uses empty duration ForeignMark w = elim w [ ]
grounded_all taken b P length header uses empty duration (NotAdmitted at) w = elim w [ ]
grounded_all taken b P length header uses empty duration (NoRoom needed) w = elim w [ ]
grounded_all taken b P length header uses empty duration TooManyIndications w = elim w [ ]
grounded_all taken b P length header uses empty duration AddOnBeforeTariff w = elim w [ ]
grounded_all taken b P length header uses empty duration NoCurrentTariff w = elim w [ ]
grounded_all taken b P length header uses empty duration TooManyNetworks w = elim w [ ]
grounded_all taken b P length header uses empty duration (PastLimit left) w = elim w [ ]
