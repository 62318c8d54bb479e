-- A refusal is told by its number and its offset.
use Rattle.std.proofs.Common.{◌≡◌, ℕ, ◌-◌, List, [], ◌∷◌, get_or, sym, refl, ◌∙◌}
use Rattle.indication.specs.declared.fault.Fault.{Fault}
use Rattle.indication.specs.declared.fault.Fault.TheVariants.{WrongLength, BrokenLayout, EmptyTariff, WrongDuration, ForeignMark, NotAdmitted, NoRoom, TooManyIndications, AddOnBeforeTariff, NoCurrentTariff, TooManyNetworks, PastLimit}
use Rattle.indication.specs.Faults.{number_of, offset_of}

-- the refusals in the order of their numbers, from 1 on; the empty tariff stands for the numbers without one
refusals : ℕ → List Fault
refusals at =
    WrongLength at
    ∷ (BrokenLayout at
    ∷ (EmptyTariff
    ∷ (WrongDuration at
    ∷ (ForeignMark
    ∷ (NotAdmitted at
    ∷ (NoRoom at
    ∷ (EmptyTariff
    ∷ (EmptyTariff
    ∷ (EmptyTariff
    ∷ (TooManyIndications
    ∷ (AddOnBeforeTariff
    ∷ (NoCurrentTariff
    ∷ (TooManyNetworks
    ∷ (PastLimit at
    ∷ []))))))))))))))

told : (f : Fault) → get_or (refusals (offset_of f)) (number_of f - 1) EmptyTariff ≡ f
unfolding refusals
told (WrongLength at) = refl
told (BrokenLayout at) = refl
told EmptyTariff = refl
told (WrongDuration at) = refl
told ForeignMark = refl
told (NotAdmitted at) = refl
told (NoRoom needed) = refl
told TooManyIndications = refl
told AddOnBeforeTariff = refl
told NoCurrentTariff = refl
told TooManyNetworks = refl
told (PastLimit left) = refl

pub same_fault : (f g : Fault) → number_of f ≡ number_of g → offset_of f ≡ offset_of g → f ≡ g
same_fault f g n o = sym (told f) ∙ rw (n, o) (told g)
