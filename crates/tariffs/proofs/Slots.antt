-- The subtariffs in the slots, as a loop goes through them.
use Rattle.std.proofs.Common.{◌≡◌, ◌+◌, ◌<◌, ◌≤◌, false, List, [], ◌∷◌, length, drop, Some, None, Option, Iter, refl, sym, ap, ◌∙◌, subst, arith}
use Rattle.std.proofs.iter.Yields.{copies, fronts}
use Rattle.std.proofs.lemmas.List.{at_drop_all, at_drop_more}
use Rattle.std.proofs.lemmas.Iterator.{YieldsList, YieldsList-from_slice}
use Rattle.std.proofs.lemmas.Iterator.Adapters.{YieldsList-from_flatten, YieldsList-from_once}
use Rattle.std.proofs.lemmas.Iterator.Consumers.{YieldsList-from_copied, YieldsList-turn, YieldsList-end}
use Rattle.std.specs.Iterator.{Yields}
use Rattle.std.specs.Iterator.Adapters.{copied_source, flatten_source, flatten_front, flatten_back, flatten_done, flatten_steps, once_item, once_steps, OnceYieldsItsItem}
use Rattle.std.specs.List.{flat_map}
use Rattle.std.specs.Option.{option_len, option_to_list}
use Rattle.std.specs.Slice.Iter.{iter_rest}
use Rattle.std.specs.declared.iter.Copied.{Copied}
use Rattle.std.specs.declared.iter.Flatten.{Flatten}
use Rattle.std.specs.declared.iter.Once.{Once}
use Rattle.tariffs.specs.declared.tariff.Subtariff.{Subtariff}
use Rattle.tariffs.specs.Sequences.{listed}

listed_is : (slots : List (Option Subtariff)) → flat_map option_to_list slots ≡ listed slots
listed_is [] = refl
listed_is (None ∷ slots) = listed_is slots
listed_is (Some s ∷ slots) = ap (λ ss. s ∷ ss) (listed_is slots)

length_listed : (slots : List (Option Subtariff)) → length (listed slots) ≤ length slots
length_listed [] = omega arith
length_listed (None ∷ slots) = omega (arith, length_listed slots)
length_listed (Some s ∷ slots) = omega (arith, length_listed slots)

-- the iterator of a slot
abbrev pub Opens : Option Subtariff → Once Subtariff → Type 0
Opens slot it = (once_item it ≡ slot) × (option_len (once_item it) ≤ 1) × OnceYieldsItsItem Subtariff

-- a loop over the slots that leaves out the empty ones
abbrev pub SlotLoop : Type 0
SlotLoop = Flatten (Copied (Iter (Option Subtariff))) (Once Subtariff)

abbrev pub steps : SlotLoop → Option Subtariff → SlotLoop → Type 0
steps = flatten_steps (copies fronts) Opens once_steps

module _ (s : SlotLoop) (slots : List (Option Subtariff)) (all : iter_rest (copied_source (flatten_source s)) ≡ slots)
    (front : flatten_front s ≡ None) (back : flatten_back s ≡ None) (going : flatten_done s ≡ false) (so_far : List Subtariff) (t : SlotLoop) (yielded : Yields steps s so_far t) where
  each_listed : YieldsList steps (λ x. x) s (listed slots)
  each_listed =
      subst (YieldsList steps (λ x. x) s) (listed_is slots)
      (YieldsList-from_flatten Opens once_steps (λ x. x) option_to_list (λ x j opens. YieldsList-from_once x opens.0)
      (YieldsList-from_copied (YieldsList-from_slice slots all)) front back going)

  -- it comes to a subtariff: what is left of the sequence begins with it
  pub at_turn : (r : Option Subtariff) (u : SlotLoop) (x : Subtariff) → r ≡ Some x → steps t r u → drop (length so_far) (listed slots) ≡ x ∷ drop (length so_far + 1) (listed slots)
  at_turn r u x some next =
      let turn = YieldsList-turn each_listed so_far t yielded r u x some next in
      at_drop_more (λ rest. rest) (listed slots) (length so_far) x turn.0 ∙ ap (λ y. y ∷ drop (length so_far + 1) (listed slots)) (sym turn.1)

  -- and there are no more of them than slots
  pub few_turns : (r : Option Subtariff) (u : SlotLoop) (x : Subtariff) → r ≡ Some x → steps t r u → length so_far < length slots
  few_turns r u x some next =
      let turn = YieldsList-turn each_listed so_far t yielded r u x some next in omega (arith, length_listed slots)

  -- it ends: nothing is left
  pub at_end : (r : Option Subtariff) (u : SlotLoop) → r ≡ None → steps t r u → drop (length so_far) (listed slots) ≡ []
  at_end r u none next =
      at_drop_all (λ rest. rest) (listed slots) (length so_far) (omega (arith, (YieldsList-end each_listed so_far t yielded r u none next).1))
