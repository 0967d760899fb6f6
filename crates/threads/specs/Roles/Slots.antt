-- A slot beside the role that it was made for.
use Rattle.std.specs.Prelude.{◌≡◌, List}
use Rattle.threads.specs.declared.roles.back.Back.{Back}
use Rattle.threads.specs.declared.roles.slot.Slot.{Slot}
use Rattle.threads.specs.declared.roles.slot.Slot.TheVariants.{Started, Here}
use Rattle.threads.specs.Roles.Back.{CameBack}
use Rattle.ann_key.specs.Pairs.{Pairwise}

-- its thread's promise is about that role, or what it holds came back from it
abbrev pub SlotOf : {E : Type 0} → (E → E → Type 0) → Slot E → E → Type 0
SlotOf ran (Started h) e = h.promise.0.value ≡ e
SlotOf ran (Here b refused) e = CameBack ran e b

-- each slot is of the role at its place
abbrev pub SlotsOf : {E : Type 0} → (E → E → Type 0) → List (Slot E) → List E → Type 0
SlotsOf ran slots roles = Pairwise (SlotOf ran) slots roles

-- each role came back from the one at its place
abbrev pub AllCameBack : {E : Type 0} → (E → E → Type 0) → List E → List (Back E) → Type 0
AllCameBack ran roles backs = Pairwise (CameBack ran) roles backs
