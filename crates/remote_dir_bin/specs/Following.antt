-- How the calls that a directory remote tells and what its place and its desk tell belong together: they come of one course of calls.
use Rattle.std.specs.Prelude.{ℕ, ◌≡◌, Bool, List, [], ◌∷◌, ◌++◌, Option, Some, None, Result, Ok, Err}
use Rattle.std.specs.List.{filter_map}
use Rattle.ann_key.specs.declared.bytes.NoMemory.{NoMemory as WithoutMemory}
use Rattle.kit_serve.specs.declared.kit.call.Said.{Said}
use Rattle.kit_serve.specs.declared.kit.call.Said.TheVariants.{Yes}
use Rattle.kit_serve.specs.declared.kit.call.Asked.{Asked}
use Rattle.kit_serve.specs.declared.kit.call.Asked.TheVariants.{Prepare, Initialize, Store, Retrieve, Check, Remove}
use Rattle.kit_serve.specs.declared.kit.call.Call.{Call}
use Rattle.kit_serve.specs.Kit.Calls.{plain}
use Rattle.dir_remote.specs.Answers.{StoreDoes, first_of}
use Rattle.dir_remote.specs.Guard.Guards.{Checks, GuardTold, GuardValue, Initializes, ReadiesBy, Removes, Retrieves, Stores}
use Rattle.dir_remote.specs.Guard.Meanings.{Did}
use Rattle.dir_remote.specs.declared.outcome.Outcome.TheVariants.{Done}

-- what contracts see of a directory remote that tells its calls
pub record FollowedValue (P D : Type 0) : Type 0 where
  pub remote : GuardValue P D
  pub calls : List Call

-- what a call does: the clause of that call
abbrev pub Does : Bool → GuardTold → GuardTold → Asked → Result Said WithoutMemory → Type 0
Does sweeps old new (Prepare values) result = ReadiesBy sweeps (first_of values) old new result
Does sweeps old new (Initialize values) result = Initializes sweeps (first_of values) old new result
Does sweeps old new (Store key file) result = Stores old new key file result
Does sweeps old new (Retrieve key file) result = Retrieves old new key file result
Does sweeps old new (Check key) result = Checks old new key result
Does sweeps old new (Remove key) result = Removes old new key result

-- a call, what came of it, and what is told then
pub record Deed : Type 0 where
  pub asked : Asked
  pub result : Result Said WithoutMemory
  pub now : GuardTold

-- each did what its clause says, one after the other
abbrev pub AreDone : Bool → GuardTold → List Deed → Type 0
AreDone sweeps old [] = Unit {0}
AreDone sweeps old (deed ∷ deeds) = Does sweeps old deed.now deed.asked deed.result × AreDone sweeps deed.now deeds

-- what is told after them
abbrev pub told_after : GuardTold → List Deed → GuardTold
told_after old [] = old
told_after old (deed ∷ deeds) = told_after deed.now deeds

-- one that found no memory isn't told
abbrev pub call_by : Asked → Result Said WithoutMemory → Option Call
call_by asked (Ok said) = Some record { asked = plain asked; said = said }
call_by asked (Err e) = None

abbrev pub call_of : Deed → Option Call
call_of deed = call_by deed.asked deed.result

-- One course of calls left both: these calls, and what is told now.
pub record Follows (sweeps : Bool) (calls : List Call) (now : GuardTold) : Type 0 where
  pub begun : GuardTold
  pub deeds : List Deed
  pub done : AreDone sweeps begun deeds
  pub calls_are : calls ≡ filter_map call_of deeds
  pub now_is : now ≡ told_after begun deeds

-- The call is one of the course: those before it are the calls that are told before it, and it did what its clause says.
pub record IsOf (sweeps : Bool) (begun : GuardTold) (deeds : List Deed) (before : List Call) (call : Call) : Type 0 where
  pub first : List Deed
  pub deed : Deed
  pub rest : List Deed
  pub whole : deeds ≡ first ++ deed ∷ rest
  pub earlier : filter_map call_of first ≡ before
  pub told : call_of deed ≡ Some call
  pub does : Does sweeps (told_after begun first) deed.now deed.asked deed.result

-- ---- what is to be shown

-- each call that is told is one of the course
abbrev pub CallsAreOf : Type 0
CallsAreOf =
    (sweeps : Bool) (calls before after : List Call) (call : Call) (now : GuardTold) (f : Follows sweeps calls now) → calls ≡ before ++ call ∷ after
    → IsOf sweeps f.begun f.deeds before call

-- After a store to which the remote said Yes the content under the key is that of the file, over files that tell.
abbrev pub StoredIsThere : Type 0
StoredIsThere =
    (sweeps : Bool) (begun : GuardTold) (deeds : List Deed) (before : List Call) (key file : List ℕ)
    → (c : IsOf sweeps begun deeds before (record { asked = Store key file; said = Yes })) → Did (λ d. StoreDoes d key file) Done (told_after begun c.first) c.deed.now
