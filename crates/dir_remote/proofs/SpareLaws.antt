-- A file that stands where a copy is to be made.
use Rattle.std.proofs.Common.{◌≡◌, ◌≢◌, ◌∙◌, ℕ, List, refl, sym}
use Rattle.std.specs.Prelude.{Bool, true, false, is_some, IsTrue, Option, Some, None, Result, Ok, Err}
use Rattle.ann_outside.specs.Files.{Files, content, WhereTold, CreateNewDoes}
use Rattle.ann_outside.specs.declared.file_desk.DeskError.{DeskError}
use Rattle.ann_outside.specs.declared.file_desk.DeskError.TheVariants.{Failed, Missing, NoMemory}
use Rattle.ann_outside.proofs.Across.{told_refl, where_then as told_both, where_so as told_map}
use Rattle.dir_remote.specs.Contents.{LeavesInTransit, temporary_name}
use Rattle.dir_remote.specs.Copies.{Spares}

pub made_free : (name : List ℕ) (a b : Option Files) → WhereTold a b (CreateNewDoes name (Ok tt)) → WhereTold a b (Spares name (Ok tt))
made_free name a b does = told_map (CreateNewDoes name (Ok tt)) (Spares name (Ok tt)) a b (λ x y h. h.0) does

pub unmade_spares : (name : List ℕ) (e : DeskError) (a b : Option Files) → WhereTold a b (CreateNewDoes name (Err e)) → WhereTold a b (Spares name (Err e))
unmade_spares name e a b does = told_map (CreateNewDoes name (Err e)) (Spares name (Err e)) a b (by_error e) does
  where
    by_error : (f : DeskError) (x y : Files) → CreateNewDoes name (Err f) x y → Spares name (Err f) x y
    by_error Failed x y h = λ there. h name
    by_error Missing x y h = absurd h
    by_error NoMemory x y h = λ there. h name

-- whatever came after it was made
pub free_on : (name : List ℕ) (P : Files → Files → Type 0) (a b c : Option Files) → WhereTold a b (Spares name (Ok tt)) → WhereTold b c P → WhereTold a c (Spares name (Ok tt))
free_on name P a b c free does = told_both (Spares name (Ok tt)) P (Spares name (Ok tt)) a b c (λ x y z h p. h) free does

pub free_spares : (name : List ℕ) (e : DeskError) (a b : Option Files) → WhereTold a b (Spares name (Ok tt)) → WhereTold a b (Spares name (Err e))
free_spares name e a b free = told_map (Spares name (Ok tt)) (Spares name (Err e)) a b (λ x y h there. absurd (there h)) free

-- of a store, by its mark
pub leaves_by : (mark : Option (List ℕ)) (directory key : List ℕ) (e : DeskError) (a b : Option Files)
    → (IsTrue (is_some mark) → WhereTold a b (Spares (temporary_name mark directory key) (Err e))) → LeavesInTransit mark (Some directory) key a b
leaves_by None directory key e a b spares = tt
leaves_by (Some mark) directory key e a b spares = spares refl

pub leaves_all : (mark : Option (List ℕ)) (directory key : List ℕ) (a : Option Files) → LeavesInTransit mark (Some directory) key a a
leaves_all None directory key a = tt
leaves_all (Some mark) directory key a = told_refl (Spares (temporary_name (Some mark) directory key) (Err Failed)) a (λ x there. refl)

pub leaves_none : (mark : Option (List ℕ)) (key : List ℕ) (a b : Option Files) → LeavesInTransit mark None key a b
leaves_none None key a b = tt
leaves_none (Some mark) key a b = tt
