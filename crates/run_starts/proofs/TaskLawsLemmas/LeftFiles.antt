-- Calls that leave a file as it is show what it held before them.
use Rattle.std.proofs.Common.{◌≡◌, ◌∙◌, inl, inr, ℕ, ◌==◌, Bool, true, List, [], ◌∷◌, length, refl, sym}
use Rattle.std.specs.Prelude.{◌||◌, not, bytes_eq, Option, Some, None, option_map, unwrap_or, Result, Ok, Err}
use Rattle.std.specs.List.{list_all, cons_option}
use Rattle.std.proofs.lemmas.Bool.{and_from, and_parts, or_parts, not-true as no_more}
use Rattle.ann_outside.specs.Files.{Files, content}
use Rattle.ann_outside.specs.Played.{Does, Played}
use Rattle.ann_outside.specs.declared.file_desk.DeskError.TheVariants.{Failed, Missing, NoMemory}
use Rattle.ann_outside.specs.declared.file_desk.Call.{Call}
use Rattle.ann_outside.specs.declared.file_desk.Call.TheVariants.{Size, ReadAt, Create, Append, Cut, Rename, Remove}
use Rattle.task_model.specs.Reads.{length_found, read_of, lengths_found, reads_of, is_read_of, is_found_so}
use Rattle.run_starts.specs.TaskLaws.Contents.{Shows}
use Rattle.run_starts.specs.TaskLaws.FilesKept.{leaves, LeftShows}
use Rattle.run_starts.proofs.TaskLawsLemmas.FileHolds.{IsKnown, size_found, size_lost, read_found, read_lost, nothing_found, not_name}

module _ (name : List ℕ) (b c : Files) where
  other_than : (other : List ℕ) → not (bytes_eq other name) ≡ true → name ≡ other → ⊥
  other_than other e = not_name other name (no_more (bytes_eq other name) e)

  left : (call : Call) → leaves name call ≡ true → Does call b c → content name c ≡ content name b
  left (Size other answer) e d = d.1 name
  left (ReadAt other from answer) e d = d.1 name
  left (Create other (Ok done)) e d = d.1 name (other_than other e)
  left (Create other (Err Failed)) e d = d name (other_than other e)
  left (Create other (Err Missing)) e d = absurd d
  left (Create other (Err NoMemory)) e d = d name
  left (Append other piece (Ok done)) e d = d.2 name (other_than other e)
  left (Append other piece (Err Failed)) e d = d.1 name (other_than other e)
  left (Append other piece (Err Missing)) e d = d.1 name
  left (Append other piece (Err NoMemory)) e d = d name
  left (Cut other size (Ok done)) e d = d.2 name (other_than other e)
  left (Cut other size (Err Failed)) e d = d name (other_than other e)
  left (Cut other size (Err Missing)) e d = d.1 name
  left (Cut other size (Err NoMemory)) e d = d name
  left (Rename from to (Ok done)) e d =
      let both = or_parts (bytes_eq from name) (bytes_eq to name) (no_more (bytes_eq from name || bytes_eq to name) e) in
      d.3 name (not_name from name both.0) (not_name to name both.1)
  left (Rename from to (Err Failed)) e d = d name
  left (Rename from to (Err Missing)) e d = d.1 name
  left (Rename from to (Err NoMemory)) e d = d name
  left (Remove other (Ok done)) e d = d.2 name (other_than other e)
  left (Remove other (Err Failed)) e d = d name
  left (Remove other (Err Missing)) e d = d.1 name
  left (Remove other (Err NoMemory)) e d = d name

  found : (bytes : List ℕ) (call : Call) → content name b ≡ Some bytes → Does call b c → is_found_so name (Some bytes) call ≡ true
  found bytes (Size other (Ok n)) is d = size_found name other n b (Some bytes) d.0 (inr (inr is))
  found bytes (Size other (Err e)) is d = size_lost name other e (Some bytes)
  found bytes (ReadAt other from (Ok read)) is d = read_found name other from read b (Some bytes) d.0 (inr (inr is))
  found bytes (ReadAt other from (Err e)) is d = read_lost name other from e (Some bytes)
  found bytes (Create other answer) is d = nothing_found name (Some bytes) (Create other answer) refl refl
  found bytes (Append other piece answer) is d = nothing_found name (Some bytes) (Append other piece answer) refl refl
  found bytes (Cut other size answer) is d = nothing_found name (Some bytes) (Cut other size answer) refl refl
  found bytes (Rename from to answer) is d = nothing_found name (Some bytes) (Rename from to answer) refl refl
  found bytes (Remove other answer) is d = nothing_found name (Some bytes) (Remove other answer) refl refl

cons_all : {X : Type 0} (p : X → Bool) (o : Option X) (xs : List X) → unwrap_or (option_map p o) true ≡ true → list_all p xs ≡ true → list_all p (cons_option o xs) ≡ true
cons_all p None xs e k = k
cons_all p (Some x) xs e k = and_from (p x) (list_all p xs) e k

pub left_shows : LeftShows
left_shows name bytes [] old new e p is = (record { lengths = refl; reads = refl }, p name ∙ is)
left_shows name bytes (call ∷ more) old new e (mid, does, rest) is =
    let parts = and_parts (leaves name call) (list_all (leaves name) more) e in
    let later = left_shows name bytes more mid new parts.1 rest (left name old mid call parts.0 does ∙ is) in
    let here = and_parts (unwrap_or (option_map (λ (n : ℕ). n == length bytes) (length_found name call)) true) (unwrap_or (option_map (is_read_of bytes) (read_of name call)) true) (found name old mid bytes call is does) in (
      record {
        lengths = cons_all (λ (n : ℕ). n == length bytes) (length_found name call) (lengths_found name more) here.0 later.0.lengths;
        reads = cons_all (is_read_of bytes) (read_of name call) (reads_of name more) here.1 later.0.reads;
      },
      later.1,
    )
