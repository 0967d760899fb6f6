-- What a word says of the files.
use Rattle.std.proofs.Common.{◌≡◌, ℕ, List, refl, sym, subst, inl, inr}
use Rattle.std.specs.Prelude.{◌⊎◌, Bool, true, false, Option, Some, None, IfSome, Result, Ok}
use Rattle.ann_key.specs.declared.bytes.NoMemory.{NoMemory as WithoutMemory}
use Rattle.ann_outside.specs.Files.{Files}
use Rattle.ann_outside.specs.Told.{DeskTold}
use Rattle.ann_outside.specs.declared.file_desk.Call.{Call}
use Rattle.kit_serve.specs.declared.kit.call.Said.{Said}
use Rattle.kit_serve.specs.declared.kit.call.Said.TheVariants.{Yes, No, Failure}
use Rattle.dir_remote.specs.Answers.{Answers, CheckDoes, RemoveDoes, RetrieveDoes, StoreDoes, Works, is_of_check, is_of_removal, is_of_transfer}
use Rattle.dir_remote.specs.Outcomes.{PreparedFits, word_of}
use Rattle.dir_remote.specs.Guard.Gates.{IsHeld}
use Rattle.dir_remote.specs.Guard.Guards.{Calls, GuardTold, Guards, Stands}
use Rattle.dir_remote.specs.Guard.Meanings.{Did, WordsHold}
use Rattle.dir_remote.specs.Guard.Sentences.{line_of}
use Rattle.dir_remote.specs.declared.guard.gates.Gate.{Gate}
use Rattle.dir_remote.specs.declared.guard.place.Step.{Step}
use Rattle.dir_remote.specs.declared.outcome.Outcome.{Outcome}
use Rattle.dir_remote.specs.declared.outcome.Outcome.TheVariants.{Done, NotThere, NotPrepared, NoDirectory, NotText, DiskFailed, NoSuchFile, NoMemory}

abbrev IsWord : Said → Type 0
IsWord said = (line : List ℕ) → said ≡ Failure line → ⊥

-- a folder that stops a call says a sentence
not_held : (said : Said) → IsWord said → (gates : List Gate) (steps : List Step) → IsHeld gates steps (Ok said) → ⊥
not_held said word gates steps (inl s) = word (line_of s.text) s.says
not_held said word gates steps (inr s) = let bad : false ≡ true = s.lacks in absurd cc

-- so the call was made, with that word
made : (Are : List Gate → Type 0) (Inner : Result Said WithoutMemory → Type 0) (again : Result Said WithoutMemory → List Gate) (old new : GuardTold) (said : Said)
    → IsWord said → Guards Are Inner again old new (Ok said) → Inner (Ok said)
made Are Inner again old new said word g = by_course g.course
  where
    by_stand : (c : Calls Inner again g.gates g.steps (Ok said)) → Stands (again c.said) c.more c.said (Ok said) → Inner (Ok said)
    by_stand c (inl p) = subst (λ (r : Result Said WithoutMemory). Inner r) (sym p.1) c.inner
    by_stand c (inr h) = absurd (not_held said word (again c.said) c.more h)

    by_course : ((new.desk ≡ old.desk) × IsHeld g.gates g.steps (Ok said)) ⊎ Calls Inner again g.gates g.steps (Ok said) → Inner (Ok said)
    by_course (inl p) = absurd (not_held said word g.gates g.steps p.1)
    by_course (inr c) = by_stand c c.stands

did_in : (is_word : Outcome → Bool) (Does : List ℕ → Outcome → Files → Files → Type 0) (key : List ℕ) (outcome : Outcome) (old new : GuardTold)
    → (PreparedFits None outcome → ⊥) → (directory : Option (List ℕ)) → old.directory ≡ directory → PreparedFits directory outcome
    → IfSome directory (λ d. Works is_word (Does d) key old.desk new.desk outcome) → Did Does outcome old new
did_in is_word Does key outcome old new not None e p w = absurd (not p)
did_in is_word Does key outcome old new not (Some d) e p w = record { directory = d; given = e; did = w.files_do }

done_of : (outcome : Outcome) → word_of outcome ≡ Some Yes → outcome ≡ Done
done_of Done e = refl
done_of NotThere e = absurd cc
done_of NotPrepared e = absurd cc
done_of NoDirectory e = absurd cc
done_of NotText e = absurd cc
done_of DiskFailed e = absurd cc
done_of NoSuchFile e = absurd cc
done_of NoMemory e = absurd cc

not_there_of : (outcome : Outcome) → word_of outcome ≡ Some No → outcome ≡ NotThere
not_there_of Done e = absurd cc
not_there_of NotThere e = refl
not_there_of NotPrepared e = absurd cc
not_there_of NoDirectory e = absurd cc
not_there_of NotText e = absurd cc
not_there_of DiskFailed e = absurd cc
not_there_of NoSuchFile e = absurd cc
not_there_of NoMemory e = absurd cc

module _ (is_word : Outcome → Bool) (Does : List ℕ → Outcome → Files → Files → Type 0) (Traces : List ℕ → Outcome → List Call → Type 0) (clears : Bool) (key : List ℕ)
    (old new : GuardTold) where
  by_outcome : (outcome want : Outcome) → outcome ≡ want → (PreparedFits None want → ⊥) → PreparedFits old.directory outcome
      → IfSome old.directory (λ d. Works is_word (Does d) key old.desk new.desk outcome) → Did Does want old new
  by_outcome outcome want e not p w =
      did_in is_word Does key want old new not old.directory refl
      (subst (λ (o : Outcome). PreparedFits old.directory o) e p)
      (subst (λ (o : Outcome). IfSome old.directory (λ d. Works is_word (Does d) key old.desk new.desk o)) e w)

  yes_did : Answers is_word Does Traces clears old.directory key old.desk new.desk (Ok Yes) → Did Does Done old new
  yes_did a = by_outcome a.outcome Done (done_of a.outcome a.says.word) (λ n. n) a.prepared a.works

  no_did : Answers is_word Does Traces clears old.directory key old.desk new.desk (Ok No) → Did Does NotThere old new
  no_did a = by_outcome a.outcome NotThere (not_there_of a.outcome a.says.word) (λ n. n) a.prepared a.works

yes_is_word : IsWord Yes
yes_is_word line e = absurd cc

no_is_word : IsWord No
no_is_word line e = absurd cc

pub words_hold : (old new : GuardTold) (key file : List ℕ) → WordsHold old new key file
words_hold old new key file = (
  λ g. yes_did _ _ _ _ key old new (made _ _ _ old new Yes yes_is_word g).0,
  λ g. yes_did _ _ _ _ key old new (made _ _ _ old new Yes yes_is_word g),
  λ g. yes_did _ _ _ _ key old new (made _ _ _ old new Yes yes_is_word g),
  λ g. no_did _ _ _ _ key old new (made _ _ _ old new No no_is_word g),
  λ g. yes_did _ _ _ _ key old new (made _ _ _ old new Yes yes_is_word g),
)
