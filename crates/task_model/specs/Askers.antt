-- What a task asked of its child and noted, and what one call of an asker adds to it.
use Rattle.std.specs.Prelude.{ℕ, ◌≡◌, ◌==◌, not, Bool, true, false, List, [], ◌∷◌, ◌++◌, Option, Some, None, Result, Ok, Err}
use Rattle.std.specs.List.{list_all}
use Rattle.ann_key.specs.declared.bytes.NoMemory.{NoMemory}
use Rattle.annex_model.specs.Lines.{has_newline}
use Rattle.annex_model.specs.Messages.{HostMessage, Transfer, Transferexport, Renameexport}
use Rattle.journal_model.specs.declared.verdict.Verdict.{Verdict}
use Rattle.journal_model.specs.declared.verdict.Verdict.TheVariants.{Ended, Unsent}

-- a request, where it is kept, with the name that was said before it, if one was, and its verdict
pub record Asking : Type 0 where
  pub request : Option HostMessage
  pub name : Option (List ℕ)
  pub verdict : Verdict

-- a note that the remote has so many chunks of a size, and how many requests of the task were settled before it
pub record Noting : Type 0 where
  pub chunk : ℕ
  pub count : ℕ
  pub behind : ℕ

-- the verdict is that of a child that had ended or was mute
abbrev pub is_gone : Verdict → Bool
is_gone (Ended why) = true
is_gone Unsent = true
is_gone _ = false

-- the request is kept; it may be left out only where its child had ended or was mute
abbrev pub KeepsRequest : HostMessage → Option HostMessage → Verdict → Type 0
KeepsRequest q (Some kept) v = kept ≡ q
KeepsRequest q None v = is_gone v ≡ true

-- the name that is said before a request that is asked. Before one that is left out nothing is said
abbrev pub said_with : Option (List ℕ) → Option HostMessage → Option (List ℕ)
said_with None request = None
said_with (Some name) None = None
said_with (Some name) (Some q) = Some name

-- one asking more, of this request after this name, and its verdict
pub record AsksOne (old new : List Asking) (name : Option (List ℕ)) (q : HostMessage) (v : Verdict) : Type 0 where
  pub request : Option HostMessage
  pub kept : KeepsRequest q request v
  pub added : new ≡ old ++ record { request = request; name = said_with name request; verdict = v } ∷ []

-- without memory nothing was asked
abbrev pub AskAdds : List Asking → List Asking → Option (List ℕ) → HostMessage → Result Verdict NoMemory → Type 0
AskAdds old new name q (Ok v) = AsksOne old new name q v
AskAdds old new name q (Err e) = new ≡ old

-- without memory nothing was noted
abbrev pub NoteAdds : List Noting → List Noting → Noting → Result (Unit {0}) NoMemory → Type 0
NoteAdds old new note (Ok done) = new ≡ old ++ note ∷ []
NoteAdds old new note (Err e) = new ≡ old

-- the file that the message names, if it names one, holds no line's end
abbrev pub names_in_line : HostMessage → Bool
names_in_line (Transfer store key file) = not (has_newline file)
names_in_line (Transferexport store key file) = not (has_newline file)
names_in_line (Renameexport key onto) = not (has_newline onto)
names_in_line q = true

-- the name that is said before a request, if one is, is one line
abbrev pub is_said_in_line : Option (List ℕ) → Bool
is_said_in_line None = true
is_said_in_line (Some name) = not (has_newline name)

-- the chunks of each layout hold something
abbrev pub are_layouts : List (ℕ × ℕ) → Bool
are_layouts layouts = list_all (λ (layout : ℕ × ℕ). not (layout.0 == 0)) layouts

-- an asker as one value: the requests that were settled so far, with their names and verdicts; the notes so far; its task, and whether
-- that stores or drops; the layouts in which the remote is known to have the task's key, which while the task is busy its own notes
-- alone change; and the names of what it borrows
pub record AskerTold : Type 0 where
  pub pairs : List Asking
  pub notes : List Noting
  pub task : ℕ
  pub may_note : Bool
  pub current : List (ℕ × ℕ)
  pub loans : List ℕ

-- what no call of an asker changes: its task, whether that may note, and what the asker borrows
pub record IsSameTask (old new : AskerTold) : Type 0 where
  pub task_is : new.task ≡ old.task
  pub may_note_is : new.may_note ≡ old.may_note
  pub loans_are : new.loans ≡ old.loans
