-- Who serves the children of a run with one job, and in which slot they are started.
use Rattle.ann_outside.specs.Files.{Files}
use Rattle.ann_outside.specs.Told.{DeskTold}
use Rattle.std.specs.Prelude.{ℕ, ◌≡◌, ◌≤◌, ◌==◌, Bool, List, length, Option, true}
use Rattle.std.specs.List.{list_all}
use Rattle.child_life.specs.End.Wires.{is_served_alone}
use Rattle.cli_words.specs.declared.command.RunWords.{RunWords}
use Rattle.journal_model.specs.Journal.{each_of}
use Rattle.journal_model.specs.declared.entry.Entry.{Entry}
use Rattle.journal_model.specs.declared.opening.Opening.{Opening}
use Rattle.run_and_check.specs.Run.Inputs.{InputFlow}
use Rattle.run_and_check.specs.Run.Runs.{IsRunOf}
use Rattle.run_children.specs.PoolChildren.Slots.{AreStarts, slot_of}

-- each child is served by the main thread alone
abbrev pub OneJobIsAlone : Type 0
OneJobIsAlone =
    (words : RunWords) (clock : Option ℕ) (told : Option Files) (input : InputFlow) (workers : List DeskTold) (journal : List Entry) (c : ℕ)
    → IsRunOf words clock told input workers journal → words.jobs ≡ 1 → is_served_alone journal c ≡ true

-- each start is in slot 0, and there are no more than the run may make
abbrev pub OneJobOneSlot : Type 0
OneJobOneSlot =
    (o : Opening) (may : Bool) (limit : ℕ) (journal : List Entry) → AreStarts o may limit 1 journal
    → (list_all (λ s. s == 0) (each_of slot_of journal) ≡ true) × (length (each_of slot_of journal) ≤ limit)
