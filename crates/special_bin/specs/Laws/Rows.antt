-- The wire of a worked check, checks without a child, an info that asks nothing, and what a worked rehearsal and a worked walk print.
use Rattle.std.specs.Prelude.{ℕ, List, [], ◌∷◌, ◌++◌, Some, codes, false}
use Rattle.annex_model.specs.Lines.{text}
use Rattle.journal_model.specs.Journal.{got_lines}
use Rattle.journal_model.specs.declared.answer.Answer.TheVariants.{Memory, NoChild}
use Rattle.journal_model.specs.declared.entry.What.TheVariants.{Claim, Mute, Answer as Answered}
use Rattle.journal_model.specs.declared.entry.Entry.{Entry}
use Rattle.journal_model.specs.Rows.{sample_key, by_main, greeting, closed, check_present}
use Rattle.child_link.specs.Wires.{WireValue}
use Rattle.child_life.specs.End.Wires.{AreWires, came}

-- What the child of a check that found its key was asked and said. Its halves tell the first start, never failed and are
-- closed.
abbrev pub present_wire : WireValue
present_wire = record {
  child = 1;
  taken = Some (text (codes "EXTENSIONS INFO GETGITREMOTENAME" ∷ codes "PREPARE" ∷ (codes "CHECKPRESENT " ++ sample_key) ∷ []));
  write_faults = 0;
  inlet_number = Some 1;
  is_inlet_open = false;
  given = Some (text (got_lines check_present 1));
  left = Some [];
  read_faults = 0;
  outlet_number = Some 1;
  is_outlet_open = false;
  rest = [];
}

-- the wires of that check, where the programs had been asked for nothing before
abbrev pub HasWires : List WireValue → Type 0
HasWires wires = AreWires (Some []) check_present 0 (came check_present) wires

-- the child got ready and became mute, and the task was answered without it
abbrev pub gone_early : List Entry
gone_early = greeting ++ by_main (Mute 1) ∷ by_main (Claim 1 0) ∷ by_main (Answered 1 NoChild) ∷ closed ∷ []

-- nothing was started, and the task was answered
abbrev pub unstarted : List Entry
unstarted = by_main (Claim 1 0) ∷ by_main (Answered 1 Memory) ∷ []

-- the child got ready, and was closed before it was asked about itself
abbrev pub unasked : List Entry
unasked = greeting ++ closed ∷ []

-- what is printed of five answers, one of which has no word of its own
abbrev pub rehearsal_lines : List (List ℕ)
rehearsal_lines = codes "stored 2" ∷ codes "got 0" ∷ codes "present 1" ∷ codes "absent 0" ∷ codes "dropped 0" ∷ codes "failed 1" ∷ codes "other 1" ∷ codes "legal" ∷ []

-- what is printed of a walk, in which what was fetched was equal once
abbrev pub walk_lines : List (List ℕ)
walk_lines =
    codes "stored 2" ∷ codes "got 1" ∷ codes "present 0" ∷ codes "absent 0" ∷ codes "dropped 0" ∷ codes "failed 1" ∷ codes "other 0" ∷ codes "equal 1"
    ∷ codes "legal" ∷ []
