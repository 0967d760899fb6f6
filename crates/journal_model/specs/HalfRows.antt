-- The two halves of the link of the worked check, and changed ones.
use Rattle.std.specs.Prelude.{false, List, [], ◌∷◌, ◌++◌, Some, codes}
use Rattle.annex_model.specs.Lines.{text}
use Rattle.journal_model.specs.declared.verdict.Why.TheVariants.{Eof}
use Rattle.journal_model.specs.declared.entry.What.TheVariants.{Start, Mute, End}
use Rattle.journal_model.specs.declared.entry.Entry.{Entry}
use Rattle.journal_model.specs.Journal.{got_lines}
use Rattle.journal_model.specs.Halves.{EarValue, MouthValue}
use Rattle.journal_model.specs.Rows.{check_present, sample_key, by_main}

abbrev pub sample_ear : EarValue
sample_ear = record { child = 1; given = Some (text (got_lines check_present 1)); left = Some []; faults = 0; number = Some 0; held = [] }

-- a byte after the last line was read and is nowhere
abbrev pub dropping_ear : EarValue
dropping_ear = record sample_ear { given = Some (text (got_lines check_present 1) ++ 65 ∷ []) }

abbrev pub sample_mouth : MouthValue
sample_mouth = record {
  child = 1;
  taken = Some (text (codes "EXTENSIONS INFO GETGITREMOTENAME" ∷ codes "PREPARE" ∷ (codes "CHECKPRESENT " ++ sample_key) ∷ []));
  faults = 0;
  number = Some 0;
}

-- the last line was not written
abbrev pub silent_mouth : MouthValue
silent_mouth = record sample_mouth { taken = Some (text (codes "EXTENSIONS INFO GETGITREMOTENAME" ∷ codes "PREPARE" ∷ [])) }

-- the child is said to have ended its output, and to be mute
abbrev pub at_its_end : List Entry
at_its_end = by_main (Start 1 0 false) ∷ by_main (End 1 Eof) ∷ []

abbrev pub muted : List Entry
muted = by_main (Start 1 0 false) ∷ by_main (Mute 1) ∷ []

abbrev pub unread_ear : EarValue
unread_ear = record { child = 1; given = Some []; left = Some (65 ∷ []); faults = 0; number = Some 0; held = [] }

abbrev pub empty_ear : EarValue
empty_ear = record unread_ear { left = Some [] }

abbrev pub unfailed_mouth : MouthValue
unfailed_mouth = record { child = 1; taken = Some []; faults = 0; number = Some 0 }

abbrev pub failed_mouth : MouthValue
failed_mouth = record unfailed_mouth { faults = 1 }
