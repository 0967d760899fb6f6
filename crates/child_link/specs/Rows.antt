-- The journal of the worked check as far as its verdict, and changes of it.
use Rattle.std.specs.Prelude.{List, ◌∷◌, ◌++◌, take, drop}
use Rattle.journal_model.specs.declared.entry.Entry.{Entry}
use Rattle.journal_model.specs.declared.entry.What.TheVariants.{Mute}
use Rattle.journal_model.specs.Rows.{check_present, by_main}

abbrev pub as_far_as_its_verdict : List Entry
as_far_as_its_verdict = take 15 check_present

-- the request was never written
abbrev pub unwritten : List Entry
unwritten = take 12 check_present ++ drop 13 as_far_as_its_verdict

-- it was written only after its answer
abbrev pub written_late : List Entry
written_late = unwritten ++ drop 12 (take 13 check_present)

-- a write of it failed, and it was answered all the same
abbrev pub failed_to_write : List Entry
failed_to_write = take 12 check_present ++ by_main (Mute 1) ∷ drop 13 as_far_as_its_verdict
