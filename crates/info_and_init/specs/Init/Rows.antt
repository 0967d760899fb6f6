-- Worked journals: one child that is to set the remote up.
use Rattle.std.specs.Prelude.{List, [], ◌∷◌, ◌++◌, codes, false}
use Rattle.journal_model.specs.declared.verdict.Why.TheVariants.{Closed, Eof}
use Rattle.journal_model.specs.declared.verdict.Verdict.TheVariants.{Done, Failed, Unsupported}
use Rattle.journal_model.specs.declared.entry.What.TheVariants.{Start, NoStart, Ask, Sent, Got, End, Verdict as Settled}
use Rattle.journal_model.specs.declared.entry.Entry.{Entry}
use Rattle.journal_model.specs.Rows.{by_main}

-- it was asked, at place 6
abbrev pub asked : List Entry
asked =
    by_main (Start 1 0 false)
    ∷ by_main (Got 1 (codes "VERSION 1"))
    ∷ by_main (Ask 1 0 0 (codes "EXTENSIONS INFO GETGITREMOTENAME"))
    ∷ by_main (Sent 1)
    ∷ by_main (Got 1 (codes "EXTENSIONS"))
    ∷ by_main (Settled 1 0 (Done 4))
    ∷ by_main (Ask 1 1 0 (codes "INITREMOTE"))
    ∷ by_main (Sent 1)
    ∷ []

abbrev pub set_up : List Entry
set_up = asked ++ by_main (Got 1 (codes "INITREMOTE-SUCCESS")) ∷ by_main (Settled 1 1 (Done 8)) ∷ by_main (End 1 Closed) ∷ []

abbrev pub failed : List Entry
failed = asked ++ by_main (Got 1 (codes "INITREMOTE-FAILURE no disk")) ∷ by_main (Settled 1 1 (Failed 8)) ∷ by_main (End 1 Closed) ∷ []

abbrev pub not_known : List Entry
not_known = asked ++ by_main (Got 1 (codes "UNSUPPORTED-REQUEST")) ∷ by_main (Settled 1 1 (Unsupported 8)) ∷ by_main (End 1 Closed) ∷ []

abbrev pub not_started : List Entry
not_started = by_main (NoStart 0) ∷ []

-- its output ended before its first line
abbrev pub gone : List Entry
gone = by_main (Start 1 0 false) ∷ by_main (End 1 Eof) ∷ []
