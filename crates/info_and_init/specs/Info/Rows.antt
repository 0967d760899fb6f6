-- Worked journals: one child that is asked about itself.
use Rattle.std.specs.Prelude.{List, [], ◌∷◌, ◌++◌, codes}
use Rattle.journal_model.specs.declared.verdict.Why.TheVariants.{Eof, Foul}
use Rattle.journal_model.specs.declared.verdict.Verdict.TheVariants.{Done, Absent, Unsupported, Ended}
use Rattle.journal_model.specs.declared.entry.What.TheVariants.{NoStart, Ask, Sent, Got, End, Verdict as Settled, Lost}
use Rattle.journal_model.specs.declared.entry.Entry.{Entry}
use Rattle.journal_model.specs.Rows.{by_main, greeting}

-- its configs are told, at places 10 to 14
abbrev pub configs : List Entry
configs =
    by_main (Ask 1 2 0 (codes "LISTCONFIGS"))
    ∷ by_main (Sent 1)
    ∷ by_main (Got 1 (codes "CONFIG directory where"))
    ∷ by_main (Got 1 (codes "CONFIGEND"))
    ∷ by_main (Settled 1 2 (Done 13))
    ∷ []

-- a cost without its number ends the child
abbrev pub foul_cost : List Entry
foul_cost =
    greeting
    ++ configs
    ++ by_main (Ask 1 3 0 (codes "GETCOST"))
    ∷ by_main (Sent 1)
    ∷ by_main (Got 1 (codes "COST"))
    ∷ by_main (End 1 (Foul 17))
    ∷ by_main (Settled 1 3 (Ended (Foul 17)))
    ∷ []

-- the child ends after its configs, and the next request is not asked
abbrev pub ended_early : List Entry
ended_early = greeting ++ configs ++ by_main (End 1 Eof) ∷ []

-- or it is lost
abbrev pub lost_cost : List Entry
lost_cost = ended_early ++ by_main (Lost 1 0) ∷ []

-- a child was asked to get ready, and knows no request but the first and the last, which it denies: the verdicts. The lines that gave
-- them are left out
abbrev pub answered : List Entry
answered =
    by_main (Ask 1 1 0 (codes "PREPARE"))
    ∷ by_main (Settled 1 1 (Done 8))
    ∷ by_main (Settled 1 2 (Done 13))
    ∷ by_main (Settled 1 3 (Unsupported 17))
    ∷ by_main (Settled 1 4 (Unsupported 21))
    ∷ by_main (Settled 1 5 (Unsupported 25))
    ∷ by_main (Settled 1 6 (Absent 29))
    ∷ []

abbrev pub not_started : List Entry
not_started = by_main (NoStart 0) ∷ []
