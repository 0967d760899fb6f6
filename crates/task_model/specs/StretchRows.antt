-- A task that is run twice, as an example: the child is lost under its first run.
use Rattle.std.specs.Prelude.{ℕ, ◌+◌, ◌≡◌, Bool, false, List, [], ◌∷◌, ◌++◌, codes, Some, None}
use Rattle.annex_model.specs.Messages.{Remove}
use Rattle.journal_model.specs.declared.answer.Answer.{Answer}
use Rattle.journal_model.specs.declared.answer.Answer.TheVariants.{Dropped, Ended as EndedAnswer}
use Rattle.journal_model.specs.declared.verdict.Why.TheVariants.{Eof}
use Rattle.journal_model.specs.declared.verdict.Verdict.{Verdict}
use Rattle.journal_model.specs.declared.verdict.Verdict.TheVariants.{Done, Ended}
use Rattle.journal_model.specs.declared.entry.What.TheVariants.{Claim, Start, Ask, Sent, Got, End, Verdict as Settled, Note, Answer as Answered, Again}
use Rattle.journal_model.specs.declared.entry.Entry.{Entry}
use Rattle.journal_model.specs.Rows.{by_main, greeting}
use Rattle.task_model.specs.Askers.{Asking, Noting}
use Rattle.task_model.specs.Askings.{TaskStretch, run_askings, run_notings, run_turn, is_last_run}
use Rattle.task_model.specs.declared.turn.TaskTurn.{TaskTurn}

-- the journal has a run of the task with these requests, notes and answer, in this turn, and it is the last or isn't
abbrev pub HasRun : List Entry → ℕ → List Asking → List Noting → Answer → TaskTurn → Bool → Type 0
HasRun journal t asked noted answer turn last =
    (run : TaskStretch journal t) × (run_askings run ≡ asked) × (run_notings run ≡ noted) × (run.answer ≡ answer) × (run_turn run ≡ turn) × (is_last_run run ≡ last)

-- the request is asked, and the child ends
abbrev pub first_within : List Entry
first_within =
    by_main (Ask 1 2 1 (codes "REMOVE WORM--a"))
    ∷ by_main (Sent 1)
    ∷ by_main (End 1 Eof)
    ∷ by_main (Settled 1 2 (Ended Eof))
    ∷ []

abbrev pub lost_answer : Answer
lost_answer = EndedAnswer Eof

abbrev pub first_run : List Entry
first_run = by_main (Claim 1 1) ∷ first_within ++ by_main (Again 1 lost_answer) ∷ []

-- another child gets ready, from this place on
abbrev pub next_greeting : ℕ → List Entry
next_greeting at =
    by_main (Start 2 0 false)
    ∷ by_main (Got 2 (codes "VERSION 1"))
    ∷ by_main (Ask 2 0 0 (codes "EXTENSIONS INFO GETGITREMOTENAME"))
    ∷ by_main (Sent 2)
    ∷ by_main (Got 2 (codes "EXTENSIONS"))
    ∷ by_main (Settled 2 0 (Done (at + 4)))
    ∷ by_main (Ask 2 1 0 (codes "PREPARE"))
    ∷ by_main (Sent 2)
    ∷ by_main (Got 2 (codes "PREPARE-SUCCESS"))
    ∷ by_main (Settled 2 1 (Done (at + 8)))
    ∷ []

-- the request is asked again, is done, and it is noted that there are no chunks of 4 bytes
abbrev pub second_within : List Entry
second_within =
    by_main (Ask 2 2 1 (codes "REMOVE WORM--a"))
    ∷ by_main (Sent 2)
    ∷ by_main (Got 2 (codes "REMOVE-SUCCESS WORM--a"))
    ∷ by_main (Settled 2 2 (Done 29))
    ∷ by_main (Note 1 4 0)
    ∷ []

abbrev pub second_run : List Entry
second_run = by_main (Claim 1 2) ∷ second_within ++ by_main (Answered 1 Dropped) ∷ []

abbrev pub dropped_twice : List Entry
dropped_twice = greeting ++ first_run ++ next_greeting 16 ++ second_run

abbrev pub removes : Verdict → List Asking
removes v = record { request = Some (Remove (codes "WORM--a")); name = None; verdict = v } ∷ []
