-- The worked journals: one check over one child, with changes; two checks over one tagged child; and what a child may say beside
-- an answer, or in place of one.
use Rattle.std.specs.Prelude.{ℕ, true, false, List, [], ◌∷◌, ◌++◌, map, take, codes}
use Rattle.task_text.specs.declared.task.Task.{Task}
use Rattle.task_text.specs.declared.task.Work.TheVariants.{Check, Store, XDrop, XRename}
use Rattle.registers.specs.Registers.{nothing_set}
use Rattle.journal_model.specs.declared.verdict.Why.{Why}
use Rattle.journal_model.specs.declared.verdict.Why.TheVariants.{Closed, Foul, Error}
use Rattle.journal_model.specs.declared.verdict.Verdict.TheVariants.{Done, Failed, Absent, Unknown, Unsupported, Ended, Unsent}
use Rattle.journal_model.specs.declared.answer.Answer.TheVariants.{Stored, Present, Absent as AbsentAnswer, Unsent as UnsentAnswer, Unknown as UnknownAnswer, NotPrepared, Ended as EndedAnswer}
use Rattle.journal_model.specs.declared.entry.What.{What}
use Rattle.journal_model.specs.declared.entry.What.TheVariants.{Claim, Start, Lead, Ask, Sent, Mute, Got, End, Verdict as Settled, Answer as Answered}
use Rattle.journal_model.specs.declared.entry.Entry.{Entry}
use Rattle.journal_model.specs.declared.opening.Opening.{Opening}

abbrev pub sample_key : List ℕ
sample_key = codes "SHA256E-s0--e3b0c44298fc1c149afbf4c8996fb92427ae41e4649b934ca495991b7852b855"

abbrev pub check_of : List ℕ → Task
check_of key = record { work = Check; key = key; file = []; name = []; onto = [] }

abbrev pub opening_of : List Task → Opening
opening_of tasks = record { tasks = tasks; registers = nothing_set; notes = []; identity = record { uuid = codes "00000000-0000-0000-0000-000000000000"; name = codes "remote"; gitdir = codes ".git" }; stamp = 1700000000000000; again = 0 }

abbrev pub one_check : Opening
one_check = opening_of (check_of sample_key ∷ [])

abbrev pub by_main : What → Entry
by_main w = record { by = 0; what = w }

-- as far as the question whether it is prepared
abbrev pub introduced : List Entry
introduced =
    by_main (Start 1 0 false)
    ∷ by_main (Got 1 (codes "VERSION 1"))
    ∷ by_main (Ask 1 0 0 (codes "EXTENSIONS INFO GETGITREMOTENAME"))
    ∷ by_main (Sent 1)
    ∷ by_main (Got 1 (codes "EXTENSIONS"))
    ∷ by_main (Settled 1 0 (Done 4))
    ∷ by_main (Ask 1 1 0 (codes "PREPARE"))
    ∷ by_main (Sent 1)
    ∷ []

abbrev pub prepared : List Entry
prepared = by_main (Got 1 (codes "PREPARE-SUCCESS")) ∷ by_main (Settled 1 1 (Done 8)) ∷ []

abbrev pub greeting : List Entry
greeting = introduced ++ prepared

abbrev pub asking : List Entry
asking =
    by_main (Claim 1 1)
    ∷ by_main (Ask 1 2 1 (codes "CHECKPRESENT " ++ sample_key))
    ∷ by_main (Sent 1)
    ∷ []

abbrev pub success_of : List ℕ → Entry
success_of key = by_main (Got 1 (codes "CHECKPRESENT-SUCCESS " ++ key))

abbrev pub settled : Entry
settled = by_main (Settled 1 2 (Done 13))

abbrev pub answered : Entry
answered = by_main (Answered 1 Present)

abbrev pub closed : Entry
closed = by_main (End 1 Closed)

-- the lines to its child
abbrev pub asked_lines : List (List ℕ)
asked_lines = codes "EXTENSIONS INFO GETGITREMOTENAME" ∷ codes "PREPARE" ∷ (codes "CHECKPRESENT " ++ sample_key) ∷ []

abbrev pub check_present : List Entry
check_present = greeting ++ asking ++ success_of sample_key ∷ settled ∷ answered ∷ closed ∷ []

-- with another key at place 13
abbrev pub other_key : List Entry
other_key = greeting ++ asking ++ success_of (codes "WORM--x") ∷ settled ∷ answered ∷ closed ∷ []

-- with entry 16 taken out, and with entry 14 taken out
abbrev pub not_closed : List Entry
not_closed = greeting ++ asking ++ success_of sample_key ∷ settled ∷ answered ∷ []

abbrev pub not_settled : List Entry
not_settled = greeting ++ asking ++ success_of sample_key ∷ answered ∷ closed ∷ []

-- ---- two checks over one tagged child

abbrev pub two_checks : Opening
two_checks = opening_of (check_of (codes "WORM--a") ∷ check_of (codes "WORM--b") ∷ [])

abbrev pub tagged_greeting : List Entry
tagged_greeting =
    by_main (Start 1 0 true)
    ∷ by_main (Got 1 (codes "VERSION 1"))
    ∷ by_main (Ask 1 0 0 (codes "EXTENSIONS INFO GETGITREMOTENAME ASYNC"))
    ∷ by_main (Sent 1)
    ∷ by_main (Got 1 (codes "EXTENSIONS ASYNC INFO"))
    ∷ by_main (Settled 1 0 (Done 4))
    ∷ by_main (Ask 1 1 0 (codes "J 1 PREPARE"))
    ∷ by_main (Sent 1)
    ∷ by_main (Got 1 (codes "J 1 PREPARE-SUCCESS"))
    ∷ by_main (Settled 1 1 (Done 8))
    ∷ by_main (Claim 1 1)
    ∷ by_main (Ask 1 2 1 (codes "J 2 CHECKPRESENT WORM--a"))
    ∷ by_main (Claim 2 1)
    ∷ by_main (Ask 1 3 2 (codes "J 3 CHECKPRESENT WORM--b"))
    ∷ []

-- the second is answered first
abbrev pub crossed : List Entry
crossed =
    tagged_greeting
    ++ by_main (Got 1 (codes "J 3 CHECKPRESENT-SUCCESS WORM--b"))
    ∷ by_main (Settled 1 3 (Done 14))
    ∷ by_main (Got 1 (codes "J 02 CHECKPRESENT-FAILURE WORM--a"))
    ∷ by_main (Settled 1 2 (Absent 16))
    ∷ by_main (Answered 1 AbsentAnswer)
    ∷ by_main (Answered 2 Present)
    ∷ by_main (End 1 Closed)
    ∷ []

-- a line for a job that was never asked ends the child and both jobs
abbrev pub unknown_job : List Entry
unknown_job =
    tagged_greeting
    ++ by_main (Got 1 (codes "J 9 CHECKPRESENT-SUCCESS WORM--a"))
    ∷ by_main (End 1 (Foul 14))
    ∷ by_main (Settled 1 2 (Ended (Foul 14)))
    ∷ by_main (Settled 1 3 (Ended (Foul 14)))
    ∷ []

-- a line without a tag ends them too
abbrev pub tag_left_off : List Entry
tag_left_off =
    tagged_greeting
    ++ by_main (Got 1 (codes "CHECKPRESENT-SUCCESS WORM--a"))
    ∷ by_main (End 1 (Foul 14))
    ∷ by_main (Settled 1 2 (Ended (Foul 14)))
    ∷ by_main (Settled 1 3 (Ended (Foul 14)))
    ∷ []

-- ---- beside an answer, and in place of one

-- what is due after a line that ends the child with these jobs open
abbrev pub end_with : Why → List ℕ → List What
end_with why jobs = End 1 why ∷ map (λ j. Settled 1 j (Ended why)) jobs

-- ASYNC is offered, and the child doesn't know the request of job 0
abbrev pub not_extended : List Entry
not_extended =
    by_main (Start 1 0 true)
    ∷ by_main (Got 1 (codes "VERSION 1"))
    ∷ by_main (Ask 1 0 0 (codes "EXTENSIONS INFO GETGITREMOTENAME ASYNC"))
    ∷ by_main (Sent 1)
    ∷ by_main (Got 1 (codes "UNSUPPORTED-REQUEST"))
    ∷ by_main (Settled 1 0 (Unsupported 4))
    ∷ by_main (Ask 1 1 0 (codes "PREPARE"))
    ∷ by_main (Sent 1)
    ∷ prepared
    ++ asking
    ++ success_of sample_key
    ∷ settled
    ∷ answered
    ∷ closed
    ∷ []

-- the child can't get ready, and its task is answered without it
abbrev pub no_disk : List Entry
no_disk =
    introduced
    ++ by_main (Got 1 (codes "PREPARE-FAILURE no disk"))
    ∷ by_main (Settled 1 1 (Failed 8))
    ∷ by_main (Claim 1 0)
    ∷ by_main (Answered 1 (NotPrepared 8))
    ∷ closed
    ∷ []

-- the request of the check stands, and nothing more
abbrev pub checking : List Entry
checking = greeting ++ asking

-- asides stand before the answer
abbrev pub away : List Entry
away =
    checking
    ++ by_main (Got 1 (codes "PROGRESS 10"))
    ∷ by_main (Got 1 (codes "DEBUG x"))
    ∷ by_main (Got 1 (codes "CHECKPRESENT-UNKNOWN " ++ sample_key ++ codes " away"))
    ∷ by_main (Settled 1 2 (Unknown 15))
    ∷ by_main (Answered 1 (UnknownAnswer 15))
    ∷ closed
    ∷ []

-- an aside is taken for an answer
abbrev pub settled_by_aside : List Entry
settled_by_aside = checking ++ by_main (Got 1 (codes "PROGRESS 10")) ∷ settled ∷ []

-- the child gives up
abbrev pub out_of_disk : List Entry
out_of_disk =
    checking
    ++ by_main (Got 1 (codes "ERROR out of disk"))
    ∷ by_main (End 1 (Error 13))
    ∷ by_main (Settled 1 2 (Ended (Error 13)))
    ∷ by_main (Answered 1 (EndedAnswer (Error 13)))
    ∷ []

-- the first check of the two is answered, and the second is still open
abbrev pub one_left : List Entry
one_left =
    tagged_greeting
    ++ by_main (Got 1 (codes "J 2 CHECKPRESENT-FAILURE WORM--a"))
    ∷ by_main (Settled 1 2 (Absent 14))
    ∷ []

-- a request of an answer of several lines, and its first line
abbrev pub ask_configs : What
ask_configs = Ask 1 2 0 (codes "LISTCONFIGS")

abbrev pub listing : List Entry
listing = greeting ++ by_main ask_configs ∷ by_main (Sent 1) ∷ []

abbrev pub one_listed : List Entry
one_listed = listing ++ by_main (Got 1 (codes "CONFIG a b")) ∷ []

-- ---- a child that was set up, and not prepared

abbrev pub set_up : List Entry
set_up =
    by_main (Start 1 0 false)
    ∷ by_main (Got 1 (codes "VERSION 1"))
    ∷ by_main (Ask 1 0 0 (codes "EXTENSIONS INFO GETGITREMOTENAME"))
    ∷ by_main (Sent 1)
    ∷ by_main (Got 1 (codes "EXTENSIONS"))
    ∷ by_main (Settled 1 0 (Done 4))
    ∷ by_main (Ask 1 1 0 (codes "INITREMOTE"))
    ∷ by_main (Sent 1)
    ∷ by_main (Got 1 (codes "INITREMOTE-SUCCESS"))
    ∷ by_main (Settled 1 1 (Done 8))
    ∷ []

-- ---- two stores, the first of which is claimed

abbrev pub store_of : List ℕ → List ℕ → Task
store_of key file = record { work = Store; key = key; file = file; name = []; onto = [] }

abbrev pub two_stores : List ℕ → List ℕ → Opening
two_stores key file = opening_of (store_of (codes "WORM--a") (codes "f") ∷ store_of key file ∷ [])

abbrev pub first_claimed : List Entry
first_claimed = greeting ++ by_main (Claim 1 1) ∷ []

-- ---- a change of a name, which is claimed, and another task

abbrev pub rename_of : List ℕ → List ℕ → List ℕ → Task
rename_of key name onto = record { work = XRename; key = key; file = []; name = name; onto = onto }

abbrev pub drop_of_name : List ℕ → List ℕ → Task
drop_of_name key name = record { work = XDrop; key = key; file = []; name = name; onto = [] }

abbrev pub rename_and : Task → Opening
rename_and other = opening_of (rename_of (codes "WORM--a") (codes "x") (codes "y") ∷ other ∷ [])

-- ---- a name, and the request that it leads

-- a tagged child that is prepared, and a task claimed for it
abbrev pub claimed_tagged : List Entry
claimed_tagged = take 11 tagged_greeting

abbrev pub name_said : Entry
name_said = by_main (Lead 1 2 (codes "J 2 EXPORT x y"))

abbrev pub export_asked : Entry
export_asked = by_main (Ask 1 2 1 (codes "J 2 TRANSFEREXPORT STORE WORM--a f"))

-- a request of another job, and one by another number
abbrev pub other_job_asked : Entry
other_job_asked = by_main (Ask 1 3 1 (codes "J 3 TRANSFEREXPORT STORE WORM--a f"))

abbrev pub asked_by_other : Entry
asked_by_other = record { by = 1; what = Ask 1 2 1 (codes "J 2 TRANSFEREXPORT STORE WORM--a f") }

abbrev pub exported : List Entry
exported =
    claimed_tagged
    ++ name_said ∷ export_asked
    ∷ by_main (Sent 1)
    ∷ by_main (Sent 1)
    ∷ by_main (Got 1 (codes "J 2 TRANSFER-SUCCESS STORE WORM--a"))
    ∷ by_main (Settled 1 2 (Done 15))
    ∷ by_main (Answered 1 Stored)
    ∷ by_main (End 1 Closed)
    ∷ []

-- the name was written, and not the request
abbrev pub half_written : List Entry
half_written =
    claimed_tagged
    ++ name_said ∷ export_asked
    ∷ by_main (Sent 1)
    ∷ by_main (Mute 1)
    ∷ by_main (Settled 1 2 Unsent)
    ∷ by_main (Answered 1 UnsentAnswer)
    ∷ []
