-- Runs in which a key is stored and then got, as examples.
use Rattle.std.specs.Prelude.{ℕ, ◌==◌, if◌then◌else◌, true, false, List, [], ◌∷◌, ◌++◌, codes, Some, None, Ok}
use Rattle.ann_key.specs.Keys.{Parts}
use Rattle.ann_outside.specs.Files.{Files}
use Rattle.ann_outside.specs.declared.file_desk.Call.{Call}
use Rattle.ann_outside.specs.declared.file_desk.Call.TheVariants.{Size, Create, Append}
use Rattle.annex_model.specs.Messages.{Transfer}
use Rattle.journal_model.specs.declared.answer.Answer.TheVariants.{Stored, Got as GotAnswer, Ended as EndedAnswer}
use Rattle.journal_model.specs.declared.verdict.Why.TheVariants.{Eof}
use Rattle.journal_model.specs.declared.verdict.Verdict.TheVariants.{Done, Failed, Ended}
use Rattle.journal_model.specs.declared.entry.What.TheVariants.{Claim, Ask, Sent, Got, End, Verdict as Settled, Answer as Answered, Again}
use Rattle.journal_model.specs.declared.entry.Entry.{Entry}
use Rattle.journal_model.specs.declared.opening.Opening.{Opening}
use Rattle.journal_model.specs.Rows.{by_main, greeting, opening_of}
use Rattle.task_text.specs.declared.task.Work.TheVariants.{Store, Get}
use Rattle.task_model.specs.Rows.{task_of, first_turn, second_turn, fetched_2_1, got_hi, moved, renamed, sized, store_ten, c1, chunk_2}
use Rattle.task_model.specs.StretchRows.{next_greeting}
use Rattle.run_starts.specs.TaskLaws.Changes.{Request}
use Rattle.run_starts.specs.TaskLaws.Faithful.{Told}
use Rattle.task_model.specs.declared.turn.TaskTurn.{TaskTurn}

-- what the keys say
abbrev pub ten_parts : Parts
ten_parts = record { backend = codes "WORM"; size = Some 10; mtime = None; chunk = None; name = codes "ten" }

abbrev pub worm_parts : Parts
worm_parts = record { backend = codes "WORM"; size = None; mtime = None; chunk = None; name = codes "a" }

abbrev pub abc_parts : Parts
abc_parts = record { backend = codes "WORM"; size = Some 3; mtime = None; chunk = None; name = codes "a" }

abbrev pub hi : List ℕ
hi = codes "WORM-s2--a"

abbrev pub hi_parts : Parts
hi_parts = record { backend = codes "WORM"; size = Some 2; mtime = None; chunk = None; name = codes "a" }

-- ---- one task stores a key, and another gets it

abbrev pub store_then_get : Opening
store_then_get = opening_of (task_of Store hi (codes "f") ∷ task_of Get hi (codes "o") ∷ [])

-- the entries 10 to 15: the first task
abbrev pub storing : List Entry
storing =
    by_main (Claim 1 1)
    ∷ by_main (Ask 1 2 1 (codes "TRANSFER STORE WORM-s2--a f"))
    ∷ by_main (Sent 1)
    ∷ by_main (Got 1 (codes "TRANSFER-SUCCESS STORE WORM-s2--a"))
    ∷ by_main (Settled 1 2 (Done 13))
    ∷ by_main (Answered 1 Stored)
    ∷ []

-- the entries 16 to 21: the second
abbrev pub retrieving : List Entry
retrieving =
    by_main (Ask 1 3 2 (codes "TRANSFER RETRIEVE WORM-s2--a w/1700000000000000-2-1.fetch"))
    ∷ by_main (Sent 1)
    ∷ by_main (Got 1 (codes "TRANSFER-SUCCESS RETRIEVE WORM-s2--a"))
    ∷ by_main (Settled 1 3 (Done 19))
    ∷ []

abbrev pub getting : List Entry
getting = by_main (Claim 2 1) ∷ retrieving ++ by_main (Answered 2 GotAnswer) ∷ []

abbrev pub stored_then_got : List Entry
stored_then_got = greeting ++ storing ++ getting

abbrev pub the_store : Request
the_store = record { at = 11; child = 1; job = 2; turn = first_turn 1; asks = Transfer true hi (codes "f") }

abbrev pub the_retrieve : Request
the_retrieve = record { at = 17; child = 1; job = 3; turn = first_turn 2; asks = Transfer false hi fetched_2_1 }

-- The desk of the first task holds these bytes as its file, and this is what the second task's calls did at its own, which held what was
-- retrieved as it was found.
abbrev pub told_of : List ℕ → List Call → Told
told_of bytes calls = record { calls = of_task; before = held; after = left }
  where
    of_task : TaskTurn → List Call
    of_task t = if t.task == 2 then calls else if t.task == 1 then sized (codes "f") 2 else []

    held : TaskTurn → Files
    held t = if t.task == 2 then (fetched_2_1, codes "hi") ∷ [] else (codes "f", bytes) ∷ []

    left : TaskTurn → Files
    left t = if t.task == 2 then (codes "o", codes "hi") ∷ [] else (codes "f", bytes) ∷ []

-- the remote sent what was stored, and another content
abbrev pub told_hi : Told
told_hi = told_of (codes "hi") got_hi

abbrev pub told_ho : Told
told_ho = told_of (codes "ho") got_hi

-- the second task's desk has these bytes as its file after it
abbrev pub told_left : List ℕ → Told
told_left bytes = record { calls = told_hi.calls; before = told_hi.before; after = λ t. (codes "o", bytes) ∷ [] }

-- ---- the same, where the child is lost under the second task, which is run again

abbrev pub with_again : Opening
with_again = record store_then_get { again = 1 }

abbrev pub fetched_2_again : List ℕ
fetched_2_again = codes "w/1700000000000000-2-1-2.fetch"

-- the entries 16 to 21: its first run
abbrev pub losing : List Entry
losing =
    by_main (Claim 2 1)
    ∷ by_main (Ask 1 3 2 (codes "TRANSFER RETRIEVE WORM-s2--a w/1700000000000000-2-1.fetch"))
    ∷ by_main (Sent 1)
    ∷ by_main (End 1 Eof)
    ∷ by_main (Settled 1 3 (Ended Eof))
    ∷ by_main (Again 2 (EndedAnswer Eof))
    ∷ []

-- the entries 32 to 37: its last run
abbrev pub retrieving_again : List Entry
retrieving_again =
    by_main (Ask 2 2 2 (codes "TRANSFER RETRIEVE WORM-s2--a w/1700000000000000-2-1-2.fetch"))
    ∷ by_main (Sent 2)
    ∷ by_main (Got 2 (codes "TRANSFER-SUCCESS RETRIEVE WORM-s2--a"))
    ∷ by_main (Settled 2 2 (Done 35))
    ∷ []

abbrev pub lost_then_got : List Entry
lost_then_got = greeting ++ storing ++ losing ++ next_greeting 22 ++ by_main (Claim 2 2) ∷ retrieving_again ++ by_main (Answered 2 GotAnswer) ∷ []

abbrev pub the_last_retrieve : Request
the_last_retrieve = record { at = 33; child = 2; job = 2; turn = second_turn 2; asks = Transfer false hi fetched_2_again }

abbrev pub got_hi_again : List Call
got_hi_again =
    sized fetched_2_again 2 ++ Create (codes "o.part") (Ok tt) ∷ moved fetched_2_again (codes "o.part") (codes "hi") ++ renamed

-- the first run made no call
abbrev pub told_again : Told
told_again = record { calls = of_turn; before = held; after = λ t. [] }
  where
    of_turn : TaskTurn → List Call
    of_turn t = if t.task == 2 then (if t.turn == 2 then got_hi_again else []) else sized (codes "f") 2

    held : TaskTurn → Files
    held t = if t.task == 2 then (fetched_2_again, codes "hi") ∷ [] else (codes "f", codes "hi") ∷ []

-- ---- part

-- part is made and filled, and then looked up once more
abbrev pub filled_early : List Call
filled_early = Create (codes "o.part") (Ok tt) ∷ Append (codes "o.part") (codes "h") (Ok tt) ∷ Size (codes "o.part") (Ok 1) ∷ []

-- ---- a task stores a key in chunks

abbrev pub one_store : Opening
one_store = opening_of (store_ten ∷ [])

-- its request for the first chunk
abbrev pub first_chunk : Request
first_chunk = record { at = 14; child = 1; job = 3; turn = first_turn 1; asks = Transfer true c1 chunk_2 }

-- this is what its calls did at a desk that held this file before them
abbrev pub told_calls : List Call → Told
told_calls calls = record { calls = λ t. calls; before = λ t. (chunk_2, codes "held") ∷ []; after = λ t. [] }

-- ---- a change between

-- a second store of the key is asked before the retrieve is, or before it is answered, and not settled
abbrev pub stored_again : Entry
stored_again = by_main (Ask 1 3 2 (codes "TRANSFER STORE WORM-s2--a g"))

abbrev pub removed : Entry
removed = by_main (Ask 1 3 2 (codes "REMOVE WORM-s2--a"))

abbrev pub other_removed : Entry
other_removed = by_main (Ask 1 3 2 (codes "REMOVE WORM-s2--b"))

abbrev pub not_stored : List Entry
not_stored =
    by_main (Claim 1 1)
    ∷ by_main (Ask 1 2 1 (codes "TRANSFER STORE WORM-s2--a f"))
    ∷ by_main (Sent 1)
    ∷ by_main (Got 1 (codes "TRANSFER-FAILURE STORE WORM-s2--a full"))
    ∷ by_main (Settled 1 2 (Failed 13))
    ∷ []
