-- Runs of tasks, as examples.
use Rattle.std.specs.Prelude.{ℕ, true, false, List, [], ◌∷◌, ◌++◌, take, drop, codes, Some, None, Ok, Err}
use Rattle.journal_model.specs.declared.verdict.Verdict.{Verdict}
use Rattle.journal_model.specs.declared.verdict.Verdict.TheVariants.{Done, Absent, Ended}
use Rattle.journal_model.specs.declared.verdict.Why.TheVariants.{Eof}
use Rattle.annex_model.specs.Messages.{HostMessage, Transfer, Checkpresent, Remove as RemoveKey}
use Rattle.task_text.specs.declared.task.Work.{Work}
use Rattle.task_text.specs.declared.task.Work.TheVariants.{Store, Get, Check, Drop}
use Rattle.task_text.specs.declared.task.Task.{Task}
use Rattle.ann_outside.specs.declared.file_desk.DeskError.TheVariants.{Missing}
use Rattle.ann_outside.specs.declared.file_desk.Call.{Call}
use Rattle.ann_outside.specs.declared.file_desk.Call.TheVariants.{Size, ReadAt, Create, Append, Cut, Rename, Remove}
use Rattle.task_model.specs.Askers.{Asking, Noting}
use Rattle.task_model.specs.declared.setup.Setup.{Setup}
use Rattle.task_model.specs.declared.turn.TaskTurn.{TaskTurn}

abbrev pub task_of : Work → List ℕ → List ℕ → Task
task_of work key file = record { work = work; key = key; file = file; name = []; onto = [] }

abbrev pub setup_of : ℕ → Setup
setup_of chunk = record { work = codes "w"; stamp = 1700000000000000; chunk = chunk }

abbrev pub first_turn : ℕ → TaskTurn
first_turn t = record { task = t; turn = 1 }

abbrev pub second_turn : ℕ → TaskTurn
second_turn t = record { task = t; turn = 2 }

abbrev pub asks : HostMessage → Verdict → Asking
asks q v = record { request = Some q; name = None; verdict = v }

abbrev pub notes : ℕ → ℕ → ℕ → Noting
notes chunk count behind = record { chunk = chunk; count = count; behind = behind }

-- the request follows this name
abbrev pub asks_named : List ℕ → HostMessage → Verdict → Asking
asks_named name q v = record { request = Some q; name = Some name; verdict = v }

-- ---- plain

-- a store of a file of two bytes, as the key of one that may have any length
abbrev pub store_a : Task
store_a = task_of Store (codes "WORM--a") (codes "f")

abbrev pub stores_a : Verdict → List Asking
stores_a v = asks (Transfer true (codes "WORM--a") (codes "f")) v ∷ []

abbrev pub fetched_1 : List ℕ
fetched_1 = codes "w/1700000000000000-1-1.fetch"

-- a get of a key of one that may have any length
abbrev pub get_a : Task
get_a = task_of Get (codes "WORM--a") (codes "o")

abbrev pub gets_a : Verdict → List Asking
gets_a v = asks (Transfer false (codes "WORM--a") fetched_1) v ∷ []

-- a store and a get of a key of two bytes
abbrev pub store_hi : Task
store_hi = task_of Store (codes "WORM-s2--a") (codes "f")

abbrev pub stores_hi : Verdict → List Asking
stores_hi v = asks (Transfer true (codes "WORM-s2--a") (codes "f")) v ∷ []

abbrev pub get_hi : Task
get_hi = task_of Get (codes "WORM-s2--a") (codes "o")

-- the length of a file
abbrev pub sized : List ℕ → ℕ → List Call
sized name n = Size name (Ok n) ∷ []

abbrev pub get_abc : Task
get_abc = task_of Get (codes "WORM-s3--a") (codes "o")

abbrev pub gets_abc : Verdict → List Asking
gets_abc v = asks (Transfer false (codes "WORM-s3--a") fetched_1) v ∷ []

-- a fetched file is moved to part, which is empty at first
abbrev pub moved : List ℕ → List ℕ → List ℕ → List Call
moved name part bytes = ReadAt name 0 (Ok bytes) ∷ Append part bytes (Ok tt) ∷ Remove name (Ok tt) ∷ []

abbrev pub got_abc : List ℕ → List Call
got_abc bytes = sized fetched_1 3 ++ Create (codes "o.part") (Ok tt) ∷ moved fetched_1 (codes "o.part") bytes

-- the last byte of part is cut away
abbrev pub cut_abc : List Call
cut_abc = Cut (codes "o.part") 2 (Ok tt) ∷ []

abbrev pub renamed : List Call
renamed = Rename (codes "o.part") (codes "o") (Ok tt) ∷ []

abbrev pub part_gone : List Call
part_gone = Remove (codes "o.part") (Ok tt) ∷ []

-- The task's file has the name of what it fetches. Part is renamed to it, and it isn't removed after that.
abbrev pub get_own : Task
get_own = task_of Get (codes "WORM-s3--a") fetched_1

abbrev pub own_part : List ℕ
own_part = codes "w/1700000000000000-1-1.fetch.part"

abbrev pub renamed_own : List Call
renamed_own = Rename own_part fetched_1 (Ok tt) ∷ []

abbrev pub got_own : List Call
got_own = sized fetched_1 3 ++ Create own_part (Ok tt) ∷ moved fetched_1 own_part (codes "abc") ++ renamed_own

abbrev pub got_away : List Call
got_away =
    sized fetched_1 3 ++ Create own_part (Ok tt) ∷ take 2 (moved fetched_1 own_part (codes "abc")) ++ renamed_own ++ drop 2 (moved fetched_1 own_part (codes "abc"))

-- ---- in chunks

abbrev pub ten : List ℕ
ten = codes "WORM-s10--ten"

abbrev pub ten_bytes : List ℕ
ten_bytes = codes "0123456789"

abbrev pub c1 : List ℕ
c1 = codes "WORM-s10-S4-C1--ten"

abbrev pub c2 : List ℕ
c2 = codes "WORM-s10-S4-C2--ten"

abbrev pub c3 : List ℕ
c3 = codes "WORM-s10-S4-C3--ten"

abbrev pub store_ten : Task
store_ten = task_of Store ten (codes "f")

abbrev pub chunk_2 : List ℕ
chunk_2 = codes "w/1700000000000000-1-2.chunk"

abbrev pub chunk_3 : List ℕ
chunk_3 = codes "w/1700000000000000-1-3.chunk"

abbrev pub chunk_4 : List ℕ
chunk_4 = codes "w/1700000000000000-1-4.chunk"

-- the first chunk isn't there, and all are stored
abbrev pub stores_ten : List Asking
stores_ten =
    asks (Checkpresent c1) (Absent 13) ∷ asks (Transfer true c1 chunk_2) (Done 16) ∷ asks (Transfer true c2 chunk_3) (Done 19)
    ∷ asks (Transfer true c3 chunk_4) (Done 22) ∷ []

-- a chunk's file is made of bytes of the task's file
abbrev pub cut_out : List ℕ → ℕ → List ℕ → List Call
cut_out name from bytes = Create name (Ok tt) ∷ ReadAt (codes "f") from (Ok bytes) ∷ Append name bytes (Ok tt) ∷ []

abbrev pub dropped_file : List ℕ → List Call
dropped_file name = Remove name (Ok tt) ∷ []

abbrev pub stored_ten : List Call
stored_ten =
    sized (codes "f") 10 ++ cut_out chunk_2 0 (codes "0123") ++ dropped_file chunk_2 ++ cut_out chunk_3 4 (codes "4567") ++ dropped_file chunk_3
    ++ cut_out chunk_4 8 (codes "89") ++ dropped_file chunk_4

-- the same, but the first chunk's file is cut after its filling
abbrev pub cut_behind_filling : List Call
cut_behind_filling =
    sized (codes "f") 10 ++ cut_out chunk_2 0 (codes "0123") ++ Cut chunk_2 2 (Ok tt) ∷ dropped_file chunk_2 ++ cut_out chunk_3 4 (codes "4567")
    ++ dropped_file chunk_3 ++ cut_out chunk_4 8 (codes "89") ++ dropped_file chunk_4

-- the same, but the first chunk's file gets two bytes, is made anew, and gets the other two
abbrev pub made_twice : List Call
made_twice =
    sized (codes "f") 10 ++ cut_out chunk_2 0 (codes "01") ++ cut_out chunk_2 2 (codes "23") ++ dropped_file chunk_2 ++ cut_out chunk_3 4 (codes "4567")
    ++ dropped_file chunk_3 ++ cut_out chunk_4 8 (codes "89") ++ dropped_file chunk_4

-- all chunks are there
abbrev pub finds_ten : List Asking
finds_ten = asks (Checkpresent c1) (Done 13) ∷ asks (Checkpresent c2) (Done 16) ∷ asks (Checkpresent c3) (Done 19) ∷ []

-- the first is there, and the child was gone at the second
abbrev pub lost_ten : List Asking
lost_ten = asks (Checkpresent c1) (Done 13) ∷ record { request = None; name = None; verdict = Ended Eof } ∷ []

-- the file shrank after the second chunk
abbrev pub stored_short : List Call
stored_short =
    sized (codes "f") 10 ++ cut_out chunk_2 0 (codes "0123") ++ dropped_file chunk_2 ++ cut_out chunk_3 4 (codes "45")
    ++ ReadAt (codes "f") 6 (Ok []) ∷ []

abbrev pub empty_key : List ℕ
empty_key = codes "SHA256E-s0--e3b0c44298fc1c149afbf4c8996fb92427ae41e4649b934ca495991b7852b855"

abbrev pub empty_c1 : List ℕ
empty_c1 = codes "SHA256E-s0-S4-C1--e3b0c44298fc1c149afbf4c8996fb92427ae41e4649b934ca495991b7852b855"

abbrev pub stores_empty : List Asking
stores_empty = asks (Checkpresent empty_c1) (Absent 13) ∷ asks (Transfer true empty_c1 chunk_2) (Done 16) ∷ []

abbrev pub stored_empty : List Call
stored_empty = sized (codes "f") 0 ++ Create chunk_2 (Ok tt) ∷ Remove chunk_2 (Ok tt) ∷ []

-- a front of it, where the chunk's file was never made
abbrev pub never_made : List Call
never_made = sized (codes "f") 0

-- what is left of a fetch is taken up
abbrev pub get_ten : Task
get_ten = task_of Get ten (codes "o")

abbrev pub gets_ten : List Asking
gets_ten = asks (Transfer false c3 fetched_1) (Done 13) ∷ []

abbrev pub resumed_ten : List Call
resumed_ten =
    sized (codes "o.part") 9 ++ Cut (codes "o.part") 8 (Ok tt) ∷ ReadAt (codes "o.part") 0 (Ok (codes "01234567")) ∷ sized fetched_1 2
    ++ moved fetched_1 (codes "o.part") (codes "89") ++ renamed

-- the same without a look at what part held
abbrev pub unread_ten : List Call
unread_ten =
    sized (codes "o.part") 9 ++ Cut (codes "o.part") 8 (Ok tt) ∷ sized fetched_1 2 ++ moved fetched_1 (codes "o.part") (codes "89") ++ renamed

-- the same without the cut, so that the last of the nine bytes stays in front of what is appended
abbrev pub grown_on_nine : List Call
grown_on_nine =
    sized (codes "o.part") 9 ++ ReadAt (codes "o.part") 0 (Ok (codes "01234567")) ∷ sized fetched_1 2
    ++ moved fetched_1 (codes "o.part") (codes "89") ++ renamed

-- and with a cut after what was appended
abbrev pub cut_behind_ten : List Call
cut_behind_ten =
    sized (codes "o.part") 9 ++ Cut (codes "o.part") 8 (Ok tt) ∷ ReadAt (codes "o.part") 0 (Ok (codes "01234567")) ∷ sized fetched_1 2
    ++ moved fetched_1 (codes "o.part") (codes "89") ++ Cut (codes "o.part") 9 (Ok tt) ∷ renamed

-- and with a look at its first half alone, which doesn't fit then
abbrev pub half_read_ten : List Call
half_read_ten =
    sized (codes "o.part") 9 ++ Cut (codes "o.part") 8 (Ok tt) ∷ ReadAt (codes "o.part") 0 (Ok (codes "0123")) ∷ sized fetched_1 2
    ++ moved fetched_1 (codes "o.part") (codes "89") ++ part_gone

abbrev pub get_none : Task
get_none = task_of Get (codes "WORM-s0--e") (codes "o")

-- the first fetched chunk is too short, and the next is asked all the same
abbrev pub goes_on_ten : List Asking
goes_on_ten = asks (Transfer false c1 fetched_1) (Done 13) ∷ asks (Transfer false c2 (codes "w/1700000000000000-1-2.fetch")) (Done 16) ∷ []

abbrev pub short_then_more : List Call
short_then_more =
    Size (codes "o.part") (Err Missing) ∷ Create (codes "o.part") (Ok tt) ∷ sized fetched_1 3 ++ sized (codes "w/1700000000000000-1-2.fetch") 4 ++ part_gone

abbrev pub drop_ten : Task
drop_ten = task_of Drop ten []

abbrev pub drops_ten : List Asking
drops_ten =
    asks (RemoveKey c1) (Done 13) ∷ asks (RemoveKey c2) (Done 16) ∷ asks (RemoveKey c3) (Done 19) ∷ asks (RemoveKey ten) (Done 22) ∷ []

abbrev pub check_ten : Task
check_ten = task_of Check ten []

abbrev pub checks_ten : List Asking
checks_ten = asks (Checkpresent c1) (Done 13) ∷ asks (Checkpresent c2) (Absent 16) ∷ asks (Checkpresent ten) (Absent 19) ∷ []

-- a key that names its content's digest, of which part holds two chunks of one byte
abbrev pub abc : List ℕ
abc = codes "MD5-s3--900150983cd24fb0d6963f7d28e17f72"

abbrev pub abc_2 : List ℕ
abc_2 = codes "MD5-s3-S2-C2--900150983cd24fb0d6963f7d28e17f72"

abbrev pub get_md5 : Task
get_md5 = task_of Get abc (codes "o")

abbrev pub gets_md5 : List Asking
gets_md5 = asks (Transfer false abc_2 fetched_1) (Done 13) ∷ []

abbrev pub resumed_foo : List Call
resumed_foo =
    sized (codes "o.part") 2 ++ Cut (codes "o.part") 2 (Ok tt) ∷ ReadAt (codes "o.part") 0 (Ok (codes "fo")) ∷ sized fetched_1 1
    ++ moved fetched_1 (codes "o.part") (codes "o") ++ part_gone

abbrev pub gets_whole_md5 : List Asking
gets_whole_md5 = asks (Transfer false abc fetched_1) (Done 13) ∷ []

abbrev pub fetched_foo : List Call
fetched_foo = sized fetched_1 3 ++ Create (codes "o.part") (Ok tt) ∷ moved fetched_1 (codes "o.part") (codes "foo") ++ part_gone

-- what one task stores another gets
abbrev pub fetched_2_1 : List ℕ
fetched_2_1 = codes "w/1700000000000000-2-1.fetch"

abbrev pub gets_hi : List Asking
gets_hi = asks (Transfer false (codes "WORM-s2--a") fetched_2_1) (Done 18) ∷ []

abbrev pub got_hi : List Call
got_hi = sized fetched_2_1 2 ++ Create (codes "o.part") (Ok tt) ∷ moved fetched_2_1 (codes "o.part") (codes "hi") ++ renamed

-- what the second turn of a task fetches has a name of its own
abbrev pub fetched_again : List ℕ
fetched_again = codes "w/1700000000000000-1-1-2.fetch"

abbrev pub gets_again : List Asking
gets_again = asks (Transfer false (codes "WORM-s3--a") fetched_again) (Done 27) ∷ []

abbrev pub got_again : List Call
got_again = sized fetched_again 3 ++ Create (codes "o.part") (Ok tt) ∷ moved fetched_again (codes "o.part") (codes "abc") ++ renamed
