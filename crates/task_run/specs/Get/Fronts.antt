-- How far a get has come, layout by layout.
use Rattle.std.specs.Prelude.{ℕ, ◌≡◌, ◌≤◌, ◌<◌, ◌^◌, ◌+◌, ◌-◌, ◌||◌, not, Bool, true, List, [], ◌∷◌, ◌++◌, length, map, Some, is_none, is_some, bytes_eq, unwrap_or}
use Rattle.std.specs.List.{list_all}
use Rattle.ann_key.specs.Keys.{Parts}
use Rattle.task_text.specs.Layouts.Layouts.{Part}
use Rattle.task_text.specs.declared.task.Work.TheVariants as W
use Rattle.ann_outside.specs.declared.file_desk.Call.{Call}
use Rattle.ann_outside.specs.declared.file_desk.Call.TheVariants.{Size, ReadAt}
use Rattle.task_model.specs.Askers.{Asking}
use Rattle.journal_model.specs.declared.answer.Answer.{Answer}
use Rattle.task_model.specs.declared.setup.Setup.{Setup}
use Rattle.task_model.specs.declared.turn.TaskTurn.{TaskTurn}
use Rattle.task_model.specs.Stops.{is_done, asking_stop, call_stop, is_stop_last, stops_of, AnsweredBy}
use Rattle.task_model.specs.Names.{fetch_file, fetch_files, part_of}
use Rattle.task_model.specs.Requests.{rounds, AskInOrder, RoundsAsk}
use Rattle.task_model.specs.Reads.{is_known, is_run, is_reading, bytes_of, appended, holds, are_found_so}
use Rattle.task_model.specs.Discipline.{name_only, changes_as_result, size_of_only, are_found}
use Rattle.task_model.specs.Gets.{fetch_request, lengths_at_begin, wanted, is_failed, failures, asked_last, since_begin, held_reads, bytes_fetched, are_read, are_read_whole, wrong_lengths, GetAsks, GetAnswers}
use Rattle.task_model.specs.TaskCalls.{GetCalls, fetched_files}

-- what a get works on: the chunk sizes of its layouts stand in their order, the plain one's 0 last
pub record Place : Type 0 where
  pub setup : Setup
  pub turn : TaskTurn
  pub key : Parts
  pub file : List ℕ
  pub sizes : List ℕ

abbrev pub fetch_at : Place → ℕ → List ℕ
fetch_at p n = fetch_file p.setup p.turn n

abbrev pub keys_in : List Part → List Parts
keys_in parts = map (λ (p : Part). p.key) parts

-- the request leaves the get going
abbrev pub is_calm : Asking → Bool
is_calm a = is_done a || is_failed a

-- the call asks no length of the file and reads none of it
abbrev pub is_apart : List ℕ → Call → Bool
is_apart name (Size other answer) = not (bytes_eq other name)
is_apart name (ReadAt other from answer) = not (bytes_eq other name)
is_apart name call = true

-- The layouts that were tried failed, each in a round of its own.
pub record Tried (p : Place) (past : List Asking) (done : List (List Part)) (tried rest : List ℕ) : Type 0 where
  pub sizes_are : p.sizes ≡ tried ++ rest
  pub each_done : length tried ≡ length done
  pub failed : failures past ≡ length done
  pub calm : list_all is_calm past ≡ true
  pub in_order : (more : List (List Parts)) (next : List Asking) → RoundsAsk (fetch_request p.setup p.turn) (length past + 1) more (rounds next)
      → RoundsAsk (fetch_request p.setup p.turn) 1 (map keys_in done ++ more) (rounds (past ++ next))
  pub last : (next : List Asking) → list_all (λ a. not (is_failed a)) next ≡ true → asked_last (past ++ next) ≡ next

-- The calls name and change what they may, in the order that they may; and none of a file that is fetched later. What part holds is known
-- after them where it was before.
pub record Sound (p : Place) (asked : List Asking) (calls : List Call) : Type 0 where
  pub names : name_only (p.file ∷ part_of p.file ∷ fetch_files p.setup p.turn (length asked)) calls ≡ true
  pub changes : list_all (changes_as_result p.file (fetch_files p.setup p.turn (length asked))) calls ≡ true
  pub lengths : size_of_only (part_of p.file ∷ fetched_files p.setup p.turn 1 asked) calls ≡ true
  pub found : are_found (part_of p.file) [] calls ≡ true
  pub held : is_run 0 (held_reads p.file calls) ≡ true
  pub told : (before : List ℕ) → is_some (holds (part_of p.file) (Some before) calls) ≡ true
  pub few : length asked < 2 ^ 64
  pub fresh : (n : ℕ) → length asked < n → n < 2 ^ 64 → list_all (is_apart (fetch_at p n)) calls ≡ true

-- no call ends the task
abbrev pub are_free : Place → List Call → Bool
are_free p calls = list_all (λ call. is_none (call_stop (part_of p.file) call)) calls

-- Between two layouts.
pub record Between (p : Place) (past : List Asking) (done : List (List Part)) (tried rest : List ℕ) (calls : List Call) : Type 0 where
  pub tries : Tried p past done tried rest
  pub wants : (later : List ℕ) → wanted p.key p.sizes (lengths_at_begin p.file calls ++ later) ≡ done ++ wanted p.key rest later
  pub begun : length (lengths_at_begin p.file calls) ≡ length done
  pub sound : Sound p past calls
  pub free : are_free p calls ≡ true

-- a layout that is tried after others, by its chunk size
pub record Turn : Type 0 where
  pub place : Place
  pub past : List Asking
  pub done : List (List Part)
  pub tried : List ℕ
  pub chunk : ℕ
  pub rest : List ℕ

-- the number of its first request
abbrev pub first_in : Turn → ℕ
first_in u = length u.past + 1

-- Within a layout: some of its parts were asked for, and are there.
pub record Within (u : Turn) (cur : List Asking) (got left : List Part) (calls : List Call) : Type 0 where
  pub tries : Tried u.place u.past u.done u.tried (u.chunk ∷ u.rest)
  pub all_done : list_all is_done cur ≡ true
  pub in_order : (more : List Parts) (next : List Asking) → AskInOrder (fetch_request u.place.setup u.place.turn) (first_in u + length cur) more next
      → AskInOrder (fetch_request u.place.setup u.place.turn) (first_in u) (keys_in got ++ more) (cur ++ next)
  pub aligned : length got ≡ length cur
  pub wants : (later : List ℕ) → wanted u.place.key u.place.sizes (lengths_at_begin u.place.file calls ++ later) ≡ u.done ++ (got ++ left) ∷ wanted u.place.key u.rest later
  pub begun : length (lengths_at_begin u.place.file calls) ≤ length u.done + 1
  pub begun_chunked : length (lengths_at_begin u.place.file calls) ≤ length u.place.sizes - 1
  pub right : wrong_lengths u.place.setup u.place.turn u.place.key.size calls (first_in u) got ≡ []
  pub read : are_read u.place.setup u.place.turn calls (first_in u) cur ≡ true
  pub sound : Sound u.place (u.past ++ cur) calls
  pub free : are_free u.place calls ≡ true

-- the first byte of the first part, or the content's end where there is none
abbrev pub begin_of : Parts → List Part → ℕ
begin_of key [] = unwrap_or key.size 0
begin_of key (part ∷ more) = part.from

-- Part holds what it held at the layout's begin, which was read, and what was fetched since: where all that was found of it is so, whatever
-- it held before the task, these bytes and no others.
pub record Kept (u : Turn) (cur : List Asking) (got left : List Part) (calls : List Call) (held : List (ℕ × List ℕ)) (bytes : List ℕ) : Type 0 where
  pub begun : length (lengths_at_begin u.place.file calls) ≡ length u.done + 1
  pub known : is_known (part_of u.place.file) calls ≡ true
  pub held_are : held_reads u.place.file calls ≡ held
  pub held_whole : is_reading 0 (begin_of u.place.key (got ++ left)) held ≡ true
  pub bytes_are : bytes_fetched u.place.setup u.place.turn calls (first_in u) cur ≡ bytes
  pub moved : appended (part_of u.place.file) (since_begin u.place.file calls) ≡ bytes
  pub content : (before : List ℕ) → are_found_so (part_of u.place.file) (Some before) calls ≡ true → holds (part_of u.place.file) (Some before) calls ≡ Some (bytes_of held ++ bytes)
  pub whole : are_read_whole u.place.setup u.place.turn calls (first_in u) cur ≡ true

-- The get has ended with this answer.
pub record Ended (p : Place) (asked : List Asking) (calls : List Call) (answer : Answer) : Type 0 where
  pub asked_till_stop : is_stop_last (asking_stop W.Get) asked ≡ true
  pub calls_till_stop : is_stop_last (call_stop (part_of p.file)) calls ≡ true
  pub found : are_found (part_of p.file) [] calls ≡ true
  pub get_calls : GetCalls p.setup p.turn p.file asked calls
  pub get_asks : GetAsks p.setup p.turn p.key p.sizes p.file asked calls
  pub answered : AnsweredBy (stops_of W.Get (part_of p.file) asked calls) answer (GetAnswers p.setup p.turn p.key p.sizes p.file asked calls answer)
