-- What a store asks, reads, writes and notes, and how it is answered.
use Rattle.std.specs.Prelude.{ℕ, ◌≡◌, ◌≢◌, ◌+◌, ◌-◌, ◌==◌, ◌&&◌, ◌||◌, not, nat_le, nat_lt, Bool, true, false, if◌then◌else◌, List, [], ◌∷◌, length, take, drop, map, Option, Some, None, MatchOption, bytes_eq, is_some, unwrap_or, option_map, count_by}
use Rattle.std.specs.Bool.{MatchBool}
use Rattle.std.specs.List.{list_all, list_any}
use Rattle.ann_key.specs.Keys.{Parts}
use Rattle.annex_model.specs.Messages.{HostMessage, Transfer}
use Rattle.task_text.specs.Layouts.Layouts.{Part}
use Rattle.ann_outside.specs.declared.file_desk.Call.{Call}
use Rattle.ann_outside.specs.declared.file_desk.Call.TheVariants.{Size}
use Rattle.task_model.specs.Askers.{Asking, Noting}
use Rattle.journal_model.specs.declared.answer.Answer.{Answer}
use Rattle.journal_model.specs.declared.answer.Answer.TheVariants.{Stored, Size as SizeAnswer}
use Rattle.task_model.specs.declared.setup.Setup.{Setup}
use Rattle.task_model.specs.declared.turn.TaskTurn.{TaskTurn}
use Rattle.task_model.specs.Stops.{is_done, is_question, all_but_last, last_failed}
use Rattle.task_model.specs.Names.{chunk_file}
use Rattle.task_model.specs.Requests.{AskInOrder}
use Rattle.task_model.specs.Layouts.{keys_of_layout, parts_of_layout}
use Rattle.task_model.specs.Reads.{lengths_found, reads_between, bytes_of, is_run, is_at_end, appended, holds, is_removed}
use Rattle.task_model.specs.Checks.{present_request}

abbrev pub is_size : Option ℕ → ℕ → Bool
is_size None n = true
is_size (Some size) n = n == size

abbrev pub is_size_call : Call → Bool
is_size_call (Size name answer) = true
is_size_call _ = false

-- Before anything else the file's length is asked, once. The store goes on exactly where the key has no other size; else its answer
-- is that length.
abbrev pub begins_with_size : List Call → Bool
begins_with_size [] = true
begins_with_size (call ∷ more) = is_size_call call && not (list_any is_size_call more)

-- the file's length, once it is known, and whether it is the key's size
abbrev pub fits_length : Parts → List ℕ → Bool
fits_length key [] = false
fits_length key (n ∷ more) = is_size key.size n

-- ---- the plain layout

abbrev pub store_request : List ℕ → ℕ → List ℕ → HostMessage
store_request file n key = Transfer true key file

-- The file's length is asked first. The remote is asked to store the file as the key, where the length is right.
pub record PlainStoreAsks (key : Parts) (file : List ℕ) (asked : List Asking) (calls : List Call) : Type 0 where
  pub one_call : (begins_with_size calls && nat_le (length calls) 1) ≡ true
  pub in_order : AskInOrder (store_request file) 1 (if fits_length key (lengths_found file calls) then key ∷ [] else []) asked

-- Size with the file's length exactly where the key has another; else Stored where it was done, and Failed where it failed.
pub record PlainStoreAnswers (key : Parts) (file : List ℕ) (asked : List Asking) (calls : List Call) (answer : Answer) : Type 0 where
  pub answered : MatchBool (fits_length key (lengths_found file calls))
      (MatchBool (nat_lt 0 (count_by is_done asked)) (answer ≡ Stored) (last_failed asked ≡ Some answer))
      (map SizeAnswer (lengths_found file calls) ≡ answer ∷ [])

-- ---- a chunk layout

abbrev pub chunk_request : Setup → TaskTurn → ℕ → List ℕ → HostMessage
chunk_request setup t n key = Transfer true key (chunk_file setup t n)

-- how many questions were asked, and how many of them found their chunk there
abbrev pub questions : List Asking → ℕ
questions asked = count_by is_question asked

abbrev pub found : List Asking → ℕ
found asked = count_by (λ a. is_question a && is_done a) asked

-- what follows the questions
abbrev pub transfers : List Asking → List Asking
transfers asked = drop (questions asked) asked

-- the chunks from the first that wasn't found
abbrev pub missing_parts : Parts → ℕ → List Asking → List Part
missing_parts key chunk asked = drop (found asked) (parts_of_layout key chunk)

-- these bytes are the first of those
abbrev pub is_front : List ℕ → List ℕ → Bool
is_front front whole = bytes_eq front (take (length front) whole)

-- The file of request n got bytes that were read of the task's file in the part's range, from its begin on.
abbrev pub is_copied : Setup → TaskTurn → List ℕ → List Call → ℕ → Part → Bool
is_copied setup t file calls n part =
    is_run part.from (reads_between file part.from part.to calls)
    && is_front (appended (chunk_file setup t n) calls) (bytes_of (reads_between file part.from part.to calls))

-- how many it got, and how many the part has
abbrev pub copied_length : Setup → TaskTurn → List Call → ℕ → ℕ
copied_length setup t calls n = length (appended (chunk_file setup t n) calls)

abbrev pub part_length : Part → ℕ
part_length part = part.to - part.from

-- the file of request n was made, and holds what it got
abbrev pub is_filled : Setup → TaskTurn → List Call → ℕ → Bool
is_filled setup t calls n = unwrap_or (option_map (bytes_eq (appended (chunk_file setup t n) calls)) (holds (chunk_file setup t n) None calls)) false

-- each transfer, the first of which is request n, is of a file that holds all bytes of its part and no others
abbrev pub are_whole : Setup → TaskTurn → List ℕ → List Call → ℕ → List Part → List Asking → Bool
are_whole setup t file calls n parts [] = true
are_whole setup t file calls n [] (a ∷ more) = false
are_whole setup t file calls n (part ∷ parts) (a ∷ more) =
    is_copied setup t file calls n part && copied_length setup t calls n == part_length part && is_filled setup t calls n && are_whole setup t file calls (n + 1) parts more

-- the files of these transfers, the first of which is request n, are removed
abbrev pub are_removed : Setup → TaskTurn → List Call → ℕ → List Asking → Bool
are_removed setup t calls n [] = true
are_removed setup t calls n (a ∷ more) = is_removed (chunk_file setup t n) calls && are_removed setup t calls (n + 1) more

-- the parts whose turn hasn't come
abbrev pub parts_left : Parts → ℕ → List Asking → List Part
parts_left key chunk asked = drop (length (transfers asked)) (missing_parts key chunk asked)

-- of a part that is to be stored next, the file holds bytes of its begin alone
abbrev pub is_next_copied : Setup → TaskTurn → List ℕ → List Call → ℕ → List Part → Bool
is_next_copied setup t file calls n [] = true
is_next_copied setup t file calls n (part ∷ more) = is_copied setup t file calls n part

-- The remote is asked which chunks it has, in their order, until it hasn't one. From that one on it is asked to store them, each from a
-- file of its own. That file holds the bytes which were read of the task's file in the chunk's range, and is removed after the verdict.
-- That the chunks are there is noted once, after the last verdict.
pub record ChunkStoreAsks (setup : Setup) (t : TaskTurn) (key : Parts) (file : List ℕ) (asked : List Asking) (calls : List Call) (noted : List Noting) : Type 0 where
  pub size_first : begins_with_size calls ≡ true
  pub fits : asked ≢ [] → fits_length key (lengths_found file (take 1 calls)) ≡ true
  pub questions_in_order : AskInOrder present_request 1 (keys_of_layout key setup.chunk) (take (questions asked) asked)
  pub each_found : list_all is_done (all_but_last (take (questions asked) asked)) ≡ true
  pub only_missing : (nat_lt (found asked) (questions asked) || list_all (λ (a : Asking). not (is_some a.request)) (transfers asked)) ≡ true
  pub transfers_in_order : AskInOrder (chunk_request setup t) (questions asked + 1) (map (λ (p : Part). p.key) (missing_parts key setup.chunk asked)) (transfers asked)
  pub each_stored : list_all is_done (all_but_last (transfers asked)) ≡ true
  -- where no chunk was found missing, what follows the questions is one that found its child gone
  pub each_whole : (not (nat_lt (found asked) (questions asked)) || are_whole setup t file calls (questions asked + 1) (missing_parts key setup.chunk asked) (transfers asked)) ≡ true
  pub next_copied : is_next_copied setup t file calls (length asked + 1) (parts_left key setup.chunk asked) ≡ true
  pub each_removed : are_removed setup t calls (questions asked + 1) (all_but_last (transfers asked)) ≡ true
  pub noted_once : noted ≡ take (length noted) (record { chunk = setup.chunk; count = length (parts_of_layout key setup.chunk); behind = length asked } ∷ [])
  pub noted_last : noted ≢ [] → found asked + count_by is_done (transfers asked) ≡ length (parts_of_layout key setup.chunk)

-- how many chunks are there
abbrev pub stored : List Asking → ℕ
stored asked = found asked + count_by is_done (transfers asked)

-- of this part the file of request n got all that was to be had, which is less than the part: the last read came to the file's end
abbrev pub is_cut_short : Setup → TaskTurn → List ℕ → List Call → ℕ → Part → Bool
is_cut_short setup t file calls n part =
    is_at_end (reads_between file part.from part.to calls)
    && bytes_eq (appended (chunk_file setup t n) calls) (bytes_of (reads_between file part.from part.to calls))
    && nat_lt (copied_length setup t calls n) (part_length part)

-- a chunk that isn't there was to be stored, and was cut short
abbrev pub IsShort : Setup → TaskTurn → List ℕ → List Asking → List Call → List Part → Answer → Type 0
IsShort setup t file asked calls [] answer = ⊥
IsShort setup t file asked calls (part ∷ more) answer =
    (nat_lt (found asked) (questions asked) ≡ true) × (is_cut_short setup t file calls (length asked + 1) part ≡ true)
    × (answer ≡ SizeAnswer (copied_length setup t calls (length asked + 1)))

-- the answer where not all are there: the last transfer failed, or fewer bytes than the next part's were to be had
abbrev pub IsStoredShort : Setup → TaskTurn → List ℕ → List Asking → List Call → List Part → Answer → Type 0
IsStoredShort setup t file asked calls parts answer = MatchOption (last_failed asked) (IsShort setup t file asked calls parts answer) (λ failed. answer ≡ failed)

-- Size with the file's length exactly where the key has another. Else Stored exactly where all chunks are there, which is noted then.
pub record ChunkStoreAnswers (setup : Setup) (t : TaskTurn) (key : Parts) (file : List ℕ) (asked : List Asking) (calls : List Call) (noted : List Noting) (answer : Answer) : Type 0 where
  pub last_removed : are_removed setup t calls (questions asked + 1) (transfers asked) ≡ true
  pub answered : MatchBool (fits_length key (lengths_found file (take 1 calls)))
      (MatchBool (stored asked == length (parts_of_layout key setup.chunk))
      ((answer ≡ Stored) × (length noted ≡ 1))
      (IsStoredShort setup t file asked calls (parts_left key setup.chunk asked) answer))
      (map SizeAnswer (lengths_found file (take 1 calls)) ≡ answer ∷ [])
