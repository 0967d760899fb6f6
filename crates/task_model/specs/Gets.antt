-- What a get asks, reads and fetches, and how it is answered.
use Rattle.std.specs.Prelude.{ℕ, zero, suc, min, ◌≡◌, ◌+◌, ◌-◌, ◌==◌, ◌&&◌, ◌||◌, not, nat_le, Bool, true, false, if◌then◌else◌, List, [], ◌∷◌, ◌++◌, length, take, drop, map, filter, Option, Some, None, bytes_eq, unwrap_or, count_by}
use Rattle.std.specs.Bool.{MatchBool}
use Rattle.std.specs.List.{list_all, filter_map, after_last}
use Rattle.ann_key.specs.Keys.{Parts}
use Rattle.ann_digest.specs.Fits.{IsSaidOf}
use Rattle.ann_digest.specs.declared.fit.Fit.{Fit}
use Rattle.ann_digest.specs.declared.fit.Fit.TheVariants.{Fits, Size as SizeFit, Hash as HashFit}
use Rattle.journal_model.specs.declared.verdict.Verdict.{Verdict}
use Rattle.journal_model.specs.declared.verdict.Verdict.TheVariants.{Failed as FailedAt}
use Rattle.annex_model.specs.Messages.{HostMessage, Transfer}
use Rattle.task_text.specs.Layouts.Layouts.{Part, held_of}
use Rattle.ann_outside.specs.declared.file_desk.Call.{Call}
use Rattle.ann_outside.specs.declared.file_desk.Call.TheVariants.{Size, Create}
use Rattle.task_model.specs.Askers.{Asking}
use Rattle.journal_model.specs.declared.answer.Answer.{Answer}
use Rattle.journal_model.specs.declared.answer.Answer.TheVariants.{Got, Size as SizeAnswer, Hash as HashAnswer}
use Rattle.task_model.specs.declared.setup.Setup.{Setup}
use Rattle.task_model.specs.declared.turn.TaskTurn.{TaskTurn}
use Rattle.task_model.specs.Stops.{is_done, all_but_last, last_failed}
use Rattle.task_model.specs.Names.{fetch_file, part_of}
use Rattle.task_model.specs.Requests.{rounds, RoundsAsk}
use Rattle.task_model.specs.Layouts.{parts_of_layout}
use Rattle.task_model.specs.Reads.{length_or_none, lengths_found, reads_of, bytes_of, is_run, is_reading, appended, holds, are_found_so, is_removed, is_renaming, is_last}

abbrev pub fetch_request : Setup → TaskTurn → ℕ → List ℕ → HostMessage
fetch_request setup t n key = Transfer false key (fetch_file setup t n)

-- the lengths of part at the begin of the chunk layouts, 0 where it was missing
abbrev pub lengths_at_begin : List ℕ → List Call → List ℕ
lengths_at_begin file calls = filter_map (length_or_none (part_of file)) calls

-- the parts of a layout that a file of a length doesn't hold whole; the plain layout isn't resumed
abbrev pub parts_wanted : Parts → ℕ → ℕ → List Part
parts_wanted key chunk held_length =
    if chunk == 0 then parts_of_layout key 0
    else drop (held_of (unwrap_or key.size 0) chunk held_length) (parts_of_layout key chunk)

-- Those of each layout. A chunk layout asks for nothing before part's length is known.
abbrev pub wanted : Parts → List ℕ → List ℕ → List (List Part)
wanted key [] lengths = []
wanted key (chunk ∷ sizes) [] = if chunk == 0 then parts_wanted key 0 0 ∷ wanted key sizes [] else []
wanted key (chunk ∷ sizes) (n ∷ later) =
    if chunk == 0 then parts_wanted key 0 0 ∷ wanted key sizes (n ∷ later)
    else parts_wanted key chunk n ∷ wanted key sizes later

abbrev pub is_failed : Asking → Bool
is_failed a = of_verdict a.verdict
  where
    of_verdict : Verdict → Bool
    of_verdict (FailedAt at) = true
    of_verdict _ = false

-- ---- the layout that is tried last

-- how many layouts failed, and what was asked since
abbrev pub failures : List Asking → ℕ
failures asked = count_by is_failed asked

abbrev pub asked_last : List Asking → List Asking
asked_last asked = after_last is_failed asked

-- the number of its first request
abbrev pub first_asked : List Asking → ℕ
first_asked asked = length asked - length (asked_last asked) + 1

-- the parts that it asks for, and its chunk size
abbrev pub item : {X : Type 0} → ℕ → List X → Option X
item n [] = None
item zero (x ∷ xs) = Some x
item (suc n) (x ∷ xs) = item n xs

abbrev pub parts_last : Parts → List ℕ → List ℕ → List Asking → List Part
parts_last key sizes lengths asked = unwrap_or (item (failures asked) (wanted key sizes lengths)) []

abbrev pub is_plain_last : List ℕ → List Asking → Bool
is_plain_last sizes asked = unwrap_or (item (failures asked) sizes) 0 == 0

-- the end of the chunks that part held at its begin
abbrev pub end_held : Parts → List ℕ → List ℕ → List Asking → ℕ
end_held key sizes lengths asked = begin (parts_last key sizes lengths asked)
  where
    begin : List Part → ℕ
    begin [] = unwrap_or key.size 0
    begin (part ∷ more) = part.from

-- the calls since its begin, which looks part up or makes it
abbrev pub begins : List ℕ → Call → Bool
begins part (Size name answer) = bytes_eq name part
begins part (Create name answer) = bytes_eq name part
begins part _ = false

abbrev pub since_begin : List ℕ → List Call → List Call
since_begin file calls = after_last (begins (part_of file)) calls

-- what they read of part, in which the held chunks stood
abbrev pub held_reads : List ℕ → List Call → List (ℕ × List ℕ)
held_reads file calls = reads_of (part_of file) (since_begin file calls)

-- the bytes read of the files that these requests fetched, the first of which is request n
abbrev pub bytes_fetched : Setup → TaskTurn → List Call → ℕ → List Asking → List ℕ
bytes_fetched setup t calls n [] = []
bytes_fetched setup t calls n (a ∷ more) = bytes_of (reads_of (fetch_file setup t n) calls) ++ bytes_fetched setup t calls (n + 1) more

-- The bytes that are checked: in a chunk layout all that part held, and what was fetched; in the plain layout what was fetched.
abbrev pub checked : Setup → TaskTurn → List ℕ → List ℕ → List Asking → List Call → List ℕ
checked setup t file sizes asked calls =
    (if is_plain_last sizes asked then [] else bytes_of (held_reads file calls)) ++ bytes_fetched setup t calls (first_asked asked) (asked_last asked)

-- a fetched file was read from its begin to its end
abbrev pub are_read : Setup → TaskTurn → List Call → ℕ → List Asking → Bool
are_read setup t calls n [] = true
are_read setup t calls n (a ∷ more) = is_run 0 (reads_of (fetch_file setup t n) calls) && are_read setup t calls (n + 1) more

-- the lengths of the fetched files that aren't the lengths of their parts; content of a key without a size may have any
abbrev pub is_wrong : Option ℕ → Part → ℕ → Bool
is_wrong None part n = false
is_wrong (Some size) part n = not (n == part.to - part.from)

abbrev pub wrong_lengths : Setup → TaskTurn → Option ℕ → List Call → ℕ → List Part → List ℕ
wrong_lengths setup t size calls n [] = []
wrong_lengths setup t size calls n (part ∷ more) =
    filter (is_wrong size part) (lengths_found (fetch_file setup t n) calls) ++ wrong_lengths setup t size calls (n + 1) more

-- what an answer says of content
abbrev pub fit_in : Answer → Option Fit
fit_in Got = Some Fits
fit_in (SizeAnswer n) = Some (SizeFit n)
fit_in (HashAnswer digest) = Some (HashFit digest)
fit_in _ = None

-- Layout after layout, the remote is asked to send what part doesn't hold whole, each part into a file of its own, until one failed.
-- Each fetched file but the last has its part's length. A chunk layout begins with the length of part, and reads of part what it holds.
pub record GetAsks (setup : Setup) (t : TaskTurn) (key : Parts) (sizes : List ℕ) (file : List ℕ) (asked : List Asking) (calls : List Call) : Type 0 where
  pub in_order : RoundsAsk (fetch_request setup t) 1 (map (λ (parts : List Part). map (λ (p : Part). p.key) parts) (wanted key sizes (lengths_at_begin file calls))) (rounds asked)
  pub each_failed : list_all is_failed (filter (λ (a : Asking). not (is_done a)) (all_but_last asked)) ≡ true
  pub each_begun : nat_le (length (lengths_at_begin file calls)) (min (failures asked + 1) (length sizes - 1)) ≡ true
  pub each_right : wrong_lengths setup t key.size calls (first_asked asked) (take (length (asked_last asked) - 1) (parts_last key sizes (lengths_at_begin file calls) asked)) ≡ []
  pub held_read : is_run 0 (held_reads file calls) ≡ true
  pub fetched_read : are_read setup t calls (first_asked asked) (asked_last asked) ≡ true

-- what is to be said of the checked bytes
abbrev pub IsSaid : Parts → List ℕ → Option Fit → Type 0
IsSaid key bytes None = ⊥
IsSaid key bytes (Some fit) = IsSaidOf key bytes fit

-- a length was found, and the reads go from the begin to it
abbrev pub is_read_whole : List (ℕ × List ℕ) → List ℕ → Bool
is_read_whole reads [] = false
is_read_whole reads (k ∷ lengths) = list_all (λ n. is_reading 0 n reads) (k ∷ lengths)

-- each fetched file, the first of which is that of request n, was looked at, and read from its begin to the length that was found
abbrev pub are_read_whole : Setup → TaskTurn → List Call → ℕ → List Asking → Bool
are_read_whole setup t calls n [] = true
are_read_whole setup t calls n (a ∷ more) =
    is_read_whole (reads_of (fetch_file setup t n) calls) (lengths_found (fetch_file setup t n) calls) && are_read_whole setup t calls (n + 1) more

-- All that part held and all that was fetched was read, and this is said of it.
pub record IsChecked (setup : Setup) (t : TaskTurn) (key : Parts) (sizes : List ℕ) (file : List ℕ) (asked : List Asking) (calls : List Call) (answer : Answer) : Type 0 where
  pub said : IsSaid key (checked setup t file sizes asked calls) (fit_in answer)
  pub held_whole : (is_plain_last sizes asked || is_reading 0 (end_held key sizes (lengths_at_begin file calls) asked) (held_reads file calls)) ≡ true
  pub fetched_whole : are_read_whole setup t calls (first_asked asked) (asked_last asked) ≡ true

abbrev pub is_got : Answer → Bool
is_got Got = true
is_got _ = false

abbrev pub DecidesBy : List ℕ → Type 0 → Type 0 → Answer → Type 0
DecidesBy [] AllDone Said answer = AllDone × Said
DecidesBy (n ∷ more) AllDone Said answer = answer ≡ SizeAnswer n

-- The fetched bytes were appended to part. Where all that was found of part is so, whatever it held before, it holds the checked bytes
-- and no others now. The last call of all renamed it to the file, which so holds them.
pub record IsFetchKept (setup : Setup) (t : TaskTurn) (sizes : List ℕ) (file : List ℕ) (asked : List Asking) (calls : List Call) : Type 0 where
  pub moved : appended (part_of file) (since_begin file calls) ≡ bytes_fetched setup t calls (first_asked asked) (asked_last asked)
  pub held : (before : List ℕ) → are_found_so (part_of file) (Some before) calls ≡ true → holds (part_of file) (Some before) calls ≡ Some (checked setup t file sizes asked calls)
  pub renamed : is_last (is_renaming (part_of file) file) calls ≡ true

-- Where a file that was fetched hasn't its part's length, the answer is Size with that length. Else all that was wanted is done, and the
-- answer is what is to be said of the checked bytes. Got keeps them as the task's file, and otherwise part is removed.
pub record Decides (setup : Setup) (t : TaskTurn) (key : Parts) (sizes : List ℕ) (file : List ℕ) (asked : List Asking) (calls : List Call) (answer : Answer) : Type 0 where
  pub begun : (is_plain_last sizes asked || length (lengths_at_begin file calls) == failures asked + 1) ≡ true
  pub by_length : DecidesBy (wrong_lengths setup t key.size calls (first_asked asked) (parts_last key sizes (lengths_at_begin file calls) asked))
      (count_by is_done (asked_last asked) ≡ length (parts_last key sizes (lengths_at_begin file calls) asked))
      (IsChecked setup t key sizes file asked calls answer) answer
  pub part : MatchBool (is_got answer) (IsFetchKept setup t sizes file asked calls) (is_removed (part_of file) calls ≡ true)

-- Failed with the last verdict exactly where every layout failed.
pub record GetAnswers (setup : Setup) (t : TaskTurn) (key : Parts) (sizes : List ℕ) (file : List ℕ) (asked : List Asking) (calls : List Call) (answer : Answer) : Type 0 where
  pub answered : MatchBool (failures asked == length sizes) (last_failed asked ≡ Some answer) (Decides setup t key sizes file asked calls answer)
