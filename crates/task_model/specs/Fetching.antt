-- What a get does at its desk once its request is done, as the calls' answers.
use Rattle.std.specs.Prelude.{ℕ, ◌≡◌, ◌≤◌, ◌-◌, List, [], ◌∷◌, ◌++◌, length, Option, Result, Ok, Err, true, false}
use Rattle.std.specs.List.{concat}
use Rattle.ann_key.specs.Keys.{Parts}
use Rattle.ann_key.specs.declared.bytes.NoMemory.{NoMemory}
use Rattle.ann_digest.specs.Fits.{IsSaidOf}
use Rattle.ann_digest.specs.declared.fit.Fit.{Fit}
use Rattle.ann_digest.specs.declared.fit.Fit.TheVariants as F
use Rattle.ann_outside.specs.Calls.{Log, Gained}
use Rattle.ann_outside.specs.declared.file_desk.DeskError.{DeskError}
use Rattle.ann_outside.specs.declared.file_desk.DeskError.TheVariants as E
use Rattle.ann_outside.specs.declared.file_desk.Call.{Call}
use Rattle.ann_outside.specs.declared.file_desk.Call.TheVariants.{Size, Create, Rename, Remove}
use Rattle.task_model.specs.Copying.Copies.{copy_calls, EndsWhole, EndsRefused}
use Rattle.journal_model.specs.declared.answer.Answer.{Answer}
use Rattle.journal_model.specs.declared.answer.Answer.TheVariants.{Got, Size as SizeAnswer, Hash as HashAnswer, FileFault}
use Rattle.task_model.specs.Stores.{is_size}
use Rattle.task_model.specs.Ran.{refusal}

-- the names that it works with: the task's file, part, and the fetched file
pub record Files3 : Type 0 where
  pub file : List ℕ
  pub part : List ℕ
  pub fetch : List ℕ

-- the answer of a call that makes nothing
abbrev pub Outcome : Type 0
Outcome = Result (Unit {0}) DeskError

-- a call for which no memory was found isn't in the log
abbrev pub if_made : Outcome → Call → List Call
if_made (Ok done) call = call ∷ []
if_made (Err E.Failed) call = call ∷ []
if_made (Err E.Missing) call = call ∷ []
if_made (Err E.NoMemory) call = []

-- part is removed, and the answer given; where it was missing all the same
abbrev pub discarded : Answer → Outcome → Result Answer NoMemory
discarded answer (Ok done) = Ok answer
discarded answer (Err E.Missing) = Ok answer
discarded answer (Err E.Failed) = Ok FileFault
discarded answer (Err E.NoMemory) = Err record {}

-- part is renamed to the file
abbrev pub kept : Outcome → Result Answer NoMemory
kept (Ok done) = Ok Got
kept (Err e) = refusal e

-- by what is to be said of the checked bytes
abbrev pub settling : Files3 → Fit → Outcome → Call
settling names F.Fits r = Rename names.part names.file r
settling names (F.Size n) r = Remove names.part r
settling names (F.Hash digest) r = Remove names.part r

abbrev pub settled : Fit → Outcome → Result Answer NoMemory
settled F.Fits r = kept r
settled (F.Size n) r = discarded (SizeAnswer n) r
settled (F.Hash digest) r = discarded (HashAnswer digest) r

-- how far the fetched file was moved to part: making part was refused; or copying, after some pieces; or removing the fetched file; or
-- all was done, and this is said of the bytes
pub data Move : Type 0 where
  NotMade : (e : DeskError) → Move
  NotCopied : (pieces : List (List ℕ)) (ending : List Call) (e : DeskError) → Move
  NotRemoved : (pieces : List (List ℕ)) (ending : List Call) (e : DeskError) → Move
  Settled : (pieces : List (List ℕ)) (ending : List Call) (fit : Fit) (r : Outcome) → Move

abbrev pub move_calls : Files3 → Move → List Call
move_calls names (NotMade e) = if_made (Err e) (Create names.part (Err e))
move_calls names (NotCopied pieces ending e) = Create names.part (Ok tt) ∷ copy_calls names.fetch names.part 0 pieces ++ ending
move_calls names (NotRemoved pieces ending e) =
    Create names.part (Ok tt) ∷ (copy_calls names.fetch names.part 0 pieces ++ ending) ++ if_made (Err e) (Remove names.fetch (Err e))
move_calls names (Settled pieces ending fit r) =
    Create names.part (Ok tt) ∷ (copy_calls names.fetch names.part 0 pieces ++ ending) ++ Remove names.fetch (Ok tt) ∷ if_made r (settling names fit r)

abbrev pub move_result : Move → Result Answer NoMemory
move_result (NotMade e) = refusal e
move_result (NotCopied pieces ending e) = refusal e
move_result (NotRemoved pieces ending e) = refusal e
move_result (Settled pieces ending fit r) = settled fit r

-- what is so of each
abbrev pub MoveIs : Files3 → Parts → ℕ → Move → Type 0
MoveIs names key n (NotMade e) = Unit {0}
MoveIs names key n (NotCopied pieces ending e) = EndsRefused e names.fetch names.part (length (concat pieces)) ending
MoveIs names key n (NotRemoved pieces ending e) = EndsWhole names.fetch (length (concat pieces)) (n - length (concat pieces)) ending
MoveIs names key n (Settled pieces ending fit r) =
    EndsWhole names.fetch (length (concat pieces)) (n - length (concat pieces)) ending × IsSaidOf key (concat pieces) fit × (length (concat pieces) ≤ n)

pub record Moves (names : Files3) (key : Parts) (n : ℕ) (old new : Option Log) (result : Result Answer NoMemory) : Type 0 where
  pub how : Move
  pub calls : Gained old new (move_calls names how)
  pub result_is : result ≡ move_result how
  pub so : MoveIs names key n how

-- the length of the fetched file couldn't be asked; or it is another, and part is removed; or it was moved
pub data Fetch : Type 0 where
  NotSized : (e : DeskError) → Fetch
  WrongSize : (n : ℕ) (r : Outcome) → Fetch
  Moved : (n : ℕ) (how : Move) → Fetch

abbrev pub fetch_calls : Files3 → Fetch → List Call
fetch_calls names (NotSized e) = if_made (Err e) (Size names.fetch (Err e))
fetch_calls names (WrongSize n r) = Size names.fetch (Ok n) ∷ if_made r (Remove names.part r)
fetch_calls names (Moved n how) = Size names.fetch (Ok n) ∷ move_calls names how

abbrev pub fetch_result : Fetch → Result Answer NoMemory
fetch_result (NotSized e) = refusal e
fetch_result (WrongSize n r) = discarded (SizeAnswer n) r
fetch_result (Moved n how) = move_result how

abbrev pub FetchIs : Files3 → Parts → Fetch → Type 0
FetchIs names key (NotSized e) = Unit {0}
FetchIs names key (WrongSize n r) = is_size key.size n ≡ false
FetchIs names key (Moved n how) = (is_size key.size n ≡ true) × MoveIs names key n how

pub record Fetches (names : Files3) (key : Parts) (old new : Option Log) (result : Result Answer NoMemory) : Type 0 where
  pub how : Fetch
  pub calls : Gained old new (fetch_calls names how)
  pub result_is : result ≡ fetch_result how
  pub so : FetchIs names key how
