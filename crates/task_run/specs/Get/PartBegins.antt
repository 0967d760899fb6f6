-- How part is begun in a layout of chunks.
use Rattle.std.specs.Prelude.{ℕ, ◌≡◌, ◌≤◌, ◌-◌, List, [], ◌∷◌, ◌++◌, length, Option, Result, Ok, Err}
use Rattle.std.specs.List.{concat}
use Rattle.ann_key.specs.declared.bytes.NoMemory.{NoMemory}
use Rattle.ann_digest.specs.declared.checker.Checker.{Checker}
use Rattle.ann_outside.specs.Calls.{Log, Gained}
use Rattle.ann_outside.specs.declared.file_desk.DeskError.{DeskError}
use Rattle.ann_outside.specs.declared.file_desk.DeskError.TheVariants as E
use Rattle.ann_outside.specs.declared.file_desk.Call.{Call}
use Rattle.ann_outside.specs.declared.file_desk.Call.TheVariants.{Size, Create, Cut}
use Rattle.task_text.specs.Layouts.Layouts.{held_of, to_of}
use Rattle.task_model.specs.Copying.Copies.{EndsWhole, Checks}
use Rattle.task_model.specs.Copying.Resumes.{read_calls, refused_read}
use Rattle.journal_model.specs.declared.answer.Answer.{Answer}
use Rattle.journal_model.specs.declared.answer.Answer.TheVariants.{Got}
use Rattle.task_run.specs.declared.get.get_begin.Begun.{Begun}
use Rattle.task_run.specs.declared.get.get_begin.Begun.TheVariants as B
use Rattle.task_model.specs.Ran.{refusal}
use Rattle.task_model.specs.Fetching.{if_made}

-- part couldn't be looked up; or it was missing, and couldn't be made, or was; or it was found with n bytes, and couldn't be cut, or read
-- then, or could
pub data Begin : Type 0 where
  Unlooked : (e : DeskError) → Begin
  Unmade : (e : DeskError) → Begin
  Made : Begin
  Uncut : (n : ℕ) (e : DeskError) → Begin
  Unread : (n : ℕ) (pieces : List (List ℕ)) (e : DeskError) → Begin
  Resumed : (n : ℕ) (pieces : List (List ℕ)) (ending : List Call) → Begin

-- the end of the chunks that n bytes hold
abbrev pub keep_of : ℕ → ℕ → ℕ → ℕ
keep_of size chunk n = to_of size chunk (held_of size chunk n)

abbrev pub begin_calls : List ℕ → ℕ → ℕ → Begin → List Call
begin_calls part size chunk (Unlooked e) = if_made (Err e) (Size part (Err e))
begin_calls part size chunk (Unmade e) = Size part (Err E.Missing) ∷ if_made (Err e) (Create part (Err e))
begin_calls part size chunk Made = Size part (Err E.Missing) ∷ Create part (Ok tt) ∷ []
begin_calls part size chunk (Uncut n e) = Size part (Ok n) ∷ if_made (Err e) (Cut part (keep_of size chunk n) (Err e))
begin_calls part size chunk (Unread n pieces e) =
    Size part (Ok n) ∷ Cut part (keep_of size chunk n) (Ok tt) ∷ (read_calls part 0 pieces ++ refused_read e part (length (concat pieces)))
begin_calls part size chunk (Resumed n pieces ending) = Size part (Ok n) ∷ Cut part (keep_of size chunk n) (Ok tt) ∷ (read_calls part 0 pieces ++ ending)

abbrev pub unbegun : Result Answer NoMemory → Result Begun NoMemory
unbegun (Ok answer) = Ok (B.Over answer)
unbegun (Err e) = Err e

abbrev pub begin_result : ℕ → ℕ → Begin → Result Begun NoMemory
begin_result size chunk (Unlooked e) = unbegun (refusal e)
begin_result size chunk (Unmade e) = unbegun (refusal e)
begin_result size chunk Made = Ok (B.Held (held_of size chunk 0))
begin_result size chunk (Uncut n e) = unbegun (refusal e)
begin_result size chunk (Unread n pieces e) = unbegun (refusal e)
begin_result size chunk (Resumed n pieces ending) = Ok (B.Held (held_of size chunk n))

abbrev pub BeginIs : List ℕ → ℕ → ℕ → Checker → Checker → Begin → Type 0
BeginIs part size chunk before after (Unlooked e) = e ≡ E.Missing → ⊥
BeginIs part size chunk before after (Unmade e) = Unit {0}
BeginIs part size chunk before after Made = after ≡ before
BeginIs part size chunk before after (Uncut n e) = Unit {0}
BeginIs part size chunk before after (Unread n pieces e) = Unit {0}
BeginIs part size chunk before after (Resumed n pieces ending) =
    EndsWhole part (length (concat pieces)) (keep_of size chunk n - length (concat pieces)) ending × (length (concat pieces) ≤ keep_of size chunk n) × Checks before after (concat pieces)

pub record Begins (part : List ℕ) (size chunk : ℕ) (before after : Checker) (old new : Option Log) (result : Result Begun NoMemory) : Type 0 where
  pub how : Begin
  pub calls : Gained old new (begin_calls part size chunk how)
  pub result_is : result ≡ begin_result size chunk how
  pub so : BeginIs part size chunk before after how

-- the answer that it is over with; any other, where it goes on
abbrev pub answer_begun : Result Begun NoMemory → Result Answer NoMemory
answer_begun (Ok (B.Held n)) = Ok Got
answer_begun (Ok (B.Over answer)) = Ok answer
answer_begun (Err e) = Err e
