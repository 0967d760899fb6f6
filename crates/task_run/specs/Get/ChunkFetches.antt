-- How one chunk is fetched, as the answers of its calls.
use Rattle.std.specs.Prelude.{ℕ, ◌≡◌, ◌≤◌, ◌-◌, ◌==◌, List, [], ◌∷◌, ◌++◌, length, Option, None, Result, Ok, Err, true, false, unwrap_or}
use Rattle.std.specs.List.{concat}
use Rattle.ann_key.specs.declared.bytes.NoMemory.{NoMemory}
use Rattle.ann_digest.specs.declared.checker.Checker.{Checker}
use Rattle.annex_model.specs.Messages.{Transfer}
use Rattle.ann_outside.specs.Calls.{Log, Gained}
use Rattle.ann_outside.specs.declared.file_desk.DeskError.{DeskError}
use Rattle.ann_outside.specs.declared.file_desk.Call.{Call}
use Rattle.ann_outside.specs.declared.file_desk.Call.TheVariants.{Size, Remove}
use Rattle.task_model.specs.Copying.Copies.{copy_calls, EndsWhole, EndsRefused, Checks}
use Rattle.journal_model.specs.declared.verdict.Verdict.{Verdict}
use Rattle.journal_model.specs.declared.verdict.Verdict.TheVariants.{Failed as FailedAt}
use Rattle.journal_model.specs.declared.answer.Answer.{Answer}
use Rattle.journal_model.specs.declared.answer.Answer.TheVariants.{Got, Size as SizeAnswer, Memory}
use Rattle.task_model.specs.Askers.{Asking, AsksOne}
use Rattle.task_run.specs.declared.get.get_chunk.Went.{Went}
use Rattle.task_run.specs.declared.get.get_chunk.Went.TheVariants as T
use Rattle.task_model.specs.Stops.{is_done_at}
use Rattle.task_model.specs.Ran.{refusal, undone_answer, is_verdict_of}
use Rattle.task_model.specs.Fetching.{Outcome, if_made, discarded}

-- the task is over with this answer
abbrev pub over_with : Result Answer NoMemory → Result Went NoMemory
over_with (Ok answer) = Ok (T.Over answer)
over_with (Err e) = Err e

-- the answer that it is over with; any other, where it goes on
abbrev pub answer_in : Result Went NoMemory → Result Answer NoMemory
answer_in (Ok T.Whole) = Ok Got
answer_in (Ok T.Failed) = Ok Got
answer_in (Ok (T.Over answer)) = Ok answer
answer_in (Err e) = Err e

-- the length of the fetched file couldn't be asked; or it is another, and part is removed; or it couldn't be copied onto part, or removed
-- then; or all was done
pub data Come : Type 0 where
  Unmeasured : (e : DeskError) → Come
  Misfit : (m : ℕ) (r : Outcome) → Come
  Uncopied : (pieces : List (List ℕ)) (ending : List Call) (e : DeskError) → Come
  Unremoved : (pieces : List (List ℕ)) (ending : List Call) (e : DeskError) → Come
  Came : (pieces : List (List ℕ)) (ending : List Call) → Come

-- the calls, where the part has n bytes
abbrev pub come_calls : List ℕ → List ℕ → ℕ → Come → List Call
come_calls part fetch n (Unmeasured e) = if_made (Err e) (Size fetch (Err e))
come_calls part fetch n (Misfit m r) = Size fetch (Ok m) ∷ if_made r (Remove part r)
come_calls part fetch n (Uncopied pieces ending e) = Size fetch (Ok n) ∷ (copy_calls fetch part 0 pieces ++ ending)
come_calls part fetch n (Unremoved pieces ending e) = Size fetch (Ok n) ∷ ((copy_calls fetch part 0 pieces ++ ending) ++ if_made (Err e) (Remove fetch (Err e)))
come_calls part fetch n (Came pieces ending) = Size fetch (Ok n) ∷ ((copy_calls fetch part 0 pieces ++ ending) ++ Remove fetch (Ok tt) ∷ [])

abbrev pub come_result : Come → Result Went NoMemory
come_result (Unmeasured e) = over_with (refusal e)
come_result (Misfit m r) = over_with (discarded (SizeAnswer m) r)
come_result (Uncopied pieces ending e) = over_with (refusal e)
come_result (Unremoved pieces ending e) = over_with (refusal e)
come_result (Came pieces ending) = Ok T.Whole

abbrev pub ComeIs : List ℕ → List ℕ → ℕ → Checker → Checker → Come → Type 0
ComeIs part fetch n before after (Unmeasured e) = Unit {0}
ComeIs part fetch n before after (Misfit m r) = (m == n) ≡ false
ComeIs part fetch n before after (Uncopied pieces ending e) = EndsRefused e fetch part (length (concat pieces)) ending
ComeIs part fetch n before after (Unremoved pieces ending e) = EndsWhole fetch (length (concat pieces)) (n - length (concat pieces)) ending
ComeIs part fetch n before after (Came pieces ending) =
    EndsWhole fetch (length (concat pieces)) (n - length (concat pieces)) ending × (length (concat pieces) ≤ n) × Checks before after (concat pieces)

pub record Comes (part fetch : List ℕ) (n : ℕ) (before after : Checker) (old new : Option Log) (result : Result Went NoMemory) : Type 0 where
  pub how : Come
  pub calls : Gained old new (come_calls part fetch n how)
  pub result_is : result ≡ come_result how
  pub so : ComeIs part fetch n before after how

-- those after the length of the fetched file
abbrev pub copied_calls : List ℕ → List ℕ → Come → List Call
copied_calls part fetch (Uncopied pieces ending e) = copy_calls fetch part 0 pieces ++ ending
copied_calls part fetch (Unremoved pieces ending e) = (copy_calls fetch part 0 pieces ++ ending) ++ if_made (Err e) (Remove fetch (Err e))
copied_calls part fetch (Came pieces ending) = (copy_calls fetch part 0 pieces ++ ending) ++ Remove fetch (Ok tt) ∷ []
copied_calls part fetch _ = []

abbrev pub IsOfCopy : Come → Type 0
IsOfCopy (Unmeasured e) = ⊥
IsOfCopy (Misfit m r) = ⊥
IsOfCopy _ = Unit {0}

pub record CopiesOver (part fetch : List ℕ) (n : ℕ) (before after : Checker) (old new : Option Log) (result : Result Went NoMemory) : Type 0 where
  pub how : Come
  pub of_copy : IsOfCopy how
  pub calls : Gained old new (copied_calls part fetch how)
  pub result_is : result ≡ come_result how
  pub so : ComeIs part fetch n before after how

-- how a layout goes on after a request that isn't done
abbrev pub undone_went : Verdict → Went
undone_went (FailedAt at) = T.Failed
undone_went v = T.Over (unwrap_or (undone_answer v) Memory)

-- the request couldn't be made; or it isn't done; or it is, and the file was fetched so
pub data Take : Type 0 where
  Unmade : Take
  Undone : (v : Verdict) → Take
  Fetched : (v : Verdict) (how : Come) → Take

-- what is so of each, of a key's text
pub record Unasked (pairs later : List Asking) (old new : Option Log) (result : Result Went NoMemory) : Type 0 where
  pub none_asked : later ≡ pairs
  pub none_called : new ≡ old
  pub no_memory : result ≡ Err record {}

pub record IsUndone (text fetch : List ℕ) (pairs later : List Asking) (old new : Option Log) (result : Result Went NoMemory) (v : Verdict) : Type 0 where
  pub asks : AsksOne pairs later None (Transfer false text fetch) v
  pub of_kind : is_verdict_of (Transfer false text fetch) v ≡ true
  pub not_done : is_done_at v ≡ false
  pub none_called : new ≡ old
  pub goes : result ≡ Ok (undone_went v)

pub record IsFetched (text part fetch : List ℕ) (n : ℕ) (before after : Checker) (pairs later : List Asking) (old new : Option Log) (result : Result Went NoMemory) (v : Verdict) (how : Come) : Type 0 where
  pub asks : AsksOne pairs later None (Transfer false text fetch) v
  pub done : is_done_at v ≡ true
  pub calls : Gained old new (come_calls part fetch n how)
  pub goes : result ≡ come_result how
  pub so : ComeIs part fetch n before after how

abbrev pub TakeIs : List ℕ → List ℕ → List ℕ → ℕ → Checker → Checker → List Asking → List Asking → Option Log → Option Log → Result Went NoMemory → Take → Type 0
TakeIs text part fetch n before after pairs later old new result Unmade = Unasked pairs later old new result
TakeIs text part fetch n before after pairs later old new result (Undone v) = IsUndone text fetch pairs later old new result v
TakeIs text part fetch n before after pairs later old new result (Fetched v how) = IsFetched text part fetch n before after pairs later old new result v how

pub record Takes (text part fetch : List ℕ) (n : ℕ) (before after : Checker) (pairs later : List Asking) (old new : Option Log) (result : Result Went NoMemory) : Type 0 where
  pub how : Take
  pub so : TakeIs text part fetch n before after pairs later old new result how
