-- What a request of a task adds, over a child that others read and write.
use Rattle.std.proofs.Common.{◌≡◌, ℕ, List, refl, subst, Bool, true, Option, Some, None, inl, inr, Ok, Err, IfOk, OnErr}
use Rattle.std.specs.List.{list_all}
use Rattle.std.specs.Prelude.{Result}
use Rattle.ann_key.specs.declared.bytes.NoMemory.{NoMemory}
use Rattle.annex_model.specs.Messages.{HostMessage}
use Rattle.journal_model.specs.declared.verdict.Verdict.{Verdict}
use Rattle.journal_model.specs.declared.entry.What.{What}
use Rattle.journal_model.specs.declared.entry.What.TheVariants.{Note}
use Rattle.journal_model.specs.declared.entry.Entry.{Entry}
use Rattle.journal_model.specs.declared.opening.Opening.{Opening}
use Rattle.journal_model.specs.Legality.{Legal}
use Rattle.journal_model.specs.Shares.{Moved, is_of_child}
use Rattle.host_core.specs.Steps.{asking}
use Rattle.child_link.specs.Asks.{Grows, HasAsked, never}
use Rattle.child_link.specs.Doors.{Passed}
use Rattle.child_link.proofs.Asking.{grows_on}
use Rattle.child_link.proofs.Roles.{moved_both, moved_by, moved_wider}
use Rattle.crew_work.specs.Worker.AtTasks.{AtTask, AskedFor}
use Rattle.crew_work.specs.Worker.KnownLayouts.{IsBook}
use Rattle.crew_work.specs.Worker.Noting.{by_noting}
use Rattle.crew_work.proofs.WorkerLemmas.Pairs.{asked, never_untasked, passed}
use Rattle.crew_work.proofs.WorkerLemmas.Serving.{at_asked}
use Rattle.crew_work.specs.Worker.Servings.{by_jobs}
use Rattle.crew_work.specs.Beside.Jobs.{JobsOn}
use Rattle.ann_key.proofs.Numbers.{same_number as same}

never_jobs : (c t : ℕ) (w : What) → never w ≡ true → by_jobs c t w ≡ true
never_jobs c t w h = absurd cc

jobs_asks : (past : List Entry) (c t : ℕ) (q : HostMessage) (name : Option (List ℕ)) → list_all (by_jobs c t) (asking past t c name q) ≡ true
jobs_asks past c t q None = rw (same c, same t) refl
jobs_asks past c t q (Some name) = rw (same c, same t) refl

-- one request of the task with the name before it, or a lost one
pub jobs_asked : {o : Opening} {n : ℕ} {a : Bool} {old new : List Entry} {Known : ℕ → Type 0} (c t : ℕ) (name : Option (List ℕ)) (q : HostMessage) (v : Verdict) → HasAsked o n a never old new c t name q Known v
    → Grows n a (by_jobs c t) old new
jobs_asked {n = n} {a = a} {new = new} c t name q v (inl s) =
    let k : Moved n a (by_jobs c t) (is_of_child c) s.mid new (Unit {0}) (Unit {0}) = moved_wider (never_jobs c t) (λ w h. h) s.on (λ own k u. u) in
    moved_both refl refl (moved_by s.asked (jobs_asks s.asked.past c t q name) (λ none u. u)) record { more = k.more; is = k.is; own = k.own; lone = k.lone; kept = λ h u. u }
jobs_asked c t name q v (inr s) = moved_by s (rw (same c, same t) refl) (λ none u. u)

-- by what the request came to, where nothing was made without memory
module _ (o : Opening) (n t : ℕ) (a : Bool) (old new : List Entry) (c : ℕ) (name : Option (List ℕ)) (q : HostMessage) (Known : ℕ → Type 0) where
  pub asked_as : (result : Result Verdict NoMemory) → AtTask o n t old → Legal o new → IfOk result (HasAsked o n a never old new c t name q Known) → OnErr result (Passed n a old new)
      → AskedFor o n t old new name q result
  asked_as (Ok v) at legal has none = asked o n t c name q v (never_untasked t) at legal has
  asked_as (Err e) at legal has none = passed o n t at legal none

  pub grows_as : (result : Result Verdict NoMemory) → IfOk result (HasAsked o n a never old new c t name q Known) → OnErr result (Passed n a old new) → Grows n a (by_jobs c t) old new
  grows_as (Ok v) has none = jobs_asked c t name q v has
  grows_as (Err e) has none = grows_on none

note_jobs : (c t : ℕ) (w : What) → by_noting t w ≡ true → by_jobs c t w ≡ true
note_jobs c t (Note task chunk count) h = h
note_jobs c t w h = absurd cc

-- ---- what asking and noting leave

module _ (o : Opening) (n t u : ℕ) (a : Bool) (old new : List Entry) (is : t ≡ u) (book : IsBook o.notes) where
  jobs_on : (c : ℕ) → AtTask o n t new → Grows n a (by_jobs c t) old new → JobsOn o n a old new c u
  jobs_on c at grows = subst (λ (k : ℕ). JobsOn o n a old new c k) is record { may = record { at = at; book = book }; grows = grows }

  pub jobs_on_asked : (c : ℕ) (name : Option (List ℕ)) (q : HostMessage) (result : Result Verdict NoMemory) → AskedFor o n t old new name q result → Grows n a (by_jobs c t) old new → JobsOn o n a old new c u
  jobs_on_asked c name q result h grows = jobs_on c (at_asked o n t old new name q result h) grows

  -- notes of the task, or nothing
  pub jobs_on_noted : (c : ℕ) → AtTask o n t new → Grows n a (by_noting t) old new → JobsOn o n a old new c u
  jobs_on_noted c at grows = jobs_on c at (moved_wider (note_jobs c t) (λ w k. k) grows (λ own k p. p))
