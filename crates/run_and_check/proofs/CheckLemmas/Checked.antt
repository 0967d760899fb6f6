-- What comes of a check.
use Rattle.ann_outside.specs.Told.{DeskTold, ProgramsTold}
use Rattle.std.proofs.Common.{◌≡◌, ℕ, List, [], ◌∷◌, lit≤, refl, sym, ap, subst, Bool, false, true, None, Option, Some, Ok, Err, arith}
use Rattle.std.specs.Prelude.{Result, IfOk, IfSome, IsErr, map}
use Rattle.std.proofs.lemmas.List.Elements.{All-cons, All-nil}
use Rattle.ann_key.specs.Keys.{key_reading}
use Rattle.ann_key.specs.declared.bytes.NoMemory.{NoMemory}
use Rattle.ann_key.proofs.Spelling.{read_of_spelled}
use Rattle.ann_outside.specs.Desks.{no_counts}
use Rattle.task_text.specs.TaskLines.{is_task_key, IsTask}
use Rattle.task_text.specs.declared.task.Task.{Task}
use Rattle.task_text.specs.declared.task.Work.TheVariants.{Check}
use Rattle.task_text.proofs.ChunkLogLemmas.Uuids.{nil_written}
use Rattle.cli_words.specs.Refusals.{reason_refused}
use Rattle.cli_words.proofs.Refusing.{task_key}
use Rattle.journal_model.specs.Beginnings.{MayBegin}
use Rattle.journal_model.specs.declared.answer.Answer.{Answer}
use Rattle.journal_model.specs.declared.entry.Entry.{Entry}
use Rattle.journal_model.specs.declared.opening.Opening.{Opening}
use Rattle.journal_model.specs.Legality.{Legal, is_busy}
use Rattle.journal_model.proofs.Projecting.{parts_fit}
use Rattle.task_model.specs.declared.setup.Setup.{Setup}
use Rattle.child_life.specs.End.Programs.{Leaves}
use Rattle.child_life.proofs.EndLemmas.Across.{leaves_if}
use Rattle.run_starts.specs.Rounds.{EndsClosed, IsWhole}
use Rattle.run_starts.proofs.Ending.{kept_begin, leaves_kept}
use Rattle.run_starts.specs.declared.plan.Plan.{Plan}
use Rattle.run_children.specs.JobRuns.{RanJobs}
use Rattle.run_children.proofs.Between.{jobs_begin, ran_jobs}
use Rattle.run_answers.specs.Answers.{AreAnswers, answer_of}
use Rattle.run_answers.specs.Answering.{AreAllAnswered}
use Rattle.run_answers.proofs.Answered.{all_answered}
use Rattle.run_and_check.specs.declared.check.made.CheckEnd.{CheckEnd}
use Rattle.run_and_check.specs.declared.check.made.CheckEnd.TheVariants.{Answered, Memory}
use Rattle.run_and_check.specs.declared.check.preparing.Ready.{Ready}
use Rattle.run_and_check.specs.Check.Checks.{EndsCheck, HasChecked, IsAnswered, IsChecked, MadeValue, check_opening, check_setup}
use Rattle.run_and_check.specs.Check.Preparings.{AnswersAs, IsPrepared}

-- ---- what a check of a key that isn't refused begins with

task_key_class : (key : List ℕ) → reason_refused key ≡ None → is_task_key key ≡ true
task_key_class key h =
    let k = task_key key h in
    let read : key_reading key ≡ Some k.parts = read_of_spelled key k.parts k.key in
    rw (read, k.sendable, k.whole) refl

pub check_begins : (key : List ℕ) (stamp : ℕ) (o : Opening) → reason_refused key ≡ None → o ≡ check_opening key stamp → MayBegin o
check_begins key stamp o h same = subst MayBegin (sym same) record {
  few = lit≤ tt;
  tasks = All-cons IsTask one [] record { key_class = task_key_class key h; file_class = refl; name_class = refl; onto_class = refl; apart = refl } (All-nil IsTask);
  lines = record { uuid = refl; name = refl; gitdir = refl };
  uuid = nil_written;
  again = lit≤ tt;
}
  where
    one : Task
    one = record { work = Check; key = key; file = []; name = []; onto = [] }

-- ---- the journal

-- the run of what a check of the key begins with
pub checked : (clock : Option ℕ) (key : List ℕ) (stamp : ℕ) (o : Opening) (setup : Setup) (may : Bool) (limit : ℕ) (journal : List Entry) (desk desk' : DeskTold) → IfSome clock (λ n. stamp ≡ n)
    → o ≡ check_opening key stamp → setup ≡ check_setup stamp → may ≡ false → limit ≡ 1 → RanJobs o setup may limit journal (desk ∷ []) (desk' ∷ []) → IsChecked clock key journal
checked clock key stamp o setup may limit journal desk desk' at begins plan unoffered one ran =
    let run : RanJobs (check_opening key stamp) (check_setup stamp) false 1 journal (desk ∷ []) (desk' ∷ []) =
    subst (λ (x : Opening). RanJobs x (check_setup stamp) false 1 journal (desk ∷ []) (desk' ∷ [])) begins
    (subst (λ (x : Setup). RanJobs o x false 1 journal (desk ∷ []) (desk' ∷ [])) plan
    (subst (λ (x : Bool). RanJobs o setup x 1 journal (desk ∷ []) (desk' ∷ [])) unoffered
    (subst (λ (x : ℕ). RanJobs o setup may x journal (desk ∷ []) (desk' ∷ [])) one ran))) in
    record { stamp = stamp; clock = at; desk = desk; desk' = desk'; ran = run; parts = parts_fit (check_opening key stamp) journal run.legal }

-- nothing was done
pub unstarted : (clock : Option ℕ) (key : List ℕ) (stamp : ℕ) (journal : List Entry) → IfSome clock (λ n. stamp ≡ n) → journal ≡ [] → IsChecked clock key journal
unstarted clock key stamp journal at none =
    checked clock key stamp (check_opening key stamp) (check_setup stamp) false 1 journal silent silent at refl refl refl refl
    (ran_jobs (omega arith) (jobs_begin (check_opening key stamp) (check_setup stamp) false 1 journal (silent ∷ []) true none))
  where
    silent : DeskTold
    silent = record { counts = no_counts; files = None; log = None }

-- whatever the clock tells
pub unstarted_at : (clock : Option ℕ) (key : List ℕ) (journal : List Entry) → journal ≡ [] → IsChecked clock key journal
unstarted_at None key journal none = unstarted None key 0 journal tt none
unstarted_at (Some stamp) key journal none = unstarted (Some stamp) key stamp journal refl none

-- ---- the answer

-- of one task there is one answer
answered : (key : List ℕ) (stamp : ℕ) (o : Opening) (journal : List Entry) (answers : List Answer) → o ≡ check_opening key stamp → AreAnswers o journal answers → EndsClosed journal
    → (answer : Answer) × IsAnswered journal answers answer
answered key stamp o journal answers begins are closed = go answers (answer_of journal 1) refl (subst (λ (x : Opening). AreAnswers x journal answers) begins are)
  where
    go : (xs : List Answer) (given : Option Answer) → answer_of journal 1 ≡ given → map (λ (x : Answer). Some x) xs ≡ answer_of journal 1 ∷ [] → (answer : Answer) × IsAnswered journal xs answer
    go [] given is h = absurd cc
    go (x ∷ []) given is h = (let said : Some x ≡ answer_of journal 1 = cc in (x, record { one = refl; given = sym said; closed = closed }))
    go (x ∷ y ∷ xs) given is h = absurd cc

ends_as : (key : List ℕ) (stamp : ℕ) (o : Opening) (journal : List Entry) (answers : List Answer) (r : Result (Unit {0}) NoMemory) (end : CheckEnd) → o ≡ check_opening key stamp
    → IfOk r (λ _. EndsClosed journal) → AnswersAs o journal r answers end → EndsCheck journal answers end
ends_as key stamp o journal answers (Ok u) Answered begins closed (ok, are) = answered key stamp o journal answers begins are closed
ends_as key stamp o journal answers (Err e) Answered begins closed (ok, are) = absurd (let bad : false ≡ true = ok in cc)
ends_as key stamp o journal answers r Memory begins closed none = none

wanting : (o : Opening) (journal : List Entry) (answers : List Answer) (r : Result (Unit {0}) NoMemory) (end : CheckEnd) → AnswersAs o journal r answers end → IsErr r → end ≡ Memory
wanting o journal answers (Ok u) end h err = absurd (let bad : false ≡ true = err in cc)
wanting o journal answers (Err e) Answered (ok, are) err = absurd (let bad : false ≡ true = ok in cc)
wanting o journal answers (Err e) Memory h err = refl

-- ---- as the run that a check makes ready

pub has_checked : (r : Result (Unit {0}) NoMemory) (clock : Option ℕ) (program key : List ℕ) (stamp : ℕ) (ready : Ready) (desk desk' : DeskTold) (journal : List Entry) (before after : ProgramsTold) (made : MadeValue)
    → IfSome clock (λ n. stamp ≡ n) → IsPrepared program key stamp ready → made.journal ≡ journal
    → RanJobs ready.core.opening ready.plan.setup ready.plan.offers ready.plan.starts journal (desk ∷ []) (desk' ∷ [])
    → IfOk r (λ _. EndsClosed journal) → AnswersAs ready.core.opening journal r made.answers made.end
    → Leaves (IsErr r) ready.plan.program journal before after made.wires → HasChecked clock program key before after made
has_checked r clock program key stamp ready desk desk' journal before after made at is same ran closed answers leaves = record {
  checked = subst (λ (j : List Entry). IsChecked clock key j) (sym same)
      (checked clock key stamp ready.core.opening ready.plan.setup ready.plan.offers ready.plan.starts journal desk desk' at is.opening
      (ap (λ (p : Plan). p.setup) is.plan) (ap (λ (p : Plan). p.offers) is.plan) (ap (λ (p : Plan). p.starts) is.plan) ran);
  ends = subst (λ (j : List Entry). EndsCheck j made.answers made.end) (sym same) (ends_as key stamp ready.core.opening journal made.answers r made.end is.opening closed answers);
  objects = subst (λ (j : List Entry). Leaves (made.end ≡ Memory) program j before after made.wires) (sym same)
      (subst (λ (p : List ℕ). Leaves (made.end ≡ Memory) p journal before after made.wires) (ap (λ (p : Plan). p.program) is.plan)
      (leaves_if (wanting ready.core.opening journal made.answers r made.end answers) leaves));
}

-- nothing was made
pub nothing_checked : (clock : Option ℕ) (program key : List ℕ) (programs : ProgramsTold) (made : MadeValue) → made ≡ record { journal = []; answers = []; wires = []; end = Memory }
    → HasChecked clock program key programs programs made
nothing_checked clock program key programs made is = subst (λ (m : MadeValue). HasChecked clock program key programs programs m) (sym is) record {
  checked = unstarted_at clock key [] refl;
  ends = refl;
  objects = leaves_kept (Memory ≡ Memory) (kept_begin program [] programs [] refl refl);
}

-- where all tasks are claimed, each is answered
pub whole_answered : (r : Result (Unit {0}) NoMemory) (o : Opening) (journal : List Entry) → Legal o journal → ((t : ℕ) → is_busy journal t ≡ false) → IsWhole o journal r → IfOk r (λ _. AreAllAnswered o journal)
whole_answered (Ok u) o journal legal rest whole = all_answered o journal legal rest whole
whole_answered (Err e) o journal legal rest whole = tt
