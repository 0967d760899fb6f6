-- How a run ends that went well from outside.
use Rattle.ann_outside.specs.Told.{DeskTold}
use Rattle.std.proofs.Common.{◌≡◌, ◌∙◌, ◌⊎◌, inl, inr, ℕ, zero, suc, ◌+◌, ◌-◌, ◌≤◌, ◌==◌, Bool, true, false, cond, List, [], ◌∷◌, ◌++◌, length, refl, sym, ap, subst, arith, Some, None, Option, Ok}
use Rattle.std.specs.Prelude.{◌&&◌, ◌||◌, not, All, is_some, map, slice_get}
use Rattle.std.proofs.lemmas.Bool.{and_parts, ne_eqb as differ, eqb-true as same_number}
use Rattle.std.proofs.lemmas.List.Elements.{All-head, All-tail}
use Rattle.std.specs.List.{list_all, list_any, cons_option, range_with_len}
use Rattle.ann_key.specs.Keys.{is_key, is_sendable, key_reading}
use Rattle.ann_outside.specs.Causes.{Rose}
use Rattle.ann_outside.specs.Files.{Files, WhereTold}
use Rattle.cli_words.specs.Texts.{memory_line}
use Rattle.cli_words.specs.declared.command.RunWords.{RunWords}
use Rattle.run_children.specs.Completeness.{AreAnsweredWell}
use Rattle.run_children.proofs.Completing.{jobs_complete}
use Rattle.journal_text.specs.declared.file.writing.JournalWritten.{JournalWritten}
use Rattle.journal_text.specs.declared.file.writing.JournalWritten.TheVariants as J
use Rattle.journal_model.specs.declared.answer.Answer.{Answer}
use Rattle.journal_model.specs.declared.entry.What.{What}
use Rattle.journal_model.specs.declared.entry.What.TheVariants.{Answer as Answered}
use Rattle.journal_model.specs.declared.entry.Entry.{Entry}
use Rattle.journal_model.specs.declared.opening.Opening.{Opening}
use Rattle.journal_model.specs.Journal.{each_of, first_of}
use Rattle.journal_model.specs.Legality.{task_of}
use Rattle.kept_file.specs.declared.desk.writing.KeptWritten.{KeptWritten}
use Rattle.kept_file.specs.declared.desk.writing.KeptWritten.TheVariants as W
use Rattle.run_and_check.specs.Run.Inputs.{InputFlow}
use Rattle.run_and_check.specs.Run.Runs.{AreWritten, HasFailed, IsJournaled, IsRunKept, IsWholeRun, answer_for, answer_of, told_of}
use Rattle.run_and_check.specs.declared.run.made.RunEnd.{RunEnd}
use Rattle.run_and_check.specs.declared.run.made.RunEnd.TheVariants.{BadKept, KeptTooLarge, FileFailed, InputFailed, Refused, Memory, Done}
use Rattle.special_cli.specs.Doings.{end_of, made_in}
use Rattle.special_cli.specs.Endings.{is_well}
use Rattle.special_cli.specs.Left.{Left}
use Rattle.special_cli.specs.Tells.{Flow, IsMemoryTold, IsToldOf, IsWritten, answers_status}
use Rattle.special_bin.specs.Laws.Completeness.{AreAllWell, EndsWell, HasCompleted, IdleLacksMemory, IsKeptQuiet, IsQuiet, RunCompletes, says_memory}
use Rattle.run_starts.specs.TaskLaws.ChildrenWell.{AreKeysRead}
use Rattle.run_starts.specs.TaskLaws.WentWell.{IsSuccess, success_of}
use Rattle.task_text.specs.TaskLines.{IsTask, has_chunk}
use Rattle.task_text.specs.declared.task.Task.{Task}
use Rattle.task_text.specs.declared.task.Work.{Work}
use Rattle.task_text.specs.declared.task.Work.TheVariants.{Store, Get, Check, Drop, XStore, XGet, XCheck, XDrop, XRename}
use Rattle.run_and_check.proofs.RunLemmas.Kept.{rises}

-- ---- what was written

written_so : (wanted : ℕ) (text : List ℕ) (status : ℕ) (f : Flow) → (Rose f.faults f.faults' → ⊥) → IsWritten wanted text status f → status ≡ wanted
written_so wanted text status f quiet (inl whole) = whole.status_is
written_so wanted text status f quiet (inr cut) = absurd (quiet cut.rose)

memory_so : (status : ℕ) (out err : Flow) → (Rose err.faults err.faults' → ⊥) → IsMemoryTold status out err → status ≡ 7
memory_so status out err quiet told = written_so 7 memory_line status err quiet told.0

-- ---- the files of desk 0

rose_on : (a b : ℕ) → Rose 0 a → a ≤ b → Rose 0 b
rose_on a b h k = omega (arith, h, k)

untold : (told new : Option Files) (P : Files → Files → Type 0) → WhereTold told new P → new ≡ None → told ≡ None
untold None new P h e = refl
untold (Some old) None P h e = absurd h
untold (Some old) (Some new) P h e = absurd cc

module _ (words : RunWords) (told : Option Files) (table : DeskTold) (o : Opening) (journal : List Entry) (quiet : IsKeptQuiet told table) where
  -- the desk counted no more when the journal file was written than it has now
  kept_counts : (mid : DeskTold) (written : JournalWritten) → IsJournaled words mid table o journal (Ok written) → (mid.counts.faults ≤ table.counts.faults) × (mid.counts.missing ≤ table.counts.missing)
  kept_counts mid written h = go words.journal h
    where
      go : (name : Option (List ℕ)) → IsJournaled (record words { journal = name }) mid table o journal (Ok written) → (mid.counts.faults ≤ table.counts.faults) × (mid.counts.missing ≤ table.counts.missing)
      go None k = subst (λ (t : DeskTold). (mid.counts.faults ≤ t.counts.faults) × (mid.counts.missing ≤ t.counts.missing)) (sym k.1) (omega arith, omega arith)
      go (Some name) k = (k.1.faults_later, k.1.missing_later)

  no_fault : (mid : DeskTold) → (mid.counts.faults ≤ table.counts.faults) × (mid.counts.missing ≤ table.counts.missing) → HasFailed told mid → ⊥
  no_fault mid later (inl h) = quiet.faults (rose_on mid.counts.faults table.counts.faults h later.0)
  no_fault mid later (inr h) = quiet.missing h.0 (rose_on mid.counts.missing table.counts.missing h.1 later.1)

  kept_well : (mid : DeskTold) (written : JournalWritten) → IsJournaled words mid table o journal (Ok written) → IsRunKept words told mid o journal W.Fault → ⊥
  kept_well mid written j h = go words.keep h
    where
      go : (name : Option (List ℕ)) → IsRunKept (record words { keep = name }) told mid o journal W.Fault → ⊥
      go None k = absurd (let bad : W.Fault ≡ W.Done = k.0 in cc)
      go (Some name) k = no_fault mid (kept_counts mid written j) k.0

  kept_told : (mid : DeskTold) → IsRunKept words told mid o journal W.Done → mid.files ≡ None → told ≡ None
  kept_told mid h none = go words.keep h
    where
      go : (name : Option (List ℕ)) → IsRunKept (record words { keep = name }) told mid o journal W.Done → told ≡ None
      go None k = untold told mid.files _ k.1 none
      go (Some name) k = untold told mid.files _ k none

  journaled_well : (mid : DeskTold) → IsRunKept words told mid o journal W.Done → IsJournaled words mid table o journal (Ok J.Fault) → ⊥
  journaled_well mid kept h = go words.journal h
    where
      fault : {X : Type 0} → (Rose mid.counts.faults table.counts.faults ⊎ ((mid.files ≡ None) × Rose mid.counts.missing table.counts.missing)) → X
      fault (inl r) = absurd (quiet.faults (rises mid.counts.faults table.counts.faults r))
      fault (inr r) = absurd (quiet.missing (kept_told mid kept r.0) (rises mid.counts.missing table.counts.missing r.1))

      go : (name : Option (List ℕ)) → IsJournaled (record words { journal = name }) mid table o journal (Ok J.Fault) → ⊥
      go None k = absurd (let bad = k.0 in cc)
      go (Some name) k = fault (k.1.fault refl)

  never_failed : AreWritten words told table o journal W.Fault → ⊥
  never_failed w = go w.of_kept w.of_journal w.kept w.journaled w.told_is
    where
      go : (kept : KeptWritten) (written : JournalWritten) → IsRunKept words told w.mid o journal kept → IsJournaled words w.mid table o journal (Ok written) → W.Fault ≡ told_of kept written → ⊥
      go W.Done J.Done k j e = absurd (let bad : W.Fault ≡ W.Done = e in cc)
      go W.Done J.Fault k j e = journaled_well w.mid k j
      go W.TooLarge written k j e = absurd (let bad : W.Fault ≡ W.TooLarge = e in cc)
      go W.Fault written k j e = kept_well w.mid written j k

-- ---- the answers

record Stands (journal : List Entry) (w : What) : Type 0 where
  front : List Entry
  by : ℕ
  rest : List Entry
  is : journal ≡ front ++ record { by = by; what = w } ∷ rest

answer_stands : (t : ℕ) (answer : Answer) (journal : List Entry) → answer_of journal t ≡ Some answer → Stands journal (Answered t answer)
answer_stands t answer [] h = absurd (let bad : None ≡ Some answer = h in cc)
answer_stands t answer (e ∷ journal) h = by_what e.what refl h (answer_stands t answer journal)
  where
    behind : Stands journal (Answered t answer) → Stands (e ∷ journal) (Answered t answer)
    behind s = record { front = e ∷ s.front; by = s.by; rest = s.rest; is = ap (λ (l : List Entry). e ∷ l) s.is }

    here : (task : ℕ) (given : Answer) → e.what ≡ Answered task given → task ≡ t → given ≡ answer → Stands (e ∷ journal) (Answered t answer)
    here task given is at same =
        let what : e.what ≡ Answered t answer = is ∙ ap (λ (n : ℕ). Answered n given) at ∙ ap (Answered t) same in
        record { front = []; by = e.by; rest = journal; is = ap (λ (w : What). record { by = e.by; what = w } ∷ journal) what }

    by_what : (w : What) → e.what ≡ w → first_of (cons_option (answer_for t w) (each_of (answer_for t) journal)) ≡ Some answer → (answer_of journal t ≡ Some answer → Stands journal (Answered t answer))
        → Stands (e ∷ journal) (Answered t answer)
    by_what (Answered task given) is k more = by_test (task == t) refl k
      where
        by_test : (b : Bool) → (task == t) ≡ b → first_of (cons_option (cond {A = Option Answer} b (Some given) None) (each_of (answer_for t) journal)) ≡ Some answer → Stands (e ∷ journal) (Answered t answer)
        by_test true at j = here task given is (same_number task t at) (let one : Some given ≡ Some answer = j in cc)
        by_test false at j = behind (more j)
    by_what w is k more = behind (more k)

all_well : (journal : List Entry) (tasks : List Task) (answers : List Answer) (k : ℕ) → map (λ answer. Some answer) answers ≡ map (answer_of journal) (range_with_len k (length tasks))
    → ((i : ℕ) (task : Task) (answer : Answer) → slice_get tasks i ≡ Some task → answer_of journal (k + i) ≡ Some answer → IsSuccess task.work answer) → AreAllWell tasks answers
all_well journal [] [] k same each = tt
all_well journal [] (answer ∷ answers) k same each = absurd (let bad : map (λ (a : Answer). Some a) (answer ∷ answers) ≡ [] = same in cc)
all_well journal (task ∷ tasks) [] k same each = absurd (let bad : [] ≡ answer_of journal k ∷ map (answer_of journal) (range_with_len (k + 1) (length tasks)) = same in cc)
all_well journal (task ∷ tasks) (answer ∷ answers) k same each = (each 0 task answer refl (at_start ∙ first), all_well journal tasks answers (k + 1) more later)
  where
    whole : Some answer ∷ map (λ (a : Answer). Some a) answers ≡ answer_of journal k ∷ map (answer_of journal) (range_with_len (k + 1) (length tasks))
    whole = same

    at_start : answer_of journal (k + 0) ≡ answer_of journal k
    at_start = let e : k + 0 ≡ k = omega arith in ap (answer_of journal) e

    first : answer_of journal k ≡ Some answer
    first = let w = whole in cc

    more : map (λ (a : Answer). Some a) answers ≡ map (answer_of journal) (range_with_len (k + 1) (length tasks))
    more = let w = whole in cc

    later : (i : ℕ) (one : Task) (given : Answer) → slice_get tasks i ≡ Some one → answer_of journal (k + 1 + i) ≡ Some given → IsSuccess one.work given
    later i one given is h =
        let e : k + suc i ≡ k + 1 + i = omega arith in
        each (suc i) one given is (ap (answer_of journal) e ∙ h)

success_well : (work : Work) → is_well (success_of work) ≡ true
success_well Store = refl
success_well Get = refl
success_well Check = refl
success_well Drop = refl
success_well XStore = refl
success_well XGet = refl
success_well XCheck = refl
success_well XDrop = refl
success_well XRename = refl

well_or_memory : (tasks : List Task) (answers : List Answer) → AreAllWell tasks answers → (list_all is_well answers ≡ true) ⊎ (list_any says_memory answers ≡ true)
well_or_memory [] [] h = inl refl
well_or_memory [] (answer ∷ answers) h = absurd h
well_or_memory (task ∷ tasks) [] h = absurd h
well_or_memory (task ∷ tasks) (answer ∷ answers) h = go h.0 (well_or_memory tasks answers h.1)
  where
    later : (b : Bool) → list_any says_memory answers ≡ true → (b || list_any says_memory answers) ≡ true
    later true k = refl
    later false k = k

    go : IsSuccess task.work answer → (list_all is_well answers ≡ true) ⊎ (list_any says_memory answers ≡ true)
        → (list_all is_well (answer ∷ answers) ≡ true) ⊎ (list_any says_memory (answer ∷ answers) ≡ true)
    go (inl e) (inl k) = inl (rw (ap is_well e ∙ success_well task.work, k) refl)
    go (inr e) (inl k) = inr (let m : says_memory answer ≡ true = ap says_memory e in rw m refl)
    go s (inr k) = inr (later (says_memory answer) k)

status_so : (status : ℕ) (answers : List Answer) → status ≡ answers_status answers → (list_all is_well answers ≡ true) ⊎ (list_any says_memory answers ≡ true)
    → (status ≡ 0) ⊎ ((status ≡ 1) × (list_any says_memory answers ≡ true))
status_so status answers is (inl well) = inl (is ∙ (let r : answers_status answers ≡ 0 = rw well refl in r))
status_so status answers is (inr memory) = by_test (list_all is_well answers) refl
  where
    by_test : (b : Bool) → list_all is_well answers ≡ b → (status ≡ 0) ⊎ ((status ≡ 1) × (list_any says_memory answers ≡ true))
    by_test true e = inl (is ∙ (let r : answers_status answers ≡ 0 = rw e refl in r))
    by_test false e = inr (is ∙ (let r : answers_status answers ≡ 1 = rw e refl in r), memory)

-- ---- the run

task_is : (o : Opening) (t i : ℕ) → t ≡ i + 1 → task_of o t ≡ slice_get o.tasks i
task_is o t i same =
    let off : (t == 0) ≡ false = differ t 0 (λ e. absurd (let bad : ⊥ = omega (arith, same, e) in bad)) in
    let at : t - 1 ≡ i = omega (arith, same) in
    ap (λ (b : Bool). cond {A = Option Task} b None (slice_get o.tasks (t - 1))) off ∙ ap (slice_get o.tasks) at

task_at : (o : Opening) (tasks : List Task) (i : ℕ) (task : Task) → o.tasks ≡ tasks → slice_get tasks i ≡ Some task → task_of o (1 + i) ≡ Some task
task_at o tasks i task same is = task_is o (1 + i) i (omega arith) ∙ ap (λ (ts : List Task). slice_get ts i) same ∙ is

all_at : {X : Type 0} (P : X → Type 0) (xs : List X) (i : ℕ) (x : X) → All P xs → slice_get xs i ≡ Some x → P x
all_at P [] i x all h = absurd (let bad : None ≡ Some x = h in cc)
all_at P (y ∷ xs) zero x all h = let one : Some y ≡ Some x = h in let is : y ≡ x = cc in subst P is (All-head P y xs all)
all_at P (y ∷ xs) (suc i) x all h = all_at P xs i x (All-tail P y xs all) h

key_is_read : (task : Task) → IsTask task → is_some (key_reading task.key) ≡ true
key_is_read task is = (and_parts (is_key task.key) (is_sendable task.key && not (has_chunk task.key)) is.key_class).0

keys_are_read : (o : Opening) (tasks : List Task) → o.tasks ≡ tasks → All IsTask tasks → AreKeysRead o
keys_are_read o tasks same all zero task h = absurd cc
keys_are_read o tasks same all (suc i) task h =
    let is : slice_get tasks i ≡ Some task = ap (λ (ts : List Task). slice_get ts i) (sym same) ∙ sym (task_is o (suc i) i (omega arith)) ∙ h in
    key_is_read task (all_at IsTask tasks i task all is)

module _ (words : RunWords) (clock : Option ℕ) (input : InputFlow) (status : ℕ) (out err : Flow) (left : Left) (quiet : IsQuiet input out err) where
  completes : (end : RunEnd) (told : Option Files) (table : DeskTold) (workers : List DeskTold) (whole : IsWholeRun words clock told input table workers (made_in left end) W.Done)
      → EndsWell words clock told input table workers (made_in left end) (Done W.Done) whole → IsToldOf left status out err (end_of (Done W.Done)) → HasCompleted input status left.answers
  completes end told table workers whole well (inr memory) = inl (memory_so status out err quiet.warns memory)
  completes end told table workers whole well (inl said) = inr (whole.run.tasks, whole.run.input, all, status_so status left.answers (written_so _ _ status out quiet.prints said.0) (well_or_memory whole.run.tasks left.answers all))
    where
      same : whole.run.opening.tasks ≡ whole.run.tasks
      same = ap (λ (o : Opening). o.tasks) whole.run.begins.is

      given : AreAnsweredWell whole.run.opening left.journal
      given = jobs_complete whole.run.opening _ true words.starts left.journal whole.run.before _ whole.run.ran record {
        starts = well.starts;
        keys = keys_are_read whole.run.opening whole.run.tasks same whole.run.input.comes.1.1.each;
        children = well.children;
        asked = well.asked;
        found = well.found;
      }

      each : (i : ℕ) (task : Task) (answer : Answer) → slice_get whole.run.tasks i ≡ Some task → answer_of left.journal (1 + i) ≡ Some answer → IsSuccess task.work answer
      each i task answer is h =
          let s = answer_stands (1 + i) answer left.journal h in
          given s.front s.rest s.by (1 + i) answer task s.is (task_at whole.run.opening whole.run.tasks i task same is)

      all : AreAllWell whole.run.tasks left.answers
      all = all_well left.journal whole.run.tasks left.answers 1 (whole.answers ∙ ap (λ (ts : List Task). map (answer_of left.journal) (range_with_len 1 (length ts))) same) each

pub run_completes : RunCompletes
run_completes words clock before input status out err left (BadKept line) at told quiet well = absurd well.1
run_completes words clock before input status out err left KeptTooLarge at told quiet well = absurd well.1
run_completes words clock before input status out err left FileFailed at told quiet well = absurd (well.0.faults at.ends.2)
run_completes words clock before input status out err left InputFailed at told quiet well = absurd (quiet.reads at.ends.1)
run_completes words clock before input status out err left (Refused line reason) at told quiet well = absurd well.1
run_completes words clock before input status out err left Memory at told quiet well = inl (memory_so status out err quiet.warns told)
run_completes words clock before input status out err left (Done W.TooLarge) at told quiet well = absurd well.1
run_completes words clock before input status out err left (Done W.Fault) at told quiet well =
    absurd (never_failed words at.told at.table at.ends.run.opening left.journal well.0 at.ends.files)
run_completes words clock before input status out err left (Done W.Done) at told quiet well =
    completes words clock input status out err left quiet (Done W.Done) at.told at.table at.workers at.ends well.1 told

pub idle_lacks_memory : IdleLacksMemory
idle_lacks_memory before input status out err left end is idle told quiet = memory_so status out err quiet.warns (subst (λ (e : RunEnd). IsToldOf left status out err (end_of e)) is told)
