-- From what a run begins with and what was worked to its end.
use Rattle.ann_outside.specs.Told.{DeskTold}
use Rattle.std.proofs.Common.{◌≡◌, ◌⊎◌, ℕ, List, [], length, sym, ap, subst, ◌∙◌, inl, inr, Bool, true, Option, Ok, Err}
use Rattle.std.specs.Prelude.{Result}
use Rattle.ann_outside.specs.Causes.{Rose}
use Rattle.ann_outside.specs.Files.{Files}
use Rattle.cli_words.specs.declared.command.RunWords.{RunWords}
use Rattle.journal_model.specs.declared.answer.Answer.{Answer}
use Rattle.journal_model.specs.declared.entry.Entry.{Entry}
use Rattle.journal_model.specs.declared.opening.Opening.{Opening}
use Rattle.journal_model.proofs.Projecting.{parts_fit}
use Rattle.host_core.specs.Steps.{are_all_claimed}
use Rattle.task_model.specs.declared.setup.Setup.{Setup}
use Rattle.run_children.specs.JobRuns.{RanJobs}
use Rattle.run_and_check.specs.Run.Inputs.{InputFlow, run_setup}
use Rattle.run_and_check.specs.Run.Runs.{MadeValue, AreFresh, RunFilesStay, IsRunOf, IsUnbegun, LacksJournal, EndsRun, IfUnwhole}
use Rattle.run_and_check.specs.Run.Beginnings.{IsReady, BeginsRun}
use Rattle.run_and_check.specs.Run.Workings.{IsWorked, IsUnjournaled, Finishes, EndsWork, IsStopped, GoesOn}
use Rattle.run_children.proofs.Succeeding.{jobs_keep, jobs_succeed}
use Rattle.run_and_check.specs.declared.run.made.RunEnd.{RunEnd}
use Rattle.run_and_check.specs.declared.run.made.RunEnd.TheVariants.{BadKept, KeptTooLarge, FileFailed, InputFailed, Refused, Memory, Done}
use Rattle.run_and_check.proofs.RunLemmas.Kept.{as_before}

-- ---- the tasks

pub is_worked : (words : RunWords) (opening : Opening) (workers : List DeskTold) (journal : List Entry) (before after : List DeskTold) (setup : Setup) (may : Bool) (limit : ℕ)
    → (length before ≡ words.jobs) × (length workers ≡ words.jobs) → AreFresh before → after ≡ workers → setup ≡ run_setup words opening.stamp → may ≡ true → limit ≡ words.starts
    → RanJobs opening setup may limit journal before after → IsWorked words opening workers journal
is_worked words opening workers journal before after setup may limit many fresh after_is setup_is may_is limit_is ran = record {
  before = before;
  many = many;
  fresh = fresh;
  ran =
      subst (λ (n : ℕ). RanJobs opening (run_setup words opening.stamp) true n journal before workers) limit_is
      (subst (λ (b : Bool). RanJobs opening (run_setup words opening.stamp) b limit journal before workers) may_is
      (subst (λ (s : Setup). RanJobs opening s may limit journal before workers) setup_is
      (subst (RanJobs opening setup may limit journal before) after_is ran)));
  parts = parts_fit opening journal ran.legal;
}

finished : (words : RunWords) (told : Option Files) (table : DeskTold) (o : Opening) (workers : List DeskTold) (journal : List Entry) (answers : List Answer) (end : RunEnd)
    → IsWorked words o workers journal → are_all_claimed o journal ≡ true → Finishes words told table o journal answers end → EndsWork words told table o workers journal answers end
finished words told table o workers journal answers Memory worked all h = (elim h.1 [ inl before ↦ inl (inr worked, before) | inr cut ↦ inr record { worked = worked; all = all; files = cut } ], h.0)
finished words told table o workers journal answers (Done written) worked all h = record { worked = worked; all = all; finished = h }
finished words told table o workers journal answers (BadKept line) worked all h = absurd h
finished words told table o workers journal answers KeptTooLarge worked all h = absurd h
finished words told table o workers journal answers FileFailed worked all h = absurd h
finished words told table o workers journal answers InputFailed worked all h = absurd h
finished words told table o workers journal answers (Refused line reason) worked all h = absurd h

-- all were done
pub ends_finished : (words : RunWords) (told : Option Files) (table : DeskTold) (o o' : Opening) (workers : List DeskTold) (journal journal' : List Entry) (answers : List Answer) (end : RunEnd)
    → o' ≡ o → journal' ≡ journal → IsWorked words o workers journal → are_all_claimed o journal ≡ true → Finishes words told table o' journal answers end → EndsWork words told table o workers journal' answers end
ends_finished words told table o o' workers journal journal' answers end e j worked all h =
    subst (λ (x : List Entry). EndsWork words told table o workers x answers end) (sym j)
    (finished words told table o workers journal answers end worked all (subst (λ (x : Opening). Finishes words told table x journal answers end) e h))

-- or no memory was found to start a child
pub ends_wanting : (words : RunWords) (told : Option Files) (table : DeskTold) (o : Opening) (workers : List DeskTold) (journal journal' : List Entry) (answers : List Answer)
    → journal' ≡ journal → answers ≡ [] → table.files ≡ told → IsWorked words o workers journal → EndsWork words told table o workers journal' answers Memory
ends_wanting words told table o workers journal journal' answers j none same worked =
    subst (λ (x : List Entry). EndsWork words told table o workers x answers Memory) (sym j) (inl (inr worked, as_before words told table same), none)

-- or before anything was done
pub ends_before : (words : RunWords) (told : Option Files) (table : DeskTold) (o : Opening) (workers : List DeskTold) (journal : List Entry) (answers : List Answer) (end : RunEnd)
    → journal ≡ [] → answers ≡ [] → end ≡ Memory → table.files ≡ told → EndsWork words told table o workers journal answers end
ends_before words told table o workers journal answers end j none e same =
    subst (EndsWork words told table o workers journal answers) (sym e) (inl (inl j, as_before words told table same), none)

-- ---- the run

module _ (words : RunWords) (clock : Option ℕ) (told : Option Files) (flow : InputFlow) where
  run_of : (opening : Opening) (workers : List DeskTold) (journal : List Entry) → IsReady words clock told flow opening → IsWorked words opening workers journal → IsRunOf words clock told flow workers journal
  run_of opening workers journal ready worked = record {
    stamp = ready.stamp;
    at = ready.at;
    kept = ready.kept;
    text = ready.text;
    right = ready.right;
    tasks = ready.tasks;
    input = ready.input;
    opening = opening;
    begins = ready.begins;
    before = worked.before;
    many = worked.many;
    fresh = worked.fresh;
    ran = subst (λ (n : ℕ). RanJobs opening (run_setup words n) true words.starts journal worked.before workers) (ap (λ (o : Opening). o.stamp) ready.begins.is) worked.ran;
    parts = worked.parts;
    succeeds = jobs_succeed opening (run_setup words ready.stamp) words.starts journal [] journal 1 worked.before workers;
    keeps = jobs_keep opening (run_setup words ready.stamp) journal worked.ran.legal;
  }

  from_work : (opening : Opening) (table : DeskTold) (workers : List DeskTold) (made : MadeValue) (end : RunEnd) → IsReady words clock told flow opening
      → EndsWork words told table opening workers made.journal made.answers end → EndsRun words clock told flow table workers made end
  unfolding run_of
  from_work opening table workers made Memory ready h = either h.0
    where
      begun : (made.journal ≡ []) ⊎ IsWorked words opening workers made.journal → (made.journal ≡ []) ⊎ IsRunOf words clock told flow workers made.journal
      begun (inl none) = inl none
      begun (inr worked) = inr (run_of opening workers made.journal ready worked)

      either : (((made.journal ≡ []) ⊎ IsWorked words opening workers made.journal) × RunFilesStay words told table) ⊎ IsUnjournaled words told table opening workers made.journal
          → (((made.journal ≡ []) ⊎ IsRunOf words clock told flow workers made.journal) × RunFilesStay words told table) ⊎ LacksJournal words clock told flow table workers made
      either (inl before) = inl (begun before.0, before.1)
      either (inr cut) = inr record { run = run_of opening workers made.journal ready cut.worked; all = cut.all; files = cut.files }
  from_work opening table workers made (Done written) ready h =
      record { run = run_of opening workers made.journal ready h.worked; all = h.all; answers = h.finished.answers_are; files = h.finished.files }
  from_work opening table workers made (BadKept line) ready h = absurd h
  from_work opening table workers made KeptTooLarge ready h = absurd h
  from_work opening table workers made FileFailed ready h = absurd h
  from_work opening table workers made InputFailed ready h = absurd h
  from_work opening table workers made (Refused line reason) ready h = absurd h

  unbegun : (before after : DeskTold) (workers : List DeskTold) (made : MadeValue) (why end : RunEnd) → before.files ≡ told
      → IsStopped before after workers made.journal made.answers why end → IsUnbegun words told after workers made
  unbegun before after workers made why end same stopped =
      record { journal = stopped.no_journal; none = stopped.no_workers; before = as_before words told after (ap (λ (t : DeskTold). t.files) stopped.table_is ∙ same) }

  rose_from : (faults : ℕ) (before after : DeskTold) → faults ≡ 0 → after ≡ before → Rose faults before.counts.faults → Rose 0 after.counts.faults
  rose_from faults before after zero e h =
      subst (λ (t : DeskTold). Rose 0 t.counts.faults) (sym e) (subst (λ (n : ℕ). Rose n before.counts.faults) zero h)

  from_stop : (faults : ℕ) (before after : DeskTold) (workers : List DeskTold) (made : MadeValue) (why end : RunEnd) → before.files ≡ told → faults ≡ 0
      → BeginsRun words clock told flow faults before.counts.faults (Err why) → IsStopped before after workers made.journal made.answers why end → EndsRun words clock told flow after workers made why
  from_stop faults before after workers made (BadKept line) end same zero h stopped = (unbegun before after workers made (BadKept line) end same stopped, h.0, h.1)
  from_stop faults before after workers made KeptTooLarge end same zero h stopped = (unbegun before after workers made KeptTooLarge end same stopped, h.0, h.1)
  from_stop faults before after workers made FileFailed end same zero h stopped =
      (unbegun before after workers made FileFailed end same stopped, h.0, rose_from faults before after zero stopped.table_is h.1)
  from_stop faults before after workers made InputFailed end same zero h stopped = (unbegun before after workers made InputFailed end same stopped, h.0, h.1)
  from_stop faults before after workers made (Refused line reason) end same zero h stopped = (unbegun before after workers made (Refused line reason) end same stopped, h.0, h.1)
  from_stop faults before after workers made Memory end same zero h stopped =
      inl (inl stopped.no_journal, as_before words told after (ap (λ (t : DeskTold). t.files) stopped.table_is ∙ same))
  from_stop faults before after workers made (Done written) end same zero h stopped = absurd h

  pub ends_run : (faults : ℕ) (before after : DeskTold) (workers : List DeskTold) (made : MadeValue) (begun : Result Opening RunEnd) → before.files ≡ told → faults ≡ 0
      → BeginsRun words clock told flow faults before.counts.faults begun → GoesOn words before after workers made.journal made.answers begun made.end → EndsRun words clock told flow after workers made made.end
  ends_run faults before after workers made (Ok opening) same zero h goes =
      from_work opening after workers made made.end h (subst (λ (t : Option Files). EndsWork words t after opening workers made.journal made.answers made.end) same goes)
  ends_run faults before after workers made (Err why) same zero h goes =
      subst (EndsRun words clock told flow after workers made) (sym goes.end_is) (from_stop faults before after workers made why made.end same zero h goes)

unwhole : (words : RunWords) (told : Option Files) (table : DeskTold) (o : Opening) (workers : List DeskTold) (journal : List Entry) (answers : List Answer) (end : RunEnd)
    → EndsWork words told table o workers journal answers end → IfUnwhole end (answers ≡ [])
unwhole words told table o workers journal answers Memory h = h.1
unwhole words told table o workers journal answers (Done written) h = tt
unwhole words told table o workers journal answers (BadKept line) h = absurd h
unwhole words told table o workers journal answers KeptTooLarge h = absurd h
unwhole words told table o workers journal answers FileFailed h = absurd h
unwhole words told table o workers journal answers InputFailed h = absurd h
unwhole words told table o workers journal answers (Refused line reason) h = absurd h

if_unwhole : {P : Type 0} (end : RunEnd) → P → IfUnwhole end P
if_unwhole (Done written) p = tt
if_unwhole end p = p

-- there are answers only where the run is whole
pub no_answers : (words : RunWords) (before after : DeskTold) (workers : List DeskTold) (journal : List Entry) (answers : List Answer) (begun : Result Opening RunEnd) (end : RunEnd)
    → GoesOn words before after workers journal answers begun end → IfUnwhole end (answers ≡ [])
no_answers words before after workers journal answers (Ok opening) end h = unwhole words before.files after opening workers journal answers end h
no_answers words before after workers journal answers (Err why) end h = if_unwhole end h.no_answers
