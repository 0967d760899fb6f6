-- A run has no more answers than its input may have lines, and a recovery no more than a text may have tasks.
use Rattle.ann_outside.specs.Told.{DeskTold}
use Rattle.std.proofs.Common.{◌≡◌, ◌⊎◌, ◌∙◌, ◌≤◌, ℕ, List, [], length, Option, Some, None, Ok, Err, refl, sym, ap, subst, inl, inr, arith}
use Rattle.std.specs.Prelude.{Result}
use Rattle.std.proofs.lemmas.List.{length-map}
use Rattle.std.proofs.lemmas.List.FromFn.{length-range_with_len}
use Rattle.ann_outside.specs.Desks.{Made}
use Rattle.ann_outside.specs.Files.{Files}
use Rattle.audit_command.specs.Inputs.{IsTextOf}
use Rattle.audit_command.specs.Recoveries.{EndsRecovery, IsRecovered, RecoverDesks, RecoverNames, RecoveredValue, HasRecovered}
use Rattle.audit_command.specs.SoFar.{IsTextSoFar}
use Rattle.audit_command.specs.declared.error.AuditError.{AuditError}
use Rattle.audit_command.specs.declared.error.AuditError.TheVariants as A
use Rattle.audit_command.specs.declared.recover.made.KeptEnd.{KeptEnd}
use Rattle.audit_command.specs.declared.recover.made.RecoverEnd.{RecoverEnd}
use Rattle.audit_command.specs.declared.recover.made.RecoverEnd.TheVariants as V
use Rattle.kept_file.specs.declared.desk.writing.KeptWritten.{KeptWritten}
use Rattle.cli_words.specs.Refusals.{reason_refused, refusal_if}
use Rattle.cli_words.specs.declared.command.Command.{Command}
use Rattle.cli_words.specs.declared.command.Command.TheVariants.{Check, Info, Init, Run, Audit as AuditWord, Recover, Rehearse, Walk, Show}
use Rattle.cli_words.specs.declared.refusals.Reason.{Reason}
use Rattle.cli_words.specs.declared.task_input.limits.TheConstants.Limits.{TASKS}
use Rattle.cli_words.specs.declared.command.RunWords.{RunWords}
use Rattle.info_and_init.specs.declared.info.made.InfoEnd.{InfoEnd}
use Rattle.info_and_init.specs.declared.info.made.InfoEnd.TheVariants as I
use Rattle.info_and_init.specs.declared.init.made.InitEnd.{InitEnd}
use Rattle.info_and_init.specs.declared.init.made.InitEnd.TheVariants as N
use Rattle.journal_audit.specs.declared.found.Audit.{Audit}
use Rattle.journal_model.specs.declared.answer.Answer.{Answer}
use Rattle.journal_model.specs.declared.entry.Entry.{Entry}
use Rattle.journal_model.specs.declared.opening.Opening.{Opening}
use Rattle.journal_model.specs.Legality.{numbers_of}
use Rattle.child_life.specs.End.Outsides.{OutsideValue}
use Rattle.rehearse_command.specs.declared.made.RehearsalEnd.{RehearsalEnd}
use Rattle.rehearse_command.specs.declared.made.RehearsalEnd.TheVariants as M
use Rattle.rehearse_command.specs.declared.walk.made.WalkEnd.{WalkEnd}
use Rattle.rehearse_command.specs.declared.walk.made.WalkEnd.TheVariants as K
use Rattle.run_answers.specs.Answers.{answer_of as given_of}
use Rattle.run_and_check.specs.Run.Inputs.{InputFlow}
use Rattle.run_and_check.specs.Run.Runs.{MadeValue, HasDone, IsWholeRun, IfUnwhole, EndsRun, answer_of}
use Rattle.run_and_check.specs.declared.run.made.RunEnd.{RunEnd}
use Rattle.run_and_check.specs.declared.run.made.RunEnd.TheVariants as R
use Rattle.run_and_check.specs.declared.run.made.RunEnd.TheVariants.{Done}
use Rattle.run_and_check.proofs.RunLemmas.Begun.{few_tasks}
use Rattle.special_cli.specs.Audits.{end_of_audit}
use Rattle.special_cli.specs.Commands.{ComesToNothing, EndsCheck, HasChecked, HasInformed, Runs, UnlessRefused}
use Rattle.special_cli.specs.Doings.{end_of}
use Rattle.special_cli.specs.Informs.{end_of_info}
use Rattle.special_cli.specs.Left.{Left, RanValue}
use Rattle.special_cli.specs.Recoveries.{HasFew, end_of_recovery}
use Rattle.special_cli.specs.Rehearsals.{end_of_rehearsal}
use Rattle.special_cli.specs.Setups.{end_of_init}
use Rattle.special_cli.specs.Walks.{end_of_walk}
use Rattle.special_cli.specs.declared.end.End.{End}
use Rattle.special_cli.specs.declared.end.End.TheVariants.{Usage, Shown, Refused, Memory, Answered}

-- ---- a run

few_whole : (words : RunWords) (clock : Option ℕ) (told : Option Files) (input : InputFlow) (table : DeskTold) (workers : List DeskTold) (made : MadeValue) (written : KeptWritten)
    → IsWholeRun words clock told input table workers made written → length made.answers ≤ 65536
few_whole words clock told input table workers made written w =
    let few : length w.run.tasks ≤ TASKS.lines = few_tasks TASKS w.run.input.bytes w.run.tasks w.run.input.comes.1 in
    let limit : TASKS.lines ≡ 65536 = refl in
    let own : length w.run.opening.tasks ≡ length w.run.tasks = ap (λ (o : Opening). length o.tasks) w.run.begins.is in
    let numbers : length (numbers_of w.run.opening) ≡ length w.run.opening.tasks = length-range_with_len 1 (length w.run.opening.tasks) in
    let answers : length made.answers ≡ length (numbers_of w.run.opening) =
    sym (length-map made.answers (λ (a : Answer). Some a)) ∙ ap (λ (os : List (Option Answer)). length os) w.answers ∙ length-map (numbers_of w.run.opening) (answer_of made.journal) in
    omega (arith, few, limit, own, numbers, answers)

none_few : (answers : List Answer) → answers ≡ [] → length answers ≤ 65536
none_few answers e = let z : length answers ≡ 0 = ap (λ (xs : List Answer). length xs) e in omega (arith, z)

pub few_done : (words : RunWords) (clock : Option ℕ) (before : OutsideValue) (input : InputFlow) (after : OutsideValue) (made : MadeValue) → HasDone words clock before input after made
    → length made.answers ≤ 65536
few_done words clock before input after made (inl h) = none_few made.answers h.1.answers
few_done words clock before input after made (inr d) = go made.end d.ends d.none
  where
    go : (end : RunEnd) → EndsRun words clock d.told input d.table d.workers made end → IfUnwhole end (made.answers ≡ []) → length made.answers ≤ 65536
    go (Done written) ends none = few_whole words clock d.told input d.table d.workers made written ends
    go end ends none = none_few made.answers none

-- ---- a recovery

few_of : (o : Opening) (journal : List Entry) (lines : List (List ℕ)) → IsTextOf o journal lines → length o.tasks ≤ 65536
few_of o journal lines text =
    let same : length o.tasks ≡ length text.told.tasks = ap length text.opening_is.tasks in
    let few = text.class.few in
    omega (arith, same, few)

few_so_far : (o : Opening) (journal : List Entry) (lines : List (List ℕ)) → IsTextSoFar o journal lines → length o.tasks ≤ 65536
few_so_far o journal lines (inl text) = few_of o journal _ text
few_so_far o journal lines (inr text) = few_of o journal _ text

few_answers : (names : RecoverNames) (d : RecoverDesks) (journal : List Entry) (answers : List (Option Answer)) (kept : KeptEnd) → IsRecovered names d journal answers kept
    → length answers ≤ 65536
few_answers names d journal answers kept h =
    let few : length h.opening.tasks ≤ 65536 = few_so_far h.opening journal h.so_far.0 h.so_far.2 in
    let numbers : length (numbers_of h.opening) ≡ length h.opening.tasks = length-range_with_len 1 (length h.opening.tasks) in
    let all : length answers ≡ length (numbers_of h.opening) = ap (λ (os : List (Option Answer)). length os) h.given ∙ length-map (numbers_of h.opening) (given_of journal) in
    omega (arith, few, numbers, all)

few_recovered : (names : RecoverNames) (before after : Option (List Made)) (left : RecoveredValue) → HasRecovered names before after left → HasFew (end_of_recovery left.end)
few_recovered names before after left (inl idle) = subst (λ (x : RecoverEnd). HasFew (end_of_recovery x)) (sym idle.end) tt
few_recovered names before after left (inr (inl one)) = subst (λ (x : RecoverEnd). HasFew (end_of_recovery x)) (sym one.end) tt
few_recovered names before after left (inr (inr both)) = go left.end both.ends
  where
    go : (end : RecoverEnd) → EndsRecovery names both.d left.journal end → HasFew (end_of_recovery end)
    go (V.Answered answers kept) h = few_answers names both.d left.journal answers.items kept h
    go V.FileFailed h = tt
    go V.TextTooLarge h = tt
    go (V.Refused line) h = tt
    go V.Memory h = tt
    go V.Unbegun h = tt
    go (V.Wrong misplaced) h = tt

-- ---- the other ends have no such answers

nothing_few : (before : OutsideValue) (ran : RanValue) (end : End) → HasFew end → ComesToNothing before ran end → HasFew ran.end
nothing_few before ran end few h = go h.end_is
  where
    go : (ran.end ≡ end) ⊎ (ran.end ≡ Memory) → HasFew ran.end
    go (inl e) = subst HasFew (sym e) few
    go (inr e) = subst HasFew (sym e) tt

check_few : (left : Left) (end : End) → EndsCheck left end → HasFew end
check_few left Answered h = tt
check_few left Memory h = tt
check_few left end h = absurd h

info_few : (end : InfoEnd) → HasFew (end_of_info end)
info_few (I.Refused reason) = tt
info_few I.Memory = tt
info_few (I.Asked key) = tt

init_few : (end : InitEnd) → HasFew (end_of_init end)
init_few (N.BadKept line) = tt
init_few N.KeptTooLarge = tt
init_few N.FileFailed = tt
init_few N.Memory = tt
init_few (N.SetUp written) = tt
init_few (N.NotSetUp answer) = tt

run_few : (end : RunEnd) → HasFew (end_of end)
run_few (R.BadKept line) = tt
run_few R.KeptTooLarge = tt
run_few R.FileFailed = tt
run_few R.InputFailed = tt
run_few (R.Refused line reason) = tt
run_few R.Memory = tt
run_few (R.Done written) = tt

audit_few : (outcome : Result Audit AuditError) → HasFew (end_of_audit outcome)
audit_few (Ok found) = tt
audit_few (Err (A.Entry line)) = tt
audit_few (Err (A.Cut line)) = tt
audit_few (Err A.Failed) = tt
audit_few (Err A.NoMemory) = tt

rehearsal_few : (end : RehearsalEnd) → HasFew (end_of_rehearsal end)
rehearsal_few M.Memory = tt
rehearsal_few (M.Done found) = tt

walk_few : (tasks : ℕ) (end : WalkEnd) → HasFew (end_of_walk tasks end)
walk_few tasks K.Memory = tt
walk_few tasks (K.Done equal found) = tt

pub few_told : (clock : Option ℕ) (before : OutsideValue) (input : InputFlow) (wish : Option Command) (ran : RanValue) → Runs clock before input wish ran → HasFew ran.end
few_told clock before input None ran h = nothing_few before ran Usage tt h
few_told clock before input (Some (Show page)) ran h = nothing_few before ran (Shown page) tt h
few_told clock before input (Some (Check program key)) ran h = go (reason_refused key) h
  where
    go : (r : Option Reason) → UnlessRefused r before ran (HasChecked clock program key before ran) → HasFew ran.end
    go None h = check_few ran.left ran.end h.ends
    go (Some reason) h = nothing_few before ran (Refused 1 reason) tt h
few_told clock before input (Some (Info program key)) ran h = go (refusal_if key) h
  where
    go : (r : Option Reason) → UnlessRefused r before ran (HasInformed program key before ran) → HasFew ran.end
    go None h = subst HasFew (sym h.end_is) (info_few h.end)
    go (Some reason) h = nothing_few before ran (Refused 1 reason) tt h
few_told clock before input (Some (Init words)) ran h = subst HasFew (sym h.end_is) (init_few h.end)
few_told clock before input (Some (Run words)) ran (end, h, same) = subst HasFew (sym same) (run_few end)
few_told clock before input (Some AuditWord) ran h = subst HasFew (sym h.end_is) (audit_few h.outcome)
few_told clock before input (Some (Recover journal keep)) ran (unread, h) = subst HasFew (sym h.end_is) (few_recovered _ _ _ _ h.made)
few_told clock before input (Some (Rehearse seed tasks)) ran (unread, h) = subst HasFew (sym h.end_is) (rehearsal_few h.end)
few_told clock before input (Some (Walk seed tasks)) ran (unread, h) = subst HasFew (sym h.end_is) (walk_few tasks h.end)
