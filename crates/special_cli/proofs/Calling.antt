-- What is told of a call, from what came of its command and how that was told.
use Rattle.ann_outside.specs.Told.{DeskTold}
use Rattle.std.proofs.Common.{◌≡◌, ◌⊎◌, ◌∙◌, ◌==◌, ◌≤◌, ℕ, List, [], ◌∷◌, ◌++◌, length, Bool, true, false, cond, Option, Some, None, Ok, Err, refl, sym, ap, subst, inl, inr, arith}
use Rattle.std.specs.Prelude.{◌||◌, map, IfSome, IsSome, Result}
use Rattle.std.specs.Io.KnownBytes.{Appends}
use Rattle.std.specs.List.{list_all, list_any, range_with_len}
use Rattle.std.proofs.lemmas.List.{append-nil, append_assoc}
use Rattle.ann_outside.specs.Causes.{AddsOne, Rose, Stays}
use Rattle.ann_outside.specs.Desks.{Made}
use Rattle.annex_model.specs.Lines.{text}
use Rattle.journal_model.specs.declared.answer.Answer.{Answer}
use Rattle.journal_model.specs.declared.entry.Entry.{Entry}
use Rattle.journal_model.specs.Output.{answer_line}
use Rattle.info_and_init.specs.Info.Infos.{info_lines, is_informed}
use Rattle.special_cli.specs.declared.end.End.{End}
use Rattle.special_cli.specs.declared.end.End.TheVariants.{Usage, Shown, Refused, Memory, Answered, Informed, BadKept, KeptTooLarge, FileFailed, InputFailed, SetUp, NotSetUp, Done, Audited, Rehearsed, Walked, Unbegun, Recovered}
use Rattle.cli_words.specs.declared.refusals.Reason.{Reason}
use Rattle.cli_words.specs.declared.command.Page.{Page}
use Rattle.ann_outside.specs.Files.{Files}
use Rattle.kept_file.specs.declared.desk.writing.KeptWritten.TheVariants as W
use Rattle.cli_words.specs.declared.command.InitWords.{InitWords}
use Rattle.cli_words.specs.declared.command.RunWords.{RunWords}
use Rattle.run_and_check.specs.Run.Inputs.{InputFlow, IsUnread}
use Rattle.run_and_check.specs.Run.Runs.{HasDone, AddsMade}
use Rattle.run_and_check.specs.declared.run.made.RunEnd.{RunEnd}
use Rattle.run_and_check.specs.declared.run.made.RunEnd.TheVariants as R
use Rattle.special_cli.specs.Doings.{end_of, made_in, HasRun}
use Rattle.audit_command.specs.declared.error.AuditError.{AuditError}
use Rattle.audit_command.specs.declared.error.AuditError.TheVariants as A
use Rattle.journal_audit.specs.declared.found.Audit.{Audit}
use Rattle.journal_audit.specs.declared.found.Audit.TheVariants.{Legal, Wrong}
use Rattle.special_cli.specs.Audits.{HasAudited, end_of_audit}
use Rattle.audit_command.specs.Recoveries.{RecoverNames, HasRecovered as IsRecoveredSo}
use Rattle.audit_command.specs.declared.recover.made.KeptEnd.{KeptEnd}
use Rattle.audit_command.specs.declared.recover.made.KeptEnd.TheVariants.{Written, Changed, Fault}
use Rattle.audit_command.specs.declared.recover.made.RecoverEnd.{RecoverEnd}
use Rattle.audit_command.specs.declared.recover.made.RecoverEnd.TheVariants as V
use Rattle.special_cli.specs.Recoveries.{HasRecovered, end_of_recovery, is_well_so_far, recovered_in, recovered_lines}
use Rattle.special_cli.proofs.Audited.{other_words}
use Rattle.info_and_init.specs.Init.Inits.{HasSetUp as IsMadeSo}
use Rattle.info_and_init.specs.declared.init.made.InitEnd.{InitEnd}
use Rattle.info_and_init.specs.declared.init.made.InitEnd.TheVariants as N
use Rattle.special_cli.specs.Setups.{HasSetUp, end_of_init, set_up_in}
use Rattle.special_cli.specs.Calls.{IsCalled, IsDone, World}
use Rattle.special_cli.specs.Commands.{ComesToNothing, EndsCheck, HasChecked, HasInformed, UnlessRefused, Runs}
use Rattle.special_cli.specs.Endings.{is_well, status_of, IsPrinted, IsTold, LacksMemory}
use Rattle.info_and_init.specs.Info.Informs.{EndsInfo}
use Rattle.info_and_init.specs.declared.info.made.InfoEnd.{InfoEnd}
use Rattle.info_and_init.specs.declared.info.made.InfoEnd.TheVariants as I
use Rattle.special_cli.specs.Informs.{IsInfoTold, end_of_info, info_status}
use Rattle.child_life.specs.End.Outsides.{OutsideValue}
use Rattle.special_cli.specs.Left.{Left, RanValue, IsIdle}
use Rattle.child_life.specs.End.Programs.{HaveStarted, Leaves}
use Rattle.child_life.specs.End.Outsides.{HaveMade}
use Rattle.cli_words.specs.Refusals.{reason_refused, refusal_if, unless}
use Rattle.special_cli.proofs.Few.{few_done}
use Rattle.special_cli.proofs.Rehearsed.{few_rehearsed}
use Rattle.special_cli.specs.Rehearsals.{HasRehearsed, end_of_rehearsal, rehearsal_text}
use Rattle.special_cli.specs.Audits.{found_status}
use Rattle.special_cli.specs.Walks.{WalksTasks, end_of_walk, is_walk_well}
use Rattle.rehearse_command.specs.declared.walk.made.WalkEnd.{WalkEnd}
use Rattle.rehearse_command.specs.declared.walk.made.WalkEnd.TheVariants as K
use Rattle.rehearse_command.proofs.WalkLemmas.Walked.{few_walked}
use Rattle.rehearse_plan.specs.Tallies.{count_of}
use Rattle.rehearse_plan.specs.declared.tally.Word.TheVariants.{Other}
use Rattle.rehearse_command.specs.declared.made.RehearsalEnd.{RehearsalEnd}
use Rattle.rehearse_command.specs.declared.made.RehearsalEnd.TheVariants as M
use Rattle.cli_words.specs.Ranges.{HasRanges}
use Rattle.run_starts.proofs.OnceLemmas.Leaving.{leaves_as, leaves_nothing}
use Rattle.special_cli.specs.Tells.{Flow, IsSilent, IsWritten, IsPrintedOr, IsRecoveredTold, IsSaidThen, IsSaidThenOr, IsToldOf, answer_lines, answers_status}
use Rattle.cli_words.specs.declared.command.Command.{Command}
use Rattle.cli_words.specs.declared.command.Command.TheVariants.{Check, Info, Init, Run, Audit as AuditWord, Recover, Rehearse, Walk, Show}
use Rattle.ann_key.proofs.Booleans.{false_is_true as never}
use Rattle.ann_key.proofs.Lists.{appends_nothing as appends}
use Rattle.std.proofs.lemmas.Bool.{eqb-true as same_number}

-- ---- the statuses

-- the statuses that go with an end whose text was written
wanted_of : End → List ℕ
wanted_of Usage = 2 ∷ []
wanted_of (Shown page) = 0 ∷ []
wanted_of (Refused line reason) = 3 ∷ 7 ∷ []
wanted_of Memory = 7 ∷ []
wanted_of Answered = 0 ∷ 1 ∷ 7 ∷ []
wanted_of (Informed key) = 0 ∷ 1 ∷ 7 ∷ []
wanted_of (BadKept line) = 6 ∷ 7 ∷ []
wanted_of KeptTooLarge = 6 ∷ []
wanted_of FileFailed = 6 ∷ []
wanted_of InputFailed = 4 ∷ []
wanted_of (Done written) = 0 ∷ 1 ∷ 7 ∷ 6 ∷ []
wanted_of (SetUp written) = 0 ∷ 6 ∷ []
wanted_of (NotSetUp answer) = 1 ∷ 7 ∷ []
wanted_of (Audited found) = 0 ∷ 1 ∷ 7 ∷ []
wanted_of (Rehearsed found) = 0 ∷ 1 ∷ 7 ∷ []
wanted_of (Walked tasks equal found) = 0 ∷ 1 ∷ 7 ∷ []
wanted_of Unbegun = 0 ∷ []
wanted_of (Recovered answers kept) = 0 ∷ 1 ∷ 7 ∷ 6 ∷ []

-- it is one of these, or 5 after a write that failed
EndsWith : List ℕ → ℕ → Flow → Flow → Type 0
EndsWith ws status out err = ((status ≡ 5) × (Rose out.faults out.faults' ⊎ Rose err.faults err.faults')) ⊎ (list_any (λ w. w == status) ws ≡ true)

at : (ws : List ℕ) (status w : ℕ) → status ≡ w → list_any (λ v. v == w) ws ≡ true → list_any (λ v. v == status) ws ≡ true
at ws status w e h = subst (λ (s : ℕ). list_any (λ v. v == s) ws ≡ true) (sym e) h

on_out : (ws : List ℕ) (w : ℕ) (written : List ℕ) (status : ℕ) (out err : Flow) → list_any (λ v. v == w) ws ≡ true → IsWritten w written status out → EndsWith ws status out err
unfolding EndsWith
on_out ws w written status out err h (inl whole) = inr (at ws status w whole.status_is h)
on_out ws w written status out err h (inr cut) = inl (cut.status_is, inl cut.rose)

on_err : (ws : List ℕ) (w : ℕ) (written : List ℕ) (status : ℕ) (out err : Flow) → list_any (λ v. v == w) ws ≡ true → IsWritten w written status err → EndsWith ws status out err
unfolding EndsWith
on_err ws w written status out err h (inl whole) = inr (at ws status w whole.status_is h)
on_err ws w written status out err h (inr cut) = inl (cut.status_is, inr cut.rose)

low : (ws : List ℕ) (b : Bool) → list_any (λ v. v == cond {A = ℕ} b 0 1) (0 ∷ 1 ∷ 7 ∷ ws) ≡ true
low ws true = refl
low ws false = refl

on_either : (ws : List ℕ) (b : Bool) (written : List ℕ) (status : ℕ) (out err : Flow) → IsPrintedOr (cond b 0 1) written status out err → EndsWith (0 ∷ 1 ∷ 7 ∷ ws) status out err
on_either ws b written status out err (inl said) = on_out (0 ∷ 1 ∷ 7 ∷ ws) (cond b 0 1) written status out err (low ws b) said.0
on_either ws b written status out err (inr said) = on_err (0 ∷ 1 ∷ 7 ∷ ws) 7 _ status out err refl said.0

on_both : (ws : List ℕ) (first second : List ℕ) (status : ℕ) (out err : Flow) → list_any (λ v. v == 6) ws ≡ true → IsSaidThen 6 first second status out err → EndsWith ws status out err
unfolding EndsWith
on_both ws first second status out err h (inl (cut, silent)) = inl (cut.status_is, inl cut.rose)
on_both ws first second status out err h (inr (appended, written)) = on_err ws 6 second status out err h written

on_unkept : (lines cause : List ℕ) (status : ℕ) (out err : Flow) → IsSaidThenOr 6 lines cause status out err → EndsWith (0 ∷ 1 ∷ 7 ∷ 6 ∷ []) status out err
on_unkept lines cause status out err (inl both) = on_both (0 ∷ 1 ∷ 7 ∷ 6 ∷ []) lines cause status out err refl both
on_unkept lines cause status out err (inr said) = on_err (0 ∷ 1 ∷ 7 ∷ 6 ∷ []) 7 _ status out err refl said.0

recovered_with : (journal : List Entry) (answers : List (Option Answer)) (kept : KeptEnd) (status : ℕ) (out err : Flow) → IsRecoveredTold journal answers kept status out err
    → EndsWith (0 ∷ 1 ∷ 7 ∷ 6 ∷ []) status out err
recovered_with journal answers (Written W.Done) status out err told = on_either (6 ∷ []) (list_all is_well_so_far answers) (recovered_lines journal 1 answers) status out err told
recovered_with journal answers (Written W.TooLarge) status out err told = on_unkept (recovered_lines journal 1 answers) _ status out err told
recovered_with journal answers (Written W.Fault) status out err told = on_unkept (recovered_lines journal 1 answers) _ status out err told
recovered_with journal answers Changed status out err told = on_unkept (recovered_lines journal 1 answers) _ status out err told
recovered_with journal answers Fault status out err told = on_unkept (recovered_lines journal 1 answers) _ status out err told

rehearsed_with : (answers : List Answer) (found : Audit) (status : ℕ) (out err : Flow) (b : Bool) → (count_of Other answers == 0) ≡ b
    → IsPrintedOr (cond (count_of Other answers == 0) (found_status found) 1) (rehearsal_text answers found) status out err → EndsWith (0 ∷ 1 ∷ 7 ∷ []) status out err
rehearsed_with answers found status out err b e told =
    go b found (subst (λ (x : Bool). IsPrintedOr (cond x (found_status found) 1) (rehearsal_text answers found) status out err) e told)
  where
    go : (b : Bool) (f : Audit) → IsPrintedOr (cond b (found_status f) 1) (rehearsal_text answers found) status out err → EndsWith (0 ∷ 1 ∷ 7 ∷ []) status out err
    go true Legal t = on_either [] true _ status out err t
    go true (Wrong entry kind) t = on_either [] false _ status out err t
    go false f t = on_either [] false _ status out err t

walked_with : (written : List ℕ) (found : Audit) (status : ℕ) (out err : Flow) (b : Bool) → IsPrintedOr (cond b (found_status found) 1) written status out err
    → EndsWith (0 ∷ 1 ∷ 7 ∷ []) status out err
walked_with written Legal status out err true told = on_either [] true written status out err told
walked_with written (Wrong entry kind) status out err true told = on_either [] false written status out err told
walked_with written found status out err false told = on_either [] false written status out err told

ends_with : (left : Left) (status : ℕ) (out err : Flow) (end : End) → IsToldOf left status out err end → EndsWith (wanted_of end) status out err
unfolding wanted_of
ends_with left status out err Usage told = on_err (2 ∷ []) 2 _ status out err refl told.0
ends_with left status out err (Shown page) told = on_out (0 ∷ []) 0 _ status out err refl told.0
ends_with left status out err (Refused line reason) (inl said) = on_err (3 ∷ 7 ∷ []) 3 _ status out err refl said.0
ends_with left status out err (Refused line reason) (inr said) = on_err (3 ∷ 7 ∷ []) 7 _ status out err refl said.0
ends_with left status out err Memory told = on_err (7 ∷ []) 7 _ status out err refl told.0
ends_with left status out err Answered told = on_either [] (list_all is_well left.answers) _ status out err told
ends_with left status out err (Informed key) told = on_either [] (is_informed left.journal 1 key) _ status out err told
ends_with left status out err InputFailed told = on_err (4 ∷ []) 4 _ status out err refl told.0
ends_with left status out err (Done W.Done) told = on_either (6 ∷ []) (list_all is_well left.answers) _ status out err told
ends_with left status out err (Done W.TooLarge) told = on_unkept (answer_lines left.journal 1 left.answers) _ status out err told
ends_with left status out err (Done W.Fault) told = on_unkept (answer_lines left.journal 1 left.answers) _ status out err told
ends_with left status out err (BadKept line) (inl said) = on_err (6 ∷ 7 ∷ []) 6 _ status out err refl said.0
ends_with left status out err (BadKept line) (inr said) = on_err (6 ∷ 7 ∷ []) 7 _ status out err refl said.0
ends_with left status out err KeptTooLarge told = on_err (6 ∷ []) 6 _ status out err refl told.0
ends_with left status out err FileFailed told = on_err (6 ∷ []) 6 _ status out err refl told.0
ends_with left status out err (SetUp W.Done) told = on_out (0 ∷ 6 ∷ []) 0 _ status out err refl told.0
ends_with left status out err (SetUp W.TooLarge) told = on_both (0 ∷ 6 ∷ []) _ _ status out err refl told
ends_with left status out err (SetUp W.Fault) told = on_both (0 ∷ 6 ∷ []) _ _ status out err refl told
ends_with left status out err (NotSetUp answer) (inl said) = on_out (1 ∷ 7 ∷ []) 1 _ status out err refl said.0
ends_with left status out err (NotSetUp answer) (inr said) = on_err (1 ∷ 7 ∷ []) 7 _ status out err refl said.0
ends_with left status out err (Audited Legal) told = on_either [] true _ status out err told
ends_with left status out err (Audited (Wrong entry kind)) told = on_either [] false _ status out err told
ends_with left status out err (Rehearsed Legal) told = rehearsed_with left.answers Legal status out err (count_of Other left.answers == 0) refl told
ends_with left status out err (Rehearsed (Wrong entry kind)) told = rehearsed_with left.answers (Wrong entry kind) status out err (count_of Other left.answers == 0) refl told
ends_with left status out err (Walked tasks equal found) told = walked_with _ found status out err (is_walk_well tasks left.answers equal) told
ends_with left status out err Unbegun told = on_out (0 ∷ []) 0 _ status out err refl told.0
ends_with left status out err (Recovered answers kept) told = recovered_with left.journal answers.items kept status out err told

-- another status isn't met
apart : {A : Type 0} (ws : List ℕ) (status k : ℕ) (out err : Flow) → EndsWith ws status out err → (5 == k) ≡ false → list_any (λ w. w == k) ws ≡ false → status ≡ k → A
unfolding EndsWith
apart ws status k out err (inl (five, rose)) other none is = absurd (let bad : true ≡ false = ap (λ (s : ℕ). 5 == s) (sym five ∙ is) ∙ other in cc)
apart ws status k out err (inr is_of) other none is =
    absurd (let bad : true ≡ false = sym is_of ∙ ap (λ (s : ℕ). list_any (λ w. w == s) ws) is ∙ none in cc)

output_of : (ws : List ℕ) (status : ℕ) (out err : Flow) → EndsWith ws status out err → list_any (λ w. w == 5) ws ≡ false → status ≡ 5 → Rose out.faults out.faults' ⊎ Rose err.faults err.faults'
unfolding EndsWith
output_of ws status out err (inl (five, rose)) none is = rose
output_of ws status out err (inr is_of) none is =
    absurd (let bad : true ≡ false = sym is_of ∙ ap (λ (s : ℕ). list_any (λ w. w == s) ws) is ∙ none in cc)

none_five : (end : End) → list_any (λ w. w == 5) (wanted_of end) ≡ false
unfolding wanted_of
none_five Usage = refl
none_five (Shown page) = refl
none_five (Refused line reason) = refl
none_five Memory = refl
none_five Answered = refl
none_five (Informed key) = refl
none_five (BadKept line) = refl
none_five KeptTooLarge = refl
none_five FileFailed = refl
none_five InputFailed = refl
none_five (Done written) = refl
none_five (SetUp written) = refl
none_five (NotSetUp answer) = refl
none_five (Audited found) = refl
none_five (Rehearsed found) = refl
none_five (Walked tasks equal found) = refl
none_five Unbegun = refl
none_five (Recovered answers kept) = refl

or_seven : (ws : List ℕ) (status : ℕ) (out err : Flow) → EndsWith ws status out err → EndsWith (7 ∷ ws) status out err
unfolding EndsWith
or_seven ws status out err (inl h) = inl h
or_seven ws status out err (inr h) = inr (go (7 == status))
  where
    go : (b : Bool) → (b || list_any (λ w. w == status) ws) ≡ true
    go true = refl
    go false = h

seven_or : (ws : List ℕ) (status : ℕ) (out err : Flow) → EndsWith (7 ∷ []) status out err → EndsWith (7 ∷ ws) status out err
unfolding EndsWith
seven_or ws status out err (inl h) = inl h
seven_or ws status out err (inr h) = inr (go (7 == status) h)
  where
    go : (b : Bool) → (b || false) ≡ true → (b || list_any (λ w. w == status) ws) ≡ true
    go true e = refl
    go false e = never e

-- ---- what was written

stays : (t : Option (List ℕ)) → Stays t t
stays None = tt
stays (Some x) = refl

silent_appends : (f : Flow) → IsSilent f → Appends f.taken f.taken' []
silent_appends f h = subst (λ (t : Option (List ℕ)). Appends f.taken t []) (sym h.taken) (appends f.taken)

lacks : (status : ℕ) (written : List ℕ) (err : Flow) → IsWritten 7 written status err → LacksMemory status (Rose err.faults err.faults')
lacks status written err (inl whole) = inl whole.status_is
lacks status written err (inr cut) = inr (cut.status_is, cut.rose)

late : (status : ℕ) (R : Type 0) → LacksMemory status R → (status ≡ 5) ⊎ (status ≡ 7)
late status R (inl e) = inr e
late status R (inr e) = inl e.0

printed : (wanted : ℕ) (written : List ℕ) (status : ℕ) (out err : Flow) → IsPrintedOr wanted written status out err → IsPrinted status out.taken out.taken' written wanted
printed wanted written status out err (inl (inl whole, silent)) = inl (whole.status_is, whole.appended)
printed wanted written status out err (inl (inr cut, silent)) = inr (inl cut.status_is, (cut.size, cut.appended))
printed wanted written status out err (inr (memory, silent)) = inr (late status _ (lacks status _ err memory), (0, silent_appends out silent))

-- ---- check

one_line : (journal : List Entry) (answers : List Answer) (answer : Answer) → answers ≡ answer ∷ [] → answer_lines journal 1 answers ≡ answer_line journal 1 answer
one_line journal answers answer e = ap (answer_lines journal 1) e ∙ append-nil (answer_line journal 1 answer)

one_status : (answers : List Answer) (answer : Answer) → answers ≡ answer ∷ [] → answers_status answers ≡ status_of answer
one_status answers answer e = ap answers_status e ∙ go (is_well answer) refl
  where
    go : (b : Bool) → is_well answer ≡ b → answers_status (answer ∷ []) ≡ status_of answer
    go true h = rw h refl
    go false h = rw h refl

check_told : (left : Left) (status : ℕ) (out err : Flow) (end : End) → EndsCheck left end → IsToldOf left status out err end
    → IsTold status (Rose err.faults err.faults') out.taken out.taken' left.journal left.answers
check_told left status out err Answered (answer, is) told =
    inl (
      answer,
      is,
      subst (λ (l : List ℕ). IsPrinted status out.taken out.taken' l (status_of answer)) (one_line left.journal left.answers answer is.one)
          (subst (λ (w : ℕ). IsPrinted status out.taken out.taken' (answer_lines left.journal 1 left.answers) w) (one_status left.answers answer is.one)
          (printed (answers_status left.answers) (answer_lines left.journal 1 left.answers) status out err told)),
    )
check_told left status out err Memory none (written, silent) =
    inr record { none = none; silent = subst (λ (t : Option (List ℕ)). Stays out.taken t) (sym silent.taken) (stays out.taken); status_is = lacks status _ err written }
check_told left status out err end ends told = absurd ends

-- neither status 2 nor 3
NeitherIn : List ℕ → Type 0
NeitherIn ws = (list_any (λ w. w == 2) ws ≡ false) × (list_any (λ w. w == 3) ws ≡ false)

check_wanted : (left : Left) (end : End) → EndsCheck left end → NeitherIn (wanted_of end)
unfolding wanted_of NeitherIn
check_wanted left Answered ends = (refl, refl)
check_wanted left Memory ends = (refl, refl)
check_wanted left end ends = absurd ends

-- ---- info

info_told : (key : Option (List ℕ)) (left : Left) (status : ℕ) (out err : Flow) (end : InfoEnd) → EndsInfo key left.journal end → IsToldOf left status out err (end_of_info end)
    → IsInfoTold status out.taken out.taken' key left.journal
info_told key left status out err (I.Asked k) (same, complete) told = record {
  printed = subst (λ (x : Option (List ℕ)). IsPrinted status out.taken out.taken' (text (info_lines left.journal x)) (info_status left.journal x)) same
      (printed (info_status left.journal k) (text (info_lines left.journal k)) status out err told);
  complete = λ small. complete;
}
info_told key left status out err I.Memory ends (written, silent) = record {
  printed = inr (late status _ (lacks status _ err written), (0, silent_appends out silent));
  complete = λ small. too_late status (late status _ (lacks status _ err written)) small;
}
  where
    too_late : {A : Type 0} (s : ℕ) → (s ≡ 5) ⊎ (s ≡ 7) → (s ≡ 0) ⊎ (s ≡ 1) → A
    too_late s (inl a) (inl b) = absurd (let bad : 5 ≡ 0 = sym a ∙ b in cc)
    too_late s (inl a) (inr b) = absurd (let bad : 5 ≡ 1 = sym a ∙ b in cc)
    too_late s (inr a) (inl b) = absurd (let bad : 7 ≡ 0 = sym a ∙ b in cc)
    too_late s (inr a) (inr b) = absurd (let bad : 7 ≡ 1 = sym a ∙ b in cc)
info_told key left status out err (I.Refused reason) ends told = absurd ends

info_wanted : (key : Option (List ℕ)) (journal : List Entry) (end : InfoEnd) → EndsInfo key journal end → NeitherIn (wanted_of (end_of_info end))
unfolding wanted_of NeitherIn
info_wanted key journal (I.Asked k) ends = (refl, refl)
info_wanted key journal I.Memory ends = (refl, refl)
info_wanted key journal (I.Refused reason) ends = absurd ends

-- ---- init

init_wanted : (end : InitEnd) → NeitherIn (wanted_of (end_of_init end))
unfolding wanted_of NeitherIn
init_wanted (N.BadKept line) = (refl, refl)
init_wanted N.KeptTooLarge = (refl, refl)
init_wanted N.FileFailed = (refl, refl)
init_wanted (N.SetUp written) = (refl, refl)
init_wanted (N.NotSetUp answer) = (refl, refl)
init_wanted N.Memory = (refl, refl)

-- ---- run

run_wanted : (end : RunEnd) → list_any (λ w. w == 2) (wanted_of (end_of end)) ≡ false
unfolding wanted_of
run_wanted (R.BadKept line) = refl
run_wanted R.KeptTooLarge = refl
run_wanted R.FileFailed = refl
run_wanted R.InputFailed = refl
run_wanted (R.Refused line reason) = refl
run_wanted R.Memory = refl
run_wanted (R.Done written) = refl

-- ---- audit

audit_wanted : (outcome : Result Audit AuditError) → list_any (λ w. w == 2) (wanted_of (end_of_audit outcome)) ≡ false
unfolding wanted_of
audit_wanted (Ok found) = refl
audit_wanted (Err (A.Entry line)) = refl
audit_wanted (Err (A.Cut line)) = refl
audit_wanted (Err A.Failed) = refl
audit_wanted (Err A.NoMemory) = refl

-- ---- recover

recovery_wanted : (end : RecoverEnd) → list_any (λ w. w == 2) (wanted_of (end_of_recovery end)) ≡ false
unfolding wanted_of
recovery_wanted V.FileFailed = refl
recovery_wanted V.TextTooLarge = refl
recovery_wanted (V.Refused line) = refl
recovery_wanted V.Memory = refl
recovery_wanted V.Unbegun = refl
recovery_wanted (V.Wrong misplaced) = refl
recovery_wanted (V.Answered answers kept) = refl

-- ---- rehearse

rehearsal_wanted : (end : RehearsalEnd) → NeitherIn (wanted_of (end_of_rehearsal end))
unfolding wanted_of NeitherIn
rehearsal_wanted M.Memory = (refl, refl)
rehearsal_wanted (M.Done found) = (refl, refl)

walk_wanted : (tasks : ℕ) (end : WalkEnd) → NeitherIn (wanted_of (end_of_walk tasks end))
unfolding wanted_of NeitherIn
walk_wanted tasks (K.Done equal found) = (refl, refl)
walk_wanted tasks K.Memory = (refl, refl)

-- ---- the objects

made_none : (xs : Option (List Made)) → HaveMade xs xs []
made_none None = tt
made_none (Some xs) = ([], sym (append-nil xs), refl)

made_still : (old new : Option (List Made)) (tables : List DeskTold) → new ≡ old → tables ≡ [] → HaveMade old new tables
made_still old new tables e t = subst (λ (x : Option (List Made)). HaveMade old x tables) (sym e) (subst (λ (x : List DeskTold). HaveMade old old x) (sym t) (made_none old))

-- one desk was asked for
made_one : (old new : Option (List Made)) (m : Made) (table : DeskTold) (tables : List DeskTold) → m.number ≡ 0 → AddsOne old new m → tables ≡ table ∷ [] → HaveMade old new tables
made_one old new m table tables zero a e = subst (λ (x : List DeskTold). HaveMade old new x) (sym e) (go old new a)
  where
    go : (old new : Option (List Made)) → AddsOne old new m → HaveMade old new (table ∷ [])
    go None None a = tt
    go None (Some ys) a = absurd a
    go (Some xs) None a = absurd a
    go (Some xs) (Some ys) a = (m ∷ [], a, ap (λ (n : ℕ). n ∷ []) zero)

-- desk 0 was asked for, and then desk 1
made_two : (old between new : Option (List Made)) (m n : Made) (first second : DeskTold) (tables : List DeskTold) → m.number ≡ 0 → n.number ≡ 1 → AddsOne old between m → AddsOne between new n
    → tables ≡ first ∷ second ∷ [] → HaveMade old new tables
made_two old between new m n first second tables zero one a b e = subst (λ (x : List DeskTold). HaveMade old new x) (sym e) (go old between new a b)
  where
    go : (old between new : Option (List Made)) → AddsOne old between m → AddsOne between new n → HaveMade old new (first ∷ second ∷ [])
    go None None None a b = tt
    go None None (Some zs) a b = absurd b
    go None (Some ys) new a b = absurd a
    go (Some xs) None new a b = absurd a
    go (Some xs) (Some ys) None a b = absurd b
    go (Some xs) (Some ys) (Some zs) a b = (
      m ∷ n ∷ [],
      b ∙ ap (λ (l : List Made). l ++ n ∷ []) a ∙ append_assoc xs (m ∷ []) (n ∷ []),
      ap (λ (k : ℕ). k ∷ n.number ∷ []) zero ∙ ap (λ (k : ℕ). 0 ∷ k ∷ []) one,
    )

-- desk 0 was asked for, and then those of the workers
made_more : (old new : Option (List Made)) (told : Option Files) (table : DeskTold) (workers : List DeskTold) (more : List Made) (tables : List DeskTold) → tables ≡ table ∷ workers
    → AddsMade old new (record { number = 0; files = told } ∷ more) → map (λ (m : Made). m.number) more ≡ range_with_len 1 (length workers) → HaveMade old new tables
made_more old new told table workers more tables e a numbers = subst (λ (x : List DeskTold). HaveMade old new x) (sym e) (go old new a)
  where
    go : (old new : Option (List Made)) → AddsMade old new (record { number = 0; files = told } ∷ more) → HaveMade old new (table ∷ workers)
    go None None a = tt
    go None (Some ys) a = absurd a
    go (Some xs) None a = absurd a
    go (Some xs) (Some ys) a = (record { number = 0; files = told } ∷ more, a, ap (λ (ns : List ℕ). 0 ∷ ns) numbers)

wanting : (left : Left) (status : ℕ) (out err : Flow) (end : End) → IsToldOf left status out err end → end ≡ Memory → LacksMemory status (Rose err.faults err.faults')
wanting left status out err end told e = lacks status _ err (subst (λ (x : End). IsToldOf left status out err x) e told).0

started : (left : Left) (status : ℕ) (out err : Flow) (end : End) (program : List ℕ) (before : OutsideValue) → IsToldOf left status out err end
    → HaveStarted (end ≡ Memory) program left.journal before.programs.starts left.outside.programs.starts
    → HaveStarted (LacksMemory status (Rose err.faults err.faults')) program left.journal before.programs.starts left.outside.programs.starts
started left status out err end program before told (inl all) = inl all
started left status out err end program before told (inr more) = inr (wanting left status out err end told more.0, more.1)

-- ---- the call

-- of a key that isn't refused this is said, and of one that is nothing
if_fit : {X : Type 0} (P : X → Type 0) (o : Option Reason) (x : X) → o ≡ None → P x → IfSome (unless o x) P
if_fit P None x e p = p
if_fit P (Some reason) x e p = absurd cc

if_unfit : {X : Type 0} (P : X → Type 0) (o : Option Reason) (x : X) (reason : Reason) → o ≡ Some reason → IfSome (unless o x) P
if_unfit P None x reason e = absurd cc
if_unfit P (Some r) x reason e = tt

no_reason : {A : Type 0} (o : Option Reason) → o ≡ None → IsSome o → A
no_reason o e some = never (subst (λ (x : Option Reason). IsSome x) e some)

some_reason : (o : Option Reason) (reason : Reason) → o ≡ Some reason → IsSome o
some_reason o reason e = subst (λ (x : Option Reason). IsSome x) (sym e) refl

run_at_all : {A : Type 0} (o : Option Reason) (program : List ℕ) → o ≡ None → unless o program ≡ None → A
run_at_all None program e none = absurd cc
run_at_all (Some reason) program e none = absurd cc

some_none : {A X : Type 0} (x : X) → Some x ≡ None → A
some_none x e = absurd cc

two_five_seven : (status : ℕ) (out err : Flow) → EndsWith (7 ∷ 2 ∷ []) status out err → (status ≡ 2) ⊎ (status ≡ 5) ⊎ (status ≡ 7)
unfolding EndsWith
two_five_seven status out err (inl x) = inr (inl x.0)
two_five_seven status out err (inr x) = go (7 == status) (2 == status) refl refl x
  where
    go : (a b : Bool) → (7 == status) ≡ a → (2 == status) ≡ b → (a || (b || false)) ≡ true → (status ≡ 2) ⊎ (status ≡ 5) ⊎ (status ≡ 7)
    go true b e f y = inr (inr (sym (same_number 7 status e)))
    go false true e f y = inl (sym (same_number 2 status f))
    go false false e f y = never y

three_five_seven : (status : ℕ) (out err : Flow) → EndsWith (7 ∷ 3 ∷ 7 ∷ []) status out err → (status ≡ 3) ⊎ (status ≡ 5) ⊎ (status ≡ 7)
unfolding EndsWith
three_five_seven status out err (inl h) = inr (inl h.0)
three_five_seven status out err (inr h) = go (7 == status) (3 == status) refl refl h
  where
    go : (a b : Bool) → (7 == status) ≡ a → (3 == status) ≡ b → (a || (b || (a || false))) ≡ true → (status ≡ 3) ⊎ (status ≡ 5) ⊎ (status ≡ 7)
    go true b e f h = inr (inr (sym (same_number 7 status e)))
    go false true e f h = inl (sym (same_number 3 status f))
    go false false e f h = never h

module _ (clock : Option ℕ) (before : OutsideValue) (input : InputFlow) (left : Left) (end : End) (status : ℕ) (out err : Flow) (told : IsToldOf left status out err end) where
  abbrev whole : RanValue
  whole = record { left = left; end = end }

  ends : EndsWith (wanted_of end) status out err
  ends = ends_with left status out err end told

  output : status ≡ 5 → Rose out.faults out.faults' ⊎ Rose err.faults err.faults'
  output = output_of (wanted_of end) status out err ends (none_five end)

  -- nothing was done, or no memory was found for it
  ends_as : (e : End) → (end ≡ e) ⊎ (end ≡ Memory) → EndsWith (7 ∷ wanted_of e) status out err
  unfolding wanted_of
  ends_as e (inl same) = or_seven (wanted_of e) status out err (subst (λ (x : End). EndsWith (wanted_of x) status out err) same ends)
  ends_as e (inr same) = seven_or (wanted_of e) status out err (subst (λ (x : End). EndsWith (wanted_of x) status out err) same ends)

  idle_desks : IsIdle before left → HaveMade before.made left.outside.made left.tables
  idle_desks idle = made_still before.made left.outside.made left.tables (ap (λ (o : OutsideValue). o.made) idle.outside) idle.tables

  abbrev Called : Option Command → Type 0
  Called wish = IsCalled (record { clock = clock; before = before; input = input; out = out; err = err }) wish status left

  pub called_unknown : ComesToNothing before whole Usage → Called None
  unfolding wanted_of
  called_unknown h = record {
    usage = λ s. refl;
    words = λ none. two_five_seven status out err (ends_as Usage h.end_is);
    refused = λ s. apart (7 ∷ 2 ∷ []) status 3 out err (ends_as Usage h.end_is) refl refl s;
    key = λ some. never some;
    early = λ none other still more. h.idle;
    output = output;
    checked = tt;
    told = tt;
    informed = tt;
    info_told = tt;
    init = tt;
    run = tt;
    audit = λ same. other_words None refl same;
    recovery = tt;
    rehearsal = tt;
    walk = tt;
    wires = tt;
    starts = tt;
    faults = tt;
    desks = idle_desks h.idle;
  }

  pub called_text : (page : Page) → ComesToNothing before whole (Shown page) → Called (Some (Show page))
  unfolding wanted_of
  called_text page h = record {
    usage = λ s. apart (7 ∷ 0 ∷ []) status 2 out err (ends_as (Shown page) h.end_is) refl refl s;
    words = λ none. some_none (Show page) none;
    refused = λ s. apart (7 ∷ 0 ∷ []) status 3 out err (ends_as (Shown page) h.end_is) refl refl s;
    key = λ some. never some;
    early = λ none other still more. h.idle;
    output = output;
    checked = tt;
    told = tt;
    informed = tt;
    info_told = tt;
    init = tt;
    run = tt;
    audit = λ same. other_words (Some (Show page)) refl same;
    recovery = tt;
    rehearsal = tt;
    walk = tt;
    wires = tt;
    starts = tt;
    faults = tt;
    desks = idle_desks h.idle;
  }

  pub called_check : (program key : List ℕ) → UnlessRefused (reason_refused key) before whole (HasChecked clock program key before whole) → Called (Some (Check program key))
  unfolding wanted_of NeitherIn
  called_check program key h = go (reason_refused key) refl h
    where
      go : (r : Option Reason) → reason_refused key ≡ r → UnlessRefused r before whole (HasChecked clock program key before whole) → Called (Some (Check program key))
      go None e h =
          let none = check_wanted left end h.ends in
          record {
            usage = λ s. apart (wanted_of end) status 2 out err ends refl none.0 s;
            words = λ no. some_none (Check program key) no;
            refused = λ s. apart (wanted_of end) status 3 out err ends refl none.1 s;
            key = λ some. no_reason (reason_refused key) e some;
            early = λ no other still more. run_at_all (reason_refused key) program e no;
            output = output;
            checked = if_fit _ (reason_refused key) (program, key) e h.checked;
            told = if_fit _ (reason_refused key) (program, key) e (check_told left status out err end h.ends told);
            informed = tt;
            info_told = tt;
            init = tt;
            run = tt;
            audit = λ same. other_words (Some (Check program key)) refl same;
            recovery = tt;
            rehearsal = tt;
            walk = tt;
            wires = if_fit _ (reason_refused key) program e h.objects.wired;
            starts = if_fit _ (reason_refused key) program e (started left status out err end program before told h.objects.started);
            faults = if_fit _ (reason_refused key) program e h.objects.faults;
            desks = made_still before.made left.outside.made left.tables h.desks.made h.desks.tables;
          }
      go (Some reason) e h =
          let refused_so = ends_as (Refused 1 reason) h.end_is in
          record {
            usage = λ s. apart (7 ∷ 3 ∷ 7 ∷ []) status 2 out err refused_so refl refl s;
            words = λ no. some_none (Check program key) no;
            refused = λ s. inl (some_reason (reason_refused key) reason e);
            key = λ some. three_five_seven status out err refused_so;
            early = λ none other still more. h.idle;
            output = output;
            checked = if_unfit _ (reason_refused key) (program, key) reason e;
            told = if_unfit _ (reason_refused key) (program, key) reason e;
            informed = tt;
            info_told = tt;
            init = tt;
            run = tt;
            audit = λ same. other_words (Some (Check program key)) refl same;
            recovery = tt;
            rehearsal = tt;
            walk = tt;
            wires = if_unfit _ (reason_refused key) program reason e;
            starts = if_unfit _ (reason_refused key) program reason e;
            faults = if_unfit _ (reason_refused key) program reason e;
            desks = idle_desks h.idle;
          }

  pub called_info : (program : List ℕ) (key : Option (List ℕ)) → UnlessRefused (refusal_if key) before whole (HasInformed program key before whole) → Called (Some (Info program key))
  unfolding wanted_of NeitherIn
  called_info program key h = go (refusal_if key) refl h
    where
      go : (r : Option Reason) → refusal_if key ≡ r → UnlessRefused r before whole (HasInformed program key before whole) → Called (Some (Info program key))
      go None e h =
          let none : NeitherIn (wanted_of end) = subst (λ (x : End). NeitherIn (wanted_of x)) (sym h.end_is) (info_wanted key left.journal h.end h.made.ends) in
          let objects : Leaves (end ≡ Memory) program left.journal before.programs left.outside.programs left.wires = leaves_as (λ (memory : h.end ≡ I.Memory). h.end_is ∙ ap end_of_info memory) refl refl h.made.objects in
          record {
            usage = λ s. apart (wanted_of end) status 2 out err ends refl none.0 s;
            words = λ no. some_none (Info program key) no;
            refused = λ s. apart (wanted_of end) status 3 out err ends refl none.1 s;
            key = λ some. no_reason (refusal_if key) e some;
            early = λ no other still more. run_at_all (refusal_if key) program e no;
            output = output;
            checked = tt;
            told = tt;
            informed = if_fit _ (refusal_if key) (program, key) e h.made.informed;
            info_told = if_fit _ (refusal_if key) (program, key) e (info_told key left status out err h.end h.made.ends (subst (λ (x : End). IsToldOf left status out err x) h.end_is told), h.none);
            init = tt;
            run = tt;
            audit = λ same. other_words (Some (Info program key)) refl same;
            recovery = tt;
            rehearsal = tt;
            walk = tt;
            wires = if_fit _ (refusal_if key) program e objects.wired;
            starts = if_fit _ (refusal_if key) program e (started left status out err end program before told objects.started);
            faults = if_fit _ (refusal_if key) program e objects.faults;
            desks = made_still before.made left.outside.made left.tables h.desks.made h.desks.tables;
          }
      go (Some reason) e h =
          let refused_so = ends_as (Refused 1 reason) h.end_is in
          record {
            usage = λ s. apart (7 ∷ 3 ∷ 7 ∷ []) status 2 out err refused_so refl refl s;
            words = λ no. some_none (Info program key) no;
            refused = λ s. inl (some_reason (refusal_if key) reason e);
            key = λ some. three_five_seven status out err refused_so;
            early = λ none other still more. h.idle;
            output = output;
            checked = tt;
            told = tt;
            informed = if_unfit _ (refusal_if key) (program, key) reason e;
            info_told = if_unfit _ (refusal_if key) (program, key) reason e;
            init = tt;
            run = tt;
            audit = λ same. other_words (Some (Info program key)) refl same;
            recovery = tt;
            rehearsal = tt;
            walk = tt;
            wires = if_unfit _ (refusal_if key) program reason e;
            starts = if_unfit _ (refusal_if key) program reason e;
            faults = if_unfit _ (refusal_if key) program reason e;
            desks = idle_desks h.idle;
          }

  called_init : (words : InitWords) → HasSetUp words before whole → Called (Some (Init words))
  unfolding wanted_of NeitherIn
  called_init words h =
      let none : NeitherIn (wanted_of end) = subst (λ (x : End). NeitherIn (wanted_of x)) (sym h.end_is) (init_wanted h.end) in
      let objects = left_of h.made in
      record {
        usage = λ s. apart (wanted_of end) status 2 out err ends refl none.0 s;
        words = λ no. some_none (Init words) no;
        refused = λ s. apart (wanted_of end) status 3 out err ends refl none.1 s;
        key = λ some. never some;
        early = λ no other still more. some_none words.program no;
        output = output;
        checked = tt;
        told = tt;
        informed = tt;
        info_told = tt;
        init = (end, h, told);
        run = tt;
        audit = λ same. other_words (Some (Init words)) refl same;
        recovery = tt;
        rehearsal = tt;
        walk = tt;
        wires = objects.wired;
        starts = started left status out err end words.program before told objects.started;
        faults = objects.faults;
        desks = desks h.made;
      }
    where
      left_of : IsMadeSo words before left.outside (set_up_in left h.end) → Leaves (end ≡ Memory) words.program left.journal before.programs left.outside.programs left.wires
      left_of (inl (memory, idle)) = leaves_nothing _ before.programs left.outside.programs words.program left.journal left.wires (ap (λ (o : OutsideValue). o.programs) idle.outside) idle.journal idle.wires
      left_of (inr d) = leaves_as (λ (memory : h.end ≡ N.Memory). h.end_is ∙ ap end_of_init memory) refl refl d.objects

      desks : IsMadeSo words before left.outside (set_up_in left h.end) → HaveMade before.made left.outside.made left.tables
      desks (inl (memory, idle)) = made_still before.made left.outside.made left.tables (ap (λ (o : OutsideValue). o.made) idle.outside) idle.tables
      desks (inr d) = made_one before.made left.outside.made (record { number = 0; files = d.told }) d.table left.tables refl d.made d.tables

  called_run : (words : RunWords) → HasRun words clock before input whole → Called (Some (Run words))
  called_run words (e, h, same) =
      let objects = left_of h in
      record {
        usage = λ s. apart (wanted_of end) status 2 out err ends refl (subst (λ (x : End). list_any (λ w. w == 2) (wanted_of x) ≡ false) (sym same) (run_wanted e)) s;
        words = λ no. some_none (Run words) no;
        refused = λ s. inr (inl refl);
        key = λ some. never some;
        early = λ no other still more. some_none words.program no;
        output = output;
        checked = tt;
        told = tt;
        informed = tt;
        info_told = tt;
        init = tt;
        run = (e, h, subst (λ (x : End). IsToldOf left status out err x) same told);
        audit = λ same. other_words (Some (Run words)) refl same;
        recovery = tt;
        rehearsal = tt;
        walk = tt;
        wires = objects.wired;
        starts = started left status out err end words.program before told objects.started;
        faults = objects.faults;
        desks = desks h;
      }
    where
      left_of : HasDone words clock before input left.outside (made_in left e) → Leaves (end ≡ Memory) words.program left.journal before.programs left.outside.programs left.wires
      left_of (inl (memory, idle)) = leaves_nothing _ before.programs left.outside.programs words.program left.journal left.wires (ap (λ (o : OutsideValue). o.programs) idle.outside) idle.journal idle.wires
      left_of (inr d) = leaves_as (λ (memory : e ≡ R.Memory). same ∙ ap end_of memory) refl refl d.objects

      desks : HasDone words clock before input left.outside (made_in left e) → HaveMade before.made left.outside.made left.tables
      desks (inl (memory, idle)) = made_still before.made left.outside.made left.tables (ap (λ (o : OutsideValue). o.made) idle.outside) idle.tables
      desks (inr d) = made_more before.made left.outside.made d.told d.table d.workers d.more left.tables d.tables d.desks d.numbers

  called_audit : HasAudited before input whole → Called (Some AuditWord)
  called_audit h = record {
    usage = λ s. apart (wanted_of end) status 2 out err ends refl (subst (λ (x : End). list_any (λ w. w == 2) (wanted_of x) ≡ false) (sym h.end_is) (audit_wanted h.outcome)) s;
    words = λ no. some_none AuditWord no;
    refused = λ s. inr (inr (inl refl));
    key = λ some. never some;
    early = λ none other still more. h.idle;
    output = output;
    checked = tt;
    told = tt;
    informed = tt;
    info_told = tt;
    init = tt;
    run = tt;
    recovery = tt;
    rehearsal = tt;
    walk = tt;
    audit = λ same. (h.outcome, h.audit, h.idle, subst (λ (x : End). IsToldOf left status out err x) h.end_is told);
    wires = tt;
    starts = tt;
    faults = tt;
    desks = idle_desks h.idle;
  }

  called_recovery : (names : RecoverNames) → IsUnread input × HasRecovered names before whole → Called (Some (Recover names.journal names.keep))
  called_recovery names (unread, h) = record {
    usage = λ s. apart (wanted_of end) status 2 out err ends refl (subst (λ (x : End). list_any (λ w. w == 2) (wanted_of x) ≡ false) (sym h.end_is) (recovery_wanted h.end)) s;
    words = λ no. some_none (Recover names.journal names.keep) no;
    refused = λ s. inr (inr (inr refl));
    key = λ some. never some;
    early = λ none other still more. some_none names more;
    output = output;
    checked = tt;
    told = tt;
    informed = tt;
    info_told = tt;
    init = tt;
    run = tt;
    audit = λ same. other_words (Some (Recover names.journal names.keep)) refl same;
    recovery = (end, h, unread, told);
    rehearsal = tt;
    walk = tt;
    wires = tt;
    starts = tt;
    faults = tt;
    desks = desks h.made;
  }
    where
      desks : IsRecoveredSo names before.made left.outside.made (recovered_in left h.end) → HaveMade before.made left.outside.made left.tables
      desks (inl idle) = made_still before.made left.outside.made left.tables idle.desks idle.tables
      desks (inr (inl one)) = made_one before.made left.outside.made (record { number = 0; files = one.table.files }) one.table left.tables refl one.desks one.tables
      desks (inr (inr both)) =
          made_two before.made both.between left.outside.made (record { number = 0; files = both.d.told }) (record { number = 1; files = both.d.read }) both.d.keeper both.d.reader left.tables refl
          refl both.first both.second both.tables

  called_rehearsal : (seed tasks : ℕ) → IsUnread input × HasRehearsed seed tasks before whole → Called (Some (Rehearse seed tasks))
  unfolding wanted_of NeitherIn
  called_rehearsal seed tasks (unread, h) =
      let none : NeitherIn (wanted_of end) = subst (λ (x : End). NeitherIn (wanted_of x)) (sym h.end_is) (rehearsal_wanted h.end) in
      record {
        usage = λ s. apart (wanted_of end) status 2 out err ends refl none.0 s;
        words = λ no. some_none (Rehearse seed tasks) no;
        refused = λ s. apart (wanted_of end) status 3 out err ends refl none.1 s;
        key = λ some. never some;
        early = λ no other still more. some_none {X = ℕ × ℕ} (seed, tasks) other;
        output = output;
        checked = tt;
        told = tt;
        informed = tt;
        info_told = tt;
        init = tt;
        run = tt;
        audit = λ same. other_words (Some (Rehearse seed tasks)) refl same;
        recovery = tt;
        rehearsal = (h.end, h.made, h.untouched, unread, subst (λ (x : End). IsToldOf left status out err x) h.end_is told);
        walk = tt;
        wires = tt;
        starts = tt;
        faults = tt;
        desks = made_still before.made left.outside.made left.tables (ap (λ (o : OutsideValue). o.made) h.untouched.outside) h.untouched.tables;
      }

  called_walk : (seed tasks : ℕ) → IsUnread input × WalksTasks seed tasks before whole → Called (Some (Walk seed tasks))
  unfolding wanted_of NeitherIn
  called_walk seed tasks (unread, h) =
      let none : NeitherIn (wanted_of end) = subst (λ (x : End). NeitherIn (wanted_of x)) (sym h.end_is) (walk_wanted tasks h.end) in
      record {
        usage = λ s. apart (wanted_of end) status 2 out err ends refl none.0 s;
        words = λ no. some_none (Walk seed tasks) no;
        refused = λ s. apart (wanted_of end) status 3 out err ends refl none.1 s;
        key = λ some. never some;
        early = λ no other still more. some_none {X = ℕ × ℕ} (seed, tasks) still;
        output = output;
        checked = tt;
        told = tt;
        informed = tt;
        info_told = tt;
        init = tt;
        run = tt;
        audit = λ same. other_words (Some (Walk seed tasks)) refl same;
        recovery = tt;
        rehearsal = tt;
        walk = (h.end, h.ends, h.untouched, unread, subst (λ (x : End). IsToldOf left status out err x) h.end_is told);
        wires = tt;
        starts = tt;
        faults = tt;
        desks = made_still before.made left.outside.made left.tables (ap (λ (o : OutsideValue). o.made) h.untouched.outside) h.untouched.tables;
      }

  called_left : (wish : Option Command) → Runs clock before input wish whole → Called wish
  called_left None h = called_unknown h
  called_left (Some (Show page)) h = called_text page h
  called_left (Some (Check program key)) h = called_check program key h
  called_left (Some (Info program key)) h = called_info program key h
  called_left (Some (Init words)) h = called_init words h
  called_left (Some (Run words)) h = called_run words h
  called_left (Some AuditWord) h = called_audit h
  called_left (Some (Recover journal keep)) h = called_recovery (record { journal = journal; keep = keep }) h
  called_left (Some (Rehearse seed tasks)) h = called_rehearsal seed tasks h
  called_left (Some (Walk seed tasks)) h = called_walk seed tasks h

pub done : (w : World) (wish : Option Command) (ran : RanValue) (left : Left) (status : ℕ) → left ≡ ran.left → Runs w.clock w.before w.input wish ran
    → IsToldOf ran.left status w.out w.err ran.end → IsDone w wish status left
done w wish ran left status e runs told = subst (λ (l : Left). IsDone w wish status l) (sym e) (ran.end, runs, told)

-- what follows of what was done
pub called : (w : World) (wish : Option Command) (status : ℕ) (left : Left) → IsDone w wish status left → IsCalled w wish status left
called w wish status left d = called_left w.clock w.before w.input left d.0 status w.out w.err d.2 wish d.1

-- ---- the answers are few

none_few : (left : Left) → left.answers ≡ [] → length left.answers ≤ 65536
none_few left e = let z : length left.answers ≡ 0 = ap (λ (xs : List Answer). length xs) e in omega arith

answered_few : (left : Left) (end : End) → EndsCheck left end → length left.answers ≤ 65536
answered_few left Answered (answer, is) = let e : length left.answers ≡ 1 = ap (λ (xs : List Answer). length xs) is.one in omega arith
answered_few left Memory none = none_few left none
answered_few left end ends = absurd ends

pub few : (clock : Option ℕ) (before : OutsideValue) (input : InputFlow) (wish : Option Command) (ran : RanValue) → IfSome wish HasRanges → Runs clock before input wish ran → length ran.left.answers ≤ 65536
few clock before input None ran ranges h = none_few ran.left h.idle.answers
few clock before input (Some (Show page)) ran ranges h = none_few ran.left h.idle.answers
few clock before input (Some (Check program key)) ran ranges h = go (reason_refused key) h
  where
    go : (r : Option Reason) → UnlessRefused r before ran (HasChecked clock program key before ran) → length ran.left.answers ≤ 65536
    go None h = answered_few ran.left ran.end h.ends
    go (Some reason) h = none_few ran.left h.idle.answers
few clock before input (Some (Info program key)) ran ranges h = go (refusal_if key) h
  where
    go : (r : Option Reason) → UnlessRefused r before ran (HasInformed program key before ran) → length ran.left.answers ≤ 65536
    go None h = none_few ran.left h.none
    go (Some reason) h = none_few ran.left h.idle.answers
few clock before input (Some (Init words)) ran ranges h = none_few ran.left h.none
few clock before input (Some (Run words)) ran ranges (end, h, same) = few_done words clock before input ran.left.outside (made_in ran.left end) h
few clock before input (Some AuditWord) ran ranges h = none_few ran.left h.idle.answers
few clock before input (Some (Recover journal keep)) ran ranges h = none_few ran.left h.1.answers
few clock before input (Some (Rehearse seed tasks)) ran ranges h = few_rehearsed seed tasks ran.left.journal ran.left.answers h.1.end ranges.2 h.1.made
few clock before input (Some (Walk seed tasks)) ran ranges h = few_walked seed tasks ran.left.journal ran.left.answers h.1.end ranges.2 h.1.ends
