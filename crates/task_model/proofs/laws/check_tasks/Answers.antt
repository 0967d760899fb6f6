use Rattle.std.proofs.Common.{◌≡◌, ◌⊎◌, List, [], ◌∷◌, ◌++◌, refl, sym, ap, subst, ◌∙◌, Some, None, inl, inr, false}
use Rattle.journal_model.specs.declared.answer.Answer.{Answer}
use Rattle.journal_model.specs.declared.answer.Answer.TheVariants.{Present, StartFault, Memory, NotPrepared, Ended as EndedAnswer}
use Rattle.journal_model.specs.declared.entry.What.TheVariants.{Claim, NoStart, Start, Got, End, Verdict as Settled, Answer as Answered}
use Rattle.journal_model.specs.declared.verdict.Why.TheVariants.{Eof, Closed}
use Rattle.journal_model.specs.declared.entry.Entry.{Entry}
use Rattle.journal_model.specs.Journal.{each_of}
use Rattle.journal_model.specs.declared.verdict.Verdict.TheVariants.{Failed, Unsupported}
use Rattle.std.specs.Prelude.{codes}
use Rattle.journal_model.specs.Rows.{by_main, introduced}
use Rattle.std.specs.List.{last_or}
use Rattle.task_model.specs.TaskRuns.{ChildZero, came_of, failed_start}
use Rattle.task_model.proofs.laws.check_tasks.Goals as goal

pub returns-clause-present : goal.returns-clause-present
returns-clause-present c = (refl, inr refl)

pub returns-clause-startfault : goal.returns-clause-startfault
returns-clause-startfault c = (refl, inr record { past = by_main (NoStart 0) ∷ []; rest = []; by = 0; claim = refl; why = refl })

pub returns-clause-ended : goal.returns-clause-ended
returns-clause-ended c = (refl, inr record { past = by_main (Start 1 0 false) ∷ by_main (End 1 Eof) ∷ []; rest = []; by = 0; claim = refl; why = refl })

pub returns-clause-refused : goal.returns-clause-refused
returns-clause-refused c = (
  refl,
  inr record {
    past = introduced ++ by_main (Got 1 (codes "PREPARE-FAILURE no disk")) ∷ by_main (Settled 1 1 (Failed 8)) ∷ [];
    rest = by_main (Answered 1 (NotPrepared 8)) ∷ by_main (End 1 Closed) ∷ [];
    by = 0;
    claim = refl;
    why = refl;
  },
)

pub returns-clause-unsupported : goal.returns-clause-unsupported
returns-clause-unsupported c = (
  refl,
  inr record {
    past = introduced ++ by_main (Got 1 (codes "UNSUPPORTED-REQUEST")) ∷ by_main (Settled 1 1 (Unsupported 8)) ∷ by_main (End 1 Eof) ∷ [];
    rest = [];
    by = 0;
    claim = refl;
    why = refl;
  },
)

pub returns-clause-memory : goal.returns-clause-memory
returns-clause-memory c = (refl, inl refl)

pub returns-clause-unclaimed : goal.returns-clause-unclaimed
returns-clause-unclaimed c = λ h. h

too_long : (xs ys : List Entry) (x : Entry) → [] ≡ xs ++ x ∷ ys → ⊥
too_long [] ys x e = cc
too_long (y ∷ xs) ys x e = cc

-- the one start failed, so the answer is that
start_failed : (past rest : List Entry) (claim : Entry) (answer : Answer) → by_main (NoStart 0) ∷ by_main (Claim 1 0) ∷ [] ≡ past ++ claim ∷ rest
    → failed_start past (last_or None (each_of (came_of 0) past)) ≡ Some answer → answer ≡ StartFault
start_failed [] rest claim answer is why = absurd cc
start_failed (p ∷ []) rest claim answer is why =
    let first : p ≡ by_main (NoStart 0) = cc in
    let said : Some StartFault ≡ Some answer = subst (λ (e : Entry). failed_start (e ∷ []) (last_or None (each_of (came_of 0) (e ∷ []))) ≡ Some answer) first why in
    cc
start_failed (p ∷ q ∷ ps) rest claim answer is why = absurd (too_long ps rest claim cc)

pub returns-clause-invented : goal.returns-clause-invented
returns-clause-invented c = λ h. go h.1
  where
    go : (Present ≡ Memory) ⊎ ChildZero (by_main (NoStart 0) ∷ by_main (Claim 1 0) ∷ []) 1 Present → ⊥
    go (inl e) = absurd cc
    go (inr z) = let e : Present ≡ StartFault = start_failed z.past z.rest (record { by = z.by; what = Claim 1 0 }) Present z.claim z.why in absurd cc

-- the one child was closed, so there is no answer by it
child_closed : (past rest : List Entry) (claim : Entry) (answer : Answer) → by_main (Start 1 0 false) ∷ by_main (End 1 Closed) ∷ by_main (Claim 1 0) ∷ [] ≡ past ++ claim ∷ rest
    → claim.what ≡ Claim 1 0 → failed_start past (last_or None (each_of (came_of 0) past)) ≡ Some answer → ⊥
child_closed [] rest claim answer is what why = cc
child_closed (p ∷ []) rest claim answer is what why = let second : claim ≡ by_main (End 1 Closed) = cc in let bad : End 1 Closed ≡ Claim 1 0 = ap (λ (e : Entry). e.what) (sym second) ∙ what in cc
child_closed (p ∷ q ∷ []) rest claim answer is what why =
    let first : p ≡ by_main (Start 1 0 false) = cc in
    let second : q ≡ by_main (End 1 Closed) = cc in
    let said : None ≡ Some answer = subst (λ (e : Entry). failed_start (by_main (Start 1 0 false) ∷ e ∷ []) (last_or None (each_of (came_of 0) (by_main (Start 1 0 false) ∷ e ∷ []))) ≡ Some answer) second
    (subst (λ (e : Entry). failed_start (e ∷ q ∷ []) (last_or None (each_of (came_of 0) (e ∷ q ∷ []))) ≡ Some answer) first why) in
    cc
child_closed (p ∷ q ∷ r ∷ ps) rest claim answer is what why = too_long ps rest claim cc

pub returns-clause-closed : goal.returns-clause-closed
returns-clause-closed c = λ h. go h.1
  where
    go : (EndedAnswer Closed ≡ Memory) ⊎ ChildZero (by_main (Start 1 0 false) ∷ by_main (End 1 Closed) ∷ by_main (Claim 1 0) ∷ []) 1 (EndedAnswer Closed) → ⊥
    go (inl e) = cc
    go (inr z) = child_closed z.past z.rest (record { by = z.by; what = Claim 1 0 }) (EndedAnswer Closed) z.claim refl z.why

pub returns-clause-unasked : goal.returns-clause-unasked
returns-clause-unasked c = λ h. absurd (bad h)
  where
    bad : Present ≡ Memory → ⊥
    bad e = cc
