-- What a child that was greeted came to.
use Rattle.std.proofs.Common.{◌≡◌, ℕ, List, refl, sym, subst, ◌∙◌, Bool, true, Some, None, Option}
use Rattle.std.specs.Prelude.{is_some, option_map}
use Rattle.std.proofs.lemmas.Option.{same_Some as same_some}
use Rattle.journal_model.specs.declared.verdict.Verdict.{Verdict}
use Rattle.journal_model.specs.declared.answer.Answer.{Answer}
use Rattle.journal_model.specs.declared.answer.Answer.TheVariants.{Ended as EndedAnswer, NotPrepared, Unsent as UnsentAnswer}
use Rattle.journal_model.specs.declared.entry.Entry.{Entry}
use Rattle.journal_model.specs.Journal.{is_tagged}
use Rattle.task_model.specs.TaskRuns.{refused_at}
use Rattle.child_life.specs.declared.start.greeting.Came.{Came}
use Rattle.child_life.specs.declared.start.greeting.Came.TheVariants.{Ready, Refused, Ended, Unsent}
use Rattle.child_life.specs.declared.start.greeting.Mode.TheVariants.{Serve}
use Rattle.child_life.specs.Start.Greetings.{CameTo, IsReady, IsRefused}
use Rattle.run_starts.specs.Stints.{came_answer, tagged_of}
use Rattle.run_starts.proofs.Unready.{IsUnready, refused_some, unready_ended, unready_refused, unready_unsent}

-- a child that is ready
pub came_ready : (g : List Entry) (c : ℕ) (came : Came) (tagged : Bool) → tagged_of came ≡ Some tagged → CameTo Serve g c came → IsReady g c × (tagged ≡ is_tagged g c)
came_ready g c (Ready t) tagged e h = (h.0, sym (same_some t tagged e) ∙ h.1)
came_ready g c (Refused v) tagged e h = absurd cc
came_ready g c (Ended why) tagged e h = absurd cc
came_ready g c Unsent tagged e h = absurd cc

-- one that refused has its answer
refused_has : (g : List Entry) (c : ℕ) (v : Verdict) → IsRefused g c v → is_some (came_answer (Refused v)) ≡ true
refused_has g c v h = go (refused_at v) (refused_some g c v h)
  where
    go : (at : Option ℕ) → is_some at ≡ true → is_some (option_map NotPrepared at) ≡ true
    go None e = absurd cc
    go (Some at) e = refl

-- and so has each that isn't ready
pub came_some : (g : List Entry) (c : ℕ) (came : Came) → tagged_of came ≡ None → CameTo Serve g c came → is_some (came_answer came) ≡ true
came_some g c (Ready t) e h = absurd cc
came_some g c (Refused v) e h = refused_has g c v h
came_some g c (Ended why) e h = refl
came_some g c Unsent e h = refl

-- the answer stands for the child that isn't ready
pub came_unready : (g : List Entry) (c : ℕ) (came : Came) (answer : Answer) → CameTo Serve g c came → Some answer ≡ came_answer came → IsUnready g c answer
came_unready g c (Ready t) answer h is = absurd cc
came_unready g c (Refused v) answer h is = unready_refused g c v answer h is
came_unready g c (Ended why) answer h is = subst (IsUnready g c) (sym (same_some answer (EndedAnswer why) is)) (unready_ended g c why h)
came_unready g c Unsent answer h is = subst (IsUnready g c) (sym (same_some answer UnsentAnswer is)) (unready_unsent g c h)
