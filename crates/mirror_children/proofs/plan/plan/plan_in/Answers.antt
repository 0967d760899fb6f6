use Rattle.std.proofs.Common.{◌≡◌, ◌∙◌, sym, ap, map, List, ℕ, Bor}
use Rattle.mirror_children.specs.Plan.Settings.{words}
use Rattle.mirror_children.proofs.PlanLemmas.Reading.{no_text, plan_reads, texts}
use Rattle.mirror_children.proofs.plan.plan.plan_in.Goals as goal

pub returns-in_default : goal.returns-in_default
returns-in_default c = no_text c.args.number c.args.value.now c.in_default.ensures.cases.0

pub returns : goal.returns
returns c =
    let text = c.in-Ok.ensures.cases in
    plan_reads c.plan_of.result c.args.number c.args.value.now (texts c.deref.result.now) text.1
    (ap texts c.deref.ensures.value ∙ c.in_ok-words.ensures ∙ ap words text.0) c.plan_of.ensures
