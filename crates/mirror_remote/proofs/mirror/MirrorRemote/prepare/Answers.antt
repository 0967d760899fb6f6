use Rattle.std.proofs.Common.{◌≡◌, ◌∙◌, ℕ, List, None, Some, subst}
use Rattle.std.proofs.lemmas.Result.{err_from_is_err_and}
use Rattle.mirror_children.specs.declared.plan.plan.Plans.{Plans}
use Rattle.mirror_children.specs.Plan.Plans.{ReadsAs}
use Rattle.mirror_children.specs.Plan.Settings.{first_bad, plans_in}
use Rattle.mirror_remote.specs.Mirrors.{Prepares}
use Rattle.mirror_remote.proofs.Prepared.{prepares_bad, prepares_cut, prepares_good}
use Rattle.mirror_remote.proofs.mirror.MirrorRemote.prepare.Goals as goal

pub returns-in_err-asked-clause-prepares : goal.returns-in_err-asked-clause-prepares
returns-in_err-asked-clause-prepares g c =
    let p = err_from_is_err_and c.from_residual.result c.from_residual.ensures.1 in
    prepares_cut c.args.values.now c.args.self.now c.give_up.new.mirror c.from_residual.result p.0 p.1 c.give_up.ensures

pub returns-in-Bad-clause-prepares : goal.returns-in-Bad-clause-prepares
returns-in-Bad-clause-prepares g c =
    let bad : first_bad c.view.result.now ≡ Some c.in-Bad.number = subst (λ (p : Plans). ReadsAs c.view.result.now p) c.in-Bad.is c.in_ok-asked.ensures in
    subst (λ (vs : List (List ℕ)). Prepares vs c.args.self.now c.give_up.new.mirror c.mirror_failure.result) c.view.ensures
    (prepares_bad c.view.result.now c.in-Bad.number c.args.self.now c.give_up.new.mirror c.mirror_failure.result c.give_up.ensures bad c.mirror_failure.ensures.text)

pub returns-in-Asked-clause-prepares : goal.returns-in-Asked-clause-prepares
returns-in-Asked-clause-prepares g c =
    let read : (first_bad c.view.result.now ≡ None) × (c.in-Asked.plans.items ≡ plans_in c.view.result.now) = subst (λ (p : Plans). ReadsAs c.view.result.now p) c.in-Asked.is c.in_ok-asked.ensures in
    subst (λ (vs : List (List ℕ)). Prepares vs c.args.self.now c.begin.new.mirror c.begin.result) c.view.ensures
    (prepares_good c.view.result.now c.deref.result.now c.args.self.now c.give_up.new.mirror c.begin.new.mirror c.begin.result c.give_up.ensures read.0 (c.deref.ensures.value ∙ read.1) c.begin.ensures.begins)
