use Rattle.std.proofs.Common.{ℕ, ◌≡◌, List, true, ap, sym, subst, ◌∙◌}
use Rattle.std.specs.Prelude.{Option, Some, Ok}
use Rattle.ann_key.specs.declared.bytes.NoMemory.{NoMemory as WithoutMemory}
use Rattle.dir_remote.specs.declared.guard.place.Step.{Step}
use Rattle.dir_remote.specs.declared.guard.place.Step.TheVariants.{Spelled}
use Rattle.dir_remote.specs.Guard.Guards.{GuardTold, SetsUpKept, is_kept, told_by}
use Rattle.dir_remote.specs.Guard.Steps.{stepped}
use Rattle.dir_remote.proofs.GuardLemmas.Spelling.{spelled_kept}
use Rattle.dir_remote.proofs.guard.guarded.Guarded.set_up_relative.Goals as goal

pub returns-in-Some-clause-text : goal.returns-in-Some-clause-text
returns-in-Some-clause-text g c = λ text.
    let steps = g.P.Place.steps in
    let path = c.in-Some.whole in
    let told : Option (List Step) → GuardTold = λ s. record { steps = s; mark = c.self.inside.remote.mark; directory = c.self.inside.remote.directory; desk = g.D.Desk.told c.self.inside.remote.desk } in
    let asked = c.in_ok-whole.ensures.steps
    ∙ ap (λ (o : Option (List ℕ)). stepped {E = WithoutMemory} (steps c.self.inside.place) (λ (w : Option (List ℕ)). Spelled c.in-Ok.path.now w) (Ok o)) c.in-Some.is
    ∙ ap (λ (v : List ℕ). stepped {E = WithoutMemory} (steps c.self.inside.place) (λ (w : Option (List ℕ)). Spelled v w) (Ok (Some path))) c.in-Ok.ensures.cases.0 in
    let keeps : is_kept path ≡ true = ap is_kept (sym c.view.ensures) ∙ sym c.is_kept.ensures ∙ c.if-is_kept.true in
    rw (← c.self.view_is)
    (spelled_kept c.self.inside.sweeps c.args.value.now path (told (steps c.self.inside.place)) (told (steps c.spell.new.self)) _ c.set_up_kept.result keeps (ap told asked)
    (subst (λ (v : List ℕ). SetsUpKept c.self.inside.sweeps v (told (steps c.spell.new.self)) (told_by steps g.D.Desk.told c.set_up_kept.new.self) c.set_up_kept.result)
    c.view-in-Some.ensures c.set_up_kept.ensures.kept))
