use Rattle.std.proofs.Common.{ℕ, ap, sym, subst, ◌∙◌}
use Rattle.ann_outside.specs.Starts.{IsNumbered}
use Rattle.journal_model.specs.Halves.{EarValue, MouthValue}
use Rattle.child_link.specs.Writings.{LoneWired}
use Rattle.child_link.specs.Alone.{KeepsLink}
use Rattle.child_life.specs.Start.Greetings.{AreNumbered}
use Rattle.child_life.specs.Start.Stages.{HasBegun, GreetsOn, TellsOf}
use Rattle.child_life.proofs.StartLemmas.Begun.{has_begun, is_wired}
use Rattle.child_life.proofs.StartLemmas.Telling.{tells_whole, has_link}
use Rattle.child_life.proofs.start.starting.greet.Goals as goal

pub greet_child-requires-clause-begun : goal.greet_child-requires-clause-begun
greet_child-requires-clause-begun g c =
    subst (λ (k : ℕ). HasBegun c.note_start.new.core.journal k c.args.offer) (sym (ap (λ (e : EarValue). e.child) c.new.ensures.ear))
    (has_begun c.note_start.new.core.opening c.args.core.now.journal c.note_start.new.core.journal c.in-Some.child c.args.slot c.args.offer
    c.in-Some.ensures.started.0 c.in-Some.ensures.started.1 c.note_start.ensures.legal)

pub returns-in-Some-clause-tells : goal.returns-in-Some-clause-tells
returns-in-Some-clause-tells g c =
    let child = ap (λ (e : EarValue). e.child) c.new.ensures.ear in
    tells_whole c.args.mode c.args.core.now.journal c.note_start.new.core.journal c.greet_child.new.core.journal c.args.slot c.args.offer c.in-Some.child
    c.in-Some.ensures.started.0 c.in-Some.ensures.started.1
    (subst (λ (k : ℕ). GreetsOn c.args.mode c.note_start.new.core.journal c.greet_child.new.core.journal k) child c.greet_child.ensures.on)
    c.greet_child.result
    (subst (λ (k : ℕ). TellsOf c.args.mode c.greet_child.new.core.journal k c.greet_child.result) child c.greet_child.ensures.tells)

pub returns-in-Some-clause-wired : goal.returns-in-Some-clause-wired
returns-in-Some-clause-wired g c =
    let begun : LoneWired c.note_start.new.core.journal c.new.result.ear c.new.result.mouth =
    is_wired c.note_start.new.core.opening c.args.core.now.journal c.note_start.new.core.journal c.in-Some.child c.args.slot c.args.offer
    c.in-Some.ensures.started.0 c.in-Some.ensures.started.1 c.note_start.ensures.legal
    _ _ _ _ _ _ _ c.new.result.ear c.new.result.mouth c.new.ensures.ear c.new.ensures.mouth c.in-Ok.ensures.outlet.2 c.in-Ok.ensures.inlet.2 in
    has_link (λ (e : EarValue) (m : MouthValue). KeepsLink c.note_start.new.core.journal c.greet_child.new.core.journal c.new.result.ear e c.new.result.mouth m) (LoneWired c.greet_child.new.core.journal)
    c.greet_child.result (λ e m k. k.wired begun) c.greet_child.ensures.link

pub returns-in-Some-clause-numbers : goal.returns-in-Some-clause-numbers
returns-in-Some-clause-numbers g c =
    let starts = (g.P.Programs.told c.start.new.self).starts in
    has_link (λ (e : EarValue) (m : MouthValue). KeepsLink c.note_start.new.core.journal c.greet_child.new.core.journal c.new.result.ear e c.new.result.mouth m) (AreNumbered starts)
    c.greet_child.result
    (λ e m k. (
      subst (IsNumbered starts) (sym (k.same_mouth.1 ∙ ap (λ (v : MouthValue). v.number) c.new.ensures.mouth)) c.in-Ok.ensures.inlet.3,
      subst (IsNumbered starts) (sym (k.same_ear.1 ∙ ap (λ (v : EarValue). v.number) c.new.ensures.ear)) c.in-Ok.ensures.outlet.3,
    ))
    c.greet_child.ensures.link
