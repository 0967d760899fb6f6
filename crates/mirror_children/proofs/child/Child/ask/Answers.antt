use Rattle.std.proofs.Common.{ap, sym, subst, ◌∙◌, refl}
use Rattle.std.specs.Prelude.{IfOk}
use Rattle.host_talk.specs.Request.Requests.{message_of}
use Rattle.journal_model.specs.Journal.{is_started}
use Rattle.mirror_children.specs.Children.{child_value, ChildValue, IsServing}
use Rattle.mirror_children.specs.Rule.{IsAsked}
use Rattle.mirror_children.proofs.Serving.{asked_if, asked_plain, may_ask, mirrored_named, serving_if, started}
use Rattle.mirror_children.proofs.child.Child.ask.Goals as goal

pub ask_over-requires-clause-started : goal.ask_over-requires-clause-started
ask_over-requires-clause-started g c =
    let s : IsServing (child_value c.self.inside.number c.self.inside.core c.self.inside.link.ear c.self.inside.link.mouth) = subst IsServing (sym c.self.view_is) c.requires.serving in
    ap (is_started c.self.inside.core.journal) s.linked.child ∙ started (child_value c.self.inside.number c.self.inside.core c.self.inside.link.ear c.self.inside.link.mouth) s.linked

pub ask_over-requires-clause-legal : goal.ask_over-requires-clause-legal
ask_over-requires-clause-legal g c =
    let s : IsServing (child_value c.self.inside.number c.self.inside.core c.self.inside.link.ear c.self.inside.link.mouth) = subst IsServing (sym c.self.view_is) c.requires.serving in
    s.linked.legal

pub ask_over-requires-clause-may : goal.ask_over-requires-clause-may
ask_over-requires-clause-may g c =
    let s : IsServing (child_value c.self.inside.number c.self.inside.core c.self.inside.link.ear c.self.inside.link.mouth) = subst IsServing (sym c.self.view_is) c.requires.serving in
    may_ask (child_value c.self.inside.number c.self.inside.core c.self.inside.link.ear c.self.inside.link.mouth) c.self.inside.link.ear.child (message_of c.args.request.now) s.linked.child s c.requires.mirrored

pub ask_over-requires-clause-named : goal.ask_over-requires-clause-named
ask_over-requires-clause-named g c = mirrored_named c.args.request.now c.requires.mirrored

pub returns-clause-asked : goal.returns-clause-asked
returns-clause-asked g c =
    let old : ChildValue = child_value c.self.inside.number c.self.inside.core c.self.inside.link.ear c.self.inside.link.mouth in
    let new : ChildValue = child_value c.self.inside.number c.ask_over.new.core c.ask_over.new.link.ear c.ask_over.new.link.mouth in
    let s : IsServing old = subst IsServing (sym c.self.view_is) c.requires.serving in
    let q = message_of c.args.request.now in
    let plain =
    asked_plain c.self.inside.core.opening c.self.inside.core.journal c.ask_over.new.core.journal c.self.inside.link.ear.child c.args.request.now c.ask_over.result c.requires.mirrored c.ask_over.ensures.asked in
    subst (λ (x : ChildValue). IfOk c.ask_over.result (IsAsked q x new)) c.self.view_is
    (asked_if c.ask_over.result q old new c.self.inside.link.ear.child s.linked.child plain s.linked c.requires.mirrored
    (c.ask_over.ensures.core.legal s.linked.legal) c.ask_over.ensures.core.opening refl)

pub returns-clause-serving : goal.returns-clause-serving
returns-clause-serving g c =
    let old : ChildValue = child_value c.self.inside.number c.self.inside.core c.self.inside.link.ear c.self.inside.link.mouth in
    let new : ChildValue = child_value c.self.inside.number c.ask_over.new.core c.ask_over.new.link.ear c.ask_over.new.link.mouth in
    let s : IsServing old = subst IsServing (sym c.self.view_is) c.requires.serving in
    let plain =
    asked_plain c.self.inside.core.opening c.self.inside.core.journal c.ask_over.new.core.journal c.self.inside.link.ear.child c.args.request.now c.ask_over.result c.requires.mirrored c.ask_over.ensures.asked in
    serving_if c.ask_over.result (message_of c.args.request.now) old new c.self.inside.link.ear.child s.linked.child plain
    s c.ask_over.ensures.none (c.ask_over.ensures.core.legal s.linked.legal) c.ask_over.ensures.link
