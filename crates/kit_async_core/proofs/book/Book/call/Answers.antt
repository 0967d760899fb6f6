use Rattle.std.proofs.Common.{◌≡◌, ◌∙◌, inl, [], List, Option, true, sym, ap, subst, refl, rules, tests, arith}
use Rattle.std.specs.Prelude.{position, not, ◌&&◌, IfSome}
use Rattle.kit_serve.specs.Kit.Calls.{is_line_said}
use Rattle.kit_async_model.specs.declared.job.Job.{Job}
use Rattle.kit_async_model.specs.Books.{BookValue}
use Rattle.kit_async_model.specs.Jobs.{settles}
use Rattle.kit_async_model.specs.Legality.{is_called}
use Rattle.kit_async_model.proofs.Places.{found_place}
use Rattle.kit_async_core.proofs.Calls.{odd_call, called_at, some_room, noted_took}
use Rattle.kit_async_core.proofs.book.Book.call.Goals as goal

pub returns-in_default-clause-took : goal.returns-in_default-clause-took
returns-in_default-clause-took c =
    let setup = c.args.setup.now in
    let line : is_line_said c.args.said ≡ true = search (rules, tests) in
    inl (odd_call setup c.args.self.now c.args.remote c.args.said line
    (ap (λ (v : BookValue). position (is_called setup v.stands.jobs c.args.remote) v.stands.jobs) (sym c.self.view_is)
    ∙ ap (λ (js : List Job). position (is_called setup js c.args.remote) js) (sym c.as_slice.ensures.value) ∙ sym c.in_default.ensures))

pub settle-requires-clause-is : goal.settle-requires-clause-is
settle-requires-clause-is c =
    let setup = c.args.setup.now in
    let line : is_line_said c.args.said ≡ true = search (rules, tests) in
    called_at setup c.args.self.now.stands c.args.remote c.args.said c.in-Some.at
    (found_place (is_called setup c.args.self.now.stands.jobs c.args.remote) c.args.self.now.stands.jobs c.in-Some.at
    (ap (λ (v : BookValue). position (is_called setup v.stands.jobs c.args.remote) v.stands.jobs) (sym c.self.view_is)
    ∙ ap (λ (js : List Job). position (is_called setup js c.args.remote) js) (sym c.as_slice.ensures.value) ∙ sym c.in-Some.ensures)) line

pub note_call-requires-clause-is : goal.note_call-requires-clause-is
note_call-requires-clause-is c =
    let setup = c.args.setup.now in
    let line : is_line_said c.args.said ≡ true = search (rules, tests) in
    called_at setup c.args.self.now.stands c.args.remote c.args.said c.in-Some.at
    (found_place (is_called setup c.args.self.now.stands.jobs c.args.remote) c.args.self.now.stands.jobs c.in-Some.at
    (ap (λ (v : BookValue). position (is_called setup v.stands.jobs c.args.remote) v.stands.jobs) (sym c.self.view_is)
    ∙ ap (λ (js : List Job). position (is_called setup js c.args.remote) js) (sym c.as_slice.ensures.value) ∙ sym c.in-Some.ensures)) line

pub note_call-requires-clause-room : goal.note_call-requires-clause-room
note_call-requires-clause-room c =
    omega (arith, some_room c.args.setup.now c.args.self.now c.args.remote c.args.said c.in-Some.at (note_call-requires-clause-is c) c.requires.room)

pub returns-clause-took : goal.returns-clause-took
returns-clause-took c =
    let setup = c.args.setup.now in
    let old = c.args.self.now in
    let line : is_line_said c.args.said ≡ true = search (rules, tests) in
    let k = called_at setup old.stands c.args.remote c.args.said c.in-Some.at
    (found_place (is_called setup old.stands.jobs c.args.remote) old.stands.jobs c.in-Some.at
    (ap (λ (v : BookValue). position (is_called setup v.stands.jobs c.args.remote) v.stands.jobs) (sym c.self.view_is)
    ∙ ap (λ (js : List Job). position (is_called setup js c.args.remote) js) (sym c.as_slice.ensures.value) ∙ sym c.in-Some.ensures)) line in
    let owed : c.is_owed.result ≡ (not old.stands.over && settles setup k.job c.args.said) =
    subst (λ (o : Option Job). IfSome o (λ job. c.is_owed.result ≡ (not old.stands.over && settles setup job c.args.said))) k.there c.is_owed.ensures in
    inl (noted_took setup old c.note_call.new.self c.args.remote c.args.said c.in-Some.at
    (subst (λ (v : BookValue). v.stands.due ≡ []) c.self.view_is refl) c.requires.apart k c.note_call.ensures.noted (sym owed ∙ c.if-is_owed.false))
