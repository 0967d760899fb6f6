use Rattle.std.proofs.Common.{ap, subst, refl, not, false}
use Rattle.std.proofs.lemmas.Result.{err_from_is_err_and}
use Rattle.ann_key.specs.KeyRefs.{text_of}
use Rattle.annex_model.specs.Messages.{Transfer}
use Rattle.host_talk.specs.Request.Requests.{message_of}
use Rattle.mirror_children.specs.Rule.{is_done, retrieve_said}
use Rattle.mirror_remote.specs.Starts.Outcomes.{MirrorValue}
use Rattle.mirror_remote.proofs.StartsLemmas.Stopping.{sound_children}
use Rattle.mirror_remote.specs.Mirrors.{IsSoundMirror}
use Rattle.mirror_remote.proofs.Calls.{nobody_asked, ruled}
use Rattle.mirror_remote.proofs.Keeping.{kept_by_rule, sound_mirror}
use Rattle.mirror_remote.proofs.mirror.MirrorRemote.retrieve.Goals as goal

pub returns-in_err-request-clause-rule : goal.returns-in_err-request-clause-rule
returns-in_err-request-clause-rule g c =
    let p = err_from_is_err_and c.from_residual.result c.from_residual.ensures.1 in
    nobody_asked (λ v. not (is_done v)) (Transfer false (text_of c.args.key) c.args.file.now) retrieve_said c.args.self.now c.args.self.now.children refl c.from_residual.result p.0 p.1

pub returns-in_err-request-clause-sound : goal.returns-in_err-request-clause-sound
returns-in_err-request-clause-sound g c = subst IsSoundMirror c.self.view_is (sound_mirror _ c.self.invariant.0 c.self.invariant.3)

pub invariant_of-self : goal.invariant_of-self
invariant_of-self g c =
    kept_by_rule (λ v. not (is_done v)) (message_of c.in_ok-request.request) retrieve_said c.self.inside.children.items c.ask_any.new.children.items c.ask_any.result c.self.inside.stopped.spare c.self.inside.stopped.logs c.ask_any.ensures.rules c.ask_any.ensures.serving c.self.invariant

pub returns-clause-rule : goal.returns-clause-rule
returns-clause-rule g c =
    ruled (λ v. not (is_done v)) (Transfer false (text_of c.args.key) c.args.file.now) retrieve_said c.args.self.now c.self.inside.children.items (ap (λ (m : MirrorValue). m.children) c.self.view_is) (message_of c.in_ok-request.request) c.ask_any.new.children.items c.ask_any.result
    c.in_ok-request.ensures.is c.ask_any.ensures.rules

pub returns-clause-sound : goal.returns-clause-sound
returns-clause-sound g c = record { children = sound_children c.ask_any.new.children.items c.ask_any.ensures.serving; logs = c.self.invariant.3 }
