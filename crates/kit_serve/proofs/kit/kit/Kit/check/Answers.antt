use Rattle.std.proofs.Common.{◌≡◌, true, false, Some, None, [], codes, Bool, ap, refl, rules}
use Rattle.ann_key.specs.KeyRefs.{text_of}
use Rattle.annex_model.specs.Messages.{Checkpresent}
use Rattle.kit_serve.specs.declared.kit.call.Said.TheVariants.{Failure}
use Rattle.kit_serve.specs.declared.kit.call.Asked.TheVariants.{Check}
use Rattle.kit_serve.specs.declared.kit.kit.Stage.TheVariants.{Waiting}
use Rattle.kit_serve.specs.Kit.Kits.{work_due, final_line}
use Rattle.kit_serve.proofs.KitLemmas.Answering.{answers_asked, tries_asked, answers_line}
use Rattle.kit_serve.proofs.kit.kit.Kit.check.Goals as goal

pub returns-clause-ok : goal.returns-clause-ok
returns-clause-ok g c =
    let prepared : c.args.self.now.prepared ≡ true = search rules in
    answers_asked g.R.Remote.calls c.self.inside.remote c.check.new.self c.self.inside.prepared c.self.inside.stage Waiting c.args.self.now c.finish.new.self
    _ (Check (text_of c.args.key)) _ c.in_ok-said.said c.finish.result c.self.view_is
    (ap (λ (p : Bool). work_due None [] p (Checkpresent (text_of c.args.key))) prepared) c.in_ok-said.ensures.calls c.finish.ensures.after c.finish.ensures.ok

pub returns-clause-err : goal.returns-clause-err
returns-clause-err g c =
    let prepared : c.args.self.now.prepared ≡ true = search rules in
    tries_asked g.R.Remote.calls c.self.inside.remote c.check.new.self c.self.inside.prepared c.self.inside.stage c.args.self.now c.finish.new.self
    _ (Check (text_of c.args.key)) c.in_ok-said.said c.finish.result c.self.view_is
    (ap (λ (p : Bool). work_due None [] p (Checkpresent (text_of c.args.key))) prepared) c.in_ok-said.ensures.calls c.finish.ensures.err

pub returns-then-not-self-clause-ok : goal.returns-then-not-self-clause-ok
returns-then-not-self-clause-ok g c =
    let prepared : c.args.self.now.prepared ≡ false = search rules in
    let k = c.args.self.now in
    answers_line g.R.Remote.calls k.remote k.prepared k.stage Waiting k c.refuse.new.self
    _ (final_line (Some (Checkpresent (text_of c.args.key))) (Failure (codes "not prepared"))) _ c.refuse.result refl
    (ap (λ (p : Bool). work_due None [] p (Checkpresent (text_of c.args.key))) prepared) c.refuse.ensures.stage c.refuse.ensures.ok
