use Rattle.std.proofs.Common.{◌≡◌, true, false, Some, None, [], codes, Bool, ap, refl, rules}
use Rattle.ann_key.specs.KeyRefs.{text_of}
use Rattle.annex_model.specs.Messages.{Transfer}
use Rattle.kit_serve.specs.declared.kit.call.Said.TheVariants.{Failure}
use Rattle.kit_serve.specs.declared.kit.kit.Stage.TheVariants.{Waiting}
use Rattle.kit_serve.specs.Kit.Kits.{work_due, final_line, transfer_asked}
use Rattle.kit_serve.proofs.KitLemmas.Answering.{answers_asked, tries_asked, answers_line, tries_line, transfer_due, untold_due}
use Rattle.kit_serve.proofs.kit.kit.Kit.transfer.Goals as goal

pub returns-then-not-self-clause-ok : goal.returns-then-not-self-clause-ok
returns-then-not-self-clause-ok g c =
    let prepared : c.args.self.now.prepared ≡ false = search rules in
    let k = c.args.self.now in
    answers_line g.R.Remote.calls k.remote k.prepared k.stage Waiting k c.refuse.new.self
    _ (final_line (Some (Transfer c.args.store (text_of c.args.key) c.args.file.now)) (Failure (codes "not prepared"))) _ c.refuse.result refl
    (ap (λ (p : Bool). work_due None [] p (Transfer c.args.store (text_of c.args.key) c.args.file.now)) prepared) c.refuse.ensures.stage c.refuse.ensures.ok

pub returns-in_default-clause-ok : goal.returns-in_default-clause-ok
returns-in_default-clause-ok g c =
    let prepared : c.args.self.now.prepared ≡ true = search rules in
    let k = c.args.self.now in
    answers_line g.R.Remote.calls k.remote k.prepared k.stage Waiting k c.refuse-in_default.new.self
    _ (final_line (Some (Transfer c.args.store (text_of c.args.key) c.args.file.now)) (Failure (codes "not text"))) _ c.refuse-in_default.result refl
    (untold_due k.prepared c.args.store (text_of c.args.key) c.args.file.now prepared c.in_default.ensures.cases.0) c.refuse-in_default.ensures.stage c.refuse-in_default.ensures.ok

pub returns-in_default-clause-err : goal.returns-in_default-clause-err
returns-in_default-clause-err g c =
    let k = c.args.self.now in
    tries_line g.R.Remote.calls k c.refuse-in_default.new.self _ c.refuse-in_default.result c.refuse-in_default.ensures.err

pub returns-clause-ok : goal.returns-clause-ok
returns-clause-ok g c =
    let prepared : c.args.self.now.prepared ≡ true = search rules in
    answers_asked g.R.Remote.calls c.self.inside.remote c.ask_transfer.new.remote c.self.inside.prepared c.self.inside.stage Waiting c.args.self.now c.finish.new.self
    _ (transfer_asked c.args.store (text_of c.args.key) c.in-Ok.file.now) _ c.in_ok-said.said c.finish.result c.self.view_is
    (transfer_due c.args.self.now.prepared c.args.store (text_of c.args.key) c.args.file.now c.in-Ok.file.now prepared c.in-Ok.ensures.cases.0 c.in-Ok.ensures.cases.1)
    c.in_ok-said.ensures.calls c.finish.ensures.after c.finish.ensures.ok

pub returns-clause-err : goal.returns-clause-err
returns-clause-err g c =
    let prepared : c.args.self.now.prepared ≡ true = search rules in
    tries_asked g.R.Remote.calls c.self.inside.remote c.ask_transfer.new.remote c.self.inside.prepared c.self.inside.stage c.args.self.now c.finish.new.self
    _ (transfer_asked c.args.store (text_of c.args.key) c.in-Ok.file.now) c.in_ok-said.said c.finish.result c.self.view_is
    (transfer_due c.args.self.now.prepared c.args.store (text_of c.args.key) c.args.file.now c.in-Ok.file.now prepared c.in-Ok.ensures.cases.0 c.in-Ok.ensures.cases.1)
    c.in_ok-said.ensures.calls c.finish.ensures.err
