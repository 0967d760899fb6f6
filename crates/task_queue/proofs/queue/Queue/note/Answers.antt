use Rattle.std.proofs.Common.{Vec, Bool, subst, ap}
use Rattle.std.specs.declared.alloc.Global.{Global}
use Rattle.journal_model.specs.declared.entry.What.{What}
use Rattle.task_queue.specs.Queues.{IsTurned}
use Rattle.task_queue.proofs.Turning.{said_again, said_answer, said_claim, said_other}
use Rattle.task_queue.proofs.queue.Queue.note.Goals as goal

pub returns-in-Claim : goal.returns-in-Claim
returns-in-Claim c = λ o past after turned are. record {
  ordered = c.claim.ensures.sound.ordered;
  roomy = c.claim.ensures.sound.room;
  fits = c.claim.ensures.sound.fits o are.fits;
  said = said_claim past after c.args.self.now c.claim.new.self c.in-Claim.task c.in-Claim.child (subst (λ (w : What). IsTurned past w after) c.in-Claim.is turned) c.claim.ensures.claimed c.claim.ensures.busy are.said;
}

pub returns-in-Answer : goal.returns-in-Answer
returns-in-Answer c = λ o past after turned are. record {
  ordered = c.release.ensures.sound.ordered;
  roomy = c.release.ensures.sound.room;
  fits = c.release.ensures.sound.fits o are.fits;
  said = said_answer past after c.args.self.now c.release.new.self c.in-Answer.task c.in-Answer.answer (subst (λ (w : What). IsTurned past w after) c.in-Answer.is turned)
      (ap (λ (v : Vec Bool Global). v.items) c.release.ensures.claimed) c.release.ensures.busy are.said;
}

pub returns-in-Again : goal.returns-in-Again
returns-in-Again c = λ o past after turned are. record {
  ordered = c.renew.ensures.sound.ordered;
  roomy = c.renew.ensures.sound.room;
  fits = c.renew.ensures.sound.fits o are.fits;
  said = said_again past after c.args.self.now c.renew.new.self c.in-Again.task c.in-Again.answer (subst (λ (w : What). IsTurned past w after) c.in-Again.is turned) c.renew.ensures.claimed c.renew.ensures.busy are.said;
}

pub returns-in_default : goal.returns-in_default
returns-in_default c = λ o past after turned are. record {
  ordered = are.ordered;
  roomy = are.roomy;
  fits = are.fits;
  said = said_other past after c.args.self.now c.args.what.now c.in_default.not-Claim c.in_default.not-Answer c.in_default.not-Again turned are.said;
}
