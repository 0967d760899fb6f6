use Rattle.std.proofs.Common.{subst}
use Rattle.journal_model.specs.declared.opening.Opening.{Opening}
use Rattle.journal_model.specs.Legality.{Legal}
use Rattle.run_starts.proofs.Zeros.{answers_one, held_alone, may_give}
use Rattle.run_starts.proofs.zero.answer_one.Goals as goal

pub give-requires : goal.give-requires
give-requires c =
    let o = c.args.core.now.opening in
    let mid = c.claim.new.core.journal in
    let legal = subst (λ (w : Opening). Legal w mid) c.in-Some.ensures.core.opening (c.in-Some.ensures.core.legal c.requires.legal) in
    record {
      may = may_give o c.args.core.now.journal mid c.in-Some.turn.task c.requires.legal c.requires.rest c.in-Some.ensures.claims.2 legal;
      alone = held_alone o c.args.core.now.journal mid c.in-Some.turn.task c.requires.legal c.requires.rest c.in-Some.ensures.claims.2 legal;
    }

pub returns-in-Some-clause-answers : goal.returns-in-Some-clause-answers
returns-in-Some-clause-answers c =
    answers_one c.args.core.now.opening c.args.core.now.journal c.claim.new.core.journal c.give.new.core.journal c.in-Some.turn.task (λ t. c.args.answer) c.in-Some.ensures.claims.0 c.in-Some.ensures.claims.2 c.give.ensures.given

pub returns-in-None-clause-answers : goal.returns-in-None-clause-answers
returns-in-None-clause-answers c = c.in-None.ensures.claims
