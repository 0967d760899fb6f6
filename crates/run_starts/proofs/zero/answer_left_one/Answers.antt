use Rattle.std.proofs.Common.{ℕ, subst, sym, ap, ◌∙◌, List, ◌++◌, ◌∷◌, [], Bool}
use Rattle.journal_model.specs.declared.answer.Answer.{Answer}
use Rattle.journal_model.specs.declared.entry.Entry.{Entry}
use Rattle.journal_model.specs.declared.entry.What.TheVariants.{Answer as Answered}
use Rattle.journal_model.specs.declared.opening.Opening.{Opening}
use Rattle.journal_model.specs.Legality.{Legal, turn_of_task}
use Rattle.run_starts.specs.Rounds.{left_answer, unserved_answer}
use Rattle.run_starts.specs.Stints.{main_entry}
use Rattle.run_starts.proofs.Zeros.{answers_one, claim_left, claim_turned, claim_unserved, held_alone, may_give}
use Rattle.run_starts.proofs.zero.answer_left_one.Goals as goal

pub left_answer-answer-requires : goal.left_answer-answer-requires
left_answer-answer-requires c =
    let mid = c.claim.new.core.journal in
    record {
      turn = claim_turned c.args.core.now.journal mid c.in-Some.turn c.in-Some.ensures.claims.1 c.in-Some.ensures.claims.2
          ∙ ap (λ (j : List Entry). turn_of_task j c.in-Some.turn.task) (sym c.journal.ensures);
      unserved = c.requires.unserved ∙ sym (claim_unserved c.args.core.now.journal mid c.in-Some.turn.task c.in-Some.ensures.claims.2)
          ∙ ap unserved_answer (sym c.journal.ensures);
    }

pub give-requires : goal.give-requires
give-requires c =
    let o = c.args.core.now.opening in
    let mid = c.claim.new.core.journal in
    let legal = subst (λ (w : Opening). Legal w mid) c.in-Some.ensures.core.opening (c.in-Some.ensures.core.legal c.requires.legal) in
    record {
      may = may_give o c.args.core.now.journal mid c.in-Some.turn.task c.requires.legal c.requires.rest c.in-Some.ensures.claims.2 legal;
      alone = held_alone o c.args.core.now.journal mid c.in-Some.turn.task c.requires.legal c.requires.rest c.in-Some.ensures.claims.2 legal;
    }

pub returns-in-Some-clause-answers : goal.returns-in-Some-clause-answers
returns-in-Some-clause-answers c =
    let old = c.args.core.now.journal in
    let mid = c.claim.new.core.journal in
    let t = c.in-Some.turn.task in
    answers_one c.args.core.now.opening old mid c.give.new.core.journal t (left_answer old) c.in-Some.ensures.claims.0 c.in-Some.ensures.claims.2
    (c.give.ensures.given ∙ ap (λ (a : Answer). mid ++ main_entry (Answered t a) ∷ []) (c.left_answer-answer.ensures ∙ ap (λ (j : List Entry). left_answer j t) c.journal.ensures ∙ claim_left old mid t c.in-Some.ensures.claims.2))

pub returns-in-None-clause-answers : goal.returns-in-None-clause-answers
returns-in-None-clause-answers c = c.in-None.ensures.claims
