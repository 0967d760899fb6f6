use Rattle.std.proofs.Common.{◌≡◌, ◌∙◌, sym, subst, true, false}
use Rattle.std.proofs.lemmas.Result.{MatchResult-from_err}
use Rattle.journal_model.specs.Legality.{Legal}
use Rattle.journal_model.specs.declared.opening.Opening.{Opening}
use Rattle.child_link.proofs.Asking.{grows_on}
use Rattle.crew_work.proofs.WorkerLemmas.Pairs.{noted, passed}
use Rattle.crew_work.proofs.worker.notes.note.Goals as goal

pub unreachable-requires : goal.unreachable-requires
unreachable-requires g c =
    let d = noted (g.D.Door.view c.args.door.now).opening (g.D.Door.view c.args.door.now).number c.args.task c.args.chunk c.args.count c.requires.may c.requires.chunk c.requires.at (subst (λ (o : Opening). Legal o (g.D.Door.view c.step.new.self).seen) c.in_ok-reply.ensures.door.opening (c.in_ok-reply.ensures.door.legal c.requires.at.legal)) c.in_ok-reply.ensures.stepped in
    let bad : true ≡ false = sym d.0 ∙ sym c.is_done.ensures ∙ c.if-is_done.false in
    cc

pub returns-clause-noted : goal.returns-clause-noted
returns-clause-noted g c =
    (noted (g.D.Door.view c.args.door.now).opening (g.D.Door.view c.args.door.now).number c.args.task c.args.chunk c.args.count c.requires.may c.requires.chunk c.requires.at (subst (λ (o : Opening). Legal o (g.D.Door.view c.step.new.self).seen) c.in_ok-reply.ensures.door.opening (c.in_ok-reply.ensures.door.legal c.requires.at.legal)) c.in_ok-reply.ensures.stepped).1

pub returns-clause-grows : goal.returns-clause-grows
returns-clause-grows g c =
    (noted (g.D.Door.view c.args.door.now).opening (g.D.Door.view c.args.door.now).number c.args.task c.args.chunk c.args.count c.requires.may c.requires.chunk c.requires.at (subst (λ (o : Opening). Legal o (g.D.Door.view c.step.new.self).seen) c.in_ok-reply.ensures.door.opening (c.in_ok-reply.ensures.door.legal c.requires.at.legal)) c.in_ok-reply.ensures.stepped).2

pub returns-in_err-reply-clause-noted : goal.returns-in_err-reply-clause-noted
returns-in_err-reply-clause-noted g c =
    MatchResult-from_err c.from_residual.result _ _ c.from_residual.ensures.0 (λ e. passed (g.D.Door.view c.args.door.now).opening (g.D.Door.view c.args.door.now).number c.args.task c.requires.at (subst (λ (o : Opening). Legal o (g.D.Door.view c.step.new.self).seen) c.in_err-reply.ensures.door.opening (c.in_err-reply.ensures.door.legal c.requires.at.legal)) c.in_err-reply.ensures.stepped)

pub returns-in_err-reply-clause-grows : goal.returns-in_err-reply-clause-grows
returns-in_err-reply-clause-grows g c = grows_on c.in_err-reply.ensures.stepped
