use Rattle.std.proofs.Common.{◌∙◌, subst}
use Rattle.journal_model.specs.Legality.{Legal}
use Rattle.journal_model.specs.declared.opening.Opening.{Opening}
use Rattle.child_link.proofs.Asking.{grows_on}
use Rattle.crew_work.proofs.WorkerLemmas.Pairs.{passed}
use Rattle.crew_work.proofs.WorkerLemmas.Knowing.{known_same, told_so}
use Rattle.crew_work.proofs.WorkerLemmas.Sizes.{known_sized}
use Rattle.crew_work.proofs.worker.notes.layouts.Goals as goal

pub returns-clause-known : goal.returns-clause-known
returns-clause-known g c =
    let o = (g.D.Door.view c.args.door.now).opening in
    let n = (g.D.Door.view c.args.door.now).number in
    let legal = subst (λ (o : Opening). Legal o (g.D.Door.view c.step.new.self).seen) c.in_ok-reply.ensures.door.opening (c.in_ok-reply.ensures.door.legal c.requires.at.legal) in
    let told = told_so o n c.args.task c.requires.at legal c.in_ok-reply.ensures.stepped in
    c.layouts_in.ensures ∙ told.1 ∙ known_same o n c.args.task c.requires.at (passed o n c.args.task c.requires.at legal told.0) told.0

pub returns-clause-sizes : goal.returns-clause-sizes
returns-clause-sizes g c = λ book. known_sized (g.D.Door.view c.args.door.now).opening (g.D.Door.view c.args.door.now).seen c.args.task book.sized c.requires.at.legal

pub returns-in_err-reply-clause-sizes : goal.returns-in_err-reply-clause-sizes
returns-in_err-reply-clause-sizes g c = λ book. known_sized (g.D.Door.view c.args.door.now).opening (g.D.Door.view c.args.door.now).seen c.args.task book.sized c.requires.at.legal

pub returns-clause-stays : goal.returns-clause-stays
returns-clause-stays g c =
    let o = (g.D.Door.view c.args.door.now).opening in
    let n = (g.D.Door.view c.args.door.now).number in
    let legal = subst (λ (o : Opening). Legal o (g.D.Door.view c.step.new.self).seen) c.in_ok-reply.ensures.door.opening (c.in_ok-reply.ensures.door.legal c.requires.at.legal) in
    let told = told_so o n c.args.task c.requires.at legal c.in_ok-reply.ensures.stepped in
    known_same o n c.args.task c.requires.at (passed o n c.args.task c.requires.at legal told.0) told.0

pub returns-clause-same : goal.returns-clause-same
returns-clause-same g c =
    let o = (g.D.Door.view c.args.door.now).opening in
    let n = (g.D.Door.view c.args.door.now).number in
    let legal = subst (λ (o : Opening). Legal o (g.D.Door.view c.step.new.self).seen) c.in_ok-reply.ensures.door.opening (c.in_ok-reply.ensures.door.legal c.requires.at.legal) in
    passed o n c.args.task c.requires.at legal (told_so o n c.args.task c.requires.at legal c.in_ok-reply.ensures.stepped).0

pub returns-clause-grows : goal.returns-clause-grows
returns-clause-grows g c =
    let legal = subst (λ (o : Opening). Legal o (g.D.Door.view c.step.new.self).seen) c.in_ok-reply.ensures.door.opening (c.in_ok-reply.ensures.door.legal c.requires.at.legal) in
    grows_on (told_so (g.D.Door.view c.args.door.now).opening (g.D.Door.view c.args.door.now).number c.args.task c.requires.at legal c.in_ok-reply.ensures.stepped).0

pub returns-in_err-reply-clause-stays : goal.returns-in_err-reply-clause-stays
returns-in_err-reply-clause-stays g c =
    let o = (g.D.Door.view c.args.door.now).opening in
    let n = (g.D.Door.view c.args.door.now).number in
    let legal = subst (λ (o : Opening). Legal o (g.D.Door.view c.step.new.self).seen) c.in_err-reply.ensures.door.opening (c.in_err-reply.ensures.door.legal c.requires.at.legal) in
    known_same o n c.args.task c.requires.at (passed o n c.args.task c.requires.at legal c.in_err-reply.ensures.stepped) c.in_err-reply.ensures.stepped

pub returns-in_err-reply-clause-same : goal.returns-in_err-reply-clause-same
returns-in_err-reply-clause-same g c =
    let legal = subst (λ (o : Opening). Legal o (g.D.Door.view c.step.new.self).seen) c.in_err-reply.ensures.door.opening (c.in_err-reply.ensures.door.legal c.requires.at.legal) in
    passed (g.D.Door.view c.args.door.now).opening (g.D.Door.view c.args.door.now).number c.args.task c.requires.at legal c.in_err-reply.ensures.stepped

pub returns-in_err-reply-clause-grows : goal.returns-in_err-reply-clause-grows
returns-in_err-reply-clause-grows g c = grows_on c.in_err-reply.ensures.stepped
