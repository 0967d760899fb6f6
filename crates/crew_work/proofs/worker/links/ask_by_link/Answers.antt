use Rattle.std.proofs.Common.{subst}
use Rattle.std.proofs.lemmas.Result.{MatchResult-from_both, MatchResult-weaker}
use Rattle.std.specs.Prelude.{Result, Ok, Err, IfOk, OnErr}
use Rattle.journal_model.specs.Legality.{Legal}
use Rattle.journal_model.specs.declared.opening.Opening.{Opening}
use Rattle.host_talk.specs.Request.Requests.{message_of, name_of}
use Rattle.child_link.proofs.Roles.{moved_on}
use Rattle.crew_work.proofs.WorkerLemmas.Pairs.{asked, passed, link_untasked}
use Rattle.crew_work.proofs.WorkerLemmas.Serving.{asked_moved, keeping, turn_asked, turn_passed}
use Rattle.crew_work.proofs.worker.links.ask_by_link.Goals as goal

-- what holds after either outcome
either_way : {A B : Type 0} (r : Result A B) {P : A → Type 0} {Q X : Type 0} → IfOk r P → OnErr r Q → ((a : A) → P a → X) → (Q → X) → X
either_way (Ok a) p q f g = f a p
either_way (Err e) p q f g = g q

pub returns-clause-asked : goal.returns-clause-asked
returns-clause-asked g c =
    let o = (g.D.Door.view c.args.door.now).opening in
    let n = (g.D.Door.view c.args.door.now).number in
    let legal : Legal o (g.D.Door.view c.ask.new.door).seen =
    subst (λ (w : Opening). Legal w (g.D.Door.view c.ask.new.door).seen) c.ask.ensures.door.opening (c.ask.ensures.door.legal c.requires.at.legal) in
    MatchResult-weaker c.ask.result (MatchResult-from_both c.ask.result _ _ c.ask.ensures.asked c.ask.ensures.none)
    (λ verdict h. asked o n c.args.task c.args.link.now.ear.child (name_of c.args.request.now) (message_of c.args.request.now) verdict (link_untasked c.args.link.now.ear.child c.args.task) c.requires.at legal h)
    (λ _ h. passed o n c.args.task c.requires.at legal h)

pub returns-clause-turn : goal.returns-clause-turn
returns-clause-turn g c = λ lone h.
    either_way c.ask.result c.ask.ensures.asked c.ask.ensures.none
    (λ verdict a. turn_asked c.args.link.now.ear.child c.args.task (name_of c.args.request.now) (message_of c.args.request.now) verdict lone a h)
    (λ none. turn_passed c.args.link.now.ear.child c.args.task lone none h)

pub returns-clause-moved : goal.returns-clause-moved
returns-clause-moved g c =
    keeping
    (either_way c.ask.result c.ask.ensures.asked c.ask.ensures.none
    (λ verdict a. asked_moved c.args.link.now.ear.child c.args.task (name_of c.args.request.now) (message_of c.args.request.now) verdict a)
    (λ none. moved_on none (λ _ u. u)))
    c.ask.ensures.moved
