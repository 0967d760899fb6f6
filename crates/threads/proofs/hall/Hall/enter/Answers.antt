use Rattle.std.proofs.Common.{ap, ◌∙◌, sym, subst, refl, ◌∷◌, [], Some}
use Rattle.threads.specs.Log.{Allowed, log_of}
use Rattle.threads.specs.Passes.{IsPassOf}
use Rattle.threads.proofs.Entry.{ready, returnable, rested, enters, entered, entered_from}
use Rattle.threads.proofs.hall.Hall.enter.Goals as goal

pub note-requires-clause-group : goal.note-requires-clause-group
note-requires-clause-group g c =
    let claimed = c.claim-value.ensures.claimed in
    let did = c.in-Ok.ensures.ok in
    ready g.V.Held.history g.V.Held.fixed (Allowed g.V.Held.made_by g.V.Held.may) c.pass.inside.seat.me (log_of c.claim-value.new.seat.me.0.stage) c.pass.inside.number c.claim-value.result c.act-answer.new.self c.args.op did.0 c.in-Ok.reply
    c.pass.invariant claimed.1 claimed.2 did.1 c.act-answer.ensures.fixed did.2 c.len-amount.result c.len-amount.ensures c.put.new.seat.me
    (c.put.ensures.2 ∙ ap (λ m. (m.0, (0, Some c.act-answer.new.self) ∷ [])) claimed.0)

pub give-requires-clause-value : goal.give-requires-clause-value
give-requires-clause-value g c =
    let claimed = c.claim-value.ensures.claimed in
    let did = c.in-Ok.ensures.ok in
    let told = c.note.ensures.noted in
    returnable g.V.Held.history g.V.Held.fixed (Allowed g.V.Held.made_by g.V.Held.may) c.pass.inside.seat.me (log_of c.claim-value.new.seat.me.0.stage) c.pass.inside.number c.claim-value.result c.act-answer.new.self c.args.op did.0 c.in-Ok.reply
    c.pass.invariant claimed.1 claimed.2 did.1 c.act-answer.ensures.fixed did.2 c.put.new.seat.me c.note.new.seat.me
    (c.put.ensures.2 ∙ ap (λ m. (m.0, (0, Some c.act-answer.new.self) ∷ [])) claimed.0) told.0 told.1 told.2

pub returns-in-Ok-clause-ok : goal.returns-in-Ok-clause-ok
returns-in-Ok-clause-ok g c =
    let claimed = c.claim-value.ensures.claimed in
    let did = c.in-Ok.ensures.ok in
    let told = c.note.ensures.noted in
    let holding = c.put.ensures.2 ∙ ap (λ m. (m.0, (0, Some c.act-answer.new.self) ∷ [])) claimed.0 in
    let own = subst (IsPassOf c.args.self.now) (sym c.pass.view_is) c.requires in
    let ended = c.ring.ensures.2 ∙ c.give.ensures.2 in
    let same_start = ap (λ m. m.0.start) ended ∙ (ap (λ m. m.0.start) told.2 ∙ ap (λ m. m.0.start) holding) in
    let enters' = enters g.V.Held.history g.V.Held.fixed (Allowed g.V.Held.made_by g.V.Held.may) c.pass.inside.seat.me (log_of c.claim-value.new.seat.me.0.stage) c.pass.inside.number c.claim-value.result c.act-answer.new.self c.args.op did.0 c.in-Ok.reply
    c.pass.invariant claimed.1 claimed.2 did.1 c.act-answer.ensures.fixed did.2 c.put.new.seat.me c.note.new.seat.me holding told.0 told.1 told.2
    claimed.3 claimed.4 claimed.5 c.args.self.now.fixed own.3 c.ring.new.seat.me ended in
    entered_from g.V.Held.made_by g.V.Held.may c.args.self.now c.args.op c.in-Ok.reply c.pass.view_is
    (entered g.V.Held.made_by g.V.Held.may c.args.self.now _ _ c.args.op c.in-Ok.reply own same_start refl enters')

pub invariant_of-pass : goal.invariant_of-pass
invariant_of-pass g c =
    let claimed = c.claim-value.ensures.claimed in
    let did = c.in-Ok.ensures.ok in
    let told = c.note.ensures.noted in
    let holding = c.put.ensures.2 ∙ ap (λ m. (m.0, (0, Some c.act-answer.new.self) ∷ [])) claimed.0 in
    (rested g.V.Held.history g.V.Held.fixed (Allowed g.V.Held.made_by g.V.Held.may) c.pass.inside.seat.me (log_of c.claim-value.new.seat.me.0.stage) c.pass.inside.number c.claim-value.result c.act-answer.new.self c.args.op did.0 c.in-Ok.reply
    c.pass.invariant claimed.1 claimed.2 did.1 c.act-answer.ensures.fixed did.2 c.put.new.seat.me c.note.new.seat.me holding told.0 told.1 told.2
    c.len-amount.result c.len-amount.ensures c.ring.new.seat.me (c.ring.ensures.2 ∙ c.give.ensures.2)).0
