use Rattle.std.proofs.Common.{◌∙◌, ◌++◌, ◌∷◌, [], List, ℕ, Bool, sym, ap, arith}
use Rattle.std.specs.Prelude.{◌||◌}
use Rattle.kit_async_model.specs.declared.entry.Entry.TheVariants.{Heard}
use Rattle.kit_async_model.specs.declared.job.Job.{Job}
use Rattle.kit_async_model.specs.Books.{BookValue}
use Rattle.kit_async_model.specs.Jobs.{request_of}
use Rattle.kit_async_model.specs.Standings.{Standing, starts_tags}
use Rattle.kit_async_core.proofs.Hears.{begin_took}
use Rattle.kit_async_core.proofs.book.Book.begin.Goals as goal

pub returns-clause-ok : goal.returns-clause-ok
returns-clause-ok c =
    let line : List ℕ = c.args.line in
    let i = c.self.inside in
    let s : Standing = record { due = []; tagged = i.tagged; prepared = i.prepared; told = i.told; jobs = i.jobs.items; over = i.over; closed = i.closed; unwritten = i.unwritten.items } in
    let job : Job = c.args.job in
    let tagged = c.tags_with-tagged.ensures ∙ ap (λ (v : BookValue). v.stands.tagged || starts_tags (request_of job)) (sym c.self.view_is) in
    begin_took c.args.setup.now c.args.self.now _ line job c.requires.may c.requires.is c.requires.silent
    (c.in_ok-note_heard.ensures.journal ∙ ap (λ (v : BookValue). v.journal ++ Heard line ∷ []) c.self.view_is)
    (ap (λ (js : List Job). record s { tagged = c.tags_with-tagged.result; jobs = js }) (c.push_reserved.ensures.items ∙ ap (λ (js : List Job). js ++ job ∷ []) c.in_ok-reserve.ensures.items)
    ∙ ap (λ (t : Bool). record s { tagged = t; jobs = s.jobs ++ job ∷ [] }) tagged
    ∙ ap (λ (v : BookValue). record v.stands { due = []; tagged = v.stands.tagged || starts_tags (request_of job); jobs = v.stands.jobs ++ job ∷ [] }) c.self.view_is)
    (omega (arith, c.in_ok-note_heard.ensures.room, c.most_calls.ensures, ap (λ (v : BookValue). v.room) c.self.view_is))
