use Rattle.std.proofs.Common.{◌∙◌, ◌++◌, ◌∷◌, [], List, ℕ, Bool, sym, ap, arith}
use Rattle.std.specs.Prelude.{◌||◌, map}
use Rattle.kit_async_model.specs.declared.entry.Entry.TheVariants.{Heard, Say}
use Rattle.kit_async_model.specs.declared.job.Job.{Job}
use Rattle.kit_async_model.specs.Books.{BookValue}
use Rattle.kit_async_model.specs.Jobs.{request_of}
use Rattle.kit_async_model.specs.Standings.{Standing, starts_tags}
use Rattle.kit_async_core.proofs.Hears.{answered_took}
use Rattle.kit_async_core.proofs.book.Book.answer_at_once.Goals as goal

pub returns-clause-ok : goal.returns-clause-ok
returns-clause-ok c =
    let line : List ℕ = c.args.line in
    let i = c.self.inside in
    let s : Standing = record { due = []; tagged = i.tagged; prepared = i.prepared; told = i.told; jobs = i.jobs.items; over = i.over; closed = i.closed; unwritten = i.unwritten.items } in
    let job : Job = c.args.job.now in
    let said : List (List ℕ) = c.args.said.items in
    let tagged = c.tags_with-tagged.ensures ∙ ap (λ (v : BookValue). v.stands.tagged || starts_tags (request_of job)) (sym c.self.view_is) in
    answered_took c.args.setup.now c.args.self.now _ line job said c.requires.may c.requires.is c.requires.said c.requires.some c.requires.awaits
    (c.in_ok-note_all_said.ensures.journal ∙ ap (λ (v : BookValue). v.journal ++ Heard line ∷ map (λ (x : List ℕ). Say job.number x) said) c.self.view_is)
    (ap (λ (us : List (List ℕ)). record s { tagged = c.tags_with-tagged.result; unwritten = us }) c.in_ok-note_all_said.ensures.unwritten
    ∙ ap (λ (t : Bool). record s { tagged = t; unwritten = s.unwritten ++ said }) tagged
    ∙ ap (λ (v : BookValue). record v.stands { due = []; tagged = v.stands.tagged || starts_tags (request_of job); unwritten = v.stands.unwritten ++ said }) c.self.view_is)
    (omega (arith, c.in_ok-note_all_said.ensures.room, ap (λ (v : BookValue). v.room) c.self.view_is))
