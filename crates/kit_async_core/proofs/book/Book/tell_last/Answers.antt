use Rattle.std.proofs.Common.{◌≡◌, ◌∙◌, ◌++◌, ◌∷◌, [], List, ℕ, Some, sym, ap, subst, arith}
use Rattle.std.specs.Prelude.{set, slice_get}
use Rattle.kit_async_model.specs.declared.entry.Entry.TheVariants.{Heard}
use Rattle.kit_async_model.specs.declared.job.Job.{Job}
use Rattle.kit_async_model.specs.Books.{BookValue}
use Rattle.kit_async_model.specs.Standings.{Standing}
use Rattle.kit_async_model.proofs.Places.{read_is}
use Rattle.kit_async_core.proofs.Hears.{told_last_took}
use Rattle.kit_async_core.proofs.book.Book.tell_last.Goals as goal

pub returns-clause-ok : goal.returns-clause-ok
returns-clause-ok c =
    let line : List ℕ = c.args.line in
    let i = c.self.inside in
    let s : Standing = record { due = []; tagged = i.tagged; prepared = i.prepared; told = i.told; jobs = i.jobs.items; over = i.over; closed = i.closed; unwritten = i.unwritten.items } in
    let values : List (List ℕ) = c.args.values in
    let place : ℕ = c.args.at in
    let there = subst (λ (v : BookValue). slice_get v.stands.jobs place ≡ Some c.requires.is.job) (sym c.self.view_is) c.requires.is.there in
    let job : c.index_mut.result.now ≡ c.requires.is.job = read_is i.jobs.items place c.requires.is.job c.index_mut.result.now there c.index_mut.ensures.value in
    told_last_took c.args.setup.now c.args.self.now _ line place values c.requires.may c.requires.apart c.requires.is c.requires.last
    (c.in_ok-note_heard.ensures.journal ∙ ap (λ (v : BookValue). v.journal ++ Heard line ∷ []) c.self.view_is)
    (ap (λ (j : Job). record s { jobs = set s.jobs place (record j { values = values }) }) job
    ∙ ap (λ (v : BookValue). record v.stands { due = []; jobs = set v.stands.jobs place (record c.requires.is.job { values = values }) }) c.self.view_is)
    (omega (arith, c.in_ok-note_heard.ensures.room, ap (λ (v : BookValue). v.room) c.self.view_is))
