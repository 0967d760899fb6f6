use Rattle.std.proofs.Common.{◌≡◌, ◌∙◌, ◌++◌, ◌∷◌, [], List, ℕ, Some, Option, sym, ap, subst, length, arith}
use Rattle.std.specs.Prelude.{set, slice_get, option_map, IfSome}
use Rattle.annex_model.specs.Messages.{Getconfig, remote_line}
use Rattle.kit_async_model.specs.declared.entry.Entry.TheVariants.{Heard, Say}
use Rattle.kit_async_model.specs.declared.job.Job.{Job}
use Rattle.kit_async_model.specs.Books.{BookValue}
use Rattle.kit_async_model.specs.Jobs.{job_line}
use Rattle.kit_async_model.specs.Standings.{Standing}
use Rattle.kit_async_model.proofs.Places.{read_is}
use Rattle.kit_async_core.proofs.Hears.{told_more_took}
use Rattle.kit_async_core.proofs.book.Book.tell_more.Goals as goal

pub returns-clause-ok : goal.returns-clause-ok
returns-clause-ok c =
    let line : List ℕ = c.args.line in
    let i = c.self.inside in
    let s : Standing = record { due = []; tagged = i.tagged; prepared = i.prepared; told = i.told; jobs = i.jobs.items; over = i.over; closed = i.closed; unwritten = i.unwritten.items } in
    let values : List (List ℕ) = c.args.values in
    let place : ℕ = c.args.at in
    let there = subst (λ (v : BookValue). slice_get v.stands.jobs place ≡ Some c.requires.is.job) (sym c.self.view_is) c.requires.is.there in
    let job : c.index_mut.result.now ≡ c.requires.is.job = read_is i.jobs.items place c.requires.is.job c.index_mut.result.now there c.index_mut.ensures.value in
    let said : List ℕ = c.args.said in
    let number : c.index.result.now.number ≡ c.requires.is.job.number = ap (λ (j : Job). j.number) (read_is i.jobs.items place c.requires.is.job c.index.result.now there c.index.ensures) in
    let more : option_map (λ name. job_line c.requires.is.job.number (remote_line (Getconfig name))) (slice_get c.args.setup.now.settings (length values)) ≡ Some said =
    subst (λ (o : Option Job). IfSome o (λ job. option_map (λ name. job_line job.number (remote_line (Getconfig name))) (slice_get c.args.setup.now.settings (length values)) ≡ Some said)) c.requires.is.there c.requires.more in
    told_more_took c.args.setup.now c.args.self.now _ line place values said c.requires.may c.requires.apart c.requires.is more
    (c.in_ok-note_said.ensures.journal
    ∙ ap (λ (n : ℕ). i.journal.entries ++ Heard line ∷ Say n said ∷ []) number
    ∙ ap (λ (v : BookValue). v.journal ++ Heard line ∷ Say c.requires.is.job.number said ∷ []) c.self.view_is)
    (ap (λ (us : List (List ℕ)). record s { jobs = set s.jobs place (record c.index_mut.result.now { values = values }); unwritten = us }) c.in_ok-note_said.ensures.unwritten
    ∙ ap (λ (j : Job). record s { jobs = set s.jobs place (record j { values = values }); unwritten = s.unwritten ++ said ∷ [] }) job
    ∙ ap (λ (v : BookValue). record v.stands { due = []; jobs = set v.stands.jobs place (record c.requires.is.job { values = values }); unwritten = v.stands.unwritten ++ said ∷ [] }) c.self.view_is)
    (omega (arith, c.in_ok-note_said.ensures.room, ap (λ (v : BookValue). v.room) c.self.view_is))
