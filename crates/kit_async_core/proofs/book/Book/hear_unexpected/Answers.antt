use Rattle.std.proofs.Common.{◌≡◌, ◌∙◌, ◌++◌, ◌∷◌, [], List, ℕ, true, ap, arith}
use Rattle.kit_async_model.specs.declared.entry.Entry.TheVariants.{Heard, Say}
use Rattle.kit_async_model.specs.Books.{BookValue}
use Rattle.kit_async_model.specs.Standings.{Standing, unexpected_line}
use Rattle.kit_async_core.proofs.Hears.{unexpected_took}
use Rattle.kit_async_core.proofs.book.Book.hear_unexpected.Goals as goal

pub returns-clause-ok : goal.returns-clause-ok
returns-clause-ok c =
    let line : List ℕ = c.args.line in
    let i = c.self.inside in
    let s : Standing = record { due = []; tagged = i.tagged; prepared = i.prepared; told = i.told; jobs = i.jobs.items; over = i.over; closed = i.closed; unwritten = i.unwritten.items } in
    let said : List ℕ = unexpected_line in
    let error : c.in_ok-error.error ≡ unexpected_line = c.in_ok-error.ensures.line in
    unexpected_took c.args.setup.now c.args.self.now _ line c.requires.may c.requires.is
    (c.in_ok-note_said.ensures.journal
    ∙ ap (λ (l : List ℕ). i.journal.entries ++ Heard line ∷ Say 0 l ∷ []) error
    ∙ ap (λ (v : BookValue). v.journal ++ Heard line ∷ Say 0 unexpected_line ∷ []) c.self.view_is)
    (ap (λ (us : List (List ℕ)). record s { over = true; unwritten = us }) (c.in_ok-note_said.ensures.unwritten ∙ ap (λ (l : List ℕ). s.unwritten ++ l ∷ []) error)
    ∙ ap (λ (v : BookValue). record v.stands { due = []; over = true; unwritten = v.stands.unwritten ++ unexpected_line ∷ [] }) c.self.view_is)
    (omega (arith, c.in_ok-note_said.ensures.room, ap (λ (v : BookValue). v.room) c.self.view_is))
