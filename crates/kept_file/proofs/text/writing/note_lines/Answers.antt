use Rattle.std.proofs.Common.{◌≡◌, ℕ, List, ◌∷◌, [], Bor, IfOk, map, ap, refl, subst, ◌∙◌}
use Rattle.task_text.specs.declared.chunk_log.note.Note.{Note}
use Rattle.task_text.proofs.ChunkLogLemmas.Kept.{lent}
use Rattle.kept_file.specs.Text.KeptFiles.{written_note}
use Rattle.kept_file.proofs.text.writing.note_lines.Goals as goal

pub noted_lines-requires : goal.noted_lines-requires
noted_lines-requires c =
    lent c.as_slice.result.now c.args.notes.now (ap (map (λ (n : Bor Note). n.now)) c.as_slice.ensures.value ∙ c.in_ok-noted.ensures.lines) c.in_ok-noted.ensures.notes

written : (ls : List (Bor Note)) → map (λ (n : Bor Note). written_note n.now) ls ≡ map written_note (map (λ (n : Bor Note). n.now) ls)
written [] = refl
written (n ∷ ls) = ap (λ rest. written_note n.now ∷ rest) (written ls)

pub returns : goal.returns
returns c =
    let same = written c.as_slice.result.now ∙ ap (λ (ls : List (Bor Note)). map written_note (map (λ (n : Bor Note). n.now) ls)) c.as_slice.ensures.value ∙ ap (map written_note) c.in_ok-noted.ensures.lines in
    subst (λ (ls : List (List ℕ)). IfOk c.noted_lines.result (λ lines. lines.items ≡ ls)) same c.noted_lines.ensures
