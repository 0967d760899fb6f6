use Rattle.std.proofs.Common.{◌≡◌, ◌-◌, Some, Option, IfOk, List, ℕ, Bor, map, length, sym, ap, subst, ◌∙◌, arith}
use Rattle.std.specs.List.{slice_get}
use Rattle.std.specs.Prelude.{option_map}
use Rattle.task_text.specs.ChunkLog.NoteBooks.{IsNote}
use Rattle.task_text.specs.declared.chunk_log.note.Note.{Note}
use Rattle.task_text.proofs.ChunkLogLemmas.Kept.{lent}
use Rattle.kept_file.specs.Text.KeptFiles.{written_note}
use Rattle.journal_text.specs.Lines.JournalTexts.{keep_line, last_lines}
use Rattle.journal_text.proofs.LinesLemmas.Sections.{mapped_first, mapped_behind, get-map, length-mapped, found_in}
use Rattle.journal_text.proofs.lines.printing.behind_registers.Goals as goal

pub noted_line-requires : goal.noted_line-requires
noted_line-requires c =
    let note : Bor Note = c.index-notes-n.result in
    subst (λ (n : Bor Note). IsNote n.now) (sym c.index-notes-n.is) (lent c.args.notes.now c.args.opening.now.notes c.requires c.line-known.ensures.notes c.args.n note (omega arith))

pub returns-in_ok-line : goal.returns-in_ok-line
returns-in_ok-line c =
    let note : Bor Note = c.index-notes-n.result in
    let found : slice_get c.args.opening.now.notes c.args.n ≡ Some note.now =
    found_in (λ (n : Bor Note). n.now) c.args.notes.now c.args.opening.now.notes c.args.n note c.requires (omega arith) ∙ ap (λ (n : Bor Note). Some n.now) (sym c.index-notes-n.is) in
    ap (λ (b : List ℕ). Some b) c.in_ok-line.ensures
    ∙ sym (mapped_first keep_line (map written_note c.args.opening.now.notes) (last_lines c.args.journal.now.entries) c.args.n (written_note note.now)
    (get-map written_note c.args.opening.now.notes c.args.n ∙ ap (option_map written_note) found))

pub returns-else-n-count : goal.returns-else-n-count
returns-else-n-count c =
    let few : length c.args.notes.now ≡ length c.args.opening.now.notes = sym (length-mapped (λ (note : Bor Note). note.now) c.args.notes.now) ∙ ap (λ (l : List Note). length l) c.requires in
    let long : length (map written_note c.args.opening.now.notes) ≡ length c.args.opening.now.notes = length-mapped written_note c.args.opening.now.notes in
    let rest = mapped_behind keep_line (map written_note c.args.opening.now.notes) (last_lines c.args.journal.now.entries) c.args.n (c.args.n - length c.args.notes.now) (omega arith) in
    subst (λ (v : Option (List ℕ)). IfOk c.last_line.result (λ line. line ≡ v)) (sym rest) c.last_line.ensures
