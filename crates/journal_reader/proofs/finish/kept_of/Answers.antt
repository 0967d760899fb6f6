use Rattle.std.proofs.Common.{◌≡◌, ◌∷◌, ℕ, List, Some, None, ap, subst, ◌∙◌}
use Rattle.annex_model.specs.Lines.{text}
use Rattle.task_text.specs.declared.chunk_log.note.Note.{Note}
use Rattle.registers.specs.Registers.{nothing_set}
use Rattle.registers.specs.RegLines.{set_by_lines}
use Rattle.kept_file.specs.Text.KeptFiles.{head, bad_line, behind_head, settings_in, notes_in, registers_of, notes_of, CountsAs, IsFaultOf}
use Rattle.kept_file.specs.declared.text.error.KeepError.{KeepError}
use Rattle.journal_reader.proofs.KeptSaid.{file_cut, file_right}
use Rattle.journal_reader.proofs.finish.kept_of.Goals as goal

pub returns-in-Ok-clause-registers : goal.returns-in-Ok-clause-registers
returns-in-Ok-clause-registers c =
    let whole : c.as_slice.result.now ≡ text (head ∷ c.args.kept.now) = c.as_slice.ensures.value ∙ c.in_ok-text.ensures in
    c.in-Ok.ensures.registers
    ∙ ap registers_of whole
    ∙ ap (λ (ls : List (List ℕ)). set_by_lines nothing_set (settings_in (behind_head ls))) (file_cut c.args.kept.now c.requires)

pub returns-in-Ok-clause-notes : goal.returns-in-Ok-clause-notes
returns-in-Ok-clause-notes c =
    let whole : c.as_slice.result.now ≡ text (head ∷ c.args.kept.now) = c.as_slice.ensures.value ∙ c.in_ok-text.ensures in
    let P : List Note → Type 0 = λ ns. CountsAs c.in-Ok.said.1 ns in
    subst P (ap notes_of whole ∙ ap (λ (ls : List (List ℕ)). notes_in (behind_head ls)) (file_cut c.args.kept.now c.requires)) c.in-Ok.ensures.notes

pub unreachable-requires : goal.unreachable-requires
unreachable-requires c =
    let whole : c.as_slice.result.now ≡ text (head ∷ c.args.kept.now) = c.as_slice.ensures.value ∙ c.in_ok-text.ensures in
    let none : bad_line c.as_slice.result.now ≡ None = ap bad_line whole ∙ file_right c.args.kept.now c.requires in
    let P : KeepError → Type 0 = IsFaultOf c.as_slice.result.now in
    let bad : bad_line c.as_slice.result.now ≡ Some c.in-Err-BadLine.field-0-0 = subst P c.in-Err-BadLine.field-0-is c.in-Err-BadLine.ensures.fault in
    absurd cc
