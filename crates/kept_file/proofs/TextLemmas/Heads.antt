-- A text by its first line and those after it.
use Rattle.std.proofs.Common.{◌≡◌, ℕ, Bool, true, false, cond, List, ◌∷◌, Some, sym, ap, ◌∙◌}
use Rattle.std.specs.Prelude.{bytes_eq}
use Rattle.registers.specs.Registers.{RegisterFile, nothing_set}
use Rattle.registers.specs.RegLines.{set_by_lines}
use Rattle.task_text.specs.ChunkLog.NoteBooks.{counting}
use Rattle.task_text.specs.declared.chunk_log.note.Note.{Note}
use Rattle.kept_file.specs.Text.KeptFiles.{head, lines_in, first_bad, bad_among, bad_line, behind_head, settings_in, notes_in, registers_of, notes_of, CountsAs, IsFirstFault, IsFaultOf}
use Rattle.kept_file.specs.declared.text.error.KeepError.{KeepError}
use Rattle.kept_file.specs.declared.text.error.KeepError.TheVariants.{BadLine, NoMemory}

module _ (text first : List ℕ) (lines : List (List ℕ)) (cut : lines_in text ≡ first ∷ lines) where
  by_head : (b : Bool) → bytes_eq first head ≡ b → bad_line text ≡ cond b (first_bad 2 lines) (Some 1)
  by_head b is = ap bad_among cut ∙ ap (λ (b : Bool). cond b (first_bad 2 lines) (Some 1)) is

  pub other_head : bytes_eq first head ≡ false → bad_line text ≡ Some 1
  other_head is = by_head false is

  pub right_head : bytes_eq first head ≡ true → bad_line text ≡ first_bad 2 lines
  right_head is = by_head true is

  pub head_fault : bytes_eq first head ≡ true → (fault : KeepError) → IsFirstFault lines fault → IsFaultOf text fault
  head_fault is (BadLine line) f = right_head is ∙ f
  head_fault is NoMemory f = tt

  pub head_registers : (begun r : RegisterFile) → begun ≡ nothing_set → r ≡ set_by_lines begun (settings_in lines) → r ≡ registers_of text
  head_registers begun r none set =
      set
      ∙ ap (λ (b : RegisterFile). set_by_lines b (settings_in lines)) none
      ∙ ap (λ (ls : List (List ℕ)). set_by_lines nothing_set (settings_in (behind_head ls))) (sym cut)

  pub head_notes : (notes : List Note) → CountsAs notes (notes_in lines) → CountsAs notes (notes_of text)
  head_notes notes h = λ key uuid chunk. h key uuid chunk ∙ ap (λ (ls : List (List ℕ)). counting (notes_in (behind_head ls)) key uuid chunk) (sym cut)
