-- What reading the lines of a kept file one by one keeps.
use Rattle.std.proofs.Common.{◌≡◌, ℕ, ◌+◌, Bool, true, cond, List, [], ◌∷◌, ◌++◌, filter, fold, Option, Some, None, refl, sym, ap, ◌∙◌, append_assoc}
use Rattle.std.specs.List.{cons_option}
use Rattle.std.proofs.lemmas.List.Elements.{filter-append}
use Rattle.std.proofs.lemmas.List.Sums.{fold-append}
use Rattle.registers.specs.Registers.{RegisterFile}
use Rattle.registers.specs.RegLines.{set_by_line, set_by_lines}
use Rattle.task_text.specs.ChunkLog.NoteBooks.{counting, is_of, newer}
use Rattle.task_text.specs.declared.chunk_log.line.ChunkLine.{ChunkLine}
use Rattle.task_text.specs.declared.chunk_log.note.Note.{Note}
use Rattle.kept_file.specs.Text.KeptLines.{kept_reading, is_kept_line, setting_of, note_of}
use Rattle.kept_file.specs.Text.KeptFiles.{CountsAs, first_bad, settings_in, notes_in, IsFirstFault, IsLineFault}
use Rattle.kept_file.specs.declared.text.error.KeepError.{KeepError}
use Rattle.kept_file.specs.declared.text.error.KeepError.TheVariants.{BadLine, NoMemory}

-- the registers and notes so far, and the lines that are left, come to what all lines come to
pub record Taking (begun : RegisterFile) (noted : List Note) (lines : List (List ℕ)) (registers : RegisterFile) (notes : List Note) (number : ℕ) (left : List (List ℕ)) : Type 0 where
  pub set : set_by_lines registers (settings_in left) ≡ set_by_lines begun (settings_in lines)
  pub counts : CountsAs (notes ++ notes_in left) (noted ++ notes_in lines)
  pub bad : first_bad (number + 1) left ≡ first_bad 2 lines

pub taking_none : (begun : RegisterFile) (noted : List Note) (lines : List (List ℕ)) → Taking begun noted lines begun noted 1 lines
taking_none begun noted lines = record { set = refl; counts = λ key uuid chunk. refl; bad = refl }

split : {X : Type 0} (o : Option X) (xs : List X) → cons_option o [] ++ xs ≡ cons_option o xs
split None xs = refl
split (Some x) xs = refl

module _ (key uuid : List ℕ) (chunk : ℕ) where
  counting-append : (xs ys : List Note) → counting (xs ++ ys) key uuid chunk ≡ fold newer (counting xs key uuid chunk) (filter (is_of key uuid chunk) ys)
  counting-append xs ys =
      ap (fold newer None) (filter-append (is_of key uuid chunk) xs ys)
      ∙ fold-append newer None (filter (is_of key uuid chunk) xs) (filter (is_of key uuid chunk) ys)

  -- where two lists count alike, they still do with the same notes after both
  pub counting_goes_on : (xs ys more : List Note) → counting xs key uuid chunk ≡ counting ys key uuid chunk → counting (xs ++ more) key uuid chunk ≡ counting (ys ++ more) key uuid chunk
  counting_goes_on xs ys more h =
      counting-append xs more
      ∙ ap (λ (o : Option ChunkLine). fold newer o (filter (is_of key uuid chunk) more)) h
      ∙ sym (counting-append ys more)

module _ (begun : RegisterFile) (noted : List Note) (lines : List (List ℕ)) (registers : RegisterFile) (notes : List Note) (number : ℕ) (left : List (List ℕ))
    (so_far : Taking begun noted lines registers notes number left) (line : List ℕ) (more : List (List ℕ)) (first : left ≡ line ∷ more) where
  -- a line that is right, taken
  pub taking_more : (registers' : RegisterFile) (notes' : List Note) (number' : ℕ) → number' ≡ number + 1 → is_kept_line line ≡ true
      → registers' ≡ set_by_lines registers (settings_in (line ∷ [])) → CountsAs notes' (notes ++ notes_in (line ∷ []))
      → Taking begun noted lines registers' notes' number' more
  taking_more registers' notes' number' next right set counts = record {
    set =
        ap (λ (r : RegisterFile). set_by_lines r (settings_in more)) set
        ∙ sym (fold-append set_by_line registers (settings_in (line ∷ [])) (settings_in more))
        ∙ ap (set_by_lines registers) (split (setting_of (kept_reading line)) (settings_in more))
        ∙ ap (λ (ls : List (List ℕ)). set_by_lines registers (settings_in ls)) (sym first)
        ∙ so_far.set;
    counts = λ key uuid chunk.
        counting_goes_on key uuid chunk notes' (notes ++ notes_in (line ∷ [])) (notes_in more) (counts key uuid chunk)
        ∙ ap (λ (ns : List Note). counting ns key uuid chunk)
        (append_assoc notes (notes_in (line ∷ [])) (notes_in more)
        ∙ ap (λ (ns : List Note). notes ++ ns) (split (note_of (kept_reading line)) (notes_in more))
        ∙ ap (λ (ls : List (List ℕ)). notes ++ notes_in ls) (sym first))
        ∙ so_far.counts key uuid chunk;
    bad =
        ap (λ (n : ℕ). first_bad (n + 1) more) next
        ∙ ap (λ (b : Bool). cond b (first_bad (number + 1 + 1) more) (Some (number + 1))) (sym right)
        ∙ ap (first_bad (number + 1)) (sym first)
        ∙ so_far.bad;
  }

  -- a line that isn't right, or no memory
  pub taking_fault : (fault : KeepError) (number' : ℕ) → number' ≡ number + 1 → IsLineFault (is_kept_line line) number' fault → IsFirstFault lines fault
  taking_fault (BadLine n) number' next f =
      sym so_far.bad
      ∙ ap (first_bad (number + 1)) first
      ∙ ap (λ (b : Bool). cond b (first_bad (number + 1 + 1) more) (Some (number + 1))) f.1
      ∙ ap (λ (m : ℕ). Some m) (sym (f.0 ∙ next))
  taking_fault NoMemory number' next f = tt
