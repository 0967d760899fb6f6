-- One text tells one run.
use Rattle.std.proofs.Common.{◌≡◌, ◌∙◌, ℕ, List, [], ◌++◌, map, Some, refl, sym, ap, subst}
use Rattle.std.proofs.lemmas.List.{append-nil}
use Rattle.registers.specs.Registers.{RegisterFile, nothing_set}
use Rattle.registers.specs.RegLines.{lines_of, set_by_lines}
use Rattle.registers.proofs.Fed.{lines_again}
use Rattle.registers.proofs.Readings.{lines_fit}
use Rattle.task_text.specs.declared.chunk_log.note.Note.{Note}
use Rattle.kept_file.specs.Text.KeptFiles.{CountsAs, cut_note, written_note}
use Rattle.kept_file.proofs.TextLemmas.WrittenLines.{Written, lines_written, notes_written}
use Rattle.task_text.specs.declared.task.Task.{Task}
use Rattle.journal_model.specs.declared.entry.Entry.{Entry}
use Rattle.journal_model.specs.declared.opening.Identity.{Identity}
use Rattle.journal_model.specs.declared.opening.Opening.{Opening}
use Rattle.journal_text.specs.Lines.JournalTexts.{Told, journal_lines, kept_lines, told, told_lines}
use Rattle.journal_reader.specs.Openings.{IsTellable, as_told}
use Rattle.journal_reader.specs.Readings.{Reading, start}
use Rattle.journal_reader.specs.RunTexts.{AreEntries, IsTold}
use Rattle.journal_reader.specs.Runs.{IsOpeningOf, Reads}
use Rattle.journal_reader.specs.declared.place.Place.TheVariants.{Over}
use Rattle.journal_reader.proofs.Agreeing.{reads_same}
use Rattle.journal_reader.proofs.Complete.{whole_is_read}
use Rattle.journal_reader.proofs.ReadBack.{written_is_read, written_is_told}
use Rattle.journal_reader.proofs.SameNotes.{cut_order}

abbrev at_end : ℕ → Told → Reading
at_end n t = record { place = Over; taken = n; told = t }

-- lines tell one thing
pub one_told : (t u : Told) → IsTold t → IsTold u → told_lines t ≡ told_lines u → t ≡ u
one_told t u p q same =
    let a = whole_is_read t p in
    let b = whole_is_read u q in
    ap (λ (r : Reading). r.told)
    (reads_same start (told_lines t) (at_end a.0 t) (at_end b.0 u) a.1 (subst (λ (ls : List (List ℕ)). Reads start ls (at_end b.0 u)) (sym same) b.1))

-- what is told of an opening is an opening that the text gives
told_is_given : (o : Opening) (journal : List Entry) → IsTellable o → IsOpeningOf (as_told o) (told o journal)
told_is_given o journal is =
    let said : Written (kept_lines o.registers o.notes) (lines_of o.registers ++ []) (map cut_note o.notes) =
    lines_written (lines_of o.registers) (map written_note o.notes) [] (map cut_note o.notes) (lines_fit o.registers is.registers) (notes_written o.notes is.notes) in
    record {
      uuid = refl;
      name = refl;
      gitdir = refl;
      stamp = refl;
      again = refl;
      tasks = refl;
      registers = sym (ap (set_by_lines nothing_set) (said.set ∙ append-nil (lines_of o.registers)) ∙ lines_again o.registers is.registers);
      notes = subst (λ (ns : List Note). CountsAs (map cut_note o.notes) ns) (sym said.noted) (λ key uuid chunk. refl);
    }

same_opening : (a b : Opening) → a.tasks ≡ b.tasks → a.registers ≡ b.registers → a.notes ≡ b.notes → a.identity ≡ b.identity → a.stamp ≡ b.stamp → a.again ≡ b.again → a ≡ b
same_opening a b t r n i s g =
    ap (λ (x : List Task). record a { tasks = x }) t
    ∙ ap (λ (x : RegisterFile). record a { tasks = b.tasks; registers = x }) r
    ∙ ap (λ (x : List Note). record a { tasks = b.tasks; registers = b.registers; notes = x }) n
    ∙ ap (λ (x : Identity). record b { identity = x; stamp = a.stamp; again = a.again }) i
    ∙ ap (λ (x : ℕ). record b { stamp = x; again = a.again }) s
    ∙ ap (λ (x : ℕ). record b { again = x }) g

pub one_run : (o p : Opening) (journal entries : List Entry) → IsTellable o → IsTellable p → AreEntries journal → AreEntries entries → journal_lines o journal ≡ journal_lines p entries
    → (as_told o ≡ as_told p) × (journal ≡ entries)
one_run o p journal entries is other given more same =
    let one : told o journal ≡ told p entries = one_told (told o journal) (told p entries) (written_is_told o journal is given) (written_is_told p entries other more) same in
    let read = written_is_read o (as_told p) journal is (cut_order p.notes ∙ other.order) (subst (IsOpeningOf (as_told p)) (sym one) (told_is_given p entries other)) in (
      sym (same_opening (as_told p) (as_told o) read.tasks read.registers read.notes read.identity read.stamp read.again),
      ap (λ (t : Told). t.entries) one,
    )
