-- What is written of an opening and a journal is a text of a run, and is read back.
use Rattle.std.proofs.Common.{◌≡◌, ℕ, List, [], ◌++◌, map, Some, refl, ap, subst, ◌∙◌}
use Rattle.std.specs.Prelude.{IsTrue}
use Rattle.std.specs.List.{slice_get}
use Rattle.std.proofs.lemmas.List.{append-nil}
use Rattle.registers.specs.Registers.{nothing_set}
use Rattle.registers.specs.RegLines.{lines_of, set_by_lines}
use Rattle.registers.proofs.Fed.{lines_again}
use Rattle.registers.proofs.Readings.{lines_fit}
use Rattle.task_text.specs.ChunkLog.NoteBooks.{in_order}
use Rattle.task_text.specs.declared.chunk_log.note.Note.{Note}
use Rattle.kept_file.specs.Text.KeptFiles.{written_note, cut_note, CountsAs}
use Rattle.kept_file.proofs.TextLemmas.WrittenLines.{Written, lines_written, notes_written}
use Rattle.journal_model.specs.declared.entry.Entry.{Entry}
use Rattle.journal_model.specs.declared.opening.Identity.{Identity}
use Rattle.journal_model.specs.declared.opening.Opening.{Opening}
use Rattle.journal_text.specs.Entries.Entries.{IsEntry}
use Rattle.journal_text.specs.Lines.JournalTexts.{told, kept_lines}
use Rattle.journal_reader.specs.Openings.{IsTellable, IsReadBack}
use Rattle.journal_reader.specs.RunTexts.{IsTold}
use Rattle.journal_reader.specs.Runs.{IsOpeningOf}
use Rattle.journal_reader.proofs.KeptWritten.{kept_in_order}
use Rattle.journal_reader.proofs.SameNotes.{same_notes, cut_order}

pub written_is_told : (o : Opening) (journal : List Entry) → IsTellable o → ((n : ℕ) (entry : Entry) → slice_get journal n ≡ Some entry → IsEntry entry) → IsTold (told o journal)
written_is_told o journal is entries = record {
  uuid = is.uuid;
  name = is.name;
  gitdir = is.gitdir;
  stamp = is.stamp;
  again = is.again;
  few = is.few;
  tasks = is.tasks;
  kept = kept_in_order o.registers is.registers o.notes is.notes is.order;
  entries = entries;
  stand = λ n entry e. refl;
}

same_identity : (i j : Identity) → i.uuid ≡ j.uuid → i.name ≡ j.name → i.gitdir ≡ j.gitdir → i ≡ j
same_identity i j u n g =
    ap (λ (x : List ℕ). record { uuid = x; name = i.name; gitdir = i.gitdir }) u
    ∙ ap (λ (x : List ℕ). record { uuid = j.uuid; name = x; gitdir = i.gitdir }) n
    ∙ ap (λ (x : List ℕ). record { uuid = j.uuid; name = j.name; gitdir = x }) g

pub written_is_read : (o p : Opening) (journal : List Entry) → IsTellable o → IsTrue (in_order p.notes) → IsOpeningOf p (told o journal) → IsReadBack p o
written_is_read o p journal is order read =
    let said : Written (kept_lines o.registers o.notes) (lines_of o.registers ++ []) (map cut_note o.notes) =
    lines_written (lines_of o.registers) (map written_note o.notes) [] (map cut_note o.notes) (lines_fit o.registers is.registers) (notes_written o.notes is.notes) in
    let P : List Note → Type 0 = λ ns. CountsAs p.notes ns in record {
      tasks = read.tasks;
      registers =
          read.registers
          ∙ ap (set_by_lines nothing_set) (said.set ∙ append-nil (lines_of o.registers))
          ∙ lines_again o.registers is.registers;
      notes = same_notes p.notes (map cut_note o.notes) order (cut_order o.notes ∙ is.order) (subst P said.noted read.notes);
      identity = same_identity p.identity o.identity read.uuid read.name read.gitdir;
      stamp = read.stamp;
      again = read.again;
    }
