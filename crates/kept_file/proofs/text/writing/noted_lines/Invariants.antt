use Rattle.std.proofs.Common.{◌≡◌, map, take}
use Rattle.kept_file.specs.Text.KeptFiles.{written_note}
use Rattle.kept_file.proofs.text.writing.noted_lines.Given as goal

abbrev pub invariant-loop-note : goal.invariant-loop-note
invariant-loop-note l = l.lines.items ≡ map (λ note. written_note note.now) (take l.note-index l.notes)
