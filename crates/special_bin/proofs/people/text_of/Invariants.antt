use Rattle.std.proofs.Common.{◌≡◌, ◌++◌, drop}
use Rattle.special_bin.specs.People.{notes_text, people_text}
use Rattle.special_bin.proofs.people.text_of.Given as goal

abbrev pub invariant-loop-note : goal.invariant-loop-note
invariant-loop-note l = l.lines.items ++ notes_text (drop l.note-index l.notes) ≡ people_text l.hint l.notes
