-- The kinds of lines after the stamp.
use Rattle.std.specs.Prelude.{ℕ, ◌≡◌, List, codes}
use Rattle.journal_text.specs.Lines.JournalTexts.{worded, begin}
use Rattle.journal_reader.specs.declared.kinds.Kind.{Kind}
use Rattle.journal_reader.specs.declared.kinds.Kind.TheVariants.{Begin, Task, Keep, Other}

-- what the line is by its first word
abbrev pub IsKind : List ℕ → Kind → Type 0
IsKind line Begin = line ≡ begin
IsKind line (Task text) = line ≡ worded (codes "task") text.now
IsKind line (Keep text) = line ≡ worded (codes "keep") text.now
IsKind line Other =
    (line ≡ begin → ⊥) × ((text : List ℕ) → line ≡ worded (codes "task") text → ⊥) × ((text : List ℕ) → line ≡ worded (codes "keep") text → ⊥)
