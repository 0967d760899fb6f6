use Rattle.std.proofs.Common.{◌≡◌, ◌++◌, ◌<◌, ◌-◌, Some, Option, IfOk, List, ℕ, map, get_or, length, sym, ap, subst, ◌∙◌, arith}
use Rattle.std.specs.List.{slice_get}
use Rattle.std.specs.Prelude.{option_map}
use Rattle.registers.specs.RegLines.{Line, line_of, lines_of}
use Rattle.registers.specs.declared.line.RegLine.{RegLine}
use Rattle.kept_file.specs.Text.KeptFiles.{written_line, written_note}
use Rattle.journal_text.specs.Lines.JournalTexts.{keep_line, last_lines}
use Rattle.journal_text.proofs.LinesLemmas.Sections.{mapped_first, mapped_behind, get-map, length-mapped, three_sections, found_in}
use Rattle.journal_text.proofs.lines.printing.behind_tasks.Goals as goal

-- the line of one of the registers
shown : (kept : List RegLine) (lines : List Line) (notes rest : List (List ℕ)) (n : ℕ) (d : RegLine) → map line_of kept ≡ lines → n < length kept
    → slice_get (map keep_line (map written_line lines ++ notes) ++ rest) n ≡ Some (keep_line (written_line (line_of (get_or kept n d))))
shown kept lines notes rest n d same within =
    ap (λ (ls : List (List ℕ)). slice_get ls n) (three_sections keep_line (map written_line lines) notes rest)
    ∙ mapped_first keep_line (map written_line lines) (map keep_line notes ++ rest) n (written_line (line_of (get_or kept n d)))
    (get-map written_line lines n ∙ ap (option_map written_line) (found_in line_of kept lines n d same within))

pub returns-in_ok-line : goal.returns-in_ok-line
returns-in_ok-line c =
    ap (λ (b : List ℕ). Some b) (c.in_ok-line.ensures ∙ ap keep_line (c.view.ensures ∙ c.in_ok-written.ensures))
    ∙ sym (shown c.args.kept.registers.now (lines_of c.args.opening.now.registers) (map written_note c.args.opening.now.notes) (last_lines c.args.journal.now.entries) c.args.n _ c.requires.registers (omega arith))

pub returns-else-n-count : goal.returns-else-n-count
returns-else-n-count c =
    let lines : List Line = lines_of c.args.opening.now.registers in
    let few : length c.args.kept.registers.now ≡ length (lines_of c.args.opening.now.registers) = sym (length-mapped line_of c.args.kept.registers.now) ∙ ap (λ (l : List Line). length l) c.requires.registers in
    let long : length (map written_line (lines_of c.args.opening.now.registers)) ≡ length (lines_of c.args.opening.now.registers) = length-mapped written_line (lines_of c.args.opening.now.registers) in
    let rest = mapped_behind keep_line (map written_line (lines_of c.args.opening.now.registers)) (map keep_line (map written_note c.args.opening.now.notes) ++ last_lines c.args.journal.now.entries) c.args.n
    (c.args.n - length c.args.kept.registers.now) (omega arith) in
    let whole = ap (λ (ls : List (List ℕ)). slice_get ls c.args.n)
    (three_sections keep_line (map written_line (lines_of c.args.opening.now.registers)) (map written_note c.args.opening.now.notes) (last_lines c.args.journal.now.entries)) in
    subst (λ (v : Option (List ℕ)). IfOk c.behind_registers.result (λ line. line ≡ v)) (sym (whole ∙ rest)) c.behind_registers.ensures
