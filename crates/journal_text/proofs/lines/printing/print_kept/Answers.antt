use Rattle.std.proofs.Common.{◌≡◌, ◌++◌, ◌-◌, Option, IfOk, List, ℕ, map, sym, subst, arith}
use Rattle.std.specs.List.{slice_get}
use Rattle.journal_text.specs.Lines.JournalTexts.{first_lines, journal_lines, keep_line, kept_lines, last_lines, task_line, told}
use Rattle.journal_text.proofs.LinesLemmas.Sections.{behind_first}
use Rattle.journal_text.proofs.lines.printing.print_kept.Goals as goal

pub returns-else-n-lt6 : goal.returns-else-n-lt6
returns-else-n-lt6 c =
    let o = c.args.opening.now in
    let journal = c.args.journal.now.entries in
    let rest : slice_get (journal_lines o journal) c.args.n ≡ slice_get (map task_line o.tasks ++ (map keep_line (kept_lines o.registers o.notes) ++ last_lines journal)) (c.args.n - 6) =
    behind_first (first_lines (told o journal)) (map task_line o.tasks ++ (map keep_line (kept_lines o.registers o.notes) ++ last_lines journal)) c.args.n (c.args.n - 6) (omega arith) in
    subst (λ (v : Option (List ℕ)). IfOk c.after_first.result (λ line. line ≡ v)) (sym rest) c.after_first.ensures
