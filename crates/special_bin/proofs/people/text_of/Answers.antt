use Rattle.std.proofs.Common.{rules, ◌≡◌, ◌++◌, ◌∙◌, ◌+◌, ◌<◌, ℕ, List, [], drop, get_or, length, ap, sym, append_assoc}
use Rattle.std.specs.Prelude.{codes}
use Rattle.std.proofs.lemmas.List.{at_drop_more}
use Rattle.std.proofs.lemmas.Option.{slice_get_read}
use Rattle.special_bin.specs.People.{line_of, notes_text}
use Rattle.special_bin.proofs.people.text_of.Goals as goal

pub loop-note-preserved : goal.loop-note-preserved
loop-note-preserved c =
    let notes = c.args.notes.now in
    let at = c.loop-note.note-index in
    let told = c.loop-note.lines.items in
    let rest = notes_text (drop (at + 1) notes) in
    let lower : at < length notes = search rules in
    let said : c.view-in-loop-note.result.now ≡ get_or notes at [] = search (slice_get_read, c.note-item.is, c.view-in-loop-note.ensures, rules) in
    let pushed = c.in_ok-push_line-2.ensures ∙ ap (λ (x : List ℕ). told ++ line_of (codes "special: note: ") x) said in
    ap (λ (xs : List ℕ). xs ++ rest) pushed ∙ append_assoc told (line_of (codes "special: note: ") (get_or notes at [])) rest
    ∙ ap (λ (xs : List ℕ). told ++ xs) (sym (at_drop_more notes_text notes at [] lower)) ∙ c.loop-note.invariant
