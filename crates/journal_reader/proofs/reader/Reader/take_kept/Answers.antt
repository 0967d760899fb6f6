use Rattle.std.proofs.Common.{◌≡◌, ◌-◌, true, length, sym, ap, ◌∙◌}
use Rattle.std.specs.List.{list_all, slice_get}
use Rattle.std.proofs.lemmas.Bool.{and_parts}
use Rattle.journal_reader.specs.RunTexts.{is_kept, is_behind, may_be_kept}
use Rattle.journal_reader.specs.Readings.{Reading}
use Rattle.journal_reader.proofs.KeptSaid.{one_more}
use Rattle.journal_reader.proofs.reader.Reader.take_kept.Goals as goal

pub invariant_of-self-2 : goal.invariant_of-self-2
invariant_of-self-2 c =
    let text = c.args.text.now in
    let before = c.self.inside.kept.items in
    let may : may_be_kept before text ≡ true = ap (λ (r : Reading). may_be_kept r.told.kept text) c.self.view_is ∙ sym c.in_ok-may_be_kept.ensures ∙ c.if-not-branch.false in
    let right : is_kept c.in_ok-line.line ≡ true = ap is_kept c.in_ok-line.ensures ∙ (and_parts (is_kept text) (is_behind (slice_get before (length before - 1)) text) may).0 in
    ap (list_all is_kept) c.in_ok-push.ensures.items ∙ one_more before c.in_ok-line.line c.self.invariant right
