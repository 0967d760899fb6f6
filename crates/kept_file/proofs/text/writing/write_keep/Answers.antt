use Rattle.std.proofs.Common.{map, ◌∙◌}
use Rattle.kept_file.specs.Text.KeptFiles.{head, lines_of_kind, written_note}
use Rattle.std.specs.Prelude.{true, false}
use Rattle.kept_file.proofs.TextLemmas.Texts.{whole_text}
use Rattle.kept_file.proofs.text.writing.write_keep.Goals as goal

pub returns : goal.returns
returns c =
    c.from_vec.ensures
    ∙ whole_text head (lines_of_kind true c.args.config.now) (lines_of_kind false c.args.now.now) (map written_note c.args.notes.now)
    c.in_ok-text.text.items c.push_registers.new.text.items c.push_registers-2.new.text.items c.push_notes.new.text.items
    c.in_ok-text.ensures.items c.in_ok-push_registers.ensures c.in_ok-push_registers-2.ensures c.in_ok-push_notes.ensures
