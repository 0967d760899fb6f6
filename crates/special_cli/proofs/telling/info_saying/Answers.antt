use Rattle.std.proofs.Common.{ℕ, List, [], Option, subst}
use Rattle.std.specs.Prelude.{option_map}
use Rattle.ann_key.specs.KeyRefs.{text_of}
use Rattle.annex_model.specs.Lines.{text}
use Rattle.info_and_init.specs.Info.Infos.{info_lines}
use Rattle.special_cli.specs.Sayings.{Says, SaysEnd}
use Rattle.special_cli.specs.Tells.{IsPrintedOr}
use Rattle.special_cli.specs.declared.end.End.TheVariants.{Informed}
use Rattle.special_cli.proofs.telling.info_saying.Goals as goal

pub returns : goal.returns
returns c =
    let lines = text (info_lines c.args.journal.now.entries (option_map text_of c.lent-key.result)) in
    subst (λ (k : Option (List ℕ)). SaysEnd c.args.journal.now.entries [] (Informed k) c.on_out.result) c.lent-key.ensures
    (subst (λ (w : ℕ). Says c.on_out.result (IsPrintedOr w lines)) c.info_status.ensures (c.on_out.ensures lines c.print_info.ensures))
