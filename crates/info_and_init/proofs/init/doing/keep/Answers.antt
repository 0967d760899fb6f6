use Rattle.kept_file.specs.Text.KeptFiles.{kept_text}
use Rattle.info_and_init.proofs.InitLemmas.Naming.{kept_named}
use Rattle.info_and_init.proofs.init.doing.keep.Goals as goal

pub returns-in-Ok-clause-calls : goal.returns-in-Ok-clause-calls
returns-in-Ok-clause-calls g c =
    kept_named c.args.words.now _ (kept_text c.registers-registers.result.now c.registers-registers.result.now c.opening.result.now.notes) c.write_kept.result c.view.ensures c.write_kept.ensures.calls

pub returns-in-Err-clause-calls : goal.returns-in-Err-clause-calls
returns-in-Err-clause-calls g c =
    kept_named c.args.words.now _ (kept_text c.registers-registers.result.now c.registers-registers.result.now c.opening.result.now.notes) c.write_kept.result c.view.ensures c.write_kept.ensures.calls
