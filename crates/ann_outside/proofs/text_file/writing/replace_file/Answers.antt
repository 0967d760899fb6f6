use Rattle.ann_outside.proofs.TextFileLemmas.WriteLaws.{replace_nothing}
use Rattle.ann_outside.proofs.text_file.writing.replace_file.Goals as goal

pub returns-in-Err-clause-calls : goal.returns-in-Err-clause-calls
returns-in-Err-clause-calls g c = replace_nothing _ c.args.name.now c.args.text.now
