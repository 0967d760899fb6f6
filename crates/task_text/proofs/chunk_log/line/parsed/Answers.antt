use Rattle.std.proofs.lemmas.Bool.{false≢true}
use Rattle.uuid.specs.Text.{parsed}
use Rattle.task_text.proofs.chunk_log.line.parsed.Goals as goal
use Rattle.ann_key.proofs.Options.{never_some}

pub returns-in-Err : goal.returns-in-Err
returns-in-Err c = never_some (parsed c.args.text.now) (λ w. let ok = c.in-Err.ensures.ok.1 w in absurd (false≢true ok))
