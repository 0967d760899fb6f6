use Rattle.ann_key.specs.KeyRefs.{text_of}
use Rattle.task_model.proofs.NamedVerdicts.{of_result}
use Rattle.task_model.proofs.ask.transfer_named.Goals as goal

pub returns-clause-verdict : goal.returns-clause-verdict
returns-clause-verdict g c =
    let n = rw (c.in_ok-key.ensures, c.in_ok-file.ensures) at c.ask_own.ensures.named in
    of_result c.args.store (text_of c.args.key) c.args.file.now _ n
