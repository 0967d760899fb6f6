use Rattle.std.proofs.Common.{◌≡◌, false}
use Rattle.std.proofs.lemmas.Result.{IfOk-weaker}
use Rattle.annex_model.specs.Lines.{has_newline}
use Rattle.task_model.specs.Names.{chunk_file}
use Rattle.task_model.proofs.FileNames.{chunk_has_none}
use Rattle.task_model.proofs.names.chunk_name.Goals as goal

pub returns-clause-line : goal.returns-clause-line
returns-clause-line c =
    IfOk-weaker c.request_name.result (λ name. name ≡ chunk_file c.args.setup.now c.args.turn c.args.n) (λ name. has_newline name ≡ false)
    (λ name e. rw e (chunk_has_none c.args.setup.now c.args.turn c.args.n c.requires)) c.request_name.ensures
