use Rattle.std.proofs.Common.{◌≡◌, false}
use Rattle.std.proofs.lemmas.Result.{IfOk-weaker}
use Rattle.annex_model.specs.Lines.{has_newline}
use Rattle.task_model.specs.Names.{fetch_file}
use Rattle.task_model.proofs.FileNames.{fetch_has_none}
use Rattle.task_model.proofs.names.fetch_name.Goals as goal

pub returns-clause-line : goal.returns-clause-line
returns-clause-line c =
    IfOk-weaker c.request_name.result (λ name. name ≡ fetch_file c.args.setup.now c.args.turn c.args.n) (λ name. has_newline name ≡ false)
    (λ name e. rw e (fetch_has_none c.args.setup.now c.args.turn c.args.n c.requires)) c.request_name.ensures
