use Rattle.wire_msg.specs.Shown.{remote_shown}
use Rattle.journal_model.proofs.FieldLines.{spelled_fields}
use Rattle.host_core.proofs.Answered.{set_read, on_ok}
use Rattle.host_core.proofs.serving.set_by_text.Goals as goal

pub set-requires-clause-lines : goal.set-requires-clause-lines
set-requires-clause-lines c = spelled_fields (remote_shown c.in-Some.message) c.args.text.now c.in-Some.ensures.spelled c.requires

pub returns-in-Some-clause-set : goal.returns-in-Some-clause-set
returns-in-Some-clause-set c =
    on_ok c.set.result _ _ (λ is. set_read c.args.registers.now c.set.new.registers c.args.text.now (remote_shown c.in-Some.message) c.in-Some.ensures.reading is) c.set.ensures.set
