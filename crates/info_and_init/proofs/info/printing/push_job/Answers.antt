use Rattle.std.proofs.Common.{◌≡◌, true, sym}
use Rattle.std.specs.Prelude.{is_some}
use Rattle.journal_model.specs.Projection.{final_in}
use Rattle.wire_msg.specs.Shown.{host_shown}
use Rattle.info_and_init.proofs.InfoLemmas.Told.{answer_told}
use Rattle.info_and_init.proofs.info.printing.push_job.Goals as goal

pub returns-in_ok-push_answer-in-Some : goal.returns-in_ok-push_answer-in-Some
returns-in_ok-push_answer-in-Some c =
    let final : is_some (final_in c.in-Some.verdict) ≡ true = cc in
    answer_told c.args.journal.now.entries c.args.child (host_shown c.args.question.now) c.args.job c.in-Some.verdict c.args.told.now.printed.items c.push_answer.new.told.printed.items
    (sym c.in-Some.ensures) final c.in_ok-push_answer-in-Some.ensures
