use Rattle.std.proofs.Common.{List, Option, None, ◌++◌, ap, arith}
use Rattle.annex_model.specs.Lines.{text}
use Rattle.annex_model.specs.Messages.{RemoteMessage}
use Rattle.wire_msg.specs.Shown.{host_shown}
use Rattle.info_and_init.specs.Info.Infos.{lines_from}
use Rattle.info_and_init.proofs.InfoLemmas.Places.{said_all}
use Rattle.info_and_init.proofs.InfoLemmas.Told.{place_told}
use Rattle.info_and_init.proofs.info.printing.push_answer.Goals as goal

pub loop-at-init : goal.loop-at-init
loop-at-init c =
    rw (c.begin.ensures.field, c.begin.ensures.printed)
    (ap (λ (ms : List (Option RemoteMessage)). c.args.told.now.printed.items ++ text (lines_from (host_shown c.args.question.now) None ms)) (said_all c.args.journal.now.entries c.args.child c.args.job))

pub loop-at-preserved : goal.loop-at-preserved
loop-at-preserved c =
    place_told c.args.journal.now.entries c.args.child c.args.job c.loop-at.at (host_shown c.args.question.now) _ c.loop-at.told.printed.items c.push_place.new.told.printed.items c.loop-at.told.field c.push_place.new.told.field
    (omega arith) c.loop-at.invariant c.in_ok-push_place.ensures
