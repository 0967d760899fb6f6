use Rattle.std.proofs.Common.{ℕ, List, inl, subst, sym, IsTrue}
use Rattle.wire_line.specs.HeldBytes.{has_line}
use Rattle.kit_async.proofs.WorkLemmas.Groups.{numbered, stands_on}
use Rattle.kit_async.proofs.WorkLemmas.Readers.{quiet_stop, told, untold}
use Rattle.kit_async.proofs.work.reader.hear.Goals as goal

pub enter-requires : goal.enter-requires
enter-requires g c = numbered c.args.hall.now 1 c.args.pass.now c.requires.stands

pub stop_for-requires : goal.stop_for-requires
stop_for-requires g c = numbered c.args.hall.now 1 c.enter.new.pass (stands_on c.args.hall.now 1 c.args.pass.now c.enter.new.pass c.requires.stands c.enter.ensures.stands)

pub returns-in_default-clause-heard : goal.returns-in_default-clause-heard
returns-in_default-clause-heard g c =
    untold c.args.hall.now c.args.pass.now c.enter.new.pass c.stop_for.new.pass c.args.splitter.now.bytes c.requires.stands c.in_default.ensures.none c.stop_for.ensures.stands c.stop_for.ensures.broken

pub returns-in_default-clause-quiet : goal.returns-in_default-clause-quiet
returns-in_default-clause-quiet g c = quiet_stop c.stop_for.result c.stop_for.ensures.over

pub drop_taken-requires : goal.drop_taken-requires
drop_taken-requires g c = subst (λ (n : ℕ). IsTrue (has_line n c.args.splitter.now.bytes)) (sym c.requires.limit) c.requires.line.0

pub returns-clause-heard : goal.returns-clause-heard
returns-clause-heard g c =
    told c.args.hall.now c.args.pass.now c.enter.new.pass c.in-Some.reply c.args.line c.args.splitter.now.bytes c.drop_taken.new.splitter.bytes c.is_taken.result
    c.requires.stands c.enter.ensures.stands c.in-Some.ensures.some c.requires.line.0 c.requires.line.1 c.is_taken.ensures c.drop_taken.ensures.taken c.drop_taken.ensures.kept

pub returns-clause-quiet : goal.returns-clause-quiet
returns-clause-quiet g c = inl c.turn_by.ensures
