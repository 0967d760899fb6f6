use Rattle.std.proofs.Common.{length, refl, subst}
use Rattle.mirror_children.proofs.Answering.{none_left, some_left}
use Rattle.mirror_remote.specs.Starts.Outcomes.{mirror_value, MirrorValue, StartsAs}
use Rattle.mirror_remote.specs.Mirrors.{IsSoundMirror}
use Rattle.mirror_remote.proofs.Keeping.{kept_sound, sound_mirror}
use Rattle.mirror_remote.proofs.Prepared.{none_begins, standing_begins}
use Rattle.mirror_remote.proofs.mirror.begin.Goals as goal

-- ---- nothing was begun

pub returns-then-is_empty-clause-begins : goal.returns-then-is_empty-clause-begins
returns-then-is_empty-clause-begins g c =
    let none = none_left c.is_empty.result (length c.args.plans.now) (length c.args.plans.now) c.if-is_empty.true c.is_empty.ensures refl in
    none_begins c.args.plans.now c.args.mirror.now c.failure.result none c.requires.empty.0 c.requires.empty.1 c.failure.ensures.text

pub returns-then-is_empty-clause-sound : goal.returns-then-is_empty-clause-sound
returns-then-is_empty-clause-sound g c =
    subst IsSoundMirror c.mirror.view_is (sound_mirror _ c.mirror.invariant.0 c.mirror.invariant.3)

-- ---- they were started

pub returns-clause-begins : goal.returns-clause-begins
returns-clause-begins g c =
    let new : MirrorValue = mirror_value (g.P.Programs.told c.start_all-standing.new.programs) c.start_all-standing.new.children.items c.start_all-standing.new.stopped.logs in
    let some = some_left c.is_empty.result (length c.args.plans.now) (length c.args.plans.now) c.if-is_empty.false c.is_empty.ensures refl in
    standing_begins c.args.plans.now c.args.mirror.now new c.start_all-standing.result c.answer.result some
    (subst (λ (m : MirrorValue). StartsAs c.args.plans.now m new c.start_all-standing.result) c.mirror.view_is c.start_all-standing.ensures.starts) c.answer.ensures.says

pub returns-clause-sound : goal.returns-clause-sound
returns-clause-sound g c =
    kept_sound (mirror_value (g.P.Programs.told c.start_all-standing.new.programs) c.start_all-standing.new.children.items c.start_all-standing.new.stopped.logs) c.start_all-standing.new.stopped.spare c.start_all-standing.ensures.kept
