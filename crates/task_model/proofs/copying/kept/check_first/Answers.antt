use Rattle.std.proofs.Common.{◌∙◌, ℕ, refl, arith, length-take}
use Rattle.task_model.proofs.CopyingLemmas.CopyLaws.{causes_nothing, causes_refused, causes_from}
use Rattle.task_model.proofs.CopyingLemmas.ReadLaws.{reading_nothing, reading_more, reads_whole, reads_short, reads_stopped}
use Rattle.task_model.proofs.copying.kept.check_first.Goals as goal

pub loop-at-init : goal.loop-at-init
loop-at-init g c = record { reading = reading_nothing _ _ _; most = omega arith; quiet = refl }

pub loop-at-preserved : goal.loop-at-preserved
loop-at-preserved g c =
    let i = c.loop-at.invariant in
    let h = c.in-Ok.ensures in
    record {
      reading = reading_more _ _ _ _ _ _ _ _ _ i.reading h.read c.in-Ok.read-test.1;
      most = omega (arith, h.most, length-take {A = ℕ}, c.min-room.ensures);
      quiet = h.causes.done ∙ i.quiet;
    }

pub returns-in-Ok-eq0-clause-read : goal.returns-in-Ok-eq0-clause-read
returns-in-Ok-eq0-clause-read g c =
    let i = c.loop-at.invariant in
    let h = c.in-Ok-eq0.ensures in
    reads_short _ _ _ _ _ _ _ _ _ _ i.reading h.read c.in-Ok-eq0.field-0-test i.most

pub returns-in-Ok-eq0-clause-causes : goal.returns-in-Ok-eq0-clause-causes
returns-in-Ok-eq0-clause-causes g c = causes_from _ _ _ _ (c.in-Ok-eq0.ensures.causes.done ∙ c.loop-at.invariant.quiet) (causes_nothing _ _ refl)

pub returns-in-Err-clause-read : goal.returns-in-Err-clause-read
returns-in-Err-clause-read g c =
    let i = c.loop-at.invariant in
    rw c.refused.ensures (reads_stopped _ _ _ _ _ _ _ _ _ _ i.reading c.in-Err.ensures.read i.most)

pub returns-in-Err-clause-causes : goal.returns-in-Err-clause-causes
returns-in-Err-clause-causes g c = causes_from _ _ _ _ c.loop-at.invariant.quiet (rw c.refused.ensures (causes_refused _ _ _ _ refl c.in-Err.ensures.causes))

pub returns-clause-read : goal.returns-clause-read
returns-clause-read g c = let i = c.loop-at.invariant in reads_whole _ _ _ _ _ _ _ i.reading c.loop-at-test.false i.most

pub returns-clause-causes : goal.returns-clause-causes
returns-clause-causes g c = causes_from _ _ _ _ c.loop-at.invariant.quiet (causes_nothing _ _ refl)
