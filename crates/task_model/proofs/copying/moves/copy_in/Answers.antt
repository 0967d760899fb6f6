use Rattle.std.proofs.Common.{◌∙◌, ℕ, refl, arith, length-take}
use Rattle.task_model.proofs.CopyingLemmas.CopyLaws.{moving_nothing, moving_more, step_moves, step_ends, copies_whole, copies_short, copies_refused, copies_nothing, causes_nothing, causes_refused, causes_from}
use Rattle.task_model.proofs.CopyingLemmas.FillLaws.{filling_begins, filling_goes_on, fills_whole, fills_short, fills_refused, fills_nothing}
use Rattle.task_model.proofs.copying.moves.copy_in.Goals as goal

pub loop-at-init : goal.loop-at-init
loop-at-init g c = record { moving = moving_nothing _ _ _ _; filled = filling_begins _ _ _ _; most = omega arith; buffer = c.in-Ok.ensures.len; quiet = refl }

pub loop-at-preserved : goal.loop-at-preserved
loop-at-preserved g c =
    let i = c.loop-at.invariant in
    let h = c.in-Ok-move_piece.ensures in
    record {
      moving = moving_more _ _ _ _ _ _ _ _ _ _ i.moving (step_moves _ _ _ _ _ _ _ _ c.in-Ok-move_piece.moved-test.1 h.moved);
      filled = filling_goes_on _ _ 0 c.loop-at.at _ 0 _ _ _ _ c.requires.names (omega arith) i.filled h.filled;
      most = omega (arith, h.most, length-take {A = ℕ}, c.min-room.ensures);
      buffer = i.buffer;
      quiet = h.causes.done ∙ i.quiet;
    }

pub returns-in-Ok-eq0-clause-moved : goal.returns-in-Ok-eq0-clause-moved
returns-in-Ok-eq0-clause-moved g c =
    let i = c.loop-at.invariant in
    let h = c.in-Ok-eq0.ensures in
    copies_short _ _ _ _ _ _ _ _ _ _ i.moving (step_ends _ _ _ _ _ _ _ _ c.in-Ok-eq0.field-0-test h.moved) i.most

pub returns-in-Ok-eq0-clause-causes : goal.returns-in-Ok-eq0-clause-causes
returns-in-Ok-eq0-clause-causes g c = causes_from _ _ _ _ (c.in-Ok-eq0.ensures.causes.done ∙ c.loop-at.invariant.quiet) (causes_nothing _ _ refl)

pub returns-in-Err-clause-moved : goal.returns-in-Err-clause-moved
returns-in-Err-clause-moved g c =
    let i = c.loop-at.invariant in
    rw c.refused.ensures (copies_refused _ _ _ _ _ _ _ _ _ _ _ i.moving c.in-Err.ensures.moved i.most)

pub returns-in-Err-clause-causes : goal.returns-in-Err-clause-causes
returns-in-Err-clause-causes g c = causes_from _ _ _ _ c.loop-at.invariant.quiet (rw c.refused.ensures (causes_refused _ _ _ _ refl c.in-Err.ensures.causes))

pub returns-clause-moved : goal.returns-clause-moved
returns-clause-moved g c = let i = c.loop-at.invariant in copies_whole _ _ _ _ _ _ _ _ i.moving c.loop-at-test.false i.most

pub returns-clause-causes : goal.returns-clause-causes
returns-clause-causes g c = causes_from _ _ _ _ c.loop-at.invariant.quiet (causes_nothing _ _ refl)

pub returns-in_default-clause-moved : goal.returns-in_default-clause-moved
returns-in_default-clause-moved g c = copies_nothing _ _ _ _ _ _

pub returns-in-Ok-eq0-clause-filled : goal.returns-in-Ok-eq0-clause-filled
returns-in-Ok-eq0-clause-filled g c =
    let i = c.loop-at.invariant in
    fills_short _ _ 0 c.loop-at.at _ 0 _ _ _ _ _ c.requires.names (omega arith) i.most c.in-Ok-eq0.field-0-test i.filled c.in-Ok-eq0.ensures.filled

pub returns-in-Err-clause-filled : goal.returns-in-Err-clause-filled
returns-in-Err-clause-filled g c =
    let i = c.loop-at.invariant in
    rw c.refused.ensures
    (fills_refused _ _ 0 c.loop-at.at _ _ _ _ _ _ _ c.requires.names (omega arith) (omega (arith, i.most, length-take {A = ℕ}, c.min-room.ensures)) i.filled c.in-Err.ensures.filled)

pub returns-clause-filled : goal.returns-clause-filled
returns-clause-filled g c = let i = c.loop-at.invariant in fills_whole _ _ _ _ _ _ _ (omega (arith, i.most, c.loop-at-test.false)) i.filled

pub returns-in_default-clause-filled : goal.returns-in_default-clause-filled
returns-in_default-clause-filled g c = fills_nothing _ _ _ _ _ _
