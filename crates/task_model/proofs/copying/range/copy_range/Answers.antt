use Rattle.std.proofs.Common.{◌∙◌, ◌≡◌, ◌-◌, ℕ, refl, arith, length-take}
use Rattle.task_model.proofs.CopyingLemmas.CopyLaws.{causes_nothing, causes_refused, causes_from}
use Rattle.task_model.proofs.CopyingLemmas.RangeLaws.{ranging_nothing, ranging_more, range_whole, range_short, range_refused}
use Rattle.task_model.proofs.CopyingLemmas.FillLaws.{filling_begins, filling_goes_on, filled_to, fills_whole, fills_short, fills_refused}
use Rattle.task_model.proofs.copying.range.copy_range.Goals as goal

pub loop-at-init : goal.loop-at-init
loop-at-init g c = record {
  ranging = ranging_nothing _ _ _ _ _;
  filled = rw (sub-same c.args.from) (filling_begins _ _ _ _);
  as_long = refl;
  least = omega arith;
  most = omega arith;
  quiet = refl;
}
  where
    sub-same : (n : ℕ) → n - n ≡ 0
    sub-same n = omega arith

pub loop-at-preserved : goal.loop-at-preserved
loop-at-preserved g c =
    let i = c.loop-at.invariant in
    let h = c.in-Ok.ensures in
    record {
      ranging = ranging_more _ _ _ _ _ _ _ _ _ _ i.ranging c.loop-at-test.true h.carried h.most c.in-Ok.moved-test.1;
      filled = filled_to _ _ _ _ _ _ _ i.least (filling_goes_on _ _ c.args.from (c.loop-at.at - c.args.from) _ 0 _ _ _ _ c.requires.apart (omega (arith, i.least)) i.filled h.filled);
      as_long = omega (arith, i.as_long);
      least = omega arith;
      most = omega (arith, h.most, length-take {A = ℕ}, c.min-room.ensures);
      quiet = h.causes.done ∙ i.quiet;
    }

pub returns-in-Ok-eq0-clause-moved : goal.returns-in-Ok-eq0-clause-moved
returns-in-Ok-eq0-clause-moved g c =
    let i = c.loop-at.invariant in
    let h = c.in-Ok-eq0.ensures in
    range_short _ _ _ _ _ _ _ _ _ _ i.ranging c.loop-at-test.true h.carried c.in-Ok-eq0.field-0-test i.most

pub returns-in-Ok-eq0-clause-causes : goal.returns-in-Ok-eq0-clause-causes
returns-in-Ok-eq0-clause-causes g c = causes_from _ _ _ _ (c.in-Ok-eq0.ensures.causes.done ∙ c.loop-at.invariant.quiet) (causes_nothing _ _ refl)

pub returns-in-Err-clause-moved : goal.returns-in-Err-clause-moved
returns-in-Err-clause-moved g c =
    let i = c.loop-at.invariant in
    rw c.refused.ensures (range_refused _ _ _ _ _ _ _ _ _ i.ranging c.loop-at-test.true c.in-Err.ensures.carried i.most)

pub returns-in-Err-clause-causes : goal.returns-in-Err-clause-causes
returns-in-Err-clause-causes g c = causes_from _ _ _ _ c.loop-at.invariant.quiet (rw c.refused.ensures (causes_refused _ _ _ _ refl c.in-Err.ensures.causes))

pub returns-clause-moved : goal.returns-clause-moved
returns-clause-moved g c = let i = c.loop-at.invariant in range_whole _ _ _ _ _ _ _ i.ranging c.loop-at-test.false i.most

pub returns-clause-causes : goal.returns-clause-causes
returns-clause-causes g c = causes_from _ _ _ _ c.loop-at.invariant.quiet (causes_nothing _ _ refl)

pub returns-in-Ok-eq0-clause-filled : goal.returns-in-Ok-eq0-clause-filled
returns-in-Ok-eq0-clause-filled g c =
    let i = c.loop-at.invariant in
    fills_short _ _ c.args.from (c.loop-at.at - c.args.from) _ 0 _ _ _ _ _ c.requires.apart (omega (arith, i.least)) i.most c.in-Ok-eq0.field-0-test i.filled c.in-Ok-eq0.ensures.filled

pub returns-in-Err-clause-filled : goal.returns-in-Err-clause-filled
returns-in-Err-clause-filled g c =
    let i = c.loop-at.invariant in
    rw c.refused.ensures
    (fills_refused _ _ c.args.from (c.loop-at.at - c.args.from) _ _ _ _ _ _ _ c.requires.apart (omega (arith, i.least)) (omega (arith, i.least, i.most, length-take {A = ℕ}, c.min-room.ensures)) i.filled c.in-Err.ensures.filled)

pub returns-clause-filled : goal.returns-clause-filled
returns-clause-filled g c = let i = c.loop-at.invariant in fills_whole _ _ _ _ _ _ _ (omega (arith, i.least, i.most, c.loop-at-test.false)) i.filled
