use Rattle.std.proofs.Common.{◌∙◌, ℕ, rules, sym, refl, arith}
use Rattle.journal_model.specs.Legality.{both_conflict, task_of}
use Rattle.task_queue.proofs.Finding.{bare_all, bare_more, first_bare, found_some, least_found, none_found, same_queued}
use Rattle.task_queue.proofs.queue.Queue.first_free.Goals as goal

pub loop-task-init : goal.loop-task-init
loop-task-init c = record {
  some = omega arith;
  ordered = c.requires.ordered;
  fits = c.requires.fits;
  claimed = refl;
  busy = refl;
  bare = first_bare c.args.self.now c.requires.ordered;
}

pub returns-in_default-in_way-clause-found : goal.returns-in_default-in_way-clause-found
returns-in_default-in_way-clause-found c = λ past are. (
    let o = c.args.opening.now in
    let q = c.loop-task.self in
    let is = c.loop-task.invariant in
    let next = c.in-Some.ensures.some in
    sym (least_found o past q c.in-Some.task (same_queued o past c.args.self.now q is.claimed is.busy is.ordered is.fits are)
    (omega (arith, next.from_on, is.some)) (omega (arith, next.within, is.ordered.long.ready)) (bare_more q.ready.flags.items c.loop-task.from c.in-Some.task is.bare next) next.marked
    (sym c.in_way.ensures ∙ c.in_default-in_way.is))
    )

pub returns-in_default-in_way-clause-kept : goal.returns-in_default-in_way-clause-kept
returns-in_default-in_way-clause-kept c = λ past are. (
    let is = c.loop-task.invariant in
    same_queued c.args.opening.now past c.args.self.now c.loop-task.self is.claimed is.busy is.ordered is.fits are
    )

pub put_off-requires-clause-busy : goal.put_off-requires-clause-busy
put_off-requires-clause-busy c =
    let o = c.args.opening.now in
    (found_some (λ (b : ℕ). both_conflict (task_of o b) (task_of o c.in-Some.task)) c.loop-task.self.busy.items c.in-Some-in_way.other (sym c.in_way.ensures ∙ c.in-Some-in_way.is)).0

pub loop-task-preserved : goal.loop-task-preserved
loop-task-preserved c =
    let o = c.args.opening.now in
    let q = c.loop-task.self in
    let is = c.loop-task.invariant in
    record {
      some = omega arith;
      ordered = c.put_off.ensures.ordered;
      fits = c.put_off.ensures.fits o
          (found_some (λ (b : ℕ). both_conflict (task_of o b) (task_of o c.in-Some.task)) q.busy.items c.in-Some-in_way.other (sym c.in_way.ensures ∙ c.in-Some-in_way.is)).1 is.fits;
      claimed = c.put_off.ensures.same.0 ∙ is.claimed;
      busy = c.put_off.ensures.same.1 ∙ is.busy;
      bare = c.put_off.ensures.bare (bare_more q.ready.flags.items c.loop-task.from c.in-Some.task is.bare c.in-Some.ensures.some);
    }

pub returns-clause-found : goal.returns-clause-found
returns-clause-found c = λ past are. (
    let o = c.args.opening.now in
    let q = c.loop-task.self in
    let is = c.loop-task.invariant in
    sym (none_found o past q (same_queued o past c.args.self.now q is.claimed is.busy is.ordered is.fits are) (bare_all q.ready.flags.items c.loop-task.from is.bare (c.in_default.ensures.none (search rules))))
    )
