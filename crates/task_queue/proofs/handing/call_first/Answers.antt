use Rattle.std.proofs.Common.{◌≡◌, ◌∙◌, ℕ, ◌<◌, List, refl, sym, ap, subst, set, length, arith, false}
use Rattle.task_queue.specs.Groups.{IsFirst, number_at}
use Rattle.task_queue.proofs.Keeping.{called_kept, handed_on}
use Rattle.task_queue.proofs.handing.call_first.Goals as goal

pub returns-clause-called : goal.returns-clause-called
returns-clause-called c =
    let g = c.args.groups.now in
    let groups = g.of.items in
    let claimed = c.args.claimed.now in
    let task = c.args.task in
    let first = c.first_unclaimed-first.result in
    let within : task < length groups = omega (arith, c.requires.within, c.requires.kept.long) in
    let group : c.number_at-group.result ≡ number_at groups task = c.number_at-group.ensures ∙ ap (λ (l : List ℕ). number_at l task) c.deref.ensures.value in
    let begin : c.number_at-first.result ≡ number_at g.firsts.items (number_at groups task) =
    c.number_at-first.ensures ∙ ap (λ (l : List ℕ). number_at l c.number_at-group.result) c.deref-2.ensures.value ∙ ap (number_at g.firsts.items) group in
    let found : IsFirst groups claimed (number_at groups task) 0 first =
    c.first_unclaimed-first.ensures.first (number_at groups task) 0
    (subst (IsFirst groups claimed (number_at groups task) 0) (sym begin) (c.requires.kept.firsts.each (number_at groups task) (c.requires.kept.within.each task within))) in
    record {
      kept = called_kept g c.put_number.new.numbers claimed (number_at groups task) first (c.put_number.ensures ∙ ap (λ (k : ℕ). set g.firsts.items k first) group) found c.requires.kept;
      same = refl;
      called = handed_on groups claimed (number_at groups task) 0 first false c.args.ready.now.flags.items c.mark.new.self.flags.items found c.first_unclaimed-first.ensures.unclaimed c.mark.ensures.flags;
    }
