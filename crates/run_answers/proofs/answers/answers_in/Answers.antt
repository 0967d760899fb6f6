use Rattle.std.proofs.Common.{rules, ◌≡◌, ◌+◌, List, [], length, take, Option, sym, subst}
use Rattle.std.proofs.lemmas.List.{with_items_is}
use Rattle.journal_scan.specs.Shown.{entry_shown}
use Rattle.journal_model.specs.declared.answer.Answer.{Answer}
use Rattle.run_answers.specs.Answering.{HoldsAnswers, TakesUp}
use Rattle.run_answers.proofs.Answering.{holds_none, holds_more}
use Rattle.run_answers.proofs.answers.answers_in.Goals as goal
use Rattle.journal_model.proofs.Across.{no_gap}

pub loop-at-init : goal.loop-at-init
loop-at-init c =
    subst (HoldsAnswers c.args.tasks []) (sym (c.in_ok-places.ensures.items_if_clones_equal (λ y h. search rules))) (holds_none c.args.tasks)

pub unreachable-requires : goal.unreachable-requires
unreachable-requires c = no_gap c.args.journal.now.entries c.loop-at.at (rw c.len-at-end.ensures at c.loop-at-test.true) c.in_default.ensures

pub loop-at-preserved : goal.loop-at-preserved
loop-at-preserved c =
    let long : length c.take_up.new.places ≡ c.loop-at.places.len = search rules in
    subst (HoldsAnswers c.args.tasks (take (c.loop-at.at + 1) c.args.journal.now.entries)) (sym (with_items_is c.loop-at.places c.take_up.new.places long))
    (holds_more c.args.tasks c.loop-at.at c.args.journal.now.entries (entry_shown c.in-Some.entry) c.loop-at.places.items c.take_up.new.places (sym c.in-Some.ensures)
    (subst (λ (places : List (Option Answer)). TakesUp (entry_shown c.in-Some.entry) places c.take_up.new.places) c.as_mut_slice.ensures.value c.take_up.ensures) c.loop-at.invariant)
