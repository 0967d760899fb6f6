use Rattle.std.proofs.Common.{◌∙◌, ◌<◌, ◌+◌, List, Option, length, refl, sym, subst, slice_get, take, true, false, arith}
use Rattle.journal_model.specs.declared.entry.Entry.{Entry}
use Rattle.journal_scan.specs.Shown.{entry_shown}
use Rattle.journal_audit.specs.Replays.{IsNext, IsReplayed}
use Rattle.journal_audit.proofs.Auditing.{next_here, wrong_here, replayed_more, replayed_whole, read_there}
use Rattle.journal_audit.proofs.replay.first_wrong.Goals as goal
use Rattle.journal_model.proofs.Across.{no_gap as some_there}

pub unreachable-requires : goal.unreachable-requires
unreachable-requires c =
    some_there c.args.journal.now.entries c.loop-at.at (omega (arith, c.loop-at-test.true, c.len-at-end.ensures)) c.in_default.ensures

pub returns-then-not-branch-clause-wrong : goal.returns-then-not-branch-clause-wrong
returns-then-not-branch-clause-wrong c =
    let items : List Entry = c.args.journal.now.entries in
    let less : c.loop-at.at < length items = omega (arith, c.loop-at-test.true, c.len-at-end.ensures) in
    let made = c.may_stand.new.core.journal in
    let e : Entry = entry_shown c.in-Some.entry in
    let after : Option Entry = slice_get items (c.loop-at.at + 1) in
    let is = read_there items c.loop-at.at e c.in-Some.ensures in
    let here = subst (λ (n : Option Entry). IsReplayed c.args.opening.now (take c.loop-at.at items) n c.loop-at.core.journal) (sym c.in-Some.ensures) c.loop-at.invariant.replayed in
    let next = next_here c.args.opening.now c.loop-at.core.opening items c.loop-at.core.journal made c.loop-at.at e after c.in_ok-may_stand.field-0 false c.loop-at.invariant.opening less here
    (λ past count before.
    subst (λ (n : Option Entry). IsNext c.loop-at.core.opening past e n made c.in_ok-may_stand.field-0) c.entry-in-loop-at.ensures (c.in_ok-may_stand.ensures.next past count before))
    c.if-not-branch.true in
    wrong_here c.args.opening.now items items made c.loop-at.at c.kind_of.result e after refl less is c.loop-at.invariant.replayed.stands next c.kind_of.ensures

pub loop-at-preserved : goal.loop-at-preserved
loop-at-preserved c =
    let items : List Entry = c.args.journal.now.entries in
    let less : c.loop-at.at < length items = omega (arith, c.loop-at-test.true, c.len-at-end.ensures) in
    let made = c.may_stand.new.core.journal in
    let e : Entry = entry_shown c.in-Some.entry in
    let after : Option Entry = slice_get items (c.loop-at.at + 1) in
    let is = read_there items c.loop-at.at e c.in-Some.ensures in
    let here = subst (λ (n : Option Entry). IsReplayed c.args.opening.now (take c.loop-at.at items) n c.loop-at.core.journal) (sym c.in-Some.ensures) c.loop-at.invariant.replayed in
    let next = next_here c.args.opening.now c.loop-at.core.opening items c.loop-at.core.journal made c.loop-at.at e after c.in_ok-may_stand.field-0 true c.loop-at.invariant.opening less here
    (λ past count before.
    subst (λ (n : Option Entry). IsNext c.loop-at.core.opening past e n made c.in_ok-may_stand.field-0) c.entry-in-loop-at.ensures (c.in_ok-may_stand.ensures.next past count before))
    c.if-not-branch.false in
    record {
      opening = c.may_stand.ensures.opening ∙ c.loop-at.invariant.opening;
      replayed = replayed_more c.args.opening.now items made c.loop-at.at e after less is next;
    }

pub returns-clause-whole : goal.returns-clause-whole
returns-clause-whole c none =
    replayed_whole c.args.opening.now c.args.journal.now.entries c.loop-at.core.journal c.loop-at.at (omega (arith, c.loop-at-test.false, c.len-at-end.ensures)) c.loop-at.invariant.replayed
