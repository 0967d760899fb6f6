use Rattle.std.proofs.Common.{sym, arith}
use Rattle.std.proofs.lemmas.Option.{get_or_from_slice_get}
use Rattle.journal_model.specs.declared.entry.Entry.{Entry}
use Rattle.journal_scan.specs.Shown.{entry_shown}
use Rattle.journal_look.proofs.Living.{AreFew, few_through, life_next}
use Rattle.journal_look.proofs.life.lived_through.Goals as goal

pub lived-life-requires-clause-asked : goal.lived-life-requires-clause-asked
lived-life-requires-clause-asked c =
    let few : AreFew c.loop-at.life c.loop-at.at = few_through c.args.entries.now c.loop-at.at c.args.child c.loop-at.life (omega (arith, c.requires)) c.loop-at.invariant in
    omega (arith, few.asked, c.requires, c.ranges.count.fits)

pub lived-life-requires-clause-written : goal.lived-life-requires-clause-written
lived-life-requires-clause-written c =
    let few : AreFew c.loop-at.life c.loop-at.at = few_through c.args.entries.now c.loop-at.at c.args.child c.loop-at.life (omega (arith, c.requires)) c.loop-at.invariant in
    omega (arith, few.written, c.requires, c.ranges.count.fits)

pub lived-life-requires-clause-sent : goal.lived-life-requires-clause-sent
lived-life-requires-clause-sent c =
    let few : AreFew c.loop-at.life c.loop-at.at = few_through c.args.entries.now c.loop-at.at c.args.child c.loop-at.life (omega (arith, c.requires)) c.loop-at.invariant in
    omega (arith, few.sent, c.requires, c.ranges.count.fits)

pub loop-at-preserved : goal.loop-at-preserved
loop-at-preserved c =
    let e : Entry = entry_shown c.in-Some.entry in
    life_next c.args.entries.now c.loop-at.at c.args.child e c.loop-at.life c.lived-life.result (omega (arith, c.requires))
    (sym (get_or_from_slice_get c.args.entries.now c.loop-at.at e e (sym c.in-Some.ensures))) c.lived-life.ensures c.loop-at.invariant
