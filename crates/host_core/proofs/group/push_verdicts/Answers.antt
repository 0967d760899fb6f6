use Rattle.std.proofs.Common.{◌∙◌, append-nil, refl, ◌+◌, ◌≤◌, ◌++◌, [], List, length, map, sym, ap, subst, take, arith}
use Rattle.std.specs.List.{cons_option}
use Rattle.journal_model.specs.declared.entry.Entry.{Entry}
use Rattle.journal_model.specs.declared.entry.What.TheVariants.{Verdict as Settled}
use Rattle.journal_model.specs.Due.{made_by}
use Rattle.journal_scan.specs.Looks.{job_at, due_jobs}
use Rattle.host_core.proofs.Pushing.{none_pushed, room_next, pushed_next}
use Rattle.host_core.proofs.group.push_verdicts.Goals as goal

pub push_at-requires-clause-room : goal.push_at-requires-clause-room
push_at-requires-clause-room c =
    let init = c.args.journal.now.entries in
    let cap = c.loop-at.journal.room in
    let P : List Entry → Type 0 = λ es. length es + length (cons_option (job_at es c.args.past.n c.loop-at.at c.args.child c.args.unsent) []) ≤ cap in
    let room : length init + length (due_jobs (take c.args.past.n init) c.args.child c.args.unsent) ≤ cap = omega (arith, c.requires.room, c.loop-at.invariant.1) in
    subst P (sym c.loop-at.invariant.0)
    (room_next init c.args.by c.args.child c.args.past.n c.args.verdict c.args.unsent c.loop-at.at cap c.requires.past.long c.loop-at-test.true room)

pub loop-at-preserved : goal.loop-at-preserved
loop-at-preserved c =
    let step : List Entry → List Entry = λ es. es ++ made_by c.args.by (map (λ j. Settled c.args.child j c.args.verdict) (cons_option (job_at es c.args.past.n c.loop-at.at c.args.child c.args.unsent) [])) in (
      c.push_at.ensures.entries ∙ ap step c.loop-at.invariant.0
          ∙ pushed_next c.args.journal.now.entries c.args.by c.args.child c.args.past.n c.args.verdict c.args.unsent c.loop-at.at c.requires.past.long c.loop-at-test.true,
      c.push_at.ensures.room ∙ c.loop-at.invariant.1,
    )

pub loop-at-init : goal.loop-at-init
loop-at-init c = (
  sym (
      ap (λ (es : List Entry). c.args.journal.now.entries ++ es) (none_pushed (take c.args.past.n c.args.journal.now.entries) c.args.by c.args.child c.args.past.n c.args.verdict c.args.unsent c.args.past.from c.requires.past.none)
      ∙ append-nil c.args.journal.now.entries),
  refl,
)
