use Rattle.std.proofs.Common.{◌≡◌, ◌∙◌, ◌++◌, ℕ, List, length, map, sym, ap, take, arith, false}
use Rattle.journal_model.specs.declared.verdict.Verdict.TheVariants.{Ended}
use Rattle.journal_model.specs.declared.entry.What.TheVariants.{Verdict as Settled}
use Rattle.journal_model.specs.Journal.{open_jobs}
use Rattle.journal_model.specs.Due.{made_by, ended_jobs}
use Rattle.journal_scan.specs.Looks.{due_jobs}
use Rattle.host_core.proofs.Pushing.{due_ended, length-what}
use Rattle.host_core.proofs.group.push_ended.Goals as goal

pub push_verdicts-requires-clause-room : goal.push_verdicts-requires-clause-room
push_verdicts-requires-clause-room c =
    let past = take c.args.past.n c.args.journal.now.entries in
    let same : length (due_jobs past c.args.child false) ≡ length (ended_jobs past c.args.child c.args.why) = ap length (due_ended past c.args.child) ∙ sym (length-what (λ j. Settled c.args.child j (Ended c.args.why)) (open_jobs past c.args.child)) in
    omega (arith, same, c.requires.room)

pub returns-clause-entries : goal.returns-clause-entries
returns-clause-entries c =
    let past = take c.args.past.n c.args.journal.now.entries in
    c.push_verdicts.ensures.entries
    ∙ ap (λ (js : List ℕ). c.args.journal.now.entries ++ made_by c.args.by (map (λ j. Settled c.args.child j (Ended c.args.why)) js)) (due_ended past c.args.child)
