use Rattle.std.proofs.Common.{◌≡◌, ◌∙◌, ◌++◌, ℕ, List, length, map, sym, ap, take, arith, true}
use Rattle.std.specs.Prelude.{filter}
use Rattle.journal_model.specs.declared.verdict.Verdict.TheVariants.{Unsent}
use Rattle.journal_model.specs.declared.entry.What.TheVariants.{Verdict as Settled}
use Rattle.journal_model.specs.Journal.{open_jobs, is_unsent}
use Rattle.journal_model.specs.Due.{made_by}
use Rattle.host_core.specs.Moves.{unsent_verdicts}
use Rattle.journal_scan.specs.Looks.{due_jobs}
use Rattle.host_core.proofs.Pushing.{due_unsent, length-what}
use Rattle.host_core.proofs.group.push_unsent.Goals as goal

pub push_verdicts-requires-clause-room : goal.push_verdicts-requires-clause-room
push_verdicts-requires-clause-room c =
    let past = take c.args.past.n c.args.journal.now.entries in
    let same : length (due_jobs past c.args.child true) ≡ length (unsent_verdicts past c.args.child) = ap length (due_unsent past c.args.child) ∙ sym (length-what (λ j. Settled c.args.child j Unsent) (filter (is_unsent past c.args.child) (open_jobs past c.args.child))) in
    omega (arith, same, c.requires.room)

pub returns-clause-entries : goal.returns-clause-entries
returns-clause-entries c =
    let past = take c.args.past.n c.args.journal.now.entries in
    c.push_verdicts.ensures.entries
    ∙ ap (λ (js : List ℕ). c.args.journal.now.entries ++ made_by c.args.by (map (λ j. Settled c.args.child j Unsent) js)) (due_unsent past c.args.child)
