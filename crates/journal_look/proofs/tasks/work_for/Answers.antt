use Rattle.std.proofs.Common.{◌∙◌, ℕ, sym}
use Rattle.journal_model.specs.Journal.{each_of}
use Rattle.journal_model.specs.Legality.{claimed_for, may_work}
use Rattle.journal_look.proofs.Working.{find_none, find_some, no_claimed_work, no_held_work}
use Rattle.journal_look.proofs.tasks.work_for.Goals as goal

pub returns-in-Some-clause-none : goal.returns-in-Some-clause-none
returns-in-Some-clause-none c = λ nothing.
    no_held_work c.args.journal.now.entries c.args.by c.args.child (sym c.may_work.ensures ∙ c.if-may_work.false) c.in-Some.held.now c.in-Some.ensures (c.held_work.ensures.none nothing)

pub returns-in-None-clause-some : goal.returns-in-None-clause-some
returns-in-None-clause-some c =
    let past = c.args.journal.now.entries in
    find_some (λ (t : ℕ). may_work past c.args.by t c.args.child) (each_of (claimed_for c.args.child) past) c.first_work.result c.first_work.ensures

pub returns-in-None-clause-none : goal.returns-in-None-clause-none
returns-in-None-clause-none c = λ nothing.
    let past = c.args.journal.now.entries in
    no_claimed_work past c.args.by c.args.child (sym c.may_work.ensures ∙ c.if-may_work.false)
    (find_none (λ (t : ℕ). may_work past c.args.by t c.args.child) (each_of (claimed_for c.args.child) past) c.first_work.result c.first_work.ensures nothing)
