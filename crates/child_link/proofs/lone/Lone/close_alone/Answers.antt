use Rattle.std.proofs.Common.{sym, ap, ◌∙◌, ℕ}
use Rattle.child_link.proofs.Solo.{keeps_own, closed_link, closed_over}
use Rattle.journal_model.specs.declared.verdict.Why.TheVariants.{Closed}
use Rattle.journal_model.specs.Legality.{may_stop}
use Rattle.journal_model.specs.Journal.{is_ended}
use Rattle.child_link.proofs.lone.Lone.close_alone.Goals as goal

pub close-requires-clause-idle : goal.close-requires-clause-idle
close-requires-clause-idle g c = ap (λ (k : ℕ). may_stop (g.D.Door.view c.args.door.now).seen k Closed) c.child.ensures ∙ c.requires.idle

pub returns-clause-over : goal.returns-clause-over
returns-clause-over g c =
    ap (is_ended (g.D.Door.view c.close.new.door).seen) (sym c.child.ensures)
    ∙ closed_over (g.D.Door.view c.args.door.now).number c.child.result (g.D.Door.view c.args.door.now).seen (g.D.Door.view c.close.new.door).seen c.close.ensures.closes

pub returns-clause-link : goal.returns-clause-link
returns-clause-link g c =
    keeps_own (closed_link (g.D.Door.view c.args.door.now).number c.child.result (g.D.Door.view c.args.door.now).seen (g.D.Door.view c.close.new.door).seen c.args.self.now.ear c.args.self.now.mouth
    (sym c.child.ensures) c.args.self.now.one_child c.close.ensures.closes)
