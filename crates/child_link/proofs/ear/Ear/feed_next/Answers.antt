use Rattle.std.proofs.Common.{refl, sym, ap, ◌∙◌}
use Rattle.journal_model.specs.declared.verdict.Why.TheVariants.{Memory}
use Rattle.child_link.proofs.Hearing.{ear_gives_up}
use Rattle.std.proofs.Common.{inr}
use Rattle.journal_model.specs.Journal.{is_started, is_ended}
use Rattle.child_link.proofs.ear.Ear.feed_next.Goals as goal
use Rattle.child_link.proofs.Hearing.{next_fed}

pub returns-in-NoRoom-clause-moved : goal.returns-in-NoRoom-clause-moved
returns-in-NoRoom-clause-moved g c = ear_gives_up c.args.self.now c.child-child.result c.child-child.ensures Memory refl refl tt c.stop.ensures.ends

pub returns-in-Line-clause-next : goal.returns-in-Line-clause-next
returns-in-Line-clause-next g c = next_fed (g.D.Door.view c.args.door.now).opening (g.D.Door.view c.args.door.now).number (g.D.Door.view c.args.door.now).alone (g.D.Door.view c.args.door.now).seen (g.D.Door.view c.feed.new.door).seen c.args.self.now c.feed.new.self c.feed.result c.feed.ensures.came c.feed.ensures.over

pub stop-requires-clause-started : goal.stop-requires-clause-started
stop-requires-clause-started g c = ap (is_started (g.D.Door.view c.args.door.now).seen) c.child-child.ensures ∙ c.requires.started

pub returns-in-NoRoom-clause-next : goal.returns-in-NoRoom-clause-next
returns-in-NoRoom-clause-next g c = (refl, inr (ap (is_ended (g.D.Door.view c.stop.new.door).seen) (sym c.child-child.ensures) ∙ c.stop.ensures.over))
