use Rattle.std.proofs.Common.{refl, sym, ap, ◌∙◌}
use Rattle.journal_model.specs.declared.verdict.Why.TheVariants.{LongLine, Memory}
use Rattle.child_link.proofs.Roles.{moved_from}
use Rattle.child_link.proofs.Hearing.{ear_gives_up, turn_over, too_long}
use Rattle.journal_model.specs.Journal.{is_started, is_ended}
use Rattle.child_link.proofs.ear.Ear.hear.Goals as goal
use Rattle.child_link.proofs.Hearing.{over_heard, fed_heard, unfed_heard, line_not_long}

pub stop-requires-clause-started : goal.stop-requires-clause-started
stop-requires-clause-started g c = ap (is_started (g.D.Door.view c.args.door.now).seen) c.child-child.ensures ∙ c.requires.started

pub returns-then-feed-clause-turned : goal.returns-then-feed-clause-turned
returns-then-feed-clause-turned g c = moved_from (λ h. (c.requires.turn, h)) c.feed.ensures.turned

pub returns-else-feed-clause-turned : goal.returns-else-feed-clause-turned
returns-else-feed-clause-turned g c = moved_from (λ h. (c.requires.turn, h)) c.feed.ensures.turned

pub returns-in-Long-clause-over : goal.returns-in-Long-clause-over
returns-in-Long-clause-over g c = λ _. ap (is_ended (g.D.Door.view c.stop.new.door).seen) (sym c.child-child.ensures) ∙ c.stop.ensures.over

pub returns-in-Long-clause-moved : goal.returns-in-Long-clause-moved
returns-in-Long-clause-moved g c = ear_gives_up c.args.self.now c.child-child.result c.child-child.ensures LongLine refl refl (too_long c.args.self.now.held c.in-Long.ensures) c.stop.ensures.ends

pub returns-in-Long-clause-turned : goal.returns-in-Long-clause-turned
returns-in-Long-clause-turned g c = turn_over c.args.self.now c.child-child.result c.child-child.ensures LongLine refl c.stop.ensures.ends

pub returns-in-NoRoom-clause-moved : goal.returns-in-NoRoom-clause-moved
returns-in-NoRoom-clause-moved g c = ear_gives_up c.args.self.now c.child-child.result c.child-child.ensures Memory refl refl tt c.stop-in-NoRoom.ensures.ends

pub returns-in-NoRoom-clause-turned : goal.returns-in-NoRoom-clause-turned
returns-in-NoRoom-clause-turned g c = turn_over c.args.self.now c.child-child.result c.child-child.ensures Memory refl c.stop-in-NoRoom.ensures.ends

pub returns-then-feed-clause-heard : goal.returns-then-feed-clause-heard
returns-then-feed-clause-heard g c = fed_heard (g.D.Door.view c.args.door.now).opening (g.D.Door.view c.args.door.now).number (g.D.Door.view c.args.door.now).alone (g.D.Door.view c.args.door.now).seen (g.D.Door.view c.feed.new.door).seen c.args.self.now c.feed.new.self c.feed.result c.feed.ensures.came c.if-feed.true

pub returns-else-feed-clause-heard : goal.returns-else-feed-clause-heard
returns-else-feed-clause-heard g c = unfed_heard (g.D.Door.view c.args.door.now).opening (g.D.Door.view c.args.door.now).number (g.D.Door.view c.args.door.now).alone (g.D.Door.view c.args.door.now).seen (g.D.Door.view c.feed.new.door).seen c.args.self.now c.feed.new.self c.feed.result c.feed.ensures.came c.if-feed.false c.in-Line.ensures.0

pub returns-in-Long-clause-heard : goal.returns-in-Long-clause-heard
returns-in-Long-clause-heard g c = over_heard c.args.self.now c.args.self.now c.child-child.result c.child-child.ensures LongLine refl (λ _. refl) c.stop.ensures.ends

pub returns-in-NoRoom-clause-heard : goal.returns-in-NoRoom-clause-heard
returns-in-NoRoom-clause-heard g c = over_heard c.args.self.now c.args.self.now c.child-child.result c.child-child.ensures Memory refl (λ long. line_not_long c.args.self.now.held c.in-NoRoom.ensures long) c.stop-in-NoRoom.ensures.ends

pub stop-requires-in-NoRoom-clause-started : goal.stop-requires-in-NoRoom-clause-started
stop-requires-in-NoRoom-clause-started g c = ap (is_started (g.D.Door.view c.args.door.now).seen) c.child-child.ensures ∙ c.requires.started

pub returns-in-NoRoom-clause-over : goal.returns-in-NoRoom-clause-over
returns-in-NoRoom-clause-over g c = λ _. ap (is_ended (g.D.Door.view c.stop-in-NoRoom.new.door).seen) (sym c.child-child.ensures) ∙ c.stop-in-NoRoom.ensures.over
