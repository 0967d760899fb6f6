use Rattle.child_link.proofs.Solo.{goes_alone, hears_alone}
use Rattle.child_link.proofs.lone.Lone.hear_version_alone.Goals as goal

pub returns-clause-goes : goal.returns-clause-goes
returns-clause-goes g c = goes_alone c.args.self.now.ear.child c.requires.alone c.hear_version.ensures.moved

pub returns-clause-link : goal.returns-clause-link
returns-clause-link g c = hears_alone (g.D.Door.view c.hear_version.new.door).opening c.requires.alone (c.hear_version.ensures.door.legal c.requires.legal) c.hear_version.ensures.moved c.hear_version.ensures.same
