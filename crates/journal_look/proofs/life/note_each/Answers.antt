use Rattle.std.proofs.Common.{◌∙◌, ap, sym}
use Rattle.journal_look.specs.Lives.{about}
use Rattle.journal_look.proofs.Living.{lives_same}
use Rattle.journal_look.proofs.life.note_each.Goals as goal

pub returns-in-None : goal.returns-in-None
returns-in-None c told past e is are = lives_same past e c.args.lives.now.items (ap about is ∙ sym c.in-None.ensures) are
