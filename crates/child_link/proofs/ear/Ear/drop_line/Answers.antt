use Rattle.std.proofs.Common.{ap}
use Rattle.journal_model.specs.Halves.{EarValue}
use Rattle.child_link.proofs.Firsts.{line_held, takes_held}
use Rattle.child_link.proofs.ear.Ear.drop_line.Goals as goal

pub drop_line-requires : goal.drop_line-requires
drop_line-requires g c =
    line_held c.self.inside.splitter.limit c.self.inside.splitter.bytes c.args.self.now.held c.self.invariant.1 (ap (λ (v : EarValue). v.held) c.self.view_is) c.requires

pub returns-clause-cut : goal.returns-clause-cut
returns-clause-cut g c =
    takes_held c.self.inside.splitter.bytes c.args.self.now.held c.drop_line.new.self.bytes (ap (λ (v : EarValue). v.held) c.self.view_is) c.drop_line.ensures.cut
