use Rattle.std.proofs.Common.{◌∙◌}
use Rattle.ann_key.specs.KeyRefs.{text_of}
use Rattle.run_and_check.proofs.CheckLemmas.Checked.{check_begins}
use Rattle.run_and_check.proofs.check.preparing.begin.Goals as goal

pub new-requires : goal.new-requires
new-requires g = check_begins (text_of g.args.key) g.args.stamp g.in_ok-opening.opening g.requires.fit g.in_ok-opening.ensures

pub returns-clause-may : goal.returns-clause-may
returns-clause-may g = check_begins (text_of g.args.key) g.args.stamp g.in_ok-core.core.opening g.requires.fit (g.in_ok-core.ensures.opening ∙ g.in_ok-opening.ensures)
