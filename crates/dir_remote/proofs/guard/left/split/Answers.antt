use Rattle.std.proofs.Common.{◌∙◌, ◌+◌, ℕ, ap, Option}
use Rattle.std.proofs.lemmas.List.{take_rest}
use Rattle.dir_remote.specs.Guard.LeftFiles.{front_at, rest_at}
use Rattle.dir_remote.proofs.guard.left.split.Goals as goal

pub returns-in-Some-clause-before : goal.returns-in-Some-clause-before
returns-in-Some-clause-before c = ap (λ (r : Option ℕ). front_at r c.args.text.now) c.in-Some.ensures

pub returns-in-Some-clause-after : goal.returns-in-Some-clause-after
returns-in-Some-clause-after c = take_rest c.args.text.now (c.in-Some.at + 1) ∙ ap (λ (r : Option ℕ). rest_at r c.args.text.now) c.in-Some.ensures

pub returns-in-None-clause-before : goal.returns-in-None-clause-before
returns-in-None-clause-before c = ap (λ (r : Option ℕ). front_at r c.args.text.now) c.in-None.ensures

pub returns-in-None-clause-after : goal.returns-in-None-clause-after
returns-in-None-clause-after c = ap (λ (r : Option ℕ). rest_at r c.args.text.now) c.in-None.ensures
