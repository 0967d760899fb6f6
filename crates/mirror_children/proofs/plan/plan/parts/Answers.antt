use Rattle.std.proofs.Common.{◌≡◌, ◌<◌, length, rules, ℕ, List}
use Rattle.std.specs.List.{position_or_len, before_first, after_first}
use Rattle.mirror_children.specs.Plan.Settings.{is_equals}
use Rattle.mirror_children.proofs.PlanLemmas.Reading.{has_equals}
use Rattle.mirror_children.proofs.plan.plan.parts.Goals as goal
use Rattle.ann_key.proofs.Lists.{none_found}

pub returns-in-None : goal.returns-in-None
returns-in-None c =
    let none : position_or_len is_equals c.args.word.now ≡ length c.args.word.now = search rules in
    none_found is_equals c.args.word.now none

pub returns-in-Some : goal.returns-in-Some
returns-in-Some c =
    let some : position_or_len is_equals c.args.word.now < length c.args.word.now = search rules in
    (has_equals c.args.word.now some, search rules, search rules)
