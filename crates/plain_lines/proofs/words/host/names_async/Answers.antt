use Rattle.std.proofs.Common.{rules, tests, ◌∙◌}
use Rattle.std.proofs.lemmas.Iterator.Search.{any_from_yields_List}
use Rattle.std.proofs.lemmas.Iterator.Splits.{YieldsList-from_slice_split}
use Rattle.plain_lines.specs.Words.Changes.{is_async, parameter}
use Rattle.plain_lines.proofs.words.host.names_async.Goals as goal

pub returns : goal.returns
returns c =
    any_from_yields_List is_async _ _ _ c.any.ensures.ran
    (YieldsList-from_slice_split _ _ (parameter c.args.line.now) (c.split.ensures.rest ∙ c.parameter.ensures) c.split.ensures.done c.split.ensures.closure (λ x r q k. search (rules, tests)))
    (λ x b q k. search (rules, tests))
