use Rattle.std.proofs.Common.{rules, tests}
use Rattle.std.specs.Prelude.{bytes_eq, codes}
use Rattle.std.proofs.lemmas.Iterator.Search.{any_from_yields_List}
use Rattle.std.proofs.lemmas.Iterator.Splits.{YieldsList-from_slice_split}
use Rattle.annex_model.specs.Messages.{is_space}
use Rattle.kit_async_model.proofs.due.has_async.Goals as goal

pub returns : goal.returns
returns c =
    any_from_yields_List (λ word. bytes_eq word (codes "ASYNC")) _ _ c.any.result c.any.ensures.ran
    (YieldsList-from_slice_split _ is_space c.args.names.now c.split.ensures.rest c.split.ensures.done c.split.ensures.closure (λ x r q k. search (rules, tests)))
    (λ x b q k. search (rules, tests))
