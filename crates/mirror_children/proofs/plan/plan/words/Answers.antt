use Rattle.std.proofs.Common.{lit<}
use Rattle.std.specs.Prelude.{Ok, IfOk, map}
use Rattle.std.specs.declared.alloc.AllocError.{AllocError}
use Rattle.std.proofs.lemmas.Iterator.Consumers.{map_from_collect}
use Rattle.std.proofs.lemmas.Iterator.Splits.{YieldsList-from_str_split}
use Rattle.mirror_children.proofs.plan.plan.words.Goals as goal

pub returns-in-Ok : goal.returns-in-Ok
returns-in-Ok c = map_from_collect {E = AllocError} (Ok c.in-Ok.words) c.in-Ok.ensures.ran (YieldsList-from_str_split {s = c.split.result} 32 c.args.value.now (lit< tt) c.split.ensures.text c.split.ensures.has_more c.split.ensures.pattern)
