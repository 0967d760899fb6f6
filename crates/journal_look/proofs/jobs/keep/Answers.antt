use Rattle.std.proofs.lemmas.List.Elements.{All-set}
use Rattle.journal_look.specs.Opens.{IsTold}
use Rattle.journal_look.proofs.jobs.keep.Goals as goal

pub returns-then-next-len : goal.returns-then-next-len
returns-then-next-len c past are is = All-set (IsTold past) c.args.told.now.items c.args.next c.args.one is are
