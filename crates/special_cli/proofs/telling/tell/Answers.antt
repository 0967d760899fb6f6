use Rattle.std.proofs.Common.{sym}
use Rattle.special_cli.proofs.telling.tell.Goals as goal

pub returns-clause-told : goal.returns-clause-told
returns-clause-told c s = rw (s.close.ensures, sym s.ran.view_is, sym s.deref.ensures.value) s.say_end-status.ensures
