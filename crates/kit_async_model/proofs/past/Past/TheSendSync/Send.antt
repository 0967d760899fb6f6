-- It owns nothing, so it may go to another thread.
use denote.RattleType.{RattleType}
use Rattle.kit_async_model.specs.contracts.past.Past.{the_row}
use denote.Param.Send.{IsSend}

pub send : (E : RattleType) → IsSend (the_row E)
send E = record { owned = λ d vs. ((λ vss. (tt, ((λ uss. (tt, tt)), tt))), tt); leaving = λ k f vs. tt }
