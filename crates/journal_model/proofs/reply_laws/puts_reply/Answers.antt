use Rattle.journal_model.proofs.Answering.{puts_reply}
use Rattle.journal_model.proofs.reply_laws.puts_reply.Goals as goal

pub returns : goal.returns
returns c = λ o journal legal. puts_reply o journal legal
