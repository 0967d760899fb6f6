use Rattle.plain_lines.proofs.WordsLemmas.Asking.{follows_host}
use Rattle.plain_lines.proofs.words.plain.Plain.from_host.Goals as goal

pub returns-clause-follows : goal.returns-clause-follows
returns-clause-follows c = λ came follows.
    follows_host c.args.self.now c.settle.new.self c.oldest-oldest.result c.args.line.now came c.oldest-oldest.ensures c.settle.ensures follows
