use Rattle.plain_lines.proofs.WordsLemmas.Asking.{follows_remote}
use Rattle.plain_lines.proofs.words.plain.Plain.from_remote.Goals as goal

pub returns-clause-follows : goal.returns-clause-follows
returns-clause-follows c = λ came follows.
    follows_remote c.args.self.now c.ask.new.self c.args.line.now c.in-Some.said.now came c.in-Some.ensures c.in_ok-ask.ensures.ok follows
