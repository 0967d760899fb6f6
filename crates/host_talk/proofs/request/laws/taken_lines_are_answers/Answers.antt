use Rattle.host_talk.proofs.RequestLemmas.Hearing.{taken_answers}
use Rattle.host_talk.proofs.request.laws.taken_lines_are_answers.Goals as goal

pub returns : goal.returns
returns c = λ q ms taken. taken_answers q ms taken
