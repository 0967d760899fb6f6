use Rattle.child_link.proofs.Apart.{got_apart}
use Rattle.child_link.proofs.laws.children_apart.Goals as goal

pub returns : goal.returns
returns c = λ o past by child line. got_apart o past by child line
