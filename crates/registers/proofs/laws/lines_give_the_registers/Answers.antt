use Rattle.registers.proofs.Fed.{lines_again}
use Rattle.registers.proofs.laws.lines_give_the_registers.Goals as goal

pub returns : goal.returns
returns c = lines_again
