use Rattle.kit_async.proofs.Gathered.{roles_serve}
use Rattle.kit_async.proofs.laws.roles_serve.Goals as goal

pub returns : goal.returns
returns c = roles_serve
