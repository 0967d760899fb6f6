use Rattle.std.proofs.Common.{rules, ◌≡◌, ◌+◌, ◌<◌, ℕ, length}
use Rattle.host_core.specs.Runs.{no_run, run_in}
use Rattle.host_core.proofs.Running.{no_runs}
use Rattle.host_core.proofs.runs.first_runs.Goals as goal

pub returns : goal.returns
returns c =
    let long : length c.resize.new.self.items ≡ length c.args.opening.now.tasks + 1 = search rules in
    let each : (t : ℕ) → t < length c.resize.new.self.items → run_in c.resize.new.self.items t ≡ no_run = search rules in
    no_runs c.args.opening.now c.resize.new.self.items long each
