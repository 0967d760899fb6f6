-- Where the workers of a round are placed.
use Rattle.std.specs.Prelude.{◌≡◌}
use Rattle.crew_work.specs.declared.beside.passes.Site.{Site}
use Rattle.crew_rounds.specs.declared.tagged.worker.Worker.{Worker}

-- the worker has what the site has
pub record IsAt {W K R : Type 0} (site : Site R) (w : Worker W K R) : Type 0 where
  pub hall : w.hall.now ≡ site.hall.now
  pub tasks : w.tasks.now ≡ site.tasks.now
  pub setup : w.setup.now ≡ site.setup.now
