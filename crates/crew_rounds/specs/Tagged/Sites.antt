-- Where the workers of a round are placed.
use Rattle.std.specs.Prelude.{◌≡◌}
use Rattle.crew_work.specs.declared.beside.way.Shared.{Shared}
use Rattle.crew_rounds.specs.declared.tagged.dealt.Site.{Site}
use Rattle.crew_rounds.specs.declared.tagged.worker.Worker.{Worker}

-- the worker has what the site has, and its child
pub record IsAt {K R : Type 0} (site : Site R) (w : Worker (Shared R) K R) : Type 0 where
  pub hall : w.hall.now ≡ site.hall.now
  pub tasks : w.tasks.now ≡ site.tasks.now
  pub setup : w.setup.now ≡ site.setup.now
  pub child : w.way.child ≡ site.child
