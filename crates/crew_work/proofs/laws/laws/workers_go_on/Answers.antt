use Rattle.std.proofs.Common.{refl}
use Rattle.crew_work.proofs.LawsLemmas.Entering.{entered, claim_gives, answer_gives}
use Rattle.crew_work.proofs.LawsLemmas.Laboring.{busy_others, free_ends}
use Rattle.crew_work.proofs.laws.laws.workers_go_on.Goals as goal

pub returns : goal.returns
returns g c = record {
  enters = entered;
  claims = λ m o n c start more new reply pos e w. claim_gives o (g.M.Meaning.ran m) (g.M.Meaning.lasts m) n c start more new reply pos e w;
  others = λ m o n c t k start more others legal apart b. busy_others o (g.M.Meaning.ran m) (g.M.Meaning.lasts m) n c start t k more others legal apart b;
  answers = λ m o n c t k start more new answer reply e shut run b.
      answer_gives o (g.M.Meaning.ran m) (g.M.Meaning.lasts m) n c start t k more new answer reply e shut run b;
  ends = λ m o crew p c more seen pos post w through.
      free_ends o (g.M.Meaning.ran m) (g.M.Meaning.lasts m) p.number c p.start crew p more refl seen refl pos post w through;
}
