use Rattle.crew_work.proofs.LawsLemmas.Ending.{ear_ends, mouth_ends, stayed_keeps, stayed_ear, stayed_mouth, stayed_worker, stayed_lone}
use Rattle.crew_work.proofs.laws.laws.roles_end.Goals as goal

pub returns : goal.returns
returns g c = record {
  ears = ear_ends;
  mouths = mouth_ends;
  stayed = λ m crew p pos none. (
    stayed_keeps crew p pos none,
    λ o c. stayed_worker crew p pos none o (g.M.Meaning.ran m) c,
    stayed_ear crew p pos none,
    stayed_mouth crew p pos none,
    λ o l wired. stayed_lone crew p pos none o (g.M.Meaning.ran m) l wired,
  );
}
