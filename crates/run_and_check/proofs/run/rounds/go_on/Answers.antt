use Rattle.std.proofs.Common.{refl, ◌∙◌, ap, map}
use Rattle.run_and_check.proofs.RunLemmas.Leaving.{adds_no_worker}
use Rattle.ann_outside.proofs.TextFileLemmas.Naming.{names_none}
use Rattle.run_and_check.proofs.run.rounds.go_on.Goals as goal

pub returns-in-Err-clause-desks : goal.returns-in-Err-clause-desks
returns-in-Err-clause-desks g c =
    let value = g.K.Desk.Desk.told in
    adds_no_worker c.args.setting.now.words.now.jobs (g.K.Desks.made c.args.desks.now) (map value c.nothing.result.crew.items) (ap (λ v. map value v.items) c.nothing.ensures.crew ∙ ap (map value) c.requires.crew.0)

pub returns-in-Err-clause-calls : goal.returns-in-Err-clause-calls
returns-in-Err-clause-calls g c = names_none refl
