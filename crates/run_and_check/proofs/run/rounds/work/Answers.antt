use Rattle.std.proofs.Common.{refl, ◌∙◌, map, sym}
use Rattle.std.proofs.lemmas.List.{length-map}
use Rattle.run_and_check.proofs.RunLemmas.Leaving.{leaves_nothing, adds_as_many}
use Rattle.ann_outside.proofs.TextFileLemmas.Naming.{names_none}
use Rattle.run_and_check.proofs.run.rounds.work.Goals as goal

pub returns-in_default-clause-leaves : goal.returns-in_default-clause-leaves
returns-in_default-clause-leaves g c =
    leaves_nothing _ (g.P.Programs.told c.args.programs.now) c.args.setting.now.words.now.program c.nothing.result.journal.entries _ c.nothing.ensures.journal c.requires.none

pub returns-in_default-prepare-clause-leaves : goal.returns-in_default-prepare-clause-leaves
returns-in_default-prepare-clause-leaves g c =
    leaves_nothing _ (g.P.Programs.told c.args.programs.now) c.args.setting.now.words.now.program c.nothing-in_default-prepare.result.journal.entries _
    c.nothing-in_default-prepare.ensures.journal c.requires.none

pub returns-clause-desks : goal.returns-clause-desks
returns-clause-desks g c =
    let value = g.K.Desk.Desk.told in
    let asked = c.ask_desks.new.crew in
    let back = c.do_all.result.crew in
    adds_as_many c.args.setting.now.words.now.jobs (g.K.Desks.made c.args.desks.now) (g.K.Desks.made c.ask_desks.new.desks) (map value asked.items) (map value back.items)
    (length-map back.items value ∙ sym back.ok.0 ∙ c.do_all.ensures.crew ∙ sym c.in-Ok.ensures.all ∙ asked.ok.0 ∙ sym (length-map asked.items value))
    c.do_all.ensures.origins c.ask_desks.ensures.desks

pub returns-in_default-clause-calls : goal.returns-in_default-clause-calls
returns-in_default-clause-calls g c = names_none refl

pub returns-in_default-prepare-clause-calls : goal.returns-in_default-prepare-clause-calls
returns-in_default-prepare-clause-calls g c = names_none refl
