use Rattle.std.proofs.Common.{◌≡◌, ◌∙◌, ℕ, List, Option, refl, sym, ap, subst, rules, arith}
use Rattle.ann_outside.specs.Calls.{Log}
use Rattle.ann_outside.specs.TextFile.Names.{NamesOnly}
use Rattle.ann_outside.proofs.TextFileLemmas.Naming.{names_none}
use Rattle.info_and_init.specs.Init.Inits.{IsInitFile}
use Rattle.std.specs.Prelude.{IsErr}
use Rattle.std.proofs.lemmas.Grind.{common_steps}
use Rattle.info_and_init.specs.declared.init.setup.Setup.TheVariants.{Initialized, Stopped}
use Rattle.info_and_init.specs.declared.init.made.InitEnd.TheVariants.{Memory}
use Rattle.info_and_init.proofs.InitLemmas.Keeping.{ends_set, ends_stopped, ends_wanting, outcome_ok, ok_err}
use Rattle.run_starts.proofs.OnceLemmas.Leaving.{leaves_as, leaves_nothing}
use Rattle.info_and_init.proofs.init.doing.ask_and_keep.Goals as goal
use Rattle.info_and_init.proofs.init.doing.ask_and_keep.Goals.{in-Ok-Initialized, in-Ok-Stopped, in-Err}
use Rattle.child_life.specs.End.Programs.{Leaves}
use Rattle.journal_model.proofs.Across.{nothing_legal}

pub returns-in_default-clause-leaves : goal.returns-in_default-clause-leaves
returns-in_default-clause-leaves g c =
    leaves_nothing _ (g.P.Programs.told c.args.programs.now) (g.P.Programs.told c.args.programs.now) c.args.words.now.program
    c.nothing_done.result.journal.entries _ refl c.nothing_done.ensures.0 c.requires.room.0

pub returns-clause-ends : goal.returns-clause-ends
returns-clause-ends g c =
    let told = (g.D.Desk.told c.args.desk.now).files in
    let table = g.D.Desk.told c.match-asked.desk in
    let core = c.ask-asked.new.core in
    let same = c.ask-asked.ensures.core.opening ∙ c.in-Ok.ensures.opening in
    let legal = c.ask-asked.ensures.core.legal (nothing_legal c.in-Ok.core.opening c.in-Ok.core.journal c.in-Ok.ensures.empty) in
    elim c.match-asked.branch [
      | in-Ok-Initialized w ↦
          let is : w.in-Ok-Initialized.field-0 ≡ Initialized = rw w.in-Ok-Initialized.is at w.in-Ok-Initialized.field-0-is in
          ends_set c.args.words.now told (g.D.Desk.told w.keep-end.new.desk).files (g.D.Desk.told w.keep-end.new.desk).counts (g.D.Desk.told w.keep-end.new.desk).log table c.args.opening core.opening core.journal
          c.journal_of.result.entries w.in-Ok-Initialized.field-0 w.keep-end.result c.match-asked.end c.requires.begins same legal c.ask-asked.ensures.asked (outcome_ok core.journal c.ask-asked.result w.in-Ok-Initialized.field-0 w.in-Ok-Initialized.is c.ask-asked.ensures.outcome)
          is w.keep-end.ensures.keeps w.end-is (ap g.D.Desk.told w.desk-is) c.journal_of.ensures
      | in-Ok-Stopped w ↦
          let is : w.in-Ok-Stopped.field-0 ≡ Stopped w.in-Ok-Stopped.answer = first_of (search rules, grind (arith, common_steps)) in
          ends_stopped c.args.words.now told table c.args.opening core.opening core.journal c.journal_of.result.entries w.in-Ok-Stopped.field-0 w.in-Ok-Stopped.answer c.match-asked.end c.requires.begins same legal
          c.ask-asked.ensures.asked (outcome_ok core.journal c.ask-asked.result w.in-Ok-Stopped.field-0 w.in-Ok-Stopped.is c.ask-asked.ensures.outcome) is w.end-is (ap (λ d. (g.D.Desk.told d).files) w.desk-is) c.journal_of.ensures
      | in-Err w ↦
          ends_wanting c.args.words.now told table c.args.opening core.opening core.journal c.journal_of.result.entries c.match-asked.end c.requires.begins same legal c.ask-asked.ensures.asked w.end-is
          (ap (λ d. (g.D.Desk.told d).files) w.desk-is) c.journal_of.ensures
    ]

pub returns-clause-calls : goal.returns-clause-calls
returns-clause-calls g c =
    elim c.match-asked.branch [
      | in-Ok-Initialized w ↦ subst (λ (log : Option Log). NamesOnly (IsInitFile c.args.words.now) (g.D.Desk.told c.args.desk.now).log log) (sym (ap (λ d. (g.D.Desk.told d).log) w.desk-is)) w.keep-end.ensures.calls
      | in-Ok-Stopped w ↦ names_none (ap (λ d. (g.D.Desk.told d).log) w.desk-is)
      | in-Err w ↦ names_none (ap (λ d. (g.D.Desk.told d).log) w.desk-is)
    ]

pub returns-in_default-clause-calls : goal.returns-in_default-clause-calls
returns-in_default-clause-calls g c = names_none refl

pub returns-clause-leaves : goal.returns-clause-leaves
returns-clause-leaves g c =
    let wanting : IsErr c.ask-asked.result → c.match-asked.end ≡ Memory = λ err.
    elim c.match-asked.branch [
      | in-Ok-Initialized w ↦ ok_err c.ask-asked.result w.in-Ok-Initialized.field-0 w.in-Ok-Initialized.is err
      | in-Ok-Stopped w ↦ ok_err c.ask-asked.result w.in-Ok-Stopped.field-0 w.in-Ok-Stopped.is err
      | in-Err w ↦ w.end-is
    ] in
    let asked = subst (λ (p : List ℕ). Leaves (IsErr c.ask-asked.result) p c.ask-asked.new.core.journal (g.P.Programs.told c.args.programs.now) (g.P.Programs.told c.ask-asked.new.programs) c.ask-asked.new.wires.items)
    c.view.ensures c.ask-asked.ensures.leaves in
    leaves_as wanting c.journal_of.ensures refl asked
