use Rattle.std.proofs.Common.{List, [], ◌∷◌, ◌++◌, Some, ap, refl, sym, ◌∙◌, arith}
use Rattle.journal_model.specs.declared.entry.What.TheVariants.{NoStart}
use Rattle.journal_model.specs.declared.entry.Entry.{Entry}
use Rattle.run_starts.specs.Stints.{main_entry}
use Rattle.run_starts.specs.Once.Once.{starts_in}
use Rattle.info_and_init.specs.Init.Inits.{setup_of}
use Rattle.run_starts.proofs.OnceLemmas.Leaving.{leaves_child, leaves_failed, leaves_unstarted, one_laid}
use Rattle.info_and_init.proofs.InitLemmas.Settling.{talked, may_close, closed_setup, closed_outcome, closed_starts, unstarted_setup, unstarted_outcome, nothing_setup}
use Rattle.info_and_init.proofs.init.asking.ask.Goals as goal

pub close_child-requires-clause-started : goal.close_child-requires-clause-started
close_child-requires-clause-started g c = (talked c.requires.empty c.in-Child.ensures.tells.0 c.in-Child.came c.in-Child.ensures.tells.1).started

pub close_child-requires-clause-idle : goal.close_child-requires-clause-idle
close_child-requires-clause-idle g c = may_close c.greet.new.core.journal c.in-Child.link.ear.child (setup_of c.in-Child.came) (talked c.requires.empty c.in-Child.ensures.tells.0 c.in-Child.came c.in-Child.ensures.tells.1)

pub returns-in-Child-clause-asked : goal.returns-in-Child-clause-asked
returns-in-Child-clause-asked g c =
    closed_setup c.greet.new.core.journal c.close_child.new.core.journal c.in-Child.link.ear.child (setup_of c.in-Child.came) (talked c.requires.empty c.in-Child.ensures.tells.0 c.in-Child.came c.in-Child.ensures.tells.1) c.close_child.ensures.closes

pub returns-in-Child-clause-outcome : goal.returns-in-Child-clause-outcome
returns-in-Child-clause-outcome g c =
    closed_outcome c.greet.new.core.journal c.close_child.new.core.journal c.in-Child.link.ear.child (setup_of c.in-Child.came) (talked c.requires.empty c.in-Child.ensures.tells.0 c.in-Child.came c.in-Child.ensures.tells.1) c.close_child.ensures.closes
    ∙ ap Some (sym c.setup_of.ensures)

pub returns-in-Child-clause-leaves : goal.returns-in-Child-clause-leaves
returns-in-Child-clause-leaves g c =
    leaves_child _ (g.P.Programs.told c.greet.new.programs).starts (g.P.Programs.told c.args.programs.now) (g.P.Programs.told c.finish.new.programs) c.args.program.now
    c.close_child.new.core.journal c.in-Child.link.ear c.in-Child.link.mouth _
    (closed_starts c.greet.new.core.journal c.close_child.new.core.journal c.in-Child.link.ear.child (setup_of c.in-Child.came) (talked c.requires.empty c.in-Child.ensures.tells.0 c.in-Child.came c.in-Child.ensures.tells.1) c.close_child.ensures.closes)
    c.in-Child.ensures.starts c.finish.ensures.starts c.in-Child.ensures.numbers (talked c.requires.empty c.in-Child.ensures.tells.0 c.in-Child.came c.in-Child.ensures.tells.1).first c.in-Child.link.one_child
    (c.close_child.ensures.wired c.in-Child.ensures.wired) (one_laid c.finish.ensures.laid c.requires.room.0)
    (let a = c.in-Child.ensures.later in let b = c.finish.ensures.later in omega (arith, a, b))

pub returns-in-StartFault-clause-asked : goal.returns-in-StartFault-clause-asked
returns-in-StartFault-clause-asked g c = unstarted_setup c.greet.new.core.journal (c.in-StartFault.ensures.tells ∙ ap (λ (j : List Entry). j ++ main_entry (NoStart 0) ∷ []) c.requires.empty)

pub returns-in-StartFault-clause-outcome : goal.returns-in-StartFault-clause-outcome
returns-in-StartFault-clause-outcome g c = unstarted_outcome c.greet.new.core.journal (c.in-StartFault.ensures.tells ∙ ap (λ (j : List Entry). j ++ main_entry (NoStart 0) ∷ []) c.requires.empty)

pub returns-in-StartFault-clause-leaves : goal.returns-in-StartFault-clause-leaves
returns-in-StartFault-clause-leaves g c =
    leaves_failed _ (g.P.Programs.told c.args.programs.now) (g.P.Programs.told c.greet.new.programs) c.args.program.now c.greet.new.core.journal _
    (ap starts_in (c.in-StartFault.ensures.tells ∙ ap (λ (j : List Entry). j ++ main_entry (NoStart 0) ∷ []) c.requires.empty)) c.requires.room.0 c.in-StartFault.ensures.starts (c.in-StartFault.ensures.fault refl)

pub returns-in-NoMemory-clause-asked : goal.returns-in-NoMemory-clause-asked
returns-in-NoMemory-clause-asked g c = nothing_setup c.greet.new.core.journal (c.in-NoMemory.ensures.tells ∙ c.requires.empty)

pub returns-in-NoMemory-clause-leaves : goal.returns-in-NoMemory-clause-leaves
returns-in-NoMemory-clause-leaves g c =
    leaves_unstarted _ (g.P.Programs.told c.args.programs.now) (g.P.Programs.told c.greet.new.programs) c.args.program.now c.greet.new.core.journal _
    refl (c.in-NoMemory.ensures.tells ∙ c.requires.empty) c.requires.room.0 c.in-NoMemory.ensures.starts c.in-NoMemory.ensures.later
