use Rattle.std.proofs.Common.{false, List, [], ◌∷◌, ◌++◌, ap, refl, subst, ◌∙◌, arith}
use Rattle.journal_model.specs.declared.entry.What.TheVariants.{NoStart}
use Rattle.journal_model.specs.declared.entry.Entry.{Entry}
use Rattle.journal_model.proofs.Across.{nothing_legal}
use Rattle.child_life.specs.Start.Greetings.{Greeted}
use Rattle.run_starts.specs.Stints.{main_entry}
use Rattle.std.specs.Prelude.{option_map}
use Rattle.ann_key.specs.KeyRefs.{text_of}
use Rattle.run_starts.specs.Once.Once.{starts_in}
use Rattle.run_starts.proofs.OnceLemmas.Leaving.{numbers_kept, leaves_child, leaves_failed, leaves_unstarted, one_laid}
use Rattle.info_and_init.proofs.InfoLemmas.Talking.{may_close, closed_asked, closed_complete, closed_starts, if_ok, unstarted_asked, unstarted_complete, nothing_asked}
use Rattle.info_and_init.proofs.info.interview.ask_child.Goals as goal

pub interview-asked-requires-clause-legal : goal.interview-asked-requires-clause-legal
interview-asked-requires-clause-legal g c = c.greet.ensures.core.legal (nothing_legal c.args.core.now.opening c.args.core.now.journal c.requires.empty)

pub interview-asked-requires-clause-greeted : goal.interview-asked-requires-clause-greeted
interview-asked-requires-clause-greeted g c =
    subst (λ (j : List Entry). Greeted j c.greet.new.core.journal 0 false c.in-Child.link.ear.child) c.requires.empty c.in-Child.ensures.tells.0

pub close_child-requires-clause-idle : goal.close_child-requires-clause-idle
close_child-requires-clause-idle g c = may_close (option_map text_of c.args.key) c.interview-asked.new.core.journal c.interview-asked.new.link.ear.child c.interview-asked.ensures.interviewed.0

pub returns-in-Child-clause-asked : goal.returns-in-Child-clause-asked
returns-in-Child-clause-asked g c =
    closed_asked (option_map text_of c.args.key) c.interview-asked.new.core.journal c.close_child.new.core.journal c.interview-asked.new.link.ear.child c.interview-asked.ensures.interviewed.0 c.close_child.ensures.closes

pub returns-in-Child-clause-complete : goal.returns-in-Child-clause-complete
returns-in-Child-clause-complete g c =
    if_ok c.interview-asked.result _ _ (closed_complete (option_map text_of c.args.key) c.interview-asked.new.core.journal c.close_child.new.core.journal c.interview-asked.new.link.ear.child c.interview-asked.ensures.interviewed.0 c.close_child.ensures.closes)
    c.interview-asked.ensures.interviewed.1

pub returns-in-Child-clause-leaves : goal.returns-in-Child-clause-leaves
returns-in-Child-clause-leaves g c =
    leaves_child _ (g.P.Programs.told c.greet.new.programs).starts (g.P.Programs.told c.args.programs.now) (g.P.Programs.told c.finish.new.programs) c.args.program.now
    c.close_child.new.core.journal c.interview-asked.new.link.ear c.interview-asked.new.link.mouth _
    (closed_starts (option_map text_of c.args.key) c.interview-asked.new.core.journal c.close_child.new.core.journal c.interview-asked.new.link.ear.child c.interview-asked.ensures.interviewed.0 c.close_child.ensures.closes)
    c.in-Child.ensures.starts c.finish.ensures.starts (numbers_kept _ c.interview-asked.ensures.link c.in-Child.ensures.numbers) c.interview-asked.ensures.interviewed.0.first c.interview-asked.new.link.one_child
    (c.close_child.ensures.wired (c.interview-asked.ensures.link.wired c.in-Child.ensures.wired)) (one_laid c.finish.ensures.laid c.requires.room.0)
    (let a = c.in-Child.ensures.later in let b = c.finish.ensures.later in omega (arith, a, b))

pub returns-in-StartFault-clause-asked : goal.returns-in-StartFault-clause-asked
returns-in-StartFault-clause-asked g c = unstarted_asked (option_map text_of c.args.key) c.greet.new.core.journal (c.in-StartFault.ensures.tells ∙ ap (λ (j : List Entry). j ++ main_entry (NoStart 0) ∷ []) c.requires.empty)

pub returns-in-StartFault-clause-complete : goal.returns-in-StartFault-clause-complete
returns-in-StartFault-clause-complete g c = unstarted_complete (option_map text_of c.args.key) c.greet.new.core.journal (c.in-StartFault.ensures.tells ∙ ap (λ (j : List Entry). j ++ main_entry (NoStart 0) ∷ []) c.requires.empty)

pub returns-in-StartFault-clause-leaves : goal.returns-in-StartFault-clause-leaves
returns-in-StartFault-clause-leaves g c =
    leaves_failed _ (g.P.Programs.told c.args.programs.now) (g.P.Programs.told c.greet.new.programs) c.args.program.now c.greet.new.core.journal _
    (ap starts_in (c.in-StartFault.ensures.tells ∙ ap (λ (j : List Entry). j ++ main_entry (NoStart 0) ∷ []) c.requires.empty)) c.requires.room.0 c.in-StartFault.ensures.starts (c.in-StartFault.ensures.fault refl)

pub returns-in-NoMemory-clause-asked : goal.returns-in-NoMemory-clause-asked
returns-in-NoMemory-clause-asked g c = nothing_asked (option_map text_of c.args.key) c.greet.new.core.journal (c.in-NoMemory.ensures.tells ∙ c.requires.empty)

pub returns-in-NoMemory-clause-leaves : goal.returns-in-NoMemory-clause-leaves
returns-in-NoMemory-clause-leaves g c =
    leaves_unstarted _ (g.P.Programs.told c.args.programs.now) (g.P.Programs.told c.greet.new.programs) c.args.program.now c.greet.new.core.journal _
    refl (c.in-NoMemory.ensures.tells ∙ c.requires.empty) c.requires.room.0 c.in-NoMemory.ensures.starts c.in-NoMemory.ensures.later
