use Rattle.std.proofs.Common.{refl, inl}
use Rattle.ann_outside.proofs.TextFileLemmas.Naming.{names_both, names_wider}
use Rattle.info_and_init.proofs.InitLemmas.Keeping.{same_files}
use Rattle.run_starts.proofs.OnceLemmas.Leaving.{leaves_nothing}
use Rattle.info_and_init.proofs.init.doing.from_kept.Goals as goal

pub returns-in-Ok-Ready-clause-ends : goal.returns-in-Ok-Ready-clause-ends
returns-in-Ok-Ready-clause-ends g c =
    same_files c.args.words.now (g.D.Desk.told c.args.desk.now).files (g.D.Desk.told c.begin.new.desk).files (g.D.Desk.told c.ask_and_keep.new.desk) c.ask_and_keep.result.journal.entries c.ask_and_keep.result.end c.in-Ok-Ready.ensures.files
    c.ask_and_keep.ensures.ends

pub returns-in-Err-clause-leaves : goal.returns-in-Err-clause-leaves
returns-in-Err-clause-leaves g c =
    leaves_nothing _ (g.P.Programs.told c.args.programs.now) (g.P.Programs.told c.args.programs.now) c.args.words.now.program
    c.nothing_done-in-Err.result.journal.entries _ refl c.nothing_done-in-Err.ensures.0 c.requires.room.0

pub returns-in-Ok-Ready-clause-calls : goal.returns-in-Ok-Ready-clause-calls
returns-in-Ok-Ready-clause-calls g c = names_both (names_wider (λ other is. inl is) c.in-Ok-Ready.ensures.calls) c.ask_and_keep.ensures.calls

pub returns-in-Ok-BadLine-clause-calls : goal.returns-in-Ok-BadLine-clause-calls
returns-in-Ok-BadLine-clause-calls g c = names_wider (λ other is. inl is) c.in-Ok-BadLine.ensures.calls

pub returns-in-Ok-TooLarge-clause-calls : goal.returns-in-Ok-TooLarge-clause-calls
returns-in-Ok-TooLarge-clause-calls g c = names_wider (λ other is. inl is) c.in-Ok-TooLarge.ensures.calls

pub returns-in-Ok-Fault-clause-calls : goal.returns-in-Ok-Fault-clause-calls
returns-in-Ok-Fault-clause-calls g c = names_wider (λ other is. inl is) c.in-Ok-Fault.ensures.calls

pub returns-in-Err-clause-calls : goal.returns-in-Err-clause-calls
returns-in-Err-clause-calls g c = names_wider (λ other is. inl is) c.in-Err.ensures.calls
