use Rattle.std.proofs.Common.{Ok, subst}
use Rattle.std.specs.Prelude.{IfSome}
use Rattle.kept_file.specs.declared.desk.reading.KeptRead.{KeptRead}
use Rattle.kept_file.specs.Desk.KeptDesks.{IsReadAs, IsKeptAt}
use Rattle.run_and_check.proofs.RunLemmas.Begun.{hands_on}
use Rattle.run_and_check.proofs.RunLemmas.Naming.{read_names}
use Rattle.run_and_check.proofs.run.beginning.read_named.Goals as goal

pub returns-in-Ok-Kept-clause-kept : goal.returns-in-Ok-Kept-clause-kept
returns-in-Ok-Kept-clause-kept g c =
    let told = (g.D.Desk.told c.args.desk.now).files in
    let old = (g.D.Desk.told c.args.desk.now).log in
    let new = (g.D.Desk.told c.read_kept.new.desk).log in
    let name = c.args.name.now in
    hands_on c.args.words.now told name c.requires.named old new c.in-Ok-Kept.registers c.in-Ok-Kept.notes
    (subst (λ (k : KeptRead). IsReadAs old new name (Ok k)) c.in-Ok-Kept.field-0-is c.in-Ok-Kept.ensures.read)
    (subst (λ (k : KeptRead). IfSome told (λ files. IsKeptAt name files (Ok k))) c.in-Ok-Kept.field-0-is c.in-Ok-Kept.ensures.told)

pub returns-in-Ok-Kept-clause-calls : goal.returns-in-Ok-Kept-clause-calls
returns-in-Ok-Kept-clause-calls g c = read_names c.args.words.now c.args.name.now c.read_kept.result c.requires.named c.read_kept.ensures.read

pub returns-in-Ok-BadLine-clause-calls : goal.returns-in-Ok-BadLine-clause-calls
returns-in-Ok-BadLine-clause-calls g c = read_names c.args.words.now c.args.name.now c.read_kept.result c.requires.named c.read_kept.ensures.read

pub returns-in-Ok-TooLarge-clause-calls : goal.returns-in-Ok-TooLarge-clause-calls
returns-in-Ok-TooLarge-clause-calls g c = read_names c.args.words.now c.args.name.now c.read_kept.result c.requires.named c.read_kept.ensures.read

pub returns-in-Ok-Fault-clause-calls : goal.returns-in-Ok-Fault-clause-calls
returns-in-Ok-Fault-clause-calls g c = read_names c.args.words.now c.args.name.now c.read_kept.result c.requires.named c.read_kept.ensures.read

pub returns-in-Err-clause-calls : goal.returns-in-Err-clause-calls
returns-in-Err-clause-calls g c = read_names c.args.words.now c.args.name.now c.read_kept.result c.requires.named c.read_kept.ensures.read
