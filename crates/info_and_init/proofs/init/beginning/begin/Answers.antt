use Rattle.std.proofs.Common.{List, ℕ, Ok, subst}
use Rattle.std.specs.Prelude.{IfSome}
use Rattle.kept_file.specs.declared.desk.reading.KeptRead.{KeptRead}
use Rattle.kept_file.specs.Desk.KeptDesks.{IsReadAs, IsKeptAt}
use Rattle.info_and_init.proofs.InitLemmas.FromKept.{ready}
use Rattle.info_and_init.proofs.InitLemmas.Naming.{begun_named}
use Rattle.info_and_init.proofs.init.beginning.begin.Goals as goal

pub returns-in_ok-opening-in-Kept-clause-begins : goal.returns-in_ok-opening-in-Kept-clause-begins
returns-in_ok-opening-in-Kept-clause-begins g c =
    let told = (g.D.Desk.told c.args.desk.now).files in
    let old = (g.D.Desk.told c.args.desk.now).log in
    let new = (g.D.Desk.told c.read_kept.new.desk).log in
    let keep = c.args.words.now.keep in
    ready c.args.words.now told old new c.in-Kept.registers c.in-Kept.notes c.in_ok-opening-in-Kept.opening
    (subst (λ (k : KeptRead). IsReadAs old new keep (Ok k)) c.in-Kept.is
    (subst (λ (name : List ℕ). IsReadAs old new name (Ok c.in_ok-registers.field-0)) c.view.ensures c.in_ok-registers.ensures.read))
    (subst (λ (k : KeptRead). IfSome told (λ files. IsKeptAt keep files (Ok k))) c.in-Kept.is
    (subst (λ (name : List ℕ). IfSome told (λ files. IsKeptAt name files (Ok c.in_ok-registers.field-0))) c.view.ensures c.in_ok-registers.ensures.told))
    c.in_ok-opening-in-Kept.ensures

pub returns-in_ok-opening-in-Kept-clause-calls : goal.returns-in_ok-opening-in-Kept-clause-calls
returns-in_ok-opening-in-Kept-clause-calls g c = begun_named c.read_kept.result c.view.ensures c.read_kept.ensures.read

pub returns-in_err-opening-in-Kept-clause-calls : goal.returns-in_err-opening-in-Kept-clause-calls
returns-in_err-opening-in-Kept-clause-calls g c = begun_named c.read_kept.result c.view.ensures c.read_kept.ensures.read

pub returns-in-BadLine-clause-calls : goal.returns-in-BadLine-clause-calls
returns-in-BadLine-clause-calls g c = begun_named c.read_kept.result c.view.ensures c.read_kept.ensures.read

pub returns-in-TooLarge-clause-calls : goal.returns-in-TooLarge-clause-calls
returns-in-TooLarge-clause-calls g c = begun_named c.read_kept.result c.view.ensures c.read_kept.ensures.read

pub returns-in-Fault-clause-calls : goal.returns-in-Fault-clause-calls
returns-in-Fault-clause-calls g c = begun_named c.read_kept.result c.view.ensures c.read_kept.ensures.read

pub returns-in_err-registers-clause-calls : goal.returns-in_err-registers-clause-calls
returns-in_err-registers-clause-calls g c = begun_named c.read_kept.result c.view.ensures c.read_kept.ensures.read
