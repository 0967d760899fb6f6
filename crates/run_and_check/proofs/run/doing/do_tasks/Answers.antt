use Rattle.std.proofs.Common.{map, ap, inr}
use Rattle.ann_outside.specs.DeskCauses.{Counts}
use Rattle.run_and_check.specs.Run.Inputs.{input_flow}
use Rattle.run_and_check.specs.Run.Runs.{MadeValue}
use Rattle.run_and_check.proofs.RunLemmas.Begun.{may_begin_all}
use Rattle.run_and_check.proofs.RunLemmas.Leaving.{made_first}
use Rattle.run_and_check.proofs.RunLemmas.Origins.{from_gained, played_at}
use Rattle.run_and_check.proofs.RunLemmas.Working.{ends_run, no_answers}
use Rattle.ann_outside.proofs.TextFileLemmas.Naming.{names_all, names_both}
use Rattle.run_and_check.proofs.run.doing.do_tasks.Goals as goal

pub go_on-worked-requires-clause-may : goal.go_on-worked-requires-clause-may
go_on-worked-requires-clause-may g c κs within =
    let old = c.args.input.now in
    let new = c.begin-begun.new.input in
    let flow = input_flow (g.I.Source.told old) (g.I.Source.told new) in
    may_begin_all c.args.words.now (g.C.Clock.answer c.args.clock.now) (g.K.Desk.Desk.told c.in-Ok-desk.desk).files flow (g.K.Desk.Desk.told c.in-Ok-desk.desk).counts.faults (g.K.Desk.Desk.told c.begin-begun.new.desk).counts.faults
    c.begin-begun.result c.requires.fit c.requires.uuid c.requires.again c.begin-begun.ensures.begins

pub returns : goal.returns
returns g c =
    let words = c.args.words.now in
    let old = c.args.input.now in
    let new = c.begin-begun.new.input in
    let flow = input_flow (g.I.Source.told old) (g.I.Source.told new) in
    let value = g.K.Desk.Desk.told in
    let told = (g.K.Desk.Desk.told c.in-Ok-desk.desk).files in
    let before = value c.begin-begun.new.desk in
    let table = value c.go_on-worked.new.desk in
    let workers = map value c.go_on-worked.result.crew.items in
    let adds = c.go_on-worked.ensures.desks in
    let made : MadeValue = record {
      journal = c.go_on-worked.result.journal.entries;
      answers = c.go_on-worked.result.answers.items;
      wires = c.go_on-worked.new.wires.items;
      tables = map value c.all_desks.result.items;
      end = c.go_on-worked.result.end;
    } in
    let names = names_both c.begin-begun.ensures.calls c.go_on-worked.ensures.calls in
    -- the law of each desk, here and now
    let law = (g.met.K.Desk.Desk g.world.𝓛 g.world.𝓜 g.world.𝓡 ((λ s x. x), (λ x. x), (λ x. x), λ x. x)).played in
    inr record {
      told = told;
      table = table;
      workers = workers;
      tables = ap (map value) c.all_desks.ensures;
      few = adds.few;
      more = adds.more;
      desks = made_first (g.K.Desks.made c.args.desks.now) (g.K.Desks.made c.desk.new.self) (g.K.Desks.made c.go_on-worked.new.desks) (record { number = 0; files = told }) adds.more c.in-Ok-desk.ensures.made adds.desks;
      numbers = adds.numbers;
      began = (from_gained (g.K.Desk.Desk.told c.in-Ok-desk.desk).log (g.K.Desk.Desk.told c.go_on-worked.new.desk).log names.calls told names.gained c.in-Ok-desk.ensures.fresh.2, adds.began);
      played = played_at g.K.Desk.Desk.told law c.all_desks.result.items;
      ends =
          ends_run words (g.C.Clock.answer c.args.clock.now) told flow (g.K.Desk.Desk.told c.in-Ok-desk.desk).counts.faults before table workers made c.begin-begun.result c.begin-begun.ensures.files
          (ap (λ (n : Counts). n.faults) c.in-Ok-desk.ensures.fresh.0) c.begin-begun.ensures.begins c.go_on-worked.ensures.goes_on;
      named = names_all c.in-Ok-desk.ensures.fresh.1 names;
      none = no_answers words before table workers made.journal made.answers c.begin-begun.result made.end c.go_on-worked.ensures.goes_on;
      objects = c.go_on-worked.ensures.leaves;
    }
