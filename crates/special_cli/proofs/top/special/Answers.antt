use Rattle.cli_words.specs.Values.{texts_of}
use Rattle.cli_words.proofs.Ranging.{command_ranged}
use Rattle.child_life.specs.End.Outsides.{OutsideValue}
use Rattle.special_cli.specs.Calls.{world}
use Rattle.special_cli.specs.Wishes.{wish_of}
use Rattle.special_cli.proofs.Calling.{called, done, few}
use Rattle.special_cli.proofs.Few.{few_told}
use Rattle.special_cli.proofs.top.special.Goals as goal

pub tell-requires-clause-few : goal.tell-requires-clause-few
tell-requires-clause-few g c = λ κs lives.
    let before : OutsideValue = record { programs = g.P.Programs.told c.args.programs; made = g.K.Desks.made c.args.desks } in
    few (g.C.Clock.answer c.args.clock.now) before _ (wish_of (texts_of c.args.words.now)) c.do_words-ran.result (command_ranged (texts_of c.args.words.now)) c.do_words-ran.ensures

pub tell-requires-clause-recovered : goal.tell-requires-clause-recovered
tell-requires-clause-recovered g c = λ κs lives.
    let before : OutsideValue = record { programs = g.P.Programs.told c.args.programs; made = g.K.Desks.made c.args.desks } in
    few_told (g.C.Clock.answer c.args.clock.now) before _ (wish_of (texts_of c.args.words.now)) c.do_words-ran.result c.do_words-ran.ensures

pub returns : goal.returns
returns g c =
    let input = g.I.Source.told in
    let out = g.O.Sink.told in
    let err = g.E.Sink.told in
    let w = world (g.C.Clock.answer c.args.clock.now) (g.P.Programs.told c.args.programs) (g.K.Desks.made c.args.desks) (input c.args.input.now) (input c.do_words-ran.new.input)
    (out c.args.out.now) (out c.tell.new.out) (err c.args.err.now) (err c.tell.new.err) in
    let wish = wish_of (texts_of c.args.words.now) in
    let all = done w wish c.do_words-ran.result c.tell.result.left c.tell.result.status c.tell.ensures.left c.do_words-ran.ensures c.tell.ensures.told in
    record { done = all; called = called w wish c.tell.result.status c.tell.result.left all }
