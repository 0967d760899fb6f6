use Rattle.std.proofs.Common.{refl}
use Rattle.cli_words.specs.Values.{texts_of}
use Rattle.cli_words.specs.Words.{command_of}
use Rattle.run_and_check.specs.Run.Inputs.{input_flow}
use Rattle.special_cli.proofs.NoMemory.{runs_nothing}
use Rattle.special_cli.proofs.Written.{words_written}
use Rattle.special_cli.proofs.top.do_words.Goals as goal

pub returns-in-Err : goal.returns-in-Err
returns-in-Err g c =
    let input = g.I.Source.told c.args.input.now in
    runs_nothing (g.C.Clock.answer c.args.clock.now) c.args.outside (input_flow input input) (command_of (texts_of c.args.words.now)) c.nothing.result c.nothing.ensures.end
    c.nothing.ensures.idle (record { given = refl; left = refl; faults = refl })

pub do_command-requires-clause-words : goal.do_command-requires-clause-words
do_command-requires-clause-words g c = λ κs lives. record {
  fit = c.in-Ok.ensures.fit;
  uuid = words_written (texts_of c.args.words.now) c.in-Ok.command c.in-Ok.ensures.command;
  ranges = c.in-Ok.ensures.ranges;
}
