use Rattle.kit_serve.proofs.Talks.{talking_begins, unsaid_ends}
use Rattle.kit_serve.proofs.serving.talk.Goals as goal

pub returns-in-Ok-clause-ended : goal.returns-in-Ok-clause-ended
returns-in-Ok-clause-ended g c =
    c.converse.ensures.ended c.args.voice.now _
    (talking_begins g.V.Voice.spoke (g.S.Source.told c.args.source.now).given (g.W.Sink.told c.args.sink.now).taken (g.W.Sink.told c.write_version.new.sink).taken c.args.voice.now
    c.new-splitter.result.bytes c.new-splitter.ensures.bytes c.in-Ok.ensures.ok c.write_version.ensures.silent c.requires.begins)

pub returns-in-Err-clause-ended : goal.returns-in-Err-clause-ended
returns-in-Err-clause-ended g c =
    let v = g.V.Voice in
    unsaid_ends v.spoke v.is_over v.is_foul v.lacks (g.S.Source.told c.args.source.now).given (g.W.Sink.told c.args.sink.now).taken (g.W.Sink.told c.write_version.new.sink).taken
    c.args.voice.now c.write_version.ensures.prefix c.write_version.ensures.silent c.requires.begins
