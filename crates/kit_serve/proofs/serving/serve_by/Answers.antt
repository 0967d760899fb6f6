use Rattle.std.proofs.Common.{◌∙◌, ap}
use Rattle.kit_serve.specs.Sessions.{Ended, IsGiven}
use Rattle.kit_serve.specs.Voices.{Bytes}
use Rattle.kit_serve.proofs.KitVoices.{begins_live, begins_spoke, ended_of, settings_kept}
use Rattle.kit_serve.proofs.serving.serve_by.Goals as goal

pub talk-end-requires-clause-live : goal.talk-end-requires-clause-live
talk-end-requires-clause-live g c = begins_live c.args.voice c.requires.fresh

pub talk-end-requires-clause-begins : goal.talk-end-requires-clause-begins
talk-end-requires-clause-begins g c = begins_spoke g.R.Remote.settings g.R.Remote.calls g.D.Describer.description c.args.voice c.requires.fresh

pub returns-clause-serves : goal.returns-clause-serves
returns-clause-serves g c =
    let settings = g.R.Remote.settings in
    let before : Bytes = record { given = (g.S.Source.told c.args.source.now).given; taken = (g.W.Sink.told c.args.sink.now).taken } in
    let after : Bytes = record { given = (g.S.Source.told c.talk-end.new.source).given; taken = (g.W.Sink.told c.talk-end.new.sink).taken } in
    let calls = g.R.Remote.calls in
    let ended : Ended (IsGiven g.D.Describer.description) (settings c.args.voice.remote) (record { given = (g.S.Source.told c.args.source.now).given; taken = (g.W.Sink.told c.args.sink.now).taken; calls = calls c.args.voice.remote })
    (record { given = (g.S.Source.told c.talk-end.new.source).given; taken = (g.W.Sink.told c.talk-end.new.sink).taken; calls = calls c.close.result }) c.talk-end.result =
    rw (c.close.ensures) (ended_of settings calls g.D.Describer.description c.args.voice c.talk-end.new.voice before after c.talk-end.result c.talk-end.ensures.ended) in
    record { end = c.talk-end.result; is = c.status.ensures; ended = ended }

pub returns-clause-settings : goal.returns-clause-settings
returns-clause-settings g c =
    let settings = g.R.Remote.settings in
    let before : Bytes = record { given = (g.S.Source.told c.args.source.now).given; taken = (g.W.Sink.told c.args.sink.now).taken } in
    let after : Bytes = record { given = (g.S.Source.told c.talk-end.new.source).given; taken = (g.W.Sink.told c.talk-end.new.sink).taken } in
    ap settings c.close.ensures ∙ settings_kept settings g.R.Remote.calls g.D.Describer.description c.args.voice c.talk-end.new.voice before after c.talk-end.result c.talk-end.ensures.ended
