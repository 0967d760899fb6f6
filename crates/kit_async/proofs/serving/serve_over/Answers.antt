use Rattle.std.proofs.Common.{[], map, sym, subst}
use Rattle.kit_async.specs.Work.Calling.{hand_of}
use Rattle.kit_async.specs.Work.Reading.{ear_of}
use Rattle.kit_async.specs.Work.Writing.{mouth_of}
use Rattle.kit_async.specs.Endings.{AllWorked, ReaderDid, WriterDid}
use Rattle.kit_async.specs.Served.{journal_of}
use Rattle.kit_async.proofs.Kept.{caused, same_settings, served}
use Rattle.kit_async.proofs.serving.serve_over.Goals as goal

pub returns-clause-serves : goal.returns-clause-serves
returns-clause-serves g c =
    let p = c.play-kit.ensures in
    let e = c.end.ensures in
    let b = c.in-Ok.ensures.hall in
    served g.K.Remote.settings g.K.Remote.calls g.S.Source.told g.W.Sink.told
    c.in-Ok.hall c.play-kit.result.0.passes.items c.args.source c.end.result.source c.args.sink c.end.result.sink c.args.remotes.items c.end.result.remotes.items p.read.0 c.play-kit.result.1.read c.play-kit.result.1.wrote (journal_of c.end.result.log c.end.result.why)
    (subst (λ x. ReaderDid c.in-Ok.hall c.play-kit.result.0.passes.items (ear_of (g.S.Source.told c.args.source) []) (ear_of (g.S.Source.told x) p.read.0) c.play-kit.result.1.read) (sym e.kept.1) p.read.1)
    (subst (λ x. WriterDid c.in-Ok.hall c.play-kit.result.0.passes.items (mouth_of (g.W.Sink.told c.args.sink)) (mouth_of (g.W.Sink.told x)) c.play-kit.result.1.wrote) (sym e.kept.2) p.wrote)
    (subst (λ x. AllWorked c.in-Ok.hall c.play-kit.result.0.passes.items 0 (map (λ k. hand_of (g.K.Remote.calls k) (g.K.Remote.settings k)) c.args.remotes.items) (map (λ k. hand_of (g.K.Remote.calls k) (g.K.Remote.settings k)) x.items)) (sym e.kept.0) p.worked)
    e.why
    c.args.setup e.closed b.0 b.1

pub returns-clause-causes : goal.returns-clause-causes
returns-clause-causes g c =
    let p = c.play-kit.ensures in
    let e = c.end.ensures in
    caused g.K.Remote.settings g.K.Remote.calls g.S.Source.told g.W.Sink.told
    c.in-Ok.hall c.play-kit.result.0.passes.items c.args.source c.end.result.source c.args.sink c.end.result.sink c.args.remotes.items c.end.result.remotes.items p.read.0 c.play-kit.result.1.read c.play-kit.result.1.wrote (journal_of c.end.result.log c.end.result.why)
    (subst (λ x. ReaderDid c.in-Ok.hall c.play-kit.result.0.passes.items (ear_of (g.S.Source.told c.args.source) []) (ear_of (g.S.Source.told x) p.read.0) c.play-kit.result.1.read) (sym e.kept.1) p.read.1)
    (subst (λ x. WriterDid c.in-Ok.hall c.play-kit.result.0.passes.items (mouth_of (g.W.Sink.told c.args.sink)) (mouth_of (g.W.Sink.told x)) c.play-kit.result.1.wrote) (sym e.kept.2) p.wrote)
    (subst (λ x. AllWorked c.in-Ok.hall c.play-kit.result.0.passes.items 0 (map (λ k. hand_of (g.K.Remote.calls k) (g.K.Remote.settings k)) c.args.remotes.items) (map (λ k. hand_of (g.K.Remote.calls k) (g.K.Remote.settings k)) x.items)) (sym e.kept.0) p.worked)
    e.why

pub returns-clause-settings : goal.returns-clause-settings
returns-clause-settings g c =
    let p = c.play-kit.ensures in
    let e = c.end.ensures in
    same_settings g.K.Remote.settings g.K.Remote.calls g.S.Source.told g.W.Sink.told
    c.in-Ok.hall c.play-kit.result.0.passes.items c.args.source c.end.result.source c.args.sink c.end.result.sink c.args.remotes.items c.end.result.remotes.items p.read.0 c.play-kit.result.1.read c.play-kit.result.1.wrote (journal_of c.end.result.log c.end.result.why)
    (subst (λ x. ReaderDid c.in-Ok.hall c.play-kit.result.0.passes.items (ear_of (g.S.Source.told c.args.source) []) (ear_of (g.S.Source.told x) p.read.0) c.play-kit.result.1.read) (sym e.kept.1) p.read.1)
    (subst (λ x. WriterDid c.in-Ok.hall c.play-kit.result.0.passes.items (mouth_of (g.W.Sink.told c.args.sink)) (mouth_of (g.W.Sink.told x)) c.play-kit.result.1.wrote) (sym e.kept.2) p.wrote)
    (subst (λ x. AllWorked c.in-Ok.hall c.play-kit.result.0.passes.items 0 (map (λ k. hand_of (g.K.Remote.calls k) (g.K.Remote.settings k)) c.args.remotes.items) (map (λ k. hand_of (g.K.Remote.calls k) (g.K.Remote.settings k)) x.items)) (sym e.kept.0) p.worked)
    e.why
