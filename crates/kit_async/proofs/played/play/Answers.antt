use Rattle.std.proofs.Common.{◌≡◌, [], refl, sym, subst, true, length, arith}
use Rattle.threads.proofs.RolesLemmas.Dealing.{pairwise_length}
use Rattle.threads.specs.Passes.{IsPassOf}
use Rattle.kit_async_core.specs.Halls.{KitHall}
use Rattle.kit_async.specs.Work.Calling.{hand_of}
use Rattle.kit_async.specs.Work.Passes.{Stands}
use Rattle.kit_async.specs.Work.Reading.{ear_of}
use Rattle.kit_async.specs.Work.Writing.{mouth_of}
use Rattle.kit_async.specs.Dealt.{AreFresh}
use Rattle.kit_async.proofs.Returned.{all_own, as_many, fresh_own, reader_back, reader_did, reader_idle, workers_did, workers_idle, writer_back, writer_did, writer_idle}
use Rattle.kit_async.proofs.Playing.{may_work}
use Rattle.kit_async.proofs.Turning.{reads_since, writes_since}
use Rattle.kit_async.proofs.played.play.Goals as goal

pub returns-in_default-clause-own : goal.returns-in_default-clause-own
returns-in_default-clause-own g c = (fresh_own c.args.site.now.hall.now 1 c.args.kit.passes.items c.requires.fresh, refl)

pub returns-in_default-clause-read : goal.returns-in_default-clause-read
returns-in_default-clause-read g c = ([], reader_idle c.args.site.now.hall.now c.args.kit.passes.items (length c.args.kit.remotes.items) (ear_of (g.S.Source.told c.args.kit.source) []) c.requires.fresh (let long = c.requires.remotes.1 in omega (arith, long, c.args.kit.passes.ok.0, c.args.kit.remotes.ok.0)) c.requires.open.0)

pub returns-in_default-clause-wrote : goal.returns-in_default-clause-wrote
returns-in_default-clause-wrote g c = writer_idle c.args.site.now.hall.now c.args.kit.passes.items (length c.args.kit.remotes.items) (mouth_of (g.W.Sink.told c.args.kit.sink)) c.requires.fresh (let long = c.requires.remotes.1 in omega (arith, long, c.args.kit.passes.ok.0, c.args.kit.remotes.ok.0)) c.requires.open.1

pub returns-in_default-clause-worked : goal.returns-in_default-clause-worked
returns-in_default-clause-worked g c = workers_idle (λ k. hand_of (g.K.Remote.calls k) (g.K.Remote.settings k)) c.args.site.now.hall.now c.args.kit.passes.items c.args.kit.remotes.items c.requires.fresh (let long = c.requires.remotes.1 in omega (arith, long, c.args.kit.passes.ok.0, c.args.kit.remotes.ok.0))

pub run-crew-requires-clause-room : goal.run-crew-requires-clause-room
run-crew-requires-clause-room g c κs within =
    let same = as_many (λ w. w.remote) c.args.kit.remotes.items c.cast-crew.result.0.workers.items c.cast-crew.ensures.remotes in
    let room = c.in-Some.ensures.2 in (
      omega (arith, same, c.cast-crew.result.0.workers.ok.0, c.args.kit.remotes.ok.0, c.requires.remotes.0),
      omega (arith, same, c.cast-crew.result.0.workers.ok.0, c.args.kit.remotes.ok.0, c.in-Some.ensures.0),
      record { none = room.none; room = omega (arith, same, c.cast-crew.result.0.workers.ok.0, c.args.kit.remotes.ok.0, room.room) },
    )

pub run-crew-requires-clause-reader : goal.run-crew-requires-clause-reader
run-crew-requires-clause-reader g c κs within =
    let k = c.cast-crew.ensures in
    let fresh = subst (AreFresh c.args.site.now.hall.now 1) k.passes c.requires.fresh in (
      subst (λ (h : KitHall). Stands h 1 c.cast-crew.result.0.ear.pass) (sym k.reader.placed) fresh.0.0,
      subst (λ s. (g.S.Source.told s).is_open ≡ true) (sym k.reader.reads) c.requires.open.0,
      k.reader.limit,
    )

pub run-crew-requires-clause-writer : goal.run-crew-requires-clause-writer
run-crew-requires-clause-writer g c κs within =
    let k = c.cast-crew.ensures in
    let fresh = subst (AreFresh c.args.site.now.hall.now 1) k.passes c.requires.fresh in (
      subst (λ (h : KitHall). Stands h 2 c.cast-crew.result.0.mouth.pass) (sym k.writer.placed) fresh.1.0.0,
      subst (λ s. (g.W.Sink.told s).is_open ≡ true) (sym k.writer.writes) c.requires.open.1,
    )

pub run-crew-requires-clause-workers : goal.run-crew-requires-clause-workers
run-crew-requires-clause-workers g c κs within =
    let k = c.cast-crew.ensures in
    let fresh = subst (AreFresh c.args.site.now.hall.now 1) k.passes c.requires.fresh in
    may_work (λ w. w.hall.now) (λ w. w.number) (λ w. w.pass) (λ w. hand_of (g.K.Remote.calls w.remote) (g.K.Remote.settings w.remote)) c.args.site.now.hall.now c.cast-crew.result.0.workers.items k.workers.placed k.workers.numbers fresh.1.1

pub gather-requires : goal.gather-requires
gather-requires g c =
    let k = c.cast-crew.ensures in
    let same = pairwise_length _ _ _ c.run-crew.ensures.worked in
    let passes = k.rooms.0 in
    let remotes = k.rooms.1 in
    record {
      rooms = (
        record { none = passes.none; room = omega (arith, same, passes.room, c.cast-crew.result.0.workers.ok.0, c.run-crew.result.workers.ok.0) },
        record { none = remotes.none; room = omega (arith, same, remotes.room, c.cast-crew.result.0.workers.ok.0, c.run-crew.result.workers.ok.0) },
      );
    }

pub returns-clause-own : goal.returns-clause-own
returns-clause-own g c =
    let k = c.cast-crew.ensures in
    let r = c.run-crew.ensures in
    let b = c.gather.ensures in
    let fresh = subst (AreFresh c.args.site.now.hall.now 1) k.passes c.requires.fresh in
    let read = reads_since g.S.Source.told c.cast-crew.result.0.ear c.run-crew.result.ear
    (subst (λ (h : KitHall). Stands h 1 c.cast-crew.result.0.ear.pass) (sym k.reader.placed) fresh.0.0, subst (λ s. (g.S.Source.told s).is_open ≡ true) (sym k.reader.reads) c.requires.open.0, k.reader.limit) k.reader.going r.read in
    let wrote = writes_since g.W.Sink.told c.cast-crew.result.0.mouth c.run-crew.result.mouth
    (subst (λ (h : KitHall). Stands h 2 c.cast-crew.result.0.mouth.pass) (sym k.writer.placed) fresh.1.0.0, subst (λ s. (g.W.Sink.told s).is_open ≡ true) (sym k.writer.writes) c.requires.open.1) k.writer.going r.wrote in
    all_own (λ w. w.hall.now) (λ w. w.number) (λ w. w.pass) (λ w. w.remote) (λ k. hand_of (g.K.Remote.calls k) (g.K.Remote.settings k)) c.args.site.now.hall.now c.args.kit.passes.items c.gather.result.0.passes.items
    c.cast-crew.result.0.ear.pass c.run-crew.result.ear.pass c.cast-crew.result.0.mouth.pass c.run-crew.result.mouth.pass c.cast-crew.result.0.workers.items c.run-crew.result.workers.items
    k.passes b.passes k.workers.placed k.workers.numbers c.requires.fresh r.worked
    (subst (λ (h : KitHall). IsPassOf h c.run-crew.result.ear.pass) k.reader.placed read.stands.pass)
    (subst (λ (h : KitHall). IsPassOf h c.run-crew.result.mouth.pass) k.writer.placed wrote.stands.pass)

pub returns-clause-read : goal.returns-clause-read
returns-clause-read g c =
    let k = c.cast-crew.ensures in
    let r = c.run-crew.ensures in
    let b = c.gather.ensures in
    let fresh = subst (AreFresh c.args.site.now.hall.now 1) k.passes c.requires.fresh in
    let read = reads_since g.S.Source.told c.cast-crew.result.0.ear c.run-crew.result.ear
    (subst (λ (h : KitHall). Stands h 1 c.cast-crew.result.0.ear.pass) (sym k.reader.placed) fresh.0.0, subst (λ s. (g.S.Source.told s).is_open ≡ true) (sym k.reader.reads) c.requires.open.0, k.reader.limit) k.reader.going r.read in
    reader_back (λ s held. ear_of (g.S.Source.told s) held) c.args.site.now.hall.now c.gather.result.0.passes.items c.cast-crew.result.0.ear.source c.args.kit.source c.run-crew.result.ear.source c.gather.result.0.source
    c.cast-crew.result.0.ear.splitter.bytes c.run-crew.result.ear.splitter.bytes c.run-crew.result.ear.why c.gather.result.1.read k.reader.reads k.reader.empty b.ends.0 b.ends.2
    (reader_did (λ w. w.hall.now) (λ w. w.number) (λ w. w.pass) (λ w. w.remote) (λ k. hand_of (g.K.Remote.calls k) (g.K.Remote.settings k)) c.args.site.now.hall.now c.args.kit.passes.items c.gather.result.0.passes.items
    c.cast-crew.result.0.ear.pass c.run-crew.result.ear.pass c.cast-crew.result.0.mouth.pass c.run-crew.result.mouth.pass c.cast-crew.result.0.workers.items c.run-crew.result.workers.items
    k.passes b.passes k.workers.placed k.workers.numbers c.requires.fresh r.worked
    c.cast-crew.result.0.ear.hall.now (ear_of (g.S.Source.told c.cast-crew.result.0.ear.source) c.cast-crew.result.0.ear.splitter.bytes) (ear_of (g.S.Source.told c.run-crew.result.ear.source) c.run-crew.result.ear.splitter.bytes) c.run-crew.result.ear.why k.reader.placed read)

pub returns-clause-wrote : goal.returns-clause-wrote
returns-clause-wrote g c =
    let k = c.cast-crew.ensures in
    let r = c.run-crew.ensures in
    let b = c.gather.ensures in
    let fresh = subst (AreFresh c.args.site.now.hall.now 1) k.passes c.requires.fresh in
    let wrote = writes_since g.W.Sink.told c.cast-crew.result.0.mouth c.run-crew.result.mouth
    (subst (λ (h : KitHall). Stands h 2 c.cast-crew.result.0.mouth.pass) (sym k.writer.placed) fresh.1.0.0, subst (λ s. (g.W.Sink.told s).is_open ≡ true) (sym k.writer.writes) c.requires.open.1) k.writer.going r.wrote in
    writer_back (λ s. mouth_of (g.W.Sink.told s)) c.args.site.now.hall.now c.gather.result.0.passes.items c.cast-crew.result.0.mouth.sink c.args.kit.sink c.run-crew.result.mouth.sink c.gather.result.0.sink
    c.run-crew.result.mouth.why c.gather.result.1.wrote k.writer.writes b.ends.1 b.ends.3
    (writer_did (λ w. w.hall.now) (λ w. w.number) (λ w. w.pass) (λ w. w.remote) (λ k. hand_of (g.K.Remote.calls k) (g.K.Remote.settings k)) c.args.site.now.hall.now c.args.kit.passes.items c.gather.result.0.passes.items
    c.cast-crew.result.0.ear.pass c.run-crew.result.ear.pass c.cast-crew.result.0.mouth.pass c.run-crew.result.mouth.pass c.cast-crew.result.0.workers.items c.run-crew.result.workers.items
    k.passes b.passes k.workers.placed k.workers.numbers c.requires.fresh r.worked
    c.cast-crew.result.0.mouth.hall.now (mouth_of (g.W.Sink.told c.cast-crew.result.0.mouth.sink)) (mouth_of (g.W.Sink.told c.run-crew.result.mouth.sink)) c.run-crew.result.mouth.why k.writer.placed wrote)

pub returns-clause-worked : goal.returns-clause-worked
returns-clause-worked g c =
    let k = c.cast-crew.ensures in
    let r = c.run-crew.ensures in
    let b = c.gather.ensures in
    workers_did (λ w. w.hall.now) (λ w. w.number) (λ w. w.pass) (λ w. w.remote) (λ k. hand_of (g.K.Remote.calls k) (g.K.Remote.settings k)) c.args.site.now.hall.now c.args.kit.passes.items c.gather.result.0.passes.items
    c.cast-crew.result.0.ear.pass c.run-crew.result.ear.pass c.cast-crew.result.0.mouth.pass c.run-crew.result.mouth.pass c.cast-crew.result.0.workers.items c.run-crew.result.workers.items
    k.passes b.passes k.workers.placed k.workers.numbers c.requires.fresh r.worked
    c.args.kit.remotes.items c.gather.result.0.remotes.items k.remotes b.remotes
