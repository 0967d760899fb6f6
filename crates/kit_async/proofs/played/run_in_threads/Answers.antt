use Rattle.std.proofs.Common.{◌≡◌, sym, subst, map, ap, ◌∙◌, length, arith}
use Rattle.std.specs.Prelude.{All}
use Rattle.threads.specs.Roles.BackRole.{role_of}
use Rattle.threads.proofs.RolesLemmas.Dealing.{pairwise_length}
use Rattle.ann_key.specs.Pairs.{Pairwise}
use Rattle.kit_async.specs.Work.Calling.{hand_of}
use Rattle.kit_async.specs.Turns.{ReaderCan, ReaderRuns, WriterCan, WriterRuns}
use Rattle.kit_async.proofs.Turning.{Can, Goes, all_both, all_came, all_can, back_whole, came_as, reads_none, reads_on, writes_none, writes_on}
use Rattle.kit_async.proofs.played.run_in_threads.Goals as goal

pub workers_of-workers-requires-clause-room : goal.workers_of-workers-requires-clause-room
workers_of-workers-requires-clause-room g c =
    let same = pairwise_length _ _ _ c.run_whole_crew-ear.ensures.workers in
    omega (arith, same, c.args.crew.workers.ok.0, c.run_whole_crew-ear.result.workers.ok.0, c.requires.room.2.room)

pub serve_unless-requires-clause-reader : goal.serve_unless-requires-clause-reader
serve_unless-requires-clause-reader g c =
    subst (ReaderCan g.S.Source.told) (sym c.role-ear.ensures)
    (came_as (ReaderRuns g.S.Source.told) (ReaderCan g.S.Source.told) c.args.crew.ear c.run_whole_crew-ear.result.ear c.run_whole_crew-ear.ensures.ear c.requires.reader (λ x r. r.1))

pub serve_unless-requires-clause-writer : goal.serve_unless-requires-clause-writer
serve_unless-requires-clause-writer g c =
    subst (WriterCan g.W.Sink.told) (sym c.role-mouth.ensures)
    (came_as (WriterRuns g.W.Sink.told) (WriterCan g.W.Sink.told) c.args.crew.mouth c.run_whole_crew-ear.result.mouth c.run_whole_crew-ear.ensures.mouth c.requires.writer (λ x r. r.1))

pub serve_unless-requires-clause-workers : goal.serve_unless-requires-clause-workers
serve_unless-requires-clause-workers g c =
    let ws = c.args.crew.workers.items in
    let bs = c.run_whole_crew-ear.result.workers.items in
    subst (All (Can (λ w. w.hall.now) (λ w. w.number) (λ w. w.pass) (λ w. hand_of (g.K.Remote.calls w.remote) (g.K.Remote.settings w.remote)))) (sym (c.as_mut_slice.ensures.value ∙ c.workers_of-workers.ensures))
    (all_can (λ w. w.hall.now) (λ w. w.number) (λ w. w.pass) (λ w. hand_of (g.K.Remote.calls w.remote) (g.K.Remote.settings w.remote)) ws (map role_of bs) (all_came (λ w. w.hall.now) (λ w. w.number) (λ w. w.pass) (λ w. hand_of (g.K.Remote.calls w.remote) (g.K.Remote.settings w.remote)) ws bs c.requires.workers c.run_whole_crew-ear.ensures.workers))

pub returns-clause-read : goal.returns-clause-read
returns-clause-read g c =
    let a = c.args.crew.ear in
    let back = subst (ReaderRuns g.S.Source.told a) (sym c.role-ear.ensures)
    (came_as (ReaderRuns g.S.Source.told) (ReaderRuns g.S.Source.told a) a c.run_whole_crew-ear.result.ear c.run_whole_crew-ear.ensures.ear (reads_none g.S.Source.told a c.requires.reader) (λ x r. r)) in
    reads_on g.S.Source.told a c.role-ear.result c.serve_unless.new.reader back c.serve_unless.ensures.read

pub returns-clause-wrote : goal.returns-clause-wrote
returns-clause-wrote g c =
    let a = c.args.crew.mouth in
    let back = subst (WriterRuns g.W.Sink.told a) (sym c.role-mouth.ensures)
    (came_as (WriterRuns g.W.Sink.told) (WriterRuns g.W.Sink.told a) a c.run_whole_crew-ear.result.mouth c.run_whole_crew-ear.ensures.mouth (writes_none g.W.Sink.told a c.requires.writer) (λ x r. r)) in
    writes_on g.W.Sink.told a c.role-mouth.result c.serve_unless.new.writer back c.serve_unless.ensures.wrote

pub returns-clause-worked : goal.returns-clause-worked
returns-clause-worked g c =
    let ws = c.args.crew.workers.items in
    let bs = c.run_whole_crew-ear.result.workers.items in
    let now = c.as_mut_slice.result.now in
    let new = c.serve_unless.new.workers in
    let items = c.workers_of-workers.result.items in
    let goes = Goes (λ w. w.hall.now) (λ w. w.number) (λ w. w.pass) (λ w. hand_of (g.K.Remote.calls w.remote) (g.K.Remote.settings w.remote)) in
    let long : length new ≡ length items = sym (pairwise_length goes now new c.serve_unless.ensures.workers) ∙ ap length c.as_mut_slice.ensures.value in
    let here = subst (λ l. Pairwise goes ws l) (sym (c.as_mut_slice.ensures.value ∙ c.workers_of-workers.ensures)) (all_came (λ w. w.hall.now) (λ w. w.number) (λ w. w.pass) (λ w. hand_of (g.K.Remote.calls w.remote) (g.K.Remote.settings w.remote)) ws bs c.requires.workers c.run_whole_crew-ear.ensures.workers) in
    subst (λ l. Pairwise goes ws l) (sym (back_whole items new c.workers_of-workers.result.len (omega (arith, c.workers_of-workers.result.ok.0)) long))
    (all_both (λ w. w.hall.now) (λ w. w.number) (λ w. w.pass) (λ w. hand_of (g.K.Remote.calls w.remote) (g.K.Remote.settings w.remote)) ws now new here c.serve_unless.ensures.workers)
