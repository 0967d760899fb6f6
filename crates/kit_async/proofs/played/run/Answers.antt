use Rattle.std.proofs.Common.{◌≡◌, sym, subst, ap, ◌∙◌, length, arith}
use Rattle.std.specs.Prelude.{All}
use Rattle.threads.proofs.RolesLemmas.Dealing.{pairwise_length}
use Rattle.ann_key.specs.Pairs.{Pairwise}
use Rattle.kit_async.specs.Work.Calling.{hand_of}
use Rattle.kit_async.proofs.Turning.{Can, Goes, all_both, all_can, back_whole, reads_on, writes_on}
use Rattle.kit_async.proofs.played.run.Goals as goal

pub serve_alone-wanted-requires-clause-workers : goal.serve_alone-wanted-requires-clause-workers
serve_alone-wanted-requires-clause-workers g c = subst (All (Can (λ w. w.hall.now) (λ w. w.number) (λ w. w.pass) (λ w. hand_of (g.K.Remote.calls w.remote) (g.K.Remote.settings w.remote)))) (sym c.as_mut_slice.ensures.value) c.requires.workers

pub run_in_threads-requires-clause-workers : goal.run_in_threads-requires-clause-workers
run_in_threads-requires-clause-workers g c κs within =
    let ws = c.args.crew.workers.items in
    let new = c.serve_alone-wanted.new.workers in
    let goes = Goes (λ w. w.hall.now) (λ w. w.number) (λ w. w.pass) (λ w. hand_of (g.K.Remote.calls w.remote) (g.K.Remote.settings w.remote)) in
    let went = subst (λ l. Pairwise goes l new) c.as_mut_slice.ensures.value c.serve_alone-wanted.ensures.workers in
    let long : length new ≡ length ws = sym (pairwise_length goes ws new went) in
    let whole = sym (back_whole ws new c.args.crew.workers.len (omega (arith, c.args.crew.workers.ok.0)) long) in
    subst (All (Can (λ w. w.hall.now) (λ w. w.number) (λ w. w.pass) (λ w. hand_of (g.K.Remote.calls w.remote) (g.K.Remote.settings w.remote)))) whole (all_can (λ w. w.hall.now) (λ w. w.number) (λ w. w.pass) (λ w. hand_of (g.K.Remote.calls w.remote) (g.K.Remote.settings w.remote)) ws new went)

pub returns-then-wanted-clause-read : goal.returns-then-wanted-clause-read
returns-then-wanted-clause-read g c = reads_on g.S.Source.told c.args.crew.ear c.serve_alone-wanted.new.reader c.run_in_threads.result.ear c.serve_alone-wanted.ensures.read c.run_in_threads.ensures.read

pub returns-then-wanted-clause-wrote : goal.returns-then-wanted-clause-wrote
returns-then-wanted-clause-wrote g c = writes_on g.W.Sink.told c.args.crew.mouth c.serve_alone-wanted.new.writer c.run_in_threads.result.mouth c.serve_alone-wanted.ensures.wrote c.run_in_threads.ensures.wrote

pub returns-then-wanted-clause-worked : goal.returns-then-wanted-clause-worked
returns-then-wanted-clause-worked g c =
    let ws = c.args.crew.workers.items in
    let new = c.serve_alone-wanted.new.workers in
    let goes = Goes (λ w. w.hall.now) (λ w. w.number) (λ w. w.pass) (λ w. hand_of (g.K.Remote.calls w.remote) (g.K.Remote.settings w.remote)) in
    let went = subst (λ l. Pairwise goes l new) c.as_mut_slice.ensures.value c.serve_alone-wanted.ensures.workers in
    let long : length new ≡ length ws = sym (pairwise_length goes ws new went) in
    let whole = sym (back_whole ws new c.args.crew.workers.len (omega (arith, c.args.crew.workers.ok.0)) long) in
    all_both (λ w. w.hall.now) (λ w. w.number) (λ w. w.pass) (λ w. hand_of (g.K.Remote.calls w.remote) (g.K.Remote.settings w.remote)) ws new c.run_in_threads.result.workers.items went (subst (λ l. Pairwise goes l c.run_in_threads.result.workers.items) (sym whole) c.run_in_threads.ensures.worked)

pub returns-clause-worked : goal.returns-clause-worked
returns-clause-worked g c =
    let ws = c.args.crew.workers.items in
    let new = c.serve_alone-wanted.new.workers in
    let goes = Goes (λ w. w.hall.now) (λ w. w.number) (λ w. w.pass) (λ w. hand_of (g.K.Remote.calls w.remote) (g.K.Remote.settings w.remote)) in
    let went = subst (λ l. Pairwise goes l new) c.as_mut_slice.ensures.value c.serve_alone-wanted.ensures.workers in
    let long : length new ≡ length ws = sym (pairwise_length goes ws new went) in
    let whole = sym (back_whole ws new c.args.crew.workers.len (omega (arith, c.args.crew.workers.ok.0)) long) in
    subst (λ l. Pairwise goes ws l) whole went
