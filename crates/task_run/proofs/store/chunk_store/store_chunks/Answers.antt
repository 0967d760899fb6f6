use Rattle.std.proofs.Common.{sym}
use Rattle.task_model.proofs.PlainRuns.{task_key_sent}
use Rattle.task_run.proofs.StoreLemmas.ChunkStoreRan.{refused_ran, other_size_ran, sized_ran, some_chunk, some_size, no_chunk}
use Rattle.task_run.proofs.store.chunk_store.store_chunks.Goals as goal

pub returns-in-Err-clause-ran : goal.returns-in-Err-clause-ran
returns-in-Err-clause-ran g c =
    let l = rw c.view-file.ensures at c.in-Err.ensures.log in
    let r = rw c.view-key.ensures at c.view-key.result.spelled in
    rw c.refused.ensures (refused_ran _ _ _ _ _ _ _ _ _ c.requires.work r c.requires.chunked l)

pub invariant_of-store-clause-sent : goal.invariant_of-store-clause-sent
invariant_of-store-clause-sent g c = rw c.view-key.ensures (task_key_sent c.args.task.now.key c.requires.task.key_class)

pub invariant_of-store-clause-whole : goal.invariant_of-store-clause-whole
invariant_of-store-clause-whole g c =
    let r = rw c.view-key.ensures at c.view-key.result.spelled in
    no_chunk c.args.task.now.key _ r c.requires.task.key_class

pub invariant_of-store-clause-chunked : goal.invariant_of-store-clause-chunked
invariant_of-store-clause-chunked g c =
    let r = rw c.view-key.ensures at c.view-key.result.spelled in
    some_chunk c.args.setup.now c.args.task.now _ r c.requires.chunked

pub unreachable-requires : goal.unreachable-requires
unreachable-requires g c =
    let r = rw c.view-key.ensures at c.view-key.result.spelled in
    some_size c.args.setup.now c.args.task.now _ r c.requires.chunked (sym c.in_default.ensures)

pub returns-then-n-size-clause-ran : goal.returns-then-n-size-clause-ran
returns-then-n-size-clause-ran g c =
    let f = rw c.view-file.ensures at c.in-Ok.ensures.log in
    let l = rw c.if-n-size.true at f in
    let r = rw c.view-key.ensures at c.view-key.result.spelled in
    let s = rw c.view-file.ensures at c.store_missing.ensures.stored in
    sized_ran _ _ _ _ _ _ _ _ _ _ _ _ _ c.requires.work r l s

pub returns-else-n-size-clause-ran : goal.returns-else-n-size-clause-ran
returns-else-n-size-clause-ran g c =
    let l = rw c.view-file.ensures at c.in-Ok.ensures.log in
    let r = rw c.view-key.ensures at c.view-key.result.spelled in
    other_size_ran _ _ _ _ _ _ _ _ _ _ c.requires.work r c.requires.chunked (sym c.in-Some.ensures) c.if-n-size.false l
