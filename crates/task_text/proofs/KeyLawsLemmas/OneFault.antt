-- The faults of lines of tasks and of chunk logs.
use Rattle.std.proofs.Common.{◌≡◌, ℕ, List, Option, Some, None, Err, refl, sym, ap, ◌∙◌}
use Rattle.task_text.specs.ChunkLog.ChunkLines.{stamp_part, word_part, count_part, uuid_in, counts_in}
use Rattle.task_text.specs.ChunkLog.Stamps.{stamp_in}
use Rattle.task_text.specs.declared.chunk_log.error.ChunkError.TheVariants.{BadStamp, BadUuid, BadCount, NoMemory}
use Rattle.task_text.specs.declared.chunk_log.line.ChunkLine.{ChunkLine}
use Rattle.task_text.specs.declared.chunk_log.stamp.Stamp.{Stamp}
use Rattle.task_text.specs.TaskLines.{fault_of, IsReading}
use Rattle.task_text.specs.declared.error.TaskError.{TaskError}
use Rattle.task_text.specs.declared.error.TaskError.TheVariants.{Word, Key, Unsendable, ChunkKey, File, Name, NoMemory as OutOfMemory}
use Rattle.task_text.specs.KeyLaws.OneAnswer.{OneChunkError, OneChunkLine, OneTaskError}

-- ---- lines of a chunk log

clash : {A : Type 0} (o : Option A) (a : A) → o ≡ None → o ≡ Some a → ⊥
clash {A = A} o a n s = let e : ◌≡◌ {A = Option A} None (Some a) = sym n ∙ s in absurd cc

same : {A : Type 0} (o : Option A) (a b : A) → o ≡ Some a → o ≡ Some b → a ≡ b
same {A = A} o a b s t = let e : Some a ≡ Some b = sym s ∙ t in cc

pub one_chunk_error : OneChunkError
one_chunk_error text BadStamp BadStamp h k = refl
one_chunk_error text BadStamp BadUuid h k = absurd (clash (stamp_in (stamp_part text)) k.0.0 h k.0.1)
one_chunk_error text BadStamp BadCount h k = absurd (clash (stamp_in (stamp_part text)) k.0.0 h k.0.1)
one_chunk_error text BadStamp NoMemory h k = absurd (clash (stamp_in (stamp_part text)) k.0.stamp h k.1.stamp)
one_chunk_error text BadUuid BadStamp h k = absurd (clash (stamp_in (stamp_part text)) h.0.0 k h.0.1)
one_chunk_error text BadUuid BadUuid h k = refl
one_chunk_error text BadUuid BadCount h k = absurd (clash (uuid_in (word_part text)) k.1.0 h.1 k.1.1)
one_chunk_error text BadUuid NoMemory h k = absurd (clash (uuid_in (word_part text)) k.1.bytes h.1 k.1.uuid)
one_chunk_error text BadCount BadStamp h k = absurd (clash (stamp_in (stamp_part text)) h.0.0 k h.0.1)
one_chunk_error text BadCount BadUuid h k = absurd (clash (uuid_in (word_part text)) h.1.0 k.1 h.1.1)
one_chunk_error text BadCount BadCount h k = refl
one_chunk_error text BadCount NoMemory h k = absurd (clash (counts_in (word_part text) (count_part text)) (k.0.chunk, k.0.count) h.2 k.1.counts)
one_chunk_error text NoMemory BadStamp h k = absurd (clash (stamp_in (stamp_part text)) h.0.stamp k h.1.stamp)
one_chunk_error text NoMemory BadUuid h k = absurd (clash (uuid_in (word_part text)) h.1.bytes k.1 h.1.uuid)
one_chunk_error text NoMemory BadCount h k = absurd (clash (counts_in (word_part text) (count_part text)) (h.0.chunk, h.0.count) k.2 h.1.counts)
one_chunk_error text NoMemory NoMemory h k = refl

same_line : (a b : ChunkLine) → a.stamp ≡ b.stamp → a.uuid ≡ b.uuid → a.chunk ≡ b.chunk → a.count ≡ b.count → a ≡ b
same_line a b stamp uuid chunk count =
    let line : Stamp → List ℕ → ℕ → ℕ → ChunkLine = λ s u c n. record { stamp = s; uuid = u; chunk = c; count = n } in
    let e : line a.stamp a.uuid a.chunk a.count ≡ line b.stamp b.uuid b.chunk b.count = rw (stamp, uuid, chunk, count) refl in e

pub one_chunk_line : OneChunkLine
one_chunk_line text a b h k =
    let stamp : a.stamp ≡ b.stamp = same (stamp_in (stamp_part text)) a.stamp b.stamp h.stamp k.stamp in
    let bytes : h.bytes ≡ k.bytes = same (uuid_in (word_part text)) h.bytes k.bytes h.uuid k.uuid in
    let uuid : a.uuid ≡ b.uuid = (rw bytes at h.written) ∙ sym k.written in
    let counts : ◌≡◌ {A = ℕ × ℕ} (a.chunk, a.count) (b.chunk, b.count) = same (counts_in (word_part text) (count_part text)) (a.chunk, a.count) (b.chunk, b.count) h.counts k.counts in
    same_line a b stamp uuid (ap (λ (p : ℕ × ℕ). p.0) counts) (ap (λ (p : ℕ × ℕ). p.1) counts)

-- ---- lines of tasks

fault_or_memory : Option TaskError → TaskError
fault_or_memory None = OutOfMemory
fault_or_memory (Some fault) = fault

told : (line : List ℕ) (e : TaskError) → IsReading line (Err e) → fault_or_memory (fault_of line) ≡ e
unfolding fault_or_memory
told line Word h = ap fault_or_memory h
told line Key h = ap fault_or_memory h
told line Unsendable h = ap fault_or_memory h
told line ChunkKey h = ap fault_or_memory h
told line File h = ap fault_or_memory h
told line Name h = ap fault_or_memory h
told line OutOfMemory h = ap fault_or_memory h

pub one_task_error : OneTaskError
one_task_error line e f h k = sym (told line e h) ∙ told line f k
