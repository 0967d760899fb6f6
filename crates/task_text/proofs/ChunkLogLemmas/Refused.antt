-- Out of memory, as a line's reader answers it.
use Rattle.std.proofs.Common.{◌≡◌, ℕ, List, Result, Ok, Err, sym, subst}
use Rattle.std.specs.Prelude.{MatchResult}
use Rattle.std.specs.Result.{IsErrAnd}
use Rattle.task_text.specs.ChunkLog.ChunkLines.{IsChunkLine, IsRefused}
use Rattle.task_text.specs.declared.chunk_log.error.ChunkError.{ChunkError}
use Rattle.task_text.specs.declared.chunk_log.error.ChunkError.TheVariants.{NoMemory}
use Rattle.task_text.specs.declared.chunk_log.line.ChunkLine.{ChunkLine}

pub without_memory : (r : Result ChunkLine ChunkError) (text : List ℕ) → IsErrAnd r (λ error. error ≡ NoMemory) → (line : ChunkLine) → IsChunkLine text line
    → MatchResult r (λ read. IsChunkLine text read) (λ error. IsRefused text error)
without_memory (Ok read) text h line is = absurd h
without_memory (Err error) text h line is = subst (IsRefused text) (sym h) (line, is)
