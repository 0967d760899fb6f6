-- What the readers of keys, of tasks and of chunk logs may answer for one text.
use Rattle.std.specs.Prelude.{ℕ, ◌≡◌, List, Result, Ok, Err}
use Rattle.ann_key.specs.Keys.{Parts, IsKey}
use Rattle.ann_key.specs.KeyErrors.{IsError}
use Rattle.ann_key.specs.declared.error.KeyError.{KeyError}
use Rattle.task_text.specs.ChunkLog.ChunkLines.{IsChunkLine, IsRefused}
use Rattle.task_text.specs.declared.chunk_log.error.ChunkError.{ChunkError}
use Rattle.task_text.specs.declared.chunk_log.line.ChunkLine.{ChunkLine}
use Rattle.task_text.specs.TaskLines.{IsReading}
use Rattle.task_text.specs.declared.error.TaskError.{TaskError}

-- what is said of bytes that are read as a key
abbrev pub IsKeyAnswer : List ℕ → Result Parts KeyError → Type 0
IsKeyAnswer text (Ok key) = IsKey text key
IsKeyAnswer text (Err error) = IsError text error

-- two errors of one text are equal, in kind and place
abbrev pub OneError : Type 0
OneError = (text : List ℕ) (e f : KeyError) → IsError text e → IsError text f → e ≡ f

-- a text has one answer: one key and no error, or one error and no key
abbrev pub OneKeyAnswer : Type 0
OneKeyAnswer = (text : List ℕ) (a b : Result Parts KeyError) → IsKeyAnswer text a → IsKeyAnswer text b → a ≡ b

-- a line of a chunk log is refused for one reason
abbrev pub OneChunkError : Type 0
OneChunkError = (text : List ℕ) (e f : ChunkError) → IsRefused text e → IsRefused text f → e ≡ f

-- and spells one line
abbrev pub OneChunkLine : Type 0
OneChunkLine = (text : List ℕ) (a b : ChunkLine) → IsChunkLine text a → IsChunkLine text b → a ≡ b

-- a line of tasks has one fault
abbrev pub OneTaskError : Type 0
OneTaskError = (line : List ℕ) (e f : TaskError) → IsReading line (Err e) → IsReading line (Err f) → e ≡ f
