-- The lines of a chunk log.
use Rattle.std.specs.Prelude.{ℕ, ◌≡◌, ◌<◌, ◌==◌, Bool, if◌then◌else◌, List, ◌++◌, Option, Some, None, codes, decimal}
use Rattle.std.specs.List.{list_any, before_first, after_first, before_last, after_last}
use Rattle.uuid.specs.Text.{parsed, hyphenated_text, lower}
use Rattle.ann_key.specs.Numbers.{number_of}
use Rattle.task_text.specs.ChunkLog.Stamps.{stamp_in, stamp_text}
use Rattle.task_text.specs.declared.chunk_log.line.ChunkLine.{ChunkLine}
use Rattle.task_text.specs.declared.chunk_log.error.ChunkError.{ChunkError}
use Rattle.task_text.specs.declared.chunk_log.error.ChunkError.TheVariants.{BadStamp, BadUuid, BadCount, NoMemory}
use Rattle.task_text.specs.declared.chunk_log.stamp.Stamp.{Stamp}

abbrev pub is_space : ℕ → Bool
is_space b = b == 32

abbrev pub is_colon : ℕ → Bool
is_colon b = b == 58

-- what stands before the first space, and the word and the rest after it
abbrev pub stamp_part : List ℕ → List ℕ
stamp_part line = before_first is_space line

abbrev pub word_part : List ℕ → List ℕ
word_part line = before_first is_space (after_first is_space line)

abbrev pub count_part : List ℕ → List ℕ
count_part line = after_first is_space (after_first is_space line)

-- the UUID before the last colon of a word
abbrev pub uuid_in : List ℕ → Option (List ℕ)
uuid_in word = if list_any is_colon word then parsed (before_last is_colon word) else None

abbrev pub counts_from : Option ℕ → Option ℕ → Option (ℕ × ℕ)
counts_from (Some chunk) (Some count) = if chunk == 0 then None else Some (chunk, count)
counts_from chunk count = None

-- the chunk size after the last colon, which isn't 0, and the number of chunks
abbrev pub counts_in : List ℕ → List ℕ → Option (ℕ × ℕ)
counts_in word count = counts_from (number_of (after_last is_colon word)) (number_of count)

-- the line is a stamp, a UUID, a chunk size and a number of chunks; the UUID is kept in its written form
pub record IsChunkLine (text : List ℕ) (line : ChunkLine) : Type 0 where
  pub bytes : List ℕ
  pub stamp : stamp_in (stamp_part text) ≡ Some line.stamp
  pub uuid : uuid_in (word_part text) ≡ Some bytes
  pub written : line.uuid ≡ hyphenated_text lower bytes
  pub counts : counts_in (word_part text) (count_part text) ≡ Some (line.chunk, line.count)

-- why a text is no line: the first of these that holds. Only a line can be without memory
abbrev pub IsRefused : List ℕ → ChunkError → Type 0
IsRefused text BadStamp = stamp_in (stamp_part text) ≡ None
IsRefused text BadUuid = ((stamp : Stamp) × (stamp_in (stamp_part text) ≡ Some stamp)) × (uuid_in (word_part text) ≡ None)
IsRefused text BadCount =
    ((stamp : Stamp) × (stamp_in (stamp_part text) ≡ Some stamp))
    × ((bytes : List ℕ) × (uuid_in (word_part text) ≡ Some bytes)) × (counts_in (word_part text) (count_part text) ≡ None)
IsRefused text NoMemory = (line : ChunkLine) × IsChunkLine text line

-- a UUID in its written form
abbrev pub IsWrittenUuid : List ℕ → Type 0
IsWrittenUuid uuid = (bytes : List ℕ) × (parsed uuid ≡ Some bytes) × (uuid ≡ hyphenated_text lower bytes)

-- what a line can be written with
pub record IsWritable (line : ChunkLine) : Type 0 where
  pub uuid : IsWrittenUuid line.uuid
  pub chunk : 0 < line.chunk
  pub nanos : line.stamp.nanos < 1000000000

-- the line as it is written
abbrev pub line_text : ChunkLine → List ℕ
line_text line = stamp_text line.stamp ++ codes " " ++ line.uuid ++ codes ":" ++ decimal line.chunk ++ codes " " ++ decimal line.count
