-- The lines of a kept file.
use Rattle.std.specs.Prelude.{ℕ, Bool, true, false, List, [], ◌∷◌, Option, Some, None, codes, option_map, is_some, IsTrue}
use Rattle.uuid.specs.Text.{hyphenated_text, lower}
use Rattle.annex_model.specs.Messages.{Param, Key, Word, Rest, Row, SpelledBy, row_line, by_rows, word_of, field_of, rest_row, word_rest_row, key_rest_row}
use Rattle.registers.specs.Registers.{is_word, is_line}
use Rattle.registers.specs.RegLines.{Line, ConfigLine, WantedLine, StateLine, UrlLine}
use Rattle.task_text.specs.ChunkLog.ChunkLines.{stamp_part, word_part, count_part, uuid_in, counts_in}
use Rattle.task_text.specs.ChunkLog.Stamps.{stamp_in}
use Rattle.task_text.specs.declared.chunk_log.line.ChunkLine.{ChunkLine}
use Rattle.task_text.specs.declared.chunk_log.note.Note.{Note}
use Rattle.task_text.specs.declared.chunk_log.stamp.Stamp.{Stamp}

-- a config value by its name, the wanted expression, the state of a key, a URL that is present, and a line of a key's chunk log
pub data KeptLine : Type 0 where
  Setting : (name value : List ℕ) → KeptLine
  Expression : (expression : List ℕ) → KeptLine
  State : (key value : List ℕ) → KeptLine
  Url : (key url : List ℕ) → KeptLine
  Chunks : (key log : List ℕ) → KeptLine

-- the first word and the fields, each after a space. An empty last field may lack its space
abbrev pub kept_row : KeptLine → List ℕ × List Param
kept_row (Setting name value) = (codes "config", Word name ∷ Rest value ∷ [])
kept_row (Expression expression) = (codes "wanted", Rest expression ∷ [])
kept_row (State key value) = (codes "state", Key key ∷ Rest value ∷ [])
kept_row (Url key url) = (codes "url", Key key ∷ Rest url ∷ [])
kept_row (Chunks key log) = (codes "chunks", Key key ∷ Rest log ∷ [])

abbrev pub KeptSpells : KeptLine → List ℕ → Type 0
KeptSpells k line = SpelledBy (kept_row k) line

-- the line as it is written
abbrev pub line_of : KeptLine → List ℕ
line_of k = row_line (kept_row k)

-- ---- reading, as a function of the line

abbrev pub kept_rows : List (Row KeptLine)
kept_rows =
    word_rest_row (codes "config") Setting
    ∷ rest_row (codes "wanted") Expression
    ∷ key_rest_row (codes "state") State
    ∷ key_rest_row (codes "url") Url
    ∷ key_rest_row (codes "chunks") Chunks
    ∷ []

abbrev pub kept_reading : List ℕ → Option KeptLine
kept_reading line = by_rows kept_rows (word_of line) (field_of line)

abbrev pub chunk_from : Option Stamp → Option (List ℕ) → Option (ℕ × ℕ) → Option ChunkLine
chunk_from (Some stamp) (Some uuid) (Some counts) =
    Some (record { stamp = stamp; uuid = hyphenated_text lower uuid; chunk = counts.0; count = counts.1 })
chunk_from stamp uuid counts = None

-- what a line of a chunk log says
abbrev pub chunk_in : List ℕ → Option ChunkLine
chunk_in log = chunk_from (stamp_in (stamp_part log)) (uuid_in (word_part log)) (counts_in (word_part log) (count_part log))

abbrev pub is_right : Option KeptLine → Bool
is_right None = false
is_right (Some (Chunks key log)) = is_some (chunk_in log)
is_right (Some k) = true

-- the line is one of a kept file
abbrev pub is_kept_line : List ℕ → Bool
is_kept_line line = is_right (kept_reading line)

-- the register that it sets, if it sets one
abbrev pub setting_of : Option KeptLine → Option Line
setting_of (Some (Setting name value)) = Some (ConfigLine name value)
setting_of (Some (Expression expression)) = Some (WantedLine expression)
setting_of (Some (State key value)) = Some (StateLine key value)
setting_of (Some (Url key url)) = Some (UrlLine key url)
setting_of k = None

-- the note that it is, if it is one
abbrev pub note_of : Option KeptLine → Option Note
note_of (Some (Chunks key log)) = option_map (λ line. record { key = key; line = line }) (chunk_in log)
note_of k = None

-- the fields are of the classes that registers and notes ask for
abbrev pub KeptFits : KeptLine → Type 0
KeptFits (Setting name value) = IsTrue (is_word name) × IsTrue (is_line value)
KeptFits (Expression expression) = IsTrue (is_line expression)
KeptFits (State key value) = IsTrue (is_word key) × IsTrue (is_line value)
KeptFits (Url key url) = IsTrue (is_word key) × IsTrue (is_line url)
KeptFits (Chunks key log) = IsTrue (is_word key)
