-- Kept files: what their text says, and how they are written.
use Rattle.std.specs.Prelude.{ℕ, ◌≡◌, ◌+◌, ◌==◌, not, Bool, true, false, if◌then◌else◌, List, [], ◌∷◌, ◌++◌, Option, Some, None, map, filter, filter_map, codes, bytes_eq, All, IsTrue, ◌<◌, ◌^◌}
use Rattle.std.specs.List.{list_all}
use Rattle.annex_model.specs.Lines.{text, has_newline}
use Rattle.registers.specs.Registers.{RegisterFile, nothing_set, is_key_word, IsKept}
use Rattle.registers.specs.RegLines.{Line, ConfigLine, WantedLine, StateLine, UrlLine, lines_of, set_by_lines}
use Rattle.task_text.specs.ChunkLog.ChunkLines.{line_text, IsWritable}
use Rattle.task_text.specs.ChunkLog.LogLaws.{cut}
pub use Rattle.task_text.specs.ChunkLog.NoteBooks.{CountsAs}
use Rattle.task_text.specs.declared.chunk_log.note.Note.{Note}
use Rattle.kept_file.specs.Text.KeptLines.{KeptLine, Setting, Expression, State, Url, Chunks, kept_reading, is_kept_line, setting_of, note_of, line_of}
use Rattle.kept_file.specs.declared.text.error.KeepError.{KeepError}
use Rattle.kept_file.specs.declared.text.error.KeepError.TheVariants.{BadLine, NoMemory}

-- ---- lines

-- none holds the byte that ends a line
abbrev pub are_lines : List (List ℕ) → Bool
are_lines lines = list_all (λ line. not (has_newline line)) lines

-- some bytes, none of which ends a line
abbrev pub is_unended : List ℕ → Bool
is_unended [] = false
is_unended (byte ∷ more) = not (has_newline (byte ∷ more))

abbrev pub with_byte : ℕ → List (List ℕ) → List (List ℕ)
with_byte b [] = (b ∷ []) ∷ []
with_byte b (line ∷ lines) = (b ∷ line) ∷ lines

-- the lines of the text, each up to its byte 10; the last may lack it
abbrev pub lines_in : List ℕ → List (List ℕ)
lines_in [] = []
lines_in (b ∷ bytes) = if b == 10 then [] ∷ lines_in bytes else with_byte b (lines_in bytes)

abbrev pub head : List ℕ
head = codes "annex-keep 1"

-- the number of the first line that is none of a kept file's, where the first of them has the number n
abbrev pub first_bad : ℕ → List (List ℕ) → Option ℕ
first_bad n [] = None
first_bad n (line ∷ lines) = if is_kept_line line then first_bad (n + 1) lines else Some n

abbrev pub bad_among : List (List ℕ) → Option ℕ
bad_among [] = None
bad_among (first ∷ lines) = if bytes_eq first head then first_bad 2 lines else Some 1

-- the number of the text's first bad line, from 1. The empty text has none
abbrev pub bad_line : List ℕ → Option ℕ
bad_line bytes = bad_among (lines_in bytes)

-- ---- what the lines say

abbrev pub behind_head : List (List ℕ) → List (List ℕ)
behind_head [] = []
behind_head (first ∷ lines) = lines

abbrev pub settings_in : List (List ℕ) → List Line
settings_in lines = filter_map (λ line. setting_of (kept_reading line)) lines

abbrev pub notes_in : List (List ℕ) → List Note
notes_in lines = filter_map (λ line. note_of (kept_reading line)) lines

-- the registers that the text's lines set, one after the other
abbrev pub registers_of : List ℕ → RegisterFile
registers_of bytes = set_by_lines nothing_set (settings_in (behind_head (lines_in bytes)))

-- the notes of its lines, in their order
abbrev pub notes_of : List ℕ → List Note
notes_of bytes = notes_in (behind_head (lines_in bytes))

-- the error names the first bad line. Memory may run out at any text
abbrev pub IsFaultOf : List ℕ → KeepError → Type 0
IsFaultOf bytes (BadLine line) = bad_line bytes ≡ Some line
IsFaultOf bytes NoMemory = Unit {0}

-- the same, of the lines after the head
abbrev pub IsFirstFault : List (List ℕ) → KeepError → Type 0
IsFirstFault lines (BadLine line) = first_bad 2 lines ≡ Some line
IsFirstFault lines NoMemory = Unit {0}

-- the same of one line, which has that number and is right or not
abbrev pub IsLineFault : Bool → ℕ → KeepError → Type 0
IsLineFault right number (BadLine line) = (line ≡ number) × (right ≡ false)
IsLineFault right number NoMemory = Unit {0}

-- ---- writing

abbrev pub is_config : Line → Bool
is_config (ConfigLine name value) = true
is_config line = false

abbrev pub kept_of : Line → KeptLine
kept_of (ConfigLine name value) = Setting name value
kept_of (WantedLine expression) = Expression expression
kept_of (StateLine key value) = State key value
kept_of (UrlLine key url) = Url key url

abbrev pub kept_note : Note → KeptLine
kept_note note = Chunks note.key (line_text note.line)

-- the lines as they are written
abbrev pub written_line : Line → List ℕ
written_line line = line_of (kept_of line)

abbrev pub written_note : Note → List ℕ
written_note note = line_of (kept_note note)

-- config lines, or the others
abbrev pub is_of_kind : Bool → Line → Bool
is_of_kind true line = is_config line
is_of_kind false line = not (is_config line)

-- the lines of that kind which the registers have, in their order
abbrev pub lines_of_kind : Bool → RegisterFile → List (List ℕ)
lines_of_kind kind r = map written_line (filter (is_of_kind kind) (lines_of r))

-- the head, the config lines of one register file, the others of another, and the notes
abbrev pub kept_text : RegisterFile → RegisterFile → List Note → List ℕ
kept_text config now notes = text (head ∷ (lines_of_kind true config ++ lines_of_kind false now ++ map written_note notes))

-- a note as it is read back
abbrev pub cut_note : Note → Note
cut_note note = record note { line = record note.line { stamp = cut note.line.stamp } }

-- what a note can be written and read with
pub record IsKeepable (note : Note) : Type 0 where
  pub key : IsTrue (is_key_word note.key)
  pub line : IsWritable note.line
  pub seconds : note.line.stamp.seconds < 2 ^ 64
  pub chunk : note.line.chunk < 2 ^ 64
  pub count : note.line.count < 2 ^ 64

-- what a file can be written of: registers that are kept in order, and such notes
abbrev pub AreKeepable : RegisterFile → RegisterFile → List Note → Type 0
AreKeepable config now notes = IsKept config × IsKept now × All IsKeepable notes
