-- The lines that say why a call ended.
use Rattle.std.specs.Prelude.{ℕ, List, [], ◌∷◌, ◌++◌, codes, decimal}
use Rattle.cli_words.specs.declared.refusals.Reason.{Reason}
use Rattle.cli_words.specs.declared.refusals.Reason.TheVariants.{Word, Key, Unsendable, ChunkKey, File, Name, Long, Many, Large, Entry, Cut}

abbrev pub usage_line : List ℕ
usage_line = codes "special: usage" ++ 10 ∷ []

abbrev pub memory_line : List ℕ
memory_line = codes "special: memory" ++ 10 ∷ []

abbrev pub input_line : List ℕ
input_line = codes "special: input failed" ++ 10 ∷ []

abbrev pub file_line : List ℕ
file_line = codes "special: file failed" ++ 10 ∷ []

abbrev pub keep_large_line : List ℕ
keep_large_line = codes "special: keep large" ++ 10 ∷ []

abbrev pub keep_changed_line : List ℕ
keep_changed_line = codes "special: keep changed" ++ 10 ∷ []

-- the kept file's line of that number is none
abbrev pub bad_kept_line : ℕ → List ℕ
bad_kept_line line = codes "special: keep line " ++ (decimal line ++ 10 ∷ [])

abbrev pub reason_word : Reason → List ℕ
reason_word Word = codes "word"
reason_word Key = codes "key"
reason_word Unsendable = codes "unsendable"
reason_word ChunkKey = codes "chunkkey"
reason_word File = codes "file"
reason_word Name = codes "name"
reason_word Long = codes "long"
reason_word Many = codes "many"
reason_word Large = codes "large"
reason_word Entry = codes "entry"
reason_word Cut = codes "cut"

-- the input's line of that number is refused
abbrev pub refused_line : ℕ → Reason → List ℕ
refused_line line reason = codes "special: line " ++ (decimal line ++ (codes ": " ++ (reason_word reason ++ 10 ∷ [])))
