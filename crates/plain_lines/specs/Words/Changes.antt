-- What is passed on of each line between a host and a remote, and how it is changed.
-- https://git-annex.branchable.com/design/external_special_remote_protocol/
use Rattle.std.specs.Prelude.{ℕ, ◌-◌, ◌==◌, ◌&&◌, ◌||◌, not, Bool, true, false, if◌then◌else◌, List, [], ◌∷◌, ◌++◌, Option, Some, None, codes, bytes_eq, take, length, slice_index}
use Rattle.std.specs.List.{list_any, filter, slice_split, join_with_byte}
use Rattle.ann_key.specs.Numbers.{is_number}
use Rattle.annex_model.specs.Messages.{word_of, field_of, rest_field}
use Rattle.plain_lines.specs.declared.words.question.Question.{Question}
use Rattle.plain_lines.specs.declared.words.question.Question.TheVariants.{Folder, Urls, Other}

-- the line's command word is this one
abbrev pub says : List ℕ → List ℕ → Bool
says word line = bytes_eq (word_of line) word

-- what follows the word and a blank, or nothing
abbrev pub parameter : List ℕ → List ℕ
parameter line = rest_field (field_of line)

-- all but the last byte
abbrev pub but_last : List ℕ → List ℕ
but_last line = take (length line - 1) line

-- the line has a last byte, and it is this one
abbrev pub ends_with : ℕ → List ℕ → Bool
ends_with byte line = not (length line == 0) && (slice_index line (length line - 1) == byte)

-- ---- from the remote

-- the words of a remote that have no parameters: its questions, and its answers
abbrev pub bare_questions : List (List ℕ)
bare_questions = codes "GETUUID" ∷ codes "GETGITDIR" ∷ codes "GETGITREMOTENAME" ∷ codes "GETWANTED" ∷ []

abbrev pub bare_answers : List (List ℕ)
bare_answers =
    codes "UNSUPPORTED-REQUEST" ∷ codes "PREPARE-SUCCESS" ∷ codes "INITREMOTE-SUCCESS" ∷ codes "CONFIGEND" ∷ codes "INFOEND" ∷
    codes "WHEREIS-FAILURE" ∷ codes "CLAIMURL-SUCCESS" ∷ codes "CLAIMURL-FAILURE" ∷ codes "CHECKURL-FAILURE" ∷
    codes "EXPORTSUPPORTED-SUCCESS" ∷ codes "EXPORTSUPPORTED-FAILURE" ∷
    codes "REMOVEEXPORTDIRECTORY-SUCCESS" ∷ codes "REMOVEEXPORTDIRECTORY-FAILURE" ∷ []

abbrev pub is_among : List (List ℕ) → List ℕ → Bool
is_among words word = list_any (λ w. bytes_eq word w) words

abbrev pub is_bare : List ℕ → Bool
is_bare word = is_among bare_questions word || is_among bare_answers word

-- one of them, and then one blank or one byte 13
abbrev pub has_loose_end : List ℕ → Bool
has_loose_end line = (ends_with 32 line || ends_with 13 line) && is_bare (but_last line)

-- a line that the host doesn't know, or a progress that is no number below 2^64 of 1 to 20 digits
abbrev pub is_dropped : List ℕ → Bool
is_dropped line =
    says (codes "SETURIPRESENT") line || says (codes "SETURIMISSING") line
    || (says (codes "PROGRESS") line && not (is_number (parameter line)))

-- the line as the host gets it
abbrev pub plain_line : List ℕ → List ℕ
plain_line line =
    if bytes_eq line (codes "VERSION 2") then codes "VERSION 1"
    else if has_loose_end line then but_last line
    else line

-- what is passed on of a line of the remote, if anything is
abbrev pub said_by_remote : List ℕ → Option (List ℕ)
said_by_remote line = if is_dropped line then None else Some (plain_line line)

-- ---- from the host

-- the names of an EXTENSIONS, which stand apart by one blank each
abbrev pub names : List ℕ → List (List ℕ)
names line = slice_split (λ b. b == 32) (parameter line)

abbrev pub is_async : List ℕ → Bool
is_async name = bytes_eq name (codes "ASYNC")

abbrev pub offers_async : List ℕ → Bool
offers_async line = says (codes "EXTENSIONS") line && list_any is_async (names line)

abbrev pub is_other : List ℕ → Bool
is_other name = not (is_async name)

-- the other names, in their order
abbrev pub without_async : List ℕ → List ℕ
without_async line = codes "EXTENSIONS " ++ join_with_byte 32 (filter is_other (names line))

abbrev pub is_folder : Option Question → Bool
is_folder (Some Folder) = true
is_folder (Some Urls) = false
is_folder (Some Other) = false
is_folder None = false

-- what is passed on of a line of the host, by the oldest question that is open: a folder ends with a slash
abbrev pub said_by_host : Option Question → List ℕ → List ℕ
said_by_host oldest line =
    if offers_async line then without_async line
    else if is_folder oldest && says (codes "VALUE") line && not (ends_with 47 line) then line ++ 47 ∷ []
    else line
