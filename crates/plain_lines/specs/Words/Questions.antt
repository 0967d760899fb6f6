-- Which question of the remote a VALUE answers.
use Rattle.std.specs.Prelude.{ℕ, ◌≡◌, ◌+◌, ◌==◌, ◌&&◌, ◌||◌, Bool, true, false, if◌then◌else◌, List, [], ◌∷◌, ◌++◌, Option, Some, None, codes, option_and_then, option_to_list, drop, length, slice_get}
use Rattle.plain_lines.specs.Words.Changes.{says, parameter, said_by_remote, said_by_host}
use Rattle.plain_lines.specs.declared.words.question.Question.{Question}
use Rattle.plain_lines.specs.declared.words.question.Question.TheVariants.{Folder, Urls, Other}

-- a line that came from one side
pub data Came : Type 0 where
  FromRemote : List ℕ → Came
  FromHost : List ℕ → Came

abbrev pub asks_folder : List ℕ → Bool
asks_folder line = says (codes "DIRHASH") line || says (codes "DIRHASH-LOWER") line

abbrev pub asks_other : List ℕ → Bool
asks_other line =
    says (codes "GETCONFIG") line || says (codes "GETSTATE") line || says (codes "GETUUID") line
    || says (codes "GETGITDIR") line || says (codes "GETGITREMOTENAME") line || says (codes "GETWANTED") line

-- Such a line of a remote is a question that VALUE answers. GETCREDS is none, since CREDS answers it and nothing else.
abbrev pub question_of : List ℕ → Option Question
question_of line =
    if asks_folder line then Some Folder
    else if says (codes "GETURLS") line then Some Urls
    else if asks_other line then Some Other
    else None

-- The lines that came are told with the last one first.

-- the questions that the host was asked, in their order: they are seen in what was passed on
abbrev pub asked : List Came → List Question
asked [] = []
asked (FromRemote line ∷ before) = asked before ++ option_to_list (option_and_then question_of (said_by_remote line))
asked (FromHost line ∷ before) = asked before

-- a VALUE ends the answer to a question; that to GETURLS ends with the first empty VALUE
abbrev pub ends_answer : Option Question → List ℕ → Bool
ends_answer None line = false
ends_answer (Some Folder) line = says (codes "VALUE") line
ends_answer (Some Urls) line = says (codes "VALUE") line && (length (parameter line) == 0)
ends_answer (Some Other) line = says (codes "VALUE") line

-- how many of the questions have their whole answer: one after the other, from the first on
abbrev pub answered : List Came → ℕ
answered [] = 0
answered (FromRemote line ∷ before) = answered before
answered (FromHost line ∷ before) =
    if ends_answer (slice_get (asked before) (answered before)) line then answered before + 1 else answered before

-- the oldest question without its whole answer is the one that a VALUE answers
abbrev pub oldest_open : List Came → Option Question
oldest_open before = slice_get (asked before) (answered before)

-- what is passed on of a line, after those that came before
abbrev pub passed_on : List Came → Came → Option (List ℕ)
passed_on before (FromRemote line) = said_by_remote line
passed_on before (FromHost line) = Some (said_by_host (oldest_open before) line)

-- these questions wait for an answer after the lines that came
abbrev pub Follows : List Question → List Came → Type 0
Follows waiting came = waiting ≡ drop (answered came) (asked came)
