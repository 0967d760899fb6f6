-- What the words of a command line ask for.
use Rattle.std.specs.Prelude.{ℕ, ◌&&◌, Bool, true, false, if◌then◌else◌, List, [], ◌∷◌, Option, Some, None, option_map, codes, bytes_eq}
use Rattle.std.specs.List.{list_all}
use Rattle.std.specs.Option.{option_map_or}
use Rattle.clap.specs.Walk.{Row, first_of}
use Rattle.clap.specs.Simple.{matches_of}
use Rattle.clap.specs.Faults.{fault_of}
use Rattle.journal_model.specs.Limits.{most_again}
use Rattle.cli_words.specs.Values.{is_text, is_word_of_command, number_in, padded_number_in, uuid_in}
use Rattle.cli_words.specs.Settings.{settings_in}
use Rattle.cli_words.specs.Grammar.{is_without, run_grammar, value_at}
use Rattle.cli_words.specs.declared.command.Command.{Command}
use Rattle.cli_words.specs.declared.command.Command.TheVariants.{Check, Info, Init, Run, Audit, Recover, Rehearse, Walk, Show}
use Rattle.cli_words.specs.declared.command.Page.{Page}
use Rattle.cli_words.specs.declared.command.Page.TheVariants.{Overview, Check as CheckPage, Info as InfoPage, Init as InitPage, Run as RunPage, Audit as AuditPage, Recover as RecoverPage, Rehearse as RehearsePage, Version}
use Rattle.cli_words.specs.declared.command.RunWords.{RunWords}
use Rattle.cli_words.specs.declared.settings.Setting.{Setting}

-- ---- requests for texts

abbrev pub page_alone : List ℕ → Option Page
page_alone word =
    if bytes_eq word (codes "--help") then Some Overview
    else if bytes_eq word (codes "--version") then Some Version
    else None

abbrev pub page_of : List ℕ → Option Page
page_of word =
    if bytes_eq word (codes "check") then Some CheckPage
    else if bytes_eq word (codes "info") then Some InfoPage
    else if bytes_eq word (codes "init") then Some InitPage
    else if bytes_eq word (codes "run") then Some RunPage
    else if bytes_eq word (codes "audit") then Some AuditPage
    else if bytes_eq word (codes "recover") then Some RecoverPage
    else if bytes_eq word (codes "rehearse") then Some RehearsePage
    else None

abbrev pub is_help : List (List ℕ) → Bool
is_help (word ∷ []) = bytes_eq word (codes "--help")
is_help words = false

-- ---- the words after a command's name

abbrev pub check_of : List (List ℕ) → Option Command
check_of (program ∷ key ∷ []) = Some (Check program key)
check_of words = None

abbrev pub info_of : List (List ℕ) → Option Command
info_of (program ∷ []) = Some (Info program None)
info_of (program ∷ key ∷ []) = Some (Info program (Some key))
info_of words = None

abbrev pub init_with : List ℕ → List ℕ → Option (List ℕ) → Option (List Setting) → Option Command
init_with program keep (Some uuid) (Some settings) =
    Some (Init (record { program = program; uuid = uuid; keep = keep; settings = settings }))
init_with program keep uuid settings = None

abbrev pub init_of : List (List ℕ) → Option Command
init_of (program ∷ uuid ∷ keep ∷ words) = init_with program keep (uuid_in uuid) (settings_in words)
init_of words = None

-- each value is a text, where there is one
abbrev pub are_texts : List Row → Bool
are_texts rows =
    is_text (value_at rows (codes "program")) && (is_text (value_at rows (codes "name")) && (is_text (value_at rows (codes "gitdir"))
    && (is_text (value_at rows (codes "work")) && (option_map_or is_text (first_of (codes "keep") rows) true
    && option_map_or is_text (first_of (codes "journal") rows) true))))

abbrev pub run_with : List Row → Option (List ℕ) → Option ℕ → Option ℕ → Option ℕ → Option ℕ → Option RunWords
run_with rows (Some uuid) (Some jobs) (Some chunk) (Some starts) (Some again) = Some (record {
  program = value_at rows (codes "program");
  uuid = uuid;
  jobs = jobs;
  chunk = chunk;
  name = value_at rows (codes "name");
  gitdir = value_at rows (codes "gitdir");
  keep = first_of (codes "keep") rows;
  journal = first_of (codes "journal") rows;
  work = value_at rows (codes "work");
  starts = starts;
  again = again;
})
run_with rows uuid jobs chunk starts again = None

-- the greatest size of a chunk
abbrev pub most_chunk : ℕ
most_chunk = 1099511627776

-- what a parse found: 1 to 64 jobs, a chunk size of at most that or none, 1 to 16 starts, and at most so many runs again of a task
abbrev pub run_from : List Row → Option RunWords
run_from rows =
    if are_texts rows then run_with rows
    (uuid_in (value_at rows (codes "uuid"))) (number_in 1 64 (value_at rows (codes "jobs")))
    (number_in 0 most_chunk (value_at rows (codes "chunk"))) (number_in 1 16 (value_at rows (codes "starts")))
    (number_in 0 most_again (value_at rows (codes "again")))
    else None

-- the words, `run` among them, where a parse takes them
unfoldable pub run_of : List (List ℕ) → Option RunWords
run_of words = if is_without (fault_of run_grammar words) then run_from (matches_of run_grammar words) else None

-- the file of a run's text, and perhaps a kept file
abbrev pub recover_of : List (List ℕ) → Option Command
recover_of (journal ∷ []) = Some (Recover journal None)
recover_of (journal ∷ keep ∷ []) = Some (Recover journal (Some keep))
recover_of words = None

-- the greatest seed of a rehearsal, and how many tasks it has at most
abbrev pub most_seed : ℕ
most_seed = 4294967295

abbrev pub most_rehearsed : ℕ
most_rehearsed = 65536

abbrev pub rehearse_with : Option ℕ → Option ℕ → Option Command
rehearse_with (Some seed) (Some tasks) = Some (Rehearse seed tasks)
rehearse_with seed tasks = None

abbrev pub walk_with : Option ℕ → Option ℕ → Option Command
walk_with (Some seed) (Some tasks) = Some (Walk seed tasks)
walk_with seed tasks = None

-- the two numbers, and perhaps the word `world`
abbrev pub rehearse_of : List (List ℕ) → Option Command
rehearse_of (seed ∷ tasks ∷ []) = rehearse_with (padded_number_in 0 most_seed seed) (padded_number_in 1 most_rehearsed tasks)
rehearse_of (seed ∷ tasks ∷ world ∷ []) =
    if bytes_eq world (codes "world") then walk_with (padded_number_in 0 most_seed seed) (padded_number_in 1 most_rehearsed tasks) else None
rehearse_of words = None

-- ---- all words

abbrev pub of_command : List ℕ → List (List ℕ) → Option Command
of_command word rest =
    if bytes_eq word (codes "check") then check_of rest
    else if bytes_eq word (codes "info") then info_of rest
    else if bytes_eq word (codes "init") then init_of rest
    else if bytes_eq word (codes "run") then option_map Run (run_of (word ∷ rest))
    else if bytes_eq word (codes "recover") then recover_of rest
    else if bytes_eq word (codes "rehearse") then rehearse_of rest
    else None

abbrev pub behind : List ℕ → List (List ℕ) → Option Command
behind word rest =
    if is_help rest then option_map Show (page_of word)
    else if list_all is_word_of_command rest then of_command word rest
    else None

-- the first word, and those after it
abbrev pub all_behind : List (List ℕ) → Option Command
all_behind [] = None
all_behind (word ∷ rest) = behind word rest

-- the only word: `audit` takes no others
abbrev pub alone : List ℕ → Option Command
alone word = if bytes_eq word (codes "audit") then Some Audit else option_map Show (page_alone word)

-- what the words after the program's name ask for, if they are in the grammar
abbrev pub command_of : List (List ℕ) → Option Command
command_of [] = None
command_of (word ∷ []) = alone word
command_of words = all_behind words
