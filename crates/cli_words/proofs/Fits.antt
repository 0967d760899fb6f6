-- What was read of words can be set, and said to a child.
use Rattle.std.proofs.Common.{◌≡◌, ℕ, zero, suc, Bool, true, false, not, cond, List, [], ◌∷◌, ◌++◌, Option, Some, None, refl, sym, arith}
use mathlib.Core.Bool.{false≢true}
use Rattle.std.specs.Prelude.{◌==◌, ◌||◌, nat_lt, length, map, option_map, codes, bytes_eq, IfSome}
use Rattle.std.specs.List.{list_all, list_any}
use Rattle.std.proofs.lemmas.Bool.Decides.{nat_tests}
use Rattle.uuid.specs.Text.{by_index, digit_place, hex_digit, hyphenated_text, is_hyphen_place, lower, nibble, parsed}
use Rattle.clap.specs.Kinds.{Kinds}
use Rattle.clap.specs.Simple.{matches_of}
use Rattle.clap.specs.Faults.{fault_of}
use Rattle.clap.specs.Walk.{Row}
use Rattle.annex_model.specs.Lines.{has_newline}
use Rattle.journal_model.specs.Limits.{most_again}
use Rattle.journal_model.specs.Replies.{IsLineIdentity}
use Rattle.cli_words.specs.Grammar.{is_without, run_grammar, value_at}
use Rattle.cli_words.specs.Identities.{nobody, IsFit}
use Rattle.cli_words.specs.Settings.{is_setting, setting_at, settings_in, spells_setting}
use Rattle.cli_words.specs.Values.{has_end, is_text, is_word_of_command, number_in, padded_number_in, uuid_in}
use Rattle.cli_words.specs.Words.{are_texts, check_of, command_of, info_of, init_of, init_with, is_help, of_command, page_alone, page_of, most_chunk, most_rehearsed, most_seed, recover_of, rehearse_of, rehearse_with, run_from, run_of, run_with, walk_with}
use Rattle.cli_words.specs.declared.command.Command.{Command}
use Rattle.cli_words.specs.declared.command.Command.TheVariants.{Run, Audit, Show}
use Rattle.cli_words.specs.declared.command.Page.{Page}
use Rattle.cli_words.specs.declared.settings.Setting.{Setting}
use Rattle.std.proofs.lemmas.Bool.{and_parts as both}

-- ---- a UUID as it is written holds no line's end

abbrev no_end : ℕ → Bool
no_end b = not (b == 10)

hex_fits : (d : ℕ) → no_end (hex_digit lower d) ≡ true
hex_fits d = grind (arith, nat_tests)

one_more : (xs : List ℕ) (b : ℕ) → list_any (λ b. b == 10) xs ≡ false → no_end b ≡ true → list_any (λ b. b == 10) (xs ++ b ∷ []) ≡ false
one_more [] b h end = go (b == 10) end
  where
    go : (s : Bool) → not s ≡ true → (s || false) ≡ false
    go true h = absurd (false≢true h)
    go false h = refl
one_more (x ∷ xs) b h end = go (x == 10) h (λ rest. one_more xs b rest end)
  where
    go : (s : Bool) → (s || list_any (λ b. b == 10) xs) ≡ false → (list_any (λ b. b == 10) xs ≡ false → list_any (λ b. b == 10) (xs ++ b ∷ []) ≡ false)
        → (s || list_any (λ b. b == 10) (xs ++ b ∷ [])) ≡ false
    go true h rest = absurd (false≢true (sym h))
    go false h rest = rest h

index_fits : (n : ℕ) (f : ℕ → ℕ) → ((k : ℕ) → no_end (f k) ≡ true) → has_newline (by_index n f) ≡ false
unfolding by_index
index_fits zero f h = refl
index_fits (suc n) f h = one_more (by_index n f) (f n) (index_fits n f h) (h n)

pub uuid_fits : (bytes : List ℕ) → has_newline (hyphenated_text lower bytes) ≡ false
uuid_fits bytes = index_fits 36 (λ k. cond (is_hyphen_place k) 45 (hex_digit lower (nibble bytes (digit_place k)))) (λ k. go (is_hyphen_place k) k)
  where
    go : (b : Bool) (k : ℕ) → no_end (cond b 45 (hex_digit lower (nibble bytes (digit_place k)))) ≡ true
    go true k = refl
    go false k = hex_fits (nibble bytes (digit_place k))

-- ---- settings

settings_fit : (words : List (List ℕ)) → list_all spells_setting words ≡ true → list_all is_setting (map setting_at words) ≡ true
settings_fit [] h = refl
settings_fit (word ∷ words) h =
    let first = both (spells_setting word) (list_all spells_setting words) h in
    rw ((both (list_any (λ b. b == 61) word) (is_setting (setting_at word)) first.0).1, settings_fit words first.1) refl

-- ---- commands

abbrev Fits : Option Command → Type 0
Fits o = IfSome o IsFit

nobody_fits : IsLineIdentity nobody
nobody_fits = record { uuid = refl; name = refl; gitdir = refl }

either_fits : (b : Bool) (x y : Option Command) → Fits x → Fits y → Fits (cond b x y)
either_fits true x y p q = p
either_fits false x y p q = q

show_fits : (page : Option Page) → Fits (option_map Show page)
show_fits None = tt
show_fits (Some page) = record { settings = refl; identity = nobody_fits }

check_fits : (words : List (List ℕ)) → Fits (check_of words)
check_fits [] = tt
check_fits (program ∷ []) = tt
check_fits (program ∷ key ∷ []) = record { settings = refl; identity = nobody_fits }
check_fits (program ∷ key ∷ more ∷ words) = tt

info_fits : (words : List (List ℕ)) → Fits (info_of words)
info_fits [] = tt
info_fits (program ∷ []) = record { settings = refl; identity = nobody_fits }
info_fits (program ∷ key ∷ []) = record { settings = refl; identity = nobody_fits }
info_fits (program ∷ key ∷ more ∷ words) = tt

-- a UUID that is written, if there is one
abbrev IsWritten : Option (List ℕ) → Type 0
IsWritten o = IfSome o (λ uuid. has_newline uuid ≡ false)

written_fits : (o : Option (List ℕ)) → IsWritten (option_map (hyphenated_text lower) o)
written_fits None = tt
written_fits (Some bytes) = uuid_fits bytes

abbrev AreSet : Option (List Setting) → Type 0
AreSet o = IfSome o (λ settings. list_all is_setting settings ≡ true)

set_fit : (words : List (List ℕ)) → AreSet (settings_in words)
set_fit words = go (list_all spells_setting words) refl
  where
    go : (b : Bool) → list_all spells_setting words ≡ b → AreSet (cond b (Some (map setting_at words)) None)
    go true h = settings_fit words h
    go false h = tt

init_fits : (words : List (List ℕ)) → Fits (init_of words)
init_fits [] = tt
init_fits (program ∷ []) = tt
init_fits (program ∷ uuid ∷ []) = tt
init_fits (program ∷ uuid ∷ keep ∷ words) = go (uuid_in uuid) (settings_in words) (written_fits (parsed uuid)) (set_fit words)
  where
    go : (written : Option (List ℕ)) (settings : Option (List Setting)) → IsWritten written → AreSet settings → Fits (init_with program keep written settings)
    go (Some uuid) (Some settings) w s = record { settings = s; identity = record { uuid = rw w refl; name = refl; gitdir = refl } }
    go (Some uuid) None w s = tt
    go None (Some settings) w s = tt
    go None None w s = tt

text_fits : (text : List ℕ) → is_text text ≡ true → not (has_newline text) ≡ true
text_fits text h = (both (nat_lt 0 (length text)) (not (has_end text)) h).1

with_fits : (rows : List Row) (uuid : Option (List ℕ)) (jobs chunk starts again : Option ℕ) → IsWritten uuid
    → not (has_newline (value_at rows (codes "name"))) ≡ true → not (has_newline (value_at rows (codes "gitdir"))) ≡ true → Fits (option_map Run (run_with rows uuid jobs chunk starts again))
with_fits rows (Some uuid) (Some jobs) (Some chunk) (Some starts) (Some again) w n g = record { settings = refl; identity = record { uuid = rw w refl; name = n; gitdir = g } }
with_fits rows (Some uuid) (Some jobs) (Some chunk) (Some starts) None w n g = tt
with_fits rows (Some uuid) (Some jobs) (Some chunk) None again w n g = tt
with_fits rows (Some uuid) (Some jobs) None starts again w n g = tt
with_fits rows (Some uuid) None chunk starts again w n g = tt
with_fits rows None jobs chunk starts again w n g = tt

from_fits : (rows : List Row) → Fits (option_map Run (run_from rows))
from_fits rows = go (are_texts rows) refl
  where
    go : (b : Bool) → are_texts rows ≡ b → Fits (option_map Run (cond b (run_with rows (uuid_in (value_at rows (codes "uuid"))) (number_in 1 64 (value_at rows (codes "jobs")))
        (number_in 0 most_chunk (value_at rows (codes "chunk"))) (number_in 1 16 (value_at rows (codes "starts"))) (number_in 0 most_again (value_at rows (codes "again")))) None))
    go false h = tt
    go true h =
        let behind_program = both (is_text (value_at rows (codes "program"))) _ h in
        let name = both (is_text (value_at rows (codes "name"))) _ behind_program.1 in
        let gitdir = both (is_text (value_at rows (codes "gitdir"))) _ name.1 in
        with_fits rows (uuid_in (value_at rows (codes "uuid"))) (number_in 1 64 (value_at rows (codes "jobs"))) (number_in 0 most_chunk (value_at rows (codes "chunk")))
        (number_in 1 16 (value_at rows (codes "starts"))) (number_in 0 most_again (value_at rows (codes "again"))) (written_fits (parsed (value_at rows (codes "uuid"))))
        (text_fits (value_at rows (codes "name")) name.0) (text_fits (value_at rows (codes "gitdir")) gitdir.0)

run_fits : (words : List (List ℕ)) → Fits (option_map Run (run_of words))
unfolding run_of
run_fits words = go (fault_of run_grammar words) (matches_of run_grammar words)
  where
    go : (kinds : Kinds) (rows : List Row) → Fits (option_map Run (cond (is_without kinds) (run_from rows) None))
    go [] rows = from_fits rows
    go (k ∷ ks) rows = tt

recover_fits : (words : List (List ℕ)) → Fits (recover_of words)
recover_fits [] = tt
recover_fits (journal ∷ []) = record { settings = refl; identity = nobody_fits }
recover_fits (journal ∷ keep ∷ []) = record { settings = refl; identity = nobody_fits }
recover_fits (journal ∷ keep ∷ more ∷ words) = tt

rehearse_fits : (words : List (List ℕ)) → Fits (rehearse_of words)
rehearse_fits [] = tt
rehearse_fits (seed ∷ []) = tt
rehearse_fits (seed ∷ tasks ∷ []) = go (padded_number_in 0 most_seed seed) (padded_number_in 1 most_rehearsed tasks)
  where
    go : (s t : Option ℕ) → Fits (rehearse_with s t)
    go (Some s) (Some t) = record { settings = refl; identity = nobody_fits }
    go (Some s) None = tt
    go None t = tt
rehearse_fits (seed ∷ tasks ∷ world ∷ []) =
    either_fits (bytes_eq world (codes "world")) (walk_with (padded_number_in 0 most_seed seed) (padded_number_in 1 most_rehearsed tasks)) None
    (go (padded_number_in 0 most_seed seed) (padded_number_in 1 most_rehearsed tasks)) tt
  where
    go : (s t : Option ℕ) → Fits (walk_with s t)
    go (Some s) (Some t) = record { settings = refl; identity = nobody_fits }
    go (Some s) None = tt
    go None t = tt
rehearse_fits (seed ∷ tasks ∷ world ∷ more ∷ words) = tt

pub command_fits : (words : List (List ℕ)) → IfSome (command_of words) IsFit
command_fits [] = tt
command_fits (word ∷ []) =
    either_fits (bytes_eq word (codes "audit")) (Some Audit) (option_map Show (page_alone word)) (record { settings = refl; identity = nobody_fits }) (show_fits (page_alone word))
command_fits (word ∷ next ∷ words) =
    let rest : List (List ℕ) = next ∷ words in
    either_fits (is_help rest) (option_map Show (page_of word)) _ (show_fits (page_of word))
    (either_fits (list_all is_word_of_command rest) (of_command word rest) None
    (either_fits (bytes_eq word (codes "check")) (check_of rest) _ (check_fits rest)
    (either_fits (bytes_eq word (codes "info")) (info_of rest) _ (info_fits rest)
    (either_fits (bytes_eq word (codes "init")) (init_of rest) _ (init_fits rest)
    (either_fits (bytes_eq word (codes "run")) (option_map Run (run_of (word ∷ rest))) _ (run_fits (word ∷ rest))
    (either_fits (bytes_eq word (codes "recover")) (recover_of rest) _ (recover_fits rest)
    (either_fits (bytes_eq word (codes "rehearse")) (rehearse_of rest) None (rehearse_fits rest) tt))))))
    tt)
