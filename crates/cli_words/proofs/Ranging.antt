-- The values of a run's words are in their ranges.
use Rattle.std.proofs.Common.{◌≡◌, ◌≤◌, ℕ, Bool, true, false, not, cond, List, [], ◌∷◌, Option, Some, None, refl, arith}
use Rattle.std.specs.Prelude.{nat_lt, length, option_map, codes, bytes_eq, IfSome}
use Rattle.std.specs.List.{list_all}
use Rattle.clap.specs.Kinds.{Kinds}
use Rattle.clap.specs.Simple.{matches_of}
use Rattle.clap.specs.Faults.{fault_of}
use Rattle.clap.specs.Walk.{Row}
use Rattle.annex_model.specs.Lines.{has_newline}
use Rattle.journal_model.specs.Limits.{most_again}
use Rattle.cli_words.specs.Grammar.{is_without, run_grammar, value_at}
use Rattle.cli_words.specs.Ranges.{HasRanges}
use Rattle.cli_words.specs.Values.{has_end, is_text, is_word_of_command, number_in, padded_number_in, uuid_in, IsNumberIn}
use Rattle.cli_words.specs.Settings.{settings_in}
use Rattle.cli_words.specs.Words.{are_texts, check_of, command_of, info_of, init_of, init_with, is_help, of_command, page_alone, page_of, most_chunk, most_rehearsed, most_seed, recover_of, rehearse_of, rehearse_with, run_from, run_of, run_with, walk_with}
use Rattle.cli_words.specs.declared.command.Command.{Command}
use Rattle.cli_words.specs.declared.command.Command.TheVariants.{Run, Audit, Show}
use Rattle.cli_words.specs.declared.command.Page.{Page}
use Rattle.cli_words.specs.declared.command.RunWords.{RunWords}
use Rattle.cli_words.specs.declared.settings.Setting.{Setting}
use Rattle.cli_words.proofs.Numerals.{number_read, padded_read}
use Rattle.std.proofs.lemmas.Bool.{and_parts as both, not-true as un_not}

-- ---- a run

-- no line's end stands in a text
text_whole : (text : List ℕ) → is_text text ≡ true → has_newline text ≡ false
text_whole text h = un_not (has_newline text) (both (nat_lt 0 (length text)) (not (has_end text)) h).1

abbrev Ranged : Option Command → Type 0
Ranged o = IfSome o HasRanges

-- the number that was read
abbrev IsRead : ℕ → ℕ → Option ℕ → Type 0
IsRead least most o = IfSome o (λ n. (least ≤ n) × (n ≤ most))

read_in : (least most : ℕ) (text : List ℕ) → IsRead least most (number_in least most text)
read_in least most text = go (number_in least most text) refl
  where
    go : (o : Option ℕ) → number_in least most text ≡ o → IsRead least most o
    go None e = tt
    go (Some n) e = let is : IsNumberIn least most text n = number_read least most text n e in (is.least_one, is.most_one)

with_ranged : (rows : List Row) (uuid : Option (List ℕ)) (jobs chunk starts again : Option ℕ) → IsRead 1 64 jobs → IsRead 0 most_chunk chunk → IsRead 1 16 starts → IsRead 0 most_again again
    → has_newline (value_at rows (codes "work")) ≡ false → Ranged (option_map Run (run_with rows uuid jobs chunk starts again))
with_ranged rows (Some uuid) (Some jobs) (Some chunk) (Some starts) (Some again) j c s a w =
    let one = j.0 in
    let least = s.0 in
    record { jobs = (omega arith, j.1); chunk = c.1; some = omega arith; few = s.1; again = a.1; work = w }
with_ranged rows (Some uuid) (Some jobs) (Some chunk) (Some starts) None j c s a w = tt
with_ranged rows (Some uuid) (Some jobs) (Some chunk) None again j c s a w = tt
with_ranged rows (Some uuid) (Some jobs) None starts again j c s a w = tt
with_ranged rows (Some uuid) None chunk starts again j c s a w = tt
with_ranged rows None jobs chunk starts again j c s a w = tt

from_ranged : (rows : List Row) → Ranged (option_map Run (run_from rows))
from_ranged rows = go (are_texts rows) refl
  where
    go : (b : Bool) → are_texts rows ≡ b → Ranged (option_map Run (cond b (run_with rows (uuid_in (value_at rows (codes "uuid"))) (number_in 1 64 (value_at rows (codes "jobs")))
        (number_in 0 most_chunk (value_at rows (codes "chunk"))) (number_in 1 16 (value_at rows (codes "starts"))) (number_in 0 most_again (value_at rows (codes "again")))) None))
    go false h = tt
    go true h =
        let behind_program = both (is_text (value_at rows (codes "program"))) _ h in
        let behind_name = both (is_text (value_at rows (codes "name"))) _ behind_program.1 in
        let behind_gitdir = both (is_text (value_at rows (codes "gitdir"))) _ behind_name.1 in
        let work = both (is_text (value_at rows (codes "work"))) _ behind_gitdir.1 in
        with_ranged rows (uuid_in (value_at rows (codes "uuid"))) (number_in 1 64 (value_at rows (codes "jobs"))) (number_in 0 most_chunk (value_at rows (codes "chunk")))
        (number_in 1 16 (value_at rows (codes "starts"))) (number_in 0 most_again (value_at rows (codes "again"))) (read_in 1 64 (value_at rows (codes "jobs"))) (read_in 0 most_chunk (value_at rows (codes "chunk"))) (read_in 1 16 (value_at rows (codes "starts")))
        (read_in 0 most_again (value_at rows (codes "again")))
        (text_whole (value_at rows (codes "work")) work.0)

run_ranged : (words : List (List ℕ)) → Ranged (option_map Run (run_of words))
unfolding run_of
run_ranged words = go (fault_of run_grammar words) (matches_of run_grammar words)
  where
    go : (kinds : Kinds) (rows : List Row) → Ranged (option_map Run (cond (is_without kinds) (run_from rows) None))
    go [] rows = from_ranged rows
    go (k ∷ ks) rows = tt

-- ---- its UUID

-- it was read of a text
abbrev IsOfText : Option RunWords → Type 0
IsOfText o = IfSome o (λ words. (text : List ℕ) × (uuid_in text ≡ Some words.uuid))

with_uuid : (rows : List Row) (text : List ℕ) (uuid : Option (List ℕ)) (jobs chunk starts again : Option ℕ) → uuid_in text ≡ uuid → IsOfText (run_with rows uuid jobs chunk starts again)
with_uuid rows text (Some uuid) (Some jobs) (Some chunk) (Some starts) (Some again) e = (text, e)
with_uuid rows text (Some uuid) (Some jobs) (Some chunk) (Some starts) None e = tt
with_uuid rows text (Some uuid) (Some jobs) (Some chunk) None again e = tt
with_uuid rows text (Some uuid) (Some jobs) None starts again e = tt
with_uuid rows text (Some uuid) None chunk starts again e = tt
with_uuid rows text None jobs chunk starts again e = tt

from_uuid : (rows : List Row) → IsOfText (run_from rows)
from_uuid rows = go (are_texts rows)
  where
    go : (b : Bool) → IsOfText (cond b (run_with rows (uuid_in (value_at rows (codes "uuid"))) (number_in 1 64 (value_at rows (codes "jobs")))
        (number_in 0 most_chunk (value_at rows (codes "chunk"))) (number_in 1 16 (value_at rows (codes "starts"))) (number_in 0 most_again (value_at rows (codes "again")))) None)
    go false = tt
    go true =
        with_uuid rows (value_at rows (codes "uuid")) (uuid_in (value_at rows (codes "uuid"))) (number_in 1 64 (value_at rows (codes "jobs")))
        (number_in 0 most_chunk (value_at rows (codes "chunk"))) (number_in 1 16 (value_at rows (codes "starts"))) (number_in 0 most_again (value_at rows (codes "again"))) refl

pub run_uuid : (words : List (List ℕ)) → IfSome (run_of words) (λ run. (text : List ℕ) × (uuid_in text ≡ Some run.uuid))
unfolding run_of
run_uuid words = go (fault_of run_grammar words) (matches_of run_grammar words)
  where
    go : (kinds : Kinds) (rows : List Row) → IsOfText (cond (is_without kinds) (run_from rows) None)
    go [] rows = from_uuid rows
    go (k ∷ ks) rows = tt

-- ---- commands

either_ranged : (b : Bool) (x y : Option Command) → Ranged x → Ranged y → Ranged (cond b x y)
either_ranged true x y p q = p
either_ranged false x y p q = q

show_ranged : (page : Option Page) → Ranged (option_map Show page)
show_ranged None = tt
show_ranged (Some page) = tt

check_ranged : (words : List (List ℕ)) → Ranged (check_of words)
check_ranged [] = tt
check_ranged (program ∷ []) = tt
check_ranged (program ∷ key ∷ []) = tt
check_ranged (program ∷ key ∷ more ∷ words) = tt

info_ranged : (words : List (List ℕ)) → Ranged (info_of words)
info_ranged [] = tt
info_ranged (program ∷ []) = tt
info_ranged (program ∷ key ∷ []) = tt
info_ranged (program ∷ key ∷ more ∷ words) = tt

init_ranged : (words : List (List ℕ)) → Ranged (init_of words)
init_ranged [] = tt
init_ranged (program ∷ []) = tt
init_ranged (program ∷ uuid ∷ []) = tt
init_ranged (program ∷ uuid ∷ keep ∷ words) = go (uuid_in uuid) (settings_in words)
  where
    go : (written : Option (List ℕ)) (settings : Option (List Setting)) → Ranged (init_with program keep written settings)
    go (Some uuid) (Some settings) = tt
    go (Some uuid) None = tt
    go None settings = tt

padded_in : (least most : ℕ) (text : List ℕ) → IsRead least most (padded_number_in least most text)
padded_in least most text = go (padded_number_in least most text) refl
  where
    go : (o : Option ℕ) → padded_number_in least most text ≡ o → IsRead least most o
    go None e = tt
    go (Some n) e = padded_read least most text n e

recover_ranged : (words : List (List ℕ)) → Ranged (recover_of words)
recover_ranged [] = tt
recover_ranged (journal ∷ []) = tt
recover_ranged (journal ∷ keep ∷ []) = tt
recover_ranged (journal ∷ keep ∷ more ∷ words) = tt

rehearse_ranged : (words : List (List ℕ)) → Ranged (rehearse_of words)
rehearse_ranged [] = tt
rehearse_ranged (seed ∷ []) = tt
rehearse_ranged (seed ∷ tasks ∷ []) = go (padded_number_in 0 most_seed seed) (padded_number_in 1 most_rehearsed tasks) (padded_in 0 most_seed seed) (padded_in 1 most_rehearsed tasks)
  where
    go : (s t : Option ℕ) → IsRead 0 most_seed s → IsRead 1 most_rehearsed t → Ranged (rehearse_with s t)
    go (Some s) (Some t) h k = let one = k.0 in (h.1, omega arith, k.1)
    go (Some s) None h k = tt
    go None t h k = tt
rehearse_ranged (seed ∷ tasks ∷ world ∷ []) =
    either_ranged (bytes_eq world (codes "world")) (walk_with (padded_number_in 0 most_seed seed) (padded_number_in 1 most_rehearsed tasks)) None
    (go (padded_number_in 0 most_seed seed) (padded_number_in 1 most_rehearsed tasks) (padded_in 0 most_seed seed) (padded_in 1 most_rehearsed tasks)) tt
  where
    go : (s t : Option ℕ) → IsRead 0 most_seed s → IsRead 1 most_rehearsed t → Ranged (walk_with s t)
    go (Some s) (Some t) h k = let one = k.0 in (h.1, omega arith, k.1)
    go (Some s) None h k = tt
    go None t h k = tt
rehearse_ranged (seed ∷ tasks ∷ world ∷ more ∷ words) = tt

pub command_ranged : (words : List (List ℕ)) → Ranged (command_of words)
command_ranged [] = tt
command_ranged (word ∷ []) = either_ranged (bytes_eq word (codes "audit")) (Some Audit) (option_map Show (page_alone word)) tt (show_ranged (page_alone word))
command_ranged (word ∷ next ∷ words) =
    let rest : List (List ℕ) = next ∷ words in
    either_ranged (is_help rest) (option_map Show (page_of word)) _ (show_ranged (page_of word))
    (either_ranged (list_all is_word_of_command rest) (of_command word rest) None
    (either_ranged (bytes_eq word (codes "check")) (check_of rest) _ (check_ranged rest)
    (either_ranged (bytes_eq word (codes "info")) (info_of rest) _ (info_ranged rest)
    (either_ranged (bytes_eq word (codes "init")) (init_of rest) _ (init_ranged rest)
    (either_ranged (bytes_eq word (codes "run")) (option_map Run (run_of (word ∷ rest))) _ (run_ranged (word ∷ rest))
    (either_ranged (bytes_eq word (codes "recover")) (recover_of rest) _ (recover_ranged rest)
    (either_ranged (bytes_eq word (codes "rehearse")) (rehearse_of rest) None (rehearse_ranged rest) tt))))))
    tt)
