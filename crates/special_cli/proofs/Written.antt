-- The UUID that the words of a setup or a run hold is in its written form.
use Rattle.std.proofs.Common.{◌≡◌, ℕ, ◌+◌, ◌*◌, ◌<◌, Bool, true, false, cond, List, [], ◌∷◌, length, get_or, slice_index, All, Option, Some, None, refl, sym, subst, ◌∙◌, arith, inl}
use Rattle.std.specs.Prelude.{◌==◌, ◌&&◌, option_map, codes, bytes_eq, take, drop, IfSome}
use Rattle.std.specs.List.{list_all}
use Rattle.std.proofs.lemmas.Bool.Decides.{nat_tests}
use Rattle.std.proofs.lemmas.List.Elements.{All-from_get_or}
use Rattle.std.proofs.lemmas.List.Folds.{list_all_at}
use Rattle.uuid.specs.Text.{by_index, byte_of_digits, close_brace, digits_of, has_hyphens, has_urn_prefix, is_hex_digit, hyphenated_text, lower, open_brace, parsed, parsed_braced, parsed_hyphenated, parsed_simple, parsed_urn, value_of}
use Rattle.uuid.proofs.TextLemmas.{by_index_length, by_index_at}
use Rattle.uuid.proofs.RoundTrips.{parses_hyphenated}
use Rattle.task_text.specs.ChunkLog.ChunkLines.{IsWrittenUuid}
use Rattle.cli_words.proofs.Ranging.{run_uuid}
use Rattle.cli_words.specs.Settings.{settings_in}
use Rattle.cli_words.specs.Values.{is_word_of_command, padded_number_in, uuid_in}
use Rattle.cli_words.specs.Words.{check_of, command_of, info_of, init_of, init_with, is_help, of_command, page_alone, page_of, most_rehearsed, most_seed, recover_of, rehearse_of, rehearse_with, run_of, walk_with}
use Rattle.cli_words.specs.declared.command.Command.{Command}
use Rattle.cli_words.specs.declared.command.Command.TheVariants.{Run, Audit, Show}
use Rattle.cli_words.specs.declared.command.Page.{Page}
use Rattle.cli_words.specs.declared.command.RunWords.{RunWords}
use Rattle.cli_words.specs.declared.settings.Setting.{Setting}
use Rattle.special_cli.specs.Wishes.{HasWrittenUuid}

-- ---- what a text parses to

record AreBytes (xs : List ℕ) : Type 0 where
  long : length xs ≡ 16
  small : All (λ b. b < 256) xs

value_small : (d : ℕ) → is_hex_digit d ≡ true → value_of d < 16
value_small d h = grind (arith, nat_tests)

digit_at : (hex : List ℕ) (k : ℕ) → list_all is_hex_digit hex ≡ true → k < length hex → is_hex_digit (slice_index hex k) ≡ true
digit_at hex k h within = go (is_hex_digit (get_or hex k 0)) refl
  where
    go : (b : Bool) → is_hex_digit (get_or hex k 0) ≡ b → is_hex_digit (get_or hex k 0) ≡ true
    go true e = e
    go false e = absurd (let bad : true ≡ false = sym h ∙ list_all_at is_hex_digit hex k 0 within e in cc)

byte_small : (hex : List ℕ) (k : ℕ) → length hex ≡ 32 → list_all is_hex_digit hex ≡ true → k < 16 → byte_of_digits hex k < 256
byte_small hex k long h within =
    let first : value_of (slice_index hex (2 * k)) < 16 = value_small (slice_index hex (2 * k)) (digit_at hex (2 * k) h (omega arith)) in
    let second : value_of (slice_index hex (2 * k + 1)) < 16 = value_small (slice_index hex (2 * k + 1)) (digit_at hex (2 * k + 1) h (omega arith)) in
    sum_small (value_of (slice_index hex (2 * k))) (value_of (slice_index hex (2 * k + 1))) first second
  where
    sum_small : (a b : ℕ) → a < 16 → b < 16 → a * 16 + b < 256
    sum_small a b h k = omega arith

simple_bytes : (hex : List ℕ) → IfSome (parsed_simple hex) AreBytes
simple_bytes hex = go (length hex == 32) (list_all is_hex_digit hex) refl refl
  where
    whole : length hex ≡ 32 → list_all is_hex_digit hex ≡ true → AreBytes (by_index 16 (byte_of_digits hex))
    whole long h =
        let wide : length (by_index 16 (byte_of_digits hex)) ≡ 16 = by_index_length 16 (byte_of_digits hex) in
        record {
          long = wide;
          small = All-from_get_or (λ b. b < 256) (by_index 16 (byte_of_digits hex)) 0
              (λ i within. let near : i < 16 = omega arith in
              subst (λ (n : ℕ). n < 256) (sym (by_index_at 16 (byte_of_digits hex) i 0 near)) (byte_small hex i long h near));
        }

    go : (a b : Bool) → (length hex == 32) ≡ a → list_all is_hex_digit hex ≡ b → IfSome (cond (a && b) (Some (by_index 16 (byte_of_digits hex))) None) AreBytes
    go true true e h = whole (grind (arith, nat_tests)) h
    go true false e h = tt
    go false b e h = tt

either_bytes : (b : Bool) (x y : Option (List ℕ)) → IfSome x AreBytes → IfSome y AreBytes → IfSome (cond b x y) AreBytes
either_bytes true x y p q = p
either_bytes false x y p q = q

hyphenated_bytes : (s : List ℕ) → IfSome (parsed_hyphenated s) AreBytes
hyphenated_bytes s = either_bytes ((length s == 36) && has_hyphens s) (parsed_simple (digits_of s)) None (simple_bytes (digits_of s)) tt

braced_bytes : (s : List ℕ) → IfSome (parsed_braced s) AreBytes
braced_bytes s =
    either_bytes ((length s == 38) && (slice_index s 0 == open_brace) && (slice_index s 37 == close_brace)) (parsed_hyphenated (take 36 (drop 1 s))) None
    (hyphenated_bytes (take 36 (drop 1 s))) tt

urn_bytes : (s : List ℕ) → IfSome (parsed_urn s) AreBytes
urn_bytes s = either_bytes ((length s == 45) && has_urn_prefix s) (parsed_hyphenated (drop 9 s)) None (hyphenated_bytes (drop 9 s)) tt

parsed_bytes : (s : List ℕ) → IfSome (parsed s) AreBytes
parsed_bytes s =
    either_bytes (length s == 32) (parsed_simple s) _ (simple_bytes s)
    (either_bytes (length s == 36) (parsed_hyphenated s) _ (hyphenated_bytes s)
    (either_bytes (length s == 38) (parsed_braced s) _ (braced_bytes s)
    (either_bytes (length s == 45) (parsed_urn s) None (urn_bytes s) tt)))

written : (text : List ℕ) → IfSome (uuid_in text) IsWrittenUuid
written text = go (parsed text) (parsed_bytes text)
  where
    go : (o : Option (List ℕ)) → IfSome o AreBytes → IfSome (option_map (hyphenated_text lower) o) IsWrittenUuid
    go None h = tt
    go (Some bytes) h = (bytes, sym (parses_hyphenated lower bytes (inl refl) h.long h.small), refl)

-- ---- commands

either_written : (b : Bool) (x y : Option Command) → HasWrittenUuid x → HasWrittenUuid y → HasWrittenUuid (cond b x y)
either_written true x y p q = p
either_written false x y p q = q

show_written : (page : Option Page) → HasWrittenUuid (option_map Show page)
show_written None = tt
show_written (Some page) = tt

check_written : (words : List (List ℕ)) → HasWrittenUuid (check_of words)
check_written [] = tt
check_written (program ∷ []) = tt
check_written (program ∷ key ∷ []) = tt
check_written (program ∷ key ∷ more ∷ words) = tt

info_written : (words : List (List ℕ)) → HasWrittenUuid (info_of words)
info_written [] = tt
info_written (program ∷ []) = tt
info_written (program ∷ key ∷ []) = tt
info_written (program ∷ key ∷ more ∷ words) = tt

init_written : (words : List (List ℕ)) → HasWrittenUuid (init_of words)
init_written [] = tt
init_written (program ∷ []) = tt
init_written (program ∷ uuid ∷ []) = tt
init_written (program ∷ uuid ∷ keep ∷ words) = go (uuid_in uuid) (settings_in words) (written uuid)
  where
    go : (o : Option (List ℕ)) (settings : Option (List Setting)) → IfSome o IsWrittenUuid → HasWrittenUuid (init_with program keep o settings)
    go (Some uuid) (Some settings) w = w
    go (Some uuid) None w = tt
    go None (Some settings) w = tt
    go None None w = tt

run_written : (words : List (List ℕ)) → HasWrittenUuid (option_map Run (run_of words))
run_written words = go (run_of words) (run_uuid words)
  where
    go : (o : Option RunWords) → IfSome o (λ run. (text : List ℕ) × (uuid_in text ≡ Some run.uuid)) → HasWrittenUuid (option_map Run o)
    go None h = tt
    go (Some run) (text, e) = subst (λ (o : Option (List ℕ)). IfSome o IsWrittenUuid) e (written text)

recover_written : (words : List (List ℕ)) → HasWrittenUuid (recover_of words)
recover_written [] = tt
recover_written (journal ∷ []) = tt
recover_written (journal ∷ keep ∷ []) = tt
recover_written (journal ∷ keep ∷ more ∷ words) = tt

rehearse_written : (words : List (List ℕ)) → HasWrittenUuid (rehearse_of words)
rehearse_written [] = tt
rehearse_written (seed ∷ []) = tt
rehearse_written (seed ∷ tasks ∷ []) = go (padded_number_in 0 most_seed seed) (padded_number_in 1 most_rehearsed tasks)
  where
    go : (s t : Option ℕ) → HasWrittenUuid (rehearse_with s t)
    go (Some s) (Some t) = tt
    go (Some s) None = tt
    go None t = tt
rehearse_written (seed ∷ tasks ∷ world ∷ []) =
    either_written (bytes_eq world (codes "world")) (walk_with (padded_number_in 0 most_seed seed) (padded_number_in 1 most_rehearsed tasks)) None
    (go (padded_number_in 0 most_seed seed) (padded_number_in 1 most_rehearsed tasks)) tt
  where
    go : (s t : Option ℕ) → HasWrittenUuid (walk_with s t)
    go (Some s) (Some t) = tt
    go (Some s) None = tt
    go None t = tt
rehearse_written (seed ∷ tasks ∷ world ∷ more ∷ words) = tt

pub command_written : (words : List (List ℕ)) → HasWrittenUuid (command_of words)
command_written [] = tt
command_written (word ∷ []) = either_written (bytes_eq word (codes "audit")) (Some Audit) (option_map Show (page_alone word)) tt (show_written (page_alone word))
command_written (word ∷ next ∷ words) =
    let rest : List (List ℕ) = next ∷ words in
    either_written (is_help rest) (option_map Show (page_of word)) _ (show_written (page_of word))
    (either_written (list_all is_word_of_command rest) (of_command word rest) None
    (either_written (bytes_eq word (codes "check")) (check_of rest) _ (check_written rest)
    (either_written (bytes_eq word (codes "info")) (info_of rest) _ (info_written rest)
    (either_written (bytes_eq word (codes "init")) (init_of rest) _ (init_written rest)
    (either_written (bytes_eq word (codes "run")) (option_map Run (run_of (word ∷ rest))) _ (run_written (word ∷ rest))
    (either_written (bytes_eq word (codes "recover")) (recover_of rest) _ (recover_written rest)
    (either_written (bytes_eq word (codes "rehearse")) (rehearse_of rest) None (rehearse_written rest) tt))))))
    tt)

pub words_written : (words : List (List ℕ)) (command : Option Command) → command ≡ command_of words → HasWrittenUuid command
words_written words command e = subst HasWrittenUuid (sym e) (command_written words)
