-- Words that spell settings, and words that spell none.
use Rattle.std.proofs.Common.{◌≡◌, ◌∙◌, ℕ, ◌+◌, ◌<◌, Bool, true, false, cond, List, [], ◌∷◌, ◌++◌, length, take, slice_index_or, Some, None, refl, sym, ap}
use Rattle.std.specs.Prelude.{map, string_bytes, String}
use Rattle.std.specs.List.{list_all, position_or_len}
use Rattle.std.specs.declared.alloc.Global.{Global}
use Rattle.std.proofs.lemmas.List.{get_or-map, length-map, map_more}
use Rattle.std.proofs.lemmas.List.Folds.{list_all_at, list_all_more}
use Rattle.cli_words.specs.Values.{texts_of}
use Rattle.cli_words.specs.Settings.{is_equals, setting_at, setting_in, settings_in, spells_setting}
use Rattle.cli_words.specs.declared.settings.Setting.{Setting}
use Rattle.ann_key.proofs.Lists.{none_found}

pub no_setting : (word : List ℕ) → position_or_len is_equals word ≡ length word → None ≡ setting_in word
no_setting word h = rw (none_found is_equals word h) refl

-- the bytes of a word, by its place
pub word_at : (words : List (String Global)) (i : ℕ) (w : String Global) → i < length words → w ≡ slice_index_or words i w
    → slice_index_or (texts_of words) i (string_bytes w) ≡ string_bytes w
word_at words i w h is = get_or-map string_bytes words i w (string_bytes w) h ∙ ap string_bytes (sym is)

pub within : (words : List (String Global)) (i : ℕ) → i < length words → i < length (texts_of words)
within words i h = rw (length-map words string_bytes) h

spells_none : (word : List ℕ) → None ≡ setting_in word → spells_setting word ≡ false
spells_none word h = go (spells_setting word) h
  where
    go : (s : Bool) → None ≡ cond s (Some (setting_at word)) None → s ≡ false
    go true h = absurd cc
    go false h = refl

-- one word spells no setting
pub none_of_all : (words : List (List ℕ)) (i : ℕ) (d : List ℕ) → i < length words → None ≡ setting_in (slice_index_or words i d) → None ≡ settings_in words
none_of_all words i d h none = rw (list_all_at spells_setting words i d h (spells_none (slice_index_or words i d) none)) refl

spells_some : (word : List ℕ) (s : Setting) → setting_in word ≡ Some s → (spells_setting word ≡ true) × (s ≡ setting_at word)
spells_some word s h = go (spells_setting word) refl h
  where
    go : (b : Bool) → spells_setting word ≡ b → cond b (Some (setting_at word)) None ≡ Some s → (spells_setting word ≡ true) × (s ≡ setting_at word)
    go true e h = (e, cc)
    go false e h = absurd cc

-- one word more, which spells this one
pub one_more : (words : List (List ℕ)) (i : ℕ) (d : List ℕ) (made : List Setting) (s : Setting) → i < length words
    → list_all spells_setting (take i words) ≡ true → made ≡ map setting_at (take i words) → setting_in (slice_index_or words i d) ≡ Some s
    → (list_all spells_setting (take (i + 1) words) ≡ true) × (made ++ s ∷ [] ≡ map setting_at (take (i + 1) words))
one_more words i d made s h all same some =
    let one = spells_some (slice_index_or words i d) s some in
    (list_all_more spells_setting words i d h ∙ rw (all, one.0) refl, rw (map_more setting_at words i d h, same, one.1) refl)
