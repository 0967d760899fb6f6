-- The parts of what follows a line's word.
use Rattle.std.proofs.Common.{◌≡◌, ℕ, ◌==◌, ◌&&◌, Bool, true, false, not, List, [], ◌∷◌, ◌++◌, length, refl, sym, ap, ◌∙◌, if◌then◌else◌}
use Rattle.std.specs.List.{list_any, before_first, after_first}
use Rattle.std.proofs.lemmas.Bool.{false≢true, and_parts, not-true, not-false, eqb-true}
use Rattle.std.proofs.lemmas.List.{append-nil, nil_from_length}
use Rattle.ann_key.specs.Keys.{is_key}
use Rattle.task_text.specs.Works.{names_file, has_name, has_onto}
use Rattle.task_text.specs.TaskLines.{is_file, is_name, is_space, is_tab, behind_key, key_in, file_in, name_in, onto_in}
use Rattle.task_text.specs.declared.task.Work.{Work}
use Rattle.task_text.specs.declared.task.Work.TheVariants.{Store, Get, Check, Drop, XStore, XGet, XCheck, XDrop, XRename}
use Rattle.task_text.proofs.Marks.{before_space, after_space, before_tab, after_tab, split_at_space, split_at_tab, none_before}

-- ---- what is written after the word has its parts

-- these are the parts of what follows the word
pub record AreParts (work : Work) (rest key file name onto : List ℕ) : Type 0 where
  pub key_is : key_in work rest ≡ key
  pub file_is : file_in work (after_first is_space rest) ≡ file
  pub name_is : name_in work (after_first is_space rest) ≡ name
  pub onto_is : onto_in work (after_first is_space rest) ≡ onto

nothing : (bytes : List ℕ) → (length bytes == 0) ≡ true → [] ≡ bytes
nothing bytes h = sym (nil_from_length bytes (eqb-true (length bytes) 0 h))

words_behind : (key words rest : List ℕ) → rest ≡ key ++ 32 ∷ words → list_any is_space key ≡ false → after_first is_space rest ≡ words
words_behind key words rest e none = ap (after_first is_space) e ∙ after_space key words none

key_before : (key words rest : List ℕ) → rest ≡ key ++ 32 ∷ words → list_any is_space key ≡ false → before_first is_space rest ≡ key
key_before key words rest e none = ap (before_first is_space) e ∙ before_space key words none

first_of_two : (first second words : List ℕ) → words ≡ first ++ 9 ∷ second → list_any is_tab first ≡ false → before_first is_tab words ≡ first
first_of_two first second words e none = ap (before_first is_tab) e ∙ before_tab first second none

second_of_two : (first second words : List ℕ) → words ≡ first ++ 9 ∷ second → list_any is_tab first ≡ false → after_first is_tab words ≡ second
second_of_two first second words e none = ap (after_first is_tab) e ∙ after_tab first second none

tabless : (name : List ℕ) → is_name name ≡ true → list_any is_tab name ≡ false
tabless name h = not-true _ (and_parts _ _ h).1

pub parts_of_rest : (work : Work) (key file name onto rest : List ℕ) → rest ≡ key ++ behind_key work file name onto → list_any is_space key ≡ false
    → (if names_file work then is_file file else length file == 0) ≡ true → (if has_name work then is_name name else length name == 0) ≡ true
    → (if has_onto work then is_name onto else length onto == 0) ≡ true → not (has_name work && list_any is_tab file) ≡ true
    → AreParts work rest key file name onto
parts_of_rest Store key file name onto rest e none f n o apart = record {
  key_is = key_before key file rest e none;
  file_is = words_behind key file rest e none;
  name_is = nothing name n;
  onto_is = nothing onto o;
}
parts_of_rest Get key file name onto rest e none f n o apart = record {
  key_is = key_before key file rest e none;
  file_is = words_behind key file rest e none;
  name_is = nothing name n;
  onto_is = nothing onto o;
}
parts_of_rest Check key file name onto rest e none f n o apart = record {
  key_is = e ∙ append-nil key;
  file_is = nothing file f;
  name_is = nothing name n;
  onto_is = nothing onto o;
}
parts_of_rest Drop key file name onto rest e none f n o apart = record {
  key_is = e ∙ append-nil key;
  file_is = nothing file f;
  name_is = nothing name n;
  onto_is = nothing onto o;
}
parts_of_rest XStore key file name onto rest e none f n o apart =
    let words = words_behind key (file ++ 9 ∷ name) rest e none in record {
      key_is = key_before key (file ++ 9 ∷ name) rest e none;
      file_is = first_of_two file name _ words (not-true _ apart);
      name_is = second_of_two file name _ words (not-true _ apart);
      onto_is = nothing onto o;
    }
parts_of_rest XGet key file name onto rest e none f n o apart =
    let words = words_behind key (file ++ 9 ∷ name) rest e none in record {
      key_is = key_before key (file ++ 9 ∷ name) rest e none;
      file_is = first_of_two file name _ words (not-true _ apart);
      name_is = second_of_two file name _ words (not-true _ apart);
      onto_is = nothing onto o;
    }
parts_of_rest XCheck key file name onto rest e none f n o apart = record {
  key_is = key_before key name rest e none;
  file_is = nothing file f;
  name_is = words_behind key name rest e none;
  onto_is = nothing onto o;
}
parts_of_rest XDrop key file name onto rest e none f n o apart = record {
  key_is = key_before key name rest e none;
  file_is = nothing file f;
  name_is = words_behind key name rest e none;
  onto_is = nothing onto o;
}
parts_of_rest XRename key file name onto rest e none f n o apart =
    let words = words_behind key (name ++ 9 ∷ onto) rest e none in record {
      key_is = key_before key (name ++ 9 ∷ onto) rest e none;
      file_is = nothing file f;
      name_is = first_of_two name onto _ words (tabless name n);
      onto_is = second_of_two name onto _ words (tabless name n);
    }

-- ---- parts that are right make up what follows the word

no_empty_key : (key : List ℕ) → is_key key ≡ true → key ≡ [] → ⊥
no_empty_key key h e = false≢true (ap is_key (sym e) ∙ h)

no_empty_file : (file : List ℕ) → is_file file ≡ true → file ≡ [] → ⊥
no_empty_file file h e = false≢true (ap is_file (sym e) ∙ h)

no_empty_name : (name : List ℕ) → is_name name ≡ true → name ≡ [] → ⊥
no_empty_name name h = no_empty_file name (and_parts _ _ h).0

two_words : (rest : List ℕ) → is_name (after_first is_tab (after_first is_space rest)) ≡ true
    → rest ≡ before_first is_space rest ++ 32 ∷ (before_first is_tab (after_first is_space rest) ++ 9 ∷ after_first is_tab (after_first is_space rest))
two_words rest second =
    let some = no_empty_name _ second in
    split_at_space rest (λ e. some (ap (after_first is_tab) e))
    ∙ ap (λ words. before_first is_space rest ++ 32 ∷ words) (split_at_tab (after_first is_space rest) some)

pub whole_rest : (work : Work) (rest : List ℕ) → (names_file work && not (is_file (file_in work (after_first is_space rest)))) ≡ false
    → (has_name work && not (is_name (name_in work (after_first is_space rest)))) ≡ false
    → (has_onto work && not (is_name (onto_in work (after_first is_space rest)))) ≡ false
    → rest ≡ key_in work rest ++ behind_key work (file_in work (after_first is_space rest)) (name_in work (after_first is_space rest)) (onto_in work (after_first is_space rest))
whole_rest Store rest file name onto = split_at_space rest (no_empty_file _ (not-false _ file))
whole_rest Get rest file name onto = split_at_space rest (no_empty_file _ (not-false _ file))
whole_rest Check rest file name onto = sym (append-nil rest)
whole_rest Drop rest file name onto = sym (append-nil rest)
whole_rest XStore rest file name onto = two_words rest (not-false _ name)
whole_rest XGet rest file name onto = two_words rest (not-false _ name)
whole_rest XCheck rest file name onto = split_at_space rest (no_empty_name _ (not-false _ name))
whole_rest XDrop rest file name onto = split_at_space rest (no_empty_name _ (not-false _ name))
whole_rest XRename rest file name onto = two_words rest (not-false _ onto)

-- where the key is one, something follows the word
pub some_rest : (work : Work) (rest : List ℕ) → is_key (key_in work rest) ≡ true → rest ≡ [] → ⊥
some_rest Check rest key = no_empty_key rest key
some_rest Drop rest key = no_empty_key rest key
some_rest _ rest key = λ e. no_empty_key _ key (ap (before_first is_space) e)

pub file_right : (work : Work) (words : List ℕ) → (names_file work && not (is_file (file_in work words))) ≡ false
    → (if names_file work then is_file (file_in work words) else length (file_in work words) == 0) ≡ true
file_right Store words h = not-false _ h
file_right Get words h = not-false _ h
file_right XStore words h = not-false _ h
file_right XGet words h = not-false _ h
file_right _ words h = refl

pub name_right : (work : Work) (words : List ℕ) → (has_name work && not (is_name (name_in work words))) ≡ false
    → (if has_name work then is_name (name_in work words) else length (name_in work words) == 0) ≡ true
name_right Store words h = refl
name_right Get words h = refl
name_right Check words h = refl
name_right Drop words h = refl
name_right _ words h = not-false _ h

pub onto_right : (work : Work) (words : List ℕ) → (has_onto work && not (is_name (onto_in work words))) ≡ false
    → (if has_onto work then is_name (onto_in work words) else length (onto_in work words) == 0) ≡ true
onto_right XRename words h = not-false _ h
onto_right _ words h = refl

pub file_apart : (work : Work) (words : List ℕ) → (has_name work && list_any is_tab (file_in work words)) ≡ false
file_apart XStore words = none_before is_tab words
file_apart XGet words = none_before is_tab words
file_apart _ words = refl

-- a part that the work hasn't is empty
pub file_wanted : (work : Work) (words : List ℕ) → (if names_file work then file_in work words else []) ≡ file_in work words
file_wanted Store words = refl
file_wanted _ words = refl

pub name_wanted : (work : Work) (words : List ℕ) → (if has_name work then name_in work words else []) ≡ name_in work words
name_wanted Store words = refl
name_wanted _ words = refl

pub onto_wanted : (work : Work) (words : List ℕ) → (if has_onto work then onto_in work words else []) ≡ onto_in work words
onto_wanted Store words = refl
onto_wanted _ words = refl

-- what is right, or isn't wanted, isn't lacking
pub lacks_none : (wanted right none : Bool) → (if wanted then right else none) ≡ true → (wanted && not right) ≡ false
lacks_none true right none h = ap not h
lacks_none false right none h = refl
