-- The lines that are owed hold no byte 10.
use Rattle.std.proofs.Common.{◌≡◌, ℕ, true, not, ◌&&◌, List, [], ◌∷◌, ◌==◌, length, nat_lt, refl, ap, ◌∙◌, Result, Ok, Err, IfOk, Vec}
use Rattle.std.specs.declared.alloc.Global.{Global}
use Rattle.ann_key.specs.declared.bytes.NoMemory.{NoMemory}
use Rattle.std.specs.List.{list_all, list_any}
use Rattle.std.proofs.lemmas.List.Folds.{list_any-append}
use Rattle.annex_model.specs.Lines.{has_newline}
use Rattle.annex_model.specs.Messages.{is_space}
use Rattle.registers.specs.Registers.{RegisterFile, IsKept, is_line, is_word, is_key_word, config_of, creds_of, state_of, urls_of}
use Rattle.registers.proofs.Readings.{read_passes, second_passes, urls_pass}
use Rattle.journal_model.specs.Replies.{value_line, creds_line, url_lines}
use Rattle.host_talk.specs.Asks.Lines.{are_lines}
use Rattle.ann_key.proofs.Booleans.{not_either as neither}
use Rattle.std.proofs.lemmas.Bool.{and_parts as both, and_from as both_true}
use Rattle.ann_key.proofs.Lists.{first_fails, none_passes, second_fails}

-- ---- what registers hold
module _ (r : RegisterFile) (kept : IsKept r) where
  pub config_fits : (name : List ℕ) → not (has_newline (config_of r name)) ≡ true
  config_fits name = none_passes (λ b. b == 10) (config_of r name) (read_passes is_word is_line [] refl name r.config kept.config_texts)

  login_fits : (setting : List ℕ) → (is_word (creds_of r setting).0 && is_line (creds_of r setting).1) ≡ true
  login_fits setting = read_passes is_word (λ (v : List ℕ × List ℕ). is_word v.0 && is_line v.1) ([], []) refl setting r.creds kept.creds_texts

  pub user_is_word : (setting : List ℕ) → not (list_any is_space (creds_of r setting).0) ≡ true
  user_is_word setting = second_fails (λ b. b == 10) is_space (creds_of r setting).0 (both (is_word (creds_of r setting).0) (is_line (creds_of r setting).1) (login_fits setting)).0

  pub user_fits : (setting : List ℕ) → not (has_newline (creds_of r setting).0) ≡ true
  user_fits setting = first_fails (λ b. b == 10) is_space (creds_of r setting).0 (both (is_word (creds_of r setting).0) (is_line (creds_of r setting).1) (login_fits setting)).0

  pub password_fits : (setting : List ℕ) → not (has_newline (creds_of r setting).1) ≡ true
  password_fits setting = none_passes (λ b. b == 10) (creds_of r setting).1 (both (is_word (creds_of r setting).0) (is_line (creds_of r setting).1) (login_fits setting)).1

  pub wanted_fits : not (has_newline r.wanted) ≡ true
  wanted_fits = none_passes (λ b. b == 10) r.wanted kept.wanted_text

  pub state_fits : (key : List ℕ) → not (has_newline (state_of r key)) ≡ true
  state_fits key = none_passes (λ b. b == 10) (state_of r key) (read_passes is_key_word is_line [] refl key r.state (second_passes is_key_word (λ value. nat_lt 0 (length value)) is_line r.state kept.state_texts))

  pub urls_fit : (key prefix : List ℕ) → list_all is_line (urls_of r key prefix) ≡ true
  urls_fit key prefix = urls_pass is_key_word is_line key prefix r.urls kept.urls_texts

-- ---- lines of them
pub value_is_line : (lines : List (List ℕ)) (value : List ℕ) → lines ≡ value_line value ∷ [] → not (has_newline value) ≡ true → are_lines lines ≡ true
value_is_line lines value e h = ap are_lines e ∙ both_true (not (has_newline value)) true h refl

pub creds_is_line : (lines : List (List ℕ)) (user password : List ℕ) → lines ≡ creds_line (user, password) ∷ [] → not (has_newline user) ≡ true → not (has_newline password) ≡ true
    → are_lines lines ≡ true
creds_is_line lines user password e h k =
    let line : not (has_newline (creds_line (user, password))) ≡ true =
    ap not (list_any-append (λ b. b == 10) user (32 ∷ password)) ∙ neither (has_newline user) (has_newline password) h k in
    ap are_lines e ∙ both_true (not (has_newline (creds_line (user, password)))) true line refl

url_lines_fit : (urls : List (List ℕ)) → list_all is_line urls ≡ true → are_lines (url_lines urls) ≡ true
url_lines_fit [] h = refl
url_lines_fit (url ∷ urls) h =
    let parts = both (is_line url) (list_all is_line urls) h in
    both_true (not (has_newline url)) _ (none_passes (λ b. b == 10) url parts.0) (url_lines_fit urls parts.1)

pub urls_are_lines : (lines urls : List (List ℕ)) → lines ≡ url_lines urls → list_all is_line urls ≡ true → are_lines lines ≡ true
urls_are_lines lines urls e h = ap are_lines e ∙ url_lines_fit urls h

-- ---- the same of what a call made
on_ok : {A E : Type 0} (r : Result A E) (P Q : A → Type 0) → IfOk r P → ((a : A) → P a → Q a) → IfOk r Q
on_ok (Ok a) P Q p f = f a p
on_ok (Err e) P Q p f = tt

pub value_made : (r : Result (Vec (List ℕ) Global) NoMemory) (value : List ℕ) → IfOk r (λ v. v.items ≡ value_line value ∷ []) → not (has_newline value) ≡ true
    → IfOk r (λ v. are_lines v.items ≡ true)
value_made r value made h = on_ok r (λ v. v.items ≡ value_line value ∷ []) (λ v. are_lines v.items ≡ true) made (λ v e. value_is_line v.items value e h)

pub creds_made : (r : Result (Vec (List ℕ) Global) NoMemory) (user password : List ℕ) → IfOk r (λ v. v.items ≡ creds_line (user, password) ∷ []) → not (has_newline user) ≡ true
    → not (has_newline password) ≡ true → IfOk r (λ v. are_lines v.items ≡ true)
creds_made r user password made h k =
    on_ok r (λ v. v.items ≡ creds_line (user, password) ∷ []) (λ v. are_lines v.items ≡ true) made (λ v e. creds_is_line v.items user password e h k)

pub urls_made : (r : Result (Vec (List ℕ) Global) NoMemory) (urls : List (List ℕ)) → IfOk r (λ v. v.items ≡ url_lines urls) → list_all is_line urls ≡ true
    → IfOk r (λ v. are_lines v.items ≡ true)
urls_made r urls made h = on_ok r (λ v. v.items ≡ url_lines urls) (λ v. are_lines v.items ≡ true) made (λ v e. urls_are_lines v.items urls e h)
