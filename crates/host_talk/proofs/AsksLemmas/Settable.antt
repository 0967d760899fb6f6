-- The fields of a setting are of the classes that registers ask for.
use Rattle.std.proofs.Common.{◌≡◌, ℕ, ◌==◌, true, not, ◌&&◌, List, sym, ap, subst, ◌∙◌}
use Rattle.std.specs.List.{list_any}
use Rattle.ann_key.specs.Keys.{is_key}
use Rattle.annex_model.specs.Lines.{has_newline}
use Rattle.annex_model.specs.Messages.{RemoteMessage, Setconfig, Setcreds, Setwanted, Setstate, Seturlpresent, Seturlmissing, IsSayable, is_space}
use Rattle.registers.specs.Registers.{is_line, is_word}
use Rattle.journal_model.specs.Replies.{are_line_fields}
use Rattle.std.proofs.lemmas.Bool.{and_parts as both}
use Rattle.ann_key.proofs.Lists.{each_fails, neither_passes}

-- a key without a space, and a text
abbrev IsKeyed : List ℕ → List ℕ → Type 0
IsKeyed key value = (is_word key ≡ true) × (is_line value ≡ true)

sent : (key : List ℕ) → (is_key key && not (list_any (λ b. b == 32) key)) ≡ true → not (has_newline key) ≡ true → is_word key ≡ true
sent key h k = neither_passes (λ b. b == 10) (λ b. b == 32) key k (both (is_key key) (not (list_any (λ b. b == 32) key)) h).1

two : (a b : List ℕ) → (not (has_newline a) && (not (has_newline b) && true)) ≡ true → (not (has_newline a) ≡ true) × (not (has_newline b) ≡ true)
two a b h =
    let first = both (not (has_newline a)) (not (has_newline b) && true) h in
    (first.0, (both (not (has_newline b)) true first.1).0)

module _ (m : RemoteMessage) (class : IsSayable m) (lines : are_line_fields m ≡ true) where
  class_of : (n : RemoteMessage) → m ≡ n → IsSayable n
  class_of n e = subst IsSayable e class

  lines_of : (n : RemoteMessage) → m ≡ n → are_line_fields n ≡ true
  lines_of n e = sym (ap are_line_fields e) ∙ lines

  pub config_fits : (name value : List ℕ) → m ≡ Setconfig name value → IsKeyed name value
  config_fits name value e =
      let fields = two name value (lines_of (Setconfig name value) e) in
      (neither_passes (λ b. b == 10) is_space name fields.0 (class_of (Setconfig name value) e).0, each_fails (λ b. b == 10) value fields.1)

  pub creds_fit : (setting user password : List ℕ) → m ≡ Setcreds setting user password → (is_word setting ≡ true) × (is_word user ≡ true) × (is_line password ≡ true)
  creds_fit setting user password e =
      let words = class_of (Setcreds setting user password) e in
      let first = both (not (has_newline setting)) (not (has_newline user) && (not (has_newline password) && true)) (lines_of (Setcreds setting user password) e) in
      let fields = two user password first.1 in
      (neither_passes (λ b. b == 10) is_space setting first.0 words.0, neither_passes (λ b. b == 10) is_space user fields.0 words.1.0, each_fails (λ b. b == 10) password fields.1)

  pub wanted_fits : (expression : List ℕ) → m ≡ Setwanted expression → is_line expression ≡ true
  wanted_fits expression e = each_fails (λ b. b == 10) expression (both (not (has_newline expression)) true (lines_of (Setwanted expression) e)).0

  pub state_fits : (key value : List ℕ) → m ≡ Setstate key value → IsKeyed key value
  state_fits key value e =
      let fields = two key value (lines_of (Setstate key value) e) in
      (sent key (class_of (Setstate key value) e).0 fields.0, each_fails (λ b. b == 10) value fields.1)

  pub present_fits : (key url : List ℕ) → m ≡ Seturlpresent key url → IsKeyed key url
  present_fits key url e =
      let fields = two key url (lines_of (Seturlpresent key url) e) in
      (sent key (class_of (Seturlpresent key url) e).0 fields.0, each_fails (λ b. b == 10) url fields.1)

  pub missing_fits : (key url : List ℕ) → m ≡ Seturlmissing key url → IsKeyed key url
  missing_fits key url e =
      let fields = two key url (lines_of (Seturlmissing key url) e) in
      (sent key (class_of (Seturlmissing key url) e).0 fields.0, each_fails (λ b. b == 10) url fields.1)
