-- What a remote may ask its host for and set, in any request: the values that are asked for, the lines that a message is
-- owed, and what it sets.
-- https://git-annex.branchable.com/design/external_special_remote_protocol/
use Rattle.std.specs.Prelude.{ℕ, ◌≡◌, not, Bool, true, false, List, [], ◌∷◌, ◌++◌, Option, Some, None, map, fold, IsTrue, decimal}
use Rattle.std.specs.List.{list_all}
use Rattle.ann_key.specs.Keys.{Parts, key_reading}
use Rattle.ann_digest.specs.Directories.{lower_of, mixed_of}
use Rattle.annex_model.specs.Lines.{has_newline}
use Rattle.annex_model.specs.Messages.{RemoteMessage, Dirhash, DirhashLower, Getconfig, Setconfig, Getcreds, Setcreds, Getuuid, Getgitdir, Getgitremotename, Getwanted, Setwanted, Getstate, Setstate, Seturlpresent, Seturlmissing, Geturls, remote_row, Value, Creds, host_line, field_text}
use Rattle.registers.specs.Registers.{RegisterFile, config_of, creds_of, state_of, urls_of, with_config, with_creds, with_wanted, with_state, with_url}
use Rattle.journal_model.specs.declared.opening.Identity.{Identity}

-- ---- the directories of a key

-- a dash, the letter and the number, where the field is there
abbrev pub number_field : ℕ → Option ℕ → List ℕ
number_field letter None = []
number_field letter (Some n) = 45 ∷ letter ∷ decimal n

-- the spelling of the key without its chunk fields
abbrev pub base_spelling : Parts → List ℕ
base_spelling key = key.backend ++ (number_field 115 key.size ++ (number_field 109 key.mtime ++ 45 ∷ 45 ∷ key.name))

abbrev pub base_of : List ℕ → Option Parts → List ℕ
base_of text None = text
base_of text (Some key) = base_spelling key

-- the text of the base key, which for the key of a chunk is that of the whole content
unfoldable pub base_text : List ℕ → List ℕ
base_text text = base_of text (key_reading text)

unfoldable pub mixed_at : List ℕ → List ℕ
mixed_at key = mixed_of (base_text key)

unfoldable pub lower_at : List ℕ → List ℕ
lower_at key = lower_of (base_text key)

-- ---- what is asked for

-- config by name, a user and a password by setting, the wanted expression, state by key, and the URLs of a key that begin
-- with a prefix, in rising byte order; then the identity
pub record Values : Type 0 where
  pub config : List ℕ → List ℕ
  pub creds : List ℕ → List ℕ × List ℕ
  pub wanted : List ℕ
  pub state : List ℕ → List ℕ
  pub urls : List ℕ → List ℕ → List (List ℕ)
  pub uuid : List ℕ
  pub gitdir : List ℕ
  pub name : List ℕ

-- what the registers and the identity give
abbrev pub values_of : RegisterFile → Identity → Values
values_of r i = record {
  config = config_of r;
  creds = creds_of r;
  wanted = r.wanted;
  state = state_of r;
  urls = urls_of r;
  uuid = i.uuid;
  gitdir = i.gitdir;
  name = i.name;
}

-- whatever is asked for, both give the same
pub record SameValues (v w : Values) : Type 0 where
  pub config : (name : List ℕ) → v.config name ≡ w.config name
  pub creds : (setting : List ℕ) → v.creds setting ≡ w.creds setting
  pub wanted : v.wanted ≡ w.wanted
  pub state : (key : List ℕ) → v.state key ≡ w.state key
  pub urls : (key prefix : List ℕ) → v.urls key prefix ≡ w.urls key prefix
  pub uuid : v.uuid ≡ w.uuid
  pub gitdir : v.gitdir ≡ w.gitdir
  pub name : v.name ≡ w.name

-- ---- the lines that a message is owed

abbrev pub value_line : List ℕ → List ℕ
value_line value = host_line (Value value)

abbrev pub creds_line : List ℕ × List ℕ → List ℕ
creds_line login = host_line (Creds login.0 login.1)

-- one line for each URL, and one with an empty value after them
abbrev pub url_lines : List (List ℕ) → List (List ℕ)
url_lines urls = map value_line urls ++ value_line [] ∷ []

abbrev pub replies_by : Values → RemoteMessage → List (List ℕ)
replies_by v (Dirhash key) = value_line (mixed_at key) ∷ []
replies_by v (DirhashLower key) = value_line (lower_at key) ∷ []
replies_by v (Getconfig name) = value_line (v.config name) ∷ []
replies_by v (Getcreds setting) = creds_line (v.creds setting) ∷ []
replies_by v Getuuid = value_line v.uuid ∷ []
replies_by v Getgitdir = value_line v.gitdir ∷ []
replies_by v Getgitremotename = value_line v.name ∷ []
replies_by v Getwanted = value_line v.wanted ∷ []
replies_by v (Getstate key) = value_line (v.state key) ∷ []
replies_by v (Geturls key prefix) = url_lines (v.urls key prefix)
replies_by v m = []

-- ---- what a message sets

abbrev pub is_setting : RemoteMessage → Bool
is_setting (Setconfig name value) = true
is_setting (Setcreds setting user password) = true
is_setting (Setwanted expression) = true
is_setting (Setstate key value) = true
is_setting (Seturlpresent key url) = true
is_setting (Seturlmissing key url) = true
is_setting m = false

abbrev pub set_by : RegisterFile → RemoteMessage → RegisterFile
set_by r (Setconfig name value) = with_config r name value
set_by r (Setcreds setting user password) = with_creds r setting user password
set_by r (Setwanted expression) = with_wanted r expression
set_by r (Setstate key value) = with_state r key value
set_by r (Seturlpresent key url) = with_url r key url true
set_by r (Seturlmissing key url) = with_url r key url false
set_by r m = r

-- one message after the other
abbrev pub set_by_all : RegisterFile → List RemoteMessage → RegisterFile
set_by_all r ms = fold set_by r ms

-- ---- which fields may be set, and which are said

-- no field of the message holds byte 10
abbrev pub are_line_fields : RemoteMessage → Bool
are_line_fields m = list_all (λ p. not (has_newline (field_text p))) (remote_row m).1

-- no text of the identity holds byte 10
pub record IsLineIdentity (i : Identity) : Type 0 where
  pub uuid : IsTrue (not (has_newline i.uuid))
  pub name : IsTrue (not (has_newline i.name))
  pub gitdir : IsTrue (not (has_newline i.gitdir))
