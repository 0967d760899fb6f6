-- What a register holds at a place of the journal: what the last setting of it before that place gave, whichever child made
-- it, and where there is none what the run began with.
use Rattle.std.specs.Prelude.{ℕ, ◌≡◌, ◌&&◌, not, IsTrue, Bool, true, false, if◌then◌else◌, List, [], ◌∷◌, ◌++◌, length, Option, Some, None, filter, filter_map, bytes_eq, nat_eq, unwrap_or}
use Rattle.std.specs.List.{cons_option, last_or, list_all, starts_with}
use Rattle.std.specs.BTreeSet.{insert_key}
use Rattle.annex_model.specs.Messages.{RemoteMessage, Setconfig, Setcreds, Setwanted, Setstate, Seturlpresent, Seturlmissing, remote_reading}
use Rattle.registers.specs.Tables.{by_bytes}
use Rattle.registers.specs.Registers.{RegisterFile, config_of, creds_of, state_of, urls_of, has_url}
use Rattle.journal_model.specs.declared.entry.What.{What}
use Rattle.journal_model.specs.declared.entry.What.TheVariants.{Got}
use Rattle.journal_model.specs.declared.entry.Entry.{Entry}
use Rattle.journal_model.specs.declared.opening.Identity.{Identity}
use Rattle.journal_model.specs.Journal.{is_open, addressed}
use Rattle.journal_model.specs.Parts.{ends_at}
use Rattle.journal_model.specs.Replies.{Values, is_setting}

-- ---- the settings of a journal

abbrev pub is_open_job : List Entry → ℕ → Option ℕ → Bool
is_open_job past c None = false
is_open_job past c (Some j) = is_open past c j

abbrev pub if_setting : Option RemoteMessage → Option RemoteMessage
if_setting None = None
if_setting (Some m) = if is_setting m then Some m else None

-- the setting that the entry makes, where it stands between past and rest: a line that is for a job while it is open, but
-- for the line that ends its child, and that spells a setting
abbrev pub setting_of : List Entry → What → List Entry → Option RemoteMessage
setting_of past (Got child line) rest =
    if is_open_job past child (addressed past child line).0 && not (ends_at child (length past) rest)
    then if_setting (remote_reading (addressed past child line).1) else None
setting_of past _ rest = None

-- those of all entries in order, by recursion with what stands before
abbrev pub settings_from : List Entry → List Entry → List RemoteMessage
settings_from past [] = []
settings_from past (e ∷ rest) = cons_option (setting_of past e.what rest) (settings_from (past ++ e ∷ []) rest)

abbrev pub settings : List Entry → List RemoteMessage
settings journal = settings_from [] journal

-- ---- what one setting gives a register

abbrev pub gives_config : List ℕ → RemoteMessage → Option (List ℕ)
gives_config name (Setconfig n value) = if bytes_eq name n then Some value else None
gives_config name m = None

abbrev pub gives_creds : List ℕ → RemoteMessage → Option (List ℕ × List ℕ)
gives_creds setting (Setcreds s user password) = if bytes_eq setting s then Some (user, password) else None
gives_creds setting m = None

abbrev pub gives_wanted : RemoteMessage → Option (List ℕ)
gives_wanted (Setwanted expression) = Some expression
gives_wanted m = None

abbrev pub gives_state : List ℕ → RemoteMessage → Option (List ℕ)
gives_state key (Setstate k value) = if bytes_eq key k then Some value else None
gives_state key m = None

-- whether the key has the URL
abbrev pub gives_url : List ℕ → List ℕ → RemoteMessage → Option Bool
gives_url key url (Seturlpresent k u) = if bytes_eq key k && bytes_eq url u then Some true else None
gives_url key url (Seturlmissing k u) = if bytes_eq key k && bytes_eq url u then Some false else None
gives_url key url m = None

-- the URL that the setting names for the key
abbrev pub names_url : List ℕ → RemoteMessage → Option (List ℕ)
names_url key (Seturlpresent k u) = if bytes_eq key k then Some u else None
names_url key (Seturlmissing k u) = if bytes_eq key k then Some u else None
names_url key m = None

-- ---- what the registers hold after the entries so far, where the run began with r

-- what the last of the settings that give something gave, and else what was there at first
abbrev pub last_given : {X : Type 0} → X → (RemoteMessage → Option X) → List RemoteMessage → X
last_given first given ms = unwrap_or (last_or None (filter_map given ms)) first

abbrev pub config_at : RegisterFile → List Entry → List ℕ → List ℕ
config_at r past name = last_given (config_of r name) (gives_config name) (settings past)

abbrev pub creds_at : RegisterFile → List Entry → List ℕ → List ℕ × List ℕ
creds_at r past setting = last_given (creds_of r setting) (gives_creds setting) (settings past)

abbrev pub wanted_at : RegisterFile → List Entry → List ℕ
wanted_at r past = last_given r.wanted gives_wanted (settings past)

abbrev pub state_at : RegisterFile → List Entry → List ℕ → List ℕ
state_at r past key = last_given (state_of r key) (gives_state key) (settings past)

abbrev pub is_present : RegisterFile → List Entry → List ℕ → List ℕ → Bool
is_present r past key url = last_given (has_url r key url) (gives_url key url) (settings past)

-- every URL that the key had at first, or that a setting named for it
abbrev pub named_urls : RegisterFile → List Entry → List ℕ → List (List ℕ)
named_urls r past key = urls_of r key [] ++ filter_map (names_url key) (settings past)

-- in rising byte order, each once
abbrev pub in_rising_order : List (List ℕ) → List (List ℕ)
in_rising_order [] = []
in_rising_order (x ∷ xs) = insert_key by_bytes (in_rising_order xs) x

-- those that are present and begin with the prefix
abbrev pub urls_at : RegisterFile → List Entry → List ℕ → List ℕ → List (List ℕ)
urls_at r past key prefix =
    in_rising_order (filter (λ url. is_present r past key url && starts_with nat_eq url prefix) (named_urls r past key))

-- what one may ask for after the entries so far
abbrev pub values_at : RegisterFile → Identity → List Entry → Values
values_at r i past = record {
  config = config_at r past;
  creds = creds_at r past;
  wanted = wanted_at r past;
  state = state_at r past;
  urls = urls_at r past;
  uuid = i.uuid;
  gitdir = i.gitdir;
  name = i.name;
}

-- ---- how the settings grow

-- no entry stands first that ends a child at an earlier line
abbrev pub NamesNoLine : List Entry → Type 0
NamesNoLine rest = (child place : ℕ) → ends_at child place rest ≡ false

abbrev pub is_got : What → Bool
is_got (Got child line) = true
is_got w = false

-- none of the entries is a line of a child
abbrev pub HasNoLine : List Entry → Type 0
HasNoLine rest = IsTrue (list_all (λ e. not (is_got e.what)) rest)
