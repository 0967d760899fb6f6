-- The registers, what reads them, and how a setting changes them.
use Rattle.std.specs.Prelude.{◌≡◌, ◌≢◌, ℕ, Bool, not, ◌==◌, ◌&&◌, ◌||◌, if◌then◌else◌, List, [], length, bytes_eq, nat_lt, Option, Some, None, IsTrue}
use Rattle.std.specs.List.{list_all}
use Rattle.ann_key.specs.Keys.{is_key}
use Rattle.registers.specs.Tables.{Texts, Rises, value_at, text_at, put, without}
use Rattle.registers.specs.Links.{LinksRise, has_link, with_link, without_link, urls_at}
use Rattle.registers.specs.Logins.{Pairs, pair_at}

-- finite maps and a set, as the lists of their entries in rising order:
-- config values by name, a user and a password by setting, states by key, and keys with their URLs
pub record RegisterFile : Type 0 where
  pub config : Texts
  pub creds : Pairs
  pub wanted : List ℕ
  pub state : Texts
  pub urls : Texts

abbrev pub nothing_set : RegisterFile
nothing_set = record { config = []; creds = []; wanted = []; state = []; urls = [] }

-- ---- reading

abbrev pub config_of : RegisterFile → List ℕ → List ℕ
config_of r name = text_at r.config name

abbrev pub creds_of : RegisterFile → List ℕ → List ℕ × List ℕ
creds_of r setting = pair_at r.creds setting

abbrev pub state_of : RegisterFile → List ℕ → List ℕ
state_of r key = text_at r.state key

-- the URLs of the key that begin with the prefix, in rising order
abbrev pub urls_of : RegisterFile → List ℕ → List ℕ → List (List ℕ)
urls_of r key prefix = urls_at r.urls key prefix

abbrev pub has_url : RegisterFile → List ℕ → List ℕ → Bool
has_url r key url = has_link r.urls key url

-- ---- setting

abbrev pub with_config : RegisterFile → List ℕ → List ℕ → RegisterFile
with_config r name value = record r { config = put r.config name value }

abbrev pub with_creds : RegisterFile → List ℕ → List ℕ → List ℕ → RegisterFile
with_creds r setting user password = record r { creds = put r.creds setting (user, password) }

abbrev pub with_wanted : RegisterFile → List ℕ → RegisterFile
with_wanted r expression = record r { wanted = expression }

-- an empty state is no state
abbrev pub with_state : RegisterFile → List ℕ → List ℕ → RegisterFile
with_state r key value = record r { state = if length value == 0 then without r.state key else put r.state key value }

abbrev pub with_url : RegisterFile → List ℕ → List ℕ → Bool → RegisterFile
with_url r key url present = record r { urls = if present then with_link r.urls key url else without_link r.urls key url }

-- what is read at a name, where this one was set to the value and something else was read there before
abbrev pub set_at : {X : Type 0} → List ℕ → X → List ℕ → X → X
set_at name value other before = if bytes_eq other name then value else before

-- ---- what a setting leaves alone

-- the value stands under the name, and under each other name what stood there
pub record SetsOnly {X : Type 0} (old new : List (List ℕ × X)) (name : List ℕ) (value : Option X) : Type 0 where
  pub this_name : value_at new name ≡ value
  pub other_names : (other : List ℕ) → other ≢ name → value_at new other ≡ value_at old other

pub record SetsConfig (old new : RegisterFile) (name value : List ℕ) : Type 0 where
  pub this_map : SetsOnly old.config new.config name (Some value)
  pub other_registers : new ≡ record old { config = new.config }

pub record SetsCreds (old new : RegisterFile) (setting user password : List ℕ) : Type 0 where
  pub this_map : SetsOnly old.creds new.creds setting (Some (user, password))
  pub other_registers : new ≡ record old { creds = new.creds }

pub record SetsWanted (old new : RegisterFile) (expression : List ℕ) : Type 0 where
  pub this_register : new.wanted ≡ expression
  pub other_registers : new ≡ record old { wanted = new.wanted }

pub record SetsState (old new : RegisterFile) (key value : List ℕ) : Type 0 where
  pub this_map : SetsOnly old.state new.state key (if length value == 0 then None else Some value)
  pub other_registers : new ≡ record old { state = new.state }

-- the key has the URL exactly where it is present, and each other pair as before
pub record SetsUrl (old new : RegisterFile) (key url : List ℕ) (present : Bool) : Type 0 where
  pub this_url : has_url new key url ≡ present
  pub other_urls : (k u : List ℕ) → (k ≡ key → u ≢ url) → has_url new k u ≡ has_url old k u
  pub other_registers : new ≡ record old { urls = new.urls }

-- ---- what every register file keeps

-- no byte 10
abbrev pub is_line : List ℕ → Bool
is_line bytes = list_all (λ b. not (b == 10)) bytes

-- no byte 10 and no space
abbrev pub is_word : List ℕ → Bool
is_word bytes = list_all (λ b. not (b == 10 || b == 32)) bytes

-- a key without a space
unfoldable pub is_key_word : List ℕ → Bool
is_key_word bytes = is_word bytes && is_key bytes

-- a setting, a user and a password that may stand
abbrev pub are_creds : List ℕ → List ℕ → List ℕ → Bool
are_creds setting user password = is_word setting && (is_word user && is_line password)

abbrev pub are_texts : (List ℕ → Bool) → (List ℕ → Bool) → Texts → Bool
are_texts is_name is_value entries = list_all (λ e. is_name e.0 && is_value e.1) entries

-- the order of each list, and which texts stand where
pub record IsKept (r : RegisterFile) : Type 0 where
  pub config_rises : Rises r.config
  pub creds_rise : Rises r.creds
  pub state_rises : Rises r.state
  pub urls_rise : LinksRise r.urls
  pub config_texts : IsTrue (are_texts is_word is_line r.config)
  pub creds_texts : IsTrue (list_all (λ e. are_creds e.0 e.1.0 e.1.1) r.creds)
  pub wanted_text : IsTrue (is_line r.wanted)
  pub state_texts : IsTrue (are_texts is_key_word (λ value. nat_lt 0 (length value) && is_line value) r.state)
  pub urls_texts : IsTrue (are_texts is_key_word is_line r.urls)
