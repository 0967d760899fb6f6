-- What the answers of the kits say of the keys and of the files.
use Rattle.std.specs.Prelude.{ℕ, ◌≡◌, ◌↔◌, ◌||◌, Bool, true, false, if◌then◌else◌, List, [], ◌∷◌, ◌++◌, Option, Some, None, bytes_eq, fold}
use Rattle.std.specs.List.{list_any}
use Rattle.annex_model.specs.declared.final_line.Final.{Final}
use Rattle.annex_model.specs.declared.final_line.Final.TheVariants.{Done}
use Rattle.annex_model.specs.Messages.{HostMessage, Transfer, Remove, RemoteMessage, host_reading, remote_reading}
use Rattle.annex_model.specs.Talks.{final_of}
use Rattle.pair_kit.specs.declared.answer.Answer.{Answer}
use Rattle.pair_kit.specs.Shelves.{Items, content, with_item}
use Rattle.pair_kit.specs.Worlds.{WorldValue}

abbrev pub is_success : Option Final → Bool
is_success (Some Done) = true
is_success final = false

-- the request, where the one message that is said to it says success
abbrev pub granted : Option HostMessage → Option RemoteMessage → Option HostMessage
granted None said = None
granted (Some q) said = if is_success (final_of q (said ∷ [])) then Some q else None

-- the request that was answered with success, by the two lines
abbrev pub granted_by : Answer → Option HostMessage
granted_by a = granted (host_reading a.request) (remote_reading a.line)

abbrev pub is_store_of : List ℕ → Option HostMessage → Bool
is_store_of key (Some (Transfer true k file)) = bytes_eq k key
is_store_of key q = false

abbrev pub is_retrieve_of : List ℕ → Option HostMessage → Bool
is_retrieve_of key (Some (Transfer false k file)) = bytes_eq k key
is_retrieve_of key q = false

abbrev pub is_remove_of : List ℕ → Option HostMessage → Bool
is_remove_of key (Some (Remove k)) = bytes_eq k key
is_remove_of key q = false

-- a STORE, a RETRIEVE or a REMOVE of the key that was answered with success
abbrev pub stores : List ℕ → Answer → Bool
stores key a = is_store_of key (granted_by a)

abbrev pub retrieves : List ℕ → Answer → Bool
retrieves key a = is_retrieve_of key (granted_by a)

abbrev pub removes : List ℕ → Answer → Bool
removes key a = is_remove_of key (granted_by a)

abbrev pub changes : List ℕ → Answer → Bool
changes key a = stores key a || removes key a

-- The bytes are those of the last STORE of the key that was answered with success, and no REMOVE of it was after that.
pub record IsLastStored (answers : List Answer) (key bytes : List ℕ) : Type 0 where
  pub before : List Answer
  pub store : Answer
  pub later : List Answer
  pub splits : answers ≡ before ++ store ∷ later
  pub is_store : stores key store ≡ true
  pub bytes_are : store.bytes ≡ bytes
  pub is_last : list_any (changes key) later ≡ false

-- The bytes of each RETRIEVE that was answered with success are those of the last STORE before it.
abbrev pub GiveLastStored : List Answer → Type 0
GiveLastStored answers =
    (before later : List Answer) (a : Answer) (key : List ℕ) → answers ≡ before ++ a ∷ later → retrieves key a ≡ true → IsLastStored before key a.bytes

-- So it is in the world, and a key has bytes exactly where a STORE of it was the last, and that put these.
pub record Keeps (w : WorldValue) : Type 0 where
  pub gives : GiveLastStored w.answers
  pub holds : (key bytes : List ℕ) → (content key w.keys ≡ Some bytes) ↔ IsLastStored w.answers key bytes

-- ---- files

abbrev pub file_after : Option HostMessage → List ℕ → Items → Items
file_after (Some (Transfer false key file)) bytes files = with_item file bytes files
file_after q bytes files = files

-- a RETRIEVE that was answered with success leaves its bytes in the file that it names
abbrev pub filed : Items → Answer → Items
filed files a = file_after (granted_by a) a.bytes files

-- The step added these answers, and what they leave in the files is all that it changed there.
pub record ChangesFiles (old new : WorldValue) : Type 0 where
  pub added : List Answer
  pub answers : new.answers ≡ old.answers ++ added
  pub files : new.files ≡ fold filed old.files added
