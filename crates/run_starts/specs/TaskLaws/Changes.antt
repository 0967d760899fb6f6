-- Which request changed a key last, as a journal has it.
use Rattle.std.specs.Prelude.{ℕ, ◌≡◌, ◌&&◌, Bool, true, false, if◌then◌else◌, List, [], ◌∷◌, ◌++◌, length, take, find, reverse, Contains, Option, Some, None, option_map, option_and_then, bytes_eq}
use Rattle.std.specs.List.{cons_option}
use Rattle.annex_model.specs.Messages.{HostMessage, Transfer, Remove, host_reading}
use Rattle.journal_model.specs.declared.verdict.Verdict.TheVariants.{Done}
use Rattle.journal_model.specs.declared.entry.What.{What}
use Rattle.journal_model.specs.declared.entry.What.TheVariants.{Ask}
use Rattle.journal_model.specs.declared.entry.Entry.{Entry}
use Rattle.journal_model.specs.Journal.{verdict_of, addressed}
use Rattle.journal_model.specs.Legality.{is_done, turn_of_task}
use Rattle.task_model.specs.declared.turn.TaskTurn.{TaskTurn}

-- ---- requests

-- a request, by its place, its child and job there, and the turn of the task that asked it
pub record Request : Type 0 where
  pub at : ℕ
  pub child : ℕ
  pub job : ℕ
  pub turn : TaskTurn
  pub asks : HostMessage

-- the request of an entry after past
abbrev pub request_in : List Entry → What → Option Request
request_in past (Ask child job task line) = option_map (λ q. record { at = length past; child = child; job = job; turn = record { task = task; turn = turn_of_task past task }; asks = q }) (host_reading (addressed past child line).1)
request_in past w = None

abbrev pub requests_from : List Entry → List Entry → List Request
requests_from past [] = []
requests_from past (e ∷ rest) = cons_option (request_in past e.what) (requests_from (past ++ e ∷ []) rest)

-- all requests of the journal, in their order
abbrev pub requests : List Entry → List Request
requests journal = requests_from [] journal

-- ---- changes of a key

-- the request stores the key, or removes it
abbrev pub changes_key : List ℕ → HostMessage → Bool
changes_key key (Transfer true k file) = bytes_eq k key
changes_key key (Remove k) = bytes_eq k key
changes_key key q = false

abbrev pub is_storing : HostMessage → Bool
is_storing (Transfer true key file) = true
is_storing q = false

-- the last request before this place that changes the key
abbrev pub last_change : List Entry → List ℕ → ℕ → Option Request
last_change journal key place = find (λ (r : Request). changes_key key r.asks) (reverse (requests (take place journal)))

-- the request was done before this place
abbrev pub is_done_by : List Entry → ℕ → Request → Bool
is_done_by journal place r = is_done (verdict_of (take place journal) r.child r.job)

-- What stored the key for one that asks at a place and is answered at another: nothing that was asked till then changes the key after
-- it, and it was done before the first.
abbrev pub stored_by : List Entry → List ℕ → ℕ → ℕ → Option Request
stored_by journal key asked answered = option_and_then (λ (r : Request). if is_storing r.asks && is_done_by journal asked r then Some r else None) (last_change journal key answered)

-- ---- retrieving

-- The request retrieved the key into the file, and was done. What stored the key before is s.
pub record Retrieves (journal : List Entry) (r s : Request) (key file : List ℕ) : Type 0 where
  pub there : Contains (requests journal) r
  pub asks : r.asks ≡ Transfer false key file
  pub answered : ℕ
  pub done : verdict_of journal r.child r.job ≡ Some (Done answered)
  pub stored : stored_by journal key r.at answered ≡ Some s
