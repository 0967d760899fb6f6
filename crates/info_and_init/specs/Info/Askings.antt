-- What asking a remote about itself leaves in the journal.
use Rattle.std.specs.Prelude.{ℕ, ◌≡◌, ◌⊎◌, ◌≤◌, ◌+◌, ◌==◌, ◌&&◌, not, if◌then◌else◌, Bool, true, false, List, [], ◌++◌, length, map, take, Option, Some, None}
use Rattle.std.specs.List.{list_all}
use Rattle.journal_model.specs.declared.verdict.Why.{Why}
use Rattle.annex_model.specs.Messages.{HostMessage, Listconfigs, Getcost, Getavailability, Getinfo, Exportsupported, Whereis, host_line, is_sent_key}
use Rattle.journal_model.specs.declared.entry.What.{What}
use Rattle.journal_model.specs.declared.entry.What.TheVariants.{Ask, End, Lost}
use Rattle.journal_model.specs.declared.entry.Entry.{Entry}
use Rattle.journal_model.specs.Journal.{any, each_of, offers, is_started, is_mute, why_of, open_jobs}
use Rattle.journal_model.specs.Legality.{count, is_prepared}
use Rattle.host_core.specs.Steps.{next_job}
use Rattle.journal_model.specs.Shares.{are_by, by_link, is_closed}
use Rattle.child_life.specs.Start.Greetings.{loses}
use Rattle.info_and_init.specs.Info.Infos.{are_answered}

-- ---- what is appended

-- the entry is of c's link, or a request to c that is no task's
abbrev pub is_of_asking : ℕ → What → Bool
is_of_asking c (Ask child job task line) = child == c && task == 0
is_of_asking c (Lost child task) = child == c && task == 0
is_of_asking c w = by_link c w

-- the line that the entry asks of c
abbrev pub line_to : ℕ → What → Option (List ℕ)
line_to c (Ask child job task line) = if child == c then Some line else None
line_to c _ = None

-- the lines that c was asked, as they stand on the wire
abbrev pub asked_lines : List Entry → ℕ → List (List ℕ)
asked_lines journal c = each_of (line_to c) journal

-- After old stand such entries alone, the main thread's own. They ask these questions in order, and leave no job of c open. At
-- most one request was lost.
pub record Asks (asked : List HostMessage) (old new : List Entry) (c : ℕ) : Type 0 where
  pub more : List Entry
  pub is : new ≡ old ++ more
  pub own : list_all (λ e. is_of_asking c e.what) more ≡ true
  pub main : are_by 0 more ≡ true
  pub lines : asked_lines new c ≡ asked_lines old c ++ map host_line asked
  pub idle : open_jobs new c ≡ []
  pub lost : count (loses c) more ≤ 1

-- the first of the questions were asked so
abbrev pub AsksFront : List HostMessage → List Entry → List Entry → ℕ → Type 0
AsksFront qs old new c = (n : ℕ) × Asks (take n qs) old new c

-- ---- what it comes to

-- all were asked, and a line of the child settled each
abbrev pub IsAnswered : List HostMessage → List Entry → List Entry → ℕ → Type 0
IsAnswered qs old new c = Asks qs old new c × (are_answered new c qs 2 ≡ true)

-- the child has ended, and not since it was closed, or is mute
abbrev pub HasFailed : List Entry → ℕ → Type 0
HasFailed journal c = ((why : Why) × (why_of journal c ≡ Some why) × (is_closed why ≡ false)) ⊎ (is_mute journal c ≡ true)

-- ---- on the way

-- a question about the remote, which can stand in a message
abbrev pub is_question : HostMessage → Bool
is_question Listconfigs = true
is_question Getcost = true
is_question Getavailability = true
is_question Getinfo = true
is_question Exportsupported = true
is_question (Whereis key) = is_sent_key key
is_question q = false

-- the entry closes no child
abbrev pub is_kept : What → Bool
is_kept (End child why) = not (is_closed why)
is_kept _ = true

-- these questions were asked and answered, none was lost, and c, which has no tags, may be asked the next
pub record MayGoOn (asked : List HostMessage) (old new : List Entry) (c : ℕ) : Type 0 where
  pub asks : Asks asked old new c
  pub unlost : any (loses c) asks.more ≡ false
  pub started : is_started new c ≡ true
  pub prepared : is_prepared new c ≡ true
  pub plain : any (offers c) new ≡ false
  pub kept : list_all (λ e. is_kept e.what) new ≡ true
  pub jobs : next_job new c ≡ length asked + 2
  pub answers : are_answered new c asked 2 ≡ true
