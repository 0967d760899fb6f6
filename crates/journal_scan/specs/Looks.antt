-- Words for what is asked of a journal.
use Rattle.std.specs.Prelude.{ℕ, ◌≡◌, ◌<◌, ◌==◌, ◌&&◌, ◌||◌, not, Bool, true, false, if◌then◌else◌, List, [], ◌∷◌, Option, Some, None, option_map, option_and_then, is_some, length, take, slice_get}
use Rattle.annex_model.specs.Talks.{Item, is_remote}
use Rattle.journal_model.specs.declared.entry.What.{What}
use Rattle.journal_model.specs.declared.entry.What.TheVariants.{NoStart, Lead, Ask, Put, Got}
use Rattle.journal_model.specs.declared.entry.Entry.{Entry}
use Rattle.std.specs.List.{prefix_len}
use Rattle.journal_model.specs.Journal.{asks, each_of, writes, addressed, is_settled, is_unsent, settles}

-- a child couldn't be started
abbrev pub is_no_start : What → Bool
is_no_start (NoStart slot) = true
is_no_start _ = false

-- ---- lines

-- the job that a line written to the child asks, if it asks one
abbrev pub written_to : ℕ → What → Option (Option ℕ)
written_to c w = option_map (λ l. l.0) (writes c w)

-- the entry writes a line to the child
abbrev pub is_written : ℕ → What → Bool
is_written c w = is_some (writes c w)

abbrev pub got_line : What → List ℕ
got_line (Got child line) = line
got_line _ = []

-- the entry is the job's request, or a reply in it
abbrev pub is_hosts : ℕ → ℕ → What → Bool
is_hosts c j (Ask child job task line) = child == c && job == j
is_hosts c j (Put child job line) = child == c && job == j
is_hosts c j _ = false

abbrev pub hosts_line : What → List ℕ
hosts_line (Lead child job line) = line
hosts_line (Ask child job task line) = line
hosts_line (Put child job line) = line
hosts_line _ = []

-- ---- a job's part

-- how many entries stand before its request
abbrev pub asked_at : List Entry → ℕ → ℕ → ℕ
asked_at entries c j = prefix_len (λ e. not (is_hosts c j e.what)) entries

-- how many entries stand before its verdict
abbrev pub settled_at : List Entry → ℕ → ℕ → ℕ
settled_at entries c j = prefix_len (λ e. not (settles c j e.what)) entries

-- the text of the entry's line, without its tag, after these
abbrev pub text_after : List Entry → ℕ → Option Entry → Option (List ℕ)
text_after before c None = None
text_after before c (Some e) = Some (addressed before c (hosts_line e.what)).1

-- the text of the job's request
abbrev pub request_text : List Entry → ℕ → ℕ → Option (List ℕ)
request_text entries c j = text_after (take (asked_at entries c j) entries) c (slice_get entries (asked_at entries c j))

-- the text of the item, where the remote says it
abbrev pub remote_text : Option Item → Option (List ℕ)
remote_text None = None
remote_text (Some i) = if is_remote i.side then Some i.text else None

-- ---- the jobs that an end or a mute settles, entry by entry

-- the job is not settled, and where unsent is asked for, its request was not written whole
abbrev pub is_due : List Entry → ℕ → Bool → ℕ → Bool
is_due past c unsent j = not (is_settled past c j) && (not unsent || is_unsent past c j)

abbrev pub due_asked : List Entry → ℕ → Bool → Option ℕ → Option ℕ
due_asked past c unsent None = None
due_asked past c unsent (Some j) = if is_due past c unsent j then Some j else None

abbrev pub due_job : List Entry → ℕ → Bool → What → Option ℕ
due_job past c unsent w = due_asked past c unsent (asks c w)

abbrev pub due_jobs : List Entry → ℕ → Bool → List ℕ
due_jobs past c unsent = each_of (due_job past c unsent) past

-- that of the entry at a place, where the first n entries are the past
abbrev pub job_at : List Entry → ℕ → ℕ → ℕ → Bool → Option ℕ
job_at entries n at c unsent = option_and_then (λ e. due_job (take n entries) c unsent e.what) (slice_get entries at)

-- no entry before the place asks a job that an end or a mute settles
abbrev pub NoneDue : List Entry → ℕ → Type 0
NoneDue past place = (at c : ℕ) (unsent : Bool) → at < place → job_at past (length past) at c unsent ≡ None
