-- Words for the core's code: an entry's due entries in short, and what is said in an open job.
use Rattle.std.specs.Prelude.{ℕ, ◌≡◌, ◌+◌, ◌*◌, not, Bool, true, false, if◌then◌else◌, List, [], ◌∷◌, ◌++◌, length, Option, Some, None, map, filter, filter_map}
use Rattle.std.specs.List.{cons_option, range_with_len, sum_by}
use Rattle.journal_model.specs.declared.verdict.Why.TheVariants.{Error as ErrorAt, Version as VersionFault}
use Rattle.journal_model.specs.declared.verdict.Verdict.{Verdict}
use Rattle.journal_model.specs.declared.verdict.Verdict.TheVariants.{Unsent}
use Rattle.annex_model.specs.Messages.{RemoteMessage, remote_reading}
use Rattle.annex_model.specs.Hearings.{Hearing}
use Rattle.annex_model.specs.Talks.{Shape, OneLine, Configs, Infos, spells_aside, said}
use Rattle.journal_model.specs.declared.entry.What.{What}
use Rattle.journal_model.specs.declared.entry.What.TheVariants.{Ask, Put, Verdict as Settled}
use Rattle.journal_model.specs.declared.entry.Entry.{Entry}
use Rattle.journal_model.specs.declared.opening.Opening.{Opening}
use Rattle.journal_model.specs.Journal.{open_jobs, is_unsent, has_spoken, line_bytes}
use Rattle.journal_model.specs.Parts.{item_at}
use Rattle.journal_model.specs.Room.{room_for}
use Rattle.journal_model.specs.Due.{ending, ended_jobs, made_by, is_version_one, is_error, after_line, after_hearing, replies, replying}
use Rattle.journal_scan.specs.Looks.{due_jobs}
use Rattle.host_talk.specs.Request.Hearings.{heard_as}
use Rattle.host_talk.specs.declared.request.talk.Heard.{Heard}
use Rattle.host_core.specs.declared.due.Due.{Due}
use Rattle.host_core.specs.declared.due.Due.TheVariants.{Nothing, Settle, Request, Replies, EndOf, EndedJobs, UnsentJobs}
use Rattle.host_core.specs.declared.moves.Move.{Move}
use Rattle.host_core.specs.Steps.{Step}

-- the verdicts of the open jobs whose requests were not written whole
abbrev pub unsent_verdicts : List Entry → ℕ → List What
unsent_verdicts past child = map (λ j. Settled child j Unsent) (filter (is_unsent past child) (open_jobs past child))

abbrev pub dues : List Entry → Due → List What
dues past Nothing = []
dues past (Settle child job verdict) = Settled child job verdict ∷ []
dues past (Request child job task line) = Ask child job task line ∷ []
dues past (Replies child job lines) = map (λ line. Put child job line) lines.items
dues past (EndOf child why) = ending past child why
dues past (EndedJobs child why) = ended_jobs past child why
dues past (UnsentJobs child) = unsent_verdicts past child

-- the message, which was heard so in the open job, makes this due
abbrev pub IsDueHeard : Opening → List Entry → ℕ → ℕ → RemoteMessage → Heard → Due → Type 0
IsDueHeard o past child job message heard due = (h : Hearing) → heard ≡ heard_as h → dues past due ≡ after_hearing o past child job message h

-- the replies are due that the message is owed in the open job
abbrev pub AreRepliesDue : Opening → List Entry → ℕ → ℕ → RemoteMessage → Due → Type 0
AreRepliesDue o past child job message due = dues past due ≡ replying past child job (replies o past message)

-- the first entry with what is due after it
abbrev pub group_made : List Entry → ℕ → Option What → Due → List Entry
group_made past by None due = []
group_made past by (Some w) due = made_by by (w ∷ dues past due)

-- the move answers and appends what the step does
pub record IsStep (past : List Entry) (by : ℕ) (step : Step) (move : Move) : Type 0 where
  pub reply_is : move.reply ≡ step.reply
  pub group_is : group_made past by move.what move.due ≡ step.group

-- what a child's first line makes due
abbrev pub first_due : List Entry → ℕ → List ℕ → List What
first_due past c line = if is_version_one (remote_reading line) then [] else ending past c (VersionFault (length past))

-- what a child's ERROR makes due
abbrev pub error_due : List Entry → ℕ → List What
error_due past c = ending past c (ErrorAt (length past))

-- what the line makes due, which is for that job and has that text
abbrev pub due_from : Opening → List Entry → ℕ → List ℕ → Option ℕ × List ℕ → List What
due_from o past c line to =
    if is_error (remote_reading to.1) then error_due past c
    else if not (has_spoken past c) then first_due past c line
    else after_line o past c to.0 (remote_reading to.1)

-- ---- the talk about an open job

-- answers of the shape have several lines
abbrev pub takes_lines : Shape → Bool
takes_lines OneLine = false
takes_lines Configs = true
takes_lines Infos = true

-- what is said by it, which is nothing where it is an aside
abbrev pub said_by : Option RemoteMessage → List (Option RemoteMessage)
said_by m = if spells_aside m then [] else m ∷ []

-- what is said in the job at a place
abbrev pub said_there : List Entry → ℕ → ℕ → ℕ → List (Option RemoteMessage)
said_there journal c j at = said (cons_option (item_at journal c j at) [])

-- and at the first n places
abbrev pub said_before : List Entry → ℕ → ℕ → ℕ → List (Option RemoteMessage)
said_before journal c j n = said (filter_map (item_at journal c j) (range_with_len 0 n))

-- the message is the last that was said
abbrev pub EndsIn : Option RemoteMessage → List (Option RemoteMessage) → Type 0
EndsIn m all = (ms : List (Option RemoteMessage)) × (all ≡ ms ++ m ∷ [])

-- ---- the jobs that an end or a mute settles

abbrev pub verdicts_of : List Entry → ℕ → Verdict → Bool → List What
verdicts_of past c verdict unsent = map (λ j. Settled c j verdict) (due_jobs past c unsent)

-- ---- room

-- what a group adds to the room
abbrev pub first_room : Option What → ℕ
first_room None = 0
first_room (Some w) = room_for w

-- two for each reply, and three for a request
abbrev pub due_room : Due → ℕ
due_room (Replies child job lines) = 2 * length lines.items
due_room (Request child job task line) = 3
due_room due = 0

-- what the whole group adds to it
abbrev pub group_room : Option What → Due → ℕ
group_room None due = 0
group_room (Some w) due = room_for w + due_room due

-- ---- bytes

-- those of the lines that are due
abbrev pub due_bytes : Due → ℕ
due_bytes (Replies child job lines) = sum_by (λ line. length line) lines.items
due_bytes (Request child job task line) = length line
due_bytes due = 0

-- those of all lines of the group
abbrev pub group_bytes : Option What → Due → ℕ
group_bytes None due = 0
group_bytes (Some w) due = line_bytes w + due_bytes due
