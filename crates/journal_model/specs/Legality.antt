-- Which journals are legal.
use Rattle.std.specs.Prelude.{ℕ, ◌≡◌, ◌⊎◌, ◌+◌, ◌-◌, ◌^◌, ◌==◌, ◌&&◌, ◌||◌, not, nat_lt, Bool, true, false, if◌then◌else◌, List, [], ◌∷◌, ◌++◌, length, Option, Some, None, is_some, filter, find, fold, IsTrue, take, slice_get, bytes_eq, codes}
use Rattle.std.specs.List.{list_any, range_with_len}
use Rattle.std.specs.Str.{is_utf8}
use Rattle.task_text.specs.declared.task.Task.{Task}
use Rattle.task_text.specs.declared.task.Work.{Work}
use Rattle.task_text.specs.declared.task.Work.TheVariants.{Store, Drop}
use Rattle.annex_model.specs.Extensions.{names_of}
use Rattle.journal_model.specs.declared.answer.Answer.{Answer}
use Rattle.journal_model.specs.declared.answer.Answer.TheVariants.{Ended as EndedAnswer, Unsent as UnsentAnswer}
use Rattle.journal_model.specs.declared.verdict.Why.{Why}
use Rattle.journal_model.specs.declared.verdict.Why.TheVariants.{Eof, ReadFault, LongLine, Full, Memory, Closed}
use Rattle.journal_model.specs.declared.verdict.Verdict.{Verdict}
use Rattle.journal_model.specs.declared.verdict.Verdict.TheVariants.{Done as DoneAt}
use Rattle.annex_model.specs.Lines.{has_newline}
use Rattle.annex_model.specs.Messages.{HostMessage, AskExtensions, Prepare, Transfer, Export, Transferexport, Renameexport, remote_reading, host_reading, host_line}
use Rattle.annex_model.specs.Tags.{untag, without_tag}
use Rattle.annex_model.specs.Talks.{has_lead}
use Rattle.annex_model.specs.declared.turn.Turn.TheVariants.{Later}
use Rattle.annex_model.specs.Turns.{turn_of, is_at}
use Rattle.journal_model.specs.declared.holder.Holder.{Holder}
use Rattle.journal_model.specs.declared.entry.What.{What}
use Rattle.journal_model.specs.declared.entry.What.TheVariants.{Claim, Start, NoStart, Lead, Ask, Put, Sent, Mute, Got, End, Verdict as Settled, Lost, Answer as Answered, Note as Noted, Again}
use Rattle.journal_model.specs.declared.entry.Entry.{Entry}
use Rattle.journal_model.specs.declared.opening.Opening.{Opening}
use Rattle.journal_model.specs.Journal.{any, each_of, first_of, offers, got_lines, open_jobs, is_open, is_started, is_ended, is_mute, is_live, is_settled, asked_jobs, verdict_of, unsent, is_full, is_tagged, on_wire, addressed}
use Rattle.journal_model.specs.Due.{due_after, is_version_one}

abbrev pub is_empty : {X : Type 0} → List X → Bool
is_empty [] = true
is_empty (x ∷ xs) = false

abbrev pub count : (What → Bool) → List Entry → ℕ
count p past = length (filter (λ e. p e.what) past)

-- ---- tasks

abbrev pub claims : ℕ → What → Bool
claims t (Claim task child) = task == t
claims t _ = false

abbrev pub answers : ℕ → What → Bool
answers t (Answered task answer) = task == t
answers t _ = false

-- the entry says that the task is to be run again
abbrev pub renews : ℕ → What → Bool
renews t (Again task answer) = task == t
renews t _ = false

-- the entry ends a run of the task: with its answer, or so that it is run again
abbrev pub closes : ℕ → What → Bool
closes t (Answered task answer) = task == t
closes t (Again task answer) = task == t
closes t _ = false

-- what the entry makes of whether the task is claimed
abbrev pub claimed_after : ℕ → Bool → What → Bool
claimed_after t before (Claim task child) = before || task == t
claimed_after t before (Again task answer) = before && not (task == t)
claimed_after t before w = before

abbrev pub claimed_on : ℕ → Bool → Entry → Bool
claimed_on t before e = claimed_after t before e.what

-- the task is claimed from a claim on, until it is to be run again
abbrev pub is_claimed : List Entry → ℕ → Bool
is_claimed past t = fold (claimed_on t) false past

-- how often the task was begun, with the run that comes next or is open: 1 plus the number of its Agains
abbrev pub turn_of_task : List Entry → ℕ → ℕ
turn_of_task past t = 1 + count (renews t) past

-- what the entry makes of the task's holder: a claim gives it one, and an answer or an Again takes it
abbrev pub turned_by : ℕ → Option Holder → ℕ → What → Option Holder
turned_by t held by (Claim task child) = if task == t then Some (record { by = by; child = child }) else held
turned_by t held by (Answered task answer) = if task == t then None else held
turned_by t held by (Again task answer) = if task == t then None else held
turned_by t held by _ = held

abbrev pub turned : ℕ → Option Holder → Entry → Option Holder
turned t held e = turned_by t held e.by e.what

-- who holds the task: the number and the child of its last claim, where no answer and no Again stands after it
abbrev pub holder : List Entry → ℕ → Option Holder
holder past t = fold (turned t) None past

-- a task is busy while it is held
abbrev pub is_busy : List Entry → ℕ → Bool
is_busy past t = is_some (holder past t)

abbrev pub is_answered : List Entry → ℕ → Bool
is_answered past t = any (answers t) past

abbrev pub is_held_by : ℕ → Option Holder → Bool
is_held_by by None = false
is_held_by by (Some h) = h.by == by

abbrev pub is_held_for : ℕ → Option Holder → Bool
is_held_for c None = false
is_held_for c (Some h) = h.child == c

-- two texts of files clash where they are equal, or one is the other followed by .part; an empty one clashes with none
abbrev pub clashes : List ℕ → List ℕ → Bool
clashes [] b = false
clashes a [] = false
clashes a b = bytes_eq a b || bytes_eq a (b ++ codes ".part") || bytes_eq b (a ++ codes ".part")

-- the names of exported files that a task has
abbrev pub task_names : Task → List (List ℕ)
task_names t = filter (λ name. not (is_empty name)) (t.name ∷ t.onto ∷ [])

abbrev pub share_name : Task → Task → Bool
share_name s t = list_any (λ name. list_any (bytes_eq name) (task_names t)) (task_names s)

-- two tasks that must not be busy at once: for their keys or files, or for a name that both have
abbrev pub conflicts : Task → Task → Bool
conflicts s t = bytes_eq s.key t.key || clashes s.file t.file || share_name s t

-- the task of a number, counted from 1
abbrev pub task_of : Opening → ℕ → Option Task
task_of o t = if t == 0 then None else slice_get o.tasks (t - 1)

abbrev pub both_conflict : Option Task → Option Task → Bool
both_conflict (Some s) (Some t) = conflicts s t
both_conflict s t = false

abbrev pub numbers_of : Opening → List ℕ
numbers_of o = range_with_len 1 (length o.tasks)

-- not claimed, and no busy task is in its way
abbrev pub is_free : Opening → List Entry → ℕ → Bool
is_free o past t =
    not (is_claimed past t)
    && not (list_any (λ u. is_busy past u && both_conflict (task_of o u) (task_of o t)) (numbers_of o))

abbrev pub is_number : ℕ → Option ℕ → Bool
is_number n None = false
is_number n (Some k) = k == n

abbrev pub least_free : Opening → List Entry → Option ℕ
least_free o past = find (is_free o past) (numbers_of o)

-- the number holds the task
abbrev pub is_claimed_by : List Entry → ℕ → ℕ → Bool
is_claimed_by past by t = is_held_by by (holder past t)

-- the task is held for the child
abbrev pub is_busy_with : List Entry → ℕ → ℕ → Bool
is_busy_with past c t = is_held_for c (holder past t)

abbrev pub job_for : ℕ → What → Option (ℕ × ℕ)
job_for t (Ask child job task line) = if task == t then Some (child, job) else None
job_for t _ = None

abbrev pub has_open_job : List Entry → ℕ → Bool
has_open_job past t = list_any (λ q. is_open past q.0 q.1) (each_of (job_for t) past)

-- a request for task 0 is the main thread's own; any other belongs to a task that this number holds for this child, which has
-- no open job
abbrev pub may_work : List Entry → ℕ → ℕ → ℕ → Bool
may_work past by t c =
    (t == 0 && by == 0)
    || (is_claimed_by past by t && is_busy_with past c t && not (has_open_job past t))

-- the task that the entry claims for c
abbrev pub claimed_for : ℕ → What → Option ℕ
claimed_for c (Claim task child) = if child == c then Some task else None
claimed_for c _ = None

abbrev pub has_busy_task : List Entry → ℕ → Bool
has_busy_task past c = list_any (is_busy_with past c) (each_of (claimed_for c) past)

-- storing and dropping change what the remote has
abbrev pub changes_content : Work → Bool
changes_content Store = true
changes_content Drop = true
changes_content work = false

-- a task that does so may note which chunks of its key the remote has
abbrev pub may_note : Option Task → Bool
may_note None = false
may_note (Some task) = changes_content task.work

-- ---- the greeting

abbrev pub is_done : Option Verdict → Bool
is_done (Some (DoneAt at)) = true
is_done _ = false

-- the child's first line was VERSION 1
abbrev pub said_version : List Entry → ℕ → Bool
said_version past c = is_version (first_of (got_lines past c))
  where
    is_version : Option (List ℕ) → Bool
    is_version None = false
    is_version (Some line) = is_version_one (remote_reading line)

abbrev pub is_prepare : Option HostMessage → Bool
is_prepare (Some Prepare) = true
is_prepare q = false

-- the line asks to get ready, with a tag or without
abbrev pub asks_prepare : List ℕ → Bool
asks_prepare line = is_prepare (host_reading (without_tag line (untag line)))

-- job 1 of c is asked, to get ready
abbrev pub prepares : ℕ → What → Bool
prepares c (Ask child job task line) = child == c && job == 1 && asks_prepare line
prepares c _ = false

-- its job 1 was to get ready, and is done
abbrev pub is_prepared : List Entry → ℕ → Bool
is_prepared past c = is_done (verdict_of past c 1) && any (prepares c) past

-- some request may be asked as this job of c: job 0 after the version, job 1 after job 0, and later jobs of a prepared child
abbrev pub is_greeted : List Entry → ℕ → ℕ → Bool
is_greeted past c job =
    if job == 0 then said_version past c
    else if job == 1 then is_settled past c 0
    else is_prepared past c

-- the names of extensions that c is told
abbrev pub offered_names : List Entry → ℕ → List ℕ
offered_names past c = names_of (any (offers c) past)

-- UTF-8 on one line
abbrev pub is_text : List ℕ → Bool
is_text bytes = is_utf8 bytes && not (has_newline bytes)

-- the request suits the child: its names are those that c is told, and its files are named by text on one line
abbrev pub suits_child : List Entry → ℕ → HostMessage → Bool
suits_child past c (AskExtensions names) = bytes_eq names (offered_names past c)
suits_child past c (Transfer store key file) = is_text file
suits_child past c (Transferexport store key file) = is_text file
suits_child past c (Renameexport key onto) = is_text onto
suits_child past c q = true

-- the request may be asked as this job of c
abbrev pub is_in_turn : List Entry → ℕ → ℕ → HostMessage → Bool
is_in_turn past c job q = is_at (turn_of q) job && suits_child past c q

-- the line is the canonical one of a request in its turn
abbrev pub asks_in_turn : List Entry → ℕ → ℕ → List ℕ → Option HostMessage → Bool
asks_in_turn past c job line None = false
asks_in_turn past c job line (Some q) = is_in_turn past c job q && bytes_eq line (on_wire past c job (host_line q))

-- ---- the name before a request

-- the line is the canonical one that says a name, which is text
abbrev pub says_name : List Entry → ℕ → ℕ → List ℕ → Option HostMessage → Bool
says_name past c job line (Some (Export name)) = is_text name && bytes_eq line (on_wire past c job (host_line (Export name)))
says_name past c job line q = false

abbrev pub is_led : Option HostMessage → Bool
is_led None = false
is_led (Some q) = has_lead q

-- the entry asks a request that has a lead
abbrev pub needs_lead : List Entry → What → Bool
needs_lead past (Ask child job task line) = is_led (host_reading (addressed past child line).1)
needs_lead past w = false

-- ---- a task that is run again

-- the answer says that the child was lost: it ended, or couldn't be written to
abbrev pub is_of_lost_child : Answer → Bool
is_of_lost_child (EndedAnswer why) = true
is_of_lost_child UnsentAnswer = true
is_of_lost_child _ = false

abbrev pub is_held_over_child : Option Holder → Bool
is_held_over_child None = false
is_held_over_child (Some h) = not (h.child == 0)

-- in place of this answer the task, which was held for a child, is run again
abbrev pub is_run_again : Opening → List Entry → ℕ → Answer → Bool
is_run_again o past t answer = is_of_lost_child answer && is_held_over_child (holder past t) && nat_lt (count (renews t) past) o.again

-- ---- what an event may append first

abbrev pub is_start : What → Bool
is_start (Start child slot offer) = true
is_start _ = false

-- a job of c may be asked by this number for this task, but for the child's end or mute
abbrev pub may_ask : List Entry → ℕ → ℕ → ℕ → Bool
may_ask past by t c =
    is_greeted past c (length (asked_jobs past c)) && may_work past by t c
    && (is_tagged past c || is_empty (open_jobs past c))

-- a name may be said by this number before the next job of c, which is a later one: for some task a request may be asked then
abbrev pub may_lead : List Entry → ℕ → ℕ → Bool
may_lead past by c =
    is_at Later (length (asked_jobs past c)) && list_any (λ t. may_ask past by t c) (0 ∷ each_of (claimed_for c) past)

-- why a child may be ended where nothing is due: at a full journal instead of taking its line
abbrev pub may_stop : List Entry → ℕ → Why → Bool
may_stop past c Eof = true
may_stop past c ReadFault = true
may_stop past c LongLine = true
may_stop past c Full = is_full past
may_stop past c Memory = true
may_stop past c Closed = is_empty (open_jobs past c) && not (has_busy_task past c)
may_stop past c _ = false

-- An event by this number may append this entry first. A reply and a verdict stand only where they are due.
abbrev pub may_come : Opening → List Entry → ℕ → What → Bool
may_come o past by (Claim task child) =
    is_number task (least_free o past)
    && ((child == 0 && by == 0) || (is_prepared past child && is_live past child && not (is_mute past child)))
may_come o past by (Start child slot offer) = by == 0 && child == count is_start past + 1 && nat_lt child (2 ^ 32)
may_come o past by (NoStart slot) = by == 0
may_come o past by (Lead child job line) =
    is_live past child && not (is_mute past child) && job == length (asked_jobs past child)
    && says_name past child job line (host_reading (addressed past child line).1) && may_lead past by child
may_come o past by (Ask child job task line) =
    is_live past child && not (is_mute past child) && job == length (asked_jobs past child)
    && asks_in_turn past child job line (host_reading (addressed past child line).1) && may_ask past by task child
may_come o past by (Put child job line) = false
may_come o past by (Sent child) = not (is_empty (unsent past child))
may_come o past by (Mute child) = is_started past child && not (is_mute past child)
may_come o past by (Got child line) = is_live past child && not (has_newline line) && not (is_full past)
may_come o past by (End child why) = is_live past child && may_stop past child why
may_come o past by (Settled child job verdict) = false
may_come o past by (Lost child task) = is_started past child && (is_ended past child || is_mute past child) && may_ask past by task child
may_come o past by (Answered task answer) =
    is_claimed_by past by task && not (has_open_job past task) && not (is_run_again o past task answer)
may_come o past by (Noted task chunk count) =
    is_claimed_by past by task && may_note (task_of o task) && not (has_open_job past task) && nat_lt 0 chunk
may_come o past by (Again task answer) =
    is_claimed_by past by task && not (has_open_job past task) && is_run_again o past task answer

-- ---- legal

-- After a name a request of that job is due, by the same number. Which one it is the name doesn't say: this entry stands for each.
abbrev pub led_by : ℕ → What → List Entry
led_by by (Lead child job line) = record { by = by; what = Ask child job 0 [] } ∷ []
led_by by w = []

-- the entry asks this job of c
abbrev pub asks_job : ℕ → ℕ → What → Bool
asks_job c j (Ask child job task line) = child == c && job == j
asks_job c j w = false

-- the entry is the one that is due; or it is by its number, asks that job, and is a request that has a lead and may come
abbrev pub IsDue : Opening → List Entry → What → Entry → Entry → Type 0
IsDue o past (Ask child job task line) d e =
    IsTrue (e.by == d.by && asks_job child job e.what && needs_lead past e.what && may_come o past e.by e.what)
IsDue o past w d e = e ≡ d

-- The entry may stand after past, where the entries of owed are due. A request that has a lead stands only where it is due.
abbrev pub MayStand : Opening → List Entry → List Entry → Entry → Type 0
MayStand o past [] e = IsTrue (not (needs_lead past e.what) && may_come o past e.by e.what)
MayStand o past (d ∷ ds) e = IsDue o past d.what d e

-- what is due after it
abbrev pub still_owed : Opening → List Entry → List Entry → Entry → List Entry
still_owed o past [] e = due_after o past e ++ led_by e.by e.what
still_owed o past (d ∷ ds) e = ds

abbrev pub owed_from : Opening → List Entry → List Entry → List Entry → List Entry
owed_from o past owed [] = owed
owed_from o past owed (e ∷ rest) = owed_from o (past ++ e ∷ []) (still_owed o past owed e) rest

-- the entries that are due at the journal's end
abbrev pub owed_after : Opening → List Entry → List Entry
owed_after o journal = owed_from o [] [] journal

-- each entry of rest may stand where it does
abbrev pub StandsFrom : Opening → List Entry → List Entry → List Entry → Type 0
StandsFrom o past owed [] = Unit {0}
StandsFrom o past owed (e ∷ rest) = MayStand o past owed e × StandsFrom o (past ++ e ∷ []) (still_owed o past owed e) rest

-- each entry is the next that is due, or nothing is due and an event may append it first; and nothing is due at the end
pub record Legal (o : Opening) (journal : List Entry) : Type 0 where
  pub stands : StandsFrom o [] [] journal
  pub nothing_due : owed_after o journal ≡ []

-- this entry, at this place, is the first that may not stand
pub record FirstWrong (o : Opening) (journal : List Entry) (at : ℕ) (e : Entry) : Type 0 where
  pub there : slice_get journal at ≡ Some e
  pub before : StandsFrom o [] [] (take at journal)
  pub wrong : MayStand o (take at journal) (owed_after o (take at journal)) e → ⊥

-- each entry may stand, but entries are still due at the end
pub record Unfinished (o : Opening) (journal : List Entry) : Type 0 where
  pub stands : StandsFrom o [] [] journal
  pub due : owed_after o journal ≡ [] → ⊥

-- the number of an entry's kind
abbrev pub kind_of : What → ℕ
kind_of (Claim task child) = 1
kind_of (Start child slot offer) = 2
kind_of (NoStart slot) = 3
kind_of (Ask child job task line) = 4
kind_of (Put child job line) = 5
kind_of (Sent child) = 6
kind_of (Mute child) = 7
kind_of (Got child line) = 8
kind_of (End child why) = 9
kind_of (Settled child job verdict) = 10
kind_of (Lost child task) = 11
kind_of (Answered task answer) = 12
kind_of (Noted task chunk count) = 13
kind_of (Lead child job line) = 14
kind_of (Again task answer) = 15

-- ---- the same by places

pub record LegalByPlaces (o : Opening) (journal : List Entry) : Type 0 where
  pub each : (past rest : List Entry) (e : Entry) → journal ≡ past ++ e ∷ rest → MayStand o past (owed_after o past) e
  pub nothing_due : owed_after o journal ≡ []

-- ---- the same by groups

-- A whole group after past: where nothing is due its entries may stand one after the other, nothing is due after the last, and
-- something after each before.
pub record IsGroup (o : Opening) (past group : List Entry) : Type 0 where
  pub some : group ≡ [] → ⊥
  pub stands : StandsFrom o past [] group
  pub whole : owed_from o past [] group ≡ []
  pub one : (front rest : List Entry) → group ≡ front ++ rest → owed_from o past [] front ≡ [] → (front ≡ []) ⊎ (rest ≡ [])

-- what follows an entry in its group: what it makes due, and after a name one request that it leads
abbrev pub Follows : Opening → List Entry → Entry → List Entry → Type 0
Follows o past e rest = go (led_by e.by e.what)
  where
    go : List Entry → Type 0
    go [] = rest ≡ due_after o past e
    go (d ∷ ds) = (a : Entry) × (rest ≡ a ∷ []) × IsDue o (past ++ e ∷ []) d.what d a

-- the journal is past followed by these groups
abbrev pub IsGroups : Opening → List Entry → List (List Entry) → List Entry → Type 0
IsGroups o past [] journal = journal ≡ past
IsGroups o past (group ∷ groups) journal = IsGroup o past group × IsGroups o (past ++ group) groups journal

-- the journal is made of groups
abbrev pub LegalByGroups : Opening → List Entry → Type 0
LegalByGroups o journal = (groups : List (List Entry)) × IsGroups o [] groups journal
