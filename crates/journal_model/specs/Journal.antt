-- The journal of a run: what its entries say of a child, a job and a task. Each fact about the past is a test of the
-- flat list of the entries before.
use Rattle.std.specs.Prelude.{ℕ, ◌==◌, ◌&&◌, ◌||◌, not, nat_le, Bool, false, if◌then◌else◌, List, [], ◌∷◌, length, Option, Some, None, find, filter, filter_map, drop, option_and_then, slice_get}
use Rattle.std.specs.List.{list_any, sum_by}
use Rattle.journal_model.specs.declared.verdict.Why.{Why}
use Rattle.journal_model.specs.declared.verdict.Verdict.{Verdict}
use Rattle.journal_model.specs.declared.verdict.Verdict.TheVariants.{Done}
use Rattle.annex_model.specs.Messages.{remote_reading}
use Rattle.annex_model.specs.Tags.{untag, tagged_line, names_async}
use Rattle.journal_model.specs.declared.entry.What.{What}
use Rattle.journal_model.specs.declared.entry.What.TheVariants.{Start, Lead, Ask, Put, Sent, Mute, Got, End, Verdict as Settled}
use Rattle.journal_model.specs.declared.entry.Entry.{Entry}
use Rattle.journal_model.specs.Limits.{most_entries, most_line_bytes}

-- ---- what one entry says of a child, a job or a task

abbrev pub starts : ℕ → What → Bool
starts c (Start child slot offer) = child == c
starts c _ = false

abbrev pub ends : ℕ → What → Bool
ends c (End child why) = child == c
ends c _ = false

abbrev pub mutes : ℕ → What → Bool
mutes c (Mute child) = child == c
mutes c _ = false

abbrev pub got_from : ℕ → What → Bool
got_from c (Got child line) = child == c
got_from c _ = false

abbrev pub sends : ℕ → What → Bool
sends c (Sent child) = child == c
sends c _ = false

abbrev pub settles : ℕ → ℕ → What → Bool
settles c j (Settled child job verdict) = child == c && job == j
settles c j _ = false

-- ASYNC is offered to c
abbrev pub offers : ℕ → What → Bool
offers c (Start child slot offer) = child == c && offer
offers c _ = false

-- the line that the entry got from c
abbrev pub line_from : ℕ → What → Option (List ℕ)
line_from c (Got child line) = if child == c then Some line else None
line_from c _ = None

-- the job that the entry asks on c
abbrev pub asks : ℕ → What → Option ℕ
asks c (Ask child job task line) = if child == c then Some job else None
asks c _ = None

-- the line that the entry writes to c, with the job that it asks, if it asks one
abbrev pub writes : ℕ → What → Option (Option ℕ × List ℕ)
writes c (Lead child job line) = if child == c then Some (None, line) else None
writes c (Ask child job task line) = if child == c then Some (Some job, line) else None
writes c (Put child job line) = if child == c then Some (None, line) else None
writes c _ = None

abbrev pub verdict_in : ℕ → ℕ → What → Option Verdict
verdict_in c j (Settled child job verdict) = if child == c && job == j then Some verdict else None
verdict_in c j _ = None

abbrev pub end_why : ℕ → What → Option Why
end_why c (End child why) = if child == c then Some why else None
end_why c _ = None

-- ---- what the entries so far say

abbrev pub first_of : {X : Type 0} → List X → Option X
first_of [] = None
first_of (x ∷ xs) = Some x

abbrev pub any : (What → Bool) → List Entry → Bool
any p past = list_any (λ e. p e.what) past

abbrev pub each_of : {X : Type 0} → (What → Option X) → List Entry → List X
each_of f past = filter_map (λ e. f e.what) past

abbrev pub is_started : List Entry → ℕ → Bool
is_started past c = any (starts c) past

abbrev pub is_ended : List Entry → ℕ → Bool
is_ended past c = any (ends c) past

abbrev pub is_mute : List Entry → ℕ → Bool
is_mute past c = any (mutes c) past

-- a child is live from its start to its end
abbrev pub is_live : List Entry → ℕ → Bool
is_live past c = is_started past c && not (is_ended past c)

abbrev pub has_spoken : List Entry → ℕ → Bool
has_spoken past c = any (got_from c) past

abbrev pub got_lines : List Entry → ℕ → List (List ℕ)
got_lines past c = each_of (line_from c) past

abbrev pub asked_jobs : List Entry → ℕ → List ℕ
asked_jobs past c = each_of (asks c) past

abbrev pub is_settled : List Entry → ℕ → ℕ → Bool
is_settled past c j = any (settles c j) past

-- a job is open from its Ask to its verdict. These are in rising order, since jobs are numbered as they are asked
abbrev pub open_jobs : List Entry → ℕ → List ℕ
open_jobs past c = filter (λ j. not (is_settled past c j)) (asked_jobs past c)

abbrev pub is_open : List Entry → ℕ → ℕ → Bool
is_open past c j = list_any (λ k. k == j) (open_jobs past c)

abbrev pub verdict_of : List Entry → ℕ → ℕ → Option Verdict
verdict_of past c j = first_of (each_of (verdict_in c j) past)

-- the lines written to c that no Sent covers
abbrev pub unsent : List Entry → ℕ → List (Option ℕ × List ℕ)
unsent past c = drop (length (filter (λ e. sends c e.what) past)) (each_of (writes c) past)

abbrev pub is_job : ℕ → Option ℕ → Bool
is_job j None = false
is_job j (Some k) = k == j

abbrev pub is_unsent : List Entry → ℕ → ℕ → Bool
is_unsent past c j = list_any (λ w. is_job j w.0) (unsent past c)

-- ---- the journal's limit

-- the bytes of the entry's line, where it has one
abbrev pub line_bytes : What → ℕ
line_bytes (Lead child job line) = length line
line_bytes (Ask child job task line) = length line
line_bytes (Put child job line) = length line
line_bytes (Got child line) = length line
line_bytes _ = 0

-- the bytes that the lines of the entries have in all, their tags included
abbrev pub bytes_in : List Entry → ℕ
bytes_in past = sum_by (λ e. line_bytes e.what) past

-- a full journal takes no line of a child
abbrev pub is_full : List Entry → Bool
is_full past = nat_le most_entries (length past) || nat_le most_line_bytes (bytes_in past)

abbrev pub got_line : Option Entry → List ℕ
got_line None = []
got_line (Some e) = line_got e.what
  where
    line_got : What → List ℕ
    line_got (Got child line) = line
    line_got _ = []

-- the line got at a place, if one was
abbrev pub line_at : List Entry → ℕ → List ℕ
line_at past at = got_line (slice_get past at)

-- ---- tagged children

-- the verdict names a line that names ASYNC
abbrev pub accepts_async : List Entry → Option Verdict → Bool
accepts_async past (Some (Done at)) = names_async (remote_reading (line_at past at))
accepts_async past _ = false

-- ASYNC was offered to c, and its answer to job 0 names it
abbrev pub is_tagged : List Entry → ℕ → Bool
is_tagged past c = any (offers c) past && accepts_async past (verdict_of past c 0)

-- a line to c for job j, as it stands on the wire
abbrev pub on_wire : List Entry → ℕ → ℕ → List ℕ → List ℕ
on_wire past c j line = if is_tagged past c then tagged_line j line else line

-- the job and the text of a line of a tagged child
abbrev pub by_tag : List ℕ → Option (ℕ × List ℕ) → Option ℕ × List ℕ
by_tag line None = (None, line)
by_tag line (Some t) = (Some t.0, t.1)

-- the job that a line of c is for, and its text without the tag. A child without tags has one open job at most
abbrev pub addressed : List Entry → ℕ → List ℕ → Option ℕ × List ℕ
addressed past c line = if is_tagged past c then by_tag line (untag line) else (first_of (open_jobs past c), line)

-- why c ended, if it did
abbrev pub why_of : List Entry → ℕ → Option Why
why_of past c = option_and_then (λ e. end_why c e.what) (find (λ e. ends c e.what) past)
