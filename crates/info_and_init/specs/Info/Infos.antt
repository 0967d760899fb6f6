-- What a remote is asked about itself, and what is printed of its answers.
-- https://git-annex.branchable.com/design/external_special_remote_protocol/
use Rattle.std.specs.Prelude.{ℕ, ◌+◌, ◌&&◌, Bool, true, false, if◌then◌else◌, List, [], ◌∷◌, ◌++◌, Option, Some, None, codes, decimal, is_some}
use Rattle.journal_model.specs.declared.verdict.Why.{Why}
use Rattle.journal_model.specs.declared.verdict.Why.TheVariants.{Closed}
use Rattle.journal_model.specs.declared.verdict.Verdict.{Verdict}
use Rattle.journal_model.specs.declared.verdict.Verdict.TheVariants.{Ended}
use Rattle.annex_model.specs.declared.final_line.Final.{Final}
use Rattle.annex_model.specs.Messages.{RemoteMessage, UnsupportedRequest, Config, Cost, Availability, Infofield, Infovalue, WhereisSuccess, WhereisFailure, ExportsupportedSuccess, ExportsupportedFailure, HostMessage, Listconfigs, Getcost, Getavailability, Getinfo, Exportsupported, Whereis}
use Rattle.annex_model.specs.Talks.{said}
use Rattle.journal_model.specs.declared.entry.Entry.{Entry}
use Rattle.journal_model.specs.Journal.{any, verdict_of, why_of, is_mute, is_started}
use Rattle.journal_model.specs.Parts.{part}
use Rattle.journal_model.specs.Legality.{is_prepared}
use Rattle.journal_model.specs.Projection.{final_in}
use Rattle.journal_model.specs.Output.{why_words, text_at}
use Rattle.journal_scan.specs.Looks.{is_no_start}
use Rattle.task_model.specs.TaskRuns.{refusal_of}

-- ---- what is asked, as jobs 2, 3 and so on

abbrev pub where_is : Option (List ℕ) → List HostMessage
where_is None = []
where_is (Some key) = Whereis key ∷ []

abbrev pub questions : Option (List ℕ) → List HostMessage
questions key = Listconfigs ∷ Getcost ∷ Getavailability ∷ Getinfo ∷ Exportsupported ∷ where_is key

-- ---- what one answer tells

abbrev pub scope_name : Bool → List ℕ
scope_name true = codes "global"
scope_name false = codes "local"

-- the request's answers, by name, where the remote doesn't know it
abbrev pub unsupported_line : HostMessage → List (List ℕ)
unsupported_line Listconfigs = codes "configs unsupported" ∷ []
unsupported_line Getcost = codes "cost unsupported" ∷ []
unsupported_line Getavailability = codes "availability unsupported" ∷ []
unsupported_line Getinfo = codes "infos unsupported" ∷ []
unsupported_line Exportsupported = codes "export unsupported" ∷ []
unsupported_line (Whereis key) = codes "whereis unsupported" ∷ []
unsupported_line q = []

-- the lines that one message of the answer is printed as
abbrev pub line_of : HostMessage → RemoteMessage → List (List ℕ)
line_of q (Config name description) = (codes "config " ++ name ++ 32 ∷ description) ∷ []
line_of q (Cost number) = (codes "cost " ++ decimal number) ∷ []
line_of q (Availability global) = (codes "availability " ++ scope_name global) ∷ []
line_of q ExportsupportedSuccess = codes "export supported" ∷ []
line_of q ExportsupportedFailure = codes "export unsupported" ∷ []
line_of q (WhereisSuccess text) = (codes "whereis " ++ text) ∷ []
line_of q WhereisFailure = codes "whereis failure" ∷ []
line_of q UnsupportedRequest = unsupported_line q
line_of q m = []

-- the name of a pair whose value comes next
abbrev pub field_in : Option RemoteMessage → Option (List ℕ)
field_in (Some (Infofield name)) = Some name
field_in m = None

abbrev pub pair_line : Option (List ℕ) → Option RemoteMessage → List (List ℕ)
pair_line (Some name) (Some (Infovalue value)) = (codes "info " ++ name ++ codes "=" ++ value) ∷ []
pair_line field m = []

abbrev pub message_line : HostMessage → Option RemoteMessage → List (List ℕ)
message_line q None = []
message_line q (Some m) = line_of q m

-- the lines of an answer, where the message before named this field
abbrev pub lines_from : HostMessage → Option (List ℕ) → List (Option RemoteMessage) → List (List ℕ)
lines_from q field [] = []
lines_from q field (m ∷ ms) = message_line q m ++ pair_line field m ++ lines_from q (field_in m) ms

abbrev pub lines_of : HostMessage → List (Option RemoteMessage) → List (List ℕ)
lines_of q ms = lines_from q None ms

-- ---- what is printed of a job, and of a child that failed

abbrev pub failed_words : List Entry → Verdict → List ℕ
failed_words journal (Ended why) = why_words journal why
failed_words journal v = codes "unsent"

-- The answer where a line of the child gave the verdict; else why there is none.
abbrev pub job_lines : List Entry → ℕ → HostMessage → ℕ → Verdict → List (List ℕ)
job_lines journal c q j v = by_final (final_in v)
  where
    by_final : Option (Final × ℕ) → List (List ℕ)
    by_final None = failed_words journal v ∷ []
    by_final (Some f) = lines_of q (said (part journal c j))

-- the child's end, or else its mute. A child that was closed has not ended by itself
abbrev pub gone_lines : List Entry → ℕ → List (List ℕ)
gone_lines journal c = by_end (why_of journal c)
  where
    by_mute : Bool → List (List ℕ)
    by_mute true = codes "unsent" ∷ []
    by_mute false = []

    by_end : Option Why → List (List ℕ)
    by_end None = by_mute (is_mute journal c)
    by_end (Some Closed) = by_mute (is_mute journal c)
    by_end (Some why) = why_words journal why ∷ []

-- The lines of these requests, asked as this job and on; a request without an answer is the last that is told. Where it was not
-- asked, that the child is gone is told in its place.
abbrev pub questions_from : List Entry → ℕ → List HostMessage → ℕ → List (List ℕ)
questions_from journal c [] j = []
questions_from journal c (q ∷ qs) j = by_verdict (questions_from journal c qs (j + 1)) (verdict_of journal c j)
  where
    by_verdict : List (List ℕ) → Option Verdict → List (List ℕ)
    by_verdict later None = gone_lines journal c
    by_verdict later (Some v) = job_lines journal c q j v ++ (if is_some (final_in v) then later else [])

-- ---- a child that did not get ready

-- its refusal, or else its end or its mute
abbrev pub unready_lines : List Entry → ℕ → List (List ℕ)
unready_lines journal c = by_refusal (refusal_of journal c)
  where
    by_refusal : Option ℕ → List (List ℕ)
    by_refusal None = gone_lines journal c
    by_refusal (Some at) = (codes "notprepared " ++ text_at journal at) ∷ []

-- what is printed of a child
abbrev pub child_lines : List Entry → ℕ → Option (List ℕ) → List (List ℕ)
child_lines journal c key = if is_prepared journal c then questions_from journal c (questions key) 2 else unready_lines journal c

-- the job was settled by a line of the child
abbrev pub is_answered : List Entry → ℕ → ℕ → Bool
is_answered journal c j = by_verdict (verdict_of journal c j)
  where
    by_verdict : Option Verdict → Bool
    by_verdict None = false
    by_verdict (Some v) = is_some (final_in v)

-- each job from this one on was
abbrev pub are_answered : List Entry → ℕ → List HostMessage → ℕ → Bool
are_answered journal c [] j = true
are_answered journal c (q ∷ qs) j = is_answered journal c j && are_answered journal c qs (j + 1)

-- the child got ready, and answered all
abbrev pub is_informed : List Entry → ℕ → Option (List ℕ) → Bool
is_informed journal c key = is_prepared journal c && are_answered journal c (questions key) 2

-- ---- what is printed of a run

-- a start that failed, or what is printed of the one child; nothing where none was started
abbrev pub info_lines : List Entry → Option (List ℕ) → List (List ℕ)
info_lines journal key =
    if any is_no_start journal then codes "startfault" ∷ []
    else if is_started journal 1 then child_lines journal 1 key
    else []
