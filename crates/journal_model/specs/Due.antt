-- What an entry makes due: the entries that have to stand directly after it, made by the same number.
use Rattle.std.specs.Prelude.{ℕ, ◌==◌, ◌&&◌, ◌||◌, not, Bool, true, false, if◌then◌else◌, List, [], ◌∷◌, length, Option, Some, None, map, filter, take, slice_get}
use Rattle.std.specs.List.{list_any}
use Rattle.journal_model.specs.declared.verdict.Why.{Why}
use Rattle.journal_model.specs.declared.verdict.Why.TheVariants.{Foul, Error as ErrorAt, Version as VersionFault}
use Rattle.journal_model.specs.declared.verdict.Verdict.{Verdict}
use Rattle.journal_model.specs.declared.verdict.Verdict.TheVariants.{Done as DoneAt, Failed as FailedAt, Absent as AbsentAt, Unknown as UnknownAt, Unsupported as UnsupportedAt, Ended, Unsent}
use Rattle.annex_model.specs.declared.final_line.Final.{Final}
use Rattle.annex_model.specs.declared.final_line.Final.TheVariants.{Done, Failed, Absent, Unknown, Unsupported}
use Rattle.annex_model.specs.Messages.{RemoteMessage, Version, Error, remote_reading}
use Rattle.annex_model.specs.Talks.{is_talk}
use Rattle.journal_model.specs.declared.entry.What.{What}
use Rattle.journal_model.specs.declared.entry.What.TheVariants.{Put, Mute, Got, End, Verdict as Settled}
use Rattle.journal_model.specs.declared.entry.Entry.{Entry}
use Rattle.journal_model.specs.declared.opening.Opening.{Opening}
use Rattle.journal_model.specs.Journal.{open_jobs, asked_jobs, is_open, is_live, has_spoken, is_tagged, is_unsent, addressed, on_wire}
use Rattle.journal_model.specs.Parts.{part}
use Rattle.journal_model.specs.Replies.{replies_by}
use Rattle.journal_model.specs.Registers.{values_at}
use Rattle.annex_model.specs.Hearings.{Hearing, Aside, Part, Settles, Strange, hearing}

-- ---- replies

-- the lines that the message is owed after the entries so far, by what the run began with and what was set since
abbrev pub replies : Opening → List Entry → RemoteMessage → List (List ℕ)
replies o past m = replies_by (values_at o.registers o.identity past) m

abbrev pub replies_said : Opening → List Entry → Option RemoteMessage → List (List ℕ)
replies_said o past None = []
replies_said o past (Some m) = replies o past m

abbrev pub replies_to : Opening → List Entry → Option Entry → List (List ℕ)
replies_to o past None = []
replies_to o past (Some e) = replies_to_line o past e.what
  where
    replies_to_line : Opening → List Entry → What → List (List ℕ)
    replies_to_line o past (Got c line) = replies_said o past (remote_reading (addressed past c line).1)
    replies_to_line o past _ = []

-- what the message that the line at this place spells is owed, over what stands before it
abbrev pub replies_at : Opening → List Entry → ℕ → List (List ℕ)
replies_at o journal at = replies_to o (take at journal) (slice_get journal at)

-- the entries of these replies in job j of c
abbrev pub replying : List Entry → ℕ → ℕ → List (List ℕ) → List What
replying past c j lines = map (λ line. Put c j (on_wire past c j line)) lines

abbrev pub verdict_at : Final → ℕ → Verdict
verdict_at Done at = DoneAt at
verdict_at Failed at = FailedAt at
verdict_at Absent at = AbsentAt at
verdict_at Unknown at = UnknownAt at
verdict_at Unsupported at = UnsupportedAt at

-- ---- after an end, a mute and a line

-- the verdicts of the jobs that c's end settles, in rising order
abbrev pub ended_jobs : List Entry → ℕ → Why → List What
ended_jobs past c why = map (λ j. Settled c j (Ended why)) (open_jobs past c)

abbrev pub ending : List Entry → ℕ → Why → List What
ending past c why = End c why ∷ ended_jobs past c why

-- the line, which would stand next, ends its child as foul
abbrev pub foul : List Entry → ℕ → List What
foul past c = ending past c (Foul (length past))

abbrev pub is_version_one : Option RemoteMessage → Bool
is_version_one (Some (Version n)) = n == 1
is_version_one _ = false

abbrev pub is_error : Option RemoteMessage → Bool
is_error (Some (Error text)) = true
is_error m = false

-- an aside is owed its replies
abbrev pub after_hearing : Opening → List Entry → ℕ → ℕ → RemoteMessage → Hearing → List What
after_hearing o past c j m Aside = replying past c j (replies o past m)
after_hearing o past c j m Part = []
after_hearing o past c j m (Settles f) = Settled c j (verdict_at f (length past)) ∷ []
after_hearing o past c j m Strange = foul past c

-- the job was open earlier. No tag names job 0
abbrev pub was_open : List Entry → ℕ → Option ℕ → Bool
was_open past c None = false
was_open past c (Some j) = not (j == 0) && list_any (λ k. k == j) (asked_jobs past c)

-- talk about a job that is not open is passed over, where it names a job that was, or can't name one
abbrev pub is_passed : List Entry → ℕ → Option ℕ → RemoteMessage → Bool
is_passed past c job m = is_talk m && (not (is_tagged past c) || was_open past c job)

abbrev pub after_late : List Entry → ℕ → Option ℕ → RemoteMessage → List What
after_late past c job m = if is_passed past c job m then [] else foul past c

-- a message for a job that is open; any other is passed over or ends its child
abbrev pub after_message : Opening → List Entry → ℕ → Option ℕ → RemoteMessage → List What
after_message o past c None m = after_late past c None m
after_message o past c (Some j) m =
    if is_open past c j then after_hearing o past c j m (hearing (part past c j) m) else after_late past c (Some j) m

abbrev pub after_line : Opening → List Entry → ℕ → Option ℕ → Option RemoteMessage → List What
after_line o past c job None = foul past c
after_line o past c job (Some m) = after_message o past c job m

-- A line that spells ERROR ends its child, whatever its tag. Else the first line is the version, and a later one goes to the
-- job that it is for.
abbrev pub due_by_got : Opening → List Entry → ℕ → List ℕ → List What
due_by_got o past c line =
    if is_error (remote_reading (addressed past c line).1) then ending past c (ErrorAt (length past))
    else if not (has_spoken past c)
    then (if is_version_one (remote_reading line) then [] else ending past c (VersionFault (length past)))
    else after_line o past c (addressed past c line).0 (remote_reading (addressed past c line).1)

-- what the entry makes due, where past stands before it. A mute of a live child settles its open jobs that were not sent
abbrev pub due_by : Opening → List Entry → What → List What
due_by o past (Got c line) = due_by_got o past c line
due_by o past (End c why) = ended_jobs past c why
due_by o past (Mute c) =
    if is_live past c then map (λ j. Settled c j Unsent) (filter (is_unsent past c) (open_jobs past c)) else []
due_by o past _ = []

abbrev pub made_by : ℕ → List What → List Entry
made_by by ws = map (λ w. record { by = by; what = w }) ws

-- the same as entries, made by the same number
abbrev pub due_after : Opening → List Entry → Entry → List Entry
due_after o past e = made_by e.by (due_by o past e.what)
