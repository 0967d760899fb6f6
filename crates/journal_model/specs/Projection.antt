-- What the part of each job is, by how the job stands.
use Rattle.std.specs.Prelude.{ℕ, ◌≡◌, ◌↔◌, ◌==◌, ◌+◌, true, false, List, [], Option, Some, None, take, slice_get, option_map, option_and_then, IfSome}
use Rattle.std.specs.List.{last_or, list_any}
use Rattle.annex_model.specs.declared.final_line.Final.{Final}
use Rattle.annex_model.specs.declared.final_line.Final.TheVariants.{Done, Failed, Absent, Unknown, Unsupported}
use Rattle.journal_model.specs.declared.verdict.Verdict.{Verdict}
use Rattle.journal_model.specs.declared.verdict.Verdict.TheVariants.{Done as DoneAt, Failed as FailedAt, Absent as AbsentAt, Unknown as UnknownAt, Unsupported as UnsupportedAt, Ended, Unsent}
use Rattle.annex_model.specs.Messages.{HostMessage, RemoteMessage, IsAskable}
use Rattle.annex_model.specs.Talks.{Item, Conv, ConvFront, Talking, final_of, said}
use Rattle.journal_model.specs.declared.opening.Opening.{Opening}
use Rattle.journal_model.specs.declared.entry.What.TheVariants.{Put, Got}
use Rattle.journal_model.specs.declared.entry.Entry.{Entry}
use Rattle.journal_model.specs.Due.{replies_at}
use Rattle.journal_model.specs.Journal.{verdict_of, asked_jobs, is_open, addressed, on_wire}
use Rattle.journal_model.specs.Parts.{part}
use Rattle.annex_model.specs.Hearings.{request_in}

-- where the last item of a part stands
abbrev pub last_place : List Item → Option ℕ
last_place part = option_map (λ i. i.at) (last_or None part)

-- a whole conversation, which ends so with the line at that place
pub record Ends (replies : ℕ → List (List ℕ)) (q : HostMessage) (part : List Item) (f : Final) (at : ℕ) : Type 0 where
  pub whole : Conv replies q part
  pub final : final_of q (said part) ≡ Some f
  pub place : last_place part ≡ Some at

-- a part that goes on to a conversation, and where the answer isn't there yet
pub record Goes (replies : ℕ → List (List ℕ)) (q : HostMessage) (part : List Item) : Type 0 where
  pub talking : Talking replies q part
  pub front : ConvFront replies q part

-- what a line said of the request, and where it stands, if a line gave the verdict
abbrev pub final_in : Verdict → Option (Final × ℕ)
final_in (DoneAt at) = Some (Done, at)
final_in (FailedAt at) = Some (Failed, at)
final_in (AbsentAt at) = Some (Absent, at)
final_in (UnknownAt at) = Some (Unknown, at)
final_in (UnsupportedAt at) = Some (Unsupported, at)
final_in (Ended why) = None
final_in Unsent = None

abbrev pub FitsFinal : (ℕ → List (List ℕ)) → HostMessage → List Item → Option (Final × ℕ) → Type 0
FitsFinal replies q part None = Goes replies q part
FitsFinal replies q part (Some f) = Ends replies q part f.0 f.1

-- the part of a job that is open, or was settled so
abbrev pub PartFits : (ℕ → List (List ℕ)) → HostMessage → List Item → Option Verdict → Type 0
PartFits replies q part v = FitsFinal replies q part (option_and_then final_in v)

-- The part of a job that was asked fits the request that it begins with, whose fields are of their classes, and the job's
-- verdict. A job that was not asked has no part.
abbrev pub Fits : (ℕ → List (List ℕ)) → List Item → Option Verdict → Type 0
Fits replies [] v = v ≡ None
Fits replies part v = (q : HostMessage) × (request_in part ≡ Some q) × IsAskable q × PartFits replies q part v

abbrev pub JobFits : (ℕ → List (List ℕ)) → List Entry → ℕ → ℕ → Type 0
JobFits replies journal c j = Fits replies (part journal c j) (verdict_of journal c j)

-- the part is empty exactly where the job was not asked
abbrev pub PartIsAsked : List Entry → ℕ → ℕ → Type 0
PartIsAsked journal c j = (part journal c j ≡ []) ↔ (list_any (λ k. k == j) (asked_jobs journal c) ≡ false)

-- The verdict is one that some answer to the request ends with, or there was no answer.
abbrev pub IsNamed : HostMessage → Verdict → Type 0
IsNamed q v = IfSome (final_in v) (λ f. (ms : List (Option RemoteMessage)) × (final_of q ms ≡ Some f.0))

-- The Put at this place, by this number in job j of c, is one of the replies that a line is owed, and follows that line at
-- its place among them. The line was got under the same number, and is for that job while it is open.
pub record IsReply (o : Opening) (journal : List Entry) (at by c j : ℕ) (line : List ℕ) : Type 0 where
  pub from : ℕ
  pub nth : ℕ
  pub said : List ℕ
  pub reply : List ℕ
  pub place : at ≡ from + 1 + nth
  pub got : slice_get journal from ≡ Some (record { by = by; what = Got c said })
  pub job : (addressed (take from journal) c said).0 ≡ Some j
  pub opened : is_open (take from journal) c j ≡ true
  pub owed : slice_get (replies_at o journal from) nth ≡ Some reply
  pub wired : line ≡ on_wire (take from journal) c j reply

-- so it is of each Put
abbrev pub PutsReply : Opening → List Entry → Type 0
PutsReply o journal = (at by c j : ℕ) (line : List ℕ) → slice_get journal at ≡ Some (record { by = by; what = Put c j line }) → IsReply o journal at by c j line
