-- Which line of a kit settled a job.
use Rattle.std.specs.Prelude.{ℕ, ◌≡◌, ◌==◌, ◌&&◌, if◌then◌else◌, List, [], ◌∷◌, ◌++◌, Option, Some, None, map, filter, fold, slice_get}
use Rattle.annex_model.specs.Messages.{HostMessage, host_reading}
use Rattle.journal_model.specs.declared.verdict.Verdict.{Verdict}
use Rattle.journal_model.specs.declared.verdict.Verdict.TheVariants.{Done, Failed, Absent, Unknown, Unsupported}
use Rattle.journal_model.specs.declared.entry.What.{What}
use Rattle.journal_model.specs.declared.entry.What.TheVariants.{Ask}
use Rattle.journal_model.specs.declared.entry.Entry.{Entry}
use Rattle.journal_model.specs.Journal.{each_of, first_of, line_at, verdict_of}
use Rattle.kit_serve.specs.Kit.Kits.{Heard, messages, lines_to}
use Rattle.kit_serve.specs.Kit.Stages.{stage_of, is_free}
use Rattle.pair_kit.specs.declared.taken.Taken.{Taken}
use Rattle.pair_kit.specs.declared.answer.Answer.{Answer}
use Rattle.pair_kit.specs.Cues.{settings}
use Rattle.pair_kit.specs.Pairs.{PairValue, heard, heard_by, pair_of}
use Rattle.pair_kit.specs.Works.{request_with, last_said}
use Rattle.pair_kit.specs.Worlds.{WorldValue}

-- the place of the line that the verdict names, where it names one
abbrev pub place_in : Verdict → Option ℕ
place_in (Done at) = Some at
place_in (Failed at) = Some at
place_in (Absent at) = Some at
place_in (Unknown at) = Some at
place_in (Unsupported at) = Some at
place_in verdict = None

-- the line that asks the job of the child
abbrev pub line_for : ℕ → ℕ → What → Option (List ℕ)
line_for c j (Ask child job task line) = if child == c && job == j then Some line else None
line_for c j w = None

abbrev pub request_of : List Entry → ℕ → ℕ → Option (List ℕ)
request_of journal c j = first_of (each_of (line_for c j) journal)

-- the answers of one child's kit, in order
abbrev pub answers_of : ℕ → List Answer → List Answer
answers_of c answers = filter (λ a. a.child == c) answers

-- The answer of that number of the child's kit, from 0, is to the request of the job of that number, and is the line at that place.
pub record IsAnsweredBy (w : WorldValue) (c j at : ℕ) : Type 0 where
  pub answer : Answer
  pub there : slice_get (answers_of c w.answers) j ≡ Some answer
  pub request : request_of w.journal c j ≡ Some answer.request
  pub line : line_at w.journal at ≡ answer.line

-- so it is of each job whose verdict names a line
abbrev pub AreAnswered : WorldValue → Type 0
AreAnswered w = (c j at : ℕ) (verdict : Verdict) → verdict_of w.journal c j ≡ Some verdict → place_in verdict ≡ Some at → IsAnsweredBy w c j at

-- ---- what was answered, by the lines that a kit took

abbrev pub request_by : List ℕ → Option HostMessage → List ℕ → List ℕ
request_by request None line = request
request_by request (Some m) line = request_with request m line

abbrev pub request_after : List ℕ → Taken → List ℕ
request_after request t = request_by request (host_reading t.line) t.line

-- the line of the request to which the last of these lines belongs
abbrev pub request_taken : List Taken → List ℕ
request_taken taken = fold request_after [] taken

-- a request, and the last line that was said to it, where one was
abbrev pub noted : List ℕ → Option (List ℕ) → List (List ℕ × List ℕ)
noted request None = []
noted request (Some line) = (request, line) ∷ []

-- the answer that is given once this line was taken, after those before
abbrev pub answer_with : List Taken → Taken → Option Heard → List (List ℕ × List ℕ)
answer_with before t None = []
answer_with before t (Some e) =
    noted (request_taken (before ++ t ∷ [])) (last_said (is_free (stage_of settings (messages (heard (before ++ t ∷ []))))) (lines_to settings (heard before) e))

abbrev pub answers_behind : List Taken → List Taken → List (List ℕ × List ℕ)
answers_behind before [] = []
answers_behind before (t ∷ rest) = answer_with before t (heard_by t) ++ answers_behind (before ++ t ∷ []) rest

-- each request that a kit answered when it had taken these lines, and the last line that it said to it
abbrev pub answers_to : List Taken → List (List ℕ × List ℕ)
answers_to taken = answers_behind [] taken

-- an answer's request and its line
abbrev pub shown : Answer → List ℕ × List ℕ
shown a = (a.request, a.line)

-- The answers of the child are those that its kit gave, and it knows which request it answers.
pub record IsNoted (c : ℕ) (p : PairValue) (answers : List Answer) : Type 0 where
  pub answers_are : map shown (answers_of c answers) ≡ answers_to p.taken
  pub request_is : p.request ≡ request_taken p.taken

abbrev pub AreNoted : WorldValue → Type 0
AreNoted w = (c : ℕ) → IsNoted c (pair_of w.pairs c) w.answers
