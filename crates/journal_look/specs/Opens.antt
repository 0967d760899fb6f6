-- Which jobs are open, and how the last ones were settled, so that a question about one needn't go through the entries.
use Rattle.std.specs.Prelude.{ℕ, ◌≡◌, ◌+◌, ◌<◌, ◌==◌, ◌&&◌, ◌||◌, not, nat_lt, Bool, true, if◌then◌else◌, List, [], ◌∷◌, ◌++◌, length, take, Option, Some, None, filter, filter_map, IsTrue}
use Rattle.std.specs.List.{All, list_any}
use Rattle.journal_model.specs.declared.entry.What.{What}
use Rattle.journal_model.specs.declared.entry.What.TheVariants.{Ask, Put, Verdict as Settled}
use Rattle.journal_model.specs.declared.entry.Entry.{Entry}
use Rattle.journal_model.specs.Journal.{any, asked_jobs, each_of, first_of, open_jobs, settles, verdict_of}
use Rattle.journal_model.specs.Legality.{job_for}
use Rattle.journal_scan.specs.Looks.{asked_at, is_hosts}
use Rattle.journal_look.specs.declared.jobs.Open.{Open}
use Rattle.journal_look.specs.declared.jobs.Told.{Told}
use Rattle.journal_look.specs.declared.jobs.Jobs.{Jobs}

-- ---- jobs by number

-- the entry is about the job: it asks, writes or settles it
abbrev pub touches : ℕ → ℕ → What → Bool
touches c j w = is_hosts c j w || settles c j w

-- The jobs of each child are numbered as they are asked, and no entry is about a job that was not asked before.
pub record AreNumbered (past : List Entry) : Type 0 where
  pub asked : (c j : ℕ) → j < length (asked_jobs past c) → list_any (λ k. k == j) (asked_jobs past c) ≡ true
  pub touched : (c j : ℕ) → any (touches c j) past ≡ true → j < length (asked_jobs past c)

-- the child whose job the entry asks, writes or settles
abbrev pub jobs_child : What → ℕ
jobs_child (Ask child job task line) = child
jobs_child (Put child job line) = child
jobs_child (Settled child job verdict) = child
jobs_child w = 0

-- that goes on with an entry whose child was asked so many jobs
abbrev pub keeps_numbers : ℕ → What → Bool
keeps_numbers n (Ask child job task line) = job == n
keeps_numbers n (Put child job line) = nat_lt job n
keeps_numbers n (Settled child job verdict) = nat_lt job n
keeps_numbers n w = true

-- ---- open jobs

abbrev pub is_this : ℕ → ℕ → Open → Bool
is_this c j x = x.child == c && x.job == j

abbrev pub job_on : ℕ → Open → Option ℕ
job_on c x = if x.child == c then Some x.job else None

-- the child's open jobs, by the table
abbrev pub jobs_on : ℕ → List Open → List ℕ
jobs_on c jobs = filter_map (job_on c) jobs

-- the table without the job
abbrev pub closed : ℕ → ℕ → List Open → List Open
closed c j jobs = filter (λ x. not (is_this c j x)) jobs

-- no job of the child is in the table
abbrev pub is_idle : ℕ → List Open → Bool
is_idle c jobs = not (list_any (λ (x : Open). x.child == c) jobs)

-- the table after one more entry, which stands at that place
abbrev pub opened : ℕ → What → List Open → List Open
opened at (Ask child job task line) jobs = jobs ++ record { child = child; job = job; task = task; at = at; alone = is_idle child jobs } ∷ []
opened at (Settled child job verdict) jobs = closed child job jobs
opened at w jobs = jobs

-- The job was asked for its task alone, and its request stands at its place. Where it was asked alone, it was the first of its
-- child's open jobs then.
pub record IsAsked (past : List Entry) (x : Open) : Type 0 where
  pub place : asked_at past x.child x.job ≡ x.at
  pub within : x.at < length past
  pub low : x.job < length (asked_jobs past x.child)
  pub task : (t : ℕ) → list_any (λ q. is_this q.0 q.1 x) (each_of (job_for t) past) ≡ (x.task == t)
  pub alone : x.alone ≡ true → first_of (open_jobs (take (x.at + 1) past) x.child) ≡ Some x.job

pub record AreOpen (past : List Entry) (jobs : List Open) : Type 0 where
  pub numbered : AreNumbered past
  pub each : (c : ℕ) → jobs_on c jobs ≡ open_jobs past c
  pub first : All (IsAsked past) jobs

-- ---- settled jobs

abbrev pub IsTold : List Entry → Told → Type 0
IsTold past x = verdict_of past x.child x.job ≡ Some x.verdict

abbrev pub AreTold : List Entry → List Told → Type 0
AreTold past told = All (IsTold past) told

-- where the tables are known
pub record AreJobsKnown (past : List Entry) (jobs : Jobs) : Type 0 where
  pub list : IsTrue jobs.known → AreOpen past jobs.list.items
  pub told : IsTrue jobs.known → AreTold past jobs.told.items
