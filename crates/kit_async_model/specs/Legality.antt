-- Which journals a kit may have.
use Rattle.std.specs.Prelude.{ℕ, ◌≡◌, ◌==◌, ◌&&◌, ◌||◌, not, nat_lt, Bool, true, false, if◌then◌else◌, List, [], ◌∷◌, is_none}
use Rattle.std.specs.List.{list_any, list_all}
use Rattle.kit_serve.specs.declared.kit.call.Said.{Said}
use Rattle.kit_serve.specs.Kit.Calls.{is_line_said}
use Rattle.kit_async_model.specs.declared.setup.Setup.{Setup}
use Rattle.kit_async_model.specs.declared.job.Job.{Job}
use Rattle.kit_async_model.specs.declared.entry.Entry.{Entry}
use Rattle.kit_async_model.specs.declared.entry.Entry.TheVariants.{Heard, Take, Call, Say, Wrote, Close, Lack}
use Rattle.kit_async_model.specs.Jobs.{is_making_ready, is_awaiting, is_for_any, is_worked_by, is_job_line, has_number, is_first_of_key}
use Rattle.kit_async_model.specs.Standings.{Standing, opening, after, standing}

-- ---- hearing

-- No line is heard while the remotes get ready, and without tags none while a request is worked on.
abbrev pub holds_back : Setup → Bool → Job → Bool
holds_back setup tagged job = if is_making_ready job then not (is_awaiting setup job) else not tagged

abbrev pub may_hear : Setup → Standing → Bool
may_hear setup s = not s.over && not s.closed && not (list_any (holds_back setup s.tagged) s.jobs)

-- ---- taking up a request

-- the remote has taken up nothing that it hasn't answered
abbrev pub is_idle : List Job → ℕ → Bool
is_idle jobs remote = not (list_any (is_worked_by remote) jobs)

-- Any remote may take it up: nobody has, nor was anyone called for it, and no earlier request that is open names its key.
abbrev pub is_free : Setup → List Job → Job → Bool
is_free setup jobs job = is_for_any setup job && is_none job.taken && job.calls == 0 && is_first_of_key jobs job

-- an open job of that number is so
abbrev pub some_job : (Job → Bool) → ℕ → List Job → Bool
some_job test number jobs = list_any (λ job. has_number number job && test job) jobs

abbrev pub may_take : Setup → Standing → ℕ → ℕ → Bool
may_take setup s job remote =
    not s.over && nat_lt remote setup.remotes && is_idle s.jobs remote && some_job (is_free setup s.jobs) job s.jobs

-- ---- a call

-- it is this remote's turn to get ready
abbrev pub is_turn_of : Setup → List Job → ℕ → Job → Bool
is_turn_of setup jobs remote job =
    is_making_ready job && not (is_awaiting setup job) && not job.settled
    && job.calls == remote && nat_lt remote setup.remotes && is_idle jobs remote

-- A remote is called for what it took up, once; or to get ready, in its turn.
abbrev pub is_called : Setup → List Job → ℕ → Job → Bool
is_called setup jobs remote job = if is_making_ready job then is_turn_of setup jobs remote job else is_worked_by remote job

abbrev pub may_call : Setup → Standing → ℕ → ℕ → Said → Bool
may_call setup s job remote said = is_line_said said && some_job (is_called setup s.jobs remote) job s.jobs

-- ---- what may follow

abbrev pub is_some_line : List (List ℕ) → Bool
is_some_line [] = false
is_some_line (line ∷ lines) = true

-- where nothing is due, nothing is said
abbrev pub may_come : Setup → Standing → Entry → Bool
may_come setup s (Heard line) = may_hear setup s
may_come setup s (Take job remote) = may_take setup s job remote
may_come setup s (Call job remote said) = may_call setup s job remote said
may_come setup s (Say job line) = false
may_come setup s Wrote = is_some_line s.unwritten
may_come setup s Close = not s.over && not s.closed
may_come setup s Lack = false

-- it is said; or there is no memory for it
abbrev pub is_said : ℕ × List ℕ → Entry → Bool
is_said due (Say job line) = job == due.0 && is_job_line job due.1 line
is_said due Lack = true
is_said due entry = false

abbrev pub comes_where : Setup → Standing → List (ℕ × List ℕ) → Entry → Bool
comes_where setup s [] entry = may_come setup s entry
comes_where setup s (due ∷ rest) entry = is_said due entry

-- what is due comes next, and else what may come
abbrev pub follows : Setup → Standing → Entry → Bool
follows setup s entry = comes_where setup s s.due entry

abbrev pub legal_from : Setup → Standing → List Entry → Bool
legal_from setup s [] = true
legal_from setup s (entry ∷ rest) = follows setup s entry && legal_from setup (after setup s entry) rest

-- each entry may stand after those before it
abbrev pub is_legal : Setup → List Entry → Bool
is_legal setup journal = legal_from setup opening journal

-- and nothing is left due
pub record Legal (setup : Setup) (journal : List Entry) : Type 0 where
  pub follow : is_legal setup journal ≡ true
  pub told : (standing setup journal).due ≡ []

-- ---- the end

-- no more can come of what was heard
abbrev pub is_done : Setup → Standing → Bool
is_done setup s = s.over || (s.closed && list_all (is_awaiting setup) s.jobs)

-- no memory was found for a line that was due
abbrev pub is_lack : Entry → Bool
is_lack Lack = true
is_lack entry = false

abbrev pub is_finished : Setup → Standing → Bool
is_finished setup s = is_done setup s && not (is_some_line s.unwritten)

-- all that could be said is said and written
pub record IsFinished (setup : Setup) (s : Standing) : Type 0 where
  pub done : is_done setup s ≡ true
  pub written : s.unwritten ≡ []
