-- The calls that a journal has, and what a remote is to be called for.
use Rattle.std.specs.Prelude.{ℕ, ◌≡◌, ◌==◌, nat_lt, true, if◌then◌else◌, List, [], ◌∷◌, ◌++◌, find, Option, Some, None}
use Rattle.kit_serve.specs.declared.kit.call.Said.{Said}
use Rattle.kit_serve.specs.declared.kit.call.Call.{Call as RemoteCall}
use Rattle.kit_serve.specs.declared.kit.call.Asked.{Asked}
use Rattle.kit_serve.specs.Kit.Kits.{asked_by}
use Rattle.kit_async_model.specs.declared.setup.Setup.{Setup}
use Rattle.kit_async_model.specs.declared.job.Job.{Job}
use Rattle.kit_async_model.specs.declared.entry.Entry.{Entry}
use Rattle.kit_async_model.specs.declared.entry.Entry.TheVariants.{Call}
use Rattle.kit_async_model.specs.Jobs.{due_in, work_asked, job_of}
use Rattle.kit_async_model.specs.Legality.{is_called}
use Rattle.kit_async_model.specs.Standings.{Standing, opening, after}

-- a call with its request's arguments, and with what the entry says
abbrev pub call_with : Option Asked → Said → List RemoteCall
call_with None said = []
call_with (Some asked) said = record { asked = asked; said = said } ∷ []

abbrev pub call_for : Setup → Option Job → Said → List RemoteCall
call_for setup None said = []
call_for setup (Some job) said = call_with (asked_by (due_in setup job)) said

abbrev pub call_of : Setup → Standing → ℕ → Entry → List RemoteCall
call_of setup s remote (Call job n said) = if n == remote then call_for setup (job_of s.jobs job) said else []
call_of setup s remote entry = []

abbrev pub calls_from : Setup → Standing → ℕ → List Entry → List RemoteCall
calls_from setup s remote [] = []
calls_from setup s remote (entry ∷ rest) = call_of setup s remote entry ++ calls_from setup (after setup s entry) remote rest

-- the calls of the remote that the journal has
abbrev pub calls_of : Setup → ℕ → List Entry → List RemoteCall
calls_of setup remote journal = calls_from setup opening remote journal

-- the remote is to be called for this job, which asks for that
pub record IsAsked (setup : Setup) (s : Standing) (remote : ℕ) (asked : Asked) : Type 0 where
  pub job : Job
  pub within : nat_lt remote setup.remotes ≡ true
  pub found : find (is_called setup s.jobs remote) s.jobs ≡ Some job
  pub asks : work_asked setup job ≡ Some asked
