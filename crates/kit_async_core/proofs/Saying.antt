-- Lines that are said for a job one after the other.
use Rattle.std.proofs.Common.{◌≡◌, ℕ, List, [], ◌∷◌, ◌++◌, refl, ap, ◌∙◌, false, Some, Option, append_assoc}
use Rattle.std.specs.Prelude.{drop, map, fold}
use Rattle.kit_async_model.specs.declared.setup.Setup.{Setup}
use Rattle.kit_async_model.specs.declared.job.Job.{Job}
use Rattle.kit_async_model.specs.declared.entry.Entry.{Entry}
use Rattle.kit_async_model.specs.declared.entry.Entry.TheVariants.{Say}
use Rattle.kit_async_model.specs.Events.{due_said}
use Rattle.kit_async_model.specs.Jobs.{is_awaiting, job_line, job_of, without_job}
use Rattle.kit_async_model.specs.Standings.{Standing, is_some_due, told_by, said_in, after}

-- what is said of a job, by the lines that are due
abbrev pub with_number : ℕ → List (List ℕ) → List (ℕ × List ℕ)
with_number n lines = map (λ line. (n, line)) lines

-- these lines, said for a job
abbrev pub say_all : ℕ → List (List ℕ) → List Entry
say_all n lines = map (λ line. Say n line) lines

pub each_said : (n : ℕ) (lines : List (List ℕ)) → due_said (with_number n lines) ≡ say_all n (map (job_line n) lines)
each_said n [] = refl
each_said n (line ∷ lines) = ap (λ (es : List Entry). Say n (job_line n line) ∷ es) (each_said n lines)

-- where they are said one after the other, the job is open until the last of them
pub said_through : (setup : Setup) (t : Standing) (job : Job) (line : List ℕ) (lines : List (List ℕ)) → t.due ≡ with_number job.number (line ∷ lines)
    → job_of t.jobs job.number ≡ Some job
    → fold (after setup) t (due_said (with_number job.number (line ∷ lines)))
    ≡ said_in setup (record t { due = []; unwritten = t.unwritten ++ map (job_line job.number) (line ∷ lines) }) (Some job)
said_through setup t job line [] d f =
    let l : List ℕ = job_line job.number line in
    ap (λ (due : List (ℕ × List ℕ)). said_in setup (record t { due = drop 1 due; unwritten = t.unwritten ++ l ∷ [] }) (job_of t.jobs job.number)) d
    ∙ ap (said_in setup (record t { due = []; unwritten = t.unwritten ++ l ∷ [] })) f
said_through setup t job line (next ∷ rest) d f =
    let l : List ℕ = job_line job.number line in
    let u : Standing = record t { due = with_number job.number (next ∷ rest); unwritten = t.unwritten ++ l ∷ [] } in
    let first : after setup t (Say job.number l) ≡ u =
    ap (λ (due : List (ℕ × List ℕ)). said_in setup (record t { due = drop 1 due; unwritten = t.unwritten ++ l ∷ [] }) (job_of t.jobs job.number)) d
    ∙ ap (said_in setup u) f in
    ap (λ (v : Standing). fold (after setup) v (due_said (with_number job.number (next ∷ rest)))) first
    ∙ said_through setup u job next rest refl f
    ∙ ap (λ (ls : List (List ℕ)). said_in setup (record t { due = []; unwritten = ls }) (Some job)) (append_assoc t.unwritten (l ∷ []) (map (job_line job.number) (next ∷ rest)))

-- the last of them settles it, where it awaits no value
pub said_goes : (setup : Setup) (u : Standing) (job : Job) → is_some_due u.due ≡ false → u.over ≡ false → is_awaiting setup job ≡ false
    → said_in setup u (Some job) ≡ record u { told = told_by u.prepared job u.told; jobs = without_job job.number u.jobs }
said_goes setup u job d o a = rw (d, o, a) refl
