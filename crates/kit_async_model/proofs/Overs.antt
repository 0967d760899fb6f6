-- What may come once a kit is over, or once nothing more can come.
use Rattle.std.proofs.Common.{◌≡◌, ◌⊎◌, inl, inr, ℕ, List, [], ◌∷◌, ◌++◌, refl, sym, subst, ◌∙◌, Bool, true, false, not, Some, None, Option}
use Rattle.std.specs.Prelude.{◌&&◌, ◌||◌, fold, nat_lt, is_some}
use Rattle.std.specs.List.{list_any, list_all}
use Rattle.kit_serve.specs.declared.kit.call.Said.{Said}
use Rattle.kit_serve.specs.Kit.Calls.{is_line_said}
use Rattle.kit_async_model.specs.declared.setup.Setup.{Setup}
use Rattle.kit_async_model.specs.declared.job.Job.{Job}
use Rattle.kit_async_model.specs.declared.entry.Entry.{Entry}
use Rattle.kit_async_model.specs.declared.entry.Entry.TheVariants.{Heard, Take, Call, Say, Wrote, Close, Lack}
use Rattle.kit_async_model.specs.Jobs.{is_making_ready, is_awaiting, next_name, has_number, job_of}
use Rattle.kit_async_model.specs.Laws.{is_spoken}
use Rattle.kit_async_model.specs.Legality.{holds_back, may_hear, is_idle, is_free, some_job, may_take, is_called, is_some_line, may_come, comes_where, follows, legal_from, is_legal, is_done, IsFinished}
use Rattle.kit_async_model.specs.Standings.{Standing, after, called_in, standing}
use Rattle.kit_async_model.proofs.Fronts.{parts, standing_append}
use Rattle.std.proofs.lemmas.Bool.{and_right as and_false, and_parts as both}
use Rattle.ann_key.proofs.Booleans.{not_and_so as untrue}

-- ---- tests

either : (a b : Bool) → (a || b) ≡ true → (a ≡ true) ⊎ ((a ≡ false) × (b ≡ true))
either true b h = inl refl
either false b h = inr (refl, h)

-- ---- one entry of a kit that is over

record Kept (s t : Standing) (e : Entry) : Type 0 where
  silent : is_spoken e ≡ false
  over : t.over ≡ true
  due : t.due ≡ []

called_over : (setup : Setup) (s : Standing) (said : Said) (o : Option Job) → s.over ≡ true → s.due ≡ []
    → ((called_in setup s said o).over ≡ true) × ((called_in setup s said o).due ≡ [])
called_over setup s said None o d = (o, d)
called_over setup s said (Some job) o d = (o, rw o refl)

over_step : (setup : Setup) (s : Standing) (e : Entry) → s.over ≡ true → s.due ≡ [] → may_come setup s e ≡ true → Kept s (after setup s e) e
over_step setup s (Heard line) o d m = let shut : may_hear setup s ≡ false = rw o refl in absurd cc
over_step setup s (Take job remote) o d m = let shut : may_take setup s job remote ≡ false = rw o refl in absurd cc
over_step setup s (Call job remote said) o d m =
    let c = called_over setup s said (job_of s.jobs job) o d in
    record { silent = refl; over = c.0; due = c.1 }
over_step setup s (Say job line) o d m = absurd cc
over_step setup s Wrote o d m = record { silent = refl; over = o; due = d }
over_step setup s Close o d m = let shut : may_come setup s Close ≡ false = rw o refl in absurd cc
over_step setup s Lack o d m = absurd cc

-- where nothing is due, what follows may come
comes : (setup : Setup) (s : Standing) (e : Entry) → s.due ≡ [] → follows setup s e ≡ true → may_come setup s e ≡ true
comes setup s e d h = subst (λ (due : List (ℕ × List ℕ)). comes_where setup s due e ≡ true) d h

over_from : (setup : Setup) (s : Standing) (rest : List Entry) → s.over ≡ true → s.due ≡ [] → legal_from setup s rest ≡ true → list_any is_spoken rest ≡ false
over_from setup s [] o d h = refl
over_from setup s (e ∷ rest) o d h =
    let b = both (follows setup s e) (legal_from setup (after setup s e) rest) h in
    let k = over_step setup s e o d (comes setup s e d b.0) in
    rw (k.silent, over_from setup (after setup s e) rest k.over k.due b.1) refl

pub over_is_last : (setup : Setup) (past rest : List Entry) → is_legal setup (past ++ rest) ≡ true
    → (standing setup past).over ≡ true → (standing setup past).due ≡ [] → list_any is_spoken rest ≡ false
over_is_last setup past rest h o d = over_from setup (standing setup past) rest o d (parts setup past rest h).1

-- ---- all open jobs await a value

-- such a job is nothing for a remote
making : (setup : Setup) (job : Job) → is_awaiting setup job ≡ true → is_making_ready job ≡ true
making setup job h = (both (is_making_ready job) (is_some (next_name setup job)) h).0

not_free : (setup : Setup) (jobs : List Job) (job : Job) → is_awaiting setup job ≡ true → is_free setup jobs job ≡ false
not_free setup jobs job a = rw (making setup job a) refl

not_called : (setup : Setup) (jobs : List Job) (remote : ℕ) (job : Job) → is_awaiting setup job ≡ true → is_called setup jobs remote job ≡ false
not_called setup jobs remote job a = rw (making setup job a, (both (is_making_ready job) (is_some (next_name setup job)) a).1) refl

no_job : (setup : Setup) (test : Job → Bool) → ((job : Job) → is_awaiting setup job ≡ true → test job ≡ false) → (n : ℕ) (jobs : List Job)
    → list_all (is_awaiting setup) jobs ≡ true → some_job test n jobs ≡ false
no_job setup test f n [] h = refl
no_job setup test f n (job ∷ jobs) h =
    let b = both (is_awaiting setup job) (list_all (is_awaiting setup) jobs) h in
    rw (and_false (has_number n job) (test job) (f job b.0), no_job setup test f n jobs b.1) refl

-- ---- one entry once all is done and written

record Stays (s t : Standing) (e : Entry) (setup : Setup) : Type 0 where
  silent : is_spoken e ≡ false
  done : is_done setup t ≡ true
  written : t.unwritten ≡ []
  due : t.due ≡ []

-- nothing may come after a kit that hears no more and whose open jobs await a value
nothing : (setup : Setup) (s : Standing) (e : Entry) → s.closed ≡ true → list_all (is_awaiting setup) s.jobs ≡ true → s.unwritten ≡ [] → may_come setup s e ≡ true → ⊥
nothing setup s (Heard line) c a w m =
    let b = both (not s.over && not s.closed) (not (list_any (holds_back setup s.tagged) s.jobs)) m in
    untrue s.closed c (both (not s.over) (not s.closed) b.0).1
nothing setup s (Take job remote) c a w m =
    let b = both (not s.over && nat_lt remote setup.remotes && is_idle s.jobs remote) (some_job (is_free setup s.jobs) job s.jobs) m in
    let never : some_job (is_free setup s.jobs) job s.jobs ≡ false = no_job setup (is_free setup s.jobs) (not_free setup s.jobs) job s.jobs a in
    let now = b.1 in
    absurd cc
nothing setup s (Call job remote said) c a w m =
    let b = both (is_line_said said) (some_job (is_called setup s.jobs remote) job s.jobs) m in
    let never : some_job (is_called setup s.jobs remote) job s.jobs ≡ false = no_job setup (is_called setup s.jobs remote) (not_called setup s.jobs remote) job s.jobs a in
    let now = b.1 in
    absurd cc
nothing setup s (Say job line) c a w m = absurd cc
nothing setup s Wrote c a w m = let never : is_some_line s.unwritten ≡ false = rw w refl in absurd cc
nothing setup s Close c a w m = untrue s.closed c (both (not s.over) (not s.closed) m).1
nothing setup s Lack c a w m = absurd cc

pub called_written : (setup : Setup) (s : Standing) (said : Said) (o : Option Job) → (called_in setup s said o).unwritten ≡ s.unwritten
called_written setup s said None = refl
called_written setup s said (Some job) = refl

over_unwritten : (setup : Setup) (s : Standing) (e : Entry) → s.over ≡ true → s.unwritten ≡ [] → may_come setup s e ≡ true → (after setup s e).unwritten ≡ []
over_unwritten setup s (Heard line) o w m = let shut : may_hear setup s ≡ false = rw o refl in absurd cc
over_unwritten setup s (Take job remote) o w m = w
over_unwritten setup s (Call job remote said) o w m = called_written setup s said (job_of s.jobs job) ∙ w
over_unwritten setup s (Say job line) o w m = absurd cc
over_unwritten setup s Wrote o w m = rw w refl
over_unwritten setup s Close o w m = w
over_unwritten setup s Lack o w m = w

over_done : (setup : Setup) (s : Standing) → s.over ≡ true → is_done setup s ≡ true
over_done setup s o = rw o refl

done_step : (setup : Setup) (s : Standing) (e : Entry) → is_done setup s ≡ true → s.unwritten ≡ [] → s.due ≡ [] → may_come setup s e ≡ true → Stays s (after setup s e) e setup
done_step setup s e n w d m = go (either s.over (s.closed && list_all (is_awaiting setup) s.jobs) n)
  where
    go : (s.over ≡ true) ⊎ ((s.over ≡ false) × ((s.closed && list_all (is_awaiting setup) s.jobs) ≡ true)) → Stays s (after setup s e) e setup
    go (inl o) =
        let k = over_step setup s e o d m in
        record { silent = k.silent; done = over_done setup (after setup s e) k.over; written = over_unwritten setup s e o w m; due = k.due }
    go (inr c) =
        let b = both s.closed (list_all (is_awaiting setup) s.jobs) c.1 in
        absurd (nothing setup s e b.0 b.1 w m)

done_from : (setup : Setup) (s : Standing) (rest : List Entry) → is_done setup s ≡ true → s.unwritten ≡ [] → s.due ≡ [] → legal_from setup s rest ≡ true
    → IsFinished setup (fold (after setup) s rest) × (list_any is_spoken rest ≡ false)
done_from setup s [] n w d h = (record { done = n; written = w }, refl)
done_from setup s (e ∷ rest) n w d h =
    let b = both (follows setup s e) (legal_from setup (after setup s e) rest) h in
    let k = done_step setup s e n w d (comes setup s e d b.0) in
    let more = done_from setup (after setup s e) rest k.done k.written k.due b.1 in
    (more.0, rw (k.silent, more.1) refl)

pub finished_stays : (setup : Setup) (past rest : List Entry) → is_legal setup (past ++ rest) ≡ true → IsFinished setup (standing setup past) → (standing setup past).due ≡ []
    → IsFinished setup (standing setup (past ++ rest)) × (list_any is_spoken rest ≡ false)
finished_stays setup past rest h f d =
    let more = done_from setup (standing setup past) rest f.done f.written d (parts setup past rest h).1 in
    (subst (IsFinished setup) (sym (standing_append setup past rest)) more.0, more.1)
