-- The places of open jobs, no two of which have one number.
use Rattle.std.proofs.Common.{zero, suc, ◌≡◌, ◌⊎◌, inl, inr, ℕ, ◌+◌, ◌-◌, ◌≤◌, ◌<◌, List, [], ◌∷◌, ◌++◌, refl, sym, ap, subst, ◌∙◌, Bool, true, false, ◌==◌, cond, Some, None, Option, length, get_or, arith}
use Rattle.std.specs.Prelude.{find, position, slice_get, set, remove, nat_lt}
use Rattle.std.specs.List.{list_any, position_or_len}
use Rattle.std.proofs.lemmas.Bool.Decides.{nat_tests}
use Rattle.std.proofs.lemmas.Option.{slice_get_past, slice_get_cases, slice_get_within, slice_get_read}
use Rattle.std.proofs.lemmas.List.Folds.{find_at}
use Rattle.kit_async_model.specs.declared.setup.Setup.{Setup}
use Rattle.kit_async_model.specs.declared.job.Job.{Job}
use Rattle.kit_async_model.specs.Jobs.{has_number, job_of, with_job, without_job}
use Rattle.kit_async_model.specs.Books.{AreApart, most_calls, calls_owed}
use Rattle.ann_key.proofs.Booleans.{both_false as neither}
use Rattle.ann_key.proofs.Numbers.{other_number as apart_number}

-- ---- what a search finds

pub record Found (p : Job → Bool) (jobs : List Job) (place : ℕ) : Type 0 where
  pub job : Job
  pub there : slice_get jobs place ≡ Some job
  pub find_is : find p jobs ≡ Some job
  pub passes : p job ≡ true
  pub within : place < length jobs

pub passes_of : (p : Job → Bool) (jobs : List Job) (job : Job) → find p jobs ≡ Some job → p job ≡ true
passes_of p [] job e = absurd cc
passes_of p (x ∷ xs) job e = go (p x) refl e (passes_of p xs job)
  where
    go : (b : Bool) → p x ≡ b → cond {A = Option Job} b (Some x) (find p xs) ≡ Some job → (find p xs ≡ Some job → p job ≡ true) → p job ≡ true
    go true h k more = let is : x ≡ job = cc in subst (λ (j : Job). p j ≡ true) is h
    go false h k more = more k

pub some_there : (jobs : List Job) (place : ℕ) → place < length jobs → (job : Job) × (slice_get jobs place ≡ Some job)
some_there jobs place h = go (slice_get_cases jobs place).1
  where
    go : ((x : Job) × (place < length jobs) × (slice_get jobs place ≡ Some x) × (get_or jobs place x ≡ x)) ⊎ ((length jobs ≤ place) × (slice_get jobs place ≡ None))
        → (job : Job) × (slice_get jobs place ≡ Some job)
    go (inl w) = (w.0, w.2)
    go (inr w) = absurd (omega (arith, w.0, h))

pub found_place : (p : Job → Bool) (jobs : List Job) (place : ℕ) → position p jobs ≡ Some place → Found p jobs place
found_place p jobs place e = go (nat_lt (position_or_len p jobs) (length jobs)) refl e
  where
    go : (b : Bool) → nat_lt (position_or_len p jobs) (length jobs) ≡ b → cond {A = Option ℕ} b (Some (position_or_len p jobs)) None ≡ Some place → Found p jobs place
    go false h k = absurd cc
    go true h k =
        let is : position_or_len p jobs ≡ place = cc in
        let few : position_or_len p jobs < length jobs = grind (arith, nat_tests) in
        let within : place < length jobs = omega (arith, is, few) in
        let some = some_there jobs place within in
        let found : find p jobs ≡ Some some.0 = find_at p jobs ∙ ap (slice_get jobs) is ∙ some.1 in
        record { job = some.0; there = some.1; find_is = found; passes = passes_of p jobs some.0 found; within = within }

pub found_none : (p : Job → Bool) (jobs : List Job) → position p jobs ≡ None → find p jobs ≡ None
found_none p jobs e = go (nat_lt (position_or_len p jobs) (length jobs)) refl e
  where
    go : (b : Bool) → nat_lt (position_or_len p jobs) (length jobs) ≡ b → cond {A = Option ℕ} b (Some (position_or_len p jobs)) None ≡ None → find p jobs ≡ None
    go true h k = absurd cc
    go false h k =
        let past : length jobs ≤ position_or_len p jobs = grind (arith, nat_tests) in
        find_at p jobs ∙ slice_get_past jobs (position_or_len p jobs) past

-- what was read at a place is what stands there
pub read_is : (jobs : List Job) (place : ℕ) (job x : Job) → slice_get jobs place ≡ Some job → x ≡ get_or jobs place x → x ≡ job
read_is jobs place job x t r =
    let within : place < length jobs = slice_get_within jobs place job t in
    let some : slice_get jobs place ≡ Some x = slice_get_read jobs (length jobs) place x refl within r in
    let both_are : Some x ≡ Some job = sym some ∙ t in
    cc

-- ---- numbers

same_number : (job : Job) → has_number job.number job ≡ true
same_number job = grind (arith, nat_tests)

-- a job that stands there hasn't the number that none of them has
not_there : (n : ℕ) (jobs : List Job) (place : ℕ) (job : Job) → list_any (has_number n) jobs ≡ false → slice_get jobs place ≡ Some job → has_number n job ≡ false
not_there n [] place job h t = absurd cc
not_there n (x ∷ xs) zero job h t =
    let is : x ≡ job = cc in
    subst (λ (j : Job). has_number n j ≡ false) is (neither (has_number n x) (list_any (has_number n) xs) h).0
not_there n (x ∷ xs) (suc k) job h t = not_there n xs k job (neither (has_number n x) (list_any (has_number n) xs) h).1 t

pub none_open : (n : ℕ) (jobs : List Job) → job_of jobs n ≡ None → list_any (has_number n) jobs ≡ false
none_open n [] h = refl
none_open n (x ∷ xs) h = go (has_number n x) refl h (none_open n xs)
  where
    go : (b : Bool) → has_number n x ≡ b → cond {A = Option Job} b (Some x) (job_of xs n) ≡ None → (job_of xs n ≡ None → list_any (has_number n) xs ≡ false)
        → list_any (has_number n) (x ∷ xs) ≡ false
    go true e k more = absurd cc
    go false e k more = rw e (more k)

-- ---- what is done to the job at a place

no_change : (n : ℕ) (change : Job → Job) (jobs : List Job) → list_any (has_number n) jobs ≡ false → with_job n change jobs ≡ jobs
no_change n change [] h = refl
no_change n change (x ∷ xs) h =
    let k = neither (has_number n x) (list_any (has_number n) xs) h in
    rw (k.0, no_change n change xs k.1) refl

pub no_removal : (n : ℕ) (jobs : List Job) → list_any (has_number n) jobs ≡ false → without_job n jobs ≡ jobs
no_removal n [] h = refl
no_removal n (x ∷ xs) h =
    let k = neither (has_number n x) (list_any (has_number n) xs) h in
    rw (k.0, no_removal n xs k.1) refl

pub change_there : (change : Job → Job) (jobs : List Job) (place : ℕ) (job : Job) → AreApart jobs → slice_get jobs place ≡ Some job
    → with_job job.number change jobs ≡ set jobs place (change job)
change_there change [] place job a t = absurd cc
change_there change (x ∷ xs) zero job a t =
    let is : x ≡ job = cc in
    subst (λ (j : Job). with_job j.number change (x ∷ xs) ≡ change j ∷ xs) is
    (rw (same_number x, no_change x.number change xs a.0) refl)
change_there change (x ∷ xs) (suc k) job a t =
    let other : has_number job.number x ≡ false = apart_number x.number job.number job.number (not_there x.number xs k job a.0 t) (same_number job) in
    rw (other, change_there change xs k job a.1 t) refl

pub removal_there : (jobs : List Job) (place : ℕ) (job : Job) → AreApart jobs → slice_get jobs place ≡ Some job
    → without_job job.number jobs ≡ remove jobs place
removal_there [] place job a t = absurd cc
removal_there (x ∷ xs) zero job a t =
    let is : x ≡ job = cc in
    subst (λ (j : Job). without_job j.number (x ∷ xs) ≡ xs) is
    (rw (same_number x, no_removal x.number xs a.0) refl)
removal_there (x ∷ xs) (suc k) job a t =
    let other : has_number job.number x ≡ false = apart_number x.number job.number job.number (not_there x.number xs k job a.0 t) (same_number job) in
    rw (other, removal_there xs k job a.1 t) refl

pub job_there : (jobs : List Job) (place : ℕ) (job : Job) → AreApart jobs → slice_get jobs place ≡ Some job → job_of jobs job.number ≡ Some job
job_there [] place job a t = absurd cc
job_there (x ∷ xs) zero job a t =
    let is : x ≡ job = cc in
    subst (λ (j : Job). job_of (x ∷ xs) j.number ≡ Some j) is (rw (same_number x) refl)
job_there (x ∷ xs) (suc k) job a t =
    let other : has_number job.number x ≡ false = apart_number x.number job.number job.number (not_there x.number xs k job a.0 t) (same_number job) in
    rw (other, job_there xs k job a.1 t) refl

pub job_changed : (change : Job → Job) (jobs : List Job) (n : ℕ) (job : Job) → ((j : Job) → (change j).number ≡ j.number) → job_of jobs n ≡ Some job
    → job_of (with_job n change jobs) n ≡ Some (change job)
job_changed change [] n job same t = absurd cc
job_changed change (x ∷ xs) n job same t = go (has_number n x) refl t (job_changed change xs n job same)
  where
    go : (b : Bool) → has_number n x ≡ b → cond {A = Option Job} b (Some x) (job_of xs n) ≡ Some job
        → (job_of xs n ≡ Some job → job_of (with_job n change xs) n ≡ Some (change job)) → job_of (with_job n change (x ∷ xs)) n ≡ Some (change job)
    go true e k more =
        let is : x ≡ job = cc in
        let kept : has_number n (change x) ≡ true = subst (λ (m : ℕ). (m == n) ≡ true) (sym (same x)) e in
        rw (e, kept) (ap (λ (j : Job). Some (change j)) is)
    go false e k more = rw (e, e) (more k)

pub job_last : (jobs : List Job) (job : Job) → list_any (has_number job.number) jobs ≡ false → job_of (jobs ++ job ∷ []) job.number ≡ Some job
job_last [] job h = rw (same_number job) refl
job_last (x ∷ xs) job h =
    let k = neither (has_number job.number x) (list_any (has_number job.number) xs) h in
    rw k.0 (job_last xs job k.1)

pub removal_last : (jobs : List Job) (job : Job) → list_any (has_number job.number) jobs ≡ false → without_job job.number (jobs ++ job ∷ []) ≡ jobs
removal_last [] job h = rw (same_number job) refl
removal_last (x ∷ xs) job h =
    let k = neither (has_number job.number x) (list_any (has_number job.number) xs) h in
    rw (k.0, removal_last xs job k.1) refl

-- a job that was changed goes like one that wasn't
pub removal_changed : (change : Job → Job) (jobs : List Job) (n : ℕ) → ((j : Job) → (change j).number ≡ j.number)
    → without_job n (with_job n change jobs) ≡ without_job n jobs
removal_changed change [] n same = refl
removal_changed change (x ∷ xs) n same = go (has_number n x) refl (removal_changed change xs n same)
  where
    go : (b : Bool) → has_number n x ≡ b → without_job n (with_job n change xs) ≡ without_job n xs → without_job n (with_job n change (x ∷ xs)) ≡ without_job n (x ∷ xs)
    go true e more =
        let kept : has_number n (change x) ≡ true = subst (λ (m : ℕ). (m == n) ≡ true) (sym (same x)) e in
        rw (e, kept) more
    go false e more = rw (e, e) (ap (λ (js : List Job). x ∷ js) more)

-- ---- the calls that are owed

pub calls_set : (setup : Setup) (jobs : List Job) (place : ℕ) (job new : Job) → slice_get jobs place ≡ Some job
    → calls_owed setup (set jobs place new) + (most_calls setup job - job.calls) ≡ calls_owed setup jobs + (most_calls setup new - new.calls)
calls_set setup [] place job new t = absurd cc
calls_set setup (x ∷ xs) zero job new t =
    let is : x ≡ job = cc in
    subst (λ (j : Job). ((most_calls setup new - new.calls) + calls_owed setup xs) + (most_calls setup j - j.calls) ≡ ((most_calls setup x - x.calls) + calls_owed setup xs) + (most_calls setup new - new.calls)) is
    (omega arith)
calls_set setup (x ∷ xs) (suc k) job new t = let more = calls_set setup xs k job new t in omega (arith, more)

pub calls_remove : (setup : Setup) (jobs : List Job) (place : ℕ) (job : Job) → slice_get jobs place ≡ Some job
    → calls_owed setup (remove jobs place) + (most_calls setup job - job.calls) ≡ calls_owed setup jobs
calls_remove setup [] place job t = absurd cc
calls_remove setup (x ∷ xs) zero job t =
    let is : x ≡ job = cc in
    subst (λ (j : Job). calls_owed setup xs + (most_calls setup j - j.calls) ≡ (most_calls setup x - x.calls) + calls_owed setup xs) is (omega arith)
calls_remove setup (x ∷ xs) (suc k) job t = let more = calls_remove setup xs k job t in omega (arith, more)

pub calls_append : (setup : Setup) (jobs : List Job) (job : Job) → calls_owed setup (jobs ++ job ∷ []) ≡ calls_owed setup jobs + (most_calls setup job - job.calls)
calls_append setup [] job = omega arith
calls_append setup (x ∷ xs) job = let more = calls_append setup xs job in omega (arith, more)
