-- The open job of a number, when the job of another is begun, changed or taken away.
use Rattle.std.proofs.Common.{◌≡◌, ℕ, List, [], ◌∷◌, ◌++◌, refl, sym, ap, ◌∙◌, Bool, true, false, not, ◌==◌, Some, None, arith}
use Rattle.std.specs.List.{list_any}
use Rattle.std.proofs.lemmas.Bool.Decides.{nat_tests}
use Rattle.kit_async_model.specs.declared.job.Job.{Job}
use Rattle.kit_async_model.specs.Jobs.{has_number, job_of, with_job, without_job}
use Rattle.kit_async_model.specs.Legality.{some_job}
use Rattle.kit_async_model.proofs.Places.{passes_of, none_open}
use Rattle.kit_async_model.proofs.Askings.{found_changed, found_kept, found_more, found_not, none_changed, none_kept, none_last}
use Rattle.std.proofs.lemmas.Bool.{eq-eqb as is_same, eqb-true as equal_is}
use Rattle.ann_key.proofs.Booleans.{both_false as neither}

-- ---- numbers

pub other_than : (j n m : ℕ) → (j == n) ≡ true → (m == n) ≡ false → (j == m) ≡ false
other_than j n m h k = grind (arith, nat_tests)

pub number_of : (jobs : List Job) (n : ℕ) (job : Job) → job_of jobs n ≡ Some job → job.number ≡ n
number_of jobs n job f = equal_is job.number n (passes_of (has_number n) jobs job f)

-- the open job hasn't another number
pub has_other : (jobs : List Job) (n m : ℕ) (job : Job) → job_of jobs n ≡ Some job → (m == n) ≡ false → has_number m job ≡ false
has_other jobs n m job f h = other_than job.number n m (passes_of (has_number n) jobs job f) h

-- a number that is new is another one
pub new_other : (jobs : List Job) (n m : ℕ) (job : Job) → job_of jobs n ≡ Some job → list_any (has_number m) jobs ≡ false → (m == n) ≡ false
new_other jobs n m job f none = go (m == n) refl
  where
    go : (b : Bool) → (m == n) ≡ b → (m == n) ≡ false
    go false e = e
    go true e =
        let not_it : (job.number == m) ≡ false = found_not (has_number n) (has_number m) jobs job f none in
        let it : (job.number == m) ≡ true = is_same job.number m (number_of jobs n job f ∙ sym (equal_is m n e)) in
        absurd cc

-- ---- a job that is open

pub still_changed : (jobs : List Job) (n m : ℕ) (job : Job) (change : Job → Job) → ((j : Job) → (change j).number ≡ j.number) → job_of jobs n ≡ Some job → (m == n) ≡ false
    → job_of (with_job m change jobs) n ≡ Some job
still_changed jobs n m job change same f h =
    found_changed (has_number n) m change (λ j t. ap (λ (k : ℕ). k == n) (sym (same j)) ∙ t) jobs job f (has_other jobs n m job f h)

pub still_kept : (jobs : List Job) (n m : ℕ) (job : Job) → job_of jobs n ≡ Some job → (m == n) ≡ false → job_of (without_job m jobs) n ≡ Some job
still_kept jobs n m job f h = found_kept (has_number n) (λ j. not (has_number m j)) jobs job f (ap not (has_other jobs n m job f h))

pub still_last : (jobs : List Job) (n : ℕ) (job new : Job) → job_of jobs n ≡ Some job → job_of (jobs ++ new ∷ []) n ≡ Some job
still_last jobs n job new f = found_more (has_number n) jobs (new ∷ []) job f

-- ---- a number without one

pub none_found : (n : ℕ) (jobs : List Job) → list_any (has_number n) jobs ≡ false → job_of jobs n ≡ None
none_found n [] h = refl
none_found n (x ∷ xs) h =
    let k = neither (has_number n x) (list_any (has_number n) xs) h in
    rw k.0 (none_found n xs k.1)

pub gone : (jobs : List Job) (n : ℕ) → job_of (without_job n jobs) n ≡ None
gone [] n = refl
gone (x ∷ xs) n = go (has_number n x) refl (gone xs n)
  where
    go : (b : Bool) → has_number n x ≡ b → job_of (without_job n xs) n ≡ None → job_of (without_job n (x ∷ xs)) n ≡ None
    go true e k = rw e k
    go false e k = rw (e, e) k

pub none_after : (jobs : List Job) (n m : ℕ) (change : Job → Job) → ((j : Job) → (change j).number ≡ j.number) → job_of jobs n ≡ None → job_of (with_job m change jobs) n ≡ None
none_after jobs n m change same h =
    none_found n (with_job m change jobs)
    (none_changed (has_number n) m change (λ j t. ap (λ (k : ℕ). k == n) (sym (same j)) ∙ t) jobs (none_open n jobs h))

pub none_without : (jobs : List Job) (n m : ℕ) → job_of jobs n ≡ None → job_of (without_job m jobs) n ≡ None
none_without jobs n m h = none_found n (without_job m jobs) (none_kept (has_number n) (λ j. not (has_number m j)) jobs (none_open n jobs h))

pub none_more : (jobs : List Job) (n : ℕ) (new : Job) → job_of jobs n ≡ None → (new.number == n) ≡ false → job_of (jobs ++ new ∷ []) n ≡ None
none_more jobs n new h other = none_found n (jobs ++ new ∷ []) (none_last (has_number n) jobs new (none_open n jobs h) other)

-- no test is passed by a job of a number that none has
pub none_passes : (test : Job → Bool) (jobs : List Job) (n : ℕ) → job_of jobs n ≡ None → some_job test n jobs ≡ false
none_passes test jobs n h = go jobs (none_open n jobs h)
  where
    go : (js : List Job) → list_any (has_number n) js ≡ false → some_job test n js ≡ false
    go [] k = refl
    go (x ∷ xs) k = let b = neither (has_number n x) (list_any (has_number n) xs) k in rw (b.0, go xs b.1) refl
