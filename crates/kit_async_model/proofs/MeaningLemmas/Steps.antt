-- What an entry is to an open job.
use Rattle.std.proofs.Common.{◌≡◌, ◌⊎◌, ℕ, List, [], ◌∷◌, refl, ap, ◌∙◌, true, false, ◌==◌, Some, None, Option}
use Rattle.std.specs.Prelude.{map}
use Rattle.annex_model.specs.Messages.{HostMessage}
use Rattle.kit_async_model.specs.declared.setup.Setup.{Setup}
use Rattle.kit_async_model.specs.declared.job.Job.{Job}
use Rattle.kit_async_model.specs.Jobs.{job_of, lines_in}
use Rattle.kit_async_model.specs.Standings.{Standing, due_of_job, due_of}
use Rattle.kit_async_model.specs.Meanings.{Item, of_job}
use Rattle.kit_async_model.proofs.MeaningLemmas.Numbers.{number_of}
use Rattle.kit_async_model.proofs.MeaningLemmas.Phases.{Phase, IsLeft}
use Rattle.kit_async_model.proofs.MeaningLemmas.Stands.{At, is_due_of}

-- ---- what becomes of the job

-- the entry is nothing to it
pub record Stays (setup : Setup) (n : ℕ) (request : Option HostMessage) (p : Phase) (items : List Item) (t : Standing) : Type 0 where
  pub none : items ≡ []
  pub at : At setup t n request p

-- the entry is an item of it, after which something else comes next
pub record Moves (setup : Setup) (n : ℕ) (request : Option HostMessage) (p : Phase) (items : List Item) (t : Standing) : Type 0 where
  pub to : Phase
  pub item : Item
  pub are : items ≡ item ∷ []
  pub at : At setup t n request to
  pub left : (more : List Item) → IsLeft setup request to more → IsLeft setup request p (item ∷ more)

-- the entry is its last item
pub record Closes (setup : Setup) (n : ℕ) (request : Option HostMessage) (p : Phase) (items : List Item) (t : Standing) : Type 0 where
  pub item : Item
  pub are : items ≡ item ∷ []
  pub gone : job_of t.jobs n ≡ None
  pub left : IsLeft setup request p (item ∷ [])

abbrev pub Steps : Setup → ℕ → Option HostMessage → Phase → List Item → Standing → Type 0
Steps setup n request p items t = Stays setup n request p items t ⊎ (Moves setup n request p items t ⊎ Closes setup n request p items t)

-- ---- what is due of another

pub mapped_other : (m n : ℕ) (lines : List (List ℕ)) → (m == n) ≡ false → is_due_of n (map (λ line. (m, line)) lines) ≡ false
mapped_other m n [] h = refl
mapped_other m n (line ∷ lines) h = rw h (mapped_other m n lines h)

pub job_other : (setup : Setup) (told : List (List ℕ)) (j : Job) (m n : ℕ) → j.number ≡ m → (m == n) ≡ false → is_due_of n (due_of_job setup told j) ≡ false
job_other setup told j m n e h = mapped_other j.number n (lines_in setup told j) (ap (λ (k : ℕ). k == n) e ∙ h)

pub due_other : (setup : Setup) (told : List (List ℕ)) (jobs : List Job) (m n : ℕ) → (m == n) ≡ false → is_due_of n (due_of setup told (job_of jobs m)) ≡ false
due_other setup told jobs m n h = go (job_of jobs m) refl
  where
    go : (o : Option Job) → job_of jobs m ≡ o → is_due_of n (due_of setup told o) ≡ false
    go None e = refl
    go (Some j) e = job_other setup told j m n (number_of jobs m j e) h

pub of_other : (m n : ℕ) (item : Item) → (m == n) ≡ false → of_job n (Some (m, item)) ≡ []
of_other m n item h = rw h refl

pub of_own : (n : ℕ) (item : Item) → (n == n) ≡ true → of_job n (Some (n, item)) ≡ item ∷ []
of_own n item h = rw h refl

pub none_due : (n : ℕ) (due : List (ℕ × List ℕ)) → due ≡ [] → is_due_of n due ≡ false
none_due n due d = ap (is_due_of n) d
