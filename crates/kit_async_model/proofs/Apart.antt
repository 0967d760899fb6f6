-- No two open jobs have one number.
use Rattle.std.proofs.Common.{◌≡◌, ℕ, List, [], ◌∷◌, ◌++◌, refl, ap, subst, ◌∙◌, Bool, true, false, not, ◌==◌, cond, Some, None, Option}
use Rattle.std.specs.Prelude.{◌&&◌, ◌||◌, filter, fold}
use Rattle.std.specs.List.{list_any}
use Rattle.annex_model.specs.Messages.{HostMessage, host_reading}
use Rattle.kit_serve.specs.declared.kit.call.Said.{Said}
use Rattle.kit_serve.specs.Kit.Kits.{is_error, is_unexpected, is_readying}
use Rattle.kit_async_model.specs.declared.setup.Setup.{Setup}
use Rattle.kit_async_model.specs.declared.job.Job.{Job}
use Rattle.kit_async_model.specs.declared.entry.Entry.{Entry}
use Rattle.kit_async_model.specs.declared.entry.Entry.TheVariants.{Heard, Take, Call, Say, Wrote, Close, Lack}
use Rattle.kit_async_model.specs.declared.hearing.Hearing.{Hearing}
use Rattle.kit_async_model.specs.declared.hearing.Hearing.TheVariants.{Foul, Unexpected, Aside, Asks, Replies}
use Rattle.kit_async_model.specs.Jobs.{has_number, job_of, with_job, is_awaiting, settles}
use Rattle.kit_async_model.specs.Hearings.{parted, is_export, message_heard, strange_heard, reading_heard, text_heard, part_heard, hearing_of, awaits_in, is_open, has_some, text_in, value_told}
use Rattle.kit_async_model.specs.Standings.{Standing, opening, new_job, with_value, with_taken, with_call, called_in, is_some_due, said_in, heard_as, after, standing}
use Rattle.kit_async_model.specs.Books.{AreApart}
use Rattle.kit_async_model.proofs.Places.{none_open}
use Rattle.ann_key.proofs.Numbers.{differ_turned as turned}
use Rattle.ann_key.proofs.Booleans.{both_false as neither}

-- ---- what a line is

-- where a choice gives what its first part doesn't, the test failed
pub skip : (c : Bool) (x y h : Hearing) → (x ≡ h → ⊥) → cond c x y ≡ h → (c ≡ false) × (y ≡ h)
skip true x y h n e = absurd (n e)
skip false x y h n e = (refl, e)

-- A request comes with a new number.
asks_message : (a o b : Bool) (number n : ℕ) (m : HostMessage) → message_heard a o b number m ≡ Asks n → (o ≡ false) × (number ≡ n)
asks_message a o b number n m e =
    let one = skip (is_error m) Foul _ (Asks n) (λ (k : Foul ≡ Asks n). absurd cc) e in
    let two = skip (is_unexpected a m) Unexpected _ (Asks n) (λ (k : Unexpected ≡ Asks n). absurd cc) one.1 in
    let three = skip a (Replies number) _ (Asks n) (λ (k : Replies number ≡ Asks n). absurd cc) two.1 in
    let four = skip (o || (is_readying (Some m) && b)) Unexpected (Asks number) (Asks n) (λ (k : Unexpected ≡ Asks n). absurd cc) three.1 in
    let is : number ≡ n = let last : Asks number ≡ Asks n = four.1 in cc in
    ((neither o (is_readying (Some m) && b) four.0).0, is)

-- so does a line that spells no message
asks_strange : (a o : Bool) (number n : ℕ) → strange_heard a o number ≡ Asks n → (o ≡ false) × (number ≡ n)
asks_strange false false number n e = let last : Asks number ≡ Asks n = e in (refl, cc)
asks_strange false true number n e = absurd cc
asks_strange true o number n e = absurd cc

asks_reading : (a o b : Bool) (number n : ℕ) (m : Option HostMessage) → reading_heard a o b number m ≡ Asks n → (o ≡ false) × (number ≡ n)
asks_reading a o b number n None e = asks_strange a o number n e
asks_reading a o b number n (Some m) e = asks_message a o b number n m e

asks_text : (a o b : Bool) (number n : ℕ) (text : List ℕ) → text_heard a o b number text ≡ Asks n → (o ≡ false) × (number ≡ n)
asks_text a o b number n text e = go (is_export text) refl e
  where
    go : (t : Bool) → is_export text ≡ t → cond t (cond a Unexpected Aside) (reading_heard a o b number (host_reading text)) ≡ Asks n → (o ≡ false) × (number ≡ n)
    go false h k = asks_reading a o b number n (host_reading text) k
    go true h k = none a k
      where
        none : (t : Bool) → cond t Unexpected Aside ≡ Asks n → (o ≡ false) × (number ≡ n)
        none true l = absurd cc
        none false l = absurd cc

not_open : (jobs : List Job) (n : ℕ) → is_open (job_of jobs n) ≡ false → job_of jobs n ≡ None
not_open jobs n h = go (job_of jobs n) refl h
  where
    go : (o : Option Job) → job_of jobs n ≡ o → is_open o ≡ false → job_of jobs n ≡ None
    go None e k = e
    go (Some job) e k = absurd cc

pub asks_new : (setup : Setup) (jobs : List Job) (tagged : Bool) (line : List ℕ) (n : ℕ) → hearing_of setup jobs tagged line ≡ Asks n → list_any (has_number n) jobs ≡ false
asks_new setup jobs tagged line n e = go (parted tagged line) e
  where
    go : (o : Option (ℕ × List ℕ)) → part_heard setup jobs o ≡ Asks n → list_any (has_number n) jobs ≡ false
    go None k = absurd cc
    go (Some t) k =
        let is = asks_text (awaits_in setup (job_of jobs t.0)) (is_open (job_of jobs t.0)) (has_some jobs) t.0 n t.1 k in
        none_open n jobs (subst (λ (m : ℕ). job_of jobs m ≡ None) is.1 (not_open jobs t.0 is.0))

-- A value comes for a job that awaits one.
replies_message : (a o b : Bool) (number n : ℕ) (m : HostMessage) → message_heard a o b number m ≡ Replies n → (a ≡ true) × (number ≡ n)
replies_message a o b number n m e =
    let one = skip (is_error m) Foul _ (Replies n) (λ (k : Foul ≡ Replies n). absurd cc) e in
    let two = skip (is_unexpected a m) Unexpected _ (Replies n) (λ (k : Unexpected ≡ Replies n). absurd cc) one.1 in
    go a refl two.1
  where
    last : (t : Bool) → cond t Unexpected (Asks number) ≡ Replies n → ⊥
    last true k = absurd cc
    last false k = absurd cc

    go : (t : Bool) → a ≡ t → cond t (Replies number) (cond (o || (is_readying (Some m) && b)) Unexpected (Asks number)) ≡ Replies n → (a ≡ true) × (number ≡ n)
    go true h k = (h, cc)
    go false h k = absurd (last (o || (is_readying (Some m) && b)) k)

-- none comes as a line that spells no message
replies_strange : (a o : Bool) (number n : ℕ) → strange_heard a o number ≡ Replies n → ⊥
replies_strange false false number n e = absurd cc
replies_strange false true number n e = absurd cc
replies_strange true o number n e = absurd cc

replies_reading : (a o b : Bool) (number n : ℕ) (m : Option HostMessage) → reading_heard a o b number m ≡ Replies n → (a ≡ true) × (number ≡ n)
replies_reading a o b number n None e = absurd (replies_strange a o number n e)
replies_reading a o b number n (Some m) e = replies_message a o b number n m e

replies_text : (a o b : Bool) (number n : ℕ) (text : List ℕ) → text_heard a o b number text ≡ Replies n → (a ≡ true) × (number ≡ n)
replies_text a o b number n text e = go (is_export text) e
  where
    none : (t : Bool) → cond t Unexpected Aside ≡ Replies n → (a ≡ true) × (number ≡ n)
    none true l = absurd cc
    none false l = absurd cc

    go : (t : Bool) → cond t (cond a Unexpected Aside) (reading_heard a o b number (host_reading text)) ≡ Replies n → (a ≡ true) × (number ≡ n)
    go false k = replies_reading a o b number n (host_reading text) k
    go true k = none a k

pub record Awaits (setup : Setup) (jobs : List Job) (n : ℕ) : Type 0 where
  pub job : Job
  pub found : job_of jobs n ≡ Some job
  pub awaits : is_awaiting setup job ≡ true

awaits_some : (setup : Setup) (jobs : List Job) (n : ℕ) → awaits_in setup (job_of jobs n) ≡ true → Awaits setup jobs n
awaits_some setup jobs n h = go (job_of jobs n) refl h
  where
    go : (o : Option Job) → job_of jobs n ≡ o → awaits_in setup o ≡ true → Awaits setup jobs n
    go None e k = absurd cc
    go (Some job) e k = record { job = job; found = e; awaits = k }

pub replies_awaited : (setup : Setup) (jobs : List Job) (tagged : Bool) (line : List ℕ) (n : ℕ) → hearing_of setup jobs tagged line ≡ Replies n → Awaits setup jobs n
replies_awaited setup jobs tagged line n e = go (parted tagged line) e
  where
    go : (o : Option (ℕ × List ℕ)) → part_heard setup jobs o ≡ Replies n → Awaits setup jobs n
    go None k = absurd cc
    go (Some t) k =
        let is = replies_text (awaits_in setup (job_of jobs t.0)) (is_open (job_of jobs t.0)) (has_some jobs) t.0 n t.1 k in
        subst (λ (m : ℕ). Awaits setup jobs m) is.1 (awaits_some setup jobs t.0 is.0)

-- ---- lists of jobs

any_changed : (m n : ℕ) (change : Job → Job) → ((j : Job) → (change j).number ≡ j.number) → (jobs : List Job)
    → list_any (has_number m) (with_job n change jobs) ≡ list_any (has_number m) jobs
any_changed m n change same [] = refl
any_changed m n change same (x ∷ xs) = rw (one (has_number n x), any_changed m n change same xs) refl
  where
    one : (b : Bool) → has_number m (cond b (change x) x) ≡ has_number m x
    one true = ap (λ (k : ℕ). k == m) (same x)
    one false = refl

apart_changed : (n : ℕ) (change : Job → Job) → ((j : Job) → (change j).number ≡ j.number) → (jobs : List Job) → AreApart jobs → AreApart (with_job n change jobs)
apart_changed n change same [] a = tt
apart_changed n change same (x ∷ xs) a = (one (has_number n x), apart_changed n change same xs a.1)
  where
    one : (b : Bool) → list_any (has_number (cond b (change x) x).number) (with_job n change xs) ≡ false
    one true = any_changed (change x).number n change same xs ∙ ap (λ (k : ℕ). list_any (has_number k) xs) (same x) ∙ a.0
    one false = any_changed x.number n change same xs ∙ a.0

any_kept : (m : ℕ) (test : Job → Bool) (jobs : List Job) → list_any (has_number m) jobs ≡ false → list_any (has_number m) (filter test jobs) ≡ false
any_kept m test [] h = refl
any_kept m test (x ∷ xs) h =
    let k = neither (has_number m x) (list_any (has_number m) xs) h in
    go (test x) refl k.0 (any_kept m test xs k.1)
  where
    go : (b : Bool) → test x ≡ b → has_number m x ≡ false → list_any (has_number m) (filter test xs) ≡ false → list_any (has_number m) (filter test (x ∷ xs)) ≡ false
    go true e n more = rw (e, n) more
    go false e n more = rw e more

apart_kept : (test : Job → Bool) (jobs : List Job) → AreApart jobs → AreApart (filter test jobs)
apart_kept test [] a = tt
apart_kept test (x ∷ xs) a = go (test x) refl (apart_kept test xs a.1)
  where
    go : (b : Bool) → test x ≡ b → AreApart (filter test xs) → AreApart (filter test (x ∷ xs))
    go true e more = rw e (any_kept x.number test xs a.0, more)
    go false e more = rw e more

any_last : (m : ℕ) (jobs : List Job) (job : Job) → list_any (has_number m) jobs ≡ false → has_number m job ≡ false → list_any (has_number m) (jobs ++ job ∷ []) ≡ false
any_last m [] job h n = rw n refl
any_last m (x ∷ xs) job h n =
    let k = neither (has_number m x) (list_any (has_number m) xs) h in
    rw (k.0, any_last m xs job k.1 n) refl

apart_last : (jobs : List Job) (job : Job) → AreApart jobs → list_any (has_number job.number) jobs ≡ false → AreApart (jobs ++ job ∷ [])
apart_last [] job a h = (refl, tt)
apart_last (x ∷ xs) job a h =
    let k = neither (has_number job.number x) (list_any (has_number job.number) xs) h in
    (any_last x.number xs job a.0 (turned x.number job.number k.0), apart_last xs job a.1 k.1)

-- ---- each entry

heard_apart : (setup : Setup) (s : Standing) (text : List ℕ) (h : Hearing) → ((n : ℕ) → h ≡ Asks n → list_any (has_number n) s.jobs ≡ false) → AreApart s.jobs
    → AreApart (heard_as setup s text h).jobs
heard_apart setup s text Foul new a = a
heard_apart setup s text Unexpected new a = a
heard_apart setup s text Aside new a = a
heard_apart setup s text (Asks number) new a = apart_last s.jobs (new_job number text s.prepared) a (new number refl)
heard_apart setup s text (Replies number) new a = apart_changed number (with_value (value_told (host_reading text))) (λ job. refl) s.jobs a

said_apart : (setup : Setup) (s : Standing) (o : Option Job) → AreApart s.jobs → AreApart (said_in setup s o).jobs
said_apart setup s None a = a
said_apart setup s (Some job) a = go (is_some_due s.due || s.over || is_awaiting setup job) refl
  where
    go : (b : Bool) → (is_some_due s.due || s.over || is_awaiting setup job) ≡ b → AreApart (said_in setup s (Some job)).jobs
    go true e = rw e a
    go false e = rw e (apart_kept (λ j. not (has_number job.number j)) s.jobs a)

called_apart : (setup : Setup) (s : Standing) (said : Said) (o : Option Job) → AreApart s.jobs → AreApart (called_in setup s said o).jobs
called_apart setup s said None a = a
called_apart setup s said (Some job) a = apart_changed job.number (with_call (settles setup job said)) (λ j. refl) s.jobs a

pub after_apart : (setup : Setup) (s : Standing) (e : Entry) → AreApart s.jobs → AreApart (after setup s e).jobs
after_apart setup s (Heard line) a =
    heard_apart setup s (text_in s.tagged line) (hearing_of setup s.jobs s.tagged line) (λ n e. asks_new setup s.jobs s.tagged line n e) a
after_apart setup s (Take job remote) a = apart_changed job (with_taken remote) (λ j. refl) s.jobs a
after_apart setup s (Call job remote said) a = called_apart setup s said (job_of s.jobs job) a
after_apart setup s (Say job line) a = said_apart setup _ (job_of s.jobs job) a
after_apart setup s Wrote a = a
after_apart setup s Close a = a
after_apart setup s Lack a = a

apart_from : (setup : Setup) (s : Standing) (entries : List Entry) → AreApart s.jobs → AreApart (fold (after setup) s entries).jobs
apart_from setup s [] a = a
apart_from setup s (e ∷ rest) a = apart_from setup (after setup s e) rest (after_apart setup s e a)

pub standing_apart : (setup : Setup) (journal : List Entry) → AreApart (standing setup journal).jobs
standing_apart setup journal = apart_from setup opening journal tt
