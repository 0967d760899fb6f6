-- What a remote is to be called for stays so, whatever others do.
use Rattle.std.proofs.Common.{◌≡◌, ◌≢◌, ◌⊎◌, inl, inr, ℕ, ◌+◌, List, [], ◌∷◌, ◌++◌, refl, sym, ap, subst, ◌∙◌, Bool, true, false, not, ◌==◌, cond, Some, None, Option, arith}
use Rattle.std.specs.Prelude.{◌&&◌, ◌||◌, find, filter, fold, nat_lt}
use Rattle.std.specs.List.{list_any}
use Rattle.std.proofs.lemmas.Bool.Decides.{nat_tests}
use Rattle.annex_model.specs.Messages.{HostMessage, host_reading}
use Rattle.kit_serve.specs.declared.kit.call.Said.{Said}
use Rattle.kit_serve.specs.Kit.Kits.{is_error, is_unexpected, is_readying}
use Rattle.kit_async_model.specs.declared.setup.Setup.{Setup}
use Rattle.kit_async_model.specs.declared.job.Job.{Job}
use Rattle.kit_async_model.specs.declared.entry.Entry.{Entry}
use Rattle.kit_async_model.specs.declared.entry.Entry.TheVariants.{Heard, Take, Call, Say, Wrote, Close, Lack}
use Rattle.kit_async_model.specs.declared.hearing.Hearing.{Hearing}
use Rattle.kit_async_model.specs.declared.hearing.Hearing.TheVariants.{Foul, Unexpected, Aside, Asks, Replies}
use Rattle.kit_async_model.specs.Jobs.{is_making_ready, is_awaiting, is_worked_by, has_number, job_of, with_job, settles}
use Rattle.kit_async_model.specs.Hearings.{parted, text_by, is_export, message_heard, reading_heard, text_heard, part_heard, hearing_of, awaits_in, is_open, has_some, text_in, value_told}
use Rattle.kit_async_model.specs.Legality.{is_idle, some_job, is_turn_of, is_called}
use Rattle.kit_async_model.specs.Standings.{Standing, opening, new_job, with_value, with_taken, with_call, called_in, is_some_due, said_in, heard_as, after, standing}
use Rattle.kit_async_model.specs.Books.{AreApart}
use Rattle.kit_async_model.proofs.Places.{passes_of}
use Rattle.ann_key.proofs.Booleans.{never_true as decided, and_false as and_none, both_false as neither}
use Rattle.std.proofs.lemmas.Bool.{ne_eqb as unequal, eqb-true as equal_is, and_parts as both}
use Rattle.ann_key.proofs.Numbers.{other_number}
use Rattle.kit_async_model.proofs.Apart.{skip}

-- ---- tests

pub unequal_by : (by m n : ℕ) → by ≡ m + 3 → by ≢ n + 3 → (m == n) ≡ false
unequal_by by m n is other = unequal m n (λ (e : m ≡ n). other (is ∙ ap (λ (k : ℕ). k + 3) e))

pub no_more : (k : ℕ) → (k + 1 == 0) ≡ false
no_more k = grind (arith, nat_tests)

pub never : (b : Bool) → b ≡ true → b ≡ false → ⊥
never true t f = cc
never false t f = cc

-- ---- what is found in a list

pub found_any : (p q : Job → Bool) (jobs : List Job) (job : Job) → find p jobs ≡ Some job → q job ≡ true → list_any q jobs ≡ true
found_any p q [] job f t = cc
found_any p q (x ∷ xs) job f t = go (p x) f (found_any p q xs job)
  where
    or_true : (b : Bool) → (b || true) ≡ true
    or_true true = refl
    or_true false = refl

    go : (b : Bool) → cond {A = Option Job} b (Some x) (find p xs) ≡ Some job → (find p xs ≡ Some job → q job ≡ true → list_any q xs ≡ true) → list_any q (x ∷ xs) ≡ true
    go true k more = let is : x ≡ job = cc in rw (subst (λ (j : Job). q j ≡ true) (sym is) t) refl
    go false k more = rw (more k t) (or_true (q x))

pub found_not : (p q : Job → Bool) (jobs : List Job) (job : Job) → find p jobs ≡ Some job → list_any q jobs ≡ false → q job ≡ false
found_not p q jobs job f none = decided (q job) (λ (t : q job ≡ true). never (list_any q jobs) (found_any p q jobs job f t) none)

pub found_same : (p q : Job → Bool) → ((x : Job) → p x ≡ q x) → (jobs : List Job) → find p jobs ≡ find q jobs
found_same p q same [] = refl
found_same p q same (x ∷ xs) = rw (same x, found_same p q same xs) refl

pub found_changed : (w : Job → Bool) (n : ℕ) (change : Job → Job) → ((x : Job) → w (change x) ≡ true → w x ≡ true) → (jobs : List Job) (job : Job)
    → find w jobs ≡ Some job → has_number n job ≡ false → find w (with_job n change jobs) ≡ Some job
found_changed w n change mono [] job f other = cc
found_changed w n change mono (x ∷ xs) job f other = go (w x) refl f (found_changed w n change mono xs job)
  where
    low : (b : Bool) → w x ≡ false → w (cond b (change x) x) ≡ false
    low true h = decided (w (change x)) (λ (t : w (change x) ≡ true). never (w x) (mono x t) h)
    low false h = h

    go : (b : Bool) → w x ≡ b → cond {A = Option Job} b (Some x) (find w xs) ≡ Some job → (find w xs ≡ Some job → has_number n job ≡ false → find w (with_job n change xs) ≡ Some job)
        → find w (with_job n change (x ∷ xs)) ≡ Some job
    go true h k more = let is : x ≡ job = cc in let here : has_number n x ≡ false = subst (λ (j : Job). has_number n j ≡ false) (sym is) other in rw (here, h) k
    go false h k more = rw (low (has_number n x) h) (more k other)

pub found_kept : (w t : Job → Bool) (jobs : List Job) (job : Job) → find w jobs ≡ Some job → t job ≡ true → find w (filter t jobs) ≡ Some job
found_kept w t [] job f k = cc
found_kept w t (x ∷ xs) job f k = go (w x) refl f (found_kept w t xs job)
  where
    drop_or_keep : (b : Bool) → t x ≡ b → w x ≡ false → find w (filter t xs) ≡ Some job → find w (filter t (x ∷ xs)) ≡ Some job
    drop_or_keep true e h more = rw (e, h) more
    drop_or_keep false e h more = rw e more

    go : (b : Bool) → w x ≡ b → cond {A = Option Job} b (Some x) (find w xs) ≡ Some job → (find w xs ≡ Some job → t job ≡ true → find w (filter t xs) ≡ Some job)
        → find w (filter t (x ∷ xs)) ≡ Some job
    go true h l more = let is : x ≡ job = cc in let here : t x ≡ true = subst (λ (j : Job). t j ≡ true) (sym is) k in rw (here, h) l
    go false h l more = drop_or_keep (t x) refl h (more l k)

pub found_more : (w : Job → Bool) (xs ys : List Job) (job : Job) → find w xs ≡ Some job → find w (xs ++ ys) ≡ Some job
found_more w [] ys job f = cc
found_more w (x ∷ xs) ys job f = go (w x) refl f (found_more w xs ys job)
  where
    go : (b : Bool) → w x ≡ b → cond {A = Option Job} b (Some x) (find w xs) ≡ Some job → (find w xs ≡ Some job → find w (xs ++ ys) ≡ Some job) → find w (x ∷ xs ++ ys) ≡ Some job
    go true h k more = rw h k
    go false h k more = rw h (more k)

pub none_changed : (w : Job → Bool) (n : ℕ) (change : Job → Job) → ((x : Job) → w (change x) ≡ true → w x ≡ true) → (jobs : List Job) → list_any w jobs ≡ false
    → list_any w (with_job n change jobs) ≡ false
none_changed w n change mono [] none = refl
none_changed w n change mono (x ∷ xs) none =
    let k = neither (w x) (list_any w xs) none in
    rw (low (has_number n x) k.0, none_changed w n change mono xs k.1) refl
  where
    low : (b : Bool) → w x ≡ false → w (cond b (change x) x) ≡ false
    low true h = decided (w (change x)) (λ (t : w (change x) ≡ true). never (w x) (mono x t) h)
    low false h = h

pub none_kept : (w t : Job → Bool) (jobs : List Job) → list_any w jobs ≡ false → list_any w (filter t jobs) ≡ false
none_kept w t [] none = refl
none_kept w t (x ∷ xs) none =
    let k = neither (w x) (list_any w xs) none in
    go (t x) refl k.0 (none_kept w t xs k.1)
  where
    go : (b : Bool) → t x ≡ b → w x ≡ false → list_any w (filter t xs) ≡ false → list_any w (filter t (x ∷ xs)) ≡ false
    go true e h more = rw (e, h) more
    go false e h more = rw e more

pub none_last : (w : Job → Bool) (jobs : List Job) (job : Job) → list_any w jobs ≡ false → w job ≡ false → list_any w (jobs ++ job ∷ []) ≡ false
none_last w [] job none h = rw h refl
none_last w (x ∷ xs) job none h = let k = neither (w x) (list_any w xs) none in rw (k.0, none_last w xs job k.1 h) refl

-- ---- no two have one number

-- what stands before the one that was found has another number
pub apart_head : (p : Job → Bool) (x : Job) (xs : List Job) (job : Job) (n : ℕ) → list_any (has_number x.number) xs ≡ false → find p xs ≡ Some job → has_number n job ≡ true → has_number n x ≡ false
apart_head p x xs job n none f h = other_number x.number job.number n (found_not p (has_number x.number) xs job f none) h

pub only_job : (p : Job → Bool) (jobs : List Job) (job : Job) (n : ℕ) → AreApart jobs → find p jobs ≡ Some job → has_number n job ≡ true → job_of jobs n ≡ Some job
only_job p [] job n a f h = cc
only_job p (x ∷ xs) job n a f h = go (p x) f (only_job p xs job n a.1)
  where
    go : (b : Bool) → cond {A = Option Job} b (Some x) (find p xs) ≡ Some job → (find p xs ≡ Some job → has_number n job ≡ true → job_of xs n ≡ Some job) → job_of (x ∷ xs) n ≡ Some job
    go true k more = let is : x ≡ job = cc in let here : has_number n x ≡ true = subst (λ (j : Job). has_number n j ≡ true) (sym is) h in rw here k
    go false k more = rw (apart_head p x xs job n a.0 k h) (more k h)

none_numbered : (test : Job → Bool) (n : ℕ) (jobs : List Job) → list_any (has_number n) jobs ≡ false → some_job test n jobs ≡ false
none_numbered test n [] h = refl
none_numbered test n (x ∷ xs) h = let k = neither (has_number n x) (list_any (has_number n) xs) h in rw (k.0, none_numbered test n xs k.1) refl

pub only_passes : (p test : Job → Bool) (jobs : List Job) (job : Job) (n : ℕ) → AreApart jobs → find p jobs ≡ Some job → has_number n job ≡ true → some_job test n jobs ≡ true → test job ≡ true
only_passes p test [] job n a f h s = cc
only_passes p test (x ∷ xs) job n a f h s = go (p x) f (only_passes p test xs job n a.1)
  where
    first : (b : Bool) → ((true && b) || some_job test n xs) ≡ true → some_job test n xs ≡ false → b ≡ true
    first true t none = refl
    first false t none = absurd (never (some_job test n xs) t none)

    go : (b : Bool) → cond {A = Option Job} b (Some x) (find p xs) ≡ Some job → (find p xs ≡ Some job → has_number n job ≡ true → some_job test n xs ≡ true → test job ≡ true) → test job ≡ true
    go true k more =
        let is : x ≡ job = cc in
        let here : has_number n x ≡ true = subst (λ (j : Job). has_number n j ≡ true) (sym is) h in
        let none : some_job test n xs ≡ false = none_numbered test n xs (subst (λ (m : ℕ). list_any (has_number m) xs ≡ false) (equal_is x.number n here) a.0) in
        subst (λ (j : Job). test j ≡ true) is (first (test x) (subst (λ (b : Bool). ((b && test x) || some_job test n xs) ≡ true) here s) none)
    go false k more = more k h (subst (λ (b : Bool). ((b && test x) || some_job test n xs) ≡ true) (apart_head p x xs job n a.0 k h) s)

-- ---- only the first can be one to get ready

abbrev rest_of : List Job → List Job
rest_of [] = []
rest_of (x ∷ xs) = xs

abbrev pub FirstReady : List Job → Type 0
FirstReady jobs = list_any is_making_ready (rest_of jobs) ≡ false

alone_message : (a o b : Bool) (number n : ℕ) (m : HostMessage) → message_heard a o b number m ≡ Asks n → (is_readying (Some m) && b) ≡ false
alone_message a o b number n m e =
    let one = skip (is_error m) Foul _ (Asks n) (λ (k : Foul ≡ Asks n). absurd cc) e in
    let two = skip (is_unexpected a m) Unexpected _ (Asks n) (λ (k : Unexpected ≡ Asks n). absurd cc) one.1 in
    let three = skip a (Replies number) _ (Asks n) (λ (k : Replies number ≡ Asks n). absurd cc) two.1 in
    let four = skip (o || (is_readying (Some m) && b)) Unexpected (Asks number) (Asks n) (λ (k : Unexpected ≡ Asks n). absurd cc) three.1 in
    (neither o (is_readying (Some m) && b) four.0).1

alone_reading : (a o b : Bool) (number n : ℕ) (m : Option HostMessage) → reading_heard a o b number m ≡ Asks n → (is_readying m && b) ≡ false
alone_reading a o b number n None e = refl
alone_reading a o b number n (Some m) e = alone_message a o b number n m e

alone_text : (a o b : Bool) (number n : ℕ) (text : List ℕ) → text_heard a o b number text ≡ Asks n → (is_readying (host_reading text) && b) ≡ false
alone_text a o b number n text e = go (is_export text) e
  where
    none : (t : Bool) → cond t Unexpected Aside ≡ Asks n → (is_readying (host_reading text) && b) ≡ false
    none true l = absurd cc
    none false l = absurd cc

    go : (t : Bool) → cond t (cond a Unexpected Aside) (reading_heard a o b number (host_reading text)) ≡ Asks n → (is_readying (host_reading text) && b) ≡ false
    go false k = alone_reading a o b number n (host_reading text) k
    go true k = none a k

alone_part : (setup : Setup) (jobs : List Job) (n : ℕ) (o : Option (ℕ × List ℕ)) → part_heard setup jobs o ≡ Asks n → (is_readying (host_reading (text_by o)) && has_some jobs) ≡ false
alone_part setup jobs n None k = absurd cc
alone_part setup jobs n (Some t) k = alone_text (awaits_in setup (job_of jobs t.0)) (is_open (job_of jobs t.0)) (has_some jobs) t.0 n t.1 k

first_changed : (n : ℕ) (change : Job → Job) → ((x : Job) → is_making_ready (change x) ≡ is_making_ready x) → (jobs : List Job) → FirstReady jobs → FirstReady (with_job n change jobs)
first_changed n change same [] h = refl
first_changed n change same (x ∷ xs) h = none_changed is_making_ready n change (λ y t. sym (same y) ∙ t) xs h

rest_none : (jobs : List Job) → list_any is_making_ready jobs ≡ false → FirstReady jobs
rest_none [] h = refl
rest_none (x ∷ xs) h = (neither (is_making_ready x) (list_any is_making_ready xs) h).1

first_kept : (t : Job → Bool) (jobs : List Job) → FirstReady jobs → FirstReady (filter t jobs)
first_kept t [] h = refl
first_kept t (x ∷ xs) h = go (t x) refl
  where
    go : (b : Bool) → t x ≡ b → FirstReady (filter t (x ∷ xs))
    go true e = rw e (none_kept is_making_ready t xs h)
    go false e = rw e (rest_none (filter t xs) (none_kept is_making_ready t xs h))

first_last : (jobs : List Job) (job : Job) → FirstReady jobs → (is_making_ready job && has_some jobs) ≡ false → FirstReady (jobs ++ job ∷ [])
first_last [] job h k = refl
first_last (x ∷ xs) job h k = none_last is_making_ready xs job h (right (is_making_ready job) k)
  where
    right : (b : Bool) → (b && true) ≡ false → b ≡ false
    right true e = cc
    right false e = refl

heard_first : (setup : Setup) (s : Standing) (text : List ℕ) (h : Hearing) → ((n : ℕ) → h ≡ Asks n → (is_readying (host_reading text) && has_some s.jobs) ≡ false) → FirstReady s.jobs
    → FirstReady (heard_as setup s text h).jobs
heard_first setup s text Foul alone f = f
heard_first setup s text Unexpected alone f = f
heard_first setup s text Aside alone f = f
heard_first setup s text (Asks number) alone f = first_last s.jobs (new_job number text s.prepared) f (alone number refl)
heard_first setup s text (Replies number) alone f = first_changed number (with_value (value_told (host_reading text))) (λ x. refl) s.jobs f

said_first : (setup : Setup) (s : Standing) (o : Option Job) → FirstReady s.jobs → FirstReady (said_in setup s o).jobs
said_first setup s None f = f
said_first setup s (Some job) f = go (is_some_due s.due || s.over || is_awaiting setup job) refl
  where
    go : (b : Bool) → (is_some_due s.due || s.over || is_awaiting setup job) ≡ b → FirstReady (said_in setup s (Some job)).jobs
    go true e = rw e f
    go false e = rw e (first_kept (λ j. not (has_number job.number j)) s.jobs f)

called_first : (setup : Setup) (s : Standing) (said : Said) (o : Option Job) → FirstReady s.jobs → FirstReady (called_in setup s said o).jobs
called_first setup s said None f = f
called_first setup s said (Some job) f = first_changed job.number (with_call (settles setup job said)) (λ x. refl) s.jobs f

after_first : (setup : Setup) (s : Standing) (e : Entry) → FirstReady s.jobs → FirstReady (after setup s e).jobs
after_first setup s (Heard line) f =
    heard_first setup s (text_in s.tagged line) (hearing_of setup s.jobs s.tagged line) (λ n e. alone_part setup s.jobs n (parted s.tagged line) e) f
after_first setup s (Take job remote) f = first_changed job (with_taken remote) (λ x. refl) s.jobs f
after_first setup s (Call job remote said) f = called_first setup s said (job_of s.jobs job) f
after_first setup s (Say job line) f = said_first setup _ (job_of s.jobs job) f
after_first setup s Wrote f = f
after_first setup s Close f = f
after_first setup s Lack f = f

first_from : (setup : Setup) (s : Standing) (entries : List Entry) → FirstReady s.jobs → FirstReady (fold (after setup) s entries).jobs
first_from setup s [] f = f
first_from setup s (e ∷ rest) f = first_from setup (after setup s e) rest (after_first setup s e f)

pub standing_first : (setup : Setup) (journal : List Entry) → FirstReady (standing setup journal).jobs
standing_first setup journal = first_from setup opening journal refl

-- ---- a job that a remote is to be called for

-- it works on the job
abbrev pub at_work : ℕ → Job → Bool
at_work r job = not (is_making_ready job) && is_worked_by r job

-- it is its turn to get ready, if it is idle
abbrev pub at_turn : Setup → ℕ → Job → Bool
at_turn setup r job = not (is_awaiting setup job) && not job.settled && job.calls == r && nat_lt r setup.remotes

pub record InTurn (setup : Setup) (r : ℕ) (jobs : List Job) (job : Job) : Type 0 where
  pub found : find is_making_ready jobs ≡ Some job
  pub turn : at_turn setup r job ≡ true
  pub idle : list_any (is_worked_by r) jobs ≡ false

abbrev pub Busy : Setup → ℕ → List Job → Job → Type 0
Busy setup r jobs job = (find (at_work r) jobs ≡ Some job) ⊎ InTurn setup r jobs job

-- it is called so
pub not_idle : (r : ℕ) (jobs : List Job) (job : Job) → find (at_work r) jobs ≡ Some job → is_idle jobs r ≡ false
not_idle r jobs job f =
    let w = both (not (is_making_ready job)) (is_worked_by r job) (passes_of (at_work r) jobs job f) in
    ap not (found_any (at_work r) (is_worked_by r) jobs job f w.1)

pub work_called : (setup : Setup) (jobs : List Job) (r : ℕ) → is_idle jobs r ≡ false → (x : Job) → is_called setup jobs r x ≡ at_work r x
work_called setup jobs r idle x = go (is_making_ready x) refl
  where
    go : (b : Bool) → is_making_ready x ≡ b → is_called setup jobs r x ≡ at_work r x
    go true e =
        ap (λ (m : Bool). cond m (is_turn_of setup jobs r x) (is_worked_by r x)) e
        ∙ ap (λ (i : Bool). is_making_ready x && not (is_awaiting setup x) && not x.settled && x.calls == r && nat_lt r setup.remotes && i) idle
        ∙ and_none (is_making_ready x && not (is_awaiting setup x) && not x.settled && x.calls == r && nat_lt r setup.remotes)
        ∙ sym (ap (λ (m : Bool). not m && is_worked_by r x) e)
    go false e = ap (λ (m : Bool). cond m (is_turn_of setup jobs r x) (is_worked_by r x)) e ∙ sym (ap (λ (m : Bool). not m && is_worked_by r x) e)

turn_called : (setup : Setup) (all jobs : List Job) (r : ℕ) (job : Job) → find is_making_ready jobs ≡ Some job → list_any (is_worked_by r) jobs ≡ false → is_called setup all r job ≡ true
    → find (is_called setup all r) jobs ≡ Some job
turn_called setup all [] r job f none c = cc
turn_called setup all (x ∷ xs) r job f none c =
    let k = neither (is_worked_by r x) (list_any (is_worked_by r) xs) none in
    go (is_making_ready x) refl f k.0 (λ g. turn_called setup all xs r job g k.1 c)
  where
    go : (b : Bool) → is_making_ready x ≡ b → cond {A = Option Job} b (Some x) (find is_making_ready xs) ≡ Some job → is_worked_by r x ≡ false
        → (find is_making_ready xs ≡ Some job → find (is_called setup all r) xs ≡ Some job) → find (is_called setup all r) (x ∷ xs) ≡ Some job
    go true e k w more = let is : x ≡ job = cc in let here : is_called setup all r x ≡ true = subst (λ (j : Job). is_called setup all r j ≡ true) (sym is) c in rw here k
    go false e k w more = let here : is_called setup all r x ≡ false = rw e w in rw here (more k)

pub busy_called : (setup : Setup) (r : ℕ) (jobs : List Job) (job : Job) → Busy setup r jobs job → find (is_called setup jobs r) jobs ≡ Some job
busy_called setup r jobs job (inl f) = found_same (is_called setup jobs r) (at_work r) (work_called setup jobs r (not_idle r jobs job f)) jobs ∙ f
busy_called setup r jobs job (inr t) =
    let m : is_making_ready job ≡ true = passes_of is_making_ready jobs job t.found in
    let turn : is_turn_of setup jobs r job ≡ true =
    ap (λ (b : Bool). b && not (is_awaiting setup job) && not job.settled && job.calls == r && nat_lt r setup.remotes && is_idle jobs r) m
    ∙ ap (λ (i : Bool). at_turn setup r job && i) (ap not t.idle) ∙ and_true (at_turn setup r job) t.turn in
    turn_called setup jobs jobs r job t.found t.idle (ap (λ (b : Bool). cond b (is_turn_of setup jobs r job) (is_worked_by r job)) m ∙ turn)
  where
    and_true : (b : Bool) → b ≡ true → (b && true) ≡ true
    and_true true e = refl
    and_true false e = cc
