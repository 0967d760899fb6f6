-- A line of the host, and an open job.
use Rattle.std.proofs.Common.{◌≡◌, ◌⊎◌, inl, inr, ℕ, List, [], ◌∷◌, refl, sym, ap, subst, ◌∙◌, Bool, true, false, ◌==◌, Some, Option, arith, ◌++◌}
use Rattle.std.specs.Prelude.{map}
use Rattle.std.specs.List.{list_any}
use Rattle.annex_model.specs.Messages.{HostMessage, Value, Getconfig, host_reading, remote_line}
use Rattle.kit_async_model.specs.declared.setup.Setup.{Setup}
use Rattle.kit_async_model.specs.declared.job.Job.{Job}
use Rattle.kit_async_model.specs.declared.entry.Entry.TheVariants.{Heard}
use Rattle.kit_async_model.specs.declared.hearing.Hearing.{Hearing}
use Rattle.kit_async_model.specs.declared.hearing.Hearing.TheVariants.{Foul, Unexpected, Aside, Asks, Replies}
use Rattle.kit_async_model.specs.Jobs.{is_awaiting, has_number, job_of, with_job, lines_in}
use Rattle.kit_async_model.specs.Hearings.{text_in, value_told, hearing_of}
use Rattle.kit_async_model.specs.Standings.{Standing, unexpected_line, new_job, with_value, due_of_job, due_of, with_request, with_told, heard_as, after}
use Rattle.kit_async_model.specs.Meanings.{Told, told_item, item_of, of_job}
use Rattle.kit_async_model.proofs.Apart.{Awaits, asks_new, replies_awaited}
use Rattle.kit_async_model.proofs.Askings.{never}
use Rattle.kit_async_model.proofs.Places.{job_changed}
use Rattle.kit_async_model.proofs.MeaningLemmas.Requests.{Tells, tells}
use Rattle.kit_async_model.proofs.MeaningLemmas.Numbers.{number_of, new_other, still_changed, still_last}
use Rattle.kit_async_model.proofs.MeaningLemmas.Phases.{Phase, Working, Asking, Awaiting, Calling, asking, told_left, Saying}
use Rattle.kit_async_model.proofs.MeaningLemmas.Stands.{IsReadying, IsIn, At, is_in_over, is_in_still}
use Rattle.kit_async_model.proofs.MeaningLemmas.Readying.{readying_told, readying_value, readying_lines}
use Rattle.kit_async_model.proofs.MeaningLemmas.Steps.{Steps, Moves, job_other, due_other, of_other, of_own, none_due}
use Rattle.ann_key.proofs.Numbers.{same_number}
use Rattle.std.proofs.lemmas.Bool.{eqb-true as equal_is}

-- ---- a value for the job

-- what is due after the value
pub told_in : (setup : Setup) (told : List (List ℕ)) (n : ℕ) (request : Option HostMessage) (job : Job) (over : Bool) (values names : List (List ℕ)) → job.number ≡ n
    → IsReadying setup request job values names 0 → IsIn setup n request job (due_of_job setup told job) over (asking values names)
told_in setup told n request job over values [] is r =
    let silent : lines_in setup told job ≡ [] = readying_lines setup told request job values [] 0 r in
    let none : due_of_job setup told job ≡ [] = ap (map (λ (line : List ℕ). (job.number, line))) silent in
    (r, omega arith, inr (none_due n (due_of_job setup told job) none))
told_in setup told n request job over values (name ∷ names) is r =
    let asks : lines_in setup told job ≡ remote_line (Getconfig name) ∷ [] = readying_lines setup told request job values (name ∷ names) 0 r in
    (r, inr (ap (map (λ (line : List ℕ). (job.number, line))) asks ∙ ap (λ (k : ℕ). (k, remote_line (Getconfig name)) ∷ []) is))

told_moves : (setup : Setup) (s : Standing) (n : ℕ) (request : Option HostMessage) (text : List ℕ) (values names : List (List ℕ)) (name : List ℕ) (job : Job)
    → (t : Tells text) → job_of s.jobs n ≡ Some job → IsReadying setup request job values (name ∷ names) 0
    → Moves setup n request (Awaiting values names) (of_job n (Some (n, Told (host_reading text)))) (with_told setup s n t.value)
told_moves setup s n request text values names name job t found r =
    let now : job_of (with_job n (with_value t.value) s.jobs) n ≡ Some (with_value t.value job) = job_changed (with_value t.value) s.jobs n job (λ j. refl) found in
    let due : due_of_job setup s.told (with_value t.value job) ≡ (with_told setup s n t.value).due = ap (due_of setup s.told) (sym now) in
    record {
      to = asking (values ++ t.value ∷ []) names;
      item = Told (Some (Value t.value));
      are = of_own n (Told (host_reading text)) (same_number n) ∙ ap (λ (m : Option HostMessage). Told m ∷ []) t.reads;
      at = record {
        job = with_value t.value job;
        found = now;
        is = subst (λ (d : List (ℕ × List ℕ)). IsIn setup n request (with_value t.value job) d s.over (asking (values ++ t.value ∷ []) names)) due
            (told_in setup s.told n request (with_value t.value job) s.over (values ++ t.value ∷ []) names (number_of s.jobs n job found) (readying_value setup request job values t.value name names 0 r));
      };
      left = told_left setup request values t.value names;
    }

told_own : (setup : Setup) (s : Standing) (n : ℕ) (request : Option HostMessage) (text : List ℕ) (p : Phase) (job : Job) → Tells text → job_of s.jobs n ≡ Some job
    → is_awaiting setup job ≡ true → s.due ≡ [] → s.over ≡ false → IsIn setup n request job s.due s.over p
    → Steps setup n request p (of_job n (Some (n, Told (host_reading text)))) (with_told setup s n (value_told (host_reading text)))
told_own setup s n request text (Saying line lines) job t found a d o k = absurd (never (is_awaiting setup job) a k.0.told)
told_own setup s n request text (Working asked) job t found a d o k = absurd (never (is_awaiting setup job) a (rw k.0.unready refl))
told_own setup s n request text (Calling values remote) job t found a d o k = absurd (never (is_awaiting setup job) a (readying_told setup request job values remote k.0))
told_own setup s n request text (Awaiting values names) job t found a d o k =
    inr (inl (subst (λ (value : List ℕ). Moves setup n request (Awaiting values names) (of_job n (Some (n, Told (host_reading text)))) (with_told setup s n value)) (sym (ap value_told t.reads))
    (told_moves setup s n request text values names k.0.0 job t found k.0.1)))
told_own setup s n request text (Asking values name names) job t found a d o k = unasked k.1
  where
    unasked : (s.over ≡ true) ⊎ (s.due ≡ (n, remote_line (Getconfig name)) ∷ [])
        → Steps setup n request (Asking values name names) (of_job n (Some (n, Told (host_reading text)))) (with_told setup s n (value_told (host_reading text)))
    unasked (inl e) = absurd cc
    unasked (inr e) = absurd cc

-- the job awaits it
told_awaited : (setup : Setup) (s : Standing) (n : ℕ) (request : Option HostMessage) (text : List ℕ) (p : Phase) → (at : At setup s n request p) → Tells text → Awaits setup s.jobs n
    → s.due ≡ [] → s.over ≡ false → Steps setup n request p (of_job n (Some (n, Told (host_reading text)))) (with_told setup s n (value_told (host_reading text)))
told_awaited setup s n request text p at t w d o =
    let both_are : Some w.job ≡ Some at.job = sym w.found ∙ at.found in
    let same : w.job ≡ at.job = cc in
    told_own setup s n request text p at.job t at.found (subst (λ (j : Job). is_awaiting setup j ≡ true) same w.awaits) d o at.is

-- ---- every line

asks_other : (setup : Setup) (s : Standing) (n m : ℕ) (request : Option HostMessage) (text : List ℕ) (p : Phase) → At setup s n request p → s.due ≡ [] → (m == n) ≡ false
    → Steps setup n request p (of_job n (Some (m, Told (host_reading text)))) (with_request setup s (new_job m text s.prepared))
asks_other setup s n m request text p at d other =
    inl (record {
      none = of_other m n (Told (host_reading text)) other;
      at = record {
        job = at.job;
        found = still_last s.jobs n at.job (new_job m text s.prepared) at.found;
        is = is_in_still setup n request at.job s.due (due_of_job setup s.told (new_job m text s.prepared)) s.over p d
            (job_other setup s.told (new_job m text s.prepared) m n refl other) at.is;
      };
    })

replies_other : (setup : Setup) (s : Standing) (n m : ℕ) (request : Option HostMessage) (text : List ℕ) (p : Phase) → At setup s n request p → s.due ≡ [] → (m == n) ≡ false
    → Steps setup n request p (of_job n (Some (m, Told (host_reading text)))) (with_told setup s m (value_told (host_reading text)))
replies_other setup s n m request text p at d other =
    let value : List ℕ = value_told (host_reading text) in
    let jobs : List Job = with_job m (with_value value) s.jobs in
    inl (record {
      none = of_other m n (Told (host_reading text)) other;
      at = record {
        job = at.job;
        found = still_changed s.jobs n m at.job (with_value value) (λ j. refl) at.found other;
        is = is_in_still setup n request at.job s.due (due_of setup s.told (job_of jobs m)) s.over p d (due_other setup s.told jobs m n other) at.is;
      };
    })

replies_any : (setup : Setup) (s : Standing) (n m : ℕ) (request : Option HostMessage) (text : List ℕ) (p : Phase) → At setup s n request p → Tells text → Awaits setup s.jobs m
    → s.due ≡ [] → s.over ≡ false → Steps setup n request p (of_job n (Some (m, Told (host_reading text)))) (with_told setup s m (value_told (host_reading text)))
replies_any setup s n m request text p at t w d o = go (m == n) refl
  where
    go : (b : Bool) → (m == n) ≡ b → Steps setup n request p (of_job n (Some (m, Told (host_reading text)))) (with_told setup s m (value_told (host_reading text)))
    go false e = replies_other setup s n m request text p at d e
    go true e =
        let is : m ≡ n = equal_is m n e in
        subst (λ (k : ℕ). Steps setup n request p (of_job n (Some (k, Told (host_reading text)))) (with_told setup s k (value_told (host_reading text)))) (sym is)
        (told_awaited setup s n request text p at t (subst (λ (k : ℕ). Awaits setup s.jobs k) is w) d o)

heard_by : (setup : Setup) (s : Standing) (n : ℕ) (request : Option HostMessage) (text : List ℕ) (p : Phase) (h : Hearing) → At setup s n request p → s.due ≡ [] → s.over ≡ false
    → ((m : ℕ) → h ≡ Asks m → list_any (has_number m) s.jobs ≡ false) → ((m : ℕ) → h ≡ Replies m → Awaits setup s.jobs m × Tells text)
    → Steps setup n request p (of_job n (told_item text h)) (heard_as setup s text h)
heard_by setup s n request text p Foul at d o new told =
    inl (record { none = refl; at = record { job = at.job; found = at.found; is = is_in_over setup n request at.job s.due s.due s.over true p refl at.is } })
heard_by setup s n request text p Unexpected at d o new told =
    inl (record { none = refl; at = record { job = at.job; found = at.found; is = is_in_over setup n request at.job s.due ((0, unexpected_line) ∷ []) s.over true p refl at.is } })
heard_by setup s n request text p Aside at d o new told = inl (record { none = refl; at = at })
heard_by setup s n request text p (Asks m) at d o new told = asks_other setup s n m request text p at d (new_other s.jobs n m at.job at.found (new m refl))
heard_by setup s n request text p (Replies m) at d o new told = let k = told m refl in replies_any setup s n m request text p at k.1 k.0 d o

pub heard_step : (setup : Setup) (s : Standing) (n : ℕ) (request : Option HostMessage) (line : List ℕ) (p : Phase) → At setup s n request p → s.due ≡ [] → s.over ≡ false
    → Steps setup n request p (of_job n (item_of setup s (Heard line))) (after setup s (Heard line))
heard_step setup s n request line p at d o =
    heard_by setup s n request (text_in s.tagged line) p (hearing_of setup s.jobs s.tagged line) at d o
    (λ m e. asks_new setup s.jobs s.tagged line m e)
    (λ m e. (replies_awaited setup s.jobs s.tagged line m e, tells setup s.jobs s.tagged line m e))
