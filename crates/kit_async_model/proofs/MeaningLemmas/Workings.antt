-- What a remote does, and an open job.
use Rattle.std.proofs.Common.{◌≡◌, ◌⊎◌, inl, inr, ℕ, ◌+◌, ◌-◌, ◌≤◌, ◌<◌, List, [], ◌∷◌, refl, sym, ap, subst, ◌∙◌, Bool, true, false, not, ◌==◌, cond, Some, None, Option, arith}
use Rattle.std.specs.Prelude.{◌&&◌, nat_lt, is_some, map}
use Rattle.std.proofs.lemmas.Bool.Decides.{nat_tests}
use Rattle.annex_model.specs.Messages.{HostMessage, remote_line}
use Rattle.kit_serve.specs.declared.kit.call.Said.{Said}
use Rattle.kit_serve.specs.Kit.Kits.{final_lines}
use Rattle.kit_async_model.specs.declared.setup.Setup.{Setup}
use Rattle.kit_async_model.specs.declared.job.Job.{Job}
use Rattle.kit_async_model.specs.declared.entry.Entry.TheVariants.{Take}
use Rattle.kit_async_model.specs.Jobs.{request_of, is_making_ready, is_awaiting, next_name, is_number, is_worked_by, job_of, settles, finals_in}
use Rattle.kit_async_model.specs.Legality.{is_idle, is_free, some_job, may_take, is_turn_of, is_called}
use Rattle.kit_async_model.specs.Standings.{Standing, with_taken, with_call, answer_due, called_in, after}
use Rattle.kit_async_model.specs.Meanings.{item_of, of_job}
use Rattle.kit_async_model.proofs.Across.{Finals}
use Rattle.kit_async_model.proofs.Askings.{no_more}
use Rattle.kit_async_model.proofs.Places.{job_changed}
use Rattle.kit_async_model.proofs.MeaningLemmas.Numbers.{number_of, still_changed}
use Rattle.kit_async_model.proofs.MeaningLemmas.Phases.{Phase, Working, Asking, Awaiting, Calling, Saying}
use Rattle.kit_async_model.proofs.MeaningLemmas.Stands.{IsOwed, IsReadying, IsLast, IsIn, At, is_due_of, is_in_still}
use Rattle.kit_async_model.proofs.MeaningLemmas.Readying.{readying_told, readying_taken}
use Rattle.kit_async_model.proofs.MeaningLemmas.Steps.{Steps}
use Rattle.std.proofs.lemmas.Bool.{not-true as not_true, eqb-true as equal_is, and_parts as both}
use Rattle.ann_key.proofs.Booleans.{and_false}

-- ---- taking up

taken_among : (setup : Setup) (remote other : ℕ) → nat_lt remote setup.remotes ≡ true → is_number other (Some remote) ≡ true → nat_lt other setup.remotes ≡ true
taken_among setup remote other h e = subst (λ (k : ℕ). nat_lt k setup.remotes ≡ true) (equal_is remote other e) h

taken_in : (setup : Setup) (n : ℕ) (request : Option HostMessage) (job : Job) (remote : ℕ) (due : List (ℕ × List ℕ)) (over : Bool) (p : Phase) → nat_lt remote setup.remotes ≡ true
    → due ≡ [] → over ≡ false → IsIn setup n request job due over p → IsIn setup n request (with_taken remote job) due over p
taken_in setup n request job remote due over (Saying line lines) h d o k = never k.1
  where
    never : (over ≡ true) ⊎ (due ≡ map (λ l. (n, l)) (line ∷ lines)) → IsIn setup n request (with_taken remote job) due over (Saying line lines)
    never (inl e) = absurd cc
    never (inr e) = absurd cc
taken_in setup n request job remote due over (Working asked) h d o k =
    (record { request_is = k.0.request_is; asks = k.0.asks; unready = k.0.unready; among = λ other e. taken_among setup remote other h e }, k.1)
taken_in setup n request job remote due over (Asking values name names) h d o k = (readying_taken setup request job remote values (name ∷ names) 0 k.0, k.1)
taken_in setup n request job remote due over (Awaiting values names) h d o k = ((k.0.0, readying_taken setup request job remote values (k.0.0 ∷ names) 0 k.0.1), k.1)
taken_in setup n request job remote due over (Calling values calls) h d o k = (readying_taken setup request job remote values [] calls k.0, k.1, k.2)

pub take_step : (setup : Setup) (s : Standing) (n : ℕ) (request : Option HostMessage) (m remote : ℕ) (p : Phase) → At setup s n request p → s.due ≡ []
    → may_take setup s m remote ≡ true → Steps setup n request p (of_job n (item_of setup s (Take m remote))) (after setup s (Take m remote))
take_step setup s n request m remote p at d h = go (m == n) refl
  where
    few : (not s.over && nat_lt remote setup.remotes) ≡ true
    few = (both (not s.over && nat_lt remote setup.remotes) (is_idle s.jobs remote) (both (not s.over && nat_lt remote setup.remotes && is_idle s.jobs remote) (some_job (is_free setup s.jobs) m s.jobs) h).0).0

    own : Steps setup n request p [] (after setup s (Take n remote))
    own =
        let b = both (not s.over) (nat_lt remote setup.remotes) few in
        inl (record {
          none = refl;
          at = record {
            job = with_taken remote at.job;
            found = job_changed (with_taken remote) s.jobs n at.job (λ j. refl) at.found;
            is = taken_in setup n request at.job remote s.due s.over p b.1 d (not_true s.over b.0) at.is;
          };
        })

    go : (b : Bool) → (m == n) ≡ b → Steps setup n request p [] (after setup s (Take m remote))
    go false e =
        inl (record {
          none = refl;
          at = record { job = at.job; found = still_changed s.jobs n m at.job (with_taken remote) (λ j. refl) at.found e; is = at.is };
        })
    go true e = subst (λ (k : ℕ). Steps setup n request p [] (after setup s (Take k remote))) (sym (equal_is m n e)) own

-- ---- a call for another

answer_other : (setup : Setup) (n : ℕ) (j : Job) (said : Said) (over : Bool) → (j.number == n) ≡ false → is_due_of n (answer_due setup j said over) ≡ false
answer_other setup n j said over h = go (not over && settles setup j said)
  where
    none : (lines : List (List ℕ)) → is_due_of n (map (λ line. (j.number, line)) lines) ≡ false
    none [] = refl
    none (line ∷ lines) = rw h (none lines)

    go : (b : Bool) → is_due_of n (cond b (map (λ line. (j.number, line)) (finals_in j said)) []) ≡ false
    go true = none (finals_in j said)
    go false = refl

pub called_other : (setup : Setup) (s : Standing) (n m : ℕ) (request : Option HostMessage) (said : Said) (p : Phase) → At setup s n request p → s.due ≡ [] → (m == n) ≡ false
    → At setup (called_in setup s said (job_of s.jobs m)) n request p
called_other setup s n m request said p at d other = go (job_of s.jobs m) refl
  where
    go : (o : Option Job) → job_of s.jobs m ≡ o → At setup (called_in setup s said o) n request p
    go None e = at
    go (Some j) e =
        let apart : (j.number == n) ≡ false = ap (λ (k : ℕ). k == n) (number_of s.jobs m j e) ∙ other in
        record {
          job = at.job;
          found = still_changed s.jobs n j.number at.job (with_call (settles setup j said)) (λ x. refl) at.found apart;
          is = is_in_still setup n request at.job s.due (answer_due setup j said s.over) s.over p d (answer_other setup n j said s.over apart) at.is;
        }

-- ---- a call for it

shut : (a b c d : Bool) → (a && false && b && c && d) ≡ false
shut true b c d = refl
shut false b c d = refl

-- what is due where it settles the job
pub answer_owed : (setup : Setup) (n : ℕ) (request : Option HostMessage) (job : Job) (said : Said) (over : Bool) (f : Finals request said) → job.number ≡ n → request_of job ≡ request → settles setup job said ≡ true
    → IsOwed n (f.line ∷ f.lines) (answer_due setup job said over) over
answer_owed setup n request job said true f is r h = inl refl
answer_owed setup n request job said false f is r h =
    inr (rw h (ap (λ (k : ℕ). map (λ (l : List ℕ). (k, l)) (finals_in job said)) is ∙ ap (λ (m : Option HostMessage). map (λ (l : List ℕ). (n, l)) (map remote_line (final_lines m said))) r
    ∙ ap (λ (ls : List (List ℕ)). map (λ (l : List ℕ). (n, l)) ls) f.are))

-- and where it doesn't
pub answer_none : (setup : Setup) (job : Job) (said : Said) (over : Bool) → settles setup job said ≡ false → answer_due setup job said over ≡ []
answer_none setup job said true h = refl
answer_none setup job said false h = rw h refl

pub work_last : (setup : Setup) (job : Job) (settled : Bool) → is_making_ready job ≡ false → IsLast setup (with_call settled job)
work_last setup job settled u = record {
  told = rw u refl;
  uncalled = λ jobs remote. rw (u, no_more job.calls) (and_false (is_number remote job.taken));
}

pub ready_last : (setup : Setup) (request : Option HostMessage) (job : Job) (values : List (List ℕ)) (calls : ℕ) → IsReadying setup request job values [] calls → IsLast setup (with_call true job)
ready_last setup request job values calls r = record {
  told = readying_told setup request job values calls r;
  uncalled = λ jobs remote. rw r.ready (shut (not (is_some (next_name setup (with_call true job)))) (job.calls + 1 == remote) (nat_lt remote setup.remotes) (is_idle jobs remote));
}

-- ---- what the call shows

-- it is the turn of this remote
pub record IsTurn (setup : Setup) (job : Job) (remote : ℕ) : Type 0 where
  pub told : is_awaiting setup job ≡ false
  pub unsettled : job.settled ≡ false
  pub calls : job.calls ≡ remote
  pub few : nat_lt remote setup.remotes ≡ true

pub turn_of : (setup : Setup) (jobs : List Job) (job : Job) (remote : ℕ) → is_making_ready job ≡ true → is_called setup jobs remote job ≡ true → IsTurn setup job remote
turn_of setup jobs job remote r c =
    let turn : is_turn_of setup jobs remote job ≡ true = subst (λ (b : Bool). cond b (is_turn_of setup jobs remote job) (is_worked_by remote job) ≡ true) r c in
    let a = both (is_making_ready job && not (is_awaiting setup job) && not job.settled && job.calls == remote && nat_lt remote setup.remotes) (is_idle jobs remote) turn in
    let b = both (is_making_ready job && not (is_awaiting setup job) && not job.settled && job.calls == remote) (nat_lt remote setup.remotes) a.0 in
    let c = both (is_making_ready job && not (is_awaiting setup job) && not job.settled) (job.calls == remote) b.0 in
    let d = both (is_making_ready job && not (is_awaiting setup job)) (not job.settled) c.0 in
    let e = both (is_making_ready job) (not (is_awaiting setup job)) d.0 in
    record { told = not_true (is_awaiting setup job) e.1; unsettled = not_true job.settled d.1; calls = equal_is job.calls remote c.1; few = b.1 }

pub among_of : (setup : Setup) (remote : ℕ) → nat_lt remote setup.remotes ≡ true → remote ≤ setup.remotes - 1
among_of setup remote h = let l : remote < setup.remotes = grind (arith, nat_tests) in omega (arith, l)
