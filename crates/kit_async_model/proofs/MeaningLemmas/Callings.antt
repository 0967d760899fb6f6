-- A call of a remote, and the open job that it is made for.
use Rattle.std.proofs.Common.{◌≡◌, ◌⊎◌, inl, inr, ℕ, ◌+◌, ◌-◌, ◌≤◌, ◌<◌, List, [], ◌∷◌, refl, sym, ap, subst, ◌∙◌, Bool, true, false, not, ◌==◌, cond, Some, Option, arith}
use Rattle.std.specs.Prelude.{◌||◌, nat_lt}
use Rattle.std.proofs.lemmas.Bool.Decides.{nat_tests}
use Rattle.annex_model.specs.Messages.{HostMessage}
use Rattle.kit_serve.specs.declared.kit.call.Asked.{Asked}
use Rattle.kit_serve.specs.declared.kit.call.Asked.TheVariants.{Prepare as AskPrepare}
use Rattle.kit_serve.specs.declared.kit.call.Said.{Said}
use Rattle.kit_serve.specs.Kit.Calls.{is_line_said}
use Rattle.kit_serve.specs.Kit.Kits.{asked_by, is_yes}
use Rattle.kit_async_model.specs.declared.setup.Setup.{Setup}
use Rattle.kit_async_model.specs.declared.job.Job.{Job}
use Rattle.kit_async_model.specs.declared.entry.Entry.TheVariants.{Call}
use Rattle.kit_async_model.specs.Books.{AreApart}
use Rattle.kit_async_model.specs.Jobs.{due_in, is_making_ready, is_awaiting, is_number, is_worked_by, has_number, job_of, with_job, settles}
use Rattle.kit_async_model.specs.Legality.{some_job, is_turn_of, is_called, may_call}
use Rattle.kit_async_model.specs.Standings.{Standing, with_call, answer_due, called_in, after}
use Rattle.kit_async_model.specs.Meanings.{asked_in, Item, Calls, item_of, of_job}
use Rattle.kit_async_model.proofs.Across.{finals_of}
use Rattle.kit_async_model.proofs.Askings.{never, only_passes}
use Rattle.kit_async_model.proofs.Places.{job_changed, passes_of}
use Rattle.kit_async_model.proofs.MeaningLemmas.Numbers.{number_of}
use Rattle.kit_async_model.proofs.MeaningLemmas.Phases.{Phase, Working, Asking, Awaiting, Calling, IsLeft, worked_left, called_left, agreed_left, Saying}
use Rattle.kit_async_model.proofs.MeaningLemmas.Stands.{IsReadying, IsLast, IsWork, IsIn, At}
use Rattle.kit_async_model.proofs.MeaningLemmas.Readying.{readying_awaits, readying_asked}
use Rattle.kit_async_model.proofs.MeaningLemmas.Steps.{Steps, Moves, of_other, of_own, none_due}
use Rattle.kit_async_model.proofs.MeaningLemmas.Workings.{called_other, answer_owed, answer_none, work_last, ready_last, IsTurn, turn_of, among_of}
use Rattle.ann_key.proofs.Numbers.{same_number}
use Rattle.std.proofs.lemmas.Bool.{eqb-true as equal_is, and_parts as both}

-- ---- what follows the call

-- the job after it, in what comes next
call_moves : (setup : Setup) (s : Standing) (n : ℕ) (request : Option HostMessage) (remote : ℕ) (asked : Asked) (said : Said) (p to : Phase) (job : Job) → job_of s.jobs n ≡ Some job
    → asked_by (due_in setup job) ≡ Some asked → IsIn setup n request (with_call (settles setup job said) job) (answer_due setup job said s.over) s.over to
    → ((more : List Item) → IsLeft setup request to more → IsLeft setup request p (Calls remote (Some asked) said ∷ more))
    → Moves setup n request p (of_job n (Some (n, Calls remote (asked_in setup (Some job)) said))) (called_in setup s said (Some job))
call_moves setup s n request remote asked said p to job found asks is left = record {
  to = to;
  item = Calls remote (Some asked) said;
  are = of_own n (Calls remote (asked_in setup (Some job)) said) (same_number n) ∙ ap (λ (o : Option Asked). Calls remote o said ∷ []) asks;
  at = record {
    job = with_call (settles setup job said) job;
    found = subst (λ (k : ℕ). job_of (with_job k (with_call (settles setup job said)) s.jobs) n ≡ Some (with_call (settles setup job said) job)) (sym (number_of s.jobs n job found))
        (job_changed (with_call (settles setup job said)) s.jobs n job (λ j. refl) found);
    is = is;
  };
  left = left;
}

work_moves : (setup : Setup) (s : Standing) (n : ℕ) (request : Option HostMessage) (remote : ℕ) (asked : Asked) (said : Said) (job : Job) → job_of s.jobs n ≡ Some job
    → IsWork setup asked request job → is_worked_by remote job ≡ true
    → Moves setup n request (Working asked) (of_job n (Some (n, Calls remote (asked_in setup (Some job)) said))) (called_in setup s said (Some job))
work_moves setup s n request remote asked said job found w c =
    let settled : settles setup job said ≡ true = rw w.unready refl in
    let taken : is_number remote job.taken ≡ true = (both (is_number remote job.taken) (job.calls == 0) c).0 in
    let f = finals_of request said in
    call_moves setup s n request remote asked said (Working asked) (Saying f.line f.lines) job found w.asks
    (work_last setup job (settles setup job said) w.unready, answer_owed setup n request job said s.over f (number_of s.jobs n job found) w.request_is settled)
    (worked_left setup asked request remote said f (among_of setup remote (w.among remote taken)))

-- ---- getting ready

-- what settles it: a word that isn't Yes, or that of the last remote
settled_ends : (setup : Setup) (job : Job) (said : Said) (remote : ℕ) → is_making_ready job ≡ true → job.calls ≡ remote → settles setup job said ≡ true
    → (is_yes said ≡ false) ⊎ (remote + 1 ≡ setup.remotes)
settled_ends setup job said remote r c h =
    go (is_yes said) refl (subst (λ (b : Bool). (not b || not (is_yes said) || (job.calls + 1 == setup.remotes)) ≡ true) r h)
  where
    go : (b : Bool) → is_yes said ≡ b → (not true || not b || (job.calls + 1 == setup.remotes)) ≡ true → (is_yes said ≡ false) ⊎ (remote + 1 ≡ setup.remotes)
    go false e k = inl e
    go true e k = inr (ap (λ (m : ℕ). m + 1) (sym c) ∙ equal_is (job.calls + 1) setup.remotes k)

-- and what doesn't: Yes, where there are more remotes
pub record Agrees (setup : Setup) (said : Said) (remote : ℕ) : Type 0 where
  pub yes : is_yes said ≡ true
  pub more : (remote + 1 == setup.remotes) ≡ false

unsettled_agrees : (setup : Setup) (job : Job) (said : Said) (remote : ℕ) → is_making_ready job ≡ true → job.calls ≡ remote → settles setup job said ≡ false → Agrees setup said remote
unsettled_agrees setup job said remote r c h =
    go (is_yes said) refl (subst (λ (b : Bool). (not b || not (is_yes said) || (job.calls + 1 == setup.remotes)) ≡ false) r h)
  where
    go : (b : Bool) → is_yes said ≡ b → (not true || not b || (job.calls + 1 == setup.remotes)) ≡ false → Agrees setup said remote
    go false e k = absurd cc
    go true e k = record { yes = e; more = subst (λ (m : ℕ). (m + 1 == setup.remotes) ≡ false) c k }

more_remotes : (setup : Setup) (remote : ℕ) → nat_lt remote setup.remotes ≡ true → (remote + 1 == setup.remotes) ≡ false → remote + 1 ≤ setup.remotes - 1
more_remotes setup remote h k =
    let l : remote < setup.remotes = grind (arith, nat_tests) in
    let n : remote + 1 ≡ setup.remotes → ⊥ = grind (arith, nat_tests) in
    omega (arith, l, n)

readying_called : (setup : Setup) (request : Option HostMessage) (job : Job) (values : List (List ℕ)) (remote : ℕ) → IsReadying setup request job values [] remote
    → IsReadying setup request (with_call false job) values [] (remote + 1)
readying_called setup request job values remote r =
    record { request_is = r.request_is; ready = r.ready; values_are = r.values_are; left_is = r.left_is; calls_are = ap (λ (k : ℕ). k + 1) r.calls_are; unsettled = refl }

turn_moves : (setup : Setup) (s : Standing) (n : ℕ) (request : Option HostMessage) (values : List (List ℕ)) (remote : ℕ) (said : Said) (job : Job) → job_of s.jobs n ≡ Some job
    → IsReadying setup request job values [] remote → IsTurn setup job remote
    → Moves setup n request (Calling values remote) (of_job n (Some (n, Calls remote (asked_in setup (Some job)) said))) (called_in setup s said (Some job))
turn_moves setup s n request values remote said job found r t = go (settles setup job said) refl
  where
    asks : asked_by (due_in setup job) ≡ Some (AskPrepare values)
    asks = readying_asked setup request job values remote r

    go : (b : Bool) → settles setup job said ≡ b
        → Moves setup n request (Calling values remote) (of_job n (Some (n, Calls remote (asked_in setup (Some job)) said))) (called_in setup s said (Some job))
    go true e =
        let last : IsLast setup (with_call (settles setup job said) job) = subst (λ (b : Bool). IsLast setup (with_call b job)) (sym e) (ready_last setup request job values remote r) in
        let f = finals_of request said in
        call_moves setup s n request remote (AskPrepare values) said (Calling values remote) (Saying f.line f.lines) job found asks
        (last, answer_owed setup n request job said s.over f (number_of s.jobs n job found) r.request_is e)
        (called_left setup request values remote said f (among_of setup remote t.few) (settled_ends setup job said remote r.ready r.calls_are e))
    go false e =
        let a = unsettled_agrees setup job said remote r.ready r.calls_are e in
        let next : IsReadying setup request (with_call (settles setup job said) job) values [] (remote + 1) =
        subst (λ (b : Bool). IsReadying setup request (with_call b job) values [] (remote + 1)) (sym e) (readying_called setup request job values remote r) in
        call_moves setup s n request remote (AskPrepare values) said (Calling values remote) (Calling values (remote + 1)) job found asks
        (next, more_remotes setup remote t.few a.more, inr (none_due n (answer_due setup job said s.over) (answer_none setup job said s.over e)))
        (agreed_left setup request values remote said a.yes)

-- ---- any job

called_own : (setup : Setup) (s : Standing) (n : ℕ) (request : Option HostMessage) (remote : ℕ) (said : Said) (p : Phase) (job : Job) → job_of s.jobs n ≡ Some job
    → is_called setup s.jobs remote job ≡ true → IsIn setup n request job s.due s.over p
    → Moves setup n request p (of_job n (Some (n, Calls remote (asked_in setup (Some job)) said))) (called_in setup s said (Some job))
called_own setup s n request remote said (Saying line lines) job found c k = absurd (never (is_called setup s.jobs remote job) c (k.0.uncalled s.jobs remote))
called_own setup s n request remote said (Working asked) job found c k =
    work_moves setup s n request remote asked said job found k.0
    (subst (λ (b : Bool). cond b (is_turn_of setup s.jobs remote job) (is_worked_by remote job) ≡ true) k.0.unready c)
called_own setup s n request remote said (Asking values name names) job found c k =
    absurd (never (is_awaiting setup job) (readying_awaits setup request job values name names 0 k.0) (turn_of setup s.jobs job remote k.0.ready c).told)
called_own setup s n request remote said (Awaiting values names) job found c k =
    absurd (never (is_awaiting setup job) (readying_awaits setup request job values k.0.0 names 0 k.0.1) (turn_of setup s.jobs job remote k.0.1.ready c).told)
called_own setup s n request remote said (Calling values calls) job found c k =
    let t = turn_of setup s.jobs job remote k.0.ready c in
    let same : remote ≡ calls = sym t.calls ∙ k.0.calls_are in
    subst (λ (m : ℕ). Moves setup n request (Calling values m) (of_job n (Some (n, Calls remote (asked_in setup (Some job)) said))) (called_in setup s said (Some job))) same
    (turn_moves setup s n request values remote said job found (subst (λ (m : ℕ). IsReadying setup request job values [] m) (sym same) k.0) t)

pub call_step : (setup : Setup) (s : Standing) (n : ℕ) (request : Option HostMessage) (m remote : ℕ) (said : Said) (p : Phase) → AreApart s.jobs → At setup s n request p → s.due ≡ []
    → may_call setup s m remote said ≡ true → Steps setup n request p (of_job n (item_of setup s (Call m remote said))) (after setup s (Call m remote said))
call_step setup s n request m remote said p a at d h = go (m == n) refl
  where
    own : some_job (is_called setup s.jobs remote) n s.jobs ≡ true → Moves setup n request p (of_job n (Some (n, Calls remote (asked_in setup (job_of s.jobs n)) said))) (called_in setup s said (job_of s.jobs n))
    own t =
        let called : is_called setup s.jobs remote at.job ≡ true =
        only_passes (has_number n) (is_called setup s.jobs remote) s.jobs at.job n a at.found (passes_of (has_number n) s.jobs at.job at.found) t in
        subst (λ (o : Option Job). Moves setup n request p (of_job n (Some (n, Calls remote (asked_in setup o) said))) (called_in setup s said o)) (sym at.found)
        (called_own setup s n request remote said p at.job at.found called at.is)

    go : (b : Bool) → (m == n) ≡ b → Steps setup n request p (of_job n (Some (m, Calls remote (asked_in setup (job_of s.jobs m)) said))) (called_in setup s said (job_of s.jobs m))
    go false e = inl (record { none = of_other m n (Calls remote (asked_in setup (job_of s.jobs m)) said) e; at = called_other setup s n m request said p at d e })
    go true e =
        let is : m ≡ n = equal_is m n e in
        let t : some_job (is_called setup s.jobs remote) m s.jobs ≡ true = (both (is_line_said said) (some_job (is_called setup s.jobs remote) m s.jobs) h).1 in
        inr (inl (subst (λ (k : ℕ). Moves setup n request p (of_job n (Some (k, Calls remote (asked_in setup (job_of s.jobs k)) said))) (called_in setup s said (job_of s.jobs k))) (sym is)
        (own (subst (λ (k : ℕ). some_job (is_called setup s.jobs remote) k s.jobs ≡ true) is t))))
