-- What a remote takes up, and the calls that it is noted to have had.
use Rattle.std.proofs.Common.{◌≡◌, ◌⊎◌, inl, inr, ℕ, ◌+◌, List, [], ◌∷◌, ◌++◌, refl, sym, ap, subst, ◌∙◌, append-nil, Bool, true, false, not, ◌==◌, cond, Some, None, Option, arith}
use Rattle.std.specs.Prelude.{◌&&◌, ◌||◌, find, fold, nat_lt, nat_le, is_none}
use Rattle.std.specs.List.{list_any}
use Rattle.std.proofs.lemmas.Bool.Decides.{nat_tests}
use Rattle.threads.specs.Log.{flat, NotBy}
use Rattle.threads.specs.Passes.{HasEntered, seen_of}
use Rattle.kit_serve.specs.declared.kit.call.Said.{Said}
use Rattle.kit_serve.specs.declared.kit.call.Asked.{Asked}
use Rattle.kit_serve.specs.declared.kit.call.Call.{Call as RemoteCall}
use Rattle.kit_serve.specs.Kit.Calls.{is_line_said, plain}
use Rattle.kit_async_model.specs.declared.setup.Setup.{Setup}
use Rattle.kit_async_model.specs.declared.job.Job.{Job}
use Rattle.kit_async_model.specs.declared.entry.Entry.{Entry}
use Rattle.kit_async_model.specs.declared.entry.Entry.TheVariants.{Call, Say, Lack}
use Rattle.kit_async_model.specs.declared.event.Event.{Event}
use Rattle.kit_async_model.specs.declared.event.Event.TheVariants.{Take as TakeUp, Called, Break}
use Rattle.kit_async_model.specs.declared.event.Reply.{Reply}
use Rattle.kit_async_model.specs.declared.event.Reply.TheVariants.{Odd, Broken, Work}
use Rattle.kit_async_model.proofs.Calling.{work_plain}
use Rattle.kit_async_model.specs.Jobs.{is_making_ready, is_awaiting, is_for_any, is_worked_by, is_first_of_key, job_line, has_number, job_of, with_job, work_asked}
use Rattle.kit_async_model.specs.Legality.{Legal, is_idle, is_free, is_turn_of, is_called, is_done}
use Rattle.kit_async_model.specs.Standings.{Standing, with_taken, after, standing}
use Rattle.kit_async_model.specs.Events.{IsMadeBy, MayStep, Stepped, IsStepped, IsBrokenOff, IsUnsaid, is_call, only, waiting, due_said, work_by, first_free, free_step, turn_step, take_step, called_then, called_step, call_step, if_it_is, is_of_remote, remote_of, step_of}
use Rattle.kit_async_core.specs.Halls.{KitHall, KitPass}
use Rattle.kit_async_model.specs.Books.{AreApart}
use Rattle.kit_async_model.specs.Callings.{call_of, calls_from, calls_of, IsAsked}
use Rattle.kit_async_model.proofs.Apart.{standing_apart}
use Rattle.kit_async_model.proofs.Fronts.{standing_append}
use Rattle.kit_async_model.proofs.Places.{passes_of}
use Rattle.kit_async_model.proofs.Askings.{Busy, FirstReady, at_work, standing_first, busy_called, work_called, found_same, found_any, only_job, apart_head, never}
use Rattle.kit_async_core.proofs.Lasting.{log_lasts, uncalled_log, calls_of-append}
use Rattle.std.proofs.lemmas.Bool.{and_parts as both}
use Rattle.ann_key.proofs.Booleans.{both_false as neither}
use Rattle.ann_key.proofs.Numbers.{same_number}

-- ---- what a remote is to be called for

-- a job to get ready is the first
first_found : (p : Job → Bool) (jobs : List Job) (job : Job) → find p jobs ≡ Some job → is_making_ready job ≡ true → FirstReady jobs → find is_making_ready jobs ≡ Some job
first_found p [] job f m one = cc
first_found p (x ∷ xs) job f m one = go (p x) f
  where
    go : (b : Bool) → cond {A = Option Job} b (Some x) (find p xs) ≡ Some job → find is_making_ready (x ∷ xs) ≡ Some job
    go true k = let is : x ≡ job = cc in let here : is_making_ready x ≡ true = subst (λ (j : Job). is_making_ready j ≡ true) (sym is) m in rw here k
    go false k = absurd (never (list_any is_making_ready xs) (found_any p is_making_ready xs job k m) one)

turned_is : (setup : Setup) (r : ℕ) (jobs : List Job) (job : Job) (p : Job → Bool) → find p jobs ≡ Some job → is_turn_of setup jobs r job ≡ true → FirstReady jobs → Busy setup r jobs job
turned_is setup r jobs job p f t one =
    let a = both (is_making_ready job && not (is_awaiting setup job) && not job.settled && job.calls == r && nat_lt r setup.remotes) (is_idle jobs r) t in
    let b = both (is_making_ready job && not (is_awaiting setup job) && not job.settled && job.calls == r) (nat_lt r setup.remotes) a.0 in
    let c = both (is_making_ready job && not (is_awaiting setup job) && not job.settled) (job.calls == r) b.0 in
    let d = both (is_making_ready job && not (is_awaiting setup job)) (not job.settled) c.0 in
    let e = both (is_making_ready job) (not (is_awaiting setup job)) d.0 in
    inr (record {
      found = first_found p jobs job f e.0 one;
      turn = rw (e.1, d.1, c.1, b.1) refl;
      idle = not_true (list_any (is_worked_by r) jobs) a.1;
    })
  where
    not_true : (x : Bool) → not x ≡ true → x ≡ false
    not_true true h = cc
    not_true false h = refl

busy_of : (setup : Setup) (r : ℕ) (jobs : List Job) (job : Job) → find (is_called setup jobs r) jobs ≡ Some job → FirstReady jobs → Busy setup r jobs job
busy_of setup r jobs job f one = go (is_making_ready job) refl (passes_of (is_called setup jobs r) jobs job f)
  where
    go : (b : Bool) → is_making_ready job ≡ b → is_called setup jobs r job ≡ true → Busy setup r jobs job
    go true e c =
        let t : is_turn_of setup jobs r job ≡ true = subst (λ (m : Bool). cond m (is_turn_of setup jobs r job) (is_worked_by r job) ≡ true) e c in
        turned_is setup r jobs job (is_called setup jobs r) f t one
    go false e c =
        let w : is_worked_by r job ≡ true = subst (λ (m : Bool). cond m (is_turn_of setup jobs r job) (is_worked_by r job) ≡ true) e c in
        let busy : is_idle jobs r ≡ false = ap not (found_any (is_called setup jobs r) (is_worked_by r) jobs job f w) in
        inl (sym (found_same (is_called setup jobs r) (at_work r) (work_called setup jobs r busy) jobs) ∙ f)

-- it stays so after the groups of others
asked_lasts : (h : KitHall) (p q : KitPass) (event : Event) (reply : Reply) (r : ℕ) (job : Job) → p.number ≡ r + 3 → Legal h.fixed (seen_of p) → (e : HasEntered IsMadeBy MayStep h p q event reply)
    → find (is_called h.fixed (standing h.fixed (seen_of p)).jobs r) (standing h.fixed (seen_of p)).jobs ≡ Some job
    → Busy h.fixed r (standing h.fixed (seen_of p ++ flat e.between)).jobs job
asked_lasts h p q event reply r job is l e f =
    log_lasts h.fixed r (seen_of p) e.between job e.between_legal (subst (λ (n : ℕ). NotBy n e.between) is e.others) l
    (busy_of h.fixed r (standing h.fixed (seen_of p)).jobs job f (standing_first h.fixed (seen_of p)))

own_step : (h : KitHall) (p q : KitPass) (event : Event) (reply : Reply) (r : ℕ) → p.number ≡ r + 3 → (e : HasEntered IsMadeBy MayStep h p q event reply)
    → MayStep h.fixed (seen_of p ++ flat e.between) (r + 3) event e.group reply
own_step h p q event reply r is e = subst (λ (n : ℕ). MayStep h.fixed (seen_of p ++ flat e.between) n event e.group reply) is e.own.1

calls_seen : (h : KitHall) (p q : KitPass) (event : Event) (reply : Reply) (r : ℕ) → p.number ≡ r + 3 → (e : HasEntered IsMadeBy MayStep h p q event reply)
    → calls_of h.fixed r (seen_of q) ≡ calls_of h.fixed r (seen_of p) ++ calls_from h.fixed (standing h.fixed (seen_of p ++ flat e.between)) r e.group
calls_seen h p q event reply r is e =
    let past : List Entry = seen_of p ++ flat e.between in
    ap (calls_of h.fixed r) e.seen
    ∙ calls_of-append h.fixed r past e.group
    ∙ ap (λ (cs : List RemoteCall). cs ++ calls_from h.fixed (standing h.fixed past) r e.group)
    (uncalled_log h.fixed r (seen_of p) e.between e.between_legal (subst (λ (n : ℕ). NotBy n e.between) is e.others))

-- ---- a request is taken up

its_number : (r : ℕ) → remote_of (r + 3) ≡ r
its_number r = omega arith

work_asks : (o : Option Asked) (asked : Asked) → Work asked ≡ work_by o → o ≡ Some asked
work_asks None asked e = cc
work_asks (Some a) asked e = let same : asked ≡ a = cc in ap (λ (x : Asked). Some x) (sym same)

no_work : (done : Bool) (asked : Asked) → Work asked ≡ waiting done → ⊥
no_work true asked e = cc
no_work false asked e = cc

-- the job that is taken up is then the one that is worked on
taken_found : (setup : Setup) (all : List Job) (r : ℕ) (jobs : List Job) (job : Job) → AreApart jobs → list_any (is_worked_by r) jobs ≡ false → find (is_free setup all) jobs ≡ Some job
    → find (at_work r) (with_job job.number (with_taken r) jobs) ≡ Some (with_taken r job)
taken_found setup all r [] job a none f = cc
taken_found setup all r (x ∷ xs) job a none f = go (is_free setup all x) refl f (λ k. taken_found setup all r xs job a.1 (neither (is_worked_by r x) (list_any (is_worked_by r) xs) none).1 k)
  where
    unmade : (m s : Bool) → (not m && s) ≡ true → not m ≡ true
    unmade true s h = cc
    unmade false s h = refl

    works : is_free setup all x ≡ true → at_work r (with_taken r x) ≡ true
    works t =
        let one = both (is_for_any setup x && is_none x.taken && x.calls == 0) (is_first_of_key all x) t in
        let two = both (is_for_any setup x && is_none x.taken) (x.calls == 0) one.0 in
        let three = both (is_for_any setup x) (is_none x.taken) two.0 in
        let m : not (is_making_ready x) ≡ true = unmade (is_making_ready x) _ three.0 in
        rw (m, same_number r, two.1) refl

    idle : (b : Bool) → is_worked_by r x ≡ false → (b && is_worked_by r x) ≡ false
    idle true h = h
    idle false h = refl

    go : (b : Bool) → is_free setup all x ≡ b → cond {A = Option Job} b (Some x) (find (is_free setup all) xs) ≡ Some job
        → (find (is_free setup all) xs ≡ Some job → find (at_work r) (with_job job.number (with_taken r) xs) ≡ Some (with_taken r job))
        → find (at_work r) (with_job job.number (with_taken r) (x ∷ xs)) ≡ Some (with_taken r job)
    go true e k more =
        let is : x ≡ job = cc in
        subst (λ (j : Job). find (at_work r) (with_job j.number (with_taken r) (x ∷ xs)) ≡ Some (with_taken r j)) is (rw (same_number x.number, works e) refl)
    go false e k more =
        let other : has_number job.number x ≡ false = apart_head (is_free setup all) x xs job job.number a.0 k (same_number job.number) in
        let none_here : at_work r x ≡ false = idle (not (is_making_ready x)) (neither (is_worked_by r x) (list_any (is_worked_by r) xs) none).0 in
        rw (other, none_here) (more k)

record Begins (setup : Setup) (s : Standing) (r : ℕ) (asked : Asked) (group : List Entry) : Type 0 where
  job : Job
  busy : Busy setup r (fold (after setup) s group).jobs job
  asks : work_asked setup job ≡ Some asked

free_begins : (setup : Setup) (s : Standing) (r : ℕ) (asked : Asked) (group : List Entry) → AreApart s.jobs → (b : Bool) → (s.over || not (is_idle s.jobs r)) ≡ b
    → (o : Option Job) → cond {A = Option Job} b None (find (is_free setup s.jobs) s.jobs) ≡ o
    → Work asked ≡ (free_step setup s r o).reply → group ≡ (free_step setup s r o).group → Begins setup s r asked group
free_begins setup s r asked group a true c None e k g = absurd (no_work (is_done setup s) asked k)
free_begins setup s r asked group a true c (Some job) e k g = cc
free_begins setup s r asked group a false c None e k g = absurd (no_work (is_done setup s) asked k)
free_begins setup s r asked group a false c (Some job) e k g =
    let idle : list_any (is_worked_by r) s.jobs ≡ false = twice (list_any (is_worked_by r) s.jobs) (neither s.over (not (is_idle s.jobs r)) c).1 in
    record {
      job = with_taken r job;
      busy = subst (λ (es : List Entry). Busy setup r (fold (after setup) s es).jobs (with_taken r job)) (sym g) (inl (taken_found setup s.jobs r s.jobs job a idle e));
      asks = work_asks (work_asked setup job) asked k;
    }
  where
    twice : (b : Bool) → not (not b) ≡ false → b ≡ false
    twice true h = cc
    twice false h = refl

take_begins : (setup : Setup) (s : Standing) (r : ℕ) (asked : Asked) (group : List Entry) → AreApart s.jobs → FirstReady s.jobs → (o : Option Job) → find (is_turn_of setup s.jobs r) s.jobs ≡ o
    → Work asked ≡ (turn_step setup s r o).reply → group ≡ (turn_step setup s r o).group → Begins setup s r asked group
take_begins setup s r asked group a one None e k g =
    free_begins setup s r asked group a (s.over || not (is_idle s.jobs r)) refl (first_free setup s r) refl k g
take_begins setup s r asked group a one (Some job) e k g = record {
  job = job;
  busy = subst (λ (es : List Entry). Busy setup r (fold (after setup) s es).jobs job) (sym g)
      (turned_is setup r s.jobs job (is_turn_of setup s.jobs r) e (passes_of (is_turn_of setup s.jobs r) s.jobs job e) one);
  asks = work_asks (work_asked setup job) asked k;
}

-- a remote that is told to work is to be called for that
pub takes_asked : (h : KitHall) (p q : KitPass) (r : ℕ) (asked : Asked) → p.number ≡ r + 3 → Legal h.fixed (seen_of p) → HasEntered IsMadeBy MayStep h p q TakeUp (Work asked)
    → IsAsked h.fixed (standing h.fixed (seen_of q)) r asked × (calls_of h.fixed r (seen_of q) ≡ calls_of h.fixed r (seen_of p))
takes_asked h p q r asked is l e = go (own_step h p q TakeUp (Work asked) r is e).step
  where
    past : List Entry
    past = seen_of p ++ flat e.between

    s : Standing
    s = standing h.fixed past

    same : (Job → ℕ) → standing h.fixed (seen_of q) ≡ fold (after h.fixed) s e.group
    same f = ap (standing h.fixed) e.seen ∙ standing_append h.fixed past e.group

    taken_calls : (o : Option Job) → (calls_from h.fixed s r (free_step h.fixed s r o).group) ≡ []
    taken_calls None = refl
    taken_calls (Some job) = refl

    turned_calls : (o : Option Job) → calls_from h.fixed s r (turn_step h.fixed s r o).group ≡ []
    turned_calls None = taken_calls (first_free h.fixed s r)
    turned_calls (Some job) = refl

    begun : (b : Bool) → is_of_remote h.fixed (r + 3) ≡ b → Work asked ≡ (if_it_is b (take_step h.fixed s (remote_of (r + 3)))).reply → e.group ≡ (if_it_is b (take_step h.fixed s (remote_of (r + 3)))).group
        → IsAsked h.fixed (standing h.fixed (seen_of q)) r asked × (calls_of h.fixed r (seen_of q) ≡ calls_of h.fixed r (seen_of p))
    begun false w k g = cc
    begun true w k g =
        let k' : Work asked ≡ (take_step h.fixed s r).reply = subst (λ (n : ℕ). Work asked ≡ (take_step h.fixed s n).reply) (its_number r) k in
        let g' : e.group ≡ (take_step h.fixed s r).group = subst (λ (n : ℕ). e.group ≡ (take_step h.fixed s n).group) (its_number r) g in
        let b = take_begins h.fixed s r asked e.group (standing_apart h.fixed past) (standing_first h.fixed past) (find (is_turn_of h.fixed s.jobs r) s.jobs) refl k' g' in
        let jobs_are : (standing h.fixed (seen_of q)).jobs ≡ (fold (after h.fixed) s e.group).jobs = ap (λ (t : Standing). t.jobs) (same (λ j. j.number)) in
        let busy : Busy h.fixed r (standing h.fixed (seen_of q)).jobs b.job = subst (λ (js : List Job). Busy h.fixed r js b.job) (sym jobs_are) b.busy in (
          record {
            job = b.job;
            within = subst (λ (n : ℕ). nat_lt n h.fixed.remotes ≡ true) (its_number r) (both (nat_le 3 (r + 3)) (nat_lt (remote_of (r + 3)) h.fixed.remotes) w).1;
            found = busy_called h.fixed r (standing h.fixed (seen_of q)).jobs b.job busy;
            asks = b.asks;
          },
          calls_seen h p q TakeUp (Work asked) r is e
              ∙ ap (λ (g : List Entry). calls_of h.fixed r (seen_of p) ++ calls_from h.fixed s r g) g'
              ∙ ap (λ (cs : List RemoteCall). calls_of h.fixed r (seen_of p) ++ cs) (turned_calls (find (is_turn_of h.fixed s.jobs r) s.jobs))
              ∙ append-nil (calls_of h.fixed r (seen_of p)),
        )

    go : IsStepped (step_of h.fixed past (r + 3) TakeUp) e.group (Work asked)
        ⊎ (IsBrokenOff TakeUp e.group (Work asked) ⊎ ((is_call TakeUp ≡ true) × IsUnsaid (step_of h.fixed past (r + 3) TakeUp) e.group (Work asked)))
        → IsAsked h.fixed (standing h.fixed (seen_of q)) r asked × (calls_of h.fixed r (seen_of q) ≡ calls_of h.fixed r (seen_of p))
    go (inl k) = begun (is_of_remote h.fixed (r + 3)) refl k.reply_is k.group_is
    go (inr (inl b)) = let bad : Work asked ≡ Broken = b.reply_is in absurd cc
    go (inr (inr u)) = let bad : false ≡ true = u.0 in absurd cc

-- ---- a call is noted

due_uncalled : (setup : Setup) (s : Standing) (r : ℕ) (due : List (ℕ × List ℕ)) → calls_from setup s r (due_said due) ≡ []
due_uncalled setup s r [] = refl
due_uncalled setup s r (d ∷ rest) = due_uncalled setup (after setup s (Say d.0 (job_line d.0 d.1))) r rest

one_call : (setup : Setup) (s : Standing) (r : ℕ) (job : Job) (said : Said) (asked : Asked) → job_of s.jobs job.number ≡ Some job → work_asked setup job ≡ Some asked
    → call_of setup s r (Call job.number r said) ≡ record { asked = plain asked; said = said } ∷ []
one_call setup s r job said asked j a = rw (same_number r, j, work_plain setup job asked a) refl

-- what a remote says to what it is called for is noted
pub calls_noted : (h : KitHall) (p q : KitPass) (r : ℕ) (said : Said) (asked : Asked) (reply : Reply) → p.number ≡ r + 3 → Legal h.fixed (seen_of p)
    → IsAsked h.fixed (standing h.fixed (seen_of p)) r asked → is_line_said said ≡ true → HasEntered IsMadeBy MayStep h p q (Called said) reply
    → calls_of h.fixed r (seen_of q) ≡ calls_of h.fixed r (seen_of p) ++ record { asked = plain asked; said = said } ∷ []
calls_noted h p q r said asked reply is l k text e = go (own_step h p q (Called said) reply r is e).step
  where
    past : List Entry
    past = seen_of p ++ flat e.between

    s : Standing
    s = standing h.fixed past

    busy : Busy h.fixed r s.jobs k.job
    busy = asked_lasts h p q (Called said) reply r k.job is l e k.found

    found : find (is_called h.fixed s.jobs r) s.jobs ≡ Some k.job
    found = busy_called h.fixed r s.jobs k.job busy

    there : job_of s.jobs k.job.number ≡ Some k.job
    there = only_job (is_called h.fixed s.jobs r) s.jobs k.job k.job.number (standing_apart h.fixed past) found (same_number k.job.number)

    call : Entry
    call = Call k.job.number r said

    remote_is : is_of_remote h.fixed (r + 3) ≡ true
    remote_is = both_true (nat_le 3 (r + 3)) (nat_lt (remote_of (r + 3)) h.fixed.remotes) (least r) (subst (λ (n : ℕ). nat_lt n h.fixed.remotes ≡ true) (sym (its_number r)) k.within)
      where
        least : (n : ℕ) → nat_le 3 (n + 3) ≡ true
        least n = grind (arith, nat_tests)

        both_true : (a b : Bool) → a ≡ true → b ≡ true → (a && b) ≡ true
        both_true true b x y = y
        both_true false b x y = cc

    step_is : step_of h.fixed past (r + 3) (Called said) ≡ called_then (after h.fixed s call) call
    step_is =
        ap (λ (b : Bool). if_it_is b (call_step h.fixed s (remote_of (r + 3)) said)) remote_is
        ∙ ap (λ (n : ℕ). call_step h.fixed s n said) (its_number r)
        ∙ ap (λ (b : Bool). cond b (called_step h.fixed s r said (find (is_called h.fixed s.jobs r) s.jobs)) (only Odd)) text
        ∙ ap (called_step h.fixed s r said) found

    noted : (rest : List Entry) → calls_from h.fixed (after h.fixed s call) r rest ≡ [] → e.group ≡ call ∷ rest
        → calls_of h.fixed r (seen_of q) ≡ calls_of h.fixed r (seen_of p) ++ record { asked = plain asked; said = said } ∷ []
    noted rest none g =
        calls_seen h p q (Called said) reply r is e
        ∙ ap (λ (g : List Entry). calls_of h.fixed r (seen_of p) ++ calls_from h.fixed s r g) g
        ∙ ap (λ (cs : List RemoteCall). calls_of h.fixed r (seen_of p) ++ (call_of h.fixed s r call ++ cs)) none
        ∙ ap (λ (cs : List RemoteCall). calls_of h.fixed r (seen_of p) ++ cs) (append-nil (call_of h.fixed s r call) ∙ one_call h.fixed s r k.job said asked there k.asks)

    go : IsStepped (step_of h.fixed past (r + 3) (Called said)) e.group reply
        ⊎ (IsBrokenOff (Called said) e.group reply ⊎ ((is_call (Called said) ≡ true) × IsUnsaid (step_of h.fixed past (r + 3) (Called said)) e.group reply))
        → calls_of h.fixed r (seen_of q) ≡ calls_of h.fixed r (seen_of p) ++ record { asked = plain asked; said = said } ∷ []
    go (inl w) = noted (due_said (after h.fixed s call).due) (due_uncalled h.fixed (after h.fixed s call) r (after h.fixed s call).due) (w.group_is ∙ ap (λ (x : Stepped). x.group) step_is)
    go (inr (inl b)) = let bad : false ≡ true = b.may in absurd cc
    go (inr (inr u)) = noted (Lack ∷ []) refl (u.1.group_is ∙ ap (λ (x : Entry). x ∷ Lack ∷ []) (first_is u.1.call u.1.answer u.1.more (sym u.1.whole ∙ ap (λ (x : Stepped). x.group) step_is)))
      where
        first_is : (c a : Entry) (more : List Entry) → c ∷ a ∷ more ≡ call ∷ due_said (after h.fixed s call).due → c ≡ call
        first_is c a more w = cc

-- ---- nothing is noted else

quiet_calls : (setup : Setup) (s : Standing) (r : ℕ) (reply : Reply) (o : Option Job) → calls_from setup s r (turn_step setup s r o).group ≡ []
quiet_calls setup s r reply (Some job) = refl
quiet_calls setup s r reply None = go (first_free setup s r)
  where
    go : (o : Option Job) → calls_from setup s r (free_step setup s r o).group ≡ []
    go None = refl
    go (Some job) = refl

-- a remote that asks for work isn't called by that
pub takes_no_call : (h : KitHall) (p q : KitPass) (r : ℕ) (reply : Reply) → p.number ≡ r + 3 → HasEntered IsMadeBy MayStep h p q TakeUp reply
    → calls_of h.fixed r (seen_of q) ≡ calls_of h.fixed r (seen_of p)
takes_no_call h p q r reply is e =
    calls_seen h p q TakeUp reply r is e
    ∙ ap (λ (cs : List RemoteCall). calls_of h.fixed r (seen_of p) ++ cs) (go (own_step h p q TakeUp reply r is e).step)
    ∙ append-nil (calls_of h.fixed r (seen_of p))
  where
    past : List Entry
    past = seen_of p ++ flat e.between

    s : Standing
    s = standing h.fixed past

    of_it : (b : Bool) → calls_from h.fixed s r (if_it_is b (take_step h.fixed s (remote_of (r + 3)))).group ≡ []
    of_it false = refl
    of_it true = subst (λ (n : ℕ). calls_from h.fixed s r (take_step h.fixed s n).group ≡ []) (sym (its_number r)) (quiet_calls h.fixed s r reply (find (is_turn_of h.fixed s.jobs r) s.jobs))

    go : IsStepped (step_of h.fixed past (r + 3) TakeUp) e.group reply
        ⊎ (IsBrokenOff TakeUp e.group reply ⊎ ((is_call TakeUp ≡ true) × IsUnsaid (step_of h.fixed past (r + 3) TakeUp) e.group reply)) → calls_from h.fixed s r e.group ≡ []
    go (inl k) = ap (λ (g : List Entry). calls_from h.fixed s r g) k.group_is ∙ of_it (is_of_remote h.fixed (r + 3))
    go (inr (inl b)) = ap (λ (g : List Entry). calls_from h.fixed s r g) b.group_is
    go (inr (inr u)) = let bad : false ≡ true = u.0 in absurd cc

-- nor by breaking the kit off
pub breaks_no_call : (h : KitHall) (p q : KitPass) (r : ℕ) (reply : Reply) → p.number ≡ r + 3 → HasEntered IsMadeBy MayStep h p q Break reply
    → calls_of h.fixed r (seen_of q) ≡ calls_of h.fixed r (seen_of p)
breaks_no_call h p q r reply is e =
    calls_seen h p q Break reply r is e
    ∙ ap (λ (cs : List RemoteCall). calls_of h.fixed r (seen_of p) ++ cs) (go (own_step h p q Break reply r is e).step)
    ∙ append-nil (calls_of h.fixed r (seen_of p))
  where
    past : List Entry
    past = seen_of p ++ flat e.between

    s : Standing
    s = standing h.fixed past

    go : IsStepped (step_of h.fixed past (r + 3) Break) e.group reply
        ⊎ (IsBrokenOff Break e.group reply ⊎ ((is_call Break ≡ true) × IsUnsaid (step_of h.fixed past (r + 3) Break) e.group reply)) → calls_from h.fixed s r e.group ≡ []
    go (inl k) = ap (λ (g : List Entry). calls_from h.fixed s r g) k.group_is
    go (inr (inl b)) = ap (λ (g : List Entry). calls_from h.fixed s r g) b.group_is
    go (inr (inr u)) = let bad : false ≡ true = u.0 in absurd cc
