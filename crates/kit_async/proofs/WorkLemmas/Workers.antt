-- One turn of who calls a remote, and many.
use Rattle.std.proofs.Common.{◌≡◌, ◌⊎◌, inl, inr, ℕ, ◌+◌, ◌&&◌, not, List, [], ◌∷◌, ◌++◌, refl, sym, ap, subst, ◌∙◌, append_assoc, append-nil, Bool, true, false, Some, None, Option, Result, Ok, Err, arith}
use Rattle.std.specs.Prelude.{find, option_map}
use Rattle.annex_model.specs.Lines.{has_newline}
use Rattle.annex_model.specs.Messages.{is_sent_key}
use Rattle.threads.specs.Log.{flat}
use Rattle.threads.specs.Passes.{seen_of}
use Rattle.kit_serve.specs.declared.kit.call.Said.{Said}
use Rattle.kit_serve.specs.declared.kit.call.Call.{Call}
use Rattle.kit_serve.specs.declared.kit.call.Asked.{Asked}
use Rattle.kit_serve.specs.declared.kit.call.Asked.TheVariants.{Prepare, Initialize, Store, Retrieve, Check, Remove}
use Rattle.kit_serve.specs.Kit.Calls.{are_lines, called, is_line_said, plain}
use Rattle.kit_async_model.specs.declared.event.Event.{Event}
use Rattle.kit_async_model.specs.declared.event.Event.TheVariants.{Take as TakeUp, Called, Break}
use Rattle.kit_async_model.specs.declared.event.Reply.{Reply}
use Rattle.kit_async_model.specs.declared.event.Reply.TheVariants.{Broken, Odd, Wait, Work}
use Rattle.kit_async_model.specs.declared.setup.Setup.{Setup}
use Rattle.kit_async_model.specs.declared.entry.Entry.{Entry}
use Rattle.kit_async_model.specs.declared.job.Job.{Job}
use Rattle.kit_async_model.specs.Jobs.{work_asked}
use Rattle.kit_async_model.specs.Legality.{is_done, is_turn_of}
use Rattle.kit_async_model.specs.Events.{MayStep, IsStepped, IsBrokenOff, IsUnsaid, Stepped, first_free, free_step, if_it_is, is_call, is_of_remote, only, remote_of, step_of, take_step, turn_step, waiting, work_by}
use Rattle.kit_async_model.specs.Callings.{calls_of, IsAsked}
use Rattle.kit_async_core.specs.Halls.{KitHall, KitPass}
use Rattle.kit_async_model.specs.Standings.{Standing, standing}
use Rattle.kit_async_core.proofs.Callers.{takes_asked, calls_noted, takes_no_call, breaks_no_call}
use Rattle.kit_async.specs.Work.Passes.{Stands, Enters}
use Rattle.kit_async.specs.Work.Calling.{HandValue, HasNoWork, Works, WorkerRan, can_be_asked}
use Rattle.kit_async.proofs.WorkLemmas.Groups.{stands_on, stands_still}
use Rattle.std.proofs.lemmas.Bool.{and_parts as both}

-- ---- the parts

one_more : (begun : Option (List Call)) (cs : List Call) (call : Call) → option_map (λ (told : List Call). told ++ call ∷ []) (option_map (λ (told : List Call). told ++ cs) begun)
    ≡ option_map (λ (told : List Call). told ++ (cs ++ call ∷ [])) begun
one_more None cs call = refl
one_more (Some t) cs call = ap (λ (x : List Call). Some x) (append_assoc t cs (call ∷ []))

-- it wasn't called
pub ran_uncalled : (h : KitHall) (r : ℕ) (p q : KitPass) (a b : HandValue) → Stands h (r + 3) p → Stands h p.number q → calls_of h.fixed r (seen_of q) ≡ calls_of h.fixed r (seen_of p)
    → b.calls ≡ a.calls → b.settings ≡ a.settings → WorkerRan h r p q a b
ran_uncalled h r p q a b s t same calls settings = record {
  stands = stands_on h (r + 3) p q s t;
  works = λ begun w. calls ∙ w ∙ ap (λ (cs : List Call). option_map (λ (told : List Call). told ++ cs) begun) (sym same);
  settings = settings;
}

pub ran_broken : (h : KitHall) (r : ℕ) (p q : KitPass) (a b : HandValue) → Stands h (r + 3) p → Stands h p.number q → ((reply : Reply) × Enters h p q Break reply)
    → b.calls ≡ a.calls → b.settings ≡ a.settings → WorkerRan h r p q a b
ran_broken h r p q a b s t e calls settings = ran_uncalled h r p q a b s t (breaks_no_call h p q r e.0 s.number_is e.1) calls settings

pub ran_waits : (h : KitHall) (r : ℕ) (p q : KitPass) (reply : Reply) (a : HandValue) → Stands h (r + 3) p → Stands h p.number q → Enters h p q TakeUp reply → WorkerRan h r p q a a
ran_waits h r p q reply a s t e = ran_uncalled h r p q a a s t (takes_no_call h p q r reply s.number_is e) refl refl

-- it was called, and that is noted
pub ran_called : (h : KitHall) (r : ℕ) (p q : KitPass) (a b : HandValue) (asked : Asked) (said : Said) → Stands h (r + 3) p → Stands h p.number q
    → IsAsked h.fixed (standing h.fixed (seen_of p)) r asked → is_line_said said ≡ true → ((reply : Reply) × Enters h p q (Called said) reply)
    → b.calls ≡ option_map (λ calls. calls ++ record { asked = plain asked; said = said } ∷ []) a.calls → b.settings ≡ a.settings → WorkerRan h r p q a b
ran_called h r p q a b asked said s t k text e calls settings = record {
  stands = stands_on h (r + 3) p q s t;
  works = λ begun w.
      calls
      ∙ ap (λ (o : Option (List Call)). option_map (λ (cs : List Call). cs ++ record { asked = plain asked; said = said } ∷ []) o) w
      ∙ one_more begun (calls_of h.fixed r (seen_of p)) (record { asked = plain asked; said = said })
      ∙ ap (λ (cs : List Call). option_map (λ (told : List Call). told ++ cs) begun) (sym (calls_noted h p q r said asked e.0 s.number_is s.legal k text e.1));
  settings = settings;
}

pub ran_both : (h : KitHall) (r : ℕ) (p q v : KitPass) (a b c : HandValue) → WorkerRan h r p q a b → WorkerRan h r q v b c → WorkerRan h r p v a c
ran_both h r p q v a b c x y = record { stands = y.stands; works = λ begun w. y.works begun (x.works begun w); settings = y.settings ∙ x.settings }

pub ran_none : (h : KitHall) (r : ℕ) (p : KitPass) (a : HandValue) → Stands h (r + 3) p → WorkerRan h r p p a a
ran_none h r p a s = record { stands = s; works = λ begun w. w; settings = refl }

-- what it is told to work on, it is to be called for
pub told_work : (h : KitHall) (r : ℕ) (p q : KitPass) (asked : Asked) → Stands h (r + 3) p → Enters h p q TakeUp (Work asked) → IsAsked h.fixed (standing h.fixed (seen_of q)) r asked
told_work h r p q asked s e = (takes_asked h p q r asked s.number_is s.legal e).0

-- took it up, and then did that
pub ran_took : (h : KitHall) (r : ℕ) (p q v : KitPass) (reply : Reply) (a b : HandValue) → Stands h (r + 3) p → Stands h p.number q → Enters h p q TakeUp reply → WorkerRan h r q v a b
    → WorkerRan h r p v a b
ran_took h r p q v reply a b s t e x = ran_both h r p q v a a b (ran_waits h r p q reply a s t e) x

-- ---- where there is nothing to take up

wait_work : (o : Option Asked) → Wait ≡ work_by o → ⊥
wait_work None e = cc
wait_work (Some asked) e = cc

wait_done : (done : Bool) → Wait ≡ waiting done → only (waiting done) ≡ only Wait
wait_done true e = cc
wait_done false e = refl

wait_free : (setup : Setup) (s : Standing) (r : ℕ) (o : Option Job) → Wait ≡ (free_step setup s r o).reply → free_step setup s r o ≡ only Wait
wait_free setup s r None e = wait_done (is_done setup s) e
wait_free setup s r (Some job) e = absurd (wait_work (work_asked setup job) e)

wait_turn : (setup : Setup) (s : Standing) (r : ℕ) (o : Option Job) → Wait ≡ (turn_step setup s r o).reply → turn_step setup s r o ≡ only Wait
wait_turn setup s r None e = wait_free setup s r (first_free setup s r) e
wait_turn setup s r (Some job) e = absurd (wait_work (work_asked setup job) e)

wait_own : (own : Bool) (step : Stepped) → Wait ≡ (if_it_is own step).reply → (Wait ≡ step.reply → step ≡ only Wait) → (step ≡ only Wait) × (if_it_is own step ≡ only Wait)
wait_own true step e is = (is e, is e)
wait_own false step e is = cc

-- where it is told to wait, there is nothing that it may take up
pub waits_idle : (h : KitHall) (r : ℕ) (p q : KitPass) → Stands h (r + 3) p → Enters h p q TakeUp Wait → HasNoWork h.fixed r (seen_of q)
waits_idle h r p q s e = go (subst (λ (n : ℕ). MayStep h.fixed (seen_of p ++ flat e.between) n TakeUp e.group Wait) s.number_is e.own.1).step
  where
    past : List Entry
    past = seen_of p ++ flat e.between

    at : remote_of (r + 3) ≡ r
    at = omega arith

    found : IsStepped (step_of h.fixed past (r + 3) TakeUp) e.group Wait → HasNoWork h.fixed r (seen_of q)
    found k =
        let s = standing h.fixed past in
        let none = wait_own (is_of_remote h.fixed (r + 3)) (take_step h.fixed s (remote_of (r + 3))) k.reply_is (wait_turn h.fixed s (remote_of (r + 3)) (find (is_turn_of h.fixed s.jobs (remote_of (r + 3))) s.jobs)) in
        let group : e.group ≡ [] = k.group_is ∙ ap (λ (step : Stepped). step.group) none.1 in
        let same : seen_of q ≡ past = e.seen ∙ ap (λ (g : List Entry). past ++ g) group ∙ append-nil past in
        subst (λ (j : List Entry). HasNoWork h.fixed r j) (sym same) (subst (λ (n : ℕ). take_step h.fixed s n ≡ only Wait) at none.0)

    go : IsStepped (step_of h.fixed past (r + 3) TakeUp) e.group Wait
        ⊎ (IsBrokenOff TakeUp e.group Wait ⊎ ((is_call TakeUp ≡ true) × IsUnsaid (step_of h.fixed past (r + 3) TakeUp) e.group Wait)) → HasNoWork h.fixed r (seen_of q)
    go (inl k) = found k
    go (inr (inl b)) = let bad : Wait ≡ Broken = b.reply_is in absurd cc
    go (inr (inr u)) = let bad : false ≡ true = u.0 in absurd cc

-- ---- the functions

-- no memory was found to take anything up, and the kit was broken off
pub ran_untold : (h : KitHall) (r : ℕ) (p q v : KitPass) (a : HandValue) → Stands h (r + 3) p → q ≡ p → Stands h q.number v → ((reply : Reply) × Enters h q v Break reply) → WorkerRan h r p v a a
ran_untold h r p q v a s same t e = subst (λ (x : KitPass). WorkerRan h r x v a a) same (ran_broken h r q v a a (stands_still h (r + 3) p q s same) t e refl refl)

-- it was called, and the kit was broken off
pub ran_and_broke : (h : KitHall) (r : ℕ) (p q v : KitPass) (a b : HandValue) → WorkerRan h r p q a b → Stands h q.number v → ((reply : Reply) × Enters h q v Break reply) → WorkerRan h r p v a b
ran_and_broke h r p q v a b x t e = ran_both h r p q v a b b x (ran_broken h r q v b b x.stands t e refl refl)

-- a rest changes nothing
pub ran_rested : (h : KitHall) (r : ℕ) (p q v : KitPass) (a b : HandValue) → WorkerRan h r p q a b → v ≡ q → WorkerRan h r p v a b
ran_rested h r p q v a b x same = subst (λ (y : KitPass). WorkerRan h r p y a b) (sym same) x

-- ---- what a remote may be asked for

pub may_prepare : (asked : Asked) (values : List (List ℕ)) → can_be_asked asked ≡ true → asked ≡ Prepare values → are_lines values ≡ true
may_prepare asked values can is = subst (λ (a : Asked). can_be_asked a ≡ true) is can

pub may_initialize : (asked : Asked) (values : List (List ℕ)) → can_be_asked asked ≡ true → asked ≡ Initialize values → are_lines values ≡ true
may_initialize asked values can is = subst (λ (a : Asked). can_be_asked a ≡ true) is can

pub may_store : (asked : Asked) (key file : List ℕ) → can_be_asked asked ≡ true → asked ≡ Store key file → (is_sent_key key ≡ true) × (not (has_newline file) ≡ true)
may_store asked key file can is = both (is_sent_key key) (not (has_newline file)) (subst (λ (a : Asked). can_be_asked a ≡ true) is can)

pub may_retrieve : (asked : Asked) (key file : List ℕ) → can_be_asked asked ≡ true → asked ≡ Retrieve key file → (is_sent_key key ≡ true) × (not (has_newline file) ≡ true)
may_retrieve asked key file can is = both (is_sent_key key) (not (has_newline file)) (subst (λ (a : Asked). can_be_asked a ≡ true) is can)

pub may_check : (asked : Asked) (key : List ℕ) → can_be_asked asked ≡ true → asked ≡ Check key → is_sent_key key ≡ true
may_check asked key can is = subst (λ (a : Asked). can_be_asked a ≡ true) is can

pub may_remove : (asked : Asked) (key : List ℕ) → can_be_asked asked ≡ true → asked ≡ Remove key → is_sent_key key ≡ true
may_remove asked key can is = subst (λ (a : Asked). can_be_asked a ≡ true) is can
