-- What the desks did, as the journal grows.
use Rattle.ann_outside.specs.Told.{DeskTold}
use Rattle.std.proofs.Common.{◌≡◌, ℕ, ◌+◌, ◌<◌, List, [], ◌∷◌, ◌++◌, refl, sym, ap, subst, ◌∙◌, append_assoc, append-nil, true, false, ◌==◌, None, Option, arith, inl, inr, length, suc}
use Rattle.std.specs.List.{cons_option}
use Rattle.ann_outside.specs.Calls.{Gained}
use Rattle.journal_model.specs.declared.entry.What.{What}
use Rattle.journal_model.specs.declared.entry.What.TheVariants.{Claim}
use Rattle.journal_model.specs.declared.entry.Entry.{Entry}
use Rattle.journal_model.specs.declared.opening.Opening.{Opening}
use Rattle.journal_model.specs.Journal.{each_of}
use Rattle.journal_model.specs.Shares.{are_by}
use Rattle.journal_model.proofs.Holding.{claimed}
use Rattle.task_model.specs.declared.setup.Setup.{Setup}
use Rattle.crew_work.specs.Worker.Works.{RanFor, TaskDone, all_calls, turns_of}
use Rattle.crew_work.proofs.WorkerLemmas.Working.{calls_both, caused_both, run_lasts, turns_both}
use Rattle.crew_work.specs.Laws.Tasks.{claimed_turn, turns_by}
use Rattle.task_model.specs.declared.turn.TaskTurn.{TaskTurn}
use Rattle.run_starts.specs.Stints.{AllHaveRun, HasRun, TasksDone}
use Rattle.run_starts.proofs.Runs.{gained_more, gained_nothing}
use Rattle.run_children.specs.Desks.{AreDone, DeskDid, DesksDid, HasDesk, HaveDesks, IsTaskDone, WorkerRun, claimed_for, claims_for, desk_of}
use Rattle.run_children.proofs.Unserved.{failed_unserved, unserved_lasts}
use Rattle.ann_key.proofs.Lists.{cons_append as cons_both}
use Rattle.std.proofs.lemmas.Bool.{and_parts as both, ne_eqb as differ, eqb-true as same_number}

-- ---- what is claimed for a desk

pub claims_both : (k : ℕ) (past xs ys : List Entry) → claims_for k past (xs ++ ys) ≡ claims_for k past xs ++ claims_for k (past ++ xs) ys
claims_both k past [] ys = ap (λ (p : List Entry). claims_for k p ys) (sym (append-nil past))
claims_both k past (e ∷ xs) ys =
    ap (λ (l : List (ℕ × ℕ)). cons_option (claimed_for k past e.by e.what) l)
    (claims_both k (past ++ e ∷ []) xs ys ∙ ap (λ (p : List Entry). claims_for k (past ++ e ∷ []) xs ++ claims_for k p ys) (append_assoc past (e ∷ []) xs))
    ∙ cons_both (claimed_for k past e.by e.what) (claims_for k (past ++ e ∷ []) xs) (claims_for k (past ++ e ∷ xs) ys)

pub claims_none : (k : ℕ) (past xs : List Entry) → each_of claimed xs ≡ [] → claims_for k past xs ≡ []
claims_none k past [] h = refl
claims_none k past (e ∷ xs) h = go e.what h (claims_none k (past ++ e ∷ []) xs)
  where
    go : (w : What) → cons_option (claimed w) (each_of claimed xs) ≡ [] → (each_of claimed xs ≡ [] → claims_for k (past ++ e ∷ []) xs ≡ [])
        → cons_option (claimed_for k past e.by w) (claims_for k (past ++ e ∷ []) xs) ≡ []
    go (Claim task child) none r = absurd cc
    go w none r = r none

-- what the main thread claims is done with the first desk
main_first : (past : List Entry) (by : ℕ) (w : What) → by ≡ 0 → claimed_for 1 past by w ≡ claimed_turn past w
main_first past by (Claim task child) e = (let first : desk_of past by child ≡ 1 = rw e refl in rw first refl)
main_first past by w e = refl

main_no_other : (k : ℕ) (past : List Entry) (by : ℕ) (w : What) → 1 < k → by ≡ 0 → claimed_for k past by w ≡ None
main_no_other k past by (Claim task child) far e =
    let first : desk_of past by child ≡ 1 = rw e refl in
    let other : (1 == k) ≡ false = differ 1 k (λ x. absurd (omega (arith, x, far))) in
    rw first (rw other refl)
main_no_other k past by w far e = refl

pub main_claims : (past xs : List Entry) → are_by 0 xs ≡ true → claims_for 1 past xs ≡ turns_by 0 past xs
main_claims past [] h = refl
main_claims past (e ∷ xs) h =
    let t = both (e.by == 0) (are_by 0 xs) h in
    ap (λ (o : Option (ℕ × ℕ)). cons_option o (claims_for 1 (past ++ e ∷ []) xs)) (main_first past e.by e.what (same_number e.by 0 t.0))
    ∙ ap (cons_option (claimed_turn past e.what)) (main_claims (past ++ e ∷ []) xs t.1)
    ∙ (rw t.0 refl)

pub main_claims_no_other : (k : ℕ) (past xs : List Entry) → 1 < k → are_by 0 xs ≡ true → claims_for k past xs ≡ []
main_claims_no_other k past [] far h = refl
main_claims_no_other k past (e ∷ xs) far h =
    let t = both (e.by == 0) (are_by 0 xs) h in
    rw (main_no_other k past e.by e.what far (same_number e.by 0 t.0), main_claims_no_other k (past ++ e ∷ []) xs far t.1) refl

-- ---- each claim has a desk

pub have_both : (n : ℕ) (past xs ys : List Entry) → HaveDesks n past xs → HaveDesks n (past ++ xs) ys → HaveDesks n past (xs ++ ys)
have_both n past [] ys h k = subst (λ (p : List Entry). HaveDesks n p ys) (append-nil past) k
have_both n past (e ∷ xs) ys h k = (h.0, have_both n (past ++ e ∷ []) xs ys h.1 (subst (λ (p : List Entry). HaveDesks n p ys) (sym (append_assoc past (e ∷ []) xs)) k))

unclaimed_has : (n by : ℕ) (past : List Entry) (w : What) → claimed w ≡ None → HasDesk n past by w
unclaimed_has n by past (Claim task child) h = absurd cc
unclaimed_has n by past w h = tt

pub have_none : (n : ℕ) (past xs : List Entry) → each_of claimed xs ≡ [] → HaveDesks n past xs
have_none n past [] h = tt
have_none n past (e ∷ xs) h = go e.what h (have_none n (past ++ e ∷ []) xs)
  where
    go : (w : What) → cons_option (claimed w) (each_of claimed xs) ≡ [] → (each_of claimed xs ≡ [] → HaveDesks n (past ++ e ∷ []) xs) → HasDesk n past e.by w × HaveDesks n (past ++ e ∷ []) xs
    go (Claim task child) none r = absurd cc
    go w none r = (unclaimed_has n e.by past w refl, r none)

main_has : (n by : ℕ) (past : List Entry) (w : What) → 0 < n → by ≡ 0 → HasDesk n past by w
main_has n by past (Claim task child) some e =
    let first : desk_of past by child ≡ 1 = rw e refl in
    (omega (arith, first), omega (arith, first, some))
main_has n by past w some e = tt

pub have_main : (n : ℕ) (past xs : List Entry) → 0 < n → are_by 0 xs ≡ true → HaveDesks n past xs
have_main n past [] some h = tt
have_main n past (e ∷ xs) some h =
    let t = both (e.by == 0) (are_by 0 xs) h in
    (main_has n e.by past e.what some (same_number e.by 0 t.0), have_main n (past ++ e ∷ []) xs some t.1)

-- ---- tasks that are done stay so

module _ (o : Opening) (setup : Setup) (limit : ℕ) where
  worker_lasts : (past more : List Entry) (r : TaskDone) → WorkerRun o setup past r → WorkerRun o setup (past ++ more) r
  worker_lasts past more r h =
      let u : TaskTurn = record { task = r.task; turn = r.turn } in
      let before : RanFor o setup r.calls h.number h.run.run.child u r.answer past = record { run = h.run; child = refl; answer_is = h.answer } in
      let after = run_lasts o setup r.calls h.number h.run.run.child u r.answer past more before in
      record { number = h.number; run = after.run; child = subst (λ (c : ℕ). 0 < c) (sym after.child) h.child; answer = after.answer_is }

  done_lasts : (past more : List Entry) (r : TaskDone) → IsTaskDone o setup limit past r → IsTaskDone o setup limit (past ++ more) r
  done_lasts past more r (inl h) = inl (worker_lasts past more r h)
  done_lasts past more r (inr z) = inr (unserved_lasts limit past more r.task r.answer z.0, z.1)

  pub all_last : (past more : List Entry) (rs : List TaskDone) → AreDone o setup limit past rs → AreDone o setup limit (past ++ more) rs
  all_last past more [] h = tt
  all_last past more (r ∷ rs) h = (done_lasts past more r h.0, all_last past more rs h.1)

  all_both : (journal : List Entry) (xs ys : List TaskDone) → AreDone o setup limit journal xs → AreDone o setup limit journal ys → AreDone o setup limit journal (xs ++ ys)
  all_both journal [] ys h k = k
  all_both journal (r ∷ xs) ys h k = (h.0, all_both journal xs ys h.1 k)

  -- what the main thread did over one child at a time
  main_done : (journal : List Entry) (r : TaskDone) → HasRun o setup journal r → IsTaskDone o setup limit journal r
  main_done journal r (inl h) = inl (record { number = 0; run = h.run; child = h.child; answer = h.answer })
  main_done journal r (inr z) = inr (failed_unserved limit journal r.task r.answer z.0, z.1)

  all_main : (journal : List Entry) (rs : List TaskDone) → AllHaveRun o setup journal rs → AreDone o setup limit journal rs
  all_main journal [] h = tt
  all_main journal (r ∷ rs) h = (main_done journal r h.0, all_main journal rs h.1)

  -- ---- one desk

  pub did_nothing : (journal past xs : List Entry) (k : ℕ) (desk : DeskTold) → claims_for k past xs ≡ [] → DeskDid o setup limit journal past xs k desk desk
  did_nothing journal past xs k desk none = record { done = []; claimed = sym none; ran = tt; log_is = gained_nothing desk.log; caused = refl }

  pub did_join : (journal past xs ys : List Entry) (k : ℕ) (a b d : DeskTold) → DeskDid o setup limit journal past xs k a b → DeskDid o setup limit journal (past ++ xs) ys k b d
      → DeskDid o setup limit journal past (xs ++ ys) k a d
  did_join journal past xs ys k a b d s t = record {
    done = s.done ++ t.done;
    claimed = turns_both s.done t.done ∙ ap (λ (l : List (ℕ × ℕ)). l ++ turns_of t.done) s.claimed
        ∙ ap (λ (l : List (ℕ × ℕ)). claims_for k past xs ++ l) t.claimed ∙ sym (claims_both k past xs ys);
    ran = all_both journal s.done t.done s.ran t.ran;
    log_is = subst (Gained a.log d.log) (sym (calls_both s.done t.done)) (gained_more a.log b.log d.log (all_calls s.done) (all_calls t.done) s.log_is t.log_is);
    caused = caused_both a.counts b.counts d.counts s.done t.done s.caused t.caused;
  }

  did_on : (journal more past xs : List Entry) (k : ℕ) (a b : DeskTold) → DeskDid o setup limit journal past xs k a b
      → DeskDid o setup limit (journal ++ more) past xs k a b
  did_on journal more past xs k a b s = record {
    done = s.done;
    claimed = s.claimed;
    ran = all_last journal more s.done s.ran;
    log_is = s.log_is;
    caused = s.caused;
  }

  -- ---- all desks

  pub desks_nothing : (journal past xs : List Entry) (k : ℕ) (desks : List DeskTold) → each_of claimed xs ≡ [] → DesksDid o setup limit journal past xs k desks desks
  desks_nothing journal past xs k [] none = tt
  desks_nothing journal past xs k (d ∷ ds) none = (did_nothing journal past xs k d (claims_none k past xs none), desks_nothing journal past xs (k + 1) ds none)

  pub desks_join : (journal past xs ys : List Entry) (k : ℕ) (cs bs ds : List DeskTold) → DesksDid o setup limit journal past xs k cs bs → DesksDid o setup limit journal (past ++ xs) ys k bs ds
      → DesksDid o setup limit journal past (xs ++ ys) k cs ds
  desks_join journal past xs ys k [] [] [] s t = tt
  desks_join journal past xs ys k [] [] (d ∷ ds) s t = absurd t
  desks_join journal past xs ys k [] (b ∷ bs) ds s t = absurd s
  desks_join journal past xs ys k (a ∷ cs) [] ds s t = absurd s
  desks_join journal past xs ys k (a ∷ cs) (b ∷ bs) [] s t = absurd t
  desks_join journal past xs ys k (a ∷ cs) (b ∷ bs) (d ∷ ds) s t = (did_join journal past xs ys k a b d s.0 t.0, desks_join journal past xs ys (k + 1) cs bs ds s.1 t.1)

  pub desks_on : (journal more past xs : List Entry) (k : ℕ) (cs bs : List DeskTold) → DesksDid o setup limit journal past xs k cs bs
      → DesksDid o setup limit (journal ++ more) past xs k cs bs
  desks_on journal more past xs k [] [] s = tt
  desks_on journal more past xs k [] (b ∷ bs) s = absurd s
  desks_on journal more past xs k (a ∷ cs) [] s = absurd s
  desks_on journal more past xs k (a ∷ cs) (b ∷ bs) s = (did_on journal more past xs k a b s.0, desks_on journal more past xs (k + 1) cs bs s.1)

  -- the desks from the second on are not the main thread's
  others_nothing : (journal past xs : List Entry) (k : ℕ) (desks : List DeskTold) → 1 < k → are_by 0 xs ≡ true → DesksDid o setup limit journal past xs k desks desks
  others_nothing journal past xs k [] far main = tt
  others_nothing journal past xs k (d ∷ ds) far main = (did_nothing journal past xs k d (main_claims_no_other k past xs far main), others_nothing journal past xs (k + 1) ds (omega (arith, far)) main)

  pub desks_first : (journal past xs : List Entry) (desk desk' : DeskTold) (others : List DeskTold) → are_by 0 xs ≡ true → DeskDid o setup limit journal past xs 1 desk desk'
      → DesksDid o setup limit journal past xs 1 (desk ∷ others) (desk' ∷ others)
  desks_first journal past xs desk desk' others main did = (did, others_nothing journal past xs 2 others (omega arith) main)

  pub desks_main : (journal past xs : List Entry) (desk desk' : DeskTold) (others : List DeskTold) → are_by 0 xs ≡ true → TasksDone o setup journal past xs desk desk'
      → DesksDid o setup limit journal past xs 1 (desk ∷ others) (desk' ∷ others)
  desks_main journal past xs desk desk' others main t = desks_first journal past xs desk desk' others main record {
    done = t.done;
    claimed = t.claimed ∙ sym (main_claims past xs main);
    ran = all_main journal t.done t.ran;
    log_is = t.log_is;
    caused = t.caused;
  }

-- as many desks before as after
pub desks_as_many : (o : Opening) (setup : Setup) (limit : ℕ) (journal past xs : List Entry) (k : ℕ) (cs bs : List DeskTold) → DesksDid o setup limit journal past xs k cs bs → length cs ≡ length bs
desks_as_many o setup limit journal past xs k [] [] s = refl
desks_as_many o setup limit journal past xs k [] (b ∷ bs) s = absurd s
desks_as_many o setup limit journal past xs k (a ∷ cs) [] s = absurd s
desks_as_many o setup limit journal past xs k (a ∷ cs) (b ∷ bs) s = ap (λ (n : ℕ). suc n) (desks_as_many o setup limit journal past xs (k + 1) cs bs s.1)
