-- A child that has ended has no open job.
use Rattle.std.proofs.Common.{◌≡◌, ℕ, List, [], ◌∷◌, ◌++◌, refl, sym, ap, subst, ◌∙◌, Bool, true, false, not, ◌==◌, cond, inl, inr, length, append-nil}
use Rattle.std.specs.Prelude.{◌&&◌, ◌||◌, filter}
use Rattle.std.specs.List.{list_any, list_all}
use Rattle.journal_model.specs.declared.verdict.Why.{Why}
use Rattle.journal_model.specs.declared.verdict.Verdict.{Verdict}
use Rattle.journal_model.specs.declared.verdict.Verdict.TheVariants.{Ended}
use Rattle.journal_model.specs.declared.entry.What.{What}
use Rattle.journal_model.specs.declared.entry.What.TheVariants.{Claim, Start, NoStart, Lead, Ask, Put, Sent, Mute, Got, End, Verdict as Settled, Lost, Answer as Answered, Note as Noted, Again}
use Rattle.journal_model.specs.declared.entry.Entry.{Entry}
use Rattle.journal_model.specs.declared.opening.Opening.{Opening}
use Rattle.annex_model.specs.Messages.{host_reading}
use Rattle.journal_model.specs.Journal.{asks, settles, ends, is_ended, is_mute, is_started, is_live, is_settled, asked_jobs, open_jobs, addressed}
use Rattle.journal_model.specs.Due.{due_by, due_by_got, due_after, made_by, replying}
use Rattle.journal_model.specs.Legality.{Legal, may_come, may_ask, asks_in_turn}
use Rattle.journal_model.proofs.Growing.{Legal-induction}
use Rattle.journal_model.proofs.Looks.{entry, is_asked, settled_all, each_of-append, any-append}
use Rattle.journal_model.proofs.Holding.{GotDue, got_due}
use Rattle.journal_model.proofs.Soft.{is_soft, soft_got, soft_mute, soft_verdicts}
use Rattle.journal_model.proofs.Fresh.{mute_ends_none}
use Rattle.ann_key.proofs.Booleans.{first_of_five, true_and_false as clash}
use Rattle.std.proofs.lemmas.Bool.{and_parts as both, eqb-true as same_number}
use Rattle.ann_key.proofs.Numbers.{same_number as same}

-- ---- the verdicts of an end settle each open job

settles_in : (c j by : ℕ) (v : Verdict) (ks : List ℕ) → list_any (λ k. k == j) ks ≡ true → is_settled (settled_all by c v ks) c j ≡ true
settles_in c j by v [] h = absurd cc
settles_in c j by v (k ∷ ks) h = go (k == j) h (settles_in c j by v ks)
  where
    go : (b : Bool) → (b || list_any (λ x. x == j) ks) ≡ true → (list_any (λ x. x == j) ks ≡ true → is_settled (settled_all by c v ks) c j ≡ true)
        → ((c == c && b) || is_settled (settled_all by c v ks) c j) ≡ true
    go true h r = rw (same c) refl
    go false h r = rw (same c, r h) refl

pub asked_open : (past : List Entry) (c j : ℕ) (ks : List ℕ) → is_settled past c j ≡ false → list_any (λ k. k == j) ks ≡ true
    → list_any (λ k. k == j) (filter (λ k. not (is_settled past c k)) ks) ≡ true
asked_open past c j [] u h = absurd cc
asked_open past c j (k ∷ ks) u h = go (k == j) refl h (asked_open past c j ks u)
  where
    rest : List ℕ
    rest = filter (λ x. not (is_settled past c x)) ks

    keep : (s : Bool) → list_any (λ x. x == j) rest ≡ true → list_any (λ x. x == j) (cond (not s) (k ∷ rest) rest) ≡ true
    keep true r = r
    keep false r = rw r (or_true (k == j))
      where
        or_true : (b : Bool) → (b || true) ≡ true
        or_true true = refl
        or_true false = refl

    go : (b : Bool) → (k == j) ≡ b → (b || list_any (λ x. x == j) ks) ≡ true → (list_any (λ x. x == j) ks ≡ true → list_any (λ x. x == j) rest ≡ true)
        → list_any (λ x. x == j) (cond (not (is_settled past c k)) (k ∷ rest) rest) ≡ true
    go true e h r =
        let here : is_settled past c k ≡ false = subst (λ (x : ℕ). is_settled past c x ≡ false) (sym (same_number k j e)) u in
        rw (here, e) refl
    go false e h r = keep (is_settled past c k) (r h)

-- what the entries of a group settle and ask
abbrev Settles : List Entry → List Entry → ℕ → ℕ → Type 0
Settles past more c j = is_settled past c j ≡ false → is_asked past c j ≡ true → is_settled more c j ≡ true

end_settles : (past : List Entry) (c j by : ℕ) (why : Why) → Settles past (settled_all by c (Ended why) (open_jobs past c)) c j
end_settles past c j by why u a = settles_in c j by (Ended why) (open_jobs past c) (asked_open past c j (asked_jobs past c) u a)

verdicts_end_none : (c by child : ℕ) (v : Verdict) (ks : List ℕ) → is_ended (settled_all by child v ks) c ≡ false
verdicts_end_none c by child v [] = refl
verdicts_end_none c by child v (k ∷ ks) = verdicts_end_none c by child v ks

replies_end_none : (past : List Entry) (c by child j : ℕ) (lines : List (List ℕ)) → is_ended (made_by by (replying past child j lines)) c ≡ false
replies_end_none past c by child j [] = refl
replies_end_none past c by child j (l ∷ ls) = replies_end_none past c by child j ls

-- an end settles each job of its child
end_group : (past : List Entry) (c j by child : ℕ) (why : Why) → is_ended (entry by (End child why) ∷ settled_all by child (Ended why) (open_jobs past child)) c ≡ true
    → Settles past (entry by (End child why) ∷ settled_all by child (Ended why) (open_jobs past child)) c j
end_group past c j by child why e = go (child == c) refl e
  where
    go : (b : Bool) → (child == c) ≡ b → (b || is_ended (settled_all by child (Ended why) (open_jobs past child)) c) ≡ true
        → Settles past (settled_all by child (Ended why) (open_jobs past child)) c j
    go true h e = subst (λ (d : ℕ). Settles past (settled_all by d (Ended why) (open_jobs past d)) c j) (sym (same_number child c h)) (end_settles past c j by why)
    go false h e = clash (is_ended (settled_all by child (Ended why) (open_jobs past child)) c) e (verdicts_end_none c by child (Ended why) (open_jobs past child))

-- a group that ends the child settles each of its jobs
group_settles : (o : Opening) (past : List Entry) (c j by : ℕ) (w : What) → is_ended (entry by w ∷ due_after o past (entry by w)) c ≡ true
    → Settles past (entry by w ∷ due_after o past (entry by w)) c j
group_settles o past c j by (End child why) e = end_group past c j by child why e
group_settles o past c j by (Got child line) e = by_due (due_by_got o past child line) (got_due o past child line) e
  where
    by_due : (due : List What) → GotDue past child due → is_ended (made_by by due) c ≡ true → Settles past (made_by by due) c j
    by_due due (inl is) e = clash (is_ended (made_by by due) c) e (ap (λ (ws : List What). is_ended (made_by by ws) c) is)
    by_due due (inr (inl is)) e =
        subst (λ (ws : List What). is_ended (made_by by ws) c ≡ true → Settles past (made_by by ws) c j) (sym is.1)
        (end_group past c j by child is.0) e
    by_due due (inr (inr (inl is))) e = clash (is_ended (made_by by due) c) e (ap (λ (ws : List What). is_ended (made_by by ws) c) is.3)
    by_due due (inr (inr (inr is))) e =
        clash (is_ended (made_by by due) c) e (ap (λ (ws : List What). is_ended (made_by by ws) c) is.3 ∙ replies_end_none past c by child is.0 is.1)
group_settles o past c j by (Mute child) e = clash (is_ended (made_by by (due_by o past (Mute child))) c) e (mute_ends_none o past child c by)
group_settles o past c j by (Claim task child) e = absurd cc
group_settles o past c j by (Start child slot offer) e = absurd cc
group_settles o past c j by (NoStart slot) e = absurd cc
group_settles o past c j by (Lead child job line) e = absurd cc
group_settles o past c j by (Ask child job task line) e = absurd cc
group_settles o past c j by (Put child job line) e = absurd cc
group_settles o past c j by (Sent child) e = absurd cc
group_settles o past c j by (Settled child job verdict) e = absurd cc
group_settles o past c j by (Lost child task) e = absurd cc
group_settles o past c j by (Answered task answer) e = absurd cc
group_settles o past c j by (Again task answer) e = absurd cc
group_settles o past c j by (Noted task chunk count) e = absurd cc

-- ---- nothing is asked of a child that has ended

pub soft_asks : (c by : ℕ) (ws : List What) → list_all is_soft ws ≡ true → asked_jobs (made_by by ws) c ≡ []
soft_asks c by [] h = refl
soft_asks c by (Settled child job verdict ∷ ws) h = soft_asks c by ws h
soft_asks c by (Put child job line ∷ ws) h = soft_asks c by ws h
soft_asks c by (End child why ∷ ws) h = soft_asks c by ws (both (is_soft (End child why)) (list_all is_soft ws) h).1
soft_asks c by (w ∷ ws) h = absurd cc

group_asks : (o : Opening) (past : List Entry) (c by : ℕ) (w : What) → may_come o past by w ≡ true → is_ended past c ≡ true
    → asked_jobs (entry by w ∷ due_after o past (entry by w)) c ≡ []
group_asks o past c by (Ask child job task line) may e = go (child == c) refl
  where
    live : is_live past child ≡ true
    live = first_of_five (is_live past child) (not (is_mute past child)) (job == length (asked_jobs past child))
        (asks_in_turn past child job line (host_reading (addressed past child line).1)) (may_ask past by task child) may

    go : (b : Bool) → (child == c) ≡ b → asked_jobs (entry by (Ask child job task line) ∷ []) c ≡ []
    go true h =
        let here : is_live past c ≡ true = subst (λ (d : ℕ). is_live past d ≡ true) (same_number child c h) live in
        let not_ended : not (is_ended past c) ≡ true = (both (is_started past c) (not (is_ended past c)) here).1 in
        let bad : false ≡ true = ap not (sym e) ∙ not_ended in
        absurd cc
    go false h = rw h refl
group_asks o past c by (Got child line) may e = soft_asks c by (due_by_got o past child line) (soft_got o past child line)
group_asks o past c by (End child why) may e = soft_asks c by (due_by o past (End child why)) (soft_verdicts child (Ended why) (open_jobs past child))
group_asks o past c by (Mute child) may e = soft_asks c by (due_by o past (Mute child)) (soft_mute o past child)
group_asks o past c by (Claim task child) may e = refl
group_asks o past c by (Start child slot offer) may e = refl
group_asks o past c by (NoStart slot) may e = refl
group_asks o past c by (Lead child job line) may e = refl
group_asks o past c by (Put child job line) may e = refl
group_asks o past c by (Sent child) may e = refl
group_asks o past c by (Settled child job verdict) may e = refl
group_asks o past c by (Lost child task) may e = refl
group_asks o past c by (Answered task answer) may e = refl
group_asks o past c by (Again task answer) may e = refl
group_asks o past c by (Noted task chunk count) may e = refl

-- nor by the group that ends it
ending_asks : (o : Opening) (past : List Entry) (c by : ℕ) (w : What) → is_ended (entry by w ∷ due_after o past (entry by w)) c ≡ true
    → asked_jobs (entry by w ∷ due_after o past (entry by w)) c ≡ []
ending_asks o past c by (Ask child job task line) e = absurd cc
ending_asks o past c by (Lead child job line) e = refl
ending_asks o past c by (Got child line) e = soft_asks c by (due_by_got o past child line) (soft_got o past child line)
ending_asks o past c by (End child why) e = soft_asks c by (due_by o past (End child why)) (soft_verdicts child (Ended why) (open_jobs past child))
ending_asks o past c by (Mute child) e = soft_asks c by (due_by o past (Mute child)) (soft_mute o past child)
ending_asks o past c by (Claim task child) e = refl
ending_asks o past c by (Start child slot offer) e = refl
ending_asks o past c by (NoStart slot) e = refl
ending_asks o past c by (Put child job line) e = refl
ending_asks o past c by (Sent child) e = refl
ending_asks o past c by (Settled child job verdict) e = refl
ending_asks o past c by (Lost child task) e = refl
ending_asks o past c by (Answered task answer) e = refl
ending_asks o past c by (Again task answer) e = refl
ending_asks o past c by (Noted task chunk count) e = refl

-- each job of a child that has ended is settled
pub ended_settled : (o : Opening) (journal : List Entry) → Legal o journal → (c j : ℕ) → is_ended journal c ≡ true → is_asked journal c j ≡ true → is_settled journal c j ≡ true
ended_settled o journal l =
    Legal-induction o (λ past. (c j : ℕ) → is_ended past c ≡ true → is_asked past c j ≡ true → is_settled past c j ≡ true)
    (λ c j e a. absurd (no_end e)) (λ past e legal before may c j. step past e.by e.what before may c j) journal l
  where
    no_end : false ≡ true → ⊥
    no_end e = cc

    step : (past : List Entry) (by : ℕ) (w : What) → ((c j : ℕ) → is_ended past c ≡ true → is_asked past c j ≡ true → is_settled past c j ≡ true)
        → may_come o past by w ≡ true → (c j : ℕ)
        → is_ended (past ++ entry by w ∷ due_after o past (entry by w)) c ≡ true → is_asked (past ++ entry by w ∷ due_after o past (entry by w)) c j ≡ true
        → is_settled (past ++ entry by w ∷ due_after o past (entry by w)) c j ≡ true
    step past by w before may c j e a = any-append (settles c j) past more ∙ go (is_ended past c) refl (sym (any-append (ends c) past more) ∙ e)
      where
        more : List Entry
        more = entry by w ∷ due_after o past (entry by w)

        asked : asked_jobs more c ≡ [] → is_asked past c j ≡ true
        asked none =
            let whole : asked_jobs (past ++ more) c ≡ asked_jobs past c ++ [] = each_of-append (asks c) past more ∙ ap (λ (x : List ℕ). asked_jobs past c ++ x) none in
            sym (ap (list_any (λ k. k == j)) (whole ∙ append-nil (asked_jobs past c))) ∙ a

        right : (b : Bool) → b ≡ true → (is_settled past c j || b) ≡ true
        right b h = rw h (or_true (is_settled past c j))
          where
            or_true : (x : Bool) → (x || true) ≡ true
            or_true true = refl
            or_true false = refl

        by_settled : (b : Bool) → is_settled past c j ≡ b → is_ended more c ≡ true → (is_settled past c j || is_settled more c j) ≡ true
        by_settled true h e = rw h refl
        by_settled false h e = right (is_settled more c j) (group_settles o past c j by w e h (asked (ending_asks o past c by w e)))

        go : (b : Bool) → is_ended past c ≡ b → (is_ended past c || is_ended more c) ≡ true → (is_settled past c j || is_settled more c j) ≡ true
        go true h e = rw (before c j h (asked (group_asks o past c by w may h))) refl
        go false h e = by_settled (is_settled past c j) refl (sym (ap (λ (b : Bool). b || is_ended more c) h) ∙ e)
