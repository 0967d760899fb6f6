-- A name at a journal's end says nothing of a child or a task: what may be asked there may be asked without it.
use Rattle.std.proofs.Common.{◌≡◌, ◌∙◌, ℕ, zero, suc, List, [], ◌∷◌, ◌++◌, refl, sym, ap, subst, Bool, true, false, not, ◌==◌, cond, Some, None, Option, length, append-nil, inl, inr}
use Rattle.std.specs.Prelude.{◌&&◌, ◌||◌, ◌⊎◌, filter, fold, slice_get, bytes_eq}
use Rattle.std.specs.List.{list_any, cons_option}
use Rattle.annex_model.specs.Extensions.{names_of}
use Rattle.annex_model.specs.Messages.{HostMessage, AskExtensions, host_line, host_reading, remote_reading}
use Rattle.annex_model.specs.Tags.{names_async, untag, tagged_line}
use Rattle.annex_model.specs.Turns.{turn_of, is_at}
use Rattle.journal_model.specs.declared.holder.Holder.{Holder}
use Rattle.journal_model.specs.declared.verdict.Verdict.{Verdict}
use Rattle.journal_model.specs.declared.verdict.Verdict.TheVariants.{Done as DoneAt, Failed, Absent, Unknown, Unsupported, Ended, Unsent}
use Rattle.journal_model.specs.declared.opening.Opening.{Opening}
use Rattle.journal_model.specs.declared.entry.What.{What}
use Rattle.journal_model.specs.declared.entry.What.TheVariants.{Claim, Start, NoStart, Lead, Ask, Put, Sent, Mute, Got, End, Verdict as Settled, Lost, Answer as Answered, Note as Noted, Again}
use Rattle.journal_model.specs.declared.entry.Entry.{Entry}
use Rattle.journal_model.specs.Journal.{any, each_of, first_of, offers, got_line, line_at, accepts_async, is_tagged, starts, ends, mutes, settles, asks, verdict_in, line_from, asked_jobs, open_jobs, is_open, is_settled, is_started, is_ended, is_mute, is_live, got_lines, verdict_of, addressed, by_tag, on_wire}
use Rattle.journal_model.specs.Legality.{may_come, may_ask, may_work, is_greeted, is_prepared, said_version, prepares, is_claimed_by, is_held_by, is_held_for, is_busy_with, has_open_job, job_for, holder, turned, turned_by, claimed_for, is_empty, asks_in_turn, is_in_turn, suits_child, is_done}
use Rattle.journal_model.proofs.Looks.{entry, any-append, each_of-append}
use Rattle.journal_model.proofs.Working.{holder_apart}
use Rattle.ann_key.proofs.Booleans.{or_right, or_false}
use Rattle.ann_key.proofs.Lists.{any_same as any_alike, filter_alike}
use Rattle.std.proofs.lemmas.Bool.{eqb-true as same_number}

-- tests of equal parts are equal
and_three : (a a' b b' c c' : Bool) → a ≡ a' → b ≡ b' → c ≡ c' → (a && b && c) ≡ (a' && b' && c')
and_three a a' b b' c c' p q r = rw (p, q, r) refl

and_five : (a a' b b' c c' d d' e e' : Bool) → a ≡ a' → b ≡ b' → c ≡ c' → d ≡ d' → e ≡ e' → (a && b && c && d && e) ≡ (a' && b' && c' && d' && e')
and_five a a' b b' c c' d d' e e' p q r s t = rw (p, q, r, s, t) refl

choice_of_three : (a b x x' y y' z z' : Bool) → x ≡ x' → y ≡ y' → z ≡ z' → cond a x (cond b y z) ≡ cond a x' (cond b y' z')
choice_of_three a b x x' y y' z z' p q r = rw (p, q, r) refl

-- a task that is held for the child was claimed for it
pub claimed_in : (past : List Entry) (c t : ℕ) (o : Option Holder) → is_held_for c (fold (turned t) o past) ≡ true
    → (is_held_for c o ≡ true) ⊎ (list_any (λ u. u == t) (each_of (claimed_for c) past) ≡ true)
claimed_in [] c t o h = inl h
claimed_in (e ∷ past) c t o h = go e.what (claimed_in past c t (turned t o e) h)
  where
    later : (x : Option ℕ) → list_any (λ (u : ℕ). u == t) (each_of (claimed_for c) past) ≡ true → list_any (λ (u : ℕ). u == t) (cons_option x (each_of (claimed_for c) past)) ≡ true
    later None h = h
    later (Some u) h = or_right (u == t) (list_any (λ (v : ℕ). v == t) (each_of (claimed_for c) past)) h

    go : (w : What) → (is_held_for c (turned_by t o e.by w) ≡ true) ⊎ (list_any (λ (u : ℕ). u == t) (each_of (claimed_for c) past) ≡ true)
        → (is_held_for c o ≡ true) ⊎ (list_any (λ (u : ℕ). u == t) (cons_option (claimed_for c w) (each_of (claimed_for c) past)) ≡ true)
    go w (inr h) = inr (later (claimed_for c w) h)
    go (Claim task child) (inl h) = claim (task == t) refl h
      where
        claim : (b : Bool) → (task == t) ≡ b → is_held_for c (cond b (Some (record { by = e.by; child = child })) o) ≡ true
            → (is_held_for c o ≡ true) ⊎ (list_any (λ (u : ℕ). u == t) (cons_option (claimed_for c (Claim task child)) (each_of (claimed_for c) past)) ≡ true)
        claim true same h = inr (rw h (rw same refl))
        claim false same h = inl h
    go (Answered task answer) (inl h) = answer' (task == t) h
      where
        answer' : (b : Bool) → is_held_for c (cond b None o) ≡ true → (is_held_for c o ≡ true) ⊎ (list_any (λ (u : ℕ). u == t) (each_of (claimed_for c) past) ≡ true)
        answer' true h = absurd cc
        answer' false h = inl h
    go (Again task answer) (inl h) = answer' (task == t) h
      where
        answer' : (b : Bool) → is_held_for c (cond b None o) ≡ true → (is_held_for c o ≡ true) ⊎ (list_any (λ (u : ℕ). u == t) (each_of (claimed_for c) past) ≡ true)
        answer' true h = absurd cc
        answer' false h = inl h
    go (Start child slot offer) (inl h) = inl h
    go (NoStart slot) (inl h) = inl h
    go (Lead child job line) (inl h) = inl h
    go (Ask child job task line) (inl h) = inl h
    go (Put child job line) (inl h) = inl h
    go (Sent child) (inl h) = inl h
    go (Mute child) (inl h) = inl h
    go (Got child line) (inl h) = inl h
    go (End child why) (inl h) = inl h
    go (Settled child job verdict) (inl h) = inl h
    go (Lost child task) (inl h) = inl h
    go (Noted task chunk count) (inl h) = inl h

-- one that passes is in the list, where it is
pub any_there : (q : ℕ → Bool) (t : ℕ) (xs : List ℕ) → list_any (λ u. u == t) xs ≡ true → q t ≡ true → list_any q xs ≡ true
any_there q t [] h p = absurd cc
any_there q t (x ∷ xs) h p = go (x == t) refl h (λ k. any_there q t xs k p)
  where
    go : (b : Bool) → (x == t) ≡ b → (b || list_any (λ (u : ℕ). u == t) xs) ≡ true → (list_any (λ (u : ℕ). u == t) xs ≡ true → list_any q xs ≡ true) → (q x || list_any q xs) ≡ true
    go true e h r = let here : q x ≡ true = subst (λ (k : ℕ). q k ≡ true) (sym (same_number x t e)) p in rw here refl
    go false e h r = or_right (q x) (list_any q xs) (r h)

-- ---- what a journal says after a name as before it

module _ (past : List Entry) (by child job : ℕ) (name : List ℕ) where
  abbrev named : List Entry
  named = past ++ entry by (Lead child job name) ∷ []

  same_any : (p : What → Bool) → p (Lead child job name) ≡ false → any p named ≡ any p past
  same_any p h = any-append p past (entry by (Lead child job name) ∷ []) ∙ ap (λ (b : Bool). any p past || (b || false)) h ∙ or_false (any p past)

  same_each : {X : Type 0} (f : What → Option X) → f (Lead child job name) ≡ None → each_of f named ≡ each_of f past
  same_each {X = X} f h =
      each_of-append f past (entry by (Lead child job name) ∷ []) ∙ ap (λ (o : Option X). each_of f past ++ cons_option o []) h ∙ append-nil (each_of f past)

  pub same_verdict : (c j : ℕ) → verdict_of named c j ≡ verdict_of past c j
  same_verdict c j = ap first_of (same_each (verdict_in c j) refl)

  pub same_asked : (c : ℕ) → asked_jobs named c ≡ asked_jobs past c
  same_asked c = same_each (asks c) refl

  same_settled : (c j : ℕ) → is_settled named c j ≡ is_settled past c j
  same_settled c j = same_any (settles c j) refl

  pub same_open : (c : ℕ) → open_jobs named c ≡ open_jobs past c
  same_open c =
      filter_alike (λ j. not (is_settled named c j)) (λ j. not (is_settled past c j)) (λ j. ap not (same_settled c j)) (asked_jobs named c)
      ∙ ap (filter (λ j. not (is_settled past c j))) (same_asked c)

  pub same_opened : (c j : ℕ) → is_open named c j ≡ is_open past c j
  same_opened c j = ap (list_any (λ k. k == j)) (same_open c)

  same_holder : (t : ℕ) → holder named t ≡ holder past t
  same_holder t = holder_apart past (entry by (Lead child job name) ∷ []) t refl

  same_job : (t : ℕ) → has_open_job named t ≡ has_open_job past t
  same_job t =
      any_alike (λ (q : ℕ × ℕ). is_open named q.0 q.1) (λ (q : ℕ × ℕ). is_open past q.0 q.1) (λ q. same_opened q.0 q.1) (each_of (job_for t) named)
      ∙ ap (list_any (λ (q : ℕ × ℕ). is_open past q.0 q.1)) (same_each (job_for t) refl)

  same_line : (at : ℕ) → line_at named at ≡ line_at past at
  same_line at = go past at
    where
      go : (past : List Entry) (at : ℕ) → got_line (slice_get (past ++ entry by (Lead child job name) ∷ []) at) ≡ got_line (slice_get past at)
      go [] zero = refl
      go [] (suc at) = refl
      go (e ∷ past) zero = refl
      go (e ∷ past) (suc at) = go past at

  pub same_tag : (c : ℕ) → is_tagged named c ≡ is_tagged past c
  same_tag c =
      ap (λ (b : Bool). b && accepts_async named (verdict_of named c 0)) (same_any (offers c) refl)
      ∙ ap (λ (v : Option Verdict). any (offers c) past && accepts_async named v) (same_verdict c 0)
      ∙ ap (λ (b : Bool). any (offers c) past && b) (accepts (verdict_of past c 0))
    where
      accepts : (v : Option Verdict) → accepts_async named v ≡ accepts_async past v
      accepts (Some (DoneAt at)) = ap (λ (line : List ℕ). names_async (remote_reading line)) (same_line at)
      accepts (Some (Failed at)) = refl
      accepts (Some (Absent at)) = refl
      accepts (Some (Unknown at)) = refl
      accepts (Some (Unsupported at)) = refl
      accepts (Some (Ended why)) = refl
      accepts (Some Unsent) = refl
      accepts None = refl

  pub same_addressed : (c : ℕ) (line : List ℕ) → addressed named c line ≡ addressed past c line
  same_addressed c line =
      ap (λ (b : Bool). cond {A = Option ℕ × List ℕ} b (by_tag line (untag line)) (first_of (open_jobs named c), line)) (same_tag c)
      ∙ ap (λ (js : List ℕ). cond {A = Option ℕ × List ℕ} (is_tagged past c) (by_tag line (untag line)) (first_of js, line)) (same_open c)

  same_wire : (c j : ℕ) (line : List ℕ) → on_wire named c j line ≡ on_wire past c j line
  same_wire c j line = ap (λ (b : Bool). cond b (tagged_line j line) line) (same_tag c)

  same_suits : (c : ℕ) (q : HostMessage) → suits_child named c q ≡ suits_child past c q
  same_suits c (AskExtensions names) = ap (λ (b : Bool). bytes_eq names (names_of b)) (same_any (offers c) refl)
  same_suits c q = refl

  pub same_turn : (c j : ℕ) (line : List ℕ) (r : Option HostMessage) → asks_in_turn named c j line r ≡ asks_in_turn past c j line r
  same_turn c j line None = refl
  same_turn c j line (Some q) =
      ap (λ (b : Bool). (is_at (turn_of q) j && b) && bytes_eq line (on_wire named c j (host_line q))) (same_suits c q)
      ∙ ap (λ (l : List ℕ). is_in_turn past c j q && bytes_eq line l) (same_wire c j (host_line q))

  same_greeted : (c j : ℕ) → is_greeted named c j ≡ is_greeted past c j
  same_greeted c j =
      let lines : got_lines named c ≡ got_lines past c = same_each (line_from c) refl in
      let version : said_version named c ≡ said_version past c = rw lines refl in
      let prepared : is_prepared named c ≡ is_prepared past c =
      ap (λ (v : Option Verdict). is_done v && any (prepares c) named) (same_verdict c 1) ∙ ap (λ (b : Bool). is_done (verdict_of past c 1) && b) (same_any (prepares c) refl) in
      choice_of_three (j == 0) (j == 1) (said_version named c) (said_version past c) (is_settled named c 0) (is_settled past c 0) (is_prepared named c) (is_prepared past c)
      version (same_settled c 0) prepared

  same_work : (t c : ℕ) → may_work named by t c ≡ may_work past by t c
  same_work t c =
      ap (λ (h : Option Holder). (t == 0 && by == 0) || (is_held_by by h && is_held_for c h && not (has_open_job named t))) (same_holder t)
      ∙ ap (λ (b : Bool). (t == 0 && by == 0) || (is_claimed_by past by t && is_busy_with past c t && not b)) (same_job t)

  pub same_may_ask : (t c : ℕ) → may_ask named by t c ≡ may_ask past by t c
  same_may_ask t c =
      let jobs = asked_jobs past c in
      and_three (is_greeted named c (length (asked_jobs named c))) (is_greeted past c (length jobs)) (may_work named by t c) (may_work past by t c)
      (is_tagged named c || is_empty (open_jobs named c)) (is_tagged past c || is_empty (open_jobs past c))
      (ap (λ (ks : List ℕ). is_greeted named c (length ks)) (same_asked c) ∙ same_greeted c (length jobs))
      (same_work t c)
      (ap (λ (b : Bool). b || is_empty (open_jobs named c)) (same_tag c) ∙ ap (λ (ks : List ℕ). is_tagged past c || is_empty ks) (same_open c))

  -- a request may come after a name exactly where it may without it
  pub same_ask : (o : Opening) (c j t : ℕ) (line : List ℕ) → may_come o named by (Ask c j t line) ≡ may_come o past by (Ask c j t line)
  same_ask o c j t line =
      let started : is_started named c ≡ is_started past c = same_any (starts c) refl in
      let ended : is_ended named c ≡ is_ended past c = same_any (ends c) refl in
      let read : Option HostMessage = host_reading (addressed past c line).1 in
      and_five (is_live named c) (is_live past c) (not (is_mute named c)) (not (is_mute past c)) (j == length (asked_jobs named c)) (j == length (asked_jobs past c))
      (asks_in_turn named c j line (host_reading (addressed named c line).1)) (asks_in_turn past c j line read) (may_ask named by t c) (may_ask past by t c)
      (ap (λ (b : Bool). b && not (is_ended named c)) started ∙ ap (λ (b : Bool). is_started past c && not b) ended)
      (ap not (same_any (mutes c) refl))
      (ap (λ (ks : List ℕ). j == length ks) (same_asked c))
      (ap (λ (a : Option ℕ × List ℕ). asks_in_turn named c j line (host_reading a.1)) (same_addressed c line) ∙ same_turn c j line read)
      (same_may_ask t c)

-- ---- a name may be said where a request may be asked

pub lead_work : (past : List Entry) (by t c : ℕ) → may_ask past by t c ≡ true → list_any (λ (u : ℕ). may_ask past by u c) (0 ∷ each_of (claimed_for c) past) ≡ true
lead_work past by t c may = go (t == 0) refl
  where
    work : may_work past by t c ≡ true
    work = middle (is_greeted past c (length (asked_jobs past c))) (may_work past by t c) (is_tagged past c || is_empty (open_jobs past c)) may
      where
        middle : (a b c : Bool) → (a && b && c) ≡ true → b ≡ true
        middle true true c h = refl
        middle true false c h = absurd cc
        middle false b c h = absurd cc

    go : (b : Bool) → (t == 0) ≡ b → list_any (λ (u : ℕ). may_ask past by u c) (0 ∷ each_of (claimed_for c) past) ≡ true
    go true z =
        let first : may_ask past by 0 c ≡ true = subst (λ (u : ℕ). may_ask past by u c ≡ true) (same_number t 0 z) may in
        rw first refl
    go false n =
        or_right (may_ask past by 0 c) (list_any (λ (u : ℕ). may_ask past by u c) (each_of (claimed_for c) past))
        (any_there (λ (u : ℕ). may_ask past by u c) t (each_of (claimed_for c) past) (there (claimed_in past c t None held)) may)
      where
        held : is_busy_with past c t ≡ true
        held = second (is_claimed_by past by t) (is_busy_with past c t) (not (has_open_job past t))
            (subst (λ (b : Bool). ((b && by == 0) || (is_claimed_by past by t && is_busy_with past c t && not (has_open_job past t))) ≡ true) n work)
          where
            second : (a b c : Bool) → (a && b && c) ≡ true → b ≡ true
            second true true c h = refl
            second true false c h = absurd cc
            second false b c h = absurd cc

        there : (is_held_for c None ≡ true) ⊎ (list_any (λ (u : ℕ). u == t) (each_of (claimed_for c) past) ≡ true) → list_any (λ (u : ℕ). u == t) (each_of (claimed_for c) past) ≡ true
        there (inl bad) = absurd cc
        there (inr h) = h
