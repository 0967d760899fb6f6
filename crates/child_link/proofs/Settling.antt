-- Nothing is heard after a verdict that a line gave, and nothing before all was written.
use Rattle.std.proofs.Common.{◌≡◌, ℕ, List, [], ◌∷◌, ◌++◌, refl, sym, ap, subst, ◌∙◌, Bool, true, false, not, cond, Some, None, Option, append_assoc, append-nil, inl, inr, length}
use Rattle.std.specs.Prelude.{◌⊎◌, ◌==◌, ◌&&◌, ◌||◌, map, filter, drop}
use Rattle.std.specs.List.{list_all, list_any}
use Rattle.std.specs.Option.{option_or}
use Rattle.std.proofs.lemmas.List.Elements.{filter-append}
use Rattle.annex_model.specs.declared.final_line.Final.{Final}
use Rattle.journal_model.specs.declared.verdict.Why.{Why}
use Rattle.journal_model.specs.declared.verdict.Verdict.{Verdict}
use Rattle.journal_model.specs.declared.verdict.Verdict.TheVariants.{Ended}
use Rattle.journal_model.specs.declared.entry.What.{What}
use Rattle.journal_model.specs.declared.entry.What.TheVariants.{Lead, Ask, Put, Sent, Got, End, Verdict as Settled}
use Rattle.journal_model.specs.declared.entry.Entry.{Entry}
use Rattle.journal_model.specs.declared.opening.Opening.{Opening}
use Rattle.journal_model.specs.Journal.{any, each_of, writes, sends, mutes, ends, verdict_of, is_ended, is_mute, is_started, is_settled, asked_jobs, open_jobs, unsent}
use Rattle.journal_model.specs.Legality.{Legal, is_empty}
use Rattle.journal_model.specs.Due.{replying, due_by, made_by, verdict_at, ending}
use Rattle.journal_model.specs.Shares.{Moved, is_of_child, is_by_line, is_said, is_closed, by_mouth, by_link, by_ear}
use Rattle.journal_model.specs.Halves.{EarValue, MouthValue}
use Rattle.journal_model.proofs.Looks.{each_of-append, any-append, verdict_of-append, unsettled}
use Rattle.journal_model.proofs.Soft.{got_cases}
use Rattle.host_core.specs.declared.event.Event.TheVariants.{Listen, Fetch}
use Rattle.host_core.specs.declared.event.Reply.{Reply}
use Rattle.host_core.specs.declared.event.Reply.TheVariants.{Read, Line}
use Rattle.host_core.specs.Steps.{group_of, is_gone, is_asked, is_awaited}
use Rattle.child_link.specs.declared.ear.Heard.{Heard}
use Rattle.child_link.specs.declared.ear.Heard.TheVariants.{Fed as HeardLine, Read as HeardMore, Over as HeardOver}
use Rattle.child_link.specs.Doors.{Passed, Ends}
use Rattle.child_link.specs.Asks.{IsHeardOut, HeardOut, IsUnheard, IsWritten, HeardMoved}
use Rattle.child_link.specs.Events.{Says}
use Rattle.child_link.specs.Hearings.{IsHearing}
use Rattle.child_link.proofs.Roles.{moved_by, moved_on, moved_both, moved_from, moved_still, moved_wider, none_made, all_narrower, any_on}
use Rattle.child_link.proofs.Ears.{ending_by_ear, got_by_ear}
use Rattle.child_link.proofs.Linked.{any_narrower, mouth_links, ear_links, said_of}
use Rattle.child_link.proofs.Asking.{has_verdict}
use Rattle.std.proofs.lemmas.Bool.{and_parts as both, eqb-true as same_number}
use Rattle.ann_key.proofs.Numbers.{same_number as same}
use Rattle.ann_key.proofs.Booleans.{left_false as either_left, right_false as either_right, true_and_false as true_not_false, or_true}

-- ---- verdicts by lines

-- the entry settles c's job j by a line
abbrev says_so : ℕ → ℕ → What → Bool
says_so c j (Settled child job v) = (child == c && job == j) && is_by_line v
says_so c j _ = false

some_same : (x y : Verdict) → Some x ≡ Some y → x ≡ y
some_same x y e = cc

unheard_in : (c j : ℕ) (more : List Entry) → any (says_so c j) more ≡ false → IsUnheard c j more
unheard_in c j [] h = λ v e. absurd cc
unheard_in c j (e ∷ more) h = step e.what (either_left (says_so c j e.what) (any (says_so c j) more) h) (unheard_in c j more (either_right (says_so c j e.what) (any (says_so c j) more) h))
  where
    step : (w : What) → says_so c j w ≡ false → IsUnheard c j more → IsUnheard c j (record { by = e.by; what = w } ∷ more)
    step (Settled child job verdict) h r = go (child == c && job == j) refl
      where
        go : (b : Bool) → (child == c && job == j) ≡ b → IsUnheard c j (record { by = e.by; what = Settled child job verdict } ∷ more)
        go true f v is =
            let s : Some verdict ≡ Some v = rw f at is in
            subst (λ (x : Verdict). is_by_line x ≡ false) (some_same verdict v s) (rw f at h)
        go false f v is = r v (rw f at is)
    step w h r = r

unheard_more : (past more : List Entry) (c j : ℕ) → IsUnheard c j past → any (says_so c j) more ≡ false → IsUnheard c j (past ++ more)
unheard_more past more c j h none v is = go (verdict_of past c j) refl
  where
    both_of : verdict_of (past ++ more) c j ≡ option_or (verdict_of past c j) (verdict_of more c j)
    both_of = verdict_of-append c j past more

    go : (o : Option Verdict) → verdict_of past c j ≡ o → is_by_line v ≡ false
    go None e = unheard_in c j more none v (sym (both_of ∙ ap (λ (x : Option Verdict). option_or x (verdict_of more c j)) e) ∙ is)
    go (Some u) e = h v (e ∙ sym (both_of ∙ ap (λ (x : Option Verdict). option_or x (verdict_of more c j)) e) ∙ is)

pub none_unheard : (journal : List Entry) (c j : ℕ) → verdict_of journal c j ≡ None → IsUnheard c j journal
none_unheard journal c j none v is = let bad : None ≡ Some v = sym none ∙ is in absurd cc

pub unheard_out : (journal : List Entry) (c j : ℕ) → IsUnheard c j journal → HeardOut c j journal
unheard_out journal c j h v is by = true_not_false (is_by_line v) by (h v is)

-- ---- what is of another child says nothing of the job

says_of : (c j : ℕ) (w : What) → says_so c j w ≡ true → is_of_child c w ≡ true
says_of c j (Settled child job v) h = (both (child == c) (job == j) (both (child == c && job == j) (is_by_line v) h).0).0
says_of c j w h = absurd cc

mouth_unsaid : (c j : ℕ) (w : What) → by_mouth c w ≡ true → says_so c j w ≡ false
mouth_unsaid c j (Settled child job v) h = go (child == c) (job == j) (is_by_line v) h
  where
    go : (a b d : Bool) → (a && not d) ≡ true → ((a && b) && d) ≡ false
    go true b true h = absurd cc
    go true true false h = refl
    go true false false h = refl
    go false b d h = refl
mouth_unsaid c j w h = refl

-- a mouth's verdicts are no line's
pub mouth_unheard : {n : ℕ} {a : Bool} {old new : List Entry} {P Q X : Type 0} (v : MouthValue) (c j : ℕ) → v.child ≡ c
    → Moved n a (by_mouth v.child) (is_said v.child) old new P Q → verdict_of old c j ≡ None → Moved n a (by_link c) (is_of_child c) old new X (IsUnheard c j new)
mouth_unheard {n} {a} {old} {new} {P} {Q} {X} v c j is s' none =
    let s : Moved n a (by_mouth c) (is_said c) old new P Q = subst (λ (k : ℕ). Moved n a (by_mouth k) (is_said k) old new P Q) is s' in
    moved_wider (mouth_links c) (said_of c) s (λ h own x.
    subst (IsUnheard c j) (sym s.is)
    (unheard_more old s.more c j (none_unheard old c j none)
    (none_made (by_mouth c) (says_so c j) (mouth_unsaid c j) n s.more s.own (all_narrower (says_so c j) (is_of_child c) (says_of c j) n s.more h))))

-- ---- what is written

pub record Untouched (c : ℕ) (more : List Entry) : Type 0 where
  pub written : each_of (writes c) more ≡ []
  pub sent : filter (λ e. sends c e.what) more ≡ []

untouched : (c : ℕ) (more : List Entry) → any (is_of_child c) more ≡ false → Untouched c more
untouched c [] h = record { written = refl; sent = refl }
untouched c (e ∷ more) h = step e.what (either_left (is_of_child c e.what) (any (is_of_child c) more) h) (untouched c more (either_right (is_of_child c e.what) (any (is_of_child c) more) h))
  where
    step : (w : What) → is_of_child c w ≡ false → Untouched c more → Untouched c (record { by = e.by; what = w } ∷ more)
    step (Lead child job line) h r = record { written = rw h r.written; sent = r.sent }
    step (Ask child job task line) h r = record { written = rw h r.written; sent = r.sent }
    step (Put child job line) h r = record { written = rw h r.written; sent = r.sent }
    step (Sent child) h r = record { written = r.written; sent = rw h r.sent }
    step w h r = record { written = r.written; sent = r.sent }

pub unsent_same : (past more : List Entry) (c : ℕ) → Untouched c more → unsent (past ++ more) c ≡ unsent past c
unsent_same past more c u =
    ap (λ (l : List Entry). drop (length l) (each_of (writes c) (past ++ more)))
    (filter-append (λ (e : Entry). sends c e.what) past more ∙ ap (λ (l : List Entry). filter (λ (e : Entry). sends c e.what) past ++ l) u.sent ∙ append-nil (filter (λ (e : Entry). sends c e.what) past))
    ∙ ap (drop (length (filter (λ (e : Entry). sends c e.what) past)))
    (each_of-append (writes c) past more ∙ ap (λ (l : List (Option ℕ × List ℕ)). each_of (writes c) past ++ l) u.written ∙ append-nil (each_of (writes c) past))

pub gone_more : (past more : List Entry) (c : ℕ) → is_gone past c ≡ true → is_gone (past ++ more) c ≡ true
gone_more past more c h = go (is_ended past c) refl h
  where
    go : (b : Bool) → is_ended past c ≡ b → (b || is_mute past c) ≡ true → is_gone (past ++ more) c ≡ true
    go true e h = ap (λ (b : Bool). b || is_mute (past ++ more) c) (any_on (ends c) past more (past ++ more) refl e)
    go false e h = ap (λ (b : Bool). is_ended (past ++ more) c || b) (any_on (mutes c) past more (past ++ more) refl h) ∙ or_true (is_ended (past ++ more) c)

pub written_more : (past more : List Entry) (c : ℕ) → any (is_of_child c) more ≡ false → IsWritten c past → IsWritten c (past ++ more)
written_more past more c none (inl e) = inl (unsent_same past more c (untouched c more none) ∙ e)
written_more past more c none (inr g) = inr (gone_more past more c g)

abbrev is_line : Reply → Bool
is_line (Line line) = true
is_line r = false

-- where the core has no line for the mouth, all is written, or the child is gone
pub says_written : (o : Opening) (n c : ℕ) (journal : List Entry) (r : Reply) → is_started journal c ≡ true → is_line r ≡ false → Says o n journal (Fetch c) r → IsWritten c journal
says_written o n c journal r started k h = by_gone (is_gone journal c) refl
  where
    by_line : (ws : List (Option ℕ × List ℕ)) → unsent journal c ≡ ws → is_gone journal c ≡ false → IsWritten c journal
    by_line [] u g = inl u
    by_line (w ∷ ws) u g =
        let line : r ≡ Line (w.1 ++ 10 ∷ []) = h.1 ∙ (rw (started, g, u) refl) in
        let bad : true ≡ false = sym (ap is_line line) ∙ k in
        absurd cc

    by_gone : (b : Bool) → is_gone journal c ≡ b → IsWritten c journal
    by_gone true g = inr g
    by_gone false g = by_line (unsent journal c) refl g

-- ---- others leave what was heard out

out_more : (past more : List Entry) (c j : ℕ) → any (is_of_child c) more ≡ false → HeardOut c j past → HeardOut c j (past ++ more)
out_more past more c j none h v is by = go (verdict_of past c j) refl
  where
    both_of : verdict_of (past ++ more) c j ≡ option_or (verdict_of past c j) (verdict_of more c j)
    both_of = verdict_of-append c j past more

    on : IsHeardOut c j v past → IsHeardOut c j v (past ++ more)
    on k = record {
      front = k.front;
      by = k.by;
      rest = k.rest ++ more;
      is = ap (λ (l : List Entry). l ++ more) k.is ∙ append_assoc k.front (record { by = k.by; what = Settled c j v } ∷ k.rest) more;
      last = any-append (is_of_child c) k.rest more ∙ (rw (k.last, none) refl);
      written = stays k.written;
    }
      where
        stays : (unsent past c ≡ []) ⊎ (is_mute past c ≡ true) → (unsent (past ++ more) c ≡ []) ⊎ (is_mute (past ++ more) c ≡ true)
        stays (inl e) = inl (unsent_same past more c (untouched c more none) ∙ e)
        stays (inr m) = inr (any_on (mutes c) past more (past ++ more) refl m)

    go : (o : Option Verdict) → verdict_of past c j ≡ o → IsHeardOut c j v (past ++ more)
    go None e =
        true_not_false (is_by_line v) by
        (unheard_in c j more (any_narrower (says_so c j) (is_of_child c) (says_of c j) more none) v (sym (both_of ∙ ap (λ (x : Option Verdict). option_or x (verdict_of more c j)) e) ∙ is))
    go (Some u) e = on (h v (e ∙ sym (both_of ∙ ap (λ (x : Option Verdict). option_or x (verdict_of more c j)) e) ∙ is) by)

pub out_passed : {n : ℕ} {a : Bool} {old new : List Entry} {makes : What → Bool} (c j : ℕ) → Passed n a old new → Moved n a makes (is_of_child c) old new (HeardOut c j old) (HeardOut c j new)
out_passed {old = old} c j s = moved_on s (λ none h. subst (HeardOut c j) (sym s.is) (out_more old s.others c j none h))

-- ---- what is heard

ended_unsaid : (c j k by : ℕ) (why : Why) (jobs : List ℕ) → any (says_so c j) (made_by by (map (λ i. Settled k i (Ended why)) jobs)) ≡ false
ended_unsaid c j k by why [] = refl
ended_unsaid c j k by why (i ∷ jobs) = rw (ended_unsaid c j k by why jobs) (or_false (k == c && i == j))
  where
    or_false : (b : Bool) → ((b && false) || false) ≡ false
    or_false true = refl
    or_false false = refl

replies_unsaid : (past : List Entry) (c j child k by : ℕ) (lines : List (List ℕ)) → any (says_so c j) (made_by by (replying past child k lines)) ≡ false
replies_unsaid past c j child k by [] = refl
replies_unsaid past c j child k by (l ∷ ls) = replies_unsaid past c j child k by ls

-- a line that was got, with what it makes due
module _ (o : Opening) (past : List Entry) (n c j : ℕ) (line : List ℕ) (live : is_ended past c ≡ false) (written : IsWritten c past) (unheard : IsUnheard c j past) where
  abbrev after : List What → List Entry
  after ws = past ++ record { by = n; what = Got c line } ∷ made_by n ws

  quiet : (ws : List What) → any (says_so c j) (made_by n ws) ≡ false → HeardOut c j (after ws)
  quiet ws none = unheard_out (after ws) c j (unheard_more past (record { by = n; what = Got c line } ∷ made_by n ws) c j unheard none)

  settles : (k : ℕ) (f : Final) → HeardOut c j (after (Settled c k (verdict_at f (length past)) ∷ []))
  settles k f v is by = go (verdict_of past c j) refl (k == j) refl
    where
      w : Verdict
      w = verdict_at f (length past)

      group : List Entry
      group = record { by = n; what = Got c line } ∷ record { by = n; what = Settled c k w } ∷ []

      both_of : verdict_of (past ++ group) c j ≡ option_or (verdict_of past c j) (verdict_of group c j)
      both_of = verdict_of-append c j past group

      spoken : (unsent (past ++ group) c ≡ []) ⊎ (is_mute (past ++ group) c ≡ true)
      spoken = still written
        where
          still : IsWritten c past → (unsent (past ++ group) c ≡ []) ⊎ (is_mute (past ++ group) c ≡ true)
          still (inl e) = inl (unsent_same past group c (record { written = refl; sent = refl }) ∙ e)
          still (inr g) = inr (any_on (mutes c) past group (past ++ group) refl (sym (ap (λ (b : Bool). b || is_mute past c) live) ∙ g))

      whole : k ≡ j → w ≡ v → IsHeardOut c j v (past ++ group)
      whole e r = record {
        front = past ++ record { by = n; what = Got c line } ∷ [];
        by = n;
        rest = [];
        is =
            ap (λ (i : ℕ). past ++ record { by = n; what = Got c line } ∷ record { by = n; what = Settled c i w } ∷ []) e
            ∙ ap (λ (x : Verdict). past ++ record { by = n; what = Got c line } ∷ record { by = n; what = Settled c j x } ∷ []) r
            ∙ sym (append_assoc past (record { by = n; what = Got c line } ∷ []) (record { by = n; what = Settled c j v } ∷ []));
        last = refl;
        written = spoken;
      }

      go : (u : Option Verdict) → verdict_of past c j ≡ u → (b : Bool) → (k == j) ≡ b → IsHeardOut c j v (past ++ group)
      go (Some u) e b f =
          true_not_false (is_by_line v) by
          (unheard v (e ∙ sym (both_of ∙ ap (λ (x : Option Verdict). option_or x (verdict_of group c j)) e) ∙ is))
      go None e true f =
          let own : verdict_of group c j ≡ Some w = rw (same c, f) refl in
          let r : Some w ≡ Some v = sym own ∙ sym (both_of ∙ ap (λ (x : Option Verdict). option_or x (verdict_of group c j)) e) ∙ is in
          whole (same_number k j f) (some_same w v r)
      go None e false f =
          let own : verdict_of group c j ≡ None = rw (same c, f) refl in
          let bad : None ≡ Some v = sym own ∙ sym (both_of ∙ ap (λ (x : Option Verdict). option_or x (verdict_of group c j)) e) ∙ is in
          absurd cc

  got_out : HeardOut c j (past ++ group_of o past n (Got c line))
  got_out = got_cases (λ ws. HeardOut c j (after ws)) o past c line (quiet [] refl) (λ why soft. quiet (ending past c why) (ended_unsaid c j c n why (open_jobs past c)))
      (λ k f opened. settles k f) (λ k ls opened for owed. quiet (replying past c k ls) (replies_unsaid past c j c k n ls))

-- ---- what a link did

pub all_kinds : (p q : What → Bool) → ((w : What) → p w ≡ true → q w ≡ true) → (ws : List What) → list_all p ws ≡ true → list_all q ws ≡ true
all_kinds p q f [] h = refl
all_kinds p q f (w ∷ ws) h = let t = both (p w) (list_all p ws) h in rw (f w t.0, all_kinds p q f ws t.1) refl

abbrev pub Waits : ℕ → ℕ → List Entry → Type 0
Waits c j journal = IsWritten c journal × IsUnheard c j journal

waits_more : (past more : List Entry) (c j : ℕ) → any (is_of_child c) more ≡ false → Waits c j past → Waits c j (past ++ more)
waits_more past more c j none h =
    (written_more past more c none h.0, unheard_more past more c j h.1 (any_narrower (says_so c j) (is_of_child c) (says_of c j) more none))

-- others alone went on
pub waits_on : {n : ℕ} {a : Bool} {old new : List Entry} {makes : What → Bool} (c j : ℕ) → Passed n a old new → Moved n a makes (is_of_child c) old new (Waits c j old) (Waits c j new)
waits_on {old = old} c j s = moved_on s (λ none h. subst (Waits c j) (sym s.is) (waits_more old s.others c j none h))

pub waits_out : {n : ℕ} {a : Bool} {old new : List Entry} (c j : ℕ) → Passed n a old new → HeardMoved n a old new c j (Waits c j old)
waits_out {old = old} {new = new} c j s = moved_on s (λ none h. unheard_out new c j (subst (Waits c j) (sym s.is) (waits_more old s.others c j none h)).1)

-- the child was ended
pub ends_out : {n : ℕ} {a : Bool} {o : Opening} {old new : List Entry} (c j : ℕ) (why : Why) → is_closed why ≡ false → Ends o n a old new c why
    → Moved n a (by_link c) (is_of_child c) old new (IsUnheard c j old) (IsUnheard c j new)
ends_out {old = old} c j why kept (inr s) = moved_on s.0 (λ none h.
    subst (IsUnheard c j) (sym s.0.is) (unheard_more old s.0.others c j h (any_narrower (says_so c j) (is_of_child c) (says_of c j) s.0.others none)))
ends_out {n} {o = o} {old = old} c j why kept (inl s) =
    moved_by s (all_kinds (by_ear c) (by_link c) (ear_links c) (End c why ∷ due_by o s.past (End c why)) (ending_by_ear s.past c why kept)) (λ none h.
    subst (IsUnheard c j) (sym s.is)
    (unheard_more s.past (group_of o s.past n (End c why)) c j
    (subst (IsUnheard c j) (sym s.passed.is) (unheard_more old s.passed.others c j h (any_narrower (says_so c j) (is_of_child c) (says_of c j) s.passed.others none)))
    (ended_unsaid c j c n why (open_jobs s.past c))))

-- others went on, the job had no verdict, and the child was ended
pub given_up_out : {n m : ℕ} {a b : Bool} {x y z : List Entry} {P : Type 0} (o : Opening) (c d j : ℕ) (why : Why) → m ≡ n → b ≡ a → d ≡ c → is_closed why ≡ false → Passed n a x y
    → verdict_of y c j ≡ None → Ends o m b y z d why → HeardMoved n a x z c j P
given_up_out {n} {m} {a} {b} {x} {y} {z} o c d j why en ea ec kept s none t =
    let t' : Ends o m b y z c why = subst (λ (k : ℕ). Ends o m b y z k why) ec t in
    moved_both en ea (moved_on s (λ apart p. none_unheard y c j none)) (moved_wider (λ w k. k) (λ w k. k) (ends_out c j why kept t') (λ own u k. unheard_out z c j (u k)))

-- one step of its ear
pub hearing_out : (o : Opening) (n : ℕ) (a : Bool) (old new : List Entry) (e e' : EarValue) (j : ℕ) (r : Heard) → IsHearing o n a old new e e' r
    → HeardMoved n a old new e.child j (Waits e.child j old)
hearing_out o n a old new e e' j HeardLine h =
    let c : ℕ = e.child in
    let line : List ℕ = h.0.0 in
    let s = h.0.1 in
    moved_by s (all_kinds (by_ear c) (by_link c) (ear_links c) (Got c line ∷ due_by o s.past (Got c line)) (got_by_ear o s.past c line)) (λ none k.
    (let w : Waits c j s.past = subst (Waits c j) (sym s.passed.is) (waits_more old s.passed.others c j none k) in
    subst (HeardOut c j) (sym s.is) (got_out o s.past n c j line s.found w.0 w.1)))
hearing_out o n a old new e e' j HeardMore h = moved_still h.0 (λ k. subst (HeardOut e.child j) (sym h.0) (unheard_out old e.child j k.1))
hearing_out o n a old new e e' j HeardOver h =
    moved_wider (λ w k. k) (λ w k. k) (ends_out e.child j h.0 h.2 h.1) (λ own u k. unheard_out new e.child j (u k.1))

-- all was written and no line had said the verdict, and then the child was heard
pub waited_out : {n m : ℕ} {a b : Bool} {x y z : List Entry} {P : Type 0} (c d j : ℕ) → m ≡ n → b ≡ a → d ≡ c
    → Moved n a (by_link c) (is_of_child c) x y P (IsUnheard c j y) → IsWritten c y → HeardMoved m b y z d j (Waits d j y) → HeardMoved n a x z c j P
waited_out {n} {m} {a} {b} {x} {y} {z} c d j en ea ec s w t =
    moved_both en ea s (moved_from (λ h. (w, h)) (subst (λ (k : ℕ). HeardMoved m b y z k j (Waits k j y)) ec t))

-- one thing after another, by the child's number under two names
pub heard_then : {n m : ℕ} {a b : Bool} {x y z : List Entry} {P : Type 0} (c d j : ℕ) → m ≡ n → b ≡ a → d ≡ c → HeardMoved n a x y c j P → HeardMoved m b y z d j (HeardOut d j y)
    → HeardMoved n a x z c j P
heard_then {n} {m} {a} {b} {x} {y} {z} c d j en ea ec s t = moved_both en ea s (subst (λ (k : ℕ). HeardMoved m b y z k j (HeardOut k j y)) ec t)

-- ---- what is over is settled

pub settled_then : {n : ℕ} {a : Bool} {old new : List Entry} (c j : ℕ) → Passed n a old new → (verdict_of old c j ≡ None → ⊥) → verdict_of new c j ≡ None → ⊥
settled_then {old = old} {new = new} c j s some none = go (verdict_of old c j) refl
  where
    both_of : option_or (verdict_of old c j) (verdict_of s.others c j) ≡ None
    both_of = sym (ap (λ (l : List Entry). verdict_of l c j) s.is ∙ verdict_of-append c j old s.others) ∙ none

    go : (v : Option Verdict) → verdict_of old c j ≡ v → ⊥
    go None e = some e
    go (Some v) e = let bad : Some v ≡ None = ap (λ (x : Option Verdict). option_or x (verdict_of s.others c j)) (sym e) ∙ both_of in cc

-- an asked job without a verdict is open
left : (past : List Entry) (c job : ℕ) (jobs : List ℕ) → list_any (λ k. k == job) jobs ≡ true → is_settled past c job ≡ false → is_empty (filter (λ j. not (is_settled past c j)) jobs) ≡ false
left past c job [] a u = absurd cc
left past c job (k ∷ jobs) a u = go (k == job) refl (λ h. left past c job jobs h u) a
  where
    go : (b : Bool) → (k == job) ≡ b → (list_any (λ j. j == job) jobs ≡ true → is_empty (filter (λ j. not (is_settled past c j)) jobs) ≡ false)
        → (b || list_any (λ j. j == job) jobs) ≡ true → is_empty (filter (λ j. not (is_settled past c j)) (k ∷ jobs)) ≡ false
    go true e r h = let s : is_settled past c k ≡ false = ap (is_settled past c) (same_number k job e) ∙ u in rw s refl
    go false e r h = by_open (is_settled past c k) (r h)
      where
        by_open : (s : Bool) → is_empty (filter (λ j. not (is_settled past c j)) jobs) ≡ false
            → is_empty (cond (not s) (k ∷ filter (λ j. not (is_settled past c j)) jobs) (filter (λ j. not (is_settled past c j)) jobs)) ≡ false
        by_open true r = r
        by_open false r = refl

abbrev reads : Reply → Bool
reads Read = true
reads r = false

-- a job of a child of which nothing is due was settled
pub over_settled : (o o' : Opening) (n c j : ℕ) (journal : List Entry) (r : Reply) → Legal o' journal → is_started journal c ≡ true → is_asked journal c j ≡ true → reads r ≡ false
    → Says o n journal (Listen c) r → verdict_of journal c j ≡ None → ⊥
over_settled o o' n c j journal r legal started asked other h none = by_end (is_ended journal c) refl
  where
    opened : is_empty (open_jobs journal c) ≡ false
    opened = left journal c j (asked_jobs journal c) asked (unsettled journal c j none)

    by_end : (b : Bool) → is_ended journal c ≡ b → ⊥
    by_end true e = has_verdict o' journal c j legal e asked none
    by_end false e =
        let awaited : is_awaited journal c ≡ true = rw opened refl in
        let is : r ≡ Read = h.1 ∙ (rw (started, e, awaited) refl) in
        let bad : true ≡ false = sym (ap reads is) ∙ other in
        absurd cc
