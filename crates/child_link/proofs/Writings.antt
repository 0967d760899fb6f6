-- What a link does, and what others do, keeps it that requests are written before they are answered.
use Rattle.std.proofs.Common.{◌≡◌, ℕ, List, [], ◌∷◌, ◌++◌, refl, sym, ap, subst, ◌∙◌, Bool, true, false, not, Some, None, Option, append_assoc, append-nil, inl, inr, length}
use Rattle.std.specs.Prelude.{◌==◌, ◌&&◌, ◌||◌, map}
use Rattle.std.specs.List.{list_all, list_any}
use Rattle.std.proofs.lemmas.List.{append_cancel_left}
use Rattle.journal_model.specs.declared.verdict.Why.{Why}
use Rattle.journal_model.specs.declared.verdict.Verdict.TheVariants.{Ended}
use Rattle.annex_model.specs.Messages.{HostMessage}
use Rattle.annex_model.specs.declared.final_line.Final.{Final}
use Rattle.journal_model.specs.declared.entry.What.{What}
use Rattle.journal_model.specs.declared.entry.What.TheVariants.{Got, End, Verdict as Settled}
use Rattle.journal_model.specs.declared.entry.Entry.{Entry}
use Rattle.journal_model.specs.declared.opening.Opening.{Opening}
use Rattle.journal_model.specs.Journal.{any, asked_jobs, is_ended, is_mute, is_unsent, mutes, open_jobs, unsent, verdict_of}
use Rattle.journal_model.specs.Legality.{Legal}
use Rattle.journal_model.specs.Due.{due_by, ending, made_by, replying, verdict_at}
use Rattle.journal_model.specs.Shares.{Moved, are_own, by_asker, by_ear, by_link, by_mouth, is_by_line, is_closed, is_heard, is_of_child, is_said}
use Rattle.journal_model.specs.Halves.{EarValue, MouthValue, LinkWired, MouthWired}
use Rattle.journal_model.proofs.Soft.{got_cases}
use Rattle.journal_model.proofs.Verdicts.{unasked_none}
use Rattle.host_core.specs.Steps.{group_of}
use Rattle.child_link.specs.declared.ear.Heard.{Heard}
use Rattle.child_link.specs.declared.ear.Heard.TheVariants.{Fed as HeardLine, Read as HeardMore, Over as HeardOver}
use Rattle.child_link.specs.declared.events.Asked.{Asked}
use Rattle.child_link.specs.declared.events.Asked.TheVariants.{Job, Lost, Odd}
use Rattle.child_link.specs.Doors.{Passed, Stands, Ends}
use Rattle.child_link.specs.Events.{IsAsked}
use Rattle.child_link.specs.Asks.{IsWritten}
use Rattle.child_link.specs.Hearings.{IsHearing}
use Rattle.child_link.specs.Writings.{settles_by_line, settles_written, written_from, is_written_first, IsWriting, LoneWired}
use Rattle.child_link.proofs.Roles.{moved_by, moved_on, moved_from, moved_still, moved_then, moved_wider, none_made, all_narrower, any_on}
use Rattle.child_link.proofs.Ears.{ending_by_ear, got_by_ear}
use Rattle.child_link.proofs.Linked.{any_narrower, ear_links, heard_of, link_apart, link_mouth, link_on, mouth_links, said_of}
use Rattle.child_link.proofs.Asking.{link_asked, asker_asks, none_made_of}
use Rattle.child_link.proofs.Settling.{all_kinds, written_more, unsent_same}
use Rattle.ann_key.proofs.Booleans.{and_assoc, left_false as either_left, right_false as either_right}
use Rattle.std.proofs.lemmas.Bool.{and_parts as both}
use Rattle.ann_key.proofs.Numbers.{same_number as same}

abbrev pub Writes : ℕ → List Entry → Type 0
Writes c journal = is_written_first journal c ≡ true

-- ---- after more entries

written-append : (c : ℕ) (past xs ys : List Entry) → written_from c past (xs ++ ys) ≡ (written_from c past xs && written_from c (past ++ xs) ys)
written-append c past [] ys = ap (λ (p : List Entry). written_from c p ys) (sym (append-nil past))
written-append c past (e ∷ xs) ys =
    let here : Bool = settles_written past c e.what in
    ap (λ (b : Bool). here && b) (written-append c (past ++ e ∷ []) xs ys)
    ∙ sym (and_assoc here (written_from c (past ++ e ∷ []) xs) (written_from c ((past ++ e ∷ []) ++ xs) ys))
    ∙ ap (λ (p : List Entry). (here && written_from c (past ++ e ∷ []) xs) && written_from c p ys) (append_assoc past (e ∷ []) xs)

unsettling : (past : List Entry) (c : ℕ) (w : What) → settles_by_line c w ≡ false → settles_written past c w ≡ true
unsettling past c (Settled child job verdict) h = rw h refl
unsettling past c w h = refl

unanswered : (c : ℕ) (past more : List Entry) → any (settles_by_line c) more ≡ false → written_from c past more ≡ true
unanswered c past [] h = refl
unanswered c past (e ∷ more) h =
    rw (
      unsettling past c e.what (either_left (settles_by_line c e.what) (any (settles_by_line c) more) h),
      unanswered c (past ++ e ∷ []) more (either_right (settles_by_line c e.what) (any (settles_by_line c) more) h),
    ) refl

-- entries that settle no job of c by a line
pub written_on : (past more : List Entry) (c : ℕ) → any (settles_by_line c) more ≡ false → Writes c past → Writes c (past ++ more)
written_on past more c none h = written-append c [] past more ∙ (rw (h, unanswered c past more none) refl)

pub settles_of : (c : ℕ) (w : What) → settles_by_line c w ≡ true → is_of_child c w ≡ true
settles_of c (Settled child job verdict) h = (both (child == c) (is_by_line verdict) h).0
settles_of c w h = absurd cc

-- entries that aren't of c
pub written_apart : (past more : List Entry) (c : ℕ) → any (is_of_child c) more ≡ false → Writes c past → Writes c (past ++ more)
written_apart past more c none h = written_on past more c (any_narrower (settles_by_line c) (is_of_child c) (settles_of c) more none) h

-- ---- a child that was asked nothing

unsettled_written : (c : ℕ) (past more : List Entry) → ((j : ℕ) → verdict_of more c j ≡ None) → written_from c past more ≡ true
unsettled_written c past [] none = refl
unsettled_written c past (e ∷ more) none = step e.what none (unsettled_written c (past ++ e ∷ []) more)
  where
    step : (w : What) → ((j : ℕ) → verdict_of (record { by = e.by; what = w } ∷ more) c j ≡ None)
        → (((j : ℕ) → verdict_of more c j ≡ None) → written_from c (past ++ e ∷ []) more ≡ true)
        → (settles_written past c w && written_from c (past ++ e ∷ []) more) ≡ true
    step (Settled child job verdict) h r = go (child == c) refl
      where
        go : (b : Bool) → (child == c) ≡ b → (settles_written past c (Settled child job verdict) && written_from c (past ++ e ∷ []) more) ≡ true
        go true f =
            let here : verdict_of (record { by = e.by; what = Settled child job verdict } ∷ more) c job ≡ None = h job in
            absurd (let bad : Some verdict ≡ None = rw (f, same job) at here in cc)
        go false f = rw (f, r (λ j. (let here : verdict_of (record { by = e.by; what = Settled child job verdict } ∷ more) c j ≡ None = h j in rw f at here))) refl
    step w h r = rw (r h) refl

pub written_unasked : (o : Opening) (journal : List Entry) (c : ℕ) → Legal o journal → asked_jobs journal c ≡ [] → Writes c journal
written_unasked o journal c legal none = unsettled_written c [] journal (λ j. unasked_none o journal legal c j (ap (list_any (λ k. k == j)) none))

-- ---- what was done

-- two things that hold of one step
pub moved_and : {n : ℕ} {a : Bool} {makes mine : What → Bool} {x y : List Entry} {P Q R S : Type 0} → Moved n a makes mine x y P Q → Moved n a makes mine x y R S → Moved n a makes mine x y (P × R) (Q × S)
moved_and {n} {mine = mine} {x = x} s t =
    let mores : s.more ≡ t.more = append_cancel_left x s.more t.more (sym s.is ∙ t.is) in
    record { more = s.more; is = s.is; own = s.own; lone = s.lone; kept = λ h p. (s.kept h p.0, t.kept (subst (λ (l : List Entry). are_own mine n l ≡ true) mores h) p.1) }

pub moved_as : {n : ℕ} {a : Bool} {makes mine : What → Bool} {x y : List Entry} {P P' Q Q' : Type 0} → (P' → P) → (Q → Q') → Moved n a makes mine x y P Q → Moved n a makes mine x y P' Q'
moved_as f g s = record { more = s.more; is = s.is; own = s.own; lone = s.lone; kept = λ h p. g (s.kept h (f p)) }

-- others alone went on
pub writes_on : {n : ℕ} {a : Bool} {old new : List Entry} {makes : What → Bool} (c : ℕ) → Passed n a old new → Moved n a makes (is_of_child c) old new (Writes c old) (Writes c new)
writes_on {old = old} c s = moved_on s (λ none h. subst (Writes c) (sym s.is) (written_apart old s.others c none h))

-- entries were made that settle none by a line
pub writes_made : {n : ℕ} {a : Bool} {o : Opening} {old new : List Entry} {makes : What → Bool} {ws : List Entry → List What} {Found : List Entry → Type 0} (c : ℕ) (s : Stands o n a old new ws Found)
    → list_all makes (ws s.past) ≡ true → any (settles_by_line c) (made_by n (ws s.past)) ≡ false → Moved n a makes (is_of_child c) old new (Writes c old) (Writes c new)
writes_made {n} {old = old} {ws = ws} c s own quiet = moved_by s own (λ none h.
    subst (Writes c) (sym s.is)
    (written_on s.past (made_by n (ws s.past)) c quiet (subst (Writes c) (sym s.passed.is) (written_apart old s.passed.others c none h))))

ended_quiet : (c k by : ℕ) (why : Why) (jobs : List ℕ) → any (settles_by_line c) (made_by by (map (λ i. Settled k i (Ended why)) jobs)) ≡ false
ended_quiet c k by why [] = refl
ended_quiet c k by why (i ∷ jobs) = rw (ended_quiet c k by why jobs) (or_false (k == c))
  where
    or_false : (b : Bool) → ((b && false) || false) ≡ false
    or_false true = refl
    or_false false = refl

replies_quiet : (past : List Entry) (c child k by : ℕ) (lines : List (List ℕ)) → any (settles_by_line c) (made_by by (replying past child k lines)) ≡ false
replies_quiet past c child k by [] = refl
replies_quiet past c child k by (l ∷ ls) = replies_quiet past c child k by ls

-- the child was ended
pub writes_ended : {n : ℕ} {a : Bool} {o : Opening} {old new : List Entry} (c : ℕ) (why : Why) → is_closed why ≡ false → Ends o n a old new c why
    → Moved n a (by_link c) (is_of_child c) old new (Writes c old) (Writes c new)
writes_ended c why kept (inr s) = writes_on c s.0
writes_ended {n} {o = o} c why kept (inl s) =
    writes_made c s (all_kinds (by_ear c) (by_link c) (ear_links c) (End c why ∷ due_by o s.past (End c why)) (ending_by_ear s.past c why kept)) (ended_quiet c c n why (open_jobs s.past c))

mouth_quiet : (c : ℕ) (w : What) → by_mouth c w ≡ true → settles_by_line c w ≡ false
mouth_quiet c (Settled child job v) h = go (child == c) (is_by_line v) h
  where
    go : (a b : Bool) → (a && not b) ≡ true → (a && b) ≡ false
    go true true h = absurd cc
    go true false h = refl
    go false b h = refl
mouth_quiet c w h = refl

-- its mouth did something
pub writes_mouth : {n : ℕ} {a : Bool} {old new : List Entry} {P Q : Type 0} (v : MouthValue) (c : ℕ) → v.child ≡ c → Moved n a (by_mouth v.child) (is_said v.child) old new P Q
    → Moved n a (by_link c) (is_of_child c) old new (Writes c old) (Writes c new)
writes_mouth {n} {a} {old} {new} {P} {Q} v c is s' =
    let s : Moved n a (by_mouth c) (is_said c) old new P Q = subst (λ (k : ℕ). Moved n a (by_mouth k) (is_said k) old new P Q) is s' in
    moved_wider (mouth_links c) (said_of c) s (λ h own w.
    subst (Writes c) (sym s.is)
    (written_on old s.more c (none_made (by_mouth c) (settles_by_line c) (mouth_quiet c) n s.more s.own (all_narrower (settles_by_line c) (is_of_child c) (settles_of c) n s.more h)) w))

-- ---- a line that was got where all is written

module _ (o : Opening) (past : List Entry) (n c : ℕ) (line : List ℕ) (live : is_ended past c ≡ false) (written : IsWritten c past) (before : Writes c past) where
  abbrev heard : List Entry
  heard = past ++ record { by = n; what = Got c line } ∷ []

  quiet : (ws : List What) → any (settles_by_line c) (made_by n ws) ≡ false → Writes c (past ++ record { by = n; what = Got c line } ∷ made_by n ws)
  quiet ws none = written_on past (record { by = n; what = Got c line } ∷ made_by n ws) c none before

  -- nothing is unwritten, or the child is mute
  covered : (k : ℕ) → (is_mute heard c || not (is_unsent heard c k)) ≡ true
  covered k = go written
    where
      or_true : (b : Bool) → (b || true) ≡ true
      or_true true = refl
      or_true false = refl

      go : IsWritten c past → (is_mute heard c || not (is_unsent heard c k)) ≡ true
      go (inl e) =
          let none : unsent heard c ≡ [] = unsent_same past (record { by = n; what = Got c line } ∷ []) c (record { written = refl; sent = refl }) ∙ e in
          rw none (or_true (is_mute heard c))
      go (inr g) =
          let mute : is_mute heard c ≡ true = any_on (mutes c) past (record { by = n; what = Got c line } ∷ []) heard refl (sym (ap (λ (b : Bool). b || is_mute past c) live) ∙ g) in
          rw mute refl

  settled : (k : ℕ) (f : Final) → Writes c (past ++ record { by = n; what = Got c line } ∷ record { by = n; what = Settled c k (verdict_at f (length past)) } ∷ [])
  settled k f =
      let w : What = Settled c k (verdict_at f (length past)) in
      let first : Writes c heard = quiet [] refl in
      let own : settles_written heard c w ≡ true = rw (covered k) (or_true (not ((c == c) && is_by_line (verdict_at f (length past))))) in
      subst (Writes c) (append_assoc past (record { by = n; what = Got c line } ∷ []) (record { by = n; what = w } ∷ []))
      (written-append c [] heard (record { by = n; what = w } ∷ []) ∙ (rw (first, own) refl))
    where
      or_true : (b : Bool) → (b || true) ≡ true
      or_true true = refl
      or_true false = refl

  pub writes_got : Writes c (past ++ group_of o past n (Got c line))
  writes_got = got_cases (λ ws. Writes c (past ++ record { by = n; what = Got c line } ∷ made_by n ws)) o past c line (quiet [] refl)
      (λ why soft. quiet (ending past c why) (ended_quiet c c n why (open_jobs past c))) (λ k f opened. settled k f)
      (λ k ls opened for owed. quiet (replying past c k ls) (replies_quiet past c c k n ls))

-- all is written, or the child is gone, and what was answered had been written
abbrev pub Ready : ℕ → List Entry → Type 0
Ready c journal = Writes c journal × IsWritten c journal

ready_more : (past more : List Entry) (c : ℕ) → any (is_of_child c) more ≡ false → Ready c past → Ready c (past ++ more)
ready_more past more c none h = (written_apart past more c none h.0, written_more past more c none h.1)

pub ready_on : {n : ℕ} {a : Bool} {old new : List Entry} {makes : What → Bool} (c : ℕ) → Passed n a old new → Moved n a makes (is_of_child c) old new (Ready c old) (Ready c new)
ready_on {old = old} c s = moved_on s (λ none h. subst (Ready c) (sym s.is) (ready_more old s.others c none h))

-- one step of its ear
pub writes_hearing : (o : Opening) (n : ℕ) (a : Bool) (old new : List Entry) (e e' : EarValue) (r : Heard) → IsHearing o n a old new e e' r
    → Moved n a (by_link e.child) (is_of_child e.child) old new (Ready e.child old) (Writes e.child new)
writes_hearing o n a old new e e' HeardLine h =
    let c : ℕ = e.child in
    let line : List ℕ = h.0.0 in
    let s = h.0.1 in
    moved_by s (all_kinds (by_ear c) (by_link c) (ear_links c) (Got c line ∷ due_by o s.past (Got c line)) (got_by_ear o s.past c line)) (λ none k.
    (let w : Ready c s.past = subst (Ready c) (sym s.passed.is) (ready_more old s.passed.others c none k) in
    subst (Writes c) (sym s.is) (writes_got o s.past n c line s.found w.1 w.0)))
writes_hearing o n a old new e e' HeardMore h = moved_still h.0 (λ k. subst (Writes e.child) (sym h.0) k.0)
writes_hearing o n a old new e e' HeardOver h = moved_from (λ k. k.0) (writes_ended e.child h.0 h.2 h.1)

-- ---- both halves

pub lone_of : (journal : List Entry) (e : EarValue) (m : MouthValue) (c : ℕ) → e.child ≡ c → LinkWired journal e m → Writes c journal → LoneWired journal e m
lone_of journal e m c is l w = record { link = l; written = subst (λ (k : ℕ). Writes k journal) (sym is) w }

-- what both did, and that requests were written first
pub lone_moved : {n : ℕ} {a : Bool} {makes : What → Bool} {old new : List Entry} (e e' : EarValue) (m m' : MouthValue) {P : Type 0} → e'.child ≡ e.child
    → Moved n a makes (is_of_child e.child) old new (LinkWired old e m) (LinkWired new e' m') → Moved n a makes (is_of_child e.child) old new (Writes e.child old × P) (Writes e.child new)
    → Moved n a makes (is_of_child e.child) old new (LoneWired old e m × P) (LoneWired new e' m')
lone_moved {new = new} e e' m m' same s t = moved_as (λ h. (h.0.link, (h.0.written, h.1))) (λ h. lone_of new e' m' e.child same h.0 h.1) (moved_and s t)

-- nothing more is known before
pub lone_both : {n : ℕ} {a : Bool} {makes : What → Bool} {old new : List Entry} (e e' : EarValue) (m m' : MouthValue) → e'.child ≡ e.child
    → Moved n a makes (is_of_child e.child) old new (LinkWired old e m) (LinkWired new e' m') → Moved n a makes (is_of_child e.child) old new (Writes e.child old) (Writes e.child new)
    → Moved n a makes (is_of_child e.child) old new (LoneWired old e m) (LoneWired new e' m')
lone_both e e' m m' same s t = moved_from (λ h. (h, tt)) (lone_moved e e' m m' {P = Unit {0}} same s (moved_from (λ h. h.0) t))

-- others alone went on
pub lone_on : {n : ℕ} {a : Bool} {old new : List Entry} {makes : What → Bool} (e : EarValue) (m : MouthValue) → m.child ≡ e.child → Passed n a old new
    → Moved n a makes (is_of_child e.child) old new (LoneWired old e m) (LoneWired new e m)
lone_on e m is s = lone_both e e m m refl (link_on e m is s) (writes_on e.child s)

-- and all stays written
pub lone_waits : {n : ℕ} {a : Bool} {old new : List Entry} {makes : What → Bool} (e : EarValue) (m : MouthValue) → m.child ≡ e.child → Passed n a old new
    → Moved n a makes (is_of_child e.child) old new (LoneWired old e m × IsWritten e.child old) (LoneWired new e m × IsWritten e.child new)
lone_waits {old = old} e m is s =
    moved_as (λ h. (h.0, h)) (λ h. (h.0, h.1.1)) (moved_and (lone_on e m is s) (moved_as (λ h. (h.0.written, h.1)) (λ h. h) (ready_on e.child s)))

-- a stretch that isn't of the child
pub lone_apart : (past more : List Entry) (e : EarValue) (m : MouthValue) → m.child ≡ e.child → any (is_of_child e.child) more ≡ false → LoneWired past e m → LoneWired (past ++ more) e m
lone_apart past more e m is none h = record {
  link = link_apart past more e m is (any_narrower (is_heard e.child) (is_of_child e.child) (heard_of e.child) more none) (any_narrower (is_said e.child) (is_of_child e.child) (said_of e.child) more none) h.link;
  written = written_apart past more e.child none h.written;
}

-- its mouth did something
pub lone_mouth : {n : ℕ} {a : Bool} {old new : List Entry} (e : EarValue) (m w : MouthValue) → m.child ≡ e.child
    → Moved n a (by_mouth m.child) (is_said m.child) old new (MouthWired old m) (MouthWired new w)
    → Moved n a (by_link e.child) (is_of_child e.child) old new (LoneWired old e m) (LoneWired new e w)
lone_mouth e m w is s = lone_both e e m w refl (link_mouth e m w is s) (writes_mouth m e.child is s)

-- the child was ended
pub lone_ended : {n : ℕ} {a : Bool} {o : Opening} {old new : List Entry} (e e' : EarValue) (m m' : MouthValue) (why : Why) → is_closed why ≡ false → e'.child ≡ e.child
    → Moved n a (by_link e.child) (is_of_child e.child) old new (LinkWired old e m) (LinkWired new e' m') → Ends o n a old new e.child why
    → Moved n a (by_link e.child) (is_of_child e.child) old new (LoneWired old e m) (LoneWired new e' m')
lone_ended e e' m m' why kept same s t = lone_both e e' m m' same s (writes_ended e.child why kept t)

-- a step of its ear, where all was written
pub lone_heard : {n : ℕ} {a : Bool} {old new : List Entry} (o : Opening) (e e' : EarValue) (m : MouthValue) (r : Heard) → e'.child ≡ e.child
    → Moved n a (by_link e.child) (is_of_child e.child) old new (LinkWired old e m) (LinkWired new e' m) → IsHearing o n a old new e e' r
    → Moved n a (by_link e.child) (is_of_child e.child) old new (LoneWired old e m × IsWritten e.child old) (LoneWired new e' m)
lone_heard {n} {a} {old} {new} o e e' m r same s h = lone_moved e e' m m same s (writes_hearing o n a old new e e' r h)

-- all was written, and then the child was heard
pub lone_waited : {n k : ℕ} {a b : Bool} {x y z : List Entry} {P Q : Type 0} (c d : ℕ) (e : EarValue) (m : MouthValue) → k ≡ n → b ≡ a → d ≡ c
    → Moved n a (by_link c) (is_of_child c) x y P (LoneWired y e m) → IsWritten d y → Moved k b (by_link d) (is_of_child d) y z (LoneWired y e m × IsWritten d y) Q
    → Moved n a (by_link c) (is_of_child c) x z P Q
lone_waited c d e m en ea ec s w t = moved_then by_link is_of_child en ea ec s (moved_from (λ h. (h, w)) t)

-- a request was asked, or lost
pub lone_asked : (o : Opening) {n : ℕ} {a : Bool} {old mid : List Entry} (t : ℕ) (name : Option (List ℕ)) (q : HostMessage) (e : EarValue) (m : MouthValue) → m.child ≡ e.child → (x : Asked) → IsAsked o n a old mid e.child t name q x
    → Moved n a (by_asker e.child) (is_of_child e.child) old mid (LoneWired old e m) (LoneWired mid e m)
lone_asked o {n} {a} {old} {mid} t name q e m is x h = lone_both e e m m refl (link_asked o t name q e m is x h) (go x h)
  where
    go : (x : Asked) → IsAsked o n a old mid e.child t name q x → Moved n a (by_asker e.child) (is_of_child e.child) old mid (Writes e.child old) (Writes e.child mid)
    go (Job j) h = writes_made e.child h (asker_asks h.past n t e.child q name) (none_made_of (settles_by_line e.child) (λ child job line. refl) (λ child job task line. refl) h.past n t e.child q name)
    go (Lost why) h = writes_made e.child h (rw (same e.child) refl) refl
    go Odd h = writes_on e.child h

-- ---- a mouth's turn

-- what was written, through the door as it was before
pub writing_so : {o p : Opening} {n k : ℕ} {a b : Bool} {old new : List Entry} (m m' : MouthValue) (line : List ℕ) → p ≡ o → k ≡ n → b ≡ a → IsWriting p k b old new m m' line → IsWriting o n a old new m m' line
writing_so {o} {p} {n} {k} {a} {b} {old} {new} m m' line eo en ea h =
    subst (λ (x : Opening). IsWriting x n a old new m m' line) eo
    (subst (λ (x : ℕ). IsWriting p x a old new m m' line) en (subst (λ (x : Bool). IsWriting p k x old new m m' line) ea h))

pub ending_so : {o p : Opening} {n k : ℕ} {a b : Bool} {old new : List Entry} {c d : ℕ} {why : Why} → p ≡ o → k ≡ n → b ≡ a → d ≡ c → Ends p k b old new d why → Ends o n a old new c why
ending_so {o} {p} {n} {k} {a} {b} {old} {new} {c} {d} {why} eo en ea ec h =
    subst (λ (x : Opening). Ends x n a old new c why) eo
    (subst (λ (x : ℕ). Ends p x a old new c why) en (subst (λ (x : Bool). Ends p k x old new c why) ea (subst (λ (x : ℕ). Ends p k b old new x why) ec h)))
