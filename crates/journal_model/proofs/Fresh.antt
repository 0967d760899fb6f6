-- A legal journal says nothing of a child that wasn't started.
use Rattle.std.proofs.Common.{◌≡◌, ℕ, List, [], ◌∷◌, refl, sym, ap, subst, ◌∙◌, Bool, true, false, not, cond, None, Option, length, drop}
use Rattle.std.specs.Prelude.{◌==◌, ◌&&◌, map, filter}
use Rattle.std.proofs.Math.Seq.{drop-nil}
use Rattle.std.specs.List.{list_all}
use Rattle.journal_model.specs.declared.verdict.Why.{Why}
use Rattle.journal_model.specs.declared.verdict.Verdict.{Verdict}
use Rattle.journal_model.specs.declared.verdict.Verdict.TheVariants.{Ended, Unsent}
use Rattle.annex_model.specs.Lines.{has_newline}
use Rattle.annex_model.specs.Messages.{host_reading}
use Rattle.journal_model.specs.declared.entry.What.{What}
use Rattle.journal_model.specs.declared.entry.What.TheVariants.{Claim, Start, NoStart, Lead, Ask, Put, Sent, Mute, Got, End, Verdict as Settled, Lost, Answer as Answered, Note as Noted, Again}
use Rattle.journal_model.specs.declared.entry.Entry.{Entry}
use Rattle.journal_model.specs.declared.opening.Opening.{Opening}
use Rattle.journal_model.specs.Journal.{each_of, writes, sends, starts, why_of, is_started, is_live, is_ended, is_mute, open_jobs, is_unsent, addressed, unsent, asked_jobs, is_full}
use Rattle.journal_model.specs.Due.{ending, replying, due_by, due_by_got, due_after, made_by}
use Rattle.journal_model.specs.Legality.{Legal, may_come, may_ask, may_lead, may_stop, asks_in_turn, says_name, is_empty}
use Rattle.journal_model.proofs.Growing.{Legal-induction}
use Rattle.journal_model.proofs.Looks.{any-append}
use Rattle.journal_model.proofs.Soft.{is_soft, got_cases, soft_stretch, soft_got, soft_mute, soft_verdicts}
use Rattle.journal_model.proofs.Linking.{Adds, nothing_both}
use Rattle.ann_key.proofs.Booleans.{first_of_five, left_false as either_left}
use Rattle.std.proofs.lemmas.Bool.{and_parts as both, eqb-true as same_number}
use Rattle.ann_key.proofs.Numbers.{same_number as same}

-- an end and a reply in the stretch are of that child
abbrev pub is_of : ℕ → What → Bool
is_of d (End child why) = child == d
is_of d (Put child job line) = child == d
is_of d _ = true

of_verdicts : (d c : ℕ) (v : Verdict) (jobs : List ℕ) → list_all (is_of d) (map (λ j. Settled c j v) jobs) ≡ true
of_verdicts d c v [] = refl
of_verdicts d c v (j ∷ jobs) = of_verdicts d c v jobs

of_ending : (past : List Entry) (c : ℕ) (why : Why) → list_all (is_of c) (ending past c why) ≡ true
of_ending past c why = rw (same c, of_verdicts c c (Ended why) (open_jobs past c)) refl

of_replies : (past : List Entry) (c j : ℕ) (lines : List (List ℕ)) → list_all (is_of c) (replying past c j lines) ≡ true
of_replies past c j [] = refl
of_replies past c j (l ∷ ls) = rw (same c, of_replies past c j ls) refl

of_got : (o : Opening) (past : List Entry) (c : ℕ) (line : List ℕ) → list_all (is_of c) (due_by_got o past c line) ≡ true
of_got o past c line = got_cases (λ ws. list_all (is_of c) ws ≡ true) o past c line refl (λ why soft. of_ending past c why) (λ j f opened. refl) (λ j ls opened for owed. of_replies past c j ls)

of_mute : (o : Opening) (past : List Entry) (c : ℕ) → list_all (is_of c) (due_by o past (Mute c)) ≡ true
of_mute o past c = go (is_live past c)
  where
    go : (b : Bool) → list_all (is_of c) (cond b (map (λ j. Settled c j Unsent) (filter (is_unsent past c) (open_jobs past c))) []) ≡ true
    go true = of_verdicts c c Unsent (filter (is_unsent past c) (open_jobs past c))
    go false = refl

-- no end of another child
apart_why : (c d by : ℕ) (ws : List What) → (d == c) ≡ false → list_all (is_of d) ws ≡ true → why_of (made_by by ws) c ≡ None
apart_why c d by [] n h = refl
apart_why c d by (End child why ∷ ws) n h =
    let t : ((child == d) ≡ true) × (list_all (is_of d) ws ≡ true) = both (child == d) (list_all (is_of d) ws) h in
    let e : (child == c) ≡ false = subst (λ (x : ℕ). (x == c) ≡ false) (sym (same_number child d t.0)) n in
    rw e (apart_why c d by ws n t.1)
apart_why c d by (Claim task child ∷ ws) n h = apart_why c d by ws n h
apart_why c d by (Start child slot offer ∷ ws) n h = apart_why c d by ws n h
apart_why c d by (NoStart slot ∷ ws) n h = apart_why c d by ws n h
apart_why c d by (Lead child job line ∷ ws) n h = apart_why c d by ws n h
apart_why c d by (Ask child job task line ∷ ws) n h = apart_why c d by ws n h
apart_why c d by (Put child job line ∷ ws) n h = apart_why c d by ws n (both (child == d) (list_all (is_of d) ws) h).1
apart_why c d by (Sent child ∷ ws) n h = apart_why c d by ws n h
apart_why c d by (Mute child ∷ ws) n h = apart_why c d by ws n h
apart_why c d by (Got child line ∷ ws) n h = apart_why c d by ws n h
apart_why c d by (Settled child job verdict ∷ ws) n h = apart_why c d by ws n h
apart_why c d by (Lost child task ∷ ws) n h = apart_why c d by ws n h
apart_why c d by (Answered task answer ∷ ws) n h = apart_why c d by ws n h
apart_why c d by (Again task answer ∷ ws) n h = apart_why c d by ws n h
apart_why c d by (Noted task chunk count ∷ ws) n h = apart_why c d by ws n h

-- and no line to it
apart_writes : (c d by : ℕ) (ws : List What) → (d == c) ≡ false → list_all (is_of d) ws ≡ true → list_all is_soft ws ≡ true → each_of (writes c) (made_by by ws) ≡ []
apart_writes c d by [] n h s = refl
apart_writes c d by (Put child job line ∷ ws) n h s =
    let t : ((child == d) ≡ true) × (list_all (is_of d) ws ≡ true) = both (child == d) (list_all (is_of d) ws) h in
    let e : (child == c) ≡ false = subst (λ (x : ℕ). (x == c) ≡ false) (sym (same_number child d t.0)) n in
    rw e (apart_writes c d by ws n t.1 s)
apart_writes c d by (Settled child job verdict ∷ ws) n h s = apart_writes c d by ws n h s
apart_writes c d by (End child why ∷ ws) n h s =
    apart_writes c d by ws n (both (child == d) (list_all (is_of d) ws) h).1 (both (is_soft (End child why)) (list_all is_soft ws) s).1
apart_writes c d by (w ∷ ws) n h s = absurd cc

abbrev pub Nothing : ℕ → List Entry → Type 0
Nothing c more = Adds c more [] [] 0 false None

soft_nothing : (c d by : ℕ) (ws : List What) → (d == c) ≡ false → list_all (is_of d) ws ≡ true → list_all is_soft ws ≡ true → Nothing c (made_by by ws)
soft_nothing c d by ws n h soft =
    let s = soft_stretch c by ws soft in
    record { got = s.got; written = apart_writes c d by ws n h soft; covers = ap (λ (l : List Entry). length l) s.sent; mutes = s.muted; ends = apart_why c d by ws n h }

-- the entry writes to the child, covers a line of it, hears it or ends it
abbrev pub concerns : ℕ → What → Bool
concerns c (Lead child job line) = child == c
concerns c (Ask child job task line) = child == c
concerns c (Put child job line) = child == c
concerns c (Sent child) = child == c
concerns c (Mute child) = child == c
concerns c (Got child line) = child == c
concerns c (End child why) = child == c
concerns c _ = false

-- what an entry of another child, or of none, adds with what it makes due
pub other_child : (o : Opening) (past : List Entry) (c by : ℕ) (w : What) → concerns c w ≡ false
    → Nothing c (record { by = by; what = w } ∷ due_after o past record { by = by; what = w })
other_child o past c by (Claim task child) n = record { got = refl; written = refl; covers = refl; mutes = refl; ends = refl }
other_child o past c by (Start child slot offer) n = record { got = refl; written = refl; covers = refl; mutes = refl; ends = refl }
other_child o past c by (NoStart slot) n = record { got = refl; written = refl; covers = refl; mutes = refl; ends = refl }
other_child o past c by (Lead child job line) n = record { got = refl; written = rw n refl; covers = refl; mutes = refl; ends = refl }
other_child o past c by (Ask child job task line) n = record { got = refl; written = rw n refl; covers = refl; mutes = refl; ends = refl }
other_child o past c by (Put child job line) n = record { got = refl; written = rw n refl; covers = refl; mutes = refl; ends = refl }
other_child o past c by (Sent child) n = record { got = refl; written = refl; covers = rw n refl; mutes = refl; ends = refl }
other_child o past c by (Mute child) n =
    let r = soft_nothing c child by (due_by o past (Mute child)) n (of_mute o past child) (soft_mute o past child) in
    record { got = r.got; written = r.written; covers = r.covers; mutes = rw n r.mutes; ends = r.ends }
other_child o past c by (Got child line) n =
    let r = soft_nothing c child by (due_by_got o past child line) n (of_got o past child line) (soft_got o past child line) in
    record { got = rw n r.got; written = r.written; covers = r.covers; mutes = r.mutes; ends = r.ends }
other_child o past c by (End child why) n =
    let ws = due_by o past (End child why) in
    let r = soft_nothing c child by ws n (of_verdicts child child (Ended why) (open_jobs past child)) (soft_verdicts child (Ended why) (open_jobs past child)) in
    record { got = r.got; written = r.written; covers = r.covers; mutes = r.mutes; ends = rw n r.ends }
other_child o past c by (Settled child job verdict) n = record { got = refl; written = refl; covers = refl; mutes = refl; ends = refl }
other_child o past c by (Lost child task) n = record { got = refl; written = refl; covers = refl; mutes = refl; ends = refl }
other_child o past c by (Answered task answer) n = record { got = refl; written = refl; covers = refl; mutes = refl; ends = refl }
other_child o past c by (Again task answer) n = record { got = refl; written = refl; covers = refl; mutes = refl; ends = refl }
other_child o past c by (Noted task chunk count) n = record { got = refl; written = refl; covers = refl; mutes = refl; ends = refl }

-- ---- a child that wasn't started

-- an entry of a child comes only where the child was started
unstarted : (o : Opening) (past : List Entry) (c by : ℕ) (w : What) → may_come o past by w ≡ true → is_started past c ≡ false
    → Nothing c past → concerns c w ≡ false
unstarted o past c by w may off n = go (concerns c w) refl
  where
    clash : {A : Type 0} → is_started past c ≡ true → A
    clash e = let bad : false ≡ true = sym off ∙ e in absurd cc

    here : (child : ℕ) → (child == c) ≡ true → is_started past child ≡ true → is_started past c ≡ true
    here child e s = subst (λ (x : ℕ). is_started past x ≡ true) (same_number child c e) s

    live : (child : ℕ) → is_live past child ≡ true → is_started past child ≡ true
    live child l = (both (is_started past child) (not (is_ended past child)) l).0

    by_kind : (w : What) → may_come o past by w ≡ true → concerns c w ≡ true → concerns c w ≡ false
    by_kind (Ask child job task line) may e =
        clash (here child e (live child (first_of_five (is_live past child) (not (is_mute past child)) (job == length (asked_jobs past child))
        (asks_in_turn past child job line (host_reading (addressed past child line).1)) (may_ask past by task child) may)))
    by_kind (Lead child job line) may e =
        clash (here child e (live child (first_of_five (is_live past child) (not (is_mute past child)) (job == length (asked_jobs past child))
        (says_name past child job line (host_reading (addressed past child line).1)) (may_lead past by child) may)))
    by_kind (Put child job line) may e = absurd cc
    by_kind (Sent child) may e =
        let none : unsent past c ≡ [] = ap (drop (length (filter (λ (x : Entry). sends c x.what) past))) n.written ∙ drop-nil (length (filter (λ (x : Entry). sends c x.what) past)) in
        let there : not (is_empty (unsent past c)) ≡ true = subst (λ (x : ℕ). not (is_empty (unsent past x)) ≡ true) (same_number child c e) may in
        let bad : false ≡ true = subst (λ (x : List (Option ℕ × List ℕ)). not (is_empty x) ≡ true) none there in
        absurd cc
    by_kind (Mute child) may e = clash (here child e (both (is_started past child) (not (is_mute past child)) may).0)
    by_kind (Got child line) may e = clash (here child e (live child (both (is_live past child) (not (has_newline line)) (both (is_live past child && not (has_newline line)) (not (is_full past)) may).0).0))
    by_kind (End child why) may e = clash (here child e (live child (both (is_live past child) (may_stop past child why) may).0))
    by_kind (Claim task child) may e = absurd cc
    by_kind (Start child slot offer) may e = absurd cc
    by_kind (NoStart slot) may e = absurd cc
    by_kind (Settled child job verdict) may e = absurd cc
    by_kind (Lost child task) may e = absurd cc
    by_kind (Answered task answer) may e = absurd cc
    by_kind (Again task answer) may e = absurd cc
    by_kind (Noted task chunk count) may e = absurd cc

    go : (b : Bool) → concerns c w ≡ b → concerns c w ≡ false
    go false e = e
    go true e = by_kind w may e

-- a legal journal says nothing of a child that wasn't started
pub fresh : (o : Opening) (journal : List Entry) → Legal o journal → (c : ℕ) → is_started journal c ≡ false → Nothing c journal
fresh o journal l =
    Legal-induction o (λ past. (c : ℕ) → is_started past c ≡ false → Nothing c past)
    (λ c off. record { got = refl; written = refl; covers = refl; mutes = refl; ends = refl })
    (λ past e legal before may c off.
    (let more = e ∷ due_after o past e in
    let unstarted_before : is_started past c ≡ false = either_left (is_started past c) (is_started more c) (sym (any-append (starts c) past more) ∙ off) in
    let nothing = before c unstarted_before in
    nothing_both c past more nothing (other_child o past c e.by e.what (unstarted o past c e.by e.what may unstarted_before nothing))))
    journal l

-- what a mute makes due ends no child
pub mute_ends_none : (o : Opening) (past : List Entry) (child c by : ℕ) → is_ended (made_by by (due_by o past (Mute child))) c ≡ false
mute_ends_none o past child c by = go (is_live past child)
  where
    settled : (jobs : List ℕ) → is_ended (made_by by (map (λ j. Settled child j Unsent) jobs)) c ≡ false
    settled [] = refl
    settled (j ∷ jobs) = settled jobs

    go : (b : Bool) → is_ended (made_by by (cond b (map (λ j. Settled child j Unsent) (filter (is_unsent past child) (open_jobs past child))) [])) c ≡ false
    go true = settled (filter (is_unsent past child) (open_jobs past child))
    go false = refl
