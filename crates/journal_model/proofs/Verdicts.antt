-- A verdict that no line said has its cause in the journal: the child's end, or its mute. A job that was not asked has none.
use Rattle.std.proofs.Common.{◌≡◌, ℕ, List, [], ◌∷◌, ◌++◌, refl, sym, ap, subst, ◌∙◌, Bool, true, false, ◌==◌, cond, Some, None, Option, ◌⊎◌, inl, inr, length}
use Rattle.std.specs.Prelude.{◌&&◌, ◌||◌, map, filter}
use Rattle.std.specs.List.{list_any, cons_option}
use Rattle.std.specs.Option.{option_or}
use Rattle.journal_model.specs.declared.verdict.Why.{Why}
use Rattle.journal_model.specs.declared.verdict.Verdict.{Verdict}
use Rattle.journal_model.specs.declared.verdict.Verdict.TheVariants.{Ended, Unsent}
use Rattle.annex_model.specs.declared.final_line.Final.{Final}
use Rattle.annex_model.specs.declared.final_line.Final.TheVariants.{Done}
use Rattle.annex_model.specs.Talks.{Item}
use Rattle.journal_model.specs.declared.entry.What.{What}
use Rattle.journal_model.specs.declared.entry.What.TheVariants.{Claim, Start, NoStart, Lead, Ask, Put, Sent, Mute, Got, End, Verdict as Settled, Lost, Answer as Answered, Note as Noted, Again}
use Rattle.journal_model.specs.declared.entry.Entry.{Entry}
use Rattle.journal_model.specs.declared.opening.Opening.{Opening}
use Rattle.journal_model.specs.Journal.{first_of, on_wire, verdict_of, ends, mutes, is_ended, is_mute, is_live, is_unsent, open_jobs}
use Rattle.journal_model.specs.Parts.{part}
use Rattle.journal_model.specs.Due.{verdict_at, ending, due_by_got, due_after, made_by, replying, replies_at}
use Rattle.journal_model.specs.Legality.{Legal, may_come}
use Rattle.journal_model.specs.Projection.{Fits}
use Rattle.journal_model.proofs.Growing.{Legal-induction}
use Rattle.journal_model.proofs.Looks.{entry, is_asked, any-append, verdict_of-append, settled_all, verdicts_one, verdicts_none}
use Rattle.journal_model.proofs.Soft.{got_cases}
use Rattle.journal_model.proofs.Projecting.{parts_fit, asked_parts}
use Rattle.ann_key.proofs.Booleans.{or_true}

-- what stands in the journal where the verdict does
abbrev pub is_caused : Verdict → List Entry → ℕ → Bool
is_caused (Ended why) past c = is_ended past c
is_caused Unsent past c = is_mute past c
is_caused v past c = true

-- each verdict of the stretch has its cause there
abbrev AreCaused : List Entry → Type 0
AreCaused more = (c k : ℕ) (v : Verdict) → verdict_of more c k ≡ Some v → is_caused v more c ≡ true

caused_before : (v : Verdict) (past more : List Entry) (c : ℕ) → is_caused v past c ≡ true → is_caused v (past ++ more) c ≡ true
caused_before (Ended why) past more c h = any-append (ends c) past more ∙ ap (λ (b : Bool). b || is_ended more c) h
caused_before Unsent past more c h = any-append (mutes c) past more ∙ ap (λ (b : Bool). b || is_mute more c) h
caused_before v past more c h = refl

caused_behind : (v : Verdict) (past more : List Entry) (c : ℕ) → is_caused v more c ≡ true → is_caused v (past ++ more) c ≡ true
caused_behind (Ended why) past more c h = any-append (ends c) past more ∙ ap (λ (b : Bool). is_ended past c || b) h ∙ or_true (is_ended past c)
caused_behind Unsent past more c h = any-append (mutes c) past more ∙ ap (λ (b : Bool). is_mute past c || b) h ∙ or_true (is_mute past c)
caused_behind v past more c h = refl

-- ---- the groups

none_some : {A : Type 0} (v : Verdict) (o : Option Verdict) → o ≡ None → o ≡ Some v → A
none_some v o n s = absurd (let bad : None ≡ Some v = sym n ∙ s in cc)

some_same : (u v : Verdict) (o : Option Verdict) → o ≡ Some u → o ≡ Some v → u ≡ v
some_same u v o a b = let e : Some u ≡ Some v = sym a ∙ b in cc

caused_nothing : AreCaused []
caused_nothing c k v h = absurd cc

-- a line before it changes nothing
caused_line : (by child : ℕ) (line : List ℕ) (more : List Entry) → AreCaused more → AreCaused (entry by (Got child line) ∷ more)
caused_line by child line more h c k v is = go v (h c k v is)
  where
    go : (v : Verdict) → is_caused v more c ≡ true → is_caused v (entry by (Got child line) ∷ more) c ≡ true
    go (Ended why) h = h
    go Unsent h = h
    go v h = refl

-- the verdicts of one child's jobs are all the same
caused_all : (by child : ℕ) (v : Verdict) (ks : List ℕ) (before : List Entry) → ((c : ℕ) → (child == c) ≡ true → is_caused v before c ≡ true)
    → (c k : ℕ) (u : Verdict) → verdict_of (settled_all by child v ks) c k ≡ Some u → is_caused u before c ≡ true
caused_all by child v ks before cause c k u is = go (child == c) refl
  where
    one : (verdict_of (settled_all by child v ks) c k ≡ None) ⊎ (verdict_of (settled_all by child v ks) c k ≡ Some v) → (child == c) ≡ true → is_caused u before c ≡ true
    one (inl n) h = none_some u (verdict_of (settled_all by child v ks) c k) n is
    one (inr s) h = subst (λ (x : Verdict). is_caused x before c ≡ true) (some_same v u (verdict_of (settled_all by child v ks) c k) s is) (cause c h)

    go : (b : Bool) → (child == c) ≡ b → is_caused u before c ≡ true
    go true h = one (verdicts_one c k by child v ks) h
    go false h = none_some u (verdict_of (settled_all by child v ks) c k) (verdicts_none c k by child v ks (ap (λ (b : Bool). b && list_any (λ x. x == k) ks) h)) is

caused_end : (by child : ℕ) (why : Why) (ks : List ℕ) → AreCaused (entry by (End child why) ∷ settled_all by child (Ended why) ks)
caused_end by child why ks c k u is =
    caused_all by child (Ended why) ks (entry by (End child why) ∷ settled_all by child (Ended why) ks)
    (λ c h. ap (λ (b : Bool). b || is_ended (settled_all by child (Ended why) ks) c) h) c k u is

caused_mute : (by child : ℕ) (ks : List ℕ) → AreCaused (entry by (Mute child) ∷ settled_all by child Unsent ks)
caused_mute by child ks c k u is =
    caused_all by child Unsent ks (entry by (Mute child) ∷ settled_all by child Unsent ks)
    (λ c h. ap (λ (b : Bool). b || is_mute (settled_all by child Unsent ks) c) h) c k u is

-- a line's verdict needs no other cause
caused_final : (by child j at : ℕ) (f : Final) → AreCaused (entry by (Settled child j (verdict_at f at)) ∷ [])
caused_final by child j at f c k v is = go (child == c && j == k) is
  where
    said : (f : Final) (v : Verdict) → verdict_at f at ≡ v → is_caused v (entry by (Settled child j (verdict_at f at)) ∷ []) c ≡ true
    said f v e = subst (λ (x : Verdict). is_caused x (entry by (Settled child j (verdict_at f at)) ∷ []) c ≡ true) e (final f)
      where
        final : (g : Final) → is_caused (verdict_at g at) (entry by (Settled child j (verdict_at f at)) ∷ []) c ≡ true
        final Done = refl
        final g = refl

    go : (b : Bool) → first_of (cons_option (cond b (Some (verdict_at f at)) None) []) ≡ Some v → is_caused v (entry by (Settled child j (verdict_at f at)) ∷ []) c ≡ true
    go true e = said f v (same e)
      where
        same : Some (verdict_at f at) ≡ Some v → verdict_at f at ≡ v
        same e = cc
    go false e = absurd cc

caused_ending : (past : List Entry) (by c : ℕ) (why : Why) → AreCaused (made_by by (ending past c why))
caused_ending past by c why = caused_end by c why (open_jobs past c)

caused_replies : (past : List Entry) (by c j : ℕ) (lines : List (List ℕ)) → AreCaused (made_by by (replying past c j lines))
caused_replies past by c j [] d k v h = caused_nothing d k v h
caused_replies past by c j (l ∷ ls) d k v h = go v (caused_replies past by c j ls d k v h)
  where
    rest : List Entry
    rest = made_by by (replying past c j ls)

    go : (v : Verdict) → is_caused v rest d ≡ true → is_caused v (entry by (Put c j (on_wire past c j l)) ∷ rest) d ≡ true
    go (Ended why) h = h
    go Unsent h = h
    go v h = refl

caused_got : (o : Opening) (past : List Entry) (by c : ℕ) (line : List ℕ) → AreCaused (made_by by (due_by_got o past c line))
caused_got o past by c line =
    got_cases (λ ws. AreCaused (made_by by ws)) o past c line caused_nothing (λ why soft. caused_ending past by c why)
    (λ j f opened. caused_final by c j (length past) f) (λ j ls opened for owed. caused_replies past by c j ls)

caused_group : (o : Opening) (past : List Entry) (by : ℕ) (w : What) → may_come o past by w ≡ true → AreCaused (entry by w ∷ due_after o past (entry by w))
caused_group o past by (Got child line) may = caused_line by child line (made_by by (due_by_got o past child line)) (caused_got o past by child line)
caused_group o past by (End child why) may = caused_end by child why (open_jobs past child)
caused_group o past by (Mute child) may = go (is_live past child)
  where
    go : (b : Bool) → AreCaused (entry by (Mute child) ∷ made_by by (cond b (map (λ (j : ℕ). Settled child j Unsent) (filter (is_unsent past child) (open_jobs past child))) []))
    go true = caused_mute by child (filter (is_unsent past child) (open_jobs past child))
    go false = caused_mute by child []
caused_group o past by (Settled child job verdict) may = absurd cc
caused_group o past by (Claim task child) may = λ c k v h. absurd cc
caused_group o past by (Start child slot offer) may = λ c k v h. absurd cc
caused_group o past by (NoStart slot) may = λ c k v h. absurd cc
caused_group o past by (Lead child job line) may = λ c k v h. absurd cc
caused_group o past by (Ask child job task line) may = λ c k v h. absurd cc
caused_group o past by (Put child job line) may = λ c k v h. absurd cc
caused_group o past by (Sent child) may = λ c k v h. absurd cc
caused_group o past by (Lost child task) may = λ c k v h. absurd cc
caused_group o past by (Answered task answer) may = λ c k v h. absurd cc
caused_group o past by (Again task answer) may = λ c k v h. absurd cc
caused_group o past by (Noted task chunk count) may = λ c k v h. absurd cc

-- ---- the journal

-- each verdict of a legal journal has its cause
pub verdict_caused : (o : Opening) (journal : List Entry) → Legal o journal → (c k : ℕ) (v : Verdict) → verdict_of journal c k ≡ Some v → is_caused v journal c ≡ true
verdict_caused o journal l = Legal-induction o AreCaused caused_nothing (λ past e legal before may. step past e.by e.what before may) journal l
  where
    step : (past : List Entry) (by : ℕ) (w : What) → AreCaused past → may_come o past by w ≡ true → AreCaused (past ++ entry by w ∷ due_after o past (entry by w))
    step past by w before may c k v is = go (verdict_of past c k) refl (sym (verdict_of-append c k past more) ∙ is)
      where
        more : List Entry
        more = entry by w ∷ due_after o past (entry by w)

        go : (u : Option Verdict) → verdict_of past c k ≡ u → option_or (verdict_of past c k) (verdict_of more c k) ≡ Some v → is_caused v (past ++ more) c ≡ true
        go (Some x) e h =
            let there : Some x ≡ Some v = ap (λ (u : Option Verdict). option_or u (verdict_of more c k)) (sym e) ∙ h in
            caused_before v past more c (before c k v (e ∙ there))
        go None e h =
            let there : verdict_of more c k ≡ Some v = ap (λ (u : Option Verdict). option_or u (verdict_of more c k)) (sym e) ∙ h in
            caused_behind v past more c (caused_group o past by w may c k v there)

-- a job was settled with its child's end
pub ended_verdict : (o : Opening) (journal : List Entry) → Legal o journal → (c k : ℕ) (why : Why) → verdict_of journal c k ≡ Some (Ended why) → is_ended journal c ≡ true
ended_verdict o journal l c k why is = verdict_caused o journal l c k (Ended why) is

-- a job was settled as not sent
pub unsent_verdict : (o : Opening) (journal : List Entry) → Legal o journal → (c k : ℕ) → verdict_of journal c k ≡ Some Unsent → is_mute journal c ≡ true
unsent_verdict o journal l c k is = verdict_caused o journal l c k Unsent is

-- a job that was not asked has no verdict
pub unasked_none : (o : Opening) (journal : List Entry) → Legal o journal → (c k : ℕ) → is_asked journal c k ≡ false → verdict_of journal c k ≡ None
unasked_none o journal l c k off =
    let none : part journal c k ≡ [] = (asked_parts o journal l c k).1 off in
    subst (λ (p : List Item). Fits (replies_at o journal) p (verdict_of journal c k)) none (parts_fit o journal l c k)
