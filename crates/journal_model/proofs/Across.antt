-- What several crates above this one use.
use Rattle.std.proofs.Common.{◌≡◌, ◌+◌, List, ◌++◌, ap, ◌∙◌, length, length-append, ℕ, [], ◌∷◌, refl, Bool, true, false, not, cond, ◌-◌, ◌<◌, get_or, arith, Some, None, sym, subst, Option, append-nil}
use Rattle.std.specs.Prelude.{filter, slice_get, is_some, ◌||◌}
use Rattle.std.proofs.lemmas.List.Elements.{filter-append}
use Rattle.journal_model.specs.declared.entry.Entry.{Entry}
use Rattle.journal_model.specs.Legality.{count, is_start, Legal}
use Rattle.journal_model.specs.Journal.{is_settled, any, settles, verdict_of, asks, asked_jobs, open_jobs}
use Rattle.std.specs.List.{list_all}
use Rattle.journal_model.specs.declared.entry.What.{What}
use Rattle.std.proofs.lemmas.Bool.{and_parts as both}
use Rattle.std.proofs.lemmas.Option.{slice_get-get_or}
use Rattle.journal_model.specs.declared.opening.Opening.{Opening}
use Rattle.journal_model.specs.declared.verdict.Why.{Why}
use Rattle.journal_model.proofs.Looks.{any-append, each_of-append, settled_none}
use Rattle.journal_model.specs.declared.verdict.Verdict.{Verdict}
use Rattle.journal_model.proofs.Testing.{by_either}
use Rattle.ann_key.proofs.Options.{none_some}

pub count-append : (past more : List Entry) → count is_start (past ++ more) ≡ count is_start past + count is_start more
count-append past more =
    ap length (filter-append (λ (e : Entry). is_start e.what) past more) ∙ length-append (filter (λ (e : Entry). is_start e.what) past) (filter (λ (e : Entry). is_start e.what) more)

pub none_left : (old new : List Entry) (c : ℕ) (ks : List ℕ) → ((k : ℕ) → is_settled old c k ≡ true → is_settled new c k ≡ true)
    → filter (λ k. not (is_settled old c k)) ks ≡ [] → filter (λ k. not (is_settled new c k)) ks ≡ []
none_left old new c [] keep h = refl
none_left old new c (k ∷ ks) keep h = go (is_settled old c k) refl h (none_left old new c ks keep)
  where
    go : (b : Bool) → is_settled old c k ≡ b → cond (not b) (k ∷ filter (λ k. not (is_settled old c k)) ks) (filter (λ k. not (is_settled old c k)) ks) ≡ []
        → (filter (λ k. not (is_settled old c k)) ks ≡ [] → filter (λ k. not (is_settled new c k)) ks ≡ [])
        → filter (λ k. not (is_settled new c k)) (k ∷ ks) ≡ []
    go true e h r = rw (keep k e) (r h)
    go false e h r = absurd cc

pub all_in : (p q : What → Bool) → ((w : What) → p w ≡ true → q w ≡ true) → (xs : List Entry) → list_all (λ (e : Entry). p e.what) xs ≡ true → list_all (λ (e : Entry). q e.what) xs ≡ true
all_in p q f [] h = refl
all_in p q f (e ∷ xs) h =
    let t = both (p e.what) (list_all (λ (x : Entry). p x.what) xs) h in
    rw (f e.what t.0, all_in p q f xs t.1) refl

pub none_so : (p r : What → Bool) → ((w : What) → p w ≡ true → r w ≡ false) → (es : List Entry)
    → list_all (λ (e : Entry). p e.what) es ≡ true → any r es ≡ false
none_so p r so [] h = refl
none_so p r so (e ∷ es) h =
    let t = both (p e.what) (list_all (λ (x : Entry). p x.what) es) h in
    rw (so e.what t.0, none_so p r so es t.1) refl

pub no_gap : (xs : List Entry) (i : ℕ) → i < length xs → None ≡ slice_get xs i → ⊥
no_gap [] i within h = omega arith
no_gap (x ∷ xs) i within h = absurd (let bad : None ≡ Some (get_or (x ∷ xs) i x) = h ∙ slice_get-get_or (x ∷ xs) i x within in cc)

pub nothing_legal : (o : Opening) (journal : List Entry) → journal ≡ [] → Legal o journal
nothing_legal o journal e = subst (Legal o) (sym e) (record { stands = tt; nothing_due = refl })

pub no_why : (w : Option Why) → is_some w ≡ false → w ≡ None
no_why None h = refl
no_why (Some x) h = absurd cc

pub settled_on : (old more : List Entry) (c k : ℕ) → is_settled old c k ≡ true → is_settled (old ++ more) c k ≡ true
settled_on old more c k h = any-append (settles c k) old more ∙ ap (λ (b : Bool). b || is_settled more c k) h

pub verdict_settles : (past : List Entry) (c j : ℕ) (v : Verdict) → verdict_of past c j ≡ Some v → is_settled past c j ≡ true
verdict_settles past c j v h = by_either (is_settled past c j) (λ x. x) (λ f. absurd (none_some (sym (settled_none past c j f) ∙ h)))

-- a child without an open job has none after entries that ask it nothing
pub idle_on : (old more : List Entry) (c : ℕ) → asked_jobs more c ≡ [] → open_jobs old c ≡ [] → open_jobs (old ++ more) c ≡ []
idle_on old more c none idle =
    ap (filter (λ (k : ℕ). not (is_settled (old ++ more) c k)))
    (each_of-append (asks c) old more ∙ ap (λ (ks : List ℕ). asked_jobs old c ++ ks) none ∙ append-nil (asked_jobs old c))
    ∙ none_left old (old ++ more) c (asked_jobs old c) (λ k. settled_on old more c k) idle
