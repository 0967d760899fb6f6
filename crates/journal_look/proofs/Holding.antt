-- Which tasks are held, after one more entry.
use Rattle.std.proofs.Common.{◌≡◌, ◌≢◌, ◌∙◌, ℕ, ◌+◌, ◌<◌, ◌≤◌, subst, List, [], ◌∷◌, ◌++◌, refl, sym, ap, Bool, true, false, not, cond, Option, Some, None, arith}
use Rattle.std.specs.Prelude.{◌==◌, ◌||◌, find, fold, nat_le, option_map}
use Rattle.std.specs.Option.{option_or}
use Rattle.std.proofs.lemmas.List.Folds.{find-append}
use Rattle.std.proofs.lemmas.Bool.Decides.{nat_tests}
use Rattle.journal_model.specs.declared.holder.Holder.{Holder}
use Rattle.journal_model.specs.declared.entry.What.{What}
use Rattle.journal_model.specs.declared.entry.What.TheVariants.{Claim, Start, NoStart, Lead, Ask, Put, Sent, Mute, Got, End, Verdict as Settled, Lost, Answer as Answered, Note as Noted, Again}
use Rattle.journal_model.specs.declared.entry.Entry.{Entry}
use Rattle.journal_model.proofs.Holding.{claimed_append}
use Rattle.journal_model.specs.Legality.{claimed_after, holder, turned, turned_by}
use Rattle.journal_look.specs.declared.held.Held.{Held}
use Rattle.journal_look.specs.Holds.{AreHeld, AreUnclaimed, held_by, held_of, let_go, top_after}
use Rattle.std.proofs.lemmas.Bool.{ne_eqb as differ, eqb-true as same_number}

fold_more : {A B : Type 0} (f : B → A → B) (a : B) (xs : List A) (x : A) → fold f a (xs ++ x ∷ []) ≡ f (fold f a xs) x
fold_more f a [] x = refl
fold_more f a (y ∷ xs) x = fold_more f (f a y) xs x

holder_more : (past : List Entry) (e : Entry) (t : ℕ) → holder (past ++ e ∷ []) t ≡ turned t (holder past t) e
holder_more past e t = fold_more (turned t) None past e

-- where the task is let go, nobody holds it
gone : (t : ℕ) (held : List Held) → find (λ (h : Held). h.task == t) (let_go t held) ≡ None
gone t [] = refl
gone t (h ∷ held) = go (h.task == t) refl (gone t held)
  where
    go : (b : Bool) → (h.task == t) ≡ b → find (λ (x : Held). x.task == t) (let_go t held) ≡ None
        → find (λ (x : Held). x.task == t) (cond (not b) (h ∷ let_go t held) (let_go t held)) ≡ None
    go true e r = r
    go false e r = rw e r

-- and who holds another stays
stays : (t u : ℕ) → (t == u) ≡ false → (held : List Held) → find (λ (h : Held). h.task == u) (let_go t held) ≡ find (λ (h : Held). h.task == u) held
stays t u apart [] = refl
stays t u apart (h ∷ held) = go (h.task == t) refl (stays t u apart held)
  where
    go : (b : Bool) → (h.task == t) ≡ b → find (λ (x : Held). x.task == u) (let_go t held) ≡ find (λ (x : Held). x.task == u) held
        → find (λ (x : Held). x.task == u) (cond (not b) (h ∷ let_go t held) (let_go t held)) ≡ cond (h.task == u) (Some h) (find (λ (x : Held). x.task == u) held)
    go true e r =
        let other : (h.task == u) ≡ false = subst (λ (k : ℕ). (k == u) ≡ false) (sym (same_number h.task t e)) apart in
        rw other r
    go false e r = ap (λ (o : Option Held). cond (h.task == u) (Some h) o) r

turns : (w : What) (by t : ℕ) (held : List Held) → turned_by t (held_of held t) by w ≡ held_of (held_by by w held) t
turns (Claim task child) by t held = go (task == t) refl
  where
    new : Held
    new = record { task = task; by = record { by = by; child = child } }

    go : (b : Bool) → (task == t) ≡ b → cond b (Some (record { by = by; child = child })) (held_of held t) ≡ held_of (let_go task held ++ new ∷ []) t
    go true e = sym (
        ap (option_map (λ (h : Held). h.by)) (
        find-append (λ (h : Held). h.task == t) (let_go task held) (new ∷ [])
        ∙ ap (λ (o : Option Held). option_or o (cond (task == t) (Some new) None)) (subst (λ (k : ℕ). find (λ (h : Held). h.task == k) (let_go task held) ≡ None) (same_number task t e) (gone task held)))
        ∙ ap (λ (b : Bool). option_map (λ (h : Held). h.by) (cond b (Some new) None)) e
        )
    go false e = sym (
        ap (option_map (λ (h : Held). h.by)) (
        find-append (λ (h : Held). h.task == t) (let_go task held) (new ∷ [])
        ∙ ap (λ (o : Option Held). option_or o (cond (task == t) (Some new) None)) (stays task t e held)
        ∙ ap (λ (b : Bool). option_or (find (λ (h : Held). h.task == t) held) (cond b (Some new) None)) e
        ∙ nothing (find (λ (h : Held). h.task == t) held))
        )
      where
        nothing : (o : Option Held) → option_or o None ≡ o
        nothing None = refl
        nothing (Some h) = refl
turns (Answered task answer) by t held = go (task == t) refl
  where
    go : (b : Bool) → (task == t) ≡ b → cond b None (held_of held t) ≡ held_of (let_go task held) t
    go true e = sym (ap (option_map (λ (h : Held). h.by)) (subst (λ (k : ℕ). find (λ (h : Held). h.task == k) (let_go task held) ≡ None) (same_number task t e) (gone task held)))
    go false e = sym (ap (option_map (λ (h : Held). h.by)) (stays task t e held))
turns (Again task answer) by t held = go (task == t) refl
  where
    go : (b : Bool) → (task == t) ≡ b → cond b None (held_of held t) ≡ held_of (let_go task held) t
    go true e = sym (ap (option_map (λ (h : Held). h.by)) (subst (λ (k : ℕ). find (λ (h : Held). h.task == k) (let_go task held) ≡ None) (same_number task t e) (gone task held)))
    go false e = sym (ap (option_map (λ (h : Held). h.by)) (stays task t e held))
turns w by t held = refl

held_more : (past : List Entry) (e : Entry) (held : List Held) → AreHeld past held → AreHeld (past ++ e ∷ []) (held_by e.by e.what held)
held_more past e held are = record {
  each = λ t. holder_more past e t ∙ ap (λ (o : Option Holder). turned t o e) (are.each t) ∙ turns e.what e.by t held;
}

pub after_held : (past : List Entry) (e : Entry) (held more : List Held) → AreHeld past held → more ≡ held_by e.by e.what held → AreHeld (past ++ e ∷ []) more
after_held past e held more are is = subst (AreHeld (past ++ e ∷ [])) (sym is) (held_more past e held are)

-- ---- tasks that are not claimed

pub unclaimed_more : (past : List Entry) (e : Entry) (top : ℕ) → AreUnclaimed past top → AreUnclaimed (past ++ e ∷ []) (top_after e.what top)
unclaimed_more past e top are = record {
  each = λ t high.
      claimed_append past (e ∷ []) t ∙ (let here = are.each t (lower e.what t high) in rw here (last e.what t high));
}
  where
    tops : (task : ℕ) → (b : Bool) → nat_le top task ≡ b → top ≤ cond b (task + 1) top
    tops task true h = grind (arith, nat_tests)
    tops task false h = omega arith

    lower : (w : What) (t : ℕ) → top_after w top ≤ t → top ≤ t
    lower (Claim task child) t high = let h = tops task (nat_le top task) refl in omega arith
    lower (Start child slot offer) t high = high
    lower (NoStart slot) t high = high
    lower (Lead child job line) t high = high
    lower (Ask child job task line) t high = high
    lower (Put child job line) t high = high
    lower (Sent child) t high = high
    lower (Mute child) t high = high
    lower (Got child line) t high = high
    lower (End child why) t high = high
    lower (Settled child job verdict) t high = high
    lower (Lost child task) t high = high
    lower (Answered task answer) t high = high
    lower (Noted task chunk count) t high = high
    lower (Again task answer) t high = high

    above : (task : ℕ) → (b : Bool) → nat_le top task ≡ b → task < cond b (task + 1) top
    above task true h = omega arith
    above task false h = grind (arith, nat_tests)

    last : (w : What) (t : ℕ) → top_after w top ≤ t → claimed_after t false w ≡ false
    last (Claim task child) t high =
        let h = above task (nat_le top task) refl in
        let other : task ≢ t = λ (same : task ≡ t). (let no : ⊥ = omega arith in no) in
        let no = differ task t other in
        rw no refl
    last w t high = refl

-- ---- the start

pub none_held : AreHeld [] []
none_held = record { each = λ t. refl }

pub none_taken : (top : ℕ) → AreUnclaimed [] top
none_taken top = record { each = λ t high. refl }
