-- What spends a start of slot 0 goes on spending it.
use Rattle.std.proofs.Common.{◌≡◌, ℕ, List, [], ◌∷◌, ◌++◌, refl, sym, ap, subst, ◌∙◌, append_assoc, append-nil, Bool, true, false, not, ◌==◌}
use Rattle.std.specs.Prelude.{◌||◌, is_some, nat_le}
use Rattle.std.specs.List.{list_all, list_any}
use Rattle.journal_model.specs.declared.entry.What.{What}
use Rattle.journal_model.specs.declared.entry.What.TheVariants.{Start}
use Rattle.journal_model.specs.declared.entry.Entry.{Entry}
use Rattle.journal_model.specs.Journal.{any, is_mute, why_of}
use Rattle.journal_model.specs.Legality.{is_prepared}
use Rattle.journal_model.proofs.Looks.{each_of-append}
use Rattle.task_model.specs.TaskRuns.{refusal_of}
use Rattle.run_starts.specs.Starting.{children, is_spent, is_unclosed, started_in, up_to}
use Rattle.run_starts.specs.Stints.{main_entry}
use Rattle.run_starts.proofs.Apart.{spent_on}
use Rattle.run_starts.proofs.Spending.{up_to_more, up_to_none}
use Rattle.run_children.specs.PoolChildren.Slots.{are_spent, in_pool, is_first_start, is_lost, is_pool_spent, spends}
use Rattle.run_children.proofs.PoolMiddle.{lost_on}
use Rattle.std.proofs.lemmas.Bool.{and_parts as both}
use Rattle.ann_key.proofs.Booleans.{or_left, or_right}

-- ---- a child

either_on : (a b x y : Bool) → (a ≡ true → x ≡ true) → (b ≡ true → y ≡ true) → (a || b) ≡ true → (x || y) ≡ true
either_on true b x y f g h = or_left x y (f refl)
either_on false true x y f g h = or_right x y (g refl)
either_on false false x y f g h = absurd cc

-- a child that is lost is spent
pub lost_spent : (past : List Entry) (d : ℕ) → is_lost past d ≡ true → is_spent past d ≡ true
lost_spent past d h = or_right (is_some (refusal_of past d)) (is_mute past d || is_unclosed (why_of past d)) (both (is_prepared past d) (is_mute past d || is_unclosed (why_of past d)) h).1

-- ---- its pool

any_on : (p q : ℕ → Bool) → ((d : ℕ) → p d ≡ true → q d ≡ true) → (ds es : List ℕ) → list_any p ds ≡ true → list_any q (ds ++ es) ≡ true
any_on p q f [] es h = absurd (let bad : false ≡ true = h in cc)
any_on p q f (d ∷ ds) es h = either_on (p d) (list_any p ds) (q d) (list_any q (ds ++ es)) (f d) (any_on p q f ds es) h

pool_spent_on : (past more : List Entry) (c : ℕ) (ds es : List ℕ) → is_pool_spent past c ds ≡ true → is_pool_spent (past ++ more) c (ds ++ es) ≡ true
pool_spent_on past more c ds es h =
    either_on (is_spent past c) (list_any (is_lost past) ds) (is_spent (past ++ more) c) (list_any (is_lost (past ++ more)) (ds ++ es)) (spent_on past more c)
    (any_on (is_lost past) (is_lost (past ++ more)) (lost_on past more) ds es) h

-- ---- all starts

abbrev front : List Entry → List Entry
front rest = up_to is_first_start rest

spends_on : (here rest ys : List Entry) (w : What) → spends here w rest ≡ true → spends here w (rest ++ ys) ≡ true
spends_on here rest ys (Start child slot offer) h = either_on (not (slot == 0)) (is_pool_spent (here ++ front rest) child (children (front rest))) (not (slot == 0)) (is_pool_spent (here ++ front (rest ++ ys)) child (children (front (rest ++ ys)))) (λ x. x)
    (λ x. same ∙ pool_spent_on (here ++ front rest) m.0 child (children (front rest)) (children m.0) x) h
  where
    m : (more : List Entry) × (front (rest ++ ys) ≡ front rest ++ more)
    m = up_to_more is_first_start rest ys

    same : is_pool_spent (here ++ front (rest ++ ys)) child (children (front (rest ++ ys))) ≡ is_pool_spent ((here ++ front rest) ++ m.0) child (children (front rest) ++ children m.0)
    same =
        ap (λ (l : List Entry). is_pool_spent (here ++ l) child (children l)) m.1
        ∙ ap (λ (j : List Entry). is_pool_spent j child (children (front rest ++ m.0))) (sym (append_assoc here (front rest) m.0))
        ∙ ap (is_pool_spent ((here ++ front rest) ++ m.0) child) (each_of-append started_in (front rest) m.0)
spends_on here rest ys w h = refl

pub all_spent_both : (past xs ys : List Entry) → are_spent past xs ≡ true → are_spent (past ++ xs) ys ≡ true → are_spent past (xs ++ ys) ≡ true
all_spent_both past [] ys h k = subst (λ (p : List Entry). are_spent p ys ≡ true) (append-nil past) k
all_spent_both past (e ∷ xs) ys h k =
    let t = both (spends (past ++ e ∷ []) e.what xs) (are_spent (past ++ e ∷ []) xs) h in
    rw (
      spends_on (past ++ e ∷ []) xs ys e.what t.0,
      all_spent_both (past ++ e ∷ []) xs ys t.1 (subst (λ (p : List Entry). are_spent p ys ≡ true) (sym (append_assoc past (e ∷ []) xs)) k),
    ) refl

-- starts in other slots
pub pool_spent : (past : List Entry) (n : ℕ) (xs : List Entry) → list_all (λ (e : Entry). in_pool n e.what) xs ≡ true → are_spent past xs ≡ true
pool_spent past n [] h = refl
pool_spent past n (e ∷ xs) h =
    let t = both (in_pool n e.what) (list_all (λ (x : Entry). in_pool n x.what) xs) h in
    rw (go e.what t.0, pool_spent (past ++ e ∷ []) n xs t.1) refl
  where
    go : (w : What) → in_pool n w ≡ true → spends (past ++ e ∷ []) w xs ≡ true
    go (Start child slot offer) k = or_left (not (slot == 0)) (is_pool_spent ((past ++ e ∷ []) ++ front xs) child (children (front xs))) (both (nat_le n child) (not (slot == 0)) k).1
    go w k = refl

-- a start after which none is of slot 0
last_spends : (old new later : List Entry) (child slot : ℕ) (offer : Bool) → new ≡ old ++ main_entry (Start child slot offer) ∷ later → any is_first_start later ≡ false → is_pool_spent new child (children later) ≡ true
    → spends (old ++ main_entry (Start child slot offer) ∷ []) (Start child slot offer) later ≡ true
last_spends old new later child slot offer is none h =
    or_right (not (slot == 0)) (is_pool_spent ((old ++ main_entry (Start child slot offer) ∷ []) ++ front later) child (children (front later)))
    (ap (λ (l : List Entry). is_pool_spent ((old ++ main_entry (Start child slot offer) ∷ []) ++ l) child (children l)) (up_to_none is_first_start later none)
    ∙ ap (λ (j : List Entry). is_pool_spent j child (children later)) (append_assoc old (main_entry (Start child slot offer) ∷ []) later ∙ sym is) ∙ h)

-- which a ready child of its pool spends that is lost
pub lost_spends : (old new later : List Entry) (c : ℕ) (offer : Bool) → new ≡ old ++ main_entry (Start c 0 offer) ∷ later → any is_first_start later ≡ false → list_any (is_lost new) (c ∷ children later) ≡ true
    → spends (old ++ main_entry (Start c 0 offer) ∷ []) (Start c 0 offer) later ≡ true
lost_spends old new later c offer is none h = last_spends old new later c 0 offer is none
    (either_on (is_lost new c) (list_any (is_lost new) (children later)) (is_spent new c) (list_any (is_lost new) (children later)) (lost_spent new c) (λ k. k) h)

-- or its own child
pub own_spends : (old new later : List Entry) (first : What) → new ≡ old ++ main_entry first ∷ later → any is_first_start later ≡ false → list_all (is_spent new) (children (main_entry first ∷ [])) ≡ true
    → spends (old ++ main_entry first ∷ []) first later ≡ true
own_spends old new later (Start child slot offer) is none h = last_spends old new later child slot offer is none (or_left (is_spent new child) (list_any (is_lost new) (children later)) (both (is_spent new child) true h).0)
own_spends old new later w is none h = refl
