-- Tests along entries and children, and what two stretches say together.
use Rattle.std.proofs.Common.{◌≡◌, ℕ, ◌+◌, ◌≤◌, List, [], ◌∷◌, ◌++◌, refl, sym, ap, subst, ◌∙◌, Bool, true, false, not, ◌==◌, cond, Some, None, Option, arith, length, append_assoc, append-nil}
use Rattle.std.specs.Prelude.{◌&&◌, ◌||◌, filter}
use Rattle.std.specs.List.{list_all, list_any, cons_option}
use Rattle.journal_model.specs.declared.entry.What.{What}
use Rattle.journal_model.specs.declared.entry.What.TheVariants.{Start, NoStart}
use Rattle.journal_model.specs.declared.entry.Entry.{Entry}
use Rattle.journal_model.specs.declared.opening.Opening.{Opening}
use Rattle.journal_model.specs.Journal.{any, each_of}
use Rattle.journal_model.specs.Legality.{is_claimed, numbers_of}
use Rattle.journal_model.proofs.Holding.{claimed, claimed_append, closed, unclaimed_on}
use Rattle.host_core.specs.Steps.{are_all_claimed}
use Rattle.child_life.specs.End.Wires.{came, came_in}
use Rattle.crew_work.specs.Laws.Tasks.{claimed_turn, turns_by}
use Rattle.run_starts.specs.Starting.{AllOffer, OffersWell, children, is_any_start, started_in}
use Rattle.run_starts.specs.Stints.{AreUpTo}
use Rattle.ann_key.proofs.Booleans.{left_false as either_left, right_false as either_right}
use Rattle.std.proofs.lemmas.Bool.{and_parts as both}

-- ---- what a stretch doesn't say

pub each_none : {X : Type 0} (f : What → Option X) (p : What → Bool) → ((w : What) → p w ≡ true → f w ≡ None) → (xs : List Entry) → list_all (λ (e : Entry). p e.what) xs ≡ true → each_of f xs ≡ []
each_none f p quiet [] h = refl
each_none f p quiet (e ∷ xs) h =
    let t = both (p e.what) (list_all (λ (x : Entry). p x.what) xs) h in
    rw (quiet e.what t.0, each_none f p quiet xs t.1) refl

pub each_without : {X : Type 0} (f : What → Option X) (p : What → Bool) → ((w : What) → p w ≡ false → f w ≡ None) → (xs : List Entry) → any p xs ≡ false → each_of f xs ≡ []
each_without f p quiet [] h = refl
each_without f p quiet (e ∷ xs) h =
    rw (quiet e.what (either_left (p e.what) (any p xs) h), each_without f p quiet xs (either_right (p e.what) (any p xs) h)) refl

-- ---- offers of ASYNC

pub offers_both : (may : Bool) (past xs ys : List Entry) → AllOffer may past xs → AllOffer may (past ++ xs) ys → AllOffer may past (xs ++ ys)
offers_both may past [] ys h k = subst (λ (p : List Entry). AllOffer may p ys) (append-nil past) k
offers_both may past (e ∷ xs) ys h k = (h.0, offers_both may (past ++ e ∷ []) xs ys h.1 (subst (λ (p : List Entry). AllOffer may p ys) (sym (append_assoc past (e ∷ []) xs)) k))

pub offers_none : (may : Bool) (past xs : List Entry) → any is_any_start xs ≡ false → AllOffer may past xs
offers_none may past [] h = tt
offers_none may past (e ∷ xs) h = (one e.what (either_left (is_any_start e.what) (any is_any_start xs) h), offers_none may (past ++ e ∷ []) xs (either_right (is_any_start e.what) (any is_any_start xs) h))
  where
    one : (w : What) → is_any_start w ≡ false → OffersWell may past w
    one (Start child slot offer) k = absurd cc
    one (NoStart slot) k = tt
    one w k = tt

-- ---- children

unstarted : (w : What) → is_any_start w ≡ false → started_in w ≡ None
unstarted (Start child slot offer) h = absurd cc
unstarted (NoStart slot) h = refl
unstarted w h = refl

pub no_children : (xs : List Entry) → any is_any_start xs ≡ false → children xs ≡ []
no_children xs h = each_without started_in is_any_start unstarted xs h

uncame : (w : What) → is_any_start w ≡ false → came_in w ≡ None
uncame (Start child slot offer) h = absurd cc
uncame (NoStart slot) h = absurd cc
uncame w h = refl

pub none_came : (xs : List Entry) → any is_any_start xs ≡ false → came xs ≡ []
none_came xs h = each_without came_in is_any_start uncame xs h

-- each of the numbers is n at most
abbrev pub UpTo : ℕ → List ℕ → Type 0
UpTo n [] = Unit {0}
UpTo n (d ∷ ds) = (d ≤ n) × UpTo n ds

pub children_up_to : (n : ℕ) (journal : List Entry) → AreUpTo n (came journal) → UpTo n (children journal)
children_up_to n [] h = tt
children_up_to n (e ∷ xs) h = go e.what h (children_up_to n xs)
  where
    go : (w : What) → AreUpTo n (cons_option (came_in w) (came xs)) → (AreUpTo n (came xs) → UpTo n (children xs)) → UpTo n (cons_option (started_in w) (children xs))
    go (Start child slot offer) k r = (k.0, r k.1)
    go (NoStart slot) k r = r k
    go w k r = r k

pub any_same : (n : ℕ) (p q : ℕ → Bool) → ((d : ℕ) → d ≤ n → p d ≡ q d) → (ds : List ℕ) → UpTo n ds → list_any p ds ≡ list_any q ds
any_same n p q f [] h = refl
any_same n p q f (d ∷ ds) h = rw (f d h.0, any_same n p q f ds h.1) refl

pub up_to_more : (n m : ℕ) → n ≤ m → (cs : List (Option ℕ)) → AreUpTo n cs → AreUpTo m cs
up_to_more n m le [] h = tt
up_to_more n m le (None ∷ cs) h = up_to_more n m le cs h
up_to_more n m le (Some c ∷ cs) h = (let k = h.0 in omega (arith, k, le), up_to_more n m le cs h.1)

pub up_to_both : (n : ℕ) (cs ds : List (Option ℕ)) → AreUpTo n cs → AreUpTo n ds → AreUpTo n (cs ++ ds)
up_to_both n [] ds h k = k
up_to_both n (None ∷ cs) ds h k = up_to_both n cs ds h k
up_to_both n (Some c ∷ cs) ds h k = (h.0, up_to_both n cs ds h.1 k)

-- ---- all tasks are claimed

all_same : (p q : ℕ → Bool) → ((t : ℕ) → p t ≡ q t) → (ts : List ℕ) → list_all p ts ≡ list_all q ts
all_same p q f [] = refl
all_same p q f (t ∷ ts) = rw (f t, all_same p q f ts) refl

-- entries that claim nothing and close no run
pub claimed_same : (o : Opening) (past more : List Entry) → each_of claimed more ≡ [] → each_of closed more ≡ [] → are_all_claimed o (past ++ more) ≡ are_all_claimed o past
claimed_same o past more none kept =
    all_same (is_claimed (past ++ more)) (is_claimed past) (λ t. claimed_append past more t ∙ unclaimed_on t (is_claimed past t) more none kept) (numbers_of o)

-- entries of a kind that claims nothing take no turn
pub turns_none : (p : What → Bool) → ((past : List Entry) (w : What) → p w ≡ true → claimed_turn past w ≡ None) → (n : ℕ) (past xs : List Entry) → list_all (λ (e : Entry). p e.what) xs ≡ true → turns_by n past xs ≡ []
turns_none p none n past [] h = refl
turns_none p none n past (e ∷ xs) h =
    let t = both (p e.what) (list_all (λ (x : Entry). p x.what) xs) h in
    ap (λ (o : Option (ℕ × ℕ)). cons_option o (turns_by n (past ++ e ∷ []) xs)) (go (e.by == n) (none past e.what t.0)) ∙ turns_none p none n (past ++ e ∷ []) xs t.1
  where
    go : (b : Bool) → claimed_turn past e.what ≡ None → cond b (claimed_turn past e.what) None ≡ None
    go true h = h
    go false h = refl

-- where a task is left, not all are claimed
pub some_left : (p : ℕ → Bool) (ts : List ℕ) → (length (filter (λ (t : ℕ). not (p t)) ts) ≡ 0 → ⊥) → list_all p ts ≡ false
some_left p [] h = absurd (h refl)
some_left p (t ∷ ts) h = go (p t) h (some_left p ts)
  where
    go : (b : Bool) → (length (cond (not b) (t ∷ filter (λ (u : ℕ). not (p u)) ts) (filter (λ (u : ℕ). not (p u)) ts)) ≡ 0 → ⊥)
        → ((length (filter (λ (u : ℕ). not (p u)) ts) ≡ 0 → ⊥) → list_all p ts ≡ false) → (b && list_all p ts) ≡ false
    go true k r = r k
    go false k r = refl

pub none_left : (p : ℕ → Bool) (ts : List ℕ) → length (filter (λ (t : ℕ). not (p t)) ts) ≡ 0 → list_all p ts ≡ true
none_left p [] h = refl
none_left p (t ∷ ts) h = go (p t) h (none_left p ts)
  where
    go : (b : Bool) → length (cond (not b) (t ∷ filter (λ (u : ℕ). not (p u)) ts) (filter (λ (u : ℕ). not (p u)) ts)) ≡ 0
        → (length (filter (λ (u : ℕ). not (p u)) ts) ≡ 0 → list_all p ts ≡ true) → (b && list_all p ts) ≡ true
    go true k r = r k
    go false k r = absurd (let bad : ⊥ = omega (arith, k) in bad)

-- ---- numbers

pub neither_nor : (a b : Bool) → not (a || b) ≡ (not a && not b)
neither_nor true b = refl
neither_nor false b = refl
