-- Reading settings, one after the other.
use Rattle.std.proofs.Common.{◌≡◌, ◌∙◌, ℕ, zero, suc, ◌+◌, ◌<◌, ◌≤◌, List, [], ◌∷◌, ◌++◌, refl, sym, ap, subst, Bool, true, false, not, Option, Some, None, cond, length, map, drop, get_or, add-one, append_assoc, arith, Bor, ◌==◌}
use Rattle.std.specs.Prelude.{◌&&◌, fold, if◌then◌else◌, Result, Ok, Err, IfOk}
use Rattle.std.specs.List.{list_all, list_any, position_or_len, before_first, after_first}
use Rattle.std.specs.Str.{is_utf8, IsUtf8}
use Rattle.std.proofs.lemmas.List.{get_or-map, length-map}
use Rattle.std.proofs.lemmas.Str.{IsUtf8-from_is_utf8, is_utf8-from_IsUtf8}
use Rattle.ann_key.specs.declared.bytes.NoMemory.{NoMemory}
use Rattle.registers.specs.Registers.{RegisterFile, nothing_set}
use Rattle.mirror_children.specs.declared.plan.plan.Plan.{Plan}
use Rattle.mirror_children.specs.Plan.Settings.{are_plan, bad_from, is_bad, is_equals, is_nil, is_pair, plan_at, plan_of, plans_from, set_pair, spells_pair, spells_plan, words}

-- ---- one word

pub has_equals : (word : List ℕ) → position_or_len is_equals word < length word → list_any is_equals word ≡ true
has_equals [] h = absurd (let bad : 0 < 0 = h in omega arith)
has_equals (b ∷ bs) h = go (is_equals b) refl h (has_equals bs)
  where
    go : (s : Bool) → is_equals b ≡ s → cond (not s) (1 + position_or_len is_equals bs) 0 < suc (length bs)
        → (position_or_len is_equals bs < length bs → list_any is_equals bs ≡ true) → list_any is_equals (b ∷ bs) ≡ true
    go true e h rest = rw e refl
    go false e h rest = rw e (rest (let same : 1 + position_or_len is_equals bs < suc (length bs) = h in omega arith))

-- ---- the rest of a list

pub drop_at : {X : Type 0} (xs : List X) (i : ℕ) (d : X) → i < length xs → drop i xs ≡ get_or xs i d ∷ drop (suc i) xs
drop_at [] i d h = absurd (omega arith)
drop_at (x ∷ xs) zero d h = refl
drop_at (x ∷ xs) (suc i) d h = drop_at xs i d (omega (arith, h))

-- ---- config values

abbrev pub texts : List (Bor (List ℕ)) → List (List ℕ)
texts ws = map {A = Bor (List ℕ)} {B = List ℕ} (λ w. w.now) ws

-- the text of the word at this place, and those after it
pub text_at : (ws : List (Bor (List ℕ))) (i : ℕ) (d : Bor (List ℕ)) → i < length ws → drop i (texts ws) ≡ (get_or ws i d).now ∷ drop (i + 1) (texts ws)
text_at ws i d h =
    let inside : i < length (texts ws) = rw (length-map ws (λ (w : Bor (List ℕ)). w.now)) h in
    rw add-one (drop_at (texts ws) i d.now inside ∙ ap (λ (t : List ℕ). t ∷ drop (suc i) (texts ws)) (get_or-map (λ (w : Bor (List ℕ)). w.now) ws i d d.now h))

-- this word spells none
pub pair_fails : (ws : List (Bor (List ℕ))) (i : ℕ) (d : Bor (List ℕ)) → i < length ws → list_all spells_pair (texts ws) ≡ list_all spells_pair (drop i (texts ws))
    → spells_pair (get_or ws i d).now ≡ false → list_all spells_pair (texts ws) ≡ false
pair_fails ws i d h so none =
    so ∙ ap (list_all spells_pair) (text_at ws i d h) ∙ ap (λ (b : Bool). b && list_all spells_pair (drop (i + 1) (texts ws))) none

pub pair_spelled : (ws : List (Bor (List ℕ))) (i : ℕ) (d : Bor (List ℕ)) → i < length ws → list_all spells_pair (texts ws) ≡ list_all spells_pair (drop i (texts ws))
    → spells_pair (get_or ws i d).now ≡ true → list_all spells_pair (texts ws) ≡ list_all spells_pair (drop (i + 1) (texts ws))
pair_spelled ws i d h so spells =
    so ∙ ap (list_all spells_pair) (text_at ws i d h) ∙ ap (λ (b : Bool). b && list_all spells_pair (drop (i + 1) (texts ws))) spells

pub pair_set : (ws : List (Bor (List ℕ))) (i : ℕ) (d : Bor (List ℕ)) (r next : RegisterFile) → i < length ws → fold set_pair nothing_set (texts ws) ≡ fold set_pair r (drop i (texts ws))
    → next ≡ set_pair r (get_or ws i d).now → fold set_pair nothing_set (texts ws) ≡ fold set_pair next (drop (i + 1) (texts ws))
pair_set ws i d r next h so is =
    so ∙ ap (fold set_pair r) (text_at ws i d h) ∙ ap (λ (x : RegisterFile). fold set_pair x (drop (i + 1) (texts ws))) (sym is)

-- ---- one value

pub no_text : (n : ℕ) (value : List ℕ) → (IsUtf8 value → ⊥) → None ≡ (if spells_plan value then Some (plan_at n value) else None)
no_text n value none = go (is_utf8 value) refl
  where
    go : (b : Bool) → is_utf8 value ≡ b → None ≡ (if b && are_plan (words value) then Some (plan_at n value) else None)
    go true e = absurd (none (IsUtf8-from_is_utf8 value e))
    go false e = refl

pub plan_reads : (r : Result (Option Plan) NoMemory) (n : ℕ) (value : List ℕ) (ws : List (List ℕ)) → IsUtf8 value → ws ≡ words value
    → IfOk r (λ p. p ≡ (if are_plan ws then Some (plan_of n ws) else None)) → IfOk r (λ p. p ≡ (if spells_plan value then Some (plan_at n value) else None))
plan_reads (Err e) n value ws text same h = tt
plan_reads (Ok p) n value ws text same h =
    h ∙ ap (λ (x : List (List ℕ)). if are_plan x then Some (plan_of n x) else None) same
    ∙ ap (λ (b : Bool). if b && are_plan (words value) then Some (plan_at n value) else None) (sym (is_utf8-from_IsUtf8 value text))

-- ---- all values

pub nil_by : (value : List ℕ) (b : Bool) → b ≡ (length value == 0) → is_nil value ≡ b
nil_by [] b h = sym h
nil_by (x ∷ xs) b h = sym (h ∙ some)
  where
    some : (suc (length xs) == 0) ≡ false
    some = grind arith

value_at : (values : List (List ℕ)) (i : ℕ) (v : List ℕ) → i < length values → v ≡ get_or values i v → drop i values ≡ v ∷ drop (i + 1) values
value_at values i v h here = rw add-one (drop_at values i v h ∙ ap (λ (x : List ℕ). x ∷ drop (suc i) values) (sym here))

none_spelled : (n : ℕ) (v : List ℕ) → None ≡ (if spells_plan v then Some (plan_at n v) else None) → spells_plan v ≡ false
none_spelled n v h = go (spells_plan v) h
  where
    go : (b : Bool) → None ≡ (if b then Some (plan_at n v) else None) → b ≡ false
    go true k = absurd cc
    go false k = refl

some_spelled : (n : ℕ) (v : List ℕ) (p : Plan) → Some p ≡ (if spells_plan v then Some (plan_at n v) else None) → (spells_plan v ≡ true) × (p ≡ plan_at n v)
some_spelled n v p h = go (spells_plan v) refl h
  where
    go : (b : Bool) → spells_plan v ≡ b → Some p ≡ (if b then Some (plan_at n v) else None) → (spells_plan v ≡ true) × (p ≡ plan_at n v)
    go true e k = (e, cc)
    go false e k = absurd cc

module _ (values : List (List ℕ)) (i : ℕ) (v : List ℕ) (h : i < length values) (here : v ≡ get_or values i v) (good : bad_from 1 values ≡ bad_from (i + 1) (drop i values)) where
  bad_here : bad_from 1 values ≡ (if is_bad v then Some (i + 1) else bad_from (i + 1 + 1) (drop (i + 1) values))
  bad_here = good ∙ ap (bad_from (i + 1)) (value_at values i v h here)

  -- this value is neither empty nor a plan
  pub bad_found : is_nil v ≡ false → None ≡ (if spells_plan v then Some (plan_at (i + 1) v) else None) → bad_from 1 values ≡ Some (i + 1)
  bad_found some none = bad_here ∙ (rw (some, none_spelled (i + 1) v none) refl)

  module _ (made : List Plan) (plans : plans_from 1 values ≡ made ++ plans_from (i + 1) (drop i values)) where
    plans_here : plans_from 1 values ≡ made ++ (if is_nil v then plans_from (i + 1 + 1) (drop (i + 1) values) else plan_at (i + 1) v ∷ plans_from (i + 1 + 1) (drop (i + 1) values))
    plans_here = plans ∙ ap (λ (xs : List (List ℕ)). made ++ plans_from (i + 1) xs) (value_at values i v h here)

    -- this value is empty
    pub empty_next : is_nil v ≡ true → (bad_from 1 values ≡ bad_from (i + 1 + 1) (drop (i + 1) values)) × (plans_from 1 values ≡ made ++ plans_from (i + 1 + 1) (drop (i + 1) values))
    empty_next none = (bad_here ∙ (rw none refl), plans_here ∙ (rw none refl))

    -- this value is a plan
    pub plan_next : is_nil v ≡ false → (p : Plan) → Some p ≡ (if spells_plan v then Some (plan_at (i + 1) v) else None)
        → (bad_from 1 values ≡ bad_from (i + 1 + 1) (drop (i + 1) values)) × (plans_from 1 values ≡ (made ++ p ∷ []) ++ plans_from (i + 1 + 1) (drop (i + 1) values))
    plan_next some p is =
        let t = some_spelled (i + 1) v p is in (
          bad_here ∙ (rw (some, t.0) refl),
          plans_here ∙ (rw some refl) ∙ ap (λ (x : Plan). made ++ x ∷ plans_from (i + 1 + 1) (drop (i + 1) values)) (sym t.1) ∙ sym (append_assoc made (p ∷ []) (plans_from (i + 1 + 1) (drop (i + 1) values))),
        )
