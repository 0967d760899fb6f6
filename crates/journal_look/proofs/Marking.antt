-- What the marks of a journal save.
use Rattle.std.proofs.Common.{◌≡◌, ◌≢◌, ◌∙◌, cond, ℕ, zero, suc, ◌+◌, ◌-◌, ◌<◌, ◌≤◌, List, [], ◌∷◌, ◌++◌, refl, sym, ap, subst, Bool, true, false, not, None, length, arith, inl, inr}
use Rattle.std.specs.Prelude.{◌&&◌, ◌||◌, ◌⊎◌, nat_lt, filter, find}
use Rattle.std.specs.List.{list_all, range_with_len}
use Rattle.journal_model.specs.declared.entry.Entry.{Entry}
use Rattle.journal_model.specs.declared.opening.Opening.{Opening}
use Rattle.journal_model.specs.Legality.{claims, claimed_after, is_claimed, is_free}
use Rattle.journal_model.specs.declared.entry.What.{What}
use Rattle.journal_model.specs.declared.entry.What.TheVariants.{Claim, Again}
use Rattle.journal_model.proofs.Holding.{claimed_append}
use Rattle.std.proofs.lemmas.Bool.Decides.{nat_tests}
use Rattle.journal_look.specs.Marks.{AreClaimed, lowered}
use Rattle.std.proofs.lemmas.Bool.{ne_eqb as differ}

-- ---- tasks

pub none_claimed : (entries : List Entry) → AreClaimed entries 1
none_claimed entries = record { each = λ u some below. absurd (omega arith) }

pub claimed_same : (es fs : List Entry) (t : ℕ) → fs ≡ es → AreClaimed es t → AreClaimed fs t
claimed_same es fs t e h = subst (λ (l : List Entry). AreClaimed l t) (sym e) h

-- a claim leaves each claimed task so
claimed_by_claim : (t u : ℕ) (b : Bool) (w : What) → claims t w ≡ true → b ≡ true → claimed_after u b w ≡ true
claimed_by_claim t u b (Claim task child) c h = rw h refl
claimed_by_claim t u b w c h = absurd cc

claimed_more : (entries : List Entry) (e : Entry) (t v : ℕ) → claims v e.what ≡ true → AreClaimed entries t → AreClaimed (entries ++ e ∷ []) t
claimed_more entries e t v is claimed = record {
  each = λ u some below. claimed_append entries (e ∷ []) u ∙ claimed_by_claim v u (is_claimed entries u) e.what is (claimed.each u some below);
}

-- and an Again all but its own
lowered_leaves : (t u : ℕ) (b : Bool) (w : What) → 0 < u → u < lowered w t → b ≡ true → claimed_after u b w ≡ true
lowered_leaves t u b (Claim task child) some below h = rw h refl
lowered_leaves t u b (Again task answer) some below h =
    let other : task ≢ u = λ (same : task ≡ u). apart same (nat_lt 0 task && nat_lt task t) refl in
    let no = differ task u other in
    rw (h, no) refl
  where
    apart : task ≡ u → (c : Bool) → (nat_lt 0 task && nat_lt task t) ≡ c → ⊥
    apart same true e = (let here : u < task = (rw e at below) in omega (arith, here, same))
    apart same false e = (let here : u < t = (rw e at below) in grind (arith, nat_tests, here, same, some))
lowered_leaves t u b w some below h = h

below_lowered : (t u : ℕ) (w : What) → u < lowered w t → u < t
below_lowered t u (Again task answer) h = go (nat_lt 0 task && nat_lt task t) refl h
  where
    go : (c : Bool) → (nat_lt 0 task && nat_lt task t) ≡ c → u < cond c task t → u < t
    go true e h = grind (arith, nat_tests)
    go false e h = h
below_lowered t u w h = h

pub claimed_lowered : (past : List Entry) (e : Entry) (t : ℕ) → AreClaimed past t → AreClaimed (past ++ e ∷ []) (lowered e.what t)
claimed_lowered past e t are = record {
  each = λ u some below.
      claimed_append past (e ∷ []) u
      ∙ lowered_leaves t u (is_claimed past u) e.what some below (are.each u some (below_lowered t u e.what below));
}

pub one_more_claimed : (entries : List Entry) (t : ℕ) → AreClaimed entries t → is_claimed entries t ≡ true → AreClaimed entries (t + 1)
one_more_claimed entries t claimed here = record { each = λ u some below. go u some below (last u t below) }
  where
    last : (u t : ℕ) → u < t + 1 → (u < t) ⊎ (u ≡ t)
    last u t below = grind arith

    go : (u : ℕ) → 0 < u → u < t + 1 → (u < t) ⊎ (u ≡ t) → is_claimed entries u ≡ true
    go u some below (inl less) = claimed.each u some less
    go u some below (inr same) = subst (λ (k : ℕ). is_claimed entries k ≡ true) (sym same) here

pub claimed_next : (past : List Entry) (e : Entry) (t : ℕ) → claims t e.what ≡ true → AreClaimed past t → AreClaimed (past ++ e ∷ []) (t + 1)
claimed_next past e t here are =
    one_more_claimed (past ++ e ∷ []) t (claimed_more past e t t here are) (claimed_append past (e ∷ []) t ∙ now e.what here)
  where
    now : (w : What) → claims t w ≡ true → claimed_after t (is_claimed past t) w ≡ true
    now (Claim task child) h = rw h (last (is_claimed past t))
      where
        last : (a : Bool) → (a || true) ≡ true
        last true = refl
        last false = refl
    now w h = absurd cc

pub claimed_not_free : (o : Opening) (entries : List Entry) (u : ℕ) → is_claimed entries u ≡ true → is_free o entries u ≡ false
claimed_not_free o entries u h = rw h refl

-- what is false of the first numbers is found after them
find_behind : (p : ℕ → Bool) (k a m : ℕ) → ((u : ℕ) → a ≤ u → u < a + k → p u ≡ false) → find p (range_with_len a (k + m)) ≡ find p (range_with_len (a + k) m)
find_behind p zero a m none = let here : a + 0 ≡ a = omega arith in let less : 0 + m ≡ m = omega arith in rw (here, less) refl
find_behind p (suc k) a m none =
    let first : p a ≡ false = none a (omega arith) (omega arith) in
    let more : suc k + m ≡ suc (k + m) = omega arith in
    let start : (a + 1) + k ≡ a + suc k = omega arith in
    rw more (rw first (find_behind p k (a + 1) m (λ u low high. none u (omega arith) (omega arith)) ∙ ap (λ (b : ℕ). find p (range_with_len b m)) start))

all_behind : (p : ℕ → Bool) (k a m : ℕ) → ((u : ℕ) → a ≤ u → u < a + k → p u ≡ true) → list_all p (range_with_len a (k + m)) ≡ list_all p (range_with_len (a + k) m)
all_behind p zero a m all = let here : a + 0 ≡ a = omega arith in let less : 0 + m ≡ m = omega arith in rw (here, less) refl
all_behind p (suc k) a m all =
    let first : p a ≡ true = all a (omega arith) (omega arith) in
    let more : suc k + m ≡ suc (k + m) = omega arith in
    let start : (a + 1) + k ≡ a + suc k = omega arith in
    rw more (rw first (all_behind p k (a + 1) m (λ u low high. all u (omega arith) (omega arith)) ∙ ap (λ (b : ℕ). list_all p (range_with_len b m)) start))

none_in : (p : ℕ → Bool) (k a : ℕ) → ((u : ℕ) → a ≤ u → u < a + k → p u ≡ false) → find p (range_with_len a k) ≡ None
none_in p zero a none = refl
none_in p (suc k) a none =
    let first : p a ≡ false = none a (omega arith) (omega arith) in
    rw first (none_in p k (a + 1) (λ u low high. none u (omega arith) (omega arith)))

all_in : (p : ℕ → Bool) (k a : ℕ) → ((u : ℕ) → a ≤ u → u < a + k → p u ≡ true) → list_all p (range_with_len a k) ≡ true
all_in p zero a all = refl
all_in p (suc k) a all =
    let first : p a ≡ true = all a (omega arith) (omega arith) in
    rw first (all_in p k (a + 1) (λ u low high. all u (omega arith) (omega arith)))

either_way : (from n : ℕ) → (from ≤ n + 1) ⊎ (n + 1 < from)
either_way from n = grind arith

-- the first number of the n that passes, where none below from does
pub found_from : (p : ℕ → Bool) (n from : ℕ) → 0 < from → ((u : ℕ) → 0 < u → u < from → p u ≡ false) → find p (range_with_len from (n + 1 - from)) ≡ find p (range_with_len 1 n)
found_from p n from some none = go (either_way from n)
  where
    go : (from ≤ n + 1) ⊎ (n + 1 < from) → find p (range_with_len from (n + 1 - from)) ≡ find p (range_with_len 1 n)
    go (inl low) =
        let all : (from - 1) + (n + 1 - from) ≡ n = omega arith in
        let start : 1 + (from - 1) ≡ from = omega arith in
        ap (λ (b : ℕ). find p (range_with_len b (n + 1 - from))) (sym start)
        ∙ sym (find_behind p (from - 1) 1 (n + 1 - from) (λ u low high. none u (omega arith) (omega arith)))
        ∙ ap (λ (k : ℕ). find p (range_with_len 1 k)) all
    go (inr high) =
        let over : n + 1 - from ≡ 0 = omega arith in
        ap (λ (k : ℕ). find p (range_with_len from k)) over ∙ sym (none_in p n 1 (λ u low less. none u (omega arith) (omega arith)))

pub all_from : (p : ℕ → Bool) (n from : ℕ) → 0 < from → ((u : ℕ) → 0 < u → u < from → p u ≡ true) → list_all p (range_with_len from (n + 1 - from)) ≡ list_all p (range_with_len 1 n)
all_from p n from some all = go (either_way from n)
  where
    go : (from ≤ n + 1) ⊎ (n + 1 < from) → list_all p (range_with_len from (n + 1 - from)) ≡ list_all p (range_with_len 1 n)
    go (inl low) =
        let whole : (from - 1) + (n + 1 - from) ≡ n = omega arith in
        let start : 1 + (from - 1) ≡ from = omega arith in
        ap (λ (b : ℕ). list_all p (range_with_len b (n + 1 - from))) (sym start)
        ∙ sym (all_behind p (from - 1) 1 (n + 1 - from) (λ u low high. all u (omega arith) (omega arith)))
        ∙ ap (λ (k : ℕ). list_all p (range_with_len 1 k)) whole
    go (inr high) =
        let over : n + 1 - from ≡ 0 = omega arith in
        ap (λ (k : ℕ). list_all p (range_with_len from k)) over ∙ sym (all_in p n 1 (λ u low less. all u (omega arith) (omega arith)))

filter_behind : (p : ℕ → Bool) (k a m : ℕ) → ((u : ℕ) → a ≤ u → u < a + k → p u ≡ false) → filter p (range_with_len a (k + m)) ≡ filter p (range_with_len (a + k) m)
filter_behind p zero a m none = let here : a + 0 ≡ a = omega arith in let less : 0 + m ≡ m = omega arith in rw (here, less) refl
filter_behind p (suc k) a m none =
    let first : p a ≡ false = none a (omega arith) (omega arith) in
    let more : suc k + m ≡ suc (k + m) = omega arith in
    let start : (a + 1) + k ≡ a + suc k = omega arith in
    rw more (rw first (filter_behind p k (a + 1) m (λ u low high. none u (omega arith) (omega arith)) ∙ ap (λ (b : ℕ). filter p (range_with_len b m)) start))

none_of : (p : ℕ → Bool) (k a : ℕ) → ((u : ℕ) → a ≤ u → u < a + k → p u ≡ false) → filter p (range_with_len a k) ≡ []
none_of p zero a none = refl
none_of p (suc k) a none =
    let first : p a ≡ false = none a (omega arith) (omega arith) in
    rw first (none_of p k (a + 1) (λ u low high. none u (omega arith) (omega arith)))

-- how many of the n numbers pass, where none below from does
pub counted_from : (p : ℕ → Bool) (n from : ℕ) → 0 < from → ((u : ℕ) → 0 < u → u < from → p u ≡ false) → length (filter p (range_with_len from (n + 1 - from))) ≡ length (filter p (range_with_len 1 n))
counted_from p n from some none = ap length (go (either_way from n))
  where
    go : (from ≤ n + 1) ⊎ (n + 1 < from) → filter p (range_with_len from (n + 1 - from)) ≡ filter p (range_with_len 1 n)
    go (inl low) =
        let all : (from - 1) + (n + 1 - from) ≡ n = omega arith in
        let start : 1 + (from - 1) ≡ from = omega arith in
        ap (λ (b : ℕ). filter p (range_with_len b (n + 1 - from))) (sym start)
        ∙ sym (filter_behind p (from - 1) 1 (n + 1 - from) (λ u low high. none u (omega arith) (omega arith)))
        ∙ ap (λ (k : ℕ). filter p (range_with_len 1 k)) all
    go (inr high) =
        let over : n + 1 - from ≡ 0 = omega arith in
        ap (λ (k : ℕ). filter p (range_with_len from k)) over ∙ sym (none_of p n 1 (λ u low less. none u (omega arith) (omega arith)))

pub not_unclaimed : (entries : List Entry) (u : ℕ) → is_claimed entries u ≡ true → not (is_claimed entries u) ≡ false
not_unclaimed entries u h = ap not h

pub either_order : (a b : Bool) → (a && b) ≡ (b && a)
either_order true true = refl
either_order true false = refl
either_order false true = refl
either_order false false = refl
