-- The first task that nothing is in the way of is the least free one.
use Rattle.std.proofs.Common.{◌≡◌, ◌∙◌, cond, ℕ, zero, suc, ◌+◌, ◌<◌, ◌≤◌, ◌⊎◌, Vec, List, [], ◌∷◌, refl, sym, ap, subst, Bool, true, false, not, Some, None, length, arith, inl, inr}
use Rattle.std.specs.Prelude.{◌==◌, ◌&&◌, ◌||◌, count_by, find, vec_capacity}
use Rattle.std.specs.declared.alloc.Global.{Global}
use Rattle.std.specs.List.{list_any, range_with_len}
use Rattle.std.proofs.lemmas.Bool.{and_from, and_left, and_parts, and_right, cases_eq, cases_lt, eq-eqb, eqb-true, false_from_ne_true, not_from_false, not_from_true, or_cases, or_left, or_right}
use Rattle.journal_model.specs.declared.entry.Entry.{Entry}
use Rattle.journal_model.specs.declared.opening.Opening.{Opening}
use Rattle.journal_model.specs.Legality.{both_conflict, is_busy, is_claimed, is_free, least_free, numbers_of, task_of}
use Rattle.journal_model.proofs.Named.{any_there}
use Rattle.task_queue.specs.Blocks.{IsNextMark}
use Rattle.task_queue.specs.declared.alike.By.{By}
use Rattle.task_queue.specs.declared.alike.By.TheVariants.{Key, File}
use Rattle.task_queue.specs.Groups.{AreGroups, is_set, number_at}
use Rattle.task_queue.specs.Held.{IsHeld}
use Rattle.task_queue.specs.Queues.{IsOf, IsOrdered, IsPlaced, IsQueued, is_among}
use Rattle.task_queue.specs.Ways.{AreBare}
use Rattle.task_queue.specs.declared.queue.Queue.{Queue}
use Rattle.task_queue.proofs.Grouping.{same_conflict}
use Rattle.task_queue.proofs.Places.{beyond}
use Rattle.ann_key.proofs.Lists.{any_within}

-- ---- some element that passes

pub any_found : (p : ℕ → Bool) (xs : List ℕ) → list_any p xs ≡ true → (u : ℕ) × (is_among xs u ≡ true) × (p u ≡ true)
any_found p [] h = absurd cc
any_found p (x ∷ xs) h = go (or_cases (p x) (list_any p xs) h) (any_found p xs)
  where
    go : (p x ≡ true) ⊎ (list_any p xs ≡ true) → (list_any p xs ≡ true → (u : ℕ) × (is_among xs u ≡ true) × (p u ≡ true)) → (u : ℕ) × (is_among (x ∷ xs) u ≡ true) × (p u ≡ true)
    go (inl k) r = (x, or_left (x == x) (is_among xs x) (eq-eqb x x refl), k)
    go (inr k) r = let w = r k in (w.0, or_right (x == w.0) (is_among xs w.0) w.1, w.2)

pub found_some : (p : ℕ → Bool) (xs : List ℕ) (u : ℕ) → find p xs ≡ Some u → (is_among xs u ≡ true) × (p u ≡ true)
found_some p [] u h = absurd cc
found_some p (x ∷ xs) u h = go (p x) refl h (found_some p xs u)
  where
    go : (b : Bool) → p x ≡ b → cond b (Some x) (find p xs) ≡ Some u → (find p xs ≡ Some u → (is_among xs u ≡ true) × (p u ≡ true)) → (is_among (x ∷ xs) u ≡ true) × (p u ≡ true)
    go true e h r =
        let same : x ≡ u = cc in
        (or_left (x == u) (is_among xs u) (eq-eqb x u same), ap p (sym same) ∙ e)
    go false e h r = let w = r h in (or_right (x == u) (is_among xs u) w.0, w.1)

pub found_none : (p : ℕ → Bool) (xs : List ℕ) → find p xs ≡ None → list_any p xs ≡ false
found_none p [] h = refl
found_none p (x ∷ xs) h = go (p x) refl h (found_none p xs)
  where
    go : (b : Bool) → p x ≡ b → cond b (Some x) (find p xs) ≡ None → (find p xs ≡ None → list_any p xs ≡ false) → (p x || list_any p xs) ≡ false
    go true e h r = absurd cc
    go false e h r = rw e (r h)

-- ---- the least number that passes

pub least_some : (p : ℕ → Bool) (a n u : ℕ) → a ≤ u → u < a + n → ((t : ℕ) → a ≤ t → t < u → p t ≡ false) → p u ≡ true → find p (range_with_len a n) ≡ Some u
least_some p a zero u low high none here = absurd (omega (arith, low, high))
least_some p a (suc n) u low high none here =
    go (cases_eq u a) (λ (more : a + 1 ≤ u). least_some p (a + 1) n u more (omega (arith, high)) (λ t from. none t (omega (arith, from))) here)
  where
    go : (u ≡ a) ⊎ (u ≡ a → ⊥) → (a + 1 ≤ u → find p (range_with_len (a + 1) n) ≡ Some u) → cond (p a) (Some a) (find p (range_with_len (a + 1) n)) ≡ Some u
    go (inl e) r = (let passes : p a ≡ true = ap p (sym e) ∙ here in rw passes (ap Some (sym e)))
    go (inr apart) r = (let fails : p a ≡ false = none a (omega arith) (omega (arith, beyond a u low apart)) in rw fails (r (beyond a u low apart)))

pub least_none : (p : ℕ → Bool) (a n : ℕ) → ((t : ℕ) → a ≤ t → t < a + n → p t ≡ false) → find p (range_with_len a n) ≡ None
least_none p a zero none = refl
least_none p a (suc n) none =
    let fails : p a ≡ false = none a (omega arith) (omega arith) in
    let rest = least_none p (a + 1) n (λ t from below. none t (omega (arith, from)) (omega (arith, below))) in
    rw fails rest

-- ---- a task that isn't ready, where none before it is

blocked : (o : Opening) (past : List Entry) (b t : ℕ) → 0 < b → b < length o.tasks + 1 → is_busy past b ≡ true → both_conflict (task_of o b) (task_of o t) ≡ true → is_free o past t ≡ false
blocked o past b t some within busy conflict =
    let here : list_any (λ u. is_busy past u && both_conflict (task_of o u) (task_of o t)) (numbers_of o) ≡ true =
    any_within (λ (u : ℕ). is_busy past u && both_conflict (task_of o u) (task_of o t)) 1 (length o.tasks) b (omega (arith, some)) (omega (arith, within))
    (and_from (is_busy past b) (both_conflict (task_of o b) (task_of o t)) busy conflict) in
    and_right (not (is_claimed past t)) (not (list_any (λ u. is_busy past u && both_conflict (task_of o u) (task_of o t)) (numbers_of o))) (not_from_true _ here)

pub unfree : (o : Opening) (past : List Entry) (q : Queue) (t : ℕ) → IsQueued o past q → 0 < t → t < length q.claimed.items → AreBare q.ready.flags.items (t + 1) → is_free o past t ≡ false
unfree o past q t are some below bare = go (is_set q.claimed.items t) refl
  where
    by_busy : (b : ℕ) → is_among q.busy.items b ≡ true → both_conflict (task_of o b) (task_of o t) ≡ true → is_free o past t ≡ false
    by_busy b among conflict =
        let task = are.ordered.busy.each b among in
        blocked o past b t task.0 (omega (arith, task.1, are.fits.long)) (sym (are.said.busy b) ∙ among) conflict

    held : (by : By) (groups : List ℕ) → AreGroups by o groups → IsHeld groups q.busy.items q.ready.flags.items t → is_free o past t ≡ false
    held by groups alike (inl g) =
        let w = any_found (λ (b : ℕ). number_at groups b == number_at groups t) q.busy.items g in
        let task = are.ordered.busy.each w.0 w.1 in
        by_busy w.0 w.1 (same_conflict by o groups w.0 t alike task.0 (omega (arith, task.1, are.fits.long, alike.long)) (eqb-true (number_at groups w.0) (number_at groups t) w.2))
    held by groups alike (inr h) = absurd (let bad : false ≡ true = sym (bare.each h.number (omega (arith, h.before))) ∙ h.marked in cc)

    placed : IsPlaced q.keys.of.items q.files.of.items q.busy.items q.waits.items q.ready.flags.items t → is_free o past t ≡ false
    placed (inl r) = absurd (let bad : false ≡ true = sym (bare.each t (omega arith)) ∙ r in cc)
    placed (inr (inl w)) = by_busy (number_at q.waits.items t) w (are.fits.waits t (are.ordered.busy.each (number_at q.waits.items t) w).0)
    placed (inr (inr (inl h))) = held Key q.keys.of.items are.fits.keys h
    placed (inr (inr (inr h))) = held File q.files.of.items are.fits.files h

    go : (c : Bool) → is_set q.claimed.items t ≡ c → is_free o past t ≡ false
    go true e =
        and_left (not (is_claimed past t)) (not (list_any (λ u. is_busy past u && both_conflict (task_of o u) (task_of o t)) (numbers_of o)))
        (not_from_true (is_claimed past t) (sym (are.said.claimed t some below) ∙ e))
    go false e = placed (are.ordered.placed.each t some below e)

-- ---- a ready task that no busy one is in the way of

pub unhindered : (o : Opening) (past : List Entry) (q : Queue) (t : ℕ) → IsQueued o past q → 0 < t → t < length q.claimed.items → is_set q.ready.flags.items t ≡ true
    → find (λ b. both_conflict (task_of o b) (task_of o t)) q.busy.items ≡ None → is_free o past t ≡ true
unhindered o past q t are some below ready none =
    let unclaimed : is_claimed past t ≡ false = sym (are.said.claimed t some below) ∙ are.ordered.unclaimed.each t ready in
    and_from (not (is_claimed past t)) (not (list_any (λ u. is_busy past u && both_conflict (task_of o u) (task_of o t)) (numbers_of o)))
    (not_from_false (is_claimed past t) unclaimed)
    (not_from_false _ (false_from_ne_true (list_any (λ u. is_busy past u && both_conflict (task_of o u) (task_of o t)) (numbers_of o)) apart))
  where
    apart : list_any (λ (u : ℕ). is_busy past u && both_conflict (task_of o u) (task_of o t)) (numbers_of o) ≡ true → ⊥
    apart h =
        let w = any_found (λ (u : ℕ). is_busy past u && both_conflict (task_of o u) (task_of o t)) (numbers_of o) h in
        let both = and_parts (is_busy past w.0) (both_conflict (task_of o w.0) (task_of o t)) w.2 in
        let hindered : list_any (λ (b : ℕ). both_conflict (task_of o b) (task_of o t)) q.busy.items ≡ true =
        any_there (λ (b : ℕ). both_conflict (task_of o b) (task_of o t)) w.0 q.busy.items (are.said.busy w.0 ∙ both.0) both.1 in
        let bad : false ≡ true = sym (found_none (λ (b : ℕ). both_conflict (task_of o b) (task_of o t)) q.busy.items none) ∙ hindered in
        cc

-- ---- the least free task

pub bare_more : (flags : List Bool) (from task : ℕ) → AreBare flags from → IsNextMark flags from task → AreBare flags task
bare_more flags from task bare next = record { each = λ t below. go t below (cases_lt t from) }
  where
    go : (t : ℕ) → t < task → (t < from) ⊎ (from ≤ t) → is_set flags t ≡ false
    go t below (inl less) = bare.each t less
    go t below (inr more) = next.first t more below

pub bare_all : (flags : List Bool) (from : ℕ) → AreBare flags from → ((t : ℕ) → from ≤ t → is_set flags t ≡ false) → (t : ℕ) → is_set flags t ≡ false
bare_all flags from bare none t = go (cases_lt t from)
  where
    go : (t < from) ⊎ (from ≤ t) → is_set flags t ≡ false
    go (inl less) = bare.each t less
    go (inr more) = none t more

-- number 0 isn't ready
pub first_bare : (q : Queue) → IsOrdered q → AreBare q.ready.flags.items 1
first_bare q ordered = record { each = λ t below. false_from_ne_true (is_set q.ready.flags.items t) (λ h. apart t below h) }
  where
    apart : (t : ℕ) → t < 1 → is_set q.ready.flags.items t ≡ true → ⊥
    apart t below h =
        let zero_is : t ≡ 0 = omega (arith, below) in
        let bad : false ≡ true = sym (ordered.unclaimed.each t h) ∙ ap (is_set q.claimed.items) zero_is ∙ ordered.no_task in
        cc

bare_less : (flags : List Bool) (low less : ℕ) → less ≤ low → AreBare flags low → AreBare flags less
bare_less flags low less more bare = record { each = λ t below. bare.each t (omega (arith, more, below)) }

pub least_found : (o : Opening) (past : List Entry) (q : Queue) (t : ℕ) → IsQueued o past q → 0 < t → t < length q.claimed.items → AreBare q.ready.flags.items t → is_set q.ready.flags.items t ≡ true
    → find (λ b. both_conflict (task_of o b) (task_of o t)) q.busy.items ≡ None → least_free o past ≡ Some t
least_found o past q t are some below bare ready none =
    least_some (is_free o past) 1 (length o.tasks) t (omega (arith, some)) (omega (arith, below, are.fits.long))
    (λ s from less. unfree o past q s are (omega (arith, from)) (omega (arith, less, below)) (bare_less q.ready.flags.items t (s + 1) (omega (arith, less)) bare))
    (unhindered o past q t are some below ready none)

pub none_found : (o : Opening) (past : List Entry) (q : Queue) → IsQueued o past q → ((t : ℕ) → is_set q.ready.flags.items t ≡ false) → least_free o past ≡ None
none_found o past q are bare =
    least_none (is_free o past) 1 (length o.tasks)
    (λ t from below. unfree o past q t are (omega (arith, from)) (omega (arith, below, are.fits.long)) (record { each = λ s less. bare s }))

-- ---- a queue with the same tasks claimed and busy says the same

pub same_queued : (o : Opening) (past : List Entry) (q r : Queue) → r.claimed ≡ q.claimed → r.busy ≡ q.busy → IsOrdered r → IsOf o r → IsQueued o past q → IsQueued o past r
same_queued o past q r claimed busy ordered fits are = record {
  ordered = ordered;
  roomy = record {
    left = subst (λ (b : Vec ℕ Global). length b.items + count_by not r.claimed.items ≤ length r.claimed.items) (sym busy)
        (subst (λ (c : Vec Bool Global). length q.busy.items + count_by not c.items ≤ length c.items) (sym claimed) are.roomy.left);
    room = subst (λ (b : Vec ℕ Global). length r.claimed.items ≤ vec_capacity b) (sym busy) (subst (λ (c : Vec Bool Global). length c.items ≤ vec_capacity q.busy) (sym claimed) are.roomy.room);
  };
  fits = fits;
  said = record {
    claimed = subst (λ (c : Vec Bool Global). (t : ℕ) → 0 < t → t < length c.items → is_set c.items t ≡ is_claimed past t) (sym claimed) are.said.claimed;
    busy = subst (λ (b : Vec ℕ Global). (t : ℕ) → is_among b.items t ≡ is_busy past t) (sym busy) are.said.busy;
  };
}
