-- Each task that isn't claimed stays placed.
use Rattle.std.proofs.Common.{◌≡◌, ◌∙◌, cond, ℕ, ◌+◌, ◌<◌, ◌⊎◌, List, [], ◌∷◌, ◌++◌, refl, sym, ap, subst, Bool, true, false, not, length, set, arith, inl, inr}
use Rattle.std.specs.Prelude.{◌==◌, ◌&&◌, filter}
use Rattle.std.specs.List.{list_any}
use Rattle.std.proofs.lemmas.Bool.{and_from, and_parts, cases_eq, eqb-true, eq-eqb, not-true, not_from_false}
use Rattle.std.proofs.lemmas.List.{length-set}
use Rattle.task_queue.specs.Groups.{is_set, number_at}
use Rattle.task_queue.specs.Held.{HasReadyBefore, IsHandedOn, IsHeld, is_group_busy}
use Rattle.task_queue.specs.Queues.{ArePlaced, IsPlaced, is_among}
use Rattle.task_queue.specs.Woken.{AreWatched, AreWoken}
use Rattle.task_queue.proofs.Places.{any_last, any_more, any_without, down_other, marked, marked_from, set_here, still_down, unmarked}

same_busy : (groups busy : List ℕ) (s t : ℕ) → number_at groups s ≡ number_at groups t → is_group_busy groups busy t ≡ true → is_group_busy groups busy s ≡ true
same_busy groups busy s t same h = ap (λ (g : ℕ). list_any (λ (b : ℕ). number_at groups b == g) busy) same ∙ h

-- ready flags of which only that one may have been taken down
abbrev pub AreBut : ℕ → List Bool → List Bool → Type 0
AreBut u old new = (t : ℕ) → (t ≡ u → ⊥) → is_set old t ≡ true → is_set new t ≡ true

before_but : (groups : List ℕ) (old new : List Bool) (u t : ℕ) → AreBut u old new → (h : HasReadyBefore groups old t) → (h.number ≡ u → ⊥) → HasReadyBefore groups new t
before_but groups old new u t kept h apart = record { number = h.number; before = h.before; marked = kept h.number apart h.marked; same = h.same }

-- what is held stays so where more is ready
pub held_more : (groups busy : List ℕ) (old new : List Bool) (t : ℕ) → ((s : ℕ) → is_set old s ≡ true → is_set new s ≡ true) → IsHeld groups busy old t → IsHeld groups busy new t
held_more groups busy old new t kept (inl g) = inl g
held_more groups busy old new t kept (inr h) = inr (record { number = h.number; before = h.before; marked = kept h.number h.marked; same = h.same })

-- ---- a ready task is put off

-- each unclaimed task after that one of its group is ready or held
abbrev pub Follows : List ℕ → List ℕ → List Bool → List Bool → ℕ → Type 0
Follows groups busy claimed ready u =
    (t : ℕ) → u < t → t < length claimed → is_set claimed t ≡ false → number_at groups t ≡ number_at groups u → (is_set ready t ≡ true) ⊎ IsHeld groups busy ready t

pub follows : (groups busy : List ℕ) (claimed old new : List Bool) (u : ℕ) (held : Bool) → length groups ≡ length claimed → length old ≡ length claimed → held ≡ is_group_busy groups busy u
    → IsHandedOn groups claimed (number_at groups u) (u + 1) held old new → Follows groups busy claimed new u
follows groups busy claimed old new u held groups_long old_long is handed = λ t more below free same. go t more below free same held refl
  where
    go : (t : ℕ) → u < t → t < length claimed → is_set claimed t ≡ false → number_at groups t ≡ number_at groups u → (c : Bool) → held ≡ c → (is_set new t ≡ true) ⊎ IsHeld groups busy new t
    go t more below free same true e = inr (inl (same_busy groups busy t u same (sym is ∙ e)))
    go t more below free same false e = by (handed.first e t (omega (arith, more)) (omega (arith, below, groups_long)) (omega (arith, below, old_long)) free same)
      where
        by : (is_set new t ≡ true) ⊎ HasReadyBefore groups new t → (is_set new t ≡ true) ⊎ IsHeld groups busy new t
        by (inl r) = inl r
        by (inr h) = inr (inr h)

pub follows_more : (groups busy : List ℕ) (claimed old new : List Bool) (u : ℕ) → ((t : ℕ) → is_set old t ≡ true → is_set new t ≡ true) → Follows groups busy claimed old u → Follows groups busy claimed new u
follows_more groups busy claimed old new u kept are = λ t more below free same. by t (are t more below free same)
  where
    by : (t : ℕ) → (is_set old t ≡ true) ⊎ IsHeld groups busy old t → (is_set new t ≡ true) ⊎ IsHeld groups busy new t
    by t (inl r) = inl (kept t r)
    by t (inr h) = inr (held_more groups busy old new t kept h)

held_off : (groups busy : List ℕ) (claimed old new : List Bool) (u t : ℕ) → AreBut u old new → Follows groups busy claimed new u → t < length claimed → is_set claimed t ≡ false → IsHeld groups busy old t
    → (is_set new t ≡ true) ⊎ IsHeld groups busy new t
held_off groups busy claimed old new u t kept follow below free (inl g) = inr (inl g)
held_off groups busy claimed old new u t kept follow below free (inr h) = go (cases_eq h.number u)
  where
    go : (h.number ≡ u) ⊎ (h.number ≡ u → ⊥) → (is_set new t ≡ true) ⊎ IsHeld groups busy new t
    go (inl e) = follow t (omega (arith, e, h.before)) below free (sym h.same ∙ ap (number_at groups) e)
    go (inr apart) = inr (inr (before_but groups old new u t kept h apart))

by_keys : (keys files busy waits : List ℕ) (ready : List Bool) (t : ℕ) → (is_set ready t ≡ true) ⊎ IsHeld keys busy ready t → IsPlaced keys files busy waits ready t
by_keys keys files busy waits ready t (inl r) = inl r
by_keys keys files busy waits ready t (inr h) = inr (inr (inl h))

by_files : (keys files busy waits : List ℕ) (ready : List Bool) (t : ℕ) → (is_set ready t ≡ true) ⊎ IsHeld files busy ready t → IsPlaced keys files busy waits ready t
by_files keys files busy waits ready t (inl r) = inl r
by_files keys files busy waits ready t (inr h) = inr (inr (inr h))

pub off_placed : (keys files busy waits after : List ℕ) (claimed old new : List Bool) (u : ℕ) → AreBut u old new → Follows keys busy claimed new u → Follows files busy claimed new u
    → ((t : ℕ) → is_among busy (number_at waits t) ≡ true → is_among busy (number_at after t) ≡ true) → IsPlaced keys files busy after new u
    → ArePlaced keys files busy waits claimed old → ArePlaced keys files busy after claimed new
off_placed keys files busy waits after claimed old new u kept by_key by_file still own are = record { each = λ t some below free. go t below free (are.each t some below free) }
  where
    go : (t : ℕ) → t < length claimed → is_set claimed t ≡ false → IsPlaced keys files busy waits old t → IsPlaced keys files busy after new t
    go t below free (inl r) = by (cases_eq t u)
      where
        by : (t ≡ u) ⊎ (t ≡ u → ⊥) → IsPlaced keys files busy after new t
        by (inl e) = subst (λ (k : ℕ). IsPlaced keys files busy after new k) (sym e) own
        by (inr apart) = inl (kept t apart r)
    go t below free (inr (inl w)) = inr (inl (still t w))
    go t below free (inr (inr (inl h))) = by_keys keys files busy after new t (held_off keys busy claimed old new u t kept by_key below free h)
    go t below free (inr (inr (inr h))) = by_files keys files busy after new t (held_off files busy claimed old new u t kept by_file below free h)

-- ---- a task is claimed

held_claimed : (groups busy : List ℕ) (ready : List Bool) (u t : ℕ) → IsHeld groups busy ready t → IsHeld groups (busy ++ u ∷ []) (set ready u false) t
held_claimed groups busy ready u t (inl g) = inl (any_more (λ (b : ℕ). number_at groups b == number_at groups t) busy u g)
held_claimed groups busy ready u t (inr h) = go (unmarked ready u h.number h.marked)
  where
    go : (h.number ≡ u) ⊎ (is_set (set ready u false) h.number ≡ true) → IsHeld groups (busy ++ u ∷ []) (set ready u false) t
    go (inl e) = inl (any_last (λ (b : ℕ). number_at groups b == number_at groups t) busy u (eq-eqb (number_at groups u) (number_at groups t) (ap (number_at groups) (sym e) ∙ h.same)))
    go (inr k) = inr (record { number = h.number; before = h.before; marked = k; same = h.same })

pub claimed_placed : (keys files busy waits : List ℕ) (claimed ready : List Bool) (u : ℕ) → ArePlaced keys files busy waits claimed ready
    → ArePlaced keys files (busy ++ u ∷ []) waits (set claimed u true) (set ready u false)
claimed_placed keys files busy waits claimed ready u are = record {
  each = λ t some below free. go t (are.each t some (omega (arith, below, length-set claimed u true)) (still_down claimed u t free));
}
  where
    held : (t : ℕ) → t ≡ u → is_group_busy keys (busy ++ u ∷ []) t ≡ true
    held t e = any_last (λ (b : ℕ). number_at keys b == number_at keys t) busy u (eq-eqb (number_at keys u) (number_at keys t) (ap (number_at keys) (sym e)))

    go : (t : ℕ) → IsPlaced keys files busy waits ready t → IsPlaced keys files (busy ++ u ∷ []) waits (set ready u false) t
    go t (inl r) = by (unmarked ready u t r)
      where
        by : (t ≡ u) ⊎ (is_set (set ready u false) t ≡ true) → IsPlaced keys files (busy ++ u ∷ []) waits (set ready u false) t
        by (inl e) = inr (inr (inl (inl (held t e))))
        by (inr k) = inl k
    go t (inr (inl w)) = inr (inl (any_more (λ (b : ℕ). b == number_at waits t) busy u w))
    go t (inr (inr (inl h))) = inr (inr (inl (held_claimed keys busy ready u t h)))
    go t (inr (inr (inr h))) = inr (inr (inr (held_claimed files busy ready u t h)))

-- ---- a busy task is let go: those that waited for it are ready, and the first of each of its groups

-- each unclaimed task of its group is ready, or one before it is
abbrev pub IsCalledOn : List ℕ → List Bool → List Bool → ℕ → Type 0
IsCalledOn groups claimed ready u =
    (t : ℕ) → t < length claimed → is_set claimed t ≡ false → number_at groups t ≡ number_at groups u → (is_set ready t ≡ true) ⊎ HasReadyBefore groups ready t

held_without : (groups busy : List ℕ) (claimed old new : List Bool) (u t : ℕ) → ((s : ℕ) → is_set old s ≡ true → is_set new s ≡ true) → IsCalledOn groups claimed new u
    → t < length claimed → is_set claimed t ≡ false → IsHeld groups busy old t → (is_set new t ≡ true) ⊎ IsHeld groups (filter (λ b. not (b == u)) busy) new t
held_without groups busy claimed old new u t kept called below free (inr h) =
    inr (inr (record { number = h.number; before = h.before; marked = kept h.number h.marked; same = h.same }))
held_without groups busy claimed old new u t kept called below free (inl g) = go (any_without (λ (b : ℕ). number_at groups b == number_at groups t) u busy g)
  where
    by : (is_set new t ≡ true) ⊎ HasReadyBefore groups new t → (is_set new t ≡ true) ⊎ IsHeld groups (filter (λ (b : ℕ). not (b == u)) busy) new t
    by (inl r) = inl r
    by (inr h) = inr (inr h)

    go : ((number_at groups u == number_at groups t) ≡ true) ⊎ (is_group_busy groups (filter (λ (b : ℕ). not (b == u)) busy) t ≡ true)
        → (is_set new t ≡ true) ⊎ IsHeld groups (filter (λ (b : ℕ). not (b == u)) busy) new t
    go (inl e) = by (called t below free (sym (eqb-true (number_at groups u) (number_at groups t) e)))
    go (inr k) = inr (inl k)

pub let_go_placed : (keys files busy waits : List ℕ) (claimed old new : List Bool) (u : ℕ) → ((t : ℕ) → is_set old t ≡ true → is_set new t ≡ true)
    → ((t : ℕ) → t < length claimed → number_at waits t ≡ u → is_set claimed t ≡ false → is_set new t ≡ true)
    → IsCalledOn keys claimed new u → IsCalledOn files claimed new u → ArePlaced keys files busy waits claimed old
    → ArePlaced keys files (filter (λ b. not (b == u)) busy) waits claimed new
let_go_placed keys files busy waits claimed old new u kept wakes by_key by_file are = record { each = λ t some below free. go t below free (are.each t some below free) }
  where
    go : (t : ℕ) → t < length claimed → is_set claimed t ≡ false → IsPlaced keys files busy waits old t → IsPlaced keys files (filter (λ (b : ℕ). not (b == u)) busy) waits new t
    go t below free (inl r) = inl (kept t r)
    go t below free (inr (inl w)) = by (any_without (λ (b : ℕ). b == number_at waits t) u busy w)
      where
        by : ((u == number_at waits t) ≡ true) ⊎ (is_among (filter (λ (b : ℕ). not (b == u)) busy) (number_at waits t) ≡ true) → IsPlaced keys files (filter (λ (b : ℕ). not (b == u)) busy) waits new t
        by (inl e) = inl (wakes t below (sym (eqb-true u (number_at waits t) e)) free)
        by (inr k) = inr (inl k)
    go t below free (inr (inr (inl h))) =
        by_keys keys files (filter (λ (b : ℕ). not (b == u)) busy) waits new t (held_without keys busy claimed old new u t kept by_key below free h)
    go t below free (inr (inr (inr h))) =
        by_files keys files (filter (λ (b : ℕ). not (b == u)) busy) waits new t (held_without files busy claimed old new u t kept by_file below free h)

-- ---- a task is to be claimed again

pub renewed_placed : (keys files busy waits : List ℕ) (claimed ready : List Bool) (u : ℕ) → length ready ≡ length claimed → ArePlaced keys files busy waits claimed ready
    → ArePlaced keys files busy waits (set claimed u false) (set ready u true)
renewed_placed keys files busy waits claimed ready u long are = record { each = λ t some below free. by t some (omega (arith, below, length-set claimed u false)) free (cases_eq t u) }
  where
    go : (t : ℕ) → IsPlaced keys files busy waits ready t → IsPlaced keys files busy waits (set ready u true) t
    go t (inl r) = inl (marked ready u t r)
    go t (inr (inl w)) = inr (inl w)
    go t (inr (inr (inl h))) = inr (inr (inl (held_more keys busy ready (set ready u true) t (marked ready u) h)))
    go t (inr (inr (inr h))) = inr (inr (inr (held_more files busy ready (set ready u true) t (marked ready u) h)))

    by : (t : ℕ) → 0 < t → t < length claimed → is_set (set claimed u false) t ≡ false → (t ≡ u) ⊎ (t ≡ u → ⊥) → IsPlaced keys files busy waits (set ready u true) t
    by t some below free (inl e) = inl (subst (λ (k : ℕ). is_set (set ready u true) k ≡ true) (sym e) (set_here ready u true (omega (arith, e, below, long))))
    by t some below free (inr apart) = go t (are.each t some below (down_other claimed u t apart free))

-- ---- those that wait for a task are woken

pub none_woken : (waits : List ℕ) (claimed flags : List Bool) (task : ℕ) → AreWoken waits claimed task 0 flags flags
none_woken waits claimed flags task = record { long = refl; kept = λ t h. h; woken = λ t low below waiting free. absurd (omega (arith, low)); others = λ t h. inl h }

-- nobody waits for one that isn't watched
pub none_waits : (waits : List ℕ) (watched claimed flags : List Bool) (task number : ℕ) → AreWatched waits watched → 0 < task → is_set watched task ≡ false → AreWoken waits claimed task number flags flags
none_waits waits watched claimed flags task number are some none = record {
  long = refl;
  kept = λ t h. h;
  woken = λ t low below waiting free.
      absurd (let bad : true ≡ false = sym (are.each t (omega (arith, waiting, some))) ∙ ap (is_set watched) waiting ∙ none in cc);
  others = λ t h. inl h;
}

pub woken_next : (waits : List ℕ) (claimed old flags new : List Bool) (task number : ℕ)
    → new ≡ cond (number_at waits number == task && not (is_set claimed number)) (set flags number true) flags
    → AreWoken waits claimed task number old flags → AreWoken waits claimed task (number + 1) old new
woken_next waits claimed old flags new task number is are = subst (AreWoken waits claimed task (number + 1) old) (sym is) (go (number_at waits number == task && not (is_set claimed number)) refl)
  where
    last : (t : ℕ) → t < number + 1 → (t < number) ⊎ (t ≡ number)
    last t low = grind arith

    go : (c : Bool) → (number_at waits number == task && not (is_set claimed number)) ≡ c → AreWoken waits claimed task (number + 1) old (cond c (set flags number true) flags)
    go true e = record {
      long = length-set flags number true ∙ are.long;
      kept = λ t h. marked flags number t (are.kept t h);
      woken = λ t low below waiting free. by t below waiting free (last t low);
      others = λ t h. from t (marked_from flags number t h);
    }
      where
        by : (t : ℕ) → t < length old → number_at waits t ≡ task → is_set claimed t ≡ false → (t < number) ⊎ (t ≡ number) → is_set (set flags number true) t ≡ true
        by t below waiting free (inl low) = marked flags number t (are.woken t low below waiting free)
        by t below waiting free (inr same) = ap (is_set (set flags number true)) same ∙ set_here flags number true (omega (arith, same, below, are.long))

        from : (t : ℕ) → (t ≡ number) ⊎ (is_set flags t ≡ true) → (is_set old t ≡ true) ⊎ (is_set claimed t ≡ false)
        from t (inl same) = inr (ap (is_set claimed) same ∙ not-true (is_set claimed number) (and_parts (number_at waits number == task) (not (is_set claimed number)) e).1)
        from t (inr k) = are.others t k
    go false e = record {
      long = are.long;
      kept = are.kept;
      woken = λ t low below waiting free. by t low below waiting free (last t low);
      others = are.others;
    }
      where
        by : (t : ℕ) → t < number + 1 → t < length old → number_at waits t ≡ task → is_set claimed t ≡ false → (t < number) ⊎ (t ≡ number) → is_set flags t ≡ true
        by t low below waiting free (inl less) = are.woken t less below waiting free
        by t low below waiting free (inr same) =
            let here : (number_at waits number == task && not (is_set claimed number)) ≡ true =
            and_from (number_at waits number == task) (not (is_set claimed number)) (eq-eqb (number_at waits number) task (ap (number_at waits) (sym same) ∙ waiting))
            (not_from_false (is_set claimed number) (ap (is_set claimed) (sym same) ∙ free)) in
            absurd (let bad : false ≡ true = sym e ∙ here in cc)
