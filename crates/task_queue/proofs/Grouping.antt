-- Groups, and which task is the next of one.
use Rattle.std.proofs.Common.{◌≡◌, ◌∙◌, ℕ, zero, suc, ◌+◌, ◌-◌, ◌<◌, ◌≤◌, ◌⊎◌, List, [], ◌∷◌, refl, sym, ap, subst, Bool, true, false, Option, Some, None, length, set, min, arith, inl, inr}
use Rattle.std.specs.Prelude.{◌==◌, ◌++◌, ◌||◌, bytes_eq, codes, is_some, slice_get}
use Rattle.std.proofs.lemmas.Bool.{cases_eq, cases_lt, ne_eqb as differ, or_left, or_right}
use Rattle.std.proofs.lemmas.List.{get_or_past, length-set}
use Rattle.std.proofs.lemmas.Slice.Eq.{bytes_eq-Decides}
use Rattle.task_text.specs.declared.task.Task.{Task}
use Rattle.journal_model.specs.declared.opening.Opening.{Opening}
use Rattle.journal_model.specs.Legality.{both_conflict, clashes, conflicts, is_empty, share_name, task_of}
use Rattle.task_queue.specs.declared.alike.By.{By}
use Rattle.task_queue.specs.declared.alike.By.TheVariants.{Key, File}
use Rattle.task_queue.specs.Groups.{Alone, AreChained, AreFirsts, AreGroups, AreNext, AreWithin, IsFirst, Text, badge_by, badge_in, badge_of, is_set, number_at, text_at, text_of}
use Rattle.task_queue.proofs.Places.{at_set, beyond, down_other, still_down}
use Rattle.std.proofs.lemmas.Option.{slice_get_past}

-- ---- the task of a number

of_next : (o : Opening) (k : ℕ) → task_of o (suc k) ≡ slice_get o.tasks k
of_next o k =
    let less : suc k - 1 ≡ k = omega arith in
    let no_zero : (suc k == 0) ≡ false = differ (suc k) 0 (λ (h : suc k ≡ 0). (let none : ⊥ = omega arith in none)) in
    rw no_zero (ap (slice_get o.tasks) less)

some_within : {X : Type 0} (xs : List X) (k : ℕ) → k < length xs → is_some (slice_get xs k) ≡ true
some_within [] k within = absurd (omega arith)
some_within (x ∷ xs) zero within = refl
some_within (x ∷ xs) (suc k) within = some_within xs k (omega arith)

badge_past : (by : By) (o : Opening) (t : ℕ) → length o.tasks < t → badge_of by o t ≡ Alone 0
badge_past by o zero past = refl
badge_past by o (suc k) past = ap (badge_in by (suc k)) (of_next o k ∙ slice_get_past o.tasks k (omega arith))

pub is_task : (o : Opening) (t : ℕ) → 0 < t → t < length o.tasks + 1 → is_some (task_of o t) ≡ true
is_task o zero some within = absurd (omega arith)
is_task o (suc k) some within = ap is_some (of_next o k) ∙ some_within o.tasks k (omega arith)

-- ---- texts and badges

-- a test of a text that is empty
none_left : (xs ys : List ℕ) → is_empty xs ≡ false → xs ≡ ys → ys ≡ [] → ⊥
none_left xs ys some same none = (let bad : false ≡ true = sym some ∙ ap is_empty (same ∙ none) in cc)

badge_text : (t : ℕ) (xs : List ℕ) → is_empty xs ≡ false → badge_by t xs ≡ Text xs
badge_text t [] some = absurd cc
badge_text t (x ∷ xs) some = refl

pub alike_badges : (by : By) (x y : Option Task) (b t : ℕ) → is_empty (text_at by x) ≡ false → text_at by x ≡ text_at by y → badge_in by b x ≡ badge_in by t y
alike_badges by None y b t some same = absurd cc
alike_badges by (Some x) None b t some same = absurd (none_left (text_of by x) [] some same refl)
alike_badges by (Some x) (Some y) b t some same =
    badge_text b (text_of by x) some ∙ ap Text same ∙ sym (badge_text t (text_of by y) (sym (ap is_empty same) ∙ some))

-- ---- tasks of one group conflict

self_conflict : (x : Option Task) → is_some x ≡ true → both_conflict x x ≡ true
self_conflict None some = absurd cc
self_conflict (Some x) some = (let equal : bytes_eq x.key x.key ≡ true = (bytes_eq-Decides x.key x.key).1 refl in rw equal refl)

same_text : (b t : ℕ) (xs ys : List ℕ) → (b ≡ t → ⊥) → badge_by b xs ≡ badge_by t ys → (is_empty xs ≡ false) × (xs ≡ ys)
same_text b t [] [] apart e = (let same : b ≡ t = cc in absurd (apart same))
same_text b t [] (y ∷ ys) apart e = absurd cc
same_text b t (x ∷ xs) [] apart e = absurd cc
same_text b t (x ∷ xs) (y ∷ ys) apart e = (refl, cc)

no_badge : (b : ℕ) (xs : List ℕ) → 0 < b → badge_by b xs ≡ Alone 0 → ⊥
no_badge b [] some e = (let none : b ≡ 0 = cc in omega (arith, none, some))
no_badge b (x ∷ xs) some e = cc

clash_itself : (xs : List ℕ) → is_empty xs ≡ false → clashes xs xs ≡ true
clash_itself [] some = absurd cc
clash_itself (x ∷ xs) some =
    or_left (bytes_eq (x ∷ xs) (x ∷ xs) || bytes_eq (x ∷ xs) ((x ∷ xs) ++ codes ".part")) (bytes_eq (x ∷ xs) ((x ∷ xs) ++ codes ".part"))
    (or_left (bytes_eq (x ∷ xs) (x ∷ xs)) (bytes_eq (x ∷ xs) ((x ∷ xs) ++ codes ".part")) ((bytes_eq-Decides (x ∷ xs) (x ∷ xs)).1 refl))

text_conflict : (by : By) (x y : Task) → is_empty (text_of by x) ≡ false → text_of by x ≡ text_of by y → conflicts x y ≡ true
text_conflict Key x y some same = (let equal : bytes_eq x.key y.key ≡ true = (bytes_eq-Decides x.key y.key).1 same in rw equal refl)
text_conflict File x y some same =
    let clash : clashes x.file y.file ≡ true = subst (λ (l : List ℕ). clashes x.file l ≡ true) same (clash_itself x.file some) in
    or_left (bytes_eq x.key y.key || clashes x.file y.file) (share_name x y) (or_right (bytes_eq x.key y.key) (clashes x.file y.file) clash)

pub same_conflict : (by : By) (o : Opening) (groups : List ℕ) (b t : ℕ) → AreGroups by o groups → 0 < b → b < length groups → number_at groups b ≡ number_at groups t
    → both_conflict (task_of o b) (task_of o t) ≡ true
same_conflict by o groups b t are some within same = go (cases_eq b t)
  where
    real : is_some (task_of o b) ≡ true
    real = is_task o b some (omega (arith, within, are.long))

    both : (x y : Option Task) → is_some x ≡ true → (b ≡ t → ⊥) → badge_in by b x ≡ badge_in by t y → both_conflict x y ≡ true
    both None y there apart e = absurd cc
    both (Some x) None there apart e = absurd (no_badge b (text_of by x) some e)
    both (Some x) (Some y) there apart e = (let texts = same_text b t (text_of by x) (text_of by y) apart e in text_conflict by x y texts.0 texts.1)

    go : (b ≡ t) ⊎ (b ≡ t → ⊥) → both_conflict (task_of o b) (task_of o t) ≡ true
    go (inl e) = subst (λ (k : ℕ). both_conflict (task_of o b) (task_of o k) ≡ true) e (self_conflict (task_of o b) real)
    go (inr apart) = both (task_of o b) (task_of o t) real apart (sym (are.alike b) ∙ ap (badge_of by o) same ∙ are.alike t)

-- no task is of number 0's group
pub no_group : (by : By) (o : Opening) (groups : List ℕ) (t : ℕ) → AreGroups by o groups → 0 < t → t < length groups → number_at groups 0 ≡ number_at groups t → ⊥
no_group by o groups t are some within same = go (task_of o t) (is_task o t some (omega (arith, within, are.long))) (sym (are.alike 0) ∙ ap (badge_of by o) same ∙ are.alike t)
  where
    go : (x : Option Task) → is_some x ≡ true → Alone 0 ≡ badge_in by t x → ⊥
    go None there e = cc
    go (Some x) there e = no_badge t (text_of by x) some (sym e)

-- ---- groups

pub each_alone : (by : By) (o : Opening) (groups : List ℕ) → length groups ≡ length o.tasks + 1 → ((t : ℕ) → t < length groups → number_at groups t ≡ t) → AreGroups by o groups × AreWithin groups
each_alone by o groups long own = (record { long = long; alike = λ t. alike t (cases_lt t (length groups)) }, record { each = λ t within. subst (λ (n : ℕ). n < length groups) (sym (own t within)) within })
  where
    alike : (t : ℕ) → (t < length groups) ⊎ (length groups ≤ t) → badge_of by o (number_at groups t) ≡ badge_of by o t
    alike t (inl within) = ap (badge_of by o) (own t within)
    alike t (inr past) = ap (badge_of by o) (get_or_past groups t 0 past) ∙ sym (badge_past by o t (omega (arith, past, long)))

within_all : (groups : List ℕ) (t : ℕ) → 0 < length groups → AreWithin groups → number_at groups t < length groups
within_all groups t some are = go (cases_lt t (length groups))
  where
    go : (t < length groups) ⊎ (length groups ≤ t) → number_at groups t < length groups
    go (inl within) = are.each t within
    go (inr past) = subst (λ (n : ℕ). n < length groups) (sym (get_or_past groups t 0 past)) some

pub regrouped : (by : By) (o : Opening) (groups : List ℕ) (before task : ℕ) → badge_of by o before ≡ badge_of by o task → AreGroups by o groups × AreWithin groups
    → AreGroups by o (set groups task (number_at groups before)) × AreWithin (set groups task (number_at groups before))
regrouped by o groups before task same are = (record { long = long ∙ are.0.long; alike = alike }, record { each = within })
  where
    long : length (set groups task (number_at groups before)) ≡ length groups
    long = length-set groups task (number_at groups before)

    alike : (t : ℕ) → badge_of by o (number_at (set groups task (number_at groups before)) t) ≡ badge_of by o t
    alike t = at_set (λ (n : ℕ). badge_of by o n ≡ badge_of by o t) groups task t (number_at groups before) 0
        (λ e w. are.0.alike before ∙ same ∙ ap (badge_of by o) (sym e)) (λ other. are.0.alike t)

    within : (t : ℕ) → t < length (set groups task (number_at groups before)) → number_at (set groups task (number_at groups before)) t < length (set groups task (number_at groups before))
    within t below = subst (λ (n : ℕ). number_at (set groups task (number_at groups before)) t < n) (sym long)
        (at_set (λ (n : ℕ). n < length groups) groups task t (number_at groups before) 0
        (λ e w. within_all groups before (omega (arith, w)) are.1) (λ other. are.1.each t (omega (arith, below, long))))

-- ---- the next task of a group

pub chained : (groups next firsts : List ℕ) (task : ℕ) → AreWithin groups → task < length groups → AreChained groups next firsts (task + 1)
    → AreChained groups (set next task (number_at firsts (number_at groups task))) (set firsts (number_at groups task) task) task
chained groups next firsts task in_it within are = record {
  long = length-set next task first ∙ are.long;
  firsts_long = length-set firsts group task ∙ are.firsts_long;
  each_next = λ t from below. at_set (λ (n : ℕ). IsFirst groups [] (number_at groups t) (t + 1) n) next task t first 0
      (λ e w. subst (λ (s : ℕ). IsFirst groups [] (number_at groups s) (s + 1) first) (sym e) (are.each_first group (in_it.each task within)))
      (λ other. are.each_next t (beyond task t from (λ e. (let past = other e in let no : ⊥ = omega (arith, past, are.long, within) in no))) below);
  each_first = λ g below. at_set (λ (n : ℕ). IsFirst groups [] g task n) firsts group g task 0
      (λ e w. record { above = omega arith; least = λ t from b same free. from; own = λ b. sym e })
      (λ other. lower g (λ e. (let past = other e in let no : ⊥ = omega (arith, past, are.firsts_long, in_it.each task within) in no)) (are.each_first g below));
}
  where
    group : ℕ
    group = number_at groups task

    first : ℕ
    first = number_at firsts group

    lower : (g : ℕ) → (g ≡ group → ⊥) → IsFirst groups [] g (task + 1) (number_at firsts g) → IsFirst groups [] g task (number_at firsts g)
    lower g other is = record {
      above = omega (arith, is.above);
      least = λ t from b same free. is.least t (beyond task t from (λ e. other (sym same ∙ ap (number_at groups) e))) b same free;
      own = is.own;
    }

pub none_chained : (groups next firsts : List ℕ) → length next ≡ length groups → length firsts ≡ length groups → ((t : ℕ) → t < length groups → number_at firsts t ≡ length groups)
    → AreChained groups next firsts (length groups)
none_chained groups next firsts long firsts_long none = record {
  long = long;
  firsts_long = firsts_long;
  each_next = λ t from below. absurd (omega (arith, from, below));
  each_first = λ g below. record {
    above = omega (arith, none g below);
    least = λ t from b same free. absurd (omega (arith, from, b));
    own = λ b. absurd (omega (arith, b, none g below));
  };
}

-- ---- the first task of a group that isn't claimed

pub first_step : (groups next : List ℕ) (claimed : List Bool) (group low first : ℕ) → AreNext groups next → is_set claimed first ≡ true → first < length groups
    → IsFirst groups claimed group low first → IsFirst groups claimed group low (number_at next first)
first_step groups next claimed group low first are taken within is = record {
  above = (let more = (are.each first within).above in omega (arith, more, is.above));
  least = λ t from below same free.
      (are.each first within).least t
      (beyond first t (is.least t from below same free) (λ e. (let bad : false ≡ true = sym free ∙ ap (is_set claimed) e ∙ taken in cc)))
      below (same ∙ sym (is.own within)) refl;
  own = λ below. (are.each first within).own below ∙ is.own within;
}

pub first_less : (groups : List ℕ) (before after : List Bool) (group low first : ℕ) → ((t : ℕ) → is_set after t ≡ false → is_set before t ≡ false)
    → IsFirst groups before group low first → IsFirst groups after group low first
first_less groups before after group low first keep is =
    record { above = is.above; least = λ t from below same free. is.least t from below same (keep t free); own = is.own }

pub firsts_claimed : (groups firsts : List ℕ) (claimed : List Bool) (u : ℕ) → AreFirsts groups claimed firsts → AreFirsts groups (set claimed u true) firsts
firsts_claimed groups firsts claimed u are = record {
  long = are.long;
  each = λ g below. first_less groups claimed (set claimed u true) g 0 (number_at firsts g) (still_down claimed u) (are.each g below);
}

pub firsts_let_go : (groups firsts : List ℕ) (claimed : List Bool) (group first : ℕ) → IsFirst groups claimed group 0 first → AreFirsts groups claimed firsts
    → AreFirsts groups claimed (set firsts group first)
firsts_let_go groups firsts claimed group first is are = record {
  long = length-set firsts group first ∙ are.long;
  each = λ g below. at_set (λ (n : ℕ). IsFirst groups claimed g 0 n) firsts group g first 0
      (λ e w. subst (λ (k : ℕ). IsFirst groups claimed k 0 first) (sym e) is) (λ other. are.each g below);
}

min_is : (a b : ℕ) → (min a b ≡ a) ⊎ (min a b ≡ b)
min_is a b = go (cases_lt a b)
  where
    go : (a < b) ⊎ (b ≤ a) → (min a b ≡ a) ⊎ (min a b ≡ b)
    go (inl less) = inl (omega arith)
    go (inr more) = inr (omega arith)

pub firsts_renewed : (groups firsts : List ℕ) (claimed : List Bool) (u : ℕ) → u < length groups → AreWithin groups → AreFirsts groups claimed firsts
    → AreFirsts groups (set claimed u false) (set firsts (number_at groups u) (min (number_at firsts (number_at groups u)) u))
firsts_renewed groups firsts claimed u within in_it are = record {
  long = length-set firsts group lower ∙ are.long;
  each = λ g below. at_set (λ (n : ℕ). IsFirst groups (set claimed u false) g 0 n) firsts group g lower 0
      (λ e w. subst (λ (k : ℕ). IsFirst groups (set claimed u false) k 0 lower) (sym e) (lowered (are.each group (in_it.each u within)) (min_is first u)))
      (λ other. kept g (λ e. (let past = other e in let no : ⊥ = omega (arith, past, are.long, in_it.each u within) in no)) (are.each g below));
}
  where
    group : ℕ
    group = number_at groups u

    first : ℕ
    first = number_at firsts group

    lower : ℕ
    lower = min first u

    lowered : IsFirst groups claimed group 0 first → (lower ≡ first) ⊎ (lower ≡ u) → IsFirst groups (set claimed u false) group 0 lower
    lowered is choice = record {
      above = omega arith;
      least = λ t from below same free. by t below same free (cases_eq t u);
      own = λ below. own below choice;
    }
      where
        by : (t : ℕ) → t < length groups → number_at groups t ≡ group → is_set (set claimed u false) t ≡ false → (t ≡ u) ⊎ (t ≡ u → ⊥) → lower ≤ t
        by t below same free (inl e) = omega (arith, e)
        by t below same free (inr apart) = (let less = is.least t (omega arith) below same (down_other claimed u t apart free) in omega (arith, less))

        own : lower < length groups → (lower ≡ first) ⊎ (lower ≡ u) → number_at groups lower ≡ group
        own below (inl e) = ap (number_at groups) e ∙ is.own (omega (arith, e, below))
        own below (inr e) = ap (number_at groups) e

    kept : (g : ℕ) → (g ≡ group → ⊥) → IsFirst groups claimed g 0 (number_at firsts g) → IsFirst groups (set claimed u false) g 0 (number_at firsts g)
    kept g other is = record {
      above = is.above;
      least = λ t from below same free. is.least t from below same (down_other claimed u t (λ e. other (sym same ∙ ap (number_at groups) e)) free);
      own = is.own;
    }

pub set_within : (flags : List Bool) (t : ℕ) → is_set flags t ≡ true → t < length flags
set_within flags t h = go (cases_lt t (length flags))
  where
    go : (t < length flags) ⊎ (length flags ≤ t) → t < length flags
    go (inl within) = within
    go (inr past) = absurd (let bad : false ≡ true = sym (get_or_past flags t false past) ∙ h in cc)

-- what is found from the next one of its group on
pub found_next : (groups next : List ℕ) (claimed : List Bool) (task from first : ℕ) → AreNext groups next → task < length groups → from ≡ number_at next task
    → ((g l : ℕ) → IsFirst groups claimed g l from → IsFirst groups claimed g l first) → IsFirst groups claimed (number_at groups task) (task + 1) first
found_next groups next claimed task from first are within is finds =
    finds (number_at groups task) (task + 1)
    (subst (IsFirst groups claimed (number_at groups task) (task + 1)) (sym is)
    (first_less groups [] claimed (number_at groups task) (task + 1) (number_at next task) (λ t free. refl) (are.each task within)))
