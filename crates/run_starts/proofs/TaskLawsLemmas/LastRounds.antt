-- What was asked in the layout that was tried last.
use Rattle.std.proofs.Common.{◌≡◌, ◌∙◌, ◌⊎◌, inl, inr, ℕ, zero, suc, ◌+◌, ◌-◌, ◌≤◌, Bool, true, false, not, List, [], ◌∷◌, ◌++◌, length, take, drop, refl, sym, ap, subst, arith, length-append}
use Rattle.std.specs.Prelude.{◌&&◌, ◌||◌, cond, Option, filter, unwrap_or}
use Rattle.std.specs.List.{list_all, onto_first}
use Rattle.std.proofs.lemmas.Bool.{and_parts}
use Rattle.std.proofs.lemmas.List.Sums.{sum_by-cons}
use Rattle.ann_key.specs.Keys.{Parts}
use Rattle.annex_model.specs.Messages.{HostMessage}
use Rattle.journal_model.specs.declared.verdict.Verdict.TheVariants as V
use Rattle.task_model.specs.Askers.{Asking}
use Rattle.task_model.specs.Stops.{is_done, all_but_last}
use Rattle.task_model.specs.Requests.{AsksFor, AskInOrder, rounds, RoundsAsk}
use Rattle.task_model.specs.Gets.{is_failed, failures, asked_last, first_asked, item}
use Rattle.task_model.proofs.Lists.{all_taken}
use Rattle.task_run.proofs.GetLemmas.LastCalls.{Last, last_of, after_last-at, after_last-none}
use Rattle.task_run.proofs.GetLemmas.AskLaws.{count_more}
use Rattle.task_run.proofs.GetLemmas.GetTurns.{failed_undone as undone}
use Rattle.ann_key.proofs.Booleans.{false_is_true as apart}
use Rattle.ann_outside.proofs.Across.{count_none}

-- the request was done, or failed
abbrev pub is_calm : Asking → Bool
is_calm a = is_done a || is_failed a

-- a request that is done is the first of its round
pub record Onto (ask : ℕ → List ℕ → HostMessage) (n : ℕ) (layouts : List (List Parts)) (a : Asking) (more : List (List Asking)) : Type 0 where
  pub key : Parts
  pub keys : List Parts
  pub later : List (List Parts)
  pub is : layouts ≡ (key ∷ keys) ∷ later
  pub first : AsksFor ask n key a
  pub rest : RoundsAsk ask (n + 1) (keys ∷ later) more

onto : (ask : ℕ → List ℕ → HostMessage) (n : ℕ) (layouts : List (List Parts)) (a : Asking) (more : List (List Asking)) → RoundsAsk ask n layouts (onto_first a more) → Onto ask n layouts a more
onto ask n [] a [] h = absurd h
onto ask n ([] ∷ later) a [] h = absurd h.0
onto ask n ((key ∷ keys) ∷ later) a [] h = record { key = key; keys = keys; later = later; is = refl; first = h.0.0; rest = tt }
onto ask n [] a (round ∷ more) h = absurd h
onto ask n ([] ∷ later) a (round ∷ more) h = absurd h.0
onto ask n ((key ∷ keys) ∷ later) a (round ∷ more) h =
    let e : n + length (a ∷ round) ≡ (n + 1) + length round = omega arith in
    let P : ℕ → Type 0 = λ m. RoundsAsk ask m later more in
    record { key = key; keys = keys; later = later; is = refl; first = h.0.0; rest = (h.0.1, subst P e h.1) }

-- of a list whose rounds are known by its first request
by_first : (ask : ℕ → List ℕ → HostMessage) (n : ℕ) (layouts : List (List Parts)) (a : Asking) (more : List Asking) (b : Bool) → is_done a ≡ b
    → RoundsAsk ask n layouts (rounds (a ∷ more)) → RoundsAsk ask n layouts (cond b (onto_first a (rounds more)) ((a ∷ []) ∷ rounds more))
by_first ask n layouts a more b e h = let P : Bool → Type 0 = λ t. RoundsAsk ask n layouts (cond t (onto_first a (rounds more)) ((a ∷ []) ∷ rounds more)) in subst P e h

-- ---- the last round

-- requests of one round ask for the keys of the first layout
rest_asks : (ask : ℕ → List ℕ → HostMessage) (n : ℕ) (layouts : List (List Parts)) (rest : List Asking) → list_all is_done (all_but_last rest) ≡ true
    → RoundsAsk ask n layouts (rounds rest) → AskInOrder ask n (unwrap_or (item 0 layouts) []) rest
rest_asks ask n layouts [] h r = tt
rest_asks ask n layouts (a ∷ []) h r = by_test (is_done a) refl
  where
    whole : (later : List (List Parts)) → RoundsAsk ask n later ((a ∷ []) ∷ []) → AskInOrder ask n (unwrap_or (item 0 later) []) (a ∷ [])
    whole [] s = absurd s
    whole (keys ∷ later) s = s.0

    by_test : (b : Bool) → is_done a ≡ b → AskInOrder ask n (unwrap_or (item 0 layouts) []) (a ∷ [])
    by_test true e = whole layouts (by_first ask n layouts a [] true e r)
    by_test false e = whole layouts (by_first ask n layouts a [] false e r)
rest_asks ask n layouts (a ∷ b ∷ more) h r =
    let done : is_done a ≡ true = (and_parts (is_done a) (list_all is_done (all_but_last (b ∷ more))) (split h)).0 in
    let o : Onto ask n layouts a (rounds (b ∷ more)) = onto ask n layouts a (rounds (b ∷ more)) (by_first ask n layouts a (b ∷ more) true done r) in
    let s : AskInOrder ask (n + 1) o.keys (b ∷ more) = rest_asks ask (n + 1) (o.keys ∷ o.later) (b ∷ more) (and_parts (is_done a) (list_all is_done (all_but_last (b ∷ more))) (split h)).1 o.rest in
    let P : List (List Parts) → Type 0 = λ l. AskInOrder ask n (unwrap_or (item 0 l) []) (a ∷ b ∷ more) in
    subst P (sym o.is) (o.first, s)
  where
    split : list_all is_done (all_but_last (a ∷ b ∷ more)) ≡ true → (is_done a && list_all is_done (all_but_last (b ∷ more))) ≡ true
    split k =
        let e : length (a ∷ b ∷ more) - 1 ≡ suc (length (b ∷ more) - 1) = omega arith in
        let Q : ℕ → Type 0 = λ m. list_all is_done (take m (a ∷ b ∷ more)) ≡ true in
        subst Q e k

-- ---- the rounds before it

-- after the last that failed there are the layouts that are left
pub record Behind (ask : ℕ → List ℕ → HostMessage) (n : ℕ) (layouts : List (List Parts)) (count : ℕ) (rest : List Asking) : Type 0 where
  pub few : count ≤ length layouts
  pub asks : RoundsAsk ask n (drop count layouts) (rounds rest)

failed_first : (ask : ℕ → List ℕ → HostMessage) (n : ℕ) (layouts : List (List Parts)) (a : Asking) (more : List Asking) → is_done a ≡ false → RoundsAsk ask n layouts (rounds (a ∷ more)) → Behind ask (n + 1) layouts 1 more
failed_first ask n layouts a more e h = of_layouts layouts (by_first ask n layouts a more false e h)
  where
    of_layouts : (l : List (List Parts)) → RoundsAsk ask n l ((a ∷ []) ∷ rounds more) → Behind ask (n + 1) l 1 more
    of_layouts [] s = absurd s
    of_layouts (keys ∷ later) s = record { few = omega arith; asks = s.1 }

drop-cons : {X : Type 0} (k : ℕ) (x : X) (xs : List X) → drop (k + 1) (x ∷ xs) ≡ drop k xs
drop-cons k x xs = let e : k + 1 ≡ suc k = omega arith in rw e refl

rounds_behind : (ask : ℕ → List ℕ → HostMessage) (n : ℕ) (layouts : List (List Parts)) (front : List Asking) (y : Asking) (rest : List Asking)
    → list_all is_calm front ≡ true → is_failed y ≡ true → RoundsAsk ask n layouts (rounds (front ++ y ∷ rest))
    → Behind ask (n + length front + 1) layouts (failures front + 1) rest
rounds_behind ask n layouts [] y rest c f h =
    let e : n + length {A = Asking} [] + 1 ≡ n + 1 = omega arith in
    let P : ℕ → Type 0 = λ m. Behind ask m layouts 1 rest in
    subst P (sym e) (failed_first ask n layouts y rest (undone y f) h)
rounds_behind ask n layouts (a ∷ front) y rest c f h =
    let parts = and_parts (is_calm a) (list_all is_calm front) c in
    by_test (is_done a) refl parts.0 (λ m l s. rounds_behind ask m l front y rest parts.1 f s)
  where
    number : n + 1 + length front + 1 ≡ n + length (a ∷ front) + 1
    number = omega arith

    Later : Type 0
    Later = (m : ℕ) (l : List (List Parts)) → RoundsAsk ask m l (rounds (front ++ y ∷ rest)) → Behind ask (m + length front + 1) l (failures front + 1) rest

    none_more : (b : Bool) → is_failed a ≡ b → failures (a ∷ front) ≡ cond b 1 0 + failures front
    none_more b e = let P : Bool → Type 0 = λ t. failures (a ∷ front) ≡ cond t 1 0 + failures front in subst P e (sum_by-cons (λ (x : Asking). cond (is_failed x) 1 0) a front)

    done_not_failed : is_done a ≡ true → is_failed a ≡ false
    done_not_failed e = by_fail (is_failed a) refl
      where
        by_fail : (b : Bool) → is_failed a ≡ b → b ≡ false
        by_fail true k = apart (sym (undone a k) ∙ e)
        by_fail false k = refl

    at_done : is_done a ≡ true → Later → Behind ask (n + length (a ∷ front) + 1) layouts (failures (a ∷ front) + 1) rest
    at_done e later =
        let o : Onto ask n layouts a (rounds (front ++ y ∷ rest)) = onto ask n layouts a (rounds (front ++ y ∷ rest)) (by_first ask n layouts a (front ++ y ∷ rest) true e h) in
        let b : Behind ask (n + 1 + length front + 1) (o.keys ∷ o.later) (failures front + 1) rest = later (n + 1) (o.keys ∷ o.later) o.rest in
        let same : failures (a ∷ front) ≡ failures front = none_more false (done_not_failed e) ∙ omega arith in
        let l : length layouts ≡ length ((o.key ∷ o.keys) ∷ o.later) = ap length o.is in
        let few : failures front + 1 ≤ length (o.keys ∷ o.later) = b.few in
        let d : drop (failures (a ∷ front) + 1) layouts ≡ drop (failures front + 1) (o.keys ∷ o.later) =
        ap (λ (k : ℕ). drop (k + 1) layouts) same ∙ ap (λ (x : List (List Parts)). drop (failures front + 1) x) o.is ∙ drop-cons (failures front) (o.key ∷ o.keys) o.later ∙ sym (drop-cons (failures front) o.keys o.later) in
        let P : ℕ → Type 0 = λ m. RoundsAsk ask m (drop (failures front + 1) (o.keys ∷ o.later)) (rounds rest) in
        let Q : List (List Parts) → Type 0 = λ x. RoundsAsk ask (n + length (a ∷ front) + 1) x (rounds rest) in
        record { few = omega arith; asks = subst Q (sym d) (subst P number b.asks) }

    at_failed : is_done a ≡ false → is_failed a ≡ true → Later → Behind ask (n + length (a ∷ front) + 1) layouts (failures (a ∷ front) + 1) rest
    at_failed e k later =
        let one : Behind ask (n + 1) layouts 1 (front ++ y ∷ rest) = failed_first ask n layouts a (front ++ y ∷ rest) e h in
        let b : Behind ask (n + 1 + length front + 1) (drop 1 layouts) (failures front + 1) rest = later (n + 1) (drop 1 layouts) one.asks in
        let more : failures (a ∷ front) ≡ 1 + failures front = none_more true k in
        let few : failures front + 1 ≤ length (drop 1 layouts) = b.few in
        of_layouts layouts one.few b more
      where
        of_layouts : (l : List (List Parts)) → 1 ≤ length l → Behind ask (n + 1 + length front + 1) (drop 1 l) (failures front + 1) rest → failures (a ∷ front) ≡ 1 + failures front
            → Behind ask (n + length (a ∷ front) + 1) l (failures (a ∷ front) + 1) rest
        of_layouts [] some b more = absurd (omega arith)
        of_layouts (keys ∷ l) some b more =
            let few : failures front + 1 ≤ length l = b.few in
            let d : drop (failures (a ∷ front) + 1) (keys ∷ l) ≡ drop (failures front + 1) l =
            drop-cons (failures (a ∷ front)) keys l ∙ ap (λ (m : ℕ). drop m l) (more ∙ omega arith) in
            let P : ℕ → Type 0 = λ m. RoundsAsk ask m (drop (failures front + 1) l) (rounds rest) in
            let Q : List (List Parts) → Type 0 = λ x. RoundsAsk ask (n + length (a ∷ front) + 1) x (rounds rest) in
            record { few = omega arith; asks = subst Q (sym d) (subst P number b.asks) }

    by_test : (b : Bool) → is_done a ≡ b → (is_done a || is_failed a) ≡ true → Later → Behind ask (n + length (a ∷ front) + 1) layouts (failures (a ∷ front) + 1) rest
    by_test true e k later = at_done e later
    by_test false e k later = let g : is_failed a ≡ true = rw e at k in at_failed e g later

-- ---- of all that was asked

failed_calm : (xs : List Asking) → list_all is_failed (filter (λ (a : Asking). not (is_done a)) xs) ≡ true → list_all is_calm xs ≡ true
failed_calm [] h = refl
failed_calm (x ∷ xs) h = by_test (is_done x) refl h (failed_calm xs)
  where
    by_test : (b : Bool) → is_done x ≡ b → list_all is_failed (cond (not b) (x ∷ filter (λ (a : Asking). not (is_done a)) xs) (filter (λ (a : Asking). not (is_done a)) xs)) ≡ true
        → (list_all is_failed (filter (λ (a : Asking). not (is_done a)) xs) ≡ true → list_all is_calm xs ≡ true) → ((is_done x || is_failed x) && list_all is_calm xs) ≡ true
    by_test true e k more = let r : list_all is_calm xs ≡ true = more k in rw (e, r) refl
    by_test false e k more =
        let p = and_parts (is_failed x) (list_all is_failed (filter (λ (a : Asking). not (is_done a)) xs)) k in
        let f : is_failed x ≡ true = p.0 in
        let r : list_all is_calm xs ≡ true = more p.1 in
        rw (e, f, r) refl

all_front : {X : Type 0} (p : X → Bool) (xs : List X) (y : X) (ys : List X) → list_all p (all_but_last (xs ++ y ∷ ys)) ≡ true → (list_all p xs ≡ true) × (list_all p (all_but_last (y ∷ ys)) ≡ true)
all_front p [] y ys h = (refl, h)
all_front p (x ∷ xs) y ys h =
    let long : length (xs ++ y ∷ ys) ≡ length xs + length (y ∷ ys) = length-append xs (y ∷ ys) in
    let e : length (x ∷ (xs ++ y ∷ ys)) - 1 ≡ suc (length (xs ++ y ∷ ys) - 1) = omega arith in
    let Q : ℕ → Type 0 = λ m. list_all p (take m (x ∷ (xs ++ y ∷ ys))) ≡ true in
    let k : (p x && list_all p (all_but_last (xs ++ y ∷ ys))) ≡ true = subst Q e h in
    let parts = and_parts (p x) (list_all p (all_but_last (xs ++ y ∷ ys))) k in
    let more = all_front p xs y ys parts.1 in
    let one : p x ≡ true = parts.0 in
    let rest : list_all p xs ≡ true = more.0 in
    (rw (one, rest) refl, more.1)

all_behind : {X : Type 0} (p : X → Bool) (y : X) (ys : List X) → list_all p (all_but_last (y ∷ ys)) ≡ true → list_all p (all_but_last ys) ≡ true
all_behind p y [] h = refl
all_behind p y (z ∷ ys) h =
    let e : length (y ∷ z ∷ ys) - 1 ≡ suc (length (z ∷ ys) - 1) = omega arith in
    let Q : ℕ → Type 0 = λ m. list_all p (take m (y ∷ z ∷ ys)) ≡ true in
    (and_parts (p y) (list_all p (all_but_last (z ∷ ys))) (subst Q e h)).1

calm_done : (xs : List Asking) → list_all is_calm xs ≡ true → list_all (λ (a : Asking). not (is_failed a)) xs ≡ true → list_all is_done xs ≡ true
calm_done [] h k = refl
calm_done (x ∷ xs) h k =
    let p = and_parts (is_calm x) (list_all is_calm xs) h in
    let q = and_parts (not (is_failed x)) (list_all (λ (a : Asking). not (is_failed a)) xs) k in
    let one : is_done x ≡ true = by_test (is_done x) (is_failed x) p.0 q.0 in
    let rest : list_all is_done xs ≡ true = calm_done xs p.1 q.1 in
    rw (one, rest) refl
  where
    by_test : (a b : Bool) → (a || b) ≡ true → not b ≡ true → a ≡ true
    by_test true b h k = refl
    by_test false true h k = apart k
    by_test false false h k = apart h

item-drop : {X : Type 0} (k : ℕ) (xs : List X) → item 0 (drop k xs) ≡ item k xs
item-drop zero xs = refl
item-drop (suc k) [] = refl
item-drop (suc k) (x ∷ xs) = item-drop k xs

-- What was asked last are keys of the layout after those that failed, in their order.
pub record LastAsks (ask : ℕ → List ℕ → HostMessage) (layouts : List (List Parts)) (asked : List Asking) : Type 0 where
  pub few : failures asked ≤ length layouts
  pub in_order : AskInOrder ask (first_asked asked) (unwrap_or (item (failures asked) layouts) []) (asked_last asked)

pub last_asks : (ask : ℕ → List ℕ → HostMessage) (layouts : List (List Parts)) (asked : List Asking) → list_all is_failed (filter (λ (a : Asking). not (is_done a)) (all_but_last asked)) ≡ true
    → RoundsAsk ask 1 layouts (rounds asked) → LastAsks ask layouts asked
last_asks ask layouts asked failed r = by_last (last_of is_failed asked)
  where
    calm : list_all is_calm (all_but_last asked) ≡ true
    calm = failed_calm (all_but_last asked) failed

    none_of : list_all (λ (a : Asking). not (is_failed a)) asked ≡ true → LastAsks ask layouts asked
    none_of none =
        let zero_failed : failures asked ≡ 0 = count_none is_failed asked none in
        let last : asked_last asked ≡ asked = after_last-none is_failed asked none in
        let done : list_all is_done (all_but_last asked) ≡ true = calm_done (all_but_last asked) calm (all_taken (λ (a : Asking). not (is_failed a)) (length asked - 1) asked none) in
        let one : AskInOrder ask 1 (unwrap_or (item 0 layouts) []) asked = rest_asks ask 1 layouts asked done r in
        let first : first_asked asked ≡ 1 = ap (λ (x : List Asking). length asked - length x + 1) last ∙ omega arith in
        let P : List Asking → Type 0 = λ x. AskInOrder ask 1 (unwrap_or (item 0 layouts) []) x in
        let Q : ℕ → Type 0 = λ k. AskInOrder ask 1 (unwrap_or (item k layouts) []) (asked_last asked) in
        let R : ℕ → Type 0 = λ k. AskInOrder ask k (unwrap_or (item (failures asked) layouts) []) (asked_last asked) in
        record { few = omega arith; in_order = subst R (sym first) (subst Q (sym zero_failed) (subst P (sym last) one)) }

    some_of : Last is_failed asked → LastAsks ask layouts asked
    some_of l =
        let C : List Asking → Type 0 = λ x. list_all is_calm (all_but_last x) ≡ true in
        let S : List Asking → Type 0 = λ x. RoundsAsk ask 1 layouts (rounds x) in
        let parts = all_front is_calm l.front l.one l.rest (subst C l.is calm) in
        let behind : Behind ask (1 + length l.front + 1) layouts (failures l.front + 1) l.rest = rounds_behind ask 1 layouts l.front l.one l.rest parts.0 l.kind (subst S l.is r) in
        let ones : failures (l.one ∷ l.rest) ≡ 1 =
        sum_by-cons (λ (x : Asking). cond (is_failed x) 1 0) l.one l.rest ∙ ap (λ (b : Bool). cond b 1 0 + failures l.rest) l.kind ∙ ap (λ (k : ℕ). 1 + k) (count_none is_failed l.rest l.none) in
        let count : failures asked ≡ failures l.front + 1 = ap failures l.is ∙ count_more is_failed l.front (l.one ∷ l.rest) ∙ ap (λ (k : ℕ). failures l.front + k) ones in
        let last : asked_last asked ≡ l.rest = ap asked_last l.is ∙ after_last-at is_failed l.front l.one l.rest l.none l.kind in
        let long : length asked ≡ length l.front + length (l.one ∷ l.rest) = ap length l.is ∙ length-append l.front (l.one ∷ l.rest) in
        let first : first_asked asked ≡ 1 + length l.front + 1 = ap (λ (x : List Asking). length asked - length x + 1) last ∙ omega arith in
        let done : list_all is_done (all_but_last l.rest) ≡ true =
        calm_done (all_but_last l.rest) (all_behind is_calm l.one l.rest parts.1) (all_taken (λ (a : Asking). not (is_failed a)) (length l.rest - 1) l.rest l.none) in
        let one : AskInOrder ask (1 + length l.front + 1) (unwrap_or (item 0 (drop (failures l.front + 1) layouts)) []) l.rest =
        rest_asks ask (1 + length l.front + 1) (drop (failures l.front + 1) layouts) l.rest done behind.asks in
        let keys : item 0 (drop (failures l.front + 1) layouts) ≡ item (failures asked) layouts = item-drop (failures l.front + 1) layouts ∙ ap (λ (k : ℕ). item k layouts) (sym count) in
        let few : failures l.front + 1 ≤ length layouts = behind.few in
        let P : Option (List Parts) → Type 0 = λ o. AskInOrder ask (1 + length l.front + 1) (unwrap_or o []) l.rest in
        let Q : List Asking → Type 0 = λ x. AskInOrder ask (1 + length l.front + 1) (unwrap_or (item (failures asked) layouts) []) x in
        let R : ℕ → Type 0 = λ k. AskInOrder ask k (unwrap_or (item (failures asked) layouts) []) (asked_last asked) in
        record { few = omega arith; in_order = subst R (sym first) (subst Q (sym last) (subst P keys one)) }

    by_last : (list_all (λ (a : Asking). not (is_failed a)) asked ≡ true) ⊎ Last is_failed asked → LastAsks ask layouts asked
    by_last (inl none) = none_of none
    by_last (inr l) = some_of l
