-- Laws of requests in rounds.
use Rattle.std.proofs.Common.{◌≡◌, ◌∙◌, ℕ, ◌+◌, Bool, true, false, cond, List, [], ◌∷◌, ◌++◌, length, refl, sym, ap, subst, arith, append-nil}
use Rattle.std.specs.Prelude.{count_by}
use Rattle.std.specs.List.{list_all, onto_first}
use Rattle.std.proofs.lemmas.Bool.{and_parts}
use Rattle.std.proofs.lemmas.List.Sums.{sum_by-cons, sum_by-append}
use Rattle.annex_model.specs.Messages.{HostMessage}
use Rattle.ann_key.specs.Keys.{Parts}
use Rattle.task_model.specs.Askers.{Asking}
use Rattle.task_model.specs.Stops.{is_done}
use Rattle.task_model.specs.Requests.{AskInOrder, rounds, RoundsAsk}
use Rattle.task_model.specs.Gets.{item}
use Rattle.ann_key.proofs.Lists.{all_more as list_all-append}

-- ---- one round

pub round_done : (d : Asking) (ds : List Asking) → list_all is_done (d ∷ ds) ≡ true → rounds (d ∷ ds) ≡ (d ∷ ds) ∷ []
round_done d [] h = let p = and_parts (is_done d) true h in let one : is_done d ≡ true = p.0 in rw one refl
round_done d (e ∷ ds) h =
    let p = and_parts (is_done d) (list_all is_done (e ∷ ds)) h in
    let one : is_done d ≡ true = p.0 in
    let rest : rounds (e ∷ ds) ≡ (e ∷ ds) ∷ [] = round_done e ds p.1 in
    ap (λ (b : Bool). cond b (onto_first d (rounds (e ∷ ds))) ((d ∷ []) ∷ rounds (e ∷ ds))) one ∙ ap (onto_first d) rest

pub round_ended : (ds : List Asking) (x : Asking) (next : List Asking) → list_all is_done ds ≡ true → is_done x ≡ false
    → rounds ((ds ++ x ∷ []) ++ next) ≡ (ds ++ x ∷ []) ∷ rounds next
round_ended [] x next h f = ap (λ (b : Bool). cond b (onto_first x (rounds next)) ((x ∷ []) ∷ rounds next)) f
round_ended (d ∷ ds) x next h f =
    let p = and_parts (is_done d) (list_all is_done ds) h in
    let one : is_done d ≡ true = p.0 in
    let rest : rounds ((ds ++ x ∷ []) ++ next) ≡ (ds ++ x ∷ []) ∷ rounds next = round_ended ds x next p.1 f in
    ap (λ (b : Bool). cond b (onto_first d (rounds ((ds ++ x ∷ []) ++ next))) ((d ∷ []) ∷ rounds ((ds ++ x ∷ []) ++ next))) one ∙ ap (onto_first d) rest

-- requests of one layout alone, all of which are done
pub asks_done : (ask : ℕ → List ℕ → HostMessage) (n : ℕ) (keys : List Parts) (more : List (List Parts)) (ds : List Asking)
    → list_all is_done ds ≡ true → AskInOrder ask n keys ds → RoundsAsk ask n (keys ∷ more) (rounds ds)
asks_done ask n keys more [] h a = tt
asks_done ask n keys more (d ∷ ds) h a =
    let P : List (List Asking) → Type 0 = λ rs. RoundsAsk ask n (keys ∷ more) rs in
    subst P (sym (round_done d ds h)) (a, tt)

-- of which all but the last are
pub asks_last : (ask : ℕ → List ℕ → HostMessage) (n : ℕ) (keys : List Parts) (more : List (List Parts)) (ds : List Asking) (x : Asking)
    → list_all is_done ds ≡ true → AskInOrder ask n keys (ds ++ x ∷ []) → RoundsAsk ask n (keys ∷ more) (rounds (ds ++ x ∷ []))
asks_last ask n keys more ds x h a = by_test (is_done x) refl
  where
    by_test : (b : Bool) → is_done x ≡ b → RoundsAsk ask n (keys ∷ more) (rounds (ds ++ x ∷ []))
    by_test true e = asks_done ask n keys more (ds ++ x ∷ []) (list_all-append is_done ds (x ∷ []) h (rw e refl)) a
    by_test false e =
        let P : List (List Asking) → Type 0 = λ rs. RoundsAsk ask n (keys ∷ more) rs in
        let is : rounds (ds ++ x ∷ []) ≡ (ds ++ x ∷ []) ∷ [] = ap rounds (sym (append-nil (ds ++ x ∷ []))) ∙ round_ended ds x [] h e in
        subst P (sym is) (a, tt)

-- ---- counts

pub count_all : {X : Type 0} (p : X → Bool) (xs : List X) → list_all p xs ≡ true → count_by p xs ≡ length xs
count_all p [] h = refl
count_all p (x ∷ xs) h =
    let q = and_parts (p x) (list_all p xs) h in
    let one : p x ≡ true = q.0 in
    let rest : count_by p xs ≡ length xs = count_all p xs q.1 in
    sum_by-cons (λ y. cond (p y) 1 0) x xs ∙ rw (one, rest) (omega arith)

pub count_more : {X : Type 0} (p : X → Bool) (xs ys : List X) → count_by p (xs ++ ys) ≡ count_by p xs + count_by p ys
count_more p xs ys = sum_by-append (λ y. cond (p y) 1 0) xs ys

-- ---- places

pub item_behind : {X : Type 0} (xs ys : List X) → item (length xs) (xs ++ ys) ≡ item 0 ys
item_behind [] ys = refl
item_behind (x ∷ xs) ys = item_behind xs ys
