-- Laws of lists that runs of any work need.
use Rattle.std.proofs.Common.{◌≡◌, ℕ, zero, suc, ◌+◌, ◌-◌, List, [], ◌∷◌, ◌++◌, length, refl, arith, take, length-append}
use Rattle.std.specs.Prelude.{Bool, true, false, ◌&&◌, Option, Some, None, is_none}
use Rattle.std.specs.List.{list_all, filter_map, cons_option}
use Rattle.std.proofs.Math.Seq.{take-append_seam}
use Rattle.task_model.specs.Stops.{all_but_last}
use Rattle.ann_key.proofs.Booleans.{false_is_true as apart}

pub all_taken : {X : Type 0} (p : X → Bool) (k : ℕ) (xs : List X) → list_all p xs ≡ true → list_all p (take k xs) ≡ true
all_taken p zero xs h = refl
all_taken p (suc k) [] h = refl
all_taken p (suc k) (x ∷ xs) h = both (p x) (list_all p xs) (list_all p (take k xs)) h (all_taken p k xs)
  where
    both : (a b c : Bool) → (a && b) ≡ true → (b ≡ true → c ≡ true) → (a && c) ≡ true
    both true b c e k = k e
    both false b c e k = apart e

stop_by_case : {X Y : Type 0} (f : X → Option Y) (o : Option Y) (xs : List X) → (is_none o && list_all (λ x. is_none (f x)) xs) ≡ true
    → (list_all (λ x. is_none (f x)) xs ≡ true → filter_map f xs ≡ []) → cons_option o (filter_map f xs) ≡ []
stop_by_case f None xs e k = k e
stop_by_case f (Some y) xs e k = apart e

pub none_stop : {X Y : Type 0} (f : X → Option Y) (xs : List X) → list_all (λ x. is_none (f x)) xs ≡ true → filter_map f xs ≡ []
none_stop f [] h = refl
none_stop f (x ∷ xs) h = stop_by_case f (f x) xs h (none_stop f xs)

pub but_last : {X : Type 0} (xs : List X) (x : X) → all_but_last (xs ++ x ∷ []) ≡ xs
but_last xs x =
    let n : length (xs ++ x ∷ []) ≡ length xs + 1 = length-append xs (x ∷ []) in
    let e : length (xs ++ x ∷ []) - 1 ≡ length xs = omega arith in
    rw e (take-append_seam xs (x ∷ []))
