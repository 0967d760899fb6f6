-- The names of a task's files: which differ, and that none holds a line's end.
use Rattle.std.proofs.Common.{◌≡◌, ◌∙◌, ℕ, ◌<◌, ◌^◌, ◌/◌, ◌%◌, zero, suc, List, [], ◌∷◌, ◌++◌, refl, sym, ap, subst, arith}
use Rattle.std.specs.Prelude.{codes, bytes_eq, ◌==◌, nat_le, Bool, true, false, if◌then◌else◌}
use Rattle.std.specs.List.{list_any}
use Rattle.std.specs.Fmt.{decimal, digits, digits_onto, digit_glyph}
use Rattle.std.proofs.lemmas.Fmt.{digits_value-decimal}
use Rattle.std.proofs.lemmas.List.{append_cancel_left, append_cancel_right}
use Rattle.std.proofs.lemmas.List.Folds.{list_any-append}
use Rattle.std.proofs.lemmas.Bool.Decides.{nat_tests}
use Rattle.ann_key.specs.Numbers.{value_of}
use Rattle.ann_key.proofs.Unique.{own_numbers}
use Rattle.task_model.specs.declared.setup.Setup.{Setup}
use Rattle.task_model.specs.declared.turn.TaskTurn.{TaskTurn}
use Rattle.task_model.specs.Names.{request_file, chunk_file, fetch_file, part_of, turn_text}
use Rattle.ann_key.proofs.Lists.{other_name}
use Rattle.ann_key.proofs.Booleans.{false_is_true as apart}

abbrev pub last_in : List ℕ → ℕ
last_in [] = 0
last_in (x ∷ []) = x
last_in (x ∷ y ∷ ys) = last_in (y ∷ ys)

-- the last byte is the ending's
pub ends_with : (xs : List ℕ) (y : ℕ) (ys : List ℕ) → last_in (xs ++ y ∷ ys) ≡ last_in (y ∷ ys)
ends_with [] y ys = refl
ends_with (x ∷ []) y ys = refl
ends_with (x ∷ z ∷ xs) y ys = ends_with (z ∷ xs) y ys

pub fetch_differs : (setup : Setup) (t : TaskTurn) (n : ℕ) (file : List ℕ) → fetch_file setup t n ≡ part_of file → ⊥
fetch_differs setup t n file e =
    let a = ends_with (setup.work ++ codes "/" ++ decimal setup.stamp ++ codes "-" ++ decimal t.task ++ codes "-" ++ decimal n ++ turn_text t.turn) 46 (codes "fetch") in
    let b = ends_with file 46 (codes "part") in
    differ 104 116 refl refl (sym a ∙ ap last_in e ∙ b)
  where
    differ : (x y : ℕ) → (x == 104) ≡ true → (y == 104) ≡ false → x ≡ y → ⊥
    differ x y p q e = let P : ℕ → Type 0 = λ n. (n == 104) ≡ true in apart (sym q ∙ subst P e p)

-- no line ends in a number
abbrev pub has_end : List ℕ → Bool
has_end text = list_any (λ b. b == 10) text

glyph_is_none : (d : ℕ) → (digit_glyph false d == 10) ≡ false
glyph_is_none d = grind (arith, nat_tests)

onto : (k n : ℕ) (behind : List ℕ) → has_end behind ≡ false → has_end (digits_onto k 10 false n behind) ≡ false
onto zero n behind h = h
onto (suc k) n behind h = by_test (n / 10 == 0) first (onto k (n / 10) (digit_glyph false (n % 10) ∷ behind) first)
  where
    first : has_end (digit_glyph false (n % 10) ∷ behind) ≡ false
    first = rw (glyph_is_none (n % 10), h) refl

    by_test : (b : Bool) → has_end (digit_glyph false (n % 10) ∷ behind) ≡ false → has_end (digits_onto k 10 false (n / 10) (digit_glyph false (n % 10) ∷ behind)) ≡ false
        → has_end (if b then digit_glyph false (n % 10) ∷ behind else digits_onto k 10 false (n / 10) (digit_glyph false (n % 10) ∷ behind)) ≡ false
    by_test true x y = x
    by_test false x y = y

pub decimal_has_none : (n : ℕ) → has_end (decimal n) ≡ false
unfolding digits
decimal_has_none n = onto 64 n [] refl

pub none_in_both : (xs ys : List ℕ) → has_end xs ≡ false → has_end ys ≡ false → has_end (xs ++ ys) ≡ false
none_in_both xs ys a b = rw (list_any-append (λ b. b == 10) xs ys) (rw (a, b) refl)

turn_has_none : (turn : ℕ) → has_end (turn_text turn) ≡ false
turn_has_none turn = by_test (nat_le turn 1)
  where
    by_test : (b : Bool) → has_end (if b then [] else codes "-" ++ decimal turn) ≡ false
    by_test true = refl
    by_test false = none_in_both (codes "-") (decimal turn) refl (decimal_has_none turn)

pub fetch_has_none : (setup : Setup) (t : TaskTurn) (n : ℕ) → has_end setup.work ≡ false → has_end (fetch_file setup t n) ≡ false
fetch_has_none setup t n w =
    let c = none_in_both setup.work (codes "/") w refl in
    let d = none_in_both (setup.work ++ codes "/") (decimal setup.stamp) c (decimal_has_none setup.stamp) in
    let e = none_in_both (setup.work ++ codes "/" ++ decimal setup.stamp) (codes "-") d refl in
    let f = none_in_both (setup.work ++ codes "/" ++ decimal setup.stamp ++ codes "-") (decimal t.task) e (decimal_has_none t.task) in
    let g = none_in_both (setup.work ++ codes "/" ++ decimal setup.stamp ++ codes "-" ++ decimal t.task) (codes "-") f refl in
    let h = none_in_both (setup.work ++ codes "/" ++ decimal setup.stamp ++ codes "-" ++ decimal t.task ++ codes "-") (decimal n) g (decimal_has_none n) in
    let i = none_in_both (setup.work ++ codes "/" ++ decimal setup.stamp ++ codes "-" ++ decimal t.task ++ codes "-" ++ decimal n) (turn_text t.turn) h (turn_has_none t.turn) in
    none_in_both (setup.work ++ codes "/" ++ decimal setup.stamp ++ codes "-" ++ decimal t.task ++ codes "-" ++ decimal n ++ turn_text t.turn) (codes ".fetch") i refl

pub same_request : (setup : Setup) (t : TaskTurn) (n m : ℕ) (ending : List ℕ) → n < 2 ^ 64 → m < 2 ^ 64 → request_file setup t n ending ≡ request_file setup t m ending → n ≡ m
same_request setup t n m ending a b e =
    let front : List ℕ = setup.work ++ codes "/" ++ decimal setup.stamp ++ codes "-" ++ decimal t.task ++ codes "-" in
    let turn : List ℕ = turn_text t.turn in
    let alike : front ++ decimal n ++ turn ≡ front ++ decimal m ++ turn = append_cancel_right (front ++ decimal n ++ turn) (front ++ decimal m ++ turn) ending e in
    let numbers : decimal n ≡ decimal m = append_cancel_left front (decimal n) (decimal m) (append_cancel_right (front ++ decimal n) (front ++ decimal m) turn alike) in
    sym (digits_value-decimal own_numbers n a) ∙ ap value_of numbers ∙ digits_value-decimal own_numbers m b

pub chunk_files_differ : (setup : Setup) (t : TaskTurn) (n m : ℕ) → n < 2 ^ 64 → m < 2 ^ 64 → (n ≡ m → ⊥) → bytes_eq (chunk_file setup t n) (chunk_file setup t m) ≡ false
chunk_files_differ setup t n m a b d = other_name (chunk_file setup t n) (chunk_file setup t m) (λ e. d (same_request setup t n m (codes ".chunk") a b e))

pub fetch_files_differ : (setup : Setup) (t : TaskTurn) (n m : ℕ) → n < 2 ^ 64 → m < 2 ^ 64 → (n ≡ m → ⊥) → bytes_eq (fetch_file setup t n) (fetch_file setup t m) ≡ false
fetch_files_differ setup t n m a b d = other_name (fetch_file setup t n) (fetch_file setup t m) (λ e. d (same_request setup t n m (codes ".fetch") a b e))

chunk_is_not_part : (setup : Setup) (t : TaskTurn) (n : ℕ) (file : List ℕ) → chunk_file setup t n ≡ part_of file → ⊥
chunk_is_not_part setup t n file e =
    let a = ends_with (setup.work ++ codes "/" ++ decimal setup.stamp ++ codes "-" ++ decimal t.task ++ codes "-" ++ decimal n ++ turn_text t.turn) 46 (codes "chunk") in
    let b = ends_with file 46 (codes "part") in
    differ 107 116 refl refl (sym a ∙ ap last_in e ∙ b)
  where
    differ : (x y : ℕ) → (x == 107) ≡ true → (y == 107) ≡ false → x ≡ y → ⊥
    differ x y p q e = let P : ℕ → Type 0 = λ n. (n == 107) ≡ true in apart (sym q ∙ subst P e p)

pub chunk_not_part : (setup : Setup) (t : TaskTurn) (n : ℕ) (file : List ℕ) → bytes_eq (chunk_file setup t n) (part_of file) ≡ false
chunk_not_part setup t n file = other_name (chunk_file setup t n) (part_of file) (chunk_is_not_part setup t n file)

pub chunk_has_none : (setup : Setup) (t : TaskTurn) (n : ℕ) → has_end setup.work ≡ false → has_end (chunk_file setup t n) ≡ false
chunk_has_none setup t n w =
    let c = none_in_both setup.work (codes "/") w refl in
    let d = none_in_both (setup.work ++ codes "/") (decimal setup.stamp) c (decimal_has_none setup.stamp) in
    let e = none_in_both (setup.work ++ codes "/" ++ decimal setup.stamp) (codes "-") d refl in
    let f = none_in_both (setup.work ++ codes "/" ++ decimal setup.stamp ++ codes "-") (decimal t.task) e (decimal_has_none t.task) in
    let g = none_in_both (setup.work ++ codes "/" ++ decimal setup.stamp ++ codes "-" ++ decimal t.task) (codes "-") f refl in
    let h = none_in_both (setup.work ++ codes "/" ++ decimal setup.stamp ++ codes "-" ++ decimal t.task ++ codes "-") (decimal n) g (decimal_has_none n) in
    let i = none_in_both (setup.work ++ codes "/" ++ decimal setup.stamp ++ codes "-" ++ decimal t.task ++ codes "-" ++ decimal n) (turn_text t.turn) h (turn_has_none t.turn) in
    none_in_both (setup.work ++ codes "/" ++ decimal setup.stamp ++ codes "-" ++ decimal t.task ++ codes "-" ++ decimal n ++ turn_text t.turn) (codes ".chunk") i refl
