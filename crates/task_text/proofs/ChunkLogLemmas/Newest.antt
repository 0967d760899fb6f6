-- The newest first.
use Rattle.std.proofs.Common.{◌≡◌, ℕ, zero, suc, ◌+◌, ◌<◌, Bool, true, false, not, cond, List, [], ◌∷◌, ◌++◌, length, get_or, fold, refl, sym, subst, arith, append-nil, add-one, IsPermutation}
use Rattle.std.specs.Prelude.{insert}
use Rattle.std.specs.List.{position_or_len}
use Rattle.std.specs.List.Sorted.{IsSortedBy}
use Rattle.std.proofs.lemmas.Bool.Decides.{nat_tests}
use Rattle.std.proofs.lemmas.List.Sorted.{IsPermutation-append_left, IsPermutation-insert, IsPermutation-middle, IsPermutation-refl, IsPermutation-trans}
use Rattle.task_text.specs.ChunkLog.Current.{in_rank, layouts_of, ranked, standings_of, stands_before, IsCurrent}
use Rattle.task_text.specs.declared.chunk_log.note.Note.{Note}
use Rattle.task_text.specs.declared.chunk_log.standing.Standing.{Standing}

-- ---- in order

abbrev IsHead : Standing → List Standing → Type 0
IsHead s [] = Unit {0}
IsHead s (t ∷ ts) = stands_before t s ≡ false

-- none stands before the one in front of it
abbrev AreRanked : List Standing → Type 0
AreRanked [] = Unit {0}
AreRanked (s ∷ ss) = IsHead s ss × AreRanked ss

one_way : (s t : Standing) → stands_before s t ≡ true → stands_before t s ≡ false
one_way s t h = grind (arith, nat_tests)

one_suc : (n : ℕ) → 1 + n ≡ suc n
one_suc n = omega arith

ranked-cons : (s x : Standing) (xs : List Standing) → ranked s (x ∷ xs) ≡ cond (stands_before s x) (s ∷ x ∷ xs) (x ∷ ranked s xs)
ranked-cons s x xs = go (stands_before s x)
  where
    n : ℕ
    n = position_or_len (stands_before s) xs

    go : (b : Bool) → insert (x ∷ xs) (cond (not b) (1 + n) 0) s ≡ cond b (s ∷ x ∷ xs) (x ∷ insert xs n s)
    go true = refl
    go false = rw one_suc refl

head_stays : (s x : Standing) (xs : List Standing) → stands_before s x ≡ false → IsHead x xs → IsHead x (ranked s xs)
head_stays s x [] behind head = behind
head_stays s x (y ∷ ys) behind head = rw ranked-cons (go (stands_before s y))
  where
    go : (b : Bool) → IsHead x (cond b (s ∷ y ∷ ys) (y ∷ ranked s ys))
    go true = behind
    go false = head

ranked_stay : (s : Standing) (xs : List Standing) → AreRanked xs → AreRanked (ranked s xs)
ranked_stay s [] h = (tt, tt)
ranked_stay s (x ∷ xs) h = rw ranked-cons (go (stands_before s x) refl (ranked_stay s xs h.1))
  where
    go : (b : Bool) → stands_before s x ≡ b → AreRanked (ranked s xs) → AreRanked (cond b (s ∷ x ∷ xs) (x ∷ ranked s xs))
    go true e rest = (one_way s x e, h)
    go false e rest = (head_stays s x xs e h.0, rest)

all_ranked : (ss others : List Standing) → AreRanked others → AreRanked (fold (λ l s. ranked s l) others ss)
all_ranked [] others h = h
all_ranked (s ∷ ss) others h = all_ranked ss (ranked s others) (ranked_stay s others h)

next : (xs : List Standing) (k : ℕ) (d : Standing) → AreRanked xs → suc k < length xs → stands_before (get_or xs (suc k) d) (get_or xs k d) ≡ false
next [] k d h long = absurd (omega arith)
next (x ∷ []) k d h long = absurd (omega arith)
next (x ∷ y ∷ ys) zero d h long = h.0
next (x ∷ y ∷ ys) (suc k) d h long = next (y ∷ ys) k d h.1 (omega arith)

in_order : (xs : List Standing) → AreRanked xs → IsSortedBy stands_before xs
in_order xs h k d low high = let long : suc k < length xs = omega arith in rw add-one (next xs k d h long)

-- ---- the same ones

all_kept : (ss others : List Standing) → IsPermutation (others ++ ss) (fold (λ l s. ranked s l) others ss)
all_kept [] others = subst (λ (l : List Standing). IsPermutation l others) (sym (append-nil others)) (IsPermutation-refl others)
all_kept (s ∷ ss) others =
    IsPermutation-trans (others ++ s ∷ ss) (ranked s others ++ ss) (fold (λ l t. ranked t l) (ranked s others) ss)
    (IsPermutation-trans (others ++ s ∷ ss) (s ∷ (others ++ ss)) (ranked s others ++ ss) (IsPermutation-middle others s ss)
    (IsPermutation-append_left ss (s ∷ others) (ranked s others) (IsPermutation-insert others (position_or_len (stands_before s) others) s)))
    (all_kept ss (ranked s others))

pub layouts_current : (notes : List Note) (key uuid : List ℕ) → IsCurrent notes key uuid (layouts_of notes key uuid)
unfolding layouts_of
layouts_current notes key uuid = record {
  standing = in_rank (standings_of notes key uuid);
  those = all_kept (standings_of notes key uuid) [];
  order = in_order (in_rank (standings_of notes key uuid)) (all_ranked (standings_of notes key uuid) [] tt);
  pairs = refl;
}
