-- The entries since a child's start.
use Rattle.std.proofs.Common.{◌≡◌, ℕ, List, [], ◌∷◌, ◌++◌, refl, ◌∙◌, Bool, true, false, cond, ◌==◌}
use Rattle.std.specs.Prelude.{◌||◌}
use Rattle.journal_model.specs.declared.entry.What.TheVariants.{Start}
use Rattle.journal_model.specs.declared.entry.Entry.{Entry}
use Rattle.journal_model.specs.Journal.{is_started, starts}
use Rattle.journal_model.specs.Shares.{are_by}
use Rattle.run_starts.specs.Stints.{main_entry}
use Rattle.run_children.specs.Posts.{since_start}
use Rattle.std.proofs.lemmas.Bool.{and_parts as both}
use Rattle.ann_key.proofs.Booleans.{left_false as either_left, right_false as either_right}
use Rattle.ann_key.proofs.Numbers.{same_number as same}

pub since_more : (c : ℕ) (past more : List Entry) → is_started past c ≡ true → since_start c (past ++ more) ≡ since_start c past ++ more
since_more c [] more h = absurd cc
since_more c (e ∷ past) more h = go (starts c e.what) h (since_more c past more)
  where
    go : (b : Bool) → (b || is_started past c) ≡ true → (is_started past c ≡ true → since_start c (past ++ more) ≡ since_start c past ++ more)
        → cond b (past ++ more) (since_start c (past ++ more)) ≡ cond b past (since_start c past) ++ more
    go true k r = refl
    go false k r = r k

pub since_new : (c : ℕ) (old more : List Entry) → is_started old c ≡ false → since_start c (old ++ more) ≡ since_start c more
since_new c [] more h = refl
since_new c (e ∷ old) more h = rw (either_left (starts c e.what) (is_started old c) h) (since_new c old more (either_right (starts c e.what) (is_started old c) h))

pub since_begun : (c slot : ℕ) (offer : Bool) (old more : List Entry) → is_started old c ≡ false → since_start c (old ++ main_entry (Start c slot offer) ∷ more) ≡ more
since_begun c slot offer old more h = since_new c old (main_entry (Start c slot offer) ∷ more) h ∙ (rw (same c) refl)

-- where the main thread made all, it made all since then
pub since_main : (c : ℕ) (xs : List Entry) → are_by 0 xs ≡ true → are_by 0 (since_start c xs) ≡ true
since_main c [] h = refl
since_main c (e ∷ xs) h =
    let t = both (e.by == 0) (are_by 0 xs) h in
    go (starts c e.what) t.1 (since_main c xs t.1)
  where
    go : (b : Bool) → are_by 0 xs ≡ true → are_by 0 (since_start c xs) ≡ true → are_by 0 (cond b xs (since_start c xs)) ≡ true
    go true k r = k
    go false k r = r
