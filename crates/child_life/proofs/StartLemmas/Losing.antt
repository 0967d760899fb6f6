-- What loses no request, and how many requests two stretches lose.
use Rattle.std.proofs.Common.{◌≡◌, ℕ, suc, List, [], ◌∷◌, ◌++◌, length, refl, sym, ap, ◌∙◌, Bool, true, false, cond}
use Rattle.std.specs.Prelude.{◌||◌, filter}
use Rattle.std.specs.List.{list_all}
use Rattle.journal_model.specs.declared.entry.What.{What}
use Rattle.journal_model.specs.declared.entry.What.TheVariants.{Lost}
use Rattle.journal_model.specs.declared.entry.Entry.{Entry}
use Rattle.journal_model.specs.Journal.{any}
use Rattle.journal_model.specs.Legality.{count}
use Rattle.journal_model.specs.Shares.{by_link}
use Rattle.journal_model.proofs.Looks.{any-append}
use Rattle.child_life.specs.Start.Greetings.{loses}
use Rattle.ann_key.proofs.Booleans.{or_off}
use Rattle.std.proofs.lemmas.Bool.{and_parts as both}

link_loses : (c d : ℕ) (w : What) → by_link d w ≡ true → loses c w ≡ false
link_loses c d (Lost child task) h = absurd cc
link_loses c d w h = refl

-- the entries of a link
pub links_unlost : (c d : ℕ) (more : List Entry) → list_all (λ (e : Entry). by_link d e.what) more ≡ true → any (loses c) more ≡ false
links_unlost c d [] h = refl
links_unlost c d (e ∷ more) h =
    let t = both (by_link d e.what) (list_all (λ (x : Entry). by_link d x.what) more) h in
    rw (link_loses c d e.what t.0, links_unlost c d more t.1) refl

-- where the first loses none, both lose what the second does
pub count_behind : (c : ℕ) (xs ys : List Entry) → any (loses c) xs ≡ false → count (loses c) (xs ++ ys) ≡ count (loses c) ys
count_behind c [] ys h = refl
count_behind c (e ∷ xs) ys h = go (loses c e.what) h (count_behind c xs ys)
  where
    go : (b : Bool) → (b || any (loses c) xs) ≡ false → (any (loses c) xs ≡ false → count (loses c) (xs ++ ys) ≡ count (loses c) ys)
        → length (cond b (e ∷ filter (λ (x : Entry). loses c x.what) (xs ++ ys)) (filter (λ (x : Entry). loses c x.what) (xs ++ ys))) ≡ count (loses c) ys
    go true k r = absurd cc
    go false k r = r k

pub count_none : (c : ℕ) (xs : List Entry) → any (loses c) xs ≡ false → count (loses c) xs ≡ 0
count_none c [] h = refl
count_none c (e ∷ xs) h = go (loses c e.what) h (count_none c xs)
  where
    go : (b : Bool) → (b || any (loses c) xs) ≡ false → (any (loses c) xs ≡ false → count (loses c) xs ≡ 0)
        → length (cond b (e ∷ filter (λ (x : Entry). loses c x.what) xs) (filter (λ (x : Entry). loses c x.what) xs)) ≡ 0
    go true k r = absurd cc
    go false k r = r k

-- and where the second loses none, what the first does
pub count_before : (c : ℕ) (xs ys : List Entry) → any (loses c) ys ≡ false → count (loses c) (xs ++ ys) ≡ count (loses c) xs
count_before c [] ys h = count_none c ys h
count_before c (e ∷ xs) ys h = go (loses c e.what) (count_before c xs ys h)
  where
    go : (b : Bool) → count (loses c) (xs ++ ys) ≡ count (loses c) xs
        → length (cond b (e ∷ filter (λ (x : Entry). loses c x.what) (xs ++ ys)) (filter (λ (x : Entry). loses c x.what) (xs ++ ys)))
        ≡ length (cond b (e ∷ filter (λ (x : Entry). loses c x.what) xs) (filter (λ (x : Entry). loses c x.what) xs))
    go true r = ap suc r
    go false r = r

-- a stretch after which nothing is new lost none
pub unlost_more : (c : ℕ) (old new more : List Entry) → new ≡ old ++ more → any (loses c) new ≡ any (loses c) old → any (loses c) old ≡ false → any (loses c) more ≡ false
unlost_more c old new more is same_losses none =
    sym (ap (λ (b : Bool). b || any (loses c) more) none) ∙ sym (any-append (loses c) old more) ∙ ap (any (loses c)) (sym is) ∙ same_losses ∙ none

-- a stretch that loses none changes nothing
pub unlost_on : (c : ℕ) (old new more : List Entry) → new ≡ old ++ more → any (loses c) more ≡ false → any (loses c) new ≡ any (loses c) old
unlost_on c old new more is none = ap (any (loses c)) is ∙ any-append (loses c) old more ∙ or_off (any (loses c) old) (any (loses c) more) none
