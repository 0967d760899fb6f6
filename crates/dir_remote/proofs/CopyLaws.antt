-- How a copy goes, piece by piece.
use Rattle.std.proofs.Common.{◌≡◌, ◌≢◌, ◌∙◌, ℕ, ◌+◌, List, [], ◌++◌, take, drop, refl, sym, ap, subst}
use Rattle.std.specs.Prelude.{Option, Some, None, IfSome, option_map, Result, Ok, Err}
use Rattle.std.proofs.Math.Seq.{take-add}
use Rattle.std.proofs.lemmas.List.{take_all}
use Rattle.ann_outside.specs.Files.{Files, content, WhereTold, OthersStay, ReadIs, CreateDoes, CreateNewDoes, AppendDoes, RemoveDoes}
use Rattle.ann_outside.specs.declared.file_desk.DeskError.{DeskError}
use Rattle.ann_outside.specs.declared.file_desk.DeskError.TheVariants.{Failed, Missing, NoMemory}
use Rattle.dir_remote.specs.Copies.{PieceDoes, Copying, CopyDoes}
use Rattle.dir_remote.proofs.Telling.{told_and}
use Rattle.ann_key.proofs.Lists.{map_nil}
use Rattle.ann_outside.proofs.Across.{told_refl, where_then as told_both, where_so as told_map, told_same}

some_none : (l : List ℕ) → Some l ≡ None → ⊥
some_none l e = cc

pub some_of : {A : Type 0} → (o : Option A) → o ≢ None → (x : A) × (o ≡ Some x)
some_of None h = absurd (h refl)
some_of (Some x) h = (x, refl)

-- ---- one piece

pub append_others : (name piece : List ℕ) (result : Result (Unit {0}) DeskError) (x y : Files) → AppendDoes name piece result x y → OthersStay (λ other. other ≡ name) x y
append_others name piece (Ok done) x y h = h.2
append_others name piece (Err Failed) x y h = h.1
append_others name piece (Err Missing) x y h = λ other d. h.1 other
append_others name piece (Err NoMemory) x y h = λ other d. h other

pub others_refl : (to : List ℕ) (a b : Option Files) → b ≡ a → WhereTold a b (OthersStay (λ other. other ≡ to))
others_refl to a b same = rw same (told_refl (OthersStay (λ other. other ≡ to)) a (λ x other d. refl))

pub others_append : (to piece : List ℕ) (result : Result (Unit {0}) DeskError) (a b c : Option Files) → b ≡ a
    → WhereTold b c (AppendDoes to piece result) → WhereTold a c (OthersStay (λ other. other ≡ to))
others_append to piece result a b c same does =
    subst (λ (x : Option Files). WhereTold x c (OthersStay (λ other. other ≡ to))) same
    (told_map (AppendDoes to piece result) (OthersStay (λ other. other ≡ to)) b c (append_others to piece result) does)

-- nothing was left to read
pub piece_end : (from to buffer : List ℕ) (at : ℕ) (a b : Option Files) → b ≡ a
    → IfSome a (λ fs. ReadIs from at buffer fs (Ok 0)) → WhereTold a b (PieceDoes from to at (Ok 0))
piece_end from to buffer at a b same told =
    told_map (λ x y. (y ≡ x) × ReadIs from at buffer x (Ok 0)) (PieceDoes from to at (Ok 0)) a b
    (λ x y h. (h.1.0, λ bytes is. (ap (content to) h.0 ∙ sym (map_nil (content to x)), λ zero. (h.1.1 bytes is).1 refl)))
    (told_same (λ fs. ReadIs from at buffer fs (Ok 0)) a b same told)

-- a piece was read and appended
pub piece_moved : (from to buffer : List ℕ) (at n : ℕ) (a b c : Option Files) → b ≡ a → (n ≡ 0 → ⊥)
    → IfSome a (λ fs. ReadIs from at buffer fs (Ok n)) → WhereTold b c (AppendDoes to (take n buffer) (Ok tt)) → WhereTold a c (PieceDoes from to at (Ok n))
piece_moved from to buffer at n a b c same some told does =
    told_both (λ x y. (y ≡ x) × ReadIs from at buffer x (Ok n)) (AppendDoes to (take n buffer) (Ok tt)) (PieceDoes from to at (Ok n)) a b c
    (λ x y z h app. (
      h.1.0,
      λ bytes is. (
        app.1 ∙ ap (λ piece. option_map (λ held. held ++ piece) (content to y)) (h.1.1 bytes is).0
            ∙ ap (λ fs. option_map (λ held. held ++ take n (drop at bytes)) (content to fs)) h.0,
        λ zero. absurd (some zero),
      ),
    ))
    (told_same (λ fs. ReadIs from at buffer fs (Ok n)) a b same told) does

pub piece_unread : (from to buffer : List ℕ) (at : ℕ) (e : DeskError) (a b : Option Files) → b ≡ a
    → IfSome a (λ fs. ReadIs from at buffer fs (Err e)) → WhereTold a b (PieceDoes from to at (Err e))
piece_unread from to buffer at e a b same told =
    told_map (λ x y. (y ≡ x) × ReadIs from at buffer x (Err e)) (PieceDoes from to at (Err e)) a b (by_error e)
    (told_same (λ fs. ReadIs from at buffer fs (Err e)) a b same told)
  where
    by_error : (f : DeskError) (x y : Files) → ((y ≡ x) × ReadIs from at buffer x (Err f)) → PieceDoes from to at (Err f) x y
    by_error Failed x y h = tt
    by_error Missing x y h = λ there. h.1
    by_error NoMemory x y h = tt

pub piece_unwritten : (from to piece : List ℕ) (at : ℕ) (e : DeskError) (a b c : Option Files) → b ≡ a
    → WhereTold b c (AppendDoes to piece (Err e)) → WhereTold a c (PieceDoes from to at (Err e))
piece_unwritten from to piece at e a b c same does =
    subst (λ (x : Option Files). WhereTold x c (PieceDoes from to at (Err e))) same
    (told_map (AppendDoes to piece (Err e)) (PieceDoes from to at (Err e)) b c (by_error e) does)
  where
    by_error : (f : DeskError) (x y : Files) → AppendDoes to piece (Err f) x y → PieceDoes from to at (Err f) x y
    by_error Failed x y h = tt
    by_error Missing x y h = λ there. absurd (there h.0)
    by_error NoMemory x y h = tt

-- ---- the loop

pub create_others : (name : List ℕ) (result : Result (Unit {0}) DeskError) (a b : Option Files) → WhereTold a b (CreateDoes name result) → WhereTold a b (OthersStay (λ other. other ≡ name))
create_others name result a b does = told_map (CreateDoes name result) (OthersStay (λ other. other ≡ name)) a b (by_result result) does
  where
    by_result : (r : Result (Unit {0}) DeskError) (x y : Files) → CreateDoes name r x y → OthersStay (λ other. other ≡ name) x y
    by_result (Ok done) x y h = h.1
    by_result (Err Failed) x y h = h
    by_result (Err Missing) x y h = absurd h
    by_result (Err NoMemory) x y h = λ other d. h other

pub create_refused : (from to : List ℕ) (e : DeskError) (a b : Option Files) → WhereTold a b (CreateDoes to (Err e))
    → WhereTold a b (λ x y. from ≢ to → CopyDoes from to (Err e) x y)
create_refused from to e a b does = told_map (CreateDoes to (Err e)) (λ x y. from ≢ to → CopyDoes from to (Err e) x y) a b (by_error e) does
  where
    by_error : (f : DeskError) (x y : Files) → CreateDoes to (Err f) x y → from ≢ to → CopyDoes from to (Err f) x y
    by_error Failed x y h = λ d. tt
    by_error Missing x y h = λ d. absurd h
    by_error NoMemory x y h = λ d. tt

pub copying_begins : (from to : List ℕ) (a b : Option Files) → WhereTold a b (CreateDoes to (Ok tt)) → WhereTold a b (Copying from to 0)
copying_begins from to a b does =
    told_map (CreateDoes to (Ok tt)) (Copying from to 0) a b
    (λ x y h. record { others = h.1; there = λ none. absurd (some_none [] (sym h.0 ∙ none)); front = λ d bytes is. h.0 }) does

pub copying_goes_on : (from to : List ℕ) (at n : ℕ) (a b c : Option Files) → WhereTold a b (Copying from to at)
    → WhereTold b c (PieceDoes from to at (Ok n)) → WhereTold b c (OthersStay (λ other. other ≡ to)) → WhereTold a c (Copying from to (at + n))
copying_goes_on from to at n a b c copying piece others =
    told_both (Copying from to at) (λ y z. PieceDoes from to at (Ok n) y z × OthersStay (λ other. other ≡ to) y z) (Copying from to (at + n)) a b c
    step copying (told_and (PieceDoes from to at (Ok n)) (OthersStay (λ other. other ≡ to)) b c piece others)
  where
    step : (x y z : Files) → Copying from to at x y → (PieceDoes from to at (Ok n) y z × OthersStay (λ other. other ≡ to) y z) → Copying from to (at + n) x z
    step x y z so_far h =
        let source = some_of (content from y) h.0.0 in
        let held = some_of (content to y) so_far.there in
        let longer : content to z ≡ Some (held.0 ++ take n (drop at source.0)) = (h.0.1 source.0 source.1).0 ∙ ap (option_map (λ l. l ++ take n (drop at source.0))) held.1 in
        record {
          others = λ other d. h.1 other d ∙ so_far.others other d;
          there = λ none. absurd (some_none (held.0 ++ take n (drop at source.0)) (sym longer ∙ none));
          front = λ d bytes is.
              (h.0.1 bytes (so_far.others from d ∙ is)).0
              ∙ ap (option_map (λ l. l ++ take n (drop at bytes))) (so_far.front d bytes is)
              ∙ ap Some (sym (take-add at n bytes));
        }

pub copy_others : (from to : List ℕ) (at : ℕ) (a b c : Option Files) → WhereTold a b (Copying from to at) → WhereTold b c (OthersStay (λ other. other ≡ to))
    → WhereTold a c (OthersStay (λ other. other ≡ to))
copy_others from to at a b c copying others =
    told_both (Copying from to at) (OthersStay (λ other. other ≡ to)) (OthersStay (λ other. other ≡ to)) a b c
    (λ x y z so_far h other d. h other d ∙ so_far.others other d) copying others

pub copy_ends : (from to : List ℕ) (at : ℕ) (a b c : Option Files) → WhereTold a b (Copying from to at)
    → WhereTold b c (PieceDoes from to at (Ok 0)) → WhereTold a c (λ x y. from ≢ to → CopyDoes from to (Ok tt) x y)
copy_ends from to at a b c copying piece =
    told_both (Copying from to at) (PieceDoes from to at (Ok 0)) (λ x y. from ≢ to → CopyDoes from to (Ok tt) x y) a b c step copying piece
  where
    step : (x y z : Files) → Copying from to at x y → PieceDoes from to at (Ok 0) y z → from ≢ to → CopyDoes from to (Ok tt) x z
    step x y z so_far h d =
        let source = some_of (content from y) h.0 in
        let bytes = source.0 in
        let is : content from x ≡ Some bytes = sym (so_far.others from d) ∙ source.1 in
        let whole : take at bytes ≡ bytes = take_all at bytes ((h.1 bytes source.1).1 refl) in (
          λ none. absurd (some_none bytes (sym is ∙ none)),
          (h.1 bytes source.1).0 ∙ map_nil (content to y) ∙ so_far.front d bytes is ∙ ap Some whole ∙ sym is,
        )

pub copy_refused : (from to : List ℕ) (at : ℕ) (e : DeskError) (a b c : Option Files) → WhereTold a b (Copying from to at)
    → WhereTold b c (PieceDoes from to at (Err e)) → WhereTold a c (λ x y. from ≢ to → CopyDoes from to (Err e) x y)
copy_refused from to at e a b c copying piece =
    told_both (Copying from to at) (PieceDoes from to at (Err e)) (λ x y. from ≢ to → CopyDoes from to (Err e) x y) a b c (step e) copying piece
  where
    step : (f : DeskError) (x y z : Files) → Copying from to at x y → PieceDoes from to at (Err f) y z → from ≢ to → CopyDoes from to (Err f) x z
    step Failed x y z so_far h d = tt
    step Missing x y z so_far h d = sym (so_far.others from d) ∙ h so_far.there
    step NoMemory x y z so_far h d = tt

-- a file that is made only where there is none is made
pub made_new : (name : List ℕ) (result : Result (Unit {0}) DeskError) (a b : Option Files) → WhereTold a b (CreateNewDoes name result) → WhereTold a b (CreateDoes name result)
made_new name result a b does = told_map (CreateNewDoes name result) (CreateDoes name result) a b (by_result result) does
  where
    by_result : (r : Result (Unit {0}) DeskError) (x y : Files) → CreateNewDoes name r x y → CreateDoes name r x y
    by_result (Ok done) x y h = h.1
    by_result (Err Failed) x y h = λ other d. h other
    by_result (Err Missing) x y h = absurd h
    by_result (Err NoMemory) x y h = h

pub remove_others : (name : List ℕ) (result : Result (Unit {0}) DeskError) (a b : Option Files) → WhereTold a b (RemoveDoes name result) → WhereTold a b (OthersStay (λ other. other ≡ name))
remove_others name result a b does = told_map (RemoveDoes name result) (OthersStay (λ other. other ≡ name)) a b (by_result result) does
  where
    by_result : (r : Result (Unit {0}) DeskError) (x y : Files) → RemoveDoes name r x y → OthersStay (λ other. other ≡ name) x y
    by_result (Ok done) x y h = h.2
    by_result (Err Failed) x y h = λ other d. h other
    by_result (Err Missing) x y h = λ other d. h.1 other
    by_result (Err NoMemory) x y h = λ other d. h other

-- what was copied is cleared away
pub others_cleared : (name : List ℕ) (a b c : Option Files) → WhereTold a b (OthersStay (λ other. other ≡ name)) → WhereTold b c (OthersStay (λ other. other ≡ name))
    → WhereTold a c (OthersStay (λ other. other ≡ name))
others_cleared name a b c p q =
    told_both (OthersStay (λ other. other ≡ name)) (OthersStay (λ other. other ≡ name)) (OthersStay (λ other. other ≡ name)) a b c
    (λ x y z f g other d. g other d ∙ f other d) p q

pub refused_cleared : (from to : List ℕ) (e : DeskError) (a b c : Option Files) → WhereTold a b (λ x y. from ≢ to → CopyDoes from to (Err e) x y)
    → WhereTold b c (OthersStay (λ other. other ≡ to)) → WhereTold a c (λ x y. from ≢ to → CopyDoes from to (Err e) x y)
refused_cleared from to e a b c p q =
    told_both (λ x y. from ≢ to → CopyDoes from to (Err e) x y) (OthersStay (λ other. other ≡ to)) (λ x y. from ≢ to → CopyDoes from to (Err e) x y) a b c (step e) p q
  where
    step : (f : DeskError) (x y z : Files) → (from ≢ to → CopyDoes from to (Err f) x y) → OthersStay (λ other. other ≡ to) y z → from ≢ to → CopyDoes from to (Err f) x z
    step Failed x y z h o d = tt
    step Missing x y z h o d = h d
    step NoMemory x y z h o d = tt
