-- Two remotes with different marks never mix their contents.
use Rattle.std.proofs.Common.{◌≡◌, ◌≢◌, ◌∙◌, ◌⊎◌, ℕ, ◌+◌, List, [], ◌∷◌, ◌++◌, length, refl, sym, ap, subst, append_assoc, append-nil, inl, inr}
use Rattle.std.specs.Prelude.{Bool, true, false, bytes_eq, Option, Some, None, option_map, Ok, Err}
use Rattle.std.specs.List.{concat}
use Rattle.std.proofs.lemmas.Slice.Eq.{bytes_eq-Decides}
use Rattle.ann_outside.specs.Files.{Files, content, AllStay}
use Rattle.ann_outside.specs.declared.file_desk.DeskError.TheVariants.{Failed, Missing, NoMemory}
use Rattle.ann_outside.specs.declared.file_desk.Call.{Call}
use Rattle.ann_outside.specs.declared.file_desk.Call.TheVariants.{Size, ReadAt, Create, Append, Cut, Rename, Remove}
use Rattle.dir_remote.specs.Contents.{IsContentName, IsMark, temporary_name}
use Rattle.dir_remote.specs.Traces.{Each, Store, piece_calls}
use Rattle.dir_remote.specs.Interleavings.{CallDoes, CallsDo, Interleaves, IsSpare, PutsNothing, Deed, Stores, Calls, IsDeed, calls_of, IsIn, WasStored, IsWhole, NeverMixed}
use Rattle.dir_remote.proofs.PlaceLaws.{content_name_unique, content_names_differ, temporary_name_differs, temporary_names_differ, content_name_inside, temporary_name_inside}

-- two names are one or not
same_or_not : (a b : List ℕ) → (a ≡ b) ⊎ (a ≢ b)
same_or_not a b = by_test (bytes_eq a b) refl
  where
    by_test : (t : Bool) → bytes_eq a b ≡ t → (a ≡ b) ⊎ (a ≢ b)
    by_test true e = inl ((bytes_eq-Decides a b).0 e)
    by_test false e = inr (λ same. let yes : bytes_eq a b ≡ true = (bytes_eq-Decides a b).1 same in absurd cc)

-- ---- a store on its way

-- the calls that are left of a store that has put these bytes together so far
abbrev pub Ends : List ℕ → Store → List ℕ → List Call → Type 0
Ends beside s held [] = ⊥
Ends beside s held (ReadAt name from answer ∷ more) = Ends beside s held more
Ends beside s held (Append name piece (Ok done) ∷ more) = (name ≡ beside) × Ends beside s (held ++ piece) more
Ends beside s held (Append name piece (Err e) ∷ more) = ⊥
Ends beside s held (Rename from to (Ok done) ∷ more) = (from ≡ beside) × (to ≡ s.name) × (held ≡ concat s.pieces) × (more ≡ [])
Ends beside s held (Rename from to (Err e) ∷ more) = ⊥
Ends beside s held (Size name answer ∷ more) = ⊥
Ends beside s held (Create name answer ∷ more) = ⊥
Ends beside s held (Cut name size answer ∷ more) = ⊥
Ends beside s held (Remove name answer ∷ more) = ⊥

pieces_end : (beside : List ℕ) (s : Store) (held : List ℕ) (at : ℕ) (pieces : List (List ℕ)) → held ++ concat pieces ≡ concat s.pieces
    → Ends beside s held (piece_calls s.file beside at pieces ++ ReadAt s.file (length (concat s.pieces)) (Ok []) ∷ Rename beside s.name (Ok tt) ∷ [])
pieces_end beside s held at [] e = (refl, refl, sym (append-nil held) ∙ e, refl)
pieces_end beside s held at (piece ∷ pieces) e =
    (refl, pieces_end beside s (held ++ piece) (at + length piece) pieces (append_assoc held piece (concat pieces) ∙ e))

-- the calls of a remote that are left, where the files are these: those of whole deeds, or what is left of a store and then those
pub data Left (directory mark : List ℕ) (all : List Deed) (files : Files) (left : List Call) : Type 0 where
  between : (deeds : List Deed) → Each (IsDeed directory mark) deeds → ((s : Store) → IsIn s deeds → IsIn s all) → left ≡ calls_of directory mark deeds → Left directory mark all files left
  within : (s : Store) (held : List ℕ) (tail : List Call) (deeds : List Deed) → Each (IsDeed directory mark) deeds → ((other : Store) → IsIn other deeds → IsIn other all)
      → IsContentName directory s.text s.name → IsIn s all → Ends (temporary_name (Some mark) directory s.text) s held tail
      → content (temporary_name (Some mark) directory s.text) files ≡ Some held → left ≡ tail ++ calls_of directory mark deeds → Left directory mark all files left

-- ---- one call

-- what a call of the remote with this mark does to what others see
record Steps (directory mark : List ℕ) (all : List Deed) (old new : Files) : Type 0 where
  temporary : (mark' text : List ℕ) → mark ≢ mark' → IsMark mark' → content (temporary_name (Some mark') directory text) new ≡ content (temporary_name (Some mark') directory text) old
  contents : (text name : List ℕ) → IsContentName directory text name
      → (content name new ≡ content name old) ⊎ (content name new ≡ None) ⊎ WasStored all text (content name new)

stays : (directory mark : List ℕ) (all : List Deed) (old new : Files) → AllStay old new → Steps directory mark all old new
stays directory mark all old new stay = record { temporary = λ mark' text differ m. stay (temporary_name (Some mark') directory text); contents = λ text name is. inl (stay name) }

-- only a spare file may have changed
spare_steps : (directory mark : List ℕ) (all : List Deed) (spare : List ℕ) (old new : Files) → IsMark mark → IsSpare directory mark spare
    → ((other : List ℕ) → (other ≡ spare → ⊥) → content other new ≡ content other old) → Steps directory mark all old new
spare_steps directory mark all spare old new m which others = record {
  temporary = λ mark' text differ n. others (temporary_name (Some mark') directory text) (λ e. not_temporary which mark' text differ n e);
  contents = λ text name is. inl (others name (λ e. not_content which text name is e));
}
  where
    not_temporary : IsSpare directory mark spare → (mark' text : List ℕ) → mark ≢ mark' → IsMark mark' → temporary_name (Some mark') directory text ≡ spare → ⊥
    not_temporary (inl outside) mark' text differ n e = temporary_name_inside (Some mark') directory text spare outside (sym e)
    not_temporary (inr (other, is)) mark' text differ n e = temporary_names_differ directory mark mark' other text differ m n (sym is ∙ sym e)

    not_content : IsSpare directory mark spare → (text name : List ℕ) → IsContentName directory text name → name ≡ spare → ⊥
    not_content (inl outside) text name is e = content_name_inside directory text spare name outside is (sym e)
    not_content (inr (other, at)) text name is e = temporary_name_differs (Some mark) directory other text name m is (e ∙ at)

-- only a content may have changed
content_steps : (directory mark : List ℕ) (all : List Deed) (key place : List ℕ) (old new : Files) → IsMark mark → IsContentName directory key place
    → ((content place new ≡ content place old) ⊎ (content place new ≡ None))
    → ((other : List ℕ) → (other ≡ place → ⊥) → content other new ≡ content other old) → Steps directory mark all old new
content_steps directory mark all key place old new m at which others = record {
  temporary = λ mark' text differ n. others (temporary_name (Some mark') directory text) (λ e. temporary_name_differs (Some mark') directory text key place n at (sym e));
  contents = λ text name is. by_key text name is (same_or_not text key);
}
  where
    this : (name : List ℕ) → name ≡ place → (content name new ≡ content name old) ⊎ (content name new ≡ None)
    this name e = subst (λ (n : List ℕ). (content n new ≡ content n old) ⊎ (content n new ≡ None)) (sym e) which

    wider : (text name : List ℕ) → (content name new ≡ content name old) ⊎ (content name new ≡ None)
        → (content name new ≡ content name old) ⊎ (content name new ≡ None) ⊎ WasStored all text (content name new)
    wider text name (inl e) = inl e
    wider text name (inr e) = inr (inl e)

    by_key : (text name : List ℕ) → IsContentName directory text name → (text ≡ key) ⊎ (text ≢ key)
        → (content name new ≡ content name old) ⊎ (content name new ≡ None) ⊎ WasStored all text (content name new)
    by_key text name is (inl e) = wider text name (this name (content_name_unique directory key name place (subst (λ (t : List ℕ). IsContentName directory t name) e is) at))
    by_key text name is (inr d) = inl (others name (content_names_differ directory key text name place d is at))

-- a call that puts nothing under a key
other_steps : (directory mark : List ℕ) (all : List Deed) (call : Call) (old new : Files) → IsMark mark → PutsNothing directory mark call → CallDoes call old new → Steps directory mark all old new
other_steps directory mark all (Size name answer) old new m puts does = stays directory mark all old new does
other_steps directory mark all (ReadAt name from answer) old new m puts does = stays directory mark all old new does
other_steps directory mark all (Create name (Ok done)) old new m puts does = spare_steps directory mark all name old new m puts does.1
other_steps directory mark all (Create name (Err Failed)) old new m puts does = spare_steps directory mark all name old new m puts does
other_steps directory mark all (Create name (Err Missing)) old new m puts does = absurd does
other_steps directory mark all (Create name (Err NoMemory)) old new m puts does = stays directory mark all old new does
other_steps directory mark all (Append name piece (Ok done)) old new m puts does = spare_steps directory mark all name old new m puts does.2
other_steps directory mark all (Append name piece (Err Failed)) old new m puts does = spare_steps directory mark all name old new m puts does.1
other_steps directory mark all (Append name piece (Err Missing)) old new m puts does = stays directory mark all old new does.1
other_steps directory mark all (Append name piece (Err NoMemory)) old new m puts does = stays directory mark all old new does
other_steps directory mark all (Cut name size answer) old new m puts does = absurd puts
other_steps directory mark all (Rename from to (Ok done)) old new m puts does = absurd puts
other_steps directory mark all (Rename from to (Err Failed)) old new m puts does = stays directory mark all old new does
other_steps directory mark all (Rename from to (Err Missing)) old new m puts does = stays directory mark all old new does.1
other_steps directory mark all (Rename from to (Err NoMemory)) old new m puts does = stays directory mark all old new does
other_steps directory mark all (Remove name (Ok done)) old new m (inl spare) does = spare_steps directory mark all name old new m spare does.2
other_steps directory mark all (Remove name (Ok done)) old new m (inr (key, at)) does = content_steps directory mark all key name old new m at (inr does.1) does.2
other_steps directory mark all (Remove name (Err Failed)) old new m puts does = stays directory mark all old new does
other_steps directory mark all (Remove name (Err Missing)) old new m puts does = stays directory mark all old new does.1
other_steps directory mark all (Remove name (Err NoMemory)) old new m puts does = stays directory mark all old new does

-- the content that was put together gets its name
named_steps : (directory mark : List ℕ) (all : List Deed) (s : Store) (held : List ℕ) (old new : Files) → IsMark mark → IsContentName directory s.text s.name → IsIn s all
    → content (temporary_name (Some mark) directory s.text) old ≡ Some held → held ≡ concat s.pieces
    → CallDoes (Rename (temporary_name (Some mark) directory s.text) s.name (Ok tt)) old new → Steps directory mark all old new
named_steps directory mark all s held old new m at is_in filled whole does = record {
  temporary = λ mark' text differ n.
      does.3 (temporary_name (Some mark') directory text) (λ e. temporary_names_differ directory mark mark' s.text text differ m n (sym e))
      (λ e. temporary_name_differs (Some mark') directory text s.text s.name n at (sym e));
  contents = λ text name is. by_key text name is (same_or_not text s.text);
}
  where
    put : content s.name new ≡ Some (concat s.pieces)
    put = does.1 ∙ filled ∙ ap Some whole

    by_key : (text name : List ℕ) → IsContentName directory text name → (text ≡ s.text) ⊎ (text ≢ s.text)
        → (content name new ≡ content name old) ⊎ (content name new ≡ None) ⊎ WasStored all text (content name new)
    by_key text name is (inl e) =
        let one : name ≡ s.name = content_name_unique directory s.text name s.name (subst (λ (t : List ℕ). IsContentName directory t name) e is) at in
        inr (inr (s, is_in, sym e, ap (λ n. content n new) one ∙ put))
    by_key text name is (inr d) = inl (does.3 name (temporary_name_differs (Some mark) directory s.text text name m is) (content_names_differ directory s.text text name s.name d is at))

-- ---- one remote's next call

-- what is left after the call, and what the call did
record Goes (directory mark : List ℕ) (all : List Deed) (old new : Files) (more : List Call) : Type 0 where
  left : Left directory mark all new more
  steps : Steps directory mark all old new

tail_is : (x y : Call) (xs ys : List Call) → x ∷ xs ≡ y ∷ ys → (x ≡ y) × (xs ≡ ys)
tail_is x y xs ys e = (cc, cc)

deed_first : (directory mark : List ℕ) (all deeds : List Deed) (old new : Files) (call : Call) (more : List Call) → IsMark mark → Each (IsDeed directory mark) deeds
    → ((s : Store) → IsIn s deeds → IsIn s all) → call ∷ more ≡ calls_of directory mark deeds → CallDoes call old new → Goes directory mark all old new more
deed_first directory mark all [] old new call more m each sub is does = absurd cc
deed_first directory mark all (Calls other ∷ deeds) old new call more m each sub is does =
    let parts = tail_is call other more (calls_of directory mark deeds) is in
    let P : Call → Type 0 = λ c. CallDoes c old new in
    record {
      left = between deeds each.1 (λ s h. sub s (inr h)) parts.1;
      steps = other_steps directory mark all other old new m each.0 (subst P parts.0 does);
    }
deed_first directory mark all (Stores s ∷ deeds) old new call more m each sub is does =
    let beside = temporary_name (Some mark) directory s.text in
    let tail = piece_calls s.file beside 0 s.pieces ++ ReadAt s.file (length (concat s.pieces)) (Ok []) ∷ Rename beside s.name (Ok tt) ∷ [] in
    let parts = tail_is call (Create beside (Ok tt)) more (((piece_calls s.file beside 0 s.pieces ++ ReadAt s.file (length (concat s.pieces)) (Ok []) ∷ []) ++ Rename beside s.name (Ok tt) ∷ []) ++ calls_of directory mark deeds) is in
    let P : Call → Type 0 = λ c. CallDoes c old new in
    let made = subst P parts.0 does in
    record {
      left = within s [] tail deeds each.1 (λ other h. sub other (inr h)) each.0 (sub s (inl refl)) (pieces_end beside s [] 0 s.pieces refl) made.0
          (parts.1 ∙ ap (λ (l : List Call). l ++ calls_of directory mark deeds)
          (append_assoc (piece_calls s.file beside 0 s.pieces) (ReadAt s.file (length (concat s.pieces)) (Ok []) ∷ []) (Rename beside s.name (Ok tt) ∷ [])));
      steps = spare_steps directory mark all beside old new m (inr (s.text, refl)) made.1;
    }

tail_first : (directory mark : List ℕ) (all : List Deed) (old new : Files) (call : Call) (more : List Call) (s : Store) (held : List ℕ) (tail : List Call) (deeds : List Deed) → IsMark mark
    → Each (IsDeed directory mark) deeds → ((other : Store) → IsIn other deeds → IsIn other all) → IsContentName directory s.text s.name → IsIn s all
    → Ends (temporary_name (Some mark) directory s.text) s held tail → content (temporary_name (Some mark) directory s.text) old ≡ Some held
    → call ∷ more ≡ tail ++ calls_of directory mark deeds → CallDoes call old new → Goes directory mark all old new more
tail_first directory mark all old new call more s held [] deeds m each sub at is_in ends filled is does = absurd ends
tail_first directory mark all old new call more s held (ReadAt name from answer ∷ tail) deeds m each sub at is_in ends filled is does =
    let parts = tail_is call (ReadAt name from answer) more (tail ++ calls_of directory mark deeds) is in
    let P : Call → Type 0 = λ c. CallDoes c old new in
    let stay : AllStay old new = subst P parts.0 does in
    record {
      left = within s held tail deeds each sub at is_in ends (stay (temporary_name (Some mark) directory s.text) ∙ filled) parts.1;
      steps = stays directory mark all old new stay;
    }
tail_first directory mark all old new call more s held (Append name piece (Ok done) ∷ tail) deeds m each sub at is_in ends filled is does =
    let parts = tail_is call (Append name piece (Ok done)) more (tail ++ calls_of directory mark deeds) is in
    let P : Call → Type 0 = λ c. CallDoes c old new in
    let Q : List ℕ → Type 0 = λ n. CallDoes (Append n piece (Ok done)) old new in
    let added = subst Q ends.0 (subst P parts.0 does) in
    record {
      left = within s (held ++ piece) tail deeds each sub at is_in ends.1 (added.1 ∙ ap (option_map (λ l. l ++ piece)) filled) parts.1;
      steps = spare_steps directory mark all (temporary_name (Some mark) directory s.text) old new m (inr (s.text, refl)) added.2;
    }
tail_first directory mark all old new call more s held (Rename from to (Ok done) ∷ tail) deeds m each sub at is_in ends filled is does =
    let parts = tail_is call (Rename from to (Ok done)) more (tail ++ calls_of directory mark deeds) is in
    let P : Call → Type 0 = λ c. CallDoes c old new in
    let Q : List ℕ → Type 0 = λ n. CallDoes (Rename n to (Ok done)) old new in
    let R : List ℕ → Type 0 = λ n. CallDoes (Rename (temporary_name (Some mark) directory s.text) n (Ok tt)) old new in
    record {
      left = between deeds each sub (parts.1 ∙ ap (λ (l : List Call). l ++ calls_of directory mark deeds) ends.3);
      steps = named_steps directory mark all s held old new m at is_in filled ends.2 (subst R ends.1 (subst Q ends.0 (subst P parts.0 does)));
    }
tail_first directory mark all old new call more s held (Append name piece (Err e) ∷ tail) deeds m each sub at is_in ends filled is does = absurd ends
tail_first directory mark all old new call more s held (Rename from to (Err e) ∷ tail) deeds m each sub at is_in ends filled is does = absurd ends
tail_first directory mark all old new call more s held (Size name answer ∷ tail) deeds m each sub at is_in ends filled is does = absurd ends
tail_first directory mark all old new call more s held (Create name answer ∷ tail) deeds m each sub at is_in ends filled is does = absurd ends
tail_first directory mark all old new call more s held (Cut name size answer ∷ tail) deeds m each sub at is_in ends filled is does = absurd ends
tail_first directory mark all old new call more s held (Remove name answer ∷ tail) deeds m each sub at is_in ends filled is does = absurd ends

goes : (directory mark : List ℕ) (all : List Deed) (old new : Files) (call : Call) (more : List Call) → IsMark mark → Left directory mark all old (call ∷ more) → CallDoes call old new
    → Goes directory mark all old new more
goes directory mark all old new call more m (between deeds each sub is) does = deed_first directory mark all deeds old new call more m each sub is does
goes directory mark all old new call more m (within s held tail deeds each sub at is_in ends filled is) does =
    tail_first directory mark all old new call more s held tail deeds m each sub at is_in ends filled is does

-- the other remote's next call leaves what is left to this one
goes_by : (directory mark mark' : List ℕ) (all all' : List Deed) (old new : Files) (left : List Call) → mark' ≢ mark → IsMark mark → Left directory mark all old left → Steps directory mark' all' old new
    → Left directory mark all new left
goes_by directory mark mark' all all' old new left differ m (between deeds each sub is) steps = between deeds each sub is
goes_by directory mark mark' all all' old new left differ m (within s held tail deeds each sub at is_in ends filled is) steps =
    within s held tail deeds each sub at is_in ends (steps.temporary mark s.text differ m ∙ filled) is

-- ---- all calls

module _ (directory mark mark' : List ℕ) (mine yours : List Deed) (first : Files) (differ : mark ≢ mark') (m : IsMark mark) (m' : IsMark mark') where
  abbrev Kept : Files → Type 0
  Kept files = (text name : List ℕ) → IsContentName directory text name → IsWhole mine yours text (content name first) (content name files)

  by_mine : (old new : Files) → Kept old → Steps directory mark mine old new → Kept new
  by_mine old new kept steps text name is = step (steps.contents text name is) (kept text name is)
    where
      step : (content name new ≡ content name old) ⊎ (content name new ≡ None) ⊎ WasStored mine text (content name new) → IsWhole mine yours text (content name first) (content name old)
          → IsWhole mine yours text (content name first) (content name new)
      step (inl same) h = subst (λ (c : Option (List ℕ)). IsWhole mine yours text (content name first) c) (sym same) h
      step (inr (inl none)) h = inr (inl none)
      step (inr (inr put)) h = inr (inr (inl put))

  by_yours : (old new : Files) → Kept old → Steps directory mark' yours old new → Kept new
  by_yours old new kept steps text name is = step (steps.contents text name is) (kept text name is)
    where
      step : (content name new ≡ content name old) ⊎ (content name new ≡ None) ⊎ WasStored yours text (content name new) → IsWhole mine yours text (content name first) (content name old)
          → IsWhole mine yours text (content name first) (content name new)
      step (inl same) h = subst (λ (c : Option (List ℕ)). IsWhole mine yours text (content name first) c) (sym same) h
      step (inr (inl none)) h = inr (inl none)
      step (inr (inr put)) h = inr (inr (inr put))

  pub all_calls : (log ones others : List Call) (old new : Files) → Left directory mark mine old ones → Left directory mark' yours old others → Interleaves ones others log → CallsDo log old new
      → Kept old → Kept new
  all_calls [] ones others old new l r both does kept = λ text name is. subst (λ (c : Option (List ℕ)). IsWhole mine yours text (content name first) c) (sym (does name)) (kept text name is)
  all_calls (call ∷ log) ones others old new l r (inl (more, is, rest)) (next, does, later) kept =
      let g = goes directory mark mine old next call more m (subst (λ (x : List Call). Left directory mark mine old x) is l) does in
      all_calls log more others next new g.left (goes_by directory mark' mark yours mine old next others differ m' r g.steps) rest later (by_mine old next kept g.steps)
  all_calls (call ∷ log) ones others old new l r (inr (more, is, rest)) (next, does, later) kept =
      let g = goes directory mark' yours old next call more m' (subst (λ (x : List Call). Left directory mark' yours old x) is r) does in
      all_calls log ones more next new (goes_by directory mark mark' mine yours old next ones (λ e. differ (sym e)) m l g.steps) g.left rest later (by_yours old next kept g.steps)

pub never_mixed : (directory mark mark' : List ℕ) (mine yours : List Deed) (log : List Call) (old new : Files) → NeverMixed directory mark mark' mine yours log old new
never_mixed directory mark mark' mine yours log old new differ m m' each each' both does =
    all_calls directory mark mark' mine yours old differ m m' log (calls_of directory mark mine) (calls_of directory mark' yours) old new
    (between mine each (λ s h. h) refl) (between yours each' (λ s h. h) refl) both does (λ text name is. inl refl)
