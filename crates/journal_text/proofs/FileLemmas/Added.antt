-- How a file grows piece by piece, and what a refusal leaves of it.
use Rattle.std.proofs.Common.{◌≡◌, ◌∙◌, ℕ, zero, suc, ◌+◌, ◌≤◌, Bool, true, false, ◌||◌, List, [], ◌∷◌, ◌++◌, length, map, refl, sym, ap, subst, append_assoc, append-nil, take, drop, add-one, inl, inr, ⊎_elim}
use Rattle.std.specs.Prelude.{Option, Some, None, option_map, IfSome, Result, Ok, Err, ◌⊎◌}
use Rattle.std.specs.List.{slice_get, flat_map, list_all}
use Rattle.std.proofs.Math.Bool.{or-true}
use Rattle.std.proofs.lemmas.Bool.{le-leb, and_from as both_true}
use Rattle.std.proofs.lemmas.List.{take_all, map-append, take-append-drop}
use Rattle.std.proofs.lemmas.List.Concat.{flat_map-append}
use Rattle.std.proofs.lemmas.List.Folds.{list_all-append}
use Rattle.ann_outside.specs.Calls.{Log, Gained, logged}
use Rattle.ann_outside.specs.Files.{Files, content, WhereTold, CreateDoes, AppendDoes, SyncIs}
use Rattle.ann_outside.specs.declared.file_desk.DeskError.{DeskError}
use Rattle.ann_outside.specs.declared.file_desk.DeskError.TheVariants as E
use Rattle.ann_outside.specs.declared.file_desk.Call.{Call}
use Rattle.ann_outside.specs.declared.file_desk.Call.TheVariants.{Create, Append}
use Rattle.annex_model.specs.Lines.{text}
use Rattle.ann_outside.specs.TextFile.Writes.{IsRefusal, HasGrown, GrowsBy}
use Rattle.ann_outside.proofs.TextFileLemmas.Logs.{gained_nothing, gained_more, gained_call, gained_without}
use Rattle.ann_outside.proofs.TextFileLemmas.WriteLaws.{grows_nothing, grows_refused, append_refusal}
use Rattle.journal_text.specs.File.JournalDesks.{with_end, is_piece, ArePieces, piece_appends, AppendsLines, MakesLines, TakesUp, RefusesPiece, IsMadeAs, MakesSynced}
use Rattle.ann_outside.proofs.Across.{told_refl as where_same, where_then}
use Rattle.annex_model.proofs.Across.{text-append}

abbrev Pieces : Type 0
Pieces = List (List (List ℕ))

abbrev joined : Pieces → List (List ℕ)
joined pieces = flat_map (λ piece. piece) pieces

-- ---- lines

-- only no line has no text
no_lines : (lines : List (List ℕ)) → text lines ≡ [] → lines ≡ []
no_lines [] e = refl
no_lines ([] ∷ lines) e = absurd cc
no_lines ((b ∷ line) ∷ lines) e = absurd cc

-- the line at that place
found : (lines : List (List ℕ)) (n : ℕ) (bytes : List ℕ) → Some bytes ≡ option_map with_end (slice_get lines n) → (line : List ℕ) × (bytes ≡ with_end line) × (take (suc n) lines ≡ take n lines ++ line ∷ [])
found [] n bytes h = absurd cc
found (x ∷ xs) zero bytes h = (x, cc, refl)
found (x ∷ xs) (suc n) bytes h = let rest = found xs n bytes h in (rest.0, rest.1, ap (λ (l : List (List ℕ)). x ∷ l) rest.2)

-- ---- pieces

one_is_piece : (line : List ℕ) → is_piece (line ∷ []) ≡ true
one_is_piece line = or-true _

-- each line as a piece of its own
abbrev singles : List (List ℕ) → Pieces
singles lines = map (λ line. line ∷ []) lines

joined-singles : (lines : List (List ℕ)) → joined (singles lines) ≡ lines
joined-singles [] = refl
joined-singles (x ∷ xs) = ap (λ (l : List (List ℕ)). x ∷ l) (joined-singles xs)

small_singles : (lines : List (List ℕ)) → list_all is_piece (singles lines) ≡ true
small_singles [] = refl
small_singles (x ∷ xs) = both_true _ _ (one_is_piece x) (small_singles xs)

piece_appends-append : (name : List ℕ) (xs ys : Pieces) → piece_appends name (xs ++ ys) ≡ piece_appends name xs ++ piece_appends name ys
piece_appends-append name xs ys = map-append _ xs ys

-- So many lines were taken up: some pieces of them were added, and the last one is held.
pub record IsAdding (old new : Option Log) (files files' : Option Files) (name : List ℕ) (lines : List (List ℕ)) (held : List ℕ) : Type 0 where
  pub pieces : Pieces
  pub last : List (List ℕ)
  pub whole : joined pieces ++ last ≡ lines
  pub text_is : held ≡ text last
  pub small : list_all is_piece pieces ≡ true
  pub small_last : is_piece last ≡ true
  pub calls : Gained old new (piece_appends name pieces)
  pub told : WhereTold files files' (HasGrown name (text (joined pieces)))

pub adding_nothing : (log : Option Log) (files : Option Files) (name held : List ℕ) → held ≡ [] → IsAdding log log files files name [] held
adding_nothing log files name held none = record {
  pieces = [];
  last = [];
  whole = refl;
  text_is = none;
  small = refl;
  small_last = refl;
  calls = gained_nothing log;
  told = where_same (HasGrown name []) files (λ fs. grows_nothing name [] fs refl);
}

-- one piece more in the file
grown_more : (name : List ℕ) (done more : List (List ℕ)) (x y z : Files) → HasGrown name (text done) x y → AppendDoes name (text more) (Ok tt) y z → HasGrown name (text (done ++ more)) x z
grown_more name done more x y z (grown, others) (was, added, stay) = (
  added ∙ ap (option_map (λ l. l ++ text more)) grown ∙ twice (content name x) (text done) (text more)
      ∙ ap (λ (t : List ℕ). option_map (λ l. l ++ t) (content name x)) (sym (text-append done more)),
  λ other d. stay other d ∙ others other d,
)
  where
    twice : (a : Option (List ℕ)) (xs ys : List ℕ) → option_map (λ l. l ++ ys) (option_map (λ l. l ++ xs) a) ≡ option_map (λ l. l ++ (xs ++ ys)) a
    twice None xs ys = refl
    twice (Some l) xs ys = ap Some (append_assoc l xs ys)

joined-more : (pieces : Pieces) (last : List (List ℕ)) → joined (pieces ++ last ∷ []) ≡ joined pieces ++ last
joined-more pieces last = flat_map-append (λ piece. piece) pieces (last ∷ []) ∙ ap (λ l. joined pieces ++ l) (append-nil last)

small_more : (pieces : Pieces) (last : List (List ℕ)) → list_all is_piece pieces ≡ true → is_piece last ≡ true → list_all is_piece (pieces ++ last ∷ []) ≡ true
small_more pieces last all one = list_all-append is_piece pieces (last ∷ []) ∙ both_true _ _ all (both_true _ _ one refl)

-- ---- a line more

module _ (name : List ℕ) (line : List ℕ) (old a b : Option Log) (files x y : Option Files) where
  -- it joins the piece that is held
  joins : (lines : List (List ℕ)) (held held' : List ℕ) → IsAdding old a files x name lines held → held' ≡ held ++ with_end line → held ≡ [] ⊎ length held' ≤ 65536 → b ≡ a → y ≡ x
      → IsAdding old b files y name (lines ++ line ∷ []) held'
  joins lines held held' r is fits same_log same_files =
      let text_is' : held' ≡ text (r.last ++ line ∷ []) = is ∙ ap (λ l. l ++ with_end line) r.text_is ∙ sym (text-append r.last (line ∷ [])) in
      record {
        pieces = r.pieces;
        last = r.last ++ line ∷ [];
        whole = sym (append_assoc (joined r.pieces) r.last (line ∷ [])) ∙ ap (λ l. l ++ line ∷ []) r.whole;
        text_is = text_is';
        small = r.small;
        small_last =
            ⊎_elim (λ none. ap (λ (l : List (List ℕ)). is_piece (l ++ line ∷ [])) (no_lines r.last (sym r.text_is ∙ none)) ∙ one_is_piece line)
            (λ few. first_true _ _ (le-leb _ _ (subst (λ (t : List ℕ). length t ≤ 65536) text_is' few))) fits;
        calls = subst (λ (l : Option Log). Gained old l (piece_appends name r.pieces)) (sym same_log) r.calls;
        told = subst (λ (fs : Option Files). WhereTold files fs (HasGrown name (text (joined r.pieces)))) (sym same_files) r.told;
      }
    where
      first_true : (b c : Bool) → b ≡ true → (b || c) ≡ true
      first_true true c e = refl
      first_true false c e = absurd cc

  -- the piece that is held is added, and the line is the next one
  begins : (lines : List (List ℕ)) (held held' : List ℕ) → IsAdding old a files x name lines held → held' ≡ with_end line → b ≡ logged a (Append name held (Ok tt))
      → WhereTold x y (AppendDoes name held (Ok tt)) → IsAdding old b files y name (lines ++ line ∷ []) held'
  begins lines held held' r is log told' =
      let log' : b ≡ logged a (Append name (text r.last) (Ok tt)) = log ∙ ap (λ (t : List ℕ). logged a (Append name t (Ok tt))) r.text_is in
      record {
        pieces = r.pieces ++ r.last ∷ [];
        last = line ∷ [];
        whole = ap (λ l. l ++ line ∷ []) (joined-more r.pieces r.last ∙ r.whole);
        text_is = is;
        small = small_more r.pieces r.last r.small r.small_last;
        small_last = one_is_piece line;
        calls = subst (Gained old b) (sym (piece_appends-append name r.pieces (r.last ∷ [])))
            (gained_more old a b (piece_appends name r.pieces) (Append name (text r.last) (Ok tt) ∷ []) r.calls (log' ∙ gained_call a (Append name (text r.last) (Ok tt)) refl));
        told = where_then (HasGrown name (text (joined r.pieces))) (AppendDoes name held (Ok tt)) (HasGrown name (text (joined (r.pieces ++ r.last ∷ [])))) files x y
            (λ u v w p q. subst (λ (l : List (List ℕ)). HasGrown name (text l) u w) (sym (joined-more r.pieces r.last))
            (grown_more name (joined r.pieces) r.last u v w p (subst (λ (t : List ℕ). AppendDoes name t (Ok tt) v w) r.text_is q))) r.told told';
      }

pub adding_more : (name : List ℕ) (lines : List (List ℕ)) (n : ℕ) (old a b : Option Log) (files x y : Option Files) (held bytes held' : List ℕ)
    → Some bytes ≡ option_map with_end (slice_get lines n) → IsAdding old a files x name (take n lines) held → TakesUp a b x y name held bytes held'
    → IsAdding old b files y name (take (n + 1) lines) held'
adding_more name lines n old a b files x y held bytes held' is r taken =
    let there = found lines n bytes is in
    subst (λ (l : List (List ℕ)). IsAdding old b files y name l held') (sym (ap (λ (k : ℕ). take k lines) (add-one n) ∙ there.2))
    (⊎_elim (λ t. joins name there.0 old a b files x y (take n lines) held held' r (t.0 ∙ ap (λ l. held ++ l) there.1) t.1 t.2 t.3)
    (λ t. begins name there.0 old a b files x y (take n lines) held held' r (t.0 ∙ there.1) t.1 t.2) taken)

-- ---- the last call

-- the pieces so far, the one that is held, and the lines that are left
are_pieces : (pieces : Pieces) (last rest : List (List ℕ)) → list_all is_piece pieces ≡ true → is_piece last ≡ true
    → ArePieces (pieces ++ last ∷ singles rest) ((joined pieces ++ last) ++ rest)
are_pieces pieces last rest all one = record {
  whole = flat_map-append (λ piece. piece) pieces (last ∷ singles rest) ∙ ap (λ l. joined pieces ++ (last ++ l)) (joined-singles rest) ∙ sym (append_assoc (joined pieces) last rest);
  small = list_all-append is_piece pieces (last ∷ singles rest) ∙ both_true _ _ all (both_true _ _ one (small_singles rest));
}

module _ (name : List ℕ) (lines : List (List ℕ)) (n : ℕ) (old a b : Option Log) (files x y : Option Files) (held : List ℕ) (r : IsAdding old a files x name (take n lines) held) where
  -- the piece that is held was refused
  pub added_refused : (e : DeskError) → RefusesPiece a b x y name held e → AppendsLines old b name lines (Err e)
  added_refused e refused =
      let rest : List (List ℕ) = drop n lines in
      let refusal = append_refusal a b name (text r.last) e (refused.0 ∙ ap (λ (t : List ℕ). logged a (Append name t (Err e))) r.text_is) in (
        r.pieces ++ r.last ∷ singles rest,
        subst (ArePieces (r.pieces ++ r.last ∷ singles rest)) (ap (λ (l : List (List ℕ)). l ++ rest) r.whole ∙ take-append-drop n lines) (are_pieces r.pieces r.last rest r.small r.small_last),
        record {
          before = piece_appends name r.pieces;
          call = Append name (text r.last) (Ok tt);
          after = piece_appends name (singles rest);
          all_is = piece_appends-append name r.pieces (r.last ∷ singles rest);
          ending = refusal.0;
          refused = refusal.1;
          calls = gained_more old a b (piece_appends name r.pieces) refusal.0 r.calls refusal.2;
        },
      )

  pub grown_refused : (e : DeskError) → RefusesPiece a b x y name held e → WhereTold files y (GrowsBy name (text lines) (Err e))
  grown_refused e refused =
      where_then (HasGrown name (text (joined r.pieces))) (AppendDoes name held (Err e)) (GrowsBy name (text lines) (Err e)) files x y
      (λ u v w p q. grows_refused name (text (joined r.pieces)) held (text lines) e u v w p q) r.told refused.1

  -- the piece that is held was added, or refused
  abbrev Appends : Result (Unit {0}) DeskError → Type 0
  Appends result = (b ≡ logged a (Append name held result)) × WhereTold x y (AppendDoes name held result)

  pub appends : (given : List ℕ) (result : Result (Unit {0}) DeskError) → given ≡ held → b ≡ logged a (Append name given result) → WhereTold x y (AppendDoes name given result) → Appends result
  appends given result same log told' =
      (log ∙ ap (λ (t : List ℕ). logged a (Append name t result)) same, subst (λ (t : List ℕ). WhereTold x y (AppendDoes name t result)) same told')

  module _ (all : length lines ≤ n) where
    all_lines : joined r.pieces ++ r.last ≡ lines
    all_lines = r.whole ∙ take_all n lines all

    pub added_last : (result : Result (Unit {0}) DeskError) → Appends result → AppendsLines old b name lines result
    added_last (Err e) (log, told') = added_refused e (log, told')
    added_last (Ok done) (log, told') =
        let log' : b ≡ logged a (Append name (text r.last) (Ok tt)) = log ∙ ap (λ (t : List ℕ). logged a (Append name t (Ok tt))) r.text_is in (
          r.pieces ++ r.last ∷ [],
          record { whole = joined-more r.pieces r.last ∙ all_lines; small = small_more r.pieces r.last r.small r.small_last },
          subst (Gained old b) (sym (piece_appends-append name r.pieces (r.last ∷ [])))
              (gained_more old a b (piece_appends name r.pieces) (Append name (text r.last) (Ok tt) ∷ []) r.calls (log' ∙ gained_call a (Append name (text r.last) (Ok tt)) refl)),
        )

    pub grown_last : (result : Result (Unit {0}) DeskError) → Appends result → WhereTold files y (GrowsBy name (text lines) result)
    grown_last (Err e) (log, told') = grown_refused e (log, told')
    grown_last (Ok done) (log, told') =
        where_then (HasGrown name (text (joined r.pieces))) (AppendDoes name held (Ok tt)) (HasGrown name (text lines)) files x y
        (λ u v w p q. subst (λ (l : List (List ℕ)). HasGrown name (text l) u w) all_lines
        (grown_more name (joined r.pieces) r.last u v w p (subst (λ (t : List ℕ). AppendDoes name t (Ok tt) v w) r.text_is q))) r.told told'

-- nothing was asked of the desk for the next line
pub refused_nothing : (log : Option Log) (files : Option Files) (name held : List ℕ) → RefusesPiece log log files files name held E.NoMemory
refused_nothing log files name held = (same log, where_same (AppendDoes name held (Err E.NoMemory)) files (λ fs other. refl))
  where
    same : (l : Option Log) → l ≡ logged l (Append name held (Err E.NoMemory))
    same None = refl
    same (Some calls) = refl

-- ---- the file is made, and the lines are added

module _ (name : List ℕ) (lines : List (List ℕ)) where
  -- the lines, each as a piece of its own
  each : ArePieces (singles lines) lines
  each = record { whole = joined-singles lines; small = small_singles lines }

  pub made_nothing : (log : Option Log) → MakesLines log log name lines (Err E.NoMemory)
  made_nothing log = (
    singles lines,
    each,
    record {
      before = [];
      call = Create name (Ok tt);
      after = piece_appends name (singles lines);
      all_is = refl;
      ending = [];
      refused = refl;
      calls = gained_nothing log;
    },
  )

  pub made_refused : (a b : Option Log) (e : DeskError) → (e ≡ E.Missing → ⊥) → b ≡ logged a (Create name (Err e)) → MakesLines a b name lines (Err e)
  made_refused a b e there is =
      let refusal = refused e there is in (
        singles lines,
        each,
        record {
          before = [];
          call = Create name (Ok tt);
          after = piece_appends name (singles lines);
          all_is = refl;
          ending = refusal.0;
          refused = refusal.1;
          calls = refusal.2;
        },
      )
    where
      refused : (e : DeskError) → (e ≡ E.Missing → ⊥) → b ≡ logged a (Create name (Err e)) → (ending : List Call) × IsRefusal e (Create name (Ok tt)) ending × Gained a b ending
      refused E.NoMemory there e = ([], refl, e ∙ gained_without a (Create name (Err E.NoMemory)) refl)
      refused E.Failed there e = (Create name (Err E.Failed) ∷ [], refl, e ∙ gained_call a (Create name (Err E.Failed)) refl)
      refused E.Missing there e = absurd (there refl)

  pub made_then : (a b c : Option Log) (result : Result (Unit {0}) DeskError) → b ≡ logged a (Create name (Ok tt)) → AppendsLines b c name lines result → MakesLines a c name lines result
  made_then a b c (Ok done) create (pieces, are, r) =
      (pieces, are, gained_more a b c (Create name (Ok tt) ∷ []) (piece_appends name pieces) (create ∙ gained_call a (Create name (Ok tt)) refl) r)
  made_then a b c (Err e) create (pieces, are, s) = (
    pieces,
    are,
    record {
      before = Create name (Ok tt) ∷ s.before;
      call = s.call;
      after = s.after;
      all_is = ap (λ (l : List Call). Create name (Ok tt) ∷ l) s.all_is;
      ending = s.ending;
      refused = s.refused;
      calls = gained_more a b c (Create name (Ok tt) ∷ []) (s.before ++ s.ending) (create ∙ gained_call a (Create name (Ok tt)) refl) s.calls;
    },
  )

  pub unmade_as : (e : DeskError) (x y : Files) → CreateDoes name (Err e) x y → IsMadeAs name (text lines) (Err e) x y
  unmade_as E.NoMemory x y stay = λ other d. stay other
  unmade_as E.Failed x y stay = stay
  unmade_as E.Missing x y h = absurd h

  pub made_as : (result : Result (Unit {0}) DeskError) (x y z : Files) → CreateDoes name (Ok tt) x y → GrowsBy name (text lines) result y z → IsMadeAs name (text lines) result x z
  made_as (Ok done) x y z (made, stay) (grown, others) = (grown ∙ ap (option_map (λ l. l ++ text lines)) made, λ other d. others other d ∙ stay other d)
  made_as (Err E.NoMemory) x y z (made, stay) others = λ other d. others other d ∙ stay other d
  made_as (Err E.Failed) x y z (made, stay) others = λ other d. others other d ∙ stay other d
  made_as (Err E.Missing) x y z (made, stay) (none, others) = λ other d. others other d ∙ stay other d

  -- where files are told, the file that was made is found
  pub made_untold : (result : Result (Unit {0}) DeskError) (a b c : Option Files) → result ≡ Err E.Missing → WhereTold a b (CreateDoes name (Ok tt)) → WhereTold b c (GrowsBy name (text lines) result) → a ≡ None
  made_untold (Ok done) a b c is p q = absurd cc
  made_untold (Err E.NoMemory) a b c is p q = absurd cc
  made_untold (Err E.Failed) a b c is p q = absurd cc
  made_untold (Err E.Missing) None b c is p q = refl
  made_untold (Err E.Missing) (Some x) None c is p q = absurd p
  made_untold (Err E.Missing) (Some x) (Some y) None is p q = absurd q
  made_untold (Err E.Missing) (Some x) (Some y) (Some z) is p q = absurd (let bad : Some [] ≡ None = sym p.0 ∙ q.0 in cc)

  -- ---- the sync of what was written

  pub synced_calls : (a b c : Option Log) (result : Result (Unit {0}) DeskError) → MakesLines a b name lines (Ok tt) → c ≡ b → MakesSynced a c name lines result
  synced_calls a b c (Ok done) made same = subst (λ (x : Option Log). MakesLines a x name lines (Ok tt)) (sym same) made
  synced_calls a b c (Err e) made same = inr (subst (λ (x : Option Log). MakesLines a x name lines (Ok tt)) (sym same) made)

  pub unmade_calls : (a b : Option Log) (e : DeskError) → MakesLines a b name lines (Err e) → MakesSynced a b name lines (Err e)
  unmade_calls a b e made = inl made

  pub synced_as : (result : Result (Unit {0}) DeskError) (a b c : Option Files) → WhereTold a b (IsMadeAs name (text lines) (Ok tt)) → c ≡ b → WhereTold a c (IsMadeAs name (text lines) result)
  synced_as result a b c made same = subst (λ (x : Option Files). WhereTold a x (IsMadeAs name (text lines) result)) (sym same) (by_files a b made)
    where
      by_result : (r : Result (Unit {0}) DeskError) (x y : Files) → IsMadeAs name (text lines) (Ok tt) x y → IsMadeAs name (text lines) r x y
      by_result (Ok done) x y h = h
      by_result (Err e) x y h = h.1

      by_files : (x y : Option Files) → WhereTold x y (IsMadeAs name (text lines) (Ok tt)) → WhereTold x y (IsMadeAs name (text lines) result)
      by_files None None h = tt
      by_files None (Some y) h = absurd h
      by_files (Some x) None h = absurd h
      by_files (Some x) (Some y) h = by_result result x y h

  -- where files are told, the file that was written is found
  pub synced_untold : (result : Result (Unit {0}) DeskError) (a b : Option Files) → result ≡ Err E.Missing → WhereTold a b (IsMadeAs name (text lines) (Ok tt))
      → IfSome b (λ fs. SyncIs name fs result) → a ≡ None
  synced_untold (Ok done) a b is made told = absurd cc
  synced_untold (Err E.NoMemory) a b is made told = absurd cc
  synced_untold (Err E.Failed) a b is made told = absurd cc
  synced_untold (Err E.Missing) None b is made told = refl
  synced_untold (Err E.Missing) (Some x) None is made told = absurd made
  synced_untold (Err E.Missing) (Some x) (Some y) is made told = absurd (let bad : Some (text lines) ≡ None = sym made.0 ∙ told in cc)
