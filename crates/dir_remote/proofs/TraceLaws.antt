-- How the calls of a copy and of a store add up.
use Rattle.std.proofs.Common.{◌≡◌, ◌∙◌, ℕ, zero, suc, ◌+◌, ◌≤◌, List, [], ◌∷◌, ◌++◌, length, refl, sym, ap, subst, arith, take, length-append, length-take-le, add-zero}
use Rattle.std.specs.Prelude.{Bool, true, false, is_some, Option, Some, None, IfSome, Result, Ok, Err}
use Rattle.std.specs.List.{concat}
use Rattle.ann_outside.specs.Calls.{Log, logged, lacks_memory, bytes_read}
use Rattle.ann_outside.proofs.Gains.{gained_nothing, gained_more, gained_call, gained_without}
use Rattle.ann_outside.specs.declared.file_desk.DeskError.{DeskError}
use Rattle.ann_outside.specs.declared.file_desk.DeskError.TheVariants.{Failed, Missing, NoMemory}
use Rattle.ann_outside.specs.declared.file_desk.Call.{Call}
use Rattle.ann_outside.specs.declared.file_desk.Call.TheVariants.{Size, ReadAt, Create, Append, Cut, Rename, Remove}
use Rattle.dir_remote.specs.Contents.{IsContentName, temporary_name}
use Rattle.dir_remote.specs.Outcomes.{IsUnnamed, refusal_of}
use Rattle.dir_remote.specs.Traces.{Each, piece_calls, copy_calls, IsClearing, IsCopyCall, PieceTraces, CopyTraces, Traced, IsStoreCall, StoreTraces, IsRetrieveCall}
use Rattle.dir_remote.specs.declared.outcome.Outcome.{Outcome}
use Rattle.dir_remote.specs.declared.outcome.Outcome.TheVariants as O
use Rattle.ann_key.proofs.Lists.{concat-snoc}

pub traced_none : (P : List Call → Type 0) (log : Option Log) → P [] → Traced P log log
traced_none P log p = record { calls = []; gained = gained_nothing log; are = p }

-- a call that found memory
pub traced_call : (P : List Call → Type 0) (a b : Option Log) (call : Call) → lacks_memory call ≡ false → b ≡ logged a call → P (call ∷ []) → Traced P a b
traced_call P a b call found e p = record { calls = call ∷ []; gained = e ∙ gained_call a call found; are = p }

-- a call, whatever it answered
pub traced_one : (Q : Call → Type 0) (a b : Option Log) (call : Call) → b ≡ logged a call → Q call → Traced (Each Q) a b
traced_one Q a b call e q = by_test (lacks_memory call) refl
  where
    by_test : (t : Bool) → lacks_memory call ≡ t → Traced (Each Q) a b
    by_test true h = record { calls = []; gained = e ∙ gained_without a call h; are = tt }
    by_test false h = record { calls = call ∷ []; gained = e ∙ gained_call a call h; are = (q, tt) }

pub traced_then : (P Q R : List Call → Type 0) (a b c : Option Log) → ((xs ys : List Call) → P xs → Q ys → R (xs ++ ys)) → Traced P a b → Traced Q b c → Traced R a c
traced_then P Q R a b c join p q = record { calls = p.calls ++ q.calls; gained = gained_more a b c p.calls q.calls p.gained q.gained; are = join p.calls q.calls p.are q.are }

pub traced_map : (P Q : List Call → Type 0) (a b : Option Log) → ((xs : List Call) → P xs → Q xs) → Traced P a b → Traced Q a b
traced_map P Q a b f p = record { calls = p.calls; gained = p.gained; are = f p.calls p.are }

pub each_append : (P : Call → Type 0) (xs ys : List Call) → Each P xs → Each P ys → Each P (xs ++ ys)
each_append P [] ys p q = q
each_append P (x ∷ xs) ys p q = (p.0, each_append P xs ys p.1 q)

pub each_map : (P Q : Call → Type 0) → ((call : Call) → P call → Q call) → (xs : List Call) → Each P xs → Each Q xs
each_map P Q f [] p = tt
each_map P Q f (x ∷ xs) p = (f x p.0, each_map P Q f xs p.1)

-- ---- one piece

pub piece_end_traced : (file name buffer : List ℕ) (at n : ℕ) (a b : Option Log) → n ≡ 0 → b ≡ logged a (ReadAt file at (bytes_read buffer (Ok n)))
    → Traced (PieceTraces file name at (Ok 0)) a b
piece_end_traced file name buffer at (suc n) a b e is = absurd (omega (arith, e))
piece_end_traced file name buffer at zero a b e is = traced_call (PieceTraces file name at (Ok 0)) a b (ReadAt file at (Ok [])) refl is refl

pub piece_moved_traced : (file name buffer : List ℕ) (at n : ℕ) (a b c : Option Log) → (n ≡ 0 → ⊥) → n ≤ length buffer
    → b ≡ logged a (ReadAt file at (bytes_read buffer (Ok n))) → c ≡ logged b (Append name (take n buffer) (Ok tt)) → Traced (PieceTraces file name at (Ok n)) a c
piece_moved_traced file name buffer at zero a b c some fits read append = absurd (some refl)
piece_moved_traced file name buffer at (suc n) a b c some fits read append =
    let piece = take (suc n) buffer in record {
      calls = ReadAt file at (Ok piece) ∷ Append name piece (Ok tt) ∷ [];
      gained = gained_more a b c (ReadAt file at (Ok piece) ∷ []) (Append name piece (Ok tt) ∷ []) (read ∙ gained_call a (ReadAt file at (Ok piece)) refl) (append ∙ gained_call b (Append name piece (Ok tt)) refl);
      are = (piece, length-take-le (suc n) buffer fits, refl);
    }

pub piece_unread_traced : (file name : List ℕ) (at : ℕ) (e : DeskError) (a b : Option Log) → b ≡ logged a (ReadAt file at (Err e)) → Traced (PieceTraces file name at (Err e)) a b
piece_unread_traced file name at e a b is = traced_one (IsCopyCall false file name) a b (ReadAt file at (Err e)) is refl

pub piece_unwritten_traced : (file name piece more : List ℕ) (at : ℕ) (e : DeskError) (a b c : Option Log) → b ≡ logged a (ReadAt file at (Ok piece))
    → c ≡ logged b (Append name more (Err e)) → Traced (PieceTraces file name at (Err e)) a c
piece_unwritten_traced file name piece more at e a b c read append =
    traced_then (Each (IsCopyCall false file name)) (Each (IsCopyCall false file name)) (Each (IsCopyCall false file name)) a b c (each_append (IsCopyCall false file name))
    (traced_one (IsCopyCall false file name) a b (ReadAt file at (Ok piece)) read refl)
    (traced_one (IsCopyCall false file name) b c (Append name more (Err e)) append refl)

-- ---- a copy

piece_calls-snoc : (file name : List ℕ) (at : ℕ) (pieces : List (List ℕ)) (piece : List ℕ)
    → piece_calls file name at (pieces ++ piece ∷ []) ≡ piece_calls file name at pieces ++ ReadAt file (at + length (concat pieces)) (Ok piece) ∷ Append name piece (Ok tt) ∷ []
piece_calls-snoc file name at [] piece = ap (λ n. ReadAt file n (Ok piece) ∷ Append name piece (Ok tt) ∷ []) (sym (add-zero at))
piece_calls-snoc file name at (first ∷ more) piece =
    let place : (at + length first) + length (concat more) ≡ at + length (first ++ concat more) = omega (arith, length-append first (concat more)) in
    ap (λ l. ReadAt file at (Ok first) ∷ Append name first (Ok tt) ∷ l)
    (piece_calls-snoc file name (at + length first) more piece
    ∙ ap (λ n. piece_calls file name (at + length first) more ++ ReadAt file n (Ok piece) ∷ Append name piece (Ok tt) ∷ []) place)

-- the calls of a copy that has come so far
abbrev pub SoFar : List ℕ → List ℕ → ℕ → List Call → Type 0
SoFar file name at calls = (pieces : List (List ℕ)) × (length (concat pieces) ≡ at) × (calls ≡ Create name (Ok tt) ∷ piece_calls file name 0 pieces)

pub copy_begins : (file name : List ℕ) (a b : Option Log) → b ≡ logged a (Create name (Ok tt)) → Traced (SoFar file name 0) a b
copy_begins file name a b is = traced_call (SoFar file name 0) a b (Create name (Ok tt)) refl is ([], refl, refl)

pub copy_goes_on : (file name : List ℕ) (at n : ℕ) (a b c : Option Log) → (n ≡ 0 → ⊥) → Traced (SoFar file name at) a b → Traced (PieceTraces file name at (Ok n)) b c
    → Traced (SoFar file name (at + n)) a c
copy_goes_on file name at zero a b c some p q = absurd (some refl)
copy_goes_on file name at (suc n) a b c some p q = traced_then (SoFar file name at) (PieceTraces file name at (Ok (suc n))) (SoFar file name (at + suc n)) a b c join p q
  where
    join : (xs ys : List Call) → SoFar file name at xs → PieceTraces file name at (Ok (suc n)) ys → SoFar file name (at + suc n) (xs ++ ys)
    join xs ys (pieces, long, is) (piece, size, more) = (
      pieces ++ piece ∷ [],
      ap (λ (l : List ℕ). length l) (concat-snoc pieces piece) ∙ omega (arith, length-append (concat pieces) piece, size, long),
      ap (λ (l : List Call). l ++ ys) is ∙ ap (λ (l : List Call). Create name (Ok tt) ∷ (piece_calls file name 0 pieces ++ l)) more
          ∙ ap (λ k. Create name (Ok tt) ∷ (piece_calls file name 0 pieces ++ ReadAt file k (Ok piece) ∷ Append name piece (Ok tt) ∷ [])) place
          ∙ ap (λ (l : List Call). Create name (Ok tt) ∷ l) (sym (piece_calls-snoc file name 0 pieces piece)),
    )
      where
        place : at ≡ 0 + length (concat pieces)
        place = omega (arith, long)

pub copy_ends_traced : (clears : Bool) (file name : List ℕ) (at : ℕ) (a b c : Option Log) → Traced (SoFar file name at) a b → Traced (PieceTraces file name at (Ok 0)) b c
    → Traced (CopyTraces clears file name (Ok tt)) a c
copy_ends_traced clears file name at a b c p q = traced_then (SoFar file name at) (PieceTraces file name at (Ok 0)) (CopyTraces clears file name (Ok tt)) a b c join p q
  where
    join : (xs ys : List Call) → SoFar file name at xs → PieceTraces file name at (Ok 0) ys → CopyTraces clears file name (Ok tt) (xs ++ ys)
    join xs ys (pieces, long, is) more = (
      pieces,
      ap (λ (l : List Call). l ++ ys) is ∙ ap (λ (l : List Call). Create name (Ok tt) ∷ (piece_calls file name 0 pieces ++ l)) more
          ∙ ap (λ k. Create name (Ok tt) ∷ (piece_calls file name 0 pieces ++ ReadAt file k (Ok []) ∷ [])) (sym long),
    )

-- each call of a copy is one
pub pieces_each : (clears : Bool) (file name : List ℕ) (at : ℕ) (pieces : List (List ℕ)) → Each (IsCopyCall clears file name) (piece_calls file name at pieces)
pieces_each clears file name at [] = tt
pieces_each clears file name at (piece ∷ pieces) = (refl, (refl, pieces_each clears file name (at + length piece) pieces))

pub copy_each : (clears : Bool) (file name : List ℕ) (pieces : List (List ℕ)) → Each (IsCopyCall clears file name) (copy_calls file name pieces)
copy_each clears file name pieces =
    (refl, each_append (IsCopyCall clears file name) (piece_calls file name 0 pieces) (ReadAt file (length (concat pieces)) (Ok []) ∷ []) (pieces_each clears file name 0 pieces) (refl, tt))

-- a call that clears nothing away may stand where something is
calls_clear : (clears : Bool) (file name : List ℕ) (call : Call) → IsCopyCall false file name call → IsCopyCall clears file name call
calls_clear clears file name (Size n answer) h = absurd h
calls_clear clears file name (ReadAt n at answer) h = h
calls_clear clears file name (Create n answer) h = h
calls_clear clears file name (Append n piece answer) h = h
calls_clear clears file name (Cut n size answer) h = absurd h
calls_clear clears file name (Rename from to answer) h = absurd h
calls_clear clears file name (Remove n answer) h = absurd (let bad : false ≡ true = h.0 in cc)

clearing_call : (clears : Bool) (file name : List ℕ) (call : Call) → IsClearing clears name call → IsCopyCall clears file name call
clearing_call clears file name (Size n answer) h = absurd h
clearing_call clears file name (ReadAt n at answer) h = absurd h
clearing_call clears file name (Create n answer) h = absurd h
clearing_call clears file name (Append n piece answer) h = absurd h
clearing_call clears file name (Cut n size answer) h = absurd h
clearing_call clears file name (Rename from to answer) h = absurd h
clearing_call clears file name (Remove n answer) h = h

pub copy_unmade_traced : (clears : Bool) (file name : List ℕ) (e : DeskError) (a b : Option Log) → b ≡ logged a (Create name (Err e)) → Traced (CopyTraces clears file name (Err e)) a b
copy_unmade_traced clears file name e a b is = traced_one (IsCopyCall clears file name) a b (Create name (Err e)) is refl

pub copy_breaks_traced : (clears : Bool) (file name : List ℕ) (at : ℕ) (e : DeskError) (a b c d : Option Log) → Traced (SoFar file name at) a b
    → Traced (PieceTraces file name at (Err e)) b c → Traced (Each (IsClearing clears name)) c d → Traced (CopyTraces clears file name (Err e)) a d
copy_breaks_traced clears file name at e a b c d p q r =
    let Q = IsCopyCall clears file name in
    traced_then (Each Q) (Each Q) (Each Q) a c d (each_append Q)
    (traced_then (SoFar file name at) (Each (IsCopyCall false file name)) (Each Q) a b c join p q)
    (traced_map (Each (IsClearing clears name)) (Each Q) c d (each_map (IsClearing clears name) Q (clearing_call clears file name)) r)
  where
    join : (xs ys : List Call) → SoFar file name at xs → Each (IsCopyCall false file name) ys → Each (IsCopyCall clears file name) (xs ++ ys)
    join xs ys (pieces, long, is) more =
        each_append (IsCopyCall clears file name) xs ys
        (subst (λ (l : List Call). Each (IsCopyCall clears file name) l) (sym is) (refl, pieces_each clears file name 0 pieces))
        (each_map (IsCopyCall false file name) (IsCopyCall clears file name) (calls_clear clears file name) ys more)

-- ---- a store

store_call : (mark : Option (List ℕ)) (directory text file : List ℕ) (call : Call) → IsCopyCall (is_some mark) file (temporary_name mark directory text) call
    → IsStoreCall mark directory text file call
store_call mark directory text file (Size n answer) h = h
store_call mark directory text file (ReadAt n at answer) h = h
store_call mark directory text file (Create n answer) h = h
store_call mark directory text file (Append n piece answer) h = h
store_call mark directory text file (Cut n size answer) h = h
store_call mark directory text file (Rename from to answer) h = absurd h
store_call mark directory text file (Remove n answer) h = h

-- the outcomes of an unfinished store
pub broken_traces : (mark : Option (List ℕ)) (directory text file : List ℕ) (e : DeskError) (calls : List Call) → Each (IsStoreCall mark directory text file) calls
    → StoreTraces mark directory text file (refusal_of e) calls
broken_traces mark directory text file Failed calls h = h
broken_traces mark directory text file Missing calls h = h
broken_traces mark directory text file NoMemory calls h = h

pub store_idle_traced : (mark : Option (List ℕ)) (directory text file : List ℕ) (outcome : Outcome) (log : Option Log) → IsUnnamed text outcome
    → Traced (StoreTraces mark directory text file outcome) log log
store_idle_traced mark directory text file O.NotText log h = traced_none (StoreTraces mark directory text file O.NotText) log tt
store_idle_traced mark directory text file O.NoMemory log h = traced_none (StoreTraces mark directory text file O.NoMemory) log tt
store_idle_traced mark directory text file O.Done log h = absurd h
store_idle_traced mark directory text file O.NotThere log h = absurd h
store_idle_traced mark directory text file O.NotPrepared log h = absurd h
store_idle_traced mark directory text file O.NoDirectory log h = absurd h
store_idle_traced mark directory text file O.DiskFailed log h = absurd h
store_idle_traced mark directory text file O.NoSuchFile log h = absurd h

pub store_done_traced : (mark : Option (List ℕ)) (directory text file beside place : List ℕ) (clears : Bool) (a b c : Option Log) → beside ≡ temporary_name mark directory text
    → IsContentName directory text place → Traced (CopyTraces clears file beside (Ok tt)) a b → c ≡ logged b (Rename beside place (Ok tt)) → Traced (StoreTraces mark directory text file O.Done) a c
store_done_traced mark directory text file beside place clears a b c at_beside at_place p is =
    traced_then (CopyTraces clears file beside (Ok tt)) (λ ys. ys ≡ Rename beside place (Ok tt) ∷ []) (StoreTraces mark directory text file O.Done) a b c join p
    (traced_call (λ ys. ys ≡ Rename beside place (Ok tt) ∷ []) b c (Rename beside place (Ok tt)) refl is refl)
  where
    join : (xs ys : List Call) → CopyTraces clears file beside (Ok tt) xs → ys ≡ Rename beside place (Ok tt) ∷ [] → StoreTraces mark directory text file O.Done (xs ++ ys)
    join xs ys (pieces, copied) renamed = (
      place,
      at_place,
      (
        pieces,
        ap (λ (l : List Call). l ++ ys) copied ∙ ap (λ (l : List Call). copy_calls file beside pieces ++ l) renamed
            ∙ ap (λ (n : List ℕ). copy_calls file n pieces ++ Rename n place (Ok tt) ∷ []) at_beside,
      ),
    )

at_temporary : (mark : Option (List ℕ)) (directory text file beside : List ℕ) (clears : Bool) → clears ≡ is_some mark → beside ≡ temporary_name mark directory text
    → (calls : List Call) → Each (IsCopyCall clears file beside) calls → Each (IsStoreCall mark directory text file) calls
at_temporary mark directory text file beside clears alone at_beside calls h =
    each_map (IsCopyCall (is_some mark) file (temporary_name mark directory text)) (IsStoreCall mark directory text file) (store_call mark directory text file) calls
    (subst (λ (n : List ℕ). Each (IsCopyCall (is_some mark) file n) calls) at_beside (subst (λ (t : Bool). Each (IsCopyCall t file beside) calls) alone h))

pub store_uncopied_traced : (mark : Option (List ℕ)) (directory text file beside : List ℕ) (clears : Bool) (e : DeskError) (a b : Option Log) → clears ≡ is_some mark
    → beside ≡ temporary_name mark directory text → Traced (CopyTraces clears file beside (Err e)) a b → Traced (StoreTraces mark directory text file (refusal_of e)) a b
store_uncopied_traced mark directory text file beside clears e a b alone at_beside p =
    traced_map (CopyTraces clears file beside (Err e)) (StoreTraces mark directory text file (refusal_of e)) a b
    (λ calls h. broken_traces mark directory text file e calls (at_temporary mark directory text file beside clears alone at_beside calls h)) p

pub store_unnamed_traced : (mark : Option (List ℕ)) (directory text file beside place : List ℕ) (clears : Bool) (e : DeskError) (a b c d : Option Log) → clears ≡ is_some mark
    → beside ≡ temporary_name mark directory text → IsContentName directory text place → Traced (CopyTraces clears file beside (Ok tt)) a b
    → c ≡ logged b (Rename beside place (Err e)) → Traced (Each (IsClearing clears beside)) c d → Traced (StoreTraces mark directory text file (refusal_of e)) a d
store_unnamed_traced mark directory text file beside place clears e a b c d alone at_beside at_place p is r =
    let Q = IsStoreCall mark directory text file in
    traced_map (Each Q) (StoreTraces mark directory text file (refusal_of e)) a d (broken_traces mark directory text file e)
    (traced_then (Each Q) (Each Q) (Each Q) a c d (each_append Q)
    (traced_then (CopyTraces clears file beside (Ok tt)) (Each Q) (Each Q) a b c copied p (traced_one Q b c (Rename beside place (Err e)) is (at_beside, at_place)))
    (traced_map (Each (IsClearing clears beside)) (Each Q) c d cleared r))
  where
    copied : (xs ys : List Call) → CopyTraces clears file beside (Ok tt) xs → Each (IsStoreCall mark directory text file) ys → Each (IsStoreCall mark directory text file) (xs ++ ys)
    copied xs ys (pieces, e) more =
        each_append (IsStoreCall mark directory text file) xs ys
        (at_temporary mark directory text file beside clears alone at_beside xs (subst (λ (l : List Call). Each (IsCopyCall clears file beside) l) (sym e) (copy_each clears file beside pieces))) more

    cleared : (xs : List Call) → Each (IsClearing clears beside) xs → Each (IsStoreCall mark directory text file) xs
    cleared xs h = at_temporary mark directory text file beside clears alone at_beside xs (each_map (IsClearing clears beside) (IsCopyCall clears file beside) (clearing_call clears file beside) xs h)

-- ---- a retrieval

retrieve_call : (directory text file place : List ℕ) → IsContentName directory text place → (call : Call) → IsCopyCall false place file call → IsRetrieveCall directory text file call
retrieve_call directory text file place at_place (Size n answer) h = absurd h
retrieve_call directory text file place at_place (ReadAt n at answer) h = subst (λ (m : List ℕ). IsContentName directory text m) (sym h) at_place
retrieve_call directory text file place at_place (Create n answer) h = h
retrieve_call directory text file place at_place (Append n piece answer) h = h
retrieve_call directory text file place at_place (Cut n size answer) h = absurd h
retrieve_call directory text file place at_place (Rename from to answer) h = absurd h
retrieve_call directory text file place at_place (Remove n answer) h = absurd (let bad : false ≡ true = h.0 in cc)

pub retrieve_traced : (directory text file place : List ℕ) (answer : Result ℕ DeskError) (result : Result (Unit {0}) DeskError) (a b c : Option Log) → IsContentName directory text place
    → b ≡ logged a (Size place answer) → Traced (CopyTraces false place file result) b c → Traced (Each (IsRetrieveCall directory text file)) a c
retrieve_traced directory text file place answer result a b c at_place is p =
    let Q = IsRetrieveCall directory text file in
    traced_then (Each Q) (CopyTraces false place file result) (Each Q) a b c (join result) (traced_one Q a b (Size place answer) is at_place) p
  where
    join : (r : Result (Unit {0}) DeskError) (xs ys : List Call) → Each (IsRetrieveCall directory text file) xs → CopyTraces false place file r ys → Each (IsRetrieveCall directory text file) (xs ++ ys)
    join (Ok done) xs ys p (pieces, e) =
        each_append (IsRetrieveCall directory text file) xs ys p
        (each_map (IsCopyCall false place file) (IsRetrieveCall directory text file) (retrieve_call directory text file place at_place) ys
        (subst (λ (l : List Call). Each (IsCopyCall false place file) l) (sym e) (copy_each false place file pieces)))
    join (Err e) xs ys p h =
        each_append (IsRetrieveCall directory text file) xs ys p
        (each_map (IsCopyCall false place file) (IsRetrieveCall directory text file) (retrieve_call directory text file place at_place) ys h)

-- what holds of the directory that was given
pub of_directory : (P : List ℕ → Type 0) (given : Option (List ℕ)) (directory : List ℕ) → given ≡ Some directory → P directory → IfSome given P
of_directory P None directory e p = cc
of_directory P (Some other) directory e p = let same : directory ≡ other = cc in subst P same p
