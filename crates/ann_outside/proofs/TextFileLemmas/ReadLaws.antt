-- How a file is read piece by piece, and how that ends.
use Rattle.std.proofs.Common.{◌≡◌, ◌≢◌, ◌∙◌, ℕ, zero, suc, ◌+◌, ◌≤◌, ◌<◌, List, [], ◌∷◌, ◌++◌, length, refl, sym, ap, subst, arith, append-nil, take, drop, length-append, length-take-le, add-zero, inl, inr}
use Rattle.std.specs.Prelude.{⊤, true, false, Bool, Option, Some, None, Result, Ok, Err}
use Rattle.std.specs.List.{concat}
use Rattle.std.proofs.lemmas.List.{take_all, length-take}
use Rattle.std.proofs.Math.Seq.{take-add}
use Rattle.ann_key.specs.declared.bytes.NoMemory.{NoMemory}
use Rattle.ann_outside.specs.Calls.{Log, Gained, logged}
use Rattle.ann_outside.specs.DeskCauses.{Counts, HasCauses}
use Rattle.ann_outside.specs.Files.{Files, content, ReadIs}
use Rattle.ann_outside.specs.declared.file_desk.DeskError.{DeskError}
use Rattle.ann_outside.specs.declared.file_desk.DeskError.TheVariants as E
use Rattle.ann_outside.specs.declared.file_desk.Call.TheVariants.{ReadAt}
use Rattle.ann_outside.specs.declared.text_file.reading.FileRead.{FileRead}
use Rattle.ann_outside.specs.declared.text_file.reading.FileRead.TheVariants.{Text, TooLarge, Missing, Fault}
use Rattle.ann_outside.specs.TextFile.Reads.{read_calls, EndsUnkept, EndsRead, IsReadBy, IsReadOf, is_counted, HasReadCauses, refusal_of, EndsStep, IsStep, AreFirst, IsStepOf, IsReading, IsReadingOf}
use Rattle.ann_outside.proofs.TextFileLemmas.Logs.{gained_nothing, gained_more, gained_call, gained_without}
use Rattle.ann_key.proofs.Lists.{concat-snoc}

-- ---- one piece

-- a read that gave nothing has met the end
pub end_met : (name bytes more buffer : List ℕ) (from n : ℕ) (files : Files) → from ≡ length bytes → n ≡ 0 → ReadIs name from buffer files (Ok n) → IsStepOf name bytes more files (Ok false)
end_met name bytes more buffer from n files at none h first = go (content name files) refl
  where
    go : (c : Option (List ℕ)) → content name files ≡ c → content name files ≡ Some bytes
    go None e = absurd (h.0 e)
    go (Some all) e =
        let short : length all ≤ length bytes = subst (λ (k : ℕ). length all ≤ k) at ((h.1 all e).1 none) in
        e ∙ ap Some (sym (first all e ∙ take_all (length bytes) all short))

-- one that gave something goes on
pub piece_met : (name bytes more buffer : List ℕ) (from n : ℕ) (files : Files) → from ≡ length bytes → n ≤ length buffer → more ≡ bytes ++ take n buffer → ReadIs name from buffer files (Ok n)
    → IsStepOf name bytes more files (Ok true)
piece_met name bytes more buffer from n files at fits e h = (
  h.0,
  λ first all is.
      (let size : length more ≡ length bytes + n = ap (λ (l : List ℕ). length l) e ∙ length-append bytes (take n buffer) ∙ ap (λ (k : ℕ). length bytes + k) (length-take-le n buffer fits) in
      e ∙ ap (λ (l : List ℕ). l ++ take n buffer) (first all is)
      ∙ ap (λ (l : List ℕ). take (length bytes) all ++ l) ((h.1 all is).0 ∙ ap (λ (k : ℕ). take n (drop k all)) at)
      ∙ sym (take-add (length bytes) n all) ∙ ap (λ (k : ℕ). take k all) (sym size)),
)

pub refusal_met : (name bytes more buffer : List ℕ) (from : ℕ) (files : Files) (e : DeskError) → ReadIs name from buffer files (Err e) → IsStepOf name bytes more files (Err e)
refusal_met name bytes more buffer from files E.Missing h = h
refusal_met name bytes more buffer from files E.Failed h = tt
refusal_met name bytes more buffer from files E.NoMemory h = tt

pub step_refused : (old new : Option Log) (name bytes more : List ℕ) (from : ℕ) (e : DeskError) → from ≡ length bytes → new ≡ logged old (ReadAt name from (Err e)) → IsStep old new name bytes more (Err e)
step_refused old new name bytes more from E.NoMemory at e = ([], e ∙ gained_without old (ReadAt name from (Err E.NoMemory)) refl, inl refl)
step_refused old new name bytes more from E.Failed at e = (ReadAt name from (Err E.Failed) ∷ [], e ∙ gained_call old (ReadAt name from (Err E.Failed)) refl, ap (λ (k : ℕ). ReadAt name k (Err E.Failed) ∷ []) at)
step_refused old new name bytes more from E.Missing at e = (ReadAt name from (Err E.Missing) ∷ [], e ∙ gained_call old (ReadAt name from (Err E.Missing)) refl, ap (λ (k : ℕ). ReadAt name k (Err E.Missing) ∷ []) at)

pub step_unkept : (old new : Option Log) (name bytes more piece : List ℕ) (from : ℕ) → from ≡ length bytes → new ≡ logged old (ReadAt name from (Ok piece)) → IsStep old new name bytes more (Err E.NoMemory)
step_unkept old new name bytes more piece from at e =
    (ReadAt name from (Ok piece) ∷ [], e ∙ gained_call old (ReadAt name from (Ok piece)) refl, inr (piece, ap (λ (k : ℕ). ReadAt name k (Ok piece) ∷ []) at))

-- ---- the pieces

read_calls-snoc : (name : List ℕ) (at : ℕ) (pieces : List (List ℕ)) (piece : List ℕ)
    → read_calls name at (pieces ++ piece ∷ []) ≡ read_calls name at pieces ++ ReadAt name (at + length (concat pieces)) (Ok piece) ∷ []
read_calls-snoc name at [] piece = ap (λ n. ReadAt name n (Ok piece) ∷ []) (sym (add-zero at))
read_calls-snoc name at (first ∷ more) piece =
    let place : (at + length first) + length (concat more) ≡ at + length (first ++ concat more) = omega (arith, length-append first (concat more)) in
    ap (λ l. ReadAt name at (Ok first) ∷ l)
    (read_calls-snoc name (at + length first) more piece
    ∙ ap (λ n. read_calls name (at + length first) more ++ ReadAt name n (Ok piece) ∷ []) place)

pub reading_nothing : (log : Option Log) (name bytes : List ℕ) → bytes ≡ [] → IsReading log log name bytes
reading_nothing log name bytes e = record { pieces = []; all = sym e; calls = gained_nothing log }

pub reading_nothing_of : (name bytes : List ℕ) (files : Files) → bytes ≡ [] → IsReadingOf name bytes files
reading_nothing_of name bytes files e = record {
  first = λ all is. subst (λ (l : List ℕ). l ≡ take (length l) all) (sym e) refl;
  there = λ some. absurd (let none : length bytes ≡ 0 = ap (λ (l : List ℕ). length l) e in omega (arith, some, none));
}

pub reading_more : (a b c : Option Log) (name bytes more : List ℕ) (going : Bool) → going ≡ true → IsReading a b name bytes → IsStep b c name bytes more (Ok going) → IsReading a c name more
reading_more a b c name bytes more false e r s = absurd cc
reading_more a b c name bytes more true e r (piece, gained, is, some) = record {
  pieces = r.pieces ++ piece ∷ [];
  all = concat-snoc r.pieces piece ∙ ap (λ (l : List ℕ). l ++ piece) r.all ∙ sym is;
  calls = subst (Gained a c) (sym calls_are) (gained_more a b c (read_calls name 0 r.pieces) (ReadAt name (length bytes) (Ok piece) ∷ []) r.calls gained);
}
  where
    calls_are : read_calls name 0 (r.pieces ++ piece ∷ []) ≡ read_calls name 0 r.pieces ++ ReadAt name (length bytes) (Ok piece) ∷ []
    calls_are =
        let place : 0 + length (concat r.pieces) ≡ length bytes = omega (arith, ap (λ (l : List ℕ). length l) r.all) in
        read_calls-snoc name 0 r.pieces piece ∙ ap (λ k. read_calls name 0 r.pieces ++ ReadAt name k (Ok piece) ∷ []) place

pub reading_more_of : (name bytes more : List ℕ) (files : Files) (going : Bool) → going ≡ true → IsReadingOf name bytes files → IsStepOf name bytes more files (Ok going) → IsReadingOf name more files
reading_more_of name bytes more files false e r s = absurd cc
reading_more_of name bytes more files true e r s = record { first = s.1 r.first; there = λ some. s.0 }

-- the bytes grow
pub step_grows : (old new : Option Log) (name bytes more : List ℕ) (going : Bool) → going ≡ true → IsStep old new name bytes more (Ok going) → length bytes < length more
step_grows old new name bytes more false e s = absurd cc
step_grows old new name bytes more true e (piece, gained, is, some) = omega (arith, some, ap (λ (l : List ℕ). length l) is, length-append bytes piece)

-- ---- the end

pub read_whole : (a b c : Option Log) (name bytes more text : List ℕ) (limit : ℕ) (going : Bool) → going ≡ false → IsReading a b name bytes → IsStep b c name bytes more (Ok going) → text ≡ more → length bytes ≤ limit
    → IsReadBy a c name limit (Ok (Text text))
read_whole a b c name bytes more text limit true e r s t low = absurd cc
read_whole a b c name bytes more text limit false e r (gained, same) t low = record {
  pieces = r.pieces;
  ending = ReadAt name (length bytes) (Ok []) ∷ [];
  calls = gained_more a b c (read_calls name 0 r.pieces) (ReadAt name (length bytes) (Ok []) ∷ []) r.calls gained;
  ends =
      subst (λ (l : List ℕ). (text ≡ l) × (length l ≤ limit) × (ReadAt name (length bytes) (Ok []) ∷ [] ≡ ReadAt name (length l) (Ok []) ∷ [])) (sym r.all)
      (t ∙ same, low, refl);
}

pub read_whole_of : (name bytes more text : List ℕ) (limit : ℕ) (files : Files) (going : Bool) → going ≡ false → more ≡ bytes → text ≡ more → IsReadingOf name bytes files → IsStepOf name bytes more files (Ok going)
    → IsReadOf name limit files (Ok (Text text))
read_whole_of name bytes more text limit files true e same t r s = absurd cc
read_whole_of name bytes more text limit files false e same t r s = s r.first ∙ ap Some (sym (t ∙ same))

pub step_same : (old new : Option Log) (name bytes more : List ℕ) (going : Bool) → going ≡ false → IsStep old new name bytes more (Ok going) → more ≡ bytes
step_same old new name bytes more true e s = absurd cc
step_same old new name bytes more false e s = s.1

pub read_past : (a b : Option Log) (name bytes : List ℕ) (limit : ℕ) → IsReading a b name bytes → limit < length bytes → IsReadBy a b name limit (Ok TooLarge)
read_past a b name bytes limit r high = record {
  pieces = r.pieces;
  ending = [];
  calls = subst (Gained a b) (sym (append-nil (read_calls name 0 r.pieces))) r.calls;
  ends = (subst (λ (l : List ℕ). limit < length l) (sym r.all) high, refl);
}

pub read_past_of : (name bytes : List ℕ) (limit : ℕ) (files : Files) → IsReadingOf name bytes files → limit < length bytes → IsReadOf name limit files (Ok TooLarge)
read_past_of name bytes limit files r high = go (content name files) refl
  where
    some : 0 < length bytes
    some = omega (arith, high)

    go : (c : Option (List ℕ)) → content name files ≡ c → IsReadOf name limit files (Ok TooLarge)
    go None e = absurd (r.there some e)
    go (Some all) e = (all, e, go_size (ap (λ (l : List ℕ). length l) (r.first all e)))
      where
        go_size : length bytes ≡ length (take (length bytes) all) → limit < length all
        go_size size = omega (arith, high, size, length-take (length bytes) all)

pub read_refused : (a b c : Option Log) (name bytes more : List ℕ) (limit : ℕ) (e : DeskError) → IsReading a b name bytes → IsStep b c name bytes more (Err e) → IsReadBy a c name limit (refusal_of e)
read_refused a b c name bytes more limit e r (ending, gained, ends) = record {
  pieces = r.pieces;
  ending = ending;
  calls = gained_more a b c (read_calls name 0 r.pieces) ending r.calls gained;
  ends = subst (λ (l : List ℕ). EndsRead name limit l (refusal_of e) ending) (sym r.all) (as_end e ends);
}
  where
    as_end : (e : DeskError) → EndsStep name (length bytes) e ending → EndsRead name limit bytes (refusal_of e) ending
    as_end E.NoMemory h = h
    as_end E.Failed h = h
    as_end E.Missing h = h

pub read_refused_of : (name bytes more : List ℕ) (limit : ℕ) (files : Files) (e : DeskError) → IsStepOf name bytes more files (Err e) → IsReadOf name limit files (refusal_of e)
read_refused_of name bytes more limit files E.NoMemory h = tt
read_refused_of name bytes more limit files E.Failed h = tt
read_refused_of name bytes more limit files E.Missing h = h

pub read_nothing : (log : Option Log) (name : List ℕ) (limit : ℕ) (e : NoMemory) → IsReadBy log log name limit (Err e)
read_nothing log name limit e = record { pieces = []; ending = []; calls = gained_nothing log; ends = inl refl }

-- ---- the causes

pub causes_quiet : (old new : Counts) (result : Result FileRead NoMemory) → is_counted result ≡ false → new ≡ old → HasReadCauses old new result
causes_quiet old new result q e = record {
  faults_later = let same : new.faults ≡ old.faults = ap (λ (c : Counts). c.faults) e in omega (arith, same);
  missing_later = let same : new.missing ≡ old.missing = ap (λ (c : Counts). c.missing) e in omega (arith, same);
  fault = λ is. absurd (let bad : true ≡ false = sym (ap is_counted is) ∙ q in cc);
  missing = λ is. absurd (let bad : true ≡ false = sym (ap is_counted is) ∙ q in cc);
  quiet = λ q. e;
}

pub causes_refused : (old mid new : Counts) {T : Type 0} (r : Result T DeskError) (e : DeskError) → r ≡ Err e → mid ≡ old → HasCauses mid new r → HasReadCauses old new (refusal_of e)
causes_refused old mid new r e is same h = subst (λ (k : Counts). HasReadCauses k new (refusal_of e)) same (go e is)
  where
    go : (e : DeskError) → r ≡ Err e → HasReadCauses mid new (refusal_of e)
    go E.NoMemory is = causes_quiet mid new (refusal_of E.NoMemory) refl (h.no_memory is)
    go E.Failed is = record { faults_later = h.faults_later; missing_later = h.missing_later; fault = λ e. h.failed is; missing = λ e. cc; quiet = λ q. absurd cc }
    go E.Missing is = record { faults_later = h.faults_later; missing_later = h.missing_later; fault = λ e. cc; missing = λ e. h.missing is; quiet = λ q. absurd cc }
