-- How a range is copied piece by piece, and how that ends.
use Rattle.std.proofs.Common.{◌≡◌, ◌∙◌, ℕ, zero, suc, ◌+◌, ◌-◌, ◌≤◌, List, [], ◌∷◌, ◌++◌, length, refl, sym, ap, arith, append-nil, take, length-append, length-take-le, add-zero, inl, inr}
use Rattle.std.specs.Prelude.{◌<◌, ◌&&◌, Bool, true, nat_lt, Option, Result, Ok, Err}
use Rattle.std.specs.List.{concat, list_all}
use Rattle.std.proofs.lemmas.List.Folds.{list_all-append}
use Rattle.ann_key.specs.declared.bytes.NoMemory.{NoMemory}
use Rattle.ann_outside.specs.Files.{Files, WhereTold}
use Rattle.ann_outside.specs.Calls.{Log, Gained, logged, bytes_read}
use Rattle.ann_outside.specs.declared.file_desk.DeskError.{DeskError}
use Rattle.ann_outside.specs.declared.file_desk.DeskError.TheVariants as E
use Rattle.ann_outside.specs.declared.file_desk.Call.{Call}
use Rattle.ann_outside.specs.declared.file_desk.Call.TheVariants.{ReadAt, Append, Create}
use Rattle.task_model.specs.declared.copying.copied.Copied.{Copied}
use Rattle.task_model.specs.declared.copying.copied.Copied.TheVariants.{Done}
use Rattle.task_model.specs.Copying.Copies.{copy_calls, CarryDoes, refusal_of, CountIs, EndsRefused, EndsEarly, RefusedBy}
use Rattle.task_model.specs.Copying.FilesAfter.{HoldsRange, IsUnmade}
use Rattle.task_model.proofs.CopyingLemmas.Telling.{told_still}
use Rattle.task_model.specs.Copying.CopiesOut.{CopiesRange, CopiesOut, CopiesNothing, reads_before}
use Rattle.task_model.proofs.CopyingLemmas.CopyLaws.{gained_nothing, gained_more, gained_call, copy_calls-snoc, ends_refused, not_begun, carries_refused_read}
use Rattle.std.proofs.lemmas.Bool.{lt-ltb as lt_true}
use Rattle.ann_key.proofs.Lists.{concat-snoc}

-- The pieces that were read from the range's begin on, in their order, were appended.
pub record Ranging (old new : Option Log) (file name : List ℕ) (from to at : ℕ) : Type 0 where
  pub pieces : List (List ℕ)
  pub place : from + length (concat pieces) ≡ at
  pub calls : Gained old new (copy_calls file name from pieces)
  pub within : list_all (reads_before to) (copy_calls file name from pieces) ≡ true

pub ranging_nothing : (log : Option Log) (file name : List ℕ) (from to : ℕ) → Ranging log log file name from to from
ranging_nothing log file name from to = record { pieces = []; place = add-zero from; calls = gained_nothing log; within = refl }

within_more : (to : ℕ) (xs ys : List Call) → list_all (reads_before to) xs ≡ true → list_all (reads_before to) ys ≡ true → list_all (reads_before to) (xs ++ ys) ≡ true
within_more to xs ys a b = rw (list_all-append (reads_before to) xs ys) (rw (a, b) refl)

pub ranging_more : (a b c : Option Log) (file name : List ℕ) (from to at n : ℕ) (buffer : List ℕ)
    → Ranging a b file name from to at → at < to → CarryDoes b c file name at buffer (Ok n) → n ≤ length buffer → (n ≡ 0 → ⊥) → Ranging a c file name from to (at + n)
ranging_more a b c file name from to at zero buffer r low s most ne = absurd (ne refl)
ranging_more a b c file name from to at (suc n) buffer r low s most ne = record {
  pieces = r.pieces ++ piece ∷ [];
  place = ap (λ l. from + length l) (concat-snoc r.pieces piece) ∙ sum;
  calls = rw calls_are (gained_more a b c (copy_calls file name from r.pieces) (ReadAt file at (Ok piece) ∷ Append name piece (Ok tt) ∷ []) r.calls s);
  within = rw calls_are (within_more to (copy_calls file name from r.pieces) (ReadAt file at (Ok piece) ∷ Append name piece (Ok tt) ∷ []) r.within (rw (lt_true at to low) refl));
}
  where
    piece : List ℕ
    piece = take (suc n) buffer

    sum : from + length (concat r.pieces ++ piece) ≡ at + suc n
    sum = omega (arith, length-append (concat r.pieces) piece, length-take-le (suc n) buffer most, r.place)

    calls_are : copy_calls file name from (r.pieces ++ piece ∷ []) ≡ copy_calls file name from r.pieces ++ ReadAt file at (Ok piece) ∷ Append name piece (Ok tt) ∷ []
    calls_are =
        copy_calls-snoc file name from r.pieces piece
        ∙ ap (λ k. copy_calls file name from r.pieces ++ ReadAt file k (Ok piece) ∷ Append name piece (Ok tt) ∷ []) r.place

pub range_whole : (a b : Option Log) (file name : List ℕ) (from to at : ℕ)
    → Ranging a b file name from to at → to ≤ at → at - from ≤ to - from → CopiesRange [] a b file from to name (Ok (Done (at - from)))
range_whole a b file name from to at r low high = record {
  pieces = r.pieces;
  ending = [];
  calls = rw append-nil r.calls;
  ends = omega (arith, r.place);
  count = omega (arith, r.place);
  most = omega (arith, r.place);
  within = rw append-nil r.within;
}

pub range_short : (a b c : Option Log) (file name : List ℕ) (from to at n : ℕ) (buffer : List ℕ)
    → Ranging a b file name from to at → at < to → CarryDoes b c file name at buffer (Ok n) → n ≡ 0 → at - from ≤ to - from
    → CopiesRange [] a c file from to name (Ok (Done (at - from)))
range_short a b c file name from to at (suc n) buffer r low s e high = absurd (omega (arith, e))
range_short a b c file name from to at zero buffer r low s e high = record {
  pieces = r.pieces;
  ending = ReadAt file at (Ok []) ∷ [];
  calls = gained_more a b c (copy_calls file name from r.pieces) (ReadAt file at (Ok []) ∷ []) r.calls s;
  ends = ap (λ k. ReadAt file k (Ok [])) (sym r.place);
  count = omega (arith, r.place);
  most = omega (arith, r.place);
  within = within_more to (copy_calls file name from r.pieces) (ReadAt file at (Ok []) ∷ []) r.within (rw (lt_true at to low) refl);
}

within_refusal : (file name : List ℕ) (to at : ℕ) (e : DeskError) (ending : List Call) → nat_lt at to ≡ true → RefusedBy e file name at ending → list_all (reads_before to) ending ≡ true
within_refusal file name to at e [] low h = absurd h
within_refusal file name to at e (call ∷ []) low h = rw h (rw low refl)
within_refusal file name to at e (call ∷ next ∷ []) low h = rw (h.1, h.2) (rw low refl)
within_refusal file name to at e (call ∷ next ∷ another ∷ more) low h = absurd h

-- a refused step reads from its place alone
within_refused : (file name : List ℕ) (to at : ℕ) (e : DeskError) (ending : List Call) → nat_lt at to ≡ true → EndsRefused e file name at ending → list_all (reads_before to) ending ≡ true
within_refused file name to at E.NoMemory ending low h = early ending h
  where
    early : (ending : List Call) → EndsEarly file at ending → list_all (reads_before to) ending ≡ true
    early [] h = refl
    early (call ∷ []) h = rw h.1 (rw low refl)
    early (call ∷ next ∷ more) h = absurd h
within_refused file name to at E.Failed ending low h = within_refusal file name to at E.Failed ending low h
within_refused file name to at E.Missing ending low h = within_refusal file name to at E.Missing ending low h

pub range_refused : (a b c : Option Log) (file name : List ℕ) (from to at : ℕ) (e : DeskError)
    → Ranging a b file name from to at → at < to → CarryDoes b c file name at [] (Err e) → at - from ≤ to - from
    → CopiesRange [] a c file from to name (refusal_of e)
range_refused a b c file name from to at e r low s high = record {
  pieces = r.pieces;
  ending = s.0;
  calls = gained_more a b c (copy_calls file name from r.pieces) s.0 r.calls s.1;
  ends = rw r.place (ends_refused e file name at ((to - from) - length (concat r.pieces)) s.0 s.2);
  count = count e;
  most = omega (arith, r.place);
  within = within_more to (copy_calls file name from r.pieces) s.0 r.within (within_refused file name to at e s.0 (lt_true at to low) s.2);
}
  where
    count : (e : DeskError) → CountIs (refusal_of e) (length (concat r.pieces))
    count E.NoMemory = tt
    count E.Failed = tt
    count E.Missing = tt

-- ---- after the call that makes the file

pub out_made : (a b c : Option Log) (f g : Option Files) (file name : List ℕ) (from to : ℕ) (result : Result Copied NoMemory)
    → b ≡ logged a (Create name (Ok tt)) → CopiesRange [] b c file from to name result → WhereTold f g (HoldsRange file name from to result)
    → CopiesOut a c f g file from to name result
out_made a b c f g file name from to result e r held = inl (
  record {
    pieces = r.pieces;
    ending = r.ending;
    calls = gained_more a b c (Create name (Ok tt) ∷ []) (copy_calls file name from r.pieces ++ r.ending) (e ∙ gained_call a (Create name (Ok tt)) refl) r.calls;
    ends = r.ends;
    count = r.count;
    most = r.most;
    within = r.within;
  },
  held,
)

pub out_refused : (a b : Option Log) (f g : Option Files) (file name : List ℕ) (from to : ℕ) (e : DeskError)
    → b ≡ logged a (Create name (Err e)) → WhereTold f g (IsUnmade name (refusal_of e)) → CopiesOut a b f g file from to name (refusal_of e)
out_refused a b f g file name from to e is left = inr (not_begun (λ answer. Create name answer) a b e (λ e. refl) is, left)

pub out_without : (log : Option Log) (f : Option Files) (file name : List ℕ) (from to : ℕ) (e : NoMemory) → CopiesOut log log f f file from to name (Err e)
out_without log f file name from to e = inr (gained_nothing log, told_still (IsUnmade name (Err e)) f f refl (λ x other. refl))

-- ---- nothing is copied

pub nothing_refused : (e : DeskError) → CopiesNothing (refusal_of e)
nothing_refused E.NoMemory = tt
nothing_refused E.Failed = tt
nothing_refused E.Missing = tt

-- ---- a file that was emptied

pub nothing_whole : (log : Option Log) (file name : List ℕ) (from to : ℕ) → to ≤ from → CopiesRange [] log log file from to name (Ok (Done 0))
nothing_whole log file name from to low = record {
  pieces = [];
  ending = [];
  calls = gained_nothing log;
  ends = omega (arith, low);
  count = refl;
  most = omega arith;
  within = refl;
}

pub nothing_read : (a b : Option Log) (file name buffer : List ℕ) (from to n : ℕ) → from < to → n ≡ 0 → file ≡ name → b ≡ logged a (ReadAt name from (bytes_read buffer (Ok n)))
    → CopiesRange [] a b file from to name (Ok (Done 0))
nothing_read a b file name buffer from to (suc n) low e same is = absurd (omega (arith, e))
nothing_read a b file name buffer from to zero low e same is = record {
  pieces = [];
  ending = ReadAt file from (Ok []) ∷ [];
  calls = is ∙ ap (λ f. logged a (ReadAt f from (Ok []))) (sym same) ∙ gained_call a (ReadAt file from (Ok [])) refl;
  ends = ap (λ k. ReadAt file k (Ok [])) (sym (add-zero from));
  count = refl;
  most = omega arith;
  within = rw (lt_true from to low) refl;
}

pub nothing_kept : (a b : Option Log) (file name buffer : List ℕ) (from to n : ℕ) (e : NoMemory) → from < to → file ≡ name → b ≡ logged a (ReadAt name from (bytes_read buffer (Ok n)))
    → CopiesRange [] a b file from to name (Err e)
nothing_kept a b file name buffer from to n e low same is = record {
  pieces = [];
  ending = ReadAt file from (Ok (take n buffer)) ∷ [];
  calls = is ∙ ap (λ f. logged a (ReadAt f from (Ok (take n buffer)))) (sym same) ∙ gained_call a (ReadAt file from (Ok (take n buffer))) refl;
  ends = (take n buffer, ap (λ k. ReadAt file k (Ok (take n buffer))) (sym (add-zero from)));
  count = tt;
  most = omega arith;
  within = rw (lt_true from to low) refl;
}

pub nothing_refused_read : (a b : Option Log) (file name : List ℕ) (from to : ℕ) (e : DeskError) → from < to → file ≡ name → b ≡ logged a (ReadAt name from (Err e))
    → CopiesRange [] a b file from to name (refusal_of e)
nothing_refused_read a b file name from to e low same is =
    range_refused a a b file name from to from e (ranging_nothing a file name from to) low
    (carries_refused_read a b file name from e (is ∙ ap (λ f. logged a (ReadAt f from (Err e))) (sym same))) (omega arith)
