-- How a file is read and checked piece by piece, and how that ends.
use Rattle.std.proofs.Common.{◌≡◌, ◌∙◌, ℕ, zero, suc, ◌+◌, ◌-◌, ◌≤◌, List, [], ◌∷◌, ◌++◌, length, refl, sym, ap, subst, arith, append-nil, take, length-append, length-take-le, add-zero, inl, inr}
use Rattle.std.specs.Prelude.{Option, Result, Ok, Err}
use Rattle.std.specs.List.{concat}
use Rattle.ann_key.specs.declared.bytes.NoMemory.{NoMemory}
use Rattle.ann_digest.specs.declared.checker.Checker.{Checker}
use Rattle.ann_outside.specs.Calls.{Log, Gained, logged}
use Rattle.ann_outside.specs.declared.file_desk.DeskError.{DeskError}
use Rattle.ann_outside.specs.declared.file_desk.DeskError.TheVariants as E
use Rattle.ann_outside.specs.declared.file_desk.Call.TheVariants.{ReadAt, Cut}
use Rattle.task_model.specs.declared.copying.copied.Copied.{Copied}
use Rattle.task_model.specs.declared.copying.copied.Copied.TheVariants.{Done}
use Rattle.task_model.specs.Copying.Copies.{Checks, refusal_of, CountIs}
use Rattle.task_model.specs.Copying.Resumes.{read_calls, refused_read, ReadDoes, ReadsPiece, ReadsOn, Resumes, EndsReading}
use Rattle.task_model.proofs.CopyingLemmas.CopyLaws.{gained_nothing, gained_more, gained_call, gained_without, checks_nothing, checks_more, not_begun}
use Rattle.ann_key.proofs.Lists.{concat-snoc}

-- ---- one piece

pub reads_piece : (a b : Option Log) (file : List ℕ) (at n : ℕ) (buffer : List ℕ) (before after : Checker)
    → b ≡ logged a (ReadAt file at (Ok (take n buffer))) → n ≤ length buffer → (n ≡ 0 → ⊥) → Checks before after (take n buffer)
    → ReadDoes a b file at before after (Ok n)
reads_piece a b file at zero buffer before after e most ne k = absurd (ne refl)
reads_piece a b file at (suc n) buffer before after e most ne k = record {
  piece = take (suc n) buffer;
  size = length-take-le (suc n) buffer most;
  calls = e ∙ gained_call a (ReadAt file at (Ok (take (suc n) buffer))) refl;
  checked = k;
}

pub reads_refused : (a b : Option Log) (file : List ℕ) (at : ℕ) (k : Checker) (e : DeskError)
    → b ≡ logged a (ReadAt file at (Err e)) → ReadDoes a b file at k k (Err e)
reads_refused a b file at k E.NoMemory e = (e ∙ gained_without a (ReadAt file at (Err E.NoMemory)) refl, refl)
reads_refused a b file at k E.Failed e = (e ∙ gained_call a (ReadAt file at (Err E.Failed)) refl, refl)
reads_refused a b file at k E.Missing e = (e ∙ gained_call a (ReadAt file at (Err E.Missing)) refl, refl)

-- ---- many

read_calls-snoc : (file : List ℕ) (at : ℕ) (pieces : List (List ℕ)) (piece : List ℕ)
    → read_calls file at (pieces ++ piece ∷ []) ≡ read_calls file at pieces ++ ReadAt file (at + length (concat pieces)) (Ok piece) ∷ []
read_calls-snoc file at [] piece = ap (λ n. ReadAt file n (Ok piece) ∷ []) (sym (add-zero at))
read_calls-snoc file at (first ∷ more) piece =
    let place : (at + length first) + length (concat more) ≡ at + length (first ++ concat more) = omega (arith, length-append first (concat more)) in
    ap (λ l. ReadAt file at (Ok first) ∷ l)
    (read_calls-snoc file (at + length first) more piece
    ∙ ap (λ n. read_calls file (at + length first) more ++ ReadAt file n (Ok piece) ∷ []) place)

-- The pieces that were read, in their order, were checked.
pub record Reading (old new : Option Log) (file : List ℕ) (before after : Checker) (at : ℕ) : Type 0 where
  pub pieces : List (List ℕ)
  pub length_is : length (concat pieces) ≡ at
  pub calls : Gained old new (read_calls file 0 pieces)
  pub checked : Checks before after (concat pieces)

pub reading_nothing : (log : Option Log) (file : List ℕ) (checker : Checker) → Reading log log file checker checker 0
reading_nothing log file checker = record { pieces = []; length_is = refl; calls = gained_nothing log; checked = checks_nothing checker }

reading_piece : (a b c : Option Log) (file : List ℕ) (before between after : Checker) (at n : ℕ)
    → Reading a b file before between at → ReadsPiece b c file at between after n → Reading a c file before after (at + n)
reading_piece a b c file before between after at n m s = record {
  pieces = m.pieces ++ s.piece ∷ [];
  length_is = ap length (concat-snoc m.pieces s.piece) ∙ length-append (concat m.pieces) s.piece ∙ sum;
  calls = rw calls_are (gained_more a b c (read_calls file 0 m.pieces) (ReadAt file at (Ok s.piece) ∷ []) m.calls s.calls);
  checked = rw (concat-snoc m.pieces s.piece) (checks_more before between after (concat m.pieces) s.piece m.checked s.checked);
}
  where
    sum : length (concat m.pieces) + length s.piece ≡ at + n
    sum = omega (arith, m.length_is, s.size)

    place : 0 + length (concat m.pieces) ≡ at
    place = omega (arith, m.length_is)

    calls_are : read_calls file 0 (m.pieces ++ s.piece ∷ []) ≡ read_calls file 0 m.pieces ++ ReadAt file at (Ok s.piece) ∷ []
    calls_are = read_calls-snoc file 0 m.pieces s.piece ∙ ap (λ k. read_calls file 0 m.pieces ++ ReadAt file k (Ok s.piece) ∷ []) place

pub reading_more : (a b c : Option Log) (file : List ℕ) (before between after : Checker) (at n : ℕ)
    → Reading a b file before between at → ReadDoes b c file at between after (Ok n) → (n ≡ 0 → ⊥) → Reading a c file before after (at + n)
reading_more a b c file before between after at zero m s ne = absurd (ne refl)
reading_more a b c file before between after at (suc n) m s ne = reading_piece a b c file before between after at (suc n) m s

pub reads_whole : (a b : Option Log) (file : List ℕ) (before after : Checker) (at n : ℕ)
    → Reading a b file before after at → n ≤ at → at ≤ n → ReadsOn [] a b file n before after (Ok (Done at))
reads_whole a b file before after at n m low high = record {
  pieces = m.pieces;
  ending = [];
  calls = rw append-nil m.calls;
  ends = omega (arith, m.length_is);
  count = sym m.length_is;
  most = omega (arith, m.length_is);
  checked = m.checked;
}

pub reads_short : (a b c : Option Log) (file : List ℕ) (before between after : Checker) (at m n : ℕ)
    → Reading a b file before between at → ReadDoes b c file at between after (Ok m) → m ≡ 0 → at ≤ n → ReadsOn [] a c file n before after (Ok (Done at))
reads_short a b c file before between after at (suc m) n r s e high = absurd (omega (arith, e))
reads_short a b c file before between after at zero n r s e high = record {
  pieces = r.pieces;
  ending = ReadAt file at (Ok []) ∷ [];
  calls = gained_more a b c (read_calls file 0 r.pieces) (ReadAt file at (Ok []) ∷ []) r.calls s.0;
  ends = ap (λ k. ReadAt file k (Ok [])) (sym r.length_is);
  count = sym r.length_is;
  most = omega (arith, r.length_is);
  checked = let P : Checker → Type 0 = λ k. Checks before k (concat r.pieces) in subst P (sym s.1) r.checked;
}

ends_reading : (e : DeskError) (file : List ℕ) (at left : ℕ) → EndsReading file at left (refusal_of e) (refused_read e file at)
ends_reading E.NoMemory file at left = refl
ends_reading E.Failed file at left = refl
ends_reading E.Missing file at left = refl

pub reads_stopped : (a b c : Option Log) (file : List ℕ) (before between after : Checker) (at n : ℕ) (e : DeskError)
    → Reading a b file before between at → ReadDoes b c file at between after (Err e) → at ≤ n → ReadsOn [] a c file n before after (refusal_of e)
reads_stopped a b c file before between after at n e r s high = record {
  pieces = r.pieces;
  ending = refused_read e file at;
  calls = gained_more a b c (read_calls file 0 r.pieces) (refused_read e file at) r.calls s.0;
  ends = rw r.length_is (ends_reading e file at (n - at));
  count = count e;
  most = omega (arith, r.length_is);
  checked = let P : Checker → Type 0 = λ k. Checks before k (concat r.pieces) in subst P (sym s.1) r.checked;
}
  where
    count : (e : DeskError) → CountIs (refusal_of e) (length (concat r.pieces))
    count E.NoMemory = tt
    count E.Failed = tt
    count E.Missing = tt

-- ---- after the cut

pub resumed : (a b c : Option Log) (part : List ℕ) (keep : ℕ) (before after : Checker) (result : Result Copied NoMemory)
    → b ≡ logged a (Cut part keep (Ok tt)) → ReadsOn [] b c part keep before after result → Resumes a c part keep before after result
resumed a b c part keep before after result e r = inl record {
  pieces = r.pieces;
  ending = r.ending;
  calls = gained_more a b c (Cut part keep (Ok tt) ∷ []) (read_calls part 0 r.pieces ++ r.ending) (e ∙ gained_call a (Cut part keep (Ok tt)) refl) r.calls;
  ends = r.ends;
  count = r.count;
  most = r.most;
  checked = r.checked;
}

pub not_resumed : (a b : Option Log) (part : List ℕ) (keep : ℕ) (checker : Checker) (e : DeskError)
    → b ≡ logged a (Cut part keep (Err e)) → Resumes a b part keep checker checker (refusal_of e)
not_resumed a b part keep checker e is = inr (not_begun (λ answer. Cut part keep answer) a b e (λ e. refl) is, refl)

pub never_resumed : (log : Option Log) (part : List ℕ) (keep : ℕ) (checker : Checker) (e : NoMemory) → Resumes log log part keep checker checker (Err e)
never_resumed log part keep checker e = inr (gained_nothing log, refl)
