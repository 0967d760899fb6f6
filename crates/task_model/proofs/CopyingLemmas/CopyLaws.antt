-- How a copy grows by one piece, and how it ends.
use Rattle.std.proofs.Common.{◌≡◌, ◌∙◌, ℕ, zero, suc, ◌+◌, ◌-◌, ◌≤◌, List, [], ◌∷◌, ◌++◌, length, refl, sym, ap, subst, arith, append_assoc, append-nil, take, length-append, length-take-le, add-zero}
use Rattle.std.specs.Prelude.{true, false, Option, Some, None, Result, Ok, Err}
use Rattle.std.specs.List.{concat}
use Rattle.ann_key.specs.declared.bytes.NoMemory.{NoMemory}
use Rattle.ann_digest.specs.declared.checker.Checker.{Checker}
use Rattle.ann_digest.specs.Checkers.{Holds, taken_of}
use Rattle.ann_outside.specs.Calls.{Log, Gained, logged, lacks_memory, is_without_memory}
pub use Rattle.ann_outside.proofs.Gains.{gained_nothing, gained_more, gained_call, gained_without}
use Rattle.ann_outside.specs.DeskCauses.{Counts, HasCauses}
use Rattle.ann_outside.specs.declared.file_desk.DeskError.{DeskError}
use Rattle.ann_outside.specs.declared.file_desk.DeskError.TheVariants as E
use Rattle.ann_outside.specs.declared.file_desk.Call.{Call}
use Rattle.ann_outside.specs.declared.file_desk.Call.TheVariants.{ReadAt, Append}
use Rattle.task_model.specs.declared.copying.copied.Copied.{Copied}
use Rattle.task_model.specs.declared.copying.copied.Copied.TheVariants.{Done, Fault, Missing}
use Rattle.task_model.specs.Copying.Copies.{copy_calls, Checks, CarryDoes, Moves, Refuses, StepDoes, Moving, Copies, CopyCauses, is_refused, refusal_of, EndsCopy, EndsRefused, CountIs}
use Rattle.task_model.specs.Copying.Resumes.{IsNotBegun}
use Rattle.ann_key.proofs.Lists.{concat-snoc}

-- ---- pieces

pub copy_calls-snoc : (from to : List ℕ) (at : ℕ) (pieces : List (List ℕ)) (piece : List ℕ)
    → copy_calls from to at (pieces ++ piece ∷ [])
    ≡ copy_calls from to at pieces ++ ReadAt from (at + length (concat pieces)) (Ok piece) ∷ Append to piece (Ok tt) ∷ []
copy_calls-snoc from to at [] piece = ap (λ n. ReadAt from n (Ok piece) ∷ Append to piece (Ok tt) ∷ []) (sym (add-zero at))
copy_calls-snoc from to at (first ∷ more) piece =
    let place : (at + length first) + length (concat more) ≡ at + length (first ++ concat more) = omega (arith, length-append first (concat more)) in
    ap (λ l. ReadAt from at (Ok first) ∷ Append to first (Ok tt) ∷ l)
    (copy_calls-snoc from to (at + length first) more piece
    ∙ ap (λ n. copy_calls from to (at + length first) more ++ ReadAt from n (Ok piece) ∷ Append to piece (Ok tt) ∷ []) place)

-- ---- checks

pub checks_nothing : (checker : Checker) → Checks checker checker []
checks_nothing checker = record {
  taken = sym (add-zero (taken_of checker));
  holds = λ key held h. let P : List ℕ → Type 0 = λ l. Holds checker key l in subst P (sym (append-nil held)) h;
}

pub checks_more : (a b c : Checker) (xs ys : List ℕ) → Checks a b xs → Checks b c ys → Checks a c (xs ++ ys)
checks_more a b c xs ys e f = record {
  taken = omega (arith, length-append xs ys, e.taken, f.taken);
  holds = λ key held h. let P : List ℕ → Type 0 = λ l. Holds c key l in subst P (append_assoc held xs ys) (f.holds key (held ++ xs) (e.holds key held h));
}

-- ---- the loop

pub moving_nothing : (log : Option Log) (from to : List ℕ) (checker : Checker) → Moving log log from to checker checker 0
moving_nothing log from to checker = record { pieces = []; length_is = refl; calls = gained_nothing log; checked = checks_nothing checker }

pub moving_more : (a b c : Option Log) (from to : List ℕ) (before between after : Checker) (at n : ℕ)
    → Moving a b from to before between at → Moves b c from to at between after n → Moving a c from to before after (at + n)
moving_more a b c from to before between after at n m s = record {
  pieces = m.pieces ++ s.piece ∷ [];
  length_is = ap length (concat-snoc m.pieces s.piece) ∙ length-append (concat m.pieces) s.piece ∙ sum;
  calls = rw calls_are (gained_more a b c (copy_calls from to 0 m.pieces) (ReadAt from at (Ok s.piece) ∷ Append to s.piece (Ok tt) ∷ []) m.calls s.calls);
  checked = rw (concat-snoc m.pieces s.piece) (checks_more before between after (concat m.pieces) s.piece m.checked s.checked);
}
  where
    sum : length (concat m.pieces) + length s.piece ≡ at + n
    sum = omega (arith, m.length_is, s.size)

    place : 0 + length (concat m.pieces) ≡ at
    place = omega (arith, m.length_is)

    calls_are : copy_calls from to 0 (m.pieces ++ s.piece ∷ []) ≡ copy_calls from to 0 m.pieces ++ ReadAt from at (Ok s.piece) ∷ Append to s.piece (Ok tt) ∷ []
    calls_are =
        copy_calls-snoc from to 0 m.pieces s.piece
        ∙ ap (λ k. copy_calls from to 0 m.pieces ++ ReadAt from k (Ok s.piece) ∷ Append to s.piece (Ok tt) ∷ []) place

-- ---- its ends

pub copies_whole : (a b : Option Log) (from to : List ℕ) (before after : Checker) (at n : ℕ)
    → Moving a b from to before after at → n ≤ at → at ≤ n → Copies a b from to n before after (Ok (Done at))
copies_whole a b from to before after at n m low high = record {
  pieces = m.pieces;
  ending = [];
  calls = rw append-nil m.calls;
  ends = omega (arith, m.length_is);
  count = sym m.length_is;
  most = omega (arith, m.length_is);
  checked = m.checked;
}

pub copies_short : (a b c : Option Log) (from to : List ℕ) (before between after : Checker) (at n : ℕ)
    → Moving a b from to before between at → StepDoes b c from to at between after (Ok 0) → at ≤ n → Copies a c from to n before after (Ok (Done at))
copies_short a b c from to before between after at n m s high = record {
  pieces = m.pieces;
  ending = ReadAt from at (Ok []) ∷ [];
  calls = gained_more a b c (copy_calls from to 0 m.pieces) (ReadAt from at (Ok []) ∷ []) m.calls s.0;
  ends = ap (λ k. ReadAt from k (Ok [])) (sym m.length_is);
  count = sym m.length_is;
  most = omega (arith, m.length_is);
  checked = let P : Checker → Type 0 = λ k. Checks before k (concat m.pieces) in subst P (sym s.1) m.checked;
}

pub ends_refused : (e : DeskError) (from to : List ℕ) (at left : ℕ) (calls : List Call) → EndsRefused e from to at calls → EndsCopy from to at left (refusal_of e) calls
ends_refused E.NoMemory from to at left calls h = h
ends_refused E.Failed from to at left calls h = h
ends_refused E.Missing from to at left calls h = h

pub copies_refused : (a b c : Option Log) (from to : List ℕ) (before between after : Checker) (at n : ℕ) (e : DeskError)
    → Moving a b from to before between at → Refuses b c from to at between after e → at ≤ n → Copies a c from to n before after (refusal_of e)
copies_refused a b c from to before between after at n e m s high = record {
  pieces = m.pieces;
  ending = s.ending;
  calls = gained_more a b c (copy_calls from to 0 m.pieces) s.ending m.calls s.calls;
  ends = rw m.length_is (ends_refused e from to at (n - at) s.ending s.ends);
  count = count e;
  most = omega (arith, m.length_is);
  checked = let P : Checker → Type 0 = λ k. Checks before k (concat m.pieces) in subst P (sym s.same) m.checked;
}
  where
    count : (e : DeskError) → CountIs (refusal_of e) (length (concat m.pieces))
    count E.NoMemory = tt
    count E.Failed = tt
    count E.Missing = tt

pub copies_nothing : (log : Option Log) (from to : List ℕ) (checker : Checker) (n : ℕ) (e : NoMemory) → Copies log log from to n checker checker (Err e)
copies_nothing log from to checker n e = record {
  pieces = [];
  ending = [];
  calls = gained_nothing log;
  ends = tt;
  count = tt;
  most = omega arith;
  checked = checks_nothing checker;
}

-- ---- counts

pub causes_nothing : (counts : Counts) (result : Result Copied NoMemory) → is_refused result ≡ false → CopyCauses counts counts result
causes_nothing counts (Ok (Done n)) q = record { faults_later = omega arith; missing_later = omega arith; fault = λ e. cc; missing = λ e. cc; quiet = λ q. refl }
causes_nothing counts (Ok Fault) q = absurd cc
causes_nothing counts (Ok Missing) q = absurd cc
causes_nothing counts (Err e) q = record { faults_later = omega arith; missing_later = omega arith; fault = λ e. cc; missing = λ e. cc; quiet = λ q. refl }

pub causes_refused : (old new : Counts) {T : Type 0} (r : Result T DeskError) (e : DeskError) → r ≡ Err e → HasCauses old new r → CopyCauses old new (refusal_of e)
causes_refused old new r E.NoMemory is h = record { faults_later = h.faults_later; missing_later = h.missing_later; fault = λ e. cc; missing = λ e. cc; quiet = λ q. h.no_memory is }
causes_refused old new r E.Failed is h = record { faults_later = h.faults_later; missing_later = h.missing_later; fault = λ e. h.failed is; missing = λ e. cc; quiet = λ q. absurd cc }
causes_refused old new r E.Missing is h = record { faults_later = h.faults_later; missing_later = h.missing_later; fault = λ e. cc; missing = λ e. h.missing is; quiet = λ q. absurd cc }

pub causes_from : (old between new : Counts) (result : Result Copied NoMemory) → between ≡ old → CopyCauses between new result → CopyCauses old new result
causes_from old between new result e h = let P : Counts → Type 0 = λ k. CopyCauses k new result in subst P e h

pub step_moves : (a b : Option Log) (from to : List ℕ) (at : ℕ) (before after : Checker) (n : ℕ)
    → (n ≡ 0 → ⊥) → StepDoes a b from to at before after (Ok n) → Moves a b from to at before after n
step_moves a b from to at before after zero ne s = absurd (ne refl)
step_moves a b from to at before after (suc n) ne s = s

pub step_ends : (a b : Option Log) (from to : List ℕ) (at : ℕ) (before after : Checker) (n : ℕ)
    → n ≡ 0 → StepDoes a b from to at before after (Ok n) → StepDoes a b from to at before after (Ok 0)
step_ends a b from to at before after zero e s = s
step_ends a b from to at before after (suc n) e s = absurd (omega (arith, e))

pub gained_two : (a b c : Option Log) (x y : Call) → b ≡ logged a x → c ≡ logged b y → lacks_memory x ≡ false → lacks_memory y ≡ false → Gained a c (x ∷ y ∷ [])
gained_two a b c x y e f p q = gained_more a b c (x ∷ []) (y ∷ []) (e ∙ gained_call a x p) (f ∙ gained_call b y q)

pub carries_piece : (a b c : Option Log) (from to : List ℕ) (at n : ℕ) (buffer : List ℕ)
    → b ≡ logged a (ReadAt from at (Ok (take n buffer))) → c ≡ logged b (Append to (take n buffer) (Ok tt)) → (n ≡ 0 → ⊥)
    → CarryDoes a c from to at buffer (Ok n)
carries_piece a b c from to at zero buffer e f ne = absurd (ne refl)
carries_piece a b c from to at (suc n) buffer e f ne =
    gained_two a b c (ReadAt from at (Ok (take (suc n) buffer))) (Append to (take (suc n) buffer) (Ok tt)) e f refl refl

pub carries_refused_read : (a b : Option Log) (from to : List ℕ) (at : ℕ) (e : DeskError)
    → b ≡ logged a (ReadAt from at (Err e)) → CarryDoes a b from to at [] (Err e)
carries_refused_read a b from to at E.NoMemory e = ([], e ∙ gained_without a (ReadAt from at (Err E.NoMemory)) refl, tt)
carries_refused_read a b from to at E.Failed e = (ReadAt from at (Err E.Failed) ∷ [], e ∙ gained_call a (ReadAt from at (Err E.Failed)) refl, refl)
carries_refused_read a b from to at E.Missing e = (ReadAt from at (Err E.Missing) ∷ [], e ∙ gained_call a (ReadAt from at (Err E.Missing)) refl, refl)

pub carries_refused_append : (a b c : Option Log) (from to : List ℕ) (at : ℕ) (piece : List ℕ) (e : DeskError)
    → b ≡ logged a (ReadAt from at (Ok piece)) → c ≡ logged b (Append to piece (Err e)) → CarryDoes a c from to at [] (Err e)
carries_refused_append a b c from to at piece E.NoMemory e f = (
  ReadAt from at (Ok piece) ∷ [],
  gained_more a b c (ReadAt from at (Ok piece) ∷ []) [] (e ∙ gained_call a (ReadAt from at (Ok piece)) refl) (f ∙ gained_without b (Append to piece (Err E.NoMemory)) refl),
  (piece, refl),
)
carries_refused_append a b c from to at piece E.Failed e f = (
  ReadAt from at (Ok piece) ∷ Append to piece (Err E.Failed) ∷ [],
  gained_two a b c (ReadAt from at (Ok piece)) (Append to piece (Err E.Failed)) e f refl refl,
  (piece, refl, refl),
)
carries_refused_append a b c from to at piece E.Missing e f = (
  ReadAt from at (Ok piece) ∷ Append to piece (Err E.Missing) ∷ [],
  gained_two a b c (ReadAt from at (Ok piece)) (Append to piece (Err E.Missing)) e f refl refl,
  (piece, refl, refl),
)

pub moves_piece : (a b : Option Log) (from to : List ℕ) (at n : ℕ) (buffer : List ℕ) (before after : Checker)
    → CarryDoes a b from to at buffer (Ok n) → n ≤ length buffer → (n ≡ 0 → ⊥)
    → Checks before after (take n buffer) → StepDoes a b from to at before after (Ok n)
moves_piece a b from to at zero buffer before after c most ne k = absurd (ne refl)
moves_piece a b from to at (suc n) buffer before after c most ne k = record {
  piece = take (suc n) buffer;
  size = length-take-le (suc n) buffer most;
  calls = c;
  checked = k;
}

pub moves_nothing : (a b : Option Log) (from to : List ℕ) (at n : ℕ) (buffer : List ℕ) (k : Checker)
    → n ≡ 0 → CarryDoes a b from to at buffer (Ok n) → StepDoes a b from to at k k (Ok 0)
moves_nothing a b from to at zero buffer k e c = (c, refl)
moves_nothing a b from to at (suc n) buffer k e c = absurd (omega (arith, e))

pub moves_refused : (a b : Option Log) (from to : List ℕ) (at : ℕ) (k : Checker) (e : DeskError)
    → CarryDoes a b from to at [] (Err e) → StepDoes a b from to at k k (Err e)
moves_refused a b from to at k e c = record { ending = c.0; calls = c.1; ends = c.2; same = refl }

-- ---- a call that comes first

pub not_begun : (first : Result (Unit {0}) DeskError → Call) (a b : Option Log) (e : DeskError)
    → ((e : DeskError) → lacks_memory (first (Err e)) ≡ is_without_memory {T = Unit {0}} (Err e))
    → b ≡ logged a (first (Err e)) → IsNotBegun first a b (refusal_of e)
not_begun first a b E.NoMemory known is = is ∙ gained_without a (first (Err E.NoMemory)) (known E.NoMemory)
not_begun first a b E.Failed known is = is ∙ gained_call a (first (Err E.Failed)) (known E.Failed)
not_begun first a b E.Missing known is = is ∙ gained_call a (first (Err E.Missing)) (known E.Missing)
