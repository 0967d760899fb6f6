-- Each error of a text is the one that the scan comes to.
use Rattle.std.proofs.Common.{◌≡◌, ℕ, ◌+◌, ◌-◌, suc, List, [], ◌∷◌, ◌++◌, length, drop, refl, sym, ap, subst, ◌∙◌, Bool, true, false, not, Some, Option, Ok, Err, arith, inl, inr}
use Rattle.std.specs.Prelude.{◌==◌, ◌&&◌, ◌||◌, nat_lt, is_some, ◌⊎◌}
use Rattle.std.specs.List.{prefix_len}
use Rattle.std.proofs.lemmas.List.{length-append}
use Rattle.std.proofs.lemmas.Bool.Decides.{nat_tests}
use Rattle.ann_key.specs.Numbers.{is_digit}
use Rattle.ann_key.specs.Keys.{Parts, is_backend_byte, is_name}
use Rattle.ann_key.specs.KeyErrors.{first_is, Begun, Fields, ChunkSize, IsBegun, may_follow, ends_in_number, is_number_of, IsBadBackend, IsBadField, IsBadNumber, IsBadName, IsError}
use Rattle.ann_key.specs.declared.error.KeyError.{KeyError}
use Rattle.ann_key.specs.declared.error.KeyError.TheVariants.{Backend, Field, Number, Name}
use Rattle.ann_key.proofs.KeyLaws.{errors_exclude}
use Rattle.ann_key.proofs.Unique.{reading_unique}
use Rattle.ann_key.proofs.Errors.{no_first}
use Rattle.task_text.specs.KeyLaws.OneAnswer.{OneError, OneKeyAnswer}
use Rattle.task_text.proofs.KeyLawsLemmas.KeyScan.{Seen, Whole, follows, scan, dash, key_scan, seen_of, Comes, fields_come, sized_comes}
use Rattle.std.proofs.lemmas.Bool.{and_parts as both, not-true as not_true}
use Rattle.ann_key.proofs.Booleans.{both_false as or_false}

-- ---- what the scan answers where it stops

no_dash_stop : (total fuel : ℕ) (seen : Seen) (rest : List ℕ) → dash rest ≡ false → scan total (suc fuel) seen rest ≡ Some (Field (total - length rest))
unfolding scan
no_dash_stop total fuel seen [] d = refl
no_dash_stop total fuel seen (x ∷ []) d = rw d refl
no_dash_stop total fuel seen (x ∷ (y ∷ rest)) d = rw d refl

letter_stop : (total fuel : ℕ) (seen : Seen) (more : List ℕ) → first_is (follows seen) more ≡ false
    → scan total (suc fuel) seen (45 ∷ more) ≡ Some (Field (total - length more))
unfolding scan
letter_stop total fuel seen [] d = refl
letter_stop total fuel seen (letter ∷ rest) d = let f : follows seen letter ≡ false = d in rw f refl

number_stop : (total fuel : ℕ) (seen : Seen) (letter : ℕ) (rest : List ℕ) → follows seen letter ≡ true → (letter == 45) ≡ false → is_number_of letter rest ≡ false
    → scan total (suc fuel) seen (45 ∷ letter ∷ rest) ≡ Some (Number (total - length rest))
unfolding scan
number_stop total fuel seen letter rest f d n = rw (f, d, n) refl

name_stop : (total fuel : ℕ) (size mtime chunk : Bool) (name : List ℕ) → is_name name ≡ false
    → scan total (suc fuel) (Whole size mtime chunk) (45 ∷ 45 ∷ name) ≡ Some (Name (total - length name + prefix_len (λ b. not (b == 10)) name))
unfolding scan
name_stop total fuel size mtime chunk name n = rw n refl

-- ---- each error

-- the scan answers this error, whatever it could have read more
abbrev pub Answers : List ℕ → KeyError → Type 0
Answers bytes e = (k : ℕ) × ((fuel : ℕ) → key_scan (suc fuel + k) bytes ≡ Some e)

answers : (bytes rest : List ℕ) (seen : Seen) (e : KeyError) → Comes bytes seen rest → ((fuel : ℕ) → scan (length bytes) (suc fuel) seen rest ≡ Some e) → Answers bytes e
answers bytes rest seen e c h = (c.0, λ fuel. c.1 (suc fuel) ∙ h fuel)

-- places are counted from the end
place : (bytes front rest : List ℕ) (more : ℕ) → bytes ≡ front ++ rest → more ≡ length rest → length front ≡ length bytes - more
place bytes front rest more e h = let l : length bytes ≡ length front + length rest = ap length e ∙ length-append front rest in omega arith

follows_is : (begun : Begun) (b : ℕ) → may_follow begun b ≡ follows (seen_of begun) b
follows_is (Fields key) b = refl
follows_is (ChunkSize key) b = refl

-- after what was begun stands no digit and, after a backend alone, a dash
begun_comes : (front rest : List ℕ) (begun : Begun) → IsBegun front begun → prefix_len is_digit rest ≡ 0 → (ends_in_number begun ≡ false → dash rest ≡ true)
    → Comes (front ++ rest) (seen_of begun) rest
begun_comes front rest (Fields key) s stop d = fields_come front rest key s stop (λ a b c. d (rw (a, b, c) refl))
begun_comes front rest (ChunkSize key) s stop d = sized_comes front rest key s stop

backend_answers : (bytes : List ℕ) (at : ℕ) → IsBadBackend bytes at → Answers bytes (Backend at)
backend_answers bytes at h = (0, λ fuel. rw (bad (prefix_len is_backend_byte bytes) (dash (drop (prefix_len is_backend_byte bytes) bytes)) none, h.0) refl)
  where
    bad : (n : ℕ) (d : Bool) → (n == 0 || not d) ≡ true → (nat_lt 0 n && d) ≡ false
    bad n true e = grind (arith, nat_tests)
    bad n false e = grind (arith, nat_tests)

    none : (prefix_len is_backend_byte bytes == 0 || not (dash (drop (prefix_len is_backend_byte bytes) bytes))) ≡ true
    none = subst (λ (k : ℕ). (k == 0 || not (dash (drop k bytes))) ≡ true) h.0 h.1

neither : (rest : List ℕ) → first_is (λ b. b == 45 || is_digit b) rest ≡ false → (dash rest ≡ false) × (prefix_len is_digit rest ≡ 0)
neither [] e = (refl, refl)
neither (x ∷ rest) e =
    let t : ((x == 45) ≡ false) × (is_digit x ≡ false) = or_false (x == 45) (is_digit x) e in
    (t.0, no_first is_digit (x ∷ rest) t.1)

field_answers : (bytes : List ℕ) (at : ℕ) → IsBadField bytes at → Answers bytes (Field at)
field_answers bytes at h = by_stop h.stop
  where
    by_stop : ((ends_in_number h.begun ≡ true) × (at ≡ length h.front) × (not (first_is (λ b. b == 45 || is_digit b) h.rest) ≡ true))
        ⊎ ((more : List ℕ) × (h.rest ≡ 45 ∷ more) × (at ≡ length h.front + 1) × (not (first_is (may_follow h.begun) more) ≡ true))
        → Answers bytes (Field at)
    by_stop (inl t) =
        let n : (dash h.rest ≡ false) × (prefix_len is_digit h.rest ≡ 0) = neither h.rest (not_true (first_is (λ b. b == 45 || is_digit b) h.rest) t.2) in
        let c : Comes bytes (seen_of h.begun) h.rest =
        rw h.whole (begun_comes h.front h.rest h.begun h.is_begun n.1 (λ e. absurd (let f : true ≡ false = sym t.0 ∙ e in cc))) in
        let p : at ≡ length bytes - length h.rest = t.1 ∙ place bytes h.front h.rest (length h.rest) h.whole refl in
        answers bytes h.rest (seen_of h.begun) (Field at) c (λ fuel. no_dash_stop (length bytes) fuel (seen_of h.begun) h.rest n.0 ∙ ap (λ (k : ℕ). Some (Field k)) (sym p))
    by_stop (inr (more, is, at_is, bad)) =
        let c : Comes bytes (seen_of h.begun) (45 ∷ more) = rw (h.whole, is) (begun_comes h.front (45 ∷ more) h.begun h.is_begun refl (λ e. refl)) in
        let f : first_is (follows (seen_of h.begun)) more ≡ false = none h.begun more (not_true (first_is (may_follow h.begun) more) bad) in
        let l : length bytes ≡ length h.front + (length more + 1) = ap length (h.whole ∙ ap (λ (x : List ℕ). h.front ++ x) is) ∙ length-append h.front (45 ∷ more) ∙ ap (λ (k : ℕ). length h.front + k) (omega arith) in
        let p : at ≡ length bytes - length more = omega arith in
        answers bytes (45 ∷ more) (seen_of h.begun) (Field at) c (λ fuel. letter_stop (length bytes) fuel (seen_of h.begun) more f
        ∙ ap (λ (k : ℕ). Some (Field k)) (sym p))
      where
        none : (begun : Begun) (more : List ℕ) → first_is (may_follow begun) more ≡ false → first_is (follows (seen_of begun)) more ≡ false
        none begun [] e = refl
        none begun (x ∷ more) e = sym (follows_is begun x) ∙ e

number_answers : (bytes : List ℕ) (at : ℕ) → IsBadNumber bytes at → Answers bytes (Number at)
number_answers bytes at h =
    let c : Comes bytes (seen_of h.begun) behind = rw h.whole (begun_comes h.front behind h.begun h.is_begun refl (λ e. refl)) in
    let l : length bytes ≡ length h.front + (length h.rest + 2) = ap length h.whole ∙ length-append h.front behind ∙ ap (λ (k : ℕ). length h.front + k) (omega arith) in
    let p : at ≡ length bytes - length h.rest = h.place ∙ omega arith in
    answers bytes behind (seen_of h.begun) (Number at) c
    (λ fuel. number_stop (length bytes) fuel (seen_of h.begun) h.letter h.rest may other (not_true (is_number_of h.letter h.rest) h.no_number)
    ∙ ap (λ (k : ℕ). Some (Number k)) (sym p))
  where
    behind : List ℕ
    behind = 45 ∷ h.letter ∷ h.rest

    t : (not (h.letter == 45) ≡ true) × (may_follow h.begun h.letter ≡ true)
    t = both (not (h.letter == 45)) (may_follow h.begun h.letter) h.is_letter

    other : (h.letter == 45) ≡ false
    other = not_true (h.letter == 45) t.0

    may : follows (seen_of h.begun) h.letter ≡ true
    may = sym (follows_is h.begun h.letter) ∙ t.1

name_answers : (bytes : List ℕ) (at : ℕ) → IsBadName bytes at → Answers bytes (Name at)
name_answers bytes at h =
    let c : Comes bytes (seen_of (Fields h.key)) behind = rw h.whole (begun_comes h.front behind (Fields h.key) h.is_front refl (λ e. refl)) in
    let l : length bytes ≡ length h.front + (length h.name + 2) = ap length h.whole ∙ length-append h.front behind ∙ ap (λ (k : ℕ). length h.front + k) (omega arith) in
    let p : at ≡ length bytes - length h.name + prefix_len (λ b. not (b == 10)) h.name = h.place ∙ ap (λ (k : ℕ). k + prefix_len (λ b. not (b == 10)) h.name) (omega arith) in
    answers bytes behind (seen_of (Fields h.key)) (Name at) c
    (λ fuel. name_stop (length bytes) fuel (is_some h.key.size) (is_some h.key.mtime) (is_some h.key.chunk) h.name (not_true (is_name h.name) h.no_name) ∙ ap (λ (k : ℕ). Some (Name k)) (sym p))
  where
    behind : List ℕ
    behind = 45 ∷ 45 ∷ h.name

error_answers : (bytes : List ℕ) (e : KeyError) → IsError bytes e → Answers bytes e
error_answers bytes (Backend at) h = backend_answers bytes at h
error_answers bytes (Field at) h = field_answers bytes at h
error_answers bytes (Number at) h = number_answers bytes at h
error_answers bytes (Name at) h = name_answers bytes at h

-- two errors are the same: the scan comes to both
pub one_error : OneError
one_error bytes e f h k =
    let a : Answers bytes e = error_answers bytes e h in
    let b : Answers bytes f = error_answers bytes f k in
    let same : suc b.0 + a.0 ≡ suc a.0 + b.0 = omega arith in
    let s : ◌≡◌ {A = Option KeyError} (Some e) (Some f) = sym (a.1 b.0) ∙ ap (λ (n : ℕ). key_scan n bytes) same ∙ b.1 a.0 in
    cc

pub one_key_answer : OneKeyAnswer
one_key_answer text (Ok p) (Ok q) h k = ap (λ (key : Parts). Ok key) (reading_unique text p q h k)
one_key_answer text (Ok p) (Err e) h k = absurd (errors_exclude text e p k h)
one_key_answer text (Err e) (Ok p) h k = absurd (errors_exclude text e p h k)
one_key_answer text (Err e) (Err f) h k = ap (λ (error : KeyError). Err error) (one_error text e f h k)
