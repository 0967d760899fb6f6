-- The first byte 10 of a list, and what stands before and after it.
use Rattle.std.proofs.Common.{◌≡◌, ℕ, ◌+◌, ◌-◌, ◌<◌, ◌≤◌, ◌==◌, Bool, true, false, not, cond, suc, List, [], ◌∷◌, ◌++◌, IsTrue, Some, None, length, take, drop, refl, sym, ap, ◌∙◌, arith, ⊎_elim, append_assoc}
use Rattle.std.specs.List.{position_or_len}
use Rattle.std.proofs.lemmas.Bool.{false≢true, cases_lt, eqb-true}
use Rattle.std.proofs.lemmas.List.{get_or-take, length-take, length-drop, drop-drop, drop-append-le}
use Rattle.std.proofs.lemmas.List.Folds.{list_any_at, list_any_none, list_all-append}
use Rattle.std.proofs.lemmas.List.Sums.{position_or_len_is, fails_before_first, passes_at_first, prefix_len-le-length, split_at_first}
use Rattle.annex_model.specs.Lines.{has_newline, text}
use Rattle.wire_line.specs.HeldBytes.{has_line, first_line, after_line, TakesLine}
use Rattle.memchr.specs.Find.{IsFirstByte, is_byte}
use Rattle.ann_key.proofs.Booleans.{never_true as no_true}
use Rattle.annex_model.proofs.Across.{text-append}

-- the place of the first byte 10, or the length
abbrev pub end_of : List ℕ → ℕ
end_of bytes = position_or_len (λ b. b == 10) bytes

pub end_of-le-length : (bytes : List ℕ) → end_of bytes ≤ length bytes
end_of-le-length bytes = prefix_len-le-length (λ b. not (b == 10)) bytes

take_has : (n : ℕ) (bytes : List ℕ) → end_of bytes < n → end_of bytes < length bytes → has_newline (take n bytes) ≡ true
take_has n bytes before within =
    let inside : end_of bytes < length (take n bytes) = simp length-take (omega arith) in
    list_any_at (λ b. b == 10) (take n bytes) (end_of bytes) 0 inside
    (ap (λ x. x == 10) (get_or-take n bytes (end_of bytes) 0 before) ∙ passes_at_first (λ b. b == 10) bytes 0 within)

take_lacks : (n : ℕ) (bytes : List ℕ) → ((k : ℕ) → k < n → k < length bytes → k < end_of bytes) → has_newline (take n bytes) ≡ false
take_lacks n bytes h = list_any_none (λ b. b == 10) (take n bytes) (λ k d l.
    let cut : length (take n bytes) ≡ _ = length-take n bytes in
    let low : k < n = omega arith in
    let high : k < length bytes = omega arith in
    ap (λ x. x == 10) (get_or-take n bytes k d low) ∙ fails_before_first (λ b. b == 10) bytes k d (h k low high))

-- a line's end within the limit
pub ends_within : (limit : ℕ) (bytes : List ℕ) → IsTrue (has_line limit bytes) → (end_of bytes ≤ limit) × (end_of bytes < length bytes)
ends_within limit bytes has =
    let fits = end_of-le-length bytes in
    let no : ((k : ℕ) → k < limit + 1 → k < length bytes → k < end_of bytes) → ⊥ =
    λ h. false≢true (sym (take_lacks (limit + 1) bytes h) ∙ has) in (
      ⊎_elim (λ late. absurd (no (λ k a b. omega arith))) (λ soon. soon) (cases_lt limit (end_of bytes)),
      ⊎_elim (λ early. early) (λ none. absurd (no (λ k a b. omega arith))) (cases_lt (end_of bytes) (length bytes)),
    )

pub no_newline_before : (bytes : List ℕ) → has_newline (first_line bytes) ≡ false
no_newline_before bytes = take_lacks (end_of bytes) bytes (λ k a b. a)

-- the bytes are the first line, its byte 10 and what follows
pub split_line : (bytes : List ℕ) → end_of bytes < length bytes → bytes ≡ first_line bytes ++ 10 ∷ after_line bytes
split_line bytes within =
    split_at_first (λ b. b == 10) bytes 0 within
    ∙ ap (λ x. first_line bytes ++ x ∷ after_line bytes) (eqb-true _ 10 (passes_at_first (λ b. b == 10) bytes 0 within))

-- the line that is dropped joins the lines of the cut
pub takes_line : (bytes : List ℕ) → end_of bytes < length bytes → TakesLine bytes (first_line bytes) (after_line bytes)
takes_line bytes within read lines cut =
    let line = first_line bytes in
    let after = after_line bytes in
    record {
      whole =
          cut.whole ∙ ap (λ l. text lines ++ l) (split_line bytes within)
          ∙ sym (ap (λ l. l ++ after) (text-append lines (line ∷ [])) ∙ append_assoc (text lines) (line ++ 10 ∷ []) after
          ∙ ap (λ l. text lines ++ l) (append_assoc line (10 ∷ []) after));
      apart = rw list_all-append (rw (cut.apart, no_newline_before bytes) refl);
    }

-- the first line's end stands among the items, and what stands after it is what is held without that line
pub end_in : (start end : ℕ) (items bytes : List ℕ) → start ≤ length items → end ≡ start + end_of (drop start items) → drop start items ≡ bytes
    → end_of bytes < length bytes → end + 1 ≤ length items
end_in start end items bytes low is held within =
    let at : end_of (drop start items) ≡ end_of bytes = ap end_of held in
    let left : length items - start ≡ length bytes = sym (length-drop start items) ∙ ap length held in
    omega arith

pub after_end : (start end : ℕ) (items bytes : List ℕ) → end ≡ start + end_of (drop start items) → drop start items ≡ bytes → drop (end + 1) items ≡ after_line bytes
after_end start end items bytes is held =
    let at : end_of (drop start items) ≡ end_of bytes = ap end_of held in
    let place : end + 1 ≡ start + (end_of bytes + 1) = omega arith in
    ap (λ n. drop n items) place ∙ sym (drop-drop (end_of bytes + 1) start items) ∙ ap (drop (end_of bytes + 1)) held

-- what a search for byte 10 says of the first line
pub found_at : (bytes : List ℕ) (at : ℕ) → IsFirstByte (is_byte 10) bytes (Some at) → (end_of bytes ≡ at) × (at < length bytes)
found_at bytes at is = (
  position_or_len_is (λ b. b == 10) bytes at 0 (omega (arith, is.0.high))
      (λ k l. no_true _ (is.0.before k (omega arith) l)) (λ _. is.1),
  is.0.high,
)

pub found_none : (bytes : List ℕ) → IsFirstByte (is_byte 10) bytes None → end_of bytes ≡ length bytes
found_none bytes is =
    position_or_len_is (λ b. b == 10) bytes (length bytes) 0 (omega arith)
    (λ k l. no_true _ (is k (omega arith) l)) (λ l. absurd (omega arith))

-- where the first line ends once a piece stands after the bytes: in the piece if no line ends in the bytes
step_more : (s : Bool) (m n k l : ℕ) → cond (not s) (1 + m) 0 ≡ suc n → (m ≡ n → k ≡ n + l) → cond (not s) (1 + k) 0 ≡ suc n + l
step_more true m n k l h f = absurd (omega arith)
step_more false m n k l h f = let rest : k ≡ n + l = f (omega arith) in omega arith

pub end_more : (bytes piece : List ℕ) → end_of bytes ≡ length bytes → end_of (bytes ++ piece) ≡ length bytes + end_of piece
end_more [] piece h = omega arith
end_more (b ∷ bs) piece h = step_more (b == 10) (end_of bs) (length bs) (end_of (bs ++ piece)) (end_of piece) h (λ e. end_more bs piece e)

step_stays : (s : Bool) (m n k : ℕ) → cond (not s) (1 + m) 0 < suc n → (m < n → k ≡ m) → cond (not s) (1 + k) 0 ≡ cond (not s) (1 + m) 0
step_stays true m n k h f = refl
step_stays false m n k h f = let rest : k ≡ m = f (omega arith) in omega arith

pub end_stays : (bytes piece : List ℕ) → end_of bytes < length bytes → end_of (bytes ++ piece) ≡ end_of bytes
end_stays [] piece h = absurd (omega arith)
end_stays (b ∷ bs) piece h = step_stays (b == 10) (end_of bs) (length bs) (end_of (bs ++ piece)) h (λ l. end_stays bs piece l)

-- the end, once a piece stands after the items
module _ (start end : ℕ) (items piece : List ℕ) (low : start ≤ length items) (is : end ≡ start + end_of (drop start items)) where
  pub end_pushed : (after : List ℕ) → after ≡ items ++ piece → end ≡ length items → end + end_of piece ≡ start + end_of (drop start after)
  end_pushed after pushed none =
      let left : length (drop start items) ≡ length items - start = length-drop start items in
      let more : end_of (drop start items ++ piece) ≡ length (drop start items) + end_of piece = end_more (drop start items) piece (omega arith) in
      let held : end_of (drop start after) ≡ end_of (drop start items ++ piece) = ap (λ (l : List ℕ). end_of (drop start l)) pushed ∙ ap end_of (drop-append-le start items piece low) in
      omega arith

  pub end_kept : (after : List ℕ) → after ≡ items ++ piece → (end ≡ length items → ⊥) → end ≡ start + end_of (drop start after)
  end_kept after pushed some =
      let left : length (drop start items) ≡ length items - start = length-drop start items in
      let fits : end_of (drop start items) ≤ length (drop start items) = end_of-le-length (drop start items) in
      let within : end_of (drop start items) < length (drop start items) =
      ⊎_elim (λ early. early) (λ late. absurd (some (omega arith))) (cases_lt (end_of (drop start items)) (length (drop start items))) in
      let stays : end_of (drop start items ++ piece) ≡ end_of (drop start items) = end_stays (drop start items) piece within in
      let held : end_of (drop start after) ≡ end_of (drop start items ++ piece) = ap (λ (l : List ℕ). end_of (drop start l)) pushed ∙ ap end_of (drop-append-le start items piece low) in
      omega arith

pub has_line_at : (limit : ℕ) (bytes : List ℕ) → end_of bytes ≤ limit → end_of bytes < length bytes → has_line limit bytes ≡ true
has_line_at limit bytes soon within = take_has (limit + 1) bytes (omega arith) within

pub lacks_line : (limit : ℕ) (bytes : List ℕ) → limit < end_of bytes → has_line limit bytes ≡ false
lacks_line limit bytes late = take_lacks (limit + 1) bytes (λ k a b. omega arith)

pub lacks_line_all : (limit : ℕ) (bytes : List ℕ) → end_of bytes ≡ length bytes → has_line limit bytes ≡ false
lacks_line_all limit bytes none = take_lacks (limit + 1) bytes (λ k a b. omega arith)
