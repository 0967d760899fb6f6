-- The bytes of lines, with one line more and with the last ones away.
use Rattle.std.proofs.Common.{◌≡◌, ℕ, zero, suc, ◌+◌, ◌-◌, ◌<◌, ◌≤◌, List, [], ◌∷◌, ◌++◌, length, get_or, take, drop, refl, sym, ap, subst, ◌∙◌, arith, length-drop}
use Rattle.std.specs.Prelude.{slice_get, slice_range, Some, None}
use Rattle.std.proofs.lemmas.List.{take-append-le, drop-append-le, drop_at, take_all, drop-take, take-take, length-take-le}
use Rattle.std.proofs.lemmas.List.Sums.{sum_by-cons}
use Rattle.journal_scan.specs.Tables.Lines.{lines_from, total, EndAt}

pub place-le-end : (at : ℕ) (ends : List ℕ) (len : ℕ) → EndAt at ends len → at ≤ len
place-le-end at [] len h = omega arith
place-le-end at (e ∷ es) len h = let later = place-le-end e es len h.1 in omega (arith, later, h.0)

-- ---- one line more

range-append : (bytes more : List ℕ) (a b : ℕ) → a ≤ b → b ≤ length bytes → slice_range (bytes ++ more) a b ≡ slice_range bytes a b
range-append bytes more a b low high =
    ap (λ (xs : List ℕ). take (b - a) xs) (drop-append-le a bytes more (omega arith))
    ∙ take-append-le (b - a) (drop a bytes) more (omega (arith, length-drop a bytes))

rest_of-append : (bytes line : List ℕ) (at : ℕ) → at ≡ length bytes → slice_range (bytes ++ line) at (length bytes + length line) ≡ line
rest_of-append bytes line at e =
    ap (λ (xs : List ℕ). take (length bytes + length line - at) xs) (drop_at bytes line at (sym e))
    ∙ take_all (length bytes + length line - at) line (omega arith)

pub lines_from-append : (bytes line : List ℕ) (at : ℕ) (ends : List ℕ) → EndAt at ends (length bytes) → lines_from (bytes ++ line) at (ends ++ (length bytes + length line) ∷ []) ≡ lines_from bytes at ends ++ line ∷ []
lines_from-append bytes line at [] h = ap (λ (l : List ℕ). l ∷ []) (rest_of-append bytes line at h)
lines_from-append bytes line at (e ∷ es) h = λ i.
    range-append bytes line at e h.0 (place-le-end e es (length bytes) h.1) i ∷ lines_from-append bytes line e es h.1 i

pub EndAt-append : (at : ℕ) (ends : List ℕ) (len more : ℕ) → EndAt at ends len → EndAt at (ends ++ (len + more) ∷ []) (len + more)
EndAt-append at [] len more h = (omega arith, refl)
EndAt-append at (e ∷ es) len more h = (h.0, EndAt-append e es len more h.1)

-- ---- one line

pub length-lines_from : (bytes : List ℕ) (at : ℕ) (ends : List ℕ) → length (lines_from bytes at ends) ≡ length ends
length-lines_from bytes at [] = refl
length-lines_from bytes at (e ∷ es) = ap (λ n. suc n) (length-lines_from bytes e es)

pub start-le-end : (at : ℕ) (ends : List ℕ) (len n : ℕ) → EndAt at ends len → n < length ends → get_or (at ∷ ends) n 0 ≤ get_or (at ∷ ends) (suc n) 0
start-le-end at [] len n h l = omega arith
start-le-end at (e ∷ es) len zero h l = h.0
start-le-end at (e ∷ es) len (suc n) h l = start-le-end e es len n h.1 (omega arith)

pub end-le-length : (at : ℕ) (ends : List ℕ) (len n : ℕ) → EndAt at ends len → n ≤ length ends → get_or (at ∷ ends) n 0 ≤ len
end-le-length at ends len zero h l = place-le-end at ends len h
end-le-length at [] len (suc n) h l = omega arith
end-le-length at (e ∷ es) len (suc n) h l = end-le-length e es len n h.1 (omega arith)

pub line_at : (bytes : List ℕ) (at : ℕ) (ends : List ℕ) (n : ℕ) → n < length ends → slice_get (lines_from bytes at ends) n ≡ Some (slice_range bytes (get_or (at ∷ ends) n 0) (get_or (at ∷ ends) (suc n) 0))
line_at bytes at [] n l = absurd (omega arith)
line_at bytes at (e ∷ es) zero l = refl
line_at bytes at (e ∷ es) (suc n) l = line_at bytes e es n (omega arith)

pub line_past : (bytes : List ℕ) (at : ℕ) (ends : List ℕ) (n : ℕ) → length ends ≤ n → slice_get (lines_from bytes at ends) n ≡ None
line_past bytes at [] n l = refl
line_past bytes at (e ∷ es) zero l = absurd (omega arith)
line_past bytes at (e ∷ es) (suc n) l = line_past bytes e es n (omega arith)

-- ---- the first lines alone

range-take : (bytes : List ℕ) (n a b : ℕ) → a ≤ b → b ≤ n → slice_range (take n bytes) a b ≡ slice_range bytes a b
range-take bytes n a b low high =
    let split : n ≡ a + (n - a) = omega arith in
    ap (λ (m : ℕ). take (b - a) (drop a (take m bytes))) split
    ∙ ap (λ (xs : List ℕ). take (b - a) xs) (drop-take a (n - a) bytes)
    ∙ take-take (b - a) (n - a) (drop a bytes) (omega arith)

place-le : (at : ℕ) (ends : List ℕ) (len n : ℕ) → EndAt at ends len → n ≤ length ends → at ≤ get_or (at ∷ ends) n 0
place-le at ends len zero h l = omega arith
place-le at [] len (suc n) h l = omega arith
place-le at (e ∷ es) len (suc n) h l = let later = place-le e es len n h.1 (omega arith) in omega (arith, later, h.0)

-- the end is given by an equation, so that the bytes stay the same while the ends go on
cut_at : (bytes : List ℕ) (at : ℕ) (ends : List ℕ) (len n end : ℕ) → EndAt at ends len → n ≤ length ends → get_or (at ∷ ends) n 0 ≡ end → lines_from (take end bytes) at (take n ends) ≡ take n (lines_from bytes at ends)
cut_at bytes at ends len zero end h l is = refl
cut_at bytes at [] len (suc n) end h l is = refl
cut_at bytes at (e ∷ es) len (suc n) end h l is =
    let later = place-le e es len n h.1 (omega arith) in
    λ i. range-take bytes end at e h.0 (omega (arith, later, is)) i ∷ cut_at bytes e es len n end h.1 (omega arith) is i

pub lines_from-take : (bytes : List ℕ) (at : ℕ) (ends : List ℕ) (len n : ℕ) → EndAt at ends len → n ≤ length ends → lines_from (take (get_or (at ∷ ends) n 0) bytes) at (take n ends) ≡ take n (lines_from bytes at ends)
lines_from-take bytes at ends len n h l = cut_at bytes at ends len n (get_or (at ∷ ends) n 0) h l refl

pub EndAt-take : (at : ℕ) (ends : List ℕ) (len n : ℕ) → EndAt at ends len → n ≤ length ends → EndAt at (take n ends) (get_or (at ∷ ends) n 0)
EndAt-take at ends len zero h l = refl
EndAt-take at [] len (suc n) h l = absurd (omega arith)
EndAt-take at (e ∷ es) len (suc n) h l = (h.0, EndAt-take e es len n h.1 (omega arith))

pub EndAt-bytes : (bytes : List ℕ) (at : ℕ) (ends : List ℕ) (n : ℕ) → EndAt at ends (length bytes) → n ≤ length ends → EndAt at (take n ends) (length (take (get_or (at ∷ ends) n 0) bytes))
EndAt-bytes bytes at ends n h l =
    let long : length (take (get_or (at ∷ ends) n 0) bytes) ≡ get_or (at ∷ ends) n 0 = length-take-le _ bytes (end-le-length at ends (length bytes) n h l) in
    subst (λ (m : ℕ). EndAt at (take n ends) m) (sym long) (EndAt-take at ends (length bytes) n h l)

-- ---- how many lines and bytes

length-range : (bytes : List ℕ) (a b : ℕ) → a ≤ b → b ≤ length bytes → length (slice_range bytes a b) ≡ b - a
length-range bytes a b low high = length-take-le (b - a) (drop a bytes) (omega (arith, length-drop a bytes))

total-lines_from : (bytes : List ℕ) (at : ℕ) (ends : List ℕ) → EndAt at ends (length bytes) → total (lines_from bytes at ends) + at ≡ length bytes
total-lines_from bytes at [] h = omega arith
total-lines_from bytes at (e ∷ es) h =
    let low : at ≤ e = h.0 in
    let first = sum_by-cons (λ (line : List ℕ). length line) (slice_range bytes at e) (lines_from bytes e es) in
    let long = length-range bytes at e low (place-le-end e es (length bytes) h.1) in
    let later = total-lines_from bytes e es h.1 in
    omega (arith, first, long, later)

pub many_lines : (bytes ends : List ℕ) (lines : List (List ℕ)) → lines_from bytes 0 ends ≡ lines → length lines ≡ length ends
many_lines bytes ends lines is = sym (ap length is) ∙ length-lines_from bytes 0 ends

pub many_bytes : (bytes ends : List ℕ) (lines : List (List ℕ)) → EndAt 0 ends (length bytes) → lines_from bytes 0 ends ≡ lines → total lines ≡ length bytes
many_bytes bytes ends lines h is = let all = total-lines_from bytes 0 ends h in let same = ap total is in omega (arith, all, same)
