-- Bytes that end a line.
use Rattle.std.proofs.Common.{◌≡◌, ◌==◌, ℕ, ◌-◌, true, false, List, [], ◌∷◌, ◌++◌, length, Option, Some, None, Result, Ok, Err, OnOk, IsTrue, refl, sym, ap, ◌∙◌, arith}
use Rattle.std.specs.Prelude.{slice_get, is_err}
use Rattle.std.specs.List.{last_or}
use Rattle.std.specs.Io.KnownBytes.{Appends}
use Rattle.ann_outside.proofs.Telling.{appends_both}
use Rattle.kit_serve.specs.LineSinks.{is_end, ends_line, TookLines}
use Rattle.ann_key.proofs.Lists.{appends_nothing as appends_none}

last_or-append : (o : Option ℕ) (xs ys : List ℕ) → last_or o (xs ++ ys) ≡ last_or (last_or o xs) ys
last_or-append o [] ys = refl
last_or-append o (x ∷ xs) ys = last_or-append (Some x) xs ys

-- a line's end is enough, whatever came before
last_ends : (o : Option ℕ) (ys : List ℕ) → is_end o ≡ true → is_end (last_or None ys) ≡ true → is_end (last_or o ys) ≡ true
last_ends o [] before ends = before
last_ends o (y ∷ ys) before ends = ends

ends_both : (xs ys : List ℕ) → IsTrue (ends_line xs) → IsTrue (ends_line ys) → IsTrue (ends_line (xs ++ ys))
ends_both xs ys first second = ap is_end (last_or-append None xs ys) ∙ last_ends (last_or None xs) ys first second

pub ends_at : (line : List ℕ) → IsTrue (ends_line (line ++ 10 ∷ []))
ends_at line = ap is_end (last_or-append None line (10 ∷ []))

pub took_none : (told : Option (List ℕ)) → TookLines told told
took_none told = ([], appends_none told, refl)

pub took_more : (a b c : Option (List ℕ)) (lines : List ℕ) → TookLines a b → Appends b c lines → IsTrue (ends_line lines) → TookLines a c
took_more a b c lines before more ends = (before.0 ++ lines, appends_both a b c before.0 lines before.1 more, ends_both before.0 lines before.2 ends)

-- the last byte, by its place
pub last_at : (o : Option ℕ) (x : ℕ) (xs : List ℕ) → last_or o (x ∷ xs) ≡ slice_get (x ∷ xs) (length xs)
last_at o x [] = refl
last_at o x (y ∷ ys) = last_at (Some x) y ys

-- the test by the last byte's place
pub ends_by_last : (bytes : List ℕ) (x : ℕ) → Some x ≡ slice_get bytes (length bytes - 1) → (x == 10) ≡ ends_line bytes
ends_by_last [] x e = cc
ends_by_last (y ∷ ys) x e =
    let place : length (y ∷ ys) - 1 ≡ length ys = omega arith in
    ap is_end (e ∙ ap (λ (n : ℕ). slice_get (y ∷ ys) n) place ∙ sym (last_at None y ys))

-- what holds of an Ok holds where the call didn't fail
pub if_well : {T E : Type 0} (P : Type 0) (r : Result T E) → is_err r ≡ false → OnOk r P → P
if_well P (Ok x) well p = p
if_well P (Err e) well p = cc
