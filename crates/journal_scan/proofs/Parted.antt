-- A text of a file, and the same followed by .part.
use Rattle.std.proofs.Common.{◌≡◌, ◌∙◌, ℕ, ◌+◌, ◌-◌, ◌<◌, length-drop, List, ◌++◌, refl, sym, ap, Bool, true, false, length, take, drop, arith, length-append}
use Rattle.std.specs.Prelude.{bytes_eq, codes, ◌&&◌}
use Rattle.std.proofs.lemmas.List.{take-append-drop}
use Rattle.std.proofs.Math.Seq.{drop-append_seam, take-append_seam, take_all}
use Rattle.std.proofs.lemmas.Slice.Eq.{bytes_eq-Decides}
use Rattle.std.proofs.lemmas.Bool.{and_parts as both_true}
use Rattle.ann_key.proofs.Booleans.{never_true as is_false, same_test as same_bool}

longer : (text other : List ℕ) → text ≡ other ++ codes ".part" → length text ≡ length other + 5
longer text other e = ap length e ∙ length-append other (codes ".part")

pub part_is : (text other : List ℕ) (at : ℕ) → at + 5 ≡ length text
    → (bytes_eq (take at text) other && bytes_eq (drop at text) (codes ".part")) ≡ bytes_eq text (other ++ codes ".part")
part_is text other at long = same_bool (bytes_eq (take at text) other && bytes_eq (drop at text) (codes ".part")) (bytes_eq text (other ++ codes ".part")) to from
  where
    to : (bytes_eq (take at text) other && bytes_eq (drop at text) (codes ".part")) ≡ true → bytes_eq text (other ++ codes ".part") ≡ true
    to h =
        let both = both_true (bytes_eq (take at text) other) (bytes_eq (drop at text) (codes ".part")) h in
        let front : take at text ≡ other = (bytes_eq-Decides (take at text) other).0 both.0 in
        let back : drop at text ≡ codes ".part" = (bytes_eq-Decides (drop at text) (codes ".part")).0 both.1 in
        (bytes_eq-Decides text (other ++ codes ".part")).1
        (sym (take-append-drop at text) ∙ ap (λ (xs : List ℕ). xs ++ drop at text) front ∙ ap (λ (xs : List ℕ). other ++ xs) back)

    from : bytes_eq text (other ++ codes ".part") ≡ true → (bytes_eq (take at text) other && bytes_eq (drop at text) (codes ".part")) ≡ true
    from h =
        let e : text ≡ other ++ codes ".part" = (bytes_eq-Decides text (other ++ codes ".part")).0 h in
        let n : at ≡ length other = omega (arith, long, longer text other e) in
        let front : take at text ≡ other = ap (take at) e ∙ ap (λ (k : ℕ). take k (other ++ codes ".part")) n ∙ take-append_seam other (codes ".part") in
        let back : drop at text ≡ codes ".part" = ap (drop at) e ∙ ap (λ (k : ℕ). drop k (other ++ codes ".part")) n ∙ drop-append_seam other (codes ".part") in
        rw ((bytes_eq-Decides (take at text) other).1 front, (bytes_eq-Decides (drop at text) (codes ".part")).1 back) refl

pub short_part : (text other : List ℕ) → length text < 5 → bytes_eq text (other ++ codes ".part") ≡ false
short_part text other short = is_false (bytes_eq text (other ++ codes ".part"))
    (λ h. (let e = longer text other ((bytes_eq-Decides text (other ++ codes ".part")).0 h) in
    let impossible : ⊥ = omega (arith, short, e) in impossible))

-- the same, as the code tests it
pub part_tested : (text other : List ℕ) (at : ℕ) (begins ends : Bool) → at + 5 ≡ length text
    → begins ≡ bytes_eq (take at text) other → ends ≡ bytes_eq (take (length text - at) (drop at text)) (codes ".part")
    → (begins && ends) ≡ bytes_eq text (other ++ codes ".part")
part_tested text other at begins ends long b e =
    let whole : take (length text - at) (drop at text) ≡ drop at text = take_all (length text - at) (drop at text) (omega (arith, length-drop at text)) in
    let e' : ends ≡ bytes_eq (drop at text) (codes ".part") = e ∙ ap (λ (xs : List ℕ). bytes_eq xs (codes ".part")) whole in
    let h = part_is text other at long in
    rw (b, e') h
