-- The steps of the scan from the left.
use Rattle.std.proofs.Common.{◌≡◌, ℕ, ◌+◌, ◌-◌, ◌≤◌, List, length, take, drop, refl, sym, ap, ◌∙◌, Bool, true, false, cond, Ok, Some, None, Option, arith}
use Rattle.std.specs.Prelude.{◌==◌, ◌&&◌, ◌||◌, nat_lt}
use Rattle.std.specs.List.{prefix_len}
use Rattle.std.proofs.lemmas.List.{drop-drop, take_rest, length-drop}
use Rattle.ann_key.specs.Numbers.{is_digit, value_of, is_numeral}
use Rattle.ann_key.specs.Keys.{begins, number_at}
use Rattle.ann_key.specs.KeyErrors.{is_number_of}
use Rattle.ann_key.specs.Scans.{NumberScan, FieldScan, ChunkNumberScan, ChunkScan}

some_of_cond : (b : Bool) (v x : ℕ) → Some x ≡ cond {A = Option ℕ} b (Some v) None → (b ≡ true) × (x ≡ v)
some_of_cond true v x h = (refl, cc)
some_of_cond false v x h = absurd cc

pub number_scanned : (bytes rest : List ℕ) (at letter digits value : ℕ) → rest ≡ drop at bytes → digits ≡ prefix_len is_digit rest
    → digits ≤ length rest → at ≤ length bytes
    → Some value ≡ cond {A = Option ℕ} (is_numeral (take digits rest)) (Some (value_of (take digits rest))) None
    → (letter == 115 || letter == 109 || nat_lt 0 value) ≡ true
    → NumberScan bytes at letter (Ok (value, at + digits))
number_scanned bytes rest at letter digits value r d within start v may = (number, of, long)
  where
    long : at + digits ≤ length bytes
    long = let e : length rest ≡ length bytes - at = ap length r ∙ length-drop at bytes in omega arith

    D : List ℕ
    D = drop at bytes

    len : digits ≡ prefix_len is_digit D
    len = d ∙ ap (prefix_len is_digit) r

    t : (is_numeral (take digits rest) ≡ true) × (value ≡ value_of (take digits rest))
    t = some_of_cond (is_numeral (take digits rest)) (value_of (take digits rest)) value v

    run : take digits rest ≡ take (prefix_len is_digit D) D
    run = ap (take digits) r ∙ ap (λ (n : ℕ). take n D) len

    form : is_numeral (take (prefix_len is_digit D) D) ≡ true
    form = ap is_numeral (sym run) ∙ t.0

    same : value_of (take (prefix_len is_digit D) D) ≡ value
    same = ap value_of (sym run) ∙ sym t.1

    after : drop (prefix_len is_digit D) D ≡ drop (at + digits) bytes
    after = ap (λ (n : ℕ). drop n D) (sym len) ∙ drop-drop digits at bytes

    number : number_at D ≡ Some (value, drop (at + digits) bytes)
    number = rw (form, same, after) refl

    of : is_number_of letter D ≡ true
    of = rw (form, same, may) refl

pub field_scanned : (bytes : List ℕ) (at letter value end : ℕ) → begins 45 letter (take (length bytes - at) (drop at bytes)) ≡ true
    → NumberScan bytes (at + 2) letter (Ok (value, end)) → FieldScan bytes at letter (Ok (Some value, end))
field_scanned bytes at letter value end b n =
    let c : begins 45 letter (drop at bytes) ≡ true = ap (begins 45 letter) (sym (take_rest bytes at)) ∙ b in
    let e : number_at (drop 2 (drop at bytes)) ≡ Some (value, drop end bytes) = ap number_at (drop-drop 2 at bytes) ∙ n.0 in
    (rw (c, e) refl, n.2)

pub positive : (bytes rest : List ℕ) (n : ℕ) → is_number_of 83 bytes ≡ true → number_at bytes ≡ Some (n, rest) → nat_lt 0 n ≡ true
positive bytes rest n h e = go (is_numeral run) h e
  where
    run : List ℕ
    run = take (prefix_len is_digit bytes) bytes

    go : (b : Bool) → (b && nat_lt 0 (value_of run)) ≡ true → cond {A = Option (ℕ × List ℕ)} b (Some (value_of run, drop (prefix_len is_digit bytes) bytes)) None ≡ Some (n, rest) → nat_lt 0 n ≡ true
    go false h e = absurd cc
    go true h e =
        let p : ◌≡◌ {A = ℕ × List ℕ} (value_of run, drop (prefix_len is_digit bytes) bytes) (n, rest) = cc in
        ap (λ (q : ℕ × List ℕ). nat_lt 0 q.0) (sym p) ∙ h

pub chunk_scanned : (bytes : List ℕ) (at size end number stop : ℕ) → begins 45 83 (take (length bytes - at) (drop at bytes)) ≡ true
    → NumberScan bytes (at + 2) 83 (Ok (size, end)) → ChunkNumberScan bytes end (Ok (number, stop)) → ChunkScan bytes at (Ok (Some (size, number), stop))
chunk_scanned bytes at size end number stop b n m =
    let c : begins 45 83 (drop at bytes) ≡ true = ap (begins 45 83) (sym (take_rest bytes at)) ∙ b in
    let e : number_at (drop 2 (drop at bytes)) ≡ Some (size, drop end bytes) = ap number_at (drop-drop 2 at bytes) ∙ n.0 in
    let f : number_at (drop 2 (drop end bytes)) ≡ Some (number, drop stop bytes) = ap number_at (drop-drop 2 end bytes) ∙ m.1 in
    let p : nat_lt 0 size ≡ true = positive (drop (at + 2) bytes) (drop end bytes) size n.1 n.0 in
    let q : nat_lt 0 number ≡ true = positive (drop (end + 2) bytes) (drop stop bytes) number m.2 m.1 in
    (rw (c, e, m.0, f, p, q) refl, m.3)
