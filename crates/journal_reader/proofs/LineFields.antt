-- What stands after the word of a line.
use Rattle.std.proofs.Common.{◌≡◌, ℕ, ◌<◌, ◌≤◌, ◌^◌, Bool, true, false, List, [], ◌∷◌, ◌++◌, Option, Some, None, Result, Ok, Err, IfOk, sym, ap, ◌∙◌, arith}
use mathlib.Core.Bool.{true≢false}
use Rattle.std.specs.Prelude.{MatchOption, IsTrue, codes, decimal, bytes_eq}
use Rattle.ann_key.specs.Numbers.{number_of}
use Rattle.journal_text.specs.Lines.JournalTexts.{worded, stamp_line, again_line}
use Rattle.task_text.proofs.ChunkLogLemmas.ReadBack.{number_back as number_read}
use Rattle.ann_key.proofs.Lists.{same_name as itself}

abbrev behind_one : List ℕ → List ℕ
behind_one [] = []
behind_one (x ∷ xs) = xs

same_behind : (word a b : List ℕ) → word ++ a ≡ word ++ b → a ≡ b
same_behind [] a b e = e
same_behind (w ∷ word) a b e = same_behind word a b (ap behind_one e)

pub worded_same : (word a b : List ℕ) → worded word a ≡ worded word b → a ≡ b
worded_same word a b e = ap behind_one (same_behind word (32 ∷ a) (32 ∷ b) e)

-- what stands after the word, and then after a space
module _ {R : Type 0} (now : R → List ℕ) (word line rest : List ℕ) (is : line ≡ word ++ rest) where
  pub behind_both : (r : Option R) → MatchOption r ((text : List ℕ) → rest ≡ 32 ∷ text → ⊥) (λ f. rest ≡ 32 ∷ now f)
      → MatchOption r ((text : List ℕ) → line ≡ worded word text → ⊥) (λ f. line ≡ worded word (now f))
  behind_both None h = λ text e. h text (same_behind word rest (32 ∷ text) (sym is ∙ e))
  behind_both (Some f) h = is ∙ ap (λ (t : List ℕ). word ++ t) h

-- a text that is asked for, after the word
module _ {R : Type 0} (now : R → List ℕ) (p : List ℕ → Bool) (word line text : List ℕ) (is : line ≡ worded word text) where
  pub texted : (r : Option R) → MatchOption r (p text ≡ false) (λ f. (now f ≡ text) × (p text ≡ true))
      → MatchOption r ((t : List ℕ) → line ≡ worded word t → IsTrue (p t) → ⊥) (λ f. (line ≡ worded word (now f)) × IsTrue (p (now f)))
  texted None h = λ t e u. true≢false (sym u ∙ ap p (sym (worded_same word text t (sym is ∙ e))) ∙ h)
  texted (Some f) h = (is ∙ ap (worded word) (sym h.0), ap p h.0 ∙ h.1)

-- a number
pub numbered : {E : Type 0} (line text : List ℕ) → line ≡ worded (codes "stamp") text → (r : Result (Option ℕ) E)
    → IfOk r (λ found. MatchOption found ((n : ℕ) → n < 2 ^ 64 → text ≡ decimal n → ⊥) (λ n. text ≡ decimal n))
    → IfOk r (λ found. MatchOption found ((n : ℕ) → n < 2 ^ 64 → line ≡ stamp_line n → ⊥) (λ n. line ≡ stamp_line n))
numbered line text is (Err e) h = tt
numbered line text is (Ok None) h = λ n small e. h n small (worded_same (codes "stamp") text (decimal n) (sym is ∙ e))
numbered line text is (Ok (Some n)) h = is ∙ ap (worded (codes "stamp")) h

pub few_numbered : {E : Type 0} (line text : List ℕ) → line ≡ worded (codes "again") text → (r : Result (Option ℕ) E)
    → IfOk r (λ found. MatchOption found ((n : ℕ) → n ≤ 8 → text ≡ decimal n → ⊥) (λ n. (text ≡ decimal n) × (n ≤ 8)))
    → IfOk r (λ found. MatchOption found ((n : ℕ) → n ≤ 8 → line ≡ again_line n → ⊥) (λ n. (line ≡ again_line n) × (n ≤ 8)))
few_numbered line text is (Err e) h = tt
few_numbered line text is (Ok None) h = λ n few e. h n few (worded_same (codes "again") text (decimal n) (sym is ∙ e))
few_numbered line text is (Ok (Some n)) h = (is ∙ ap (worded (codes "again")) h.0, h.1)

-- the number that was read is written otherwise
pub other_number : (m : ℕ) (text : List ℕ) → number_of text ≡ Some m → bytes_eq (decimal m) text ≡ false → (n : ℕ) → n < 2 ^ 64 → text ≡ decimal n → ⊥
other_number m text read other n small is =
    let both : Some n ≡ Some m = sym (number_read n small) ∙ ap number_of (sym is) ∙ read in
    let same : n ≡ m = cc in
    true≢false (sym (itself (decimal m)) ∙ ap (bytes_eq (decimal m)) (ap decimal (sym same) ∙ sym is) ∙ other)

pub no_number : (text : List ℕ) → ((n : ℕ) → number_of text ≡ Some n → ⊥) → (n : ℕ) → n < 2 ^ 64 → text ≡ decimal n → ⊥
no_number text none n small is = none n (ap number_of is ∙ number_read n small)

-- a number that is too large is another one
pub not_few : (text : List ℕ) (found : Option ℕ) (m : ℕ) → MatchOption found ((n : ℕ) → n < 2 ^ 64 → text ≡ decimal n → ⊥) (λ n. text ≡ decimal n) → found ≡ Some m → m < 2 ^ 64 → 8 < m
    → (n : ℕ) → n ≤ 8 → text ≡ decimal n → ⊥
not_few text None m h e small many n few is = absurd cc
not_few text (Some k) m h e small many n few is =
    let found : k ≡ m = cc in
    let less : n < 2 ^ 64 = omega (arith, few) in
    let both : Some m ≡ Some n = sym (number_read m small) ∙ ap number_of (ap decimal (sym found) ∙ sym h ∙ is) ∙ number_read n less in
    let same : m ≡ n = cc in
    let no : ⊥ = omega (arith, many, few, same) in
    no
