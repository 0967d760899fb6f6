-- What a tally means.
use Rattle.std.specs.Prelude.{◌≡◌, ℕ, ◌%◌, ◌^◌, ◌<◌, List, [], ◌∷◌, ◌++◌, Option, Some, None, sum_by, length}

-- how many additions it may keep, and each so far: the number that made it, and what was added
pub record TallyValue : Type 0 where
  pub limit : ℕ
  pub entries : List (ℕ × ℕ)

-- all that was added, up to a multiple of 2 ^ 64
abbrev pub total_of : List (ℕ × ℕ) → ℕ
total_of entries = sum_by (λ e. e.1) entries % 2 ^ 64

-- a number is added, and then the total is told; or the total alone
abbrev pub Answers : ℕ → List (ℕ × ℕ) → ℕ → Option ℕ → List (ℕ × ℕ) → ℕ → Type 0
Answers limit before by (Some n) group reply = (length before < limit) × (group ≡ (by, n) ∷ []) × (reply ≡ total_of (before ++ group))
Answers limit before by None group reply = (group ≡ []) × (reply ≡ total_of before)

abbrev pub IsTotal : Option ℕ → Type 0
IsTotal (Some n) = ⊥
IsTotal None = Unit {0}
