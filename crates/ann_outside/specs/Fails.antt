-- The calls of a memory object, numbered from 1, and which of them fail.
use Rattle.std.specs.Prelude.{◌≡◌, ℕ, ◌+◌, ◌-◌, ◌^◌, min, List, Bool, cond, ◌==◌}
use Rattle.std.specs.List.{list_any}
use Rattle.ann_outside.specs.declared.mem.fails.Fails.{Fails}

-- the next value of a counter, which stays at its last one
abbrev pub next_of : ℕ → ℕ
next_of n = min (n + 1) (2 ^ 64 - 1)

-- whether a call of that number is to fail
abbrev pub is_listed : List ℕ → ℕ → Bool
is_listed fails number = list_any (λ n. n == number) fails

-- whether the next call is to fail
abbrev pub fails_next : Fails → Bool
fails_next old = is_listed old.at.items (next_of old.calls)

-- no call was made and none failed
pub record Begins (fails : Fails) (numbers : List ℕ) : Type 0 where
  pub calls : fails.calls ≡ 0
  pub faults : fails.faults ≡ 0
  pub list : fails.at.items ≡ numbers

-- one call was made, which failed or not
pub record IsCall (old new : Fails) (failed : Bool) : Type 0 where
  pub calls : new.calls ≡ next_of old.calls
  pub faults : new.faults ≡ cond failed (next_of old.faults) old.faults
  pub list : new.at ≡ old.at
