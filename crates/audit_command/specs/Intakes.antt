-- How bytes stand that are taken one by one.
use Rattle.std.specs.Prelude.{ℕ, ◌≡◌, ◌+◌, ◌≤◌, Bool, true, false, List, [], ◌++◌, length, Some}
use Rattle.annex_model.specs.Lines.{has_newline, Cut}
use Rattle.audit_command.specs.Inputs.{passes, lines_within, IsRefused}
use Rattle.audit_command.specs.Standing.{Stands}
use Rattle.audit_command.specs.declared.intake.Intake.{Intake}
use Rattle.audit_command.specs.declared.limits.Limits.{Limits}

-- no limit is passed: the bytes are cut into lines, which stand so, and a rest
pub record IsWithin (limits : Limits) (bytes : List ℕ) (k : Intake) : Type 0 where
  pub lines : List (List ℕ)
  pub rest : List ℕ
  pub cut : Cut bytes lines rest
  pub ended : has_newline rest ≡ false
  pub number : k.number ≡ length lines + 1
  pub size : k.bytes ≡ length bytes
  pub few : length lines ≤ limits.lines
  pub small : length bytes ≤ limits.bytes
  pub full : length lines ≡ limits.lines → rest ≡ []
  pub stands : Stands lines rest k.lines

-- a limit is passed, whatever follows, and this line is refused
pub record IsPast (limits : Limits) (bytes : List ℕ) (k : Intake) : Type 0 where
  pub number : ℕ
  pub bad : k.lines.bad ≡ Some number
  pub passed : (more : List ℕ) → passes limits (bytes ++ more) ≡ true
  pub refused : (more : List ℕ) → IsRefused (lines_within limits (bytes ++ more)) true number

-- by whether a limit was passed
abbrev pub TookBy : Bool → Limits → List ℕ → Intake → Type 0
TookBy false limits bytes k = IsWithin limits bytes k
TookBy true limits bytes k = IsPast limits bytes k

-- all bytes were taken, or those up to the one that passed a limit
abbrev pub Took : Limits → List ℕ → Intake → Type 0
Took limits bytes k = TookBy k.past limits bytes k
