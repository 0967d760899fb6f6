-- To which job a line that is said belongs, and a call.
use Rattle.std.specs.Prelude.{ℕ, ◌≡◌, ◌⊎◌, true, false, List, [], ◌∷◌, ◌++◌, codes}
use Rattle.kit_async_model.specs.declared.setup.Setup.{Setup}
use Rattle.kit_async_model.specs.declared.entry.Entry.{Entry}
use Rattle.kit_async_model.specs.declared.entry.Entry.TheVariants.{Call, Say}
use Rattle.kit_async_model.specs.Jobs.{job_of}
use Rattle.kit_async_model.specs.Hearings.{is_open}
use Rattle.kit_async_model.specs.Standings.{Standing, unexpected_line, standing}
use Rattle.kit_async_model.specs.Legality.{is_legal}

-- it is an item of an open job
pub record IsOfOpen (s : Standing) (job : ℕ) : Type 0 where
  pub opened : is_open (job_of s.jobs job) ≡ true
  pub live : s.over ≡ false

-- the kit's first line, before all else
pub record IsFirst (past : List Entry) (job : ℕ) (line : List ℕ) : Type 0 where
  pub past_is : past ≡ []
  pub job_is : job ≡ 0
  pub line_is : line ≡ codes "VERSION 1"

-- the last words of a kit that heard what may not stand there
pub record IsLastWord (s : Standing) (job : ℕ) (line : List ℕ) : Type 0 where
  pub over : s.over ≡ true
  pub job_is : job ≡ 0
  pub line_is : line ≡ unexpected_line

-- after these entries
abbrev pub Belongs : List Entry → Standing → Entry → Type 0
Belongs past s (Say job line) = IsOfOpen s job ⊎ (IsFirst past job line ⊎ IsLastWord s job line)
Belongs past s (Call job remote said) = is_open (job_of s.jobs job) ≡ true
Belongs past s entry = Unit {0}

-- each line and each call of a legal journal is of an open job, but for the kit's first line and its last words
abbrev pub EachBelongs : Type 0
EachBelongs = (setup : Setup) (past rest : List Entry) (entry : Entry) → is_legal setup (past ++ entry ∷ rest) ≡ true → Belongs past (standing setup past) entry
