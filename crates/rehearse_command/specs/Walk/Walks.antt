-- What a rehearsal in a closed world comes to.
use Rattle.std.specs.Prelude.{ℕ, ◌≡◌, List, []}
use Rattle.journal_audit.specs.Audits.{IsAudit}
use Rattle.journal_audit.specs.declared.found.Audit.{Audit}
use Rattle.journal_model.specs.declared.answer.Answer.{Answer}
use Rattle.journal_model.specs.declared.entry.Entry.{Entry}
use Rattle.pair_world.specs.Standing.{Stands}
use Rattle.pair_kit.specs.Stored.{ChangesFiles}
use Rattle.pair_kit.specs.Worlds.{WorldValue}
use Rattle.rehearse_plan.specs.Plans.{opening_of}
use Rattle.run_answers.specs.Answers.{given}
use Rattle.rehearse_command.specs.World.Walks.{Walked as IsWalked, equal_in, first_world}
use Rattle.rehearse_command.specs.declared.world.walked.Walk.{Walk}
use Rattle.rehearse_command.specs.declared.walk.made.WalkEnd.{WalkEnd}
use Rattle.rehearse_command.specs.declared.walk.made.WalkEnd.TheVariants.{Memory, Done}

-- The walk ended in a world that stands: no end finds fault with the other, each verdict is an answer of its child's kit, and a key has
-- what was stored last. The journal and the answers are those of that world.
pub record HasWalked (seed tasks : ℕ) (journal : List Entry) (answers : List Answer) (equal : ℕ) (found : Audit) : Type 0 where
  pub world : WorldValue
  pub walked : IsWalked seed tasks world
  pub stands : Stands world
  pub files : ChangesFiles (first_world seed tasks) world
  pub opening_is : world.opening ≡ opening_of seed tasks
  pub journal_is : journal ≡ world.journal
  pub answers_are : answers ≡ given world.opening world.journal
  pub equal_is : equal ≡ equal_in seed tasks world
  pub audit : IsAudit world.opening world.journal found

-- so it is, or no memory was found, and nothing is left of it
abbrev pub EndsWalk : ℕ → ℕ → List Entry → List Answer → WalkEnd → Type 0
EndsWalk seed tasks journal answers (Done equal found) = HasWalked seed tasks journal answers equal found
EndsWalk seed tasks journal answers Memory = (journal ≡ []) × (answers ≡ [])

-- ---- on the way

-- what rehearse_command says of the walk
pub record IsWalkOf (seed tasks : ℕ) (walk : Walk) : Type 0 where
  pub walked : IsWalked seed tasks walk.world
  pub stands : Stands walk.world
  pub files : ChangesFiles (first_world seed tasks) walk.world
  pub opening : walk.world.opening ≡ opening_of seed tasks
  pub equal : walk.equal ≡ equal_in seed tasks walk.world
