-- What a run may begin with.
use Rattle.std.specs.Prelude.{◌≤◌, All, length}
use Rattle.task_text.specs.TaskLines.{IsTask}
use Rattle.task_text.specs.ChunkLog.ChunkLines.{IsWrittenUuid}
use Rattle.journal_model.specs.declared.opening.Opening.{Opening}
use Rattle.journal_model.specs.Limits.{most_again, most_tasks}
use Rattle.journal_model.specs.Replies.{IsLineIdentity}

-- at most so many tasks, each of which a line spells and which may be run again at most so often, and an identity that can be said on
-- lines, with its UUID in written form
pub record MayBegin (o : Opening) : Type 0 where
  pub few : length o.tasks ≤ most_tasks
  pub tasks : All IsTask o.tasks
  pub lines : IsLineIdentity o.identity
  pub uuid : IsWrittenUuid o.identity.uuid
  pub again : o.again ≤ most_again
