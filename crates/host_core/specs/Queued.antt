-- What a group, of which this is the first entry, makes of the queue of the tasks.
use Rattle.std.specs.Prelude.{◌≡◌, List, Option, Some, None}
use Rattle.journal_model.specs.declared.entry.What.{What}
use Rattle.journal_model.specs.declared.entry.Entry.{Entry}
use Rattle.task_queue.specs.declared.queue.Queue.{Queue}
use Rattle.task_queue.specs.Queues.{IsNext, IsTurned}

-- where there is one, it is of a task that may be claimed or let go
abbrev pub IsNextIn : Option What → Queue → Type 0
IsNextIn None q = Unit {0}
IsNextIn (Some w) q = IsNext w q

-- the entries say of the tasks what the past does, changed by the group
abbrev pub IsTurnedIn : List Entry → Option What → List Entry → Type 0
IsTurnedIn past None after = after ≡ past
IsTurnedIn past (Some w) after = IsTurned past w after
