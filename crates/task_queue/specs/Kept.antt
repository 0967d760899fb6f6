-- Groups whose tables are right.
use Rattle.std.specs.Prelude.{ℕ, ◌≡◌, Bool, false, List, length}
use Rattle.task_queue.specs.Groups.{AreFirsts, AreNext, AreWithin, number_at}
use Rattle.task_queue.specs.Held.{IsHandedOn}
use Rattle.task_queue.specs.declared.groups.Groups.{Groups}

pub record AreKept (claimed : List Bool) (g : Groups) : Type 0 where
  pub long : length g.of.items ≡ length claimed
  pub within : AreWithin g.of.items
  pub next : AreNext g.of.items g.next.items
  pub firsts : AreFirsts g.of.items claimed g.firsts.items

-- the groups are the same ones, and the first unclaimed task of this one's group is ready
pub record CallsFirst (claimed : List Bool) (task : ℕ) (old new : Groups) (before after : List Bool) : Type 0 where
  pub kept : AreKept claimed new
  pub same : new.of.items ≡ old.of.items
  pub called : IsHandedOn old.of.items claimed (number_at old.of.items task) 0 false before after
