use Rattle.std.proofs.Common.{◌≡◌, take}
use Rattle.journal_look.specs.Lives.{life_of}
use Rattle.journal_look.proofs.life.lived_through.Given as goal

abbrev pub invariant-loop-at : goal.invariant-loop-at
invariant-loop-at l = l.life ≡ life_of (take l.at l.entries) l.child
