-- What a command leaves, as contracts see it: what the objects tell, and not the objects.
use Rattle.ann_outside.specs.Told.{DeskTold}
use Rattle.std.specs.Prelude.{ℕ, ◌≡◌, List, []}
use Rattle.journal_model.specs.declared.answer.Answer.{Answer}
use Rattle.journal_model.specs.declared.entry.Entry.{Entry}
use Rattle.child_link.specs.Wires.{WireValue}
use Rattle.child_life.specs.End.Outsides.{OutsideValue}
use Rattle.special_cli.specs.declared.end.End.{End}

pub record Left : Type 0 where
  pub outside : OutsideValue
  pub journal : List Entry
  pub answers : List Answer
  pub wires : List WireValue
  pub tables : List DeskTold

-- what came of it, and what is to be told
pub record RanValue : Type 0 where
  pub left : Left
  pub end : End

-- and with which status it ended
pub record ClosingValue : Type 0 where
  pub status : ℕ
  pub left : Left

-- nothing was started, and no desk was asked for
pub record IsIdle (before : OutsideValue) (left : Left) : Type 0 where
  pub outside : left.outside ≡ before
  pub journal : left.journal ≡ []
  pub answers : left.answers ≡ []
  pub wires : left.wires ≡ []
  pub tables : left.tables ≡ []
