-- What is left of a child of a mirror once it is stopped.
use Rattle.std.specs.Prelude.{ℕ, ◌≡◌, ◌+◌, ◌++◌, List, [], ◌∷◌, Some, None}
use Rattle.journal_model.specs.declared.entry.Entry.{Entry}
use Rattle.journal_model.specs.declared.opening.Opening.{Opening}
use Rattle.journal_model.specs.Due.{replies_at}
use Rattle.journal_model.specs.Legality.{Legal}
use Rattle.journal_model.specs.Projection.{JobFits}
use Rattle.host_core.specs.CoreValue.{CoreValue}
use Rattle.child_link.specs.Alone.{Closes}
use Rattle.child_link.specs.Wires.{WireValue}
use Rattle.child_life.specs.End.Wires.{IsWire, AreWires, came}
use Rattle.mirror_children.specs.Children.{ChildValue}

-- ---- journals

-- what its core began with, and its journal
pub record LogValue : Type 0 where
  pub opening : Opening
  pub journal : List Entry

abbrev pub log_of : CoreValue → LogValue
log_of core = record { opening = core.opening; journal = core.journal }

-- the journal is legal, and each job's part fits
pub record IsSound (o : Opening) (journal : List Entry) : Type 0 where
  pub legal : Legal o journal
  pub parts : (c j : ℕ) → JobFits (replies_at o journal) journal c j

abbrev pub AreSoundLogs : List LogValue → Type 0
AreSoundLogs [] = Unit {0}
AreSoundLogs (l ∷ logs) = IsSound l.opening l.journal × AreSoundLogs logs

abbrev pub AreSoundChildren : List ChildValue → Type 0
AreSoundChildren [] = Unit {0}
AreSoundChildren (c ∷ cs) = IsSound c.opening c.journal × AreSoundChildren cs

-- these are the journals of the children, each closed where its child had not ended
abbrev pub AreClosed : List ChildValue → List LogValue → Type 0
AreClosed [] [] = Unit {0}
AreClosed (c ∷ cs) (l ∷ ls) = (l.opening ≡ c.opening) × Closes 0 1 c.journal l.journal × AreClosed cs ls
AreClosed _ _ = ⊥

-- ---- wires

-- a wire for each start in the journals, in order, and no other
abbrev pub AreWired : List LogValue → List WireValue → Type 0
AreWired [] wires = wires ≡ []
AreWired (l ∷ logs) wires =
    (own : List WireValue) × (others : List WireValue) × (wires ≡ own ++ others) × AreWires None l.journal 0 (came l.journal) own × AreWired logs others

-- no child was started, and the journal is sound
abbrev pub IsUnwired : LogValue → Type 0
IsUnwired l = IsSound l.opening l.journal × (came l.journal ≡ None ∷ [])

-- ---- stopping

-- the journals and wires of children that were stopped, and how many more there is room for
pub record StoppedValue : Type 0 where
  pub logs : List LogValue
  pub wires : List WireValue
  pub spare : ℕ

-- The child was closed in its journal, where it had not ended, and nothing else was done there. Its halves are closed, and were laid
-- after the other wires.
pub record Stops (c : ChildValue) (old new : StoppedValue) : Type 0 where
  pub log : LogValue
  pub wire : WireValue
  pub opening : log.opening ≡ c.opening
  pub closes : Closes 0 1 c.journal log.journal
  pub sound : IsSound log.opening log.journal
  pub logs : new.logs ≡ old.logs ++ log ∷ []
  pub wires : new.wires ≡ old.wires ++ wire ∷ []
  pub came : came log.journal ≡ Some 1 ∷ []
  pub child : wire.child ≡ 1
  pub is_wire : IsWire None log.journal 1 wire
  pub spare : old.spare ≡ new.spare + 1

-- so it is of each of them, one after the other
abbrev pub StopsAll : List ChildValue → StoppedValue → StoppedValue → Type 0
StopsAll [] old new = new ≡ old
StopsAll (c ∷ cs) old new = (mid : StoppedValue) × Stops c old mid × StopsAll cs mid new
