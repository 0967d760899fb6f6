-- The state of the world, and what holds of it.
use Rattle.std.specs.Prelude.{ℕ, ◌≡◌, ◌<◌, ◌≤◌, ◌^◌, Bool, true, List, ◌++◌, length, filter}
use Rattle.annex_model.specs.Lines.{text}
use Rattle.journal_model.specs.declared.entry.Entry.{Entry}
use Rattle.journal_model.specs.declared.opening.Opening.{Opening}
use Rattle.journal_model.specs.Journal.{each_of, writes, sends, is_started, got_lines}
use Rattle.journal_model.specs.Legality.{Legal, count, is_start}
use Rattle.journal_model.specs.Wires.{sent_lines}
use Rattle.kit_serve.specs.Kit.Stages.{Follows}
use Rattle.pair_kit.specs.Shelves.{Items}
use Rattle.pair_kit.specs.Cues.{settings}
use Rattle.pair_kit.specs.declared.answer.Answer.{Answer}
use Rattle.pair_kit.specs.Pairs.{PairValue, heard, are_spelled, taken_lines, said_lines, is_child, pair_of}

-- the core by what it began with, its journal and whether it is shut; the keys and the files with their bytes; the children in the
-- order of their starts; and the answers of their kits
pub record WorldValue : Type 0 where
  pub opening : Opening
  pub journal : List Entry
  pub shut : Bool
  pub keys : Items
  pub files : Items
  pub pairs : List PairValue
  pub answers : List Answer

-- ---- what holds of one child

-- the kit stands where the lines that it took leave it
pub record HasHeard (p : PairValue) : Type 0 where
  pub follows : Follows settings p.kit (heard p.taken)
  pub spelled : are_spelled p.taken ≡ true

-- The lines that are written to the child are those that its kit took, then what waits at its side, then what is in the pipe.
pub record IsFed (journal : List Entry) (c : ℕ) (p : PairValue) : Type 0 where
  pub covered : length (filter (λ e. sends c e.what) journal) ≤ length (each_of (writes c) journal)
  pub bytes : text (sent_lines journal c) ≡ text (taken_lines p.taken) ++ p.at_kit ++ p.to_kit

-- The lines got of the child, then what waits at the host's side, then what is in the pipe, are all that its kit said.
pub record IsRead (journal : List Entry) (c : ℕ) (p : PairValue) : Type 0 where
  pub bytes : text (got_lines journal c) ++ p.at_host ++ p.to_host ≡ text (said_lines p.taken)

pub record IsLinked (journal : List Entry) (c : ℕ) (p : PairValue) : Type 0 where
  pub heard : HasHeard p
  pub fed : IsFed journal c p
  pub read : IsRead journal c p

-- ---- what holds of the world

pub record AreLinked (w : WorldValue) : Type 0 where
  pub legal : Legal w.opening w.journal
  pub few : length w.journal < 2 ^ 64
  pub numbers : count is_start w.journal ≡ length w.pairs
  pub started : (c : ℕ) → is_started w.journal c ≡ is_child w.pairs c
  pub linked : (c : ℕ) → is_child w.pairs c ≡ true → IsLinked w.journal c (pair_of w.pairs c)
