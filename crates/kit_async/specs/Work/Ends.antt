-- What a role did since its hall began, of the journal at the end.
use Rattle.std.specs.Prelude.{ℕ, ◌≡◌, List, [], Option, Some, slice_get}
use Rattle.threads.specs.Passes.{HasClosed, seen_of}
use Rattle.kit_async_model.specs.declared.setup.Setup.{Setup}
use Rattle.kit_async_model.specs.declared.entry.Entry.{Entry}
use Rattle.kit_async_model.specs.Callings.{calls_of}
use Rattle.kit_async_model.specs.Events.{IsMadeBy, MayStep}
use Rattle.kit_async_model.specs.Lines.{heard_lines}
use Rattle.kit_async_core.specs.Halls.{KitHall, KitPass}
use Rattle.kit_async.specs.declared.work.why.Why.{Why}
use Rattle.kit_async.specs.Work.Calling.{HandValue, Works, WorkerRan}
use Rattle.kit_async.specs.Work.Reading.{EarValue, Reads, ReaderRan}
use Rattle.kit_async.specs.Work.Writing.{MouthValue, Writes, WriterRan, written_lines}

-- the pass is among these, and when the role began it had seen the hall's begin alone
pub record IsAmong (h : KitHall) (passes : List KitPass) (begun p : KitPass) : Type 0 where
  pub place : ℕ
  pub there : slice_get passes place ≡ Some p
  pub fresh : seen_of begun ≡ h.start

-- what the source gave is the lines of the journal that were heard, none of them too long, and what is held
abbrev pub ReadersEnd : Type 0
ReadersEnd =
    (h : KitHall) (passes : List KitPass) (final : List Entry) (fixed : Setup) (begun p : KitPass) (e f : EarValue) (why : Option Why) → HasClosed IsMadeBy MayStep h passes final fixed → IsAmong h passes begun p
    → ReaderRan h begun p e f why → heard_lines h.start ≡ [] → e.held ≡ [] → Reads e.given final f

-- what the sink took is the text of the journal's lines that are written; where writing failed, the first bytes of the next come after it
abbrev pub WritersEnd : Type 0
WritersEnd =
    (h : KitHall) (passes : List KitPass) (final : List Entry) (fixed : Setup) (begun p : KitPass) (m w : MouthValue) (why : Option Why) → HasClosed IsMadeBy MayStep h passes final fixed → IsAmong h passes begun p
    → WriterRan h begun p m w why → written_lines h.start ≡ [] → Writes m.taken why final w

-- the remote had the calls that the journal has of it, and no others
abbrev pub WorkersEnd : Type 0
WorkersEnd =
    (h : KitHall) (passes : List KitPass) (final : List Entry) (fixed : Setup) (begun p : KitPass) (remote : ℕ) (a b : HandValue) → HasClosed IsMadeBy MayStep h passes final fixed → IsAmong h passes begun p
    → WorkerRan h remote begun p a b → calls_of h.fixed remote h.start ≡ [] → Works a.calls h.fixed remote final b
