-- Why a kit stopped, by why its reader and its writer ended, and how it stands.
use Rattle.std.specs.Prelude.{ℕ, ◌+◌, ◌≡◌, Bool, true, false, if◌then◌else◌, List, [], ◌∷◌, map, codes, Option, Some, None}
use Rattle.std.specs.List.{list_any}
use Rattle.threads.specs.Passes.{HasClosed}
use Rattle.kit_serve.specs.declared.kit.call.Call.{Call}
use Rattle.kit_async_model.specs.declared.entry.Entry.{Entry}
use Rattle.kit_async_model.specs.declared.entry.Entry.TheVariants.{Say}
use Rattle.kit_async_model.specs.declared.setup.Setup.{Setup}
use Rattle.kit_async_model.specs.Legality.{is_finished, is_lack}
use Rattle.kit_async_model.specs.Standings.{Standing, standing}
use Rattle.kit_async_model.specs.Events.{IsMadeBy, MayStep}
use Rattle.kit_async_core.specs.Halls.{KitHall, KitPass}
use Rattle.kit_async.specs.declared.work.why.Why.{Why as RoleWhy}
use Rattle.kit_async.specs.declared.work.why.Why.TheVariants.{Eof as RoleEof, ReadFault as RoleReadFault, Long, WriteFault as RoleWriteFault}
use Rattle.kit_async.specs.Work.Calling.{HandValue, WorkerRan}
use Rattle.kit_async.specs.Work.Ends.{IsAmong}
use Rattle.kit_async.specs.Work.Reading.{EarValue, ReaderRan}
use Rattle.kit_async.specs.Work.Writing.{MouthValue, WriterRan}
use Rattle.kit_async.specs.declared.why.Why.{Why}
use Rattle.kit_async.specs.declared.why.Why.TheVariants.{Eof, ReadFault, WriteFault, Bad, Memory}
use Rattle.kit_async.specs.Served.{Serves, Tells}

-- ---- why it stopped

-- where all was done and written, and no line ended it
abbrev pub why_read : Option RoleWhy → Why
why_read (Some RoleEof) = Eof
why_read (Some RoleReadFault) = ReadFault
why_read (Some Long) = Bad
why_read why = Memory

-- where no write failed: all has to be done and written, or memory was wanting
abbrev pub why_rest : Option RoleWhy → Bool → Bool → Bool → Why
why_rest read false over lacks = Memory
why_rest read true true true = Memory
why_rest read true true false = Bad
why_rest read true false lacks = why_read read

abbrev pub why_by : Option RoleWhy → Option RoleWhy → Bool → Bool → Bool → Why
why_by read (Some RoleWriteFault) finished over lacks = WriteFault
why_by read wrote finished over lacks = why_rest read finished over lacks

-- the same of a journal
abbrev pub why_stopped : Setup → List Entry → Option RoleWhy → Option RoleWhy → Why
why_stopped setup journal read wrote =
    why_by read wrote (is_finished setup (standing setup journal)) (standing setup journal).over (list_any is_lack journal)

-- ---- what came of the roles

-- the role did that since its hall began, and its pass is among these
pub record ReaderDid (h : KitHall) (passes : List KitPass) (e f : EarValue) (why : Option RoleWhy) : Type 0 where
  pub begun : KitPass
  pub pass : KitPass
  pub among : IsAmong h passes begun pass
  pub ran : ReaderRan h begun pass e f why

pub record WriterDid (h : KitHall) (passes : List KitPass) (m w : MouthValue) (why : Option RoleWhy) : Type 0 where
  pub begun : KitPass
  pub pass : KitPass
  pub among : IsAmong h passes begun pass
  pub ran : WriterRan h begun pass m w why

pub record WorkerDid (h : KitHall) (passes : List KitPass) (remote : ℕ) (a b : HandValue) : Type 0 where
  pub begun : KitPass
  pub pass : KitPass
  pub among : IsAmong h passes begun pass
  pub ran : WorkerRan h remote begun pass a b

abbrev pub AllWorked : KitHall → List KitPass → ℕ → List HandValue → List HandValue → Type 0
AllWorked h passes n [] [] = Unit {0}
AllWorked h passes n [] (b ∷ news) = ⊥
AllWorked h passes n (a ∷ olds) [] = ⊥
AllWorked h passes n (a ∷ olds) (b ∷ news) = WorkerDid h passes n a b × AllWorked h passes (n + 1) olds news

abbrev pub calls_told : List HandValue → List (Option (List Call))
calls_told hands = map (λ hand. hand.calls) hands

abbrev pub tells_of : EarValue → MouthValue → List HandValue → Tells
tells_of e m hands = record { given = e.given; left = e.left; taken = m.taken; calls = calls_told hands }

-- Where each role did what it promises of its own pass, the kit served as it promises.
abbrev pub RolesServe : Type 0
RolesServe =
    (h : KitHall) (passes : List KitPass) (final : List Entry) (fixed : Setup) (e f : EarValue) (m w : MouthValue) (olds news : List HandValue) (read wrote : Option RoleWhy)
    → HasClosed IsMadeBy MayStep h passes final fixed → h.start ≡ Say 0 (codes "VERSION 1") ∷ [] → e.held ≡ [] → ReaderDid h passes e f read → WriterDid h passes m w wrote
    → AllWorked h passes 0 olds news
    → Serves h.fixed (tells_of e m olds) (tells_of f w news) (record { entries = final; why = why_stopped h.fixed final read wrote })
