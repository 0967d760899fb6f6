-- What a role of a kit did: by one turn more, by the thread that takes all turns, or since its thread began.
use Rattle.std.specs.Prelude.{ℕ, ◌≡◌, ◌+◌, ◌&&◌, Bool, true, List, Option, bytes_eq, codes, take}
use Rattle.ann_outside.specs.Told.{SinkTold, SourceTold}
use Rattle.kit_serve.specs.declared.kit.remote.Remote.{Ghosts as RemoteGhosts}
use Rattle.kit_async_core.specs.Halls.{KitHall, KitPass}
use Rattle.kit_async.specs.declared.work.why.Why.{Why}
use Rattle.kit_serve.specs.Limits.{longest_line}
use Rattle.wire_line.specs.HeldBytes.{first_line, has_line}
use Rattle.kit_async_model.specs.Hearings.{text_in}
use Rattle.kit_async.specs.Work.Passes.{Stands}
use Rattle.kit_async.specs.Work.Calling.{HandValue, WorkerRan, hand_of}
use Rattle.kit_async.specs.Work.Reading.{EarValue, ReaderRan, ear_of}
use Rattle.kit_async.specs.Work.Writing.{MouthValue, WriterRan, mouth_of}
use Rattle.kit_async.specs.declared.roles.Reader.{Reader}
use Rattle.kit_async.specs.declared.roles.Worker.{Worker}
use Rattle.kit_async.specs.declared.roles.Writer.{Writer}

-- what is seen of a remote that is called
abbrev pub hand_at : {K : Type 0} → RemoteGhosts K → K → HandValue
hand_at g remote = hand_of (g.calls remote) (g.settings remote)

-- ---- one turn more

-- what the reader did before, with this it did that and more
abbrev pub ReaderWent : KitHall → KitPass → KitPass → EarValue → EarValue → Option Why → Option Why → Type 0
ReaderWent h p q e f old new = (begun : KitPass) (ear : EarValue) → ReaderRan h begun p ear e old → ReaderRan h begun q ear f new

abbrev pub WriterWent : KitHall → KitPass → KitPass → MouthValue → MouthValue → Option Why → Option Why → Type 0
WriterWent h p q m w old new = (begun : KitPass) (mouth : MouthValue) → WriterRan h begun p mouth m old → WriterRan h begun q mouth w new

-- who calls a remote did so, in its hall and by its number
abbrev pub WorkerWent : KitHall → ℕ → KitPass → HandValue → KitHall → ℕ → KitPass → HandValue → Type 0
WorkerWent h n p a g k q b = WorkerRan h n p q a b × (g ≡ h) × (k ≡ n)

-- the same of the role that holds the pass
abbrev pub ReaderGoes : {S R : Type 0} → (S → SourceTold) → Reader S R → Reader S R → Type 0
ReaderGoes told a b = ReaderWent a.hall.now a.pass b.pass (ear_of (told a.source) a.splitter.bytes) (ear_of (told b.source) b.splitter.bytes) a.why b.why

abbrev pub WriterGoes : {W R : Type 0} → (W → SinkTold) → Writer W R → Writer W R → Type 0
WriterGoes told a b = WriterWent a.hall.now a.pass b.pass (mouth_of (told a.sink)) (mouth_of (told b.sink)) a.why b.why

abbrev pub WorkerGoes : {K R : Type 0} → RemoteGhosts K → Worker K R → Worker K R → Type 0
WorkerGoes g a b = WorkerWent a.hall.now a.number a.pass (hand_at g a.remote) b.hall.now b.number b.pass (hand_at g b.remote)

-- ---- many

-- it may take a turn
abbrev pub ReaderCan : {S R : Type 0} → (S → SourceTold) → Reader S R → Type 0
ReaderCan told r = Stands r.hall.now 1 r.pass × ((told r.source).is_open ≡ true) × (r.splitter.limit ≡ longest_line)

abbrev pub WriterCan : {W R : Type 0} → (W → SinkTold) → Writer W R → Type 0
WriterCan told r = Stands r.hall.now 2 r.pass × ((told r.sink).is_open ≡ true)

-- it did what it promises, is in the same hall, and may take more turns
abbrev pub ReaderRuns : {S R : Type 0} → (S → SourceTold) → Reader S R → Reader S R → Type 0
ReaderRuns told a b = ReaderGoes told a b × ReaderCan told b × (b.hall.now ≡ a.hall.now)

abbrev pub WriterRuns : {W R : Type 0} → (W → SinkTold) → Writer W R → Writer W R → Type 0
WriterRuns told a b = WriterGoes told a b × WriterCan told b × (b.hall.now ≡ a.hall.now)

-- ---- when threads are wanted

-- the line has a tag
abbrev pub is_tagged : List ℕ → Bool
is_tagged line = bytes_eq (take 2 line) (codes "J ")

-- it has a tag, and asks to send or to fetch a content, which may take long
abbrev pub is_transfer : List ℕ → Bool
is_transfer line = is_tagged line && bytes_eq (take 9 (text_in true line)) (codes "TRANSFER ")

-- such a line stands first in what is held
abbrev pub holds : (List ℕ → Bool) → List ℕ → Bool
holds test held = has_line longest_line held && test (first_line held)
