-- How a layout of a get goes.
use Rattle.std.specs.Prelude.{ℕ, ◌≡◌, ◌+◌, ◌-◌, ◌≤◌, ◌<◌, ◌^◌, List, [], ◌∷◌, ◌++◌, length, map, Option, Result, Ok, Err}
use Rattle.std.specs.List.{range_with_len}
use Rattle.ann_key.specs.Keys.{Parts}
use Rattle.ann_key.specs.declared.bytes.NoMemory.{NoMemory}
use Rattle.ann_digest.specs.declared.checker.Checker.{Checker}
use Rattle.ann_outside.specs.Calls.{Log, Gained}
use Rattle.ann_outside.specs.declared.file_desk.Call.{Call}
use Rattle.task_text.specs.Layouts.Layouts.{Part, chunk_part, count_of}
use Rattle.task_model.specs.Copying.Copies.{Checks}
use Rattle.journal_model.specs.declared.answer.Answer.{Answer}
use Rattle.journal_model.specs.declared.answer.Answer.TheVariants.{Memory}
use Rattle.task_model.specs.Askers.{Asking}
use Rattle.task_model.specs.declared.setup.Setup.{Setup}
use Rattle.task_model.specs.declared.turn.TaskTurn.{TaskTurn}
use Rattle.task_run.specs.declared.get.get_chunk.Went.{Went}
use Rattle.task_run.specs.declared.get.get_chunk.Went.TheVariants as T
use Rattle.task_model.specs.Names.{part_of}
use Rattle.task_model.specs.Layouts.{sizes_tried}
use Rattle.task_model.specs.Ran.{answered}
use Rattle.task_run.specs.Get.Fronts.{Place, Turn, Within, Kept, Between, Ended}

-- The pairs and the log grew by these.
pub record Grown (pairs later : List Asking) (old new : Option Log) : Type 0 where
  pub asked : List Asking
  pub made : List Call
  pub pairs_are : later ≡ pairs ++ asked
  pub log_is : Gained old new made

-- what a layout is tried after
pub record Behind : Type 0 where
  pub sizes : List ℕ
  pub past : List Asking
  pub done : List (List Part)
  pub tried : List ℕ
  pub rest : List ℕ
  pub calls : List Call

abbrev pub place_at : Setup → TaskTurn → Parts → List ℕ → List ℕ → Place
place_at setup t key file sizes = record { setup = setup; turn = t; key = key; file = file; sizes = sizes }

abbrev pub turn_at : Setup → TaskTurn → Parts → List ℕ → ℕ → Behind → Turn
turn_at setup t key file chunk b = record { place = place_at setup t key file b.sizes; past = b.past; done = b.done; tried = b.tried; chunk = chunk; rest = b.rest }

-- the chunks from one on, which are counted from 0 here
abbrev pub parts_from : Parts → ℕ → ℕ → ℕ → List Part
parts_from key size chunk i = map (chunk_part key size chunk) (range_with_len (i + 1) (count_of size chunk - i))

-- those from one to another
abbrev pub parts_between : Parts → ℕ → ℕ → ℕ → ℕ → List Part
parts_between key size chunk i k = map (chunk_part key size chunk) (range_with_len (i + 1) (k - i))

-- how it stands after one chunk more: it is there; or its layout failed; or the get is over
abbrev pub PartEnd : Turn → List Asking → List Part → List Part → Part → List Call → List (ℕ × List ℕ) → List ℕ → Checker → Checker → List Asking → List Call → Result Went NoMemory → Type 0
PartEnd u cur got left part calls held bytes before after asked made (Ok T.Whole) =
    (more : List ℕ) × Within u (cur ++ asked) (got ++ part ∷ []) left (calls ++ made) × Kept u (cur ++ asked) (got ++ part ∷ []) left (calls ++ made) held (bytes ++ more)
    × Checks before after more × (length asked ≡ 1)
PartEnd u cur got left part calls held bytes before after asked made (Ok T.Failed) =
    Between u.place (u.past ++ (cur ++ asked)) (u.done ++ (got ++ part ∷ left) ∷ []) (u.tried ++ u.chunk ∷ []) u.rest (calls ++ made) × (length asked ≡ 1)
PartEnd u cur got left part calls held bytes before after asked made (Ok (T.Over answer)) = Ended u.place (u.past ++ (cur ++ asked)) (calls ++ made) answer
PartEnd u cur got left part calls held bytes before after asked made (Err e) = Ended u.place (u.past ++ (cur ++ asked)) (calls ++ made) Memory

-- and after all
abbrev pub ChunksEnd : Turn → List Part → List Call → List (ℕ × List ℕ) → Checker → Checker → List Asking → List Call → Result Went NoMemory → Type 0
ChunksEnd u parts calls held before after asked made (Ok T.Whole) =
    (bytes : List ℕ) × Within u asked parts [] (calls ++ made) × Kept u asked parts [] (calls ++ made) held bytes × Checks before after bytes
ChunksEnd u parts calls held before after asked made (Ok T.Failed) =
    Between u.place (u.past ++ asked) (u.done ++ parts ∷ []) (u.tried ++ u.chunk ∷ []) u.rest (calls ++ made)
ChunksEnd u parts calls held before after asked made (Ok (T.Over answer)) = Ended u.place (u.past ++ asked) (calls ++ made) answer
ChunksEnd u parts calls held before after asked made (Err e) = Ended u.place (u.past ++ asked) (calls ++ made) Memory

-- what a call for the next chunk promises
abbrev pub NextDoes : Setup → TaskTurn → Parts → ℕ → ℕ → ℕ → List ℕ → ℕ → Checker → Checker → List Asking → List Call → Result Went NoMemory → Type 0
NextDoes setup t key size chunk i part now before after asked made result =
    (file : List ℕ) (b : Behind) (cur : List Asking) (got left : List Part) (calls : List Call) (held : List (ℕ × List ℕ)) (bytes : List ℕ) → part ≡ part_of file
    → now ≡ length b.past + length cur → now + 1 + length left < 2 ^ 64
    → Within (turn_at setup t key file chunk b) cur got (chunk_part key size chunk (i + 1) ∷ left) calls
    → Kept (turn_at setup t key file chunk b) cur got (chunk_part key size chunk (i + 1) ∷ left) calls held bytes
    → PartEnd (turn_at setup t key file chunk b) cur got left (chunk_part key size chunk (i + 1)) calls held bytes before after asked made result

pub record NextRan (setup : Setup) (t : TaskTurn) (key : Parts) (size chunk i : ℕ) (part : List ℕ) (now : ℕ) (pairs later : List Asking) (old new : Option Log) (before after : Checker) (result : Result Went NoMemory) : Type 0 where
  pub grown : Grown pairs later old new
  pub goes : NextDoes setup t key size chunk i part now before after grown.asked grown.made result
  pub one : (went : Went) → result ≡ Ok went → length grown.asked ≡ 1

-- what all of them promise
pub record ChunksRan (setup : Setup) (t : TaskTurn) (key : Parts) (size chunk held : ℕ) (part : List ℕ) (first now : ℕ) (pairs later : List Asking) (old new : Option Log) (before after : Checker) (result : Result Went NoMemory) : Type 0 where
  pub grown : Grown pairs later old new
  pub goes : (file : List ℕ) (b : Behind) (calls : List Call) (reads : List (ℕ × List ℕ)) → part ≡ part_of file → first ≡ length b.past
      → Within (turn_at setup t key file chunk b) [] [] (parts_from key size chunk held) calls
      → Kept (turn_at setup t key file chunk b) [] [] (parts_from key size chunk held) calls reads []
      → ChunksEnd (turn_at setup t key file chunk b) (parts_from key size chunk held) calls reads before after grown.asked grown.made result
  pub counted : result ≡ Ok T.Failed → now ≡ first + length grown.asked

-- and after a layout of chunks
abbrev pub LayoutEnd : Turn → List Call → List Asking → List Call → Result Went NoMemory → Type 0
LayoutEnd u calls asked made (Ok T.Whole) = ⊥
LayoutEnd u calls asked made (Ok T.Failed) =
    (parts : List Part) × Between u.place (u.past ++ asked) (u.done ++ parts ∷ []) (u.tried ++ u.chunk ∷ []) u.rest (calls ++ made)
LayoutEnd u calls asked made (Ok (T.Over answer)) = Ended u.place (u.past ++ asked) (calls ++ made) answer
LayoutEnd u calls asked made (Err e) = Ended u.place (u.past ++ asked) (calls ++ made) Memory

pub record LayoutRan (setup : Setup) (t : TaskTurn) (key : Parts) (file : List ℕ) (chunk : ℕ) (first now : ℕ) (pairs later : List Asking) (old new : Option Log) (result : Result Went NoMemory) : Type 0 where
  pub grown : Grown pairs later old new
  pub goes : (b : Behind) → first ≡ length b.past → 1 ≤ length b.rest → Between (place_at setup t key file b.sizes) b.past b.done b.tried (chunk ∷ b.rest) b.calls
      → LayoutEnd (turn_at setup t key file chunk b) b.calls grown.asked grown.made result
  pub counted : result ≡ Ok T.Failed → now ≡ first + length grown.asked

-- the plain layout, after all others
pub record WholeRan (setup : Setup) (t : TaskTurn) (key : Parts) (file : List ℕ) (first : ℕ) (pairs later : List Asking) (old new : Option Log) (result : Result Answer NoMemory) : Type 0 where
  pub grown : Grown pairs later old new
  pub goes : (sizes : List ℕ) (past : List Asking) (done : List (List Part)) (tried : List ℕ) (calls : List Call) → first ≡ length past → Between (place_at setup t key file sizes) past done tried (0 ∷ []) calls
      → Ended (place_at setup t key file sizes) (past ++ grown.asked) (calls ++ grown.made) (answered result)

-- how a get stands after all layouts of chunks
abbrev pub TriesEnd : Place → List ℕ → ℕ → List Asking → List Call → Result Went NoMemory → Type 0
TriesEnd p rest now asked made (Ok T.Whole) = ⊥
TriesEnd p rest now asked made (Ok T.Failed) = (done : List (List Part)) × (tried : List ℕ) × Between p asked done tried rest made × (now ≡ length asked)
TriesEnd p rest now asked made (Ok (T.Over answer)) = Ended p asked made answer
TriesEnd p rest now asked made (Err e) = Ended p asked made Memory

pub record TriesRan (setup : Setup) (t : TaskTurn) (key : Parts) (file : List ℕ) (layouts : List (ℕ × ℕ)) (now : ℕ) (pairs later : List Asking) (old new : Option Log) (result : Result Went NoMemory) : Type 0 where
  pub grown : Grown pairs later old new
  pub goes : TriesEnd (place_at setup t key file (sizes_tried key layouts)) (0 ∷ []) now grown.asked grown.made result

-- the whole get
pub record GetRan (setup : Setup) (t : TaskTurn) (key : Parts) (file : List ℕ) (layouts : List (ℕ × ℕ)) (pairs later : List Asking) (old new : Option Log) (result : Result Answer NoMemory) : Type 0 where
  pub grown : Grown pairs later old new
  pub goes : Ended (place_at setup t key file (sizes_tried key layouts)) grown.asked grown.made (answered result)
