-- Two remotes that use one directory at the same time.
use Rattle.std.specs.Prelude.{ℕ, ◌≡◌, ◌≢◌, ◌⊎◌, ⊤, List, [], ◌∷◌, ◌++◌, Option, Some, None, Ok, Err}
use Rattle.std.specs.List.{concat}
use Rattle.ann_outside.specs.Files.{Files, content, AllStay, CreateDoes, AppendDoes, CutDoes, RenameDoes, RemoveDoes}
use Rattle.ann_outside.specs.declared.file_desk.Call.{Call}
use Rattle.ann_outside.specs.declared.file_desk.Call.TheVariants.{Size, ReadAt, Create, Append, Cut, Rename, Remove}
use Rattle.dir_remote.specs.Contents.{IsContentName, IsMark, IsOutside, temporary_name}
use Rattle.dir_remote.specs.Traces.{Each, Store, store_calls}

-- ---- what calls do

-- what a call with this answer does to the files of a desk
abbrev pub CallDoes : Call → Files → Files → Type 0
CallDoes (Size name answer) old new = AllStay old new
CallDoes (ReadAt name from answer) old new = AllStay old new
CallDoes (Create name answer) old new = CreateDoes name answer old new
CallDoes (Append name piece answer) old new = AppendDoes name piece answer old new
CallDoes (Cut name size answer) old new = CutDoes name size answer old new
CallDoes (Rename from to answer) old new = RenameDoes from to answer old new
CallDoes (Remove name answer) old new = RemoveDoes name answer old new

-- what these calls do, one after the other
abbrev pub CallsDo : List Call → Files → Files → Type 0
CallsDo [] old new = AllStay old new
CallsDo (call ∷ calls) old new = (next : Files) × CallDoes call old next × CallsDo calls next new

-- The log has the calls of the one and those of the other, each in their order, and no more.
abbrev pub Interleaves : List Call → List Call → List Call → Type 0
Interleaves ones others [] = (ones ≡ []) × (others ≡ [])
Interleaves ones others (call ∷ calls) =
    ((more : List Call) × (ones ≡ call ∷ more) × Interleaves more others calls)
    ⊎ ((more : List Call) × (others ≡ call ∷ more) × Interleaves ones more calls)

-- ---- what a remote does

-- a file outside of the directory, or one that contents are put together in by the remote with this mark
abbrev pub IsSpare : List ℕ → List ℕ → List ℕ → Type 0
IsSpare directory mark name = IsOutside directory name ⊎ ((text : List ℕ) × (name ≡ temporary_name (Some mark) directory text))

-- the name of some key's content
abbrev pub IsContent : List ℕ → List ℕ → Type 0
IsContent directory name = (text : List ℕ) × IsContentName directory text name

-- the call puts nothing under a key: it looks, makes or fills a spare file, or takes one or a content away
abbrev pub PutsNothing : List ℕ → List ℕ → Call → Type 0
PutsNothing directory mark (Size name answer) = ⊤
PutsNothing directory mark (ReadAt name from answer) = ⊤
PutsNothing directory mark (Create name answer) = IsSpare directory mark name
PutsNothing directory mark (Append name piece answer) = IsSpare directory mark name
PutsNothing directory mark (Cut name size answer) = ⊥
PutsNothing directory mark (Rename from to (Ok done)) = ⊥
PutsNothing directory mark (Rename from to (Err e)) = ⊤
PutsNothing directory mark (Remove name answer) = IsSpare directory mark name ⊎ IsContent directory name

-- a store that came to its end, or a call of anything else: of another request, or of a store that didn't
pub data Deed : Type 0 where
  Stores : Store → Deed
  Calls : Call → Deed

abbrev pub IsDeed : List ℕ → List ℕ → Deed → Type 0
IsDeed directory mark (Stores s) = IsContentName directory s.text s.name
IsDeed directory mark (Calls call) = PutsNothing directory mark call

-- the calls of these, in order
abbrev pub calls_of : List ℕ → List ℕ → List Deed → List Call
calls_of directory mark [] = []
calls_of directory mark (Stores s ∷ deeds) = store_calls (Some mark) directory s ++ calls_of directory mark deeds
calls_of directory mark (Calls call ∷ deeds) = call ∷ calls_of directory mark deeds

-- the store is one of these
abbrev pub IsIn : Store → List Deed → Type 0
IsIn s [] = ⊥
IsIn s (deed ∷ deeds) = (deed ≡ Stores s) ⊎ IsIn s deeds

-- ---- the law

-- all bytes that one of these stores of the key read from its file, from the file's begin to its end
abbrev pub WasStored : List Deed → List ℕ → Option (List ℕ) → Type 0
WasStored deeds text held = (s : Store) × IsIn s deeds × (s.text ≡ text) × (held ≡ Some (concat s.pieces))

-- what was there before, nothing, or what one store of the key put there as a whole
abbrev pub IsWhole : List Deed → List Deed → List ℕ → Option (List ℕ) → Option (List ℕ) → Type 0
IsWhole mine yours text before held = (held ≡ before) ⊎ (held ≡ None) ⊎ WasStored mine text held ⊎ WasStored yours text held

-- Two remotes with different marks use one directory, and their calls come in any order. Then each key has what it had before, or
-- nothing, or what one store of it put there as a whole: never a mixture.
abbrev pub NeverMixed : List ℕ → List ℕ → List ℕ → List Deed → List Deed → List Call → Files → Files → Type 0
NeverMixed directory mark mark' mine yours log old new =
    mark ≢ mark' → IsMark mark → IsMark mark' → Each (IsDeed directory mark) mine → Each (IsDeed directory mark') yours
    → Interleaves (calls_of directory mark mine) (calls_of directory mark' yours) log → CallsDo log old new
    → (text name : List ℕ) → IsContentName directory text name → IsWhole mine yours text (content name old) (content name new)

-- ---- why the marks differ

-- a store of the byte 1, and another remote's store of the byte 2 up to its last append
abbrev pub store_of_one : List ℕ → List ℕ → Store
store_of_one text name = record { text = text; name = name; file = 102 ∷ []; pieces = (1 ∷ []) ∷ [] }

abbrev pub half_of_two : List ℕ → List Deed
half_of_two beside = Calls (Create beside (Ok tt)) ∷ Calls (ReadAt (103 ∷ []) 0 (Ok (2 ∷ []))) ∷ Calls (Append beside (2 ∷ []) (Ok tt)) ∷ []

-- both make the file before either adds to it
abbrev pub mixed_log : List ℕ → List ℕ → List Call
mixed_log beside name =
    Create beside (Ok tt) ∷ Create beside (Ok tt) ∷ ReadAt (102 ∷ []) 0 (Ok (1 ∷ [])) ∷ Append beside (1 ∷ []) (Ok tt)
    ∷ ReadAt (103 ∷ []) 0 (Ok (2 ∷ [])) ∷ Append beside (2 ∷ []) (Ok tt) ∷ ReadAt (102 ∷ []) 1 (Ok []) ∷ Rename beside name (Ok tt) ∷ []

-- With one mark this happens: the key has the bytes 1 and 2, which no store put there.
pub record Mixes (directory mark text name : List ℕ) (mine yours : List Deed) (log : List Call) (new : Files) : Type 0 where
  pub first : Each (IsDeed directory mark) mine
  pub other : Each (IsDeed directory mark) yours
  pub order : Interleaves (calls_of directory mark mine) (calls_of directory mark yours) log
  pub does : CallsDo log [] new
  pub mixed : IsWhole mine yours text None (content name new) → ⊥

abbrev pub MixesWithOneMark : List ℕ → List ℕ → List ℕ → List ℕ → Type 0
MixesWithOneMark directory mark text name =
    let beside = temporary_name (Some mark) directory text in
    IsMark mark → IsContentName directory text name
    → Mixes directory mark text name (Stores (store_of_one text name) ∷ []) (half_of_two beside) (mixed_log beside name) ((name, 1 ∷ 2 ∷ []) ∷ [])
