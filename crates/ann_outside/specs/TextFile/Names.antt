-- Which files the calls on a desk name.
use Rattle.std.specs.Prelude.{ℕ, ◌≡◌, List, [], ◌∷◌, Option, IfSome}
use Rattle.ann_outside.specs.Calls.{Log, Gained}
use Rattle.ann_outside.specs.declared.file_desk.Call.{Call}
use Rattle.ann_outside.specs.declared.file_desk.Call.TheVariants.{Size, ReadAt, Create, Append, Cut, Rename, Remove}

-- the files that a call names are such
abbrev pub CallNames : (List ℕ → Type 0) → Call → Type 0
CallNames P (Size name answer) = P name
CallNames P (ReadAt name from answer) = P name
CallNames P (Create name answer) = P name
CallNames P (Append name piece answer) = P name
CallNames P (Cut name size answer) = P name
CallNames P (Rename from to answer) = P from × P to
CallNames P (Remove name answer) = P name

-- those of each of the calls are such
abbrev pub CallsName : (List ℕ → Type 0) → List Call → Type 0
CallsName P [] = Unit {0}
CallsName P (call ∷ calls) = CallNames P call × CallsName P calls

-- the log, where one is kept, gained calls that name such files alone
pub record NamesOnly (P : List ℕ → Type 0) (old new : Option Log) : Type 0 where
  pub calls : List Call
  pub gained : Gained old new calls
  pub named : CallsName P calls
