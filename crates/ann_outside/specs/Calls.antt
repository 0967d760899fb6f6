-- The calls that a desk is asked for, and the log that it keeps of them.
use Rattle.std.specs.Prelude.{ℕ, ◌≡◌, Bool, true, false, if◌then◌else◌, List, [], ◌∷◌, ◌++◌, take, Option, option_map, IfSome, Result, Ok, Err}
use Rattle.ann_outside.specs.Files.{Files}
use Rattle.ann_outside.specs.declared.file_desk.DeskError.{DeskError}
use Rattle.ann_outside.specs.declared.file_desk.DeskError.TheVariants.{Failed, Missing, NoMemory}
use Rattle.ann_outside.specs.declared.file_desk.Call.{Call}
use Rattle.ann_outside.specs.declared.file_desk.Call.TheVariants.{Size, ReadAt, Create, Append, Cut, Rename, Remove}

-- the bytes that a read put at the front of its buffer
abbrev pub bytes_read : List ℕ → Result ℕ DeskError → Result (List ℕ) DeskError
bytes_read buffer (Ok n) = Ok (take n buffer)
bytes_read buffer (Err e) = Err e

abbrev pub is_without_memory : {T : Type 0} → Result T DeskError → Bool
is_without_memory (Ok x) = false
is_without_memory (Err Failed) = false
is_without_memory (Err Missing) = false
is_without_memory (Err NoMemory) = true

-- no memory was found for the call
abbrev pub lacks_memory : Call → Bool
lacks_memory (Size name answer) = is_without_memory answer
lacks_memory (ReadAt name from answer) = is_without_memory answer
lacks_memory (Create name answer) = is_without_memory answer
lacks_memory (Append name piece answer) = is_without_memory answer
lacks_memory (Cut name size answer) = is_without_memory answer
lacks_memory (Rename from to answer) = is_without_memory answer
lacks_memory (Remove name answer) = is_without_memory answer

-- what a desk tells of its calls: the files that it had before the first of them, where it tells files, and the calls in their order
pub record Log : Type 0 where
  pub origin : Option Files
  pub calls : List Call

-- the calls and this one, unless no memory was found for it
abbrev pub calls_with : List Call → Call → List Call
calls_with calls call = if lacks_memory call then calls else calls ++ call ∷ []

-- the log, where one is kept, with this call, unless no memory was found for it
abbrev pub logged : Option Log → Call → Option Log
logged log call = option_map (λ told. record { origin = told.origin; calls = calls_with told.calls call }) log

-- the log, where one is kept, gained these calls
abbrev pub Gained : Option Log → Option Log → List Call → Type 0
Gained old new calls = new ≡ option_map (λ told. record { origin = told.origin; calls = told.calls ++ calls }) old

-- where a log is kept, it has no calls yet
abbrev pub IsLogBlank : Option Log → Type 0
IsLogBlank log = log ≡ option_map (λ told. record { origin = told.origin; calls = [] }) log

-- the files that the log begins with, where one is kept
abbrev pub log_origin : Option Log → Option (Option Files)
log_origin log = option_map (λ told. told.origin) log

-- where a log is kept, it begins with these files
abbrev pub IsLogFrom : Option Log → Option Files → Type 0
IsLogFrom log files = IfSome (log_origin log) (λ origin. origin ≡ files)
