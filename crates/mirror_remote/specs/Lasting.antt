-- A mirror whose children are started anew where one of them is full.
use Rattle.std.specs.Prelude.{ℕ, ◌≡◌, ◌⊎◌, ◌&&◌, ◌||◌, Bool, true, false, if◌then◌else◌, List, [], Option, Some, None, is_some, Result, Ok, Err, IsErr, codes}
use Rattle.std.specs.List.{list_any}
use Rattle.ann_key.specs.declared.bytes.NoMemory.{NoMemory}
use Rattle.journal_model.specs.declared.verdict.Why.{Why}
use Rattle.journal_model.specs.declared.verdict.Why.TheVariants.{Error, Full}
use Rattle.journal_model.specs.declared.verdict.Verdict.{Verdict}
use Rattle.journal_model.specs.declared.verdict.Verdict.TheVariants.{Failed, Unsupported}
use Rattle.journal_model.specs.declared.entry.Entry.{Entry}
use Rattle.journal_model.specs.Journal.{any, verdict_of, why_of}
use Rattle.journal_model.specs.Output.{text_at}
use Rattle.journal_scan.specs.Looks.{is_no_start}
use Rattle.journal_model.specs.Legality.{is_empty}
use Rattle.kit_serve.specs.declared.kit.call.Asked.{Asked}
use Rattle.kit_serve.specs.declared.kit.call.Said.{Said}
use Rattle.kit_serve.specs.declared.kit.call.Said.TheVariants.{Yes, No, Failure, Set}
use Rattle.mirror_children.specs.Children.{ChildValue}
use Rattle.mirror_remote.specs.Starts.Outcomes.{MirrorValue}
use Rattle.mirror_remote.specs.Mirrors.{Prepares}
use Rattle.mirror_remote.specs.Sessions.{Keeps}

-- the mirror, and the values of the last prepare of its host, where that said Yes
pub record LastingValue : Type 0 where
  pub mirror : MirrorValue
  pub values : Option (List (List ℕ))

abbrev pub is_full_end : Option Why → Bool
is_full_end (Some Full) = true
is_full_end why = false

-- the child ended since its journal is full
abbrev pub is_spent : ChildValue → Bool
is_spent c = is_full_end (why_of c.journal 1)

-- there is no child, or one of them is spent
abbrev pub are_spent : List ChildValue → Bool
are_spent cs = is_empty cs || list_any is_spent cs

-- its host's last prepare said Yes, and now there is no child, or one is spent
abbrev pub wants_start : LastingValue → Bool
wants_start m = is_some m.values && are_spent m.mirror.children

abbrev pub values_of : Option (List (List ℕ)) → List (List ℕ)
values_of None = []
values_of (Some values) = values

-- ---- what is done before a call

-- A start of all children went so: where it said Yes the call is made next.
abbrev pub IsStarted : List (List ℕ) → MirrorValue → MirrorValue → Result (Option Said) NoMemory → Type 0
IsStarted values old new (Ok None) = Prepares values old new (Ok Yes)
IsStarted values old new (Ok (Some said)) = Prepares values old new (Ok said)
IsStarted values old new (Err e) = Prepares values old new (Err e)

-- what comes after a prepare that went so: the call, or its own word
abbrev pub ComesTo : Result Said NoMemory → Result (Option Said) NoMemory → Type 0
ComesTo (Ok Yes) start = start ≡ Ok None
ComesTo (Ok (Set pairs)) start = start ≡ Ok None
ComesTo (Ok No) start = start ≡ Ok (Some No)
ComesTo (Ok (Failure text)) start = start ≡ Ok (Some (Failure text))
ComesTo (Err e) start = start ≡ Err e

-- Where no start is wanted nothing is done.
abbrev pub StartsBy : Bool → List (List ℕ) → MirrorValue → MirrorValue → Result (Option Said) NoMemory → Type 0
StartsBy false values old new result = (new ≡ old) × (result ≡ Ok None)
StartsBy true values old new result = IsStarted values old new result

pub record Starts (old new : LastingValue) (result : Result (Option Said) NoMemory) : Type 0 where
  pub starts : StartsBy (wants_start old) (values_of old.values) old.mirror new.mirror result
  pub values : new.values ≡ old.values

-- ---- a call

-- The call is made, unless the start said something else or found no memory: then the call says the same.
abbrev pub GoesOn : Asked → Result (Option Said) NoMemory → MirrorValue → MirrorValue → Result Said NoMemory → Type 0
GoesOn asked (Ok None) mid new result = Keeps asked result mid new
GoesOn asked (Ok (Some said)) mid new result = (new ≡ mid) × (result ≡ Ok said)
GoesOn asked (Err e) mid new result = (new ≡ mid) × IsErr result

-- Where a child is spent all children are started anew first, by the values of the last prepare.
pub record Lasts (asked : Asked) (old new : LastingValue) (result : Result Said NoMemory) : Type 0 where
  pub mid : LastingValue
  pub start : Result (Option Said) NoMemory
  pub starts : Starts old mid start
  pub goes : GoesOn asked start mid.mirror new.mirror result
  pub values : new.values ≡ old.values

-- the values that are kept after a prepare
abbrev pub values_after : List (List ℕ) → Result Said NoMemory → Option (List (List ℕ))
values_after values (Ok Yes) = Some values
values_after values (Ok (Set pairs)) = Some values
values_after values (Ok No) = None
values_after values (Ok (Failure text)) = None
values_after values (Err e) = None

-- No memory was found to keep the values, and nothing was done; or the mirror was prepared, and they are kept where it said Yes.
abbrev pub Readies : List (List ℕ) → LastingValue → LastingValue → Result Said NoMemory → Type 0
Readies values old new result =
    ((new ≡ old) × IsErr result) ⊎ (Prepares values old.mirror new.mirror result × (new.values ≡ values_after values result))

-- ---- a child that isn't ready

abbrev pub end_text : List Entry → Option Why → List ℕ
end_text journal (Some (Error at)) = text_at journal at
end_text journal why = codes "its program ended, or broke the protocol"

abbrev pub unready_by : List Entry → Option Verdict → List ℕ
unready_by journal (Some (Failed at)) = text_at journal at
unready_by journal (Some (Unsupported at)) = codes "it does not know PREPARE"
unready_by journal verdict = end_text journal (why_of journal 1)

-- what it said to PREPARE or in its ERROR, or a word
abbrev pub unready_text : List Entry → List ℕ
unready_text journal = if any is_no_start journal then codes "its program could not be started" else unready_by journal (verdict_of journal 1 1)
