-- A kit in memory, as the child of a host: what it heard and said.
use Rattle.std.specs.Prelude.{ℕ, ◌≡◌, ◌+◌, ◌<◌, ◌≤◌, ◌⊎◌, Bool, true, false, List, [], ◌∷◌, take, length, Option, Some, None, option_map, IfSome}
use Rattle.annex_model.specs.Messages.{Progress, remote_line}
use Rattle.kit_serve.specs.declared.kit.call.Call.{Call}
use Rattle.kit_serve.specs.Kit.Stages.{KitValue}
use Rattle.kit_serve.specs.Kit.Descriptions.{untold}
use Rattle.kit_serve.specs.Sessions.{Spoke, Lacks}
use Rattle.kit_serve.specs.Voices.{Spoken, Utters, Bytes, Talking, Talked}
use Rattle.std.specs.Io.KnownBytes.{Appends}
use Rattle.kit_serve.specs.declared.end.End.{End}
use Rattle.kit_serve.specs.declared.end.End.TheVariants.{Eof}

-- ---- a kit that says how far a transfer is

-- what contracts see of it: the kit, and how many PROGRESS lines it says before the last line of a transfer
pub record ChattyValue (R : Type 0) : Type 0 where
  pub kit : KitValue R
  pub progress : ℕ

-- one of the lines PROGRESS 1 to PROGRESS n
abbrev pub IsProgress : ℕ → List ℕ → Type 0
IsProgress n line = (k : ℕ) × (k < n) × (line ≡ remote_line (Progress (k + 1)))

abbrev pub AreProgress : ℕ → List (List ℕ) → Type 0
AreProgress n [] = Unit {0}
AreProgress n (line ∷ lines) = IsProgress n line × AreProgress n lines

-- these lines in their order, and none but such PROGRESS lines among them
abbrev pub IsMixed : ℕ → List (List ℕ) → List (List ℕ) → Type 0
IsMixed n plain [] = plain ≡ []
IsMixed n plain (line ∷ lines) = ((rest : List (List ℕ)) × (plain ≡ line ∷ rest) × IsMixed n rest lines) ⊎ (IsProgress n line × IsMixed n plain lines)

-- from the first to the second the kit heard these lines, and its own lines are those that were said, PROGRESS lines aside
pub record Chats {R : Type 0} (settings_of : R → List (List ℕ)) (calls : R → Option (List Call)) (old new : ChattyValue R) (lines said : List (List ℕ)) : Type 0 where
  pub plain : List (List ℕ)
  pub spoke : Spoke settings_of calls (λ (_ : R). untold) old.kit new.kit lines plain
  pub mixed : IsMixed old.progress plain said
  pub same : new.progress ≡ old.progress

-- the kit found no memory for the line, or it heard the line and nothing was said to it
abbrev pub LacksMore : {R : Type 0} → (R → List (List ℕ)) → (R → Option (List Call)) → ChattyValue R → ChattyValue R → List ℕ → Type 0
LacksMore settings_of calls old new line =
    Lacks settings_of calls old.kit new.kit line ⊎ ((say : List (List ℕ)) × Utters (Spoke settings_of calls (λ _. untold)) old.kit new.kit line say)

-- ---- a child

-- what contracts see of a child: what it hears, its voice, the bytes that it holds, what it said, how much of that was read, and its end
pub record ChildValue (S V : Type 0) : Type 0 where
  pub source : S
  pub voice : V
  pub held : List ℕ
  pub said : Option (List ℕ)
  pub read : ℕ
  pub end : Option End

-- what was told stays, and more may follow
abbrev pub Grows : Option (List ℕ) → Option (List ℕ) → Type 0
Grows old new = (bytes : List ℕ) × Appends old new bytes

-- the same as before, or what became of it
abbrev pub Steps : {S : Type 0} → (S → S → Type 0) → S → S → Type 0
Steps stays old new = (new ≡ old) ⊎ stays old new

-- nothing was given and nothing taken
abbrev pub nothing_told : Bytes
nothing_told = record { given = Some []; taken = Some [] }

-- It is talked to; or it was, to its end.
abbrev pub StandsAt : {V : Type 0} → Spoken V → (V → Bool) → (V → List ℕ → Type 0) → (V → V → List ℕ → Type 0) → V → V → Bytes → List ℕ → Option End → Type 0
StandsAt spoke over foul lacks begun voice told held None = ((turns : ℕ) × Talking spoke begun nothing_told told voice held turns) × (over voice ≡ false)
StandsAt spoke over foul lacks begun voice told held (Some end) = Talked spoke over foul lacks begun nothing_told told voice end

-- It began with a voice that had heard nothing. What was heard of the source is what the voice heard, and what it said to that is what is read
-- of it. It ends with the source only once that is at its end.
pub record IsChild {S V : Type 0} (heard : S → List ℕ) (at_end : S → Bool) (spoke : Spoken V) (over : V → Bool) (foul : V → List ℕ → Type 0) (lacks : V → V → List ℕ → Type 0)
    (c : ChildValue S V) : Type 0 where
  pub begun : V
  pub begins : spoke begun begun [] []
  pub stands : StandsAt spoke over foul lacks begun c.voice (record { given = Some (heard c.source); taken = c.said }) c.held c.end
  pub within : IfSome c.said (λ said. c.read ≤ length said)
  pub ended : c.end ≡ Some Eof → at_end c.source ≡ true

-- what was read of it
abbrev pub read_of : {S V : Type 0} → ChildValue S V → Option (List ℕ)
read_of c = option_map (λ said. take c.read said) c.said

-- all that it said was read
abbrev pub IsReadOut : {S V : Type 0} → ChildValue S V → Type 0
IsReadOut c = IfSome c.said (λ said. c.read ≡ length said)
