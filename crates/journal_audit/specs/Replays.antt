-- Words for the audit's code: the event for an entry, and a core that makes the journal again.
use Rattle.std.specs.Prelude.{ℕ, ◌≡◌, ◌⊎◌, ◌&&◌, Bool, true, false, List, [], ◌∷◌, ◌++◌, length, Option, Some, None}
use Rattle.annex_model.specs.Messages.{HostMessage, Export, host_reading, is_askable}
use Rattle.annex_model.specs.Talks.{has_lead}
use Rattle.host_talk.specs.declared.request.request.Request.{Request}
use Rattle.host_talk.specs.Request.Requests.{is_request, message_of, name_of}
use Rattle.journal_model.specs.declared.entry.What.{What}
use Rattle.journal_model.specs.declared.entry.What.TheVariants.{Lead, Ask}
use Rattle.journal_model.specs.declared.entry.Entry.{Entry}
use Rattle.journal_model.specs.declared.opening.Opening.{Opening}
use Rattle.journal_model.specs.Journal.{addressed}
use Rattle.journal_model.specs.Legality.{IsDue, IsGroup, is_in_turn, StandsFrom, MayStand, owed_after}
use Rattle.host_core.specs.CoreValue.{CoreValue}
use Rattle.host_core.specs.declared.event.Event.{Event}
use Rattle.host_core.specs.Steps.{step_of, group_of, next_job}

-- the request is the one of its turn, as the next job of c, and no name is said before it
pub record MayBeNext (past : List Entry) (c : ℕ) (r : Request) : Type 0 where
  pub turn : is_in_turn past c (next_job past c) (message_of r) ≡ true
  pub askable : is_askable (message_of r) ≡ true
  pub plain : name_of r ≡ None

-- the request asks what the line reads, with this name said before it; none does where no such request is read
abbrev pub AsksAfter : List ℕ → Option HostMessage → Option Request → Type 0
AsksAfter name reading None = (q : HostMessage) → reading ≡ Some q → (has_lead q && is_request q) ≡ false
AsksAfter name reading (Some r) = (reading ≡ Some (message_of r)) × (name_of r ≡ Some name)

-- the entry says a name
abbrev pub is_name : What → Bool
is_name (Lead child job line) = true
is_name w = false

-- the name that the message says
abbrev pub name_in : HostMessage → Option (List ℕ)
name_in (Export name) = Some name
name_in q = None

-- the line says this name to c
abbrev pub Says : List Entry → ℕ → List ℕ → List ℕ → Type 0
Says past c line name = host_reading (addressed past c line).1 ≡ Some (Export name)

-- what the event appends, if there is one
abbrev pub group_by : Opening → List Entry → ℕ → Option Event → List Entry
group_by o past by None = []
group_by o past by (Some event) = (step_of o past by event).group

-- if the entry may stand where nothing is due, the event appends it, with what it makes due; and it may not where there is no event
abbrev pub Suits : Opening → List Entry → ℕ → What → Option Event → Type 0
Suits o past by w None = MayStand o past [] (record { by = by; what = w }) → ⊥
Suits o past by w (Some event) = MayStand o past [] (record { by = by; what = w }) → (step_of o past by event).group ≡ group_of o past by w

-- if the name may stand there, the event appends it first
abbrev pub SaysName : Opening → List Entry → ℕ → ℕ → ℕ → List ℕ → Option Event → Type 0
SaysName o past by child job line event =
    MayStand o past [] (record { by = by; what = Lead child job line })
    → (rest : List Entry) × (group_by o past by event ≡ record { by = by; what = Lead child job line } ∷ rest)

-- what is due after a name
abbrev pub IsLedBy : Opening → List Entry → ℕ → ℕ → ℕ → List ℕ → Entry → Type 0
IsLedBy o past by child job line f =
    IsDue o (past ++ record { by = by; what = Lead child job line } ∷ []) (Ask child job 0 []) (record { by = by; what = Ask child job 0 [] }) f

-- If the name may stand, the event appends it first or nothing; and it appends the name and the next entry, if that is due then.
pub record Pairs (o : Opening) (past : List Entry) (by child job : ℕ) (line : List ℕ) (next : Option Entry) (event : Option Event) : Type 0 where
  pub first : MayStand o past [] (record { by = by; what = Lead child job line })
      → (group_by o past by event ≡ []) ⊎ ((rest : List Entry) × (group_by o past by event ≡ record { by = by; what = Lead child job line } ∷ rest))
  pub both : MayStand o past [] (record { by = by; what = Lead child job line }) → (f : Entry) → next ≡ Some f → IsLedBy o past by child job line f
      → group_by o past by event ≡ record { by = by; what = Lead child job line } ∷ f ∷ []

-- after the core's journal the event does so for each line that says this name to the child
abbrev pub PairsName : CoreValue → ℕ → List ℕ → Option Entry → Option Event → Type 0
PairsName core child name next event = (by job : ℕ) (line : List ℕ) → Says core.journal child line name → Pairs core.opening core.journal by child job line next event

-- if the name may stand, it doesn't lead the next entry
abbrev pub Unpaired : Opening → List Entry → ℕ → ℕ → ℕ → List ℕ → Option Entry → Type 0
Unpaired o past by child job line next =
    MayStand o past [] (record { by = by; what = Lead child job line }) → (f : Entry) → next ≡ Some f → IsLedBy o past by child job line f → ⊥

-- After past the core has made the entry first, if it may stand there, and the next one after it, if that is led by it; and has made
-- one group at most.
pub record IsTold (o : Opening) (past : List Entry) (e : Entry) (next : Option Entry) (made : List Entry) : Type 0 where
  pub comes : MayStand o past [] e → (rest : List Entry) × (made ≡ past ++ e ∷ rest)
  pub one : (made ≡ past) ⊎ ((group : List Entry) × IsGroup o past group × (made ≡ past ++ group))
  pub led : MayStand o past [] e → (child job : ℕ) → (line : List ℕ) → e.what ≡ Lead child job line → (f : Entry) → next ≡ Some f
      → IsLedBy o past e.by child job line f → made ≡ past ++ e ∷ f ∷ []

-- from the one value to the other the core was told the entry
abbrev pub WasTold : CoreValue → CoreValue → Entry → Option Entry → Type 0
WasTold old new e next = IsTold old.opening old.journal e next new.journal

-- it was told the name, as each line that says this name to the child
abbrev pub NameWasTold : CoreValue → CoreValue → ℕ → ℕ → List ℕ → Option Entry → Type 0
NameWasTold old new by child name next =
    (job : ℕ) (line : List ℕ) → Says old.journal child line name → WasTold old new (record { by = by; what = Lead child job line }) next

-- nothing was made, and no line that says this name to the child leads the next entry
abbrev pub NameWasUntold : CoreValue → CoreValue → ℕ → ℕ → List ℕ → Option Entry → Type 0
NameWasUntold old new by child name next =
    (new.journal ≡ old.journal) × ((job : ℕ) (line : List ℕ) → Says old.journal child line name → Unpaired old.opening old.journal by child job line next)

-- What the core has made after past: what is due there, where it is known; or one request of those that a name may lead, which is the
-- next entry if that is one.
abbrev pub Owes : Opening → List Entry → Option Entry → List Entry → List Entry → Type 0
Owes o past next [] rest = rest ≡ []
Owes o past next (d ∷ ds) rest =
    (x : Entry) × (rest ≡ x ∷ ds) × IsDue o past d.what d x × ((f : Entry) → next ≡ Some f → IsDue o past d.what d f → f ≡ x)

-- the core has made the entries of past, each of which may stand, and what is due after them
pub record IsReplayed (o : Opening) (past : List Entry) (next : Option Entry) (made : List Entry) : Type 0 where
  pub stands : StandsFrom o [] [] past
  pub rest : List Entry
  pub whole : made ≡ past ++ rest
  pub owes : Owes o past next (owed_after o past) rest

-- the entry may stand after past, and the core has made it too; or it may not
abbrev pub IsNext : Opening → List Entry → Entry → Option Entry → List Entry → Bool → Type 0
IsNext o past e next made true = IsReplayed o (past ++ e ∷ []) next made
IsNext o past e next made false = MayStand o past (owed_after o past) e → ⊥

-- the same of a core that had made so many entries again, from the one value to the other
abbrev pub StandsAt : CoreValue → CoreValue → ℕ → Entry → Option Entry → Bool → Type 0
StandsAt old new at e next stands =
    (past : List Entry) → length past ≡ at → IsReplayed old.opening past (Some e) old.journal → IsNext old.opening past e next new.journal stands
