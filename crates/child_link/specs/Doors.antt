-- What a step through a door does to the journal that the door has seen.
use Rattle.std.specs.Prelude.{ℕ, ◌≡◌, ◌⊎◌, Bool, true, false, List, [], ◌∷◌, ◌++◌, Result, MatchResult}
use Rattle.ann_key.specs.declared.bytes.NoMemory.{NoMemory}
use Rattle.journal_model.specs.declared.verdict.Why.{Why}
use Rattle.journal_model.specs.declared.verdict.Why.TheVariants.{Full}
use Rattle.journal_model.specs.declared.entry.What.{What}
use Rattle.journal_model.specs.declared.entry.What.TheVariants.{Sent, Mute, Got, End}
use Rattle.journal_model.specs.declared.entry.Entry.{Entry}
use Rattle.journal_model.specs.declared.opening.Opening.{Opening}
use Rattle.journal_model.specs.Legality.{Legal}
use Rattle.journal_model.specs.Due.{due_by, made_by}
use Rattle.journal_model.specs.Journal.{is_ended, is_mute, unsent}
use Rattle.host_core.specs.declared.event.Event.{Event}
use Rattle.host_core.specs.declared.event.Reply.{Reply}
use Rattle.host_core.specs.declared.event.Reply.TheVariants.{Wait}
use Rattle.host_core.specs.Steps.{step_of, told}
use Rattle.journal_model.specs.Shares.{are_others}

-- others have made entries, and where nobody else steps the core they have made none
pub record Passed (number : ℕ) (alone : Bool) (old new : List Entry) : Type 0 where
  pub others : List Entry
  pub is : new ≡ old ++ others
  pub apart : are_others number others ≡ true
  pub none : alone ≡ true → others ≡ []

-- after entries of others stands what the event appends there by this number, and the reply is the event's, of a core that is
-- shut or not
pub record Made (o : Opening) (number : ℕ) (alone : Bool) (old new : List Entry) (event : Event) (reply : Reply) : Type 0 where
  pub past : List Entry
  pub passed : Passed number alone old past
  pub legal : Legal o old → Legal o past
  pub shut : Bool
  pub reply_is : reply ≡ told past shut event (step_of o past number event).reply
  pub is : new ≡ past ++ (step_of o past number event).group

-- where no memory is found nothing is appended
abbrev pub Stepped : Opening → ℕ → Bool → List Entry → List Entry → Event → Result Reply NoMemory → Type 0
Stepped o number alone old new event result = MatchResult result (Made o number alone old new event) (λ _. Passed number alone old new)

-- after entries of others stand these, which may depend on what stands before, and at their place this was so
pub record Stands (o : Opening) (number : ℕ) (alone : Bool) (old new : List Entry) (ws : List Entry → List What) (Found : List Entry → Type 0) : Type 0 where
  pub past : List Entry
  pub passed : Passed number alone old past
  pub legal : Legal o old → Legal o past
  pub found : Found past
  pub is : new ≡ past ++ made_by number (ws past)

-- the entry stands there, with what it makes due
abbrev pub Appended : Opening → ℕ → Bool → List Entry → List Entry → What → (List Entry → Type 0) → Type 0
Appended o number alone old new w Found = Stands o number alone old new (λ past. w ∷ due_by o past w) Found

-- some event is answered by Wait where this is the journal, by a core that is shut or not: there is something to wait for
pub record Waits (o : Opening) (number : ℕ) (journal : List Entry) : Type 0 where
  pub event : Event
  pub shut : Bool
  pub reply_is : Wait ≡ told journal shut event (step_of o journal number event).reply

-- the child was ended so, or it had ended before
abbrev pub Ends : Opening → ℕ → Bool → List Entry → List Entry → ℕ → Why → Type 0
Ends o number alone old new c why =
    Appended o number alone old new (End c why) (λ past. is_ended past c ≡ false)
    ⊎ (Passed number alone old new × (is_ended new c ≡ true))

-- the next line was noted as written whole, or none was to be written
abbrev pub Sends : Opening → ℕ → Bool → List Entry → List Entry → ℕ → Type 0
Sends o number alone old new c =
    Appended o number alone old new (Sent c) (λ past. Unit {0})
    ⊎ (Passed number alone old new × (unsent new c ≡ []))

-- the child was noted as mute, or it was mute before
abbrev pub Mutes : Opening → ℕ → Bool → List Entry → List Entry → ℕ → Type 0
Mutes o number alone old new c =
    Appended o number alone old new (Mute c) (λ past. Unit {0})
    ⊎ (Passed number alone old new × (is_mute new c ≡ true))

-- the line was taken; or the child ended, or had ended before
abbrev pub Takes : Opening → ℕ → Bool → List Entry → List Entry → ℕ → List ℕ → Bool → Type 0
Takes o number alone old new c line true = Appended o number alone old new (Got c line) (λ past. is_ended past c ≡ false)
Takes o number alone old new c line false = Ends o number alone old new c Full

-- a door as one value: what the run began with, the number that its entries carry, the journal that it has seen, whether nobody else
-- steps the core, the names of what it borrows, and what it is a door of
pub record DoorView (H : Type 0) : Type 0 where
  pub opening : Opening
  pub number : ℕ
  pub seen : List Entry
  pub alone : Bool
  pub loans : List ℕ
  pub home : H

-- it is the same door, and the journal that it has seen is still legal
pub record IsSameDoor {H : Type 0} (old new : DoorView H) : Type 0 where
  pub opening : new.opening ≡ old.opening
  pub number : new.number ≡ old.number
  pub alone : new.alone ≡ old.alone
  pub loans : new.loans ≡ old.loans
  pub home : new.home ≡ old.home
  pub legal : Legal old.opening old.seen → Legal new.opening new.seen

-- what holds of a door between two calls, by what the run began with, its number, whether it is alone, and what it has seen before and after
abbrev pub Between : {H : Type 0} {A : Type 1} → (Opening → ℕ → Bool → List Entry → List Entry → A) → DoorView H → DoorView H → A
Between R old new = R old.opening old.number old.alone old.seen new.seen

-- the same for relations that don't ask what the run began with
abbrev pub During : {H : Type 0} {A : Type 1} → (ℕ → Bool → List Entry → List Entry → A) → DoorView H → DoorView H → A
During R old new = R old.number old.alone old.seen new.seen
