-- What a front of a conversation is, and what can't follow it.
use Rattle.std.specs.Prelude.{ℕ, ◌≡◌, ◌↔◌, ◌⊎◌, false, List, ◌∷◌, ◌++◌, Some, IsTrue}
use Rattle.annex_model.specs.Messages.{RemoteMessage, HostMessage, IsAskable, remote_reading}
use Rattle.annex_model.specs.Talks.{Item, Remote, Conv, ConvFront, Talking, is_aside, awaits, said}
use Rattle.annex_model.specs.Hearings.{Strange, hearing}

-- what talks so far goes on to a conversation
abbrev pub TalksAreFronts : Type 0
TalksAreFronts =
    (replies : ℕ → List (List ℕ)) (q : HostMessage) (part : List Item) → Talking replies q part → ConvFront replies q part

-- a front of a conversation is one that talks so far, or a whole one
abbrev pub FrontsTalk : Type 0
FrontsTalk =
    (replies : ℕ → List (List ℕ)) (q : HostMessage) (part : List Item) → ConvFront replies q part
    → Talking replies q part ⊎ Conv replies q part

-- no lines after the remote's line at this place make a conversation of the part with it
abbrev pub CannotFollow : (ℕ → List (List ℕ)) → HostMessage → List Item → ℕ → List ℕ → Type 0
CannotFollow replies q part at text =
    (more : List Item) → Conv replies q (part ++ record { side = Remote; at = at; text = text } ∷ more) → ⊥

-- After a front that awaits a line, a message that is no aside is foul exactly where it can't follow.
abbrev pub FoulCannotFollow : Type 0
FoulCannotFollow =
    (replies : ℕ → List (List ℕ)) (q : HostMessage) (part : List Item) (at : ℕ) (text : List ℕ) (m : RemoteMessage)
    → IsAskable q → ConvFront replies q part → IsTrue (awaits q (said part)) → remote_reading text ≡ Some m → is_aside m ≡ false
    → (hearing part m ≡ Strange) ↔ CannotFollow replies q part at text
