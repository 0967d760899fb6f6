-- What a message is to a talk.
use Rattle.std.specs.Prelude.{ℕ, ◌≡◌, ◌↔◌, ◌⊎◌, ◌&&◌, Bool, true, false, if◌then◌else◌, List, [], ◌∷◌, ◌++◌, Option, Some, IsSome, IsTrue, map}
use Rattle.annex_model.specs.declared.final_line.Final.{Final}
use Rattle.annex_model.specs.Messages.{RemoteMessage, HostMessage, remote_reading}
use Rattle.annex_model.specs.Talks.{Item, Host, Remote, Conv, Talking, is_aside, is_infofield, is_nothing, final_of, awaits, said}
use Rattle.annex_model.specs.Hearings.{Hearing, Aside, Part, Settles, Strange, hearing_of}
use Rattle.host_talk.specs.declared.request.talk.Heard.{Heard}
use Rattle.host_talk.specs.declared.request.talk.Heard.TheVariants.{Aside as HeardAside, Part as HeardPart, Settled, Foul}
use Rattle.host_talk.specs.Request.Talked.{Talked, is_over, is_waiting, is_half}
use Rattle.host_talk.specs.Request.Requests.{message_of}

abbrev pub heard_as : Hearing → Heard
heard_as Aside = HeardAside
heard_as Part = HeardPart
heard_as (Settles f) = Settled f
heard_as Strange = Foul

-- what the message is to the request, after these that were no asides
abbrev pub heard : HostMessage → List (Option RemoteMessage) → RemoteMessage → Heard
heard q ms m = if is_aside m then HeardAside else heard_as (hearing_of (Some q) (ms ++ Some m ∷ []))

-- the message is one more line of the answer
abbrev pub is_taken : Heard → Bool
is_taken HeardAside = false
is_taken HeardPart = true
is_taken (Settled f) = true
is_taken Foul = false

abbrev pub is_settled : Heard → Bool
is_settled (Settled f) = true
is_settled _ = false

-- the last of these is a field
abbrev pub ends_in_field : List (Option RemoteMessage) → Bool
ends_in_field [] = false
ends_in_field (m ∷ []) = is_infofield m
ends_in_field (m ∷ ms) = ends_in_field ms

-- These are what was said in the talk, asides left out: the whole answer where it is over, and else the beginning of one, of
-- which the talk knows whether anything was said and whether a field awaits its value.
pub record Follows (t : Talked) (ms : List (Option RemoteMessage)) : Type 0 where
  pub whole : is_over t ≡ true → IsSome (final_of (message_of t.request) ms)
  pub waits : is_over t ≡ false → IsTrue (awaits (message_of t.request) ms)
  pub begun : is_over t ≡ false → is_waiting t.stage ≡ is_nothing ms
  pub half : is_over t ≡ false → is_half t.stage ≡ ends_in_field ms

-- ---- laws

-- the item of the remote's line at a place
abbrev pub from_remote : ℕ → List ℕ → Item
from_remote at text = record { side = Remote; at = at; text = text }

-- and of the host's
abbrev pub from_host : ℕ × List ℕ → Item
from_host line = record { side = Host; at = line.0; text = line.1 }

-- after a part that talks so far, a line whose message settles the talk makes a conversation of it with that final, and no other does
abbrev pub SettledMakesConv : Type 0
SettledMakesConv =
    (replies : ℕ → List (List ℕ)) (q : HostMessage) (part : List Item) (at : ℕ) (text : List ℕ) (m : RemoteMessage) (f : Final)
    → Talking replies q part → remote_reading text ≡ Some m → is_aside m ≡ false
    → (heard q (said part) m ≡ Settled f)
    ↔ (Conv replies q (part ++ from_remote at text ∷ []) × (final_of q (said (part ++ from_remote at text ∷ [])) ≡ Some f))

-- a line whose message is foul makes neither a conversation nor one so far
abbrev pub FoulCannotFollow : Type 0
FoulCannotFollow =
    (replies : ℕ → List (List ℕ)) (q : HostMessage) (part : List Item) (at : ℕ) (text : List ℕ) (m : RemoteMessage)
    → Talking replies q part → remote_reading text ≡ Some m → is_aside m ≡ false
    → (heard q (said part) m ≡ Foul)
    ↔ ((Conv replies q (part ++ from_remote at text ∷ []) → ⊥) × (Talking replies q (part ++ from_remote at text ∷ []) → ⊥))

-- a line whose message is a part goes on, and makes no conversation
abbrev pub PartTalksOn : Type 0
PartTalksOn =
    (replies : ℕ → List (List ℕ)) (q : HostMessage) (part : List Item) (at : ℕ) (text : List ℕ) (m : RemoteMessage)
    → Talking replies q part → remote_reading text ≡ Some m → is_aside m ≡ false
    → (heard q (said part) m ≡ HeardPart)
    ↔ ((Conv replies q (part ++ from_remote at text ∷ []) → ⊥) × Talking replies q (part ++ from_remote at text ∷ []))

-- an aside with exactly the replies that it is owed, wherever they stand, goes on
abbrev pub AsideTalksOn : Type 0
AsideTalksOn =
    (replies : ℕ → List (List ℕ)) (q : HostMessage) (part : List Item) (at : ℕ) (text : List ℕ) (m : RemoteMessage) (lines : List (ℕ × List ℕ))
    → Talking replies q part → remote_reading text ≡ Some m → heard q (said part) m ≡ HeardAside
    → map (λ (line : ℕ × List ℕ). line.1) lines ≡ replies at
    → Talking replies q (part ++ from_remote at text ∷ map from_host lines)

-- each of the messages is taken as one more line, after those before it
abbrev pub are_taken : HostMessage → List (Option RemoteMessage) → List RemoteMessage → Bool
are_taken q ms [] = true
are_taken q ms (m ∷ more) = is_taken (heard q ms m) && are_taken q (ms ++ Some m ∷ []) more

-- messages that are taken one by one are an answer so far or a whole one
abbrev pub TakenAnswers : Type 0
TakenAnswers =
    (q : HostMessage) (ms : List RemoteMessage) → IsTrue (are_taken q [] ms)
    → IsTrue (awaits q (map Some ms)) ⊎ IsSome (final_of q (map Some ms))
