-- Which keys a task asks for, and in which order.
use Rattle.std.specs.Prelude.{ℕ, ◌≡◌, ◌+◌, if◌then◌else◌, true, List, [], ◌∷◌, length, Option, Some, None}
use Rattle.std.specs.List.{onto_first}
use Rattle.annex_model.specs.Messages.{HostMessage, Transfer, Checkpresent, Remove, Transferexport, Checkpresentexport, Removeexport, Renameexport}
use Rattle.ann_key.specs.Keys.{Parts, key_reading}
use Rattle.task_model.specs.Askers.{Asking, is_gone}
use Rattle.task_model.specs.Stops.{is_done}

-- the key that a request names
abbrev pub key_named : HostMessage → List ℕ
key_named (Transfer store key file) = key
key_named (Checkpresent key) = key
key_named (Remove key) = key
key_named (Transferexport store key file) = key
key_named (Checkpresentexport key) = key
key_named (Removeexport key) = key
key_named (Renameexport key onto) = key
key_named _ = []

-- The asking, which is request n of its task, asks for the key. The request may be left out only where its child was gone.
abbrev pub AsksFor : (ℕ → List ℕ → HostMessage) → ℕ → Parts → Asking → Type 0
AsksFor ask n key a = of_request a.request
  where
    of_request : Option HostMessage → Type 0
    of_request (Some q) = (q ≡ ask n (key_named q)) × (key_reading (key_named q) ≡ Some key)
    of_request None = is_gone a.verdict ≡ true

-- The askings ask for the keys in their order, from the first on, and for none after the last. The first of them is request n.
abbrev pub AskInOrder : (ℕ → List ℕ → HostMessage) → ℕ → List Parts → List Asking → Type 0
AskInOrder ask n keys [] = Unit {0}
AskInOrder ask n [] (a ∷ more) = ⊥
AskInOrder ask n (key ∷ keys) (a ∷ more) = AsksFor ask n key a × AskInOrder ask (n + 1) keys more

-- the askings in rounds, each of which ends with the first that isn't done
abbrev pub rounds : List Asking → List (List Asking)
rounds [] = []
rounds (a ∷ more) = if is_done a then onto_first a (rounds more) else (a ∷ []) ∷ rounds more

-- each round asks for the keys of one layout in their order, and the next round for those of the next layout
abbrev pub RoundsAsk : (ℕ → List ℕ → HostMessage) → ℕ → List (List Parts) → List (List Asking) → Type 0
RoundsAsk ask n layouts [] = Unit {0}
RoundsAsk ask n [] (round ∷ more) = ⊥
RoundsAsk ask n (keys ∷ layouts) (round ∷ more) = AskInOrder ask n keys round × RoundsAsk ask (n + length round) layouts more
