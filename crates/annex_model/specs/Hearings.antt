-- What a message is to a conversation.
use Rattle.std.specs.Prelude.{Bool, true, false, if◌then◌else◌, List, [], ◌∷◌, ◌++◌, Option, Some, None}
use Rattle.annex_model.specs.declared.final_line.Final.{Final}
use Rattle.annex_model.specs.Messages.{RemoteMessage, HostMessage, Export, host_reading}
use Rattle.annex_model.specs.Talks.{Item, is_aside, final_of, awaits, said}

-- what is asked by a line and, where that only says a name, by the next
abbrev pub asked_by : Option HostMessage → List Item → Option HostMessage
asked_by (Some (Export name)) [] = None
asked_by (Some (Export name)) (i ∷ rest) = host_reading i.text
asked_by q rest = q

-- the request that a part begins with
abbrev pub request_in : List Item → Option HostMessage
request_in [] = None
request_in (i ∷ rest) = asked_by (host_reading i.text) rest

pub data Hearing : Type 0 where
  Aside : Hearing
  Part : Hearing
  Settles : Final → Hearing
  Strange : Hearing

abbrev pub by_answer : Option Final → Bool → Hearing
by_answer (Some f) waits = Settles f
by_answer None true = Part
by_answer None false = Strange

-- after what the remote said, the message ends the answer, is a part of it, or can't follow
abbrev pub hearing_of : Option HostMessage → List (Option RemoteMessage) → Hearing
hearing_of None ms = Strange
hearing_of (Some q) ms = by_answer (final_of q ms) (awaits q ms)

abbrev pub hearing : List Item → RemoteMessage → Hearing
hearing part m = if is_aside m then Aside else hearing_of (request_in part) (said part ++ Some m ∷ [])
