-- How long a journal may grow without another Start, NoStart, Lead, Ask, Put, Got, Lost or Note.
use Rattle.std.specs.Prelude.{ℕ, ◌+◌, ◌-◌, ◌*◌, Bool, true, false, List, length}
use Rattle.std.specs.List.{sum_by}
use Rattle.journal_model.specs.declared.entry.What.{What}
use Rattle.journal_model.specs.declared.entry.What.TheVariants.{Claim, Start, NoStart, Lead, Ask, Put, Got, Lost, Note}
use Rattle.journal_model.specs.declared.entry.Entry.{Entry}
use Rattle.journal_model.specs.declared.opening.Opening.{Opening}
use Rattle.journal_model.specs.Legality.{count}

-- the entry itself, and those that can come of it: a child's end and mute, a name's Sent, a request's Sent and verdict, a reply's Sent.
-- An entry that comes of another is counted there and not again
abbrev pub room_for : What → ℕ
room_for (Start child slot offer) = 3
room_for (Lead child job line) = 2
room_for (Ask child job task line) = 3
room_for (Put child job line) = 2
room_for (Got child line) = 1
room_for (NoStart slot) = 1
room_for (Lost child task) = 1
room_for (Note task chunk count) = 1
room_for _ = 0

abbrev pub room_for_all : List Entry → ℕ
room_for_all entries = sum_by (λ e. room_for e.what) entries

-- a claim of each task, with its answer or Again, as often as it may be run, and what the entries so far take
abbrev pub room_of : Opening → List Entry → ℕ
room_of o journal = 2 * ((1 + o.again) * length o.tasks) + room_for_all journal

abbrev pub is_claim : What → Bool
is_claim (Claim task child) = true
is_claim w = false

-- how often tasks may still be claimed
abbrev pub claims_left : Opening → List Entry → ℕ
claims_left o journal = (1 + o.again) * length o.tasks - count is_claim journal

abbrev pub is_ask : What → Bool
is_ask (Ask child job task line) = true
is_ask w = false

abbrev pub is_put : What → Bool
is_put (Put child job line) = true
is_put w = false
