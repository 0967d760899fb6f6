-- In which slots a run starts its children, and what spends a start of slot 0.
use Rattle.std.specs.Prelude.{ℕ, zero, suc, ◌≡◌, ◌≤◌, ◌<◌, ◌+◌, ◌==◌, ◌&&◌, ◌||◌, not, if◌then◌else◌, min, nat_le, Bool, true, false, List, [], ◌∷◌, ◌++◌, length, Option, Some, None, option_and_then, unwrap_or}
use Rattle.std.specs.List.{last_or, list_any}
use Rattle.journal_model.specs.declared.entry.What.{What}
use Rattle.journal_model.specs.declared.entry.What.TheVariants.{Claim, Start, NoStart, Lead, Ask, Put, Sent, Mute, Got, End, Verdict as Settled, Lost, Answer as Answered, Note, Again}
use Rattle.journal_model.specs.declared.entry.Entry.{Entry}
use Rattle.journal_model.specs.declared.opening.Opening.{Opening}
use Rattle.journal_model.specs.Journal.{each_of, is_mute, why_of}
use Rattle.journal_model.specs.Legality.{count, is_prepared}
use Rattle.host_core.specs.Steps.{unclaimed}
use Rattle.run_starts.specs.Starting.{AllOffer, children, is_ready_untagged, is_spent, is_unclosed, up_to}
use Rattle.run_starts.specs.Rounds.{AllStandNext, NoneUntaken}

-- ---- starts

-- the slot of a start, whether it gave a child or not
abbrev pub slot_of : What → Option ℕ
slot_of (Start child slot offer) = Some slot
slot_of (NoStart slot) = Some slot
slot_of w = None

-- the slot of the last start
abbrev pub last_slot : List Entry → ℕ
last_slot past = unwrap_or (last_or None (each_of slot_of past)) 0

-- a start, or a claim
abbrev pub begins_by_start : What → Option Bool
begins_by_start (Start child slot offer) = Some true
begins_by_start (NoStart slot) = Some true
begins_by_start (Claim task child) = Some false
begins_by_start w = None

-- no task was claimed since the last start
abbrev pub is_unclaimed_since : List Entry → Bool
is_unclaimed_since past = unwrap_or (last_or None (each_of begins_by_start past)) false

-- the child that a start of slot 0 gave, or none
abbrev pub first_in : What → Option (Option ℕ)
first_in (Start child slot offer) = if slot == 0 then Some (Some child) else None
first_in (NoStart slot) = if slot == 0 then Some None else None
first_in w = None

abbrev pub is_ready_pool : List Entry → Option ℕ → Bool
is_ready_pool past (Some child) = is_ready_untagged past child
is_ready_pool past None = false

-- the last start of slot 0 gave a child that is ready and takes no tags: so a pool serves
abbrev pub has_pool : List Entry → Bool
has_pool past = is_ready_pool past (option_and_then (λ child. child) (last_or None (each_of first_in past)))

-- A start in another slot than 0 is of a pool, in the slot after the last start's; that slot is one of the run's, there is a task for
-- it, and none was claimed since the last start.
pub record IsNextSlot (o : Opening) (jobs : ℕ) (past : List Entry) (before : ℕ) : Type 0 where
  pub pool : has_pool past ≡ true
  pub next : last_slot past ≡ before
  pub unclaimed_since : is_unclaimed_since past ≡ true
  pub there : before + 1 < jobs
  pub needed : before + 1 < length (unclaimed o past)

abbrev pub IsInSlot : Opening → ℕ → List Entry → ℕ → Type 0
IsInSlot o jobs past zero = Unit {0}
IsInSlot o jobs past (suc before) = IsNextSlot o jobs past before

-- where a pool serves, each slot of the run's had its start, as far as there are tasks
abbrev pub IsManned : Opening → ℕ → List Entry → Type 0
IsManned o jobs past = has_pool past ≡ true → min jobs (length (unclaimed o past)) ≤ last_slot past + 1

-- a start stands in its slot, and a task is claimed where the pool is whole
abbrev pub StandsInTurn : Opening → ℕ → List Entry → What → Type 0
StandsInTurn o jobs past (Start child slot offer) = IsInSlot o jobs past slot
StandsInTurn o jobs past (NoStart slot) = IsInSlot o jobs past slot
StandsInTurn o jobs past (Claim task child) = IsManned o jobs past
StandsInTurn o jobs past w = Unit {0}

-- so do all of the entries, which stand after past
abbrev pub AllInTurn : Opening → ℕ → List Entry → List Entry → Type 0
AllInTurn o jobs past [] = Unit {0}
AllInTurn o jobs past (e ∷ rest) = StandsInTurn o jobs past e.what × AllInTurn o jobs (past ++ e ∷ []) rest

-- a start in slot 0
abbrev pub is_first_start : What → Bool
is_first_start (Start child slot offer) = slot == 0
is_first_start (NoStart slot) = slot == 0
is_first_start w = false

-- Starts and claims stand in their slots and their turn, with at most so many starts in slot 0, and each offers ASYNC exactly where it is
-- to. None is left for a task to take up.
pub record AreStarts (o : Opening) (may : Bool) (limit jobs : ℕ) (journal : List Entry) : Type 0 where
  pub turn : AllInTurn o jobs [] journal
  pub next : AllStandNext o [] journal
  pub few : count is_first_start journal ≤ limit
  pub offers : AllOffer may [] journal
  pub taken : NoneUntaken journal

-- ---- what a pool's children and workers make

-- of no child before this one, and no start in slot 0
abbrev pub in_pool : ℕ → What → Bool
in_pool first (Claim task child) = true
in_pool first (Start child slot offer) = nat_le first child && not (slot == 0)
in_pool first (NoStart slot) = not (slot == 0)
in_pool first (Lead child job line) = nat_le first child
in_pool first (Ask child job task line) = nat_le first child
in_pool first (Put child job line) = nat_le first child
in_pool first (Sent child) = nat_le first child
in_pool first (Mute child) = nat_le first child
in_pool first (Got child line) = nat_le first child
in_pool first (End child why) = nat_le first child
in_pool first (Settled child job verdict) = nat_le first child
in_pool first (Lost child task) = nat_le first child
in_pool first (Answered task answer) = true
in_pool first (Note task chunk count) = true
in_pool first (Again task answer) = true

-- a start that offers ASYNC
abbrev pub offers_tags : What → Bool
offers_tags (Start child slot offer) = offer
offers_tags w = false

-- ---- what spends a start of slot 0

-- the child was ready, and is mute or ended without being closed
abbrev pub is_lost : List Entry → ℕ → Bool
is_lost past c = is_prepared past c && (is_mute past c || is_unclosed (why_of past c))

-- the child is spent, or one of the others is lost
abbrev pub is_pool_spent : List Entry → ℕ → List ℕ → Bool
is_pool_spent past child others = is_spent past child || list_any (is_lost past) others

-- Of a start, the last of these entries, and of what stands after it up to the next start of slot 0: it is in another slot; or it gave
-- no child; or its child refused to get ready, is mute, or ended and was not closed; or one of its pool is lost.
abbrev pub spends : List Entry → What → List Entry → Bool
spends here (Start child slot offer) rest = not (slot == 0) || is_pool_spent (here ++ up_to is_first_start rest) child (children (up_to is_first_start rest))
spends here w rest = true

-- so it is with each start of the entries, which stand after past
abbrev pub are_spent : List Entry → List Entry → Bool
are_spent past [] = true
are_spent past (e ∷ rest) = spends (past ++ e ∷ []) e.what rest && are_spent (past ++ e ∷ []) rest

abbrev pub AreSpent : List Entry → Type 0
AreSpent journal = are_spent [] journal ≡ true
