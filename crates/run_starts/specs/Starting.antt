-- Which starts a run makes, when it offers ASYNC, and what spends a start.
use Rattle.std.specs.Prelude.{ℕ, ◌≡◌, ◌&&◌, ◌||◌, not, if◌then◌else◌, Bool, true, false, List, [], ◌∷◌, ◌++◌, Option, Some, None, is_some}
use Rattle.std.specs.List.{list_all, list_any}
use Rattle.journal_model.specs.declared.verdict.Why.{Why}
use Rattle.journal_model.specs.declared.verdict.Why.TheVariants.{Closed}
use Rattle.journal_model.specs.declared.entry.What.{What}
use Rattle.journal_model.specs.declared.entry.What.TheVariants.{Start, NoStart}
use Rattle.journal_model.specs.declared.entry.Entry.{Entry}
use Rattle.journal_model.specs.Journal.{each_of, is_ended, is_mute, is_tagged, why_of}
use Rattle.journal_model.specs.Legality.{is_prepared}
use Rattle.task_model.specs.TaskRuns.{refusal_of}

-- ---- starts

-- a start, whether it gave a child or not
abbrev pub is_any_start : What → Bool
is_any_start (Start child slot offer) = true
is_any_start (NoStart slot) = true
is_any_start w = false

-- the child that a start gave
abbrev pub started_in : What → Option ℕ
started_in (Start child slot offer) = Some child
started_in w = None

-- the children of a journal, in order
abbrev pub children : List Entry → List ℕ
children journal = each_of started_in journal

-- ---- ASYNC

-- the child is prepared, and was not tagged
abbrev pub is_ready_untagged : List Entry → ℕ → Bool
is_ready_untagged past c = is_prepared past c && not (is_tagged past c)

-- ASYNC is offered until a child was ready untagged
abbrev pub is_offered : List Entry → Bool
is_offered past = not (list_any (is_ready_untagged past) (children past))

-- a start after past offers ASYNC exactly then, in a run that offers it at all
abbrev pub OffersWell : Bool → List Entry → What → Type 0
OffersWell may past (Start child slot offer) = offer ≡ (may && is_offered past)
OffersWell may past w = Unit {0}

-- so does each start of the entries, which stand after past
abbrev pub AllOffer : Bool → List Entry → List Entry → Type 0
AllOffer may past [] = Unit {0}
AllOffer may past (e ∷ rest) = OffersWell may past e.what × AllOffer may (past ++ e ∷ []) rest

-- ---- what spends a start

-- an end that the host didn't make by closing
abbrev pub is_unclosed : Option Why → Bool
is_unclosed None = false
is_unclosed (Some Closed) = false
is_unclosed (Some why) = true

-- the child refused to get ready, is mute, or ended and was not closed
abbrev pub is_spent : List Entry → ℕ → Bool
is_spent past c = is_some (refusal_of past c) || (is_mute past c || is_unclosed (why_of past c))

-- the entries before the first of this kind
abbrev pub up_to : (What → Bool) → List Entry → List Entry
up_to is [] = []
up_to is (e ∷ rest) = if is e.what then [] else e ∷ up_to is rest

-- each child has ended
abbrev pub AreEnded : List Entry → Type 0
AreEnded journal = list_all (is_ended journal) (children journal) ≡ true
