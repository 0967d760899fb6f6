-- What the clauses of a round's roles give, when the hall is closed.
use Rattle.std.specs.Prelude.{ℕ, ◌≡◌, Bool, ◌≢◌, ◌+◌, ◌<◌, ◌==◌, true, false, List, [], ◌∷◌, ◌++◌, Some, All, map, slice_get}
use Rattle.std.specs.List.{list_any}
use Rattle.threads.specs.Passes.{HallValue, IsPassOf, seen_of, HasClosed, HasEntered}
use Rattle.journal_model.specs.declared.verdict.Why.TheVariants.{Closed}
use Rattle.journal_model.specs.declared.answer.Answer.{Answer}
use Rattle.journal_model.specs.declared.entry.What.{What}
use Rattle.journal_model.specs.declared.entry.Entry.{Entry}
use Rattle.journal_model.specs.declared.opening.Opening.{Opening}
use Rattle.journal_model.specs.Journal.{is_tagged, is_started, why_of}
use Rattle.journal_model.specs.Wires.{is_heard_in_turn}
use Rattle.journal_model.specs.Legality.{Legal, has_open_job}
use Rattle.journal_model.specs.Shares.{are_others, Moved, by_ear, by_mouth, is_heard, is_said}
use Rattle.journal_model.specs.Halves.{EarValue, MouthValue, EarWired, MouthWired}
use Rattle.journal_model.specs.Makers.{made_by_number}
use Rattle.host_core.specs.declared.event.Event.{Event}
use Rattle.host_core.specs.declared.event.Event.TheVariants.{Claim as ClaimEvent, Answer as AnswerEvent}
use Rattle.host_core.specs.declared.event.Reply.{Reply}
use Rattle.host_core.specs.declared.event.Reply.TheVariants.{Done}
use Rattle.host_core.specs.Mays.{MayStep, IsMadeBy}
use Rattle.task_model.specs.Askings.{closing}
use Rattle.ann_key.specs.Pairs.{Pairwise}
use Rattle.crew_work.specs.Laws.Workers.{Free, Busy, Entered, ClaimGives}
use Rattle.crew_work.specs.Laws.Posts.{Post, Ear, Mouth, makes, works, tagged_crew, pool_crew, alone_crew}
use Rattle.crew_work.specs.Laws.Tasks.{IsThrough, IsThroughAfterAgain, turns_by}
use Rattle.crew_work.specs.Laws.Rounds.{CorePass, LinkValue, IsWired, since, KeepsPost, EarEnds, MouthEnds, WorkerEnds, LoneEnds, IsAtRest, Rounded, Round}

-- the hall of a core is closed: its passes come back, and the history and the opening are these
abbrev pub Over : HallValue Entry Opening → List CorePass → List Entry → Opening → Type 0
Over h passes final fixed = HasClosed IsMadeBy MayStep h passes final fixed × All (IsPassOf h) passes

-- the final journal is the start and a rest of which P holds
abbrev pub GoesOn : List Entry → List Entry → (List Entry → Type 0) → Type 0
GoesOn start final P = (rest : List Entry) × (final ≡ start ++ rest) × P rest

abbrev pub numbers_of : List CorePass → List ℕ
numbers_of passes = map (λ p. p.number) passes

-- ---- what a pass has seen of its own

-- What a pass made in the round, in its order, is what it has seen of its own, and so are the turns that it took. That a run which it
-- has seen stays as it is, whatever comes later, is a law of runs.
abbrev pub OwnStays : Type 0
OwnStays =
    (crew : ℕ → Post) (h : HallValue Entry Opening) (passes : List CorePass) (final : List Entry) (fixed : Opening)
    → Over h passes final fixed → All (KeepsPost crew) passes → Legal h.fixed h.start
    → (i : ℕ) (p : CorePass) → slice_get passes i ≡ Some p
    → GoesOn h.start final (λ rest. (made_by_number p.number rest ≡ made_by_number p.number (since p))
    × (turns_by p.number h.start rest ≡ turns_by p.number h.start (since p)))

-- ---- rounds

abbrev pub AnyRound : Type 0
AnyRound =
    (crew : ℕ → Post) (h : HallValue Entry Opening) (passes : List CorePass) (final : List Entry) (fixed : Opening)
    → Over h passes final fixed → All (KeepsPost crew) passes → Legal h.fixed h.start → IsAtRest h.start
    → GoesOn h.start final (λ rest. Rounded h.fixed crew (numbers_of passes) h.start rest)

-- where a round over one tagged child may begin: it is not closed, and its lines were fed in their turn
pub record MayBeginTagged (start : List Entry) (child : ℕ) : Type 0 where
  pub started : is_started start child ≡ true
  pub tagged : is_tagged start child ≡ true
  pub turn : is_heard_in_turn start child ≡ true
  pub unclosed : why_of start child ≡ Some Closed → ⊥

-- over one tagged child: an ear, a mouth and workers. One of the passes is through: a worker that has nothing more to do, or
-- the main thread's, that ended the child where the round couldn't go on
abbrev pub TaggedRound : (ℕ → ℕ → ℕ → List Entry → Type 0) → Type 0
TaggedRound means =
    (h : HallValue Entry Opening) (final : List Entry) (fixed : Opening) (l : LinkValue) (main ear mouth : CorePass) (workers : List CorePass)
    → Over h (main ∷ ear ∷ mouth ∷ workers) final fixed
    → Legal h.fixed h.start → IsAtRest h.start → MayBeginTagged h.start l.ear.child → l.mouth.child ≡ l.ear.child
    → main.number ≡ 1 → ear.number ≡ 2 → mouth.number ≡ 3
    → KeepsPost (tagged_crew l.ear.child) main → EarEnds (tagged_crew l.ear.child) l.ear ear → MouthEnds (tagged_crew l.ear.child) l.mouth mouth
    → All (WorkerEnds h.fixed means (tagged_crew l.ear.child) l.ear.child) workers
    → (i : ℕ) (p : CorePass) → slice_get (main ∷ ear ∷ mouth ∷ workers) i ≡ Some p → IsThrough h.fixed (seen_of p) l.ear.child
    → GoesOn h.start final (λ rest. Round h.fixed means (tagged_crew l.ear.child) (numbers_of (main ∷ ear ∷ mouth ∷ workers)) h.start rest (l ∷ []))

abbrev pub children_of : List LinkValue → List ℕ
children_of links = map (λ l. l.ear.child) links

-- no child stands twice
abbrev pub Distinct : List ℕ → Type 0
Distinct children = (i j c : ℕ) → slice_get children i ≡ Some c → slice_get children j ≡ Some c → i ≡ j

-- over a pool of children that differ: each has its own worker, at the place of its link, and one of them is through
abbrev pub PoolRound : (ℕ → ℕ → ℕ → List Entry → Type 0) → Type 0
PoolRound means =
    (h : HallValue Entry Opening) (final : List Entry) (fixed : Opening) (main : CorePass) (links : List LinkValue) (workers : List CorePass)
    → Over h (main ∷ workers) final fixed
    → Legal h.fixed h.start → IsAtRest h.start → Distinct (children_of links)
    → main.number ≡ 1 → ((i : ℕ) (p : CorePass) → slice_get workers i ≡ Some p → p.number ≡ i + 2)
    → KeepsPost (pool_crew (children_of links)) main → Pairwise (LoneEnds h.fixed means (pool_crew (children_of links))) links workers
    → (p : CorePass) → (i : ℕ) → slice_get workers i ≡ Some p
    → (l : LinkValue) → slice_get links i ≡ Some l → (why_of h.start l.ear.child ≡ Some Closed → ⊥) → IsThrough h.fixed (seen_of p) l.ear.child
    → GoesOn h.start final (λ rest. Round h.fixed means (pool_crew (children_of links)) (numbers_of (main ∷ workers)) h.start rest links)

-- by the main thread alone, where the other passes made nothing
abbrev pub AloneRound : (ℕ → ℕ → ℕ → List Entry → Type 0) → Type 0
AloneRound means =
    (h : HallValue Entry Opening) (final : List Entry) (fixed : Opening) (l : LinkValue) (main : CorePass) (others : List CorePass)
    → Over h (main ∷ others) final fixed
    → Legal h.fixed h.start → IsAtRest h.start → (why_of h.start l.ear.child ≡ Some Closed → ⊥)
    → main.number ≡ 1 → LoneEnds h.fixed means (alone_crew l.ear.child) l main
    → All (KeepsPost (alone_crew l.ear.child)) others → All (λ p. p.number ≢ 1) others
    → IsThrough h.fixed (seen_of main) l.ear.child
    → GoesOn h.start final (λ rest. Round h.fixed means (alone_crew l.ear.child) (numbers_of (main ∷ others)) h.start rest (l ∷ []))

-- ---- rounds in a row

-- what was done before a round stays: the links to other children
abbrev pub EarlierStays : (ℕ → ℕ → ℕ → List Entry → Type 0) → Type 0
EarlierStays means =
    (o : Opening) (crew : ℕ → Post) (numbers : List ℕ) (start rest : List Entry) (links : List LinkValue) → Round o means crew numbers start rest links
    → (l : LinkValue) → list_any (λ m. m.ear.child == l.ear.child) links ≡ false → IsWired start l → IsWired (start ++ rest) l

-- ---- a worker

-- what an entry of a pass gives it
abbrev pub EntersSo : Type 0
EntersSo =
    (h : HallValue Entry Opening) (before after : CorePass) (event : Event) (reply : Reply)
    → HasEntered IsMadeBy MayStep h before after event reply → Entered h.fixed before.number (seen_of before) (seen_of after) event reply

-- by a claim for its child a free worker has begun a task, or is free still
abbrev pub ClaimsGo : (ℕ → ℕ → ℕ → List Entry → Type 0) → Type 0
ClaimsGo means =
    (o : Opening) (n c : ℕ) (start more new : List Entry) (reply : Reply) → 0 < n → Entered o n (start ++ more) new (ClaimEvent c) reply
    → Free o means n c start more → GoesOn start new (λ now. ClaimGives o means n c start now reply)

-- others may make entries, and a worker in its task is in it still
abbrev pub OthersGo : (ℕ → ℕ → ℕ → List Entry → Type 0) → Type 0
OthersGo means =
    (o : Opening) (n c t k : ℕ) (start more others : List Entry) → Legal o ((start ++ more) ++ others) → are_others n others ≡ true
    → Busy o means n c t k start more → Busy o means n c t k start (more ++ others)

-- A worker that answers its task with no job open is free again, where the turn was run so: the task is answered, or is to be run
-- again.
abbrev pub AnswersGo : (ℕ → ℕ → ℕ → List Entry → Type 0) → Type 0
AnswersGo means =
    (o : Opening) (n c t k : ℕ) (start more new : List Entry) (answer : Answer) (reply : Reply) → Entered o n (start ++ more) new (AnswerEvent t answer) reply
    → has_open_job (start ++ more) t ≡ false
    → ((others : List Entry) (again : Bool) → are_others n others ≡ true → Legal o ((start ++ more) ++ others)
    → means n t k (((start ++ more) ++ others) ++ record { by = n; what = closing again t answer } ∷ []))
    → Busy o means n c t k start more → (reply ≡ Done) × GoesOn start new (Free o means n c start)

-- a free worker whose post makes what a worker makes promises what a worker does at its end
abbrev pub FreeEnds : (ℕ → ℕ → ℕ → List Entry → Type 0) → Type 0
FreeEnds means =
    (o : Opening) (crew : ℕ → Post) (p : CorePass) (c : ℕ) (more : List Entry) → seen_of p ≡ p.start ++ more → 0 < p.number
    → ((w : What) → works c w ≡ true → makes (crew p.number) w ≡ true)
    → Free o means p.number c p.start more → IsThroughAfterAgain o p.number c more (seen_of p) → WorkerEnds o means crew c p

-- ---- roles at their end

-- What an ear did since the hall's begin, at a post that makes what an ear makes, is what an ear promises at its end; and the
-- same of a mouth.
abbrev pub EarsEnd : Type 0
EarsEnd =
    (crew : ℕ → Post) (p : CorePass) (old new : EarValue) → 0 < p.number → new.child ≡ old.child → crew p.number ≡ Ear old.child
    → Moved p.number false (by_ear old.child) (is_heard old.child) p.start (seen_of p) (EarWired p.start old) (EarWired (seen_of p) new)
    → EarWired p.start old → EarEnds crew new p

abbrev pub MouthsEnd : Type 0
MouthsEnd =
    (crew : ℕ → Post) (p : CorePass) (old new : MouthValue) → 0 < p.number → new.child ≡ old.child → crew p.number ≡ Mouth old.child
    → Moved p.number false (by_mouth old.child) (is_said old.child) p.start (seen_of p) (MouthWired p.start old) (MouthWired (seen_of p) new)
    → MouthWired p.start old → MouthEnds crew new p

-- A role that stayed promises what one that ran does: its pass has seen no entry since the begin.
abbrev pub StayedEnds : (ℕ → ℕ → ℕ → List Entry → Type 0) → Type 0
StayedEnds means =
    (crew : ℕ → Post) (p : CorePass) → 0 < p.number → p.links ≡ []
    → KeepsPost crew p × ((o : Opening) (c : ℕ) → WorkerEnds o means crew c p)
    × ((ear : EarValue) → EarWired p.start ear → EarEnds crew ear p)
    × ((mouth : MouthValue) → MouthWired p.start mouth → MouthEnds crew mouth p)
    × ((o : Opening) (l : LinkValue) → IsWired p.start l → LoneEnds o means crew l p)
