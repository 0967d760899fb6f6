-- A round: what each pass promises at its end, and what stands in the journal when the hall is closed.
use Rattle.std.specs.Prelude.{ℕ, ◌≡◌, ◌⊎◌, ◌==◌, ◌<◌, ◌≤◌, ◌+◌, true, false, List, ◌++◌, length, drop, Some, None, All, IsTrue}
use Rattle.std.specs.List.{list_any, list_all}
use Rattle.threads.specs.Passes.{PassValue, seen_of}
use Rattle.journal_model.specs.declared.verdict.Why.TheVariants.{Closed}
use Rattle.journal_model.specs.declared.entry.Entry.{Entry}
use Rattle.journal_model.specs.declared.opening.Opening.{Opening}
use Rattle.journal_model.specs.Journal.{any, is_open, is_started, why_of}
use Rattle.journal_model.specs.Legality.{Legal, count, claims, renews, is_busy, is_claimed}
use Rattle.journal_model.specs.Halves.{EarValue, MouthValue, EarWired, MouthWired, LinkWired}
use Rattle.journal_model.specs.Makers.{are_by_holder, is_of_task}
use Rattle.journal_model.specs.Shares.{are_own, makes_only, is_heard, is_said, is_of_child}
use Rattle.host_core.specs.Steps.{are_all_claimed, is_gone}
use Rattle.crew_work.specs.Laws.Posts.{Post, makes, is_mains}
use Rattle.crew_work.specs.Laws.Tasks.{HasRun, HoldsNoMore, IsThroughAfterAgain}

abbrev pub CorePass : Type 0
CorePass = PassValue Entry Opening

-- what the pass has seen since the hall's begin
abbrev pub since : CorePass → List Entry
since p = drop (length p.start) (seen_of p)

-- no task is busy and no job is open
pub record IsAtRest (journal : List Entry) : Type 0 where
  pub idle : (t : ℕ) → is_busy journal t ≡ false
  pub shut : (c j : ℕ) → is_open journal c j ≡ false

-- both halves of a link
pub record LinkValue : Type 0 where
  pub ear : EarValue
  pub mouth : MouthValue

-- the halves are one started child's, and wired to the journal
pub record IsWired (journal : List Entry) (l : LinkValue) : Type 0 where
  pub one_child : l.mouth.child ≡ l.ear.child
  pub started : is_started journal l.ear.child ≡ true
  pub wired : LinkWired journal l.ear l.mouth

-- ---- what each role promises at its end

-- Every pass: it made what its post makes and nothing else, and holds no task more than at the begin.
pub record KeepsPost (crew : ℕ → Post) (p : CorePass) : Type 0 where
  pub number : 0 < p.number
  pub only : makes_only (makes (crew p.number)) p.number (since p) ≡ true
  pub holds : HoldsNoMore p.number p.start (seen_of p)

-- An ear: where nobody else made what is known of the child's output, its half is wired to what it has seen.
pub record EarEnds (crew : ℕ → Post) (ear : EarValue) (p : CorePass) : Type 0 where
  pub keeps : KeepsPost crew p
  pub wired : are_own (is_heard ear.child) p.number (since p) ≡ true → EarWired (seen_of p) ear

-- A mouth: the same of the child's input.
pub record MouthEnds (crew : ℕ → Post) (mouth : MouthValue) (p : CorePass) : Type 0 where
  pub keeps : KeepsPost crew p
  pub wired : are_own (is_said mouth.child) p.number (since p) ≡ true → MouthWired (seen_of p) mouth

-- A worker of c: each turn that it took was run. Where it was to leave a task to be run again, it takes up no more.
pub record WorkerEnds (o : Opening) (means : ℕ → ℕ → ℕ → List Entry → Type 0) (crew : ℕ → Post) (c : ℕ) (p : CorePass) : Type 0 where
  pub keeps : KeepsPost crew p
  pub ran : HasRun means p.number p.start (since p) (seen_of p)
  pub through : IsThroughAfterAgain o p.number c (since p) (seen_of p)

-- A worker with a link of its own: a worker, and where nobody else made what names the child, the link is wired.
pub record LoneEnds (o : Opening) (means : ℕ → ℕ → ℕ → List Entry → Type 0) (crew : ℕ → Post) (l : LinkValue) (p : CorePass) : Type 0 where
  pub works : WorkerEnds o means crew l.ear.child p
  pub wired : are_own (is_of_child l.ear.child) p.number (since p) ≡ true → IsWired (seen_of p) l

-- ---- the contract of a round

-- What a round did, whoever did what. It made the journal longer by a legal rest. Each entry of the rest is one that the post
-- of its number makes, and the number is that of a pass. Between two claims of a task stands an entry that it is to be run again,
-- and each entry of it claims it where nobody holds it, or is its holder's. Of a task that was claimed before the round nothing is
-- made. No child is started or closed, and nothing is left undone: no task is held, and no job is open.
pub record Rounded (o : Opening) (crew : ℕ → Post) (numbers : List ℕ) (start rest : List Entry) : Type 0 where
  pub legal : Legal o (start ++ rest)
  pub posts : IsTrue (list_all (λ e. makes (crew e.by) e.what) rest)
  pub numbered : IsTrue (list_all (λ e. list_any (λ n. n == e.by) numbers) rest)
  pub at_rest : IsAtRest (start ++ rest)
  pub once : (t : ℕ) → count (claims t) (start ++ rest) ≤ 1 + count (renews t) (start ++ rest)
  pub own : (t : ℕ) → 0 < t → are_by_holder t None (start ++ rest) ≡ true
  pub before : (t : ℕ) → is_claimed start t ≡ true → any (is_of_task t) rest ≡ false
  pub mains : any is_mains rest ≡ false

-- the child ended or is mute, and the host didn't close it
pub record IsLostChild (journal : List Entry) (c : ℕ) : Type 0 where
  pub gone : is_gone journal c ≡ true
  pub unclosed : why_of journal c ≡ Some Closed → ⊥

-- one of the links is to that child
abbrev pub IsAmong : ℕ → List LinkValue → Type 0
IsAmong c links = list_any (λ l. l.ear.child == c) links ≡ true

-- What stands when a round is over: what Rounded says, each link is wired to the journal, each turn that was taken in the
-- round was run, of no other child anything was made, and all tasks are claimed or some child of the round is lost.
pub record Round (o : Opening) (means : ℕ → ℕ → ℕ → List Entry → Type 0) (crew : ℕ → Post) (numbers : List ℕ) (start rest : List Entry) (links : List LinkValue) : Type 0 where
  pub rounded : Rounded o crew numbers start rest
  pub linked : All (IsWired (start ++ rest)) links
  pub ran : (n : ℕ) → HasRun means n start rest (start ++ rest)
  pub others : (c : ℕ) → list_any (λ l. l.ear.child == c) links ≡ false → any (is_of_child c) rest ≡ false
  pub left : (are_all_claimed o (start ++ rest) ≡ true) ⊎ ((c : ℕ) × IsAmong c links × IsLostChild (start ++ rest) c)
