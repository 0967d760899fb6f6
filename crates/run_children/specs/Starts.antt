-- What one start of slot 0 and what follows it comes to, and how a run stands between two of them.
use Rattle.ann_outside.specs.Told.{DeskTold, ProgramsTold}
use Rattle.std.specs.Prelude.{ℕ, ◌≡◌, ◌⊎◌, ◌<◌, ◌≤◌, ◌+◌, ◌&&◌, not, Bool, true, false, List, [], ◌∷◌, ◌++◌, length, Result, MatchResult}
use Rattle.std.specs.List.{list_all, list_any}
use Rattle.ann_key.specs.declared.bytes.NoMemory.{NoMemory}
use Rattle.journal_model.specs.declared.entry.What.{What}
use Rattle.journal_model.specs.declared.entry.Entry.{Entry}
use Rattle.journal_model.specs.declared.opening.Opening.{Opening}
use Rattle.journal_model.specs.Journal.{any, is_ended, open_jobs}
use Rattle.journal_model.specs.Legality.{Legal, count, is_busy, is_start}
use Rattle.journal_model.specs.Shares.{are_by}
use Rattle.host_core.specs.Steps.{are_all_claimed}
use Rattle.crew_work.specs.Laws.Rounds.{IsAtRest}
use Rattle.task_model.specs.declared.setup.Setup.{Setup}
use Rattle.child_life.specs.End.Programs.{AddsAll, RoseBy, is_failed_start, told}
use Rattle.child_link.specs.Wires.{WireValue}
use Rattle.child_life.specs.End.Wires.{came}
use Rattle.run_starts.specs.Starting.{AllOffer, AreEnded, children, is_offered, is_ready_untagged}
use Rattle.run_starts.specs.Rounds.{AllLostWell, AllStandNext, EndsClosed, NoneUntaken, is_of_run}
use Rattle.run_starts.specs.Stints.{AreLinked, IsOver, IsStart, MayHaveAsked, main_entry, next_child}
use Rattle.run_children.specs.PoolChildren.Slots.{AllInTurn, AreSpent, IsManned, in_pool, is_first_start, offers_tags, spends}
use Rattle.run_children.specs.Desks.{DesksDid, HaveDesks}
use Rattle.run_children.specs.Posts.{AllPosted}

-- ---- one start of slot 0

-- One more may be made: no task is busy and no job open in a legal journal, a task is left, and the numbers of children last.
pub record MayStartOne (o : Opening) (journal : List Entry) : Type 0 where
  pub legal : Legal o journal
  pub calm : IsAtRest journal
  pub few : count is_start journal + 65 < 4294967295
  pub left : are_all_claimed o journal ≡ false

-- Where a task is left, the journal has one start of slot 0 more, and what followed it: claims and starts in other slots, in turn, none
-- offering ASYNC, and nothing of an earlier child. No task is busy after it, no job is open, and its children have ended. Where it is
-- whole, the start is spent, or all tasks are claimed, and a pool had all its starts. `next` says whether ASYNC is offered from then on.
-- Each task that was claimed is done, by its desk. With one desk the main thread made all of it, and where all tasks are claimed nothing
-- was done after the last but closings.
pub record JobStretch (o : Opening) (setup : Setup) (limit : ℕ) (offer next : Bool) (first : What) (old new : List Entry) (desks desks' : List DeskTold) (whole : Bool) : Type 0 where
  pub left : are_all_claimed o old ≡ false
  pub later : List Entry
  pub is : new ≡ old ++ main_entry first ∷ later
  pub start : IsStart old offer first
  pub within : list_all (λ e. in_pool (next_child old) e.what) later ≡ true
  pub untagged : any offers_tags later ≡ false
  pub asks : list_all (λ e. is_of_run e.what) later ≡ true
  pub lost : AllLostWell (old ++ main_entry first ∷ []) later
  pub posts : AllPosted (old ++ main_entry first ∷ []) later
  pub turn : AllInTurn o (length desks) (old ++ main_entry first ∷ []) later
  pub order : AllStandNext o (old ++ main_entry first ∷ []) later
  pub rest : (t : ℕ) → is_busy new t ≡ false
  pub ended : list_all (is_ended new) (children (main_entry first ∷ later)) ≡ true
  pub spent : whole ≡ true → (spends (old ++ main_entry first ∷ []) first later ≡ true) ⊎ (are_all_claimed o new ≡ true)
  pub manned : whole ≡ true → IsManned o (length desks) new
  pub untaken : NoneUntaken new
  pub offers : next ≡ (offer && not (list_any (is_ready_untagged new) (children (main_entry first ∷ later))))
  pub placed : HaveDesks (length desks) (old ++ main_entry first ∷ []) later
  pub did : DesksDid o setup limit new (old ++ main_entry first ∷ []) later 1 desks desks'
  pub alone : length desks ≡ 1 → are_by 0 later ≡ true
  pub last : length desks ≡ 1 → are_all_claimed o new ≡ true → EndsClosed new
  pub shut : ((c : ℕ) → open_jobs old c ≡ []) → (c : ℕ) → open_jobs new c ≡ []

-- The programs were asked for what the entries' starts say, the wires are those of their children, in order, and a fault was counted
-- for each start that failed.
pub record StartsAll (program : List ℕ) (journal started : List Entry) (before after : ProgramsTold) (wires wires' : List WireValue) : Type 0 where
  pub adds : AddsAll before.starts after.starts (told program started)
  pub new : List WireValue
  pub laid : wires' ≡ wires ++ new
  pub linked : AreLinked before.starts journal 0 (came started) new
  pub faults : RoseBy (count is_failed_start started) before.faults after.faults
  pub later_faults : before.faults ≤ after.faults

-- in the journal and of the objects
abbrev pub OneJobStart : Opening → Setup → ℕ → Bool → Bool → Bool → List ℕ → List Entry → List Entry → List DeskTold → List DeskTold → ProgramsTold → ProgramsTold → List WireValue → List WireValue → Type 0
OneJobStart o setup limit offer next whole program old new desks desks' before after wires wires' =
    (first : What) × (s : JobStretch o setup limit offer next first old new desks desks' whole) × StartsAll program new (main_entry first ∷ s.later) before after wires wires'

-- nothing was noted or done, though the programs may have been asked
pub record NotStarted (program : List ℕ) (old new : List Entry) (desks desks' : List DeskTold) (before after : ProgramsTold) (wires wires' : List WireValue) : Type 0 where
  pub journal : new ≡ old
  pub desks_are : desks' ≡ desks
  pub wires_are : wires' ≡ wires
  pub asked : MayHaveAsked program before after

-- No memory was found to start a child: of slot 0, and nothing was done; or of its pool, and the children that were started have ended.
abbrev pub RunLacksMemory : Opening → Setup → ℕ → Bool → List ℕ → List Entry → List Entry → List DeskTold → List DeskTold → ProgramsTold → ProgramsTold → List WireValue → List WireValue → Type 0
RunLacksMemory o setup limit offer program old new desks desks' before after wires wires' =
    NotStarted program old new desks desks' before after wires wires'
    ⊎ ((next : Bool) × (mid : ProgramsTold) × OneJobStart o setup limit offer next false program old new desks desks' before mid wires wires' × MayHaveAsked program mid after)

-- ---- between two starts

-- So many starts of slot 0 were made; starts and claims stand in their slots and their turn, and offer ASYNC where they are to. The
-- children have ended, and where all were whole each start is spent, or all tasks are claimed, and a pool had all its starts. No task is
-- busy, no job is open, and no start is left for a task to take. Each task that was claimed is done, by its desk. With one desk it is as
-- after one start.
pub record JobsBetween (o : Opening) (setup : Setup) (may : Bool) (limit made : ℕ) (offer : Bool) (journal : List Entry) (desks desks' : List DeskTold) (whole : Bool) : Type 0 where
  pub legal : Legal o journal
  pub turn : AllInTurn o (length desks) [] journal
  pub order : AllStandNext o [] journal
  pub starts : count is_first_start journal ≡ made
  pub offers : AllOffer may [] journal
  pub offered : offer ≡ (may && is_offered journal)
  pub ended : AreEnded journal
  pub asks : list_all (λ e. is_of_run e.what) journal ≡ true
  pub lost : AllLostWell [] journal
  pub posts : AllPosted [] journal
  pub rest : (t : ℕ) → is_busy journal t ≡ false
  pub spent : whole ≡ true → AreSpent journal ⊎ (are_all_claimed o journal ≡ true)
  pub manned : whole ≡ true → IsManned o (length desks) journal
  pub untaken : NoneUntaken journal
  pub placed : HaveDesks (length desks) [] journal
  pub did : DesksDid o setup limit journal [] journal 1 desks desks'
  pub alone : length desks ≡ 1 → are_by 0 journal ≡ true
  pub last : length desks ≡ 1 → are_all_claimed o journal ≡ true → EndsClosed journal
  pub shut : (c : ℕ) → open_jobs journal c ≡ []

-- the children were started until all starts of slot 0 were made or all tasks claimed, or no memory was found to start one
abbrev pub JobsStarted : Opening → Setup → Bool → ℕ → List Entry → List DeskTold → List DeskTold → Result (Unit {0}) NoMemory → Type 0
JobsStarted o setup may limit journal desks desks' result =
    (made : ℕ) × (offer : Bool) × (whole : Bool) × JobsBetween o setup may limit made offer journal desks desks' whole × (made ≤ limit)
    × MatchResult result (λ _. (whole ≡ true) × IsOver o limit made journal) (λ _. Unit {0})
