-- The begin of a run, the tasks that are left at its end, and what it leaves.
use Rattle.ann_outside.specs.Told.{ProgramsTold}
use Rattle.std.proofs.Common.{◌≡◌, ◌⊎◌, ℕ, ◌+◌, List, [], ◌∷◌, refl, sym, subst, ◌∙◌, append-nil, length, Bool, true, false, cond, Some, None, Option, arith, inl, inr}
use Rattle.ann_outside.specs.Starts.{Starts}
use Rattle.ann_outside.specs.Causes.{AddsOne, Stays}
use Rattle.journal_model.specs.declared.answer.Answer.{Answer}
use Rattle.journal_model.specs.declared.answer.Answer.TheVariants.{Ended as EndedAnswer, Memory, NoChild, Unsent as UnsentAnswer}
use Rattle.journal_model.specs.declared.entry.Entry.{Entry}
use Rattle.journal_model.specs.declared.opening.Opening.{Opening}
use Rattle.journal_model.specs.Journal.{any}
use Rattle.journal_model.specs.Legality.{Legal, count, is_of_lost_child, is_claimed, numbers_of}
use Rattle.journal_model.proofs.Ears.{halves_wire}
use Rattle.host_core.specs.CoreValue.{CoreValue}
use Rattle.host_core.specs.Steps.{are_all_claimed, unclaimed}
use Rattle.child_life.specs.Start.Cores.{IsSameCore}
use Rattle.crew_work.specs.Worker.Works.{ends_closed}
use Rattle.child_link.specs.Wires.{WireValue}
use Rattle.child_life.specs.End.Wires.{AreWires, IsWire, came}
use Rattle.child_life.specs.End.Programs.{AddsAll, HaveStarted as HaveStartedSo, Leaves, is_failed_start, told}
use Rattle.run_starts.specs.Rounds.{ends_for_memory, last_again, left_answer, or_unserved}
use Rattle.run_starts.specs.Stints.{AreLinked, IsLinked, Kept, MayHaveAsked, answered_so, ear_of, mouth_of}
use Rattle.run_starts.proofs.Leaving.{rose_still, stays_none}
use Rattle.run_starts.proofs.Runs.{IsOfNoCall}
use Rattle.run_starts.proofs.Tests.{none_left, some_left}
use Rattle.run_starts.proofs.Zeros.{again_lost}
use Rattle.child_life.proofs.EndLemmas.Across.{adds_both, adds_none, adds_one}

-- ---- the begin

pub kept_begin : (program : List ℕ) (journal : List Entry) (before : ProgramsTold) (wires : List WireValue) → journal ≡ [] → wires ≡ [] → Kept program journal before before wires
kept_begin program journal before wires none bare =
    subst (λ (j : List Entry). Kept program j before before wires) (sym none) (subst (Kept program [] before before) (sym bare) record {
      linked = tt;
      started = adds_none before.starts;
      faults = rose_still 0 before.faults before.faults before.faults (omega arith) (omega arith);
      later = omega arith;
    })

-- ---- the tasks that are left

-- what closes a run is the last of them
pub left_ends : (answer : ℕ → Answer) (t : ℕ) (ts : List ℕ) → ends_closed (answered_so answer (t ∷ ts)) ≡ true
left_ends answer t [] = refl
left_ends answer t (u ∷ ts) = left_ends answer u ts

-- an Again says that a child was lost, which tells of no call
pub left_quiet : (o : Opening) (past : List Entry) → Legal o past → (t : ℕ) → IsOfNoCall (left_answer past t)
left_quiet o past legal t = go (last_again past t) refl
  where
    unserved : (b : Bool) → IsOfNoCall (cond b Memory NoChild)
    unserved true = refl
    unserved false = refl

    lost : (a : Answer) → is_of_lost_child a ≡ true → IsOfNoCall a
    lost (EndedAnswer why) h = refl
    lost UnsentAnswer h = refl
    lost a h = absurd cc

    go : (a : Option Answer) → last_again past t ≡ a → IsOfNoCall (or_unserved a past)
    go None e = unserved (any ends_for_memory past)
    go (Some a) e = lost a (again_lost o past legal t a e)

-- ---- what a run leaves

wire_of : (starts : Option Starts) (journal : List Entry) (n : ℕ) (wire : WireValue) → IsLinked starts journal n wire → IsWire starts journal n wire
wire_of starts journal n wire l =
    let halves = halves_wire journal (ear_of wire) (mouth_of wire) refl l.linked.link.ear l.linked.link.mouth in
    record { wired = halves.0; caused = halves.1; heard = l.linked.link.turn; written = l.linked.written; inlet = l.inlet; outlet = l.outlet; closed = l.closed }

wires_of : (starts : Option Starts) (journal : List Entry) (n : ℕ) (cs : List (Option ℕ)) (ws : List WireValue) → AreLinked starts journal n cs ws → AreWires starts journal n cs ws
wires_of starts journal n [] [] h = tt
wires_of starts journal n [] (w ∷ ws) h = absurd h
wires_of starts journal n (None ∷ cs) ws h = wires_of starts journal (n + 1) cs ws h
wires_of starts journal n (Some c ∷ cs) [] h = absurd h
wires_of starts journal n (Some c ∷ cs) (w ∷ ws) h = (h.0, wire_of starts journal (n + 1) w h.1, wires_of starts journal (n + 1) cs ws h.2)

pub leaves_kept : (W : Type 0) {program : List ℕ} {journal : List Entry} {before after : ProgramsTold} {wires : List WireValue} → Kept program journal before after wires → Leaves W program journal before after wires
leaves_kept W {program} {journal} {before} {after} {wires} k = record {
  wired = wires_of before.starts journal 0 (came journal) wires k.linked;
  started = inl k.started;
  faults = k.faults;
}

-- where no memory was found to start one more
pub leaves_or : (W : Type 0) {program : List ℕ} {journal : List Entry} {before mid after : ProgramsTold} {wires : List WireValue} → W → Kept program journal before mid wires → MayHaveAsked program mid after
    → Leaves W program journal before after wires
leaves_or W {program} {journal} {before} {mid} {after} {wires} w k (asked, later) = record {
  wired = wires_of before.starts journal 0 (came journal) wires k.linked;
  started = go asked;
  faults = rose_still (count is_failed_start journal) before.faults mid.faults after.faults k.faults later;
}
  where
    go : Stays mid.starts after.starts ⊎ ((b : Bool) × AddsOne mid.starts after.starts (program, b)) → HaveStartedSo W program journal before.starts after.starts
    go (inl s) = inl (subst (AddsAll before.starts after.starts) (append-nil (told program journal)) (adds_both before.starts mid.starts after.starts (told program journal) [] k.started (stays_none mid.starts after.starts s)))
    go (inr (b, s)) = inr (w, (b, adds_both before.starts mid.starts after.starts (told program journal) ((program, b) ∷ []) k.started (adds_one mid.starts after.starts (program, b) s)))

-- ---- whether tasks are left

pub left_some : (o : Opening) (journal : List Entry) (n : ℕ) → n ≡ length (unclaimed o journal) → (n ≡ 0 → ⊥) → are_all_claimed o journal ≡ false
left_some o journal n is some = some_left (is_claimed journal) (numbers_of o) (λ z. some (is ∙ z))

pub left_nothing : (o : Opening) (journal : List Entry) (n : ℕ) → n ≡ length (unclaimed o journal) → n ≡ 0 → are_all_claimed o journal ≡ true
left_nothing o journal n is z = none_left (is_claimed journal) (numbers_of o) (sym is ∙ z)

-- ---- the core

pub cores_both : {a b c : CoreValue} → IsSameCore a b → IsSameCore b c → IsSameCore a c
cores_both h k = record { opening = k.opening ∙ h.opening; legal = λ l. k.legal (h.legal l) }
