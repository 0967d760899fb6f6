-- What such a run leaves of its programs and its child.
use Rattle.ann_outside.specs.Told.{ProgramsTold}
use Rattle.std.proofs.Common.{◌≡◌, ◌⊎◌, ◌≤◌, inl, inr, ℕ, suc, List, [], ◌∷◌, length, refl, sym, ap, subst, ◌∙◌, arith, cond, Bool, true, false, Some, None, Option}
use Rattle.std.specs.Prelude.{IsTrue, filter, filter_map, option_and_then}
use Rattle.std.specs.List.{cons_option}
use Rattle.ann_outside.specs.Starts.{Starts, IsNumbered}
use Rattle.ann_outside.specs.Causes.{AddsOne, Rose, Stays}
use Rattle.journal_model.specs.declared.entry.What.{What}
use Rattle.journal_model.specs.declared.entry.What.TheVariants.{Start, NoStart}
use Rattle.journal_model.specs.declared.entry.Entry.{Entry}
use Rattle.journal_model.specs.Legality.{count}
use Rattle.journal_model.specs.Wires.{Wired, Caused, is_heard_in_turn}
use Rattle.journal_model.specs.Halves.{EarValue, MouthValue}
use Rattle.child_link.specs.Writings.{is_written_first, LoneWired}
use Rattle.journal_model.proofs.Ears.{halves_wire}
use Rattle.child_life.specs.Start.Greetings.{AreNumbered}
use Rattle.run_starts.specs.Once.Once.{start_in, starts_in, OneIsLeft}
use Rattle.child_life.specs.End.Wires.{came_in, came, is_served_alone, IsOfStart, IsWire, AreWires, IsLaid}
use Rattle.child_life.specs.End.Programs.{told_in, told, AddsAll, HaveStarted, Leaves, RoseBy, is_failed_start}
use Rattle.run_starts.proofs.Leaving.{rose_still, of_start, adds_stays, stays_none}
use Rattle.child_link.specs.Alone.{KeepsLink}
use Rattle.child_link.specs.Wires.{WireValue}
use Rattle.run_starts.proofs.OnceLemmas.Looking.{through}
use Rattle.child_life.proofs.EndLemmas.Across.{adds_one as adds_all, adds_none, leaves_if}

-- ---- the starts

came_is : (w : What) → came_in w ≡ option_and_then came_in (start_in w)
came_is (Start child slot offer) = refl
came_is (NoStart slot) = refl
came_is w = refl

came_of_starts : (journal : List Entry) (first : What) → starts_in journal ≡ first ∷ [] → came journal ≡ filter_map came_in (first ∷ [])
came_of_starts journal first h = through came_in start_in came_in came_is journal ∙ ap (filter_map came_in) h

told_is : (program : List ℕ) (w : What) → told_in program w ≡ option_and_then (told_in program) (start_in w)
told_is program (Start child slot offer) = refl
told_is program (NoStart slot) = refl
told_is program w = refl

told_of_starts : (program : List ℕ) (journal : List Entry) (first : What) → starts_in journal ≡ first ∷ [] → told program journal ≡ filter_map (told_in program) (first ∷ [])
told_of_starts program journal first h = through (told_in program) start_in (told_in program) (told_is program) journal ∙ ap (filter_map (told_in program)) h

-- how many starts failed, by the starts alone
failed_of_starts : (journal : List Entry) (first : What) → starts_in journal ≡ first ∷ [] → count is_failed_start journal ≡ length (filter is_failed_start (first ∷ []))
failed_of_starts journal first h = of_starts journal ∙ ap (λ (ws : List What). length (filter is_failed_start ws)) h
  where
    of_starts : (xs : List Entry) → count is_failed_start xs ≡ length (filter is_failed_start (starts_in xs))
    of_starts [] = refl
    of_starts (e ∷ xs) = go e.what (of_starts xs)
      where
        go : (w : What) → count is_failed_start xs ≡ length (filter is_failed_start (starts_in xs))
            → length (cond (is_failed_start w) (e ∷ filter (λ (x : Entry). is_failed_start x.what) xs) (filter (λ (x : Entry). is_failed_start x.what) xs)) ≡ length (filter is_failed_start (cons_option (start_in w) (starts_in xs)))
        go (Start child slot offer) r = r
        go (NoStart slot) r = ap (λ (n : ℕ). suc n) r
        go w r = r

child_told : (program : List ℕ) (journal : List Entry) (old mid new : Option Starts) → starts_in journal ≡ Start 1 0 false ∷ [] → AddsOne old mid (program, true) → Stays mid new
    → AddsAll old new (told program journal)
child_told program journal old mid new h a s = subst (AddsAll old new) (sym (told_of_starts program journal (Start 1 0 false) h)) (adds_stays old mid new (program, true) a s)

fault_told : (program : List ℕ) (journal : List Entry) (old new : Option Starts) → starts_in journal ≡ NoStart 0 ∷ [] → AddsOne old new (program, false) → AddsAll old new (told program journal)
fault_told program journal old new h a = subst (AddsAll old new) (sym (told_of_starts program journal (NoStart 0) h)) (adds_all old new (program, false) a)

-- ---- the wire

-- the first wire that is laid is the only one
pub one_laid : {ear : EarValue} {mouth : MouthValue} {old new : List WireValue} → IsLaid ear mouth old new → old ≡ [] → OneIsLeft ear mouth new
one_laid {ear} {mouth} {old} {new} laid none = go (subst (λ (xs : List WireValue). IsLaid ear mouth xs new) none laid)
  where
    go : IsLaid ear mouth [] new → OneIsLeft ear mouth new
    go (wire, only, is) = (wire, only, is)

-- a link that is kept keeps its start's number
pub numbers_kept : (starts : Option Starts) {old new : List Entry} {ear ear' : EarValue} {mouth mouth' : MouthValue} → KeepsLink old new ear ear' mouth mouth' → AreNumbered starts ear mouth → AreNumbered starts ear' mouth'
numbers_kept starts k n = (subst (IsNumbered starts) (sym k.same_mouth.1) n.0, subst (IsNumbered starts) (sym k.same_ear.1) n.1)

-- the one child's wire
one_wire : (old new : Option Starts) (journal : List Entry) (x : List ℕ × Bool) (ear : EarValue) (mouth : MouthValue) (wires : List WireValue) → starts_in journal ≡ Start 1 0 false ∷ []
    → AddsOne old new x → AreNumbered new ear mouth → ear.child ≡ 1 → mouth.child ≡ ear.child → LoneWired journal ear mouth → OneIsLeft ear mouth wires
    → AreWires old journal 0 (came journal) wires
one_wire old new journal x ear mouth wires starts adds numbered one both_one linked (wire, only, is) =
    let first : came journal ≡ Some 1 ∷ [] = came_of_starts journal (Start 1 0 false) starts in
    let halves : Wired journal ear.child ear.given mouth.taken ear.held × Caused journal ear.child ear.left ear.faults mouth.faults = halves_wire journal ear mouth both_one linked.link.ear linked.link.mouth in
    let wired : Wired journal wire.child wire.given wire.taken wire.rest = rw (is.child, is.given_is, is.taken_is, is.rest) halves.0 in
    let caused : Caused journal wire.child wire.left wire.read_faults wire.write_faults = rw (is.child, is.left_is, is.faults.0, is.faults.1) halves.1 in
    let heard : IsTrue (is_heard_in_turn journal wire.child) = rw is.child linked.link.turn in
    let written : is_served_alone journal wire.child ≡ true → IsTrue (is_written_first journal wire.child) = λ mains. rw is.child linked.written in
    let inlet : IsOfStart old 1 wire.inlet_number = subst (IsOfStart old 1) (sym is.numbers.0) (of_start old new x mouth.number adds numbered.0) in
    let outlet : IsOfStart old 1 wire.outlet_number = subst (IsOfStart old 1) (sym is.numbers.1) (of_start old new x ear.number adds numbered.1) in
    let own : IsWire old journal 1 wire = record { wired = wired; caused = caused; heard = heard; written = written; inlet = inlet; outlet = outlet; closed = is.closed } in
    subst (λ (cs : List (Option ℕ)). AreWires old journal 0 cs wires) (sym first)
    (subst (λ (ws : List WireValue). AreWires old journal 0 (Some 1 ∷ []) ws) (sym only) (is.child ∙ one, own, tt))

-- no child was started
no_wire : (old : Option Starts) (journal : List Entry) (wires : List WireValue) → starts_in journal ≡ NoStart 0 ∷ [] → wires ≡ [] → AreWires old journal 0 (came journal) wires
no_wire old journal wires starts none =
    subst (λ (cs : List (Option ℕ)). AreWires old journal 0 cs wires) (sym (came_of_starts journal (NoStart 0) starts))
    (subst (λ (ws : List WireValue). AreWires old journal 0 (None ∷ []) ws) (sym none) tt)

-- nothing was started
empty_wires : (old : Option Starts) (journal : List Entry) (wires : List WireValue) → journal ≡ [] → wires ≡ [] → AreWires old journal 0 (came journal) wires
empty_wires old journal wires nothing none =
    subst (λ (j : List Entry). AreWires old journal 0 (came j) wires) (sym nothing)
    (subst (λ (ws : List WireValue). AreWires old journal 0 [] ws) (sym none) tt)

-- ---- what is left

none_failed : (before after : ProgramsTold) (journal : List Entry) → journal ≡ [] → before.faults ≤ after.faults → RoseBy (count is_failed_start journal) before.faults after.faults
none_failed before after journal none le = subst (λ (x : List Entry). RoseBy (count is_failed_start x) before.faults after.faults) (sym none) (rose_still 0 before.faults before.faults after.faults (omega arith) le)

-- nothing was started
pub leaves_nothing : (W : Type 0) (before after : ProgramsTold) (program : List ℕ) (journal : List Entry) (wires : List WireValue) → after ≡ before → journal ≡ [] → wires ≡ []
    → Leaves W program journal before after wires
leaves_nothing W before after program journal wires same j w = record {
  wired = empty_wires before.starts journal wires j w;
  started = inl (subst (λ (x : List Entry). AddsAll before.starts after.starts (told program x)) (sym j) (subst (λ (v : ProgramsTold). AddsAll before.starts v.starts []) (sym same) (adds_none before.starts)));
  faults = none_failed before after journal j (subst (λ (v : ProgramsTold). before.faults ≤ v.faults) (sym same) (omega arith));
}

-- no memory was found, after one start at most
pub leaves_unstarted : (W : Type 0) (before after : ProgramsTold) (program : List ℕ) (journal : List Entry) (wires : List WireValue) → W → journal ≡ [] → wires ≡ []
    → Stays before.starts after.starts ⊎ ((b : Bool) × AddsOne before.starts after.starts (program, b)) → before.faults ≤ after.faults → Leaves W program journal before after wires
leaves_unstarted W before after program journal wires wanted j w h le = record {
  wired = empty_wires before.starts journal wires j w;
  started = subst (λ (x : List Entry). HaveStarted W program x before.starts after.starts) (sym j) (go h);
  faults = none_failed before after journal j le;
}
  where
    go : Stays before.starts after.starts ⊎ ((b : Bool) × AddsOne before.starts after.starts (program, b)) → HaveStarted W program [] before.starts after.starts
    go (inl x) = inl (stays_none before.starts after.starts x)
    go (inr (b, a)) = inr (wanted, (b, adds_all before.starts after.starts (program, b) a))

-- the start failed
pub leaves_failed : (W : Type 0) (before after : ProgramsTold) (program : List ℕ) (journal : List Entry) (wires : List WireValue) → starts_in journal ≡ NoStart 0 ∷ [] → wires ≡ []
    → AddsOne before.starts after.starts (program, false) → Rose before.faults after.faults → Leaves W program journal before after wires
leaves_failed W before after program journal wires j w adds rose = record {
  wired = no_wire before.starts journal wires j w;
  started = inl (fault_told program journal before.starts after.starts j adds);
  faults = subst (λ (n : ℕ). RoseBy n before.faults after.faults) (sym (failed_of_starts journal (NoStart 0) j)) rose;
}

-- one child was started, and its link is closed
pub leaves_child : (W : Type 0) (mid : Option Starts) (before after : ProgramsTold) (program : List ℕ) (journal : List Entry) (ear : EarValue) (mouth : MouthValue) (wires : List WireValue)
    → starts_in journal ≡ Start 1 0 false ∷ [] → AddsOne before.starts mid (program, true) → Stays mid after.starts → AreNumbered mid ear mouth → ear.child ≡ 1 → mouth.child ≡ ear.child
    → LoneWired journal ear mouth → OneIsLeft ear mouth wires → before.faults ≤ after.faults → Leaves W program journal before after wires
leaves_child W mid before after program journal ear mouth wires j adds stays numbered one both_one linked only le = record {
  wired = one_wire before.starts mid journal (program, true) ear mouth wires j adds numbered one both_one linked only;
  started = inl (child_told program journal before.starts mid after.starts j adds stays);
  faults = subst (λ (n : ℕ). RoseBy n before.faults after.faults) (sym (failed_of_starts journal (Start 1 0 false) j)) (rose_still 0 before.faults before.faults after.faults (omega arith) le);
}

-- the running out of memory, the journal and the objects are named otherwise
pub leaves_as : {V W : Type 0} {program : List ℕ} {journal journal' : List Entry} {before before' after : ProgramsTold} {wires : List WireValue} → (V → W) → journal' ≡ journal → before' ≡ before
    → Leaves V program journal before after wires → Leaves W program journal' before' after wires
leaves_as {V} {W} {program} {journal} {journal'} {before} {before'} {after} {wires} f j o h =
    subst (λ (x : List Entry). Leaves W program x before' after wires) (sym j)
    (subst (λ (x : ProgramsTold). Leaves W program journal x after wires) (sym o)
    (leaves_if f h))
