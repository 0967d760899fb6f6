-- The wires and the programs of a run, as its journal grows by a start of slot 0 and those of its pool.
use Rattle.ann_outside.specs.Told.{ProgramsTold}
use Rattle.std.proofs.Common.{◌≡◌, ℕ, suc, ◌+◌, ◌≤◌, List, [], ◌∷◌, ◌++◌, refl, sym, ap, subst, ◌∙◌, length, false, Some, None, Option, arith}
use Rattle.std.specs.Prelude.{◌-◌, ◌^◌, filter, min}
use Rattle.std.specs.List.{cons_option}
use Rattle.ann_outside.specs.Starts.{Starts}
use Rattle.journal_model.specs.declared.entry.What.{What}
use Rattle.journal_model.specs.declared.entry.What.TheVariants.{Start, NoStart}
use Rattle.journal_model.specs.declared.entry.Entry.{Entry}
use Rattle.journal_model.specs.Journal.{any}
use Rattle.journal_model.specs.Legality.{count, is_start}
use Rattle.journal_model.specs.Shares.{is_of_child}
use Rattle.journal_model.proofs.Looks.{each_of-append}
use Rattle.child_link.proofs.Linked.{any_narrower}
use Rattle.child_life.specs.End.Programs.{AddsAll, RoseBy, is_failed_start, told, told_in}
use Rattle.child_link.specs.Wires.{WireValue}
use Rattle.child_life.specs.End.Wires.{came, came_in}
use Rattle.run_starts.specs.Starting.{is_any_start}
use Rattle.run_starts.specs.Stints.{AreLinked, AreUpTo, IsLinked, Kept, StartsOne, main_entry}
use Rattle.run_starts.proofs.Leaving.{linked_both, linked_on, none_told, rose_both, failed_start_is, as_many}
use Rattle.run_starts.proofs.Tests.{none_came}
use Rattle.run_children.specs.Starts.{StartsAll}
use Rattle.run_children.proofs.PoolChildrenLemmas.Seating.{shifted}
use Rattle.journal_model.proofs.Working.{count-append, count_none}
use Rattle.child_life.proofs.EndLemmas.Across.{adds_both}

-- ---- counts of faults

pub rose_later : (n a b c : ℕ) → a ≤ b → RoseBy n b c → RoseBy n a c
rose_later n a b c h r = (let x : min (b + n) (2 ^ 64 - 1) ≤ c = r in omega (arith, h, x))

-- ---- the numbers of starts

one_shifted : (old mid : Option Starts) (told_so : Starts) (journal : List Entry) (k at : ℕ) (wire : WireValue) → AddsAll old mid told_so → length told_so ≡ k → IsLinked mid journal at wire → IsLinked old journal (at + k) wire
one_shifted old mid told_so journal k at wire a e l = record {
  linked = l.linked;
  inlet = shifted old mid told_so k at wire.inlet_number a e l.inlet;
  outlet = shifted old mid told_so k at wire.outlet_number a e l.outlet;
  closed = l.closed;
}

pub linked_shifted : (old mid : Option Starts) (told_so : Starts) (journal : List Entry) (k : ℕ) → AddsAll old mid told_so → length told_so ≡ k → (at : ℕ) (cs : List (Option ℕ)) (ws : List WireValue)
    → AreLinked mid journal at cs ws → AreLinked old journal (at + k) cs ws
linked_shifted old mid told_so journal k a e at [] [] h = tt
linked_shifted old mid told_so journal k a e at [] (w ∷ ws) h = absurd h
linked_shifted old mid told_so journal k a e at (None ∷ cs) ws h =
    subst (λ (m : ℕ). AreLinked old journal m cs ws) (let z : (at + 1) + k ≡ (at + k) + 1 = omega arith in z) (linked_shifted old mid told_so journal k a e (at + 1) cs ws h)
linked_shifted old mid told_so journal k a e at (Some c ∷ cs) [] h = absurd h
linked_shifted old mid told_so journal k a e at (Some c ∷ cs) (w ∷ ws) h =
    let z : (at + 1) + k ≡ (at + k) + 1 = omega arith in (
      h.0,
      subst (λ (m : ℕ). IsLinked old journal m w) z (one_shifted old mid told_so journal k (at + 1) w a e h.1),
      subst (λ (m : ℕ). AreLinked old journal m cs ws) z (linked_shifted old mid told_so journal k a e (at + 1) cs ws h.2),
    )

-- ---- one start alone

-- the same, where nothing was started after it
pub one_all : {program : List ℕ} {journal : List Entry} {first : What} {before after : ProgramsTold} {wires wires' : List WireValue} (later : List Entry) → any is_any_start later ≡ false
    → StartsOne program journal first before after wires wires' → StartsAll program journal (main_entry first ∷ later) before after wires wires'
one_all {program} {journal} {first} {before} {after} {wires} {wires'} later none s = record {
  adds = subst (AddsAll before.starts after.starts) (ap (λ (ts : Starts). cons_option (told_in program first) ts) (sym (none_told program later none))) s.adds;
  new = s.new;
  laid = s.laid;
  linked = subst (λ (cs : List (Option ℕ)). AreLinked before.starts journal 0 cs s.new) (ap (λ (cs : List (Option ℕ)). cons_option (came_in first) cs) (sym (none_came later none))) s.linked;
  faults = subst (λ (n : ℕ). RoseBy n before.faults after.faults) (sym all_failed) s.faults;
  later_faults = s.later;
}
  where
    all_failed : count is_failed_start (main_entry first ∷ later) ≡ count is_failed_start (main_entry first ∷ [])
    all_failed =
        count-append is_failed_start (main_entry first ∷ []) later ∙ (let none_failed = count_none is_failed_start later (any_narrower is_failed_start is_any_start failed_start_is later none) in omega (arith, none_failed))

-- ---- all that is kept

-- after one start of slot 0 more, and those of its pool
pub kept_more : {program : List ℕ} {old : List Entry} {start before : ProgramsTold} {wires : List WireValue} (k : Kept program old start before wires) → AreUpTo (count is_start old) (came old) → (new tail : List Entry) (after : ProgramsTold)
    (wires' : List WireValue) → new ≡ old ++ tail → ((d : ℕ) → d ≤ count is_start old → any (is_of_child d) tail ≡ false) → StartsAll program new tail before after wires wires' → Kept program new start after wires'
kept_more {program} {old} {start} {before} {wires} k up_to new tail after wires' is apart s = record {
  linked = subst (AreLinked start.starts new 0 (came new)) (sym s.laid) (subst (λ (cs : List (Option ℕ)). AreLinked start.starts new 0 cs (wires ++ s.new)) (sym came_new)
      (linked_both start.starts new 0 (came old) (came tail) wires s.new earlier
      (linked_shifted start.starts before.starts (told program old) new (length (came old)) k.started (as_many program old) 0 (came tail) s.new s.linked)));
  started = subst (AddsAll start.starts after.starts) (sym told_new) (adds_both start.starts before.starts after.starts (told program old) (told program tail) k.started s.adds);
  faults = subst (λ (n : ℕ). RoseBy n start.faults after.faults) (sym (ap (count is_failed_start) is ∙ count-append is_failed_start old tail)) (rose_both (count is_failed_start old) (count is_failed_start tail) start.faults before.faults after.faults k.faults s.faults);
  later = (let a = k.later in let b = s.later_faults in omega (arith, a, b));
}
  where
    came_new : came new ≡ came old ++ came tail
    came_new = ap came is ∙ each_of-append came_in old tail

    told_new : told program new ≡ told program old ++ told program tail
    told_new = ap (told program) is ∙ each_of-append (told_in program) old tail

    earlier : AreLinked start.starts new 0 (came old) wires
    earlier = subst (λ (j : List Entry). AreLinked start.starts j 0 (came old) wires) (sym is) (linked_on start.starts old tail (count is_start old) apart 0 (came old) wires up_to k.linked)

-- ---- as many wires as children

many_linked : (starts : Option Starts) (journal : List Entry) (n : ℕ) (xs : List Entry) (ws : List WireValue) → AreLinked starts journal n (came xs) ws → count is_start xs ≡ length ws
many_linked starts journal n [] [] h = refl
many_linked starts journal n [] (w ∷ ws) h = absurd h
many_linked starts journal n (e ∷ xs) ws h = go e.what ws h (λ m vs k. many_linked starts journal m xs vs k)
  where
    go : (w : What) (vs : List WireValue) → AreLinked starts journal n (cons_option (came_in w) (came xs)) vs → ((m : ℕ) (us : List WireValue) → AreLinked starts journal m (came xs) us → count is_start xs ≡ length us)
        → length (filter (λ (x : Entry). is_start x.what) (record { by = e.by; what = w } ∷ xs)) ≡ length vs
    go (Start child slot offer) [] k r = absurd k
    go (Start child slot offer) (v ∷ vs) k r = ap (λ (m : ℕ). suc m) (r (n + 1) vs k.2)
    go (NoStart slot) vs k r = r (n + 1) vs k
    go w vs k r = r n vs k

pub wires_many : {program : List ℕ} {journal : List Entry} {before after : ProgramsTold} {wires : List WireValue} → Kept program journal before after wires → count is_start journal ≡ length wires
wires_many {program} {journal} {before} {after} {wires} k = many_linked before.starts journal 0 journal wires k.linked

pub kept_kept : {program : List ℕ} {old : List Entry} {before after : ProgramsTold} {wires : List WireValue} (new : List Entry) (wires' : List WireValue) → new ≡ old → wires' ≡ wires → Kept program old before after wires
    → Kept program new before after wires'
kept_kept {program} {old} {before} {after} {wires} new wires' ej ew k =
    subst (λ (j : List Entry). Kept program j before after wires') (sym ej) (subst (λ (ws : List WireValue). Kept program old before after ws) (sym ew) k)
