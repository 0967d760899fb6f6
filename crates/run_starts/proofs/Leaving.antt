-- The wires and the programs of a run, as its journal grows.
use Rattle.ann_outside.specs.Told.{ProgramsTold}
use Rattle.std.proofs.Common.{◌≡◌, ℕ, suc, ◌+◌, ◌≤◌, List, [], ◌∷◌, ◌++◌, refl, sym, ap, subst, ◌∙◌, append-nil, length, length-append, Bool, true, false, Some, None, Option, arith}
use Rattle.std.specs.Prelude.{◌-◌, ◌^◌, min}
use Rattle.std.specs.List.{cons_option}
use Rattle.ann_outside.specs.Starts.{Starts, IsNumbered}
use Rattle.ann_outside.specs.Causes.{AddsOne, Rose, Stays}
use Rattle.journal_model.specs.declared.entry.What.{What}
use Rattle.journal_model.specs.declared.entry.What.TheVariants.{Start, NoStart}
use Rattle.journal_model.specs.declared.entry.Entry.{Entry}
use Rattle.journal_model.specs.Journal.{any}
use Rattle.journal_model.specs.Legality.{count, is_start}
use Rattle.journal_model.specs.Halves.{EarValue, MouthValue}
use Rattle.journal_model.specs.Shares.{is_of_child}
use Rattle.journal_model.proofs.Looks.{each_of-append}
use Rattle.child_link.proofs.Linked.{any_narrower}
use Rattle.child_life.specs.Start.Greetings.{AreNumbered}
use Rattle.child_link.specs.Wires.{IsLeft, WireValue}
use Rattle.child_life.specs.End.Wires.{IsHeld, IsLaid, IsOfStart, came, came_in}
use Rattle.child_life.proofs.EndLemmas.Held.{held_apart}
use Rattle.child_life.specs.End.Programs.{AddsAll, RoseBy, is_failed_start, told, told_in}
use Rattle.run_starts.specs.Starting.{is_any_start}
use Rattle.run_starts.specs.Stints.{AreLinked, AreUpTo, IsLinked, Kept, StartsOne, ear_of, mouth_of}
use Rattle.run_starts.proofs.Tests.{each_without, none_came}
use Rattle.journal_model.proofs.Working.{count-append, count_none}
use Rattle.child_life.proofs.EndLemmas.Across.{adds_one}

-- ---- counts of faults

pub rose_both : (n m a b c : ℕ) → RoseBy n a b → RoseBy m b c → RoseBy (n + m) a c
rose_both n m a b c h k = (let x : min (a + n) (2 ^ 64 - 1) ≤ b = h in let y : min (b + m) (2 ^ 64 - 1) ≤ c = k in omega (arith, x, y))

pub rose_still : (n a b c : ℕ) → RoseBy n a b → b ≤ c → RoseBy n a c
rose_still n a b c h k = (let x : min (a + n) (2 ^ 64 - 1) ≤ b = h in omega (arith, x, k))

-- ---- lists that are told

pub adds_stays : (old mid new : Option Starts) (x : List ℕ × Bool) → AddsOne old mid x → Stays mid new → AddsAll old new (x ∷ [])
adds_stays None None None x a s = tt
adds_stays None None (Some zs) x a s = absurd s
adds_stays None (Some ys) new x a s = absurd a
adds_stays (Some xs) None new x a s = absurd a
adds_stays (Some xs) (Some ys) None x a s = absurd s
adds_stays (Some xs) (Some ys) (Some zs) x a s = s ∙ a

pub stays_none : (old new : Option Starts) → Stays old new → AddsAll old new []
stays_none None None s = tt
stays_none None (Some ys) s = absurd s
stays_none (Some xs) None s = absurd s
stays_none (Some xs) (Some ys) s = s ∙ sym (append-nil xs)

-- ---- the numbers of starts

pub of_start : (old new : Option Starts) (x : List ℕ × Bool) (n : Option ℕ) → AddsOne old new x → IsNumbered new n → IsOfStart old 1 n
of_start old new x None a h = tt
of_start None new x (Some n) a h = tt
of_start (Some xs) None x (Some n) a h = absurd a
of_start (Some xs) (Some ys) x (Some n) a h = h ∙ ap (λ (zs : Starts). length zs) a ∙ length-append xs (x ∷ [])

-- ---- told and came

pub as_many : (program : List ℕ) (journal : List Entry) → length (told program journal) ≡ length (came journal)
as_many program [] = refl
as_many program (e ∷ journal) = go e.what (as_many program journal)
  where
    go : (w : What) → length (told program journal) ≡ length (came journal) → length (cons_option (told_in program w) (told program journal)) ≡ length (cons_option (came_in w) (came journal))
    go (Start child slot offer) r = ap (λ (n : ℕ). suc n) r
    go (NoStart slot) r = ap (λ (n : ℕ). suc n) r
    go w r = r

untold : (program : List ℕ) (w : What) → is_any_start w ≡ false → told_in program w ≡ None
untold program (Start child slot offer) h = absurd cc
untold program (NoStart slot) h = absurd cc
untold program w h = refl

pub none_told : (program : List ℕ) (xs : List Entry) → any is_any_start xs ≡ false → told program xs ≡ []
none_told program xs h = each_without (told_in program) is_any_start (untold program) xs h

pub failed_start_is : (w : What) → is_failed_start w ≡ true → is_any_start w ≡ true
failed_start_is (NoStart slot) h = refl
failed_start_is w h = absurd cc

-- ---- the wires

-- a wire of which nothing more is made stays
linked_stays : (starts : Option Starts) (past more : List Entry) (n : ℕ) (wire : WireValue) → any (is_of_child wire.child) more ≡ false → IsLinked starts past n wire → IsLinked starts (past ++ more) n wire
linked_stays starts past more n wire none l = record {
  linked = held_apart past more (ear_of wire) (mouth_of wire) refl none l.linked;
  inlet = l.inlet;
  outlet = l.outlet;
  closed = l.closed;
}

pub linked_on : (starts : Option Starts) (past more : List Entry) (most : ℕ) → ((d : ℕ) → d ≤ most → any (is_of_child d) more ≡ false) → (n : ℕ) (cs : List (Option ℕ)) (ws : List WireValue)
    → AreUpTo most cs → AreLinked starts past n cs ws → AreLinked starts (past ++ more) n cs ws
linked_on starts past more most apart n [] [] u h = tt
linked_on starts past more most apart n [] (w ∷ ws) u h = absurd h
linked_on starts past more most apart n (None ∷ cs) ws u h = linked_on starts past more most apart (n + 1) cs ws u h
linked_on starts past more most apart n (Some c ∷ cs) [] u h = absurd h
linked_on starts past more most apart n (Some c ∷ cs) (w ∷ ws) u h = (
  h.0,
  linked_stays starts past more (n + 1) w (subst (λ (d : ℕ). any (is_of_child d) more ≡ false) (sym h.0) (apart c u.0)) h.1,
  linked_on starts past more most apart (n + 1) cs ws u.1 h.2,
)

pub linked_both : (starts : Option Starts) (journal : List Entry) (n : ℕ) (cs ds : List (Option ℕ)) (ws vs : List WireValue) → AreLinked starts journal n cs ws → AreLinked starts journal (n + length cs) ds vs
    → AreLinked starts journal n (cs ++ ds) (ws ++ vs)
linked_both starts journal n [] ds [] vs h k = subst (λ (m : ℕ). AreLinked starts journal m ds vs) (let e : n + 0 ≡ n = omega arith in e) k
linked_both starts journal n [] ds (w ∷ ws) vs h k = absurd h
linked_both starts journal n (None ∷ cs) ds ws vs h k = linked_both starts journal (n + 1) cs ds ws vs h (subst (λ (m : ℕ). AreLinked starts journal m ds vs) (let e : n + suc (length cs) ≡ (n + 1) + length cs = omega arith in e) k)
linked_both starts journal n (Some c ∷ cs) ds [] vs h k = absurd h
linked_both starts journal n (Some c ∷ cs) ds (w ∷ ws) vs h k = (
  h.0,
  h.1,
  linked_both starts journal (n + 1) cs ds ws vs h.2 (subst (λ (m : ℕ). AreLinked starts journal m ds vs) (let e : n + suc (length cs) ≡ (n + 1) + length cs = omega arith in e) k),
)

-- ---- one start

-- the wire of the halves that are left
module _ (journal : List Entry) (ear : EarValue) (mouth : MouthValue) (wire : WireValue) (one : mouth.child ≡ ear.child) (is : IsLeft ear mouth wire) where
  ear_is : ear_of wire ≡ ear
  ear_is = rw (is.child, is.given_is, is.left_is, is.faults.1, is.numbers.1, is.rest) refl

  mouth_is : mouth_of wire ≡ mouth
  mouth_is = let same_child : wire.child ≡ mouth.child = is.child ∙ sym one in rw (same_child, is.taken_is, is.faults.0, is.numbers.0) refl

  left_linked : IsHeld journal ear mouth → IsHeld journal (ear_of wire) (mouth_of wire)
  left_linked h = subst (λ (x : EarValue). IsHeld journal x (mouth_of wire)) (sym ear_is) (subst (λ (x : MouthValue). IsHeld journal ear x) (sym mouth_is) h)

-- one child was started, and its link is closed
pub starts_child : (program : List ℕ) (journal : List Entry) (c : ℕ) (offer : Bool) (before : ProgramsTold) (mid : Option Starts) (after : ProgramsTold) (faults : ℕ) (ear : EarValue) (mouth : MouthValue) (wires wires' : List WireValue)
    → AddsOne before.starts mid (program, true) → Stays mid after.starts → before.faults ≤ faults → faults ≤ after.faults → AreNumbered mid ear mouth → ear.child ≡ c → mouth.child ≡ ear.child
    → IsHeld journal ear mouth → IsLaid ear mouth wires wires' → StartsOne program journal (Start c 0 offer) before after wires wires'
starts_child program journal c offer before mid after faults ear mouth wires wires' adds stays le le' numbered its one linked (wire, laid, is) = record {
  adds = adds_stays before.starts mid after.starts (program, true) adds stays;
  new = wire ∷ [];
  laid = laid;
  linked = (
    is.child ∙ its,
    record {
      linked = left_linked journal ear mouth wire one is linked;
      inlet = subst (IsOfStart before.starts 1) (sym is.numbers.0) (of_start before.starts mid (program, true) mouth.number adds numbered.0);
      outlet = subst (IsOfStart before.starts 1) (sym is.numbers.1) (of_start before.starts mid (program, true) ear.number adds numbered.1);
      closed = is.closed;
    },
    tt,
  );
  faults = rose_still 0 before.faults before.faults after.faults (omega arith) (omega arith);
  later = omega arith;
}

-- no child was started
pub starts_none : (program : List ℕ) (journal : List Entry) (before after : ProgramsTold) (wires wires' : List WireValue) → AddsOne before.starts after.starts (program, false) → Rose before.faults after.faults → before.faults ≤ after.faults
    → wires' ≡ wires → StartsOne program journal (NoStart 0) before after wires wires'
starts_none program journal before after wires wires' adds rose le same = record {
  adds = adds_one before.starts after.starts (program, false) adds;
  new = [];
  laid = same ∙ sym (append-nil wires);
  linked = tt;
  faults = rose;
  later = le;
}

-- ---- all that is kept

module _ {program : List ℕ} {old : List Entry} {start before : ProgramsTold} {wires : List WireValue} (k : Kept program old start before wires) (up_to : AreUpTo (count is_start old) (came old)) where
  -- after entries that start nothing and are of no child
  pub kept_still : (new more : List Entry) → new ≡ old ++ more → any is_any_start more ≡ false → ((d : ℕ) → any (is_of_child d) more ≡ false) → Kept program new start before wires
  kept_still new more is none apart = record {
    linked = subst (λ (cs : List (Option ℕ)). AreLinked start.starts new 0 cs wires) (sym came_new)
        (subst (λ (j : List Entry). AreLinked start.starts j 0 (came old) wires) (sym is) (linked_on start.starts old more (count is_start old) (λ d le. apart d) 0 (came old) wires up_to k.linked));
    started = subst (AddsAll start.starts before.starts) (sym told_new) k.started;
    faults = subst (λ (n : ℕ). RoseBy n start.faults before.faults) (sym failed_new) k.faults;
    later = k.later;
  }
    where
      came_new : came new ≡ came old
      came_new = ap came is ∙ each_of-append came_in old more ∙ ap (λ (cs : List (Option ℕ)). came old ++ cs) (none_came more none) ∙ append-nil (came old)

      told_new : told program new ≡ told program old
      told_new = ap (told program) is ∙ each_of-append (told_in program) old more ∙ ap (λ (ts : Starts). told program old ++ ts) (none_told program more none) ∙ append-nil (told program old)

      failed_new : count is_failed_start new ≡ count is_failed_start old
      failed_new =
          ap (count is_failed_start) is ∙ count-append is_failed_start old more ∙ (let none_failed = count_none is_failed_start more (any_narrower is_failed_start is_any_start failed_start_is more none) in omega (arith, none_failed))
