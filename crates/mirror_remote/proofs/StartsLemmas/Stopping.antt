-- Children that are stopped, one after the other.
use Rattle.std.proofs.Common.{◌≡◌, ◌∙◌, ℕ, ◌+◌, List, [], ◌∷◌, ◌++◌, refl, sym, ap, subst, Bool, true, false, Option, Some, None, append_assoc, append-nil, cond}
use Rattle.std.specs.Prelude.{IsTrue}
use Rattle.std.specs.List.{list_all, list_any}
use Rattle.journal_model.specs.declared.verdict.Why.TheVariants.{Closed}
use Rattle.journal_model.specs.declared.entry.What.{What}
use Rattle.journal_model.specs.declared.entry.What.TheVariants.{Claim, Start, NoStart, End}
use Rattle.journal_model.specs.declared.entry.Entry.{Entry}
use Rattle.journal_model.specs.declared.opening.Opening.{Opening}
use Rattle.journal_model.specs.Journal.{each_of, is_ended}
use Rattle.journal_model.specs.Legality.{Legal, claimed_for, has_busy_task, is_busy_with, may_stop}
use Rattle.journal_model.specs.Wires.{Wired, Caused, is_heard_in_turn}
use Rattle.journal_model.specs.Halves.{EarValue, MouthValue}
use Rattle.journal_model.specs.Shares.{by_asker}
use Rattle.journal_model.proofs.Ears.{halves_wire}
use Rattle.journal_model.proofs.Looks.{each_of-append}
use Rattle.journal_model.proofs.Projecting.{parts_fit}
use Rattle.child_link.specs.Alone.{Closes}
use Rattle.child_link.specs.Writings.{LoneWired, is_written_first}
use Rattle.child_link.specs.Wires.{WireValue, IsLeft}
use Rattle.child_life.specs.End.Wires.{AreWires, IsOfStart, IsWire, came, came_in, is_served_alone}
use Rattle.mirror_children.specs.Children.{ChildValue, AreLinked, AreServing, IsLinked}
use Rattle.mirror_remote.specs.Starts.Stops.{LogValue, StoppedValue, AreSoundChildren, AreSoundLogs, AreWired, IsSound, IsUnwired, Stops, StopsAll}
use Rattle.std.proofs.lemmas.Bool.{and_parts as both}

-- ---- what a list of entries of one child doesn't say

nothing_said : {X : Type 0} (f : What → Option X) → ((w : What) → by_asker 1 w ≡ true → f w ≡ None) → (es : List Entry) → list_all (λ (e : Entry). by_asker 1 e.what) es ≡ true → each_of f es ≡ []
nothing_said f quiet [] h = refl
nothing_said f quiet (e ∷ es) h =
    let t = both (by_asker 1 e.what) (list_all (λ (x : Entry). by_asker 1 x.what) es) h in
    rw (quiet e.what t.0, nothing_said f quiet es t.1) refl

unclaimed : (w : What) → by_asker 1 w ≡ true → claimed_for 1 w ≡ None
unclaimed (Claim task child) h = absurd cc
unclaimed w h = refl

uncame : (w : What) → by_asker 1 w ≡ true → came_in w ≡ None
uncame (Start child slot offer) h = absurd cc
uncame (NoStart slot) h = absurd cc
uncame w h = refl

-- ---- the child may be closed

pub may_close : (c : ChildValue) (d : ℕ) → d ≡ 1 → IsLinked c → may_stop c.journal d Closed ≡ true
may_close c d e l =
    let none : each_of (claimed_for 1) c.journal ≡ [] = ap (each_of (claimed_for 1)) l.first ∙ nothing_said (claimed_for 1) unclaimed l.more l.own in
    let free : has_busy_task c.journal 1 ≡ false = ap (list_any (is_busy_with c.journal 1)) none in
    ap (λ (k : ℕ). may_stop c.journal k Closed) e ∙ (rw (l.idle, free) refl)

-- its journal has the one start
came_one : (c : ChildValue) → IsLinked c → came c.journal ≡ Some 1 ∷ []
came_one c l = ap came l.first ∙ ap (λ (cs : List (Option ℕ)). Some 1 ∷ cs) (nothing_said came_in uncame l.more l.own)

came_closed : (past journal : List Entry) → Closes 0 1 past journal → came journal ≡ came past
came_closed past journal h = go (is_ended past 1) h
  where
    go : (b : Bool) → journal ≡ cond b past (past ++ record { by = 0; what = End 1 Closed } ∷ []) → came journal ≡ came past
    go true e = ap came e
    go false e = ap came e ∙ each_of-append came_in past (record { by = 0; what = End 1 Closed } ∷ []) ∙ append-nil (came past)

-- ---- it was stopped

pub sound : (o : Opening) (journal : List Entry) → Legal o journal → IsSound o journal
sound o journal legal = record { legal = legal; parts = parts_fit o journal legal }

one_wire : (journal : List Entry) (ear : EarValue) (mouth : MouthValue) (wire : WireValue) → mouth.child ≡ ear.child → LoneWired journal ear mouth → IsLeft ear mouth wire → IsWire None journal 1 wire
one_wire journal ear mouth wire same linked is =
    let halves : Wired journal ear.child ear.given mouth.taken ear.held × Caused journal ear.child ear.left ear.faults mouth.faults = halves_wire journal ear mouth same linked.link.ear linked.link.mouth in
    let wired : Wired journal wire.child wire.given wire.taken wire.rest = rw (is.child, is.given_is, is.taken_is, is.rest) halves.0 in
    let caused : Caused journal wire.child wire.left wire.read_faults wire.write_faults = rw (is.child, is.left_is, is.faults.0, is.faults.1) halves.1 in
    let heard : IsTrue (is_heard_in_turn journal wire.child) = rw is.child linked.link.turn in
    let written : is_served_alone journal wire.child ≡ true → IsTrue (is_written_first journal wire.child) = λ mains. rw is.child linked.written in
    record { wired = wired; caused = caused; heard = heard; written = written; inlet = of_none wire.inlet_number; outlet = of_none wire.outlet_number; closed = is.closed }
  where
    of_none : (n : Option ℕ) → IsOfStart None 1 n
    of_none None = tt
    of_none (Some n) = tt

pub stops_so : (c : ChildValue) (old new : StoppedValue) (log : LogValue) (wire : WireValue) → IsLinked c → log.opening ≡ c.opening → Closes 0 1 c.journal log.journal → Legal log.opening log.journal
    → LoneWired log.journal c.ear c.mouth → IsLeft c.ear c.mouth wire → new.logs ≡ old.logs ++ log ∷ [] → new.wires ≡ old.wires ++ wire ∷ [] → old.spare ≡ new.spare + 1 → Stops c old new
stops_so c old new log wire l opening closes legal wired is logs wires spare = record {
  log = log;
  wire = wire;
  opening = opening;
  closes = closes;
  sound = sound log.opening log.journal legal;
  logs = logs;
  wires = wires;
  came = came_closed c.journal log.journal closes ∙ came_one c l;
  child = is.child ∙ l.child;
  is_wire = one_wire log.journal c.ear c.mouth wire l.both wired is;
  spare = spare;
}

-- ---- one more

pub stops_next : (cs : List ChildValue) (c : ChildValue) (old mid new : StoppedValue) → StopsAll cs old mid → Stops c mid new → StopsAll (cs ++ c ∷ []) old new
stops_next [] c old mid new same s = (new, subst (λ (x : StoppedValue). Stops c x new) same s, refl)
stops_next (d ∷ cs) c old mid new (first, one, rest) s = (first, one, stops_next cs c first mid new rest s)

-- the logs so far are sound, and this one is
pub sound_next : (logs : List LogValue) (l : LogValue) → AreSoundLogs logs → IsSound l.opening l.journal → AreSoundLogs (logs ++ l ∷ [])
sound_next [] l h s = (s, tt)
sound_next (x ∷ logs) l h s = (h.0, sound_next logs l h.1 s)

-- the wires so far are those of the logs, and these are of one more
pub wired_next : (logs : List LogValue) (l : LogValue) (wires own : List WireValue) → AreWired logs wires → AreWires None l.journal 0 (came l.journal) own → AreWired (logs ++ l ∷ []) (wires ++ own)
wired_next [] l wires own none is = (own, [], ap (λ (ws : List WireValue). ws ++ own) none ∙ sym (append-nil own), is, refl)
wired_next (x ∷ logs) l wires own (first, others, e, is_first, rest) is =
    (first, others ++ own, ap (λ (ws : List WireValue). ws ++ own) e ∙ append_assoc first others own, is_first, wired_next logs l others own rest is)

pub one_child : (l : LogValue) (wire : WireValue) → came l.journal ≡ Some 1 ∷ [] → wire.child ≡ 1 → IsWire None l.journal 1 wire → AreWires None l.journal 0 (came l.journal) (wire ∷ [])
one_child l wire came_is child is = subst (λ (cs : List (Option ℕ)). AreWires None l.journal 0 cs (wire ∷ [])) (sym came_is) (child, is, tt)

pub no_child : (l : LogValue) → IsUnwired l → AreWires None l.journal 0 (came l.journal) []
no_child l u = subst (λ (cs : List (Option ℕ)). AreWires None l.journal 0 cs []) (sym u.1) tt

-- ---- lists of children

pub linked_serving : (cs : List ChildValue) → AreServing cs → AreLinked cs
linked_serving [] h = tt
linked_serving (c ∷ cs) h = (h.0.linked, linked_serving cs h.1)

pub sound_children : (cs : List ChildValue) → AreServing cs → AreSoundChildren cs
sound_children [] h = tt
sound_children (c ∷ cs) h = (sound c.opening c.journal h.0.linked.legal, sound_children cs h.1)

pub stops_sound : (cs : List ChildValue) (old new : StoppedValue) → StopsAll cs old new → AreSoundLogs old.logs → AreSoundLogs new.logs
stops_sound [] old new same h = subst (λ (x : StoppedValue). AreSoundLogs x.logs) (sym same) h
stops_sound (c ∷ cs) old new (mid, one, rest) h = stops_sound cs mid new rest (subst AreSoundLogs (sym one.logs) (sound_next old.logs one.log h one.sound))
