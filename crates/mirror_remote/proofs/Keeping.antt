-- What a mirror keeps over its calls, and what is left of it at its end.
use Rattle.std.proofs.Common.{◌≡◌, ◌⊎◌, inl, inr, ◌∙◌, ℕ, ◌≤◌, List, [], ◌∷◌, ◌++◌, ap, subst, Bool, length, map, arith}
use Rattle.std.specs.Prelude.{Result, Ok, Err}
use Rattle.ann_key.specs.declared.bytes.NoMemory.{NoMemory}
use Rattle.ann_outside.specs.Causes.{Stays}
use Rattle.annex_model.specs.Messages.{HostMessage}
use Rattle.journal_model.specs.declared.verdict.Verdict.{Verdict}
use Rattle.kit_serve.specs.declared.kit.call.Said.{Said}
use Rattle.mirror_children.specs.Children.{ChildValue, AreServing}
use Rattle.mirror_remote.specs.Starts.Stops.{LogValue, StoppedValue, AreSoundLogs, AreWired, StopsAll}
use Rattle.mirror_children.specs.Rule.{Rules}
use Rattle.mirror_remote.specs.Mirrors.{EndedValue, Finishes, IsSoundMirror}
use Rattle.mirror_remote.specs.Starts.Outcomes.{IsKept, MirrorValue}
use Rattle.mirror_remote.proofs.StartsLemmas.Begun.{closed_as}
use Rattle.mirror_remote.proofs.Everywhere.{asks_nobody}
use Rattle.mirror_children.proofs.Fronts.{front_length}
use Rattle.mirror_remote.proofs.StartsLemmas.Stopping.{sound_children}

rules_many : (goes : Verdict → Bool) (q : HostMessage) (says : List ChildValue → List Verdict → Said) (old new : List ChildValue) (r : Result Said NoMemory) → Rules goes q says old new r → length new ≡ length old
rules_many goes q says [] new (Ok said) k = ap (λ (cs : List ChildValue). length cs) k.0
rules_many goes q says (c ∷ old) new (Ok said) a = front_length goes q (c ∷ old) new a.verdicts a.asked
rules_many goes q says old new (Err e) (vs, f) = front_length goes q old new vs f

-- a call by the rule keeps it
pub kept_by_rule : (goes : Verdict → Bool) (q : HostMessage) (says : List ChildValue → List Verdict → Said) (old new : List ChildValue) (r : Result Said NoMemory) (spare : ℕ) (logs : List LogValue)
    → Rules goes q says old new r → AreServing new → IsKept old spare logs → IsKept new spare logs
kept_by_rule goes q says old new r spare logs k serving (was, room, either, sound) =
    let many = rules_many goes q says old new r k in
    (serving, omega (arith, many, room), which either, sound)
  where
    which : (old ≡ []) ⊎ (logs ≡ []) → (new ≡ []) ⊎ (logs ≡ [])
    which (inl none) = inl (asks_nobody goes q says old new r none k).0
    which (inr none) = inr none

pub sound_mirror : (m : MirrorValue) → AreServing m.children → AreSoundLogs m.logs → IsSoundMirror m
sound_mirror m serving logs = record { children = sound_children m.children serving; logs = logs }

pub kept_sound : (m : MirrorValue) (spare : ℕ) → IsKept m.children spare m.logs → IsSoundMirror m
kept_sound m spare k = sound_mirror m k.0 k.3

-- the children that were left were stopped, and nothing else
pub finishes : (m : MirrorValue) (e : EndedValue) (before after : StoppedValue) → before.logs ≡ m.logs → StopsAll m.children before after → e.journals ≡ map (λ (l : LogValue). l.journal) after.logs
    → AreSoundLogs after.logs → AreWired after.logs e.wires → Stays m.programs.starts e.programs.starts → m.programs.faults ≤ e.programs.faults → Finishes m e
finishes m e before after same stops journals sound wired starts later =
    let all = closed_as m.children before after stops in
    let logs : after.logs ≡ m.logs ++ all.0 = all.1 ∙ ap (λ (ls : List LogValue). ls ++ all.0) same in
    record {
      closed = all.0;
      are_closed = all.2;
      journals = journals ∙ ap (λ (ls : List LogValue). map (λ (l : LogValue). l.journal) ls) logs;
      sound = subst AreSoundLogs logs sound;
      wired = subst (λ (ls : List LogValue). AreWired ls e.wires) logs wired;
      starts = starts;
      later = later;
    }
