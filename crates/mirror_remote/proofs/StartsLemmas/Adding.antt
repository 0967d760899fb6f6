-- One more core, and one more wire, among what is left of children.
use Rattle.std.proofs.Common.{◌≡◌, ◌∙◌, ℕ, ◌+◌, ◌≤◌, ◌<◌, ◌-◌, List, [], ◌∷◌, ◌++◌, zero, suc, refl, sym, ap, subst, Some, None, map, length, slice_index_or, append-nil, arith}
use Rattle.std.specs.List.{slice_get}
use Rattle.std.proofs.lemmas.List.{map-append}
use Rattle.journal_model.specs.declared.entry.Entry.{Entry}
use Rattle.journal_model.specs.Legality.{Legal}
use Rattle.host_core.specs.CoreValue.{CoreValue}
use Rattle.child_link.specs.Alone.{Closes}
use Rattle.child_link.specs.Writings.{LoneWired}
use Rattle.child_link.specs.Wires.{WireValue}
use Rattle.child_life.specs.End.Wires.{IsLaid, came}
use Rattle.mirror_children.specs.Children.{ChildValue, IsLinked}
use Rattle.mirror_remote.specs.Starts.Stops.{LogValue, StoppedValue, AreSoundLogs, AreWired, IsUnwired, Stops, log_of}
use Rattle.mirror_remote.proofs.StartsLemmas.Stopping.{no_child, one_child, sound_next, stops_so, wired_next}

-- ---- a place among the cores

pub core_at : (cores : List CoreValue) (n : ℕ) (c : CoreValue) → n < length cores → c ≡ slice_index_or cores n c → Some c.journal ≡ slice_get (map (λ (l : LogValue). l.journal) (map log_of cores)) n
core_at [] n c within here = absurd (omega (arith, within))
core_at (x ∷ cores) zero c within here = ap (λ (y : CoreValue). Some y.journal) here
core_at (x ∷ cores) (suc n) c within here = core_at cores n c (omega (arith, within)) here

pub no_core : (cores : List CoreValue) (n : ℕ) → length cores ≤ n → None ≡ slice_get (map (λ (l : LogValue). l.journal) (map log_of cores)) n
no_core [] n past = refl
no_core (x ∷ cores) zero past = absurd (omega (arith, past))
no_core (x ∷ cores) (suc n) past = no_core cores n (omega (arith, past))

-- the journals of the logs are those of the cores
pub journals_are : (cores : List CoreValue) → map (λ (c : CoreValue). c.journal) cores ≡ map (λ (l : LogValue). l.journal) (map log_of cores)
journals_are [] = refl
journals_are (c ∷ cores) = ap (λ (js : List (List Entry)). c.journal ∷ js) (journals_are cores)

-- ---- one more core

pub logs_more : (cores more : List CoreValue) (core : CoreValue) → more ≡ cores ++ core ∷ [] → map log_of more ≡ map log_of cores ++ log_of core ∷ []
logs_more cores more core e = ap (map log_of) e ∙ map-append log_of cores (core ∷ [])

-- of a child that couldn't be started
module _ (cores more : List CoreValue) (core : CoreValue) (e : more ≡ cores ++ core ∷ []) (u : IsUnwired (log_of core)) where
  pub unstarted_sound : AreSoundLogs (map log_of cores) → AreSoundLogs (map log_of more)
  unstarted_sound s = subst AreSoundLogs (sym (logs_more cores more core e)) (sound_next (map log_of cores) (log_of core) s u.0)

  pub unstarted_wired : (wires : List WireValue) → AreWired (map log_of cores) wires → AreWired (map log_of more) wires
  unstarted_wired wires w =
      subst (λ (ls : List LogValue). AreWired ls wires) (sym (logs_more cores more core e))
      (subst (AreWired (map log_of cores ++ log_of core ∷ [])) (append-nil wires) (wired_next (map log_of cores) (log_of core) wires [] w (no_child (log_of core) u)))

-- of a child that was stopped
module _ (c : ChildValue) (core : CoreValue) (cores more : List CoreValue) (wires wires' : List WireValue) (linked : IsLinked c) (e : more ≡ cores ++ core ∷ []) (opening : core.opening ≡ c.opening)
    (closes : Closes 0 c.ear.child c.journal core.journal) (legal : Legal core.opening core.journal) (wired : LoneWired core.journal c.ear c.mouth) (laid : IsLaid c.ear c.mouth wires wires') where
  pub stops : (n m : ℕ) → n ≡ m + 1 → Stops c (record { logs = map log_of cores; wires = wires; spare = n }) (record { logs = map log_of more; wires = wires'; spare = m })
  stops n m spare =
      stops_so c (record { logs = map log_of cores; wires = wires; spare = n }) (record { logs = map log_of more; wires = wires'; spare = m }) (log_of core) laid.0 linked opening
      (subst (λ (k : ℕ). Closes 0 k c.journal core.journal) linked.child closes) legal wired laid.2 (logs_more cores more core e) laid.1 spare

  pub stopped_sound : AreSoundLogs (map log_of cores) → AreSoundLogs (map log_of more)
  stopped_sound s =
      let is = stops 1 0 refl in
      go is s
    where
      go : Stops c (record { logs = map log_of cores; wires = wires; spare = 1 }) (record { logs = map log_of more; wires = wires'; spare = 0 }) → AreSoundLogs (map log_of cores) → AreSoundLogs (map log_of more)
      go is s = subst AreSoundLogs (sym is.logs) (sound_next (map log_of cores) is.log s is.sound)

  pub stopped_wired : AreWired (map log_of cores) wires → AreWired (map log_of more) wires'
  stopped_wired w = go (stops 1 0 refl) w
    where
      go : Stops c (record { logs = map log_of cores; wires = wires; spare = 1 }) (record { logs = map log_of more; wires = wires'; spare = 0 }) → AreWired (map log_of cores) wires → AreWired (map log_of more) wires'
      go is w =
          subst (λ (ls : List LogValue). AreWired ls wires') (sym is.logs)
          (subst (AreWired (map log_of cores ++ is.log ∷ [])) (sym is.wires) (wired_next (map log_of cores) is.log wires (is.wire ∷ []) w (one_child is.log is.wire is.came is.child is.is_wire)))

-- ---- the invariant of what is left

-- the cores are sound, the wires are theirs, and there is room
abbrev Keeps : List CoreValue → List WireValue → (cores wires journals room for_wires for_journals spare : ℕ) → Type 0
Keeps cores wires n w j k kw kj spare =
    AreSoundLogs (map log_of cores) × AreWired (map log_of cores) wires × (n + spare ≤ k) × (w + spare ≤ kw) × (n + spare ≤ kj) × (j ≡ 0)

pub unstarted_kept : (cores more : List CoreValue) (core : CoreValue) (wires : List WireValue) (n n' w j k k' kw kj spare : ℕ) → more ≡ cores ++ core ∷ [] → IsUnwired (log_of core)
    → 0 < spare → n' ≡ n + 1 → k' ≡ k → Keeps cores wires n w j k kw kj spare → Keeps more wires n' w j k' kw kj (spare - 1)
unstarted_kept cores more core wires n n' w j k k' kw kj spare e u some len capacity h = (
  unstarted_sound cores more core e u h.0,
  unstarted_wired cores more core e u wires h.1,
  (let was : n + spare ≤ k = h.2 in omega (arith, was, some, len, capacity)),
  (let was : w + spare ≤ kw = h.3 in omega (arith, was)),
  (let was : n + spare ≤ kj = h.4 in omega (arith, was, some, len)),
  h.5,
)

-- there were no journals, so they are those of the cores
pub finished_journals : {J : Type 0} (f : J → List Entry) (js : List J) (cores : List CoreValue) (new : List (List Entry)) (wires : List WireValue) (n w j k kw kj spare : ℕ)
    → j ≡ length js → Keeps cores wires n w j k kw kj spare → new ≡ map f js ++ map (λ (c : CoreValue). c.journal) cores → new ≡ map (λ (l : LogValue). l.journal) (map log_of cores)
finished_journals f [] cores new wires n w j k kw kj spare len h is = is ∙ journals_are cores
finished_journals f (x ∷ js) cores new wires n w j k kw kj spare len h is = absurd (let none : j ≡ 0 = h.5 in omega (arith, len, none))

-- a place among the logs, as it is lent
pub journal_at : (s : StoppedValue) (cores : List CoreValue) (wires : List WireValue) (spare n : ℕ) (c : CoreValue) → record { logs = map log_of cores; wires = wires; spare = spare } ≡ s → n < length cores → c ≡ slice_index_or cores n c
    → Some c.journal ≡ slice_get (map (λ (l : LogValue). l.journal) s.logs) n
journal_at s cores wires spare n c view within here = subst (λ (x : StoppedValue). Some c.journal ≡ slice_get (map (λ (l : LogValue). l.journal) x.logs) n) view (core_at cores n c within here)

pub journal_past : (s : StoppedValue) (cores : List CoreValue) (wires : List WireValue) (spare n : ℕ) → record { logs = map log_of cores; wires = wires; spare = spare } ≡ s → length cores ≤ n
    → None ≡ slice_get (map (λ (l : LogValue). l.journal) s.logs) n
journal_past s cores wires spare n view past = subst (λ (x : StoppedValue). None ≡ slice_get (map (λ (l : LogValue). l.journal) x.logs) n) view (no_core cores n past)

-- of a child that was stopped
pub stopped_kept : (c : ChildValue) (core : CoreValue) (cores more : List CoreValue) (wires wires' : List WireValue) → IsLinked c → more ≡ cores ++ core ∷ [] → core.opening ≡ c.opening → Closes 0 c.ear.child c.journal core.journal
    → Legal core.opening core.journal → LoneWired core.journal c.ear c.mouth → IsLaid c.ear c.mouth wires wires' → (n n' w w' j k k' kw kw' kj spare : ℕ) → 0 < spare → n' ≡ n + 1 → k' ≡ k → w' ≡ w + 1 → kw' ≡ kw
    → Keeps cores wires n w j k kw kj spare → Keeps more wires' n' w' j k' kw' kj (spare - 1)
stopped_kept c core cores more wires wires' linked e opening closes legal wired laid n n' w w' j k k' kw kw' kj spare some len capacity len_wires capacity_wires h = (
  stopped_sound c core cores more wires wires' linked e opening closes legal wired laid h.0,
  stopped_wired c core cores more wires wires' linked e opening closes legal wired laid h.1,
  (let was : n + spare ≤ k = h.2 in omega (arith, was, some, len, capacity)),
  (let was : w + spare ≤ kw = h.3 in omega (arith, was, some, len_wires, capacity_wires)),
  (let was : n + spare ≤ kj = h.4 in omega (arith, was, some, len)),
  h.5,
)
