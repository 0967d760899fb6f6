-- What contracts see of a hall and of its passes.
use Rattle.std.specs.Prelude.{◌≡◌, ◌==◌, ℕ, ◌+◌, List, [], ◌∷◌, ◌++◌, Option, Some, length, slice_get, All}
use Rattle.std.specs.List.{count_by}
use mathlib.Core.List.{IsPrefix}
use Rattle.atomic_table.specs.Seated.{TableId}
use Rattle.threads.specs.declared.view.Link.{Link}
use Rattle.threads.specs.Log.{link, flat, NotBy, Numbered, groups_by, places_by, Allowed, Legal}

-- how many passes the hall has, and the history and the fixed part that its value had at `begin`
pub record HallValue (E F : Type 0) : Type 0 where
  pub table : TableId
  pub seats : ℕ
  pub start : List E
  pub fixed : F

-- the same of a pass's hall, the pass's number, and all links that it has seen: the groups after `begin`, each with the number that made it
pub record PassValue (E F : Type 0) : Type 0 where
  pub table : TableId
  pub seats : ℕ
  pub start : List E
  pub fixed : Option F
  pub number : ℕ
  pub links : List (Link E)

module _ {E F : Type 0} where
  abbrev pub IsPassOf : HallValue E F → PassValue E F → Type 0
  IsPassOf h p = (p.table ≡ h.table) × (p.seats ≡ h.seats) × (p.start ≡ h.start) × (p.fixed ≡ Some h.fixed)

  abbrev pub hall_of : TableId → ℕ → List E → F → HallValue E F
  hall_of table seats start fixed = record { table = table; seats = seats; start = start; fixed = fixed }

  -- there are so many, by the numbers from 1 on, and none has seen more than the hall's begin
  abbrev pub AreDealt : HallValue E F → ℕ → List (PassValue E F) → Type 0
  AreDealt h seats passes =
      (length passes ≡ seats) × ((k : ℕ) (p : PassValue E F) → slice_get passes k ≡ Some p → IsPassOf h p × (p.number ≡ k + 1) × (p.links ≡ []))

  -- the history that the pass has seen
  abbrev pub seen_of : PassValue E F → List E
  seen_of p = p.start ++ flat p.links

  -- where the pass's own groups begin in the history, and how long they are
  abbrev pub places_of : PassValue E F → List (ℕ × ℕ)
  places_of p = places_by p.number (length p.start) p.links

  -- the log begins with what the pass has seen, and what follows has no group of the pass
  pub record HasAllOf (log : List (Link E)) (p : PassValue E F) : Type 0 where
    pub seen : IsPrefix p.links log
    pub own : groups_by p.number log ≡ groups_by p.number p.links
    pub places : places_by p.number (length p.start) log ≡ places_of p

module _ {E F O R : Type 0} (made_by : ℕ → E → Type 0) (may : F → List E → ℕ → O → List E → R → Type 0) where
  -- the pass has seen more: groups that other passes made, each as Held's relation gives it on the history before it, and then one group of its own
  pub record HasEntered (h : HallValue E F) (before after : PassValue E F) (op : O) (reply : R) : Type 0 where
    pub between : List (Link E)
    pub group : List E
    pub others : NotBy before.number between
    pub passes : Numbered h.seats between
    pub between_legal : Legal (Allowed made_by may) h.fixed (seen_of before) between
    pub own : Allowed made_by may h.fixed (seen_of before ++ flat between) before.number op group reply
    pub links : after.links ≡ (before.links ++ between) ++ link before.number group ∷ []
    pub seen : seen_of after ≡ (seen_of before ++ flat between) ++ group
    pub places : places_of after ≡ places_of before ++ (length (seen_of before ++ flat between), length group) ∷ []

  -- the history is that of `begin`, and then the groups of the passes: each pass's own in its order, each once and no others
  pub record HasClosed (h : HallValue E F) (passes : List (PassValue E F)) (history : List E) (fixed : F) : Type 0 where
    pub log : List (Link E)
    pub is : history ≡ h.start ++ flat log
    pub kept : fixed ≡ h.fixed
    pub legal : Legal (Allowed made_by may) h.fixed h.start log
    pub each : All (HasAllOf log) passes
    pub once : All (λ k. count_by (λ p. p.number == k.by) passes ≡ 1) log
