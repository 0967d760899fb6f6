-- Histories as lists of links.
use Rattle.std.specs.Prelude.{length, cond, All, Bool, true, false, ◌==◌, ◌≡◌, ◌≢◌, ℕ, ◌+◌, ◌<◌, ◌≤◌, List, [], ◌∷◌, ◌++◌}
use Rattle.threads.specs.declared.view.Link.{Link}
use Rattle.threads.specs.declared.view.Part.{Part}
use Rattle.threads.specs.declared.view.Stage.{Stage}
use Rattle.threads.specs.declared.view.Stage.TheVariants.{Spent, Out, Inside}

abbrev pub bit : Bool → ℕ
bit true = 1
bit false = 0

module _ {E : Type 0} where
  abbrev pub link : ℕ → List E → Link E
  link by group = record { by = by; group = group }

  abbrev pub part : ℕ → List (Link E) → Part E
  part by seen = record { by = by; seen = seen }

  -- the elements of all groups, in order
  abbrev pub flat : List (Link E) → List E
  flat [] = []
  flat (k ∷ ks) = k.group ++ flat ks

  -- no group is this number's
  abbrev pub NotBy : ℕ → List (Link E) → Type 0
  NotBy by [] = Unit {0}
  NotBy by (k ∷ ks) = (k.by ≢ by) × NotBy by ks

  -- each group is of a number from 1 to n
  abbrev pub Numbered : ℕ → List (Link E) → Type 0
  Numbered n [] = Unit {0}
  Numbered n (k ∷ ks) = ((0 < k.by) × (k.by ≤ n)) × Numbered n ks

  -- the log begins with what was seen, and has no other group of this number
  abbrev pub Fit : List (Link E) → Part E → Type 0
  Fit log p = (rest : List (Link E)) × (log ≡ p.seen ++ rest) × NotBy p.by rest

  abbrev pub AllFit : List (Link E) → List (Part E) → Type 0
  AllFit log [] = Unit {0}
  AllFit log (p ∷ ps) = Fit log p × AllFit log ps

  abbrev pub number : List (Part E) → ℕ
  number [] = 0
  number (p ∷ ps) = p.by

  abbrev pub seen : List (Part E) → List (Link E)
  seen [] = []
  seen (p ∷ ps) = p.seen

  -- how often the number stands there
  abbrev pub times : ℕ → List (Part E) → ℕ
  times m [] = 0
  times m (p ∷ ps) = bit (p.by == m) + times m ps

  -- each group's number is that of one part, and of no other
  abbrev pub AllOf : List (Part E) → List (Link E) → Type 0
  AllOf ps [] = Unit {0}
  AllOf ps (k ∷ ks) = (times k.by ps ≡ 1) × AllOf ps ks

  -- the groups of one number, in their order
  abbrev pub groups_by : ℕ → List (Link E) → List (Link E)
  groups_by n [] = []
  groups_by n (k ∷ ks) = cond (k.by == n) (k ∷ groups_by n ks) (groups_by n ks)

  -- where the groups of one number begin, and how long they are, if the first group begins at `from`
  abbrev pub places_by : ℕ → ℕ → List (Link E) → List (ℕ × ℕ)
  places_by n from [] = []
  places_by n from (k ∷ ks) = cond (k.by == n) ((from, length k.group) ∷ places_by n (from + length k.group) ks) (places_by n (from + length k.group) ks)

  abbrev pub log_of : Stage E → List (Link E)
  log_of Spent = []
  log_of Out = []
  log_of (Inside log) = log

module _ {F E O R : Type 0} (may : F → List E → ℕ → O → List E → R → Type 0) where
  -- each group is one that the relation gives on the history before it, for some operation
  abbrev pub Legal : F → List E → List (Link E) → Type 0
  Legal f before [] = Unit {0}
  Legal f before (k ∷ ks) = ((op : O) × (reply : R) × may f before k.by op k.group reply) × Legal f (before ++ k.group) ks

-- what an `act` may give, with the elements that its number may append
abbrev pub Allowed : {F E O R : Type 0} → (ℕ → E → Type 0) → (F → List E → ℕ → O → List E → R → Type 0) → F → List E → ℕ → O → List E → R → Type 0
Allowed made_by may f before by op group reply = All (made_by by) group × may f before by op group reply
