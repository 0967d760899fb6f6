-- The rule of the table, and what each step tells.
use Rattle.std.specs.Prelude.{ltb, leb, ◌&&◌, ◌≡◌, ◌≢◌, ℕ, ◌+◌, ◌<◌, ◌≤◌, List, [], ◌∷◌, ◌++◌, length, Option, Some, None}
use mathlib.Core.Option.{some}
use lib.ListN.{get_elem?}
use Rattle.atomic_table.specs.Table.{State, Me, Step, rest}
use Rattle.threads.specs.declared.view.Link.{Link}
use Rattle.threads.specs.declared.view.Part.{Part}
use Rattle.threads.specs.declared.view.Stage.{Stage}
use Rattle.threads.specs.declared.view.Stage.TheVariants.{Spent, Out, Inside}
use Rattle.threads.specs.declared.view.View.{View}
use Rattle.threads.specs.Log.{bit, link, part, flat, Numbered, AllFit, number, times, log_of, AllOf, Legal}

-- f of each view, added up
abbrev pub total : {V : Type 0} → (V → ℕ) → List V → ℕ
total f [] = 0
total f (v ∷ vs) = f v + total f vs

-- 1 for the numbers from 1 to n
abbrev pub once : ℕ → ℕ → ℕ
once m n = bit (ltb 0 m && leb m n)

module _ {E F : Type 0} where
  abbrev pub at_stage : Stage E → View E F → View E F
  at_stage st v = record v { stage = st }

  abbrev pub spent : View E F
  spent = record { stage = Spent; parts = []; made = 0; seats = 0; start = []; fixed = None }

  -- the last pass that was made, which may make the next
  abbrev pub maker_view : ℕ → ℕ → List E → F → View E F
  maker_view seats n start f = record { stage = Out; parts = part n [] ∷ []; made = n; seats = seats; start = start; fixed = Some f }

  abbrev pub first_view : ℕ → List E → F → View E F
  first_view seats start f = maker_view seats 1 start f

  abbrev pub made_one : View E F → View E F
  made_one v = record v { made = 0 }

  abbrev pub next_one : View E F → View E F
  next_one v = record v { parts = part (v.made + 1) [] ∷ []; made = v.made + 1 }

  abbrev pub gathered : View E F → View E F → View E F
  gathered v w = record v { parts = w.parts ++ v.parts; made = 0 }

  -- a group was added to the log
  abbrev pub with_group : List E → View E F → View E F
  with_group g v = record v { stage = Inside (log_of v.stage ++ link (number v.parts) g ∷ []); parts = part (number v.parts) (log_of v.stage ++ link (number v.parts) g ∷ []) ∷ [] }

  module _ (seats : ℕ) (log : List (Link E)) (turn count holder maker : ℕ) (start : List E) (f : F) (j : ℕ) (v : View E F) where
    abbrev pub Same : Type 0
    Same = (v.start ≡ start) × (v.fixed ≡ Some f) × AllFit log v.parts × (v.made ≢ 0 → (v.made ≡ count) × (j ≡ maker)) × (v.seats ≡ seats)

    abbrev pub Knows : Stage E → Type 0
    Knows Spent = (v.parts ≡ []) × (v.made ≡ 0)
    Knows Out = Same
    Knows (Inside l) = Same × (l ≡ log) × (j ≡ holder) × (turn ≡ number v.parts) × (0 < turn)

module _ {X E : Type 0} (history : X → List E) where
  abbrev pub history_in : Option X → List E
  history_in (Some x) = history x
  history_in None = []

  abbrev pub held_history : List (ℕ × Option X) → List E
  held_history [] = []
  held_history (y ∷ ys) = history_in y.1

module _ {X E F O R : Type 0} (history : X → List E) (fixed : X → F) (may : F → List E → ℕ → O → List E → R → Type 0) where
  pub record Kept (opening : X) (seats : ℕ) (s : State (Option X) (View E F)) : Type 0 where
    pub log : List (Link E)
    pub turn : ℕ
    pub count : ℕ
    pub holder : ℕ
    pub maker : ℕ
    pub bells : List ℕ
    pub words : s.words ≡ turn ∷ length (history opening ++ flat log) ∷ bells
    pub few : count ≤ seats
    pub legal : Legal may (fixed opening) (history opening) log
    pub numbered : Numbered count log
    pub home : turn ≡ 0 → (x : X) × (s.homes ≡ some (Some x) ∷ []) × (history x ≡ history opening ++ flat log) × (fixed x ≡ fixed opening)
    pub out : turn ≢ 0 → (v : View E F) × (get_elem? s.views holder ≡ some v) × (v.stage ≡ Inside log)
    pub each : (j : ℕ) (v : View E F) → get_elem? s.views j ≡ some v → Knows seats log turn count holder maker (history opening) (fixed opening) j v v.stage
    pub parts : (m : ℕ) → total (λ v. times m v.parts) s.views ≡ once m count
    pub sizes : total (λ v. length v.parts) s.views ≡ count

  abbrev Sat : Type 0
  Sat = Me (Option X) (View E F)

  -- the turn was taken, and the whole log seen; or another has the turn
  abbrev pub Entering : Sat → List (Link E) → X → Sat → Type 0
  Entering m log x m' = (m' ≡ (at_stage (Inside log) m.0, (0, Some x) ∷ m.1)) × (history x ≡ m.0.start ++ flat log) × (m.0.fixed ≡ Some (fixed x)) × AllFit log m.0.parts × Legal may (fixed x) m.0.start log × Numbered m.0.seats log

  -- the turn was taken, the whole log seen, and the value taken out of its slot
  abbrev pub Claimed : Sat → X → Sat → Type 0
  Claimed m x m' =
      let log : List (Link E) = log_of m'.0.stage in
      (m' ≡ (at_stage (Inside log) m.0, (0, None) ∷ []))
      × (history x ≡ m.0.start ++ flat log)
      × (m.0.fixed ≡ Some (fixed x))
      × AllFit log m.0.parts
      × Legal may (fixed x) m.0.start log
      × Numbered m.0.seats log

  -- the value in hand has so long a history: that of the log, and then one group that the seat's number may add to it
  abbrev pub HasAdded : Sat → ℕ → Type 0
  HasAdded m amount =
      let before : List E = m.0.start ++ flat (log_of m.0.stage) in
      (amount ≡ length (held_history history m.1))
      × (f : F)
      × (g : List E)
      × (op : O)
      × (reply : R)
      × (m.0.fixed ≡ Some f)
      × (held_history history m.1 ≡ before ++ g)
      × may f before (number m.0.parts) op g reply

  -- that group was added to the log
  abbrev pub Noted : Sat → Sat → Type 0
  Noted m m' = (g : List E) × (held_history history m.1 ≡ (m.0.start ++ flat (log_of m.0.stage)) ++ g) × (m' ≡ (with_group g m.0, m.1))

  abbrev pub taken : Step (Option X) → Sat → ℕ → Sat → Type 0
  taken st m n m' = (n ≡ 0 → (log : List (Link E)) × (x : X) × Entering m log x m') × (n ≢ 0 → m' ≡ m)

  abbrev pub noted : Step (Option X) → Sat → ℕ → Sat → Type 0
  noted st m n m' = Noted m m'

  -- nothing changed
  abbrev pub looked : Step (Option X) → Sat → ℕ → Sat → Type 0
  looked st m n m' = m' ≡ m

  -- the turn was given back, with the value
  abbrev pub given : Step (Option X) → Sat → ℕ → Sat → Type 0
  given st m n m' = m' ≡ (at_stage Out m.0, rest m.1)

  -- what is known of the value at the end, and of the parts that were gathered
  abbrev pub Ended : X → X → List (Part E) → Type 0
  Ended opening x ps = (log : List (Link E)) × (history x ≡ history opening ++ flat log) × (fixed x ≡ fixed opening) × Legal may (fixed opening) (history opening) log × AllFit log ps × AllOf ps log
