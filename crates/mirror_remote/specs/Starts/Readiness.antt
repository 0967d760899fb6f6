-- Whether the child of a plan is ready, and what is left of one that was stopped.
use Rattle.std.specs.Prelude.{◌≡◌, ◌⊎◌, true, false, List, [], ◌∷◌, map}
use Rattle.ann_outside.specs.Starts.{Starts}
use Rattle.journal_model.specs.declared.verdict.Why.{Why}
use Rattle.journal_model.specs.declared.verdict.Verdict.{Verdict}
use Rattle.journal_model.specs.declared.entry.What.TheVariants.{NoStart}
use Rattle.journal_model.specs.declared.entry.Entry.{Entry}
use Rattle.journal_model.specs.Shares.{is_memory}
use Rattle.child_link.specs.Alone.{Closes}
use Rattle.child_life.specs.Start.Greetings.{Greeted, IsReady, IsRefused, HasEnded, IsUnsent}
use Rattle.mirror_children.specs.declared.plan.plan.Plan.{Plan}
use Rattle.mirror_children.specs.Children.{ChildValue}
use Rattle.mirror_remote.specs.Starts.Openings.{mirror_opening}
use Rattle.mirror_remote.specs.Starts.Stops.{LogValue}

-- ---- ready

-- the child of this plan is ready: after its start its journal has its greeting alone
pub record IsReadyAs (p : Plan) (c : ChildValue) : Type 0 where
  pub number : c.number ≡ p.number
  pub opening : c.opening ≡ mirror_opening p.registers
  pub greeted : Greeted [] c.journal 0 false 1
  pub ready : IsReady c.journal 1

abbrev pub AreReadyAs : List Plan → List ChildValue → Type 0
AreReadyAs [] [] = Unit {0}
AreReadyAs (p ∷ ps) (c ∷ cs) = IsReadyAs p c × AreReadyAs ps cs
AreReadyAs _ _ = ⊥

-- ---- stopped

-- the child of this plan was greeted, and then closed
pub record IsStoppedAs (p : Plan) (l : LogValue) : Type 0 where
  pub opening : l.opening ≡ mirror_opening p.registers
  pub past : List Entry
  pub greeted : Greeted [] past 0 false 1
  pub closes : Closes 0 1 past l.journal

abbrev pub AreStoppedAs : List Plan → List LogValue → Type 0
AreStoppedAs [] [] = Unit {0}
AreStoppedAs (p ∷ ps) (l ∷ ls) = IsStoppedAs p l × AreStoppedAs ps ls
AreStoppedAs _ _ = ⊥

-- the child refused to get ready, ended, but not because memory ran out, or is mute
abbrev pub IsUnready : List Entry → Type 0
IsUnready past = ((v : Verdict) × IsRefused past 1 v) ⊎ ((why : Why) × HasEnded past 1 why × (is_memory why ≡ false)) ⊎ IsUnsent past 1

-- the program of this plan was started, and its child isn't ready
pub record IsUnreadyAs (p : Plan) (l : LogValue) : Type 0 where
  pub stopped : IsStoppedAs p l
  pub cause : IsUnready stopped.past

-- the program of this plan couldn't be started
pub record IsUnstartedAs (p : Plan) (l : LogValue) : Type 0 where
  pub opening : l.opening ≡ mirror_opening p.registers
  pub only : l.journal ≡ record { by = 0; what = NoStart 0 } ∷ []

-- what is left of a child of this plan: it was stopped, or it couldn't be started
abbrev pub IsLeftAs : Plan → LogValue → Type 0
IsLeftAs p l = IsStoppedAs p l ⊎ IsUnstartedAs p l

abbrev pub AreLeftAs : List Plan → List LogValue → Type 0
AreLeftAs [] [] = Unit {0}
AreLeftAs (p ∷ ps) (l ∷ ls) = IsLeftAs p l × AreLeftAs ps ls
AreLeftAs _ _ = ⊥

-- ---- programs

-- the programs of these plans, each of which gave a child
abbrev pub starts_of : List Plan → Starts
starts_of ps = map (λ p. (p.program, true)) ps

-- the programs of these plans were asked for, in order, and one more at most
abbrev pub AreAskedFor : List Plan → Starts → Type 0
AreAskedFor [] [] = Unit {0}
AreAskedFor [] (x ∷ []) = Unit {0}
AreAskedFor (p ∷ ps) (x ∷ xs) = (x.0 ≡ p.program) × AreAskedFor ps xs
AreAskedFor _ _ = ⊥
