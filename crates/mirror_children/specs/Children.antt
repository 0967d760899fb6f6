-- A child of a mirror: its core, and its link.
use Rattle.std.specs.Prelude.{ℕ, ◌≡◌, ◌≤◌, true, false, List, [], ◌∷◌}
use Rattle.std.specs.List.{list_all}
use Rattle.journal_model.specs.declared.entry.What.TheVariants.{Start}
use Rattle.journal_model.specs.declared.entry.Entry.{Entry}
use Rattle.journal_model.specs.declared.opening.Opening.{Opening}
use Rattle.journal_model.specs.Journal.{open_jobs}
use Rattle.journal_model.specs.Legality.{Legal, is_prepared}
use Rattle.journal_model.specs.Shares.{are_by, by_asker}
use Rattle.journal_model.specs.Halves.{EarValue, MouthValue}
use Rattle.host_core.specs.CoreValue.{CoreValue}
use Rattle.host_core.specs.Steps.{next_job}
use Rattle.child_link.specs.Writings.{LoneWired}

-- the number of its setting; what its core began with, and its journal; and the two halves of its link
pub record ChildValue : Type 0 where
  pub number : ℕ
  pub opening : Opening
  pub journal : List Entry
  pub ear : EarValue
  pub mouth : MouthValue

abbrev pub child_value : ℕ → CoreValue → EarValue → MouthValue → ChildValue
child_value number core ear mouth = record { number = number; opening = core.opening; journal = core.journal; ear = ear; mouth = mouth }

-- The journal is legal. It begins with the start of child 1, which is not offered ASYNC; after it stand its lines and requests alone, all of them the
-- main thread's. The link is wired to it, and no job is open.
pub record IsLinked (c : ChildValue) : Type 0 where
  pub legal : Legal c.opening c.journal
  pub more : List Entry
  pub first : c.journal ≡ record { by = 0; what = Start 1 0 false } ∷ more
  pub own : list_all (λ e. by_asker 1 e.what) more ≡ true
  pub main : are_by 0 more ≡ true
  pub idle : open_jobs c.journal 1 ≡ []
  pub child : c.ear.child ≡ 1
  pub both : c.mouth.child ≡ c.ear.child
  pub wired : LoneWired c.journal c.ear c.mouth

abbrev pub AreLinked : List ChildValue → Type 0
AreLinked [] = Unit {0}
AreLinked (c ∷ cs) = IsLinked c × AreLinked cs

-- it is prepared, and has been asked for its extensions and to get ready
pub record IsServing (c : ChildValue) : Type 0 where
  pub linked : IsLinked c
  pub prepared : is_prepared c.journal 1 ≡ true
  pub greeted : 2 ≤ next_job c.journal 1

-- so it is of each of them
abbrev pub AreServing : List ChildValue → Type 0
AreServing [] = Unit {0}
AreServing (c ∷ cs) = IsServing c × AreServing cs
