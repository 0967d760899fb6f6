-- What came back of a role gives what is promised of it.
use Rattle.ann_outside.specs.Told.{DeskTold}
use Rattle.std.specs.Prelude.{ℕ, ◌≡◌, ◌<◌, false, []}
use Rattle.threads.specs.Passes.{HallValue, IsPassOf}
use Rattle.journal_model.specs.declared.entry.Entry.{Entry}
use Rattle.journal_model.specs.declared.opening.Opening.{Opening}
use Rattle.journal_model.specs.Halves.{EarValue, MouthValue, EarWired, MouthWired}
use Rattle.crew_work.specs.Laws.Posts.{Post, Ear, Mouth}
use Rattle.crew_work.specs.Laws.Rounds.{CorePass, EarEnds, MouthEnds}
use Rattle.task_model.specs.declared.setup.Setup.{Setup}
use Rattle.crew_rounds.specs.Tagged.Crewing.{Manned}
use Rattle.crew_rounds.specs.Tagged.Roles.{EarRan, MouthRan, WorkerRan}

-- a pass of the hall that has seen nothing since its begin
pub record IsFresh (h : HallValue Entry Opening) (p : CorePass) : Type 0 where
  pub pass : IsPassOf h p
  pub none : p.links ≡ []

abbrev pub EarsCome : Type 0
EarsCome =
    (h : HallValue Entry Opening) (crew : ℕ → Post) (p q : CorePass) (e f : EarValue) → IsFresh h p → 0 < p.number → crew p.number ≡ Ear e.child → EarWired h.start e
    → EarRan h p q e f → EarEnds crew f q

abbrev pub MouthsCome : Type 0
MouthsCome =
    (h : HallValue Entry Opening) (crew : ℕ → Post) (p q : CorePass) (m w : MouthValue) → IsFresh h p → 0 < p.number → crew p.number ≡ Mouth m.child → MouthWired h.start m
    → MouthRan h p q m w → MouthEnds crew w q

abbrev pub WorkersCome : Type 0
WorkersCome =
    (h : HallValue Entry Opening) (setup : Setup) (p q : CorePass) (c : ℕ) (desk desk' : DeskTold) → IsFresh h p
    → WorkerRan h setup p q false c (Unit {0}) (Unit {0}) desk desk' → Manned h setup c p.number desk (record { pass = q; desk = desk' })

-- and of one that stayed
abbrev pub WorkersStay : Type 0
WorkersStay = (h : HallValue Entry Opening) (setup : Setup) (p : CorePass) (c : ℕ) (desk : DeskTold) → IsFresh h p → Manned h setup c p.number desk (record { pass = p; desk = desk })
