-- What follows of a greeting, for the crates that greet.
use Rattle.std.proofs.Common.{◌≡◌, ℕ, List, refl, Bool, false}
use Rattle.journal_model.specs.declared.entry.Entry.{Entry}
use Rattle.journal_model.specs.Journal.{verdict_of}
use Rattle.journal_model.specs.Legality.{is_done}
use Rattle.child_life.specs.declared.start.greeting.Mode.{Mode}
use Rattle.child_life.specs.declared.start.greeting.Came.{Came}
use Rattle.child_life.specs.declared.start.greeting.Came.TheVariants.{Ready, Refused, Ended, Unsent}
use Rattle.child_life.specs.Start.Greetings.{CameTo}

-- the job 1 of a child that isn't ready is not done
pub unready_undone : (mode : Mode) (journal : List Entry) (c : ℕ) (came : Came) → ((tagged : Bool) → came ≡ Ready tagged → ⊥) → CameTo mode journal c came → is_done (verdict_of journal c 1) ≡ false
unready_undone mode journal c (Ready tagged) unready h = absurd (unready tagged refl)
unready_undone mode journal c (Refused verdict) unready h = h.undone
unready_undone mode journal c (Ended why) unready h = h.undone
unready_undone mode journal c Unsent unready h = h.undone
