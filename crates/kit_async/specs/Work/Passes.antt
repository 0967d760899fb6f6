-- What a pass of a kit's hall is to the role that holds it.
use Rattle.std.specs.Prelude.{ℕ, ◌≡◌, Bool, true, false, Option, None}
use Rattle.threads.specs.Passes.{IsPassOf, HasEntered, seen_of}
use Rattle.kit_async_model.specs.declared.event.Event.{Event}
use Rattle.kit_async_model.specs.declared.event.Reply.{Reply}
use Rattle.kit_async_model.specs.Events.{IsMadeBy, MayStep}
use Rattle.kit_async_model.specs.Legality.{Legal}
use Rattle.kit_async_core.specs.Halls.{KitHall, KitPass}
use Rattle.kit_async.specs.declared.work.why.Why.{Why}
use Rattle.kit_async.specs.declared.work.turn.Turn.{Turn}
use Rattle.kit_async.specs.declared.work.turn.Turn.TheVariants.{Went, Rests, Over}

-- it is the hall's, has that number, and what it has seen is legal
pub record Stands (h : KitHall) (number : ℕ) (p : KitPass) : Type 0 where
  pub pass : IsPassOf h p
  pub number_is : p.number ≡ number
  pub legal : Legal h.fixed (seen_of p)

-- it told the core that, and the core answered so
abbrev pub Enters : KitHall → KitPass → KitPass → Event → Reply → Type 0
Enters h p q event reply = HasEntered IsMadeBy MayStep h p q event reply

-- ---- turns

-- why the role ended by itself, if it did
abbrev pub why_of : Turn → Option Why
why_of Went = None
why_of Rests = None
why_of (Over why) = why

-- something was done, and more may be
abbrev pub has_gone : Turn → Bool
has_gone Went = true
has_gone turn = false

-- there is nothing to do now
abbrev pub is_rest : Turn → Bool
is_rest Rests = true
is_rest turn = false

-- what came of two turns
abbrev pub both_turns : Turn → Turn → Turn
both_turns Went other = Went
both_turns Rests other = other
both_turns (Over why) Went = Went
both_turns (Over why) other = Over why
