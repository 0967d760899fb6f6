-- What holds of every hall of a kit's core.
use Rattle.std.specs.Prelude.{ℕ, ◌≡◌, ◌+◌, true, List, [], ◌∷◌, ◌++◌, slice_get, Some}
use Rattle.kit_serve.specs.declared.kit.call.Said.{Said}
use Rattle.kit_serve.specs.declared.kit.call.Asked.{Asked}
use Rattle.kit_serve.specs.Kit.Calls.{is_line_said, plain}
use Rattle.threads.specs.Passes.{HasClosed, HasEntered, IsPassOf, seen_of}
use Rattle.kit_async_model.specs.declared.setup.Setup.{Setup}
use Rattle.kit_async_model.specs.declared.entry.Entry.{Entry}
use Rattle.kit_async_model.specs.declared.event.Event.{Event}
use Rattle.kit_async_model.specs.declared.event.Event.TheVariants.{Take as TakeUp, Called}
use Rattle.kit_async_model.specs.declared.event.Reply.{Reply}
use Rattle.kit_async_model.specs.declared.event.Reply.TheVariants.{Work}
use Rattle.kit_async_model.specs.Events.{IsMadeBy, MayStep}
use Rattle.kit_async_model.specs.Callings.{IsAsked, calls_of}
use Rattle.kit_async_model.specs.Legality.{Legal, IsFinished}
use Rattle.kit_async_model.specs.Lines.{heard_lines, hears}
use Rattle.kit_async_model.specs.Standings.{standing}
use Rattle.kit_async_core.specs.Halls.{KitHall, KitPass}

-- however many passes step a core in whatever turns, its journal is legal when the hall is closed
abbrev pub HallsStayLegal : Type 0
HallsStayLegal =
    (h : KitHall) (passes : List KitPass) (final : List Entry) (fixed : Setup) → HasClosed IsMadeBy MayStep h passes final fixed
    → Legal h.fixed h.start → Legal h.fixed final × (fixed ≡ h.fixed)

-- What a pass has seen to be finished is so when the hall is closed: so once the writer has nothing more to write, nothing is left to
-- be written, nor to be said.
abbrev pub FinalIsFinished : Type 0
FinalIsFinished =
    (h : KitHall) (passes : List KitPass) (final : List Entry) (fixed : Setup) (i : ℕ) (p : KitPass) → HasClosed IsMadeBy MayStep h passes final fixed
    → slice_get passes i ≡ Some p → IsPassOf h p → Legal h.fixed h.start
    → IsFinished h.fixed (standing h.fixed (seen_of p)) → IsFinished h.fixed (standing h.fixed final)

-- what a reader sees as heard is what it told and the core took: nobody else hears
abbrev pub ReadersHear : Type 0
ReadersHear =
    (h : KitHall) (before after : KitPass) (event : Event) (reply : Reply) → before.number ≡ 1 → HasEntered IsMadeBy MayStep h before after event reply
    → heard_lines (seen_of after) ≡ heard_lines (seen_of before) ++ hears event reply

-- and when the hall is closed, the journal's lines are those that the reader has seen
abbrev pub FinalIsHeard : Type 0
FinalIsHeard =
    (h : KitHall) (passes : List KitPass) (final : List Entry) (fixed : Setup) (i : ℕ) (p : KitPass) → HasClosed IsMadeBy MayStep h passes final fixed
    → slice_get passes i ≡ Some p → IsPassOf h p → p.number ≡ 1 → heard_lines final ≡ heard_lines (seen_of p)

-- a remote that is told to work is to be called for that
abbrev pub RemotesAreAsked : Type 0
RemotesAreAsked =
    (h : KitHall) (before after : KitPass) (remote : ℕ) (asked : Asked) → before.number ≡ remote + 3 → Legal h.fixed (seen_of before)
    → HasEntered IsMadeBy MayStep h before after TakeUp (Work asked)
    → IsAsked h.fixed (standing h.fixed (seen_of after)) remote asked × (calls_of h.fixed remote (seen_of after) ≡ calls_of h.fixed remote (seen_of before))

-- and whatever others did since, what it says to that is noted as its next call, to get ready as a prepare for both requests
abbrev pub CallsAreNoted : Type 0
CallsAreNoted =
    (h : KitHall) (before after : KitPass) (remote : ℕ) (said : Said) (asked : Asked) (reply : Reply) → before.number ≡ remote + 3 → Legal h.fixed (seen_of before)
    → IsAsked h.fixed (standing h.fixed (seen_of before)) remote asked → is_line_said said ≡ true → HasEntered IsMadeBy MayStep h before after (Called said) reply
    → calls_of h.fixed remote (seen_of after) ≡ calls_of h.fixed remote (seen_of before) ++ record { asked = plain asked; said = said } ∷ []
