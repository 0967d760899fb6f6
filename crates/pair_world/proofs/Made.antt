-- A move that can't be made.
use Rattle.std.proofs.Common.{ℕ, ◌≡◌, Bool, true, false, List, [], ◌++◌, refl, sym, ap, subst, ◌∙◌, append-nil}
use Rattle.std.specs.Prelude.{◌||◌}
use Rattle.journal_model.specs.declared.entry.Entry.{Entry}
use Rattle.host_core.specs.declared.event.Event.{Event}
use Rattle.host_core.specs.declared.event.Reply.{Reply}
use Rattle.host_core.specs.declared.event.Reply.TheVariants.{Odd}
use Rattle.journal_model.specs.declared.opening.Opening.{Opening}
use Rattle.host_core.specs.Steps.{step_of, shut_by}
use Rattle.pair_world.specs.declared.step.Moved.TheVariants.{Not}
use Rattle.pair_kit.specs.Worlds.{WorldValue}
use Rattle.pair_world.specs.Moves.{IsMade, DoesEvent, is_barred, is_odd, reply_to}
use Rattle.pair_world.proofs.Journals.{odd_stays}

pub not_made : (b : Bool) (old new : WorldValue) (Does : Reply → WorldValue → Type 0) → b ≡ true → new ≡ old → IsMade b old Does Not new
not_made true old new Does e is = is
not_made false old new Does e is = cc

-- an odd event leaves the world as it was
odd_not_made : (old new : WorldValue) (by : ℕ) (event : Event) → is_odd (reply_to old by event) ≡ true
    → new ≡ record old { journal = old.journal ++ (step_of old.opening old.journal by event).group; shut = shut_by by event old.shut }
    → IsMade (is_barred event || is_odd (reply_to old by event)) old (DoesEvent old by event) Not new
odd_not_made old new by event odd is =
    let s = odd_stays old.opening old.journal by old.shut event odd in
    not_made (is_barred event || is_odd (reply_to old by event)) old new (DoesEvent old by event) (ap (λ (b : Bool). is_barred event || b) odd ∙ or_true (is_barred event))
    (is ∙ ap (λ (g : List Entry). let w : WorldValue = record old { journal = old.journal ++ g; shut = shut_by by event old.shut } in w) s.0
    ∙ ap (λ (b : Bool). let w : WorldValue = record old { journal = old.journal ++ []; shut = b } in w) s.1
    ∙ ap (λ (j : List Entry). let w : WorldValue = record old { journal = j } in w) (append-nil old.journal))
  where
    or_true : (b : Bool) → (b || true) ≡ true
    or_true true = refl
    or_true false = refl

pub odd_event : (view w new : WorldValue) (by : ℕ) (event : Event) (reply : Reply) → view ≡ w → reply ≡ reply_to view by event → reply ≡ Odd
    → new.opening ≡ view.opening → new.journal ≡ view.journal ++ (step_of view.opening view.journal by event).group → new.shut ≡ shut_by by event view.shut
    → new ≡ record view { opening = new.opening; journal = new.journal; shut = new.shut }
    → IsMade (is_barred event || is_odd (reply_to w by event)) w (DoesEvent w by event) Not new
odd_event view w new by event reply same is odd opening journal shut kept =
    subst (λ (v : WorldValue). IsMade (is_barred event || is_odd (reply_to v by event)) v (DoesEvent v by event) Not new) same
    (odd_not_made view new by event (ap is_odd (sym is ∙ odd))
    (kept ∙ ap (λ (o : Opening). let x : WorldValue = record view { opening = o; journal = new.journal; shut = new.shut } in x) opening
    ∙ ap (λ (j : List Entry). let x : WorldValue = record view { journal = j; shut = new.shut } in x) journal
    ∙ ap (λ (b : Bool). let x : WorldValue = record view { journal = view.journal ++ (step_of view.opening view.journal by event).group; shut = b } in x) shut))
