-- Each entry of a step has the number that made the step.
use Rattle.std.proofs.Common.{ℕ, List, [], ◌∷◌, ◌<◌, ◌^◌, refl, sym, subst, inl, inr, length}
use Rattle.std.specs.Prelude.{All}
use Rattle.std.proofs.lemmas.List.Elements.{All-nil, All-cons}
use Rattle.journal_model.specs.declared.entry.What.{What}
use Rattle.journal_model.specs.declared.entry.What.TheVariants.{Lead, Ask}
use Rattle.journal_model.specs.declared.entry.Entry.{Entry}
use Rattle.journal_model.specs.declared.opening.Opening.{Opening}
use Rattle.journal_model.specs.Due.{made_by, due_after}
use Rattle.host_core.specs.declared.event.Event.{Event}
use Rattle.host_core.specs.Steps.{Step, step_of, group_of}
use Rattle.host_core.specs.Mays.{IsMadeBy}
use Rattle.host_core.proofs.Stepping.{Came, step_came}

pub made_all : (by : ℕ) (ws : List What) → All (IsMadeBy by) (made_by by ws)
made_all by [] = All-nil (IsMadeBy by)
made_all by (w ∷ ws) = All-cons (IsMadeBy by) (record { by = by; what = w }) (made_by by ws) refl (made_all by ws)

pub group_made : (o : Opening) (past : List Entry) (by : ℕ) (w : What) → All (IsMadeBy by) (group_of o past by w)
group_made o past by w =
    All-cons (IsMadeBy by) (record { by = by; what = w }) (due_after o past (record { by = by; what = w })) refl (made_all by _)

pub step_made : (o : Opening) (past : List Entry) (by : ℕ) (event : Event) → length past < 2 ^ 64 → All (IsMadeBy by) (step_of o past by event).group
step_made o past by event few = go (step_of o past by event) (step_came o past by event few)
  where
    go : (s : Step) → Came o past by s → All (IsMadeBy by) s.group
    go s (inl none) = subst (All (IsMadeBy by)) (sym none) (All-nil (IsMadeBy by))
    go s (inr (inl some)) = subst (All (IsMadeBy by)) (sym some.2) (group_made o past by some.0)
    go s (inr (inr named)) =
        subst (All (IsMadeBy by)) (sym named.is) (made_all by (Lead named.child named.job named.name ∷ Ask named.child named.job named.task named.line ∷ []))
