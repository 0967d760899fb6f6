-- What comes of a check.
use Rattle.ann_outside.specs.Told.{ProgramsTold}
use Rattle.std.proofs.Common.{◌≡◌, ◌∙◌, ℕ, List, refl, sym, ap, subst, Option}
use Rattle.journal_model.specs.declared.answer.Answer.{Answer}
use Rattle.journal_model.specs.declared.entry.Entry.{Entry}
use Rattle.child_link.specs.Wires.{WireValue}
use Rattle.child_life.specs.End.Programs.{Leaves}
use Rattle.child_life.specs.End.Outsides.{OutsideValue}
use Rattle.run_and_check.specs.declared.check.made.CheckEnd.{CheckEnd}
use Rattle.run_and_check.specs.declared.check.made.CheckEnd.TheVariants as C
use Rattle.run_and_check.specs.Check.Checks.{EndsCheck as HasEnded, HasChecked as HasMade, IsChecked, MadeValue}
use Rattle.special_cli.specs.declared.end.End.{End}
use Rattle.special_cli.specs.Left.{Left, RanValue}
use Rattle.special_cli.specs.Commands.{EndsCheck, HasChecked, HasNoDesk, end_of_check}
use Rattle.run_starts.proofs.OnceLemmas.Leaving.{leaves_as}

ends_as : (left : Left) (made : MadeValue) → left.journal ≡ made.journal → left.answers ≡ made.answers → HasEnded made.journal made.answers made.end → EndsCheck left (end_of_check made.end)
ends_as left made ej ea h = go made.end (subst (λ (j : List Entry). HasEnded j left.answers made.end) (sym ej) (subst (λ (xs : List Answer). HasEnded made.journal xs made.end) (sym ea) h))
  where
    go : (end : CheckEnd) → HasEnded left.journal left.answers end → EndsCheck left (end_of_check end)
    go C.Answered h = h
    go C.Memory h = h

-- what it made is left
pub has_checked : (clock : Option ℕ) (program key : List ℕ) (programs : ProgramsTold) (value made : MadeValue) (before : OutsideValue) (ran : RanValue) → HasMade clock program key programs ran.left.outside.programs value → made ≡ value → before.programs ≡ programs
    → ran.left.journal ≡ made.journal → ran.left.answers ≡ made.answers → ran.left.wires ≡ made.wires → ran.end ≡ end_of_check made.end → HasNoDesk before ran.left → HasChecked clock program key before ran
has_checked clock program key programs value made before ran its same begun ej ea ew ee desks = record {
  checked = subst (λ (j : List Entry). IsChecked clock key j) (sym ej) h.checked;
  ends = subst (λ (x : End). EndsCheck ran.left x) (sym ee) (ends_as ran.left made ej ea h.ends);
  objects = leaves_as (λ (e : made.end ≡ C.Memory). ee ∙ ap end_of_check e) ej begun (subst (λ (ws : List WireValue). Leaves (made.end ≡ C.Memory) program made.journal programs ran.left.outside.programs ws) (sym ew) h.objects);
  desks = desks;
}
  where
    h : HasMade clock program key programs ran.left.outside.programs made
    h = subst (HasMade clock program key programs ran.left.outside.programs) (sym same) its
