-- What several crates above this one use.
use Rattle.std.proofs.Common.{◌∙◌, inl, inr, Some, None, Option, ℕ, List, [], ◌∷◌, Bool, sym, append-nil, ◌+◌, ◌++◌, ap, append_assoc}
use Rattle.ann_outside.specs.Causes.{Stays, AddsOne}
use Rattle.ann_outside.specs.Starts.{Starts}
use Rattle.ann_outside.specs.Told.{ProgramsTold}
use Rattle.journal_model.specs.declared.entry.Entry.{Entry}
use Rattle.child_link.specs.Wires.{WireValue}
use Rattle.child_life.specs.End.Programs.{AddsAll, HaveStarted, Leaves}
use Rattle.std.specs.Prelude.{◌-◌}

pub adds_stay : (a b c : Option Starts) (xs : Starts) → AddsAll a b xs → Stays b c → AddsAll a c xs
adds_stay None None None xs h k = tt
adds_stay None None (Some zs) xs h k = absurd k
adds_stay None (Some ys) c xs h k = absurd h
adds_stay (Some us) None c xs h k = absurd h
adds_stay (Some us) (Some vs) None xs h k = absurd k
adds_stay (Some us) (Some vs) (Some ws) xs h k = k ∙ h

pub adds_one : (a b : Option Starts) (x : List ℕ × Bool) → AddsOne a b x → AddsAll a b (x ∷ [])
adds_one None None x h = tt
adds_one None (Some ys) x h = absurd h
adds_one (Some xs) None x h = absurd h
adds_one (Some xs) (Some ys) x h = h

pub adds_none : (t : Option Starts) → AddsAll t t []
adds_none None = tt
adds_none (Some xs) = sym (append-nil xs)

pub adds_both : (a b c : Option Starts) (xs ys : Starts) → AddsAll a b xs → AddsAll b c ys → AddsAll a c (xs ++ ys)
adds_both None None None xs ys h k = tt
adds_both None None (Some zs) xs ys h k = absurd k
adds_both None (Some bs) c xs ys h k = absurd h
adds_both (Some us) None c xs ys h k = absurd h
adds_both (Some us) (Some vs) None xs ys h k = absurd k
adds_both (Some us) (Some vs) (Some ws) xs ys h k = k ∙ ap (λ (l : Starts). l ++ ys) h ∙ append_assoc us xs ys

-- what stands for the running out of memory is named otherwise
pub leaves_if : {V W : Type 0} {program : List ℕ} {journal : List Entry} {before after : ProgramsTold} {wires : List WireValue} → (V → W) → Leaves V program journal before after wires → Leaves W program journal before after wires
leaves_if {V} {W} {program} {journal} {before} {after} f h = record { wired = h.wired; started = go h.started; faults = h.faults }
  where
    go : HaveStarted V program journal before.starts after.starts → HaveStarted W program journal before.starts after.starts
    go (inl all) = inl all
    go (inr more) = inr (f more.0, more.1)
