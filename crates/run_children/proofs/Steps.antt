-- What one start of slot 0 more makes of a run and of its objects, however it ends.
use Rattle.ann_outside.specs.Told.{DeskTold, ProgramsTold}
use Rattle.std.proofs.Common.{◌≡◌, ℕ, ◌+◌, ◌<◌, ◌≤◌, List, subst, Bool, true, false, arith, inl, inr}
use Rattle.journal_model.specs.declared.entry.Entry.{Entry}
use Rattle.journal_model.specs.declared.opening.Opening.{Opening}
use Rattle.journal_model.specs.Legality.{Legal}
use Rattle.child_link.specs.Wires.{WireValue}
use Rattle.task_model.specs.declared.setup.Setup.{Setup}
use Rattle.run_starts.specs.Stints.{Kept, MayHaveAsked}
use Rattle.run_children.specs.Starts.{JobsBetween, RunLacksMemory, OneJobStart}
use Rattle.run_children.proofs.Between.{between_kept, earlier_apart, few_of, jobs_next, tail}
use Rattle.run_children.proofs.Objects.{kept_kept, kept_more}

-- one start more, of a core under another name
pub next_job_start : (o p : Opening) (setup : Setup) (may : Bool) (limit made : ℕ) (offer next whole : Bool) (program : List ℕ) (old new : List Entry) (desks0 desks desks' : List DeskTold) (start before after : ProgramsTold) (wires wires' : List WireValue)
    → p ≡ o → JobsBetween o setup may limit made offer old desks0 desks true → Kept program old start before wires → OneJobStart p setup limit offer next whole program old new desks desks' before after wires wires' → Legal o new
    → JobsBetween o setup may limit (made + 1) next new desks0 desks' whole × Kept program new start after wires'
next_job_start o p setup may limit made offer next whole program old new desks0 desks desks' start before after wires wires' same_opening b k one legal =
    go (subst (λ (q : Opening). OneJobStart q setup limit offer next whole program old new desks desks' before after wires wires') same_opening one)
  where
    go : OneJobStart o setup limit offer next whole program old new desks desks' before after wires wires' → JobsBetween o setup may limit (made + 1) next new desks0 desks' whole × Kept program new start after wires'
    go (first, s, objects) = (jobs_next s b legal, kept_more k (few_of o old b.legal) new (tail s) after wires' s.is (earlier_apart s) objects)

-- no memory was found: the run so far
pub broken_started : (o p : Opening) (setup : Setup) (may : Bool) (limit made : ℕ) (offer : Bool) (program : List ℕ) (old new : List Entry) (desks0 desks desks' : List DeskTold) (before after : ProgramsTold) (wires wires' : List WireValue)
    → p ≡ o → JobsBetween o setup may limit made offer old desks0 desks true → RunLacksMemory p setup limit offer program old new desks desks' before after wires wires' → Legal o new → made < limit
    → (all : ℕ) × (last : Bool) × (whole : Bool) × JobsBetween o setup may limit all last new desks0 desks' whole × (all ≤ limit) × Unit {0}
broken_started o p setup may limit made offer program old new desks0 desks desks' before after wires wires' same_opening b (inl n) legal below =
    (made, offer, true, between_kept new desks' n.journal n.desks_are b, omega (arith, below), tt)
broken_started o p setup may limit made offer program old new desks0 desks desks' before after wires wires' same_opening b (inr (next, mid, one, asked)) legal below =
    go (subst (λ (q : Opening). OneJobStart q setup limit offer next false program old new desks desks' before mid wires wires') same_opening one)
  where
    go : OneJobStart o setup limit offer next false program old new desks desks' before mid wires wires' → (all : ℕ) × (last : Bool) × (whole : Bool) × JobsBetween o setup may limit all last new desks0 desks' whole × (all ≤ limit) × Unit {0}
    go (first, s, objects) = (made + 1, next, false, jobs_next s b legal, omega (arith, below), tt)

-- and its objects
pub broken_kept : (o p : Opening) (setup : Setup) (may : Bool) (limit made : ℕ) (offer : Bool) (program : List ℕ) (old new : List Entry) (desks0 desks desks' : List DeskTold) (start before after : ProgramsTold) (wires wires' : List WireValue)
    → p ≡ o → JobsBetween o setup may limit made offer old desks0 desks true → Kept program old start before wires → RunLacksMemory p setup limit offer program old new desks desks' before after wires wires'
    → (mid : ProgramsTold) × Kept program new start mid wires' × MayHaveAsked program mid after
broken_kept o p setup may limit made offer program old new desks0 desks desks' start before after wires wires' same_opening b k (inl n) = (before, kept_kept new wires' n.journal n.wires_are k, n.asked)
broken_kept o p setup may limit made offer program old new desks0 desks desks' start before after wires wires' same_opening b k (inr (next, mid, one, asked)) =
    go (subst (λ (q : Opening). OneJobStart q setup limit offer next false program old new desks desks' before mid wires wires') same_opening one)
  where
    go : OneJobStart o setup limit offer next false program old new desks desks' before mid wires wires' → (some : ProgramsTold) × Kept program new start some wires' × MayHaveAsked program some after
    go (first, s, objects) = (mid, kept_more k (few_of o old b.legal) new (tail s) mid wires' s.is (earlier_apart s) objects, asked)
