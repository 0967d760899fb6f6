-- Asking goes on: without a call, and by one call after another.
use Rattle.std.specs.Prelude.{ℕ, ◌≡◌, Bool, List}
use Rattle.std.proofs.Common.{refl, sym, subst, ◌∙◌}
use Rattle.journal_model.specs.declared.entry.Entry.{Entry}
use Rattle.journal_model.specs.declared.opening.Opening.{Opening}
use Rattle.child_link.specs.Doors.{DoorView}
use Rattle.child_link.proofs.Roles.{moved_both, moved_still, same_both}
use Rattle.crew_work.specs.Beside.Jobs.{JobsGo, JobsOn, MayAsk}

module _ (o : Opening) (n : ℕ) (a : Bool) (c t : ℕ) (o' : Opening) (m : ℕ) (b : Bool) (d u : ℕ) (eo : o' ≡ o) (en : m ≡ n) (ea : b ≡ a) (ec : d ≡ c) (et : u ≡ t) where
  on_so : (y z : List Entry) → JobsOn o' m b y z d u → JobsOn o n a y z c t
  on_so y z k =
      subst (λ (w : Opening). JobsOn w n a y z c t) eo
      (subst (λ (w : ℕ). JobsOn o' w a y z c t) en
      (subst (λ (w : Bool). JobsOn o' m w y z c t) ea
      (subst (λ (w : ℕ). JobsOn o' m b y z w t) ec (subst (λ (w : ℕ). JobsOn o' m b y z d w) et k))))

pub jobs_still : {H : Type 0} (door : DoorView H) (c t : ℕ) → MayAsk door.opening door.number t door.seen → JobsGo door door c c t t
jobs_still door c t may = record {
  door = record { opening = refl; number = refl; alone = refl; loans = refl; home = refl; legal = λ h. h };
  child = refl;
  task = refl;
  on = record { may = may; grows = moved_still refl (λ p. p) };
}

module _ {H : Type 0} (x y : DoorView H) (c d t u : ℕ) where
  pub jobs_ready : JobsGo x y c d t u → MayAsk y.opening y.number u y.seen
  jobs_ready s =
      subst (λ (w : Opening). MayAsk w y.number u y.seen) (sym s.door.opening)
      (subst (λ (w : ℕ). MayAsk x.opening w u y.seen) (sym s.door.number) (subst (λ (w : ℕ). MayAsk x.opening x.number w y.seen) (sym s.task) s.on.may))

  pub jobs_behind : (z : DoorView H) (e k : ℕ) → JobsGo x y c d t u → JobsGo y z d e u k → JobsGo x z c e t k
  jobs_behind z e k s r = record {
    door = same_both s.door r.door;
    child = r.child ∙ s.child;
    task = r.task ∙ s.task;
    on = record { may = next.may; grows = moved_both refl refl s.on.grows next.grows };
  }
    where
      next : JobsOn x.opening x.number x.alone y.seen z.seen c t
      next = on_so x.opening x.number x.alone c t y.opening y.number y.alone d u s.door.opening s.door.number s.door.alone s.child s.task y.seen z.seen r.on
