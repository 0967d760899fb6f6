-- Serving goes on: without a call, and by one call after another.
use Rattle.std.specs.Prelude.{ℕ, ◌≡◌, Bool, List}
use Rattle.std.proofs.Common.{refl, sym, subst, ◌∙◌}
use Rattle.journal_model.specs.declared.entry.Entry.{Entry}
use Rattle.journal_model.specs.declared.opening.Opening.{Opening}
use Rattle.journal_model.specs.Halves.{EarValue, MouthValue}
use Rattle.child_link.specs.Writings.{LoneWired}
use Rattle.child_link.specs.Doors.{DoorView}
use Rattle.child_link.proofs.Roles.{moved_both, moved_still, same_both}
use Rattle.crew_work.specs.Worker.Servings.{AskerGoes, Serves, ServesOn}

module _ (o : Opening) (n : ℕ) (a : Bool) (c t : ℕ) (o' : Opening) (m : ℕ) (b : Bool) (d u : ℕ) (eo : o' ≡ o) (en : m ≡ n) (ea : b ≡ a) (ec : d ≡ c) (et : u ≡ t) where
  serves_so : (seen : List Entry) → Serves o n a c t seen → Serves o' m b d u seen
  serves_so seen s =
      subst (λ (w : Opening). Serves w m b d u seen) (sym eo)
      (subst (λ (w : ℕ). Serves o w b d u seen) (sym en)
      (subst (λ (w : Bool). Serves o n w d u seen) (sym ea)
      (subst (λ (w : ℕ). Serves o n a w u seen) (sym ec) (subst (λ (w : ℕ). Serves o n a c w seen) (sym et) s))))

  on_so : (y z : List Entry) (Q R : Type 0) → ServesOn o' m b d u y z Q R → ServesOn o n a c t y z Q R
  on_so y z Q R k =
      subst (λ (w : Opening). ServesOn w n a c t y z Q R) eo
      (subst (λ (w : ℕ). ServesOn o' w a c t y z Q R) en
      (subst (λ (w : Bool). ServesOn o' m w c t y z Q R) ea
      (subst (λ (w : ℕ). ServesOn o' m b w t y z Q R) ec (subst (λ (w : ℕ). ServesOn o' m b d w y z Q R) et k))))

pub goes_still : {H : Type 0} (door : DoorView H) (ear : EarValue) (mouth : MouthValue) (t : ℕ) → Serves door.opening door.number door.alone ear.child t door.seen
    → AskerGoes door door ear ear mouth mouth t t
goes_still door ear mouth t s = record {
  door = record { opening = refl; number = refl; alone = refl; loans = refl; home = refl; legal = λ h. h };
  link = ((refl, refl), (refl, refl));
  task = refl;
  on = record { serves = s; moved = moved_still refl (λ p. p) };
}

module _ {H : Type 0} (x y : DoorView H) (e f : EarValue) (m w : MouthValue) (t u : ℕ) where
  pub goes_ready : AskerGoes x y e f m w t u → Serves y.opening y.number y.alone f.child u y.seen
  goes_ready s =
      serves_so x.opening x.number x.alone e.child t y.opening y.number y.alone f.child u s.door.opening s.door.number s.door.alone s.link.0.0 s.task y.seen s.on.serves

  pub goes_behind : (z : DoorView H) (g : EarValue) (v : MouthValue) (k : ℕ) → AskerGoes x y e f m w t u → AskerGoes y z f g w v u k → AskerGoes x z e g m v t k
  goes_behind z g v k s r = record {
    door = same_both s.door r.door;
    link = ((r.link.0.0 ∙ s.link.0.0, r.link.0.1 ∙ s.link.0.1), (r.link.1.0 ∙ s.link.1.0, r.link.1.1 ∙ s.link.1.1));
    task = r.task ∙ s.task;
    on = record { serves = next.serves; moved = moved_both refl refl s.on.moved next.moved };
  }
    where
      next : ServesOn x.opening x.number x.alone e.child t y.seen z.seen (LoneWired y.seen f w) (LoneWired z.seen g v)
      next =
          on_so x.opening x.number x.alone e.child t y.opening y.number y.alone f.child u s.door.opening s.door.number s.door.alone s.link.0.0 s.task y.seen z.seen
          (LoneWired y.seen f w) (LoneWired z.seen g v) r.on
