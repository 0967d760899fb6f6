-- What a log gains by calls one after the other, and what is told where something is told.
use Rattle.std.proofs.Common.{◌≡◌, subst}
use Rattle.std.specs.Prelude.{Option, Some, None, IfSome}
pub use Rattle.ann_outside.proofs.Gains.{gained_nothing, gained_more, gained_call, gained_without}

pub if_told : {A : Type 0} {P Q : A → Type 0} (told : Option A) → ((x : A) → P x → Q x) → IfSome told P → IfSome told Q
if_told None f h = tt
if_told (Some x) f h = f x h

pub both_told : {A : Type 0} {P Q R : A → Type 0} (told : Option A) → ((x : A) → P x → Q x → R x) → IfSome told P → IfSome told Q → IfSome told R
both_told None f h k = tt
both_told (Some x) f h k = f x h k

pub all_told : {A : Type 0} {P : A → Type 0} (told : Option A) → ((x : A) → P x) → IfSome told P
all_told None f = tt
all_told (Some x) f = f x

-- the same is told under another name
pub told_as : {A : Type 0} (P : A → Type 0) (a b : Option A) → a ≡ b → IfSome a P → IfSome b P
told_as {A} P a b e h = subst (λ (o : Option A). IfSome o P) e h
