-- What a pass has seen, once it told the core something.
use Rattle.std.proofs.Common.{◌≡◌, ◌≢◌, ◌⊎◌, inl, inr, ℕ, ◌+◌, List, [], ◌∷◌, ◌++◌, refl, sym, ap, subst, ◌∙◌, Bool, true, false, Some, None, Option, Result, Ok, Err, IfOk, OnErr, IfSome, IfNone, IsSome}
use Rattle.std.specs.Result.{result_ok}
use Rattle.threads.specs.declared.view.Link.{Link}
use Rattle.threads.specs.Log.{flat, NotBy, Allowed, Legal as LegalLog}
use Rattle.threads.specs.Passes.{IsPassOf, HasEntered, seen_of}
use Rattle.kit_async_model.specs.declared.setup.Setup.{Setup}
use Rattle.kit_async_model.specs.declared.entry.Entry.{Entry}
use Rattle.kit_async_model.specs.declared.event.Event.{Event}
use Rattle.kit_async_model.specs.declared.event.Reply.{Reply}
use Rattle.kit_async_model.specs.Events.{IsMadeBy, MayStep}
use Rattle.kit_async_model.specs.Legality.{Legal}
use Rattle.kit_async_core.specs.Halls.{KitHall, KitPass}
use Rattle.kit_async_core.proofs.KitHalls.{legal_log}
use Rattle.kit_async.specs.Work.Passes.{Stands, Enters}

-- it has seen the others' groups, and then its own
pub before_own : (h : KitHall) (p q : KitPass) (event : Event) (reply : Reply) → Legal h.fixed (seen_of p) → (e : Enters h p q event reply) → Legal h.fixed (seen_of p ++ flat e.between)
before_own h p q event reply l e = legal_log h.fixed (seen_of p) e.between e.between_legal l

pub entered_legal : (h : KitHall) (p q : KitPass) (event : Event) (reply : Reply) → Enters h p q event reply → Legal h.fixed (seen_of q)
entered_legal h p q event reply e = subst (Legal h.fixed) (sym e.seen) e.own.1.legal

pub stands_still : (h : KitHall) (n : ℕ) (p q : KitPass) → Stands h n p → q ≡ p → Stands h n q
stands_still h n p q s same = subst (Stands h n) (sym same) s

-- after a step that may have failed
pub stands_on : (h : KitHall) (n : ℕ) (p q : KitPass) → Stands h n p → Stands h p.number q → Stands h n q
stands_on h n p q s t = subst (λ (m : ℕ). Stands h m q) s.number_is t

-- the same by the number
pub numbered : (h : KitHall) (n : ℕ) (p : KitPass) → Stands h n p → Stands h p.number p
numbered h n p s = subst (λ (m : ℕ). Stands h m p) (sym s.number_is) s

-- what the hall says of a step, whether or not memory was found for it
pub entered_stands : {E : Type 0} (h : KitHall) (p q : KitPass) (event : Event) (result : Result Reply E) → Stands h p.number p → IsPassOf h q × (q.number ≡ p.number)
    → IfOk result (Enters h p q event) → OnErr result (q ≡ p) → Stands h p.number q
entered_stands h p q event (Ok reply) s own ok err = record { pass = own.0; number_is = own.1; legal = entered_legal h p q event reply ok }
entered_stands h p q event (Err e) s own ok err = stands_still h p.number p q s err

-- a step that needs no memory was answered
pub answered : (h : KitHall) (p q : KitPass) (event : Event) (o : Option Reply) → IsSome o → IfSome o (Enters h p q event) → (reply : Reply) × Enters h p q event reply
answered h p q event None some e = cc
answered h p q event (Some reply) some e = (reply, e)

-- ---- what is left of a result

pub ok_some : {A E : Type 0} (o : Option A) (result : Result A E) (P : A → Type 0) → o ≡ result_ok result → IfOk result P → IfSome o P
ok_some {A = A} o (Ok x) P e k = subst (λ (p : Option A). IfSome p P) (sym e) k
ok_some {A = A} o (Err x) P e k = subst (λ (p : Option A). IfSome p P) (sym e) tt

pub ok_none : {A E : Type 0} (o : Option A) (result : Result A E) (P : Type 0) → o ≡ result_ok result → OnErr result P → IfNone o P
ok_none {A = A} o (Ok x) P e k = subst (λ (p : Option A). IfNone p P) (sym e) tt
ok_none {A = A} o (Err x) P e k = subst (λ (p : Option A). IfNone p P) (sym e) k
