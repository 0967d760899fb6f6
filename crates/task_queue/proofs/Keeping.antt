-- The tables of groups stay right, and the next of a group is ready.
use Rattle.std.proofs.Common.{◌≡◌, ◌∙◌, ℕ, ◌<◌, ◌≤◌, ◌⊎◌, Vec, List, refl, sym, ap, subst, Bool, true, false, length, set, min, arith, inl, inr}
use Rattle.std.specs.declared.alloc.Global.{Global}
use Rattle.std.proofs.lemmas.List.{length-set}
use Rattle.task_queue.specs.declared.groups.Groups.{Groups}
use Rattle.task_queue.specs.Groups.{AreFirsts, IsFirst, is_set, number_at}
use Rattle.task_queue.specs.Held.{HasReadyBefore, IsHandedOn}
use Rattle.task_queue.specs.Kept.{AreKept}
use Rattle.task_queue.proofs.Grouping.{firsts_claimed, firsts_let_go, firsts_renewed}
use Rattle.task_queue.proofs.Places.{marked, marked_from, set_here}

pub up : (a b : List Bool) (t : ℕ) → a ≡ b → is_set a t ≡ true → is_set b t ≡ true
up a b t e h = ap (λ (l : List Bool). is_set l t) (sym e) ∙ h

-- ---- the tables

pub claimed_kept : (g : Groups) (claimed : List Bool) (u : ℕ) → AreKept claimed g → AreKept (set claimed u true) g
claimed_kept g claimed u are = record {
  long = are.long ∙ sym (length-set claimed u true);
  within = are.within;
  next = are.next;
  firsts = firsts_claimed g.of.items g.firsts.items claimed u are.firsts;
}

pub called_kept : (g : Groups) (firsts : Vec ℕ Global) (claimed : List Bool) (group first : ℕ) → firsts.items ≡ set g.firsts.items group first → IsFirst g.of.items claimed group 0 first
    → AreKept claimed g → AreKept claimed (record g { firsts = firsts })
called_kept g firsts claimed group first is found are = record {
  long = are.long;
  within = are.within;
  next = are.next;
  firsts = subst (AreFirsts g.of.items claimed) (sym is) (firsts_let_go g.of.items g.firsts.items claimed group first found are.firsts);
}

pub reopened_kept : (g : Groups) (firsts : Vec ℕ Global) (claimed : List Bool) (u : ℕ) → u < length claimed
    → firsts.items ≡ set g.firsts.items (number_at g.of.items u) (min (number_at g.firsts.items (number_at g.of.items u)) u)
    → AreKept claimed g → AreKept (set claimed u false) (record g { firsts = firsts })
reopened_kept g firsts claimed u within is are = record {
  long = are.long ∙ sym (length-set claimed u false);
  within = are.within;
  next = are.next;
  firsts = subst (AreFirsts g.of.items (set claimed u false)) (sym is) (firsts_renewed g.of.items g.firsts.items claimed u (omega (arith, within, are.long)) are.within are.firsts);
}

-- ---- the next of a group is ready

after : (v t : ℕ) → v ≤ t → (v ≡ t) ⊎ (v < t)
after v t more = grind arith

pub handed_on : (groups : List ℕ) (claimed : List Bool) (group low v : ℕ) (held : Bool) (old new : List Bool) → IsFirst groups claimed group low v → is_set claimed v ≡ false → new ≡ set old v true
    → IsHandedOn groups claimed group low held old new
handed_on groups claimed group low v held old new first free is = record {
  long = ap length is ∙ length-set old v true;
  kept = λ t h. up (set old v true) new t (sym is) (marked old v t h);
  others = λ t h. from t (marked_from old v t (up new (set old v true) t is h));
  first = λ none t more below short unclaimed same. by t below short same (after v t (first.least t more below same unclaimed));
}
  where
    from : (t : ℕ) → (t ≡ v) ⊎ (is_set old t ≡ true) → (is_set old t ≡ true) ⊎ ((low ≤ t) × (is_set claimed t ≡ false))
    from t (inl e) = inr (omega (arith, e, first.above), ap (is_set claimed) e ∙ free)
    from t (inr k) = inl k

    fresh : v < length old → is_set new v ≡ true
    fresh below = up (set old v true) new v (sym is) (set_here old v true below)

    by : (t : ℕ) → t < length groups → t < length old → number_at groups t ≡ group → (v ≡ t) ⊎ (v < t) → (is_set new t ≡ true) ⊎ HasReadyBefore groups new t
    by t below short same (inl e) = inl (subst (λ (k : ℕ). is_set new k ≡ true) e (fresh (omega (arith, e, short))))
    by t below short same (inr less) = inr (record { number = v; before = less; marked = fresh (omega (arith, less, short)); same = first.own (omega (arith, less, below)) ∙ sym same })

pub not_handed : (groups : List ℕ) (claimed : List Bool) (group low : ℕ) (flags : List Bool) → IsHandedOn groups claimed group low true flags flags
not_handed groups claimed group low flags = record { long = refl; kept = λ t h. h; others = λ t h. inl h; first = λ no. absurd (let bad : true ≡ false = no in cc) }
