-- What the end puts together.
use Rattle.std.proofs.lemmas.Option.{same_Some}
use Rattle.std.proofs.Common.{◌≡◌, ◌==◌, ℕ, zero, suc, ◌+◌, List, [], ◌∷◌, ◌++◌, cond, Bool, true, false, length, map, slice_get, Some, sym, ap, ◌∙◌, refl, subst, append-nil}
use Rattle.std.proofs.lemmas.List.Sums.{sum_by-cons}
use Rattle.std.specs.List.{count_by}
use Rattle.threads.specs.declared.view.Link.{Link}
use Rattle.threads.specs.Log.{bit, part, flat, Fit, AllFit, AllOf, times, places_by, Allowed, Legal}
use Rattle.threads.specs.Passes.{HallValue, PassValue, HasAllOf, HasClosed}
use Rattle.threads.proofs.Logs.{all_fit-get, groups_by-fit, places_by-append, places_by-none, all-from_get}

module _ {E F : Type 0} where
  abbrev part_of : PassValue E F → Rattle.threads.specs.declared.view.Part.Part E
  part_of p = part p.number p.links

  -- a log that fits a part has no group of its number besides those that the part has seen
  has_all : (log : List (Link E)) (p : PassValue E F) → Fit log (part_of p) → HasAllOf log p
  has_all log p fit = record {
    seen = (fit.0, sym fit.1);
    own = groups_by-fit log (part_of p) fit;
    places = ap (places_by p.number (length p.start)) fit.1
        ∙ (places_by-append p.number (length p.start) p.links fit.0
        ∙ (ap (λ zs. places_by p.number (length p.start) p.links ++ zs) (places_by-none p.number (length p.start + length (flat p.links)) fit.0 fit.2)
        ∙ append-nil (places_by p.number (length p.start) p.links)));
  }

  count-times : (m : ℕ) (ps : List (PassValue E F)) → count_by (λ (p : PassValue E F). p.number == m) ps ≡ times m (map part_of ps)
  count-times m [] = refl
  count-times m (p ∷ ps) = sum_by-cons (λ (q : PassValue E F). cond (q.number == m) 1 0) p ps ∙ (λ i. count_one (p.number == m) i + count-times m ps i)
    where
      count_one : (b : Bool) → cond b 1 0 ≡ bit b
      count_one true = refl
      count_one false = refl

  once : (ps : List (PassValue E F)) (log : List (Link E)) → AllOf (map part_of ps) log → (k : ℕ) (l : Link E) → slice_get log k ≡ Some l → count_by (λ (p : PassValue E F). p.number == l.by) ps ≡ 1
  once ps [] a k l e = absurd (cc)
  once ps (x ∷ xs) a zero l e = count-times l.by ps ∙ subst (λ (z : Link E). times z.by (map part_of ps) ≡ 1) (same_Some x l e) a.0
  once ps (x ∷ xs) a (suc k) l e = once ps xs a.1 k l e

module _ {E F O R : Type 0} (made_by : ℕ → E → Type 0) (may : F → List E → ℕ → O → List E → R → Type 0) where
  pub closed : (h : HallValue E F) (ps : List (PassValue E F)) (history : List E) (fixed : F) (log : List (Link E)) → history ≡ h.start ++ flat log → fixed ≡ h.fixed → Legal (Allowed made_by may) h.fixed h.start log
      → AllFit log (map part_of ps) → AllOf (map part_of ps) log → HasClosed made_by may h ps history fixed
  closed h ps history fixed log is kept legal fits own = record {
    log = log;
    is = is;
    kept = kept;
    legal = legal;
    each = all-from_get (HasAllOf log) ps (λ k p e. has_all log p (all_fit-get part_of log ps fits k p e));
    once = all-from_get _ log (once ps log own);
  }
