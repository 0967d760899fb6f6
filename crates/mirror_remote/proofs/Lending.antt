-- The journals that a mirror lends: those of its children, or those of its logs.
use Rattle.ann_outside.specs.Told.{ProgramsTold}
use Rattle.std.proofs.Common.{◌≡◌, ◌∙◌, ◌⊎◌, inl, inr, ◌==◌, ℕ, zero, suc, ◌<◌, ◌≤◌, List, [], ◌∷◌, ◌++◌, refl, sym, ap, subst, Bool, true, false, Option, Some, None, length, map, slice_index_or, arith}
use Rattle.std.specs.List.{slice_get}
use Rattle.std.proofs.lemmas.Bool.{eqb-true}
use Rattle.std.proofs.lemmas.List.{nil_from_length}
use Rattle.journal_model.specs.declared.entry.Entry.{Entry}
use Rattle.mirror_children.specs.Children.{ChildValue}
use Rattle.mirror_remote.specs.Starts.Stops.{LogValue}
use Rattle.mirror_remote.specs.Starts.Outcomes.{MirrorValue}
use Rattle.mirror_remote.specs.Mirrors.{journals_of}

-- whether there are children
pub no_children : (cs : List ChildValue) (count : ℕ) (b : Bool) → count ≡ length cs → b ≡ (count == 0) → b ≡ true → cs ≡ []
no_children cs count b len is none = nil_from_length cs (sym len ∙ eqb-true count 0 (sym is ∙ none))

pub some_children : (cs : List ChildValue) (count : ℕ) (b : Bool) → count ≡ length cs → b ≡ (count == 0) → b ≡ false → 0 < length cs
some_children [] count b len is some = let none : b ≡ true = subst (λ (k : ℕ). b ≡ (k == 0)) len is in absurd cc
some_children (c ∷ cs) count b len is some = omega arith

no_logs : (cs : List ChildValue) (logs : List LogValue) → (cs ≡ []) ⊎ (logs ≡ []) → 0 < length cs → logs ≡ []
no_logs cs logs (inl none) some = absurd (let e : length cs ≡ 0 = ap (λ (xs : List ChildValue). length xs) none in omega (arith, e, some))
no_logs cs logs (inr none) some = none

child_at : (cs : List ChildValue) (n : ℕ) (c : ChildValue) → n < length cs → c ≡ slice_index_or cs n c → Some c.journal ≡ slice_get (map (λ (d : ChildValue). d.journal) cs ++ []) n
child_at [] n c within here = absurd (omega (arith, within))
child_at (x ∷ cs) zero c within here = ap (λ (y : ChildValue). Some y.journal) here
child_at (x ∷ cs) (suc n) c within here = child_at cs n c (omega (arith, within)) here

child_past : (cs : List ChildValue) (n : ℕ) → length cs ≤ n → None ≡ slice_get (map (λ (d : ChildValue). d.journal) cs ++ []) n
child_past [] n past = refl
child_past (x ∷ cs) zero past = absurd (omega (arith, past))
child_past (x ∷ cs) (suc n) past = child_past cs n (omega (arith, past))

module _ (m : MirrorValue) (programs : ProgramsTold) (cs : List ChildValue) (logs : List LogValue) (n : ℕ) (view : record { programs = programs; children = cs; logs = logs } ≡ m) where
  -- without children they are those of the logs
  pub lent_log : (journal : Option (List Entry)) → cs ≡ [] → journal ≡ slice_get (map (λ (l : LogValue). l.journal) logs) n → journal ≡ slice_get (journals_of m) n
  lent_log journal none is =
      subst (λ (x : MirrorValue). journal ≡ slice_get (journals_of x) n) view
      (subst (λ (xs : List ChildValue). journal ≡ slice_get (map (λ (d : ChildValue). d.journal) xs ++ map (λ (l : LogValue). l.journal) logs) n) (sym none) is)

  lent : (journal : Option (List Entry)) → logs ≡ [] → journal ≡ slice_get (map (λ (d : ChildValue). d.journal) cs ++ []) n → journal ≡ slice_get (journals_of m) n
  lent journal none is =
      subst (λ (x : MirrorValue). journal ≡ slice_get (journals_of x) n) view
      (subst (λ (ls : List LogValue). journal ≡ slice_get (map (λ (d : ChildValue). d.journal) cs ++ map (λ (l : LogValue). l.journal) ls) n) (sym none) is)

  -- with children they are theirs
  pub lent_child : (xs : List ChildValue) (c : ChildValue) → (cs ≡ []) ⊎ (logs ≡ []) → xs ≡ cs → n < length xs → c ≡ slice_index_or xs n c → Some c.journal ≡ slice_get (journals_of m) n
  lent_child xs c either are within here =
      let inside : n < length cs = subst (λ (ys : List ChildValue). n < length ys) are within in
      lent (Some c.journal) (no_logs cs logs either (omega (arith, inside))) (child_at cs n c inside (subst (λ (ys : List ChildValue). c ≡ slice_index_or ys n c) are here))

  pub lent_none : (xs : List ChildValue) → (cs ≡ []) ⊎ (logs ≡ []) → 0 < length cs → xs ≡ cs → length xs ≤ n → None ≡ slice_get (journals_of m) n
  lent_none xs either some are past =
      lent None (no_logs cs logs either some) (child_past cs n (subst (λ (ys : List ChildValue). length ys ≤ n) are past))
