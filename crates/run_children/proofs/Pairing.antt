-- A child without tags and the number that has it: they are paired from the round's begin on.
use Rattle.std.proofs.Common.{◌≡◌, ℕ, ◌+◌, ◌-◌, ◌<◌, List, [], ◌∷◌, ◌++◌, refl, sym, ap, subst, ◌∙◌, true, false, not, ◌==◌, Some, arith}
use Rattle.std.specs.Prelude.{◌&&◌, All, slice_get}
use Rattle.std.specs.List.{list_all}
use Rattle.journal_model.specs.declared.entry.What.{What}
use Rattle.journal_model.specs.declared.entry.What.TheVariants.{Claim, Lead, Ask, Put, Sent, Mute, Got, End, Verdict as Settled, Lost}
use Rattle.journal_model.specs.declared.entry.Entry.{Entry}
use Rattle.journal_model.specs.Journal.{accepts_async, any, is_started, is_tagged, offers, starts, verdict_of}
use Rattle.journal_model.specs.Shares.{are_by, is_closed}
use Rattle.journal_model.proofs.Looks.{any-append, entry}
use Rattle.journal_model.proofs.Testing.{all-each, all-join, any-more, by_either}
use Rattle.crew_work.specs.Laws.Laws.{Distinct, children_of}
use Rattle.crew_work.specs.Laws.Posts.{serves}
use Rattle.crew_work.specs.Laws.Rounds.{LinkValue}
use Rattle.run_children.specs.Posts.{are_paired, is_paired, names, since_start}
use Rattle.run_children.proofs.PoolPosts.{Posted, at_place}
use Rattle.run_children.proofs.Since.{since_more}
use Rattle.run_children.proofs.PoolChildrenLemmas.SlotLaws.{offered_starts as offer_starts}
use Rattle.std.proofs.lemmas.Bool.{and_parts as both, ne_eqb as differ, eqb-true as same_number, eq-eqb as equal_test}
use Rattle.ann_key.proofs.Booleans.{or_false, or_left, or_true}

-- ---- a child that takes tags

-- it was started
pub tagged_started : (past : List Entry) (c : ℕ) → is_tagged past c ≡ true → is_started past c ≡ true
tagged_started past c h = any-more (λ (e : Entry). offers c e.what) (λ (e : Entry). starts c e.what) (λ e k. offer_starts c e.what k) past (both (any (offers c) past) (accepts_async past (verdict_of past c 0)) h).0

-- ---- an entry

other_child : (child d c : ℕ) → (d == c) ≡ false → (child == d) ≡ true → (child == c) ≡ false
other_child child d c far h = subst (λ (x : ℕ). (x == c) ≡ false) (sym (same_number child d h)) far

-- what a worker makes over its child names no other
pub serves_names : (d c : ℕ) (w : What) → (d == c) ≡ false → serves d w ≡ true → names c w ≡ false
serves_names d c (Claim task child) far h = other_child child d c far h
serves_names d c (Lead child job line) far h = other_child child d c far h
serves_names d c (Ask child job task line) far h = other_child child d c far h
serves_names d c (Put child job line) far h = other_child child d c far (sym (or_false (child == d)) ∙ h)
serves_names d c (Sent child) far h = other_child child d c far (sym (or_false (child == d)) ∙ h)
serves_names d c (Mute child) far h = other_child child d c far (sym (or_false (child == d)) ∙ h)
serves_names d c (Got child line) far h = other_child child d c far (sym (or_false (child == d)) ∙ h)
serves_names d c (End child why) far h = other_child child d c far (both (child == d) (not (is_closed why)) (sym (or_false (child == d && not (is_closed why))) ∙ h)).0
serves_names d c (Settled child job verdict) far h = other_child child d c far (sym (or_false (child == d)) ∙ h)
serves_names d c (Lost child task) far h = other_child child d c far h
serves_names d c w far h = refl

module _ (cs : List ℕ) (apart : Distinct cs) where
  -- each entry of a pool's workers: its number's own over the child, or another's that doesn't name it
  entry_paired : (i c : ℕ) → slice_get cs i ≡ Some c → (n : ℕ) (w : What) → Posted cs n w → is_paired c (i + 2) (entry n w) ≡ true
  entry_paired i c place n w p = by_either (n == i + 2) own other
    where
      own : (n == i + 2) ≡ true → is_paired c (i + 2) (entry n w) ≡ true
      own e =
          let is = same_number n (i + 2) e in
          let at : n - 2 ≡ i = omega (arith, is) in
          let here : slice_get cs i ≡ Some p.child = subst (λ (k : ℕ). slice_get cs k ≡ Some p.child) at p.place in
          let child_is : c ≡ p.child = (let found : Some c ≡ Some p.child = sym place ∙ here in cc) in
          rw e (subst (λ (d : ℕ). serves d w ≡ true) (sym child_is) p.serves_it)

      meet : p.child ≡ c → n ≡ i + 2
      meet z =
          let at : n - 2 ≡ i = apart (n - 2) i c (p.place ∙ ap (λ (d : ℕ). Some d) z) place in
          let high = p.high in
          omega (arith, at, high)

      other : (n == i + 2) ≡ false → is_paired c (i + 2) (entry n w) ≡ true
      other e =
          let far : (p.child == c) ≡ false = differ p.child c (λ z. absurd (let bad : true ≡ false = sym (equal_test n (i + 2) (meet z)) ∙ e in cc)) in
          rw (e, serves_names p.child c w far p.serves_it) (or_true (n == 0))

-- ---- along the entries

-- each of the children was started, and is paired with the number of its place
abbrev pub ArePaired : List ℕ → List Entry → Type 0
ArePaired cs past = (i c : ℕ) → slice_get cs i ≡ Some c → (is_started past c ≡ true) × (are_paired past c (i + 2) ≡ true)

pub paired_on : (cs : List ℕ) → Distinct cs → (past : List Entry) (n : ℕ) (w : What) → Posted cs n w → ArePaired cs past → ArePaired cs (past ++ entry n w ∷ [])
paired_on cs apart past n w p h i c place =
    let k = h i c place in (
      any-append (starts c) past (entry n w ∷ []) ∙ or_left (is_started past c) (is_started (entry n w ∷ []) c) k.0,
      ap (list_all (is_paired c (i + 2))) (since_more c past (entry n w ∷ []) k.0)
          ∙ all-join (is_paired c (i + 2)) (since_start c past) (entry n w ∷ []) k.1 (rw (entry_paired cs apart i c place n w p) refl),
    )

-- where the main thread alone made anything since the child's start, any other number may have it
paired_main : (past : List Entry) (c by : ℕ) → 0 < by → are_by 0 (since_start c past) ≡ true → are_paired past c by ≡ true
paired_main past c by some h = all-each (λ (e : Entry). e.by == 0) (is_paired c by) one (since_start c past) h
  where
    one : (e : Entry) → (e.by == 0) ≡ true → is_paired c by e ≡ true
    one e k =
        let is = same_number e.by 0 k in
        let other : (e.by == by) ≡ false = differ e.by by (λ z. absurd (let bad : ⊥ = omega (arith, z, is, some) in bad)) in
        rw (other, k) refl

pub paired_first : (links : List LinkValue) (g : List Entry) → All (λ (l : LinkValue). is_started g l.ear.child ≡ true) links → All (λ (l : LinkValue). are_by 0 (since_start l.ear.child g) ≡ true) links
    → ArePaired (children_of links) g
paired_first links g started mains i c place = (
  at_place (λ (d : ℕ). is_started g d ≡ true) links i c started place,
  paired_main g c (i + 2) (omega arith) (at_place (λ (d : ℕ). are_by 0 (since_start d g) ≡ true) links i c mains place),
)
