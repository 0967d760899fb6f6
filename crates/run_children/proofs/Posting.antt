-- Entries that are made at a post, along the journal.
use Rattle.std.proofs.Common.{◌≡◌, ℕ, ◌+◌, List, [], ◌∷◌, ◌++◌, refl, sym, ap, subst, append_assoc, append-nil, true, false, ◌==◌, arith, ◌∙◌}
use Rattle.std.specs.Prelude.{◌-◌, not, nat_lt, All}
use Rattle.std.specs.List.{list_all, list_any, range_with_len}
use Rattle.std.proofs.lemmas.Bool.Decides.{nat_tests}
use Rattle.journal_model.specs.declared.entry.What.{What}
use Rattle.journal_model.specs.declared.entry.Entry.{Entry}
use Rattle.journal_model.specs.Journal.{any, is_tagged}
use Rattle.journal_model.specs.Shares.{are_by}
use Rattle.crew_work.specs.Laws.Laws.{Distinct, children_of}
use Rattle.crew_work.specs.Laws.Posts.{makes, pool_crew, serves, tagged_crew}
use Rattle.crew_work.specs.Laws.Rounds.{LinkValue}
use Rattle.run_starts.specs.Starting.{is_any_start}
use Rattle.run_children.specs.Posts.{AllPosted, are_paired, post_over}
use Rattle.run_children.proofs.Pairing.{ArePaired, paired_on, tagged_started}
use Rattle.run_children.proofs.PoolPosts.{Posted, are_posted, at_place, posted}
use Rattle.run_children.proofs.RoundDid.{in_range}
use Rattle.std.proofs.lemmas.Bool.{and_parts as both, ne_eqb as differ, eqb-true as same_number}
use Rattle.ann_key.proofs.Booleans.{left_false as either_left, right_false as either_right}

pub posted_both : (past xs ys : List Entry) → AllPosted past xs → AllPosted (past ++ xs) ys → AllPosted past (xs ++ ys)
posted_both past [] ys h k = subst (λ (p : List Entry). AllPosted p ys) (append-nil past) k
posted_both past (e ∷ xs) ys h k = (h.0, posted_both (past ++ e ∷ []) xs ys h.1 (subst (λ (p : List Entry). AllPosted p ys) (sym (append_assoc past (e ∷ []) xs)) k))

-- the main thread's own
pub posted_main : (past xs : List Entry) → are_by 0 xs ≡ true → AllPosted past xs
posted_main past [] h = tt
posted_main past (e ∷ xs) h =
    let t = both (e.by == 0) (are_by 0 xs) h in
    (λ some. absurd (let is = same_number e.by 0 t.0 in omega (arith, is, some)), posted_main (past ++ e ∷ []) xs t.1)

-- those of a round over a child that takes tags, and goes on to
pub posted_tagged : (c : ℕ) (past xs : List Entry) → ((front rest : List Entry) → xs ≡ front ++ rest → is_tagged (past ++ front) c ≡ true) → list_all (λ (e : Entry). makes (tagged_crew c e.by) e.what) xs ≡ true → AllPosted past xs
posted_tagged c past [] f h = tt
posted_tagged c past (e ∷ xs) f h =
    let t = both (makes (tagged_crew c e.by) e.what) (list_all (λ (x : Entry). makes (tagged_crew c x.by) x.what) xs) h in
    let here : is_tagged past c ≡ true = ap (λ (j : List Entry). is_tagged j c) (sym (append-nil past)) ∙ f [] (e ∷ xs) refl in (
      λ some. (c, record { started = tagged_started past c here; made = rw here t.0; paired = λ plain. absurd (let bad : true ≡ false = sym here ∙ plain in cc) }),
      posted_tagged c (past ++ e ∷ []) xs
          (λ front rest is. ap (λ (j : List Entry). is_tagged j c) (append_assoc past (e ∷ []) front) ∙ f (e ∷ front) rest (ap (λ (l : List Entry). e ∷ l) is)) t.1,
    )

-- a worker of a pool has its child for itself
has_alone : (past : List Entry) (by c : ℕ) (w : What) → is_tagged past c ≡ false → nat_lt by 2 ≡ false → serves c w ≡ true → makes (post_over past c by) w ≡ true
has_alone past by c w tag far h = rw (tag, far) h

-- those of a pool, whose children take no tags, and go on so
module _ (links : List LinkValue) (Untagged : List Entry → Type 0) (on : (past : List Entry) (e : Entry) → is_any_start e.what ≡ false → Untagged past → Untagged (past ++ e ∷ []))
    (none_tagged : (past : List Entry) → Untagged past → All (λ (l : LinkValue). is_tagged past l.ear.child ≡ false) links) where
  pub posted_pool : Distinct (children_of links) → (past xs : List Entry) → Untagged past → ArePaired (children_of links) past → any is_any_start xs ≡ false → are_posted (children_of links) xs ≡ true → AllPosted past xs
  posted_pool apart past [] u a z h = tt
  posted_pool apart past (e ∷ xs) u a z h =
      let t = both (makes (pool_crew (children_of links) e.by) e.what) (are_posted (children_of links) xs) h in
      let p : Posted (children_of links) e.by e.what = posted (children_of links) e.by e.what t.0 in
      let tag : is_tagged past p.child ≡ false = at_place (λ (c : ℕ). is_tagged past c ≡ false) links (e.by - 2) p.child (none_tagged past u) p.place in
      let high = p.high in
      let far : nat_lt e.by 2 ≡ false = grind (arith, nat_tests) in
      let number : (e.by - 2) + 2 ≡ e.by = omega (arith, high) in
      let its = a (e.by - 2) p.child p.place in (
        λ some. (p.child, record { started = its.0; made = has_alone past e.by p.child e.what tag far p.serves_it; paired = λ plain. subst (λ (n : ℕ). are_paired past p.child n ≡ true) number its.1 }),
        posted_pool apart (past ++ e ∷ []) xs (on past e (either_left (is_any_start e.what) (any is_any_start xs) z) u) (paired_on (children_of links) apart past e.by e.what p a)
            (either_right (is_any_start e.what) (any is_any_start xs) z) t.1,
      )

-- none of a round's entries is the main thread's
pub none_main : (many : ℕ) (xs : List Entry) → list_all (λ (e : Entry). list_any (λ (n : ℕ). n == e.by) (range_with_len 1 many)) xs ≡ true → list_all (λ (e : Entry). not (e.by == 0)) xs ≡ true
none_main many [] h = refl
none_main many (e ∷ xs) h =
    let t = both (list_any (λ (n : ℕ). n == e.by) (range_with_len 1 many)) (list_all (λ (x : Entry). list_any (λ (n : ℕ). n == x.by) (range_with_len 1 many)) xs) h in
    let low = (in_range 1 many e.by t.0).0 in
    let other : (e.by == 0) ≡ false = differ e.by 0 (λ z. absurd (let bad : ⊥ = omega (arith, z, low) in bad)) in
    rw (other, none_main many xs t.1) refl
