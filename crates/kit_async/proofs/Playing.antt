-- The workers of a kit, from the passes that they are dealt to those that come back.
use Rattle.std.proofs.Common.{◌≡◌, ℕ, ◌+◌, List, [], ◌∷◌, ◌++◌, map, refl, sym, ap, subst, ◌∙◌, append-nil, length, slice_get, arith}
use Rattle.std.specs.Prelude.{All, reverse}
use Rattle.std.proofs.Math.Seq.{append_snoc}
use Rattle.std.proofs.lemmas.List.{reverse-append, reverse-reverse}
use Rattle.std.proofs.lemmas.List.Elements.{All-nil, All-cons, All-head, All-tail}
use Rattle.ann_key.specs.Pairs.{Pairwise}
use Rattle.threads.specs.Log.{flat}
use Rattle.threads.specs.declared.view.Link.{Link}
use Rattle.threads.specs.Passes.{IsPassOf, seen_of}
use Rattle.threads.proofs.RolesLemmas.Dealing.{all_reverse}
use Rattle.kit_async_model.specs.declared.entry.Entry.{Entry}
use Rattle.kit_async_core.specs.Halls.{KitHall, KitPass}
use Rattle.kit_async.specs.Work.Calling.{HandValue, WorkerRan}
use Rattle.kit_async.specs.Work.Passes.{Stands}
use Rattle.kit_async.specs.Dealt.{AreFresh, AreNumbered}
use Rattle.kit_async.specs.Endings.{AllWorked}
use Rattle.kit_async.specs.Turns.{WorkerWent}
use Rattle.ann_key.proofs.Lists.{get_after}

-- ---- places

pub fresh_seen : (h : KitHall) (p : KitPass) → IsPassOf h p → p.links ≡ [] → seen_of p ≡ h.start
fresh_seen h p own none = ap (λ (ks : List (Link Entry)). p.start ++ flat ks) none ∙ append-nil p.start ∙ own.2

-- one worker more has the number before those of the others
pub numbered_more : {W : Type 0} (f : W → ℕ) (ws vs : List W) (w : W) (n m : ℕ) → vs ≡ ws ++ w ∷ [] → f w ≡ n → m ≡ n + 1 → AreNumbered m (map f (reverse ws))
    → AreNumbered n (map f (reverse vs))
numbered_more {W = W} f ws vs w n m pushed is more all =
    subst (λ (l : List W). AreNumbered n (map f (reverse l))) (sym pushed)
    (subst (λ (l : List W). AreNumbered n (map f l)) (sym (reverse-append ws (w ∷ []))) (is, subst (λ (k : ℕ). AreNumbered k (map f (reverse ws))) more all))

module _ {W : Type 0} (hall : W → KitHall) (number : W → ℕ) (pass : W → KitPass) (hand : W → HandValue) where
  abbrev pub Goes : W → W → Type 0
  Goes w v = WorkerWent (hall w) (number w) (pass w) (hand w) (hall v) (number v) (pass v) (hand v)

  abbrev pub Can : W → Type 0
  Can w = Stands (hall w) (number w + 3) (pass w)

  abbrev pub At : KitHall → W → Type 0
  At h w = hall w ≡ h

  can_one : (h : KitHall) (n : ℕ) (w : W) → hall w ≡ h → number w ≡ n → Stands h (n + 3) (pass w) → Can w
  can_one h n w at is s = subst (λ (k : KitHall). Stands k (number w + 3) (pass w)) (sym at) (subst (λ (k : ℕ). Stands h (k + 3) (pass w)) (sym is) s)

  may_from : (h : KitHall) (n : ℕ) (ws : List W) → All (At h) ws → AreNumbered n (map number ws) → AreFresh h (n + 3) (map pass ws) → All Can ws
  may_from h n [] at is fresh = All-nil Can
  may_from h n (w ∷ ws) at is fresh =
      let next : n + 3 + 1 ≡ n + 1 + 3 = omega arith in
      All-cons Can w ws (can_one h n w (All-head (At h) w ws at) is.0 fresh.0.0)
      (may_from h (n + 1) ws (All-tail (At h) w ws at) is.1 (subst (λ (k : ℕ). AreFresh h k (map pass ws)) next fresh.1))

  -- the workers may begin, in whatever order they are
  pub may_work : (h : KitHall) (ws : List W) → All (At h) ws → AreNumbered 0 (map number (reverse ws)) → AreFresh h 3 (map pass (reverse ws)) → All Can ws
  may_work h ws at is fresh = subst (All Can) (reverse-reverse ws) (all_reverse Can (reverse ws) (may_from h 0 (reverse ws) (all_reverse (At h) ws at) is fresh))

  ran_one : (h : KitHall) (n : ℕ) (w v : W) → hall w ≡ h → number w ≡ n → Goes w v → WorkerRan h n (pass w) (pass v) (hand w) (hand v)
  ran_one h n w v at is goes =
      subst (λ (k : KitHall). WorkerRan k n (pass w) (pass v) (hand w) (hand v)) at
      (subst (λ (k : ℕ). WorkerRan (hall w) k (pass w) (pass v) (hand w) (hand v)) is goes.0)

  -- each has a pass among those that came back
  pub worked_from : (h : KitHall) (passes : List KitPass) (n : ℕ) (front : List KitPass) (ws vs : List W) → passes ≡ front ++ map pass vs → All (At h) ws → AreNumbered n (map number ws)
      → AreFresh h (n + 3) (map pass ws) → Pairwise Goes ws vs → AllWorked h passes n (map hand ws) (map hand vs)
  worked_from h passes n front [] [] whole at is fresh all = tt
  worked_from h passes n front [] (v ∷ vs) whole at is fresh all = absurd all
  worked_from h passes n front (w ∷ ws) [] whole at is fresh all = absurd all
  worked_from h passes n front (w ∷ ws) (v ∷ vs) whole at is fresh all =
      let next : n + 3 + 1 ≡ n + 1 + 3 = omega arith in (
        record {
          begun = pass w;
          pass = pass v;
          among = record {
            place = length front;
            there = ap (λ (ps : List KitPass). slice_get ps (length front)) whole ∙ get_after front (pass v) (map pass vs);
            fresh = fresh_seen h (pass w) fresh.0.0.pass fresh.0.1;
          };
          ran = ran_one h n w v (All-head (At h) w ws at) is.0 all.0;
        },
        worked_from h passes (n + 1) (front ++ pass v ∷ []) ws vs (whole ∙ sym (append_snoc front (pass v) (map pass vs))) (All-tail (At h) w ws at) is.1
            (subst (λ (k : ℕ). AreFresh h k (map pass ws)) next fresh.1) all.1,
      )

  pub own_from : (h : KitHall) (ws vs : List W) → All (At h) ws → Pairwise Goes ws vs → All (IsPassOf h) (map pass vs)
  own_from h [] [] at all = All-nil (IsPassOf h)
  own_from h [] (v ∷ vs) at all = absurd all
  own_from h (w ∷ ws) [] at all = absurd all
  own_from h (w ∷ ws) (v ∷ vs) at all =
      All-cons (IsPassOf h) (pass v) (map pass vs) (ran_one h (number w) w v (All-head (At h) w ws at) refl all.0).stands.pass (own_from h ws vs (All-tail (At h) w ws at) all.1)
