-- What came back of workers that have a child each.
use Rattle.ann_outside.specs.Told.{DeskTold}
use Rattle.std.proofs.Common.{◌≡◌, ℕ, ◌+◌, List, [], ◌∷◌, map, true, false, refl, sym, subst, zero, suc}
use Rattle.std.specs.Prelude.{All}
use Rattle.std.specs.List.{list_any}
use Rattle.std.proofs.lemmas.List.Elements.{All-nil, All-cons, All-head, All-tail}
use Rattle.threads.specs.Passes.{HallValue, IsPassOf, seen_of}
use Rattle.journal_model.specs.declared.entry.Entry.{Entry}
use Rattle.journal_model.specs.declared.opening.Opening.{Opening}
use Rattle.child_link.specs.Moves.{IsSameLink}
use Rattle.child_link.specs.Writings.{LoneWired}
use Rattle.child_link.proofs.Writings.{lone_apart}
use Rattle.ann_key.specs.Pairs.{Pairwise}
use Rattle.crew_work.specs.Laws.Rounds.{CorePass, LinkValue}
use Rattle.crew_work.specs.Laws.Tasks.{IsThrough}
use Rattle.task_model.specs.declared.setup.Setup.{Setup}
use Rattle.crew_work.specs.Worker.Works.{Worked}
use Rattle.crew_work.proofs.WorkerLemmas.Turning.{passed_none, worked_still}
use Rattle.threads.specs.declared.roles.back.Back.{Back}
use Rattle.threads.specs.declared.roles.back.Back.TheVariants.{Stayed, Ran}
use Rattle.threads.specs.Roles.Back.{CameBack}
use Rattle.threads.specs.Roles.BackRole.{has_run, role_of}
use Rattle.crew_rounds.specs.Tagged.Coming.{IsFresh}
use Rattle.crew_rounds.specs.Tagged.Roles.{WorkerRan}
use Rattle.crew_rounds.proofs.TaggedLemmas.Coming.{begun_at, still_through}
use Rattle.crew_rounds.specs.Tagged.Tagged.{AreFresh}
use Rattle.crew_rounds.specs.Pool.Left.{IsThroughAt, LoneBack, LoneTells, links_of, passes_of}
use Rattle.crew_rounds.specs.Pool.Pool.{AreSameLinks}

-- it ran from where it began
abbrev pub LoneRan : HallValue Entry Opening → Setup → LoneTells → LoneTells → Type 0
LoneRan h setup a b =
    WorkerRan h setup a.pass b.pass true a.link.ear.child (LoneWired (seen_of a.pass) a.link.ear a.link.mouth) (LoneWired (seen_of b.pass) b.link.ear b.link.mouth) a.desk b.desk
    × IsSameLink a.link.ear b.link.ear a.link.mouth b.link.mouth

-- said of the hall of the round
pub lone_so : (h₀ h : HallValue Entry Opening) (setup₀ setup : Setup) (p q : CorePass) (c : ℕ) (Before After : Type 0) (d d' : DeskTold) → h₀ ≡ h → setup₀ ≡ setup
    → WorkerRan h₀ setup₀ p q true c Before After d d' → WorkerRan h setup p q true c Before After d d'
lone_so h₀ h setup₀ setup p q c Before After d d' hall_is setup_is r =
    subst (λ x. WorkerRan x setup p q true c Before After d d') hall_is (subst (λ x. WorkerRan h₀ x p q true c Before After d d') setup_is r)

module _ (h : HallValue Entry Opening) (setup : Setup) where
  -- from a pass that had seen nothing since the hall's begin
  lone_comes : (a b : LoneTells) → IsFresh h a.pass → a.link.mouth.child ≡ a.link.ear.child → LoneRan h setup a b → LoneBack h setup a b
  lone_comes a b fresh one r = record {
    pass = r.0.pass.pass;
    number = r.0.pass.number;
    one_child = one;
    same = r.1;
    worked =
        subst (λ (k : ℕ). Worked h.fixed setup true k false a.link.ear.child b.pass.start (seen_of b.pass) (LoneWired b.pass.start a.link.ear a.link.mouth) (LoneWired (seen_of b.pass) b.link.ear b.link.mouth) a.desk b.desk) (sym r.0.pass.number)
        (subst (λ (x : List Entry). Worked h.fixed setup true a.pass.number false a.link.ear.child x (seen_of b.pass) (LoneWired x a.link.ear a.link.mouth) (LoneWired (seen_of b.pass) b.link.ear b.link.mouth) a.desk b.desk)
        (begun_at h a.pass b.pass fresh r.0.pass.pass) r.0.worked);
    through = λ made. r.0.through;
  }

  lone_stays : (a : LoneTells) → IsFresh h a.pass → a.link.mouth.child ≡ a.link.ear.child → LoneBack h setup a a
  lone_stays a fresh one = record {
    pass = fresh.pass;
    number = refl;
    one_child = one;
    same = ((refl, refl), (refl, refl));
    worked =
        subst (λ (x : List Entry). Worked h.fixed setup true a.pass.number false a.link.ear.child x (seen_of a.pass) (LoneWired x a.link.ear a.link.mouth) (LoneWired (seen_of a.pass) a.link.ear a.link.mouth) a.desk a.desk)
        (begun_at h a.pass a.pass fresh fresh.pass)
        (worked_still h.fixed setup true a.pass.number false a.link.ear.child (λ x. LoneWired x a.link.ear a.link.mouth) (λ past more none w. lone_apart past more a.link.ear a.link.mouth one none w)
        (seen_of a.pass) (seen_of a.pass) a.desk (passed_none a.pass.number false (seen_of a.pass)));
    through = still_through h.fixed a.link.ear.child a.pass fresh.none;
  }

  module _ {W : Type 0} (tells : W → LoneTells) (ran : W → W → Type 0) (Placed : W → Type 0) (works : (w v : W) → Placed w → ran w v → LoneRan h setup (tells w) (tells v)) where
    came_one : (one : (w : W) → (tells w).link.mouth.child ≡ (tells w).link.ear.child) (w : W) (b : Back W) → Placed w → IsFresh h (tells w).pass → CameBack ran w b
        → LoneBack h setup (tells w) (tells (role_of b))
    came_one one w (Stayed v) placed fresh same = subst (λ (x : W). LoneBack h setup (tells w) (tells x)) (sym same) (lone_stays (tells w) fresh (one w))
    came_one one w (Ran v) placed fresh r = lone_comes (tells w) (tells v) fresh (one w) (works w v placed r)

    pub came_all : ((w : W) → (tells w).link.mouth.child ≡ (tells w).link.ear.child) → (first : ℕ) (ws : List W) (bs : List (Back W)) → All Placed ws
        → AreFresh h first (map (λ w. (tells w).pass) ws) → Pairwise (CameBack ran) ws bs → Pairwise (LoneBack h setup) (map tells ws) (map (λ b. tells (role_of b)) bs)
    came_all one first [] [] placed fresh all = tt
    came_all one first [] (b ∷ bs) placed fresh all = absurd all
    came_all one first (w ∷ ws) [] placed fresh all = absurd all
    came_all one first (w ∷ ws) (b ∷ bs) placed fresh all = (
      came_one one w b (All-head Placed w ws placed) fresh.0.0 all.0,
      came_all one (first + 1) ws bs (All-tail Placed w ws placed) fresh.1 all.1,
    )

    -- one of those that ran has seen that there is nothing more to do
    pub through_one : (ws : List W) (bs : List (Back W)) → All Placed ws → Pairwise (CameBack ran) ws bs → list_any has_run bs ≡ true → IsThroughAt h (map (λ b. tells (role_of b)) bs)
    through_one [] [] placed all some = absurd cc
    through_one [] (b ∷ bs) placed all some = absurd all
    through_one (w ∷ ws) [] placed all some = absurd all
    through_one (w ∷ ws) (Stayed v ∷ bs) placed all some =
        let later = through_one ws bs (All-tail Placed w ws placed) all.1 some in
        record { place = suc later.place; end = later.end; there = later.there; through = later.through }
    through_one (w ∷ ws) (Ran v ∷ bs) placed all some =
        let r = works w v (All-head Placed w ws placed) all.0 in
        record { place = zero; end = tells v; there = refl; through = subst (λ (c : ℕ). IsThrough h.fixed (seen_of (tells v).pass) c) (sym r.1.0.0) r.0.through }

  -- the passes are the hall's, and the links the same
  pub came_own : (ss es : List LoneTells) → Pairwise (LoneBack h setup) ss es → All (IsPassOf h) (passes_of es)
  came_own [] [] all = All-nil (IsPassOf h)
  came_own [] (e ∷ es) all = absurd all
  came_own (s ∷ ss) [] all = absurd all
  came_own (s ∷ ss) (e ∷ es) all = All-cons (IsPassOf h) e.pass (passes_of es) all.0.pass (came_own ss es all.1)

  pub came_same : (ss es : List LoneTells) → Pairwise (LoneBack h setup) ss es → AreSameLinks (links_of ss) (links_of es)
  came_same [] [] all = tt
  came_same [] (e ∷ es) all = absurd all
  came_same (s ∷ ss) [] all = absurd all
  came_same (s ∷ ss) (e ∷ es) all = (all.0.same, came_same ss es all.1)

pub links_still : (links : List LinkValue) → AreSameLinks links links
links_still [] = tt
links_still (l ∷ links) = (((refl, refl), (refl, refl)), links_still links)
