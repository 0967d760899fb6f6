-- What came back of the roles of a round over a tagged child.
use Rattle.ann_outside.specs.Told.{DeskTold}
use Rattle.std.proofs.Common.{◌≡◌, ℕ, ◌+◌, ◌<◌, List, [], ◌∷◌, map, true, false, refl, sym, subst, zero, suc}
use Rattle.std.specs.Prelude.{All}
use Rattle.std.specs.List.{list_any}
use Rattle.std.proofs.lemmas.List.Elements.{All-nil, All-cons, All-head, All-tail}
use Rattle.threads.specs.Passes.{HallValue, IsPassOf}
use Rattle.journal_model.specs.declared.entry.Entry.{Entry}
use Rattle.journal_model.specs.declared.opening.Opening.{Opening}
use Rattle.journal_model.specs.Halves.{EarValue, MouthValue, EarWired, MouthWired, IsSameEar, IsSameMouth}
use Rattle.ann_key.specs.Pairs.{Pairwise}
use Rattle.crew_work.specs.Laws.Posts.{Post, Ear, Mouth}
use Rattle.crew_work.specs.Laws.Rounds.{CorePass, EarEnds, MouthEnds}
use Rattle.crew_work.proofs.LawsLemmas.Ending.{stayed_ear, stayed_mouth}
use Rattle.task_model.specs.declared.setup.Setup.{Setup}
use Rattle.threads.specs.declared.roles.back.Back.{Back}
use Rattle.threads.specs.declared.roles.back.Back.TheVariants.{Stayed, Ran}
use Rattle.threads.specs.Roles.Back.{CameBack}
use Rattle.threads.specs.Roles.BackRole.{has_run, role_of}
use Rattle.crew_rounds.specs.Tagged.Coming.{IsFresh}
use Rattle.crew_rounds.specs.Tagged.Crewing.{AllManned, Manned, WorkerTells}
use Rattle.crew_rounds.specs.Tagged.Roles.{EarRan, MouthRan, WorkerRan}
use Rattle.crew_rounds.proofs.TaggedLemmas.Coming.{ears_come, mouths_come, workers_come, workers_stay}
use Rattle.crew_rounds.specs.Tagged.Tagged.{AreFresh, HasThrough}

-- ---- an ear and a mouth

pub record EarBack (h : HallValue Entry Opening) (crew : ℕ → Post) (p q : CorePass) (e f : EarValue) : Type 0 where
  pub pass : IsPassOf h q
  pub number : q.number ≡ p.number
  pub same : IsSameEar e f
  pub ends : EarEnds crew f q

pub ear_back : {A : Type 0} (pass_of : A → CorePass) (ear_of : A → EarValue) (ran : A → A → Type 0) (h : HallValue Entry Opening) (crew : ℕ → Post) (a : A) (b : Back A)
    → ((x : A) → ran a x → EarRan h (pass_of a) (pass_of x) (ear_of a) (ear_of x)) → IsFresh h (pass_of a) → 0 < (pass_of a).number → crew (pass_of a).number ≡ Ear (ear_of a).child
    → EarWired h.start (ear_of a) → CameBack ran a b → EarBack h crew (pass_of a) (pass_of (role_of b)) (ear_of a) (ear_of (role_of b))
ear_back pass_of ear_of ran h crew a (Stayed x) hears fresh pos post wired same =
    subst (λ y. EarBack h crew (pass_of a) (pass_of y) (ear_of a) (ear_of y)) (sym same)
    (record {
      pass = fresh.pass;
      number = refl;
      same = (refl, refl);
      ends = stayed_ear crew (pass_of a) pos fresh.none (ear_of a) (subst (λ (l : List Entry). EarWired l (ear_of a)) (sym fresh.pass.2) wired);
    })
ear_back pass_of ear_of ran h crew a (Ran x) hears fresh pos post wired r =
    let it = hears x r in
    record { pass = it.pass.pass; number = it.pass.number; same = it.same; ends = ears_come h crew (pass_of a) (pass_of x) (ear_of a) (ear_of x) fresh pos post wired it }

pub record MouthBack (h : HallValue Entry Opening) (crew : ℕ → Post) (p q : CorePass) (m w : MouthValue) : Type 0 where
  pub pass : IsPassOf h q
  pub number : q.number ≡ p.number
  pub same : IsSameMouth m w
  pub ends : MouthEnds crew w q

pub mouth_back : {A : Type 0} (pass_of : A → CorePass) (mouth_of : A → MouthValue) (ran : A → A → Type 0) (h : HallValue Entry Opening) (crew : ℕ → Post) (a : A) (b : Back A)
    → ((x : A) → ran a x → MouthRan h (pass_of a) (pass_of x) (mouth_of a) (mouth_of x)) → IsFresh h (pass_of a) → 0 < (pass_of a).number → crew (pass_of a).number ≡ Mouth (mouth_of a).child
    → MouthWired h.start (mouth_of a) → CameBack ran a b → MouthBack h crew (pass_of a) (pass_of (role_of b)) (mouth_of a) (mouth_of (role_of b))
mouth_back pass_of mouth_of ran h crew a (Stayed x) speaks fresh pos post wired same =
    subst (λ y. MouthBack h crew (pass_of a) (pass_of y) (mouth_of a) (mouth_of y)) (sym same)
    (record {
      pass = fresh.pass;
      number = refl;
      same = (refl, refl);
      ends = stayed_mouth crew (pass_of a) pos fresh.none (mouth_of a) (subst (λ (l : List Entry). MouthWired l (mouth_of a)) (sym fresh.pass.2) wired);
    })
mouth_back pass_of mouth_of ran h crew a (Ran x) speaks fresh pos post wired r =
    let it = speaks x r in
    record { pass = it.pass.pass; number = it.pass.number; same = it.same; ends = mouths_come h crew (pass_of a) (pass_of x) (mouth_of a) (mouth_of x) fresh pos post wired it }

-- ---- workers

module _ {W : Type 0} (pass_of : W → CorePass) (desk_of : W → DeskTold) (ran : W → W → Type 0) (h : HallValue Entry Opening) (setup : Setup) (c : ℕ) (Placed : W → Type 0)
    (works : (w v : W) → Placed w → ran w v → WorkerRan h setup (pass_of w) (pass_of v) false c (Unit {0}) (Unit {0}) (desk_of w) (desk_of v)) where
  abbrev pub tells_of : Back W → WorkerTells
  tells_of b = record { pass = pass_of (role_of b); desk = desk_of (role_of b) }

  manned_one : (first : ℕ) (w : W) (b : Back W) → Placed w → IsFresh h (pass_of w) → (pass_of w).number ≡ first → CameBack ran w b → Manned h setup c first (desk_of w) (tells_of b)
  manned_one first w (Stayed v) placed fresh is same =
      subst (λ (x : W). Manned h setup c first (desk_of w) (record { pass = pass_of x; desk = desk_of x })) (sym same)
      (subst (λ (n : ℕ). Manned h setup c n (desk_of w) (record { pass = pass_of w; desk = desk_of w })) is (workers_stay h setup (pass_of w) c (desk_of w) fresh))
  manned_one first w (Ran v) placed fresh is r =
      subst (λ (n : ℕ). Manned h setup c n (desk_of w) (record { pass = pass_of v; desk = desk_of v })) is
      (workers_come h setup (pass_of w) (pass_of v) c (desk_of w) (desk_of v) fresh (works w v placed r))

  pub manned_all : (first : ℕ) (ws : List W) (bs : List (Back W)) → All Placed ws → AreFresh h first (map pass_of ws) → Pairwise (CameBack ran) ws bs
      → AllManned h setup c first (map desk_of ws) (map tells_of bs)
  manned_all first [] [] placed fresh all = tt
  manned_all first [] (b ∷ bs) placed fresh all = absurd all
  manned_all first (w ∷ ws) [] placed fresh all = absurd all
  manned_all first (w ∷ ws) (b ∷ bs) placed fresh all = (
    manned_one first w b (All-head Placed w ws placed) fresh.0.0 fresh.0.1 all.0,
    manned_all (first + 1) ws bs (All-tail Placed w ws placed) fresh.1 all.1,
  )

  -- one of those that ran has seen that there is nothing more to do
  pub through_one : (ws : List W) (bs : List (Back W)) → All Placed ws → Pairwise (CameBack ran) ws bs → list_any has_run bs ≡ true
      → HasThrough h c (map (λ b. pass_of (role_of b)) bs)
  through_one [] [] placed all some = absurd cc
  through_one [] (b ∷ bs) placed all some = absurd all
  through_one (w ∷ ws) [] placed all some = absurd all
  through_one (w ∷ ws) (Stayed v ∷ bs) placed all some =
      let later = through_one ws bs (All-tail Placed w ws placed) all.1 some in
      record { place = suc later.place; pass = later.pass; there = later.there; through = later.through }
  through_one (w ∷ ws) (Ran v ∷ bs) placed all some =
      record { place = zero; pass = pass_of v; there = refl; through = (works w v (All-head Placed w ws placed) all.0).through }

-- the passes of workers are the hall's
pub manned_own : (h : HallValue Entry Opening) (setup : Setup) (c first : ℕ) (ds : List DeskTold) (es : List WorkerTells) → AllManned h setup c first ds es
    → All (IsPassOf h) (map (λ (e : WorkerTells). e.pass) es)
manned_own h setup c first [] [] all = All-nil (IsPassOf h)
manned_own h setup c first [] (e ∷ es) all = absurd all
manned_own h setup c first (d ∷ ds) [] all = absurd all
manned_own h setup c first (d ∷ ds) (e ∷ es) all =
    All-cons (IsPassOf h) e.pass (map (λ (e : WorkerTells). e.pass) es) all.0.pass (manned_own h setup c (first + 1) ds es all.1)

-- and fresh ones too
pub fresh_own : (h : HallValue Entry Opening) (first : ℕ) (ps : List CorePass) → AreFresh h first ps → All (IsPassOf h) ps
fresh_own h first [] all = All-nil (IsPassOf h)
fresh_own h first (p ∷ ps) all = All-cons (IsPassOf h) p ps all.0.0.pass (fresh_own h (first + 1) ps all.1)
