-- What the roles of a round over a tagged child leave, put together.
use Rattle.ann_outside.specs.Told.{DeskTold}
use Rattle.std.proofs.Common.{◌≡◌, ℕ, ◌+◌, List, [], ◌∷◌, ◌++◌, map, Bool, true, false, refl, sym, ap, subst, ◌∙◌, zero, suc, Some, arith, slice_get, length, inl, inr, append-nil}
use Rattle.std.specs.Prelude.{◌||◌, All, reverse}
use Rattle.std.specs.List.{list_any}
use Rattle.std.proofs.lemmas.List.{length-map, reverse-reverse}
use Rattle.std.proofs.lemmas.List.Elements.{All-nil, All-cons, All-head, All-tail}
use Rattle.task_text.specs.declared.task.Task.{Task}
use Rattle.threads.specs.Log.{flat}
use Rattle.threads.specs.Passes.{HallValue, IsPassOf, seen_of}
use Rattle.journal_model.specs.declared.entry.Entry.{Entry}
use Rattle.journal_model.specs.declared.opening.Opening.{Opening}
use Rattle.journal_model.specs.declared.verdict.Why.TheVariants.{Memory}
use Rattle.journal_model.specs.Journal.{is_ended, is_started}
use Rattle.journal_model.specs.Halves.{EarValue, MouthValue}
use Rattle.ann_key.specs.Pairs.{Pairwise}
use Rattle.crew_work.specs.Laws.Posts.{Mouth, tagged_crew}
use Rattle.crew_work.specs.Laws.Rounds.{CorePass, KeepsPost}
use Rattle.crew_work.proofs.LawsLemmas.Ending.{stayed_keeps}
use Rattle.child_link.specs.Doors.{Ends}
use Rattle.child_link.specs.Moves.{IsSameLink}
use Rattle.task_model.specs.declared.setup.Setup.{Setup}
use Rattle.crew_work.specs.Worker.Works.{CanServe}
use Rattle.threads.specs.declared.roles.back.Back.{Back}
use Rattle.threads.specs.declared.roles.back.Back.TheVariants.{Stayed, Ran}
use Rattle.threads.specs.Roles.Back.{CameBack}
use Rattle.threads.specs.Roles.BackRole.{has_run, role_of}
use Rattle.crew_rounds.specs.Tagged.Coming.{IsFresh}
use Rattle.crew_rounds.specs.Tagged.Crewing.{AllManned, WorkerTells}
use Rattle.crew_rounds.specs.Tagged.Roles.{CanHold, CanRunTasks, CanWork, EarRan, MouthRan, WorkerRan}
use Rattle.crew_rounds.specs.Tagged.TaggedRounds.{passes_of, desks_of}
use Rattle.crew_rounds.specs.declared.tagged.outcome.Outcome.{Outcome}
use Rattle.crew_rounds.specs.declared.tagged.outcome.Outcome.TheVariants.{Done, NoMemory, NoThreads}
use Rattle.crew_rounds.specs.Tagged.Backs.{roles_of}
use Rattle.crew_rounds.specs.Tagged.Outcomes.{IfDone, IfKept}
use Rattle.crew_rounds.specs.Tagged.Settled.{HasGivenUp, Settles}
use Rattle.crew_rounds.specs.Tagged.Tagged.{AreFresh, CrewLeft, HasThrough, TaggedCan, link_of}
use Rattle.crew_rounds.proofs.TaggedLemmas.Backs.{EarBack, MouthBack, ear_back, mouth_back, manned_all, manned_own, tells_of, through_one}
use Rattle.crew_rounds.proofs.TaggedLemmas.Ending.{ender_keeps}
use Rattle.threads.proofs.RolesLemmas.Dealing.{all_reverse, map_map, pairwise_length, pairwise_reverse}
use Rattle.crew_rounds.proofs.TaggedLemmas.Places.{any_reverse, roles_order, stayed_same}

module _ {A B W K : Type 0} (ep : A → CorePass) (ee : A → EarValue) (mp : B → CorePass) (me : B → MouthValue) (wp : W → CorePass) (wd : W → K) (tells : K → DeskTold)
    (eran : A → A → Type 0) (mran : B → B → Type 0) (wran : W → W → Type 0) (h : HallValue Entry Opening) (setup : Setup) (Placed : W → Type 0)
    (main : CorePass) (a : A) (b : B) (ws : List W) (passes : List CorePass) (desks : List K) where
  -- how a round begins
  pub record Begins : Type 0 where
    pub hears : (x : A) → eran a x → EarRan h (ep a) (ep x) (ee a) (ee x)
    pub speaks : (x : B) → mran b x → MouthRan h (mp b) (mp x) (me b) (me x)
    pub works : (w v : W) → Placed w → wran w v → WorkerRan h setup (wp w) (wp v) false (ee a).child (Unit {0}) (Unit {0}) (tells (wd w)) (tells (wd v))
    pub placed : All Placed ws
    pub passes_are : passes ≡ main ∷ ep a ∷ mp b ∷ map wp (reverse ws)
    pub desks_are : desks ≡ map wd (reverse ws)
    pub fresh : AreFresh h 1 passes
    pub can : TaggedCan h.fixed h.start (link_of (ee a) (me b))
    pub one_child : (me b).child ≡ (ee a).child

  module _ (k : Begins) (a' : Back A) (b' : Back B) (bs : List (Back W)) (ear : CameBack eran a a') (mouth : CameBack mran b b') (all : Pairwise (CameBack wran) ws bs) where
    c : ℕ
    c = (ee a).child

    fresh : AreFresh h 1 (main ∷ ep a ∷ mp b ∷ map wp (reverse ws))
    fresh = subst (AreFresh h 1) k.passes_are k.fresh

    pub ear_left : EarBack h (tagged_crew (ee a).child) (ep a) (ep (role_of a')) (ee a) (ee (role_of a'))
    ear_left =
        let second : (ep a).number ≡ 2 = fresh.1.0.1 in
        ear_back ep ee eran h (tagged_crew (ee a).child) a a' k.hears fresh.1.0.0 (omega (arith, second)) (ap (tagged_crew (ee a).child) second) k.can.ear ear

    pub mouth_left : MouthBack h (tagged_crew (ee a).child) (mp b) (mp (role_of b')) (me b) (me (role_of b'))
    mouth_left =
        let third : (mp b).number ≡ 3 = fresh.1.1.0.1 in
        mouth_back mp me mran h (tagged_crew (ee a).child) b b' k.speaks fresh.1.1.0.0 (omega (arith, third)) (ap (tagged_crew (ee a).child) third ∙ ap Mouth (sym k.one_child)) k.can.mouth mouth

    pub same_left : IsSameLink (ee a) (ee (role_of a')) (me b) (me (role_of b'))
    same_left = (ear_left.same, mouth_left.same)

    pub one_left : (me (role_of b')).child ≡ (ee (role_of a')).child
    one_left = mouth_left.same.0 ∙ k.one_child ∙ sym ear_left.same.0

    workers : List WorkerTells
    workers = map (tells_of wp (λ w. tells (wd w)) wran h setup (ee a).child Placed k.works) (reverse bs)

    manned : AllManned h setup (ee a).child 4 (map (λ w. tells (wd w)) (reverse ws)) (map (tells_of wp (λ w. tells (wd w)) wran h setup (ee a).child Placed k.works) (reverse bs))
    manned = manned_all wp (λ w. tells (wd w)) wran h setup (ee a).child Placed k.works 4 (reverse ws) (reverse bs) (all_reverse Placed ws k.placed) fresh.1.1.1
        (pairwise_reverse (CameBack wran) ws bs all)

    worker_passes : map wp (reverse (roles_of bs)) ≡ passes_of (map (tells_of wp (λ w. tells (wd w)) wran h setup (ee a).child Placed k.works) (reverse bs))
    worker_passes = roles_order wp bs ∙ sym (map_map (tells_of wp (λ w. tells (wd w)) wran h setup (ee a).child Placed k.works) (λ (e : WorkerTells). e.pass) (reverse bs))

    worker_desks : map tells (map wd (reverse (roles_of bs))) ≡ desks_of (map (tells_of wp (λ w. tells (wd w)) wran h setup (ee a).child Placed k.works) (reverse bs))
    worker_desks =
        map_map wd tells (reverse (roles_of bs)) ∙ roles_order (λ w. tells (wd w)) bs
        ∙ sym (map_map (tells_of wp (λ w. tells (wd w)) wran h setup (ee a).child Placed k.works) (λ (e : WorkerTells). e.desk) (reverse bs))

    pub own_left : (last : CorePass) → IsPassOf h last → All (IsPassOf h) (last ∷ ep (role_of a') ∷ mp (role_of b') ∷ map wp (reverse (roles_of bs)))
    own_left last own =
        All-cons (IsPassOf h) last (ep (role_of a') ∷ mp (role_of b') ∷ map wp (reverse (roles_of bs))) own
        (All-cons (IsPassOf h) (ep (role_of a')) (mp (role_of b') ∷ map wp (reverse (roles_of bs))) ear_left.pass
        (All-cons (IsPassOf h) (mp (role_of b')) (map wp (reverse (roles_of bs))) mouth_left.pass
        (subst (All (IsPassOf h)) (sym worker_passes) (manned_own h setup (ee a).child 4 (map (λ w. tells (wd w)) (reverse ws))
        (map (tells_of wp (λ w. tells (wd w)) wran h setup (ee a).child Placed k.works) (reverse bs)) manned))))

    -- where a worker ran, its pass has seen that there is nothing more to do
    pub worked : (last : CorePass) → list_any has_run bs ≡ true → HasThrough h (ee a).child (last ∷ ep (role_of a') ∷ mp (role_of b') ∷ map wp (reverse (roles_of bs)))
    worked last some =
        let it = through_one wp (λ w. tells (wd w)) wran h setup (ee a).child Placed k.works (reverse ws) (reverse bs) (all_reverse Placed ws k.placed)
        (pairwise_reverse (CameBack wran) ws bs all) (any_reverse has_run bs ∙ some) in
        record {
          place = suc (suc (suc it.place));
          pass = it.pass;
          there = subst (λ (l : List CorePass). slice_get l it.place ≡ Some it.pass) (sym (roles_order wp bs)) it.there;
          through = it.through;
        }

    pub crew_left : (last : CorePass) → KeepsPost (tagged_crew (ee a).child) last → last.number ≡ 1
        → HasThrough h (ee a).child (last ∷ ep (role_of a') ∷ mp (role_of b') ∷ map wp (reverse (roles_of bs)))
        → CrewLeft h setup (ee a).child (link_of (ee (role_of a')) (me (role_of b'))) (last ∷ ep (role_of a') ∷ mp (role_of b') ∷ map wp (reverse (roles_of bs)))
        (map tells desks) (map tells (map wd (reverse (roles_of bs))))
    crew_left last keeps one through = record {
      main = last;
      ear = ep (role_of a');
      mouth = mp (role_of b');
      workers = map (tells_of wp (λ w. tells (wd w)) wran h setup (ee a).child Placed k.works) (reverse bs);
      passes_are = ap (λ (l : List CorePass). last ∷ ep (role_of a') ∷ mp (role_of b') ∷ l) worker_passes;
      desks_are = worker_desks;
      numbers = (one, ear_left.number ∙ fresh.1.0.1, mouth_left.number ∙ fresh.1.1.0.1);
      one_child = (ear_left.same.0, mouth_left.same.0 ∙ k.one_child);
      keeps = keeps;
      hears = ear_left.ends;
      speaks = mouth_left.ends;
      manned = subst (λ (ds : List DeskTold). AllManned h setup (ee a).child 4 ds (map (tells_of wp (λ w. tells (wd w)) wran h setup (ee a).child Placed k.works) (reverse bs)))
          (sym (ap (map tells) k.desks_are ∙ map_map wd tells (reverse ws))) manned;
      through = through;
    }

    none_left : {E : Type 0} (ran : E → E → Type 0) (x : E) (y : Back E) → has_run y ≡ false → CameBack ran x y → role_of y ≡ x
    none_left ran x (Stayed y) none same = same
    none_left ran x (Ran y) none r = absurd cc

    -- where nobody ran, all is as it was
    module _ (idle : list_any has_run bs ≡ false) (still : (has_run a' || has_run b') ≡ false) where
      ear_stayed : role_of a' ≡ a
      ear_stayed = none_left eran a a' (go (has_run a') (has_run b') still).0 ear
        where
          go : (x y : Bool) → (x || y) ≡ false → (x ≡ false) × (y ≡ false)
          go true y e = absurd cc
          go false y e = (refl, e)

      mouth_stayed : role_of b' ≡ b
      mouth_stayed = none_left mran b b' (go (has_run a') (has_run b') still).1 mouth
        where
          go : (x y : Bool) → (x || y) ≡ false → (x ≡ false) × (y ≡ false)
          go true y e = absurd cc
          go false y e = (refl, e)

      pub passes_kept : main ∷ ep (role_of a') ∷ mp (role_of b') ∷ map wp (reverse (roles_of bs)) ≡ passes
      passes_kept =
          ap (λ x. main ∷ ep x ∷ mp (role_of b') ∷ map wp (reverse (roles_of bs))) ear_stayed
          ∙ ap (λ x. main ∷ ep a ∷ mp x ∷ map wp (reverse (roles_of bs))) mouth_stayed
          ∙ ap (λ x. main ∷ ep a ∷ mp b ∷ map wp (reverse x)) (stayed_same wran ws bs all idle) ∙ sym k.passes_are

      pub desks_kept : map wd (reverse (roles_of bs)) ≡ desks
      desks_kept = ap (λ x. map wd (reverse x)) (stayed_same wran ws bs all idle) ∙ sym k.desks_are

      pub link_kept : (ee (role_of a') ≡ ee a) × (me (role_of b') ≡ me b)
      link_kept = (ap ee ear_stayed, ap me mouth_stayed)

    -- ---- with what the main thread made of it

    length_left : (last : CorePass) → length (last ∷ ep (role_of a') ∷ mp (role_of b') ∷ map wp (reverse (roles_of bs))) ≡ length passes
    length_left last =
        let same : length (map wp (reverse (roles_of bs))) ≡ length (map wp (reverse ws)) =
        ap length (roles_order wp bs) ∙ length-map (reverse bs) (λ x. wp (role_of x)) ∙ sym (pairwise_length (CameBack wran) (reverse ws) (reverse bs) (pairwise_reverse (CameBack wran) ws bs all))
        ∙ sym (length-map (reverse ws) wp) in
        ap (λ (n : ℕ). suc (suc (suc n))) same ∙ sym (ap length k.passes_are)

    last_own : (last : CorePass) (d : ℕ) (o : Outcome) → Settles h d (list_any has_run bs) (has_run a' || has_run b') main last o → IsPassOf h last
    last_own last d Done (inl s) = subst (IsPassOf h) (sym s.1) fresh.0.0.pass
    last_own last d Done (inr s) = s.pass
    last_own last d (NoThreads refused) s = subst (IsPassOf h) (sym s.2) fresh.0.0.pass
    last_own last d NoMemory s = subst (IsPassOf h) (sym s.2) fresh.0.0.pass

    main_keeps : KeepsPost (tagged_crew (ee a).child) main
    main_keeps = let one : main.number ≡ 1 = fresh.0.1 in stayed_keeps (tagged_crew (ee a).child) main (omega (arith, one)) fresh.0.0.none

    -- what the main thread's pass made of it
    gave : (last : CorePass) → HasGivenUp h (ee a).child main last → KeepsPost (tagged_crew (ee a).child) last
    gave last s =
        let one : last.number ≡ 1 = s.number ∙ fresh.0.1 in
        let begun : seen_of main ≡ last.start = ap (λ ks. main.start ++ flat ks) fresh.0.0.none ∙ append-nil main.start ∙ fresh.0.0.pass.2 ∙ sym s.pass.2 in
        ender_keeps h.fixed (tagged_crew (ee a).child) (ee a).child last (omega (arith, one)) (ap (tagged_crew (ee a).child) one)
        (subst (λ (l : List Entry). Ends h.fixed last.number false l (seen_of last) (ee a).child Memory) begun
        (subst (λ (n : ℕ). Ends h.fixed n false (seen_of main) (seen_of last) (ee a).child Memory) (sym s.number) s.ends))

    gone_through : (last : CorePass) (ps : List CorePass) → is_ended (seen_of last) (ee a).child ≡ true → HasThrough h (ee a).child (last ∷ ps)
    gone_through last ps over = record { place = zero; pass = last; there = refl; through = inr (rw over refl) }

    done_left : (last : CorePass) (o : Outcome) → Settles h (ee a).child (list_any has_run bs) (has_run a' || has_run b') main last o
        → IfDone o (CrewLeft h setup (ee a).child (link_of (ee (role_of a')) (me (role_of b'))) (last ∷ ep (role_of a') ∷ mp (role_of b') ∷ map wp (reverse (roles_of bs)))
        (map tells desks) (map tells (map wd (reverse (roles_of bs)))))
    done_left last Done (inl s) =
        crew_left last (subst (KeepsPost (tagged_crew (ee a).child)) (sym s.1) main_keeps) (ap (λ (p : CorePass). p.number) s.1 ∙ fresh.0.1) (worked last s.0)
    done_left last Done (inr s) =
        crew_left last (gave last s) (s.number ∙ fresh.0.1) (gone_through last (ep (role_of a') ∷ mp (role_of b') ∷ map wp (reverse (roles_of bs))) s.over)
    done_left last (NoThreads refused) s = tt
    done_left last NoMemory s = tt

    kept_left : (last : CorePass) (d : ℕ) (o : Outcome) → Settles h d (list_any has_run bs) (has_run a' || has_run b') main last o
        → IfKept o ((last ∷ ep (role_of a') ∷ mp (role_of b') ∷ map wp (reverse (roles_of bs)) ≡ passes)
        × ((ee (role_of a') ≡ ee a) × (me (role_of b') ≡ me b)) × (map wd (reverse (roles_of bs)) ≡ desks))
    kept_left last d Done s = tt
    kept_left last d (NoThreads refused) s = (
      ap (λ (p : CorePass). p ∷ ep (role_of a') ∷ mp (role_of b') ∷ map wp (reverse (roles_of bs))) s.2 ∙ passes_kept s.0 s.1,
      link_kept s.0 s.1,
      desks_kept s.0 s.1,
    )
    kept_left last d NoMemory s = (
      ap (λ (p : CorePass). p ∷ ep (role_of a') ∷ mp (role_of b') ∷ map wp (reverse (roles_of bs))) s.2 ∙ passes_kept s.0 s.1,
      link_kept s.0 s.1,
      desks_kept s.0 s.1,
    )

    -- ---- in terms of the kits

    module _ (e e' : EarValue) (m m' : MouthValue) (passes' : List CorePass) (desks' : List K) (last : CorePass) (o : Outcome) (ear_is : ee a ≡ e) (mouth_is : me b ≡ m)
        (passes'_is : passes' ≡ last ∷ ep (role_of a') ∷ mp (role_of b') ∷ map wp (reverse (roles_of bs))) (desks'_is : desks' ≡ map wd (reverse (roles_of bs)))
        (ear'_is : e' ≡ ee (role_of a')) (mouth'_is : m' ≡ me (role_of b')) (settled : Settles h (ee a).child (list_any has_run bs) (has_run a' || has_run b') main last o) where
      pub played_own : All (IsPassOf h) passes' × (length passes' ≡ length passes)
      played_own = (subst (All (IsPassOf h)) (sym passes'_is) (own_left last (last_own last (ee a).child o settled)), ap length passes'_is ∙ length_left last)

      pub played_left : IfDone o (CrewLeft h setup e.child (link_of e' m') passes' (map tells desks) (map tells desks'))
      played_left =
          subst (λ (x : EarValue). IfDone o (CrewLeft h setup x.child (link_of e' m') passes' (map tells desks) (map tells desks'))) ear_is
          (subst (λ (x : EarValue). IfDone o (CrewLeft h setup (ee a).child (link_of x m') passes' (map tells desks) (map tells desks'))) (sym ear'_is)
          (subst (λ (x : MouthValue). IfDone o (CrewLeft h setup (ee a).child (link_of (ee (role_of a')) x) passes' (map tells desks) (map tells desks'))) (sym mouth'_is)
          (subst (λ (x : List CorePass). IfDone o (CrewLeft h setup (ee a).child (link_of (ee (role_of a')) (me (role_of b'))) x (map tells desks) (map tells desks'))) (sym passes'_is)
          (subst (λ (x : List K). IfDone o (CrewLeft h setup (ee a).child (link_of (ee (role_of a')) (me (role_of b'))) (last ∷ ep (role_of a') ∷ mp (role_of b') ∷ map wp (reverse (roles_of bs))) (map tells desks) (map tells x))) (sym desks'_is)
          (done_left last o settled)))))

      pub played_kept : IfKept o ((passes' ≡ passes) × (((e' ≡ e) × (m' ≡ m)) × (desks' ≡ desks)))
      played_kept = go o (kept_left last (ee a).child o settled)
        where
          go : (o : Outcome) → IfKept o ((last ∷ ep (role_of a') ∷ mp (role_of b') ∷ map wp (reverse (roles_of bs)) ≡ passes)
              × ((ee (role_of a') ≡ ee a) × (me (role_of b') ≡ me b)) × (map wd (reverse (roles_of bs)) ≡ desks))
              → IfKept o ((passes' ≡ passes) × (((e' ≡ e) × (m' ≡ m)) × (desks' ≡ desks)))
          go Done h = tt
          go NoMemory h = (passes'_is ∙ h.0, ((ear'_is ∙ h.1.0 ∙ ear_is, mouth'_is ∙ h.1.1 ∙ mouth_is), desks'_is ∙ h.2))
          go (NoThreads refused) h = (passes'_is ∙ h.0, ((ear'_is ∙ h.1.0 ∙ ear_is, mouth'_is ∙ h.1.1 ∙ mouth_is), desks'_is ∙ h.2))

      pub played_same : IsSameLink e e' m m'
      played_same =
          subst (λ (x : EarValue). IsSameLink x e' m m') ear_is
          (subst (λ (x : EarValue). IsSameLink (ee a) x m m') (sym ear'_is)
          (subst (λ (x : MouthValue). IsSameLink (ee a) (ee (role_of a')) x m') mouth_is
          (subst (λ (x : MouthValue). IsSameLink (ee a) (ee (role_of a')) (me b) x) (sym mouth'_is) same_left)))

-- ---- what ran, said of the hall of the round

pub ear_so : (h₀ h : HallValue Entry Opening) (p q : CorePass) (e f : EarValue) → h₀ ≡ h → EarRan h₀ p q e f → EarRan h p q e f
ear_so h₀ h p q e f is r = subst (λ x. EarRan x p q e f) is r

pub mouth_so : (h₀ h : HallValue Entry Opening) (p q : CorePass) (m w : MouthValue) → h₀ ≡ h → MouthRan h₀ p q m w → MouthRan h p q m w
mouth_so h₀ h p q m w is r = subst (λ x. MouthRan x p q m w) is r

pub worker_so : (h₀ h : HallValue Entry Opening) (setup₀ setup : Setup) (p q : CorePass) (c₀ c : ℕ) (d d' : DeskTold) → h₀ ≡ h → setup₀ ≡ setup → c₀ ≡ c
    → WorkerRan h₀ setup₀ p q false c₀ (Unit {0}) (Unit {0}) d d' → WorkerRan h setup p q false c (Unit {0}) (Unit {0}) d d'
worker_so h₀ h setup₀ setup p q c₀ c d d' hall_is setup_is child_is r =
    subst (λ x. WorkerRan x setup p q false c (Unit {0}) (Unit {0}) d d') hall_is
    (subst (λ x. WorkerRan h₀ x p q false c (Unit {0}) (Unit {0}) d d') setup_is
    (subst (λ x. WorkerRan h₀ setup₀ p q false x (Unit {0}) (Unit {0}) d d') child_is r))

-- ---- where roles may begin

fresh_seen : (h : HallValue Entry Opening) (p : CorePass) → IsFresh h p → h.start ≡ seen_of p
fresh_seen h p f = sym (ap (λ ks. p.start ++ flat ks) f.none ∙ append-nil p.start ∙ f.pass.2)

pub may_hold : (h h₀ : HallValue Entry Opening) (p : CorePass) (c : ℕ) → h₀ ≡ h → IsFresh h p → is_started h.start c ≡ true → CanHold h₀ p c
may_hold h h₀ p c is fresh started =
    subst (λ x. CanHold x p c) (sym is) (record { pass = fresh.pass; started = subst (λ (l : List Entry). is_started l c ≡ true) (fresh_seen h p fresh) started })

pub may_work : (h h₀ : HallValue Entry Opening) (p : CorePass) (tasks tasks₀ : List Task) (setup setup₀ : Setup) (c c₀ : ℕ) → h₀ ≡ h → tasks₀ ≡ tasks → setup₀ ≡ setup → c₀ ≡ c
    → IsFresh h p → CanRunTasks h.fixed tasks setup → CanServe h.fixed c h.start → CanWork h₀ p tasks₀ setup₀ c₀
may_work h h₀ p tasks tasks₀ setup setup₀ c c₀ hall_is tasks_is setup_is child_is fresh run serves =
    subst (λ x. CanWork x p tasks₀ setup₀ c₀) (sym hall_is)
    (subst (λ x. CanWork h p x setup₀ c₀) (sym tasks_is)
    (subst (λ x. CanWork h p tasks x c₀) (sym setup_is)
    (subst (λ x. CanWork h p tasks setup x) (sym child_is)
    (record { pass = fresh.pass; run = run; can = subst (CanServe h.fixed c) (fresh_seen h p fresh) serves }))))

pub may_all : {W : Type 0} (wp : W → CorePass) (h : HallValue Entry Opening) (Placed Can : W → Type 0) → ((w : W) → Placed w → IsFresh h (wp w) → Can w)
    → (first : ℕ) (ws : List W) → All Placed ws → AreFresh h first (map wp (reverse ws)) → All Can ws
may_all {W} wp h Placed Can may first ws placed fresh = subst (All Can) (reverse-reverse ws) (all_reverse Can (reverse ws) (go first (reverse ws) (all_reverse Placed ws placed) fresh))
  where
    go : (first : ℕ) (ws : List W) → All Placed ws → AreFresh h first (map wp ws) → All Can ws
    go first [] placed fresh = All-nil Can
    go first (w ∷ ws) placed fresh = All-cons Can w ws (may w (All-head Placed w ws placed) fresh.0.0) (go (first + 1) ws (All-tail Placed w ws placed) fresh.1)

abbrev pub fresh_start : HallValue Entry Opening → ℕ → Type 0
fresh_start h c = is_started h.start c ≡ true
