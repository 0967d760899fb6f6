-- What the workers of a round over a pool leave, put together.
use Rattle.ann_outside.specs.Told.{DeskTold}
use Rattle.std.proofs.Common.{◌≡◌, List, [], ◌∷◌, map, Bool, true, false, refl, sym, ap, subst, ◌∙◌, suc, length}
use Rattle.std.specs.Prelude.{All, Option, Some, None, reverse}
use Rattle.std.specs.List.{list_any}
use Rattle.std.proofs.lemmas.List.{length-map, reverse-reverse}
use Rattle.std.proofs.lemmas.List.Elements.{All-nil, All-cons, All-head, All-tail}
use Rattle.threads.specs.Passes.{HallValue, IsPassOf}
use Rattle.journal_model.specs.declared.entry.Entry.{Entry}
use Rattle.journal_model.specs.declared.opening.Opening.{Opening}
use Rattle.ann_key.specs.Pairs.{Pairwise}
use Rattle.crew_work.specs.Laws.Rounds.{CorePass, LinkValue}
use Rattle.task_model.specs.declared.setup.Setup.{Setup}
use Rattle.threads.specs.declared.roles.back.Back.{Back}
use Rattle.threads.specs.declared.roles.slot.Refused.{Refused}
use Rattle.threads.specs.Roles.Back.{CameBack}
use Rattle.threads.specs.Roles.BackRole.{has_run, role_of}
use Rattle.crew_rounds.specs.declared.tagged.outcome.Outcome.{Outcome}
use Rattle.crew_rounds.specs.Tagged.Backs.{roles_of}
use Rattle.crew_rounds.specs.Tagged.Outcomes.{IfDone, IfKept}
use Rattle.crew_rounds.specs.Tagged.Tagged.{AreFresh}
use Rattle.threads.proofs.RolesLemmas.Dealing.{all_reverse, map_map, pairwise_length, pairwise_reverse}
use Rattle.crew_rounds.proofs.TaggedLemmas.Places.{any_reverse, roles_order, stayed_same}
use Rattle.crew_rounds.specs.Pool.Left.{IsThroughAt, LoneBack, LoneTells, PoolLeft, desks_of, done_if, links_of, passes_of}
use Rattle.crew_rounds.specs.Pool.Pool.{AreAsBefore, AreSameLinks}
use Rattle.crew_rounds.proofs.PoolLemmas.Backs.{LoneRan, came_all, came_own, came_same, through_one}

module _ {W L K : Type 0} (wp : W → CorePass) (ww : W → L) (wd : W → K) (link : L → LinkValue) (desk : K → DeskTold) (ran : W → W → Type 0) (h : HallValue Entry Opening) (setup : Setup)
    (Placed : W → Type 0) (main : CorePass) (ws : List W) (passes : List CorePass) (links : List L) (desks : List K) where
  abbrev pub tells : W → LoneTells
  tells w = record { pass = wp w; link = link (ww w); desk = desk (wd w) }

  -- how a round begins
  pub record Begins : Type 0 where
    pub works : (w v : W) → Placed w → ran w v → LoneRan h setup (record { pass = wp w; link = link (ww w); desk = desk (wd w) }) (record { pass = wp v; link = link (ww v); desk = desk (wd v) })
    pub one_child : (w : W) → (link (ww w)).mouth.child ≡ (link (ww w)).ear.child
    pub placed : All Placed ws
    pub passes_are : passes ≡ main ∷ map wp (reverse ws)
    pub links_are : links ≡ map ww (reverse ws)
    pub desks_are : desks ≡ map wd (reverse ws)
    pub fresh : AreFresh h 1 passes

  module _ (k : Begins) (bs : List (Back W)) (all : Pairwise (CameBack ran) ws bs) where
    abbrev starts : List LoneTells
    starts = map tells (reverse ws)

    abbrev ends : List LoneTells
    ends = map (λ b. tells (role_of b)) (reverse bs)

    fresh : AreFresh h 1 (main ∷ map wp (reverse ws))
    fresh = subst (AreFresh h 1) k.passes_are k.fresh

    came : Pairwise (LoneBack h setup) (map tells (reverse ws)) (map (λ b. tells (role_of b)) (reverse bs))
    came = came_all h setup tells ran Placed k.works k.one_child 2 (reverse ws) (reverse bs) (all_reverse Placed ws k.placed) fresh.1 (pairwise_reverse (CameBack ran) ws bs all)

    through : list_any has_run bs ≡ true → IsThroughAt h (map (λ b. tells (role_of b)) (reverse bs))
    through some = through_one h setup tells ran Placed k.works (reverse ws) (reverse bs) (all_reverse Placed ws k.placed) (pairwise_reverse (CameBack ran) ws bs all) (any_reverse has_run bs ∙ some)

    passes_left : map wp (reverse (roles_of bs)) ≡ passes_of (map (λ b. tells (role_of b)) (reverse bs))
    passes_left = roles_order wp bs ∙ sym (map_map (λ b. tells (role_of b)) (λ (e : LoneTells). e.pass) (reverse bs))

    links_begun : map link links ≡ links_of (map tells (reverse ws))
    links_begun = ap (map link) k.links_are ∙ map_map ww link (reverse ws) ∙ sym (map_map tells (λ (e : LoneTells). e.link) (reverse ws))

    links_left : map link (map ww (reverse (roles_of bs))) ≡ links_of (map (λ b. tells (role_of b)) (reverse bs))
    links_left =
        map_map ww link (reverse (roles_of bs)) ∙ roles_order (λ w. link (ww w)) bs ∙ sym (map_map (λ b. tells (role_of b)) (λ (e : LoneTells). e.link) (reverse bs))

    desks_begun : map desk desks ≡ desks_of (map tells (reverse ws))
    desks_begun = ap (map desk) k.desks_are ∙ map_map wd desk (reverse ws) ∙ sym (map_map tells (λ (e : LoneTells). e.desk) (reverse ws))

    desks_left : map desk (map wd (reverse (roles_of bs))) ≡ desks_of (map (λ b. tells (role_of b)) (reverse bs))
    desks_left =
        map_map wd desk (reverse (roles_of bs)) ∙ roles_order (λ w. desk (wd w)) bs ∙ sym (map_map (λ b. tells (role_of b)) (λ (e : LoneTells). e.desk) (reverse bs))

    left : list_any has_run bs ≡ true
        → PoolLeft h setup (map link links) (map link (map ww (reverse (roles_of bs)))) (main ∷ map wp (reverse (roles_of bs))) (map desk desks) (map desk (map wd (reverse (roles_of bs))))
    left some = record {
      main = main;
      starts = map tells (reverse ws);
      ends = map (λ b. tells (role_of b)) (reverse bs);
      passes_are = ap (λ (l : List CorePass). main ∷ l) passes_left;
      links_are = (links_begun, links_left);
      desks_are = (desks_begun, desks_left);
      still = fresh.0;
      fresh = subst (AreFresh h 2) (sym (map_map tells (λ (e : LoneTells). e.pass) (reverse ws))) fresh.1;
      came = came;
      through = through some;
    }

    done : (refused : Option Refused) (r : Bool) → list_any has_run bs ≡ r
        → IfDone (done_if r refused)
        (PoolLeft h setup (map link links) (map link (map ww (reverse (roles_of bs)))) (main ∷ map wp (reverse (roles_of bs))) (map desk desks) (map desk (map wd (reverse (roles_of bs)))))
    done refused true some = left some
    done (Some refused) false none = tt
    done None false none = tt

    unchanged : list_any has_run bs ≡ false
        → (main ∷ map wp (reverse (roles_of bs)) ≡ passes) × AreAsBefore links (map ww (reverse (roles_of bs))) desks (map wd (reverse (roles_of bs)))
    unchanged none =
        let same = stayed_same ran ws bs all none in (
          ap (λ x. main ∷ map wp (reverse x)) same ∙ sym k.passes_are,
          (ap (λ x. map ww (reverse x)) same ∙ sym k.links_are, ap (λ x. map wd (reverse x)) same ∙ sym k.desks_are),
        )

    kept : (refused : Option Refused) (r : Bool) → list_any has_run bs ≡ r
        → IfKept (done_if r refused) ((main ∷ map wp (reverse (roles_of bs)) ≡ passes) × AreAsBefore links (map ww (reverse (roles_of bs))) desks (map wd (reverse (roles_of bs))))
    kept refused true some = tt
    kept (Some refused) false none = unchanged none
    kept None false none = unchanged none

    so_many : {X : Type 0} (f : W → X) → length (map f (reverse (roles_of bs))) ≡ length (map f (reverse ws))
    so_many f =
        ap length (roles_order f bs) ∙ length-map (reverse bs) (λ x. f (role_of x)) ∙ sym (pairwise_length (CameBack ran) (reverse ws) (reverse bs) (pairwise_reverse (CameBack ran) ws bs all))
        ∙ sym (length-map (reverse ws) f)

    -- ---- in terms of the kits

    module _ (refused : Option Refused) (passes' : List CorePass) (links' : List L) (desks' : List K) (o : Outcome) (passes'_is : passes' ≡ main ∷ map wp (reverse (roles_of bs)))
        (links'_is : links' ≡ map ww (reverse (roles_of bs))) (desks'_is : desks' ≡ map wd (reverse (roles_of bs))) (outcome_is : o ≡ done_if (list_any has_run bs) refused) where
      played_own : All (IsPassOf h) passes' × (length passes' ≡ length passes)
      played_own = (
        subst (All (IsPassOf h)) (sym (passes'_is ∙ ap (λ (l : List CorePass). main ∷ l) passes_left))
            (All-cons (IsPassOf h) main (passes_of (map (λ b. tells (role_of b)) (reverse bs))) fresh.0.0.pass
            (came_own h setup (map tells (reverse ws)) (map (λ b. tells (role_of b)) (reverse bs)) came)),
        ap length passes'_is ∙ ap suc (so_many wp) ∙ sym (ap length k.passes_are),
      )

      played_left : IfDone o (PoolLeft h setup (map link links) (map link links') passes' (map desk desks) (map desk desks'))
      played_left =
          subst (λ (x : Outcome). IfDone x (PoolLeft h setup (map link links) (map link links') passes' (map desk desks) (map desk desks'))) (sym outcome_is)
          (subst (λ (x : List L). IfDone (done_if (list_any has_run bs) refused) (PoolLeft h setup (map link links) (map link x) passes' (map desk desks) (map desk desks'))) (sym links'_is)
          (subst (λ (x : List CorePass). IfDone (done_if (list_any has_run bs) refused) (PoolLeft h setup (map link links) (map link (map ww (reverse (roles_of bs)))) x (map desk desks) (map desk desks')))
          (sym passes'_is)
          (subst (λ (x : List K). IfDone (done_if (list_any has_run bs) refused) (PoolLeft h setup (map link links) (map link (map ww (reverse (roles_of bs)))) (main ∷ map wp (reverse (roles_of bs)))
          (map desk desks) (map desk x))) (sym desks'_is)
          (done refused (list_any has_run bs) refl))))

      played_kept : IfKept o ((passes' ≡ passes) × AreAsBefore links links' desks desks')
      played_kept =
          subst (λ (x : Outcome). IfKept x ((passes' ≡ passes) × AreAsBefore links links' desks desks')) (sym outcome_is)
          (subst (λ (x : List CorePass). IfKept (done_if (list_any has_run bs) refused) ((x ≡ passes) × AreAsBefore links links' desks desks')) (sym passes'_is)
          (subst (λ (x : List L). IfKept (done_if (list_any has_run bs) refused) ((main ∷ map wp (reverse (roles_of bs)) ≡ passes) × AreAsBefore links x desks desks')) (sym links'_is)
          (subst (λ (x : List K). IfKept (done_if (list_any has_run bs) refused) ((main ∷ map wp (reverse (roles_of bs)) ≡ passes) × AreAsBefore links (map ww (reverse (roles_of bs))) desks x)) (sym desks'_is)
          (kept refused (list_any has_run bs) refl))))

      played_same : AreSameLinks (map link links) (map link links') × (length desks' ≡ length desks)
      played_same = (
        subst (λ (x : List LinkValue). AreSameLinks x (map link links')) (sym links_begun)
            (subst (λ (x : List LinkValue). AreSameLinks (links_of (map tells (reverse ws))) x) (sym (ap (map link) links'_is ∙ links_left))
            (came_same h setup (map tells (reverse ws)) (map (λ b. tells (role_of b)) (reverse bs)) came)),
        ap length desks'_is ∙ so_many wd ∙ sym (ap length k.desks_are),
      )

      pub played : (All (IsPassOf h) passes' × (length passes' ≡ length passes)) × IfDone o (PoolLeft h setup (map link links) (map link links') passes' (map desk desks) (map desk desks'))
          × IfKept o ((passes' ≡ passes) × AreAsBefore links links' desks desks') × (AreSameLinks (map link links) (map link links') × (length desks' ≡ length desks))
      played = (played_own, played_left, played_kept, played_same)

-- ---- where the workers may begin

both_all : {W L : Type 0} (ww : W → L) (link : L → LinkValue) (P : W → Type 0) (Q : LinkValue → Type 0) (ws : List W) → All P ws → All Q (map link (map ww ws))
    → All (λ w. P w × Q (link (ww w))) ws
both_all ww link P Q [] ps qs = All-nil (λ w. P w × Q (link (ww w)))
both_all ww link P Q (w ∷ ws) ps qs =
    All-cons (λ w. P w × Q (link (ww w))) w ws (All-head P w ws ps, All-head Q (link (ww w)) (map link (map ww ws)) qs)
    (both_all ww link P Q ws (All-tail P w ws ps) (All-tail Q (link (ww w)) (map link (map ww ws)) qs))

-- what holds of each link holds of the one that its worker has
pub serving : {W L : Type 0} (ww : W → L) (link : L → LinkValue) (P : W → Type 0) (Q : LinkValue → Type 0) (ws : List W) (links : List L) → links ≡ map ww (reverse ws) → All P ws
    → All Q (map link links) → All (λ w. P w × Q (link (ww w))) ws
serving {W} {L} ww link P Q ws links is ps qs =
    subst (All (λ w. P w × Q (link (ww w)))) (reverse-reverse ws)
    (all_reverse (λ w. P w × Q (link (ww w))) (reverse ws) (both_all ww link P Q (reverse ws) (all_reverse P ws ps) (subst (λ (ls : List L). All Q (map link ls)) is qs)))
