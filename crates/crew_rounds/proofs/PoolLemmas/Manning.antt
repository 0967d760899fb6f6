-- What the workers of a pool promise at their end, at the posts of a crew.
use Rattle.std.proofs.Common.{◌≡◌, ℕ, ◌+◌, ◌-◌, ◌<◌, List, [], ◌∷◌, refl, sym, ap, subst, ◌∙◌, true, false, arith, drop, length, zero, suc, Some, slice_get}
use Rattle.std.specs.Prelude.{All, nat_lt}
use Rattle.std.specs.List.{range_with_len}
use Rattle.std.proofs.lemmas.Bool.Decides.{nat_tests}
use Rattle.std.proofs.lemmas.List.Elements.{All-head, All-tail}
use Rattle.ann_outside.specs.declared.file_desk.Call.{Call}
use Rattle.threads.specs.Passes.{HallValue, seen_of}
use Rattle.journal_model.specs.declared.entry.Entry.{Entry}
use Rattle.journal_model.specs.declared.opening.Opening.{Opening}
use Rattle.journal_model.specs.Shares.{are_own, is_of_child}
use Rattle.child_link.specs.Writings.{LoneWired, is_written_first}
use Rattle.ann_key.specs.Pairs.{Pairwise}
use Rattle.crew_work.specs.Laws.Posts.{Post, Lone, makes, pool_crew, lone_post}
use Rattle.crew_work.specs.Laws.Rounds.{CorePass, IsWired, LoneEnds, since}
use Rattle.crew_work.specs.Laws.Laws.{children_of, numbers_of}
use Rattle.crew_work.proofs.LawsLemmas.Halls.{drop_start}
use Rattle.task_model.specs.declared.setup.Setup.{Setup}
use Rattle.crew_work.specs.Laws.JournalRuns.{HasJournalRun}
use Rattle.crew_work.specs.Worker.Works.{TaskDone}
use Rattle.crew_work.specs.Beside.Runs.{calls_of}
use Rattle.crew_work.proofs.BesideLemmas.Ending.{lone_ends}
use Rattle.crew_rounds.specs.Tagged.Crewing.{DesksDid}
use Rattle.crew_rounds.proofs.TaggedLemmas.Crewing.{Agree, Own, agree_here, agree_later, desk_did}
use Rattle.crew_rounds.specs.Tagged.Tagged.{AreFresh}
use Rattle.crew_rounds.specs.Pool.Left.{LoneBack, LoneTells, desks_of, links_of, passes_of}
use Rattle.crew_rounds.specs.Tagged.PoolChildren.{MayServe}

-- each of the children has the post of who has it for itself, where the numbers begin with this
abbrev pub Posted : (ℕ → Post) → ℕ → List ℕ → Type 0
Posted crew first children = (i c : ℕ) → slice_get children i ≡ Some c → crew (i + first) ≡ Lone c

posted_here : (crew : ℕ → Post) (first c : ℕ) (cs : List ℕ) → Posted crew first (c ∷ cs) → crew first ≡ Lone c
posted_here crew first c cs h = let at : 0 + first ≡ first = omega arith in sym (ap crew at) ∙ h 0 c refl

posted_later : (crew : ℕ → Post) (first c : ℕ) (cs : List ℕ) → Posted crew first (c ∷ cs) → Posted crew (first + 1) cs
posted_later crew first c cs h i d there = let at : i + (first + 1) ≡ suc i + first = omega arith in ap crew at ∙ h (suc i) d there

pub pool_posted : (children : List ℕ) → Posted (pool_crew children) 2 children
pool_posted children i c there =
    let late : nat_lt (i + 2) 2 ≡ false = grind (arith, nat_tests) in
    let at : (i + 2) - 2 ≡ i = omega arith in
    rw late (ap (λ (n : ℕ). lone_post (slice_get children n)) at ∙ ap lone_post there)

module _ (h : HallValue Entry Opening) (setup : Setup) where
  -- the tasks that each worker did
  abbrev pub dones_of : (ss es : List LoneTells) → Pairwise (LoneBack h setup) ss es → List (List TaskDone)
  dones_of [] [] all = []
  dones_of [] (e ∷ es) all = []
  dones_of (s ∷ ss) [] all = []
  dones_of (s ∷ ss) (e ∷ es) all = all.0.worked.done ∷ dones_of ss es all.1

  wired_one : (s e : LoneTells) → LoneBack h setup s e → MayServe h.fixed h.start s.link → IsWired e.pass.start s.link
  wired_one s e b m =
      subst (λ (x : List Entry). IsWired x s.link) (sym b.pass.2) (record { one_child = b.one_child; started = m.serves.started; wired = m.wired.link })

  ends_one : (calls : ℕ → ℕ → ℕ → List Call) (crew : ℕ → Post) (s e : LoneTells) → (b : LoneBack h setup s e) → MayServe h.fixed h.start s.link → 0 < e.pass.number
      → ((t k : ℕ) → calls e.pass.number t k ≡ calls_of b.worked.done t k) → crew e.pass.number ≡ Lone s.link.ear.child → LoneEnds h.fixed (HasJournalRun h.fixed setup calls) crew e.link e.pass
  ends_one calls crew s e b m pos told post =
      lone_ends h.fixed setup calls crew e.pass s.link e.link s.desk e.desk b.worked b.same (wired_one s e b m)
      (subst (λ (x : List Entry). is_written_first x s.link.ear.child ≡ true) (sym b.pass.2) m.wired.written) b.through pos told
      (λ w k. subst (λ (q : Post). makes q w ≡ true) (sym post) k)

  pub ends_all : (calls : ℕ → ℕ → ℕ → List Call) (crew : ℕ → Post) (first : ℕ) (ss es : List LoneTells) → (all : Pairwise (LoneBack h setup) ss es) → AreFresh h first (passes_of ss)
      → All (MayServe h.fixed h.start) (links_of ss) → 0 < first → Agree calls first (dones_of ss es all) → Posted crew first (children_of (links_of ss))
      → Pairwise (LoneEnds h.fixed (HasJournalRun h.fixed setup calls) crew) (links_of es) (passes_of es)
  ends_all calls crew first [] [] all fresh may pos agree posted = tt
  ends_all calls crew first [] (e ∷ es) all fresh may pos agree posted = absurd all
  ends_all calls crew first (s ∷ ss) [] all fresh may pos agree posted = absurd all
  ends_all calls crew first (s ∷ ss) (e ∷ es) all fresh may pos agree posted = (
    (let is : e.pass.number ≡ first = all.0.number ∙ fresh.0.1 in
        ends_one calls crew s e all.0 (All-head (MayServe h.fixed h.start) s.link (links_of ss) may) (omega (arith, is, pos))
        (λ t k. ap (λ (n : ℕ). calls n t k) is ∙ agree_here calls first all.0.worked.done (dones_of ss es all.1) agree t k)
        (ap crew is ∙ posted_here crew first s.link.ear.child (children_of (links_of ss)) posted)),
    ends_all calls crew (first + 1) ss es all.1 fresh.1 (All-tail (MayServe h.fixed h.start) s.link (links_of ss) may) (omega (arith, pos))
        (agree_later calls first all.0.worked.done (dones_of ss es all.1) agree) (posted_later crew first s.link.ear.child (children_of (links_of ss)) posted),
  )

  pub did_all : (rest : List Entry) (first : ℕ) (ss es : List LoneTells) → (all : Pairwise (LoneBack h setup) ss es) → AreFresh h first (passes_of ss)
      → All (MayServe h.fixed h.start) (links_of ss) → ((i : ℕ) (p : CorePass) → slice_get (passes_of es) i ≡ Some p → Own h.fixed h.start rest p)
      → DesksDid h.fixed setup h.start rest first (dones_of ss es all) (desks_of ss) (desks_of es)
  did_all rest first [] [] all fresh may own = tt
  did_all rest first [] (e ∷ es) all fresh may own = absurd all
  did_all rest first (s ∷ ss) [] all fresh may own = absurd all
  did_all rest first (s ∷ ss) (e ∷ es) all fresh may own = (
    desk_did h.fixed setup true s.link.ear.child first h.start rest e.pass (LoneWired e.pass.start s.link.ear s.link.mouth) (LoneWired (seen_of e.pass) e.link.ear e.link.mouth) s.desk e.desk
        (all.0.number ∙ fresh.0.1) (All-head (MayServe h.fixed h.start) s.link (links_of ss) may).serves.number all.0.worked (own zero e.pass refl),
    did_all rest (first + 1) ss es all.1 fresh.1 (All-tail (MayServe h.fixed h.start) s.link (links_of ss) may) (λ i p there. own (suc i) p there),
  )

  -- the numbers go on from the first
  pub by_place : (first : ℕ) (ss es : List LoneTells) → Pairwise (LoneBack h setup) ss es → AreFresh h first (passes_of ss) → (i : ℕ) (p : CorePass) → slice_get (passes_of es) i ≡ Some p
      → p.number ≡ i + first
  by_place first [] [] all fresh i p there = absurd cc
  by_place first [] (e ∷ es) all fresh i p there = absurd all
  by_place first (s ∷ ss) [] all fresh i p there = absurd all
  by_place first (s ∷ ss) (e ∷ es) all fresh zero p there =
      let here : e.pass.number ≡ first = all.0.number ∙ fresh.0.1 in
      let same : e.pass ≡ p = cc in
      let number : p.number ≡ e.pass.number = ap (λ (q : CorePass). q.number) (sym same) in
      omega (arith, here, number)
  by_place first (s ∷ ss) (e ∷ es) all fresh (suc i) p there = let later = by_place (first + 1) ss es all.1 fresh.1 i p there in omega (arith, later)

  pub came_numbers : (first : ℕ) (ss es : List LoneTells) → Pairwise (LoneBack h setup) ss es → AreFresh h first (passes_of ss) → numbers_of (passes_of es) ≡ range_with_len first (length ss)
  came_numbers first [] [] all fresh = refl
  came_numbers first [] (e ∷ es) all fresh = absurd all
  came_numbers first (s ∷ ss) [] all fresh = absurd all
  came_numbers first (s ∷ ss) (e ∷ es) all fresh =
      let here : e.pass.number ≡ first = all.0.number ∙ fresh.0.1 in
      let more : numbers_of (passes_of es) ≡ range_with_len (first + 1) (length ss) = came_numbers (first + 1) ss es all.1 fresh.1 in
      cc

  pub same_children : (ss es : List LoneTells) → Pairwise (LoneBack h setup) ss es → children_of (links_of es) ≡ children_of (links_of ss)
  same_children [] [] all = refl
  same_children [] (e ∷ es) all = absurd all
  same_children (s ∷ ss) [] all = absurd all
  same_children (s ∷ ss) (e ∷ es) all =
      let here : e.link.ear.child ≡ s.link.ear.child = all.0.same.0.0 in
      let more : children_of (links_of es) ≡ children_of (links_of ss) = same_children ss es all.1 in
      cc

  -- where nobody else made what names its child, a worker's link is wired, and what was asked of it was written first
  pub wired_end : (s e : LoneTells) → LoneBack h setup s e → MayServe h.fixed h.start s.link → are_own (is_of_child e.link.ear.child) e.pass.number (since e.pass) ≡ true
      → LoneWired (seen_of e.pass) e.link.ear e.link.mouth
  wired_end s e b m own =
      b.worked.did.moved.kept
      (subst (λ (c : ℕ). are_own (is_of_child c) e.pass.number b.worked.did.moved.more ≡ true) b.same.0.0
      (subst (λ (x : List Entry). are_own (is_of_child e.link.ear.child) e.pass.number x ≡ true) made own))
      (subst (λ (x : List Entry). LoneWired x s.link.ear s.link.mouth) (sym b.pass.2) m.wired)
    where
      made : since e.pass ≡ b.worked.did.moved.more
      made = ap (λ (x : List Entry). drop (length e.pass.start) x) b.worked.did.moved.is ∙ drop_start e.pass.start b.worked.did.moved.more
