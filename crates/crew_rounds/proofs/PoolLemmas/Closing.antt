-- The hall of a round over a pool is closed.
use Rattle.ann_outside.specs.Told.{DeskTold}
use Rattle.std.proofs.Common.{◌≡◌, ℕ, suc, ◌+◌, ◌-◌, List, [], ◌∷◌, ◌++◌, refl, sym, ap, subst, ◌∙◌, Some, length, arith, slice_get}
use Rattle.std.specs.Prelude.{All, map}
use Rattle.std.specs.List.{range_with_len}
use Rattle.std.proofs.lemmas.List.{append_cancel_left, length-map}
use Rattle.std.proofs.lemmas.List.Elements.{All-nil, All-cons}
use Rattle.std.proofs.lemmas.Option.{slice_get-map}
use Rattle.threads.specs.Log.{flat}
use Rattle.threads.specs.Passes.{HallValue}
use Rattle.threads.proofs.Logs.{all-from_get, get-from_all}
use Rattle.journal_model.specs.declared.verdict.Why.TheVariants.{Closed as WasClosed}
use Rattle.journal_model.specs.declared.entry.Entry.{Entry}
use Rattle.journal_model.specs.declared.opening.Opening.{Opening}
use Rattle.journal_model.specs.Journal.{why_of}
use Rattle.journal_model.specs.Legality.{Legal}
use Rattle.journal_model.specs.Shares.{is_of_child}
use Rattle.child_link.specs.Writings.{LoneWired}
use Rattle.child_link.proofs.Writings.{lone_apart}
use Rattle.ann_key.specs.Pairs.{Pairwise}
use Rattle.crew_work.specs.Laws.Posts.{Post, pool_crew}
use Rattle.crew_work.specs.Laws.Rounds.{CorePass, KeepsPost, LinkValue, LoneEnds, Round}
use Rattle.crew_work.specs.Laws.Laws.{Distinct, GoesOn, Over, children_of, numbers_of}
use Rattle.crew_work.proofs.LawsLemmas.Crews.{child_at_lone}
use Rattle.crew_work.proofs.LawsLemmas.Ending.{stayed_keeps}
use Rattle.crew_work.proofs.LawsLemmas.Gathering.{Closed, closed, gathers, turns_in}
use Rattle.crew_work.proofs.LawsLemmas.Rounding.{of_second, pool_keeps}
use Rattle.crew_work.proofs.LawsLemmas.WholeRounds.{pool_gathers}
use Rattle.task_model.specs.declared.setup.Setup.{Setup}
use Rattle.crew_work.specs.Laws.JournalRuns.{HasJournalRun}
use Rattle.crew_work.proofs.LawsLemmas.Lasting.{run_lasts}
use Rattle.crew_work.specs.Worker.Works.{TaskDone}
use Rattle.crew_rounds.specs.Tagged.Coming.{IsFresh}
use Rattle.crew_rounds.specs.Tagged.Crewing.{calls_from}
use Rattle.crew_rounds.specs.declared.tagged.outcome.Outcome.{Outcome}
use Rattle.crew_rounds.specs.Tagged.Outcomes.{IfDone}
use Rattle.crew_rounds.specs.Tagged.Tagged.{AreFresh}
use Rattle.crew_rounds.proofs.TaggedLemmas.Closing.{if_done}
use Rattle.crew_rounds.specs.Pool.Left.{IsThroughAt, LoneBack, LoneTells, PoolLeft, desks_of, links_of, passes_of}
use Rattle.crew_rounds.specs.Tagged.PoolChildren.{MayServe, PoolCan}
use Rattle.crew_rounds.specs.Pool.Pool.{PoolLeaves}
use Rattle.crew_rounds.proofs.PoolLemmas.Manning.{by_place, came_numbers, did_all, dones_of, ends_all, pool_posted, same_children, wired_end}

mapped_there : {A B : Type 0} (f : A → B) (xs : List A) (i : ℕ) (x : A) → slice_get xs i ≡ Some x → slice_get (map f xs) i ≡ Some (f x)
mapped_there f xs i x there = rw (slice_get-map f xs i, there) refl

all_mapped : {A B : Type 0} (f : A → B) (P : B → Type 0) (xs : List A) → ((i : ℕ) (x : A) → slice_get xs i ≡ Some x → P (f x)) → All P (map f xs)
all_mapped f P [] each = All-nil P
all_mapped f P (x ∷ xs) each = All-cons P (f x) (map f xs) (each 0 x refl) (all_mapped f P xs (λ i y there. each (suc i) y there))

module _ (h : HallValue Entry Opening) (setup : Setup) (main : CorePass) (starts ends : List LoneTells) (came : Pairwise (LoneBack h setup) starts ends) (still : IsFresh h main × (main.number ≡ 1))
    (fresh : AreFresh h 2 (passes_of starts)) (can : PoolCan h.fixed h.start (links_of starts)) (through : IsThroughAt h ends) where
  abbrev dones : List (List TaskDone)
  dones = dones_of h setup starts ends came

  abbrev means : ℕ → ℕ → ℕ → List Entry → Type 0
  means = HasJournalRun h.fixed setup (calls_from 2 (dones_of h setup starts ends came))

  abbrev crew : ℕ → Post
  crew = pool_crew (children_of (links_of ends))

  -- who the worker at a place began as
  record BeganAs (i : ℕ) (e : LoneTells) : Type 0 where
    pub start : LoneTells
    pub back : LoneBack h setup start e
    pub may : MayServe h.fixed h.start start.link

  began : (i : ℕ) (e : LoneTells) → slice_get ends i ≡ Some e → BeganAs i e
  began i e there =
      let q = of_second (LoneBack h setup) starts ends came i e there in
      record {
        start = q.0;
        back = q.2;
        may = get-from_all (MayServe h.fixed h.start) (links_of starts) can.each i q.0.link (mapped_there (λ (s : LoneTells). s.link) starts i q.0 q.1);
      }

  legal : Legal h.fixed h.start
  legal = (began through.place through.end through.there).may.serves.legal

  unclosed : (i : ℕ) (e : LoneTells) → slice_get ends i ≡ Some e → why_of h.start e.link.ear.child ≡ Some WasClosed → ⊥
  unclosed i e there shut = let b = began i e there in b.may.unclosed (ap (λ (c : ℕ). why_of h.start c) (sym b.back.same.0.0) ∙ shut)

  distinct : Distinct (children_of (links_of ends))
  distinct = subst Distinct (sym (same_children h setup starts ends came)) can.differ

  keeps : KeepsPost (pool_crew (children_of (links_of ends))) main
  keeps = let one = still.1 in stayed_keeps (pool_crew (children_of (links_of ends))) main (omega (arith, one)) still.0.none

  number_at : (i : ℕ) (p : CorePass) → slice_get (passes_of ends) i ≡ Some p → p.number ≡ i + 2
  number_at = by_place h setup 2 starts ends came fresh

  manned : Pairwise (LoneEnds h.fixed (HasJournalRun h.fixed setup (calls_from 2 (dones_of h setup starts ends came))) (pool_crew (children_of (links_of ends)))) (links_of ends) (passes_of ends)
  manned =
      ends_all h setup (calls_from 2 (dones_of h setup starts ends came)) (pool_crew (children_of (links_of ends))) 2 starts ends came fresh can.each (omega arith) (λ n t k far. refl)
      (λ i c there. pool_posted (children_of (links_of ends)) i c (ap (λ (cs : List ℕ). slice_get cs i) (same_children h setup starts ends came) ∙ there))

  pub pool_closes : (final : List Entry) (fixed : Opening) → Over h (main ∷ passes_of ends) final fixed
      → GoesOn h.start final (λ rest. PoolLeaves h.fixed setup (numbers_of (main ∷ passes_of ends)) h.start rest (links_of starts) (links_of ends) (desks_of starts) (desks_of ends))
  pool_closes final fixed over = (
    rest,
    over.0.is,
    record {
      dones = dones_of h setup starts ends came;
      round = subst (λ (cs : List ℕ). Round h.fixed means (pool_crew cs) (numbers_of (main ∷ passes_of ends)) h.start rest (links_of ends)) (same_children h setup starts ends came)
          (subst (λ (x : List Entry). Round h.fixed means (pool_crew (children_of (links_of ends))) (numbers_of (main ∷ passes_of ends)) h.start x (links_of ends)) same goes.2);
      desks_did = did_all h setup rest 2 starts ends came fresh can.each
          (λ i p there. (shut.saw (suc i) p there, turns_in h.fixed (pool_crew (children_of (links_of ends))) h.start rest (main ∷ passes_of ends) shut (suc i) p there));
      wired = all_mapped (λ (e : LoneTells). e.link) (λ (l : LinkValue). LoneWired (h.start ++ rest) l.ear l.mouth) ends wired_at;
    },
  )
    where
      rest : List Entry
      rest = flat over.0.log

      goes : GoesOn h.start final (λ x. Round h.fixed means (pool_crew (children_of (links_of ends))) (numbers_of (main ∷ passes_of ends)) h.start x (links_of ends))
      goes =
          pool_gathers means (run_lasts h.fixed setup (calls_from 2 (dones_of h setup starts ends came))) h final fixed main (links_of ends) (passes_of ends) over legal can.calm distinct still.1
          number_at keeps manned through.end.pass through.place (mapped_there (λ (e : LoneTells). e.pass) ends through.place through.end through.there)
          through.end.link (mapped_there (λ (e : LoneTells). e.link) ends through.place through.end through.there)
          (unclosed through.place through.end through.there) through.through

      same : goes.0 ≡ rest
      same = append_cancel_left h.start goes.0 rest (sym goes.1 ∙ over.0.is)

      all : All (KeepsPost (pool_crew (children_of (links_of ends)))) (main ∷ passes_of ends)
      all = all-from_get (KeepsPost (pool_crew (children_of (links_of ends)))) (main ∷ passes_of ends)
          (pool_keeps h.fixed means (run_lasts h.fixed setup (calls_from 2 (dones_of h setup starts ends came))) main (links_of ends) (passes_of ends) still.1 number_at keeps manned)

      shut : Closed h.fixed (pool_crew (children_of (links_of ends))) h.start rest (main ∷ passes_of ends)
      shut = closed (pool_crew (children_of (links_of ends))) h (main ∷ passes_of ends) final fixed over.0 over.1 all legal

      wired_at : (i : ℕ) (e : LoneTells) → slice_get ends i ≡ Some e → LoneWired (h.start ++ rest) e.link.ear e.link.mouth
      wired_at i e there =
          let b = began i e there in
          let pass : slice_get (passes_of ends) i ≡ Some e.pass = mapped_there (λ (x : LoneTells). x.pass) ends i e there in
          let number : e.pass.number ≡ i + 2 = number_at i e.pass pass in
          let child : slice_get (children_of (links_of ends)) (e.pass.number - 2) ≡ Some e.link.ear.child =
          subst (λ (n : ℕ). slice_get (children_of (links_of ends)) n ≡ Some e.link.ear.child) (omega (arith, number))
          (mapped_there (λ (l : LinkValue). l.ear.child) (links_of ends) i e.link (mapped_there (λ (x : LoneTells). x.link) ends i e there)) in
          gathers h.fixed (pool_crew (children_of (links_of ends))) h.start rest (main ∷ passes_of ends) shut (λ past. LoneWired past e.link.ear e.link.mouth) (is_of_child e.link.ear.child)
          (λ past more none w. lone_apart past more e.link.ear e.link.mouth (b.back.same.1.0 ∙ b.back.one_child ∙ sym b.back.same.0.0) none w) (suc i) e.pass pass
          (child_at_lone (children_of (links_of ends)) e.pass.number e.link.ear.child distinct (omega (arith, number)) child) (wired_end h setup b.start e b.back b.may)

-- ---- in terms of what the workers left

pub closes : (h : HallValue Entry Opening) (setup : Setup) (links links' : List LinkValue) (passes : List CorePass) (final : List Entry) (fixed : Opening) (desks desks' : List DeskTold)
    → Over h passes final fixed → PoolCan h.fixed h.start links → PoolLeft h setup links links' passes desks desks'
    → GoesOn h.start final (λ rest. PoolLeaves h.fixed setup (range_with_len 1 (1 + length desks)) h.start rest links links' desks desks')
closes h setup links links' passes final fixed desks desks' over can left =
    subst (λ (ls : List LinkValue). GoesOn h.start final (λ rest. PoolLeaves h.fixed setup (range_with_len 1 (1 + length desks)) h.start rest ls links' desks desks')) (sym left.links_are.0)
    (subst (λ (ls : List LinkValue). GoesOn h.start final (λ rest. PoolLeaves h.fixed setup (range_with_len 1 (1 + length desks)) h.start rest (links_of left.starts) ls desks desks')) (sym left.links_are.1)
    (subst (λ (ns : List ℕ). GoesOn h.start final (λ rest. PoolLeaves h.fixed setup ns h.start rest (links_of left.starts) (links_of left.ends) desks desks')) numbers
    (subst (λ (ds : List DeskTold). GoesOn h.start final (λ rest. PoolLeaves h.fixed setup (numbers_of (left.main ∷ passes_of left.ends)) h.start rest (links_of left.starts) (links_of left.ends) ds desks'))
    (sym left.desks_are.0)
    (subst (λ (ds : List DeskTold). GoesOn h.start final (λ rest. PoolLeaves h.fixed setup (numbers_of (left.main ∷ passes_of left.ends)) h.start rest (links_of left.starts) (links_of left.ends)
    (desks_of left.starts) ds)) (sym left.desks_are.1)
    (pool_closes h setup left.main left.starts left.ends left.came left.still left.fresh (subst (PoolCan h.fixed h.start) left.links_are.0 can) left.through final fixed
    (subst (λ (ps : List CorePass). Over h ps final fixed) left.passes_are over))))))
  where
    numbers : numbers_of (left.main ∷ passes_of left.ends) ≡ range_with_len 1 (1 + length desks)
    numbers =
        let one : left.main.number ≡ 1 = left.still.1 in
        let more : numbers_of (passes_of left.ends) ≡ range_with_len 2 (length left.starts) = came_numbers h setup 2 left.starts left.ends left.came left.fresh in
        let many : length desks ≡ length left.starts = ap length left.desks_are.0 ∙ length-map left.starts (λ (s : LoneTells). s.desk) in
        let shape : numbers_of (left.main ∷ passes_of left.ends) ≡ 1 ∷ range_with_len 2 (length left.starts) = cc in
        let count : suc (length left.starts) ≡ 1 + length desks = omega (arith, many) in
        shape ∙ ap (range_with_len 1) count

-- in terms of the core
module _ (h : HallValue Entry Opening) (opening : Opening) (start : List Entry) (start_is : h.start ≡ start) (fixed_is : h.fixed ≡ opening) (passes : List CorePass) (final : List Entry) (fixed : Opening)
    (over : Over h passes final fixed) (o : Outcome) where
  pub closes_done : (setup : Setup) (links links' : List LinkValue) (desks desks' : List DeskTold) (n : ℕ) → length desks ≡ n → PoolCan opening start links
      → IfDone o (PoolLeft h setup links links' passes desks desks')
      → IfDone o (GoesOn start final (λ rest. PoolLeaves opening setup (range_with_len 1 (1 + n)) start rest links links' desks desks'))
  closes_done setup links links' desks desks' n count can left =
      subst (λ (x : List Entry). IfDone o (GoesOn x final (λ rest. PoolLeaves opening setup (range_with_len 1 (1 + n)) x rest links links' desks desks'))) start_is
      (subst (λ (x : Opening). IfDone o (GoesOn h.start final (λ rest. PoolLeaves x setup (range_with_len 1 (1 + n)) h.start rest links links' desks desks'))) fixed_is
      (subst (λ (x : ℕ). IfDone o (GoesOn h.start final (λ rest. PoolLeaves h.fixed setup (range_with_len 1 (1 + x)) h.start rest links links' desks desks'))) count
      (if_done o (closes h setup links links' passes final fixed desks desks' over
      (subst (λ (x : List Entry). PoolCan h.fixed x links) (sym start_is) (subst (λ (x : Opening). PoolCan x start links) (sym fixed_is) can))) left)))
