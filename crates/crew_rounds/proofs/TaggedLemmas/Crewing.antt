-- What the workers of a round promise, put together.
use Rattle.ann_outside.specs.Told.{DeskTold}
use Rattle.std.proofs.Common.{◌≡◌, ℕ, ◌+◌, ◌<◌, ◌≤◌, List, [], ◌∷◌, ◌++◌, refl, sym, ap, subst, ◌∙◌, Bool, true, false, ◌==◌, append_assoc, arith, drop, length}
use Rattle.std.specs.Prelude.{All, map, nat_lt}
use Rattle.std.proofs.lemmas.Bool.Decides.{nat_tests}
use Rattle.std.proofs.lemmas.List.Elements.{All-nil, All-cons, All-head, All-tail}
use Rattle.ann_outside.specs.declared.file_desk.Call.{Call}
use Rattle.threads.specs.Passes.{HallValue, seen_of}
use Rattle.journal_model.specs.declared.entry.Entry.{Entry}
use Rattle.journal_model.specs.declared.opening.Opening.{Opening}
use Rattle.crew_work.specs.Laws.Posts.{Post, Worker, makes, tagged_crew}
use Rattle.crew_work.specs.Laws.Rounds.{CorePass, WorkerEnds, since}
use Rattle.crew_work.specs.Laws.Tasks.{turns_by}
use Rattle.crew_work.proofs.LawsLemmas.Halls.{Saw, drop_start}
use Rattle.task_model.specs.declared.setup.Setup.{Setup}
use Rattle.crew_work.specs.Worker.Works.{AllRan, TaskDone, Worked}
use Rattle.crew_work.proofs.WorkerLemmas.Working.{runs_last}
use Rattle.crew_work.specs.Beside.Runs.{calls_of}
use Rattle.crew_work.specs.Laws.JournalRuns.{HasJournalRun}
use Rattle.crew_work.proofs.BesideLemmas.Ending.{worker_ends}
use Rattle.crew_rounds.specs.Tagged.Crewing.{AllManned, AllRun, DeskDid, DesksDid, Manned, WorkerTells, calls_from}
use Rattle.std.proofs.lemmas.Bool.{ne_eqb as differ}
use Rattle.ann_key.proofs.Numbers.{same_number as same}

-- past the third a number of a tagged crew is a worker
worker_post : (c n : ℕ) → 3 < n → tagged_crew c n ≡ Worker c
worker_post c n far =
    let two : nat_lt n 2 ≡ false = grind (arith, nat_tests) in
    let second : (n == 2) ≡ false = differ n 2 (λ e. absurd (omega (arith, e, far))) in
    let third : (n == 3) ≡ false = differ n 3 (λ e. absurd (omega (arith, e, far))) in
    rw (two, second, third) refl

-- the calls of each number from `first` on are those that are told of the workers
abbrev pub Agree : (ℕ → ℕ → ℕ → List Call) → ℕ → List (List TaskDone) → Type 0
Agree calls first dones = (n t k : ℕ) → first ≤ n → calls n t k ≡ calls_from first dones n t k

pub agree_here : (calls : ℕ → ℕ → ℕ → List Call) (first : ℕ) (done : List TaskDone) (dones : List (List TaskDone)) → Agree calls first (done ∷ dones)
    → (t k : ℕ) → calls first t k ≡ calls_of done t k
agree_here calls first done dones h t k = h first t k (omega arith) ∙ (rw (same first) refl)

pub agree_later : (calls : ℕ → ℕ → ℕ → List Call) (first : ℕ) (done : List TaskDone) (dones : List (List TaskDone)) → Agree calls first (done ∷ dones) → Agree calls (first + 1) dones
agree_later calls first done dones h n t k far =
    let other : (n == first) ≡ false = differ n first (λ e. absurd (omega (arith, e, far))) in
    h n t k (omega (arith, far)) ∙ (rw other refl)

-- after what a pass has seen of the round stand entries of others alone, and the turns that it took in the round are those that it has seen
abbrev pub Own : Opening → List Entry → List Entry → CorePass → Type 0
Own o start rest p = Saw o start rest p × (turns_by p.number start rest ≡ turns_by p.number start (since p))

-- what a number ran for a child was run for a child
all_run : (o : Opening) (setup : Setup) (journal : List Entry) (number c : ℕ) (done : List TaskDone) → 0 < c → AllRan o setup number c journal done → AllRun o setup journal number done
all_run o setup journal number c [] pos h = tt
all_run o setup journal number c (r ∷ done) pos h = (
  record { run = h.0.run; child = subst (λ (d : ℕ). 0 < d) (sym h.0.child) pos; answer = h.0.answer_is },
  all_run o setup journal number c done pos h.1,
)

-- there the desk of a worker did what the worker leaves
pub desk_did : (o : Opening) (setup : Setup) (owns : Bool) (c number : ℕ) (start rest : List Entry) (p : CorePass) (Before After : Type 0) (d e : DeskTold) → p.number ≡ number → 0 < c
    → (w : Worked o setup owns p.number false c p.start (seen_of p) Before After d e) → Own o start rest p → DeskDid o setup start rest number w.done d e
desk_did o setup owns c number start rest p Before After d e number_is pos w own =
    subst (λ (n : ℕ). DeskDid o setup start rest n w.done d e) number_is (record {
      claimed = own.1 ∙ ap (λ (x : List Entry). turns_by p.number x (since p)) (sym own.0.begins) ∙ ap (turns_by p.number p.start) made ∙ w.did.claimed;
      ran = all_run o setup (start ++ rest) p.number c w.done pos
          (subst (λ (x : List Entry). AllRan o setup p.number c x w.done) behind (runs_last o setup p.number c (seen_of p) own.0.later w.done w.ran));
      log_is = w.log_is;
      caused = w.caused;
    })
  where
    made : since p ≡ w.did.moved.more
    made = ap (λ (x : List Entry). drop (length p.start) x) w.did.moved.is ∙ drop_start p.start w.did.moved.more

    behind : seen_of p ++ own.0.later ≡ start ++ rest
    behind =
        ap (λ (x : List Entry). x ++ own.0.later) own.0.sees ∙ append_assoc start (since p) own.0.later
        ∙ ap (λ (x : List Entry). start ++ x) (sym own.0.behind)

module _ (h : HallValue Entry Opening) (setup : Setup) (c : ℕ) where
  -- the tasks that each worker did
  abbrev pub dones_of : (first : ℕ) (ds : List DeskTold) (es : List WorkerTells) → AllManned h setup c first ds es → List (List TaskDone)
  dones_of first [] [] all = []
  dones_of first [] (e ∷ es) all = []
  dones_of first (d ∷ ds) [] all = []
  dones_of first (d ∷ ds) (e ∷ es) all = all.0.worked.done ∷ dones_of (first + 1) ds es all.1

  ends_one : (calls : ℕ → ℕ → ℕ → List Call) (first : ℕ) (d : DeskTold) (e : WorkerTells) → (m : Manned h setup c first d e) → 3 < first → ((t k : ℕ) → calls first t k ≡ calls_of m.worked.done t k)
      → WorkerEnds h.fixed (HasJournalRun h.fixed setup calls) (tagged_crew c) c e.pass
  ends_one calls first d e m far told =
      worker_ends h.fixed setup calls false c (tagged_crew c) e.pass (Unit {0}) (Unit {0}) d e.desk m.worked m.through (let is = m.number_is in omega (arith, is, far))
      (λ t k. ap (λ (n : ℕ). calls n t k) m.number_is ∙ told t k)
      (λ w k. subst (λ (q : Post). makes q w ≡ true) (sym (worker_post c e.pass.number (let is = m.number_is in omega (arith, is, far)))) k)

  pub ends_all : (calls : ℕ → ℕ → ℕ → List Call) (first : ℕ) (ds : List DeskTold) (es : List WorkerTells) → (all : AllManned h setup c first ds es) → 3 < first
      → Agree calls first (dones_of first ds es all) → All (WorkerEnds h.fixed (HasJournalRun h.fixed setup calls) (tagged_crew c) c) (map (λ (e : WorkerTells). e.pass) es)
  ends_all calls first [] [] all far agree = All-nil (WorkerEnds h.fixed (HasJournalRun h.fixed setup calls) (tagged_crew c) c)
  ends_all calls first [] (e ∷ es) all far agree = absurd all
  ends_all calls first (d ∷ ds) [] all far agree = absurd all
  ends_all calls first (d ∷ ds) (e ∷ es) all far agree =
      All-cons (WorkerEnds h.fixed (HasJournalRun h.fixed setup calls) (tagged_crew c) c) e.pass (map (λ (x : WorkerTells). x.pass) es)
      (ends_one calls first d e all.0 far (agree_here calls first all.0.worked.done (dones_of (first + 1) ds es all.1) agree))
      (ends_all calls (first + 1) ds es all.1 (omega (arith, far)) (agree_later calls first all.0.worked.done (dones_of (first + 1) ds es all.1) agree))

  module _ (start rest : List Entry) (pos : 0 < c) where
    did_one : (first : ℕ) (d : DeskTold) (e : WorkerTells) → (m : Manned h setup c first d e) → Own h.fixed start rest e.pass → DeskDid h.fixed setup start rest first m.worked.done d e.desk
    did_one first d e m own = desk_did h.fixed setup false c first start rest e.pass (Unit {0}) (Unit {0}) d e.desk m.number_is pos m.worked own

    pub did_all : (first : ℕ) (ds : List DeskTold) (es : List WorkerTells) → (all : AllManned h setup c first ds es) → All (λ (e : WorkerTells). Own h.fixed start rest e.pass) es
        → DesksDid h.fixed setup start rest first (dones_of first ds es all) ds (map (λ (e : WorkerTells). e.desk) es)
    did_all first [] [] all own = tt
    did_all first [] (e ∷ es) all own = absurd all
    did_all first (d ∷ ds) [] all own = absurd all
    did_all first (d ∷ ds) (e ∷ es) all own = (
      did_one first d e all.0 (All-head (λ (x : WorkerTells). Own h.fixed start rest x.pass) e es own),
      did_all (first + 1) ds es all.1 (All-tail (λ (x : WorkerTells). Own h.fixed start rest x.pass) e es own),
    )
