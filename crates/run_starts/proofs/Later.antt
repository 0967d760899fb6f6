-- After a greeting each job that is asked is one of a task, which is neither job 0 nor job 1.
use Rattle.std.proofs.Common.{◌≡◌, ℕ, ◌≤◌, List, [], ◌∷◌, ◌++◌, refl, sym, ap, subst, ◌∙◌, Bool, true, false, not, ◌==◌, cond, Some, None, Option, arith, length, length-append, append_assoc, append-nil}
use Rattle.std.specs.Prelude.{◌&&◌, ◌||◌}
use Rattle.std.specs.List.{list_all, cons_option}
use Rattle.std.proofs.lemmas.List.{append_cancel_left}
use Rattle.journal_model.specs.declared.entry.What.{What}
use Rattle.journal_model.specs.declared.entry.What.TheVariants.{Ask}
use Rattle.journal_model.specs.declared.entry.Entry.{Entry}
use Rattle.journal_model.specs.declared.opening.Opening.{Opening}
use Rattle.journal_model.specs.Journal.{asks, asked_jobs, each_of}
use Rattle.journal_model.specs.Due.{due_after}
use Rattle.journal_model.specs.Legality.{Legal, may_come}
use Rattle.journal_model.proofs.Holding.{due_names}
use Rattle.journal_model.proofs.Looks.{each_of-append, entry}
use Rattle.journal_model.proofs.Standing.{Legal-from}
use Rattle.journal_model.proofs.Testing.{all-both, all-join, by_either}
use Rattle.child_life.specs.Start.Greetings.{is_greeting_line, is_of_greeting, asks_for}
use Rattle.child_life.specs.declared.start.greeting.Mode.TheVariants.{Serve}
use Rattle.crew_work.specs.Worker.Works.{by_worker}
use Rattle.run_starts.specs.Rounds.{is_of_run}
use Rattle.std.proofs.lemmas.Bool.{and_parts as both, ne_eqb as differ, eqb-true as same_number}
use Rattle.ann_key.proofs.Booleans.{or_right}

-- a job of c is neither of the first two
abbrev pub late : ℕ → What → Bool
late c (Ask child job task line) = not (child == c) || not (job == 0 || job == 1)
late c w = true

asked_in : What → Option (ℕ × ℕ)
asked_in (Ask child job task line) = Some (child, job)
asked_in w = None

unasked : (c : ℕ) (xs : List Entry) → each_of asked_in xs ≡ [] → list_all (λ (e : Entry). late c e.what) xs ≡ true
unfolding asked_in
unasked c [] h = refl
unasked c (e ∷ xs) h = step e.what h (unasked c xs)
  where
    step : (w : What) → cons_option (asked_in w) (each_of asked_in xs) ≡ [] → (each_of asked_in xs ≡ [] → list_all (λ (x : Entry). late c x.what) xs ≡ true)
        → (late c w && list_all (λ (x : Entry). late c x.what) xs) ≡ true
    step (Ask child job task line) k r = absurd cc
    step w k r = r k

-- what is due asks nothing
due_late : (o : Opening) (past : List Entry) (by c : ℕ) (w : What) → list_all (λ (e : Entry). late c e.what) (due_after o past (entry by w)) ≡ true
unfolding asked_in
due_late o past by c w = unasked c (due_after o past (entry by w)) (due_names asked_in (λ a b v. refl) (λ a y. refl) (λ a b l. refl) o past by w)

record Goes (c : ℕ) (start past : List Entry) : Type 0 where
  jobs : 2 ≤ length (asked_jobs past c)
  more : List Entry
  is : past ≡ start ++ more
  all : list_all (λ (e : Entry). late c e.what) more ≡ true

module _ (o : Opening) (c : ℕ) (start : List Entry) where
  first_late : (past : List Entry) (by : ℕ) (w : What) → 2 ≤ length (asked_jobs past c) → may_come o past by w ≡ true → late c w ≡ true
  first_late past by (Ask child job task line) two may =
      let four = both _ _ may in
      let three = both _ _ four.0 in
      let next : (job == length (asked_jobs past child)) ≡ true = (both _ _ three.0).1 in
      by_either (child == c) (λ mine. or_right (not (child == c)) (not (job == 0 || job == 1)) (here mine next)) (λ other. rw other refl)
    where
      here : (child == c) ≡ true → (job == length (asked_jobs past child)) ≡ true → not (job == 0 || job == 1) ≡ true
      here mine next =
          let is : job ≡ length (asked_jobs past c) = same_number job (length (asked_jobs past child)) next ∙ ap (λ (k : ℕ). length (asked_jobs past k)) (same_number child c mine) in
          let zero_not : (job == 0) ≡ false = differ job 0 (λ z. absurd (omega (arith, z, is, two))) in
          let one_not : (job == 1) ≡ false = differ job 1 (λ z. absurd (omega (arith, z, is, two))) in
          rw (zero_not, one_not) refl
  first_late past by w two may = refl

  step : (past : List Entry) (e : Entry) → Goes c start past → may_come o past e.by e.what ≡ true → Goes c start (past ++ e ∷ due_after o past e)
  step past e g may = record {
    jobs = (let n = ap length (each_of-append (asks c) past (e ∷ due_after o past e)) ∙ length-append (asked_jobs past c) (asked_jobs (e ∷ due_after o past e) c) in let k = g.jobs in omega (arith, n, k));
    more = g.more ++ e ∷ due_after o past e;
    is = ap (λ (x : List Entry). x ++ e ∷ due_after o past e) g.is ∙ append_assoc start g.more (e ∷ due_after o past e);
    all = all-join (λ (x : Entry). late c x.what) g.more (e ∷ due_after o past e) g.all (rw (first_late past e.by e.what g.jobs may, due_late o past e.by c e.what) refl);
  }

  -- after two jobs of c
  pub late_from : (rest : List Entry) → Legal o start → Legal o (start ++ rest) → 2 ≤ length (asked_jobs start c) → list_all (λ (e : Entry). late c e.what) rest ≡ true
  late_from rest first whole two =
      let base : Goes c start start = record { jobs = two; more = []; is = sym (append-nil start); all = refl } in
      let g : Goes c start (start ++ rest) = Legal-from o (Goes c start) start rest first whole base (λ p e h may. step p e h may) in
      subst (λ (x : List Entry). list_all (λ (e : Entry). late c e.what) x ≡ true) (append_cancel_left start g.more rest (sym g.is)) g.all

-- ---- what a run asks

pub greeting_asks : (c : ℕ) (w : What) → is_of_greeting c w ≡ true → is_of_run w ≡ true
greeting_asks c (Ask child job task line) h =
    let t = both (child == c) (task == 0 && is_greeting_line job line) h in
    let s = both (task == 0) (is_greeting_line job line) t.1 in
    rw (s.1, s.0) refl
greeting_asks c w h = refl

worker_asks : (c : ℕ) (w : What) → by_worker true c w ≡ true → late c w ≡ true → is_of_run w ≡ true
worker_asks c (Ask child job task line) h l =
    let t = both (child == c) (not (task == 0)) h in
    go (child == c) (job == 0) (job == 1) (task == 0) (asks_for Serve line) t.0 t.1 l
  where
    go : (a b d z x : Bool) → a ≡ true → not z ≡ true → (not a || not (b || d)) ≡ true → cond (b || (d && x)) z (not (b || (d || z))) ≡ true
    go true false false false x e n k = refl
    go true false false true x e n k = absurd cc
    go true true d z x e n k = absurd cc
    go true false true z x e n k = absurd cc
    go false b d z x e n k = absurd cc
worker_asks c w h l = refl

pub all_work : (c : ℕ) (xs : List Entry) → list_all (λ (e : Entry). by_worker true c e.what) xs ≡ true → list_all (λ (e : Entry). late c e.what) xs ≡ true
    → list_all (λ (e : Entry). is_of_run e.what) xs ≡ true
all_work c xs h l = all-both (λ (e : Entry). by_worker true c e.what) (λ (e : Entry). late c e.what) (λ (e : Entry). is_of_run e.what) (λ e. worker_asks c e.what) xs h l
