-- Nothing is left undone where each claimer has answered: no task is busy, and no job is open.
use Rattle.std.proofs.Common.{◌≡◌, zero, suc, ℕ, ◌+◌, ◌<◌, List, [], ◌∷◌, ◌++◌, refl, sym, ap, subst, ◌∙◌, Bool, true, false, not, ◌==◌, cond, Some, None, Option, length, arith, ◌⊎◌, inl, inr}
use Rattle.std.specs.Prelude.{◌&&◌, ◌||◌, find}
use Rattle.std.specs.List.{list_any, list_all, cons_option, range_with_len}
use Rattle.std.proofs.lemmas.List.Folds.{list_any-append}
use Rattle.journal_model.specs.declared.entry.What.{What}
use Rattle.journal_model.specs.declared.entry.What.TheVariants.{Claim, Ask, Again}
use Rattle.journal_model.specs.declared.entry.Entry.{Entry}
use Rattle.journal_model.specs.declared.opening.Opening.{Opening}
use Rattle.journal_model.specs.Journal.{any, each_of, asks, asked_jobs, is_open, is_live, is_mute}
use Rattle.journal_model.specs.Due.{due_after}
use Rattle.journal_model.specs.Legality.{Legal, may_come, answers, claims, claimed_after, holder, is_claimed, is_busy, is_claimed_by, job_for, has_open_job, may_work, is_busy_with, is_number, is_free, least_free, is_prepared}
use Rattle.journal_model.proofs.Growing.{Near, Near-induction, Legal-induction}
use Rattle.journal_model.proofs.Looks.{entry, is_asked, any-append, each_of-append, unasked_closed}
use Rattle.journal_model.specs.Makers.{is_of_task, is_taken_by}
use Rattle.journal_model.proofs.Holding.{claimed_group, claimed_split, held_busy, held_claimed, held_unanswered}
use Rattle.journal_model.proofs.Testing.{by_either, all-join, all-split, any-more, out}
use Rattle.journal_model.proofs.Working.{idle_shut, stays_closed, due_untasked, ask_work}
use Rattle.std.proofs.lemmas.Bool.{and_parts as both, eqb-true as same_number, ne_eqb as differ}
use Rattle.ann_key.proofs.Numbers.{same_number as same}
use Rattle.ann_key.proofs.Booleans.{left_false as either_left, right_false as either_right, true_and_false as true_not_false, or_left, or_right, or_neither as neither}

-- ---- no task has the number 0

found_past : (p : ℕ → Bool) (a n k : ℕ) → 0 < a → find p (range_with_len a n) ≡ Some k → 0 < k
found_past p a zero k pos h = absurd cc
found_past p a (suc n) k pos h = go (p a) h (found_past p (a + 1) n k (omega (arith, pos)))
  where
    go : (b : Bool) → cond b (Some a) (find p (range_with_len (a + 1) n)) ≡ Some k → (find p (range_with_len (a + 1) n) ≡ Some k → 0 < k) → 0 < k
    go true h r = (let eq : a ≡ k = cc in omega (arith, pos, eq))
    go false h r = r h

-- the least free task is one
pub free_positive : (o : Opening) (past : List Entry) (task : ℕ) (f : Option ℕ) → least_free o past ≡ f → is_number task f ≡ true → (task == 0) ≡ false
free_positive o past task None e h = absurd cc
free_positive o past task (Some k) e h =
    let pos : 0 < k = found_past (is_free o past) 1 (length o.tasks) k (omega arith) e in
    differ task 0 (λ z. omega (arith, pos, same_number k task h, z))

zero_near : (o : Opening) (journal : List Entry) → Near o journal → is_claimed journal 0 ≡ false
zero_near o journal l =
    Near-induction o (λ past. is_claimed past 0 ≡ false) refl (λ past e legal before may. step past e.by e.what before may) journal l
  where
    step : (past : List Entry) (by : ℕ) (w : What) → is_claimed past 0 ≡ false → may_come o past by w ≡ true → is_claimed (past ++ entry by w ∷ due_after o past (entry by w)) 0 ≡ false
    step past by w before may =
        claimed_group o past by w 0 ∙ first w may
      where
        first : (v : What) → may_come o past by v ≡ true → claimed_after 0 (is_claimed past 0) v ≡ false
        first (Claim task child) m =
            neither (is_claimed past 0) (task == 0) before
            (free_positive o past task (least_free o past) refl
            (both (is_number task (least_free o past)) ((child == 0 && by == 0) || (is_prepared past child && is_live past child && not (is_mute past child))) m).0)
        first (Again task answer) m = rw before refl
        first v m = before

pub zero_unclaimed : (o : Opening) (journal : List Entry) → Legal o journal → is_claimed journal 0 ≡ false
zero_unclaimed o journal l = zero_near o journal (inl l)

-- a task that is claimed has a number above 0
pub claimed_positive : (o : Opening) (seen : List Entry) → Legal o seen → (t : ℕ) → is_claimed seen t ≡ true → 0 < t
claimed_positive o seen l zero h = true_not_false (is_claimed seen 0) h (zero_unclaimed o seen l)
claimed_positive o seen l (suc t) h = omega arith

-- ---- requests for no task are number 0's

abbrev pub asks_none : What → Bool
asks_none (Ask child job task line) = task == 0
asks_none w = false

-- each request for task 0 was made by number 0
abbrev pub are_mains : List Entry → Bool
are_mains entries = list_all (λ e. not (asks_none e.what) || e.by == 0) entries

mains_due : (xs : List Entry) → any (is_of_task 0) xs ≡ false → are_mains xs ≡ true
mains_due [] h = refl
mains_due (e ∷ xs) h = rw (step e.what (either_left (is_of_task 0 e.what) (any (is_of_task 0) xs) h), mains_due xs (either_right (is_of_task 0 e.what) (any (is_of_task 0) xs) h)) refl
  where
    step : (w : What) → is_of_task 0 w ≡ false → asks_none w ≡ false
    step (Ask child job task line) h = h
    step w h = refl

-- who works on a task that nobody claimed is number 0, and works on task 0
unclaimed_work : (past : List Entry) (by t c : ℕ) → is_claimed past t ≡ false → may_work past by t c ≡ true → (by == 0) ≡ true
unclaimed_work past by t c free h = go (t == 0) (by == 0) (is_claimed_by past by t) refl h
  where
    go : (a b l : Bool) → is_claimed_by past by t ≡ l → ((a && b) || (l && is_busy_with past c t && not (has_open_job past t))) ≡ true → b ≡ true
    go true true l e h = refl
    go false true l e h = refl
    go a false true e h = true_not_false (is_claimed past t) (held_claimed past t (held_busy by (holder past t) e)) free
    go true false false e h = absurd cc
    go false false false e h = absurd cc

pub mains_ask : (o : Opening) (journal : List Entry) → Legal o journal → are_mains journal ≡ true
mains_ask o journal l =
    Legal-induction o (λ past. are_mains past ≡ true) refl (λ past e legal before may. step past e.by e.what (zero_near o past legal) before may) journal l
  where
    step : (past : List Entry) (by : ℕ) (w : What) → is_claimed past 0 ≡ false → are_mains past ≡ true → may_come o past by w ≡ true
        → are_mains (past ++ entry by w ∷ due_after o past (entry by w)) ≡ true
    step past by w free before may =
        all-join (λ (e : Entry). not (asks_none e.what) || e.by == 0) past (entry by w ∷ due_after o past (entry by w)) before
        (rw (first w may, mains_due (due_after o past (entry by w)) (due_untasked o past by 0 w)) refl)
      where
        first : (v : What) → may_come o past by v ≡ true → (not (asks_none v) || by == 0) ≡ true
        first (Ask child job task line) m =
            by_either (task == 0)
            (λ z. or_right (not (task == 0)) (by == 0)
            (unclaimed_work past by task child (subst (λ (x : ℕ). is_claimed past x ≡ false) (sym (same_number task 0 z)) free) (ask_work o past by child job task line m)))
            (λ n. rw n refl)
        first v m = refl

-- ---- idle

-- an answer stands in a longer journal
answered_more : (past more : List Entry) (t : ℕ) → any (answers t) past ≡ true → any (answers t) (past ++ more) ≡ true
answered_more past more t h = any-append (answers t) past more ∙ or_left (any (answers t) past) (any (answers t) more) h

pub not_busy : (o : Opening) (journal : List Entry) → Legal o journal → (t : ℕ) → any (answers t) journal ≡ true → is_busy journal t ≡ false
not_busy o journal l t h = held_unanswered o journal l t ∙ go (is_claimed journal t) (any (answers t) journal) h
  where
    go : (a b : Bool) → b ≡ true → (a && not b) ≡ false
    go true true h = refl
    go false b h = refl
    go true false h = absurd cc

-- and a task that is claimed and not busy is answered
pub done_where_idle : (o : Opening) (journal : List Entry) → Legal o journal → (t : ℕ) → is_claimed journal t ≡ true → is_busy journal t ≡ false → any (answers t) journal ≡ true
done_where_idle o journal l t c idle = go (is_claimed journal t) (any (answers t) journal) c (sym (held_unanswered o journal l t) ∙ idle)
  where
    go : (a b : Bool) → a ≡ true → (a && not b) ≡ false → b ≡ true
    go true true c h = refl
    go true false c h = absurd cc
    go false b c h = absurd cc

-- claimed by somebody: in these entries some number takes it
pub record Taken (entries : List Entry) (t : ℕ) : Type 0 where
  pub by : ℕ
  pub takes : is_taken_by entries by t ≡ true
  pub there : list_any (λ e. e.by == by) entries ≡ true

pub taken_by_some : (entries : List Entry) (t : ℕ) → any (claims t) entries ≡ true → Taken entries t
taken_by_some [] t h = absurd cc
taken_by_some (e ∷ entries) t h = go (claims t e.what) refl h (taken_by_some entries t)
  where
    go : (b : Bool) → claims t e.what ≡ b → (b || any (claims t) entries) ≡ true → (any (claims t) entries ≡ true → Taken entries t) → Taken (e ∷ entries) t
    go true k h rec = record {
      by = e.by;
      takes = or_left (e.by == e.by && claims t e.what) (is_taken_by entries e.by t) (rw (same e.by, k) refl);
      there = or_left (e.by == e.by) (list_any (λ x. x.by == e.by) entries) (same e.by);
    }
    go false k h rec =
        let r = rec h in
        record {
          by = r.by;
          takes = or_right (e.by == r.by && claims t e.what) (is_taken_by entries r.by t) r.takes;
          there = or_right (e.by == r.by) (list_any (λ x. x.by == r.by) entries) r.there;
        }

-- where the start is idle, and each task claimed since is answered, no task is busy
pub all_idle : (o : Opening) (start rest : List Entry) → Legal o start → Legal o (start ++ rest) → ((t : ℕ) → is_busy start t ≡ false)
    → ((t : ℕ) → is_claimed rest t ≡ true → any (answers t) (start ++ rest) ≡ true) → (t : ℕ) → is_busy (start ++ rest) t ≡ false
all_idle o start rest first whole idle answered t = by_either (is_claimed (start ++ rest) t) (λ c. in_either (claimed_split start rest t c)) none
  where
    none : is_claimed (start ++ rest) t ≡ false → is_busy (start ++ rest) t ≡ false
    none f = held_unanswered o (start ++ rest) whole t ∙ (rw f refl)

    in_either : (is_claimed start t ≡ true) ⊎ (is_claimed rest t ≡ true) → is_busy (start ++ rest) t ≡ false
    in_either (inl c) = not_busy o (start ++ rest) whole t (answered_more start rest t (done_where_idle o start first t c (idle t)))
    in_either (inr c) = not_busy o (start ++ rest) whole t (answered t c)

-- ---- no job is open

-- who asked a job, and for which task
pub record Asked (entries : List Entry) (c j : ℕ) : Type 0 where
  pub by : ℕ
  pub task : ℕ
  pub there : list_any (λ q. q.0 == c && q.1 == j) (each_of (job_for task) entries) ≡ true
  pub mains : are_mains entries ≡ true → task ≡ 0 → list_any (λ e. e.by == 0) entries ≡ true

pub asked_by : (entries : List Entry) (c j : ℕ) → is_asked entries c j ≡ true → Asked entries c j
asked_by [] c j h = absurd cc
asked_by (e ∷ entries) c j h = step e.what h (asked_by entries c j)
  where
    mine : List Entry
    mine = entries

    later : (w : What) → Asked mine c j → Asked (entry e.by w ∷ mine) c j
    later w r =
        record {
          by = r.by;
          task = r.task;
          there = behind (job_for r.task w) (each_of (job_for r.task) mine) r.there;
          mains = λ m z. or_right (e.by == 0) (list_any (λ x. x.by == 0) mine) (r.mains (both (not (asks_none w) || e.by == 0) (are_mains mine) m).1 z);
        }
      where
        behind : (o : Option (ℕ × ℕ)) (qs : List (ℕ × ℕ)) → list_any (λ q. q.0 == c && q.1 == j) qs ≡ true → list_any (λ q. q.0 == c && q.1 == j) (cons_option o qs) ≡ true
        behind None qs k = k
        behind (Some q) qs k = or_right (q.0 == c && q.1 == j) (list_any (λ x. x.0 == c && x.1 == j) qs) k

    step : (w : What) → list_any (λ k. k == j) (cons_option (asks c w) (asked_jobs mine c)) ≡ true → (is_asked mine c j ≡ true → Asked mine c j) → Asked (entry e.by w ∷ mine) c j
    step (Ask child job task line) h rec = go (child == c) refl (job == j) refl h
      where
        first : (child == c) ≡ true → (job == j) ≡ true → Asked (entry e.by (Ask child job task line) ∷ mine) c j
        first a b = record {
          by = e.by;
          task = task;
          there = rw (same task, a, b) refl;
          mains = λ m z. or_left (e.by == 0) (list_any (λ x. x.by == 0) mine)
              (out (task == 0) (e.by == 0) (both (not (task == 0) || e.by == 0) (are_mains mine) m).0 (subst (λ (x : ℕ). (x == 0) ≡ true) (sym z) refl));
        }

        go : (a : Bool) → (child == c) ≡ a → (b : Bool) → (job == j) ≡ b → list_any (λ k. k == j) (cons_option (cond a (Some job) None) (asked_jobs mine c)) ≡ true
            → Asked (entry e.by (Ask child job task line) ∷ mine) c j
        go true x true y h = first x y
        go true x false y h = later (Ask child job task line) (rec (rw y at h))
        go false x b y h = later (Ask child job task line) (rec h)
    step w h rec = later w (rec h)

-- the task of an open job has one
open_has : (journal : List Entry) (c j : ℕ) → is_open journal c j ≡ true → (qs : List (ℕ × ℕ)) → list_any (λ q. q.0 == c && q.1 == j) qs ≡ true
    → list_any (λ q. is_open journal q.0 q.1) qs ≡ true
open_has journal c j h qs k =
    any-more (λ (q : ℕ × ℕ). q.0 == c && q.1 == j) (λ (q : ℕ × ℕ). is_open journal q.0 q.1)
    (λ q e. (let s = both (q.0 == c) (q.1 == j) e in
    subst (λ (x : ℕ). is_open journal x q.1 ≡ true) (sym (same_number q.0 c s.0)) (subst (λ (x : ℕ). is_open journal c x ≡ true) (sym (same_number q.1 j s.1)) h)))
    qs k

-- the jobs of a later stretch are among those of the whole
there_more : (start rest : List Entry) (t c j : ℕ) → list_any (λ q. q.0 == c && q.1 == j) (each_of (job_for t) rest) ≡ true
    → list_any (λ q. q.0 == c && q.1 == j) (each_of (job_for t) (start ++ rest)) ≡ true
there_more start rest t c j h =
    ap (list_any (λ (q : ℕ × ℕ). q.0 == c && q.1 == j)) (each_of-append (job_for t) start rest)
    ∙ list_any-append (λ (q : ℕ × ℕ). q.0 == c && q.1 == j) (each_of (job_for t) start) (each_of (job_for t) rest)
    ∙ or_right (list_any (λ (q : ℕ × ℕ). q.0 == c && q.1 == j) (each_of (job_for t) start)) (list_any (λ (q : ℕ × ℕ). q.0 == c && q.1 == j) (each_of (job_for t) rest)) h

-- where no task is busy, the start had no open job, and number 0 made nothing since, no job is open
pub all_shut : (o : Opening) (start rest : List Entry) → Legal o (start ++ rest) → ((t : ℕ) → is_busy (start ++ rest) t ≡ false)
    → ((c j : ℕ) → is_open start c j ≡ false) → list_any (λ e. e.by == 0) rest ≡ false → (c j : ℕ) → is_open (start ++ rest) c j ≡ false
all_shut o start rest l idle shut others c j = by_either (is_asked start c j) (λ a. stays_closed start rest c j a (shut c j)) new
  where
    new : is_asked start c j ≡ false → is_open (start ++ rest) c j ≡ false
    new f = by_either (is_asked rest c j) asked unasked
      where
        whole : is_asked (start ++ rest) c j ≡ (is_asked start c j || is_asked rest c j)
        whole = ap (list_any (λ k. k == j)) (each_of-append (asks c) start rest) ∙ list_any-append (λ k. k == j) (asked_jobs start c) (asked_jobs rest c)

        unasked : is_asked rest c j ≡ false → is_open (start ++ rest) c j ≡ false
        unasked g = unasked_closed c j (start ++ rest) (whole ∙ neither (is_asked start c j) (is_asked rest c j) f g)

        asked : is_asked rest c j ≡ true → is_open (start ++ rest) c j ≡ false
        asked a = by_either (is_open (start ++ rest) c j) bad (λ g. g)
          where
            who : Asked rest c j
            who = asked_by rest c j a

            mains : are_mains rest ≡ true
            mains = (all-split (λ (e : Entry). not (asks_none e.what) || e.by == 0) start rest (mains_ask o (start ++ rest) l)).1

            bad : is_open (start ++ rest) c j ≡ true → is_open (start ++ rest) c j ≡ false
            bad opened = by_zero who.task refl
              where
                by_zero : (t : ℕ) → who.task ≡ t → is_open (start ++ rest) c j ≡ false
                by_zero zero z = true_not_false (list_any (λ e. e.by == 0) rest) (who.mains mains z) others
                by_zero (suc t) z =
                    let pos : 0 < who.task = omega (arith, z) in
                    true_not_false (has_open_job (start ++ rest) who.task)
                    (open_has (start ++ rest) c j opened (each_of (job_for who.task) (start ++ rest)) (there_more start rest who.task c j who.there))
                    (idle_shut o (start ++ rest) l who.task pos (idle who.task))
