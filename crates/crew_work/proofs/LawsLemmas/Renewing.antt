-- What is left of a round: all tasks are claimed, or some child of it is lost.
use Rattle.std.proofs.Common.{◌≡◌, zero, suc, ℕ, ◌+◌, ◌<◌, ◌≤◌, List, [], ◌∷◌, ◌++◌, refl, sym, ap, subst, ◌∙◌, Bool, true, false, not, ◌==◌, Some, None, append_assoc, append-nil, length, length-append, arith, slice_get, ◌⊎◌, inl, inr}
use Rattle.std.specs.Prelude.{◌&&◌, ◌||◌}
use Rattle.std.specs.List.{list_any, list_all}
use Rattle.std.proofs.lemmas.List.{append_cancel_left}
use Rattle.std.proofs.lemmas.List.Folds.{list_any-append}
use Rattle.threads.specs.Passes.{seen_of}
use Rattle.journal_model.specs.declared.verdict.Why.TheVariants.{Closed as WasClosed}
use Rattle.journal_model.specs.declared.entry.What.{What}
use Rattle.journal_model.specs.declared.entry.What.TheVariants.{Claim, Again}
use Rattle.journal_model.specs.declared.entry.Entry.{Entry}
use Rattle.journal_model.specs.declared.opening.Opening.{Opening}
use Rattle.journal_model.specs.Journal.{any, ends, mutes, is_ended, is_live, is_mute, is_started, why_of}
use Rattle.journal_model.specs.Due.{due_after}
use Rattle.journal_model.specs.Legality.{Legal, claims, claimed_after, holder, is_busy, is_claimed, is_claimed_by, is_held_by, is_number, is_prepared, is_run_again, least_free, may_come, numbers_of}
use Rattle.journal_model.specs.Makers.{is_of_task, is_taken_by}
use Rattle.journal_model.specs.Shares.{are_others}
use Rattle.journal_model.proofs.Holding.{claimed_append, closing_claims, held_busy, holder_append}
use Rattle.journal_model.proofs.Linking.{unended}
use Rattle.journal_model.proofs.Looks.{entry, any-append}
use Rattle.journal_model.proofs.Standing.{Legal-from}
use Rattle.journal_model.proofs.Testing.{all-each, all-split, by_either, differ_by, none-each}
use Rattle.journal_model.proofs.Working.{due_untasked, held_taken_from, unclaimed_in, untaken_by}
use Rattle.host_core.specs.Steps.{are_all_claimed, is_gone}
use Rattle.crew_work.specs.Laws.Posts.{Post, makes}
use Rattle.crew_work.specs.Laws.Tasks.{IsThrough, is_renewal}
use Rattle.crew_work.specs.Laws.Rounds.{CorePass, LinkValue, since, IsAmong, IsLostChild}
use Rattle.crew_work.proofs.LawsLemmas.Gathering.{Closed, pass_of, lasts}
use Rattle.crew_work.proofs.LawsLemmas.Halls.{Has, Saw}
use Rattle.std.proofs.lemmas.Bool.{not-true as not_true, and_parts as both, ne_eqb as differ, eqb-true as same_number}
use Rattle.ann_key.proofs.Booleans.{left_false as either_left, right_false as either_right, true_and_false as true_not_false, or_neither as neither, or_false, or_left, or_right}
use Rattle.ann_key.proofs.Numbers.{same_number as same}

-- the number leaves a task to be run again
abbrev pub renews_by : ℕ → Entry → Bool
renews_by n e = e.by == n && is_renewal e.what

-- ---- all claimed, or gone

gone_lasts : (child : ℕ) (past more : List Entry) → is_gone past child ≡ true → is_gone (past ++ more) child ≡ true
gone_lasts child past more h =
    by_either (is_ended past child)
    (λ e. or_left (is_ended (past ++ more) child) (is_mute (past ++ more) child) (any-append (ends child) past more ∙ or_left (is_ended past child) (is_ended more child) e))
    (λ n. or_right (is_ended (past ++ more) child) (is_mute (past ++ more) child)
    (any-append (mutes child) past more ∙ or_left (is_mute past child) (is_mute more child) (sym (ap (λ (b : Bool). b || is_mute past child) n) ∙ h)))

-- an entry that leaves no task to be run again leaves all claimed
all_claimed_on : (o : Opening) (past : List Entry) (e : Entry) → is_renewal e.what ≡ false → are_all_claimed o past ≡ true → are_all_claimed o (past ++ e ∷ []) ≡ true
all_claimed_on o past e plain all =
    all-each (is_claimed past) (is_claimed (past ++ e ∷ [])) (λ t k. claimed_append past (e ∷ []) t ∙ ap (λ (b : Bool). claimed_after t b e.what) k ∙ still t e.what plain) (numbers_of o) all
  where
    still : (t : ℕ) (w : What) → is_renewal w ≡ false → claimed_after t true w ≡ true
    still t (Claim task child) k = refl
    still t (Again task answer) k = absurd cc
    still t w k = refl

-- where an entry of the number stands with ys after it, what stands after all of its entries is no longer than ys
no_longer : (n : ℕ) (xs zs : List Entry) (y : Entry) (ys later : List Entry) → xs ++ y ∷ ys ≡ zs ++ later → (y.by == n) ≡ true → are_others n later ≡ true → length later ≤ length ys
no_longer n xs [] y ys later is by apart =
    let s = all-split (λ (e : Entry). not (e.by == n)) xs (y ∷ ys) (subst (λ (l : List Entry). are_others n l ≡ true) (sym is) apart) in
    true_not_false (y.by == n) by (not_true (y.by == n) (both (not (y.by == n)) (are_others n ys) s.1).0)
no_longer n [] (z ∷ zs) y ys later is by apart =
    let s : ys ≡ zs ++ later = (let whole : y ∷ ys ≡ z ∷ (zs ++ later) = is in cc) in
    let l : length ys ≡ length (zs ++ later) = ap (λ (x : List Entry). length x) s in
    let m : length (zs ++ later) ≡ length zs + length later = length-append zs later in
    omega (arith, l, m)
no_longer n (x ∷ xs) (z ∷ zs) y ys later is by apart =
    no_longer n xs zs y ys later (let whole : x ∷ (xs ++ y ∷ ys) ≡ z ∷ (zs ++ later) = is in cc) by apart

module _ (o : Opening) (crew : ℕ → Post) (start rest : List Entry) (ps : List CorePass) (c : Closed o crew start rest ps) (links : List LinkValue)
    (unclosed_on : (d : ℕ) → (why_of start d ≡ Some WasClosed → ⊥) → why_of (start ++ rest) d ≡ Some WasClosed → ⊥) where
  abbrev pub Left : Type 0
  Left = (are_all_claimed o (start ++ rest) ≡ true) ⊎ ((d : ℕ) × IsAmong d links × IsLostChild (start ++ rest) d)

  -- the pass is through, over a child of the round
  abbrev pub Through : CorePass → Type 0
  Through q = (d : ℕ) × IsAmong d links × (why_of start d ≡ Some WasClosed → ⊥) × IsThrough o (seen_of q) d

  -- so is each pass that left a task to be run again
  abbrev pub ThroughAfter : CorePass → Type 0
  ThroughAfter q = list_any (renews_by q.number) (since q) ≡ true → Through q

  -- what is left, where a pass is through at its end
  from_through : (i : ℕ) (q : CorePass) (there : slice_get ps i ≡ Some q) → Through q → (are_all_claimed o (start ++ since q) ≡ true → Left) → Left
  from_through i q there t go = by_end t.3
    where
      by_end : IsThrough o (seen_of q) t.0 → Left
      by_end (inl all) = go (subst (λ (x : List Entry). are_all_claimed o x ≡ true) (c.saw i q there).sees all)
      by_end (inr gone) = inr (
        t.0,
        t.1,
        record { gone = lasts o crew start rest ps c (λ past. is_gone past t.0 ≡ true) (gone_lasts t.0) i q there gone; unclosed = unclosed_on t.0 t.2 },
      )

  -- all tasks are claimed after these first entries of the rest, of which ys are left
  record At (k : ℕ) (xs ys : List Entry) : Type 0 where
    pub is : rest ≡ xs ++ ys
    pub few : length ys ≤ k
    pub all : are_all_claimed o (start ++ xs) ≡ true

  step : ((i : ℕ) (q : CorePass) → slice_get ps i ≡ Some q → ThroughAfter q) → (k : ℕ) (xs : List Entry) (y : Entry) (ys : List Entry) → At (suc k) xs (y ∷ ys)
      → ((xs ys : List Entry) → At k xs ys → Left) → Left
  step each k xs y ys at go = by_either (is_renewal y.what) renewed plain
    where
      few : length ys ≤ k
      few = (let f : suc (length ys) ≤ suc k = at.few in omega (arith, f))

      plain : is_renewal y.what ≡ false → Left
      plain f = go (xs ++ y ∷ []) ys record {
        is = at.is ∙ sym (append_assoc xs (y ∷ []) ys);
        few = few;
        all = subst (λ (x : List Entry). are_all_claimed o x ≡ true) (append_assoc start xs (y ∷ [])) (all_claimed_on o (start ++ xs) y f at.all);
      }

      renewed : is_renewal y.what ≡ true → Left
      renewed r = from_through has.place has.pass has.there (each has.place has.pass has.there own) (λ all. go (since has.pass) s.later record {
        is = s.behind;
        few = (let l = no_longer has.pass.number xs (since has.pass) y ys s.later (sym at.is ∙ s.behind) by s.apart in omega (arith, l, few));
        all = all;
      })
        where
          there : list_any (λ e. e.by == y.by) rest ≡ true
          there = ap (list_any (λ (e : Entry). e.by == y.by)) at.is ∙ list_any-append (λ (e : Entry). e.by == y.by) xs (y ∷ ys)
              ∙ or_right (list_any (λ (e : Entry). e.by == y.by) xs) (list_any (λ (e : Entry). e.by == y.by) (y ∷ ys))
              (or_left (y.by == y.by) (list_any (λ (e : Entry). e.by == y.by) ys) (same y.by))

          has : Has y.by ps
          has = pass_of o crew start rest ps c y.by there

          s : Saw o start rest has.pass
          s = c.saw has.place has.pass has.there

          by : (y.by == has.pass.number) ≡ true
          by = subst (λ (m : ℕ). (y.by == m) ≡ true) (sym has.is) (same y.by)

          whole : (list_any (renews_by has.pass.number) (since has.pass) || list_any (renews_by has.pass.number) s.later) ≡ true
          whole = sym (list_any-append (renews_by has.pass.number) (since has.pass) s.later) ∙ ap (list_any (renews_by has.pass.number)) (sym s.behind ∙ at.is)
              ∙ list_any-append (renews_by has.pass.number) xs (y ∷ ys)
              ∙ or_right (list_any (renews_by has.pass.number) xs) (list_any (renews_by has.pass.number) (y ∷ ys))
              (or_left (renews_by has.pass.number y) (list_any (renews_by has.pass.number) ys) (rw (by, r) refl))

          own : list_any (renews_by has.pass.number) (since has.pass) ≡ true
          own = sym (or_false (list_any (renews_by has.pass.number) (since has.pass)))
              ∙ ap (λ (b : Bool). list_any (renews_by has.pass.number) (since has.pass) || b)
              (sym (none-each (renews_by has.pass.number) (λ (e : Entry). not (e.by == has.pass.number)) (λ e d. differ_by (e.by == has.pass.number) (is_renewal e.what) d) s.later s.apart))
              ∙ whole

  walk : ((i : ℕ) (q : CorePass) → slice_get ps i ≡ Some q → ThroughAfter q) → (k : ℕ) (xs ys : List Entry) → At k xs ys → Left
  walk each k xs [] at = inl (subst (λ (x : List Entry). are_all_claimed o (start ++ x) ≡ true) (sym (at.is ∙ append-nil xs)) at.all)
  walk each zero xs (y ∷ ys) at = (let f : suc (length ys) ≤ 0 = at.few in absurd (omega (arith, f)))
  walk each (suc k) xs (y ∷ ys) at = step each k xs y ys at (walk each k)

  pub left_in : ((i : ℕ) (q : CorePass) → slice_get ps i ≡ Some q → ThroughAfter q) → (i : ℕ) (p : CorePass) → slice_get ps i ≡ Some p → Through p → Left
  left_in each i p there through =
      from_through i p there through (λ all. walk each (length (c.saw i p there).later) (since p) (c.saw i p there).later record { is = (c.saw i p there).behind; few = omega arith; all = all })

-- ---- who leaves a task to be run again claimed one for a living child

abbrev claims_live : List Entry → What → Bool
claims_live start (Claim task child) = not (is_ended start child)
claims_live start w = false

abbrev lives : List Entry → ℕ → Entry → Bool
lives start n e = e.by == n && claims_live start e.what

-- what was made since the start, where nobody held a task
record Bound (start : List Entry) (n : ℕ) (past : List Entry) : Type 0 where
  pub made : List Entry
  pub is : past ≡ start ++ made
  pub holds : (t : ℕ) → is_claimed_by past n t ≡ true → list_any (lives start n) made ≡ true
  pub renews : list_any (renews_by n) made ≡ true → list_any (lives start n) made ≡ true

-- entries of no task leave none to be run again
unrenewed : (n : ℕ) (xs : List Entry) → ((t : ℕ) → any (is_of_task t) xs ≡ false) → list_any (renews_by n) xs ≡ false
unrenewed n [] h = refl
unrenewed n (e ∷ xs) h =
    neither (renews_by n e) (list_any (renews_by n) xs) (step e.what (λ t. either_left (is_of_task t e.what) (any (is_of_task t) xs) (h t)))
    (unrenewed n xs (λ t. either_right (is_of_task t e.what) (any (is_of_task t) xs) (h t)))
  where
    off : (b : Bool) → (b && false) ≡ false
    off true = refl
    off false = refl

    step : (w : What) → ((t : ℕ) → is_of_task t w ≡ false) → (e.by == n && is_renewal w) ≡ false
    step (Again task answer) k = true_not_false (task == task) (same task) (k task)
    step w k = off (e.by == n)

bound_step : (o : Opening) (start : List Entry) (n : ℕ) → 0 < n → (past : List Entry) (by : ℕ) (w : What) → Bound start n past → may_come o past by w ≡ true
    → Bound start n (past ++ entry by w ∷ due_after o past (entry by w))
bound_step o start n pos past by w b may = record {
  made = b.made ++ more;
  is = ap (λ (x : List Entry). x ++ more) b.is ∙ append_assoc start b.made more;
  holds = holds;
  renews = λ h. by_renewal (list_any (renews_by n) b.made) refl (sym (list_any-append (renews_by n) b.made more) ∙ h);
}
  where
    due : List Entry
    due = due_after o past (entry by w)

    more : List Entry
    more = entry by w ∷ due

    untasked : (t : ℕ) → any (is_of_task t) due ≡ false
    untasked t = due_untasked o past by t w

    whole : list_any (lives start n) (b.made ++ more) ≡ (list_any (lives start n) b.made || list_any (lives start n) more)
    whole = list_any-append (lives start n) b.made more

    before : list_any (lives start n) b.made ≡ true → list_any (lives start n) (b.made ++ more) ≡ true
    before k = whole ∙ or_left (list_any (lives start n) b.made) (list_any (lives start n) more) k

    -- a claim for a child that was alive
    living : (v : What) (t : ℕ) → may_come o past by v ≡ true → (by == n) ≡ true → claims t v ≡ true → claims_live start v ≡ true
    living (Claim task child) t m mine k = ap not unended_start
      where
        served : (child == 0 && by == 0) ≡ false
        served = rw (differ by 0 (λ z. (let e : by ≡ n = same_number by n mine in omega (arith, pos, z, e)))) (off (child == 0))
          where
            off : (a : Bool) → (a && false) ≡ false
            off true = refl
            off false = refl

        prepared : (is_prepared past child && is_live past child && not (is_mute past child)) ≡ true
        prepared =
            let s = both (is_number task (least_free o past)) ((child == 0 && by == 0) || (is_prepared past child && is_live past child && not (is_mute past child))) m in
            sym (ap (λ (a : Bool). a || (is_prepared past child && is_live past child && not (is_mute past child))) served) ∙ s.1

        live : is_live past child ≡ true
        live = (both (is_prepared past child) (is_live past child) (both (is_prepared past child && is_live past child) (not (is_mute past child)) prepared).0).1

        unended_past : is_ended past child ≡ false
        unended_past = not_true (is_ended past child) (both (is_started past child) (not (is_ended past child)) live).1

        unended_start : is_ended start child ≡ false
        unended_start =
            either_left (is_ended start child) (is_ended b.made child)
            (sym (any-append (ends child) start b.made) ∙ ap (λ (x : List Entry). is_ended x child) (sym b.is) ∙ unended_past)
    living v t m mine k = absurd cc

    taken : (t : ℕ) → is_taken_by more n t ≡ true → list_any (lives start n) (b.made ++ more) ≡ true
    taken t h =
        let s = both (by == n) (claims t w) (sym (or_false (by == n && claims t w)) ∙ ap (λ (x : Bool). (by == n && claims t w) || x) (sym (untaken_by due n t (unclaimed_in t due (untasked t)))) ∙ h) in
        whole ∙ or_right (list_any (lives start n) b.made) (list_any (lives start n) more)
        (or_left (lives start n (entry by w)) (list_any (lives start n) due) (rw (s.0, living w t may s.0 s.1) refl))

    holds : (t : ℕ) → is_claimed_by (past ++ more) n t ≡ true → list_any (lives start n) (b.made ++ more) ≡ true
    holds t h = go (held_taken_from t n (holder past t) more (sym (ap (is_held_by n) (holder_append past more t)) ∙ h))
      where
        go : (is_held_by n (holder past t) ≡ true) ⊎ (is_taken_by more n t ≡ true) → list_any (lives start n) (b.made ++ more) ≡ true
        go (inl k) = before (b.holds t k)
        go (inr k) = taken t k

    -- who leaves a task so held it
    renewing : (v : What) → may_come o past by v ≡ true → (by == n) ≡ true → is_renewal v ≡ true → list_any (lives start n) (b.made ++ more) ≡ true
    renewing (Again task answer) m mine k =
        before (b.holds task (subst (λ (x : ℕ). is_claimed_by past x task ≡ true) (same_number by n mine) (closing_claims past by task (is_run_again o past task answer) m)))
    renewing v m mine k = absurd cc

    by_renewal : (a : Bool) → list_any (renews_by n) b.made ≡ a → (list_any (renews_by n) b.made || list_any (renews_by n) more) ≡ true → list_any (lives start n) (b.made ++ more) ≡ true
    by_renewal true e h = before (b.renews e)
    by_renewal false e h =
        let now : list_any (renews_by n) more ≡ true = sym (ap (λ (x : Bool). x || list_any (renews_by n) more) e) ∙ h in
        let first : renews_by n (entry by w) ≡ true = sym (or_false (renews_by n (entry by w))) ∙ ap (λ (x : Bool). renews_by n (entry by w) || x) (sym (unrenewed n due untasked)) ∙ now in
        let s = both (by == n) (is_renewal w) first in
        renewing w may s.0 s.1

-- who leaves a task to be run again, and claims for one child alone, has one that hadn't ended at the start
pub renewer_lives : (o : Opening) (crew : ℕ → Post) (start rest : List Entry) (n c : ℕ) → 0 < n → Legal o start → Legal o (start ++ rest) → ((t : ℕ) → is_busy start t ≡ false)
    → list_all (λ e. makes (crew e.by) e.what) rest ≡ true → ((task child : ℕ) → makes (crew n) (Claim task child) ≡ true → (child == c) ≡ true)
    → list_any (renews_by n) rest ≡ true → why_of start c ≡ Some WasClosed → ⊥
renewer_lives o crew start rest n c pos first whole idle posts own renewed closed = true_not_false (list_any (lives start n) rest) claimed none
  where
    base : Bound start n start
    base = record {
      made = [];
      is = sym (append-nil start);
      holds = λ t h. true_not_false (is_busy start t) (held_busy n (holder start t) h) (idle t);
      renews = λ h. absurd cc;
    }

    all : Bound start n (start ++ rest)
    all = Legal-from o (Bound start n) start rest first whole base (λ past e b may. bound_step o start n pos past e.by e.what b may)

    same_rest : all.made ≡ rest
    same_rest = append_cancel_left start all.made rest (sym all.is)

    claimed : list_any (lives start n) rest ≡ true
    claimed = subst (λ (x : List Entry). list_any (lives start n) x ≡ true) same_rest (all.renews (subst (λ (x : List Entry). list_any (renews_by n) x ≡ true) (sym same_rest) renewed))

    ended : is_ended start c ≡ true
    ended = by_either (is_ended start c) (λ t. t) (λ f. (let none = unended start c f in let bad : None ≡ Some WasClosed = sym none ∙ closed in absurd cc))

    none : list_any (lives start n) rest ≡ false
    none = none-each (lives start n) (λ (e : Entry). makes (crew e.by) e.what) (λ e k. by_either (e.by == n) (mine e k) (λ d. rw d refl)) rest posts
      where
        dead : (w : What) → makes (crew n) w ≡ true → claims_live start w ≡ false
        dead (Claim task child) k = rw (same_number child c (own task child k), ended) refl
        dead w k = refl

        mine : (e : Entry) → makes (crew e.by) e.what ≡ true → (e.by == n) ≡ true → lives start n e ≡ false
        mine e k by = rw (by, dead e.what (subst (λ (m : ℕ). makes (crew m) e.what ≡ true) (same_number e.by n by) k)) refl
