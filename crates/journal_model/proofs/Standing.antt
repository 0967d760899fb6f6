-- A task that was claimed and isn't busy stays as it is.
use Rattle.std.proofs.Common.{◌≡◌, zero, suc, ℕ, ◌<◌, List, [], ◌∷◌, ◌++◌, refl, sym, ap, subst, ◌∙◌, Bool, true, false, not, ◌==◌, append-nil, append_assoc, arith}
use Rattle.std.specs.Prelude.{◌||◌, filter, IsTrue, is_some}
use Rattle.std.proofs.Common.{inl, inr}
use Rattle.std.proofs.lemmas.List.{append_cancel_left}
use Rattle.std.proofs.lemmas.List.Elements.{filter-append}
use Rattle.journal_model.specs.declared.entry.What.{What}
use Rattle.journal_model.specs.declared.entry.Entry.{Entry}
use Rattle.journal_model.specs.declared.opening.Opening.{Opening}
use Rattle.journal_model.specs.Journal.{any}
use Rattle.journal_model.specs.Due.{due_after}
use Rattle.journal_model.specs.Legality.{Legal, StandsFrom, owed_from, may_come, needs_lead, holder, is_claimed, is_busy}
use Rattle.journal_model.specs.declared.entry.What.TheVariants.{Lead, Ask}
use Rattle.journal_model.proofs.Growing.{groups_from, StandsFrom-split, owed_from-append}
use Rattle.journal_model.proofs.Looks.{entry, any-append}
use Rattle.journal_model.specs.Makers.{is_of_task}
use Rattle.journal_model.proofs.Testing.{by_either}
use Rattle.journal_model.proofs.Working.{takes, Takes, claimed_apart, due_untasked, holder_apart}
use Rattle.journal_model.proofs.Holding.{held_busy}
use Rattle.std.proofs.lemmas.Bool.{and_parts as both}
use Rattle.ann_key.proofs.Booleans.{true_and_false as true_not_false, left_false as either_left, right_false as either_right, or_neither as neither}

-- what holds of a legal journal, and is kept by each group, holds of each legal one that begins with it
pub Legal-from : (o : Opening) (P : List Entry → Type 0) (start rest : List Entry) → Legal o start → Legal o (start ++ rest) → P start
    → ((p : List Entry) (e : Entry) → P p → IsTrue (may_come o p e.by e.what) → P (p ++ e ∷ due_after o p e)) → P (start ++ rest)
Legal-from o P start rest first whole base step =
    let s = (StandsFrom-split o [] [] start rest whole.stands).1 in
    let stands : StandsFrom o start [] rest = subst (λ (ds : List Entry). StandsFrom o start ds rest) first.nothing_due s in
    let none : owed_from o start [] rest ≡ [] =
    ap (λ (ds : List Entry). owed_from o start ds rest) (sym first.nothing_due) ∙ sym (owed_from-append o [] [] start rest) ∙ whole.nothing_due in
    groups_from o P record {
      plain = λ p e h may plain. step p e h (both (not (needs_lead p e.what)) (may_come o p e.by e.what) may).1;
      pairs = λ p by child job task name line h led.
          subst P (append_assoc p (entry by (Lead child job name) ∷ []) (entry by (Ask child job task line) ∷ []))
          (step (p ++ entry by (Lead child job name) ∷ []) (entry by (Ask child job task line)) (step p (entry by (Lead child job name)) h led.first) led.second);
    } start [] rest refl (subst P (sym (append-nil start)) base) stands none

abbrev of_task : ℕ → List Entry → List Entry
of_task t xs = filter (λ e. is_of_task t e.what) xs

filter_untasked : (t : ℕ) (xs : List Entry) → any (is_of_task t) xs ≡ false → of_task t xs ≡ []
filter_untasked t [] h = refl
filter_untasked t (e ∷ xs) h =
    rw (either_left (is_of_task t e.what) (any (is_of_task t) xs) h) (filter_untasked t xs (either_right (is_of_task t e.what) (any (is_of_task t) xs) h))

untasked_filter : (t : ℕ) (xs : List Entry) → of_task t xs ≡ [] → any (is_of_task t) xs ≡ false
untasked_filter t [] h = refl
untasked_filter t (e ∷ xs) h = go (is_of_task t e.what) refl h (untasked_filter t xs)
  where
    go : (b : Bool) → is_of_task t e.what ≡ b → Rattle.std.proofs.Common.cond b (e ∷ of_task t xs) (of_task t xs) ≡ []
        → (of_task t xs ≡ [] → any (is_of_task t) xs ≡ false) → (is_of_task t e.what || any (is_of_task t) xs) ≡ false
    go true is k r = absurd cc
    go false is k r = rw is (r k)

record Stands (t : ℕ) (start past : List Entry) : Type 0 where
  pub claimed : is_claimed past t ≡ true
  pub idle : is_busy past t ≡ false
  pub same : of_task t past ≡ of_task t start

-- nothing is made of a task that was claimed and isn't busy
pub task_stands : (o : Opening) (start rest : List Entry) → Legal o start → Legal o (start ++ rest) → (t : ℕ) → 0 < t → is_claimed start t ≡ true → is_busy start t ≡ false
    → any (is_of_task t) rest ≡ false
task_stands o start rest first whole t pos claimed idle =
    untasked_filter t rest (append_cancel_left (of_task t start) (of_task t rest) []
    (sym (filter-append (λ (e : Entry). is_of_task t e.what) start rest) ∙ all.same ∙ sym (append-nil (of_task t start))))
  where
    step : (past : List Entry) (by : ℕ) (w : What) → Stands t start past → may_come o past by w ≡ true → Stands t start (past ++ entry by w ∷ due_after o past (entry by w))
    step past by w s may = record {
      claimed = claimed_apart past more t untasked ∙ s.claimed;
      idle = ap is_some (holder_apart past more t untasked) ∙ s.idle;
      same = filter-append (λ (e : Entry). is_of_task t e.what) past more ∙ ap (λ (x : List Entry). of_task t past ++ x) (filter_untasked t more untasked) ∙ append-nil (of_task t past) ∙ s.same;
    }
      where
        more : List Entry
        more = entry by w ∷ due_after o past (entry by w)

        never : Takes past by t w → is_of_task t w ≡ false
        never (inl free) = true_not_false (is_claimed past t) s.claimed free.0
        never (inr work) = true_not_false (is_busy past t) (held_busy by (holder past t) work.0) s.idle

        untasked : any (is_of_task t) more ≡ false
        untasked = neither (is_of_task t w) (any (is_of_task t) (due_after o past (entry by w)))
            (by_either (is_of_task t w) (λ is. never (takes o past by t w pos may is)) (λ off. off)) (due_untasked o past by t w)

    all : Stands t start (start ++ rest)
    all = Legal-from o (Stands t start) start rest first whole (record { claimed = claimed; idle = idle; same = refl })
        (λ past e s may. step past e.by e.what s may)
