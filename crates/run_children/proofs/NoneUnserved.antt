-- Where all goes well with the children, no task is claimed without one.
use Rattle.std.proofs.Common.{◌≡◌, ◌∙◌, ◌⊎◌, ℕ, ◌==◌, Bool, true, false, not, List, [], ◌∷◌, ◌++◌, append_assoc, append-nil, length, refl, sym, ap, subst, arith, inl, inr, Some, None, Option}
use Rattle.std.specs.Prelude.{◌&&◌, ◌||◌, cond, is_some, filter}
use Rattle.std.specs.List.{list_any}
use Rattle.std.proofs.lemmas.Bool.{and_parts, or_parts}
use Rattle.journal_model.specs.declared.answer.Answer.{Answer}
use Rattle.journal_model.specs.declared.verdict.Why.TheVariants.{Closed}
use Rattle.journal_model.specs.declared.entry.What.{What}
use Rattle.journal_model.specs.declared.entry.What.TheVariants.{Claim, Start, NoStart, Answer as Answered}
use Rattle.journal_model.specs.declared.entry.Entry.{Entry}
use Rattle.journal_model.specs.Journal.{any, is_mute, why_of}
use Rattle.journal_model.specs.Legality.{count, is_prepared}
use Rattle.journal_model.proofs.Looks.{any-append}
use Rattle.task_model.specs.TaskRuns.{failed_start, refusal_of}
use Rattle.run_starts.specs.Starting.{children, is_spent, is_unclosed, up_to}
use Rattle.run_starts.specs.Rounds.{start_untaken}
use Rattle.run_starts.specs.Stints.{main_entry}
use Rattle.run_starts.specs.TaskLaws.ChildrenWell.{ChildrenWell, is_muting, is_no_start, is_refusal, is_unclosed_end}
use Rattle.run_starts.proofs.TaskLawsLemmas.NoZero.{Calm, before, calm, none_failed}
use Rattle.run_children.specs.PoolChildren.Slots.{are_spent, is_first_start, is_lost, is_pool_spent, spends}
use Rattle.run_children.specs.Unserved.{UnservedAnswers}
use Rattle.run_children.specs.JobsWell.{NoneUnserved}

-- ---- none is spent

module _ (past : List Entry) (k : Calm past) where
  none_unclosed : (c : ℕ) → is_unclosed (why_of past c) ≡ false
  none_unclosed c = go (k.closing c)
    where
      go : (why_of past c ≡ None) ⊎ (why_of past c ≡ Some Closed) → is_unclosed (why_of past c) ≡ false
      go (inl e) = ap is_unclosed e
      go (inr e) = ap is_unclosed e

  not_spent : (c : ℕ) → is_spent past c ≡ false
  not_spent c =
      let r : is_some (refusal_of past c) ≡ false = ap is_some (k.refusal c) in
      let m : is_mute past c ≡ false = k.mute c in
      let u : is_unclosed (why_of past c) ≡ false = none_unclosed c in
      rw (r, m, u) refl

  not_lost : (c : ℕ) → is_lost past c ≡ false
  not_lost c = nothing (is_prepared past c) (is_mute past c) (is_unclosed (why_of past c)) (k.mute c) (none_unclosed c)
    where
      nothing : (a b d : Bool) → b ≡ false → d ≡ false → (a && (b || d)) ≡ false
      nothing true false false x y = refl
      nothing false b d x y = refl
      nothing true true d x y = absurd cc
      nothing true false true x y = absurd cc

  none_lost : (cs : List ℕ) → list_any (is_lost past) cs ≡ false
  none_lost [] = refl
  none_lost (c ∷ cs) = (let one : is_lost past c ≡ false = not_lost c in rw (one, none_lost cs) refl)

  none_pool_spent : (c : ℕ) (cs : List ℕ) → is_pool_spent past c cs ≡ false
  none_pool_spent c cs = (let own : is_spent past c ≡ false = not_spent c in rw (own, none_lost cs) refl)

-- so it is up to the next start
up_to_none : (p is : What → Bool) (xs : List Entry) → any p xs ≡ false → any p (up_to is xs) ≡ false
up_to_none p is [] h = refl
up_to_none p is (x ∷ xs) h =
    let t = or_parts (p x.what) (any p xs) h in
    go (is x.what) t.0 (up_to_none p is xs t.1)
  where
    go : (b : Bool) → p x.what ≡ false → any p (up_to is xs) ≡ false → any p (cond b [] (x ∷ up_to is xs)) ≡ false
    go true one rest = refl
    go false one rest = rw (one, rest) refl

part_calm : (here xs : List Entry) → ChildrenWell (here ++ xs) → Calm (here ++ up_to is_first_start xs)
part_calm here xs w = calm (here ++ up_to is_first_start xs) [] (subst ChildrenWell (sym (append-nil (here ++ up_to is_first_start xs))) well)
  where
    part : (p : What → Bool) → any p (here ++ xs) ≡ false → any p (here ++ up_to is_first_start xs) ≡ false
    part p h =
        let t = or_parts (any p here) (any p xs) (sym (any-append p here xs) ∙ h) in
        any-append p here (up_to is_first_start xs) ∙ (let one : any p here ≡ false = t.0 in rw (one, up_to_none p is_first_start xs t.1) refl)

    well : ChildrenWell (here ++ up_to is_first_start xs)
    well = record { started = part is_no_start w.started; ready = part is_refusal w.ready; closed = part is_unclosed_end w.closed; heard = part is_muting w.heard }

-- so no start was made in slot 0
none_first : (past xs : List Entry) → ChildrenWell (past ++ xs) → any is_no_start xs ≡ false → are_spent past xs ≡ true → count is_first_start xs ≡ 0
none_first past [] w h k = refl
none_first past (x ∷ xs) w h k =
    let started = or_parts (is_no_start x.what) (any is_no_start xs) h in
    let spent = and_parts (spends (past ++ x ∷ []) x.what xs) (are_spent (past ++ x ∷ []) xs) k in
    let after : ChildrenWell ((past ++ x ∷ []) ++ xs) = subst ChildrenWell (sym (append_assoc past (x ∷ []) xs)) w in
    by_what x.what started.0 spent.0 after (none_first (past ++ x ∷ []) xs after started.1 spent.1)
  where
    elsewhere : (b d : Bool) → d ≡ false → (not b || d) ≡ true → b ≡ false
    elsewhere false d p q = refl
    elsewhere true false p q = absurd cc
    elsewhere true true p q = absurd cc

    by_what : (u : What) → is_no_start u ≡ false → spends (past ++ x ∷ []) u xs ≡ true → ChildrenWell ((past ++ x ∷ []) ++ xs) → count is_first_start xs ≡ 0
        → length (cond (is_first_start u) (x ∷ filter (λ (y : Entry). is_first_start y.what) xs) (filter (λ (y : Entry). is_first_start y.what) xs)) ≡ 0
    by_what (Start child slot offer) n s well rest =
        let there : List Entry = (past ++ x ∷ []) ++ up_to is_first_start xs in
        let away : (slot == 0) ≡ false = elsewhere (slot == 0) (is_pool_spent there child (children (up_to is_first_start xs)))
        (none_pool_spent there (part_calm (past ++ x ∷ []) xs well) child (children (up_to is_first_start xs))) s in
        rw away rest
    by_what (NoStart slot) n s well rest = absurd cc
    by_what u n s well rest = rest

pub none_unserved : NoneUnserved
none_unserved limit journal t some w answer z = go (failed_start z.past (start_untaken z.past)) refl z.answers
  where
    more : List Entry
    more = main_entry (Claim t 0) ∷ main_entry (Answered t answer) ∷ z.rest

    well : ChildrenWell (z.past ++ more)
    well = subst ChildrenWell z.is w

    so_far : ChildrenWell z.past
    so_far = record {
      started = before is_no_start z.past more well.started;
      ready = before is_refusal z.past more well.ready;
      closed = before is_unclosed_end z.past more well.closed;
      heard = before is_muting z.past more well.heard;
    }

    go : (failed : Option Answer) → failed_start z.past (start_untaken z.past) ≡ failed → UnservedAnswers limit z.past failed t answer → ⊥
    go (Some failed) e a = absurd (let bad : None ≡ Some failed = sym (none_failed z.past (calm z.past more well)) ∙ e in cc)
    go None e a =
        let none = none_first [] z.past so_far so_far.started a.1 in
        let all = a.0 in
        omega (arith, none, all, some)
