-- What each pass of a round promises, gathered into the journal.
use Rattle.std.proofs.Common.{◌≡◌, suc, ℕ, ◌<◌, List, [], ◌∷◌, ◌++◌, refl, sym, ap, subst, ◌∙◌, Bool, true, false, not, ◌==◌, Some, None, Option, append_assoc, append-nil, arith, slice_get, ◌⊎◌, inl, inr}
use Rattle.std.specs.Prelude.{◌&&◌, ◌||◌, All, map, is_some}
use Rattle.std.specs.List.{list_any, list_all}
use Rattle.std.proofs.lemmas.List.Elements.{filter-append}
use Rattle.threads.specs.Log.{flat}
use Rattle.threads.specs.Passes.{HallValue, IsPassOf, seen_of, HasAllOf, HasClosed}
use Rattle.threads.proofs.Logs.{get-from_all}
use Rattle.journal_model.specs.declared.holder.Holder.{Holder}
use Rattle.journal_model.specs.declared.entry.What.{What}
use Rattle.journal_model.specs.declared.entry.Entry.{Entry}
use Rattle.journal_model.specs.declared.opening.Opening.{Opening}
use Rattle.journal_model.specs.Journal.{any}
use Rattle.journal_model.specs.Legality.{Legal, claims, holder, is_busy, is_claimed_by, is_held_by}
use Rattle.journal_model.specs.Makers.{made_by_number, is_taken_by}
use Rattle.journal_model.specs.Shares.{are_own, are_others}
use Rattle.journal_model.proofs.Holders.{others_unheld}
use Rattle.journal_model.proofs.Holding.{holder_append}
use Rattle.journal_model.proofs.Idling.{all_shut, claimed_positive}
use Rattle.journal_model.proofs.Standing.{task_stands}
use Rattle.journal_model.proofs.Testing.{by_either, all-split, any-more, none_picked}
use Rattle.journal_model.proofs.Working.{tasks_kept, claimed_once, held_taken_from}
use Rattle.host_core.specs.Mays.{MayStep, IsMadeBy}
use Rattle.crew_work.specs.Laws.Posts.{Post, makes, is_mains, OnlyAt}
use Rattle.crew_work.specs.Laws.Tasks.{turns_by}
use Rattle.crew_work.specs.Laws.Rounds.{CorePass, since, KeepsPost, IsAtRest, Rounded}
use Rattle.crew_work.proofs.LawsLemmas.Owning.{owned, nobody}
use Rattle.crew_work.proofs.LawsLemmas.Crews.{mains_nowhere}
use Rattle.crew_work.proofs.LawsLemmas.Halls.{legal_log, signed_log, Signed, Saw, saw, only_all, have, AllHave, posts_log, numbered_log, Has}
use Rattle.crew_work.proofs.LawsLemmas.Turning.{others_turns, turns_by-append}
use Rattle.std.proofs.lemmas.Bool.{not-true as not_true, and_parts as both, eqb-true as same_number}
use Rattle.ann_key.proofs.Numbers.{same_number as same}
use Rattle.ann_key.proofs.Booleans.{true_and_false as true_not_false}

-- ---- a hall of a core that is closed

-- the same over entries: what was made since the begin, and what each pass had seen of it
pub record Closed (o : Opening) (crew : ℕ → Post) (start rest : List Entry) (ps : List CorePass) : Type 0 where
  pub legal : Legal o (start ++ rest)
  pub posts : list_all (λ e. makes (crew e.by) e.what) rest ≡ true
  pub numbered : list_all (λ e. list_any (λ n. n == e.by) (map (λ q. q.number) ps)) rest ≡ true
  pub saw : (i : ℕ) (p : CorePass) → slice_get ps i ≡ Some p → Saw o start rest p
  pub keeps : (i : ℕ) (p : CorePass) → slice_get ps i ≡ Some p → KeepsPost crew p

pub closed : (crew : ℕ → Post) (h : HallValue Entry Opening) (ps : List CorePass) (final : List Entry) (fixed : Opening)
    (c : HasClosed IsMadeBy MayStep h ps final fixed) → All (IsPassOf h) ps → All (KeepsPost crew) ps → Legal h.fixed h.start
    → Closed h.fixed crew h.start (flat c.log) ps
closed crew h ps final fixed c of ends legal = record {
  legal = legal_log h.fixed h.start c.log c.legal legal;
  posts = posts_log crew ps c.log signed has (λ i p there. only_all h.fixed h.start (flat c.log) p (makes (crew p.number)) (saws i p there) (kept i p there).only);
  numbered = numbered_log ps c.log signed has;
  saw = saws;
  keeps = kept;
}
  where
    signed : Signed c.log
    signed = signed_log h.fixed h.start c.log c.legal

    has : AllHave c.log ps
    has = have ps c.log c.once

    kept : (i : ℕ) (p : CorePass) → slice_get ps i ≡ Some p → KeepsPost crew p
    kept = get-from_all (KeepsPost crew) ps ends

    saws : (i : ℕ) (p : CorePass) → slice_get ps i ≡ Some p → Saw h.fixed h.start (flat c.log) p
    saws i p there =
        saw h.fixed h.start c.log p c.legal legal (get-from_all (IsPassOf h) ps of i p there).2 (get-from_all (HasAllOf c.log) ps c.each i p there)

none_made : (n : ℕ) (xs : List Entry) → are_others n xs ≡ true → made_by_number n xs ≡ []
none_made n [] h = refl
none_made n (e ∷ xs) h =
    let s = both (not (e.by == n)) (are_others n xs) h in
    rw (not_true (e.by == n) s.0) (none_made n xs s.1)

-- ---- what a pass knows of its own

module _ (o : Opening) (crew : ℕ → Post) (start rest : List Entry) (ps : List CorePass) (c : Closed o crew start rest ps) where
  behind : (i : ℕ) (p : CorePass) (there : slice_get ps i ≡ Some p) → start ++ rest ≡ seen_of p ++ (c.saw i p there).later
  behind i p there =
      let s = c.saw i p there in
      ap (λ (x : List Entry). start ++ x) s.behind ∙ sym (append_assoc start (since p) s.later) ∙ ap (λ (x : List Entry). x ++ s.later) (sym s.sees)

  -- What holds of the journal that a pass has seen, and stays while nothing of a kind is made, holds of the final journal,
  -- where this kind is the pass's alone.
  pub gathers : (P : List Entry → Type 0) (pick : What → Bool) → ((past more : List Entry) → any pick more ≡ false → P past → P (past ++ more))
      → (i : ℕ) (p : CorePass) → slice_get ps i ≡ Some p → OnlyAt crew pick p.number
      → (are_own pick p.number (since p) ≡ true → P (seen_of p)) → P (start ++ rest)
  gathers P pick stays i p there only holds =
      let s = c.saw i p there in
      let own : are_own pick p.number rest ≡ true = owned crew pick p.number only rest c.posts in
      let parts = all-split (λ (e : Entry). not (pick e.what) || e.by == p.number) (since p) s.later (subst (λ (x : List Entry). are_own pick p.number x ≡ true) s.behind own) in
      subst P (sym (behind i p there)) (stays (seen_of p) s.later (none_picked pick p.number s.later parts.1 s.apart) (holds parts.0))

  -- what stays whatever is made
  pub lasts : (P : List Entry → Type 0) → ((past more : List Entry) → P past → P (past ++ more)) → (i : ℕ) (p : CorePass) → slice_get ps i ≡ Some p → P (seen_of p) → P (start ++ rest)
  lasts P stays i p there holds = subst P (sym (behind i p there)) (stays (seen_of p) (c.saw i p there).later holds)

  -- what a pass made of the rest is what it has seen of its own
  pub own_in : (i : ℕ) (p : CorePass) → slice_get ps i ≡ Some p → made_by_number p.number rest ≡ made_by_number p.number (since p)
  own_in i p there =
      let s = c.saw i p there in
      ap (made_by_number p.number) s.behind ∙ filter-append (λ (e : Entry). e.by == p.number) (since p) s.later
      ∙ ap (λ (x : List Entry). made_by_number p.number (since p) ++ x) (none_made p.number s.later s.apart) ∙ append-nil (made_by_number p.number (since p))

  -- the turns that a pass takes in the rest are those that it has seen
  pub turns_in : (i : ℕ) (p : CorePass) → slice_get ps i ≡ Some p → turns_by p.number start rest ≡ turns_by p.number start (since p)
  turns_in i p there =
      let s = c.saw i p there in
      ap (turns_by p.number start) s.behind ∙ turns_by-append p.number start (since p) s.later
      ∙ ap (λ (x : List (ℕ × ℕ)). turns_by p.number start (since p) ++ x) (others_turns p.number (start ++ since p) s.later s.apart) ∙ append-nil (turns_by p.number start (since p))

  -- what a pass doesn't hold at its end, it doesn't hold in the final journal
  unheld_in : (i : ℕ) (p : CorePass) → slice_get ps i ≡ Some p → (t : ℕ) → is_busy start t ≡ false → is_claimed_by (start ++ rest) p.number t ≡ false
  unheld_in i p there t idle =
      let s = c.saw i p there in
      let first : is_claimed_by p.start p.number t ≡ false = ap (λ (x : List Entry). is_claimed_by x p.number t) s.begins ∙ unheld (holder start t) idle in
      subst (λ (x : List Entry). is_claimed_by x p.number t ≡ false) (sym (behind i p there))
      (others_unheld (seen_of p) s.later p.number t s.apart ((c.keeps i p there).holds t first))
    where
      unheld : (h : Option Holder) → is_some h ≡ false → is_held_by p.number h ≡ false
      unheld None k = refl
      unheld (Some x) k = absurd cc

  -- ---- the round

  -- who made an entry is a pass, that has it
  pub pass_of : (n : ℕ) → list_any (λ e. e.by == n) rest ≡ true → Has n ps
  pass_of n h = has_number n ps (number_there n rest c.numbered h)
    where
      number_there : (n : ℕ) (xs : List Entry) → list_all (λ e. list_any (λ m. m == e.by) (map (λ q. q.number) ps)) xs ≡ true
          → list_any (λ e. e.by == n) xs ≡ true → list_any (λ m. m == n) (map (λ q. q.number) ps) ≡ true
      number_there n [] a k = absurd cc
      number_there n (e ∷ xs) a k = go (e.by == n) refl k (number_there n xs parts.1)
        where
          parts : (list_any (λ m. m == e.by) (map (λ q. q.number) ps) ≡ true) × (list_all (λ x. list_any (λ m. m == x.by) (map (λ q. q.number) ps)) xs ≡ true)
          parts = both (list_any (λ m. m == e.by) (map (λ q. q.number) ps)) (list_all (λ x. list_any (λ m. m == x.by) (map (λ q. q.number) ps)) xs) a

          go : (b : Bool) → (e.by == n) ≡ b → (b || list_any (λ x. x.by == n) xs) ≡ true
              → (list_any (λ x. x.by == n) xs ≡ true → list_any (λ m. m == n) (map (λ q. q.number) ps) ≡ true) → list_any (λ m. m == n) (map (λ q. q.number) ps) ≡ true
          go true is k r = subst (λ (x : ℕ). list_any (λ m. m == x) (map (λ q. q.number) ps) ≡ true) (same_number e.by n is) parts.0
          go false is k r = r k

      has_number : (n : ℕ) (qs : List CorePass) → list_any (λ m. m == n) (map (λ q. q.number) qs) ≡ true → Has n qs
      has_number n [] h = absurd cc
      has_number n (q ∷ qs) h = go (q.number == n) refl h (has_number n qs)
        where
          go : (b : Bool) → (q.number == n) ≡ b → (b || list_any (λ m. m == n) (map (λ x. x.number) qs)) ≡ true
              → (list_any (λ m. m == n) (map (λ x. x.number) qs) ≡ true → Has n qs) → Has n (q ∷ qs)
          go true is k rec = record { place = 0; pass = q; there = refl; is = same_number q.number n is }
          go false is k rec = (let r = rec k in record { place = suc r.place; pass = r.pass; there = r.there; is = r.is })

  -- no task is busy
  idle_in : ((t : ℕ) → is_busy start t ≡ false) → (t : ℕ) → is_busy (start ++ rest) t ≡ false
  idle_in idle t = by_holder (holder (start ++ rest) t) refl
    where
      none : holder start t ≡ None
      none = go (holder start t) refl (idle t)
        where
          go : (h : Option Holder) → holder start t ≡ h → is_some h ≡ false → holder start t ≡ None
          go None e k = e
          go (Some x) e k = absurd cc

      -- its holder would be a pass
      held : (n : ℕ) → is_claimed_by (start ++ rest) n t ≡ true → is_busy (start ++ rest) t ≡ false
      held n h =
          let taken : is_taken_by rest n t ≡ true =
          go (held_taken_from t n (holder start t) rest (sym (ap (is_held_by n) (holder_append start rest t)) ∙ h)) in
          let has = pass_of n (any-more (λ (e : Entry). e.by == n && claims t e.what) (λ (e : Entry). e.by == n) (λ e k. (both (e.by == n) (claims t e.what) k).0) rest taken) in
          true_not_false (is_claimed_by (start ++ rest) n t) h
          (subst (λ (m : ℕ). is_claimed_by (start ++ rest) m t ≡ false) has.is (unheld_in has.place has.pass has.there t (idle t)))
        where
          go : (is_held_by n (holder start t) ≡ true) ⊎ (is_taken_by rest n t ≡ true) → is_taken_by rest n t ≡ true
          go (inl k) = true_not_false (is_held_by n (holder start t)) k (ap (is_held_by n) none)
          go (inr k) = k

      by_holder : (h : Option Holder) → holder (start ++ rest) t ≡ h → is_busy (start ++ rest) t ≡ false
      by_holder None e = ap is_some e
      by_holder (Some x) e = held x.by (ap (is_held_by x.by) e ∙ same x.by)

  -- number 0 made nothing
  none_of_main : list_any (λ e. e.by == 0) rest ≡ false
  none_of_main = by_either (list_any (λ e. e.by == 0) rest) bad (λ f. f)
    where
      bad : list_any (λ e. e.by == 0) rest ≡ true → list_any (λ e. e.by == 0) rest ≡ false
      bad h =
          let has = pass_of 0 h in
          let pos : 0 < has.pass.number = (c.keeps has.place has.pass has.there).number in
          absurd (omega (arith, pos, has.is))

  pub rounded : Legal o start → IsAtRest start → Rounded o crew (map (λ q. q.number) ps) start rest
  rounded legal calm = record {
    legal = c.legal;
    posts = c.posts;
    numbered = c.numbered;
    at_rest = record { idle = idle; shut = all_shut o start rest c.legal idle calm.shut none_of_main };
    once = claimed_once o (start ++ rest) c.legal;
    own = (tasks_kept o (start ++ rest) c.legal).own;
    before = λ t h. task_stands o start rest legal c.legal t (claimed_positive o start legal t h) h (calm.idle t);
    mains = nobody crew is_mains (mains_nowhere crew) rest c.posts;
  }
    where
      idle : (t : ℕ) → is_busy (start ++ rest) t ≡ false
      idle = idle_in calm.idle
