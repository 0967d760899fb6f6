-- What the last start came to, where a claim takes it up or not.
use Rattle.std.proofs.Common.{◌≡◌, ◌⊎◌, ℕ, List, [], ◌∷◌, ◌++◌, refl, ap, ◌∙◌, Bool, true, Some, None, Option, inl, inr}
use Rattle.std.specs.Prelude.{option_and_then}
use Rattle.std.specs.List.{list_all, cons_option, last_or}
use Rattle.journal_model.specs.declared.answer.Answer.{Answer}
use Rattle.journal_model.specs.declared.entry.What.{What}
use Rattle.journal_model.specs.declared.entry.What.TheVariants.{Claim, Start, NoStart, Answer as Answered}
use Rattle.journal_model.specs.declared.entry.Entry.{Entry}
use Rattle.journal_model.specs.Journal.{each_of}
use Rattle.journal_model.proofs.Looks.{each_of-append}
use Rattle.task_model.specs.TaskRuns.{failed_start, unready_answer}
use Rattle.run_starts.specs.Rounds.{start_untaken, turn_of}
use Rattle.run_starts.specs.Stints.{in_stint, main_entry}
use Rattle.std.proofs.lemmas.Bool.{and_parts as both}
use Rattle.ann_key.proofs.Lists.{last_or-append}

-- what a turn came to
abbrev Turn : Type 0
Turn = Option (Option ℕ)

-- claims alone
abbrev AreClaims : List Turn → Type 0
AreClaims [] = Unit {0}
AreClaims (None ∷ ns) = AreClaims ns
AreClaims (Some x ∷ ns) = ⊥

stint_claims : (c : ℕ) (xs : List Entry) → list_all (λ (e : Entry). in_stint c e.what) xs ≡ true → AreClaims (each_of turn_of xs)
stint_claims c [] h = tt
stint_claims c (e ∷ xs) h =
    let t = both (in_stint c e.what) (list_all (λ (x : Entry). in_stint c x.what) xs) h in
    go e.what t.0 (stint_claims c xs t.1)
  where
    go : (w : What) → in_stint c w ≡ true → AreClaims (each_of turn_of xs) → AreClaims (cons_option (turn_of w) (each_of turn_of xs))
    go (Claim task child) k r = r
    go (Start child slot offer) k r = absurd cc
    go (NoStart slot) k r = absurd cc
    go w k r = r

last_claims : (x : Turn) (ns : List Turn) → AreClaims ns → (last_or (Some x) ns ≡ Some x) ⊎ (last_or (Some x) ns ≡ Some None)
last_claims x [] h = inl refl
last_claims x (None ∷ ns) h = go (last_claims None ns h)
  where
    go : (last_or (Some None) ns ≡ Some None) ⊎ (last_or (Some None) ns ≡ Some None) → (last_or (Some None) ns ≡ Some x) ⊎ (last_or (Some None) ns ≡ Some None)
    go (inl e) = inr e
    go (inr e) = inr e
last_claims x (Some y ∷ ns) h = absurd h

abbrev flat : Option Turn → Turn
flat o = option_and_then (λ (turn : Turn). turn) o

-- ---- after a start that gave a child

module _ (old later : List Entry) (c : ℕ) (offer : Bool) where
  abbrev begun : List Entry
  begun = old ++ main_entry (Start c 0 offer) ∷ later

  turns_are : each_of turn_of begun ≡ each_of turn_of old ++ Some (Some c) ∷ each_of turn_of later
  turns_are = each_of-append turn_of old (main_entry (Start c 0 offer) ∷ later)

  last_is : last_or None (each_of turn_of begun) ≡ last_or (Some (Some (Some c))) (each_of turn_of later)
  last_is = ap (last_or None) turns_are ∙ last_or-append None (each_of turn_of old) (Some (Some c) ∷ each_of turn_of later)

  -- no task was claimed after it
  pub child_untaken : each_of turn_of later ≡ [] → start_untaken begun ≡ Some (Some c)
  child_untaken none = ap flat (last_is ∙ ap (last_or (Some (Some (Some c)))) none)

  -- the child got ready: the start stands for no answer
  pub ready_untaken : (d : ℕ) → list_all (λ (e : Entry). in_stint d e.what) later ≡ true → unready_answer begun c ≡ None → failed_start begun (start_untaken begun) ≡ None
  ready_untaken d within ready = go (last_claims (Some (Some c)) (each_of turn_of later) (stint_claims d later within))
    where
      go : (last_or (Some (Some (Some c))) (each_of turn_of later) ≡ Some (Some (Some c))) ⊎ (last_or (Some (Some (Some c))) (each_of turn_of later) ≡ Some None) → failed_start begun (start_untaken begun) ≡ None
      go (inl e) = ap (λ (x : Option Turn). failed_start begun (flat x)) (last_is ∙ e) ∙ ready
      go (inr e) = ap (λ (x : Option Turn). failed_start begun (flat x)) (last_is ∙ e)

-- ---- after a start that failed

pub fault_untaken : (old : List Entry) → start_untaken (old ++ main_entry (NoStart 0) ∷ []) ≡ Some None
fault_untaken old = ap flat (ap (last_or None) (each_of-append turn_of old (main_entry (NoStart 0) ∷ [])) ∙ last_or-append None (each_of turn_of old) (Some None ∷ []))

-- ---- after a claim

pub claim_takes : (past tail : List Entry) (t : ℕ) (answer : Answer) → each_of turn_of tail ≡ [] → start_untaken (past ++ main_entry (Claim t 0) ∷ main_entry (Answered t answer) ∷ tail) ≡ None
claim_takes past tail t answer none =
    ap flat (
    ap (last_or None) (each_of-append turn_of past (main_entry (Claim t 0) ∷ main_entry (Answered t answer) ∷ tail))
    ∙ last_or-append None (each_of turn_of past) (None ∷ each_of turn_of tail)
    ∙ ap (last_or (Some None)) none
    )

pub none_fails : (past : List Entry) → start_untaken past ≡ None → failed_start past (start_untaken past) ≡ None
none_fails past h = ap (failed_start past) h
