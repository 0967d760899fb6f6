-- Requests that are lost, along entries: one of no task only in the greeting of its child.
use Rattle.std.proofs.Common.{◌≡◌, ℕ, List, [], ◌∷◌, ◌++◌, refl, sym, ap, subst, ◌∙◌, append_assoc, append-nil, Bool, true, false, not, ◌==◌, Some, None, Option}
use Rattle.std.specs.Prelude.{◌&&◌, option_and_then}
use Rattle.std.specs.List.{cons_option, last_or, list_all}
use Rattle.journal_model.specs.declared.entry.What.{What}
use Rattle.journal_model.specs.declared.entry.What.TheVariants.{Ask, Claim, Lost, NoStart, Start}
use Rattle.journal_model.specs.declared.entry.Entry.{Entry}
use Rattle.journal_model.specs.Journal.{each_of}
use Rattle.journal_model.proofs.Looks.{each_of-append}
use Rattle.child_life.specs.Start.Greetings.{is_greeting_line, is_of_greeting}
use Rattle.run_starts.specs.Rounds.{AllLostWell, IsLostIn, greeted, opened_in}
use Rattle.run_starts.specs.Stints.{main_entry}
use Rattle.std.proofs.lemmas.Bool.{and_parts as both, eqb-true as same_number}
use Rattle.ann_key.proofs.Lists.{last_or-push}

pub lost_both : (past xs ys : List Entry) → AllLostWell past xs → AllLostWell (past ++ xs) ys → AllLostWell past (xs ++ ys)
lost_both past [] ys h k = subst (λ (p : List Entry). AllLostWell p ys) (append-nil past) k
lost_both past (e ∷ xs) ys h k = (h.0, lost_both (past ++ e ∷ []) xs ys h.1 (subst (λ (p : List Entry). AllLostWell p ys) (sym (append_assoc past (e ∷ []) xs)) k))

-- no request of no task is lost
abbrev pub loses_task : What → Bool
loses_task (Lost child task) = not (task == 0)
loses_task w = true

pub lost_tasks : (past xs : List Entry) → list_all (λ (e : Entry). loses_task e.what) xs ≡ true → AllLostWell past xs
lost_tasks past [] h = tt
lost_tasks past (e ∷ xs) h =
    let t = both (loses_task e.what) (list_all (λ (x : Entry). loses_task x.what) xs) h in
    (λ mains. one e.what t.0, lost_tasks (past ++ e ∷ []) xs t.1)
  where
    one : (w : What) → loses_task w ≡ true → IsLostIn past w
    one (Lost child task) k = λ none. absurd (let bad : not (task == 0) ≡ false = ap (λ (t : ℕ). not (t == 0)) none in let worse : true ≡ false = sym k ∙ bad in cc)
    one w k = tt

-- nothing is the main thread's
pub lost_others : (past xs : List Entry) → list_all (λ (e : Entry). not (e.by == 0)) xs ≡ true → AllLostWell past xs
lost_others past [] h = tt
lost_others past (e ∷ xs) h =
    let t = both (not (e.by == 0)) (list_all (λ (x : Entry). not (x.by == 0)) xs) h in
    (λ mains. absurd (let bad : not (e.by == 0) ≡ false = ap (λ (n : ℕ). not (n == 0)) mains in let worse : true ≡ false = sym t.0 ∙ bad in cc), lost_others (past ++ e ∷ []) xs t.1)

-- ---- a greeting

pub greeted_next : (old : List Entry) (c slot : ℕ) (offer : Bool) → greeted (old ++ main_entry (Start c slot offer) ∷ []) ≡ Some c
greeted_next old c slot offer = ap (option_and_then (λ (child : Option ℕ). child)) (ap (last_or None) (each_of-append opened_in old (main_entry (Start c slot offer) ∷ [])) ∙ last_or-push None (each_of opened_in old) (Some c))

still_greeted : (past : List Entry) (e : Entry) → opened_in e.what ≡ None → greeted (past ++ e ∷ []) ≡ greeted past
still_greeted past e none =
    let same : each_of opened_in (past ++ e ∷ []) ≡ each_of opened_in past =
    each_of-append opened_in past (e ∷ []) ∙ ap (λ (x : Option (Option ℕ)). each_of opened_in past ++ cons_option x []) none ∙ append-nil (each_of opened_in past) in
    ap (λ (ts : List (Option ℕ)). option_and_then (λ (child : Option ℕ). child) (last_or None ts)) same

unopened : (c : ℕ) (w : What) → is_of_greeting c w ≡ true → opened_in w ≡ None
unopened c (Start child slot offer) h = absurd cc
unopened c (NoStart slot) h = absurd cc
unopened c (Claim task child) h = absurd cc
unopened c w h = refl

pub lost_greeting : (past : List Entry) (c : ℕ) (xs : List Entry) → greeted past ≡ Some c → list_all (λ (e : Entry). is_of_greeting c e.what) xs ≡ true → AllLostWell past xs
lost_greeting past c [] now h = tt
lost_greeting past c (e ∷ xs) now h =
    let t = both (is_of_greeting c e.what) (list_all (λ (x : Entry). is_of_greeting c x.what) xs) h in
    (λ mains. one e.what t.0, lost_greeting (past ++ e ∷ []) c xs (still_greeted past e (unopened c e.what t.0) ∙ now) t.1)
  where
    one : (w : What) → is_of_greeting c w ≡ true → IsLostIn past w
    one (Lost child task) k = λ none. (let mine = same_number child c (both (child == c) (task == 0) k).0 in now ∙ ap (λ (d : ℕ). Some d) (sym mine))
    one w k = tt
