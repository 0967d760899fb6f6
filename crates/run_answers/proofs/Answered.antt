-- Each task that was claimed was answered.
use Rattle.std.proofs.Common.{◌≡◌, ℕ, List, [], ◌∷◌, length, refl, sym, ap, ◌∙◌, Bool, true, false, not, cond, Some, None, Option}
use Rattle.std.specs.Prelude.{◌==◌, ◌&&◌, ◌||◌, is_some}
use Rattle.std.specs.List.{list_all, cons_option, range_with_len}
use Rattle.std.proofs.lemmas.List.Folds.{list_all-map}
use Rattle.journal_model.specs.declared.answer.Answer.{Answer}
use Rattle.journal_model.specs.declared.entry.What.{What}
use Rattle.journal_model.specs.declared.entry.What.TheVariants.{Answer as Answered}
use Rattle.journal_model.specs.declared.entry.Entry.{Entry}
use Rattle.journal_model.specs.declared.opening.Opening.{Opening}
use Rattle.journal_model.specs.Journal.{each_of, first_of}
use Rattle.journal_model.specs.Legality.{Legal, answers, is_answered, is_busy, is_claimed, numbers_of}
use Rattle.journal_model.proofs.Holding.{held_unanswered}
use Rattle.host_core.specs.Steps.{are_all_claimed}
use Rattle.run_answers.specs.Answers.{answer_for, answer_of}
use Rattle.run_answers.specs.Answering.{AreAllAnswered, HoldsAnswers}
use Rattle.ann_key.proofs.Lists.{all_still}

answer_given : (t : ℕ) (journal : List Entry) → is_some (answer_of journal t) ≡ is_answered journal t
answer_given t [] = refl
answer_given t (e ∷ journal) = go e.what (answer_given t journal)
  where
    rest : List Answer
    rest = each_of (answer_for t) journal

    here : (b : Bool) (answer : Answer) → is_some (first_of rest) ≡ is_answered journal t
        → is_some (first_of (cons_option (cond {A = Option Answer} b (Some answer) None) rest)) ≡ (b || is_answered journal t)
    here true answer h = refl
    here false answer h = h

    go : (w : What) → is_some (first_of rest) ≡ is_answered journal t → is_some (first_of (cons_option (answer_for t w) rest)) ≡ (answers t w || is_answered journal t)
    go (Answered task answer) h = here (task == t) answer h
    go w h = h

-- a task that was claimed and is not held was answered
unheld : (claimed answered : Bool) → (claimed && not answered) ≡ false → claimed ≡ true → answered ≡ true
unheld true true h e = refl
unheld true false h e = absurd cc
unheld false answered h e = absurd cc

pub all_answered : (o : Opening) (journal : List Entry) → Legal o journal → ((t : ℕ) → is_busy journal t ≡ false) → are_all_claimed o journal ≡ true → AreAllAnswered o journal
all_answered o journal legal idle all =
    all_still (is_claimed journal) (λ (t : ℕ). is_some (answer_of journal t))
    (λ t claimed. answer_given t journal ∙ unheld (is_claimed journal t) (is_answered journal t) (sym (held_unanswered o journal legal t) ∙ idle t) claimed) (numbers_of o) all

-- so each place holds an answer
pub all_full : (o : Opening) (journal entries : List Entry) (count : ℕ) (places : List (Option Answer)) → entries ≡ journal → count ≡ length o.tasks → HoldsAnswers count entries places
    → AreAllAnswered o journal → list_all is_some places ≡ true
all_full o journal entries count places e n h all =
    ap (list_all is_some) h
    ∙ list_all-map is_some (answer_of entries) (range_with_len 1 count)
    ∙ ap (λ (j : List Entry). list_all (λ (t : ℕ). is_some (answer_of j t)) (range_with_len 1 count)) e
    ∙ ap (λ (k : ℕ). list_all (λ (t : ℕ). is_some (answer_of journal t)) (range_with_len 1 k)) n
    ∙ all
