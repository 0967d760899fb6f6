-- What a longer journal says of the notes of a task.
use Rattle.std.proofs.Common.{◌≡◌, ℕ, ◌+◌, List, [], ◌∷◌, ◌++◌, length, refl, sym, ap, ◌∙◌, append_assoc, append-nil, arith, false, ◌==◌, Some, None, Option, Bool}
use Rattle.std.specs.List.{cons_option}
use Rattle.journal_model.specs.declared.entry.What.{What}
use Rattle.journal_model.specs.declared.entry.What.TheVariants.{Note}
use Rattle.journal_model.specs.declared.entry.Entry.{Entry}
use Rattle.journal_model.specs.Journal.{any, each_of}
use Rattle.journal_model.specs.Legality.{job_for, has_open_job}
use Rattle.journal_model.proofs.Looks.{entry}
use Rattle.journal_model.proofs.Working.{all_asked, same_verdicts}
use Rattle.task_model.specs.Askers.{Asking, Noting}
use Rattle.task_model.specs.Askings.{asking_of, askings_from, askings, noting_of, notings_from}
use Rattle.crew_work.proofs.LawsLemmas.Lasting.{notings_alike}
use Rattle.crew_work.specs.Worker.AtTasks.{notings}
use Rattle.ann_key.proofs.Lists.{cons_option-append}
use Rattle.ann_key.proofs.Numbers.{same_number as same}
use Rattle.ann_key.proofs.Booleans.{left_false as either_left, right_false as either_right}
use Rattle.task_model.proofs.Askings.{askings_alike}

-- the entry notes something for task t
abbrev pub notes_for : ℕ → What → Bool
notes_for t (Note task chunk count) = task == t
notes_for t _ = false

-- ---- along the list

behind_so : {X : Type 0} (o : Option X) (behind : ℕ) (xs : List X) → (behind + length (cons_option o [])) + length xs ≡ behind + length (cons_option o xs)
behind_so None behind xs = omega arith
behind_so (Some x) behind xs = omega arith

pub notings_from-append : (j : List Entry) (t : ℕ) (past : List Entry) (behind : ℕ) (xs ys : List Entry)
    → notings_from j t past behind (xs ++ ys) ≡ notings_from j t past behind xs ++ notings_from j t (past ++ xs) (behind + length (askings_from j t past xs)) ys
notings_from-append j t past behind [] ys =
    let none : behind + 0 ≡ behind = omega arith in
    ap (λ (p : List Entry). notings_from j t p behind ys) (sym (append-nil past)) ∙ ap (λ (b : ℕ). notings_from j t (past ++ []) b ys) (sym none)
notings_from-append j t past behind (e ∷ xs) ys =
    let o = asking_of j t past e.what in
    let now : ℕ = behind + length (cons_option o []) in
    let rest = askings_from j t (past ++ e ∷ []) xs in
    let one = notings_from j t (past ++ e ∷ []) now xs in
    ap (cons_option (noting_of t behind e.what)) (
    notings_from-append j t (past ++ e ∷ []) now xs ys
    ∙ ap (λ (p : List Entry). one ++ notings_from j t p (now + length rest) ys) (append_assoc past (e ∷ []) xs)
    ∙ ap (λ (b : ℕ). one ++ notings_from j t (past ++ e ∷ xs) b ys) (behind_so o behind rest)
    )
    ∙ sym (cons_option-append (noting_of t behind e.what) one (notings_from j t (past ++ e ∷ xs) (behind + length (cons_option o rest)) ys))

unnoted : (t behind : ℕ) (w : What) → notes_for t w ≡ false → noting_of t behind w ≡ None
unnoted t behind (Note task chunk count) h = rw h refl
unnoted t behind w h = refl

pub notings_from-none : (j : List Entry) (t : ℕ) (past : List Entry) (behind : ℕ) (xs : List Entry) → any (notes_for t) xs ≡ false → notings_from j t past behind xs ≡ []
notings_from-none j t past behind [] h = refl
notings_from-none j t past behind (e ∷ xs) h =
    let now : ℕ = behind + length (cons_option (asking_of j t past e.what) []) in
    ap (λ (o : Option Noting). cons_option o (notings_from j t (past ++ e ∷ []) now xs)) (unnoted t behind e.what (either_left (notes_for t e.what) (any (notes_for t) xs) h))
    ∙ notings_from-none j t (past ++ e ∷ []) now xs (either_right (notes_for t e.what) (any (notes_for t) xs) h)

-- ---- the notes of a longer journal

-- those of a task that has no open job, and then what is noted later
pub notings-append : (past more : List Entry) (t : ℕ) → has_open_job past t ≡ false
    → notings (past ++ more) t ≡ notings past t ++ notings_from (past ++ more) t past (length (askings past t)) more
notings-append past more t shut =
    let verdicts = same_verdicts past more (each_of (job_for t) past) (all_asked t past) shut in
    let so_far : ℕ = length (askings_from (past ++ more) t [] past) in
    let all : 0 + so_far ≡ so_far = omega arith in
    notings_from-append (past ++ more) t [] 0 past more
    ∙ ap (λ (b : ℕ). notings_from (past ++ more) t [] 0 past ++ notings_from (past ++ more) t past b more) all
    ∙ ap (λ (xs : List Noting). xs ++ notings_from (past ++ more) t past (length (askings_from (past ++ more) t [] past)) more) (notings_alike (past ++ more) past t [] 0 past verdicts)
    ∙ ap (λ (xs : List Asking). notings past t ++ notings_from (past ++ more) t past (length xs) more) (askings_alike (past ++ more) past t [] past verdicts)

-- entries that note nothing for the task add nothing
pub notings-unnoted : (past more : List Entry) (t : ℕ) → has_open_job past t ≡ false → any (notes_for t) more ≡ false → notings (past ++ more) t ≡ notings past t
notings-unnoted past more t shut none =
    notings-append past more t shut
    ∙ ap (λ (xs : List Noting). notings past t ++ xs) (notings_from-none (past ++ more) t past (length (askings past t)) more none)
    ∙ append-nil (notings past t)

-- a note
pub notings-note : (past : List Entry) (t by chunk count : ℕ) → has_open_job past t ≡ false
    → notings (past ++ entry by (Note t chunk count) ∷ []) t
    ≡ notings past t ++ record { chunk = chunk; count = count; behind = length (askings past t) } ∷ []
notings-note past t by chunk count shut = notings-append past (entry by (Note t chunk count) ∷ []) t shut ∙ (rw (same t) refl)
