-- The questions that wait for an answer follow the lines that came.
use Rattle.std.proofs.Common.{◌≡◌, ℕ, ◌+◌, ◌<◌, ◌≤◌, Bool, true, false, cond, zero, suc, List, [], ◌∷◌, ◌++◌, length, drop, Option, Some, None, refl, sym, ap, ◌∙◌, subst, arith, length-append}
use Rattle.std.specs.Prelude.{option_and_then, option_to_list, slice_get}
use Rattle.std.proofs.lemmas.List.{drop-append-le, drop-drop}
use Rattle.std.proofs.lemmas.Option.{slice_get_within}
use Rattle.plain_lines.specs.Words.Changes.{said_by_remote}
use Rattle.plain_lines.specs.Words.Questions.{Came, FromRemote, FromHost, question_of, asked, ends_answer, answered, Follows}
use Rattle.plain_lines.specs.declared.words.question.Question.{Question}

-- an element that is there stands within the list
within_some : (xs : List Question) (n : ℕ) (q : Question) → slice_get xs n ≡ Some q → n + 1 ≤ length xs
within_some xs n q is = let below : n < length xs = slice_get_within xs n q is in omega arith

counted_within : (xs : List Question) (n : ℕ) (line : List ℕ) → n ≤ length xs
    → (o : Option Question) → slice_get xs n ≡ o → (if_ends : Bool) → ends_answer o line ≡ if_ends → cond if_ends (n + 1) n ≤ length xs
counted_within xs n line few o is false ends = few
counted_within xs n line few (Some q) is true ends = within_some xs n q is
counted_within xs n line few None is true ends = cc

-- no more questions are answered than were asked
pub answered_within : (came : List Came) → answered came ≤ length (asked came)
answered_within [] = omega arith
answered_within (FromRemote line ∷ before) =
    let few = answered_within before in
    omega (arith, few, length-append (asked before) (option_to_list (option_and_then question_of (said_by_remote line))))
answered_within (FromHost line ∷ before) =
    counted_within (asked before) (answered before) line (answered_within before) (slice_get (asked before) (answered before)) refl
    (ends_answer (slice_get (asked before) (answered before)) line) refl

-- what is passed on of a line of the remote may be a question more
pub follows_remote : (waiting waiting' : List Question) (line said : List ℕ) (came : List Came) → Some said ≡ said_by_remote line
    → waiting' ≡ waiting ++ option_to_list (question_of said) → Follows waiting came
    → waiting' ≡ drop (answered came) (asked came ++ option_to_list (option_and_then question_of (said_by_remote line)))
follows_remote waiting waiting' line said came is grows follows =
    grows
    ∙ ap (λ (l : List Question). l ++ option_to_list (question_of said)) follows
    ∙ sym (drop-append-le (answered came) (asked came) (option_to_list (question_of said)) (answered_within came))
    ∙ ap (λ (o : Option (List ℕ)). drop (answered came) (asked came ++ option_to_list (option_and_then question_of o))) is

-- the first of those that are left
slice_get_drop : (xs : List Question) (n : ℕ) → slice_get (drop n xs) 0 ≡ slice_get xs n
slice_get_drop [] zero = refl
slice_get_drop [] (suc n) = refl
slice_get_drop (x ∷ xs) zero = refl
slice_get_drop (x ∷ xs) (suc n) = slice_get_drop xs n

settled : (xs : List Question) (n : ℕ) (ends : Bool) → cond ends (drop 1 (drop n xs)) (drop n xs) ≡ drop (cond ends (n + 1) n) xs
settled xs n true = drop-drop 1 n xs
settled xs n false = refl

-- a line of the host may end the answer to the oldest question
pub follows_host : (waiting waiting' : List Question) (oldest : Option Question) (line : List ℕ) (came : List Came) → oldest ≡ slice_get waiting 0
    → waiting' ≡ cond (ends_answer oldest line) (drop 1 waiting) waiting → Follows waiting came
    → waiting' ≡ drop (cond (ends_answer (slice_get (asked came) (answered came)) line) (answered came + 1) (answered came)) (asked came)
follows_host waiting waiting' oldest line came is settles follows =
    let first : oldest ≡ slice_get (asked came) (answered came) =
    is ∙ ap (λ (l : List Question). slice_get l 0) follows ∙ slice_get_drop (asked came) (answered came) in
    settles
    ∙ ap (λ (l : List Question). cond (ends_answer oldest line) (drop 1 l) l) follows
    ∙ settled (asked came) (answered came) (ends_answer oldest line)
    ∙ ap (λ (o : Option Question). drop (cond (ends_answer o line) (answered came + 1) (answered came)) (asked came)) first
