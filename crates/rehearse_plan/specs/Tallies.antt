-- How answers are counted.
use Rattle.std.specs.Prelude.{ℕ, Bool, true, false, List, [], ◌∷◌, ◌++◌, map, filter, length, codes, decimal}
use Rattle.std.specs.List.{concat}
use Rattle.journal_model.specs.declared.answer.Answer.{Answer}
use Rattle.journal_model.specs.declared.answer.Answer.TheVariants as A
use Rattle.rehearse_plan.specs.declared.tally.Word.{Word}
use Rattle.rehearse_plan.specs.declared.tally.Word.TheVariants.{Stored, Got, Present, Absent, Dropped, Failed, Other}

-- the word that an answer counts for
abbrev pub word_of : Answer → Word
word_of A.Stored = Stored
word_of A.Got = Got
word_of A.Present = Present
word_of A.Absent = Absent
word_of A.Dropped = Dropped
word_of (A.Failed at) = Failed
word_of answer = Other

abbrev pub is_same : Word → Word → Bool
is_same Stored Stored = true
is_same Got Got = true
is_same Present Present = true
is_same Absent Absent = true
is_same Dropped Dropped = true
is_same Failed Failed = true
is_same Other Other = true
is_same word _ = false

abbrev pub is_of : Word → Answer → Bool
is_of word answer = is_same word (word_of answer)

-- how many of the answers count for it
abbrev pub count_of : Word → List Answer → ℕ
count_of word answers = length (filter (is_of word) answers)

-- ---- what is printed

abbrev pub word_text : Word → List ℕ
word_text Stored = codes "stored"
word_text Got = codes "got"
word_text Present = codes "present"
word_text Absent = codes "absent"
word_text Dropped = codes "dropped"
word_text Failed = codes "failed"
word_text Other = codes "other"

-- the word, a space, its count, byte 10
abbrev pub count_line : List Answer → Word → List ℕ
count_line answers word = word_text word ++ 32 ∷ (decimal (count_of word answers) ++ 10 ∷ [])

-- the words, in the order of their lines
abbrev pub words : List Word
words = Stored ∷ Got ∷ Present ∷ Absent ∷ Dropped ∷ Failed ∷ Other ∷ []

abbrev pub count_lines : List Answer → List ℕ
count_lines answers = concat (map (count_line answers) words)
