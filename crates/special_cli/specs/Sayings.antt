-- What is to be said, and how it is written.
use Rattle.std.specs.Prelude.{ℕ, ◌≡◌, List, Result, IfOk}
use Rattle.ann_key.specs.declared.bytes.NoMemory.{NoMemory}
use Rattle.journal_model.specs.declared.answer.Answer.{Answer}
use Rattle.journal_model.specs.declared.entry.Entry.{Entry}
use Rattle.special_cli.specs.declared.end.End.{End}
use Rattle.special_cli.specs.declared.saying.Words.{Words}
use Rattle.special_cli.specs.declared.saying.Words.TheVariants.{Fixed, Made}
use Rattle.special_cli.specs.declared.saying.Saying.{Saying}
use Rattle.special_cli.specs.declared.saying.Saying.TheVariants.{OnOut, OnErr, OnBoth}
use Rattle.special_cli.specs.Tells.{Flow, IsSaid, IsSaidThen, IsPrintedOr, IsWarnedOr, IsSaidThenOr, IsEndTold}

abbrev pub text_in : Words → List ℕ
text_in (Fixed text) = text.now
text_in (Made text) = text

-- with this status it was said, and this was written to out and err
abbrev pub IsSaidBy : Saying → ℕ → Flow → Flow → Type 0
IsSaidBy (OnOut words wanted) status out err = IsSaid wanted (text_in words) status out err
IsSaidBy (OnErr words wanted) status out err = IsSaid wanted (text_in words) status err out
IsSaidBy (OnBoth first second wanted) status out err = IsSaidThen wanted (text_in first) second.now status out err

-- however it is said, this holds of the status and of what was written
abbrev pub Says : Saying → (ℕ → Flow → Flow → Type 0) → Type 0
Says saying P = (status : ℕ) (out err : Flow) → IsSaidBy saying status out err → P status out err

-- of a text that was to be these bytes, if memory was found for it: it is printed to out, or to err, or to out before another to err
abbrev pub Prints : Result (List ℕ) NoMemory → ℕ → Saying → Type 0
Prints made wanted saying = (text : List ℕ) → IfOk made (λ m. m ≡ text) → Says saying (IsPrintedOr wanted text)

abbrev pub Warns : Result (List ℕ) NoMemory → ℕ → Saying → Type 0
Warns made wanted saying = (text : List ℕ) → IfOk made (λ m. m ≡ text) → Says saying (IsWarnedOr wanted text)

abbrev pub PrintsThen : Result (List ℕ) NoMemory → List ℕ → ℕ → Saying → Type 0
PrintsThen made cause wanted saying = (text : List ℕ) → IfOk made (λ m. m ≡ text) → Says saying (IsSaidThenOr wanted text cause)

-- however it is said, the end is told by it
abbrev pub SaysEnd : List Entry → List Answer → End → Saying → Type 0
SaysEnd journal answers end saying = Says saying (λ (status : ℕ) (out err : Flow). IsEndTold journal answers status out err end)
