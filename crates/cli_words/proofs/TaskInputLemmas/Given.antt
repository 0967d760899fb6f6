-- What a source gives piece by piece.
use Rattle.std.proofs.Common.{ℕ, List, [], ◌++◌, Option, Err}
use Rattle.std.proofs.KnownBytes.{Appends-nil, Appends-trans, Consumes-nil, Consumes-trans}
use Rattle.cli_words.specs.TaskInput.Reads.{HasGiven}
use Rattle.cli_words.specs.TaskInput.Steps.{Holds, IsStep}
use Rattle.cli_words.specs.declared.task_input.error.InputError.{InputError}
use Rattle.cli_words.specs.declared.task_input.error.InputError.TheVariants.{Refused, Failed, NoMemory}

-- nothing, kept by nothing
pub given_none : (given left : Option (List ℕ)) → HasGiven given given left left []
given_none given left = record { given_on = Appends-nil given; left_on = Consumes-nil left }

-- one piece after another
pub given_both : (g g' g'' l l' l'' : Option (List ℕ)) (x y : List ℕ) → HasGiven g g' l l' x → HasGiven g' g'' l' l'' y → HasGiven g g'' l l'' (x ++ y)
given_both g g' g'' l l' l'' x y p q =
    record { given_on = Appends-trans g g' g'' x y p.given_on q.given_on; left_on = Consumes-trans l l' l'' x y p.left_on q.left_on }

-- a step that fails leaves nothing held
pub step_fails : (old new piece all : List ℕ) (left : Option (List ℕ)) (limit : ℕ) (fault : InputError) → IsStep old new piece left (Err fault) → Holds limit all left (Err fault)
step_fails old new piece all left limit (Refused line reason) h = absurd h
step_fails old new piece all left limit Failed h = tt
step_fails old new piece all left limit NoMemory h = tt
