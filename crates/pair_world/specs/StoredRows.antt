-- Worked answers, each with success: of STORE and RETRIEVE of one key, and of REMOVE.
use Rattle.std.specs.Prelude.{ℕ, List, [], ◌++◌, codes}
use Rattle.pair_kit.specs.declared.answer.Answer.{Answer}

abbrev answer : List ℕ → List ℕ → List ℕ → Answer
answer request line bytes = record { child = 1; request = request; line = line; bytes = bytes }

-- these bytes are stored under the key WORM--a
abbrev pub stored : List ℕ → Answer
stored bytes = answer (codes "TRANSFER STORE WORM--a from") (codes "TRANSFER-SUCCESS STORE WORM--a") bytes

-- and are retrieved
abbrev pub retrieved : List ℕ → Answer
retrieved bytes = answer (codes "TRANSFER RETRIEVE WORM--a to") (codes "TRANSFER-SUCCESS RETRIEVE WORM--a") bytes

abbrev pub removed : List ℕ → Answer
removed key = answer (codes "REMOVE " ++ key) (codes "REMOVE-SUCCESS " ++ key) []
