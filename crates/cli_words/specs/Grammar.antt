-- The options of `run`.
use Rattle.std.specs.Prelude.{ℕ, true, false, Bool, List, [], ◌∷◌, Some, codes, unwrap_or}
use Rattle.clap.specs.Walk.{Rule, Row, first_of}
use Rattle.clap.specs.Kinds.{Kinds}
use Rattle.clap.specs.Simple.{App, new_rule, new_shape}

-- an option with a value, which must be given; or may be; or is this one where it isn't
abbrev pub optional : List ℕ → Rule
optional name = record (new_rule name) { long = Some name }

abbrev pub needed : List ℕ → Rule
needed name = record (optional name) { required = true }

abbrev pub with_value : List ℕ → List ℕ → Rule
with_value name value = record (optional name) { defaults = value ∷ [] }

abbrev pub run_options : List Rule
run_options =
    needed (codes "program")
    ∷ needed (codes "uuid")
    ∷ with_value (codes "jobs") (codes "4")
    ∷ with_value (codes "chunk") (codes "0")
    ∷ with_value (codes "name") (codes "remote")
    ∷ with_value (codes "gitdir") (codes ".git")
    ∷ optional (codes "keep")
    ∷ optional (codes "journal")
    ∷ with_value (codes "work") (codes ".")
    ∷ with_value (codes "starts") (codes "3")
    ∷ with_value (codes "again") (codes "0")
    ∷ []

-- a command with these options, and with nothing else
abbrev pub run_grammar : App
run_grammar = record { top = record (new_shape (codes "run")) { rules = run_options }; subs = [] }

-- the parse of the words ends with an error of no kind: it takes them, where there is memory
abbrev pub is_without : Kinds → Bool
is_without [] = true
is_without (kind ∷ kinds) = false

-- the value that a parse found for an option, empty where there is none
abbrev pub value_at : List Row → List ℕ → List ℕ
value_at rows name = unwrap_or (first_of name rows) []
