-- What the settings of a mirror ask for.
use Rattle.std.specs.Prelude.{ℕ, ◌≡◌, ◌+◌, ◌==◌, ◌&&◌, not, Bool, true, false, if◌then◌else◌, List, [], ◌∷◌, fold, take, Option, Some, None, codes}
use Rattle.std.specs.List.{list_all, list_any, before_first, after_first, slice_split}
use Rattle.std.specs.Str.{is_utf8}
use Rattle.annex_model.specs.Messages.{is_space}
use Rattle.registers.specs.Registers.{RegisterFile, nothing_set, with_config, is_line, is_word}
use Rattle.mirror_children.specs.declared.plan.plan.Plan.{Plan}

-- the names of the settings
abbrev pub names : List (List ℕ)
names =
    codes "mirror1" ∷ codes "mirror2" ∷ codes "mirror3" ∷ codes "mirror4" ∷
    codes "mirror5" ∷ codes "mirror6" ∷ codes "mirror7" ∷ codes "mirror8" ∷ []

-- ---- one value

abbrev pub is_nil : {X : Type 0} → List X → Bool
is_nil [] = true
is_nil (x ∷ xs) = false

abbrev pub is_equals : ℕ → Bool
is_equals b = b == 61

-- a name that isn't empty and holds no space, and a value, neither with a line's end
abbrev pub is_pair : List ℕ → List ℕ → Bool
is_pair name value = not (is_nil name) && (is_word name && is_line value)

-- NAME=VALUE: the name ends at the first `=`
abbrev pub spells_pair : List ℕ → Bool
spells_pair word = list_any is_equals word && is_pair (before_first is_equals word) (after_first is_equals word)

-- the word passes the test, and these are its name and its value
abbrev pub IsParted : (List ℕ → Bool) → List ℕ → List ℕ → List ℕ → Type 0
IsParted test word name value = (test word ≡ true) × (name ≡ before_first is_equals word) × (value ≡ after_first is_equals word)

-- the config value of this name is set
abbrev pub set_pair : RegisterFile → List ℕ → RegisterFile
set_pair r word = with_config r (before_first is_equals word) (after_first is_equals word)

abbrev pub first_or_nil : List (List ℕ) → List ℕ
first_or_nil [] = []
first_or_nil (word ∷ more) = word

abbrev pub later : List (List ℕ) → List (List ℕ)
later [] = []
later (word ∷ more) = more

-- The words of a value. Each single space parts two, so two spaces have an empty word between them.
abbrev pub words : List ℕ → List (List ℕ)
words value = slice_split is_space value

-- a program, and any number of NAME=VALUE
abbrev pub are_plan : List (List ℕ) → Bool
are_plan ws = not (is_nil (first_or_nil ws)) && list_all spells_pair (later ws)

abbrev pub spells_plan : List ℕ → Bool
spells_plan value = is_utf8 value && are_plan (words value)

-- the setting of this number asks for the program of these words, whose remote has their config values; of two of one name the later one
-- counts
abbrev pub plan_of : ℕ → List (List ℕ) → Plan
plan_of n ws = record { number = n; program = first_or_nil ws; registers = fold set_pair nothing_set (later ws) }

abbrev pub plan_at : ℕ → List ℕ → Plan
plan_at n value = plan_of n (words value)

-- ---- all values

abbrev pub is_bad : List ℕ → Bool
is_bad value = not (is_nil value) && not (spells_plan value)

abbrev pub bad_from : ℕ → List (List ℕ) → Option ℕ
bad_from n [] = None
bad_from n (value ∷ values) = if is_bad value then Some n else bad_from (n + 1) values

-- the first setting whose value is neither empty nor a plan
abbrev pub first_bad : List (List ℕ) → Option ℕ
first_bad values = bad_from 1 (take 8 values)

abbrev pub plans_from : ℕ → List (List ℕ) → List Plan
plans_from n [] = []
plans_from n (value ∷ values) = if is_nil value then plans_from (n + 1) values else plan_at n value ∷ plans_from (n + 1) values

-- What the values ask for, one plan for each that isn't empty. Those after the eighth are passed over, and one that is missing counts as
-- empty.
abbrev pub plans_in : List (List ℕ) → List Plan
plans_in values = plans_from 1 (take 8 values)
