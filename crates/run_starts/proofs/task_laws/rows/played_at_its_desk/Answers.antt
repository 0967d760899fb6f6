use Rattle.std.proofs.Common.{◌≡◌, ◌∙◌, ℕ, List, [], ◌∷◌, length, take, drop, refl, sym, ap}
use Rattle.std.specs.Prelude.{codes, bytes_eq, true, false, Option, Some, None, unwrap_or, Ok}
use Rattle.ann_outside.specs.Files.{Files, content}
use Rattle.ann_outside.specs.Played.{Does}
use Rattle.ann_outside.specs.declared.file_desk.Call.TheVariants.{Size, ReadAt}
use Rattle.task_model.specs.Rows.{fetched_2_1, got_hi}
use Rattle.run_starts.proofs.TaskLawsLemmas.FileHolds.{renamed_holds}
use Rattle.run_starts.proofs.task_laws.rows.played_at_its_desk.Goals as goal
use Rattle.ann_key.proofs.Booleans.{false_is_true as apart}
use Rattle.ann_key.proofs.Lists.{other_name}

abbrev part : List ℕ
part = codes "o.part"

abbrev before : Files
before = (fetched_2_1, codes "hi") ∷ []

-- after the create, the append, the removal and the renaming
abbrev made : Files
made = (codes "o.part", []) ∷ (fetched_2_1, codes "hi") ∷ []

abbrev filled : Files
filled = (codes "o.part", codes "hi") ∷ (fetched_2_1, codes "hi") ∷ []

abbrev moved : Files
moved = (codes "o.part", codes "hi") ∷ []

abbrev named : Files
named = (codes "o", codes "hi") ∷ []

away : (name other : List ℕ) → (other ≡ name → ⊥) → bytes_eq name other ≡ false
away name other d = other_name name other (λ e. d (sym e))

-- what the fetched file holds
held : (bytes : List ℕ) → Some (codes "hi") ≡ Some bytes → codes "hi" ≡ bytes
held bytes e = ap (λ (o : Option (List ℕ)). unwrap_or o []) e

found : (files : Files) → content fetched_2_1 files ≡ Some (codes "hi") → Does (Size fetched_2_1 (Ok 2)) files files
found files is = (((λ e. absurd (let k : None ≡ Some (codes "hi") = sym e ∙ is in cc)), λ bytes e. ap length (held bytes (sym is ∙ e))), λ other. refl)

read : (files : Files) → content fetched_2_1 files ≡ Some (codes "hi") → Does (ReadAt fetched_2_1 0 (Ok (codes "hi"))) files files
read files is = (
  ((λ e. absurd (let k : None ≡ Some (codes "hi") = sym e ∙ is in cc)), λ bytes e. (ap (λ (b : List ℕ). take 2 (drop 0 b)) (held bytes (sym is ∙ e)), λ none. absurd cc)),
  λ other. refl,
)

pub returns-clause-hi : goal.returns-clause-hi
returns-clause-hi c = (
  before,
  found before refl,
  (
    made,
    (refl, λ other d. rw (away part other d) refl),
    (
      made,
      read made refl,
      (
        filled,
        ((λ e. absurd cc), refl, λ other d. rw (away part other d) refl),
        (
          moved,
          ((λ e. absurd cc), refl, λ other d. rw (away fetched_2_1 other d) refl),
          (named, ((λ e. absurd cc), refl, (λ d. refl), λ other d e. rw (away part other d, away (codes "o") other e) refl), λ other. refl),
        ),
      ),
    ),
  ),
)

pub returns-clause-ho : goal.returns-clause-ho
returns-clause-ho c = λ played.
    let is : Some (codes "ho") ≡ Some (codes "hi") =
    renamed_holds (codes "o.part") (codes "o.part") (codes "o") (codes "hi") got_hi ((fetched_2_1, codes "hi") ∷ []) ((codes "o", codes "ho") ∷ []) (refl, (refl, (refl, (refl, (refl, (refl, tt)))))) played refl refl in
    apart (ap (λ (o : Option (List ℕ)). bytes_eq (unwrap_or o []) (codes "hi")) is)
