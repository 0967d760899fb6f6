use Rattle.std.proofs.Common.{◌≡◌, ℕ, List, [], length, take, drop, refl, sym, ap}
use Rattle.std.specs.Prelude.{codes, Option, Some, None, unwrap_or, Ok}
use Rattle.ann_outside.specs.Files.{content}
use Rattle.ann_outside.specs.Played.{Does}
use Rattle.ann_outside.specs.PlayRows.{holding}
use Rattle.ann_outside.specs.declared.file_desk.Call.TheVariants.{Size, ReadAt}
use Rattle.ann_outside.proofs.laws.plays.Goals as goal
use Rattle.ann_key.proofs.Lists.{other_name}

-- another file isn't there, whatever this one holds
away : (bytes other : List ℕ) → (other ≡ codes "o" → ⊥) → content other (holding bytes) ≡ None
away bytes other d = rw (other_name (codes "o") other (λ e. d (sym e))) refl

stays : (one two other : List ℕ) → (other ≡ codes "o" → ⊥) → content other (holding two) ≡ content other (holding one)
stays one two other d = rw (other_name (codes "o") other (λ e. d (sym e))) refl

held : (one two : List ℕ) → Some one ≡ Some two → one ≡ two
held one two e = ap (λ (o : Option (List ℕ)). unwrap_or o one) e

sized : Does (Size (codes "o") (Ok 2)) (holding (codes "ab")) (holding (codes "ab"))
sized = (((λ e. absurd cc), λ bytes e. ap length (held (codes "ab") bytes e)), λ other. refl)

read : Does (ReadAt (codes "o") 1 (Ok (codes "b"))) (holding (codes "ab")) (holding (codes "ab"))
read = (((λ e. absurd cc), λ bytes e. (ap (λ (b : List ℕ). take 1 (drop 1 b)) (held (codes "ab") bytes e), λ none. absurd cc)), λ other. refl)

pub returns-clause-filled : goal.returns-clause-filled
returns-clause-filled c = (
  holding [],
  (refl, λ other d. away [] other d),
  (holding (codes "ab"), ((λ e. absurd cc), refl, λ other d. stays [] (codes "ab") other d), (holding (codes "ab"), sized, (holding (codes "ab"), read, λ other. refl))),
)

pub returns-clause-added : goal.returns-clause-added
returns-clause-added c = (holding (codes "abcd"), ((λ e. absurd cc), refl, λ other d. stays (codes "ab") (codes "abcd") other d), λ other. refl)

pub returns-clause-part : goal.returns-clause-part
returns-clause-part c = (holding (codes "abc"), ((1, refl), λ other d. stays (codes "ab") (codes "abc") other d), λ other. refl)

pub returns-clause-nothing : goal.returns-clause-nothing
returns-clause-nothing c = λ other. refl
