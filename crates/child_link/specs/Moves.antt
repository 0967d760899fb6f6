-- What each role did between two journals that it has seen.
use Rattle.std.specs.Prelude.{ℕ, ◌≡◌, Bool, true, List}
use Rattle.journal_model.specs.declared.entry.Entry.{Entry}
use Rattle.journal_model.specs.Wires.{is_heard_in_turn, may_hear}
use Rattle.journal_model.specs.Shares.{Moved, by_ear, by_mouth, by_link, by_asker, is_heard, is_said, is_of_child}
use Rattle.journal_model.specs.Halves.{EarValue, MouthValue, EarWired, MouthWired, LinkWired, IsSameEar, IsSameMouth}
use Rattle.child_link.specs.Asks.{IsWritten}
use Rattle.child_link.specs.Writings.{LoneWired}

-- where others left what is known of the child's output alone, the ear stays wired
abbrev pub EarMoved : ℕ → Bool → List Entry → List Entry → EarValue → EarValue → Type 0
EarMoved number alone old new ear ear' = Moved number alone (by_ear ear.child) (is_heard ear.child) old new (EarWired old ear) (EarWired new ear')

-- where others left the child alone, its lines stay in their turn
abbrev pub TurnMoved : ℕ → Bool → List Entry → List Entry → ℕ → Type 0
TurnMoved number alone old new c = Moved number alone (by_ear c) (is_of_child c) old new (is_heard_in_turn old c ≡ true) (is_heard_in_turn new c ≡ true)

-- the same of a line that is fed, where the child may be heard now
abbrev pub FeedMoved : ℕ → Bool → List Entry → List Entry → ℕ → Type 0
FeedMoved number alone old new c =
    Moved number alone (by_ear c) (is_of_child c) old new ((may_hear old c ≡ true) × (is_heard_in_turn old c ≡ true)) (is_heard_in_turn new c ≡ true)

-- where others left what is known of the child's input alone, the mouth stays wired
abbrev pub MouthMoved : ℕ → Bool → List Entry → List Entry → MouthValue → MouthValue → Type 0
MouthMoved number alone old new mouth mouth' = Moved number alone (by_mouth mouth.child) (is_said mouth.child) old new (MouthWired old mouth) (MouthWired new mouth')

-- where others left the child alone, the link stays wired
abbrev pub LinkMoved : ℕ → Bool → List Entry → List Entry → EarValue → EarValue → MouthValue → MouthValue → Type 0
LinkMoved number alone old new ear ear' mouth mouth' = Moved number alone (by_link ear.child) (is_of_child ear.child) old new (LinkWired old ear mouth) (LinkWired new ear' mouth')

-- and it stays so that requests are written before they are answered
abbrev pub LoneMoved : ℕ → Bool → List Entry → List Entry → EarValue → EarValue → MouthValue → MouthValue → Type 0
LoneMoved number alone old new ear ear' mouth mouth' = Moved number alone (by_link ear.child) (is_of_child ear.child) old new (LoneWired old ear mouth) (LoneWired new ear' mouth')

-- the same of a link that may ask too
abbrev pub AskMoved : ℕ → Bool → List Entry → List Entry → EarValue → EarValue → MouthValue → MouthValue → Type 0
AskMoved number alone old new ear ear' mouth mouth' = Moved number alone (by_asker ear.child) (is_of_child ear.child) old new (LoneWired old ear mouth) (LoneWired new ear' mouth')

-- as LoneMoved, where nothing is to be written to the child
abbrev pub LoneHears : ℕ → Bool → List Entry → List Entry → EarValue → EarValue → MouthValue → MouthValue → Type 0
LoneHears number alone old new ear ear' mouth mouth' =
    Moved number alone (by_link ear.child) (is_of_child ear.child) old new (LoneWired old ear mouth × IsWritten ear.child old) (LoneWired new ear' mouth')

-- both halves stay those of the child and of its start
abbrev pub IsSameLink : EarValue → EarValue → MouthValue → MouthValue → Type 0
IsSameLink ear ear' mouth mouth' = IsSameEar ear ear' × IsSameMouth mouth mouth'
