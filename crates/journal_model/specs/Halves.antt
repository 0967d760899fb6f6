-- A wire in two halves, as values that tell: what is known of a child's output, what of its input, and how each stands to the
-- journal.
use Rattle.std.specs.Prelude.{ℕ, ◌≡◌, ◌≤◌, ◌<◌, true, List, [], length, filter, Option, Some, IfSome}
use Rattle.journal_model.specs.declared.verdict.Why.TheVariants.{Eof, ReadFault}
use Rattle.annex_model.specs.Lines.{Cut}
use Rattle.journal_model.specs.declared.entry.Entry.{Entry}
use Rattle.journal_model.specs.Journal.{each_of, writes, sends, is_mute, why_of, got_lines}
use Rattle.journal_model.specs.Wires.{RestFits, Took, are_short, IsLittle, is_heard_in_turn}

-- the child, what its outlet gave and has left, how often reading failed, the number of its start, and what was read and not fed
pub record EarValue : Type 0 where
  pub child : ℕ
  pub given : Option (List ℕ)
  pub left : Option (List ℕ)
  pub faults : ℕ
  pub number : Option ℕ
  pub held : List ℕ

-- the child, what its inlet took, how often writing failed, and the number of its start
pub record MouthValue : Type 0 where
  pub child : ℕ
  pub taken : Option (List ℕ)
  pub faults : ℕ
  pub number : Option ℕ

-- What was read is the lines got from the child and then what is held. No line is longer than it may be, and little is held. No
-- end comes without its cause.
pub record EarWired (journal : List Entry) (ear : EarValue) : Type 0 where
  pub heard : IfSome ear.given (λ read. Cut read (got_lines journal ear.child) ear.held)
  pub short : are_short (got_lines journal ear.child) ≡ true
  pub little : IsLittle ear.held
  pub ended : IfSome (why_of journal ear.child) (λ why. RestFits why ear.held)
  pub eof : why_of journal ear.child ≡ Some Eof → IfSome ear.left (λ bytes. bytes ≡ [])
  pub fault : why_of journal ear.child ≡ Some ReadFault → 0 < ear.faults

-- What was taken is the lines that were sent, and after an end or a mute the first bytes of the next. No mute comes without
-- its cause.
pub record MouthWired (journal : List Entry) (mouth : MouthValue) : Type 0 where
  pub covered : length (filter (λ e. sends mouth.child e.what) journal) ≤ length (each_of (writes mouth.child) journal)
  pub took : IfSome mouth.taken (Took journal mouth.child)
  pub fault : is_mute journal mouth.child ≡ true → 0 < mouth.faults

-- both halves of a link are wired, and each line was fed in its turn
pub record LinkWired (journal : List Entry) (e : EarValue) (m : MouthValue) : Type 0 where
  pub ear : EarWired journal e
  pub mouth : MouthWired journal m
  pub turn : is_heard_in_turn journal e.child ≡ true

-- the same child, by the same start
abbrev pub IsSameEar : EarValue → EarValue → Type 0
IsSameEar old new = (new.child ≡ old.child) × (new.number ≡ old.number)

abbrev pub IsSameMouth : MouthValue → MouthValue → Type 0
IsSameMouth old new = (new.child ≡ old.child) × (new.number ≡ old.number)
