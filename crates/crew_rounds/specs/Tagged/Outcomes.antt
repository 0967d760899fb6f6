-- What holds by what came of a round.
use Rattle.std.specs.Prelude.{◌≡◌, List}
use Rattle.journal_model.specs.Halves.{EarValue, MouthValue}
use Rattle.crew_rounds.specs.declared.tagged.outcome.Outcome.{Outcome}
use Rattle.crew_rounds.specs.declared.tagged.outcome.Outcome.TheVariants.{Done, NoMemory, NoThreads}

-- where it is over
abbrev pub IfDone : Outcome → Type 0 → Type 0
IfDone Done P = P
IfDone NoMemory P = Unit {0}
IfDone (NoThreads refused) P = Unit {0}

-- where it didn't begin
abbrev pub IfKept : Outcome → Type 0 → Type 0
IfKept Done P = Unit {0}
IfKept NoMemory P = P
IfKept (NoThreads refused) P = P

-- the link and the desks are as before
abbrev pub LinkStays : {K : Type 0} → EarValue → EarValue → MouthValue → MouthValue → List K → List K → Type 0
LinkStays ear ear' mouth mouth' desks desks' = ((ear' ≡ ear) × (mouth' ≡ mouth)) × (desks' ≡ desks)
