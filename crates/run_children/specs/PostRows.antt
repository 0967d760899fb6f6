-- Worked rows: what numbers make over children that take no tags. The children's greetings are left out.
use Rattle.std.specs.Prelude.{ℕ, false, List, [], ◌∷◌, ◌++◌, codes}
use Rattle.journal_model.specs.declared.verdict.Why.TheVariants.{Closed}
use Rattle.journal_model.specs.declared.answer.Answer.TheVariants.{Present}
use Rattle.journal_model.specs.declared.entry.What.{What}
use Rattle.journal_model.specs.declared.entry.What.TheVariants.{Claim, Start, Ask, Got, End, Answer as Answered}
use Rattle.journal_model.specs.declared.entry.Entry.{Entry}

abbrev pub made_by : ℕ → What → Entry
made_by n w = record { by = n; what = w }

abbrev pub two_children : List Entry
two_children = made_by 0 (Start 1 0 false) ∷ made_by 0 (Start 2 1 false) ∷ []

-- number 2 has child 1, number 3 has child 2
abbrev pub two_workers : List Entry
two_workers =
    two_children
    ++ made_by 2 (Claim 1 1)
    ∷ made_by 3 (Claim 2 2)
    ∷ made_by 3 (Ask 2 2 2 (codes "CHECKPRESENT WORM--b"))
    ∷ made_by 2 (Ask 1 2 1 (codes "CHECKPRESENT WORM--a"))
    ∷ []

-- the children are closed, and number 2 has the next one
abbrev pub then_another : List Entry
then_another =
    two_workers
    ++ made_by 3 (Got 2 (codes "CHECKPRESENT-SUCCESS WORM--b"))
    ∷ made_by 3 (Answered 2 Present)
    ∷ made_by 0 (End 1 Closed)
    ∷ made_by 0 (End 2 Closed)
    ∷ made_by 0 (Start 3 0 false)
    ∷ made_by 2 (Claim 3 3)
    ∷ []

-- ---- what is refused

-- number 3 hears the child that number 2 has
abbrev pub other_hears : List Entry
other_hears = two_workers ++ made_by 3 (Got 1 (codes "CHECKPRESENT-SUCCESS WORM--a")) ∷ []

-- it claims a task for it
abbrev pub other_claims : List Entry
other_claims = two_children ++ made_by 2 (Claim 1 1) ∷ made_by 3 (Claim 2 1) ∷ []

-- number 2 has both children
abbrev pub has_both : List Entry
has_both = two_children ++ made_by 2 (Claim 1 1) ∷ made_by 2 (Claim 2 2) ∷ []

-- a number answers a task where no child was started
abbrev pub has_none : List Entry
has_none = made_by 2 (Answered 1 Present) ∷ []
