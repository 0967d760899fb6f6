-- The tables of a journal after one more entry.
use Rattle.std.proofs.Common.{sym, subst, ◌<◌, ◌≡◌, ◌∙◌, ◌-◌, Bool, List, [], ◌∷◌, ◌++◌}
use Rattle.journal_model.specs.declared.entry.Entry.{Entry}
use Rattle.journal_model.specs.Journal.{line_bytes}
use Rattle.journal_look.specs.Holds.{AreHoldsKnown, AreUnclaimed, top_after}
use Rattle.journal_look.specs.Lives.{AreKnown}
use Rattle.journal_look.specs.Marks.{AreClaimed}
use Rattle.journal_look.specs.declared.cursors.Cursor.{Cursor}
use Rattle.journal_look.specs.Cursors.{AreAt}
use Rattle.journal_look.specs.Opens.{AreJobsKnown}
use Rattle.journal_look.proofs.Counting.{cursors_more}
use Rattle.journal_look.specs.Tables.{AreTabled}
use Rattle.journal_look.specs.Taken.{AreTaken, taken_after}
use Rattle.journal_look.specs.declared.tables.Tables.{Tables}
use Rattle.journal_scan.proofs.Weighing.{left_more}
use Rattle.journal_look.proofs.Holding.{unclaimed_more}
use Rattle.journal_look.proofs.Taking.{taken_more}

pub noted : (past : List Entry) (e : Entry) (old new : Tables) → AreTabled past old → new.left ≡ old.left - line_bytes e.what → AreKnown (past ++ e ∷ []) new.lives
    → AreHoldsKnown (past ++ e ∷ []) new.holds → AreJobsKnown (past ++ e ∷ []) new.jobs → new.cursors.items ≡ old.cursors.items → new.taken.items ≡ taken_after e.what old.taken.items → new.top ≡ top_after e.what old.top → 0 < new.claimed → AreClaimed (past ++ e ∷ []) new.claimed
    → AreTabled (past ++ e ∷ []) new
noted past e old new are less lives holds jobs cursors taken top some claimed = record {
  left = less ∙ left_more past e old.left are.left;
  lives = lives;
  holds = holds;
  top = subst (AreUnclaimed (past ++ e ∷ [])) (sym top) (unclaimed_more past e old.top are.top);
  jobs = jobs;
  taken = subst (λ (l : List Bool). AreTaken (past ++ e ∷ []) l) (sym taken) (taken_more past e old.taken.items are.taken);
  cursors = subst (λ (l : List Cursor). AreAt (past ++ e ∷ []) l) (sym cursors) (cursors_more past e old.cursors.items are.cursors);
  some = some;
  claimed = claimed;
}
