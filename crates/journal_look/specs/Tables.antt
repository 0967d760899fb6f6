-- What a journal keeps beside its entries is right.
use Rattle.std.specs.Prelude.{◌≡◌, ◌-◌, ◌<◌, List}
use Rattle.journal_model.specs.declared.entry.Entry.{Entry}
use Rattle.journal_model.specs.Limits.{most_line_bytes}
use Rattle.journal_model.specs.Journal.{bytes_in}
use Rattle.journal_look.specs.Holds.{AreHoldsKnown, AreUnclaimed}
use Rattle.journal_look.specs.Lives.{AreKnown}
use Rattle.journal_look.specs.Marks.{AreClaimed}
use Rattle.journal_look.specs.Opens.{AreJobsKnown}
use Rattle.journal_look.specs.Cursors.{AreAt}
use Rattle.journal_look.specs.Taken.{AreTaken}
use Rattle.journal_look.specs.declared.tables.Tables.{Tables}

pub record AreTabled (entries : List Entry) (tables : Tables) : Type 0 where
  pub left : tables.left ≡ most_line_bytes - bytes_in entries
  pub lives : AreKnown entries tables.lives
  pub holds : AreHoldsKnown entries tables.holds
  pub top : AreUnclaimed entries tables.top
  pub taken : AreTaken entries tables.taken.items
  pub jobs : AreJobsKnown entries tables.jobs
  pub cursors : AreAt entries tables.cursors.items
  pub some : 0 < tables.claimed
  pub claimed : AreClaimed entries tables.claimed
