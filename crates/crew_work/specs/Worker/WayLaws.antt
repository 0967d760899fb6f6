-- What stays of a way to a child.
use Rattle.std.specs.Prelude.{◌≡◌, false, List, ◌++◌}
use Rattle.std.proofs.Common.{◌∙◌}
use Rattle.journal_model.specs.declared.entry.Entry.{Entry}
use Rattle.journal_model.specs.Halves.{EarValue, MouthValue}
use Rattle.journal_model.specs.Journal.{any}
use Rattle.journal_model.specs.Shares.{is_of_child}
use Rattle.child_link.specs.Moves.{IsSameLink}
use Rattle.child_link.specs.Writings.{LoneWired}
use Rattle.child_link.proofs.Writings.{lone_apart}

-- entries that aren't the child's leave its link wired, and its requests written
pub link_stays : (past more : List Entry) (e : EarValue) (m : MouthValue) → m.child ≡ e.child → any (is_of_child e.child) more ≡ false → LoneWired past e m → LoneWired (past ++ more) e m
link_stays past more e m one none w = lone_apart past more e m one none w

pub links_both : (e f g : EarValue) (m w v : MouthValue) → IsSameLink e f m w → IsSameLink f g w v → IsSameLink e g m v
links_both e f g m w v s r = ((r.0.0 ∙ s.0.0, r.0.1 ∙ s.0.1), (r.1.0 ∙ s.1.0, r.1.1 ∙ s.1.1))
