use Rattle.std.proofs.Common.{◌∙◌, ◌-◌, ◌≡◌, ℕ, ap, subst, drop, List}
use Rattle.std.specs.Prelude.{filter, slice_get}
use Rattle.journal_model.specs.declared.entry.Entry.{Entry}
use Rattle.journal_scan.specs.Looks.{is_written}
use Rattle.journal_look.proofs.Counting.{unsent_by_cursor}
use Rattle.journal_look.proofs.cursors.nth_from.Goals as goal

pub returns : goal.returns
returns c =
    c.nth_written.ensures
    ∙ ap (λ (l : List Entry). slice_get (filter (λ (e : Entry). is_written c.args.child e.what) l) (c.args.n - c.args.x.passed)) c.behind.ensures
    ∙ subst (λ (k : ℕ). slice_get (filter (λ (e : Entry). is_written k e.what) (drop c.args.x.from c.args.entries.now)) (c.args.n - c.args.x.passed) ≡ slice_get (filter (λ (e : Entry). is_written k e.what) c.args.entries.now) c.args.n)
    c.requires.child
    (unsent_by_cursor c.args.entries.now c.args.x c.args.n c.requires.at c.requires.few)
