use Rattle.std.proofs.Common.{refl, sym, ℕ, ◌∙◌, ap, subst, List, length}
use Rattle.journal_model.specs.Journal.{asked_jobs}
use Rattle.journal_scan.specs.Shown.{entry_shown}
use Rattle.journal_look.specs.declared.life.Life.{Life}
use Rattle.journal_look.specs.declared.jobs.Open.{Open}
use Rattle.journal_look.specs.Opens.{AreOpen}
use Rattle.journal_look.proofs.jobs.note.Goals as goal

pub returns : goal.returns
returns c past at are known = record {
  list = λ k. c.note_open-known.ensures k past (entry_shown c.args.entry) refl at (ap (λ (l : Life). l.asked) (c.in-Some.ensures past are) ∙ ap (λ (k : ℕ). length (asked_jobs past k)) c.jobs_child.ensures) (known.list c.if-not-jobs.false);
  told = λ k. c.tell.ensures past (entry_shown c.args.entry) refl (subst (λ (l : List Open). AreOpen past l) (sym c.as_slice.ensures.value) (known.list c.if-not-jobs.false)) (known.told c.if-not-jobs.false);
}
