use Rattle.std.proofs.Common.{ap, ◌∙◌, List}
use Rattle.child_link.proofs.Solo.{still_alone}
use Rattle.journal_model.specs.Journal.{why_of}
use Rattle.journal_model.specs.declared.entry.Entry.{Entry}
use Rattle.child_link.proofs.lone.Lone.why_ended_alone.Goals as goal

pub returns-clause-why : goal.returns-clause-why
returns-clause-why g c = c.why_ended.ensures.why ∙ ap (λ (j : List Entry). why_of j c.args.self.now.ear.child) (still_alone c.requires.alone c.why_ended.ensures.passed)

pub returns-clause-seen : goal.returns-clause-seen
returns-clause-seen g c = still_alone c.requires.alone c.why_ended.ensures.passed
