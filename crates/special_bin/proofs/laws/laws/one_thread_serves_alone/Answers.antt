use Rattle.std.proofs.Common.{◌∙◌, refl}
use Rattle.special_bin.proofs.LawsLemmas.Mains.{alone}
use Rattle.special_bin.proofs.laws.laws.one_thread_serves_alone.Goals as goal

pub returns-clause-check : goal.returns-clause-check
returns-clause-check c = λ told key journal n h. alone journal n (h.ran.alone refl)

pub returns-clause-info : goal.returns-clause-info
returns-clause-info c = λ key journal n h. alone journal n h.run.main

pub returns-clause-init : goal.returns-clause-init
returns-clause-init c = λ journal n h. alone journal n h.main

pub returns-clause-run : goal.returns-clause-run
returns-clause-run c = λ words clock told input workers journal n h one. alone journal n (h.ran.alone (h.many.0 ∙ one))

pub returns-clause-untagged : goal.returns-clause-untagged
returns-clause-untagged c = λ journal n h. rw h refl
