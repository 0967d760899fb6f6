use Rattle.std.proofs.Common.{◌≡◌, refl, ap, Bool, true, false, bytes_eq}
use Rattle.std.specs.Prelude.{codes}
use Rattle.std.specs.Fmt.{digits}
use Rattle.journal_model.specs.declared.entry.What.{What}
use Rattle.journal_model.specs.declared.entry.What.TheVariants.{Put}
use Rattle.journal_model.specs.declared.entry.Entry.{Entry}
use Rattle.journal_model.specs.Rows.{by_main}
use Rattle.journal_model.proofs.reply_laws.refused_apart.Goals as goal

abbrev has_tag_2 : What → Bool
has_tag_2 (Put c j line) = bytes_eq line (codes "J 2 VALUE 2")
has_tag_2 w = false

other_tag_differs : by_main (Put 1 3 (codes "J 2 VALUE 2")) ≡ by_main (Put 1 3 (codes "J 3 VALUE 2")) → ⊥
other_tag_differs e = let bad : true ≡ false = ap (λ (x : Entry). has_tag_2 x.what) e in cc

pub returns-clause-other_tag : goal.returns-clause-other_tag
unfolding digits
returns-clause-other_tag c = record { there = refl; before = (refl, (refl, (refl, (refl, (refl, (refl, (refl, (refl, (refl, (refl, (refl, (refl, (refl, (refl, (refl, (refl, tt)))))))))))))))); wrong = λ e. other_tag_differs e }

other_job_differs : by_main (Put 1 2 (codes "J 2 VALUE 2")) ≡ by_main (Put 1 3 (codes "J 3 VALUE 2")) → ⊥
other_job_differs e = let bad : (Put 1 2 (codes "J 2 VALUE 2")) ≡ Put 1 3 (codes "J 3 VALUE 2") = ap (λ (x : Entry). x.what) e in cc

pub returns-clause-other_job : goal.returns-clause-other_job
unfolding digits
returns-clause-other_job c = record { there = refl; before = (refl, (refl, (refl, (refl, (refl, (refl, (refl, (refl, (refl, (refl, (refl, (refl, (refl, (refl, (refl, (refl, tt)))))))))))))))); wrong = λ e. other_job_differs e }

no_tag_differs : by_main (Put 1 3 (codes "VALUE 2")) ≡ by_main (Put 1 3 (codes "J 3 VALUE 2")) → ⊥
no_tag_differs e = let bad : (Put 1 3 (codes "VALUE 2")) ≡ Put 1 3 (codes "J 3 VALUE 2") = ap (λ (x : Entry). x.what) e in cc

pub returns-clause-no_tag : goal.returns-clause-no_tag
unfolding digits
returns-clause-no_tag c = record { there = refl; before = (refl, (refl, (refl, (refl, (refl, (refl, (refl, (refl, (refl, (refl, (refl, (refl, (refl, (refl, (refl, (refl, tt)))))))))))))))); wrong = λ e. no_tag_differs e }
