use Rattle.std.proofs.Common.{◌≡◌, [], ◌∷◌, ◌++◌, refl, sym, ◌∙◌, true, false, ◌==◌, arith}
use Rattle.std.specs.Prelude.{codes}
use Rattle.journal_model.specs.declared.answer.Answer.TheVariants.{Present}
use Rattle.journal_model.specs.declared.entry.What.TheVariants.{Claim, Got, Answer as Answered}
use Rattle.run_children.specs.PostRows.{made_by, two_children, two_workers}
use Rattle.run_children.proofs.Unpaired.{posted_at, refused}
use Rattle.run_children.proofs.rows.unpaired_numbers.Goals as goal
use Rattle.std.proofs.lemmas.Bool.{eqb-true as same_number}
use Rattle.ann_key.proofs.Booleans.{or_false}

pub returns-clause-hears : goal.returns-clause-hears
returns-clause-hears f = λ h.
    refused two_workers 3 1 (Got 1 (codes "CHECKPRESENT-SUCCESS WORM--a")) (omega arith) refl (λ c. refl) (λ c k. same_number 1 c (sym (or_false (1 == c)) ∙ k)) refl refl
    (posted_at [] two_workers (made_by 3 (Got 1 (codes "CHECKPRESENT-SUCCESS WORM--a"))) [] h)

pub returns-clause-claims : goal.returns-clause-claims
returns-clause-claims f = λ h.
    refused (two_children ++ made_by 2 (Claim 1 1) ∷ []) 3 1 (Claim 2 1) (omega arith) refl (λ c. refl) (λ c k. same_number 1 c k) refl refl
    (posted_at [] (two_children ++ made_by 2 (Claim 1 1) ∷ []) (made_by 3 (Claim 2 1)) [] h)

pub returns-clause-both : goal.returns-clause-both
returns-clause-both f = λ h.
    refused (two_children ++ made_by 2 (Claim 1 1) ∷ []) 2 2 (Claim 2 2) (omega arith) refl (λ c. refl) (λ c k. same_number 2 c k) refl refl
    (posted_at [] (two_children ++ made_by 2 (Claim 1 1) ∷ []) (made_by 2 (Claim 2 2)) [] h)

pub returns-clause-none : goal.returns-clause-none
returns-clause-none f = λ h.
    let over = posted_at [] [] (made_by 2 (Answered 1 Present)) [] h (omega arith) in
    let bad : false ≡ true = over.1.started in
    cc
