-- The main thread's pass, where it ended the child.
use Rattle.std.proofs.Common.{◌≡◌, ℕ, ◌<◌, List, [], ◌∷◌, refl, sym, ap, subst, ◌∙◌, true, false, inl, inr, length, drop}
use Rattle.std.specs.Prelude.{map}
use Rattle.std.specs.List.{list_all}
use Rattle.threads.specs.Passes.{seen_of}
use Rattle.journal_model.specs.declared.verdict.Why.TheVariants.{Memory}
use Rattle.journal_model.specs.declared.verdict.Verdict.TheVariants.{Ended}
use Rattle.journal_model.specs.declared.entry.What.TheVariants.{End, Verdict as Settled}
use Rattle.journal_model.specs.declared.entry.Entry.{Entry}
use Rattle.journal_model.specs.declared.opening.Opening.{Opening}
use Rattle.journal_model.specs.Due.{ended_jobs}
use Rattle.journal_model.specs.Journal.{open_jobs}
use Rattle.journal_model.specs.Shares.{Moved, makes_only}
use Rattle.crew_work.specs.Laws.Posts.{Post, Ender, gives_up, makes}
use Rattle.crew_work.specs.Laws.Rounds.{CorePass, KeepsPost, since}
use Rattle.crew_work.proofs.LawsLemmas.Halls.{drop_start}
use Rattle.crew_work.proofs.LawsLemmas.Rounding.{unclaiming_holds, unclaiming_only, claim_not_end as claim_not_given_up}
use Rattle.child_link.specs.Doors.{Ends}
use Rattle.child_link.proofs.Roles.{moved_by, moved_on}
use Rattle.ann_key.proofs.Numbers.{same_number as same}

verdicts_given_up : (c : ℕ) (jobs : List ℕ) → list_all (gives_up c) (map (λ j. Settled c j (Ended Memory)) jobs) ≡ true
verdicts_given_up c [] = refl
verdicts_given_up c (j ∷ jobs) = rw (same c, verdicts_given_up c jobs) refl

end_given_up : (past : List Entry) (c : ℕ) → list_all (gives_up c) (End c Memory ∷ ended_jobs past c Memory) ≡ true
end_given_up past c = rw (same c, verdicts_given_up c (open_jobs past c)) refl

-- it ended the child or found it ended
gave_up : {o : Opening} {n c : ℕ} {old new : List Entry} → Ends o n false old new c Memory → Moved n false (gives_up c) (gives_up c) old new (Unit {0}) (Unit {0})
gave_up {c = c} (inl s) = moved_by s (end_given_up s.past c) (λ none u. tt)
gave_up (inr s) = moved_on s.0 (λ none u. tt)

-- so it keeps the post of who may end the child
pub ender_keeps : (o : Opening) (crew : ℕ → Post) (c : ℕ) (q : CorePass) → 0 < q.number → crew q.number ≡ Ender c → Ends o q.number false q.start (seen_of q) c Memory → KeepsPost crew q
ender_keeps o crew c q pos post ends = record {
  number = pos;
  only = only;
  holds = unclaiming_holds q (unclaiming_only crew q only (λ u w k. subst (λ (p : Post). makes p w ≡ false) (sym post) (claim_not_given_up c u w k)));
}
  where
    m : Moved q.number false (gives_up c) (gives_up c) q.start (seen_of q) (Unit {0}) (Unit {0})
    m = gave_up ends

    new_is : since q ≡ m.more
    new_is = ap (λ (x : List Entry). drop (length q.start) x) m.is ∙ drop_start q.start m.more

    only : makes_only (makes (crew q.number)) q.number (since q) ≡ true
    only = subst (λ (x : List Entry). makes_only (makes (crew q.number)) q.number x ≡ true) (sym new_is)
        (subst (λ (p : Post). makes_only (makes p) q.number m.more ≡ true) (sym post) m.own)
