-- What a role did with its pass, or that it stayed, gives what is promised of it.
use Rattle.std.proofs.Common.{◌≡◌, ℕ, ◌<◌, List, [], ◌++◌, refl, sym, ap, subst, ◌∙◌, true, false, length, drop, append-nil}
use Rattle.std.specs.List.{list_any}
use Rattle.threads.specs.Log.{flat}
use Rattle.threads.specs.Passes.{seen_of}
use Rattle.journal_model.specs.declared.entry.Entry.{Entry}
use Rattle.journal_model.specs.declared.opening.Opening.{Opening}
use Rattle.journal_model.specs.Halves.{EarValue, MouthValue, EarWired, MouthWired}
use Rattle.journal_model.specs.Shares.{Moved, are_own, makes_only, by_ear, by_mouth, is_heard, is_said}
use Rattle.journal_model.specs.Makers.{is_taken_by}
use Rattle.crew_work.specs.Laws.Posts.{Post, Ear, Mouth, makes}
use Rattle.crew_work.specs.Laws.Rounds.{CorePass, LinkValue, IsWired, since, KeepsPost, EarEnds, MouthEnds, WorkerEnds, LoneEnds}
use Rattle.crew_work.proofs.LawsLemmas.Halls.{drop_start}
use Rattle.crew_work.specs.Laws.Tasks.{takes_turn}
use Rattle.crew_work.proofs.LawsLemmas.Renewing.{renews_by}
use Rattle.crew_work.proofs.LawsLemmas.Rounding.{unclaiming_only, unclaiming_holds, claim_not_heard, claim_not_said}
use Rattle.ann_key.proofs.Booleans.{true_and_false as true_not_false}

-- what a pass has seen since the begin, where what it has seen is told as the start and more
pub since_is : (p : CorePass) (more : List Entry) → seen_of p ≡ p.start ++ more → since p ≡ more
since_is p more is = ap (λ (x : List Entry). drop (length p.start) x) is ∙ drop_start p.start more

pub ear_ends : (crew : ℕ → Post) (p : CorePass) (old new : EarValue) → 0 < p.number → new.child ≡ old.child → crew p.number ≡ Ear old.child
    → Moved p.number false (by_ear old.child) (is_heard old.child) p.start (seen_of p) (EarWired p.start old) (EarWired (seen_of p) new)
    → EarWired p.start old → EarEnds crew new p
ear_ends crew p old new pos child post m wired = record {
  keeps = record {
    number = pos;
    only = only;
    holds = unclaiming_holds p (unclaiming_only crew p only (λ u w k. subst (λ (q : Post). makes q w ≡ false) (sym post) (claim_not_heard old.child u w k)));
  };
  wired = λ own. m.kept
      (subst (λ (x : List Entry). are_own (is_heard old.child) p.number x ≡ true) new_is (subst (λ (c : ℕ). are_own (is_heard c) p.number (since p) ≡ true) child own)) wired;
}
  where
    new_is : since p ≡ m.more
    new_is = since_is p m.more m.is

    only : makes_only (makes (crew p.number)) p.number (since p) ≡ true
    only = subst (λ (x : List Entry). makes_only (makes (crew p.number)) p.number x ≡ true) (sym new_is)
        (subst (λ (q : Post). makes_only (makes q) p.number m.more ≡ true) (sym post) m.own)

pub mouth_ends : (crew : ℕ → Post) (p : CorePass) (old new : MouthValue) → 0 < p.number → new.child ≡ old.child → crew p.number ≡ Mouth old.child
    → Moved p.number false (by_mouth old.child) (is_said old.child) p.start (seen_of p) (MouthWired p.start old) (MouthWired (seen_of p) new)
    → MouthWired p.start old → MouthEnds crew new p
mouth_ends crew p old new pos child post m wired = record {
  keeps = record {
    number = pos;
    only = only;
    holds = unclaiming_holds p (unclaiming_only crew p only (λ u w k. subst (λ (q : Post). makes q w ≡ false) (sym post) (claim_not_said old.child u w k)));
  };
  wired = λ own. m.kept
      (subst (λ (x : List Entry). are_own (is_said old.child) p.number x ≡ true) new_is (subst (λ (c : ℕ). are_own (is_said c) p.number (since p) ≡ true) child own)) wired;
}
  where
    new_is : since p ≡ m.more
    new_is = since_is p m.more m.is

    only : makes_only (makes (crew p.number)) p.number (since p) ≡ true
    only = subst (λ (x : List Entry). makes_only (makes (crew p.number)) p.number x ≡ true) (sym new_is)
        (subst (λ (q : Post). makes_only (makes q) p.number m.more ≡ true) (sym post) m.own)

-- ---- a role that stayed

module _ (crew : ℕ → Post) (p : CorePass) (pos : 0 < p.number) (none : p.links ≡ []) where
  stayed_seen : seen_of p ≡ p.start
  stayed_seen = ap (λ ks. p.start ++ flat ks) none ∙ append-nil p.start

  stayed_since : since p ≡ []
  stayed_since = drop_start p.start (flat p.links) ∙ ap flat none

  untaken : (t : ℕ) → is_taken_by (since p) p.number t ≡ false
  untaken t = ap (λ (x : List Entry). is_taken_by x p.number t) stayed_since

  pub stayed_keeps : KeepsPost crew p
  stayed_keeps = record {
    number = pos;
    only = subst (λ (x : List Entry). makes_only (makes (crew p.number)) p.number x ≡ true) (sym stayed_since) refl;
    holds = unclaiming_holds p untaken;
  }

  pub stayed_ear : (ear : EarValue) → EarWired p.start ear → EarEnds crew ear p
  stayed_ear ear wired = record { keeps = stayed_keeps; wired = λ own. subst (λ (x : List Entry). EarWired x ear) (sym stayed_seen) wired }

  pub stayed_mouth : (mouth : MouthValue) → MouthWired p.start mouth → MouthEnds crew mouth p
  stayed_mouth mouth wired = record { keeps = stayed_keeps; wired = λ own. subst (λ (x : List Entry). MouthWired x mouth) (sym stayed_seen) wired }

  pub stayed_worker : (o : Opening) (means : ℕ → ℕ → ℕ → List Entry → Type 0) (c : ℕ) → WorkerEnds o means crew c p
  stayed_worker o means c = record {
    keeps = stayed_keeps;
    ran = λ t k h. true_not_false (takes_turn p.start (since p) p.number t k) h (ap (λ (x : List Entry). takes_turn p.start x p.number t k) stayed_since);
    through = λ h. true_not_false (list_any (renews_by p.number) (since p)) h (ap (list_any (renews_by p.number)) stayed_since);
  }

  pub stayed_lone : (o : Opening) (means : ℕ → ℕ → ℕ → List Entry → Type 0) (l : LinkValue) → IsWired p.start l → LoneEnds o means crew l p
  stayed_lone o means l wired = record { works = stayed_worker o means l.ear.child; wired = λ own. subst (λ (x : List Entry). IsWired x l) (sym stayed_seen) wired }
