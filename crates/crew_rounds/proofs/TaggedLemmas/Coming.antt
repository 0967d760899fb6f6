-- What came back of a role gives what is promised of it.
use Rattle.std.proofs.Common.{◌≡◌, ℕ, ◌<◌, List, [], ◌++◌, refl, sym, ap, subst, ◌∙◌, false, append-nil}
use Rattle.std.specs.List.{list_any}
use Rattle.threads.specs.Log.{flat}
use Rattle.threads.specs.Passes.{HallValue, IsPassOf, seen_of}
use Rattle.journal_model.specs.declared.entry.Entry.{Entry}
use Rattle.journal_model.specs.declared.opening.Opening.{Opening}
use Rattle.journal_model.specs.Halves.{EarWired, MouthWired}
use Rattle.crew_work.specs.Laws.Rounds.{CorePass, since}
use Rattle.crew_work.specs.Laws.Tasks.{IsThroughAfterAgain}
use Rattle.crew_work.proofs.LawsLemmas.Ending.{ear_ends, mouth_ends}
use Rattle.crew_work.proofs.LawsLemmas.Halls.{drop_start}
use Rattle.crew_work.proofs.LawsLemmas.Renewing.{renews_by}
use Rattle.child_link.specs.Moves.{EarMoved, MouthMoved}
use Rattle.crew_work.specs.Worker.Works.{Worked}
use Rattle.crew_work.proofs.WorkerLemmas.Turning.{passed_none, worked_still}
use Rattle.crew_rounds.specs.Tagged.Coming.{EarsCome, IsFresh, MouthsCome, WorkersCome, WorkersStay}
use Rattle.ann_key.proofs.Booleans.{true_and_false as true_not_false}

-- what a fresh pass has seen is what the hall's value was at its begin
seen_start : (h : HallValue Entry Opening) (p : CorePass) → IsFresh h p → seen_of p ≡ h.start
seen_start h p f = ap (λ ks. p.start ++ flat ks) f.none ∙ append-nil p.start ∙ f.pass.2

-- and where any pass of the hall began
pub begun_at : (h : HallValue Entry Opening) (p q : CorePass) → IsFresh h p → IsPassOf h q → seen_of p ≡ q.start
begun_at h p q f k = seen_start h p f ∙ sym k.2

pub ears_come : EarsCome
ears_come h crew p q e f fresh pos post wired r =
    let n : q.number ≡ p.number = r.pass.number in
    let start : seen_of p ≡ q.start = begun_at h p q fresh r.pass.pass in
    let at : h.start ≡ q.start = sym r.pass.pass.2 in
    ear_ends crew q e f (subst (λ (k : ℕ). 0 < k) (sym n) pos) r.same.0 (ap crew n ∙ post)
    (subst (λ (k : ℕ). EarMoved k false q.start (seen_of q) e f) (sym n) (subst (λ (x : List Entry). EarMoved p.number false x (seen_of q) e f) start r.moved))
    (subst (λ (x : List Entry). EarWired x e) at wired)

pub mouths_come : MouthsCome
mouths_come h crew p q m w fresh pos post wired r =
    let n : q.number ≡ p.number = r.pass.number in
    let start : seen_of p ≡ q.start = begun_at h p q fresh r.pass.pass in
    let at : h.start ≡ q.start = sym r.pass.pass.2 in
    mouth_ends crew q m w (subst (λ (k : ℕ). 0 < k) (sym n) pos) r.same.0 (ap crew n ∙ post)
    (subst (λ (k : ℕ). MouthMoved k false q.start (seen_of q) m w) (sym n) (subst (λ (x : List Entry). MouthMoved p.number false x (seen_of q) m w) start r.moved))
    (subst (λ (x : List Entry). MouthWired x m) at wired)

pub workers_come : WorkersCome
workers_come h setup p q c desk desk' fresh r = record {
  number_is = r.pass.number;
  pass = r.pass.pass;
  worked = subst (λ (k : ℕ). Worked h.fixed setup false k false c q.start (seen_of q) (Unit {0}) (Unit {0}) desk desk') (sym r.pass.number)
      (subst (λ (x : List Entry). Worked h.fixed setup false p.number false c x (seen_of q) (Unit {0}) (Unit {0}) desk desk') (begun_at h p q fresh r.pass.pass) r.worked);
  through = λ made. r.through;
}

-- a pass that has seen nothing since its begin left no task to be run again
pub still_through : (o : Opening) (c : ℕ) (p : CorePass) → p.links ≡ [] → IsThroughAfterAgain o p.number c (since p) (seen_of p)
still_through o c p none made =
    true_not_false (list_any (renews_by p.number) (since p)) made (ap (list_any (renews_by p.number)) (drop_start p.start (flat p.links) ∙ ap flat none))

pub workers_stay : WorkersStay
workers_stay h setup p c desk fresh = record {
  number_is = refl;
  pass = fresh.pass;
  worked = subst (λ (x : List Entry). Worked h.fixed setup false p.number false c x (seen_of p) (Unit {0}) (Unit {0}) desk desk) (begun_at h p p fresh fresh.pass)
      (worked_still h.fixed setup false p.number false c (λ x. Unit {0}) (λ past more none u. u) (seen_of p) (seen_of p) desk (passed_none p.number false (seen_of p)));
  through = still_through h.fixed c p fresh.none;
}
