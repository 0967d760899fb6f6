-- What a worker did gives what it promises at its end.
use Rattle.ann_outside.specs.Told.{DeskTold}
use Rattle.std.proofs.Common.{◌≡◌, ℕ, ◌<◌, List, [], ◌∷◌, refl, sym, ap, subst, ◌∙◌, Bool, true, false, not, ◌==◌, cond}
use Rattle.std.specs.Prelude.{◌&&◌, ◌||◌}
use Rattle.std.specs.List.{list_any}
use Rattle.ann_outside.specs.declared.file_desk.Call.{Call}
use Rattle.threads.specs.Passes.{seen_of}
use Rattle.journal_model.specs.declared.entry.What.{What}
use Rattle.journal_model.specs.declared.entry.What.TheVariants.{Claim, Lead, Ask, Lost, Note, Answer as Answered, Again}
use Rattle.journal_model.specs.declared.entry.Entry.{Entry}
use Rattle.journal_model.specs.declared.opening.Opening.{Opening}
use Rattle.journal_model.specs.Journal.{is_started}
use Rattle.journal_model.specs.Shares.{are_own, by_link, is_of_child, makes_only}
use Rattle.crew_work.specs.Laws.Posts.{Post, makes, works}
use Rattle.crew_work.specs.Laws.Rounds.{CorePass, IsWired, LinkValue, LoneEnds, WorkerEnds, since}
use Rattle.crew_work.proofs.LawsLemmas.Laboring.{started_lasts}
use Rattle.child_link.specs.Moves.{IsSameLink}
use Rattle.child_link.specs.Writings.{LoneWired, is_written_first}
use Rattle.task_model.specs.declared.setup.Setup.{Setup}
use Rattle.crew_work.specs.Laws.JournalRuns.{HasJournalRun, JournalRun}
use Rattle.crew_work.specs.Worker.Works.{AllRan, TaskDone, Worked, by_worker, turns_of}
use Rattle.crew_work.specs.Laws.Tasks.{IsThroughAfterAgain, takes_turn, turns_by}
use Rattle.crew_work.specs.Beside.Runs.{LonesEnd, WorkersEnd, calls_of, post_of}
use Rattle.crew_work.proofs.LawsLemmas.Ending.{since_is as new_is}
use Rattle.std.proofs.lemmas.Bool.{and_parts as both, eqb-true as same_number}
use Rattle.crew_work.proofs.WorkerLemmas.Serving.{wider as wider_made}
use Rattle.ann_key.proofs.Booleans.{or_left}

-- what a worker makes its post makes
worker_posted : (owns : Bool) (c : ℕ) (w : What) → by_worker owns c w ≡ true → makes (post_of owns c) w ≡ true
worker_posted true c (Claim task child) h = h
worker_posted true c (Lead child job line) h = h
worker_posted true c (Ask child job task line) h = (both (child == c) (not (task == 0)) h).0
worker_posted true c (Lost child task) h = (both (child == c) (not (task == 0)) h).0
worker_posted true c (Note task chunk count) h = refl
worker_posted true c (Answered task answer) h = refl
worker_posted true c (Again task answer) h = refl
worker_posted true c w h = or_left (by_link c w) (works c w) h
worker_posted false c (Claim task child) h = h
worker_posted false c (Lead child job line) h = h
worker_posted false c (Ask child job task line) h = (both (child == c) (not (task == 0)) h).0
worker_posted false c (Lost child task) h = (both (child == c) (not (task == 0)) h).0
worker_posted false c (Note task chunk count) h = refl
worker_posted false c (Answered task answer) h = refl
worker_posted false c (Again task answer) h = refl
worker_posted false c w h = absurd cc

-- its run
run_of : (o : Opening) (setup : Setup) (n c t k : ℕ) (journal : List Entry) (done : List TaskDone) → AllRan o setup n c journal done → list_any (λ (u : ℕ × ℕ). u.0 == t && u.1 == k) (turns_of done) ≡ true
    → JournalRun o setup (calls_of done t k) n t k journal
run_of o setup n c t k journal [] all h = absurd cc
run_of o setup n c t k journal (r ∷ done) all h = go (r.task == t && r.turn == k) refl h (run_of o setup n c t k journal done all.1)
  where
    go : (b : Bool) → (r.task == t && r.turn == k) ≡ b → (b || list_any (λ (u : ℕ × ℕ). u.0 == t && u.1 == k) (turns_of done)) ≡ true
        → (list_any (λ (u : ℕ × ℕ). u.0 == t && u.1 == k) (turns_of done) ≡ true → JournalRun o setup (calls_of done t k) n t k journal)
        → JournalRun o setup (cond b r.calls (calls_of done t k)) n t k journal
    go true e j rest =
        let same = both (r.task == t) (r.turn == k) e in
        subst (λ (x : ℕ). JournalRun o setup r.calls n t x journal) (same_number r.turn k same.1)
        (subst (λ (x : ℕ). JournalRun o setup r.calls n x r.turn journal) (same_number r.task t same.0) all.0.run)
    go false e j rest = rest j

pub worker_ends : (o : Opening) (setup : Setup) (calls : ℕ → ℕ → ℕ → List Call) (owns : Bool) (c : ℕ) (crew : ℕ → Post) (p : CorePass) (Before After : Type 0) (desk desk' : DeskTold)
    → (w : Worked o setup owns p.number false c p.start (seen_of p) Before After desk desk') → IsThroughAfterAgain o p.number c (since p) (seen_of p) → 0 < p.number → ((t k : ℕ) → calls p.number t k ≡ calls_of w.done t k)
    → ((w : What) → makes (post_of owns c) w ≡ true → makes (crew p.number) w ≡ true) → WorkerEnds o (HasJournalRun o setup calls) crew c p
worker_ends o setup calls owns c crew p Before After desk desk' w through pos told post = record {
  keeps = record {
    number = pos;
    only = subst (λ (x : List Entry). makes_only (makes (crew p.number)) p.number x ≡ true) (sym new)
        (wider_made (by_worker owns c) (makes (crew p.number)) (λ z h. post z (worker_posted owns c z h)) p.number more w.did.moved.own);
    holds = w.rests;
  };
  ran = λ t k h. subst (λ (l : List Call). JournalRun o setup l p.number t k (seen_of p)) (sym (told t k)) (run t k h);
  through = through;
}
  where
    more : List Entry
    more = w.did.moved.more

    new : since p ≡ more
    new = new_is p more w.did.moved.is

    run : (t k : ℕ) → takes_turn p.start (since p) p.number t k ≡ true → JournalRun o setup (calls_of w.done t k) p.number t k (seen_of p)
    run t k h =
        run_of o setup p.number c t k (seen_of p) w.done w.ran
        (ap (list_any (λ (u : ℕ × ℕ). u.0 == t && u.1 == k)) (sym w.did.claimed ∙ ap (λ (x : List Entry). turns_by p.number p.start x) (sym new)) ∙ h)

pub workers_end : WorkersEnd
workers_end o setup calls c crew p desk desk' w through pos told post = worker_ends o setup calls false c crew p (Unit {0}) (Unit {0}) desk desk' w (λ made. through) pos told post

-- a worker that has its child for itself: where it left a task to be run again, it takes up no more
pub lone_ends : (o : Opening) (setup : Setup) (calls : ℕ → ℕ → ℕ → List Call) (crew : ℕ → Post) (p : CorePass) (old new : LinkValue) (desk desk' : DeskTold)
    → (w : Worked o setup true p.number false old.ear.child p.start (seen_of p) (LoneWired p.start old.ear old.mouth) (LoneWired (seen_of p) new.ear new.mouth) desk desk')
    → IsSameLink old.ear new.ear old.mouth new.mouth → IsWired p.start old → is_written_first p.start old.ear.child ≡ true
    → IsThroughAfterAgain o p.number old.ear.child (since p) (seen_of p) → 0 < p.number → ((t k : ℕ) → calls p.number t k ≡ calls_of w.done t k)
    → ((w : What) → makes (post_of true old.ear.child) w ≡ true → makes (crew p.number) w ≡ true)
    → LoneEnds o (HasJournalRun o setup calls) crew new p
lone_ends o setup calls crew p old new desk desk' w same wired written through pos told post = record {
  works = subst (λ (k : ℕ). WorkerEnds o (HasJournalRun o setup calls) crew k p) (sym same.0.0)
      (worker_ends o setup calls true old.ear.child crew p (LoneWired p.start old.ear old.mouth) (LoneWired (seen_of p) new.ear new.mouth) desk desk' w through pos told post);
  wired = λ own. record {
    one_child = same.1.0 ∙ wired.one_child ∙ sym same.0.0;
    started = subst (λ (x : List Entry). is_started x new.ear.child ≡ true) (sym w.did.moved.is)
        (started_lasts p.start w.did.moved.more new.ear.child (ap (λ (c : ℕ). is_started p.start c) same.0.0 ∙ wired.started));
    wired = (w.did.moved.kept (subst (λ (c : ℕ). are_own (is_of_child c) p.number w.did.moved.more ≡ true) same.0.0 (subst (λ (x : List Entry). are_own (is_of_child new.ear.child) p.number x ≡ true) (new_is p w.did.moved.more w.did.moved.is) own)) (record { link = wired.wired; written = written })).link;
  };
}

pub lones_end : LonesEnd
lones_end o setup calls crew p old new desk desk' w same wired written through pos told post =
    lone_ends o setup calls crew p old new desk desk' w same wired written (λ made. through) pos told post
