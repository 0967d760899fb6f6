-- The tasks that are left when no child can be started any more.
use Rattle.ann_outside.specs.Told.{DeskTold, ProgramsTold}
use Rattle.std.proofs.Common.{◌≡◌, ℕ, ◌<◌, List, [], ◌∷◌, ◌++◌, refl, sym, ap, subst, ◌∙◌, append_assoc, append-nil, length, Bool, true, false, not, ◌==◌, None, Option, arith, inl, inr}
use Rattle.std.specs.Prelude.{◌&&◌, Ok}
use Rattle.std.specs.List.{list_all, list_any}
use Rattle.journal_model.specs.declared.answer.Answer.{Answer}
use Rattle.journal_model.specs.declared.entry.What.{What}
use Rattle.journal_model.specs.declared.entry.What.TheVariants.{Claim, Answer as Answered}
use Rattle.journal_model.specs.declared.entry.Entry.{Entry}
use Rattle.journal_model.specs.declared.opening.Opening.{Opening}
use Rattle.journal_model.specs.Journal.{any, is_ended, offers, open_jobs}
use Rattle.journal_model.specs.Legality.{Legal, count, is_busy, is_start, turn_of_task}
use Rattle.journal_model.specs.Shares.{are_by, is_of_child}
use Rattle.journal_model.proofs.Looks.{any-append, each_of-append}
use Rattle.journal_model.proofs.Testing.{all-each, all-join}
use Rattle.child_link.specs.Wires.{WireValue}
use Rattle.task_model.specs.declared.setup.Setup.{Setup}
use Rattle.task_model.specs.TaskRuns.{failed_start}
use Rattle.task_model.proofs.Causes.{from_nothing}
use Rattle.run_starts.specs.Starting.{AllOffer, children, is_any_start, is_offered, is_ready_untagged, started_in}
use Rattle.run_starts.specs.Rounds.{AllLostWell, AllStandNext, EndsClosed, is_of_run, left_answer, start_untaken}
use Rattle.run_starts.specs.Stints.{AnswersLeft, Kept, answered_so, main_entry}
use Rattle.run_starts.proofs.Ending.{left_ends, left_quiet}
use Rattle.crew_work.proofs.WorkerLemmas.Working.{ends_behind}
use Rattle.host_core.specs.Steps.{are_all_claimed}
use Rattle.run_starts.proofs.Apart.{ended_on, ready_same}
use Rattle.run_starts.proofs.Leaving.{kept_still}
use Rattle.run_starts.proofs.Losing.{lost_both, lost_tasks, loses_task}
use Rattle.run_starts.proofs.Nexts.{is_quiet, next_both, next_quiet}
use Rattle.run_starts.proofs.Runs.{IsOfNoCall, gained_nothing}
use Rattle.run_starts.proofs.Tests.{any_same, children_up_to, no_children, offers_both, offers_none}
use Rattle.run_starts.proofs.Turns.{claim_takes, none_fails}
use Rattle.run_starts.proofs.Zeros.{left_still, rests_one}
use Rattle.run_children.proofs.PoolChildrenLemmas.SlotLaws.{LeavesClaimed, leaves_claimed, leaves_front, turn_both, turn_where as turn_manned}
use Rattle.run_children.specs.PoolChildren.Slots.{AllInTurn, AreSpent, IsManned, are_spent, is_first_start}
use Rattle.run_children.specs.Desks.{DeskDid, DesksDid, HaveDesks}
use Rattle.run_children.specs.Posts.{AllPosted}
use Rattle.run_children.specs.Unserved.{UnservedAnswers}
use Rattle.run_children.specs.Starts.{JobsBetween}
use Rattle.run_children.proofs.Between.{few_of}
use Rattle.run_children.proofs.Desks.{desks_first, desks_join, desks_on, did_join, did_nothing, have_both, have_main, main_claims}
use Rattle.run_children.proofs.Posting.{posted_both, posted_main}
use Rattle.run_children.proofs.Slots.{manned_still}
use Rattle.run_children.proofs.Spent.{all_spent_both}
use Rattle.ann_key.proofs.Booleans.{left_false as either_left}
use Rattle.journal_model.proofs.Working.{count-append, count_none}
use Rattle.run_children.proofs.PoolChildrenLemmas.Own.{unasked}
use Rattle.journal_model.proofs.Across.{idle_on}

-- ---- what they are not

module _ (answer : ℕ → Answer) where
  left_all : (p : What → Bool) → ((t : ℕ) → p (Claim t 0) ≡ true) → ((t : ℕ) → p (Answered t (answer t)) ≡ true) → (ts : List ℕ) → list_all (λ (e : Entry). p e.what) (answered_so answer ts) ≡ true
  left_all p c a [] = refl
  left_all p c a (t ∷ ts) = rw (c t, a t, left_all p c a ts) refl

  left_none : (p : What → Bool) → ((t : ℕ) → p (Claim t 0) ≡ false) → ((t : ℕ) → p (Answered t (answer t)) ≡ false) → (ts : List ℕ) → any p (answered_so answer ts) ≡ false
  left_none p c a [] = refl
  left_none p c a (t ∷ ts) = rw (c t, a t, left_none p c a ts) refl

  left_main : (ts : List ℕ) → are_by 0 (answered_so answer ts) ≡ true
  left_main [] = refl
  left_main (t ∷ ts) = left_main ts

  abbrev one : ℕ → List Entry
  one t = main_entry (Claim t 0) ∷ main_entry (Answered t (answer t)) ∷ []

  behind_one : (past : List Entry) (t : ℕ) (ts : List ℕ) → past ++ answered_so answer (t ∷ ts) ≡ (past ++ one t) ++ answered_so answer ts
  behind_one past t ts = sym (append_assoc past (one t) (answered_so answer ts))

  left_rests : (past : List Entry) (ts : List ℕ) → ((u : ℕ) → is_busy past u ≡ false) → (u : ℕ) → is_busy (past ++ answered_so answer ts) u ≡ false
  left_rests past [] rest u = ap (λ (j : List Entry). is_busy j u) (append-nil past) ∙ rest u
  left_rests past (t ∷ ts) rest u = ap (λ (j : List Entry). is_busy j u) (behind_one past t ts) ∙ left_rests (past ++ one t) ts (rests_one past t (answer t) rest) u

  one_untaken : (past : List Entry) (t : ℕ) → failed_start (past ++ one t) (start_untaken (past ++ one t)) ≡ None
  one_untaken past t = none_fails (past ++ one t) (claim_takes past [] t (answer t) refl)

  left_untaken : (past : List Entry) (ts : List ℕ) → failed_start past (start_untaken past) ≡ None → failed_start (past ++ answered_so answer ts) (start_untaken (past ++ answered_so answer ts)) ≡ None
  left_untaken past [] h = subst (λ (j : List Entry). failed_start j (start_untaken j) ≡ None) (sym (append-nil past)) h
  left_untaken past (t ∷ ts) h = subst (λ (j : List Entry). failed_start j (start_untaken j) ≡ None) (sym (behind_one past t ts)) (left_untaken (past ++ one t) ts (one_untaken past t))

  left_spent : (past : List Entry) (ts : List ℕ) → are_spent past (answered_so answer ts) ≡ true
  left_spent past [] = refl
  left_spent past (t ∷ ts) = left_spent ((past ++ main_entry (Claim t 0) ∷ []) ++ main_entry (Answered t (answer t)) ∷ []) ts

  still_spent : (past : List Entry) (ts : List ℕ) → AreSpent past → AreSpent (past ++ answered_so answer ts)
  still_spent past ts h = all_spent_both [] past (answered_so answer ts) h (left_spent past ts)

  one_spent : (past : List Entry) (t : ℕ) → AreSpent past → AreSpent (past ++ one t)
  one_spent past t h = still_spent past (t ∷ []) h

  same_count : (past more : List Entry) → any is_first_start more ≡ false → count is_first_start (past ++ more) ≡ count is_first_start past
  same_count past more none = count-append is_first_start past more ∙ (let n = count_none is_first_start more none in omega (arith, n))

  -- ---- they are done

  module _ (o : Opening) (setup : Setup) (limit : ℕ) (journal : List Entry) (desk : DeskTold) (quiet : (t : ℕ) → IsOfNoCall (answer t)) where
    one_did : (past rest : List Entry) (t : ℕ) → journal ≡ past ++ main_entry (Claim t 0) ∷ main_entry (Answered t (answer t)) ∷ rest → UnservedAnswers limit past (failed_start past (start_untaken past)) t (answer t)
        → DeskDid o setup limit journal past (one t) 1 desk desk
    one_did past rest t is answers = record {
      done = record { task = t; turn = turn_of_task past t; calls = []; answer = answer t; counts = desk.counts } ∷ [];
      claimed = sym (main_claims past (one t) refl);
      ran = (inr (record { past = past; rest = rest; is = is; answers = answers }, refl), tt);
      log_is = gained_nothing desk.log;
      caused = (from_nothing desk.counts (Ok (answer t)) (quiet t), refl);
    }

    left_did : (past : List Entry) (ts : List ℕ) → journal ≡ past ++ answered_so answer ts → count is_first_start past ≡ limit → AreSpent past → ((t : ℕ) → answer t ≡ left_answer past t) → failed_start past (start_untaken past) ≡ None
        → DeskDid o setup limit journal past (answered_so answer ts) 1 desk desk
    left_did past [] is all spent says none = did_nothing o setup limit journal past [] 1 desk refl
    left_did past (t ∷ ts) is all spent says none =
        did_join o setup limit journal past (one t) (answered_so answer ts) 1 desk desk desk
        (one_did past (answered_so answer ts) t is (subst (λ (x : Option Answer). UnservedAnswers limit past x t (answer t)) (sym none) (all, spent, says t)))
        (left_did (past ++ one t) ts (is ∙ behind_one past t ts) (same_count past (one t) refl ∙ all) (one_spent past t spent) (λ u. says u ∙ sym (left_still past answer (t ∷ []) u)) (one_untaken past t))

-- ---- what the run is then

module _ {o : Opening} {setup : Setup} {may : Bool} {limit made : ℕ} {offer : Bool} {old new : List Entry} {desks0 desks : List DeskTold} (b : JobsBetween o setup may limit made offer old desks0 desks true)
    (some : 0 < length desks0) (all : made ≡ limit) (spent : AreSpent old) (a : AnswersLeft o old new (left_answer old)) (legal : Legal o new) where
  abbrev more : List Entry
  more = answered_so (left_answer old) a.tasks

  none : any is_any_start more ≡ false
  none = left_none (left_answer old) is_any_start (λ t. refl) (λ t. refl) a.tasks

  apart : (d : ℕ) → any (is_of_child d) more ≡ false
  apart d = left_none (left_answer old) (is_of_child d) (λ t. refl) (λ t. refl) a.tasks

  main : are_by 0 more ≡ true
  main = left_main (left_answer old) a.tasks

  children_are : children new ≡ children old
  children_are = ap children a.is ∙ each_of-append started_in old more ∙ ap (λ (ds : List ℕ). children old ++ ds) (no_children more none) ∙ append-nil (children old)

  offered_still : is_offered new ≡ is_offered old
  offered_still =
      ap (λ (ds : List ℕ). not (list_any (is_ready_untagged new) ds)) children_are
      ∙ ap not (any_same (count is_start old) (is_ready_untagged new) (is_ready_untagged old)
      (λ d le. ap (λ (j : List Entry). is_ready_untagged j d) a.is ∙ ready_same old more d (apart d) o b.legal (left_none (left_answer old) (offers d) (λ t. refl) (λ t. refl) a.tasks))
      (children old) (children_up_to (count is_start old) old (few_of o old b.legal)))

  leaves : LeavesClaimed old more
  leaves = leaves_claimed o old more b.legal (subst (Legal o) a.is legal) b.rest

  manned_at : (front rest : List Entry) → more ≡ front ++ rest → IsManned o (length desks0) (old ++ front)
  manned_at front rest split = manned_still o (length desks0) old front b.legal (front_none is_any_start none) (leaves_front old front rest more split leaves) (λ d. front_none (is_of_child d) (apart d)) (b.manned refl)
    where
      front_none : (p : What → Bool) → any p more ≡ false → any p front ≡ false
      front_none p h = either_left (any p front) (any p rest) (sym (any-append p front rest) ∙ ap (any p) (sym split) ∙ h)

  did_more : (ds : List DeskTold) → DesksDid o setup limit (old ++ more) old more 1 ds ds
  did_more [] = tt
  did_more (d ∷ ds) = desks_first o setup limit (old ++ more) old more d d ds main (left_did (left_answer old) o setup limit (old ++ more) d (left_quiet o old b.legal) old a.tasks refl (b.starts ∙ all) spent (λ t. refl) b.untaken)

  -- the last that was answered closes the run
  last_now : length desks0 ≡ 1 → (ts : List ℕ) → new ≡ old ++ answered_so (left_answer old) ts → are_all_claimed o new ≡ true → EndsClosed new
  last_now one [] is claimed = (let same : new ≡ old = is ∙ append-nil old in subst EndsClosed (sym same) (b.last one (sym (ap (are_all_claimed o) same) ∙ claimed)))
  last_now one (t ∷ ts) is claimed = record {
    past = old ++ answered_so (left_answer old) (t ∷ ts);
    closings = [];
    is = is ∙ sym (append-nil (old ++ answered_so (left_answer old) (t ∷ ts)));
    answered = ends_behind old (main_entry (Claim t 0)) (main_entry (Answered t (left_answer old t)) ∷ answered_so (left_answer old) ts) (left_ends (left_answer old) t ts);
    closed = refl;
  }

  pub jobs_left : JobsBetween o setup may limit made offer new desks0 desks true
  jobs_left = record {
    legal = legal;
    turn = subst (AllInTurn o (length desks0) []) (sym a.is) (turn_both o (length desks0) [] old more b.turn (turn_manned o (length desks0) old more none (λ front rest split. manned_at front rest split)));
    order = subst (AllStandNext o []) (sym a.is) (next_both o [] old more b.order (next_quiet o old more (left_all (left_answer old) is_quiet (λ t. refl) (λ t. refl) a.tasks)));
    starts = ap (count is_first_start) a.is ∙ same_count (left_answer old) old more (left_none (left_answer old) is_first_start (λ t. refl) (λ t. refl) a.tasks) ∙ b.starts;
    offers = subst (AllOffer may []) (sym a.is) (offers_both may [] old more b.offers (offers_none may old more none));
    offered = b.offered ∙ ap (λ (x : Bool). may && x) (sym offered_still);
    ended = ap (list_all (is_ended new)) children_are
        ∙ all-each (is_ended old) (is_ended new) (λ d k. ap (λ (j : List Entry). is_ended j d) a.is ∙ ended_on old more d k) (children old) b.ended;
    asks = ap (list_all (λ (e : Entry). is_of_run e.what)) a.is ∙ all-join (λ (e : Entry). is_of_run e.what) old more b.asks (left_all (left_answer old) is_of_run (λ t. refl) (λ t. refl) a.tasks);
    lost = subst (AllLostWell []) (sym a.is) (lost_both [] old more b.lost (lost_tasks old more (left_all (left_answer old) loses_task (λ t. refl) (λ t. refl) a.tasks)));
    posts = subst (AllPosted []) (sym a.is) (posted_both [] old more b.posts (posted_main old more main));
    rest = λ u. ap (λ (j : List Entry). is_busy j u) a.is ∙ left_rests (left_answer old) old a.tasks b.rest u;
    spent = λ w. inl (subst AreSpent (sym a.is) (still_spent (left_answer old) old a.tasks spent));
    manned = λ w. subst (IsManned o (length desks0)) (sym a.is) (manned_at more [] (sym (append-nil more)));
    untaken = subst (λ (j : List Entry). failed_start j (start_untaken j) ≡ None) (sym a.is) (left_untaken (left_answer old) old a.tasks b.untaken);
    placed = subst (HaveDesks (length desks0) []) (sym a.is) (have_both (length desks0) [] old more b.placed (have_main (length desks0) old more some main));
    did = subst (λ (j : List Entry). DesksDid o setup limit j [] j 1 desks0 desks) (sym a.is)
        (desks_join o setup limit (old ++ more) [] old more 1 desks0 desks desks (desks_on o setup limit old more [] old 1 desks0 desks b.did) (did_more desks));
    alone = λ one. ap (are_by 0) a.is ∙ all-join (λ (e : Entry). e.by == 0) old more (b.alone one) main;
    last = λ one. last_now one a.tasks a.is;
    shut = λ d. ap (λ (j : List Entry). open_jobs j d) a.is ∙ idle_on old more d (unasked d more (apart d)) (b.shut d);
  }

  pub kept_left : {program : List ℕ} {start after : ProgramsTold} {wires : List WireValue} → Kept program old start after wires → Kept program new start after wires
  kept_left k = kept_still k (few_of o old b.legal) new more a.is none apart
