-- What a worker did, task by task.
use Rattle.ann_outside.specs.Told.{DeskTold}
use Rattle.std.proofs.Common.{◌≡◌, ℕ, ◌+◌, ◌-◌, List, [], ◌∷◌, ◌++◌, refl, sym, ap, subst, ◌∙◌, Bool, true, false, not, ◌==◌, append_assoc, append-nil, length, ◌<◌, ◌≤◌, arith, zero, suc}
use Rattle.std.specs.Prelude.{◌||◌, map, slice_get, Result, Ok, Some}
use Rattle.std.specs.List.{list_all, list_any}
use Rattle.std.proofs.lemmas.List.{append_cancel_left}
use Rattle.ann_key.specs.declared.bytes.NoMemory.{NoMemory}
use Rattle.task_text.specs.declared.task.Task.{Task}
use Rattle.task_text.specs.TaskLines.{IsTask}
use Rattle.ann_outside.specs.Calls.{Gained}
use Rattle.task_model.proofs.CopyingLemmas.CopyLaws.{gained_nothing, gained_more}
use Rattle.journal_model.specs.declared.answer.Answer.{Answer}
use Rattle.journal_model.specs.declared.entry.What.TheVariants.{Claim}
use Rattle.journal_model.specs.declared.entry.Entry.{Entry}
use Rattle.journal_model.specs.declared.opening.Opening.{Opening}
use Rattle.journal_model.specs.Journal.{any}
use Rattle.journal_model.specs.Legality.{Legal, has_open_job, holder, is_claimed_by, is_free, is_held_by, least_free, task_of, turned_by}
use Rattle.journal_model.specs.Due.{due_after}
use Rattle.journal_model.specs.Room.{claims_left}
use Rattle.journal_model.specs.Halves.{EarValue, MouthValue}
use Rattle.journal_model.specs.Notes.{AreCurrentAt}
use Rattle.journal_model.specs.Shares.{Moved, is_of_child, makes_only}
use Rattle.journal_model.proofs.Looks.{entry}
use Rattle.journal_model.proofs.Holders.{others_unheld, untaken_unheld}
use Rattle.journal_model.proofs.Holding.{holder_append}
use Rattle.journal_model.proofs.ClaimsLeft.{claims_left_same}
use Rattle.journal_model.proofs.Unbounded.{Within}
use Rattle.journal_model.proofs.Testing.{all-join, by_either, only_others as others_make}
use Rattle.child_link.specs.Doors.{Appended, DoorView, IsSameDoor, Passed}
use Rattle.child_link.specs.Alone.{KeepsLink}
use Rattle.child_link.specs.Moves.{IsSameLink}
use Rattle.child_link.specs.Writings.{LoneWired}
use Rattle.child_link.proofs.Roles.{by_own}
use Rattle.child_link.proofs.Solo.{still_alone}
use Rattle.crew_work.specs.Laws.Tasks.{IsThrough}
use Rattle.task_model.specs.declared.setup.Setup.{Setup}
use Rattle.task_model.specs.declared.turn.TaskTurn.{TaskTurn}
use Rattle.task_model.specs.Askings.{askings, bounds_run, closing}
use Rattle.task_model.specs.Runs.{TaskRun}
use Rattle.task_model.specs.Ran.{Ran, HasTaskCauses, answered, behind_more}
use Rattle.crew_work.specs.Worker.AtTasks.{AtTask, SameTask, notings}
use Rattle.crew_work.specs.Worker.KnownLayouts.{known_layouts}
use Rattle.crew_work.specs.Worker.Servings.{HasTurn, by_server}
use Rattle.crew_work.specs.Worker.Works.{AllRan, AreTasks, CanServe, Did, Given, NoneAtWork, IsHeldUp, RanFor, TurnBegun, TurnDone, Worked, WorkedAlone, all_calls, by_task, by_worker, ends_closed, turns_of}
use Rattle.crew_work.proofs.WorkerLemmas.Claiming.{can_on, found_between}
use Rattle.crew_work.proofs.WorkerLemmas.Doing.{did_both, did_make, did_pass, did_run, task_serves}
use Rattle.crew_work.proofs.WorkerLemmas.KeyNotes.{layouts_since_claim}
use Rattle.crew_work.proofs.WorkerLemmas.Pairs.{passed}
use Rattle.crew_work.proofs.WorkerLemmas.Running.{causes_answered, journal_run, none_bounds, rests_again}
use Rattle.crew_work.proofs.WorkerLemmas.Serving.{server_within, wider as wider_made}
use Rattle.crew_work.proofs.WorkerLemmas.Working.{all_made, calls_both, caused_both, closing_claims, closing_closes, closing_works, ends_behind, ends_both, fewer_left, ran_both, runs_last, turns_both, turns_untaken}
use Rattle.ann_key.proofs.Numbers.{same_number as same}
use Rattle.std.proofs.lemmas.Bool.{eqb-true as same_number, ne_eqb as differ}

-- ---- the tasks

pub task_there : (o : Opening) (tasks : List Task) (past : List Entry) (t : ℕ) → o.tasks ≡ tasks → least_free o past ≡ Some t → (0 < t) × (t ≤ length tasks)
task_there o tasks past t is least =
    let s : (1 ≤ t) × (t < 1 + length o.tasks) = found_between (is_free o past) 1 (length o.tasks) t least in
    let many : length o.tasks ≡ length tasks = ap length is in
    (omega (arith, s.0), omega (arith, s.1, many))

pub is_task : (tasks : List Task) (i : ℕ) (task : Task) → AreTasks tasks → slice_get tasks i ≡ Some task → IsTask task
is_task [] i task h e = absurd cc
is_task (x ∷ xs) zero task h e = subst IsTask (let one : x ≡ task = cc in one) h.0
is_task (x ∷ xs) (suc i) task h e = is_task xs i task h.1 e

pub task_is : (o : Opening) (tasks : List Task) (t : ℕ) (task : Task) → o.tasks ≡ tasks → 0 < t → slice_get tasks (t - 1) ≡ Some task → task_of o t ≡ Some task
task_is o tasks t task is pos there =
    let some : (t == 0) ≡ false = differ t 0 (λ e. absurd (omega (arith, e, pos))) in
    rw some (ap (λ (l : List Task). slice_get l (t - 1)) is ∙ there)

-- ---- under other names

pub named : (P : Opening → ℕ → Bool → ℕ → Bool → Type 0) {o p : Opening} {n m : ℕ} {a b : Bool} {c d : ℕ} {x y : Bool} → p ≡ o → m ≡ n → b ≡ a → d ≡ c → y ≡ x → P p m b d y → P o n a c x
named P {o} {p} {n} {m} {a} {b} {c} {d} {x} {y} eo en ea ec ex h =
    subst (λ (w : Opening). P w n a c x) eo
    (subst (λ (w : ℕ). P p w a c x) en (subst (λ (w : Bool). P p m w c x) ea (subst (λ (w : ℕ). P p m b w x) ec (subst (λ (w : Bool). P p m b d w) ex h))))

-- ---- one task

-- a task that is free is one of the run's
task_some : (o : Opening) (past : List Entry) (t : ℕ) → least_free o past ≡ Some t → (t == 0) ≡ false
task_some o past t least =
    let s : (1 ≤ t) × (t < 1 + length o.tasks) = found_between (is_free o past) 1 (length o.tasks) t least in
    differ t 0 (λ e. absurd (omega (arith, e, s.0)))

task_within : (owns : Bool) (c t : ℕ) → Within (by_task owns c t) t
task_within owns c t =
    let s : Within (by_server c t) t = server_within c t in
    record { unclaimed = λ w h. s.unclaimed w (task_serves owns c t w h); unclosed = λ w h. s.unclosed w (task_serves owns c t w h) }

closing_apart : (c : ℕ) (again : Bool) (t : ℕ) (answer : Answer) → is_of_child c (closing again t answer) ≡ false
closing_apart c true t answer = refl
closing_apart c false t answer = refl

module _ (o : Opening) (setup : Setup) (owns : Bool) (n : ℕ) (a : Bool) (c : ℕ) (u : TaskTurn) (task : Task) (begun ran new : List Entry) (desk desk' : DeskTold)
    (result : Result Answer NoMemory) (answer : Answer) (P : Type 0) (X : List Entry → Type 0)
    (stays : (past more : List Entry) → any (is_of_child c) more ≡ false → X past → X (past ++ more)) where
  pub does : (b : TurnBegun o n a c u begun) → task_of o u.task ≡ Some task → answer ≡ answered result → AtTask o n u.task ran
      → (m : Moved n a (by_task owns c u.task) (is_of_child c) begun ran P (X ran))
      → Ran task u setup (known_layouts o begun u.task) (askings begun u.task) (askings ran u.task) (notings begun u.task) (notings ran u.task) desk.log desk'.log result → HasTaskCauses desk.counts desk'.counts result
      → Given o n a ran new u.task answer → TurnDone o setup owns n a c u begun new P (X new) desk desk'
  does b there is at m r causes given = record {
    answer = answer;
    calls = r.calls;
    did = subst (λ (ts : List (ℕ × ℕ)). Did owns n a c begun new P (X new) ts) (rw (closing_claims g.past given.again u.task answer) refl)
        (did_both (did_run u.task some m) (did_make X stays (closing given.again u.task answer) g.passed g_is (closing_works owns c given.again u.task answer) (closing_apart c given.again u.task answer)));
    left = ap (is_held_by n) (ap (λ (x : List Entry). holder x u.task) g_is ∙ holder_append g.past last u.task) ∙ unheld given.again;
    run = subst (RanFor o setup r.calls n c u answer) (sym new_is) whole;
    log_is = r.log_is;
    caused = subst (λ (x : Answer). HasTaskCauses desk.counts desk'.counts (Ok x)) (sym is) (causes_answered desk.counts desk'.counts result causes);
    last = record {
      front = within;
      last = entry n (closing given.again u.task answer);
      is = g_is ∙ ap (λ (x : List Entry). x ++ last) (g.passed.is ∙ ap (λ (x : List Entry). x ++ g.passed.others) m.is ∙ append_assoc begun m.more g.passed.others);
      closes = closing_closes given.again u.task answer;
    };
  }
    where
      some : (u.task == 0) ≡ false
      some = task_some o b.past u.task b.least

      g : Appended o n a ran new (closing given.again u.task answer) (AtTask o n u.task)
      g = given.is

      last : List Entry
      last = entry n (closing given.again u.task answer) ∷ []

      g_is : new ≡ g.past ++ last
      g_is = g.is ∙ alone given.again
        where
          alone : (b : Bool) → g.past ++ entry n (closing b u.task answer) ∷ due_after o g.past (entry n (closing b u.task answer)) ≡ g.past ++ entry n (closing b u.task answer) ∷ []
          alone true = refl
          alone false = refl

      unheld : (b : Bool) → is_held_by n (turned_by u.task (holder g.past u.task) n (closing b u.task answer)) ≡ false
      unheld true = rw (same u.task) refl
      unheld false = rw (same u.task) refl

      first : List Entry
      first = b.past ++ entry n (Claim u.task c) ∷ []

      within : List Entry
      within = m.more ++ g.passed.others

      came : g.past ≡ first ++ within
      came = g.passed.is ∙ ap (λ (x : List Entry). x ++ g.passed.others) (m.is ∙ ap (λ (x : List Entry). x ++ m.more) b.is) ∙ append_assoc first m.more g.passed.others

      new_is : new ≡ (first ++ within) ++ last
      new_is = g_is ∙ ap (λ (x : List Entry). x ++ last) came

      still : SameTask o n u.task ran g.past
      still = passed o n u.task at (g.legal at.legal) g.passed

      pairs : askings (first ++ within) u.task ≡ askings first u.task ++ r.asked
      pairs = ap (λ (x : List Entry). askings x u.task) (sym came) ∙ still.asked ∙ r.pairs_are ∙ ap (λ (x : List Entry). askings x u.task ++ r.asked) b.is

      notes : notings (first ++ within) u.task ≡ notings first u.task ++ map (behind_more (length (askings first u.task))) r.noted
      notes =
          ap (λ (x : List Entry). notings x u.task) (sym came) ∙ still.noted ∙ r.notes_are
          ∙ ap (λ (x : List Entry). notings x u.task ++ map (behind_more (length (askings x u.task))) r.noted) b.is

      own : makes_only (by_task owns c u.task) n within ≡ true
      own = all-join (λ (e : Entry). not (e.by == n) || by_task owns c u.task e.what) m.more g.passed.others m.own (others_make (by_task owns c u.task) n g.passed.others g.passed.apart)

      one : any (bounds_run u.task) within ≡ false
      one =
          none_bounds o n u.task (by_task owns c u.task) (task_within owns c u.task) first within
          (subst (Legal o) came still.at.legal) (subst (λ (x : List Entry). is_claimed_by x n u.task ≡ true) b.is b.at.held) own

      -- what is known of the key, since the claim
      known : AreCurrentAt o b.past task.key (known_layouts o begun u.task)
      known =
          subst (λ (x : List Entry). AreCurrentAt o b.past task.key (known_layouts o x u.task)) (sym b.is)
          (layouts_since_claim o b.past [] n c u.task task b.can.book.order there (subst (Legal o) b.is b.at.legal) refl refl)

      whole : RanFor o setup r.calls n c u answer ((first ++ within) ++ last)
      whole =
          journal_run o setup task n c u b.past within given.again answer there b.turn (known_layouts o begun u.task) r.asked r.calls r.noted known pairs notes
          (subst (λ (x : Answer). TaskRun task u setup (known_layouts o begun u.task) r.asked r.calls r.noted x) (sym is) r.run)
          (subst (λ (x : List Entry). has_open_job x u.task ≡ false) b.is b.at.shut)
          (subst (λ (x : List Entry). has_open_job x u.task ≡ false) came still.at.shut) one

  pub can_again : TurnBegun o n a c u begun → Moved n a (by_task owns c u.task) (is_of_child c) begun ran P (X ran) → (given : Given o n a ran new u.task answer) → Legal o new → CanServe o c new
  can_again b m given legal =
      let g = given.is in
      let one : List Entry = entry n (closing given.again u.task answer) ∷ due_after o g.past (entry n (closing given.again u.task answer)) in
      can_on begun ((m.more ++ g.passed.others) ++ one)
      (g.is ∙ ap (λ (x : List Entry). x ++ one) (g.passed.is ∙ ap (λ (x : List Entry). x ++ g.passed.others) m.is ∙ append_assoc begun m.more g.passed.others) ∙ append_assoc begun (m.more ++ g.passed.others) one)
      legal b.can

  -- where nobody else steps the core, the child is at rest again
  pub rests_then : a ≡ true → TurnBegun o n a c u begun → Moved n a (by_task owns c u.task) (is_of_child c) begun ran P (X ran) → HasTurn ran c u.task → Given o n a ran new u.task answer → NoneAtWork c new
  rests_then lone b m turn given =
      subst (NoneAtWork c) (sym new_is)
      (rests_again n c u.task b.past m.more given.again answer (b.rests lone).rest (wider_made (by_task owns c u.task) (by_server c u.task) (task_serves owns c u.task) n m.more m.own) (m.lone lone)
      (subst (λ (x : List Entry). HasTurn x c u.task) ran_is turn))
    where
      g : Appended o n a ran new (closing given.again u.task answer) (AtTask o n u.task)
      g = given.is

      ran_is : ran ≡ (b.past ++ entry n (Claim u.task c) ∷ []) ++ m.more
      ran_is = m.is ∙ ap (λ (x : List Entry). x ++ m.more) b.is

      alone : (again : Bool) → g.past ++ entry n (closing again u.task answer) ∷ due_after o g.past (entry n (closing again u.task answer)) ≡ g.past ++ entry n (closing again u.task answer) ∷ []
      alone true = refl
      alone false = refl

      new_is : new ≡ ((b.past ++ entry n (Claim u.task c) ∷ []) ++ m.more) ++ entry n (closing given.again u.task answer) ∷ []
      new_is = g.is ∙ alone given.again ∙ ap (λ (x : List Entry). x ++ entry n (closing given.again u.task answer) ∷ []) (still_alone lone g.passed ∙ ran_is)

-- ---- task by task

module _ (o : Opening) (setup : Setup) (owns : Bool) (n : ℕ) (a : Bool) (c : ℕ) where
  module _ (X : List Entry → Type 0) (stays : (past more : List Entry) → any (is_of_child c) more ≡ false → X past → X (past ++ more)) where
    pub worked_still : (old new : List Entry) (desk : DeskTold) → Passed n a old new → Worked o setup owns n a c old new (X old) (X new) desk desk
    worked_still old new desk s = record {
      done = [];
      did = its;
      rests = λ v h. subst (λ (x : List Entry). is_claimed_by x n v ≡ false) (sym s.is) (others_unheld old s.others n v s.apart h);
      ran = tt;
      log_is = gained_nothing desk.log;
      caused = refl;
      last = λ lone. ap ends_closed (append_cancel_left old its.moved.more [] (sym its.moved.is ∙ s.is ∙ ap (λ (x : List Entry). old ++ x) (s.none lone)));
    }
      where
        its : Did owns n a c old new (X old) (X new) []
        its = did_pass X stays s

    pub worked_one : (u : TaskTurn) (old begun new : List Entry) (Q : Type 0) (desk desk' : DeskTold) → (b : TurnBegun o n a c u begun) → Passed n a old b.past
        → TurnDone o setup owns n a c u begun new (X begun) Q desk desk' → Worked o setup owns n a c old new (X old) Q desk desk'
    worked_one u old begun new Q desk desk' b s d = record {
      done = record { task = u.task; turn = u.turn; calls = d.calls; answer = d.answer; counts = desk'.counts } ∷ [];
      did = whole;
      rests = λ v h. by_either (u.task == v) (λ e. subst (λ (t : ℕ). is_claimed_by new n t ≡ false) (same_number u.task v e) d.left)
          (λ e. subst (λ (x : List Entry). is_claimed_by x n v ≡ false) (sym whole.moved.is)
          (untaken_unheld old whole.moved.more n v (turns_untaken n v old whole.moved.more (ap (list_any (λ (w : ℕ × ℕ). w.0 == v)) whole.claimed ∙ (rw e refl))) h));
      ran = (d.run, tt);
      log_is = subst (Gained desk.log desk'.log) (sym (append-nil d.calls)) d.log_is;
      caused = (d.caused, refl);
      last = λ lone. subst (λ (x : List Entry). ends_closed x ≡ true) (append_cancel_left old (more ++ d.last.last ∷ []) whole.moved.more (sym new_is ∙ whole.moved.is)) (ends_behind more d.last.last [] d.last.closes);
    }
      where
        -- what stands before the entry that closes the run
        more : List Entry
        more = (s.others ++ entry n (Claim u.task c) ∷ []) ++ d.last.front

        begun_is : begun ≡ old ++ (s.others ++ entry n (Claim u.task c) ∷ [])
        begun_is = b.is ∙ ap (λ (x : List Entry). x ++ entry n (Claim u.task c) ∷ []) s.is ∙ append_assoc old s.others (entry n (Claim u.task c) ∷ [])

        new_is : new ≡ old ++ (more ++ d.last.last ∷ [])
        new_is = d.last.is
            ∙ ap (λ (x : List Entry). x ++ d.last.last ∷ []) (ap (λ (x : List Entry). x ++ d.last.front) begun_is ∙ append_assoc old (s.others ++ entry n (Claim u.task c) ∷ []) d.last.front)
            ∙ append_assoc old more (d.last.last ∷ [])

        whole : Did owns n a c old new (X old) Q ((u.task, u.turn) ∷ [])
        whole = subst (λ (k : ℕ). Did owns n a c old new (X old) Q ((u.task, k) ∷ [])) b.turn (did_both (did_make X stays (Claim u.task c) s b.is (same c) refl) d.did)

  pub worked_both : (x y z : List Entry) (P Q R : Type 0) (d e f : DeskTold) → Worked o setup owns n a c x y P Q d e → Worked o setup owns n a c y z Q R e f
      → Worked o setup owns n a c x z P R d f
  worked_both x y z P Q R d e f s k = record {
    done = s.done ++ k.done;
    did = its;
    rests = λ v h. k.rests v (s.rests v h);
    ran = ran_both o setup n c z s.done k.done
        (subst (λ (j : List Entry). AllRan o setup n c j s.done) (sym k.did.moved.is) (runs_last o setup n c y k.did.moved.more s.done s.ran)) k.ran;
    log_is = subst (Gained d.log f.log) (sym (calls_both s.done k.done)) (gained_more d.log e.log f.log (all_calls s.done) (all_calls k.done) s.log_is k.log_is);
    caused = caused_both d.counts e.counts f.counts s.done k.done s.caused k.caused;
    last = λ lone. subst (λ (l : List Entry). ends_closed l ≡ true) (append_cancel_left x (s.did.moved.more ++ k.did.moved.more) its.moved.more (sym grown ∙ its.moved.is))
        (ends_both s.did.moved.more k.did.moved.more (s.last lone) (k.last lone));
  }
    where
      its : Did owns n a c x z P R (turns_of (s.done ++ k.done))
      its = subst (λ (ts : List (ℕ × ℕ)). Did owns n a c x z P R ts) (sym (turns_both s.done k.done)) (did_both s.did k.did)

      grown : z ≡ x ++ (s.did.moved.more ++ k.did.moved.more)
      grown = k.did.moved.is ∙ ap (λ (l : List Entry). l ++ k.did.moved.more) s.did.moved.is ∙ append_assoc x s.did.moved.more k.did.moved.more

-- ---- turn by turn

module _ {o p : Opening} {n k : ℕ} {a b : Bool} {c d : ℕ} {w v : Bool} (eo : p ≡ o) (en : k ≡ n) (ea : b ≡ a) (ec : d ≡ c) (ew : v ≡ w) where
  pub worked_then : (setup : Setup) (x y z : List Entry) (P Q R : Type 0) (f g h : DeskTold) → Worked o setup w n a c x y P Q f g → Worked p setup v k b d y z Q R g h
      → Worked o setup w n a c x z P R f h
  worked_then setup x y z P Q R f g h s t =
      worked_both o setup w n a c x y z P Q R f g h s
      (named (λ (q : Opening) (m : ℕ) (l : Bool) (e : ℕ) (u : Bool). Worked q setup u m l e y z Q R g h) eo en ea ec ew t)

pub through_as : {o p : Opening} {c d : ℕ} (z : List Entry) → p ≡ o → d ≡ c → IsThrough p z d → IsThrough o z c
through_as {o} {p} {c} {d} z eo ec t = subst (λ (q : Opening). IsThrough q z c) eo (subst (λ (e : ℕ). IsThrough p z e) ec t)

pub held_as : {o : Opening} {n : ℕ} {a : Bool} {c d : ℕ} {z : List Entry} → d ≡ c → IsHeldUp o n a d z → IsHeldUp o n a c z
held_as {o} {n} {a} {c} {d} {z} ec h = subst (λ (e : ℕ). IsHeldUp o n a e z) ec h

pub can_as : {o p : Opening} {c d : ℕ} {z : List Entry} → p ≡ o → d ≡ c → CanServe o c z → CanServe p d z
can_as {o} {p} {c} {d} {z} eo ec t = subst (λ (q : Opening). CanServe q d z) (sym eo) (subst (λ (e : ℕ). CanServe o e z) (sym ec) t)

pub claims_as : {o : Opening} {n c d : ℕ} {u : TaskTurn} {a : Bool} {x z : List Entry} → d ≡ c → (b : TurnBegun o n a d u z) × Passed n a x b.past → (b : TurnBegun o n a c u z) × Passed n a x b.past
claims_as {o} {n} {c} {d} {u} {a} {x} {z} ec h = subst (λ (e : ℕ). (b : TurnBegun o n a e u z) × Passed n a x b.past) ec h

pub rest_as : {c d : ℕ} {z : List Entry} → d ≡ c → NoneAtWork c z → NoneAtWork d z
rest_as {c} {d} {z} ec r = subst (λ (e : ℕ). NoneAtWork e z) (sym ec) r

-- a task was begun, by the door after the claim
pub begun_as : {H : Type 0} {x y : DoorView H} {c : ℕ} {u : TaskTurn} → IsSameDoor x y → TurnBegun x.opening x.number x.alone c u y.seen → TurnBegun y.opening y.number y.alone c u y.seen
begun_as {H} {x} {y} {c} {u} d b =
    subst (λ (o : Opening). TurnBegun o y.number y.alone c u y.seen) (sym d.opening)
    (subst (λ (n : ℕ). TurnBegun x.opening n y.alone c u y.seen) (sym d.number) (subst (λ (a : Bool). TurnBegun x.opening x.number a c u y.seen) (sym d.alone) b))

pub legal_as : {o p : Opening} {z : List Entry} → p ≡ o → Legal p z → Legal o z
legal_as {z = z} eo l = subst (λ (q : Opening). Legal q z) eo l

pub given_as : {o p : Opening} {n k : ℕ} {a b : Bool} {t : ℕ} {x y : List Entry} (answer : Answer) → p ≡ o → k ≡ n → b ≡ a → Given p k b x y t answer → Given o n a x y t answer
given_as {o} {p} {n} {k} {a} {b} {t} {x} {y} answer eo en ea g =
    subst (λ (q : Opening). Given q n a x y t answer) eo (subst (λ (m : ℕ). Given p m a x y t answer) en (subst (λ (l : Bool). Given p k l x y t answer) ea g))

-- what stays after entries that aren't the child's
pub stays_as : (X : List Entry → Type 0) (c d : ℕ) → d ≡ c → ((past more : List Entry) → any (is_of_child d) more ≡ false → X past → X (past ++ more))
    → (past more : List Entry) → any (is_of_child c) more ≡ false → X past → X (past ++ more)
stays_as X c d ec f past more none x = f past more (ap (λ (e : ℕ). any (is_of_child e) more) ec ∙ none) x

pub passed_none : (n : ℕ) (a : Bool) (x : List Entry) → Passed n a x x
passed_none n a x = record { others = []; is = sym (append-nil x); apart = refl; none = λ h. refl }

-- the journal is seen by another name
pub worked_seen : (o : Opening) (setup : Setup) (owns : Bool) (n : ℕ) (a : Bool) (c : ℕ) (x y z : List Entry) (P : Type 0) (X : List Entry → Type 0) (d e : DeskTold) → z ≡ y
    → Worked o setup owns n a c x y P (X y) d e → Worked o setup owns n a c x z P (X z) d e
worked_seen o setup owns n a c x y z P X d e is s = subst (λ (j : List Entry). Worked o setup owns n a c x j P (X j) d e) (sym is) s

pub can_seen : {o p : Opening} {c : ℕ} {y z : List Entry} → p ≡ o → z ≡ y → CanServe o c y → CanServe p c z
can_seen {o} {p} {c} {y} {z} eo is t = subst (λ (q : Opening). CanServe q c z) (sym eo) (subst (λ (j : List Entry). CanServe o c j) (sym is) t)

-- ---- fewer claims are left

-- a task that is claimed after entries of others
pub fewer_behind : (o : Opening) {n c : ℕ} {u : TaskTurn} {a : Bool} (old mid new more : List Entry) (b : TurnBegun o n a c u mid) → Passed n a old b.past → new ≡ mid ++ more → Legal o new
    → claims_left o new < claims_left o old
fewer_behind o {n} {c} {u} old mid new more b p is legal =
    let less : claims_left o new < claims_left o b.past = fewer_left o b.past new more n c u.task legal (is ∙ ap (λ (x : List Entry). x ++ more) b.is) in
    let same : claims_left o b.past ≡ claims_left o (old ++ p.others) = ap (λ (x : List Entry). claims_left o x) p.is in
    omega (arith, less, same, claims_left_same o old p.others)

-- ---- where nobody else steps the core

-- all that was made is what a worker makes
pub alone_only : {o : Opening} {setup : Setup} {owns : Bool} {n : ℕ} {a : Bool} {c : ℕ} {x y : List Entry} {P Q : Type 0} {d e : DeskTold} → (w : Worked o setup owns n a c x y P Q d e) → a ≡ true
    → list_all (λ (z : Entry). by_worker owns c z.what) w.did.moved.more ≡ true
alone_only {owns = owns} {n = n} {c = c} w lone = all_made (by_worker owns c) (by_worker owns c) (λ z h. h) n w.did.moved.more w.did.moved.own (w.did.moved.lone lone)

-- it is so whatever is known of its link
pub alone_worked : {o : Opening} {setup : Setup} {n : ℕ} {a : Bool} {c : ℕ} {x y : List Entry} {P Q : Type 0} {d e : DeskTold} → a ≡ true → Worked o setup true n a c x y P Q d e → WorkedAlone o setup n c x y d e
alone_worked {n = n} lone w = record {
  done = w.done;
  did = record { moved = record { more = w.did.moved.more; is = w.did.moved.is; own = w.did.moved.own; lone = λ h. w.did.moved.lone lone; kept = λ h u. u }; claimed = w.did.claimed };
  rests = w.rests;
  ran = w.ran;
  log_is = w.log_is;
  caused = w.caused;
  last = λ h. w.last lone;
}

-- the link stays wired
pub alone_keeps : {o : Opening} {setup : Setup} {n : ℕ} {a : Bool} {c : ℕ} {x y : List Entry} {d d' : DeskTold} (e f : EarValue) (m v : MouthValue) → a ≡ true → IsSameLink e f m v
    → Worked o setup true n a c x y (LoneWired x e m) (LoneWired y f v) d d' → KeepsLink x y e f m v
alone_keeps {n = n} {c = c} e f m v lone same w = record {
  wired = λ before. w.did.moved.kept (by_own (is_of_child c) n w.did.moved.more (w.did.moved.lone lone)) before;
  same_ear = same.0;
  same_mouth = same.1;
}
