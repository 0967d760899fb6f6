-- What the steps of a remote come to.
use Rattle.std.proofs.Common.{zero, suc, ◌≡◌, ℕ, ◌+◌, ◌-◌, ◌*◌, ◌≤◌, ◌<◌, List, [], ◌∷◌, ◌++◌, refl, sym, ap, subst, ◌∙◌, Bool, true, false, not, ◌==◌, cond, Some, None, Option, length, get_or, length-append, append_assoc, arith}
use Rattle.std.specs.Prelude.{Result, Ok, Err, IfOk, ◌&&◌, ◌||◌, find, map, position, fold, set, remove, slice_get, nat_lt, IfSome}
use Rattle.std.proofs.lemmas.Bool.Decides.{nat_tests}
use Rattle.std.proofs.lemmas.List.{append-nil, length-set}
use Rattle.std.proofs.lemmas.Option.{slice_get_within}
use Rattle.ann_key.specs.declared.bytes.NoMemory.{NoMemory}
use Rattle.kit_serve.specs.declared.kit.call.Said.{Said}
use Rattle.kit_serve.specs.Kit.Calls.{is_line_said}
use Rattle.kit_async_model.specs.declared.setup.Setup.{Setup}
use Rattle.kit_async_model.specs.declared.job.Job.{Job}
use Rattle.kit_async_model.specs.declared.entry.Entry.{Entry}
use Rattle.kit_async_model.specs.declared.entry.Entry.TheVariants.{Take, Call, Say, Lack}
use Rattle.kit_async_model.specs.declared.event.Reply.{Reply}
use Rattle.kit_async_model.specs.declared.event.Reply.TheVariants.{Done, Odd, Unsaid}
use Rattle.kit_async_model.specs.Jobs.{request_of, is_making_ready, is_awaiting, is_worked_by, settles, prepared_after, finals_in, job_line, job_of, with_job, without_job}
use Rattle.kit_async_model.specs.Standings.{Standing, with_taken, with_call, answer_due, called_in, told_by, after}
use Rattle.kit_async_model.specs.Legality.{is_idle, is_free, is_turn_of, is_called, is_done}
use Rattle.kit_async_model.specs.Events.{Stepped, waiting, due_said, work_in, first_free, free_step, turn_step, take_step, called_then, called_step, call_step}
use Rattle.kit_async_model.specs.Books.{BookIsAsBefore, AnswerKept, AnswerBegun, BookValue, AreApart, most_calls, calls_owed, room_owed, Took, Lacked, IsCalledAt, CallNoted}
use Rattle.kit_async_model.proofs.Places.{Found, found_place, found_none, read_is, job_there, job_changed, change_there, removal_there, removal_changed, calls_set, calls_remove, passes_of}
use Rattle.kit_async_model.proofs.Across.{finals_of}
use Rattle.kit_async_core.proofs.Saying.{with_number, say_all, each_said, said_through, said_goes}
use Rattle.std.proofs.lemmas.Bool.{not-true as not_false, and_parts as both}

-- ---- who may be called

below : (calls remote remotes : ℕ) → (calls == remote) ≡ true → nat_lt remote remotes ≡ true → calls < remotes
below calls remote remotes e l = grind (arith, nat_tests)

zero_below : (calls : ℕ) → (calls == 0) ≡ true → calls < 1
zero_below calls e = grind (arith, nat_tests)

-- a job that a remote is called for awaits no value, and has a call to come
pub called_few : (setup : Setup) (jobs : List Job) (remote : ℕ) (job : Job) → is_called setup jobs remote job ≡ true → job.calls < most_calls setup job
called_few setup jobs remote job h = go (is_making_ready job) refl h
  where
    go : (b : Bool) → is_making_ready job ≡ b → cond b (is_turn_of setup jobs remote job) (is_worked_by remote job) ≡ true → job.calls < cond b setup.remotes 1
    go true e k =
        let a = both _ (is_idle jobs remote) k in
        let b = both _ (nat_lt remote setup.remotes) a.0 in
        let c = both _ (job.calls == remote) b.0 in
        below job.calls remote setup.remotes c.1 b.1
    go false e k = zero_below job.calls (both _ (job.calls == 0) k).1

pub called_waits : (setup : Setup) (jobs : List Job) (remote : ℕ) (job : Job) → is_called setup jobs remote job ≡ true → is_awaiting setup job ≡ false
called_waits setup jobs remote job h = go (is_making_ready job) refl h
  where
    go : (b : Bool) → is_making_ready job ≡ b → cond b (is_turn_of setup jobs remote job) (is_worked_by remote job) ≡ true → is_awaiting setup job ≡ false
    go true e k =
        let a = both _ (is_idle jobs remote) k in
        let b = both _ (nat_lt remote setup.remotes) a.0 in
        let c = both _ (job.calls == remote) b.0 in
        let d = both _ (not job.settled) c.0 in
        not_false (is_awaiting setup job) (both (is_making_ready job) (not (is_awaiting setup job)) d.0).1
    go false e k = rw e refl

pub called_at : (setup : Setup) (s : Standing) (remote : ℕ) (said : Said) (place : ℕ) → Found (is_called setup s.jobs remote) s.jobs place → is_line_said said ≡ true
    → IsCalledAt setup s remote said place
called_at setup s remote said place f l = record { job = f.job; there = f.there; called = f.find_is; line = l; few = called_few setup s.jobs remote f.job f.passes }

-- ---- a call

-- what is known of a call that is noted
record Knows (setup : Setup) (s : Standing) (remote : ℕ) (said : Said) (place : ℕ) (job : Job) : Type 0 where
  step : call_step setup s remote said ≡ called_then (after setup s (Call job.number remote said)) (Call job.number remote said)
  after_is : after setup s (Call job.number remote said) ≡ record s {
    due = answer_due setup job said s.over;
    prepared = prepared_after setup job said s.prepared;
    jobs = set s.jobs place (with_call (settles setup job said) job);
  }
  owed : calls_owed setup (set s.jobs place (with_call (settles setup job said) job)) + 1 ≡ calls_owed setup s.jobs

one_fewer : (a b m c : ℕ) → a + (m - c) ≡ b + (m - (c + 1)) → c < m → a + 1 ≡ b
one_fewer a b m c e h = omega (arith, e, h)

knows : (setup : Setup) (s : Standing) (remote : ℕ) (said : Said) (place : ℕ) → AreApart s.jobs → (k : IsCalledAt setup s remote said place)
    → Knows setup s remote said place k.job
knows setup s remote said place a k =
    let job : Job = k.job in
    let new : Job = with_call (settles setup job said) job in
    record {
      step = rw (k.line, k.called) refl;
      after_is = ap (called_in setup s said) (job_there s.jobs place job a k.there)
          ∙ ap (λ (js : List Job). record s { due = answer_due setup job said s.over; prepared = prepared_after setup job said s.prepared; jobs = js })
          (change_there (with_call (settles setup job said)) s.jobs place job a k.there);
      owed = one_fewer (calls_owed setup (set s.jobs place new)) (calls_owed setup s.jobs) (most_calls setup job) job.calls
          (calls_set setup s.jobs place job new k.there) k.few;
    }

-- the job of the call that was noted is the one that was called
same_job : (setup : Setup) (old new : BookValue) (remote : ℕ) (said : Said) (place : ℕ) → (k : IsCalledAt setup old.stands remote said place)
    → (n : CallNoted setup old new remote said place) → n.job ≡ k.job
same_job setup old new remote said place k n = let both_are : Some n.job ≡ Some k.job = sym n.there ∙ k.there in cc

-- after a call the lines that are due, if there are some
called_took : (setup : Setup) (old new : BookValue) (remote : ℕ) (said : Said) (job : Job) (t : Standing) (due : List (ℕ × List ℕ))
    → call_step setup old.stands remote said ≡ called_then (after setup old.stands (Call job.number remote said)) (Call job.number remote said)
    → after setup old.stands (Call job.number remote said) ≡ t → t.due ≡ due
    → new.journal ≡ old.journal ++ Call job.number remote said ∷ due_said due
    → new.stands ≡ fold (after setup) t (due_said due)
    → (room_owed setup old.stands ≤ old.room → room_owed setup new.stands ≤ new.room)
    → Took setup old new (call_step setup old.stands remote said) Done
called_took setup old new remote said job t due is ts d j s room =
    let call : Entry = Call job.number remote said in
    let whole : call_step setup old.stands remote said ≡ record { group = call ∷ due_said due; reply = Done } =
    is ∙ ap (λ (u : Standing). called_then u call) ts ∙ ap (λ (o : List (ℕ × List ℕ)). record { group = call ∷ due_said o; reply = Done }) d in
    record {
      reply_is = sym (ap (λ (step : Stepped). step.reply) whole);
      journal = j ∙ sym (ap (λ (step : Stepped). old.journal ++ step.group) whole);
      stands = s ∙ ap (λ (u : Standing). fold (after setup) u (due_said due)) (sym ts)
          ∙ sym (ap (λ (step : Stepped). fold (after setup) old.stands step.group) whole);
      room = room;
    }

unanswered : (setup : Setup) (job : Job) (said : Said) (over : Bool) → (not over && settles setup job said) ≡ false → answer_due setup job said over ≡ []
unanswered setup job said over h = rw h refl

answered : (setup : Setup) (job : Job) (said : Said) (over : Bool) → over ≡ false → settles setup job said ≡ true
    → answer_due setup job said over ≡ with_number job.number (finals_in job said)
answered setup job said over o h = rw (o, h) refl

pub noted_took : (setup : Setup) (old new : BookValue) (remote : ℕ) (said : Said) (place : ℕ) → old.stands.due ≡ [] → AreApart old.stands.jobs
    → (k : IsCalledAt setup old.stands remote said place) → CallNoted setup old new remote said place
    → (not old.stands.over && settles setup k.job said) ≡ false
    → Took setup old new (call_step setup old.stands remote said) Done
noted_took setup old new remote said place d a k n h =
    let job : Job = k.job in
    let w = knows setup old.stands remote said place a k in
    let is = same_job setup old new remote said place k n in
    let jobs : List Job = set old.stands.jobs place (with_call (settles setup job said) job) in
    let s : new.stands ≡ record old.stands { prepared = prepared_after setup job said old.stands.prepared; jobs = jobs } =
    n.stands ∙ ap (λ (j : Job). record old.stands { prepared = prepared_after setup j said old.stands.prepared; jobs = set old.stands.jobs place (with_call (settles setup j said) j) }) is in
    let silent : answer_due setup job said old.stands.over ≡ [] = unanswered setup job said old.stands.over h in
    called_took setup old new remote said job
    (record old.stands { due = answer_due setup job said old.stands.over; prepared = prepared_after setup job said old.stands.prepared; jobs = jobs })
    [] w.step w.after_is silent
    (n.journal ∙ ap (λ (j : Job). old.journal ++ Call j.number remote said ∷ []) is)
    (s ∙ ap (λ (o : List (ℕ × List ℕ)). record old.stands { due = o; prepared = prepared_after setup job said old.stands.prepared; jobs = jobs }) (d ∙ sym silent))
    (λ l.
    let e : room_owed setup new.stands ≡ 3 * calls_owed setup jobs + length old.stands.unwritten = ap (room_owed setup) s in
    omega (arith, e, l, n.room, w.owed))

-- ---- a call that settles its job

remove_set : (jobs : List Job) (place : ℕ) (job : Job) → remove (set jobs place job) place ≡ remove jobs place
remove_set [] place job = refl
remove_set (x ∷ xs) zero job = refl
remove_set (x ∷ xs) (suc k) job = ap (λ (js : List Job). x ∷ js) (remove_set xs k job)

-- it is answered: the lines of the answer are said and to be written, and the job is closed
pub settled_took : (setup : Setup) (old new : BookValue) (remote : ℕ) (said : Said) (place : ℕ) (lines : List (List ℕ)) → AreApart old.stands.jobs
    → (k : IsCalledAt setup old.stands remote said place) → old.stands.over ≡ false → settles setup k.job said ≡ true
    → lines ≡ map (job_line k.job.number) (finals_in k.job said)
    → new.journal ≡ old.journal ++ Call k.job.number remote said ∷ say_all k.job.number lines
    → new.stands ≡ record old.stands {
      due = [];
      prepared = prepared_after setup k.job said old.stands.prepared;
      told = told_by (prepared_after setup k.job said old.stands.prepared) k.job old.stands.told;
      jobs = remove old.stands.jobs place;
      unwritten = old.stands.unwritten ++ lines;
    }
    → new.room + length lines + 1 ≡ old.room + 2 * (length lines - 1)
    → Took setup old new (call_step setup old.stands remote said) Done
settled_took setup old new remote said place lines a k o h l j s r =
    let job : Job = k.job in
    let w = knows setup old.stands remote said place a k in
    let f = finals_of (request_of job) said in
    let called : Job = with_call (settles setup job said) job in
    let jobs : List Job = set old.stands.jobs place called in
    let due : List (ℕ × List ℕ) = with_number job.number (f.line ∷ f.lines) in
    let wire : List (List ℕ) = map (job_line job.number) (f.line ∷ f.lines) in
    let wired : lines ≡ wire = l ∙ ap (λ (ls : List (List ℕ)). map (job_line job.number) ls) f.are in
    let t : Standing = record old.stands { due = due; prepared = prepared_after setup job said old.stands.prepared; jobs = jobs } in
    let after_is : after setup old.stands (Call job.number remote said) ≡ t =
    w.after_is ∙ ap (λ (o : List (ℕ × List ℕ)). record old.stands { due = o; prepared = prepared_after setup job said old.stands.prepared; jobs = jobs })
    (answered setup job said old.stands.over o h ∙ ap (λ (ls : List (List ℕ)). with_number job.number ls) f.are) in
    let u : Standing = record t { due = []; unwritten = old.stands.unwritten ++ wire } in
    let told : List (List ℕ) = told_by (prepared_after setup job said old.stands.prepared) job old.stands.told in
    let changed : with_job job.number (with_call (settles setup job said)) old.stands.jobs ≡ jobs = change_there (with_call (settles setup job said)) old.stands.jobs place job a k.there in
    let found : job_of jobs job.number ≡ Some called =
    ap (λ (js : List Job). job_of js job.number) (sym changed)
    ∙ job_changed (with_call (settles setup job said)) old.stands.jobs job.number job (λ x. refl) (job_there old.stands.jobs place job a k.there) in
    let gone : without_job job.number jobs ≡ remove old.stands.jobs place =
    ap (without_job job.number) (sym changed)
    ∙ removal_changed (with_call (settles setup job said)) old.stands.jobs job.number (λ x. refl)
    ∙ removal_there old.stands.jobs place job a k.there in
    let waits : is_awaiting setup called ≡ false = called_waits setup old.stands.jobs remote job (passes_of (is_called setup old.stands.jobs remote) old.stands.jobs job k.called) in
    called_took setup old new remote said job t due w.step after_is refl
    (j ∙ ap (λ (ls : List (List ℕ)). old.journal ++ Call job.number remote said ∷ say_all job.number ls) wired
    ∙ ap (λ (es : List Entry). old.journal ++ Call job.number remote said ∷ es) (sym (each_said job.number (f.line ∷ f.lines))))
    (s ∙ ap (λ (ls : List (List ℕ)). record u { told = told; jobs = remove old.stands.jobs place; unwritten = old.stands.unwritten ++ ls }) wired
    ∙ ap (λ (js : List Job). record u { told = told; jobs = js }) (sym gone)
    ∙ sym (said_goes setup u called refl o waits)
    ∙ sym (said_through setup t called f.line f.lines refl found))
    (λ m.
    let e : room_owed setup new.stands ≡ 3 * calls_owed setup (remove old.stands.jobs place) + length (old.stands.unwritten ++ lines) = ap (room_owed setup) s in
    let removed = calls_remove setup old.stands.jobs place job k.there in
    let some : length lines ≡ suc (length (map (job_line job.number) f.lines)) = ap (λ (ls : List (List ℕ)). length ls) wired in
    omega (arith, e, m, r, removed, k.few, some, length-append old.stands.unwritten lines))

-- no memory was found for the answer
pub settled_lacked : (setup : Setup) (old new : BookValue) (remote : ℕ) (said : Said) (place : ℕ) → AreApart old.stands.jobs
    → (k : IsCalledAt setup old.stands remote said place) → old.stands.over ≡ false → settles setup k.job said ≡ true
    → new.journal ≡ old.journal ++ Call k.job.number remote said ∷ Lack ∷ []
    → new.stands ≡ record old.stands {
      due = [];
      prepared = prepared_after setup k.job said old.stands.prepared;
      jobs = set old.stands.jobs place (with_call (settles setup k.job said) k.job);
      over = true;
    }
    → old.room ≤ new.room + 2
    → Lacked setup old new (call_step setup old.stands remote said) Unsaid
settled_lacked setup old new remote said place a k o h j s r =
    let job : Job = k.job in
    let call : Entry = Call job.number remote said in
    let w = knows setup old.stands remote said place a k in
    let jobs : List Job = set old.stands.jobs place (with_call (settles setup job said) job) in
    let t : Standing = record old.stands { due = answer_due setup job said old.stands.over; prepared = prepared_after setup job said old.stands.prepared; jobs = jobs } in
    let f = finals_of (request_of job) said in
    let due : t.due ≡ with_number job.number (f.line ∷ f.lines) = answered setup job said old.stands.over o h ∙ ap (λ (ls : List (List ℕ)). with_number job.number ls) f.are in
    record {
      group = call ∷ Lack ∷ [];
      unsaid = record {
        call = call;
        answer = Say job.number (job_line job.number f.line);
        more = due_said (with_number job.number f.lines);
        whole = ap (λ (step : Stepped). step.group) w.step
            ∙ ap (λ (u : Standing). call ∷ due_said u.due) w.after_is
            ∙ ap (λ (x : List (ℕ × List ℕ)). call ∷ due_said x) due;
        reply_is = refl;
        group_is = refl;
      };
      journal = j;
      stands = s ∙ ap (λ (u : Standing). record u { due = []; over = true }) (sym w.after_is);
      room = λ m.
          let e : room_owed setup new.stands ≡ 3 * calls_owed setup jobs + length old.stands.unwritten = ap (room_owed setup) s in
          omega (arith, e, m, r, w.owed);
    }

-- ---- taking up a request

pub same_took : (setup : Setup) (old : BookValue) (step : Stepped) (reply : Reply) → step ≡ record { group = []; reply = reply } → Took setup old old step reply
same_took setup old step reply e = record {
  reply_is = sym (ap (λ (x : Stepped). x.reply) e);
  journal = sym (append-nil old.journal) ∙ sym (ap (λ (x : Stepped). old.journal ++ x.group) e);
  stands = sym (ap (λ (x : Stepped). fold (after setup) old.stands x.group) e);
  room = λ m. m;
}

pub take_took : (setup : Setup) (old new : BookValue) (remote place : ℕ) → AreApart old.stands.jobs
    → find (is_turn_of setup old.stands.jobs remote) old.stands.jobs ≡ None
    → old.stands.over ≡ false → is_idle old.stands.jobs remote ≡ true
    → (f : Found (is_free setup old.stands.jobs) old.stands.jobs place)
    → new.journal ≡ old.journal ++ Take f.job.number remote ∷ []
    → new.stands ≡ record old.stands { jobs = set old.stands.jobs place (record f.job { taken = Some remote }) }
    → new.room ≡ old.room
    → Took setup old new (take_step setup old.stands remote) (work_in setup f.job)
take_took setup old new remote place a none o idle f j s r =
    let job : Job = f.job in
    let step : take_step setup old.stands remote ≡ record { group = Take job.number remote ∷ []; reply = work_in setup job } = rw (none, o, idle, f.find_is) refl in
    let jobs : with_job job.number (with_taken remote) old.stands.jobs ≡ set old.stands.jobs place (with_taken remote job) = change_there (with_taken remote) old.stands.jobs place job a f.there in
    let owed = calls_set setup old.stands.jobs place job (with_taken remote job) f.there in
    record {
      reply_is = sym (ap (λ (x : Stepped). x.reply) step);
      journal = j ∙ sym (ap (λ (x : Stepped). old.journal ++ x.group) step);
      stands = s ∙ ap (λ (js : List Job). record old.stands { jobs = js }) (sym jobs) ∙ sym (ap (λ (x : Stepped). fold (after setup) old.stands x.group) step);
      room = λ m.
          let e : room_owed setup new.stands ≡ 3 * calls_owed setup (set old.stands.jobs place (with_taken remote job)) + length old.stands.unwritten = ap (room_owed setup) s in
          omega (arith, e, m, r, owed);
    }

-- ---- a call that settles its job, in its parts

-- what is known once its answer was begun, whether or not memory was found for it
pub record CoreBegun (old mid : BookValue) : Type 0 where
  pub room : old.room ≤ mid.room
  pub jobs : mid.stands.jobs ≡ old.stands.jobs

pub begun_is : (old mid : BookValue) (place : ℕ) (said : Said) (o : Option (List (List ℕ))) → AnswerBegun old mid place said o → CoreBegun old mid
begun_is old mid place said None b = record { room = b.room; jobs = ap (λ (t : Standing). t.jobs) b.stands }
begun_is old mid place said (Some lines) b = record { room = omega (arith, b.room); jobs = ap (λ (t : Standing). t.jobs) b.stands }

-- there is room for the call, its answer, and that it is written
pub some_room : (setup : Setup) (old : BookValue) (remote : ℕ) (said : Said) (place : ℕ) → IsCalledAt setup old.stands remote said place → room_owed setup old.stands ≤ old.room → 3 ≤ old.room
some_room setup old remote said place k r =
    let removed = calls_remove setup old.stands.jobs place k.job k.there in
    omega (arith, removed, k.few, r)

-- the job stands there still
pub still_within : (setup : Setup) (old mid noted : BookValue) (remote : ℕ) (said : Said) (place : ℕ) → IsCalledAt setup old.stands remote said place → CoreBegun old mid
    → CallNoted setup mid noted remote said place → place < length noted.stands.jobs
still_within setup old mid noted remote said place k b n =
    let within : place < length old.stands.jobs = slice_get_within old.stands.jobs place k.job k.there in
    let one = ap (λ (t : Standing). length t.jobs) n.stands in
    let two = length-set mid.stands.jobs place (with_call (settles setup n.job said) n.job) in
    let three = ap (λ (js : List Job). length js) b.jobs in
    omega (arith, within, one, two, three)

-- the job that the mid book has there
mid_job : (setup : Setup) (old mid noted : BookValue) (remote : ℕ) (said : Said) (place : ℕ) → (k : IsCalledAt setup old.stands remote said place) → mid.stands.jobs ≡ old.stands.jobs
    → (n : CallNoted setup mid noted remote said place) → n.job ≡ k.job
mid_job setup old mid noted remote said place k j n =
    let both_are : Some n.job ≡ Some k.job = sym n.there ∙ ap (λ (js : List Job). slice_get js place) j ∙ k.there in cc

-- what was put at a place stands there
set_there : (jobs : List Job) (place : ℕ) (old new : Job) → slice_get jobs place ≡ Some old → slice_get (set jobs place new) place ≡ Some new
set_there [] place old new h = absurd cc
set_there (x ∷ xs) zero old new h = refl
set_there (x ∷ xs) (suc k) old new h = set_there xs k old new h

pub answered_settles : (setup : Setup) (old mid noted new : BookValue) (remote : ℕ) (said : Said) (place number : ℕ) (lines : List (List ℕ)) → AreApart old.stands.jobs
    → (k : IsCalledAt setup old.stands remote said place) → old.stands.over ≡ false → settles setup k.job said ≡ true → number ≡ k.job.number
    → AnswerKept old mid place said lines → CallNoted setup mid noted remote said place
    → new.journal ≡ noted.journal ++ say_all number lines
    → IfSome (slice_get noted.stands.jobs place) (λ job. new.stands ≡ record noted.stands { due = []; told = told_by noted.stands.prepared job noted.stands.told; jobs = remove noted.stands.jobs place })
    → new.room + length lines ≡ noted.room
    → Took setup old new (call_step setup old.stands remote said) Done
answered_settles setup old mid noted new remote said place number lines a k o h num b n j s r =
    let is : n.job ≡ k.job = mid_job setup old mid noted remote said place k (ap (λ (t : Standing). t.jobs) b.stands) n in
    let called : Job = with_call (settles setup n.job said) n.job in
    let there : slice_get noted.stands.jobs place ≡ Some called =
    ap (λ (t : Standing). slice_get t.jobs place) n.stands ∙ set_there mid.stands.jobs place n.job called n.there in
    let stands : new.stands ≡ record noted.stands { due = []; told = told_by noted.stands.prepared called noted.stands.told; jobs = remove noted.stands.jobs place } =
    subst (λ (x : Option Job). IfSome x (λ job. new.stands ≡ record noted.stands { due = []; told = told_by noted.stands.prepared job noted.stands.told; jobs = remove noted.stands.jobs place })) there s in
    let answer : lines ≡ map (job_line k.job.number) (finals_in k.job said) = subst (λ (x : Option Job). IfSome x (λ job. lines ≡ map (job_line job.number) (finals_in job said))) k.there b.answer in
    settled_took setup old new remote said place lines a k o h answer
    (j ∙ ap (λ (es : List Entry). es ++ say_all number lines) (n.journal ∙ ap (λ (es : List Entry). es ++ Call n.job.number remote said ∷ []) b.journal)
    ∙ append_assoc old.journal (Call n.job.number remote said ∷ []) (say_all number lines)
    ∙ ap (λ (x : Job). old.journal ++ Call x.number remote said ∷ say_all number lines) is
    ∙ ap (λ (m : ℕ). old.journal ++ Call k.job.number remote said ∷ say_all m lines) num)
    (stands
    ∙ ap (λ (t : Standing). record t { due = []; told = told_by t.prepared called t.told; jobs = remove t.jobs place }) n.stands
    ∙ ap (λ (t : Standing). record t { due = []; prepared = prepared_after setup n.job said t.prepared; told = told_by (prepared_after setup n.job said t.prepared) called t.told; jobs = remove (set t.jobs place called) place }) b.stands
    ∙ ap (λ (js : List Job). record old.stands { due = []; prepared = prepared_after setup n.job said old.stands.prepared; told = told_by (prepared_after setup n.job said old.stands.prepared) called old.stands.told; jobs = js; unwritten = old.stands.unwritten ++ lines })
    (remove_set old.stands.jobs place called)
    ∙ ap (λ (x : Job). record old.stands { due = []; prepared = prepared_after setup x said old.stands.prepared; told = told_by (prepared_after setup x said old.stands.prepared) x old.stands.told; jobs = remove old.stands.jobs place; unwritten = old.stands.unwritten ++ lines }) is)
    (omega (arith, r, n.room, b.room))

pub lacking_settles : (setup : Setup) (old mid noted new : BookValue) (remote : ℕ) (said : Said) (place : ℕ) → AreApart old.stands.jobs
    → (k : IsCalledAt setup old.stands remote said place) → old.stands.over ≡ false → settles setup k.job said ≡ true
    → BookIsAsBefore old mid → CallNoted setup mid noted remote said place
    → new.journal ≡ noted.journal ++ Lack ∷ []
    → new.stands ≡ record noted.stands { due = []; over = true }
    → new.room + 1 ≡ noted.room
    → Lacked setup old new (call_step setup old.stands remote said) Unsaid
lacking_settles setup old mid noted new remote said place a k o h b n j s r =
    let is : n.job ≡ k.job = mid_job setup old mid noted remote said place k (ap (λ (t : Standing). t.jobs) b.stands) n in
    settled_lacked setup old new remote said place a k o h
    (j ∙ ap (λ (es : List Entry). es ++ Lack ∷ []) (n.journal ∙ ap (λ (es : List Entry). es ++ Call n.job.number remote said ∷ []) b.journal)
    ∙ append_assoc old.journal (Call n.job.number remote said ∷ []) (Lack ∷ [])
    ∙ ap (λ (x : Job). old.journal ++ Call x.number remote said ∷ Lack ∷ []) is)
    (s
    ∙ ap (λ (t : Standing). record t { due = []; over = true }) n.stands
    ∙ ap (λ (t : Standing). record t { due = []; prepared = prepared_after setup n.job said t.prepared; jobs = set t.jobs place (with_call (settles setup n.job said) n.job); over = true }) b.stands
    ∙ ap (λ (x : Job). record old.stands { due = []; prepared = prepared_after setup x said old.stands.prepared; jobs = set old.stands.jobs place (with_call (settles setup x said) x); over = true }) is)
    (omega (arith, r, n.room, b.room))

-- ---- what is asked for

pub turn_took : (setup : Setup) (old : BookValue) (remote place : ℕ) (job : Job) (r : Result Reply NoMemory)
    → position (is_turn_of setup old.stands.jobs remote) old.stands.jobs ≡ Some place → job ≡ get_or old.stands.jobs place job
    → IfOk r (λ reply. reply ≡ work_in setup job) → IfOk r (Took setup old old (take_step setup old.stands remote))
turn_took setup old remote place job (Err e) p g w = tt
turn_took setup old remote place job (Ok reply) p g w =
    let f = found_place (is_turn_of setup old.stands.jobs remote) old.stands.jobs place p in
    let is : job ≡ f.job = read_is old.stands.jobs place f.job job f.there g in
    same_took setup old (take_step setup old.stands remote) reply
    (ap (turn_step setup old.stands remote) f.find_is ∙ ap (λ (x : Reply). record { group = []; reply = x }) (ap (work_in setup) (sym is) ∙ sym w))

pub waiting_took : (setup : Setup) (old : BookValue) (remote : ℕ) (reply : Reply) → position (is_turn_of setup old.stands.jobs remote) old.stands.jobs ≡ None
    → first_free setup old.stands remote ≡ None → reply ≡ waiting (is_done setup old.stands) → Took setup old old (take_step setup old.stands remote) reply
waiting_took setup old remote reply p n w =
    same_took setup old (take_step setup old.stands remote) reply
    (ap (turn_step setup old.stands remote) (found_none (is_turn_of setup old.stands.jobs remote) old.stands.jobs p)
    ∙ ap (free_step setup old.stands remote) n ∙ ap (λ (x : Reply). record { group = []; reply = x }) (sym w))

pub none_begun : (setup : Setup) (s : Standing) (remote : ℕ) → (not s.over && is_idle s.jobs remote) ≡ false → first_free setup s remote ≡ None
none_begun setup s remote h = rw (turned s.over (is_idle s.jobs remote) h) refl
  where
    turned : (a b : Bool) → (not a && b) ≡ false → (a || not b) ≡ true
    turned true b k = refl
    turned false true k = absurd cc
    turned false false k = refl

pub none_free : (setup : Setup) (s : Standing) (remote : ℕ) → position (is_free setup s.jobs) s.jobs ≡ None → first_free setup s remote ≡ None
none_free setup s remote p = go (s.over || not (is_idle s.jobs remote))
  where
    go : (b : Bool) → cond {A = Option Job} b None (find (is_free setup s.jobs) s.jobs) ≡ None
    go true = refl
    go false = found_none (is_free setup s.jobs) s.jobs p

-- where nothing is to be noted
pub odd_line : (setup : Setup) (old : BookValue) (remote : ℕ) (said : Said) → is_line_said said ≡ false → Took setup old old (call_step setup old.stands remote said) Odd
odd_line setup old remote said l = same_took setup old (call_step setup old.stands remote said) Odd (rw l refl)

pub odd_call : (setup : Setup) (old : BookValue) (remote : ℕ) (said : Said) → is_line_said said ≡ true → position (is_called setup old.stands.jobs remote) old.stands.jobs ≡ None
    → Took setup old old (call_step setup old.stands remote said) Odd
odd_call setup old remote said l p =
    same_took setup old (call_step setup old.stands remote said) Odd
    (rw l (ap (called_step setup old.stands remote said) (found_none (is_called setup old.stands.jobs remote) old.stands.jobs p)))
