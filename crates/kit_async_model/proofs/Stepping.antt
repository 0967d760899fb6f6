-- Each step of a core leaves its journal legal.
use Rattle.std.proofs.Common.{◌≡◌, ℕ, ◌<◌, ◌^◌, List, [], ◌∷◌, ◌++◌, refl, sym, ap, subst, Bool, true, false, not, ◌==◌, cond, Some, None, Option, arith}
use Rattle.std.specs.Prelude.{◌&&◌, ◌||◌, drop, fold, find, nat_lt, nat_le, slice_index, decimal, length, get_or}
use Rattle.std.proofs.lemmas.Bool.Decides.{nat_tests}
use Rattle.std.proofs.lemmas.Fmt.{first_decimal, decimal_nonempty}
use Rattle.annex_model.specs.Tags.{tagged_line}
use Rattle.annex_model.proofs.TagReadings.{untag_of_tagged}
use Rattle.kit_serve.specs.declared.kit.call.Said.{Said}
use Rattle.kit_serve.specs.Kit.Calls.{is_line_said}
use Rattle.kit_async_model.specs.declared.setup.Setup.{Setup}
use Rattle.kit_async_model.specs.declared.job.Job.{Job}
use Rattle.kit_async_model.specs.declared.entry.Entry.{Entry}
use Rattle.kit_async_model.specs.declared.entry.Entry.TheVariants.{Heard, Take, Call, Say, Wrote, Close}
use Rattle.kit_async_model.specs.declared.event.Event.{Event}
use Rattle.kit_async_model.specs.declared.event.Event.TheVariants.{Hear, Take as TakeUp, Called, Next, Wrote as Written, Close as Deafen, Break}
use Rattle.kit_async_model.specs.Jobs.{is_awaiting, is_job_line, job_line, has_number, job_of}
use Rattle.kit_async_model.specs.Hearings.{text_in, hearing_of}
use Rattle.kit_async_model.specs.Standings.{Standing, after, is_some_due, said_line, said_in, standing}
use Rattle.kit_async_model.specs.Legality.{may_hear, is_idle, is_free, some_job, may_take, is_turn_of, is_called, may_come, comes_where, follows, legal_from, Legal, is_done}
use Rattle.kit_async_model.specs.Events.{Stepped, only, reader, writer, remote_of, is_of_remote, due_said, hear_step, free_step, first_free, turn_step, take_step, called_step, call_step, next_reply, wrote_step, close_step, if_it_is, event_step, step_of}
use Rattle.kit_async_model.proofs.Fronts.{standing_append}
use Rattle.kit_async_model.proofs.Smalls.{AllSmall, SmallDue, standing_small, hearing_small, heard_due, called_due}
use Rattle.ann_key.proofs.Booleans.{or_right}
use Rattle.ann_key.proofs.Lists.{same_name as same_bytes}
use Rattle.ann_key.proofs.Numbers.{same_number as same}
use Rattle.std.proofs.lemmas.Bool.{and_parts as both}

-- ---- tests

neither : (a b : Bool) → (a || b) ≡ false → (not a ≡ true) × (not b ≡ true)
neither true b h = absurd cc
neither false true h = absurd cc
neither false false h = (refl, refl)

twice_not : (b : Bool) → not (not b) ≡ true → b ≡ true
twice_not true h = refl
twice_not false h = absurd cc

-- ---- the line of a job

-- after J and a space stands the first digit
third : (digits rest : List ℕ) → 0 < length digits → slice_index (74 ∷ 32 ∷ (digits ++ rest)) 2 ≡ get_or digits 0 0
third [] rest h = absurd (omega (arith, h))
third (d ∷ digits) rest h = refl

no_zero : (n : ℕ) (text : List ℕ) → (n == 0) ≡ false → n < 2 ^ 64 → (slice_index (tagged_line n text) 2 == 48) ≡ false
no_zero n text e h =
    let some : 0 < length (decimal n) = decimal_nonempty n h in
    let is : slice_index (tagged_line n text) 2 ≡ get_or (decimal n) 0 0 = third (decimal n) (32 ∷ text) some in
    let p : 48 < get_or (decimal n) 0 0 = first_decimal n (let z : n ≡ 0 → ⊥ = grind (arith, nat_tests) in omega arith) h in
    grind (arith, nat_tests)

job_line_is : (n : ℕ) (text : List ℕ) → n < 2 ^ 64 → is_job_line n text (job_line n text) ≡ true
job_line_is n text h = go (n == 0) refl
  where
    go : (b : Bool) → (n == 0) ≡ b → is_job_line n text (job_line n text) ≡ true
    go true e = rw (e, same_bytes text) refl
    go false e = rw (e, untag_of_tagged n text h, same n, same_bytes text, no_zero n text e h) refl

-- ---- groups that fit

-- the entries may stand there, and leave nothing due
record Fits (setup : Setup) (s : Standing) (group : List Entry) : Type 0 where
  legal : legal_from setup s group ≡ true
  told : (fold (after setup) s group).due ≡ []

none_fits : (setup : Setup) (s : Standing) → s.due ≡ [] → Fits setup s []
none_fits setup s d = record { legal = refl; told = d }

-- what may come where nothing is due follows
follows_of : (setup : Setup) (s : Standing) (e : Entry) → s.due ≡ [] → may_come setup s e ≡ true → follows setup s e ≡ true
follows_of setup s e d m = subst (λ (due : List (ℕ × List ℕ)). comes_where setup s due e ≡ true) (sym d) m

cons_fits : (setup : Setup) (s : Standing) (e : Entry) (group : List Entry) → follows setup s e ≡ true → Fits setup (after setup s e) group → Fits setup s (e ∷ group)
cons_fits setup s e group f k = record { legal = rw (f, k.legal) refl; told = k.told }

said_due : (setup : Setup) (s : Standing) (o : Option Job) (due : List (ℕ × List ℕ)) → s.due ≡ due → (said_in setup s o).due ≡ due
said_due setup s None due d = d
said_due setup s (Some job) due d = go (is_some_due s.due || s.over || is_awaiting setup job) refl
  where
    go : (b : Bool) → (is_some_due s.due || s.over || is_awaiting setup job) ≡ b → (said_in setup s (Some job)).due ≡ due
    go true e = rw e d
    go false e = rw e d

due_fits : (setup : Setup) (t : Standing) (due : List (ℕ × List ℕ)) → t.due ≡ due → SmallDue due → Fits setup t (due_said due)
due_fits setup t [] e small = none_fits setup t e
due_fits setup t (d ∷ rest) e small =
    let line : List ℕ = job_line d.0 d.1 in
    let f : follows setup t (Say d.0 line) ≡ true =
    subst (λ (due : List (ℕ × List ℕ)). comes_where setup t due (Say d.0 line) ≡ true) (sym e) (rw (same d.0, job_line_is d.0 d.1 small.0) refl) in
    let more : (after setup t (Say d.0 line)).due ≡ rest =
    said_due setup (said_line t line) (job_of t.jobs d.0) rest (ap (λ (due : List (ℕ × List ℕ)). drop 1 due) e) in
    cons_fits setup t (Say d.0 line) (due_said rest) f (due_fits setup (after setup t (Say d.0 line)) rest more small.1)

-- ---- each event

hear_fits : (setup : Setup) (s : Standing) (line : List ℕ) → s.due ≡ [] → Fits setup s (hear_step setup s line).group
hear_fits setup s line d = go (may_hear setup s) refl
  where
    small : SmallDue (after setup s (Heard line)).due
    small = heard_due setup s (text_in s.tagged line) (hearing_of setup s.jobs s.tagged line) (hearing_small setup s.jobs s.tagged line) d

    go : (b : Bool) → may_hear setup s ≡ b → Fits setup s (hear_step setup s line).group
    go true e = rw e
        (cons_fits setup s (Heard line) (due_said (after setup s (Heard line)).due) (follows_of setup s (Heard line) d e)
        (due_fits setup (after setup s (Heard line)) (after setup s (Heard line)).due refl small))
    go false e = rw e (none_fits setup s d)

-- what is found is one of that number
found_some : (test : Job → Bool) (jobs : List Job) (job : Job) → find test jobs ≡ Some job → some_job test job.number jobs ≡ true
found_some test [] job h = absurd cc
found_some test (x ∷ xs) job h = go (test x) refl h (found_some test xs job)
  where
    go : (b : Bool) → test x ≡ b → cond {A = Option Job} b (Some x) (find test xs) ≡ Some job
        → (find test xs ≡ Some job → some_job test job.number xs ≡ true) → some_job test job.number (x ∷ xs) ≡ true
    go true e f more =
        let is : x ≡ job = cc in
        subst (λ (j : Job). some_job test j.number (x ∷ xs) ≡ true) is (rw (same x.number, e) refl)
    go false e f more = or_right (has_number job.number x && test x) (some_job test job.number xs) (more f)

free_fits : (setup : Setup) (s : Standing) (remote : ℕ) → s.due ≡ [] → nat_lt remote setup.remotes ≡ true
    → (o : Option Job) → first_free setup s remote ≡ o → Fits setup s (free_step setup s remote o).group
free_fits setup s remote d few None e = none_fits setup s d
free_fits setup s remote d few (Some job) e = go (s.over || not (is_idle s.jobs remote)) refl e
  where
    go : (b : Bool) → (s.over || not (is_idle s.jobs remote)) ≡ b → cond {A = Option Job} b None (find (is_free setup s.jobs) s.jobs) ≡ Some job
        → Fits setup s (Take job.number remote ∷ [])
    go true f g = absurd cc
    go false f g =
        let n = neither s.over (not (is_idle s.jobs remote)) f in
        let idle : is_idle s.jobs remote ≡ true = twice_not (is_idle s.jobs remote) n.1 in
        let m : may_take setup s job.number remote ≡ true = rw (n.0, few, idle, found_some (is_free setup s.jobs) s.jobs job g) refl in
        cons_fits setup s (Take job.number remote) [] (follows_of setup s (Take job.number remote) d m) (none_fits setup (after setup s (Take job.number remote)) d)

turn_fits : (setup : Setup) (s : Standing) (remote : ℕ) → s.due ≡ [] → nat_lt remote setup.remotes ≡ true → (o : Option Job) → Fits setup s (turn_step setup s remote o).group
turn_fits setup s remote d few None = free_fits setup s remote d few (first_free setup s remote) refl
turn_fits setup s remote d few (Some job) = none_fits setup s d

call_fits : (setup : Setup) (s : Standing) (remote : ℕ) (said : Said) → s.due ≡ [] → AllSmall s.jobs → Fits setup s (call_step setup s remote said).group
call_fits setup s remote said d a = go (is_line_said said) refl
  where
    found : is_line_said said ≡ true → (o : Option Job) → find (is_called setup s.jobs remote) s.jobs ≡ o → Fits setup s (called_step setup s remote said o).group
    found l None e = none_fits setup s d
    found l (Some job) e =
        let m : may_come setup s (Call job.number remote said) ≡ true = rw (l, found_some (is_called setup s.jobs remote) s.jobs job e) refl in
        cons_fits setup s (Call job.number remote said) (due_said (after setup s (Call job.number remote said)).due) (follows_of setup s (Call job.number remote said) d m)
        (due_fits setup (after setup s (Call job.number remote said)) (after setup s (Call job.number remote said)).due refl (called_due setup s said job.number a d))

    go : (b : Bool) → is_line_said said ≡ b → Fits setup s (call_step setup s remote said).group
    go true e = rw e (found e (find (is_called setup s.jobs remote) s.jobs) refl)
    go false e = rw e (none_fits setup s d)

wrote_fits : (setup : Setup) (s : Standing) → s.due ≡ [] → (lines : List (List ℕ)) → s.unwritten ≡ lines → Fits setup s (wrote_step lines).group
wrote_fits setup s d [] e = none_fits setup s d
wrote_fits setup s d (line ∷ lines) e =
    let m : may_come setup s Wrote ≡ true = rw e refl in
    cons_fits setup s Wrote [] (follows_of setup s Wrote d m) (none_fits setup (after setup s Wrote) d)

close_fits : (setup : Setup) (s : Standing) → s.due ≡ [] → Fits setup s (close_step s).group
close_fits setup s d = go (s.over || s.closed) refl
  where
    go : (b : Bool) → (s.over || s.closed) ≡ b → Fits setup s (close_step s).group
    go true e = rw e (none_fits setup s d)
    go false e =
        let n = neither s.over s.closed e in
        let m : may_come setup s Close ≡ true = rw (n.0, n.1) refl in
        rw e (cons_fits setup s Close [] (follows_of setup s Close d m) (none_fits setup (after setup s Close) d))

if_fits : (setup : Setup) (s : Standing) (step : Stepped) → s.due ≡ [] → (b : Bool) → (b ≡ true → Fits setup s step.group) → Fits setup s (if_it_is b step).group
if_fits setup s step d true f = f refl
if_fits setup s step d false f = none_fits setup s d

event_fits : (setup : Setup) (s : Standing) (by : ℕ) (event : Event) → s.due ≡ [] → AllSmall s.jobs → Fits setup s (event_step setup s by event).group
event_fits setup s by (Hear line) d a = if_fits setup s (hear_step setup s line) d (by == reader) (λ _. hear_fits setup s line d)
event_fits setup s by TakeUp d a =
    if_fits setup s (take_step setup s (remote_of by)) d (is_of_remote setup by)
    (λ is. turn_fits setup s (remote_of by) d (both (nat_le 3 by) (nat_lt (remote_of by) setup.remotes) is).1 (find (is_turn_of setup s.jobs (remote_of by)) s.jobs))
event_fits setup s by (Called said) d a = if_fits setup s (call_step setup s (remote_of by) said) d (is_of_remote setup by) (λ _. call_fits setup s (remote_of by) said d a)
event_fits setup s by Next d a = if_fits setup s (only (next_reply (is_done setup s) s.unwritten)) d (by == writer) (λ _. none_fits setup s d)
event_fits setup s by Written d a = if_fits setup s (wrote_step s.unwritten) d (by == writer) (λ _. wrote_fits setup s d s.unwritten refl)
event_fits setup s by Deafen d a = if_fits setup s (close_step s) d (by == reader) (λ _. close_fits setup s d)
event_fits setup s by Break d a = none_fits setup s d

-- ---- of a journal

pub join_from : (setup : Setup) (s : Standing) (past rest : List Entry) → legal_from setup s past ≡ true → legal_from setup (fold (after setup) s past) rest ≡ true
    → legal_from setup s (past ++ rest) ≡ true
join_from setup s [] rest h k = k
join_from setup s (e ∷ past) rest h k =
    let b = both (follows setup s e) (legal_from setup (after setup s e) past) h in
    rw (b.0, join_from setup (after setup s e) past rest b.1 k) refl

pub steps_are_legal : (setup : Setup) (past : List Entry) (by : ℕ) (event : Event) → Legal setup past → Legal setup (past ++ (step_of setup past by event).group)
steps_are_legal setup past by event l =
    let k = event_fits setup (standing setup past) by event l.told (standing_small setup past) in
    record {
      follow = join_from setup _ past (step_of setup past by event).group l.follow k.legal;
      told = subst (λ (s : Standing). s.due ≡ []) (sym (standing_append setup past (step_of setup past by event).group)) k.told;
    }
