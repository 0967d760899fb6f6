-- Each step of a core makes what its number may make.
use Rattle.std.proofs.Common.{◌≡◌, ◌⊎◌, inl, inr, ℕ, ◌+◌, ◌≤◌, List, [], ◌∷◌, refl, sym, subst, Bool, true, false, ◌==◌, Some, None, Option, arith}
use Rattle.std.specs.Prelude.{◌||◌, All, find, nat_lt, nat_le}
use Rattle.std.proofs.lemmas.Bool.Decides.{nat_tests}
use Rattle.std.proofs.lemmas.List.Elements.{All-nil, All-cons, All-head}
use Rattle.kit_serve.specs.declared.kit.call.Said.{Said}
use Rattle.kit_serve.specs.Kit.Calls.{is_line_said}
use Rattle.kit_async_model.specs.declared.setup.Setup.{Setup}
use Rattle.kit_async_model.specs.declared.job.Job.{Job}
use Rattle.kit_async_model.specs.declared.entry.Entry.{Entry}
use Rattle.kit_async_model.specs.declared.entry.Entry.TheVariants.{Heard, Take, Call, Say, Wrote, Close, Lack}
use Rattle.kit_async_model.specs.declared.event.Event.{Event}
use Rattle.kit_async_model.specs.declared.event.Event.TheVariants.{Hear, Take as TakeUp, Called, Next, Wrote as Written, Close as Deafen, Break}
use Rattle.kit_async_model.specs.declared.event.Reply.{Reply}
use Rattle.kit_async_model.specs.Jobs.{job_line}
use Rattle.kit_async_model.specs.Standings.{Standing, after, standing}
use Rattle.kit_async_model.specs.Legality.{may_hear, is_turn_of, is_called, is_done}
use Rattle.kit_async_model.specs.Events.{IsMadeBy, Stepped, only, reader, writer, remote_of, is_of_remote, due_said, hear_step, free_step, first_free, turn_step, take_step, called_step, call_step, next_reply, wrote_step, close_step, if_it_is, event_step, step_of, IsUnsaid}
use Rattle.std.proofs.lemmas.Bool.{eqb-true as equal, and_parts as both}

one_of : (by : ℕ) (e : Entry) → IsMadeBy by e → All (IsMadeBy by) (e ∷ [])
one_of by e h = All-cons (IsMadeBy by) e [] h (All-nil (IsMadeBy by))

due_made : (by : ℕ) → (by ≡ 1) ⊎ (3 ≤ by) → (due : List (ℕ × List ℕ)) → All (IsMadeBy by) (due_said due)
due_made by h [] = All-nil (IsMadeBy by)
due_made by h (d ∷ rest) = All-cons (IsMadeBy by) (Say d.0 (job_line d.0 d.1)) (due_said rest) h (due_made by h rest)

if_made : (by : ℕ) (step : Stepped) (b : Bool) → (b ≡ true → All (IsMadeBy by) step.group) → All (IsMadeBy by) (if_it_is b step).group
if_made by step true f = f refl
if_made by step false f = All-nil (IsMadeBy by)

remote_is : (by : ℕ) → nat_le 3 by ≡ true → by ≡ remote_of by + 3
remote_is by h = let l : 3 ≤ by = grind (arith, nat_tests) in omega (arith, l)

at_least : (by : ℕ) → nat_le 3 by ≡ true → 3 ≤ by
at_least by h = grind (arith, nat_tests)

hear_made : (by : ℕ) (setup : Setup) (s : Standing) (line : List ℕ) → by ≡ 1 → All (IsMadeBy by) (hear_step setup s line).group
hear_made by setup s line is = go (may_hear setup s) refl
  where
    go : (b : Bool) → may_hear setup s ≡ b → All (IsMadeBy by) (hear_step setup s line).group
    go true e = rw e
        (All-cons (IsMadeBy by) (Heard line) (due_said (after setup s (Heard line)).due) is (due_made by (inl is) (after setup s (Heard line)).due))
    go false e = rw e (All-nil (IsMadeBy by))

free_made : (by : ℕ) (setup : Setup) (s : Standing) → by ≡ remote_of by + 3 → (o : Option Job) → All (IsMadeBy by) (free_step setup s (remote_of by) o).group
free_made by setup s is None = All-nil (IsMadeBy by)
free_made by setup s is (Some job) = one_of by (Take job.number (remote_of by)) is

turn_made : (by : ℕ) (setup : Setup) (s : Standing) → by ≡ remote_of by + 3 → (o : Option Job) → All (IsMadeBy by) (turn_step setup s (remote_of by) o).group
turn_made by setup s is None = free_made by setup s is (first_free setup s (remote_of by))
turn_made by setup s is (Some job) = All-nil (IsMadeBy by)

called_made : (by : ℕ) (setup : Setup) (s : Standing) (said : Said) → by ≡ remote_of by + 3 → 3 ≤ by → (o : Option Job) → All (IsMadeBy by) (called_step setup s (remote_of by) said o).group
called_made by setup s said is l None = All-nil (IsMadeBy by)
called_made by setup s said is l (Some job) =
    All-cons (IsMadeBy by) (Call job.number (remote_of by) said) (due_said (after setup s (Call job.number (remote_of by) said)).due) is
    (due_made by (inr l) (after setup s (Call job.number (remote_of by) said)).due)

call_made : (by : ℕ) (setup : Setup) (s : Standing) (said : Said) → by ≡ remote_of by + 3 → 3 ≤ by → All (IsMadeBy by) (call_step setup s (remote_of by) said).group
call_made by setup s said is l = go (is_line_said said) refl
  where
    go : (b : Bool) → is_line_said said ≡ b → All (IsMadeBy by) (call_step setup s (remote_of by) said).group
    go true e = rw e (called_made by setup s said is l (find (is_called setup s.jobs (remote_of by)) s.jobs))
    go false e = rw e (All-nil (IsMadeBy by))

wrote_made : (by : ℕ) → by ≡ 2 → (lines : List (List ℕ)) → All (IsMadeBy by) (wrote_step lines).group
wrote_made by is [] = All-nil (IsMadeBy by)
wrote_made by is (line ∷ lines) = one_of by Wrote is

close_made : (by : ℕ) (s : Standing) → by ≡ 1 → All (IsMadeBy by) (close_step s).group
close_made by s is = go (s.over || s.closed) refl
  where
    go : (b : Bool) → (s.over || s.closed) ≡ b → All (IsMadeBy by) (close_step s).group
    go true e = rw e (All-nil (IsMadeBy by))
    go false e = rw e (one_of by Close is)

event_made : (setup : Setup) (s : Standing) (by : ℕ) (event : Event) → All (IsMadeBy by) (event_step setup s by event).group
event_made setup s by (Hear line) = if_made by (hear_step setup s line) (by == reader) (λ is. hear_made by setup s line (equal by 1 is))
event_made setup s by TakeUp =
    if_made by (take_step setup s (remote_of by)) (is_of_remote setup by)
    (λ is. turn_made by setup s (remote_is by (both (nat_le 3 by) (nat_lt (remote_of by) setup.remotes) is).0) (find (is_turn_of setup s.jobs (remote_of by)) s.jobs))
event_made setup s by (Called said) =
    if_made by (call_step setup s (remote_of by) said) (is_of_remote setup by)
    (λ is. call_made by setup s said (remote_is by (both (nat_le 3 by) (nat_lt (remote_of by) setup.remotes) is).0) (at_least by (both (nat_le 3 by) (nat_lt (remote_of by) setup.remotes) is).0))
event_made setup s by Next = if_made by (only (next_reply (is_done setup s) s.unwritten)) (by == writer) (λ _. All-nil (IsMadeBy by))
event_made setup s by Written = if_made by (wrote_step s.unwritten) (by == writer) (λ is. wrote_made by (equal by 2 is) s.unwritten)
event_made setup s by Deafen = if_made by (close_step s) (by == reader) (λ is. close_made by s (equal by 1 is))
event_made setup s by Break = All-nil (IsMadeBy by)

pub steps_are_made : (setup : Setup) (past : List Entry) (by : ℕ) (event : Event) → All (IsMadeBy by) (step_of setup past by event).group
steps_are_made setup past by event = event_made setup (standing setup past) by event

-- ---- a call without its answer

called_remote : (setup : Setup) (s : Standing) (by : ℕ) (said : Said) (call answer : Entry) (more : List Entry) → (event_step setup s by (Called said)).group ≡ call ∷ answer ∷ more → 3 ≤ by
called_remote setup s by said call answer more e = go (is_of_remote setup by) refl e
  where
    go : (b : Bool) → is_of_remote setup by ≡ b → (if_it_is b (call_step setup s (remote_of by) said)).group ≡ call ∷ answer ∷ more → 3 ≤ by
    go true is k = at_least by (both (nat_le 3 by) (nat_lt (remote_of by) setup.remotes) is).0
    go false is k = absurd cc

first_made : (by : ℕ) (group : List Entry) (call answer : Entry) (more : List Entry) → All (IsMadeBy by) group → group ≡ call ∷ answer ∷ more → IsMadeBy by call
first_made by group call answer more a e = All-head (IsMadeBy by) call (answer ∷ more) (subst (All (IsMadeBy by)) e a)

pub lacks_are_made : (setup : Setup) (past : List Entry) (by : ℕ) (said : Said) (group : List Entry) (reply : Reply)
    → IsUnsaid (step_of setup past by (Called said)) group reply → All (IsMadeBy by) group
lacks_are_made setup past by said group reply u =
    let three : 3 ≤ by = called_remote setup (standing setup past) by said u.call u.answer u.more u.whole in
    let first : IsMadeBy by u.call = first_made by (step_of setup past by (Called said)).group u.call u.answer u.more (steps_are_made setup past by (Called said)) u.whole in
    subst (All (IsMadeBy by)) (sym u.group_is) (All-cons (IsMadeBy by) u.call (Lack ∷ []) first (one_of by Lack three))
