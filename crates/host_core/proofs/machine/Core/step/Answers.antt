use Rattle.std.proofs.Common.{◌≡◌, ◌++◌, ◌+◌, ◌∙◌, ◌<◌, ◌≤◌, ◌^◌, ℕ, [], true, false, Option, sym, ap, subst, Bool, if◌then◌else◌, List, length, arith}
use Rattle.std.specs.Prelude.{All}
use Rattle.std.specs.List.{cons_option}
use Rattle.annex_model.specs.Messages.{RemoteMessage}
use Rattle.journal_model.specs.declared.entry.What.{What}
use Rattle.journal_model.specs.declared.entry.Entry.{Entry}
use Rattle.journal_model.specs.declared.opening.Opening.{Opening}
use Rattle.journal_model.specs.Legality.{Legal}
use Rattle.journal_model.specs.Room.{room_of}
use Rattle.journal_model.specs.Replies.{set_by_all}
use Rattle.journal_model.specs.Registers.{settings}
use Rattle.task_queue.specs.Queues.{IsQueued}
use Rattle.host_core.specs.declared.due.Due.{Due}
use Rattle.host_core.specs.Steps.{step_of, told, unless_shut, is_free}
use Rattle.host_core.specs.Books.{IsNoted}
use Rattle.host_core.specs.CoreValue.{CoreValue}
use Rattle.host_core.specs.Mays.{IsMadeBy}
use Rattle.host_core.specs.Moves.{group_made, group_room}
use Rattle.host_core.specs.Queued.{IsTurnedIn}
use Rattle.host_core.specs.Runs.{AreRuns}
use Rattle.host_core.specs.Settings.{set_in, IsServed}
use Rattle.host_core.proofs.Sharing.{step_made}
use Rattle.host_core.proofs.Stepping.{Legal-step}
use Rattle.host_core.proofs.Pushing.{group_fits, few_entries, free_room}
use Rattle.host_core.proofs.Sparing.{event_free}
use Rattle.host_core.proofs.Noting.{note_fits, notes_grow}
use Rattle.host_core.proofs.Queueing.{queue_fits, queue_turns}
use Rattle.host_core.proofs.Running.{runs_fit, runs_grow}
use Rattle.host_core.proofs.Setting.{settings_group, line_fits, registers_grow}
use Rattle.host_core.proofs.machine.Core.step.Goals as goal

pub take_memory-requires-clause-line : goal.take_memory-requires-clause-line
take_memory-requires-clause-line c =
    let o : Opening = c.self.inside.opening in
    let past : List Entry = c.self.inside.journal.entries in
    let what : Option What = c.in_ok-step.step.what in
    let due : Due = c.in_ok-step.step.due in
    let few = few_entries o past c.self.inside.journal.room c.self.invariant.0 c.self.invariant.2 c.self.invariant.3 in
    let e : group_made past c.args.by what due ≡ (step_of o past c.args.by c.args.event).group = c.in_ok-step.ensures.step.group_is in
    line_fits o past c.args.by c.args.event what due few e

pub take_memory-requires-clause-sized : goal.take_memory-requires-clause-sized
take_memory-requires-clause-sized c =
    let o : Opening = c.self.inside.opening in
    let past : List Entry = c.self.inside.journal.entries in
    let few = few_entries o past c.self.inside.journal.room c.self.invariant.0 c.self.invariant.2 c.self.invariant.3 in
    note_fits o past c.args.by c.args.event c.in_ok-step.step.what c.in_ok-step.step.due few c.in_ok-step.ensures.step.group_is

pub enter-requires-clause-counted : goal.enter-requires-clause-counted
enter-requires-clause-counted c =
    let o : Opening = c.self.inside.opening in
    let past : List Entry = c.self.inside.journal.entries in
    let few = few_entries o past c.self.inside.journal.room c.self.invariant.0 c.self.invariant.2 c.self.invariant.3 in
    runs_fit o past c.args.by c.args.event c.in_ok-step.step.what c.in_ok-step.step.due c.self.inside.runs.items few c.self.invariant.1.again c.self.invariant.6 c.in_ok-step.ensures.step.group_is

pub move_of-requires-clause-free : goal.move_of-requires-clause-free
move_of-requires-clause-free c = λ child claims. c.free_task-free.ensures.free c.self.inside.journal.entries child c.self.invariant.7 claims

pub enter-requires-clause-ordered : goal.enter-requires-clause-ordered
enter-requires-clause-ordered c = (c.free_task-free.ensures.kept c.self.inside.journal.entries c.self.invariant.7).ordered

pub enter-requires-clause-next : goal.enter-requires-clause-next
enter-requires-clause-next c =
    let o : Opening = c.self.inside.opening in
    let past : List Entry = c.self.inside.journal.entries in
    let few = few_entries o past c.self.inside.journal.room c.self.invariant.0 c.self.invariant.2 c.self.invariant.3 in
    queue_fits o past c.args.by c.args.event c.in_ok-step.step.what c.in_ok-step.step.due c.free_task-free.new.queue few (c.free_task-free.ensures.kept past c.self.invariant.7) c.in_ok-step.ensures.step.group_is

pub enter-requires-clause-room : goal.enter-requires-clause-room
enter-requires-clause-room c =
    let o : Opening = c.self.inside.opening in
    let past : List Entry = c.self.inside.journal.entries in
    let what : Option What = c.in_ok-step.step.what in
    let due : Due = c.in_ok-step.step.due in
    let few = few_entries o past c.self.inside.journal.room c.self.invariant.0 c.self.invariant.2 c.self.invariant.3 in
    let e : group_made past c.args.by what due ≡ (step_of o past c.args.by c.args.event).group = c.in_ok-step.ensures.step.group_is in
    let room : ℕ = c.self.inside.journal.room in
    let kept : c.take_memory.new.journal.room ≡ room + group_room what due = c.in-Ok.ensures.room in
    let both = group_fits o past c.args.by c.args.event what due room few c.self.invariant.0 e c.self.invariant.2 in
    let P : List Entry → Type 0 = λ es. length es + length (group_made es c.args.by what due) ≤ c.take_memory.new.journal.room in
    subst P (sym c.take_memory.ensures.entries) (omega (arith, both.0, kept))

pub returns-clause-legal : goal.returns-clause-legal
returns-clause-legal c =
    let o : Opening = c.self.inside.opening in
    let past : List Entry = c.self.inside.journal.entries in
    let what : Option What = c.in_ok-step.step.what in
    let due : Due = c.in_ok-step.step.due in
    let few = few_entries o past c.self.inside.journal.room c.self.invariant.0 c.self.invariant.2 c.self.invariant.3 in
    let e : group_made past c.args.by what due ≡ (step_of o past c.args.by c.args.event).group = c.in_ok-step.ensures.step.group_is in
    let grown : c.enter.new.journal.entries ≡ past ++ group_made past c.args.by what due =
    c.enter.ensures.entries ∙ ap (λ (es : List Entry). es ++ group_made es c.args.by what due) c.take_memory.ensures.entries in
    subst (Legal o) (sym (grown ∙ ap (λ (g : List Entry). past ++ g) e)) (Legal-step o past c.args.by c.args.event few c.self.invariant.0)

pub returns-clause-registers : goal.returns-clause-registers
returns-clause-registers c =
    let o : Opening = c.self.inside.opening in
    let past : List Entry = c.self.inside.journal.entries in
    let what : Option What = c.in_ok-step.step.what in
    let due : Due = c.in_ok-step.step.due in
    let few = few_entries o past c.self.inside.journal.room c.self.invariant.0 c.self.invariant.2 c.self.invariant.3 in
    let e : group_made past c.args.by what due ≡ (step_of o past c.args.by c.args.event).group = c.in_ok-step.ensures.step.group_is in
    let grown : c.enter.new.journal.entries ≡ past ++ group_made past c.args.by what due =
    c.enter.ensures.entries ∙ ap (λ (es : List Entry). es ++ group_made es c.args.by what due) c.take_memory.ensures.entries in
    let x : Option RemoteMessage = set_in past what due in
    let sets : c.take_memory.new.registers ≡ set_by_all c.self.inside.registers (cons_option x []) =
    c.in-Ok.ensures.set in
    registers_grow o past c.enter.new.journal.entries c.self.inside.registers c.take_memory.new.registers x c.self.invariant.4.given sets
    (ap settings grown ∙ settings_group o past c.args.by c.args.event what due few c.self.invariant.0 c.in_ok-step.ensures.reply e)

pub returns-clause-notes : goal.returns-clause-notes
returns-clause-notes c =
    let o : Opening = c.self.inside.opening in
    let past : List Entry = c.self.inside.journal.entries in
    let what : Option What = c.in_ok-step.step.what in
    let due : Due = c.in_ok-step.step.due in
    let grown : c.enter.new.journal.entries ≡ past ++ group_made past c.args.by what due =
    c.enter.ensures.entries ∙ ap (λ (es : List Entry). es ++ group_made es c.args.by what due) c.take_memory.ensures.entries in
    notes_grow o past c.enter.new.journal.entries c.self.inside.notes c.take_memory.new.notes c.args.by what due c.self.invariant.5.given c.in-Ok.ensures.noted grown

pub invariant_of-self-2 : goal.invariant_of-self-2
invariant_of-self-2 c =
    let o : Opening = c.self.inside.opening in
    let past : List Entry = c.self.inside.journal.entries in
    let what : Option What = c.in_ok-step.step.what in
    let due : Due = c.in_ok-step.step.due in
    let few = few_entries o past c.self.inside.journal.room c.self.invariant.0 c.self.invariant.2 c.self.invariant.3 in
    let e : group_made past c.args.by what due ≡ (step_of o past c.args.by c.args.event).group = c.in_ok-step.ensures.step.group_is in
    let room : ℕ = c.self.inside.journal.room in
    let kept : c.take_memory.new.journal.room ≡ room + group_room what due = c.in-Ok.ensures.room in
    let both = group_fits o past c.args.by c.args.event what due room few c.self.invariant.0 e c.self.invariant.2 in
    let grown : c.enter.new.journal.entries ≡ past ++ group_made past c.args.by what due =
    c.enter.ensures.entries ∙ ap (λ (es : List Entry). es ++ group_made es c.args.by what due) c.take_memory.ensures.entries in
    let roomy : room_of o c.enter.new.journal.entries ≡ room_of o (past ++ group_made past c.args.by what due) = ap (room_of o) grown in (
      returns-clause-legal c,
      c.self.invariant.1,
      omega (arith, roomy, both.1, kept, c.enter.ensures.room),
      omega (arith, c.take_memory.ensures.small, c.enter.ensures.room),
      record { given = returns-clause-registers c; kept = c.self.invariant.4.kept; identity = c.self.invariant.4.identity },
      record { given = returns-clause-notes c; order = c.self.invariant.5.order },
      subst (λ (es : List Entry). AreRuns o es c.enter.new.runs.items) (sym grown)
          (subst (AreRuns o (past ++ group_made past c.args.by what due)) (sym c.enter.ensures.runs)
          (runs_grow o past c.args.by c.args.event what due c.self.inside.runs.items few c.self.invariant.1.again c.self.invariant.6 e)),
      c.enter.ensures.queue o past c.enter.new.journal.entries (subst (IsTurnedIn past what) (sym grown) (queue_turns o past c.args.by c.args.event what due c.free_task-free.new.queue few (c.free_task-free.ensures.kept past c.self.invariant.7) e))
          (c.free_task-free.ensures.kept past c.self.invariant.7),
    )

pub returns-clause-reply : goal.returns-clause-reply
returns-clause-reply c =
    let shut = c.self.inside.shut in
    c.told-reply.ensures
    ∙ ap (λ (over : Bool). if c.is_waiting-waits.result then unless_shut over c.in_ok-step.step.reply else c.in_ok-step.step.reply) c.shut_for-over.ensures
    ∙ sym (c.is_waiting-waits.ensures c.self.inside.journal.entries shut c.in_ok-step.step.reply)
    ∙ ap (told c.self.inside.journal.entries shut c.args.event) c.in_ok-step.ensures.step.reply_is
    ∙ ap (λ (v : CoreValue). told v.journal v.shut c.args.event (step_of v.opening v.journal c.args.by c.args.event).reply) c.self.view_is

pub returns-clause-made : goal.returns-clause-made
returns-clause-made c =
    let few = few_entries c.self.inside.opening c.self.inside.journal.entries c.self.inside.journal.room c.self.invariant.0 c.self.invariant.2 c.self.invariant.3 in
    subst (λ (v : CoreValue). All (IsMadeBy c.args.by) (step_of v.opening v.journal c.args.by c.args.event).group) c.self.view_is
    (step_made c.self.inside.opening c.self.inside.journal.entries c.args.by c.args.event few)

pub returns-clause-few : goal.returns-clause-few
returns-clause-few c =
    few_entries c.self.inside.opening c.enter.new.journal.entries c.enter.new.journal.room (returns-clause-legal c) (invariant_of-self-2 c).2 (invariant_of-self-2 c).3

pub returns-in_err-step-clause-few : goal.returns-in_err-step-clause-few
returns-in_err-step-clause-few c =
    few_entries c.self.inside.opening c.self.inside.journal.entries c.self.inside.journal.room c.self.invariant.0 c.self.invariant.2 c.self.invariant.3

pub returns-in-Err-clause-few : goal.returns-in-Err-clause-few
returns-in-Err-clause-few c =
    subst (λ (es : List Entry). length es < 2 ^ 64) (sym c.take_memory.ensures.entries)
    (few_entries c.self.inside.opening c.self.inside.journal.entries c.self.inside.journal.room c.self.invariant.0 c.self.invariant.2 c.self.invariant.3)

pub returns-in_err-step-clause-free_event : goal.returns-in_err-step-clause-free_event
returns-in_err-step-clause-free_event c = λ free. (
    let no : false ≡ true = c.in_err-step.ensures.free (event_free c.self.inside.opening c.self.inside.journal.entries c.args.by c.args.event free) in
    (cc)
    )

pub returns-in-Err-clause-free : goal.returns-in-Err-clause-free
returns-in-Err-clause-free c = λ free. (
    let o : Opening = c.self.inside.opening in
    let past : List Entry = c.self.inside.journal.entries in
    let what : Option What = c.in_ok-step.step.what in
    let due : Due = c.in_ok-step.step.due in
    let e : group_made past c.args.by what due ≡ (step_of o past c.args.by c.args.event).group = c.in_ok-step.ensures.step.group_is in
    let f : is_free (step_of o past c.args.by c.args.event) ≡ true = subst (λ (v : CoreValue). is_free (step_of v.opening v.journal c.args.by c.args.event) ≡ true) (sym c.self.view_is) free in
    let no : false ≡ true = c.in-Err.ensures.free (free_room o past c.args.by c.args.event what due f e) in
    (cc)
    )

pub returns-in-Err-clause-free_event : goal.returns-in-Err-clause-free_event
returns-in-Err-clause-free_event c = λ free. (
    let o : Opening = c.self.inside.opening in
    let past : List Entry = c.self.inside.journal.entries in
    let what : Option What = c.in_ok-step.step.what in
    let due : Due = c.in_ok-step.step.due in
    let e : group_made past c.args.by what due ≡ (step_of o past c.args.by c.args.event).group = c.in_ok-step.ensures.step.group_is in
    let f : is_free (step_of o past c.args.by c.args.event) ≡ true = event_free o past c.args.by c.args.event free in
    let no : false ≡ true = c.in-Err.ensures.free (free_room o past c.args.by c.args.event what due f e) in
    (cc)
    )

pub returns-in_err-step-clause-notes : goal.returns-in_err-step-clause-notes
returns-in_err-step-clause-notes c = c.self.invariant.5.given

-- ---- where memory runs out

pub invariant_of-self : goal.invariant_of-self
invariant_of-self c = (
  c.self.invariant.0,
  c.self.invariant.1,
  c.self.invariant.2,
  c.self.invariant.3,
  c.self.invariant.4,
  c.self.invariant.5,
  c.self.invariant.6,
  c.free_task-free.ensures.kept c.self.inside.journal.entries c.self.invariant.7,
)

pub invariant_of-self-in-Err : goal.invariant_of-self-in-Err
invariant_of-self-in-Err c =
    let o : Opening = c.self.inside.opening in
    let past : List Entry = c.self.inside.journal.entries in
    let same = sym c.take_memory.ensures.entries in
    let rooms : room_of o c.take_memory.new.journal.entries ≡ room_of o past = ap (room_of o) c.take_memory.ensures.entries in (
      subst (Legal o) same c.self.invariant.0,
      c.self.invariant.1,
      omega (arith, rooms, c.self.invariant.2, c.in-Err.ensures.kept),
      c.take_memory.ensures.small,
      subst (λ (es : List Entry). IsServed o es c.take_memory.new.registers) same (subst (IsServed o past) (sym c.in-Err.ensures.registers) c.self.invariant.4),
      subst (λ (es : List Entry). IsNoted o es c.take_memory.new.notes) same (subst (IsNoted o past) (sym c.in-Err.ensures.notes) c.self.invariant.5),
      subst (λ (es : List Entry). AreRuns o es c.self.inside.runs.items) same c.self.invariant.6,
      subst (λ (es : List Entry). IsQueued o es c.free_task-free.new.queue) same (c.free_task-free.ensures.kept past c.self.invariant.7),
    )
