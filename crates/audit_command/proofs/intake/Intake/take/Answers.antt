use Rattle.std.proofs.Common.{◌+◌, ◌≤◌, refl, arith}
use Rattle.std.proofs.lemmas.Result.{on_ok_weaker}
use Rattle.audit_command.specs.declared.intake.Intake.{Intake}
use Rattle.audit_command.proofs.Taking.{took_on, took_past_bytes, took_past_lines, took_byte, took_end}
use Rattle.audit_command.proofs.intake.Intake.take.Goals as goal

pub returns-then-self : goal.returns-then-self
returns-then-self c = λ bytes t. took_on c.args.limits.now bytes _ c.args.self.now c.if-self.true t

pub returns-then-self-limits : goal.returns-then-self-limits
returns-then-self-limits c = λ bytes t.
    took_past_bytes c.args.limits.now bytes c.args.self.now c.pass.new.self c.args.byte c.if-self.false c.if-self-limits.true c.pass.ensures.past c.pass.ensures.refused t

pub returns-then-self-from : goal.returns-then-self-from
returns-then-self-from c = λ bytes t.
    let p = c.pass-then-self-from in
    let same = c.from.ensures in
    let over = c.if-self-from.true in
    took_past_lines c.args.limits.now bytes c.args.self.now p.new.self c.args.byte c.if-self.false (omega arith) p.ensures.past p.ensures.refused t

pub returns-then-byte-eq10 : goal.returns-then-byte-eq10
returns-then-byte-eq10 c =
    let same = c.from.ensures in
    let few : c.args.self.now.number ≤ c.args.limits.now.lines = (let below = c.if-self-from.false in omega arith) in
    let now : Intake = record { lines = c.end_line.new.self; number = c.args.self.now.number + 1; bytes = c.args.self.now.bytes + 1; past = c.args.self.now.past } in
    on_ok_weaker c.end_line.result
    (λ stands bytes t. took_end c.args.limits.now bytes c.args.self.now now c.args.byte c.if-self.false c.if-self-limits.false few c.if-byte-eq10.true c.if-self.false refl refl stands t)
    c.end_line.ensures

pub returns-else-byte-eq10 : goal.returns-else-byte-eq10
returns-else-byte-eq10 c =
    let same = c.from.ensures in
    let few : c.args.self.now.number ≤ c.args.limits.now.lines = (let below = c.if-self-from.false in omega arith) in
    let now : Intake = record { lines = c.hold.new.self; number = c.args.self.now.number; bytes = c.args.self.now.bytes + 1; past = c.args.self.now.past } in
    on_ok_weaker c.hold.result
    (λ stands bytes t. took_byte c.args.limits.now bytes c.args.self.now now c.args.byte c.if-self.false c.if-self-limits.false few c.if-byte-eq10.false c.if-self.false refl refl stands t)
    c.hold.ensures
