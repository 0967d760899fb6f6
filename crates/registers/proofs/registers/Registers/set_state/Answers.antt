use Rattle.std.proofs.Common.{◌≡◌, ◌==◌, true, false, if◌then◌else◌, length, subst, sym, ap, ◌∙◌}
use Rattle.registers.specs.Tables.{put, without}
use Rattle.registers.specs.Registers.{IsKept, SetsState}
use Rattle.registers.specs.contracts.registers.Registers.{the_view}
use Rattle.registers.proofs.Settings.{settled, on_ok, key_word, sets_state, kept_state}
use Rattle.registers.proofs.registers.Registers.set_state.Goals as goal

pub invariant_of-self : goal.invariant_of-self
invariant_of-self c =
    let none : (length c.args.value.now == 0) ≡ true = sym c.if-is_empty.ensures in
    let e = c.remove.ensures ∙ ap (λ b. if b then without c.self.inside.state c.args.key.now else put c.self.inside.state c.args.key.now c.args.value.now) (sym none) in
    subst (λ t. IsKept (record (the_view c.self.inside) { state = t })) (sym e) (kept_state _ c.self.invariant c.args.key.now c.args.value.now (key_word _ c.requires.key c.requires.word) c.requires.value)

pub returns-then-is_empty-clause-alone : goal.returns-then-is_empty-clause-alone
returns-then-is_empty-clause-alone c =
    let none : (length c.args.value.now == 0) ≡ true = sym c.if-is_empty.ensures in
    let e = c.remove.ensures ∙ ap (λ b. if b then without c.self.inside.state c.args.key.now else put c.self.inside.state c.args.key.now c.args.value.now) (sym none) in
    subst (λ old. SetsState old (record (the_view c.self.inside) { state = c.remove.new.self }) c.args.key.now c.args.value.now) c.self.view_is
    (subst (λ t. SetsState (the_view c.self.inside) (record (the_view c.self.inside) { state = t }) c.args.key.now c.args.value.now) (sym e) (sets_state _ c.args.key.now c.args.value.now))

pub invariant_of-self-2 : goal.invariant_of-self-2
invariant_of-self-2 c =
    let some : (length c.args.value.now == 0) ≡ false = sym c.if-is_empty.ensures in
    settled _ c.put.result c.put.ensures.ok c.put.ensures.err
    (λ e. subst (λ t. IsKept (record (the_view c.self.inside) { state = t }))
    (sym (e ∙ ap (λ b. if b then without c.self.inside.state c.args.key.now else put c.self.inside.state c.args.key.now c.args.value.now) (sym some))) (kept_state _ c.self.invariant c.args.key.now c.args.value.now (key_word _ c.requires.key c.requires.word) c.requires.value))
    (λ e. subst (λ t. IsKept (record (the_view c.self.inside) { state = t })) (sym e) c.self.invariant)

pub returns-clause-alone : goal.returns-clause-alone
returns-clause-alone c =
    let some : (length c.args.value.now == 0) ≡ false = sym c.if-is_empty.ensures in
    on_ok c.put.result c.put.ensures.ok (λ e.
    subst (λ old. SetsState old (record (the_view c.self.inside) { state = c.put.new.self }) c.args.key.now c.args.value.now) c.self.view_is
    (subst (λ t. SetsState (the_view c.self.inside) (record (the_view c.self.inside) { state = t }) c.args.key.now c.args.value.now)
    (sym (e ∙ ap (λ b. if b then without c.self.inside.state c.args.key.now else put c.self.inside.state c.args.key.now c.args.value.now) (sym some))) (sets_state _ c.args.key.now c.args.value.now)))
