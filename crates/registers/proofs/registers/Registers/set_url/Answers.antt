use Rattle.std.proofs.Common.{true, false, subst, sym}
use Rattle.registers.specs.Registers.{IsKept, SetsUrl}
use Rattle.registers.specs.contracts.registers.Registers.{the_view}
use Rattle.registers.proofs.Settings.{settled, on_ok, key_word, sets_url, kept_url}
use Rattle.registers.proofs.registers.Registers.set_url.Goals as goal

pub invariant_of-self : goal.invariant_of-self
invariant_of-self c =
    settled _ c.add.result c.add.ensures.ok c.add.ensures.err
    (λ e. subst (λ t. IsKept (record (the_view c.self.inside) { urls = t })) (sym e) (kept_url _ c.self.invariant c.args.key.now c.args.url.now true (key_word _ c.requires.key c.requires.word) c.requires.url))
    (λ e. subst (λ t. IsKept (record (the_view c.self.inside) { urls = t })) (sym e) c.self.invariant)

pub returns-then-present-clause-alone : goal.returns-then-present-clause-alone
returns-then-present-clause-alone c = on_ok c.add.result c.add.ensures.ok (λ e.
    subst (λ old. SetsUrl old (record (the_view c.self.inside) { urls = c.add.new.self }) c.args.key.now c.args.url.now c.args.present) c.self.view_is
    (subst (λ b. SetsUrl (the_view c.self.inside) (record (the_view c.self.inside) { urls = c.add.new.self }) c.args.key.now c.args.url.now b) (sym c.if-present.true)
    (subst (λ t. SetsUrl (the_view c.self.inside) (record (the_view c.self.inside) { urls = t }) c.args.key.now c.args.url.now true) (sym e) (sets_url _ c.args.key.now c.args.url.now true))))

pub invariant_of-self-2 : goal.invariant_of-self-2
invariant_of-self-2 c =
    settled _ c.remove.result c.remove.ensures.ok c.remove.ensures.err
    (λ e. subst (λ t. IsKept (record (the_view c.self.inside) { urls = t })) (sym e) (kept_url _ c.self.invariant c.args.key.now c.args.url.now false (key_word _ c.requires.key c.requires.word) c.requires.url))
    (λ e. subst (λ t. IsKept (record (the_view c.self.inside) { urls = t })) (sym e) c.self.invariant)

pub returns-clause-alone : goal.returns-clause-alone
returns-clause-alone c = on_ok c.remove.result c.remove.ensures.ok (λ e.
    subst (λ old. SetsUrl old (record (the_view c.self.inside) { urls = c.remove.new.self }) c.args.key.now c.args.url.now c.args.present) c.self.view_is
    (subst (λ b. SetsUrl (the_view c.self.inside) (record (the_view c.self.inside) { urls = c.remove.new.self }) c.args.key.now c.args.url.now b) (sym c.if-present.false)
    (subst (λ t. SetsUrl (the_view c.self.inside) (record (the_view c.self.inside) { urls = t }) c.args.key.now c.args.url.now false) (sym e) (sets_url _ c.args.key.now c.args.url.now false))))
