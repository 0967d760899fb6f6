use Rattle.std.proofs.Common.{subst, sym}
use Rattle.registers.specs.Registers.{IsKept, SetsConfig}
use Rattle.registers.proofs.Settings.{settled, on_ok, sets_config, kept_config}
use Rattle.registers.specs.contracts.registers.Registers.{the_view}
use Rattle.registers.proofs.registers.Registers.set_config.Goals as goal

pub invariant_of-self : goal.invariant_of-self
invariant_of-self c =
    settled _ c.put.result c.put.ensures.ok c.put.ensures.err
    (λ e. subst (λ t. IsKept (record (the_view c.self.inside) { config = t })) (sym e) (kept_config _ c.self.invariant c.args.name.now c.args.value.now c.requires.name c.requires.value))
    (λ e. subst (λ t. IsKept (record (the_view c.self.inside) { config = t })) (sym e) c.self.invariant)

pub returns-clause-alone : goal.returns-clause-alone
returns-clause-alone c = on_ok c.put.result c.put.ensures.ok (λ e.
    subst (λ old. SetsConfig old (record (the_view c.self.inside) { config = c.put.new.self }) c.args.name.now c.args.value.now) c.self.view_is
    (subst (λ t. SetsConfig (the_view c.self.inside) (record (the_view c.self.inside) { config = t }) c.args.name.now c.args.value.now) (sym e) (sets_config _ c.args.name.now c.args.value.now)))
