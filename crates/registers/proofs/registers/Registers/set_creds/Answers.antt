use Rattle.std.proofs.Common.{subst, sym}
use Rattle.registers.specs.Registers.{IsKept, SetsCreds}
use Rattle.registers.specs.contracts.registers.Registers.{the_view}
use Rattle.registers.proofs.Settings.{settled, on_ok, sets_creds, kept_creds}
use Rattle.registers.proofs.registers.Registers.set_creds.Goals as goal

pub invariant_of-self : goal.invariant_of-self
invariant_of-self c =
    settled _ c.put.result c.put.ensures.ok c.put.ensures.err
    (λ e. subst (λ t. IsKept (record (the_view c.self.inside) { creds = t })) (sym e) (kept_creds _ c.self.invariant c.args.setting.now c.args.user.now c.args.password.now c.requires.setting c.requires.user c.requires.password))
    (λ e. subst (λ t. IsKept (record (the_view c.self.inside) { creds = t })) (sym e) c.self.invariant)

pub returns-clause-alone : goal.returns-clause-alone
returns-clause-alone c = on_ok c.put.result c.put.ensures.ok (λ e.
    subst (λ old. SetsCreds old (record (the_view c.self.inside) { creds = c.put.new.self }) c.args.setting.now c.args.user.now c.args.password.now) c.self.view_is
    (subst (λ t. SetsCreds (the_view c.self.inside) (record (the_view c.self.inside) { creds = t }) c.args.setting.now c.args.user.now c.args.password.now) (sym e) (sets_creds _ c.args.setting.now c.args.user.now c.args.password.now)))
