use Rattle.std.proofs.Common.{◌≡◌, sym, ap, true, false, Bool, rules, tests, refl}
use Rattle.std.specs.Prelude.{is_some, not, ◌&&◌}
use Rattle.kit_serve.specs.Kit.Kits.{asked_by}
use Rattle.kit_async_model.specs.Jobs.{due_in, is_making_ready}
use Rattle.kit_async_model.proofs.Dues.{not_asked, some_asked}
use Rattle.kit_async_model.proofs.job.Job.is_for_any.Goals as goal

joined : (a b : Bool) → a ≡ false → b ≡ true → true ≡ (not a && b)
joined a b h k = rw (h, k) refl

refused : (a b : Bool) → b ≡ false → false ≡ (not a && b)
refused true b k = refl
refused false b k = sym k

pub returns-in-Call : goal.returns-in-Call
returns-in-Call c =
    let making : is_making_ready c.args.self.now ≡ false = search (rules, tests) in
    joined (is_making_ready c.args.self.now) (is_some (asked_by (due_in c.args.setup.now c.args.self.now))) making
    (some_asked (due_in c.args.setup.now c.args.self.now) c.in-Call.ensures)

pub returns-in_default : goal.returns-in_default
returns-in_default c =
    refused (is_making_ready c.args.self.now) (is_some (asked_by (due_in c.args.setup.now c.args.self.now)))
    (ap is_some (not_asked c.due.result (due_in c.args.setup.now c.args.self.now) c.due.ensures c.in_default.not-Call))
