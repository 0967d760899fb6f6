use Rattle.std.proofs.Common.{ap, map, refl}
use Rattle.kit_async_model.specs.Entries.{EntriesValue}
use Rattle.kit_async.specs.declared.why.Why.TheVariants.{Memory}
use Rattle.kit_async.specs.Served.{journal_of, tells_by}
use Rattle.kit_async.proofs.Kept.{uncaused, unserved}
use Rattle.kit_async.proofs.serving.unserved.Goals as goal

pub returns-clause-serves : goal.returns-clause-serves
returns-clause-serves g c = λ setup. unserved setup
    (tells_by (g.S.Source.told c.args.source) (g.W.Sink.told c.args.sink) (map g.K.Remote.calls c.args.remotes.items))
    (journal_of c.new.result Memory) (ap (λ (e : EntriesValue). e.entries) c.new.ensures) refl

pub returns-clause-causes : goal.returns-clause-causes
returns-clause-causes g c = uncaused Memory (g.S.Source.told c.args.source) (g.W.Sink.told c.args.sink) refl
