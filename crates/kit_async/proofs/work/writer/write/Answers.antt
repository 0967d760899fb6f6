use Rattle.std.proofs.Common.{ℕ, List, [], ◌∷◌, ◌++◌, refl, subst, take}
use Rattle.std.specs.Io.KnownBytes.{Appends}
use Rattle.kit_async_model.specs.declared.event.Event.TheVariants.{Wrote}
use Rattle.kit_async.proofs.WorkLemmas.Groups.{answered, numbered}
use Rattle.kit_async.proofs.WorkLemmas.Writers.{ran_failed, ran_put}
use Rattle.kit_async.proofs.work.writer.write.Goals as goal

pub enter-requires : goal.enter-requires
enter-requires g c = numbered _ _ _ c.requires.stands

pub returns-in-Ok-clause-ran : goal.returns-in-Ok-clause-ran
returns-in-Ok-clause-ran g c =
    let took = subst (λ (l : List ℕ). Appends (g.W.Sink.told c.args.sink.now).taken (g.W.Sink.told c.put.new.sink).taken (l ++ 10 ∷ [])) c.view.ensures c.in-Ok.ensures.ok in
    ran_put _ _ _ _ _ _ c.put.result _ c.requires.stands c.enter.ensures.stands (answered _ _ _ Wrote c.enter.result (c.enter.ensures.free refl) c.enter.ensures.some)
    c.requires.line c.in-Ok.is took c.put.ensures.silent c.put.ensures.sink

pub stop_for-requires : goal.stop_for-requires
stop_for-requires g c = numbered _ _ _ c.requires.stands

pub returns-in-Err-clause-ran : goal.returns-in-Err-clause-ran
returns-in-Err-clause-ran g c =
    let took = subst (λ (l : List ℕ). (n : ℕ) × Appends (g.W.Sink.told c.args.sink.now).taken (g.W.Sink.told c.put.new.sink).taken (take n (l ++ 10 ∷ []))) c.view.ensures c.put.ensures.prefix in
    ran_failed _ _ _ _ _ _ c.put.result _ c.stop_for.result c.requires.stands c.stop_for.ensures.stands c.stop_for.ensures.broken
    c.requires.line c.in-Err.is took c.put.ensures.silent c.put.ensures.sink c.stop_for.ensures.over
