use Rattle.std.proofs.Common.{[], refl, ap, subst}
use Rattle.std.specs.Prelude.{Ok, Err}
use Rattle.std.proofs.lemmas.Result.{err_from_is_err_and}
use Rattle.kit_serve.specs.declared.kit.call.Said.{Said}
use Rattle.kit_serve.specs.declared.kit.call.Said.TheVariants.{Failure, Set}
use Rattle.dir_remote.specs.Answers.{Prepares, first_of}
use Rattle.dir_remote.proofs.GuardLemmas.Adding.{adds_none}
use Rattle.dir_remote.proofs.guard.guarded.GuardedRemote.prepare.Goals as goal

pub returns-in_err-prepare-clause-readied : goal.returns-in_err-prepare-clause-readied
returns-in_err-prepare-clause-readied g c =
    let p = err_from_is_err_and c.from_residual.result c.from_residual.ensures.1 in
    let h = c.in_err-prepare.ensures in
    rw (p.1, p.2, ← c.self.view_is) (
      [],
      adds_none (g.P.Place.steps c.self.inside.place),
      record {
        desk = ap g.D.Desk.told h.desk;
        mark = h.mark;
        said = Err c.in_err-prepare.field-0.0;
        prepares = h.prepared;
        ready = λ e. absurd cc;
        unready = λ n. (refl, refl);
      },
    )

pub returns-in-Failure-clause-readied : goal.returns-in-Failure-clause-readied
returns-in-Failure-clause-readied g c =
    let h = c.in_ok-prepare.ensures in
    let P : Said → Type 0 = λ s. Prepares (first_of c.args.values.now) c.self.inside.remote.directory c.prepare.new.self.directory (Ok s) in
    rw (← c.self.view_is) (
      [],
      adds_none (g.P.Place.steps c.self.inside.place),
      record {
        desk = ap g.D.Desk.told h.desk;
        mark = h.mark;
        said = Ok (Failure c.in-Failure.text);
        prepares = subst P c.in-Failure.is h.prepared;
        ready = λ e. absurd cc;
        unready = λ n. (refl, refl);
      },
    )

pub returns-in-Set-clause-readied : goal.returns-in-Set-clause-readied
returns-in-Set-clause-readied g c =
    let h = c.in_ok-prepare.ensures in
    let P : Said → Type 0 = λ s. Prepares (first_of c.args.values.now) c.self.inside.remote.directory c.prepare.new.self.directory (Ok s) in
    rw (← c.self.view_is) (
      [],
      adds_none (g.P.Place.steps c.self.inside.place),
      record {
        desk = ap g.D.Desk.told h.desk;
        mark = h.mark;
        said = Ok (Set c.in-Set.pairs);
        prepares = subst P c.in-Set.is h.prepared;
        ready = λ e. absurd cc;
        unready = λ n. (refl, refl);
      },
    )
