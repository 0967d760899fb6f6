use Rattle.std.proofs.Common.{◌∙◌, sym, refl, ap}
use Rattle.std.specs.Prelude.{Ok}
use Rattle.std.proofs.lemmas.Result.{err_from_is_err_and}
use Rattle.task_run.specs.Get.ChunkFetches.{Unmade, Undone, Fetched}
use Rattle.task_run.proofs.get.get_chunk.take_chunk.Goals as goal

pub returns-in_err-verdict-clause-took : goal.returns-in_err-verdict-clause-took
returns-in_err-verdict-clause-took g c =
    let p = err_from_is_err_and c.from_residual.result c.from_residual.ensures.1 in
    rw (p.1, p.2) record { how = Unmade; so = record { none_asked = c.in_err-verdict.ensures.pairs; none_called = refl; no_memory = refl } }

pub returns-else-is_done-clause-took : goal.returns-else-is_done-clause-took
returns-else-is_done-clause-took g c = record {
  how = Undone c.in_ok-verdict.verdict;
  so = record {
    asks = c.in_ok-verdict.ensures.pairs;
    of_kind = c.in_ok-verdict.ensures.verdict;
    not_done = sym c.is_done.ensures ∙ c.if-is_done.false;
    none_called = refl;
    goes = ap Ok c.undone.ensures;
  };
}

pub returns-then-is_done-clause-took : goal.returns-then-is_done-clause-took
returns-then-is_done-clause-took g c = let d = c.come_in.ensures.came in record {
  how = Fetched c.in_ok-verdict.verdict d.how;
  so = record {
    asks = c.in_ok-verdict.ensures.pairs;
    done = sym c.is_done.ensures ∙ c.if-is_done.true;
    calls = d.calls;
    goes = d.result_is;
    so = d.so;
  };
}
