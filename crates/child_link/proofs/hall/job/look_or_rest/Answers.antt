use Rattle.std.proofs.Common.{◌≡◌, ◌∙◌, refl, sym, false, Option, Some, None}
use Rattle.std.specs.Option.{is_some}
use Rattle.journal_model.specs.declared.verdict.Verdict.{Verdict}
use Rattle.child_link.proofs.Asking.{grows_on, grows_seen}
use Rattle.child_link.proofs.Replying.{asked_then, unsettled_waits}
use Rattle.child_link.proofs.Roles.{seen_still}
use Rattle.child_link.proofs.hall.job.look_or_rest.Goals as goal

none_there : (v : Option Verdict) → is_some v ≡ false → v ≡ None
none_there None h = refl
none_there (Some v) h = absurd cc

pub rest-requires : goal.rest-requires
rest-requires g c = record {
  waits =
      unsettled_waits (g.D.Door.view c.verdict-settled.new.door).opening (g.D.Door.view c.verdict-settled.new.door).number c.args.child c.args.job (g.D.Door.view c.verdict-settled.new.door).seen
      (asked_then c.args.child c.args.job c.verdict-settled.ensures.passed c.requires.asked)
      (sym c.verdict-settled.ensures.verdict ∙ none_there c.verdict-settled.result c.if-is_none.ensures);
}

pub returns-then-is_none-clause-grows : goal.returns-then-is_none-clause-grows
returns-then-is_none-clause-grows g c = grows_seen (sym (seen_still c.rest.ensures)) (grows_on c.verdict-settled.ensures.passed)

pub returns-else-is_none-clause-grows : goal.returns-else-is_none-clause-grows
returns-else-is_none-clause-grows g c = grows_on c.verdict-settled.ensures.passed
