use Rattle.std.proofs.Common.{◌≡◌, ◌<◌, ℕ, length, map, arith, false, true, refl, subst, sym, ap, ◌∙◌}
use Rattle.std.proofs.lemmas.List.{length-map}
use Rattle.journal_model.specs.declared.opening.Opening.{Opening}
use Rattle.journal_model.specs.Legality.{Legal}
use Rattle.host_core.specs.Steps.{are_all_claimed}
use Rattle.run_starts.specs.Rounds.{left_answer}
use Rattle.run_starts.specs.Stints.{AnswersLeft}
use Rattle.run_starts.proofs.Ending.{cores_both, leaves_kept, leaves_or, left_nothing, left_some}
use Rattle.run_children.proofs.Between.{all_over, at_err, at_ok, ran_jobs, still_many, whole_of}
use Rattle.run_children.proofs.Leftover.{jobs_left, kept_left}
use Rattle.run_children.proofs.running.run_jobs.Goals as goal

pub returns-then-unclaimed-gt0 : goal.returns-then-unclaimed-gt0
returns-then-unclaimed-gt0 g c =
    let o = c.args.bench.core.opening in
    let p = c.start_children-bench.result.0.core.opening in
    let mid = c.start_children-bench.result.0.core.journal in
    let new = c.answer_left.new.core.journal in
    let t = c.start_children-bench.ensures.started in
    let same_opening = c.start_children-bench.ensures.core.opening in
    let left : are_all_claimed o mid ≡ false =
    ap (λ (w : Opening). are_all_claimed w mid) (sym same_opening) ∙ left_some p mid c.unclaimed.result c.unclaimed.ensures (λ z. (let some = c.if-unclaimed-gt0.true in omega (arith, some, z))) in
    let ended = at_ok _ _ c.start_children-bench.result.1 c.in-Ok.field-0 c.in-Ok.is t.5 in
    let b = whole_of _ t.3 ended.0 in
    let over = all_over b ended.1 left in
    let a : AnswersLeft o mid new (left_answer mid) = subst (λ (w : Opening). AnswersLeft w mid new (left_answer mid)) same_opening c.answer_left.ensures.answers in
    let legal : Legal o new =
    subst (λ (w : Opening). Legal w new) (c.answer_left.ensures.core.opening ∙ same_opening) (c.answer_left.ensures.core.legal (subst (λ (w : Opening). Legal w mid) (sym same_opening) t.3.legal)) in
    let some : 0 < length (map g.K.Desk.told c.args.bench.desks.items) = subst (λ (n : ℕ). 0 < n) (c.args.bench.desks.ok.0 ∙ sym (length-map c.args.bench.desks.items g.K.Desk.told)) c.requires.desks.0 in
    record {
      ran = ran_jobs t.4 (jobs_left b some over.0 over.1 a legal);
      whole = a.all;
      leaves = leaves_kept _ (kept_left b some over.0 over.1 a legal (at_ok _ _ c.start_children-bench.result.1 c.in-Ok.field-0 c.in-Ok.is c.start_children-bench.ensures.kept));
      core = cores_both c.start_children-bench.ensures.core c.answer_left.ensures.core;
      desks = c.start_children-bench.result.0.desks.ok.0 ∙ sym (length-map c.start_children-bench.result.0.desks.items g.K.Desk.told) ∙ still_many t.3 ∙ length-map c.args.bench.desks.items g.K.Desk.told ∙ sym c.args.bench.desks.ok.0;
    }

pub returns-else-unclaimed-gt0 : goal.returns-else-unclaimed-gt0
returns-else-unclaimed-gt0 g c =
    let t = c.start_children-bench.ensures.started in
    let mid = c.start_children-bench.result.0.core.journal in
    let all : are_all_claimed c.args.bench.core.opening mid ≡ true =
    ap (λ (w : Opening). are_all_claimed w mid) (sym c.start_children-bench.ensures.core.opening)
    ∙ left_nothing c.start_children-bench.result.0.core.opening mid c.unclaimed.result c.unclaimed.ensures (let none = c.if-unclaimed-gt0.false in omega (arith, none)) in
    record {
      ran = ran_jobs t.4 t.3;
      whole = all;
      leaves = leaves_kept _ (at_ok _ _ c.start_children-bench.result.1 c.in-Ok.field-0 c.in-Ok.is c.start_children-bench.ensures.kept);
      core = c.start_children-bench.ensures.core;
      desks = c.start_children-bench.result.0.desks.ok.0 ∙ sym (length-map c.start_children-bench.result.0.desks.items g.K.Desk.told) ∙ still_many t.3 ∙ length-map c.args.bench.desks.items g.K.Desk.told ∙ sym c.args.bench.desks.ok.0;
    }

pub returns-in-Err-clause-ran : goal.returns-in-Err-clause-ran
returns-in-Err-clause-ran g c = (let t = c.start_children-bench.ensures.started in ran_jobs t.4 t.3)

pub returns-in-Err-clause-leaves : goal.returns-in-Err-clause-leaves
returns-in-Err-clause-leaves g c = (let k = at_err _ _ c.start_children-bench.result.1 c.in-Err.field-0 c.in-Err.is c.start_children-bench.ensures.kept in leaves_or _ refl k.1 k.2)

pub returns-in-Err-clause-desks : goal.returns-in-Err-clause-desks
returns-in-Err-clause-desks g c = (let t = c.start_children-bench.ensures.started in c.start_children-bench.result.0.desks.ok.0 ∙ sym (length-map c.start_children-bench.result.0.desks.items g.K.Desk.told) ∙ still_many t.3 ∙ length-map c.args.bench.desks.items g.K.Desk.told ∙ sym c.args.bench.desks.ok.0)

pub start_children-bench-requires-clause-handed : goal.start_children-bench-requires-clause-handed
start_children-bench-requires-clause-handed g c = λ κs fresh. record { tasks = c.requires.tasks; folder = c.requires.folder }

pub start_children-bench-requires-clause-may : goal.start_children-bench-requires-clause-may
start_children-bench-requires-clause-may g c = λ κs fresh. record { empty = c.requires.empty; starts = c.requires.starts; desks = c.requires.desks; none = c.requires.none; room = c.requires.room }
