use Rattle.std.proofs.Common.{◌≡◌, ◌∙◌, ap, sym, Bor, List, ℕ}
use Rattle.registers.specs.Registers.{with_config}
use Rattle.mirror_children.specs.Plan.Settings.{set_pair}
use Rattle.mirror_children.proofs.PlanLemmas.Reading.{pair_fails, pair_spelled, pair_set}
use Rattle.mirror_children.proofs.plan.plan.registers_of.Goals as goal

pub returns-in_default : goal.returns-in_default
returns-in_default c =
    pair_fails c.args.words.now c.loop-word.word-index _ c.loop-word-test.true c.loop-word.invariant.spelled c.in_default.ensures

pub loop-word-preserved : goal.loop-word-preserved
loop-word-preserved c =
    let h = c.in-Some.ensures in
    let ws = c.args.words.now in
    let i = c.loop-word.word-index in
    record {
      spelled = pair_spelled ws i _ c.loop-word-test.true c.loop-word.invariant.spelled h.0;
      set = pair_set ws i _ c.loop-word.registers c.set_config.new.self c.loop-word-test.true c.loop-word.invariant.set
          (c.in_ok-set_config.ensures.ok ∙ ap (λ (n : List ℕ). with_config c.loop-word.registers n c.as_bytes-in-loop-word.result.now) (c.as_bytes.ensures.value ∙ h.1)
          ∙ ap (with_config c.loop-word.registers _) (c.as_bytes-in-loop-word.ensures.value ∙ h.2));
    }
