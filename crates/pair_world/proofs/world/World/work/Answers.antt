use Rattle.std.proofs.Common.{◌∙◌, ◌<◌, ◌++◌, ℕ, List, length, refl, ap, subst}
use Rattle.pair_kit.specs.Outcomes.{Worked}
use Rattle.pair_kit.specs.Pairs.{PairValue}
use Rattle.pair_kit.specs.Works.{answered}
use Rattle.pair_world.proofs.Worked.{works_over, works_line}
use Rattle.pair_world.proofs.world.World.work.Goals as goal

pub returns-in-Over-clause-moves : goal.returns-in-Over-clause-moves
returns-in-Over-clause-moves c =
    let s = c.self.inside in
    let within = subst (λ (ps : List PairValue). c.in-Some.at < length ps) c.as_slice.ensures.value c.in-Some.ensures.2 in
    works_over _ c.args.self.now _ c.args.child c.in-Some.at c.index_mut-pair.result.now c.work.new.self c.work.new.keys c.work.new.files c.self.view_is c.in-Some.ensures.1 within
    c.index_mut-pair.ensures.value (subst (Worked s.keys s.files c.index_mut-pair.result.now c.work.new.keys c.work.new.files c.work.new.self) c.in-Over.is c.in_ok-work.ensures) refl

pub returns-in_ok-keep_answer-in-Line-clause-moves : goal.returns-in_ok-keep_answer-in-Line-clause-moves
returns-in_ok-keep_answer-in-Line-clause-moves c =
    let s = c.self.inside in
    let within = subst (λ (ps : List PairValue). c.in-Some.at < length ps) c.as_slice.ensures.value c.in-Some.ensures.2 in
    works_line _ c.args.self.now _ c.args.child c.in-Some.at c.index_mut-pair.result.now c.work.new.self c.work.new.keys c.work.new.files c.in-Line.answer c.in-Line.bytes
    c.keep_answer.new.answers.items c.self.view_is c.in-Some.ensures.1 within c.index_mut-pair.ensures.value
    (subst (Worked s.keys s.files c.index_mut-pair.result.now c.work.new.keys c.work.new.files c.work.new.self) c.in-Line.is c.in_ok-work.ensures)
    (c.in_ok-keep_answer-in-Line.ensures ∙ ap (λ (r : List ℕ). s.answers.items ++ answered c.args.child r c.in-Line.answer c.in-Line.bytes) c.request.ensures) refl
