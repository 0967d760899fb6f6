use Rattle.std.proofs.Common.{◌≡◌, ◌<◌, ◌≤◌, [], ◌++◌, List, ℕ, length, get_or, sym, ap, ◌∙◌, arith}
use Rattle.std.proofs.lemmas.List.{get_or_read, take_all}
use Rattle.annex_model.specs.Lines.{text}
use Rattle.pair_kit.proofs.Lines.{text_more}
use Rattle.pair_kit.proofs.pair.push_lines.Goals as goal

pub loop-line-preserved : goal.loop-line-preserved
loop-line-preserved c =
    let ls : List (List ℕ) = c.view-line-items.result.now in
    let i : ℕ = c.loop-line.line-index in
    let within : i < length ls = omega arith in
    let line : get_or ls i [] ≡ c.view.result.now = sym (get_or_read ls i _ within c.line-item.is []) ∙ sym c.view.ensures in
    text_more c.args.pipe.now c.loop-line.pipe c.push_line.new.self ls i c.view.result.now within line c.loop-line.invariant c.in_ok-push_line.ensures

pub returns : goal.returns
returns c =
    let ls : List (List ℕ) = c.view-line-items.result.now in
    let i : ℕ = c.loop-line.line-index in
    let past : length ls ≤ i = omega arith in
    c.loop-line.invariant ∙ ap (λ (l : List (List ℕ)). c.args.pipe.now ++ text l) (take_all i ls past ∙ c.view-line-items.ensures)
