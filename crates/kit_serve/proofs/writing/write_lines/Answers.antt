use Rattle.std.proofs.Common.{◌≡◌, ◌+◌, ◌<◌, ◌≤◌, [], ◌∷◌, ◌++◌, List, ℕ, length, take, drop, get_or, sym, ap, ◌∙◌, subst, arith}
use Rattle.std.specs.Io.KnownBytes.{Appends}
use Rattle.std.proofs.lemmas.List.{get_or_read}
use Rattle.ann_outside.proofs.Telling.{appends_both}
use Rattle.annex_model.specs.Lines.{text}
use Rattle.kit_serve.proofs.Texts.{prefix_more, prefix_whole, text_behind, text_all}
use Rattle.kit_serve.proofs.writing.write_lines.Goals as goal
use Rattle.annex_model.proofs.Across.{text_next}

pub loop-line-preserved : goal.loop-line-preserved
loop-line-preserved g c =
    let ls : List (List ℕ) = c.view-line-items.result.now in
    let i : ℕ = c.loop-line.line-index in
    let within : i < length ls = omega arith in
    let line : get_or ls i [] ≡ c.view.result.now = sym (get_or_read ls i _ within c.line-item.is []) ∙ sym c.view.ensures in
    record {
      took = subst (λ (l : List ℕ). Appends (g.W.Sink.told c.args.sink.now).taken (g.W.Sink.told c.write_line.new.sink).taken l) (text_next ls i c.view.result.now within line)
          (appends_both (g.W.Sink.told c.args.sink.now).taken (g.W.Sink.told c.loop-line.sink).taken (g.W.Sink.told c.write_line.new.sink).taken (text (take i ls)) (c.view.result.now ++ 10 ∷ [])
          c.loop-line.invariant.took c.in_ok-write_line.ensures.ok);
      silent = λ untold. c.write_line.ensures.silent (c.loop-line.invariant.silent untold);
      quiet = c.in_ok-write_line.ensures.cause.done ∙ c.loop-line.invariant.quiet;
      later = omega (arith, c.loop-line.invariant.later, c.write_line.ensures.cause.later);
      opened = c.write_line.ensures.stays.0;
      number = c.write_line.ensures.stays.1 ∙ c.loop-line.invariant.number;
    }

pub returns-in_err-write_line-clause-prefix : goal.returns-in_err-write_line-clause-prefix
returns-in_err-write_line-clause-prefix g c =
    let ls : List (List ℕ) = c.view-line-items.result.now in
    let i : ℕ = c.loop-line.line-index in
    let within : i < length ls = omega arith in
    let line : get_or ls i [] ≡ c.view.result.now = sym (get_or_read ls i _ within c.line-item.is []) ∙ sym c.view.ensures in
    subst (λ (l : List ℕ). (n : ℕ) × Appends (g.W.Sink.told c.args.sink.now).taken (g.W.Sink.told c.write_line.new.sink).taken (take n l))
    (sym (text_behind ls i c.view.result.now within line) ∙ ap text c.view-line-items.ensures)
    (prefix_more (g.W.Sink.told c.args.sink.now).taken (g.W.Sink.told c.loop-line.sink).taken (g.W.Sink.told c.write_line.new.sink).taken (text (take i ls)) (c.view.result.now ++ 10 ∷ []) (text (drop (i + 1) ls))
    c.loop-line.invariant.took c.write_line.ensures.prefix)

pub returns-clause-prefix : goal.returns-clause-prefix
returns-clause-prefix g c =
    let ls : List (List ℕ) = c.view-line-items.result.now in
    let i : ℕ = c.loop-line.line-index in
    let past : length ls ≤ i = omega arith in
    prefix_whole (g.W.Sink.told c.args.sink.now).taken (g.W.Sink.told c.hand_on.new.self).taken (text c.args.lines.now)
    (subst (λ t. Appends (g.W.Sink.told c.args.sink.now).taken t (text c.args.lines.now)) (sym c.hand_on.ensures.bytes)
    (subst (λ (l : List ℕ). Appends (g.W.Sink.told c.args.sink.now).taken (g.W.Sink.told c.loop-line.sink).taken l) (text_all ls i past ∙ ap text c.view-line-items.ensures) c.loop-line.invariant.took))
