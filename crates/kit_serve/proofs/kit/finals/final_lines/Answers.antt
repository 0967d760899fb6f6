use Rattle.std.proofs.Common.{ℕ, List, IsTrue, ap, sym, ◌∙◌, subst}
use Rattle.annex_model.specs.Lines.{has_newline}
use Rattle.annex_model.specs.Messages.{remote_line}
use Rattle.wire_msg.specs.Shown.{host_shown}
use Rattle.kit_serve.specs.Kit.Calls.{are_lines}
use Rattle.kit_serve.proofs.KitLemmas.Endless.{final_free, lines_push}
use Rattle.kit_serve.proofs.kit.finals.final_lines.Goals as goal

pub returns-clause-lines : goal.returns-clause-lines
returns-clause-lines c = λ fields.
    let free = ap has_newline (c.in_ok-line.ensures.line ∙ ap remote_line c.final_message.ensures.line) ∙ final_free (host_shown c.args.request) c.args.said.now fields c.requires.text in
    subst (λ (ls : List (List ℕ)). IsTrue (are_lines ls)) (sym (c.new.ensures ∙ c.in_ok-push.ensures.items)) (lines_push c.in_ok-say.say.items c.in_ok-line.line c.in_ok-say.ensures.lines free)
