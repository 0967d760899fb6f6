use Rattle.std.proofs.Common.{ℕ, Bool, List, ◌++◌, ◌∷◌, [], refl, sym, ap, ◌∙◌}
use Rattle.annex_model.specs.Lines.{has_newline, text}
use Rattle.annex_model.specs.Messages.{HostMessage, host_reading}
use Rattle.wire_msg.specs.Shown.{host_shown}
use Rattle.wire_line.specs.HeldBytes.{after_line}
use Rattle.kit_serve.proofs.KitLemmas.Fields.{spelled_fields}
use Rattle.pair_kit.specs.declared.taken.Taken.{Taken}
use Rattle.pair_kit.specs.Works.{request_with, last_said}
use Rattle.pair_kit.specs.Pairs.{PairValue}
use Rattle.pair_kit.proofs.Taking.{work_done, of_some, whole_ends, pair_is}
use Rattle.pair_kit.proofs.pair.Pair.work.Goals as goal
use Rattle.wire_line.proofs.Firsts.{no_newline_before as first_whole}

pub step_kit-requires-clause-lines : goal.step_kit-requires-clause-lines
step_kit-requires-clause-lines c =
    let whole = of_some c.in_ok-line.field-0 c.in-Some.line _ _ c.in-Some.is c.in_ok-line.ensures in
    spelled_fields (host_shown c.in-Some-read_host.message) c.view.result.now c.in-Some-read_host.ensures.spelled
    (ap (λ (l : List ℕ). has_newline l) (c.view.ensures ∙ whole.1) ∙ first_whole c.self.inside.at_kit)

pub returns : goal.returns
returns c =
    let s = c.self.inside in
    let m : HostMessage = host_shown c.in-Some-read_host.message in
    let line : List ℕ = c.in-Some.line in
    let say : List (List ℕ) = c.in_ok-call.say in
    let one : Taken = record { line = line; call = c.in_ok-call.call } in
    let view : PairValue = record { kit = s.kit; request = s.request; taken = s.taken.items; to_kit = s.to_kit; at_kit = s.at_kit; to_host = s.to_host; at_host = s.at_host } in
    let whole = of_some c.in_ok-line.field-0 line _ _ c.in-Some.is c.in_ok-line.ensures in
    work_done c.args.keys.now c.args.files.now c.serve.new.keys c.serve.new.files view c.args.self.now _ m c.in_ok-call.call say
    line c.in_ok-bytes.bytes c.in_ok-answer.answer c.in_ok-word.word c.self.view_is c.requires (sym c.is_waiting.ensures ∙ c.if-is_waiting.false) whole
    (ap host_reading (sym c.view.ensures) ∙ sym c.in-Some-read_host.ensures.reading) c.in_ok-word.ensures.word c.in_ok-call.ensures c.in_ok-bytes.ensures
    (c.in_ok-answer.ensures ∙ ap (λ (b : Bool). last_said b say) c.is_free.ensures)
    (pair_is view _ c.step_kit.new.kit c.in_ok-request.request (request_with s.request m line) c.drop_line.new.self (after_line s.at_kit) c.push_lines.new.pipe (s.to_host ++ text say)
    c.push.new.self.items (s.taken.items ++ one ∷ []) refl (c.in_ok-request.ensures ∙ ap (request_with s.request m) c.view-2.ensures) c.in_ok-push.ensures.items
    (c.drop_line.ensures (whole_ends s.at_kit whole.0)) c.in_ok-push_lines.ensures)
