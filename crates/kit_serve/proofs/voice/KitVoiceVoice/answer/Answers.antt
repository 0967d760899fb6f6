use Rattle.std.proofs.Common.{◌≡◌, ◌∙◌, ◌&&◌, Option, Some, Result, Ok, Err, OnErr, option_map, false, sym, ap, inr, refl, subst}
use Rattle.std.proofs.lemmas.Bool.{and_parts}
use Rattle.annex_model.specs.Messages.{HostMessage, host_reading}
use Rattle.wire_msg.specs.Shown.{host_shown}
use Rattle.kit_serve.specs.Kit.Descriptions.{aside_lines}
use Rattle.kit_serve.specs.Kit.Described.{is_about}
use Rattle.kit_serve.specs.Kit.Stages.{KitValue, Steps, is_free}
use Rattle.kit_serve.proofs.KitLemmas.Fields.{spelled_fields}
use Rattle.kit_serve.proofs.KitVoices.{aside_utters, kit_utters, free_live}
use Rattle.kit_serve.proofs.voice.KitVoiceVoice.answer.Goals as goal

on_err : {T E : Type 0} (P : Type 0) (r : Result T E) → P → OnErr r P
on_err P (Ok x) p = tt
on_err P (Err e) p = p

pub returns-then-goes_aside-clause-replies : goal.returns-then-goes_aside-clause-replies
returns-then-goes_aside-clause-replies g c =
    let kit = c.args.self.now in
    let same : c.self.inside.kit ≡ kit = cc in
    let request : Option HostMessage = option_map host_shown c.read_host-message.result in
    let both = and_parts (is_free kit.stage) (is_about request) (sym c.goes_aside.ensures ∙ c.if-goes_aside.true) in (
      aside_utters g.R.Remote.settings g.R.Remote.calls g.D.Describer.description kit c.args.line.now request c.in_ok-say.say (sym c.read_host-message.ensures.reading)
          (c.in_ok-say.ensures.line ∙ ap (λ r. aside_lines (g.D.Describer.description r) request) c.remote.ensures ∙ ap (λ (k : KitValue _). aside_lines (g.D.Describer.description k.remote) request) same) both.0 both.1,
      sym (free_live kit.stage both.0),
    )

pub returns-in_err-say-clause-lacks : goal.returns-in_err-say-clause-lacks
returns-in_err-say-clause-lacks g c =
    let kit = c.args.self.now in
    let request : Option HostMessage = option_map host_shown c.read_host-message.result in
    let both = and_parts (is_free kit.stage) (is_about request) (sym c.goes_aside.ensures ∙ c.if-goes_aside.true) in
    on_err _ c.from_residual.result (inr (both.0, ap is_about (sym c.read_host-message.ensures.reading) ∙ both.1, refl))

pub step-requires-clause-lines : goal.step-requires-clause-lines
step-requires-clause-lines g c = spelled_fields (host_shown c.in-Some.message) c.args.line.now c.in-Some.ensures.spelled c.requires.line

pub returns-in_ok-step-in-Some-clause-replies : goal.returns-in_ok-step-in-Some-clause-replies
returns-in_ok-step-in-Some-clause-replies g c =
    let kit = c.args.self.now in
    let same : c.self.inside.kit ≡ kit = cc in
    let settings = g.R.Remote.settings in
    let calls = g.R.Remote.calls in
    let m : HostMessage = host_shown c.in-Some.message in
    let reads : host_reading c.args.line.now ≡ Some m = sym c.in-Some.ensures.reading in
    let stays : (is_free kit.stage && is_about (Some m)) ≡ false =
    ap (λ (o : Option HostMessage). is_free kit.stage && is_about o) (sym reads ∙ sym c.read_host-message.ensures.reading) ∙ sym c.goes_aside.ensures ∙ c.if-goes_aside.false in (
      kit_utters g.R.Remote.settings g.R.Remote.calls g.D.Describer.description kit c.step.new.self c.args.line.now m
          c.in_ok-step-in-Some.step.say c.in_ok-step-in-Some.step.over reads
          (subst (λ (k : KitValue _). Steps calls (settings k.remote) k c.step.new.self m c.in_ok-step-in-Some.step.say c.in_ok-step-in-Some.step.over) same c.in_ok-step-in-Some.ensures.step)
          stays c.requires.live (c.step.ensures.settings ∙ ap (λ (k : KitValue _). settings k.remote) same),
      c.in_ok-step-in-Some.ensures.over,
    )

pub returns-then-goes_aside-clause-aside : goal.returns-then-goes_aside-clause-aside
returns-then-goes_aside-clause-aside g c =
    let same : c.self.inside.kit ≡ c.args.self.now = cc in
    let request : Option HostMessage = option_map host_shown c.read_host-message.result in λ goes.
    c.in_ok-say.ensures.line ∙ ap (λ r. aside_lines (g.D.Describer.description r) request) c.remote.ensures
    ∙ ap (λ (k : KitValue _). aside_lines (g.D.Describer.description k.remote) request) same
    ∙ ap (aside_lines (g.D.Describer.description c.args.self.now.remote)) c.read_host-message.ensures.reading
