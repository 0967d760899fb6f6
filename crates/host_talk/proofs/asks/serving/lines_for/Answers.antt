use Rattle.std.proofs.Common.{List, ℕ, not, ap, ◌∙◌}
use Rattle.ann_key.specs.KeyRefs.{text_of}
use Rattle.annex_model.specs.Lines.{has_newline}
use Rattle.annex_model.specs.Messages.{is_word}
use Rattle.registers.specs.Registers.{urls_of}
use Rattle.host_talk.proofs.AsksLemmas.KeyDirectories.{mixed_line, lower_line}
use Rattle.host_talk.proofs.AsksLemmas.Owed.{config_fits, user_is_word, user_fits, password_fits, wanted_fits, state_fits, urls_fit, value_made, creds_made, urls_made}
use Rattle.host_talk.proofs.asks.serving.lines_for.Goals as goal

pub creds-requires-in-Getcreds : goal.creds-requires-in-Getcreds
creds-requires-in-Getcreds c =
    ap (λ (login : List ℕ × List ℕ). is_word login.0) c.creds.ensures.value ∙ user_is_word c.args.registers.now c.creds.ensures.kept c.in-Getcreds.setting.now

pub returns-in-Dirhash-clause-lines : goal.returns-in-Dirhash-clause-lines
returns-in-Dirhash-clause-lines c =
    value_made c.value.result c.mixed.result c.value.ensures (ap (λ (v : List ℕ). not (has_newline v)) c.mixed.ensures ∙ mixed_line (text_of c.in-Dirhash.key))

pub returns-in-DirhashLower-clause-lines : goal.returns-in-DirhashLower-clause-lines
returns-in-DirhashLower-clause-lines c =
    value_made c.value-in-DirhashLower.result c.lower.result c.value-in-DirhashLower.ensures
    (ap (λ (v : List ℕ). not (has_newline v)) c.lower.ensures ∙ lower_line (text_of c.in-DirhashLower.key))

pub returns-in-Getconfig-clause-lines : goal.returns-in-Getconfig-clause-lines
returns-in-Getconfig-clause-lines c =
    value_made c.value-in-Getconfig.result c.config.result.now c.value-in-Getconfig.ensures
    (ap (λ (v : List ℕ). not (has_newline v)) c.config.ensures.value ∙ config_fits c.args.registers.now c.config.ensures.kept c.in-Getconfig.name.now)

pub returns-in-Getcreds-clause-lines : goal.returns-in-Getcreds-clause-lines
returns-in-Getcreds-clause-lines c =
    let r = c.args.registers.now in
    let setting = c.in-Getcreds.setting.now in
    creds_made c.creds-in-Getcreds.result c.creds.result.0.now c.creds.result.1.now c.creds-in-Getcreds.ensures
    (ap (λ (login : List ℕ × List ℕ). not (has_newline login.0)) c.creds.ensures.value ∙ user_fits r c.creds.ensures.kept setting)
    (ap (λ (login : List ℕ × List ℕ). not (has_newline login.1)) c.creds.ensures.value ∙ password_fits r c.creds.ensures.kept setting)

pub returns-in-Getwanted-clause-lines : goal.returns-in-Getwanted-clause-lines
returns-in-Getwanted-clause-lines c =
    value_made c.value-in-Getwanted.result c.wanted.result.now c.value-in-Getwanted.ensures
    (ap (λ (v : List ℕ). not (has_newline v)) c.wanted.ensures.value ∙ wanted_fits c.args.registers.now c.wanted.ensures.kept)

pub returns-in-Getstate-clause-lines : goal.returns-in-Getstate-clause-lines
returns-in-Getstate-clause-lines c =
    value_made c.value-in-Getstate.result c.state.result.now c.value-in-Getstate.ensures
    (ap (λ (v : List ℕ). not (has_newline v)) c.state.ensures.value ∙ state_fits c.args.registers.now c.state.ensures.kept c.text.result.now)

pub returns-in-Geturls-clause-lines : goal.returns-in-Geturls-clause-lines
returns-in-Geturls-clause-lines c =
    urls_made c.urls.result (urls_of c.args.registers.now c.text-in-Geturls.result.now c.in-Geturls.prefix.now) c.urls.ensures.lines
    (urls_fit c.args.registers.now c.urls.ensures.kept c.text-in-Geturls.result.now c.in-Geturls.prefix.now)
