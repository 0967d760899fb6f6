use Rattle.std.proofs.Common.{ap, ◌∙◌}
use Rattle.ann_key.specs.KeyRefs.{text_of}
use Rattle.registers.specs.Registers.{is_word}
use Rattle.wire_msg.specs.Shown.{remote_shown}
use Rattle.host_talk.proofs.AsksLemmas.Settable.{config_fits, creds_fit, wanted_fits, state_fits, present_fits, missing_fits}
use Rattle.host_talk.proofs.asks.setting.set.Goals as goal

pub set_config-requires-clause-name : goal.set_config-requires-clause-name
set_config-requires-clause-name c = (config_fits (remote_shown c.args.message) c.requires.class c.requires.lines c.in-Setconfig.name.now c.in-Setconfig.value.now (ap remote_shown c.in-Setconfig.is)).0

pub set_config-requires-clause-value : goal.set_config-requires-clause-value
set_config-requires-clause-value c = (config_fits (remote_shown c.args.message) c.requires.class c.requires.lines c.in-Setconfig.name.now c.in-Setconfig.value.now (ap remote_shown c.in-Setconfig.is)).1

pub set_creds-requires-clause-setting : goal.set_creds-requires-clause-setting
set_creds-requires-clause-setting c = (creds_fit (remote_shown c.args.message) c.requires.class c.requires.lines c.in-Setcreds.setting.now c.in-Setcreds.user.now c.in-Setcreds.password.now (ap remote_shown c.in-Setcreds.is)).0

pub set_creds-requires-clause-user : goal.set_creds-requires-clause-user
set_creds-requires-clause-user c = (creds_fit (remote_shown c.args.message) c.requires.class c.requires.lines c.in-Setcreds.setting.now c.in-Setcreds.user.now c.in-Setcreds.password.now (ap remote_shown c.in-Setcreds.is)).1

pub set_creds-requires-clause-password : goal.set_creds-requires-clause-password
set_creds-requires-clause-password c = (creds_fit (remote_shown c.args.message) c.requires.class c.requires.lines c.in-Setcreds.setting.now c.in-Setcreds.user.now c.in-Setcreds.password.now (ap remote_shown c.in-Setcreds.is)).2

pub set_wanted-requires : goal.set_wanted-requires
set_wanted-requires c = wanted_fits (remote_shown c.args.message) c.requires.class c.requires.lines c.in-Setwanted.expression.now (ap remote_shown c.in-Setwanted.is)

pub set_state-requires-clause-word : goal.set_state-requires-clause-word
set_state-requires-clause-word c = ap is_word c.text.ensures ∙ (state_fits (remote_shown c.args.message) c.requires.class c.requires.lines (text_of c.in-Setstate.key) c.in-Setstate.value.now (ap remote_shown c.in-Setstate.is)).0

pub set_state-requires-clause-value : goal.set_state-requires-clause-value
set_state-requires-clause-value c = (state_fits (remote_shown c.args.message) c.requires.class c.requires.lines (text_of c.in-Setstate.key) c.in-Setstate.value.now (ap remote_shown c.in-Setstate.is)).1

pub set_url-requires-clause-word : goal.set_url-requires-clause-word
set_url-requires-clause-word c = ap is_word c.text-in-Seturlpresent.ensures ∙ (present_fits (remote_shown c.args.message) c.requires.class c.requires.lines (text_of c.in-Seturlpresent.key) c.in-Seturlpresent.url.now (ap remote_shown c.in-Seturlpresent.is)).0

pub set_url-requires-clause-url : goal.set_url-requires-clause-url
set_url-requires-clause-url c = (present_fits (remote_shown c.args.message) c.requires.class c.requires.lines (text_of c.in-Seturlpresent.key) c.in-Seturlpresent.url.now (ap remote_shown c.in-Seturlpresent.is)).1

pub set_url-requires-in-Seturlmissing-clause-word : goal.set_url-requires-in-Seturlmissing-clause-word
set_url-requires-in-Seturlmissing-clause-word c = ap is_word c.text-in-Seturlmissing.ensures ∙ (missing_fits (remote_shown c.args.message) c.requires.class c.requires.lines (text_of c.in-Seturlmissing.key) c.in-Seturlmissing.url.now (ap remote_shown c.in-Seturlmissing.is)).0

pub set_url-requires-in-Seturlmissing-clause-url : goal.set_url-requires-in-Seturlmissing-clause-url
set_url-requires-in-Seturlmissing-clause-url c = (missing_fits (remote_shown c.args.message) c.requires.class c.requires.lines (text_of c.in-Seturlmissing.key) c.in-Seturlmissing.url.now (ap remote_shown c.in-Seturlmissing.is)).1
