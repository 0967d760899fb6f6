-- What one more message is to a talk, by how far it has come.
use Rattle.std.specs.Prelude.{◌&&◌, Bool, true, false, if◌then◌else◌, [], ◌∷◌, Some, None}
use Rattle.annex_model.specs.declared.final_line.Final.TheVariants.{Unsupported}
use Rattle.annex_model.specs.Messages.{RemoteMessage, HostMessage}
use Rattle.annex_model.specs.Talks.{Shape, OneLine, Configs, Infos, shape_of, one_line, done_if, is_aside, is_unsupported, is_config, is_configend, is_infofield, is_infovalue, is_infoend}
use Rattle.annex_model.specs.Hearings.{by_answer}
use Rattle.host_talk.specs.declared.request.talk.Heard.{Heard}
use Rattle.host_talk.specs.declared.request.talk.Heard.TheVariants.{Aside, Part, Settled, Foul}
use Rattle.host_talk.specs.declared.request.talk.Stage.{Stage}
use Rattle.host_talk.specs.declared.request.talk.Stage.TheVariants.{Between, Half, Over}
use Rattle.host_talk.specs.Request.Talked.{Talked, is_waiting, is_half, is_over}
use Rattle.host_talk.specs.Request.Requests.{message_of}
use Rattle.host_talk.specs.Request.Hearings.{heard_as}

-- in a list of configs
abbrev pub config_heard : RemoteMessage → Heard
config_heard m = heard_as (by_answer (done_if (is_configend (Some m))) (is_config (Some m)))

-- in a list of pairs, where a field awaits its value or not
abbrev pub info_heard : Bool → RemoteMessage → Heard
info_heard true m = heard_as (by_answer None (is_infovalue (Some m)))
info_heard false m = heard_as (by_answer (done_if (is_infoend (Some m))) (is_infofield (Some m)))

abbrev pub line_heard : Shape → HostMessage → Bool → RemoteMessage → Heard
line_heard OneLine q half m = heard_as (by_answer (one_line q m) false)
line_heard Configs q half m = config_heard m
line_heard Infos q half m = info_heard half m

-- no aside
abbrev pub answer_heard : HostMessage → Stage → RemoteMessage → Heard
answer_heard q s m =
    if is_waiting s && is_unsupported (Some m ∷ []) then Settled Unsupported else line_heard (shape_of q) q (is_half s) m

abbrev pub heard_by : Talked → RemoteMessage → Heard
heard_by t m =
    if is_over t then Foul else if is_aside m then Aside else answer_heard (message_of t.request) t.stage m

-- after a part
abbrev pub stage_behind : RemoteMessage → Stage
stage_behind m = if is_infofield (Some m) then Half else Between

abbrev pub stage_after : Stage → Heard → RemoteMessage → Stage
stage_after s Part m = stage_behind m
stage_after s (Settled f) m = Over
stage_after s h m = s
