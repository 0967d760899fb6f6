-- Answers grow by one message.
use Rattle.std.proofs.Common.{◌≡◌, List, [], ◌∷◌, ◌++◌, refl, sym, ap, ◌∙◌, Bool, true, false, ◌&&◌, Option, Some, None, if◌then◌else◌}
use Rattle.std.specs.List.{list_all}
use Rattle.annex_model.specs.Messages.{RemoteMessage, HostMessage, UnsupportedRequest, Config, Infofield, Infovalue}
use Rattle.annex_model.specs.Talks.{Shape, OneLine, Configs, Infos, shape_of, is_config, is_configend, is_infofield, is_infovalue, is_infoend, are_configs, are_infos, are_pairs, is_unsupported, is_nothing, may_go_on, done_if, by_shape, final_of, awaits}
use Rattle.host_talk.specs.Request.Hearings.{ends_in_field}
use Rattle.ann_key.proofs.Booleans.{false_is_true as false_true}
use Rattle.annex_model.proofs.Awaiting.{nothing_goes_on as may_begin}

-- a longer list is not the line UNSUPPORTED-REQUEST alone
two_lines : (a b : Option RemoteMessage) (ms : List (Option RemoteMessage)) → is_unsupported (a ∷ b ∷ ms) ≡ false
two_lines (Some UnsupportedRequest) b ms = refl
two_lines (Some m) b ms = refl
two_lines None b ms = refl

pub more_lines : (a : Option RemoteMessage) (ms : List (Option RemoteMessage)) (b : Option RemoteMessage) → is_unsupported (a ∷ (ms ++ b ∷ [])) ≡ false
more_lines a [] b = two_lines a b []
more_lines a (m ∷ ms) b = two_lines a m (ms ++ b ∷ [])

pub pushed_is_something : (ms : List (Option RemoteMessage)) (b : Option RemoteMessage) → is_nothing (ms ++ b ∷ []) ≡ false
pushed_is_something [] b = refl
pushed_is_something (m ∷ ms) b = refl

pub ends_in_pushed : (ms : List (Option RemoteMessage)) (b : Option RemoteMessage) → ends_in_field (ms ++ b ∷ []) ≡ is_infofield b
ends_in_pushed [] b = refl
ends_in_pushed (m ∷ []) b = refl
ends_in_pushed (m ∷ n ∷ ms) b = ends_in_pushed (n ∷ ms) b

pub and_fst : (a b : Bool) → a && b ≡ true → a ≡ true
and_fst true b h = refl
and_fst false b h = h

pub and_snd : (a b : Bool) → a && b ≡ true → b ≡ true
and_snd true b h = h
and_snd false b h = false_true h

pub and_true : (a : Bool) → a && true ≡ a
and_true true = refl
and_true false = refl

and_false : (a : Bool) → a && false ≡ false
and_false true = refl
and_false false = refl

-- ---- a list of configs

pub configs_end : (ms : List (Option RemoteMessage)) (b : Option RemoteMessage) → list_all is_config ms ≡ true → are_configs (ms ++ b ∷ []) ≡ is_configend b
configs_end [] b h = refl
configs_end (m ∷ []) b h = rw (and_fst (is_config m) true h) refl
configs_end (m ∷ n ∷ ms) b h =
    rw (and_fst (is_config m) (list_all is_config (n ∷ ms)) h) (configs_end (n ∷ ms) b (and_snd (is_config m) (list_all is_config (n ∷ ms)) h))

pub configs_go_on : (ms : List (Option RemoteMessage)) (b : Option RemoteMessage) → list_all is_config ms ≡ true → list_all is_config (ms ++ b ∷ []) ≡ is_config b
configs_go_on [] b h = and_true (is_config b)
configs_go_on (m ∷ ms) b h =
    rw (and_fst (is_config m) (list_all is_config ms) h) (configs_go_on ms b (and_snd (is_config m) (list_all is_config ms) h))

-- ---- pairs

value_is_no_field : (v : Option RemoteMessage) → is_infovalue v ≡ true → is_infofield v ≡ false
value_is_no_field (Some (Infovalue value)) h = refl
value_is_no_field (Some m) h = false_true h
value_is_no_field None h = false_true h

-- a whole pair before them changes nothing
ends_behind : (f v : Option RemoteMessage) (ms : List (Option RemoteMessage)) → is_infovalue v ≡ true → ends_in_field (f ∷ v ∷ ms) ≡ ends_in_field ms
ends_behind f v [] h = value_is_no_field v h
ends_behind f v (m ∷ ms) h = refl

pub infos_end : (ms : List (Option RemoteMessage)) (b : Option RemoteMessage) → are_pairs ms ≡ true
    → are_infos (ms ++ b ∷ []) ≡ (if ends_in_field ms then false else is_infoend b)
infos_end [] b h = refl
infos_end (f ∷ []) b h = rw h (and_false (is_infovalue b))
infos_end (f ∷ v ∷ ms) b h =
    let pair = and_fst (is_infofield f && is_infovalue v) (are_pairs ms) h in
    let value = and_snd (is_infofield f) (is_infovalue v) pair in
    ap (λ (x : Bool). x && are_infos (ms ++ b ∷ [])) pair
    ∙ infos_end ms b (and_snd (is_infofield f && is_infovalue v) (are_pairs ms) h)
    ∙ sym (ap (λ (x : Bool). if x then false else is_infoend b) (ends_behind f v ms value))

pub pairs_go_on : (ms : List (Option RemoteMessage)) (b : Option RemoteMessage) → are_pairs ms ≡ true
    → are_pairs (ms ++ b ∷ []) ≡ (if ends_in_field ms then is_infovalue b else is_infofield b)
pairs_go_on [] b h = refl
pairs_go_on (f ∷ []) b h = rw h (and_true (is_infovalue b))
pairs_go_on (f ∷ v ∷ ms) b h =
    let pair = and_fst (is_infofield f && is_infovalue v) (are_pairs ms) h in
    let value = and_snd (is_infofield f) (is_infovalue v) pair in
    ap (λ (x : Bool). x && are_pairs (ms ++ b ∷ [])) pair
    ∙ pairs_go_on ms b (and_snd (is_infofield f && is_infovalue v) (are_pairs ms) h)
    ∙ sym (ap (λ (x : Bool). if x then is_infovalue b else is_infofield b) (ends_behind f v ms value))

-- ---- a beginning is no whole answer

pub awaits_first : (q : HostMessage) → awaits q [] ≡ true
awaits_first q = may_begin (shape_of q)

config_is_no_end : (m : Option RemoteMessage) → is_config m ≡ true → is_configend m ≡ false
config_is_no_end (Some (Config name description)) h = refl
config_is_no_end (Some m) h = false_true h
config_is_no_end None h = false_true h

field_is_no_end : (m : Option RemoteMessage) → is_infofield m ≡ true → is_infoend m ≡ false
field_is_no_end (Some (Infofield name)) h = refl
field_is_no_end (Some m) h = false_true h
field_is_no_end None h = false_true h

open_configs : (ms : List (Option RemoteMessage)) → list_all is_config ms ≡ true → are_configs ms ≡ false
open_configs [] h = refl
open_configs (m ∷ []) h = config_is_no_end m (and_fst (is_config m) true h)
open_configs (m ∷ n ∷ ms) h =
    rw (and_fst (is_config m) (list_all is_config (n ∷ ms)) h) (open_configs (n ∷ ms) (and_snd (is_config m) (list_all is_config (n ∷ ms)) h))

open_pairs : (ms : List (Option RemoteMessage)) → are_pairs ms ≡ true → are_infos ms ≡ false
open_pairs [] h = refl
open_pairs (f ∷ []) h = field_is_no_end f h
open_pairs (f ∷ v ∷ ms) h =
    ap (λ (x : Bool). x && are_infos ms) (and_fst (is_infofield f && is_infovalue v) (are_pairs ms) h)
    ∙ open_pairs ms (and_snd (is_infofield f && is_infovalue v) (are_pairs ms) h)

config_is_supported : (m : Option RemoteMessage) (ms : List (Option RemoteMessage)) → is_config m ≡ true → is_unsupported (m ∷ ms) ≡ false
config_is_supported (Some (Config name description)) ms h = refl
config_is_supported (Some m) ms h = false_true h
config_is_supported None ms h = false_true h

field_is_supported : (m : Option RemoteMessage) (ms : List (Option RemoteMessage)) → is_infofield m ≡ true → is_unsupported (m ∷ ms) ≡ false
field_is_supported (Some (Infofield name)) ms h = refl
field_is_supported (Some m) ms h = false_true h
field_is_supported None ms h = false_true h

open_supported : (s : Shape) (ms : List (Option RemoteMessage)) → may_go_on s ms ≡ true → is_unsupported ms ≡ false
open_supported s [] h = refl
open_supported OneLine (m ∷ ms) h = false_true h
open_supported Configs (m ∷ ms) h = config_is_supported m ms (and_fst (is_config m) (list_all is_config ms) h)
open_supported Infos (f ∷ []) h = field_is_supported f [] h
open_supported Infos (f ∷ v ∷ ms) h = field_is_supported f (v ∷ ms) (and_fst (is_infofield f) (is_infovalue v) (and_fst (is_infofield f && is_infovalue v) (are_pairs ms) h))

open_by_shape : (s : Shape) (q : HostMessage) (ms : List (Option RemoteMessage)) → may_go_on s ms ≡ true → by_shape s q ms ≡ None
open_by_shape OneLine q [] h = refl
open_by_shape OneLine q (m ∷ ms) h = false_true h
open_by_shape Configs q ms h = ap done_if (open_configs ms h)
open_by_shape Infos q ms h = ap done_if (open_pairs ms h)

-- more must come, so the answer is not whole
pub awaits_no_final : (q : HostMessage) (ms : List (Option RemoteMessage)) → awaits q ms ≡ true → final_of q ms ≡ None
awaits_no_final q ms h = rw (open_supported (shape_of q) ms h) (open_by_shape (shape_of q) q ms h)
