-- Registers that were set by each setting in turn hold what a search from the end finds.
use Rattle.std.proofs.Common.{◌≡◌, ℕ, Bool, true, false, cond, not, ◌&&◌, List, [], ◌∷◌, ◌++◌, length, Option, Some, None, unwrap_or, bytes_eq, refl, sym, ap, ◌∙◌, append_assoc}
use mathlib.Core.Bool.{false≢true}
use Rattle.std.specs.Prelude.{filter_map}
use Rattle.std.specs.List.{cons_option, last_or, list_all}
use Rattle.std.proofs.lemmas.List.{append-nil}
use Rattle.annex_model.specs.Messages.{RemoteMessage, Setconfig, Setcreds, Setwanted, Setstate, Seturlpresent, Seturlmissing, Getconfig, Getcreds, Getstate, Geturls, Getwanted, Getuuid, Getgitdir, Getgitremotename, remote_reading}
use Rattle.registers.specs.Links.{is_link, LinksRise}
use Rattle.registers.specs.Registers.{RegisterFile, config_of, creds_of, state_of, has_url}
use Rattle.registers.proofs.Orders.{sorted-insert_key, sorted-filter_keys}
use Rattle.registers.specs.Links.{by_link}
use Rattle.registers.proofs.Readings.{text_at-put, pair_at-put, state_of-with_state, has_url-with_url}
use Rattle.registers.proofs.Settings.{links_total}
use Rattle.journal_model.specs.declared.entry.What.{What}
use Rattle.journal_model.specs.declared.entry.What.TheVariants.{Got}
use Rattle.journal_model.specs.declared.entry.Entry.{Entry}
use Rattle.journal_model.specs.Journal.{addressed}
use Rattle.journal_model.specs.Parts.{ends_at}
use Rattle.journal_model.specs.Replies.{Values, SameValues, replies_by, creds_line, url_lines, value_line, set_by, set_by_all}
use Rattle.journal_model.specs.Registers.{settings, settings_from, setting_of, is_open_job, if_setting, last_given, gives_config, gives_creds, gives_wanted, gives_state, gives_url, NamesNoLine, HasNoLine, is_got}
use Rattle.ann_key.proofs.Lists.{cons_option-append}
use Rattle.std.proofs.lemmas.Bool.{and_parts as both}

-- ---- the last of some values
last_or-some : {X : Type 0} (d v : X) (xs : List X) → unwrap_or (last_or (Some v) xs) d ≡ unwrap_or (last_or None xs) v
last_or-some d v [] = refl
last_or-some d v (x ∷ xs) = last_or-some d x xs ∙ sym (last_or-some v x xs)

pub last_given-cons : {X : Type 0} (first : X) (given : RemoteMessage → Option X) (m : RemoteMessage) (ms : List RemoteMessage)
    → last_given first given (m ∷ ms) ≡ last_given (unwrap_or (given m) first) given ms
last_given-cons first given m ms =
    elim (given m) as (λ o. unwrap_or (last_or None (cons_option o (filter_map given ms))) first ≡ last_given (unwrap_or o first) given ms) [
      | None ↦ refl
      | Some v ↦ last_or-some first v (filter_map given ms)
    ]

-- a register that each setting changes as it says
pub follows : {X : Type 0} (read : RegisterFile → X) (given : RemoteMessage → Option X)
    → ((r : RegisterFile) (m : RemoteMessage) → read (set_by r m) ≡ unwrap_or (given m) (read r))
    → (ms : List RemoteMessage) (r : RegisterFile) → last_given (read r) given ms ≡ read (set_by_all r ms)
follows read given step [] r = refl
follows read given step (m ∷ ms) r =
    last_given-cons (read r) given m ms ∙ ap (λ x. last_given x given ms) (sym (step r m)) ∙ follows read given step ms (set_by r m)

unwrapped : {X : Type 0} (b : Bool) (v d : X) → cond b v d ≡ unwrap_or (cond b (Some v) None) d
unwrapped true v d = refl
unwrapped false v d = refl

pub config_step : (name : List ℕ) (r : RegisterFile) (m : RemoteMessage) → config_of (set_by r m) name ≡ unwrap_or (gives_config name m) (config_of r name)
config_step name r (Setconfig n value) = text_at-put r.config n value name ∙ unwrapped (bytes_eq name n) value (config_of r name)
config_step name r m = refl

pub creds_step : (setting : List ℕ) (r : RegisterFile) (m : RemoteMessage) → creds_of (set_by r m) setting ≡ unwrap_or (gives_creds setting m) (creds_of r setting)
creds_step setting r (Setcreds s user password) = pair_at-put r.creds s (user, password) setting ∙ unwrapped (bytes_eq setting s) (user, password) (creds_of r setting)
creds_step setting r m = refl

pub wanted_step : (r : RegisterFile) (m : RemoteMessage) → (set_by r m).wanted ≡ unwrap_or (gives_wanted m) r.wanted
wanted_step r (Setwanted expression) = refl
wanted_step r m = refl

pub state_step : (key : List ℕ) (r : RegisterFile) (m : RemoteMessage) → state_of (set_by r m) key ≡ unwrap_or (gives_state key m) (state_of r key)
state_step key r (Setstate k value) = state_of-with_state r k value key ∙ unwrapped (bytes_eq key k) value (state_of r key)
state_step key r m = refl

pub url_step : (key url : List ℕ) (r : RegisterFile) (m : RemoteMessage) → has_url (set_by r m) key url ≡ unwrap_or (gives_url key url m) (has_url r key url)
url_step key url r (Seturlpresent k u) = has_url-with_url r k u true key url ∙ unwrapped (bytes_eq key k && bytes_eq url u) true (has_url r key url)
url_step key url r (Seturlmissing k u) = has_url-with_url r k u false key url ∙ unwrapped (bytes_eq key k && bytes_eq url u) false (has_url r key url)
url_step key url r m = refl

-- ---- the URLs stay in order
rise_step : (r : RegisterFile) (m : RemoteMessage) → LinksRise r.urls → LinksRise (set_by r m).urls
rise_step r (Seturlpresent k u) h = sorted-insert_key links_total (k, u) r.urls h
rise_step r (Seturlmissing k u) h = sorted-filter_keys by_link (λ link. not (is_link k u link)) r.urls h
rise_step r m h = h

pub still_rise : (ms : List RemoteMessage) (r : RegisterFile) → LinksRise r.urls → LinksRise (set_by_all r ms).urls
still_rise [] r h = h
still_rise (m ∷ ms) r h = still_rise ms (set_by r m) (rise_step r m h)

-- ---- replies hang on the values alone
pub replies_same : (v w : Values) (m : RemoteMessage) → SameValues v w → replies_by v m ≡ replies_by w m
replies_same v w (Getconfig name) s = ap (λ (x : List ℕ). value_line x ∷ []) (s.config name)
replies_same v w (Getcreds setting) s = ap (λ (x : List ℕ × List ℕ). creds_line x ∷ []) (s.creds setting)
replies_same v w Getuuid s = ap (λ (x : List ℕ). value_line x ∷ []) s.uuid
replies_same v w Getgitdir s = ap (λ (x : List ℕ). value_line x ∷ []) s.gitdir
replies_same v w Getgitremotename s = ap (λ (x : List ℕ). value_line x ∷ []) s.name
replies_same v w Getwanted s = ap (λ (x : List ℕ). value_line x ∷ []) s.wanted
replies_same v w (Getstate key) s = ap (λ (x : List ℕ). value_line x ∷ []) (s.state key)
replies_same v w (Geturls key prefix) s = ap url_lines (s.urls key prefix)
replies_same v w m s = refl

-- ---- settings after more entries
ends_at-append : (c p : ℕ) (xs ys : List Entry) → NamesNoLine ys → ends_at c p (xs ++ ys) ≡ ends_at c p xs
ends_at-append c p [] ys h = h c p
ends_at-append c p (x ∷ xs) ys h = refl

setting_of-append : (past : List Entry) (w : What) (xs ys : List Entry) → NamesNoLine ys → setting_of past w (xs ++ ys) ≡ setting_of past w xs
setting_of-append past (Got child line) xs ys h =
    ap (λ (b : Bool). cond (is_open_job past child (addressed past child line).0 && not b) (if_setting (remote_reading (addressed past child line).1)) None)
    (ends_at-append child (length past) xs ys h)
setting_of-append past w xs ys h = refl

settings_from-append : (past xs ys : List Entry) → NamesNoLine ys → settings_from past (xs ++ ys) ≡ settings_from past xs ++ settings_from (past ++ xs) ys
settings_from-append past [] ys h = ap (λ (p : List Entry). settings_from p ys) (sym (append-nil past))
settings_from-append past (e ∷ xs) ys h =
    let more = settings_from-append (past ++ e ∷ []) xs ys h in
    let end = settings_from (past ++ e ∷ xs) ys in
    let here : settings_from (past ++ e ∷ []) (xs ++ ys) ≡ settings_from (past ++ e ∷ []) xs ++ end =
    more ∙ ap (λ (p : List Entry). settings_from (past ++ e ∷ []) xs ++ settings_from p ys) (append_assoc past (e ∷ []) xs) in
    ap (λ (o : Option RemoteMessage). cons_option o (settings_from (past ++ e ∷ []) (xs ++ ys))) (setting_of-append past e.what xs ys h)
    ∙ ap (cons_option (setting_of past e.what xs)) here
    ∙ sym (cons_option-append (setting_of past e.what xs) (settings_from (past ++ e ∷ []) xs) end)

pub settings-append : (past rest : List Entry) → NamesNoLine rest → settings (past ++ rest) ≡ settings past ++ settings_from past rest
settings-append past rest h = settings_from-append [] past rest h

no_setting : (past : List Entry) (w : What) (rest : List Entry) → not (is_got w) ≡ true → setting_of past w rest ≡ None
no_setting past (Got child line) rest h = absurd (false≢true h)
no_setting past w rest h = refl

pub settings_from-none : (past rest : List Entry) → HasNoLine rest → settings_from past rest ≡ []
settings_from-none past [] h = refl
settings_from-none past (e ∷ rest) h =
    let parts = both (not (is_got e.what)) (list_all (λ e. not (is_got e.what)) rest) h in
    ap (λ (o : Option RemoteMessage). cons_option o (settings_from (past ++ e ∷ []) rest)) (no_setting past e.what rest parts.0)
    ∙ settings_from-none (past ++ e ∷ []) rest parts.1
