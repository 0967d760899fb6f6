-- How far a talk has come is how far the answer has.
use Rattle.std.proofs.Common.{◌≡◌, List, [], ◌∷◌, ◌++◌, refl, sym, ap, subst, ◌∙◌, Bool, true, false, ◌&&◌, Option, Some, if◌then◌else◌}
use Rattle.annex_model.specs.declared.final_line.Final.{Final}
use Rattle.annex_model.specs.declared.final_line.Final.TheVariants.{Unsupported}
use Rattle.annex_model.specs.Messages.{RemoteMessage, HostMessage}
use Rattle.annex_model.specs.Talks.{Shape, OneLine, Configs, Infos, shape_of, is_aside, is_configend, is_infofield, is_infovalue, is_infoend, is_unsupported, is_nothing, may_go_on, done_if, by_shape, final_of, awaits}
use Rattle.annex_model.specs.Hearings.{by_answer}
use Rattle.host_talk.specs.declared.request.request.Request.{Request}
use Rattle.host_talk.specs.declared.request.talk.Heard.{Heard}
use Rattle.host_talk.specs.declared.request.talk.Heard.TheVariants.{Aside, Part, Settled, Foul}
use Rattle.host_talk.specs.declared.request.talk.Stage.{Stage}
use Rattle.host_talk.specs.declared.request.talk.Stage.TheVariants.{Between, Half}
use Rattle.host_talk.specs.Request.Requests.{message_of}
use Rattle.host_talk.specs.Request.Talked.{Talked, is_waiting, is_half, is_last, is_over}
use Rattle.host_talk.specs.Request.Hearings.{heard_as, heard, is_taken, ends_in_field, Follows}
use Rattle.host_talk.specs.Request.Stages.{line_heard, answer_heard, heard_by, stage_behind, stage_after}
use Rattle.host_talk.proofs.RequestLemmas.Lists.{more_lines, pushed_is_something, ends_in_pushed, configs_end, configs_go_on, infos_end, pairs_go_on, awaits_no_final}
use Rattle.host_talk.proofs.RequestLemmas.Hearing.{part_waits, settled_final, part_plain, settled_plain}
use Rattle.ann_key.proofs.Booleans.{false_is_true as false_true}
use Rattle.ann_key.proofs.Options.{some_is, none_not}

-- the first message may be UNSUPPORTED-REQUEST
first_line : (u : Bool) (o : Option Final) (b : Bool)
    → heard_as (by_answer (if u then Some Unsupported else o) b) ≡ (if u then Settled Unsupported else heard_as (by_answer o b))
first_line true o b = refl
first_line false o b = refl

infos_heard : (q : HostMessage) (half : Bool) (m : RemoteMessage)
    → heard_as (by_answer (done_if (if half then false else is_infoend (Some m))) (if half then is_infovalue (Some m) else is_infofield (Some m)))
    ≡ line_heard Infos q half m
infos_heard q true m = refl
infos_heard q false m = refl

later_line : (s : Shape) (q : HostMessage) (a : Option RemoteMessage) (ms : List (Option RemoteMessage)) (m : RemoteMessage)
    → may_go_on s (a ∷ ms) ≡ true
    → heard_as (by_answer (by_shape s q (a ∷ (ms ++ Some m ∷ []))) (may_go_on s (a ∷ (ms ++ Some m ∷ [])))) ≡ line_heard s q (ends_in_field (a ∷ ms)) m
later_line OneLine q a ms m h = false_true h
later_line Configs q a ms m h =
    ap (λ (b : Bool). heard_as (by_answer (done_if b) (may_go_on Configs (a ∷ (ms ++ Some m ∷ []))))) (configs_end (a ∷ ms) (Some m) h)
    ∙ ap (λ (b : Bool). heard_as (by_answer (done_if (is_configend (Some m))) b)) (configs_go_on (a ∷ ms) (Some m) h)
later_line Infos q a ms m h =
    ap (λ (b : Bool). heard_as (by_answer (done_if b) (may_go_on Infos (a ∷ (ms ++ Some m ∷ []))))) (infos_end (a ∷ ms) (Some m) h)
    ∙ ap (λ (b : Bool). heard_as (by_answer (done_if (if ends_in_field (a ∷ ms) then false else is_infoend (Some m))) b)) (pairs_go_on (a ∷ ms) (Some m) h)
    ∙ infos_heard q (ends_in_field (a ∷ ms)) m

line_first : (s : Shape) (q : HostMessage) (m : RemoteMessage)
    → heard_as (by_answer (by_shape s q (Some m ∷ [])) (may_go_on s (Some m ∷ []))) ≡ line_heard s q false m
line_first OneLine q m = refl
line_first Configs q m = ap (λ (b : Bool). heard_as (by_answer (done_if (is_configend (Some m))) b)) (configs_go_on [] (Some m) refl)
line_first Infos q m = refl

at_shape : (s : Shape) (q : HostMessage) (ms : List (Option RemoteMessage)) (m : RemoteMessage) → may_go_on s ms ≡ true
    → heard_as (by_answer (if is_unsupported (ms ++ Some m ∷ []) then Some Unsupported else by_shape s q (ms ++ Some m ∷ [])) (may_go_on s (ms ++ Some m ∷ [])))
    ≡ (if is_nothing ms && is_unsupported (Some m ∷ []) then Settled Unsupported else line_heard s q (ends_in_field ms) m)
at_shape s q [] m h =
    first_line (is_unsupported (Some m ∷ [])) (by_shape s q (Some m ∷ [])) (may_go_on s (Some m ∷ []))
    ∙ ap (λ (x : Heard). if is_unsupported (Some m ∷ []) then Settled Unsupported else x) (line_first s q m)
at_shape s q (a ∷ ms) m h = rw (more_lines a ms (Some m)) (later_line s q a ms m h)

-- what is heard by the stage is what is heard after what was said
pub heard_behind : (t : Talked) (ms : List (Option RemoteMessage)) (m : RemoteMessage) → Follows t ms → is_over t ≡ false
    → heard_by t m ≡ heard (message_of t.request) ms m
heard_behind t ms m follows live =
    let q = message_of t.request in
    ap (λ (b : Bool). if b then Foul else if is_aside m then Aside else answer_heard q t.stage m) live
    ∙ ap (λ (x : Heard). if is_aside m then Aside else x)
    (ap (λ (b : Bool). if b && is_unsupported (Some m ∷ []) then Settled Unsupported else line_heard (shape_of q) q (is_half t.stage) m) (follows.begun live)
    ∙ ap (λ (b : Bool). if is_nothing ms && is_unsupported (Some m ∷ []) then Settled Unsupported else line_heard (shape_of q) q b m) (follows.half live)
    ∙ sym (at_shape (shape_of q) q ms m (follows.waits live)))

half_behind : (m : RemoteMessage) → is_half (stage_behind m) ≡ is_infofield (Some m)
half_behind m = go (is_infofield (Some m))
  where
    go : (b : Bool) → is_half (if b then Half else Between) ≡ b
    go true = refl
    go false = refl

waiting_behind : (m : RemoteMessage) → is_waiting (stage_behind m) ≡ false
waiting_behind m = go (is_infofield (Some m))
  where
    go : (b : Bool) → is_waiting (if b then Half else Between) ≡ false
    go true = refl
    go false = refl

last_behind : (m : RemoteMessage) → is_last (stage_behind m) ≡ false
last_behind m = go (is_infofield (Some m))
  where
    go : (b : Bool) → is_last (if b then Half else Between) ≡ false
    go true = refl
    go false = refl

-- a talk whose answer goes on after the message
pub follows_behind : (r : Request) (ms : List (Option RemoteMessage)) (m : RemoteMessage) → awaits (message_of r) (ms ++ Some m ∷ []) ≡ true
    → Follows (record { request = r; stage = stage_behind m }) (ms ++ Some m ∷ [])
follows_behind r ms m waits = record {
  whole = λ over. false_true (sym (last_behind m) ∙ over);
  waits = λ live. waits;
  begun = λ live. waiting_behind m ∙ sym (pushed_is_something ms (Some m));
  half = λ live. half_behind m ∙ sym (ends_in_pushed ms (Some m));
}

-- a talk goes on by a part, or to its end
taken_follows : (r : Request) (old : Stage) (ms : List (Option RemoteMessage)) (m : RemoteMessage) (h : Heard)
    → heard (message_of r) ms m ≡ h → is_taken h ≡ true
    → Follows (record { request = r; stage = stage_after old h m }) (ms ++ Some m ∷ [])
taken_follows r old ms m Aside is taken = false_true taken
taken_follows r old ms m Foul is taken = false_true taken
taken_follows r old ms m Part is taken = follows_behind r ms m (part_waits (final_of (message_of r) (ms ++ Some m ∷ [])) (awaits (message_of r) (ms ++ Some m ∷ [])) (part_plain (is_aside m) _ is))
taken_follows r old ms m (Settled f) is taken = record {
  whole =
      λ over. some_is (final_of (message_of r) (ms ++ Some m ∷ [])) f
      (settled_final (final_of (message_of r) (ms ++ Some m ∷ [])) (awaits (message_of r) (ms ++ Some m ∷ [])) f (settled_plain (is_aside m) _ f is));
  waits = λ live. false_true (sym live);
  begun = λ live. false_true (sym live);
  half = λ live. false_true (sym live);
}

over_not_taken : (t : Talked) (m : RemoteMessage) → is_over t ≡ true → heard_by t m ≡ Foul
over_not_taken t m over = rw over refl

pub goes_on : (t : Talked) (ms : List (Option RemoteMessage)) (m : RemoteMessage) (h : Heard) → h ≡ heard_by t m → Follows t ms
    → is_taken h ≡ true → Follows (record { request = t.request; stage = stage_after t.stage h m }) (ms ++ Some m ∷ [])
goes_on t ms m h is follows taken = go (is_over t) refl
  where
    go : (b : Bool) → is_over t ≡ b → Follows (record { request = t.request; stage = stage_after t.stage h m }) (ms ++ Some m ∷ [])
    go true over = false_true (sym (ap is_taken (is ∙ over_not_taken t m over)) ∙ taken)
    go false live = taken_follows t.request t.stage ms m h (sym (is ∙ heard_behind t ms m follows live)) taken

-- the same of a talk by its fields
pub fields_go_on : (t : Talked) (r : Request) (old new : Stage) (ms : List (Option RemoteMessage)) (m : RemoteMessage) (h : Heard)
    → (let u : Talked = record { request = r; stage = old } in u ≡ t) → h ≡ heard_by t m → new ≡ stage_after old h m → Follows t ms → is_taken h ≡ true
    → Follows (record { request = r; stage = new }) (ms ++ Some m ∷ [])
fields_go_on t r old new ms m h view is moves follows taken =
    subst (λ (u : Talked). Follows u (ms ++ Some m ∷ []))
    (ap moved (sym view) ∙ ap at_stage (sym moves))
    (goes_on t ms m h is follows taken)
  where
    at_stage : Stage → Talked
    at_stage s = record { request = r; stage = s }

    moved : Talked → Talked
    moved u = record { request = u.request; stage = stage_after u.stage h m }

-- a talk whose answer has to go on is not over
pub open_talk : (t : Talked) (ms : List (Option RemoteMessage)) → Follows t ms → awaits (message_of t.request) ms ≡ true → is_over t ≡ false
open_talk t ms follows waits = go (is_over t) refl
  where
    go : (b : Bool) → is_over t ≡ b → b ≡ false
    go true over = absurd (none_not (final_of (message_of t.request) ms) (awaits_no_final (message_of t.request) ms waits) (follows.whole over))
    go false live = refl
