-- What a kit of the world says to all messages that it took: as many lines as messages are no names, each one line and none an error.
use Rattle.std.proofs.Common.{ℕ, ◌≡◌, ◌+◌, Bool, true, false, not, cond, List, [], ◌∷◌, ◌++◌, length, map, filter, filter_map, Option, Some, None, option_map, IsTrue, refl, sym, ap, subst, ◌∙◌, arith, append_assoc, append-nil, length-append}
use Rattle.std.specs.Prelude.{◌&&◌, ◌||◌}
use Rattle.std.specs.List.{list_all, list_any, cons_option}
use Rattle.std.proofs.lemmas.Bool.{or_parts, or_from, and_parts, not-true}
use Rattle.std.proofs.lemmas.List.Elements.{filter-append}
use Rattle.std.proofs.lemmas.List.Folds.{list_all-append, list_any-append}
use Rattle.annex_model.specs.Lines.{has_newline}
use Rattle.annex_model.specs.Messages.{RemoteMessage, HostMessage, IsAskable, host_reading, remote_reading, remote_line}
use Rattle.annex_model.specs.Tags.{names_async}
use Rattle.annex_model.proofs.Readings.{canonical_remote_read, spelled_of_host}
use Rattle.journal_model.specs.Due.{is_error}
use Rattle.journal_model.specs.Replies.{is_setting}
use Rattle.journal_model.proofs.Asking.{read_askable}
use Rattle.kit_serve.specs.declared.kit.kit.Stage.{Stage}
use Rattle.kit_serve.specs.Kit.Kits.{Heard, messages, has_line_fields, ends_kit, some_behind, is_over, request_of, due_of, said_by, lines_to, lines_behind, IsAskedBy, IsServedBehind}
use Rattle.kit_serve.specs.Kit.Stages.{stage_of}
use Rattle.kit_serve.proofs.KitLemmas.Behind.{messages-push, some_behind-push}
use Rattle.kit_serve.proofs.KitLemmas.Fields.{spelled_fields}
use Rattle.pair_kit.specs.declared.taken.Taken.{Taken}
use Rattle.pair_kit.specs.Cues.{settings}
use Rattle.pair_kit.specs.Pairs.{heard, taken_lines, said_lines}
use Rattle.pair_kit.specs.Paces.{is_name, is_line_call, is_whole, replies_to}
use Rattle.pair_kit.specs.Peace.{is_error_line}
use Rattle.pair_kit.proofs.PaceKits.{SaysOne, Expects, expects, is_fine, says, silent, asked_for}

-- ---- lines and messages

pub replies_to-append : (ms ks : List HostMessage) → replies_to (ms ++ ks) ≡ replies_to ms + replies_to ks
replies_to-append ms ks =
    ap (λ (l : List HostMessage). length l) (filter-append (λ (m : HostMessage). not (is_name m)) ms ks)
    ∙ length-append (filter (λ (m : HostMessage). not (is_name m)) ms) (filter (λ (m : HostMessage). not (is_name m)) ks)

pub one_reply : (m : HostMessage) → is_name m ≡ false → replies_to (m ∷ []) ≡ 1
one_reply m n = ap (λ (b : Bool). length (cond {A = List HostMessage} (not b) (m ∷ []) [])) n

pub no_reply : (m : HostMessage) → is_name m ≡ true → replies_to (m ∷ []) ≡ 0
no_reply m n = ap (λ (b : Bool). length (cond {A = List HostMessage} (not b) (m ∷ []) [])) n

abbrev pub is_one_line : List ℕ → Bool
is_one_line line = not (has_newline line)

-- one line to each message but a name, and none is an error
pub record SaysWell (ms : List HostMessage) (lines : List (List ℕ)) : Type 0 where
  pub number : length lines ≡ replies_to ms
  pub whole : list_all is_one_line lines ≡ true
  pub fair : list_any is_error_line lines ≡ false

joined : (ms ks : List HostMessage) (xs ys : List (List ℕ)) → SaysWell ms xs → SaysWell ks ys → SaysWell (ms ++ ks) (xs ++ ys)
joined ms ks xs ys a b = record {
  number = omega (arith, length-append xs ys, a.number, b.number, replies_to-append ms ks);
  whole = list_all-append is_one_line xs ys ∙ ap (λ (p : Bool). p && list_all is_one_line ys) a.whole ∙ b.whole;
  fair = list_any-append is_error_line xs ys ∙ ap (λ (p : Bool). p || list_any is_error_line ys) a.fair ∙ b.fair;
}

-- ---- one message

-- a message that a line may spell, and a call that said a line
pub record IsSound (e : Heard) : Type 0 where
  pub askable : IsAskable e.message
  pub fields : IsTrue (has_line_fields e.message)
  pub call : is_line_call e.call ≡ true

not_error : (m : RemoteMessage) → is_fine m ≡ true → is_error (Some m) ≡ false
not_error m fine = not-true (is_error (Some m)) (and_parts (not (is_error (Some m))) (not (is_setting m) && not (names_async (Some m))) fine).0

-- the line that is said is read back
pub says_reads : (q : HostMessage) (said : List RemoteMessage) (stage : Stage) (s : SaysOne q said stage) → remote_reading (remote_line s.reply) ≡ Some s.reply
says_reads q said stage s = canonical_remote_read s.reply s.sayable

-- to a message that is no name one line is said
pub one_says : (before : List Heard) (e : Heard) → Expects (messages before) e.message → IsAskedBy (due_of settings before e.message) e.call → IsSound e → is_name e.message ≡ false
    → (q : HostMessage) → request_of (messages before ++ e.message ∷ []) ≡ Some q
    → SaysOne q (said_by (due_of settings before e.message) (request_of (messages before ++ e.message ∷ [])) e.call) (stage_of settings (messages before ++ e.message ∷ []))
one_says before e x asked sound n q is = says before e.message e.call q x n asked is sound.askable sound.fields sound.call

one_well : (before : List Heard) (e : Heard) → Expects (messages before) e.message → IsAskedBy (due_of settings before e.message) e.call → IsSound e
    → SaysWell (e.message ∷ []) (lines_to settings before e)
one_well before e x asked sound = go (is_name e.message) refl
  where
    said : List RemoteMessage
    said = said_by (due_of settings before e.message) (request_of (messages before ++ e.message ∷ [])) e.call

    one : (q : HostMessage) → is_name e.message ≡ false → SaysOne q said (stage_of settings (messages before ++ e.message ∷ [])) → SaysWell (e.message ∷ []) (map remote_line said)
    one q n s =
        let line : map remote_line said ≡ remote_line s.reply ∷ [] = ap (map remote_line) s.is in
        let read = canonical_remote_read s.reply s.sayable in
        subst (SaysWell (e.message ∷ [])) (sym line) (record {
          number = sym (one_reply e.message n);
          whole = ap (λ (b : Bool). not b && true) s.line;
          fair = ap (λ (r : Option RemoteMessage). is_error r || false) read ∙ ap (λ (b : Bool). b || false) (not_error s.reply s.fine);
        })

    go : (b : Bool) → is_name e.message ≡ b → SaysWell (e.message ∷ []) (lines_to settings before e)
    go true n =
        let none : map remote_line said ≡ [] = ap (map remote_line) (silent before e.message e.call (request_of (messages before ++ e.message ∷ [])) x n) in
        subst (SaysWell (e.message ∷ [])) (sym none) (record { number = sym (no_reply e.message n); whole = refl; fair = refl })
    go false n = let q = asked_for (messages before) e.message x in one q.0 n (one_says before e x asked sound n q.0 q.1)

-- ---- all messages

abbrev pub AreSound : List Heard → Type 0
AreSound [] = Unit {0}
AreSound (e ∷ h) = IsSound e × AreSound h

-- the rest is expected after those before it
abbrev AreExpected : List HostMessage → List HostMessage → Type 0
AreExpected before ms = some_behind (ends_kit settings) before ms ≡ false

all_well : (before rest : List Heard) → is_over settings (messages before) ≡ false → AreExpected (messages before) (messages rest) → IsServedBehind settings before rest → AreSound rest
    → SaysWell (messages rest) (lines_behind settings before rest)
all_well before [] over more served sound = record { number = refl; whole = refl; fair = refl }
all_well before (e ∷ rest) over more served sound =
    let ms = messages before in
    let parts = or_parts (ends_kit settings ms e.message) (some_behind (ends_kit settings) (ms ++ e.message ∷ []) (messages rest)) more in
    let next : messages (before ++ e ∷ []) ≡ ms ++ e.message ∷ [] = messages-push before e in
    let on : is_over settings (ms ++ e.message ∷ []) ≡ false =
    some_behind-push (ends_kit settings) [] ms e.message ∙ or_from (is_over settings ms) (ends_kit settings ms e.message) over parts.0 in
    joined (e.message ∷ []) (messages rest) (lines_to settings before e) (lines_behind settings (before ++ e ∷ []) rest)
    (one_well before e (expects ms e.message on) served.0 sound.0)
    (all_well (before ++ e ∷ []) rest (ap (is_over settings) next ∙ on)
    (ap (λ (b : List HostMessage). some_behind (ends_kit settings) b (messages rest)) next ∙ parts.1) served.1 sound.1)

pub said_well : (h : List Heard) → is_over settings (messages h) ≡ false → IsServedBehind settings [] h → AreSound h → SaysWell (messages h) (lines_behind settings [] h)
said_well h over served sound = all_well [] h refl over served sound

-- a kit that isn't over was not before
pub front_goes_on : (ms ks : List HostMessage) → is_over settings (ms ++ ks) ≡ false → is_over settings ms ≡ false
front_goes_on ms ks over = go [] ms over
  where
    go : (before xs : List HostMessage) → some_behind (ends_kit settings) before (xs ++ ks) ≡ false → some_behind (ends_kit settings) before xs ≡ false
    go before [] h = refl
    go before (x ∷ xs) h =
        let t = or_parts (ends_kit settings before x) (some_behind (ends_kit settings) (before ++ x ∷ []) (xs ++ ks)) h in
        or_from (ends_kit settings before x) (some_behind (ends_kit settings) (before ++ x ∷ []) xs) t.0 (go (before ++ x ∷ []) xs t.1)

pub served_front : (before h : List Heard) (e : Heard) → IsServedBehind settings before (h ++ e ∷ []) → IsServedBehind settings before h × IsAskedBy (due_of settings (before ++ h) e.message) e.call
served_front before [] e s = (tt, subst (λ (b : List Heard). IsAskedBy (due_of settings b e.message) e.call) (sym (append-nil before)) s.0)
served_front before (x ∷ h) e s =
    let t = served_front (before ++ x ∷ []) h e s.1 in
    ((s.0, t.0), subst (λ (b : List Heard). IsAskedBy (due_of settings b e.message) e.call) (append_assoc before (x ∷ []) h) t.1)

pub sound_front : (h : List Heard) (e : Heard) → AreSound (h ++ e ∷ []) → AreSound h × IsSound e
sound_front [] e s = (tt, s.0)
sound_front (x ∷ h) e s = let t = sound_front h e s.1 in ((s.0, t.0), t.1)

-- ---- what was taken

-- what was taken is heard, in order
pub messages_heard : (taken : List Taken) → messages (heard taken) ≡ filter_map host_reading (taken_lines taken)
messages_heard [] = refl
messages_heard (t ∷ taken) = go (host_reading t.line) (messages_heard taken)
  where
    go : (r : Option HostMessage) → messages (heard taken) ≡ filter_map host_reading (taken_lines taken)
        → messages (cons_option (option_map (λ (m : HostMessage). let e : Heard = record { message = m; call = t.call } in e) r) (heard taken)) ≡ cons_option r (filter_map host_reading (taken_lines taken))
    go None same = same
    go (Some m) same = ap (λ (ms : List HostMessage). m ∷ ms) same

pub heard_sound : (taken : List Taken) → list_all is_whole taken ≡ true → AreSound (heard taken)
heard_sound [] h = tt
heard_sound (t ∷ taken) h =
    let parts = and_parts (is_whole t) (list_all is_whole taken) h in
    let one = and_parts (not (has_newline t.line)) (is_line_call t.call) parts.0 in
    go (host_reading t.line) refl (not-true (has_newline t.line) one.0) one.1 (heard_sound taken parts.1)
  where
    go : (r : Option HostMessage) → host_reading t.line ≡ r → has_newline t.line ≡ false → is_line_call t.call ≡ true → AreSound (heard taken)
        → AreSound (cons_option (option_map (λ (m : HostMessage). let e : Heard = record { message = m; call = t.call } in e) r) (heard taken))
    go None e line call more = more
    go (Some m) e line call more =
        (record { askable = read_askable m t.line e; fields = spelled_fields m t.line (spelled_of_host m t.line e) line; call = call }, more)

-- All that a kit said, its version first, is one line for each message but a name, each of them one line, and none an error.
pub record SaidWell (taken : List Taken) : Type 0 where
  pub number : length (said_lines taken) ≡ 1 + replies_to (messages (heard taken))
  pub whole : list_all is_one_line (said_lines taken) ≡ true
  pub fair : list_any is_error_line (said_lines taken) ≡ false

pub said_so : (taken : List Taken) → is_over settings (messages (heard taken)) ≡ false → IsServedBehind settings [] (heard taken) → list_all is_whole taken ≡ true → SaidWell taken
said_so taken over served whole =
    let s = said_well (heard taken) over served (heard_sound taken whole) in
    record { number = omega (arith, s.number); whole = s.whole; fair = s.fair }
