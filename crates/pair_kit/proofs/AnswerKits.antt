-- Which requests a kit has answered when it took lines that it expects: all of them, but for one that still awaits a VALUE.
use Rattle.std.proofs.Common.{ℕ, ◌≡◌, ◌+◌, suc, Bool, true, false, not, cond, List, [], ◌∷◌, ◌++◌, length, map, Option, Some, None, refl, sym, ap, subst, ◌∙◌, arith, append_assoc, append-nil, length-append}
use Rattle.std.specs.Prelude.{◌||◌, ◌&&◌, filter, slice_get, is_some, codes}
use Rattle.std.specs.List.{list_all}
use Rattle.std.specs.Str.{is_utf8}
use Rattle.std.proofs.lemmas.Option.{same_Some}
use Rattle.std.proofs.lemmas.List.{map-append}
use Rattle.std.proofs.lemmas.List.Elements.{filter-append}
use Rattle.std.proofs.lemmas.List.Folds.{list_all-append}
use Rattle.annex_model.specs.Lines.{has_newline}
use Rattle.annex_model.specs.Messages.{Getconfig, remote_line}
use Rattle.annex_model.specs.Messages.{HostMessage, Prepare, Initremote, Transfer, Checkpresent, Remove, Export, Value, Creds, HostError, host_reading}
use Rattle.kit_serve.specs.declared.kit.call.Call.{Call}
use Rattle.kit_serve.specs.Kit.Kits.{Heard, messages, is_value, is_error, is_readying, request_of, values_of, next_setting, awaits_value, is_unexpected, ends_kit, is_over, is_prepared, final_line, Due, Silence, Line, Asks, refusal, transfer_asked, readying, work_due, expected_due, live_due, due_of, said_by, IsAskedBy, lines_to, IsServed}
use Rattle.kit_serve.specs.Kit.Calls.{is_line_said}
use Rattle.kit_serve.specs.Kit.Stages.{stage_of, is_free}
use Rattle.kit_serve.proofs.KitLemmas.Behind.{request_pushed, values_pushed, some_behind-push, request_of-push, values_of-push, messages-push}
use Rattle.kit_serve.proofs.KitLemmas.Waiting.{free_followed}
use Rattle.pair_kit.specs.declared.taken.Taken.{Taken}
use Rattle.pair_kit.specs.Cues.{settings}
use Rattle.pair_kit.specs.Pairs.{heard, is_spelled, are_spelled, taken_lines}
use Rattle.pair_kit.specs.Works.{request_with, last_said}
use Rattle.pair_kit.specs.Answered.{request_taken, noted, answers_to}
use Rattle.pair_kit.specs.Paces.{sets_nothing, is_line_call, is_whole}
use Rattle.pair_kit.proofs.Taking.{heard_more}
use Rattle.pair_kit.proofs.PaceRequests.{is_asking}
use Rattle.pair_kit.proofs.PaceKits.{only_final}
use Rattle.pair_kit.proofs.PaceSaid.{served_front}
use Rattle.pair_kit.proofs.PaceTexts.{all_front, heads}
use Rattle.pair_kit.proofs.AnswerLines.{answers_push, request_push}
use Rattle.ann_key.proofs.Booleans.{and_false, left_false as either_left, true_and_false as true_not_false}
use Rattle.std.proofs.lemmas.Bool.{and_parts as both}

-- ---- what a message is to the requests

-- whether the message that is read, if one is, is a request, to which an answer is said
abbrev pub asks_by : Option HostMessage → Bool
asks_by None = false
asks_by (Some m) = is_asking m

abbrev pub is_request : List ℕ → Bool
is_request line = asks_by (host_reading line)

-- the lines that are requests
abbrev pub requests : List (List ℕ) → List (List ℕ)
requests lines = filter is_request lines

abbrev pub one_if : Bool → List ℕ → List (List ℕ)
one_if b line = cond b (line ∷ []) []

pub requests-append : (xs ys : List (List ℕ)) → requests (xs ++ ys) ≡ requests xs ++ requests ys
requests-append xs ys = filter-append is_request xs ys

pub requests_push : (lines : List (List ℕ)) (line : List ℕ) (m : HostMessage) → host_reading line ≡ Some m → requests (lines ++ line ∷ []) ≡ requests lines ++ one_if (is_asking m) line
requests_push lines line m reads =
    requests-append lines (line ∷ []) ∙ ap (λ (o : Option HostMessage). requests lines ++ one_if (asks_by o) line) reads

-- the one line of the kit that asks for its setting
abbrev pub asking_line : List ℕ
asking_line = remote_line (Getconfig (codes "directory"))

-- What an expected message does: it brings the value that was awaited, and the request is answered; it is a name, to which nothing
-- is said; it is a request before which the setting is asked for; or one that is answered at once.
pub data Comes (m : HostMessage) (before after : Bool) (say : List (List ℕ)) : Type 0 where
  Brings : (line : List ℕ) → is_value m ≡ true → is_asking m ≡ false → before ≡ true → after ≡ false → say ≡ line ∷ [] → Comes m before after say
  Names : is_value m ≡ false → is_asking m ≡ false → before ≡ false → after ≡ false → say ≡ [] → Comes m before after say
  Begins : is_value m ≡ false → is_asking m ≡ true → before ≡ false → after ≡ true → say ≡ asking_line ∷ [] → Comes m before after say
  Answers : (line : List ℕ) → is_value m ≡ false → is_asking m ≡ true → before ≡ false → after ≡ false → say ≡ line ∷ [] → Comes m before after say

-- ---- what is due

abbrev is_answering : Due → Bool
is_answering Silence = false
is_answering (Line line) = true
is_answering (Asks asked) = true

-- where something is due, one line is said
one_line : (due : Due) (request : Option HostMessage) (call : Option Call) → is_answering due ≡ true → IsAskedBy due call → is_line_call call ≡ true
    → (line : List ℕ) × (map remote_line (said_by due request call) ≡ line ∷ [])
one_line Silence request call d asked whole = absurd cc
one_line (Line line) request call d asked whole = (remote_line line, refl)
one_line (Asks a) request None d asked whole = absurd cc
one_line (Asks a) request (Some call) d asked whole =
    let nothing = (both (sets_nothing call.said) (is_line_said call.said) whole).0 in
    (remote_line (final_line request call.said), ap (map remote_line) (only_final request call.said nothing))

answering_if : (b : Bool) (x y : Due) → is_answering x ≡ true → is_answering y ≡ true → is_answering (cond b x y) ≡ true
answering_if true x y p q = p
answering_if false x y p q = q

abbrev due_in : Bool → Bool → Bool → List (List ℕ) → HostMessage → Due
due_in prepared over awaits values m =
    live_due over (expected_due (is_unexpected awaits m) (work_due (slice_get settings (length (values_pushed values m))) (values_pushed values m) prepared m))

abbrev awaits_in : Option HostMessage → List (List ℕ) → HostMessage → Bool
awaits_in request values m = is_readying (request_pushed request m) && is_some (slice_get settings (length (values_pushed values m)))

-- with one setting, no VALUE is awaited after one
no_second : (n : ℕ) → slice_get settings (n + 1) ≡ None
no_second n = let e : n + 1 ≡ suc n = omega arith in ap (slice_get settings) e

values_full : (values : List (List ℕ)) (value : List ℕ) → slice_get settings (length (values ++ value ∷ [])) ≡ None
values_full values value = ap (slice_get settings) (length-append values (value ∷ [])) ∙ no_second (length values)

answers_now : (m : HostMessage) (after : Bool) (due : Due) (request : Option HostMessage) (call : Option Call) → is_value m ≡ false → is_asking m ≡ true → after ≡ false
    → is_answering due ≡ true → IsAskedBy due call → is_line_call call ≡ true → Comes m false after (map remote_line (said_by due request call))
answers_now m after due request call v a none d asked whole = let l = one_line due request call d asked whole in Answers l.0 v a refl none l.1

brings_value : (prepared : Bool) (request said : Option HostMessage) (values : List (List ℕ)) (value : List ℕ) (call : Option Call)
    → IsAskedBy (due_in prepared false true values (Value value)) call → is_line_call call ≡ true
    → Comes (Value value) true (awaits_in request values (Value value)) (map remote_line (said_by (due_in prepared false true values (Value value)) said call))
brings_value prepared request said values value call asked whole =
    let full = values_full values value in
    let due : due_in prepared false true values (Value value) ≡ readying None (values ++ value ∷ []) = ap (λ (o : Option (List ℕ)). readying o (values ++ value ∷ [])) full in
    let answering : is_answering (due_in prepared false true values (Value value)) ≡ true = ap is_answering due in
    let l = one_line (due_in prepared false true values (Value value)) said call answering asked whole in
    Brings l.0 refl refl refl (ap (λ (o : Option (List ℕ)). is_readying request && is_some o) full ∙ and_false (is_readying request)) l.1

-- a kit that expects the message, and was called for it
comes_in : (prepared over awaits : Bool) (request said : Option HostMessage) (values : List (List ℕ)) (m : HostMessage) (call : Option Call)
    → (over || (is_error m || is_unexpected awaits m)) ≡ false → IsAskedBy (due_in prepared over awaits values m) call → is_line_call call ≡ true
    → Comes m awaits (awaits_in request values m) (map remote_line (said_by (due_in prepared over awaits values m) said call))
comes_in prepared true awaits request said values m call ok asked whole = absurd cc
comes_in prepared false true request said values (Value value) call ok asked whole = brings_value prepared request said values value call asked whole
comes_in prepared false true request said values m call ok asked whole = absurd cc
comes_in prepared false false request said values (Value value) call ok asked whole = absurd cc
comes_in prepared false false request said values (Creds user password) call ok asked whole = absurd cc
comes_in prepared false false request said values (HostError text) call ok asked whole = absurd cc
comes_in prepared false false request said values (Export name) call ok asked whole = Names refl refl refl refl refl
comes_in prepared false false request said values Prepare call ok asked whole = Begins refl refl refl refl refl
comes_in prepared false false request said values Initremote call ok asked whole = Begins refl refl refl refl refl
comes_in false false false request said values (Transfer store key file) call ok asked whole =
    answers_now (Transfer store key file) false (refusal (Transfer store key file) (codes "not prepared")) said call refl refl refl refl asked whole
comes_in true false false request said values (Transfer store key file) call ok asked whole =
    let due : Due = cond (is_utf8 file) (Asks (transfer_asked store key file)) (refusal (Transfer store key file) (codes "not text")) in
    answers_now (Transfer store key file) false due said call refl refl refl
    (answering_if (is_utf8 file) (Asks (transfer_asked store key file)) (refusal (Transfer store key file) (codes "not text")) refl refl) asked whole
comes_in false false false request said values (Checkpresent key) call ok asked whole =
    answers_now (Checkpresent key) false (due_in false false false values (Checkpresent key)) said call refl refl refl refl asked whole
comes_in true false false request said values (Checkpresent key) call ok asked whole =
    answers_now (Checkpresent key) false (due_in true false false values (Checkpresent key)) said call refl refl refl refl asked whole
comes_in false false false request said values (Remove key) call ok asked whole =
    answers_now (Remove key) false (due_in false false false values (Remove key)) said call refl refl refl refl asked whole
comes_in true false false request said values (Remove key) call ok asked whole =
    answers_now (Remove key) false (due_in true false false values (Remove key)) said call refl refl refl refl asked whole
comes_in prepared false false request said values m call ok asked whole =
    answers_now m false (due_in prepared false false values m) said call refl refl refl refl asked whole

-- ---- the same of what was heard

-- an expected message, after what was heard
pub comes : (h : List Heard) (e : Heard) → is_over settings (messages (h ++ e ∷ [])) ≡ false → IsAskedBy (due_of settings h e.message) e.call → is_line_call e.call ≡ true
    → Comes e.message (awaits_value settings (messages h)) (awaits_value settings (messages (h ++ e ∷ []))) (lines_to settings h e)
comes h e ok asked whole = there (request_of-push ms m) (values_of-push ms m)
  where
    ms : List HostMessage
    ms = messages h

    m : HostMessage
    m = e.message

    over : Bool
    over = is_over settings ms

    awaits : Bool
    awaits = awaits_value settings ms

    all : is_over settings (ms ++ m ∷ []) ≡ false
    all = sym (ap (is_over settings) (messages-push h e)) ∙ ok

    expected : (over || (is_error m || is_unexpected awaits m)) ≡ false
    expected = sym (some_behind-push (ends_kit settings) [] ms m) ∙ all

    due_by : List (List ℕ) → Due
    due_by values = live_due over (expected_due (is_unexpected awaits m) (work_due (slice_get settings (length values)) values (is_prepared h) m))

    there : request_of (ms ++ m ∷ []) ≡ request_pushed (request_of ms) m → values_of (ms ++ m ∷ []) ≡ values_pushed (values_of ms) m
        → Comes m awaits (awaits_value settings (messages (h ++ e ∷ []))) (lines_to settings h e)
    there r v =
        subst (λ (l : List HostMessage). Comes m awaits (awaits_value settings l) (lines_to settings h e)) (sym (messages-push h e))
        (subst (λ (x : Option HostMessage). Comes m awaits (is_readying x && is_some (next_setting settings (ms ++ m ∷ []))) (lines_to settings h e)) (sym r)
        (subst (λ (x : List (List ℕ)). Comes m awaits (is_readying (request_pushed (request_of ms) m) && is_some (slice_get settings (length x)))
        (map remote_line (said_by (due_by x) (request_of (ms ++ m ∷ [])) e.call))) (sym v)
        (comes_in (is_prepared h) over awaits (request_of ms) (request_of (ms ++ m ∷ [])) (values_of ms) m e.call expected
        (subst (λ (x : List (List ℕ)). IsAskedBy (due_by x) e.call) v asked) whole)))

-- ---- all lines that were taken

-- what holds of no line, and after one more, holds of all
pub by_last : {X : Type 0} (P : List X → Type 0) → P [] → ((xs : List X) (x : X) → P xs → P (xs ++ x ∷ [])) → (xs : List X) → P xs
by_last {X} P base step xs = along [] xs base
  where
    along : (front rest : List X) → P front → P (front ++ rest)
    along front [] h = subst P (sym (append-nil front)) h
    along front (x ∷ rest) h = subst P (append_assoc front (x ∷ []) rest) (along (front ++ x ∷ []) rest (step front x h))

-- a kit took these lines, and expected each, and its remote set nothing
pub record AreExpected (taken : List Taken) : Type 0 where
  pub spelled : are_spelled taken ≡ true
  pub expected : is_over settings (messages (heard taken)) ≡ false
  pub served : IsServed settings (heard taken)
  pub whole : list_all is_whole taken ≡ true

-- the last line of them, after the others
pub record IsLastTaken (before : List Taken) (t : Taken) : Type 0 where
  pub message : HostMessage
  pub reads : host_reading t.line ≡ Some message
  pub is_more : heard (before ++ t ∷ []) ≡ heard before ++ record { message = message; call = t.call } ∷ []
  pub earlier : AreExpected before
  pub comes :
      Comes message (awaits_value settings (messages (heard before))) (awaits_value settings (messages (heard (before ++ t ∷ []))))
      (lines_to settings (heard before) (record { message = message; call = t.call }))

pub last_taken : (before : List Taken) (t : Taken) → AreExpected (before ++ t ∷ []) → IsLastTaken before t
last_taken before t h = by_reading (host_reading t.line) refl
  where
    split : (are_spelled before ≡ true) × ((is_spelled t && true) ≡ true)
    split = both (are_spelled before) (is_spelled t && true) (sym (list_all-append is_spelled before (t ∷ [])) ∙ h.spelled)

    by_reading : (r : Option HostMessage) → host_reading t.line ≡ r → IsLastTaken before t
    by_reading None e = true_not_false (is_spelled t) (both (is_spelled t) true split.1).0 (ap is_some e)
    by_reading (Some m) e =
        let one : Heard = record { message = m; call = t.call } in
        let more : heard (before ++ t ∷ []) ≡ heard before ++ one ∷ [] = heard_more before t.line t.call m e in
        let over : is_over settings (messages (heard before ++ one ∷ [])) ≡ false = ap (λ (l : List Heard). is_over settings (messages l)) (sym more) ∙ h.expected in
        let served = served_front [] (heard before) one (subst (IsServed settings) more h.served) in
        let fronts = all_front is_whole before (t ∷ []) h.whole in
        let own = (both (not (has_newline t.line)) (is_line_call t.call) (both (is_whole t) true fronts.1).0).1 in
        record {
          message = m;
          reads = e;
          is_more = more;
          earlier = record {
            spelled = split.0;
            expected = either_left (is_over settings (messages (heard before))) (ends_kit settings (messages (heard before)) m)
                (sym (some_behind-push (ends_kit settings) [] (messages (heard before)) m) ∙ ap (is_over settings) (sym (messages-push (heard before) one)) ∙ over);
            served = served.0;
            whole = fronts.0;
          };
          comes = subst (λ (l : List Heard). Comes m (awaits_value settings (messages (heard before))) (awaits_value settings (messages l)) (lines_to settings (heard before) one)) (sym more)
              (comes (heard before) one over served.1 own);
        }

-- ---- the requests that are answered

abbrev pub firsts : List (List ℕ × List ℕ) → List (List ℕ)
firsts answers = map (λ a. a.0) answers

-- The requests among the lines are those that were answered, and the one that awaits a VALUE.
abbrev pub AreAskedFor : List Taken → Type 0
AreAskedFor taken = requests (taken_lines taken) ≡ firsts (answers_to taken) ++ one_if (awaits_value settings (messages (heard taken))) (request_taken taken)

one_more : (m : HostMessage) (before after : Bool) (say asked : List (List ℕ)) (answers : List (List ℕ × List ℕ)) (request line : List ℕ)
    → Comes m before after say → asked ≡ firsts answers ++ one_if before request
    → asked ++ one_if (is_asking m) line
    ≡ firsts (answers ++ noted (request_with request m line) (last_said (not after) say)) ++ one_if after (request_with request m line)
one_more m before after say asked answers request line (Brings said v a b n s) q =
    rw (v, a, n, s)
    (append-nil asked ∙ q ∙ ap (λ (x : Bool). firsts answers ++ one_if x request) b
    ∙ sym (map-append (λ (x : List ℕ × List ℕ). x.0) answers ((request, said) ∷ [])) ∙ sym (append-nil (firsts (answers ++ (request, said) ∷ []))))
one_more m before after say asked answers request line (Names v a b n s) q =
    rw (a, n, s)
    (append-nil asked ∙ q ∙ ap (λ (x : Bool). firsts answers ++ one_if x request) b
    ∙ ap (λ (l : List (List ℕ × List ℕ)). firsts l ++ []) (sym (append-nil answers)))
one_more m before after say asked answers request line (Begins v a b n s) q =
    rw (v, a, n)
    (ap (λ (l : List (List ℕ)). l ++ line ∷ []) (q ∙ ap (λ (x : Bool). firsts answers ++ one_if x request) b ∙ append-nil (firsts answers))
    ∙ ap (λ (l : List (List ℕ × List ℕ)). firsts l ++ line ∷ []) (sym (append-nil answers)))
one_more m before after say asked answers request line (Answers said v a b n s) q =
    rw (v, a, n, s)
    (ap (λ (l : List (List ℕ)). l ++ line ∷ []) (q ∙ ap (λ (x : Bool). firsts answers ++ one_if x request) b ∙ append-nil (firsts answers))
    ∙ sym (map-append (λ (x : List ℕ × List ℕ). x.0) answers ((line, said) ∷ [])) ∙ sym (append-nil (firsts (answers ++ (line, said) ∷ []))))

-- a kit that expected what it took awaits a VALUE, or may hear any request
free_expected : (taken : List Taken) → AreExpected taken → is_free (stage_of settings (messages (heard taken))) ≡ not (awaits_value settings (messages (heard taken)))
free_expected taken h =
    free_followed {R = Unit {0}} settings (record { remote = tt; prepared = is_prepared (heard taken); stage = stage_of settings (messages (heard taken)) }) (heard taken)
    (record { served = h.served; prepared = refl; stage = refl })
    ∙ ap (λ (b : Bool). not b && not (awaits_value settings (messages (heard taken)))) h.expected

asked_push : (before : List Taken) (t : Taken) → (AreExpected before → AreAskedFor before) → AreExpected (before ++ t ∷ []) → AreAskedFor (before ++ t ∷ [])
asked_push before t earlier h = by_last_one (last_taken before t h)
  where
    all : List Taken
    all = before ++ t ∷ []

    awaits : Bool
    awaits = awaits_value settings (messages (heard all))

    by_last_one : IsLastTaken before t → AreAskedFor all
    by_last_one l =
        let m = l.message in
        let say = lines_to settings (heard before) (record { message = m; call = t.call }) in
        ap requests (map-append (λ (x : Taken). x.line) before (t ∷ [])) ∙ requests_push (taken_lines before) t.line m l.reads
        ∙ one_more m (awaits_value settings (messages (heard before))) awaits say (requests (taken_lines before)) (answers_to before) (request_taken before) t.line l.comes (earlier l.earlier)
        ∙ ap (λ (r : List ℕ). firsts (answers_to before ++ noted r (last_said (not awaits) say)) ++ one_if awaits r) (sym (request_push before t m l.reads))
        ∙ ap (λ (b : Bool). firsts (answers_to before ++ noted (request_taken all) (last_said b say)) ++ one_if awaits (request_taken all)) (sym (free_expected all h))
        ∙ ap (λ (l : List (List ℕ × List ℕ)). firsts l ++ one_if awaits (request_taken all)) (sym (answers_push before t m l.reads))

pub asked_for : (taken : List Taken) → AreExpected taken → AreAskedFor taken
asked_for taken = by_last (λ (ts : List Taken). AreExpected ts → AreAskedFor ts) (λ h. refl) asked_push taken

-- The line that was said to the last message is an answer, to the request that is the last; and each request was answered.
pub record IsAnswer (before : List Taken) (t : Taken) (line : List ℕ) : Type 0 where
  pub answers_are : answers_to (before ++ t ∷ []) ≡ answers_to before ++ (request_taken (before ++ t ∷ []), line) ∷ []
  pub requests_are : requests (taken_lines (before ++ t ∷ [])) ≡ firsts (answers_to (before ++ t ∷ []))

-- so it is of a line that doesn't ask for the setting
pub last_answer : (before : List Taken) (t : Taken) (m : HostMessage) (line : List ℕ) → AreExpected (before ++ t ∷ []) → host_reading t.line ≡ Some m
    → lines_to settings (heard before) (record { message = m; call = t.call }) ≡ line ∷ [] → (line ≡ asking_line → ⊥) → IsAnswer before t line
last_answer before t m line h reads says other = by_comes (last_taken before t h)
  where
    all : List Taken
    all = before ++ t ∷ []

    say : List (List ℕ)
    say = lines_to settings (heard before) (record { message = m; call = t.call })

    free : awaits_value settings (messages (heard all)) ≡ false → IsAnswer before t line
    free none = record {
      answers_are =
          answers_push before t m reads
          ∙ ap (λ (b : Bool). answers_to before ++ noted (request_taken all) (last_said b say)) (free_expected all h ∙ ap not none)
          ∙ ap (λ (l : List (List ℕ)). answers_to before ++ noted (request_taken all) (last_said true l)) says;
      requests_are =
          asked_for all h ∙ ap (λ (b : Bool). firsts (answers_to all) ++ one_if b (request_taken all)) none ∙ append-nil (firsts (answers_to all));
    }

    go : (a b : Bool) (lines : List (List ℕ)) → lines ≡ line ∷ [] → (b ≡ false → IsAnswer before t line) → Comes m a b lines → IsAnswer before t line
    go a b lines is ends (Brings said v q x n s) = ends n
    go a b lines is ends (Names v q x n s) = absurd (let bad : [] ≡ line ∷ [] = sym s ∙ is in cc)
    go a b lines is ends (Begins v q x n s) = absurd (other (heads line asking_line [] [] (sym is ∙ s)))
    go a b lines is ends (Answers said v q x n s) = ends n

    by_comes : IsLastTaken before t → IsAnswer before t line
    by_comes l =
        let same : l.message ≡ m = same_Some l.message m (sym l.reads ∙ reads) in
        go (awaits_value settings (messages (heard before))) (awaits_value settings (messages (heard all))) say says free
        (subst (λ (x : HostMessage). Comes x (awaits_value settings (messages (heard before))) (awaits_value settings (messages (heard all)))
        (lines_to settings (heard before) (record { message = x; call = t.call }))) same l.comes)
