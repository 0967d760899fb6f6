-- One step of a kit of the world, by the word that its remote was given.
use Rattle.std.proofs.Common.{ℕ, ◌≡◌, Bool, true, false, cond, List, [], ◌∷◌, ◌++◌, Option, Some, None, option_map, refl, sym, ap, subst, ◌∙◌}
use Rattle.std.specs.Prelude.{◌&&◌, IfSome, codes}
use Rattle.std.specs.Str.{is_utf8}
use Rattle.annex_model.specs.Messages.{HostMessage, Prepare, Initremote, Transfer, Checkpresent, Remove, Value, Error}
use Rattle.kit_serve.specs.declared.kit.call.Said.{Said}
use Rattle.kit_serve.specs.declared.kit.call.Said.TheVariants.{Yes}
use Rattle.kit_serve.specs.declared.kit.call.Asked.{Asked}
use Rattle.kit_serve.specs.declared.kit.call.Asked.TheVariants.{Prepare as AskPrepare, Initialize as AskInitialize, Store as AskStore, Retrieve as AskRetrieve, Check as AskCheck, Remove as AskRemove}
use Rattle.kit_serve.specs.declared.kit.call.Call.{Call}
use Rattle.kit_serve.specs.Kit.Calls.{is_line_said}
use Rattle.kit_serve.specs.Kit.Kits.{Heard, Due, Silence, Line, Asks, readying, transfer_asked, refusal, due_of, asked_by, live_due, expected_due, work_due, is_unexpected, awaits_value, is_over, is_prepared, messages, next_setting, values_of, with_call, IsAskedBy, lines_to}
use Rattle.kit_serve.specs.Kit.Stages.{KitValue, Follows, Steps}
use Rattle.pair_kit.specs.Shelves.{Items, content}
use Rattle.pair_kit.specs.Cues.{CueValue, told_calls, settings, as_list}
use Rattle.pair_kit.specs.Works.{found, is_there, word, word_for, call_for, StepsBy}
use Rattle.pair_kit.specs.Paces.{sets_nothing, is_line_call}

-- ---- the call that was made

one_in : (rest : List Call) (c d : Call) → rest ++ c ∷ [] ≡ d ∷ [] → c ≡ d
one_in [] c d e = cc
one_in (r ∷ []) c d e = cc
one_in (r ∷ s ∷ rest) c d e = cc

none_in : (rest : List Call) (call : Option Call) → [] ≡ rest ++ as_list call → call ≡ None
none_in rest None e = refl
none_in [] (Some c) e = cc
none_in (r ∷ rest) (Some c) e = cc

some_same : (x y : List Call) → Some x ≡ Some y → x ≡ y
some_same x y e = cc

head_said : Said → List Call → Said
head_said d [] = d
head_said d (x ∷ xs) = x.said

tail_of : List Call → List Call
tail_of [] = []
tail_of (x ∷ xs) = xs

told_apart : (c d : CueValue) → told_calls c ≡ told_calls d → (c.word ≡ d.word) × (c.calls ≡ d.calls)
unfolding head_said tail_of
told_apart c d t = (ap (head_said c.word) t, ap tail_of t)

-- a cue that told its word and nothing else tells this call after it
told_one : (before after : CueValue) (made : Option Call) → before.calls ≡ [] → Some (told_calls after) ≡ with_call (Some (told_calls before)) made
    → (after.word ≡ before.word) × (after.calls ≡ as_list made)
told_one before after None none e =
    let t = told_apart after before (some_same (told_calls after) (told_calls before) e) in
    (t.0, t.1 ∙ none)
told_one before after (Some call) none e =
    let t = told_apart after (record { word = before.word; calls = before.calls ++ call ∷ [] }) (some_same (told_calls after) (told_calls before ++ call ∷ []) e) in
    (t.0, t.1 ∙ ap (λ (l : List Call). l ++ call ∷ []) none)

taken_is : (rest : List Call) (made call : Option Call) → as_list made ≡ rest ++ as_list call → (call ≡ None → as_list made ≡ []) → call ≡ made
taken_is rest None call e none = none_in rest call e
taken_is rest (Some c) None e none = let bad : c ∷ [] ≡ [] = none refl in absurd cc
taken_is rest (Some c) (Some d) e none = ap Some (one_in rest d c (sym e))

pub steps_by : (said : Said) (old before after new : KitValue CueValue) (m : HostMessage) (say : List (List ℕ)) (over : Bool) (call : Option Call)
    → before ≡ record old { remote = record { word = said; calls = [] } } → Steps (λ c. Some (told_calls c)) settings before after m say over
    → new ≡ record after { remote = new.remote } → after.remote.calls ≡ new.remote.calls ++ as_list call → (call ≡ None → after.remote.calls ≡ [])
    → IfSome call (λ c. c.said ≡ after.remote.word) → StepsBy said old new m call say
steps_by said old before after new m say over call was steps is kept none word =
    let told = told_one before.remote after.remote steps.call (ap (λ (k : KitValue CueValue). k.remote.calls) was) steps.gained in
    let same : call ≡ steps.call = taken_is new.remote.calls steps.call call (sym told.1 ∙ kept) (λ e. sym told.1 ∙ none e) in
    let given : after.remote.word ≡ said = told.0 ∙ ap (λ (k : KitValue CueValue). k.remote.word) was in
    record {
      word = subst (λ (w : Said). IfSome call (λ c. c.said ≡ w)) given word;
      asks = λ h f. subst (IsAskedBy (due_of settings h m)) (sym same) (steps.step h (before_follows h f)).asks;
      says = λ h f. subst (λ (c : Option Call). say ≡ lines_to settings h (record { message = m; call = c })) (sym same) (steps.step h (before_follows h f)).says;
      follows = λ h f. subst (λ (c : Option Call). Follows settings new (h ++ record { message = m; call = c } ∷ [])) (sym same)
          (new_follows (h ++ record { message = m; call = steps.call } ∷ []) (steps.follows h (before_follows h f)));
    }
  where
    before_follows : (h : List Heard) → Follows settings old h → Follows settings before h
    before_follows h f = record { served = f.served; prepared = ap (λ (k : KitValue CueValue). k.prepared) was ∙ f.prepared; stage = ap (λ (k : KitValue CueValue). k.stage) was ∙ f.stage }

    new_follows : (h : List Heard) → Follows settings after h → Follows settings new h
    new_follows h f = record { served = f.served; prepared = ap (λ (k : KitValue CueValue). k.prepared) is ∙ f.prepared; stage = ap (λ (k : KitValue CueValue). k.stage) is ∙ f.stage }

-- ---- the word

-- what is due, where it is a call, is answered by this
abbrev Gives : Items → Items → Said → Due → Type 0
Gives keys files said due = (a : Asked) → asked_by due ≡ Some a → word keys files a ≡ said

gives_none : (keys files : Items) (said : Said) (due : Due) → asked_by due ≡ None → Gives keys files said due
gives_none keys files said due none a h = absurd (no_call a (sym none ∙ h))
  where
    no_call : (x : Asked) → None ≡ Some x → ⊥
    no_call x e = cc

gives_call : (keys files : Items) (x : Asked) → Gives keys files (word keys files x) (Asks x)
gives_call keys files x a h = ap (word keys files) (sym (same x a h))
  where
    same : (y z : Asked) → Some y ≡ Some z → y ≡ z
    same y z e = cc

gives_if : (keys files : Items) (said : Said) (b : Bool) (x y : Due) → Gives keys files said x → Gives keys files said y → Gives keys files said (cond b x y)
gives_if keys files said true x y p q = p
gives_if keys files said false x y p q = q

gives_ready : (keys files : Items) (next : Option (List ℕ)) (values : List (List ℕ)) → Gives keys files Yes (readying next values)
gives_ready keys files (Some name) values = gives_none keys files Yes (readying (Some name) values) refl
gives_ready keys files None values = gives_call keys files (AskPrepare values)

gives_transfer : (keys files : Items) (store : Bool) (key file : List ℕ) → Gives keys files (word_for keys files (Transfer store key file)) (Asks (transfer_asked store key file))
gives_transfer keys files true key file = gives_call keys files (AskStore key file)
gives_transfer keys files false key file = gives_call keys files (AskRetrieve key file)

gives_work : (keys files : Items) (next : Option (List ℕ)) (values : List (List ℕ)) (prepared : Bool) (m : HostMessage)
    → Gives keys files (word_for keys files m) (work_due next values prepared m)
gives_work keys files next values prepared Prepare = gives_ready keys files next values
gives_work keys files next values prepared Initremote = gives_ready keys files next values
gives_work keys files next values prepared (Value value) = gives_ready keys files next values
gives_work keys files next values false (Transfer store key file) = gives_none keys files (word_for keys files (Transfer store key file)) (work_due next values false (Transfer store key file)) refl
gives_work keys files next values true (Transfer store key file) =
    gives_if keys files (word_for keys files (Transfer store key file)) (is_utf8 file) (Asks (transfer_asked store key file)) (refusal (Transfer store key file) (codes "not text"))
    (gives_transfer keys files store key file)
    (gives_none keys files (word_for keys files (Transfer store key file)) (refusal (Transfer store key file) (codes "not text")) refl)
gives_work keys files next values false (Checkpresent key) = gives_none keys files (word_for keys files (Checkpresent key)) (work_due next values false (Checkpresent key)) refl
gives_work keys files next values true (Checkpresent key) = gives_call keys files (AskCheck key)
gives_work keys files next values false (Remove key) = gives_none keys files Yes (work_due next values false (Remove key)) refl
gives_work keys files next values true (Remove key) = gives_call keys files (AskRemove key)
gives_work keys files next values prepared m = gives_none keys files Yes (work_due next values prepared m) refl

gives_due : (keys files : Items) (h : List Heard) (m : HostMessage) → Gives keys files (word_for keys files m) (due_of settings h m)
gives_due keys files h m = go (is_over settings (messages h)) (is_unexpected (awaits_value settings (messages h)) m)
  where
    go : (over unexpected : Bool) → Gives keys files (word_for keys files m) (live_due over (expected_due unexpected (work_due (next_setting settings (messages h ++ m ∷ [])) (values_of (messages h ++ m ∷ [])) (is_prepared h) m)))
    go true unexpected = gives_none keys files (word_for keys files m) Silence refl
    go false true = gives_none keys files (word_for keys files m) (Line (Error (codes "unexpected message"))) refl
    go false false = gives_work keys files (next_setting settings (messages h ++ m ∷ [])) (values_of (messages h ++ m ∷ [])) (is_prepared h) m

-- the call that was made is the one for what was due
pub call_is : (keys files : Items) (h : List Heard) (m : HostMessage) (call : Option Call) → IsAskedBy (due_of settings h m) call
    → IfSome call (λ c. c.said ≡ word_for keys files m) → call ≡ call_for keys files (option_map (λ c. c.asked) call)
call_is keys files h m None asked said = refl
call_is keys files h m (Some c) asked said =
    let w : word keys files c.asked ≡ c.said = gives_due keys files h m c.asked asked ∙ sym said in
    ap (λ (x : Said). Some (record { asked = c.asked; said = x })) (sym w)

-- no line ends in the word, and it sets nothing
abbrev is_line_word : Said → Bool
is_line_word said = sets_nothing said && is_line_said said

word_is_line : (keys files : Items) (asked : Asked) → is_line_word (word keys files asked) ≡ true
word_is_line keys files (AskPrepare values) = refl
word_is_line keys files (AskInitialize values) = refl
word_is_line keys files (AskStore key file) = go (content file files)
  where
    go : (o : Option (List ℕ)) → is_line_word (found o (codes "no such file")) ≡ true
    go None = refl
    go (Some bytes) = refl
word_is_line keys files (AskRetrieve key file) = go (content key keys)
  where
    go : (o : Option (List ℕ)) → is_line_word (found o (codes "no such key")) ≡ true
    go None = refl
    go (Some bytes) = refl
word_is_line keys files (AskCheck key) = go (content key keys)
  where
    go : (o : Option (List ℕ)) → is_line_word (is_there o) ≡ true
    go None = refl
    go (Some bytes) = refl
word_is_line keys files (AskRemove key) = refl

pub call_is_line : (keys files : Items) (asked : Option Asked) → is_line_call (call_for keys files asked) ≡ true
call_is_line keys files None = refl
call_is_line keys files (Some asked) = word_is_line keys files asked
