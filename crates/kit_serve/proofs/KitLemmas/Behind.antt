-- What one message more does to what is said of all that was heard.
use Rattle.std.proofs.Common.{ℕ, ◌≡◌, ◌+◌, ◌-◌, Bool, true, false, ◌||◌, not, List, [], ◌∷◌, ◌++◌, length, map, drop, Option, Some, None, cond, refl, sym, ap, ◌∙◌, subst, arith, append_assoc, length-append}
use Rattle.std.specs.List.{last_or, after_last, filter, prefix_len, suffix_len}
use Rattle.std.proofs.lemmas.List.{map-append, reverse-append, drop-append-le, append-nil, drop_all}
use Rattle.std.proofs.Math.Bool.{or-false, or_assoc}
use Rattle.std.proofs.lemmas.List.Elements.{filter-append, filter_map-append}
use Rattle.annex_model.specs.Messages.{HostMessage, Value}
use Rattle.kit_serve.specs.Kit.Kits.{Heard, messages, calls_of, some_behind, is_value, value_in, request_of, values_of, IsServedBehind, IsAskedBy, due_of, lines_behind, lines_to}
use Rattle.ann_key.proofs.Lists.{last_or-push}

pub some_behind-push : {A : Type 0} (p : List A → A → Bool) (before xs : List A) (x : A)
    → some_behind p before (xs ++ x ∷ []) ≡ some_behind p before xs || p (before ++ xs) x
some_behind-push p before [] x = or-false (p before x) ∙ ap (λ b. p b x) (sym (append-nil before))
some_behind-push p before (y ∷ ys) x =
    ap (λ b. p before y || b) (some_behind-push p (before ++ y ∷ []) ys x)
    ∙ sym (or_assoc (p before y) (some_behind p (before ++ y ∷ []) ys) (p ((before ++ y ∷ []) ++ ys) x))
    ∙ ap (λ b. (p before y || some_behind p (before ++ y ∷ []) ys) || p b x) (append_assoc before (y ∷ []) ys)

-- the message that is answered after one more
abbrev pub request_pushed : Option HostMessage → HostMessage → Option HostMessage
request_pushed request (Value value) = request
request_pushed request m = Some m

abbrev pub values_pushed : List (List ℕ) → HostMessage → List (List ℕ)
values_pushed values (Value value) = values ++ value ∷ []
values_pushed values m = []

pub request_of-push : (ms : List HostMessage) (m : HostMessage) → request_of (ms ++ m ∷ []) ≡ request_pushed (request_of ms) m
request_of-push ms (Value value) =
    ap (last_or None) (filter-append (λ (m : HostMessage). not (is_value m)) ms (Value value ∷ []) ∙ append-nil (filter (λ (m : HostMessage). not (is_value m)) ms))
request_of-push ms m =
    ap (last_or None) (filter-append (λ (m : HostMessage). not (is_value m)) ms (m ∷ [])) ∙ last_or-push None (filter (λ (m : HostMessage). not (is_value m)) ms) m

suffix_len-push : {A : Type 0} (p : A → Bool) (xs : List A) (x : A)
    → suffix_len p (xs ++ x ∷ []) ≡ cond (p x) (1 + suffix_len p xs) 0
suffix_len-push p xs x = ap (prefix_len p) (reverse-append xs (x ∷ []))

-- an element that passes ends what follows the last one that passes
after_last-push_yes : {A : Type 0} (p : A → Bool) (xs : List A) (x : A) → p x ≡ true → after_last p (xs ++ x ∷ []) ≡ []
after_last-push_yes p xs x passes =
    let kept : suffix_len (λ y. not (p y)) (xs ++ x ∷ []) ≡ 0 =
    suffix_len-push (λ y. not (p y)) xs x ∙ ap (λ b. cond (not b) (1 + suffix_len (λ y. not (p y)) xs) 0) passes in
    drop_all (length (xs ++ x ∷ []) - suffix_len (λ y. not (p y)) (xs ++ x ∷ [])) (xs ++ x ∷ []) (omega arith)

-- and one that doesn't is added to it
after_last-push_no : {A : Type 0} (p : A → Bool) (xs : List A) (x : A) → p x ≡ false → after_last p (xs ++ x ∷ []) ≡ after_last p xs ++ x ∷ []
after_last-push_no p xs x fails =
    let kept : suffix_len (λ y. not (p y)) (xs ++ x ∷ []) ≡ 1 + suffix_len (λ y. not (p y)) xs =
    suffix_len-push (λ y. not (p y)) xs x ∙ ap (λ b. cond (not b) (1 + suffix_len (λ y. not (p y)) xs) 0) fails in
    let long : length (xs ++ x ∷ []) ≡ length xs + 1 = length-append xs (x ∷ []) in
    let same : length (xs ++ x ∷ []) - suffix_len (λ y. not (p y)) (xs ++ x ∷ []) ≡ length xs - suffix_len (λ y. not (p y)) xs = omega arith in
    ap (λ n. drop n (xs ++ x ∷ [])) same ∙ drop-append-le (length xs - suffix_len (λ y. not (p y)) xs) xs (x ∷ []) (omega arith)

pub values_of-push : (ms : List HostMessage) (m : HostMessage) → values_of (ms ++ m ∷ []) ≡ values_pushed (values_of ms) m
values_of-push ms (Value value) =
    ap (map value_in) (after_last-push_no (λ (m : HostMessage). not (is_value m)) ms (Value value) refl)
    ∙ map-append value_in (after_last (λ (m : HostMessage). not (is_value m)) ms) (Value value ∷ [])
values_of-push ms m =
    ap (map value_in) (after_last-push_yes (λ (m : HostMessage). not (is_value m)) ms m refl)

pub messages-push : (h : List Heard) (e : Heard) → messages (h ++ e ∷ []) ≡ messages h ++ e.message ∷ []
messages-push h e = map-append (λ (x : Heard). x.message) h (e ∷ [])

pub IsServedBehind-push : (settings : List (List ℕ)) (before h : List Heard) (e : Heard)
    → IsServedBehind settings before h → IsAskedBy (due_of settings (before ++ h) e.message) e.call
    → IsServedBehind settings before (h ++ e ∷ [])
IsServedBehind-push settings before [] e served asked = (subst (λ (b : List Heard). IsAskedBy (due_of settings b e.message) e.call) (append-nil before) asked, tt)
IsServedBehind-push settings before (x ∷ rest) e served asked = (
  served.0,
  IsServedBehind-push settings (before ++ x ∷ []) rest e served.1
      (subst (λ (b : List Heard). IsAskedBy (due_of settings b e.message) e.call) (sym (append_assoc before (x ∷ []) rest)) asked),
)

pub lines_behind-push : (settings : List (List ℕ)) (before h : List Heard) (e : Heard)
    → lines_behind settings before (h ++ e ∷ []) ≡ lines_behind settings before h ++ lines_to settings (before ++ h) e
lines_behind-push settings before [] e = append-nil (lines_to settings before e) ∙ ap (λ (b : List Heard). lines_to settings b e) (sym (append-nil before))
lines_behind-push settings before (x ∷ rest) e =
    ap (λ ls. lines_to settings before x ++ ls) (lines_behind-push settings (before ++ x ∷ []) rest e)
    ∙ sym (append_assoc (lines_to settings before x) (lines_behind settings (before ++ x ∷ []) rest) (lines_to settings ((before ++ x ∷ []) ++ rest) e))
    ∙ ap (λ (b : List Heard). (lines_to settings before x ++ lines_behind settings (before ++ x ∷ []) rest) ++ lines_to settings b e) (append_assoc before (x ∷ []) rest)

pub calls_of-push : (h : List Heard) (e : Heard) → calls_of (h ++ e ∷ []) ≡ calls_of h ++ calls_of (e ∷ [])
calls_of-push h e = filter_map-append (λ (x : Heard). x.call) h (e ∷ [])
