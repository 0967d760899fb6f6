-- The lines that describe a remote.
use Rattle.std.proofs.Common.{◌≡◌, ℕ, ◌+◌, ◌<◌, ◌^◌, ◌==◌, ◌||◌, not, Bool, true, false, List, [], ◌∷◌, ◌++◌, length, map, take, get_or, Option, Some, None, IsTrue, refl, sym, ap, ◌∙◌, arith, append_assoc}
use Rattle.std.specs.Prelude.{decimal}
use Rattle.std.specs.List.{list_all}
use Rattle.std.proofs.lemmas.Bool.{and_parts, not-true}
use Rattle.std.proofs.lemmas.Bool.Decides.{nat_tests}
use Rattle.std.proofs.lemmas.List.{map-append, take_more, append-nil}
use Rattle.std.proofs.lemmas.List.Folds.{list_any-append, list_all_at}
use Rattle.std.proofs.lemmas.Fmt.{digits_decimal}
use Rattle.ann_key.specs.Numbers.{is_digit}
use Rattle.ann_key.proofs.Unique.{own_numbers}
use Rattle.annex_model.specs.Lines.{has_newline}
use Rattle.annex_model.specs.Messages.{RemoteMessage, UnsupportedRequest, Config, Infofield, Infovalue, HostMessage, Listconfigs, Getcost, Getavailability, Getinfo, Whereis, remote_line, is_word}
use Rattle.kit_serve.specs.declared.kit.describe.Pair.{Pair}
use Rattle.kit_serve.specs.Kit.Descriptions.{all_messages, aside_lines, untold, is_config, is_pair}

all-append : (each : Pair → List RemoteMessage) (ps qs : List Pair) → all_messages each (ps ++ qs) ≡ all_messages each ps ++ all_messages each qs
all-append each [] qs = refl
all-append each (p ∷ ps) qs = ap (λ (ms : List RemoteMessage). each p ++ ms) (all-append each ps qs) ∙ sym (append_assoc (each p) (all_messages each ps) (all_messages each qs))

-- one pair more
pub all_next : (each : Pair → List RemoteMessage) (ps : List Pair) (i : ℕ) (p : Pair) → i < length ps → p ≡ get_or ps i p
    → map remote_line (all_messages each (take (i + 1) ps)) ≡ map remote_line (all_messages each (take i ps)) ++ map remote_line (each p)
all_next each ps i p within is =
    ap (λ (qs : List Pair). map remote_line (all_messages each qs)) (take_more ps i p within)
    ∙ ap (map remote_line) (all-append each (take i ps) (get_or ps i p ∷ []))
    ∙ map-append remote_line (all_messages each (take i ps)) (all_messages each (get_or ps i p ∷ []))
    ∙ ap (λ (ms : List RemoteMessage). map remote_line (all_messages each (take i ps)) ++ map remote_line ms) (append-nil (each (get_or ps i p)) ∙ ap each (sym is))

-- each pair passes, where all do
pub each_passes : (test : Pair → Bool) (ps : List Pair) (i : ℕ) (p : Pair) → i < length ps → p ≡ get_or ps i p → IsTrue (list_all test ps) → test p ≡ true
each_passes test ps i p within is all = go (test p) refl
  where
    go : (b : Bool) → test p ≡ b → b ≡ true
    go true e = refl
    go false e = let fails : list_all test ps ≡ false = list_all_at test ps i p within (ap test (sym is) ∙ e) in sym fails ∙ all

pub config_free : (p : Pair) → is_config p ≡ true → IsTrue (is_word p.name) × (has_newline (remote_line (Config p.name p.text)) ≡ false)
config_free p ok =
    let word = and_parts (is_word p.name) (is_pair p) ok in
    let lines = and_parts (not (has_newline p.name)) (not (has_newline p.text)) word.1 in (
      word.0,
      list_any-append (λ b. b == 10) p.name (32 ∷ p.text) ∙ ap (λ (b : Bool). b || has_newline (32 ∷ p.text)) (not-true (has_newline p.name) lines.0) ∙ not-true (has_newline p.text) lines.1,
    )

pub info_free : (p : Pair) → is_pair p ≡ true → (has_newline (remote_line (Infofield p.name)) ≡ false) × (has_newline (remote_line (Infovalue p.text)) ≡ false)
info_free p ok =
    let lines = and_parts (not (has_newline p.name)) (not (has_newline p.text)) ok in
    (not-true (has_newline p.name) lines.0, not-true (has_newline p.text) lines.1)

pub digit_free : (x : ℕ) → is_digit x ≡ true → (x == 10) ≡ false
digit_free x h = grind (arith, nat_tests)

digits_free : (xs : List ℕ) → list_all is_digit xs ≡ true → has_newline xs ≡ false
digits_free [] h = refl
digits_free (x ∷ xs) h = let both = and_parts (is_digit x) (list_all is_digit xs) h in ap (λ (b : Bool). b || has_newline xs) (digit_free x both.0) ∙ digits_free xs both.1

pub decimal_free : (n : ℕ) → n < 2 ^ 64 → has_newline (decimal n) ≡ false
decimal_free n small = digits_free (decimal n) (digits_decimal own_numbers n small)

-- of a remote that says nothing all that goes aside is unsupported
pub untold_says : (request : Option HostMessage) → aside_lines untold request ≡ remote_line UnsupportedRequest ∷ []
untold_says None = refl
untold_says (Some Listconfigs) = refl
untold_says (Some Getcost) = refl
untold_says (Some Getavailability) = refl
untold_says (Some Getinfo) = refl
untold_says (Some (Whereis key)) = refl
untold_says (Some m) = refl
