-- A journal place by place.
use Rattle.std.proofs.Common.{◌≡◌, ◌∙◌, ℕ, suc, ◌+◌, ◌-◌, ◌<◌, ◌≤◌, List, [], ◌++◌, refl, ap, Option, Some, None, length, arith}
use Rattle.std.specs.Prelude.{filter_map}
use Rattle.std.specs.List.{cons_option, range_with_len}
use Rattle.annex_model.specs.Messages.{RemoteMessage}
use Rattle.annex_model.specs.Talks.{said}
use Rattle.journal_model.specs.declared.entry.Entry.{Entry}
use Rattle.journal_model.specs.Parts.{part, item_at, part_by_places}
use Rattle.host_core.proofs.Replaying.{part_places as from_places}
use Rattle.annex_model.proofs.FrontsTalk.{said-append}

-- ---- all places from one on

-- the part is the same, place by place
pub places_are_part : (journal : List Entry) (c j : ℕ) → part journal c j ≡ part_by_places journal c j
places_are_part journal c j = from_places c j [] journal

-- ---- what is said from a place on

abbrev pub said_from : List Entry → ℕ → ℕ → ℕ → List (Option RemoteMessage)
said_from journal c j at = said (filter_map (item_at journal c j) (range_with_len at (length journal - at)))

pub said_all : (journal : List Entry) (c j : ℕ) → said (part journal c j) ≡ said_from journal c j 0
said_all journal c j =
    let whole : length journal ≡ length journal - 0 = omega arith in
    ap said (places_are_part journal c j) ∙ ap (λ (n : ℕ). said (filter_map (item_at journal c j) (range_with_len 0 n))) whole

cons_option-append : {X : Type 0} (o : Option X) (xs : List X) → cons_option o xs ≡ cons_option o [] ++ xs
cons_option-append None xs = refl
cons_option-append (Some x) xs = refl

pub said_next : (journal : List Entry) (c j at : ℕ) → at < length journal
    → said_from journal c j at ≡ said (cons_option (item_at journal c j at) []) ++ said_from journal c j (at + 1)
said_next journal c j at h =
    let later = filter_map (item_at journal c j) (range_with_len (at + 1) (length journal - (at + 1))) in
    let one : length journal - at ≡ suc (length journal - (at + 1)) = omega arith in
    ap (λ (n : ℕ). said (filter_map (item_at journal c j) (range_with_len at n))) one
    ∙ ap said (cons_option-append (item_at journal c j at) later)
    ∙ said-append (cons_option (item_at journal c j at) []) later

pub said_end : (journal : List Entry) (c j at : ℕ) → length journal ≤ at → said_from journal c j at ≡ []
said_end journal c j at h =
    let none : length journal - at ≡ 0 = omega arith in
    ap (λ (n : ℕ). said (filter_map (item_at journal c j) (range_with_len at n))) none
