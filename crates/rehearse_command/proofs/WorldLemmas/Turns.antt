-- What a worker did last, looked for from the journal's end.
use Rattle.std.proofs.Common.{ℕ, ◌≡◌, ◌+◌, ◌-◌, ◌<◌, ◌≤◌, List, [], ◌∷◌, ◌++◌, length, take, get_or, Option, Some, None, refl, sym, ap, subst, ◌∙◌, arith}
use Rattle.std.specs.Prelude.{fold, slice_get, option_map}
use Rattle.std.proofs.lemmas.List.{take_more}
use Rattle.std.proofs.lemmas.List.Sums.{fold-append}
use Rattle.std.proofs.lemmas.Option.{slice_get_within, get_or_from_slice_get, slice_get-get_or}
use Rattle.journal_model.specs.declared.entry.Entry.{Entry}
use Rattle.rehearse_command.specs.declared.world.worker.Turn.{Turn}
use Rattle.rehearse_command.specs.World.Workers.{last_turn, later, turn_after, turn_in}

-- the entries up to that place
one_more : (entries : List Entry) (at : ℕ) (e : Entry) → slice_get entries at ≡ Some e → take (at + 1) entries ≡ take at entries ++ e ∷ []
one_more entries at e there =
    take_more entries at e (slice_get_within entries at e there) ∙ ap (λ (y : Entry). take at entries ++ y ∷ []) (get_or_from_slice_get entries at e e there)

turn_at : (c at : ℕ) (entries : List Entry) (e : Entry) → slice_get entries at ≡ Some e
    → last_turn (take (at + 1) entries) c ≡ later (turn_in c e.what) (last_turn (take at entries) c)
turn_at c at entries e there =
    ap (λ (past : List Entry). last_turn past c) (one_more entries at e there) ∙ fold-append (turn_after c) None (take at entries) (e ∷ [])

-- what was found is the last, where nothing came after it
pub turn_found : (c back : ℕ) (entries : List Entry) (e : Entry) (turn : Turn) → back < length entries → slice_get entries (length entries - 1 - back) ≡ Some e
    → turn_in c e.what ≡ Some turn → last_turn entries c ≡ last_turn (take (length entries - back) entries) c → last_turn entries c ≡ Some turn
turn_found c back entries e turn within there is behind =
    let n : length entries - back ≡ length entries - 1 - back + 1 = omega (arith, within) in
    behind ∙ ap (λ (k : ℕ). last_turn (take k entries) c) n ∙ turn_at c (length entries - 1 - back) entries e there
    ∙ ap (λ (o : Option Turn). later o (last_turn (take (length entries - 1 - back) entries) c)) is

-- one entry less
pub turn_before : (c back : ℕ) (entries : List Entry) (e : Entry) → back < length entries → slice_get entries (length entries - 1 - back) ≡ Some e
    → turn_in c e.what ≡ None → last_turn entries c ≡ last_turn (take (length entries - back) entries) c
    → last_turn entries c ≡ last_turn (take (length entries - (back + 1)) entries) c
turn_before c back entries e within there is behind =
    let n : length entries - back ≡ length entries - 1 - back + 1 = omega (arith, within) in
    let m : length entries - 1 - back ≡ length entries - (back + 1) = omega arith in
    behind ∙ ap (λ (k : ℕ). last_turn (take k entries) c) n ∙ turn_at c (length entries - 1 - back) entries e there
    ∙ ap (λ (o : Option Turn). later o (last_turn (take (length entries - 1 - back) entries) c)) is
    ∙ ap (λ (k : ℕ). last_turn (take k entries) c) m
