-- A legal journal, entry by entry.
use Rattle.std.proofs.Common.{◌≡◌, List, [], ◌∷◌, ◌++◌, refl, true}
use Rattle.std.specs.Prelude.{fold}
use Rattle.std.proofs.lemmas.List.Sums.{fold-append}
use Rattle.kit_async_model.specs.declared.setup.Setup.{Setup}
use Rattle.kit_async_model.specs.declared.entry.Entry.{Entry}
use Rattle.kit_async_model.specs.Standings.{Standing, opening, after, standing}
use Rattle.kit_async_model.specs.Legality.{follows, legal_from, is_legal}
use Rattle.std.proofs.lemmas.Bool.{and_parts as both}

pub standing_append : (setup : Setup) (past rest : List Entry) → standing setup (past ++ rest) ≡ fold (after setup) (standing setup past) rest
standing_append setup past rest = fold-append (after setup) opening past rest

-- a legal list is a legal front, and a rest that is legal after it
pub parts_from : (setup : Setup) (s : Standing) (past rest : List Entry) → legal_from setup s (past ++ rest) ≡ true
    → (legal_from setup s past ≡ true) × (legal_from setup (fold (after setup) s past) rest ≡ true)
parts_from setup s [] rest h = (refl, h)
parts_from setup s (e ∷ past) rest h =
    let b = both (follows setup s e) (legal_from setup (after setup s e) (past ++ rest)) h in
    let more = parts_from setup (after setup s e) past rest b.1 in
    (rw (b.0, more.0) refl, more.1)

pub parts : (setup : Setup) (past rest : List Entry) → is_legal setup (past ++ rest) ≡ true
    → (is_legal setup past ≡ true) × (legal_from setup (standing setup past) rest ≡ true)
parts setup past rest h = parts_from setup opening past rest h

pub fronts_are_legal : (setup : Setup) (past rest : List Entry) → is_legal setup (past ++ rest) ≡ true → is_legal setup past ≡ true
fronts_are_legal setup past rest h = (parts setup past rest h).0
