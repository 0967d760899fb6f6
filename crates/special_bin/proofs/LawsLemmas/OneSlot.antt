-- With one job each start is in slot 0.
use Rattle.std.proofs.Common.{◌≡◌, ◌==◌, ℕ, zero, suc, List, [], ◌∷◌, ◌++◌, length, refl, true, cond, arith}
use Rattle.std.specs.Prelude.{filter}
use Rattle.std.specs.List.{list_all, cons_option}
use Rattle.journal_model.specs.Journal.{each_of}
use Rattle.journal_model.specs.Legality.{count}
use Rattle.journal_model.specs.declared.entry.Entry.{Entry}
use Rattle.journal_model.specs.declared.entry.What.{What}
use Rattle.journal_model.specs.declared.entry.What.TheVariants.{Start, NoStart}
use Rattle.journal_model.specs.declared.opening.Opening.{Opening}
use Rattle.run_children.specs.PoolChildren.Slots.{AllInTurn, IsNextSlot, StandsInTurn, is_first_start, slot_of}
use Rattle.special_bin.specs.Laws.Alone.{OneJobOneSlot}

-- there is no slot after slot 0
no_next : (o : Opening) (past : List Entry) (before : ℕ) → IsNextSlot o 1 past before → ⊥
no_next o past before s = let there = s.there in omega (arith, there)

in_slot : (o : Opening) (past xs : List Entry) → AllInTurn o 1 past xs → (list_all (λ s. s == 0) (each_of slot_of xs) ≡ true) × (length (each_of slot_of xs) ≡ count is_first_start xs)
in_slot o past [] h = (refl, refl)
in_slot o past (e ∷ xs) h = step e.what h.0 (in_slot o (past ++ e ∷ []) xs h.1)
  where
    rest : List ℕ
    rest = each_of slot_of xs

    starts : List Entry
    starts = filter (λ (f : Entry). is_first_start f.what) xs

    step : (w : What) → StandsInTurn o 1 past w → (list_all (λ s. s == 0) rest ≡ true) × (length rest ≡ length starts)
        → (list_all (λ s. s == 0) (cons_option (slot_of w) rest) ≡ true) × (length (cons_option (slot_of w) rest) ≡ length (cond (is_first_start w) (e ∷ starts) starts))
    step (Start child zero offer) s r = (r.0, (let same = r.1 in omega (arith, same)))
    step (Start child (suc before) offer) s r = absurd (no_next o past before s)
    step (NoStart zero) s r = (r.0, (let same = r.1 in omega (arith, same)))
    step (NoStart (suc before)) s r = absurd (no_next o past before s)
    step w s r = r

pub one_slot : OneJobOneSlot
one_slot o may limit journal starts =
    let all = in_slot o [] journal starts.turn in
    let few = starts.few in
    let same = all.1 in
    (all.0, omega (arith, few, same))
