-- Each claim leaves fewer.
use Rattle.std.proofs.Common.{◌≡◌, ℕ, ◌+◌, ◌-◌, ◌*◌, ◌≤◌, ◌<◌, List, [], ◌∷◌, ◌++◌, refl, ap, Bool, true, false, cond, length, suc, arith}
use Rattle.std.specs.Prelude.{filter}
use Rattle.std.specs.List.{cons_option}
use Rattle.journal_model.specs.declared.entry.What.{What}
use Rattle.journal_model.specs.declared.entry.What.TheVariants.{Claim}
use Rattle.journal_model.specs.declared.entry.Entry.{Entry}
use Rattle.journal_model.specs.declared.opening.Opening.{Opening}
use Rattle.journal_model.specs.Journal.{any, each_of}
use Rattle.journal_model.specs.Legality.{Legal, count}
use Rattle.journal_model.specs.Room.{claims_left, is_claim}
use Rattle.journal_model.proofs.Holding.{claimed}
use Rattle.journal_model.proofs.Rooms.{claims_few}
use Rattle.journal_model.proofs.Working.{count-append}

claims_are : (journal : List Entry) → count is_claim journal ≡ length (each_of claimed journal)
claims_are [] = refl
claims_are (e ∷ journal) = step e.what (claims_are journal)
  where
    step : (w : What) → count is_claim journal ≡ length (each_of claimed journal)
        → length (cond (is_claim w) (e ∷ filter (λ (x : Entry). is_claim x.what) journal) (filter (λ (x : Entry). is_claim x.what) journal)) ≡ length (cons_option (claimed w) (each_of claimed journal))
    step (Claim task child) h = ap suc h
    step w h = h

pub claims_left_less : (o : Opening) (past more : List Entry) → Legal o (past ++ more) → 0 < count is_claim more → claims_left o (past ++ more) < claims_left o past
claims_left_less o past more legal some =
    let few : count is_claim (past ++ more) ≤ (1 + o.again) * length o.tasks = omega (arith, claims_are (past ++ more), claims_few o (past ++ more) legal) in
    omega (arith, some, few, count-append is_claim past more)

-- and others' entries leave no more
pub claims_left_same : (o : Opening) (past more : List Entry) → claims_left o (past ++ more) ≤ claims_left o past
claims_left_same o past more = omega (arith, count-append is_claim past more)
