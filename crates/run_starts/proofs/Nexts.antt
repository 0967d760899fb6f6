-- Starts and claims that stand in their turn, along entries.
use Rattle.std.proofs.Common.{◌≡◌, ◌⊎◌, ℕ, ◌<◌, List, [], ◌∷◌, ◌++◌, refl, sym, ap, subst, append_assoc, append-nil, Bool, true, false, ◌==◌, arith, inl, inr}
use Rattle.std.specs.List.{list_all}
use Rattle.journal_model.specs.declared.entry.What.{What}
use Rattle.journal_model.specs.declared.entry.What.TheVariants.{Claim, Start, NoStart}
use Rattle.journal_model.specs.declared.entry.Entry.{Entry}
use Rattle.journal_model.specs.declared.opening.Opening.{Opening}
use Rattle.journal_model.specs.Journal.{any}
use Rattle.run_starts.specs.Starting.{is_any_start}
use Rattle.run_starts.specs.Rounds.{AllStandNext, MayStart, NoneUntaken, StandsNext}
use Rattle.run_starts.specs.Stints.{IsStart}
use Rattle.std.proofs.lemmas.Bool.{and_parts as both, eqb-true as same_number}
use Rattle.ann_key.proofs.Booleans.{left_false as either_left, right_false as either_right}

pub next_both : (o : Opening) (past xs ys : List Entry) → AllStandNext o past xs → AllStandNext o (past ++ xs) ys → AllStandNext o past (xs ++ ys)
next_both o past [] ys h k = subst (λ (p : List Entry). AllStandNext o p ys) (append-nil past) k
next_both o past (e ∷ xs) ys h k = (h.0, next_both o (past ++ e ∷ []) xs ys h.1 (subst (λ (p : List Entry). AllStandNext o p ys) (sym (append_assoc past (e ∷ []) xs)) k))

-- a start of slot 0
pub next_first : (o : Opening) (past : List Entry) (offer : Bool) (first : What) → IsStart past offer first → MayStart o past → StandsNext o past first
next_first o past offer first (inl e) m = subst (StandsNext o past) (sym e) (λ zeroth. m)
next_first o past offer first (inr e) m = subst (StandsNext o past) (sym e) (λ zeroth. m)

-- ---- where nothing is started

-- no start, and no claim for a child
abbrev pub is_quiet : What → Bool
is_quiet (Start child slot offer) = false
is_quiet (NoStart slot) = false
is_quiet (Claim task child) = child == 0
is_quiet w = true

pub quiet_starts : (w : What) → is_quiet w ≡ true → is_any_start w ≡ false
quiet_starts (Start child slot offer) h = absurd cc
quiet_starts (NoStart slot) h = absurd cc
quiet_starts w h = refl

pub next_quiet : (o : Opening) (past xs : List Entry) → list_all (λ (e : Entry). is_quiet e.what) xs ≡ true → AllStandNext o past xs
next_quiet o past [] h = tt
next_quiet o past (e ∷ xs) h =
    let t = both (is_quiet e.what) (list_all (λ (x : Entry). is_quiet x.what) xs) h in
    (one e.what t.0, next_quiet o (past ++ e ∷ []) xs t.1)
  where
    one : (w : What) → is_quiet w ≡ true → StandsNext o past w
    one (Start child slot offer) k = absurd cc
    one (NoStart slot) k = absurd cc
    one (Claim task child) k = λ some. absurd (let e = same_number child 0 k in omega (arith, e, some))
    one w k = tt

-- where at each place a task may be claimed
pub next_where : (o : Opening) (past xs : List Entry) → any is_any_start xs ≡ false → ((front rest : List Entry) → xs ≡ front ++ rest → NoneUntaken (past ++ front)) → AllStandNext o past xs
next_where o past [] none f = tt
next_where o past (e ∷ xs) none f = (
  one e.what (either_left (is_any_start e.what) (any is_any_start xs) none) (subst NoneUntaken (append-nil past) (f [] (e ∷ xs) refl)),
  next_where o (past ++ e ∷ []) xs (either_right (is_any_start e.what) (any is_any_start xs) none)
      (λ front rest is. subst NoneUntaken (sym (append_assoc past (e ∷ []) front)) (f (e ∷ front) rest (ap (λ (l : List Entry). e ∷ l) is))),
)
  where
    one : (w : What) → is_any_start w ≡ false → NoneUntaken past → StandsNext o past w
    one (Start child slot offer) a m = absurd cc
    one (NoStart slot) a m = absurd cc
    one (Claim task child) a m = λ some. m
    one w a m = tt
