-- What reading piece by piece keeps, and what it comes to.
use Rattle.std.proofs.Common.{◌≡◌, ℕ, ◌+◌, ◌-◌, ◌<◌, Bool, true, false, cond, List, [], ◌∷◌, ◌++◌, Option, Some, None, Result, Ok, Err, length, refl, sym, ap, subst, ◌∙◌, arith, append-nil, length-append}
use Rattle.std.specs.Prelude.{IfSome}
use Rattle.std.specs.Io.KnownBytes.{Consumes, IsAtEnd}
use Rattle.journal_look.specs.declared.journal.Journal.{Journal}
use Rattle.journal_model.specs.declared.opening.Opening.{Opening}
use Rattle.journal_audit.specs.Audits.{IsAudit}
use Rattle.journal_audit.specs.declared.found.Audit.{Audit}
use Rattle.audit_command.specs.Inputs.{passes, AuditComesTo}
use Rattle.audit_command.specs.Intakes.{IsWithin, IsPast, Took}
use Rattle.audit_command.specs.Reads.{IsCounted, IsRead}
use Rattle.audit_command.specs.Steps.{Comes, Holds, IsStep}
use Rattle.audit_command.specs.declared.intake.Intake.{Intake}
use Rattle.audit_command.specs.declared.limits.Limits.{Limits}
use Rattle.audit_command.specs.declared.error.AuditError.{AuditError}
use Rattle.audit_command.specs.declared.error.AuditError.TheVariants.{Entry, Cut, Failed, NoMemory}
use Rattle.audit_command.proofs.Taking.{within, past}

no_bytes : (xs : List ℕ) → length xs ≡ 0 → xs ≡ []
no_bytes [] h = refl
no_bytes (x ∷ xs) h = absurd (omega arith)

-- the end of the source changes nothing
pub took_end_of : (limits : Limits) (bytes piece : List ℕ) (old new : Intake) → Took limits bytes old → new ≡ old → length piece ≡ 0 → Took limits (bytes ++ piece) new
took_end_of limits bytes piece old new t same none =
    let P : List ℕ → Type 0 = λ bs. Took limits bs new in
    let Q : Intake → Type 0 = λ k. Took limits bytes k in
    subst P (sym (ap (λ (p : List ℕ). bytes ++ p) (no_bytes piece none) ∙ append-nil bytes)) (subst Q (sym same) t)

-- what is left to read within the limit of bytes
abbrev pub still : Limits → Intake → ℕ
still limits k = cond {A = ℕ} k.past 0 (limits.bytes + 1 - k.bytes)

pub less_still : (limits : Limits) (bytes piece : List ℕ) (old new : Intake) → Took limits bytes old → old.past ≡ false → Took limits (bytes ++ piece) new → 0 < length piece
    → still limits new < still limits old
less_still limits bytes piece old new t e u some =
    let w = within limits bytes old e t in
    let before : still limits old ≡ limits.bytes + 1 - old.bytes = ap (λ (b : Bool). cond {A = ℕ} b 0 (limits.bytes + 1 - old.bytes)) e in
    go (new.past) refl w before
  where
    go : (b : Bool) → new.past ≡ b → IsWithin limits bytes old → still limits old ≡ limits.bytes + 1 - old.bytes → still limits new < still limits old
    go true f w before =
        let now : still limits new ≡ 0 = ap (λ (b : Bool). cond {A = ℕ} b 0 (limits.bytes + 1 - new.bytes)) f in
        let size = w.size in
        let small = w.small in
        omega arith
    go false f w before =
        let now : still limits new ≡ limits.bytes + 1 - new.bytes = ap (λ (b : Bool). cond {A = ℕ} b 0 (limits.bytes + 1 - new.bytes)) f in
        let v = within limits (bytes ++ piece) new f u in
        let long = length-append bytes piece in
        let size = w.size in
        let small = w.small in
        let size_now = v.size in
        let small_now = v.small in
        omega arith

pub step_fails : (limits : Limits) (old new : Intake) (piece bytes : List ℕ) (left : Option (List ℕ)) (fault : AuditError) → IsStep limits old new piece left (Err fault) → Holds limits bytes left (Err fault)
step_fails limits old new piece bytes left (Entry line) h = absurd h
step_fails limits old new piece bytes left (Cut line) h = absurd h
step_fails limits old new piece bytes left Failed h = tt
step_fails limits old new piece bytes left NoMemory h = tt

-- ---- the count of faults

-- what is refused of a text isn't a read that failed
pub counted_end : (B : Type 0) (before now : ℕ) (limits : Limits) (bytes : List ℕ) (fault : AuditError) → Comes limits bytes (Err fault) → now ≡ before → IsCounted {T = B} before now (Err fault)
counted_end B before now limits bytes (Entry line) h e = e
counted_end B before now limits bytes (Cut line) h e = e
counted_end B before now limits bytes Failed h e = absurd h
counted_end B before now limits bytes NoMemory h e = e

-- ---- the result

passed : (limits : Limits) (bytes : List ℕ) (k : Intake) → IsPast limits bytes k → passes limits bytes ≡ true
passed limits bytes k p = ap (passes limits) (sym (append-nil bytes)) ∙ p.passed []

at_end : (limits : Limits) (bytes : List ℕ) (left : Option (List ℕ)) (k : Intake) → Took limits bytes k → (k.past ≡ false → IsAtEnd left) → passes limits bytes ≡ false → IsAtEnd left
at_end limits bytes left k t h kept = go k.past refl
  where
    go : (b : Bool) → k.past ≡ b → IsAtEnd left
    go false e = h e
    go true e = absurd (let bad : true ≡ false = sym (passed limits bytes k (past limits bytes k e t)) ∙ kept in cc)

-- what it comes to whatever follows where a limit was passed
abbrev pub ComesAll : Limits → List ℕ → Intake → Result (Opening × Journal) AuditError → Type 0
ComesAll limits bytes k r = (more : List ℕ) → (k.past ≡ false → more ≡ []) → Comes limits (bytes ++ more) r

exactly : (limits : Limits) (bytes : List ℕ) (k : Intake) (r : Result (Opening × Journal) AuditError) → ComesAll limits bytes k r → Comes limits bytes r
exactly limits bytes k r h = let P : List ℕ → Type 0 = λ bs. Comes limits bs r in subst P (append-nil bytes) (h [] (λ e. refl))

all_of : (P : List ℕ → Type 0) (bytes : List ℕ) (left left' : Option (List ℕ)) (k : Intake) → Consumes left left' bytes → (k.past ≡ false → IsAtEnd left') → ((more : List ℕ) → (k.past ≡ false → more ≡ []) → P (bytes ++ more)) → IfSome left P
all_of P bytes None left' k c e h = tt
all_of P bytes (Some all) None k c e h = absurd c
all_of P bytes (Some all) (Some rest) k c e h = subst P (sym c) (h rest e)

faulted : (limits : Limits) (bytes : List ℕ) (fault : AuditError) → Comes limits bytes (Err fault) → AuditComesTo limits bytes (Err fault)
faulted limits bytes (Entry line) h = h
faulted limits bytes (Cut line) h = h
faulted limits bytes Failed h = absurd h
faulted limits bytes NoMemory h = tt

found : (limits : Limits) (bytes : List ℕ) (opening : Opening) (journal : Journal) (audit : Audit) → Comes limits bytes (Ok (opening, journal)) → IsAudit opening journal.entries audit → AuditComesTo limits bytes (Ok audit)
found limits bytes opening journal audit h a = record { opening = opening; journal = journal.entries; within = h.0; text = h.1; audit = a }

module _ (limits : Limits) (bytes : List ℕ) (left left' : Option (List ℕ)) (k : Intake) (t : Took limits bytes k) (e : k.past ≡ false → IsAtEnd left') where
  pub fault_read : (fault : AuditError) → ComesAll limits bytes k (Err fault) → IsRead limits bytes left' (Err fault)
  fault_read (Entry line) h = (faulted limits bytes (Entry line) (exactly limits bytes k (Err (Entry line)) h), at_end limits bytes left' k t e)
  fault_read (Cut line) h = (faulted limits bytes (Cut line) (exactly limits bytes k (Err (Cut line)) h), at_end limits bytes left' k t e)
  fault_read Failed h = tt
  fault_read NoMemory h = tt

  pub fault_told : (fault : AuditError) → Consumes left left' bytes → ComesAll limits bytes k (Err fault) → IfSome left (λ all. AuditComesTo limits all (Err fault))
  fault_told fault c h = all_of (λ all. AuditComesTo limits all (Err fault)) bytes left left' k c e (λ more m. faulted limits (bytes ++ more) fault (h more m))

  module _ (opening : Opening) (journal : Journal) (audit : Audit) (h : ComesAll limits bytes k (Ok (opening, journal))) (a : IsAudit opening journal.entries audit) where
    pub found_read : IsRead limits bytes left' (Ok audit)
    found_read = (found limits bytes opening journal audit (exactly limits bytes k (Ok (opening, journal)) h) a, at_end limits bytes left' k t e)

    pub found_told : Consumes left left' bytes → IfSome left (λ all. AuditComesTo limits all (Ok audit))
    found_told c = all_of (λ all. AuditComesTo limits all (Ok audit)) bytes left left' k c e (λ more m. found limits (bytes ++ more) opening journal audit (h more m) a)
