-- What the desk's counts say of a copy and of a store.
use Rattle.std.proofs.Common.{◌≡◌, ◌∙◌, ◌≤◌, ℕ, refl, ap, subst, arith, inl, inr}
use Rattle.std.specs.Prelude.{Bool, false, Result, Ok, Err}
use Rattle.ann_outside.specs.DeskCauses.{Counts, HasCauses, LeavesOther}
use Rattle.ann_outside.specs.declared.file_desk.DeskError.{DeskError}
use Rattle.ann_outside.specs.declared.file_desk.DeskError.TheVariants.{Failed, Missing, NoMemory}
use Rattle.dir_remote.specs.Answers.{IsCalm}
use Rattle.dir_remote.specs.Copies.{HasCopyCauses}
use Rattle.dir_remote.specs.Outcomes.{HasOutcomeCauses, refusal_of}
use Rattle.dir_remote.specs.declared.outcome.Outcome.{Outcome}
use Rattle.dir_remote.specs.declared.outcome.Outcome.TheVariants as O
use Rattle.ann_outside.proofs.Across.{rose_on}

same_error : (x y : DeskError) → ◌≡◌ {A = Result (Unit {0}) DeskError} (Err x) (Err y) → x ≡ y
same_error x y q = cc

-- ---- a copy

pub copy_idle : (clears : Bool) (counts : Counts) → HasCopyCauses clears counts counts (Err NoMemory)
copy_idle clears counts =
    record { faults_later = omega arith; missing_later = omega arith; failed = λ e. cc; missing = λ e. cc; done = tt; calm = λ c ne. refl }

pub copy_ended : (clears : Bool) (a b c : Counts) (n : ℕ) → b ≡ a → HasCauses {T = ℕ} b c (Ok n) → HasCopyCauses clears a c (Ok tt)
copy_ended clears a b c n same h =
    let all : c ≡ a = h.done ∙ same in
    let f : c.faults ≡ a.faults = ap (λ (k : Counts). k.faults) all in
    let m : c.missing ≡ a.missing = ap (λ (k : Counts). k.missing) all in
    record { faults_later = omega (arith, f); missing_later = omega (arith, m); failed = λ e. cc; missing = λ e. cc; done = all; calm = λ t ne. f }

-- the fault of a step, and then what clearing away counted
pub copy_broken : {T : Type 0} (clears : Bool) (a b c d : Counts) (e : DeskError) → b ≡ a → HasCauses {T = T} b c (Err e) → LeavesOther {T = T} b c (Err e)
    → c.faults ≤ d.faults → c.missing ≤ d.missing → (clears ≡ false → d ≡ c) → HasCopyCauses clears a d (Err e)
copy_broken {T} clears a b c d e same h o f_later m_later calm =
    let P : Counts → Type 0 = λ x. HasCauses {T = T} x c (Err e) in
    let Q : Counts → Type 0 = λ x. LeavesOther {T = T} x c (Err e) in
    let k = subst P same h in
    let l = subst Q same o in
    record {
      faults_later = omega (arith, k.faults_later, f_later);
      missing_later = omega (arith, k.missing_later, m_later);
      failed = λ q. rose_on a.faults c.faults d.faults (k.failed (ap Err (same_error e Failed q))) f_later;
      missing = λ q. rose_on a.missing c.missing d.missing (k.missing (ap Err (same_error e Missing q))) m_later;
      done = tt;
      calm = λ t ne. ap (λ (x : Counts). x.faults) (calm t) ∙ faults e k l ne;
    }
  where
    faults : (f : DeskError) → HasCauses {T = T} a c (Err f) → LeavesOther {T = T} a c (Err f) → (◌≡◌ {A = Result (Unit {0}) DeskError} (Err f) (Err Failed) → ⊥) → c.faults ≡ a.faults
    faults Failed k l ne = absurd (ne refl)
    faults Missing k l ne = l.missing refl
    faults NoMemory k l ne = ap (λ (x : Counts). x.faults) (k.no_memory refl)

-- ---- what a store or a retrieval says of it

pub refused_copy : (clears : Bool) (a b : Counts) (e : DeskError) → HasCopyCauses clears a b (Err e) → HasOutcomeCauses a b (refusal_of e)
refused_copy clears a b Failed h =
    record { faults_later = h.faults_later; missing_later = h.missing_later; failed = λ e. h.failed refl; missing = λ e. cc; not_there = λ e. cc }
refused_copy clears a b Missing h =
    record { faults_later = h.faults_later; missing_later = h.missing_later; failed = λ e. cc; missing = λ e. h.missing refl; not_there = λ e. cc }
refused_copy clears a b NoMemory h =
    record { faults_later = h.faults_later; missing_later = h.missing_later; failed = λ e. cc; missing = λ e. cc; not_there = λ e. cc }

pub calm_copy : (clears : Bool) (a b : Counts) (e : DeskError) → HasCopyCauses clears a b (Err e) → IsCalm clears a b (refusal_of e)
calm_copy clears a b Failed h which ne = absurd (ne refl)
calm_copy clears a b Missing h which ne = elim which [ inl c ↦ h.calm c (λ q. cc) | inr d ↦ absurd cc ]
calm_copy clears a b NoMemory h which ne = elim which [ inl c ↦ h.calm c (λ q. cc) | inr d ↦ absurd cc ]

pub calm_same : (clears : Bool) (a b : Counts) (outcome : Outcome) → b ≡ a → IsCalm clears a b outcome
calm_same clears a b outcome same which ne = ap (λ (x : Counts). x.faults) same

-- a copy after a call that left the counts as they were
pub behind : (clears : Bool) (a b c : Counts) (result : Result (Unit {0}) DeskError) → b ≡ a → HasCopyCauses clears b c result → HasCopyCauses clears a c result
behind clears a b c result same h = let P : Counts → Type 0 = λ x. HasCopyCauses clears x c result in subst P same h

-- a call that the desk refused
pub calm_refused : {T : Type 0} (clears : Bool) (a b : Counts) (e : DeskError) → HasCauses {T = T} a b (Err e) → LeavesOther {T = T} a b (Err e) → IsCalm clears a b (refusal_of e)
calm_refused clears a b Failed h l which ne = absurd (ne refl)
calm_refused clears a b Missing h l which ne = l.missing refl
calm_refused clears a b NoMemory h l which ne = ap (λ (x : Counts). x.faults) (h.no_memory refl)

-- a call after a copy, and then what clearing away counted
pub calm_cleared : (clears : Bool) (a b c d : Counts) (e : DeskError) → b ≡ a → HasCauses {T = Unit {0}} b c (Err e) → LeavesOther {T = Unit {0}} b c (Err e)
    → (clears ≡ false → d ≡ c) → IsCalm clears a d (refusal_of e)
calm_cleared clears a b c d e same h o calm which ne =
    let P : Counts → Type 0 = λ x. IsCalm clears x c (refusal_of e) in
    let k : IsCalm clears a c (refusal_of e) = subst P same (calm_refused {T = Unit {0}} clears b c e h o) in
    elim which [
      | inl t ↦ ap (λ (x : Counts). x.faults) (calm t) ∙ k (inl t) ne
      | inr t ↦ absurd (not_done e t)
    ]
  where
    not_done : (f : DeskError) → refusal_of f ≡ O.Done → ⊥
    not_done Failed q = cc
    not_done Missing q = cc
    not_done NoMemory q = cc
