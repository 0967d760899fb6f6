-- Which verdicts a transfer under a name can have.
use Rattle.std.proofs.Common.{◌≡◌, ℕ, List, [], ◌∷◌, refl, subst}
use Rattle.std.specs.Prelude.{Bool, true, false, ◌&&◌, if◌then◌else◌, bytes_eq, Option, Some, None, Result, Ok, Err, IfOk}
use Rattle.ann_key.specs.declared.bytes.NoMemory.{NoMemory}
use Rattle.annex_model.specs.Messages.{RemoteMessage, TransferSuccess, TransferFailure, Transferexport}
use Rattle.annex_model.specs.declared.final_line.Final.{Final}
use Rattle.annex_model.specs.declared.final_line.Final.TheVariants as F
use Rattle.annex_model.specs.Talks.{is_same, one_line, is_unsupported, said_alone, final_of}
use Rattle.journal_model.specs.declared.verdict.Verdict.{Verdict}
use Rattle.journal_model.specs.declared.verdict.Verdict.TheVariants as V
use Rattle.journal_model.specs.Projection.{IsNamed}
use Rattle.task_model.specs.Ran.{is_verdict_of}
use Rattle.ann_key.proofs.Booleans.{false_is_true as apart}

-- what an answer to such a request may be
abbrev is_change : Final → Bool
is_change F.Done = true
is_change F.Failed = true
is_change F.Unsupported = true
is_change F.Absent = false
is_change F.Unknown = false

same_final : (g f : Final) → is_change g ≡ true → Some g ≡ Some f → is_change f ≡ true
same_final g f k h = let e : g ≡ f = cc in subst (λ (x : Final). is_change x ≡ true) e k

no_final : (f : Final) → None ≡ Some f → is_change f ≡ true
no_final f h = cc

by_test : (g f : Final) (b : Bool) → is_change g ≡ true → (if b then Some g else None) ≡ Some f → is_change f ≡ true
by_test g f true k h = same_final g f k h
by_test g f false k h = no_final f h

module _ (store : Bool) (key file : List ℕ) where
  of_line : (m : RemoteMessage) (f : Final) → one_line (Transferexport store key file) m ≡ Some f → is_change f ≡ true
  of_line (TransferSuccess s k) f h = by_test F.Done f (is_same s store && bytes_eq k key) refl h
  of_line (TransferFailure s k text) f h = by_test F.Failed f (is_same s store && bytes_eq k key) refl h
  of_line _ f h = no_final f h

  of_lines : (ms : List (Option RemoteMessage)) (f : Final) → said_alone (Transferexport store key file) ms ≡ Some f → is_change f ≡ true
  of_lines (Some m ∷ []) f h = of_line m f h
  of_lines _ f h = no_final f h

  of_answer : (ms : List (Option RemoteMessage)) (f : Final) → final_of (Transferexport store key file) ms ≡ Some f → is_change f ≡ true
  of_answer ms f h = by_unsupported (is_unsupported ms) h
    where
      by_unsupported : (b : Bool) → (if b then Some F.Unsupported else said_alone (Transferexport store key file) ms) ≡ Some f → is_change f ≡ true
      by_unsupported true h = same_final F.Unsupported f refl h
      by_unsupported false h = of_lines ms f h

  of_verdict : (v : Verdict) → IsNamed (Transferexport store key file) v → is_verdict_of (Transferexport store key file) v ≡ true
  of_verdict (V.Done at) h = refl
  of_verdict (V.Failed at) h = refl
  of_verdict (V.Unsupported at) h = refl
  of_verdict (V.Ended why) h = refl
  of_verdict V.Unsent h = refl
  of_verdict (V.Absent at) h = apart (of_answer h.0 F.Absent h.1)
  of_verdict (V.Unknown at) h = apart (of_answer h.0 F.Unknown h.1)

-- it is done, or fails, or isn't known; or its child is gone
pub of_result : (store : Bool) (key file : List ℕ) (result : Result Verdict NoMemory) → IfOk result (IsNamed (Transferexport store key file))
    → IfOk result (λ v. is_verdict_of (Transferexport store key file) v ≡ true)
of_result store key file (Ok v) h = of_verdict store key file v h
of_result store key file (Err e) h = tt
