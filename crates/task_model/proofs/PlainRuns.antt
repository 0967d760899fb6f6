-- What runs of any work need of the task's key.
use Rattle.std.proofs.Common.{◌≡◌, ℕ, List, refl}
use Rattle.std.specs.Prelude.{Bool, true, false, Option, Some, None, IfSome}
use Rattle.ann_key.specs.Keys.{Parts, key_reading}
use Rattle.journal_model.specs.declared.verdict.Verdict.{Verdict}
use Rattle.annex_model.specs.Messages.{HostMessage, Checkpresent}
use Rattle.task_model.specs.Askers.{KeepsRequest}
use Rattle.task_model.specs.Requests.{AsksFor}
use Rattle.std.specs.Prelude.{IsTrue, ◌==◌, ◌&&◌, not}
use Rattle.std.specs.List.{list_any}
use Rattle.ann_key.specs.Keys.{is_key, is_sendable}
use Rattle.annex_model.specs.Messages.{is_sent_key}
use Rattle.task_text.specs.TaskLines.{is_task_key, has_chunk}
use Rattle.task_model.specs.Checks.{present_request}
use Rattle.ann_key.proofs.Booleans.{false_is_true as no_way}
use Rattle.ann_key.proofs.Across.{no_space}

-- what holds of every reading of a key holds where there is one
pub of_reading : (text : List ℕ) (P : Parts → Type 0) → ((key : Parts) → key_reading text ≡ Some key → P key) → IfSome (key_reading text) P
of_reading text P h = by_case (key_reading text) refl
  where
    by_case : (o : Option Parts) → key_reading text ≡ o → IfSome o P
    by_case None e = tt
    by_case (Some key) e = h key e

pub asks_for_check : (text : List ℕ) (key : Parts) (request : Option HostMessage) (v : Verdict) (n : ℕ) → key_reading text ≡ Some key
    → KeepsRequest (Checkpresent text) request v → AsksFor present_request n key (record { request = request; name = None; verdict = v })
asks_for_check text key None v n e k = k
asks_for_check text key (Some q) v n e k = rw k (refl, e)

-- ---- keys that can be sent

pub task_key_sent : (key : List ℕ) → IsTrue (is_task_key key) → is_sent_key key ≡ true
task_key_sent key h = both (is_key key) (is_sendable key) (not (has_chunk key)) (list_any (λ b. b == 32) key) h (no_space key)
  where
    both : (a b c s : Bool) → (a && (b && c)) ≡ true → (b ≡ true → s ≡ false) → (a && not s) ≡ true
    both true true c s h k = rw (k refl) refl
    both true false c s h k = no_way h
    both false b c s h k = no_way h
