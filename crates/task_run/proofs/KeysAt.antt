-- The key of a number in a layout.
use Rattle.std.proofs.Common.{◌≡◌, ℕ, List, refl}
use Rattle.std.specs.Prelude.{Bool, true, false, ◌==◌, Some, Result, Ok, Err, IfOk}
use Rattle.std.proofs.lemmas.Bool.{eqb-true}
use Rattle.ann_key.specs.Keys.{Parts, IsKey, key_reading, with_chunk}
use Rattle.ann_key.specs.declared.bytes.NoMemory.{NoMemory}
use Rattle.ann_key.proofs.Spelling.{read_of_spelled}
use Rattle.annex_model.specs.Messages.{is_sent_key}
use Rattle.task_run.specs.Rounds.{key_at}
use Rattle.task_model.proofs.SentKeys.{chunk_sent}

not_zero : (n : ℕ) → (n ≡ 0 → ⊥) → (n == 0) ≡ false
not_zero n h = by_test (n == 0) refl
  where
    by_test : (t : Bool) → (n == 0) ≡ t → (n == 0) ≡ false
    by_test false e = e
    by_test true e = absurd (h (eqb-true n 0 e))

pub piece_read : (result : Result (List ℕ) NoMemory) (key : Parts) (chunk n : ℕ) → (chunk ≡ 0 → ⊥) → IfOk result (λ k. IsKey k (with_chunk chunk n key)) → IfOk result (λ k. key_reading k ≡ Some (key_at key chunk n))
piece_read (Err e) key chunk n l h = tt
piece_read (Ok k) key chunk n l h = let e : (chunk == 0) ≡ false = not_zero chunk l in rw e (read_of_spelled k (with_chunk chunk n key) h)

pub piece_sent : (result : Result (List ℕ) NoMemory) (text : List ℕ) (key : Parts) (chunk n : ℕ) → key_reading text ≡ Some key → is_sent_key text ≡ true → IfOk result (λ k. IsKey k (with_chunk chunk n key))
    → IfOk result (λ k. is_sent_key k ≡ true)
piece_sent (Err e) text key chunk n r s h = tt
piece_sent (Ok k) text key chunk n r s h = chunk_sent text key chunk n k r s h
