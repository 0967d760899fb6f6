-- The keys that are not refused.
use Rattle.std.proofs.Common.{◌≡◌, ℕ, List, Bool, true, false, not, cond, Some, None, Option, refl}
use Rattle.std.specs.Prelude.{is_some}
use Rattle.annex_model.specs.Messages.{is_sent_key}
use Rattle.ann_key.specs.Keys.{Parts, key_reading, is_sendable}
use Rattle.ann_key.proofs.Spelling.{read_of_spelled, spelled_of_read}
use Rattle.cli_words.specs.declared.refusals.Reason.TheVariants.{Unsendable, ChunkKey}
use Rattle.cli_words.specs.Refusals.{IsTaskKey, reason_refused, refusal_in}
use Rattle.ann_key.proofs.Across.{no_space as spaceless}

pub not_refused : (bytes : List ℕ) → IsTaskKey bytes → reason_refused bytes ≡ None
not_refused bytes k = rw (read_of_spelled bytes k.parts k.key) (rw k.sendable (rw k.whole refl))

pub task_key : (bytes : List ℕ) → reason_refused bytes ≡ None → IsTaskKey bytes
task_key bytes h = go (key_reading bytes) refl h
  where
    go : (r : Option Parts) → key_reading bytes ≡ r → refusal_in bytes r ≡ None → IsTaskKey bytes
    go None e h = absurd cc
    go (Some parts) e h = by_bytes (is_sendable bytes) refl parts.chunk refl h
      where
        by_bytes : (b : Bool) → is_sendable bytes ≡ b → (chunk : Option (ℕ × ℕ)) → parts.chunk ≡ chunk
            → cond (not b) (Some Unsendable) (cond (is_some chunk) (Some ChunkKey) None) ≡ None → IsTaskKey bytes
        by_bytes false s chunk w h = absurd cc
        by_bytes true s (Some chunk) w h = absurd cc
        by_bytes true s None w h = record { parts = parts; key = spelled_of_read bytes parts e; sendable = s; whole = w }

-- ---- a key that can stand in a request

-- a sendable key holds no space
pub sent_key : (bytes : List ℕ) → reason_refused bytes ≡ None → is_sent_key bytes ≡ true
sent_key bytes h =
    let k = task_key bytes h in
    let read : key_reading bytes ≡ Some k.parts = read_of_spelled bytes k.parts k.key in
    rw (read, spaceless bytes k.sendable) refl
