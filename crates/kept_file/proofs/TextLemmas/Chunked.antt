-- A chunk log line that was read is what the text says.
use Rattle.std.proofs.Common.{◌≡◌, ℕ, ◌==◌, true, List, Some, sym, ap, ◌∙◌}
use Rattle.std.specs.List.{list_any}
use Rattle.registers.specs.Registers.{is_word}
use Rattle.task_text.specs.ChunkLog.ChunkLines.{IsChunkLine, is_space, word_part, count_part, uuid_in, counts_in}
use Rattle.task_text.specs.declared.chunk_log.line.ChunkLine.{ChunkLine}
use Rattle.kept_file.specs.Text.KeptLines.{chunk_in, chunk_from}
use Rattle.ann_key.proofs.Lists.{second_fails}
use Rattle.ann_key.proofs.Booleans.{not_and_so}

pub chunk_read : (text : List ℕ) (line : ChunkLine) → IsChunkLine text line → chunk_in text ≡ Some line
chunk_read text line s =
    ap (λ o. chunk_from o (uuid_in (word_part text)) (counts_in (word_part text) (count_part text))) s.stamp
    ∙ ap (λ o. chunk_from (Some line.stamp) o (counts_in (word_part text) (count_part text))) s.uuid
    ∙ ap (λ o. chunk_from (Some line.stamp) (Some s.bytes) o) s.counts
    ∙ ap (λ u. Some (record { stamp = line.stamp; uuid = u; chunk = line.chunk; count = line.count })) (sym s.written)

pub no_space : (bytes : List ℕ) → is_word bytes ≡ true → list_any is_space bytes ≡ true → ⊥
no_space bytes h k = not_and_so (list_any is_space bytes) k (second_fails (λ b. b == 10) is_space bytes h)
