-- Kept lines as they are written are right lines of a kept file.
use Rattle.std.proofs.Common.{◌≡◌, ℕ, true, not, List, [], ◌∷◌, ◌++◌, Option, Some, None, refl, ap, ◌∙◌}
use Rattle.std.specs.Prelude.{is_some, bytes_eq}
use Rattle.std.specs.List.{list_all}
use Rattle.std.proofs.lemmas.Bool.{and_parts, and_from as both_true}
use Rattle.annex_model.specs.Lines.{text, has_newline}
use Rattle.task_text.specs.declared.chunk_log.line.ChunkLine.{ChunkLine}
use Rattle.kept_file.specs.Text.KeptLines.{KeptLine, Setting, Expression, State, Url, Chunks, kept_reading, chunk_in, is_kept_line, is_right, line_of}
use Rattle.kept_file.specs.Text.KeptFiles.{head, lines_in, bad_line, bad_among, are_lines}
use Rattle.kept_file.specs.Text.Orders.{is_log_of, is_written_as, is_written_line}
use Rattle.kept_file.proofs.TextLemmas.WrittenLines.{lines_back, none_bad, are_kept}
use Rattle.journal_reader.specs.RunTexts.{is_kept}

log_right : (log : List ℕ) (line : Option ChunkLine) → is_log_of log line ≡ true → is_some line ≡ true
log_right log None h = h
log_right log (Some line) h = refl

said_right : (line : List ℕ) (k : Option KeptLine) → is_written_as line k ≡ true → is_right k ≡ true
said_right line None h = h
said_right line (Some (Setting name value)) h = refl
said_right line (Some (Expression expression)) h = refl
said_right line (Some (State key value)) h = refl
said_right line (Some (Url key url)) h = refl
said_right line (Some (Chunks key log)) h = log_right log (chunk_in log) (and_parts (is_log_of log (chunk_in log)) (bytes_eq (line_of (Chunks key log)) line) h).0

all_right : (kept : List (List ℕ)) → list_all is_kept kept ≡ true → (are_lines kept ≡ true) × (are_kept kept ≡ true)
all_right [] h = (refl, refl)
all_right (line ∷ kept) h =
    let parts = and_parts (is_kept line) (list_all is_kept kept) h in
    let own = and_parts (is_written_line line) (not (has_newline line)) parts.0 in
    let rest = all_right kept parts.1 in (
      both_true (not (has_newline line)) (are_lines kept) own.1 rest.0,
      both_true (is_kept_line line) (are_kept kept) (said_right line (kept_reading line) own.0) rest.1,
    )

module _ (kept : List (List ℕ)) (h : list_all is_kept kept ≡ true) where
  pub file_cut : lines_in (text (head ∷ kept)) ≡ head ∷ kept
  file_cut = lines_back (head ∷ kept) (all_right kept h).0

  pub file_right : bad_line (text (head ∷ kept)) ≡ None
  file_right = ap bad_among file_cut ∙ none_bad 2 kept (all_right kept h).1

-- one more
pub one_more : (kept : List (List ℕ)) (line : List ℕ) → list_all is_kept kept ≡ true → is_kept line ≡ true → list_all is_kept (kept ++ line ∷ []) ≡ true
one_more [] line h k = both_true (is_kept line) true k refl
one_more (first ∷ kept) line h k =
    let parts = and_parts (is_kept first) (list_all is_kept kept) h in
    both_true (is_kept first) (list_all is_kept (kept ++ line ∷ [])) parts.0 (one_more kept line parts.1 k)
