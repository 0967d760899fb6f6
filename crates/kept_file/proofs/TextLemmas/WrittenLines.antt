-- Lines that are written are read as what they were written of.
use Rattle.std.proofs.Common.{◌≡◌, ℕ, suc, ◌+◌, ◌==◌, Bool, true, false, cond, not, ◌&&◌, List, [], ◌∷◌, ◌++◌, map, length, nat_lt, Some, None, refl, ap, ◌∙◌, arith, append_assoc}
use Rattle.std.specs.Prelude.{All, is_some, option_map}
use Rattle.std.specs.List.{cons_option, list_all, list_any}
use Rattle.std.proofs.lemmas.List.Folds.{list_any-append}
use Rattle.ann_key.specs.Keys.{is_key}
use Rattle.annex_model.specs.Lines.{text, has_newline}
use Rattle.annex_model.specs.Messages as annex
use Rattle.annex_model.specs.Messages.{AreOfClass, fields_text}
use Rattle.annex_model.proofs.Classes.{text_follows}
use Rattle.registers.specs.Registers.{is_word, is_line, is_key_word}
use Rattle.registers.specs.RegLines.{Line, ConfigLine, WantedLine, StateLine, UrlLine, is_fit}
use Rattle.task_text.specs.ChunkLog.ChunkLines.{line_text}
use Rattle.task_text.specs.declared.chunk_log.note.Note.{Note}
use Rattle.task_text.proofs.ChunkLogLemmas.ReadBack.{reads_back}
use Rattle.kept_file.specs.Text.KeptLines.{KeptLine, Setting, Expression, State, Url, Chunks, kept_row, kept_reading, chunk_in, is_kept_line, is_right, setting_of, note_of, line_of}
use Rattle.kept_file.specs.Text.KeptFiles.{lines_in, are_lines, is_unended, with_byte, first_bad, settings_in, notes_in, kept_of, written_line, written_note, cut_note, IsKeepable}
use Rattle.kept_file.proofs.TextLemmas.Chunked.{chunk_read}
use Rattle.kept_file.proofs.TextLemmas.LogText.{log_fits}
use Rattle.kept_file.proofs.TextLemmas.Spelled.{read_of_spelled}
use Rattle.ann_key.proofs.Booleans.{left_false_not_right as apart, not_either as neither}
use Rattle.std.proofs.lemmas.Bool.{and_parts as both, and_from as both_true}
use Rattle.ann_key.proofs.Lists.{none_passes, first_fails, second_fails}

-- ---- the lines of a text of lines
line_back : (x t : List ℕ) → not (has_newline x) ≡ true → lines_in (x ++ 10 ∷ t) ≡ x ∷ lines_in t
line_back [] t h = refl
line_back (b ∷ bs) t h =
    let parts = apart (b == 10) (has_newline bs) h in
    ap (λ (s : Bool). cond s ([] ∷ lines_in (bs ++ 10 ∷ t)) (with_byte b (lines_in (bs ++ 10 ∷ t)))) parts.0 ∙ ap (with_byte b) (line_back bs t parts.1)

pub lines_back : (ls : List (List ℕ)) → are_lines ls ≡ true → lines_in (text ls) ≡ ls
lines_back [] h = refl
lines_back (l ∷ ls) h =
    let parts = both (not (has_newline l)) (are_lines ls) h in
    line_back l (text ls) parts.0 ∙ ap (λ (rest : List (List ℕ)). l ∷ rest) (lines_back ls parts.1)

-- ---- classes of fields

key_parts : (key : List ℕ) → is_key_word key ≡ true → (annex.is_sent_key key ≡ true) × (not (has_newline key) ≡ true)
unfolding is_key_word
key_parts key h =
    let parts = both (is_word key) (is_key key) h in
    (both_true (is_key key) (not (list_any (λ b. b == 32) key)) parts.1 (second_fails (λ b. b == 10) annex.is_space key parts.0), first_fails (λ b. b == 10) annex.is_space key parts.0)

two : (a b : List ℕ) → not (has_newline a) ≡ true → not (has_newline b) ≡ true → not (has_newline (a ++ 32 ∷ b)) ≡ true
two a b h k = ap not (list_any-append (λ b. b == 10) a (32 ∷ b)) ∙ neither (has_newline a) (has_newline b) h k

-- a line that is written holds no byte 10 and is read
record Back (k : KeptLine) : Type 0 where
  read : kept_reading (line_of k) ≡ Some k
  line : not (has_newline (line_of k)) ≡ true

spelled : (k : KeptLine) → AreOfClass (kept_row k).1 → kept_reading (line_of k) ≡ Some k
spelled k class = read_of_spelled k (line_of k) (fields_text (kept_row k).1, refl, text_follows (kept_row k).1 class)

register_back : (line : Line) → is_fit line ≡ true → Back (kept_of line)
register_back (ConfigLine name value) h =
    let parts = both (is_word name) (is_line value) h in
    record { read = spelled (Setting name value) (second_fails (λ b. b == 10) annex.is_space name parts.0, tt); line = two name value (first_fails (λ b. b == 10) annex.is_space name parts.0) (none_passes (λ b. b == 10) value parts.1) }
register_back (WantedLine value) h = record { read = spelled (Expression value) tt; line = none_passes (λ b. b == 10) value h }
register_back (StateLine key value) h =
    let parts = both (is_key_word key) (nat_lt 0 (length value) && is_line value) h in
    let k = key_parts key parts.0 in
    record { read = spelled (State key value) (k.0, tt); line = two key value k.1 (none_passes (λ b. b == 10) value (both (nat_lt 0 (length value)) (is_line value) parts.1).1) }
register_back (UrlLine key url) h =
    let parts = both (is_key_word key) (is_line url) h in
    let k = key_parts key parts.0 in
    record { read = spelled (Url key url) (k.0, tt); line = two key url k.1 (none_passes (λ b. b == 10) url parts.1) }

note_back : (note : Note) → IsKeepable note → Back (Chunks note.key (line_text note.line))
note_back note n =
    let k = key_parts note.key n.key in
    record { read = spelled (Chunks note.key (line_text note.line)) (k.0, tt); line = two note.key (line_text note.line) k.1 (none_passes (λ b. b == 10) (line_text note.line) (log_fits note.line n.line n.seconds n.chunk n.count)) }

-- ---- lists of them
abbrev pub are_kept : List (List ℕ) → Bool
are_kept ls = list_all is_kept_line ls

right_line : (line : Line) → is_right (Some (kept_of line)) ≡ true
right_line (ConfigLine name value) = refl
right_line (WantedLine value) = refl
right_line (StateLine key value) = refl
right_line (UrlLine key url) = refl

setting_back : (line : Line) → setting_of (Some (kept_of line)) ≡ Some line
setting_back (ConfigLine name value) = refl
setting_back (WantedLine value) = refl
setting_back (StateLine key value) = refl
setting_back (UrlLine key url) = refl

no_note : (line : Line) → note_of (Some (kept_of line)) ≡ None
no_note (ConfigLine name value) = refl
no_note (WantedLine value) = refl
no_note (StateLine key value) = refl
no_note (UrlLine key url) = refl

-- what is said of the lines that are written of some registers and notes
pub record Written (ls : List (List ℕ)) (lines : List Line) (notes : List Note) : Type 0 where
  pub apart : are_lines ls ≡ true
  pub right : are_kept ls ≡ true
  pub set : settings_in ls ≡ lines
  pub noted : notes_in ls ≡ notes

pub note_chunk : (note : Note) → IsKeepable note → chunk_in (line_text note.line) ≡ Some (cut_note note).line
note_chunk note n = chunk_read (line_text note.line) (cut_note note).line (reads_back note.line n.line n.seconds n.chunk n.count)

pub notes_written : (notes : List Note) → All IsKeepable notes → Written (map written_note notes) [] (map cut_note notes)
notes_written [] h = record { apart = refl; right = refl; set = refl; noted = refl }
notes_written (note ∷ notes) h =
    let own : IsKeepable note = h 0 note (omega arith) in
    let rest = notes_written notes (λ k d below. h (suc k) d (omega arith)) in
    let back = note_back note own in
    let chunk = note_chunk note own in
    record {
      apart = both_true (not (has_newline (written_note note))) (are_lines (map written_note notes)) back.line rest.apart;
      right = both_true (is_kept_line (written_note note)) (are_kept (map written_note notes)) (ap is_right back.read ∙ ap is_some chunk) rest.right;
      set = ap (λ k. cons_option (setting_of k) (settings_in (map written_note notes))) back.read ∙ rest.set;
      noted =
          ap (λ k. cons_option (note_of k) (notes_in (map written_note notes))) back.read
          ∙ ap (λ o. cons_option (option_map (λ line. record { key = note.key; line = line }) o) (notes_in (map written_note notes))) chunk
          ∙ ap (λ (ns : List Note). cut_note note ∷ ns) rest.noted;
    }

pub lines_written : (lines : List Line) (ls : List (List ℕ)) (more : List Line) (notes : List Note) → list_all is_fit lines ≡ true → Written ls more notes
    → Written (map written_line lines ++ ls) (lines ++ more) notes
lines_written [] ls more notes h w = w
lines_written (line ∷ lines) ls more notes h w =
    let parts = both (is_fit line) (list_all is_fit lines) h in
    let rest = lines_written lines ls more notes parts.1 w in
    let back = register_back line parts.0 in
    let tail : List (List ℕ) = map written_line lines ++ ls in
    record {
      apart = both_true (not (has_newline (written_line line))) (are_lines (map written_line lines ++ ls)) back.line rest.apart;
      right = both_true (is_kept_line (written_line line)) (are_kept (map written_line lines ++ ls)) (ap is_right back.read ∙ right_line line) rest.right;
      set =
          ap (λ k. cons_option (setting_of k) (settings_in (map written_line lines ++ ls))) back.read
          ∙ ap (λ o. cons_option o (settings_in (map written_line lines ++ ls))) (setting_back line)
          ∙ ap (λ (xs : List Line). line ∷ xs) rest.set;
      noted =
          ap (λ k. cons_option (note_of k) (notes_in (map written_line lines ++ ls))) back.read
          ∙ ap (λ o. cons_option o (notes_in (map written_line lines ++ ls))) (no_note line)
          ∙ rest.noted;
    }

pub none_bad : (n : ℕ) (ls : List (List ℕ)) → are_kept ls ≡ true → first_bad n ls ≡ None
none_bad n [] h = refl
none_bad n (l ∷ ls) h =
    let parts = both (is_kept_line l) (are_kept ls) h in
    ap (λ (b : Bool). cond b (first_bad (n + 1) ls) (Some n)) parts.0 ∙ none_bad (n + 1) ls parts.1

-- ---- a text whose last line lacks its end
alone : (b : ℕ) (bs : List ℕ) → not (has_newline (b ∷ bs)) ≡ true → lines_in (b ∷ bs) ≡ (b ∷ bs) ∷ []
alone b [] h = ap (λ (s : Bool). cond s ([] ∷ []) ((b ∷ []) ∷ [])) (apart (b == 10) false h).0
alone b (c ∷ cs) h =
    let parts = apart (b == 10) (has_newline (c ∷ cs)) h in
    ap (λ (s : Bool). cond s ([] ∷ lines_in (c ∷ cs)) (with_byte b (lines_in (c ∷ cs)))) parts.0 ∙ ap (with_byte b) (alone c cs parts.1)

pub unended : (ls : List (List ℕ)) (b : ℕ) (bs : List ℕ) → are_lines ls ≡ true → not (has_newline (b ∷ bs)) ≡ true → lines_in (text ls ++ b ∷ bs) ≡ ls ++ (b ∷ bs) ∷ []
unended [] b bs h k = alone b bs k
unended (l ∷ ls) b bs h k =
    let parts = both (not (has_newline l)) (are_lines ls) h in
    ap lines_in (append_assoc l (10 ∷ text ls) (b ∷ bs)) ∙ line_back l (text ls ++ b ∷ bs) parts.0 ∙ ap (λ (rest : List (List ℕ)). l ∷ rest) (unended ls b bs parts.1 k)

pub unended_last : (ls : List (List ℕ)) (last : List ℕ) → are_lines ls ≡ true → is_unended last ≡ true → lines_in (text ls ++ last) ≡ ls ++ last ∷ []
unended_last ls [] h k = absurd cc
unended_last ls (b ∷ bs) h k = unended ls b bs h k
