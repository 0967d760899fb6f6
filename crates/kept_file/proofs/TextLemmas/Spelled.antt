-- A line is read as what it spells, and as nothing else; its fields are of the classes that are asked for.
use Rattle.std.proofs.Common.{◌≡◌, ℕ, ◌==◌, true, not, inl, inr, List, [], ◌∷◌, ◌++◌, Option, Some, refl, sym, ap, ◌∙◌}
use Rattle.std.specs.Prelude.{codes}
use Rattle.std.proofs.lemmas.List.Folds.{list_any-append}
use Rattle.annex_model.specs.Lines.{has_newline}
use Rattle.annex_model.specs.Messages.{by_rows, SpelledBy, Followed, Param, Word, Key, Rest, is_space, is_sent_key, word_of, field_of}
use Rattle.annex_model.specs.Messages as annex
use Rattle.annex_model.proofs.Parts.{behind, word_and_field, word_before, field_behind, sent_key_is_word}
use Rattle.annex_model.proofs.Shapes.{Reads, rest_reads, word_rest_reads, key_rest_reads}
use Rattle.annex_model.proofs.Rows.{Fills, AllOwn, rest_own, word_rest_own, key_rest_own, rows_fill}
use Rattle.registers.specs.Registers.{is_word, is_line}
use Rattle.kept_file.specs.Text.KeptLines.{KeptLine, Setting, Expression, State, Url, Chunks, KeptSpells, KeptFits, kept_row, kept_rows, kept_reading}
use Rattle.ann_key.proofs.Booleans.{neither_is as apart}
use Rattle.ann_key.proofs.Lists.{each_fails, neither_passes}

-- ---- what is spelled is read
line_read : (word : List ℕ) → annex.is_word word ≡ true → {line tail : List ℕ} {k : KeptLine} {P : Option (List ℕ) → Type 0} → line ≡ word ++ tail → Reads tail P
    → ((f : Option (List ℕ)) → P f → by_rows kept_rows word f ≡ Some k) → kept_reading line ≡ Some k
line_read word w e r h = rw (e, r.whole, word_before word r.field w, field_behind word r.field w) (h r.field r.read)

pub read_of_spelled : (k : KeptLine) (line : List ℕ) → KeptSpells k line → kept_reading line ≡ Some k
read_of_spelled (Setting name value) line s = line_read (codes "config") refl s.1 (word_rest_reads name value s.0 s.2) (λ f e. rw e refl)
read_of_spelled (Expression expression) line s = line_read (codes "wanted") refl s.1 (rest_reads expression s.0 s.2) (λ f e. rw e refl)
read_of_spelled (State key value) line s = line_read (codes "state") refl s.1 (key_rest_reads key value s.0 s.2) (λ f e. rw e refl)
read_of_spelled (Url key url) line s = line_read (codes "url") refl s.1 (key_rest_reads key url s.0 s.2) (λ f e. rw e refl)
read_of_spelled (Chunks key log) line s = line_read (codes "chunks") refl s.1 (key_rest_reads key log s.0 s.2) (λ f e. rw e refl)

-- ---- what is read is spelled
all_own : AllOwn kept_row kept_rows
all_own = (
  word_rest_own kept_row Setting (codes "config") (λ word rest. refl),
  (
    rest_own kept_row Expression (codes "wanted") (λ rest. refl),
    (
      key_rest_own kept_row State (codes "state") (λ key rest. refl),
      (
        key_rest_own kept_row Url (codes "url") (λ key rest. refl),
        (key_rest_own kept_row Chunks (codes "chunks") (λ key rest. refl), tt),
      ),
    ),
  ),
)

pub spelled_of_read : (k : KeptLine) (line : List ℕ) → kept_reading line ≡ Some k → KeptSpells k line
spelled_of_read k line h =
    let r : Fills (kept_row k) (word_of line) (field_of line) = rows_fill kept_row kept_rows all_own (word_of line) (field_of line) k h in
    (behind (field_of line), word_and_field line ∙ ap (λ (w : List ℕ). w ++ behind (field_of line)) (sym r.0), r.1)

-- ---- classes

-- no byte 10 in two pieces of a line
pieces : (a b line : List ℕ) → line ≡ a ++ b → not (has_newline line) ≡ true → (not (has_newline a) ≡ true) × (not (has_newline b) ≡ true)
pieces a b line e h = apart (has_newline a) (has_newline b) (ap not (sym (list_any-append (λ b. b == 10) a b)) ∙ ap (λ (t : List ℕ). not (has_newline t)) (sym e) ∙ h)

rest_fits : (rest tail : List ℕ) → Followed (Rest rest ∷ []) tail → not (has_newline tail) ≡ true → is_line rest ≡ true
rest_fits rest tail (inl e) h = each_fails (λ b. b == 10) rest (ap (λ (t : List ℕ). not (has_newline t)) (sym e) ∙ h)
rest_fits rest tail (inr e) h = ap is_line e.1

-- a field, and the rest after it
fields_fit : (first rest field more tail : List ℕ) → tail ≡ 32 ∷ field ++ more → field ≡ first → annex.is_word first ≡ true → Followed (Rest rest ∷ []) more
    → not (has_newline tail) ≡ true → (is_word first ≡ true) × (is_line rest ≡ true)
fields_fit first rest field more tail e is word f h =
    let parts = pieces (32 ∷ field) more tail e h in
    let own : not (has_newline first) ≡ true = ap (λ (t : List ℕ). not (has_newline t)) (sym is) ∙ parts.0 in
    (neither_passes (λ b. b == 10) is_space first own word, rest_fits rest more f parts.1)

spelled_fits : (k : KeptLine) (line : List ℕ) → KeptSpells k line → not (has_newline line) ≡ true → KeptFits k
spelled_fits (Setting name value) line s h = let f = s.2 in fields_fit name value f.0 f.1 s.0 f.2 f.3.0 f.3.1 f.4 (pieces (codes "config") s.0 line s.1 h).1
spelled_fits (Expression expression) line s h = rest_fits expression s.0 s.2 (pieces (codes "wanted") s.0 line s.1 h).1
spelled_fits (State key value) line s h = let f = s.2 in fields_fit key value f.0 f.1 s.0 f.2 f.3.0 (sent_key_is_word key f.3.1) f.4 (pieces (codes "state") s.0 line s.1 h).1
spelled_fits (Url key url) line s h = let f = s.2 in fields_fit key url f.0 f.1 s.0 f.2 f.3.0 (sent_key_is_word key f.3.1) f.4 (pieces (codes "url") s.0 line s.1 h).1
spelled_fits (Chunks key log) line s h = let f = s.2 in (fields_fit key log f.0 f.1 s.0 f.2 f.3.0 (sent_key_is_word key f.3.1) f.4 (pieces (codes "chunks") s.0 line s.1 h).1).0

pub read_fits : (k : KeptLine) (line : List ℕ) → kept_reading line ≡ Some k → not (has_newline line) ≡ true → KeptFits k
read_fits k line h n = spelled_fits k line (spelled_of_read k line h) n
