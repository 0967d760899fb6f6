-- Each line that is written of registers and notes is one that may be kept.
use Rattle.std.proofs.Common.{◌≡◌, ℕ, suc, ◌+◌, ◌-◌, ◌/◌, ◌%◌, Bool, true, false, not, ◌&&◌, ◌==◌, List, [], ◌∷◌, ◌++◌, map, length, nat_lt, Option, Some, None, refl, sym, ap, subst, ◌∙◌, arith, length-append}
use Rattle.std.specs.Prelude.{All, bytes_eq}
use Rattle.std.specs.List.{list_all, list_any, cons_option, slice_get}
use Rattle.std.proofs.lemmas.Bool.{and_parts, and_from as both_true}
use Rattle.std.proofs.lemmas.Bool.Decides.{nat_tests}
use Rattle.std.proofs.lemmas.List.{append-nil, append_assoc as joined, map-append as mapped-append}
use Rattle.std.proofs.lemmas.List.Elements.{All-nil, All-push}
use Rattle.ann_key.specs.Keys.{is_key}
use Rattle.annex_model.specs.Lines.{has_newline}
use Rattle.annex_model.specs.Messages as annex
use Rattle.annex_model.specs.Messages.{fields_text}
use Rattle.annex_model.proofs.Classes.{text_follows}
use Rattle.registers.specs.Registers.{RegisterFile, IsKept, is_word, is_line, is_key_word}
use Rattle.registers.specs.RegLines.{Line, ConfigLine, WantedLine, StateLine, UrlLine, is_fit, lines_of, later_lines_of, keyed_lines_of, wanted_lines}
use Rattle.registers.specs.Tables.{Texts}
use Rattle.registers.proofs.Readings.{lines_fit}
use Rattle.task_text.specs.ChunkLog.ChunkLines.{line_text}
use Rattle.task_text.specs.ChunkLog.LogLaws.{cut}
use Rattle.task_text.specs.ChunkLog.NoteBooks.{in_order}
use Rattle.task_text.specs.declared.chunk_log.line.ChunkLine.{ChunkLine}
use Rattle.task_text.specs.declared.chunk_log.note.Note.{Note}
use Rattle.task_text.proofs.ChunkLogLemmas.ReadBack.{reads_back}
use Rattle.kept_file.specs.Text.KeptFiles.{kept_of, kept_note, written_line, written_note, cut_note, IsKeepable}
use Rattle.kept_file.specs.Text.KeptLines.{KeptLine, Setting, Expression, State, Url, Chunks, kept_row, kept_reading, chunk_in, setting_of, line_of}
use Rattle.kept_file.specs.Text.Orders.{is_log_of, is_written, is_written_as, is_written_line, come_in_order, comes_before}
use Rattle.kept_file.proofs.TextLemmas.Chunked.{chunk_read}
use Rattle.kept_file.proofs.TextLemmas.Spelled.{read_of_spelled}
use Rattle.kept_file.proofs.TextLemmas.WrittenLines.{Written, lines_written, notes_written}
use Rattle.journal_reader.specs.RunTexts.{is_kept, is_behind, may_be_kept, AreInOrder, NoneKept, OneMore}
use Rattle.journal_reader.proofs.KeptOrder.{follows, chain, kept_all, kept_chain}
use Rattle.ann_key.proofs.Lists.{mapped, same_name as itself, second_fails}

-- the line of it is read as it, is one that is written, and holds no byte 10
pub record IsSaid (k : KeptLine) : Type 0 where
  pub read : kept_reading (line_of k) ≡ Some k
  pub written : is_written k ≡ true
  pub apart : not (has_newline (line_of k)) ≡ true

-- ---- registers

nothing : Written [] [] []
nothing = record { apart = refl; right = refl; set = refl; noted = refl }

read_as : (k : Option KeptLine) (line : Line) → cons_option (setting_of k) [] ≡ line ∷ [] → k ≡ Some (kept_of line)
read_as None line e = absurd cc
read_as (Some (Setting name value)) line e = let same : ConfigLine name value ≡ line = cc in ap (λ (l : Line). Some (kept_of l)) same
read_as (Some (Expression expression)) line e = let same : WantedLine expression ≡ line = cc in ap (λ (l : Line). Some (kept_of l)) same
read_as (Some (State key value)) line e = let same : StateLine key value ≡ line = cc in ap (λ (l : Line). Some (kept_of l)) same
read_as (Some (Url key url)) line e = let same : UrlLine key url ≡ line = cc in ap (λ (l : Line). Some (kept_of l)) same
read_as (Some (Chunks key log)) line e = absurd cc

-- an expression that has a line isn't empty
abbrev has_text : Line → Bool
has_text (WantedLine value) = not (length value == 0)
has_text line = true

is_set : (line : Line) → is_fit line ≡ true → has_text line ≡ true → is_written (kept_of line) ≡ true
is_set (ConfigLine name value) h t = refl
is_set (WantedLine value) h t = t
is_set (StateLine key value) h t =
    let parts = and_parts (is_key_word key) (nat_lt 0 (length value) && is_line value) h in
    let some : nat_lt 0 (length value) ≡ true = (and_parts (nat_lt 0 (length value)) (is_line value) parts.1).0 in
    grind (arith, nat_tests)
is_set (UrlLine key url) h t = refl

register_said : (line : Line) → is_fit line ≡ true → has_text line ≡ true → IsSaid (kept_of line)
register_said line h t =
    let w = lines_written (line ∷ []) [] [] [] (both_true (is_fit line) true h refl) nothing in record {
      read = read_as (kept_reading (written_line line)) line w.set;
      written = is_set line h t;
      apart = (and_parts (not (has_newline (written_line line))) true w.apart).0;
    }

-- ---- notes

sent_key : (key : List ℕ) → is_key_word key ≡ true → annex.is_sent_key key ≡ true
unfolding is_key_word
sent_key key h =
    let parts = and_parts (is_word key) (is_key key) h in both_true (is_key key) (not (list_any (λ b. b == 32) key)) parts.1 (second_fails (λ b. b == 10) (λ b. b == 32) key parts.0)

micros_cut : (n : ℕ) → (n - n % 1000) / 1000 ≡ n / 1000
micros_cut n = omega arith

text_cut : (line : ChunkLine) → line_text (record line { stamp = cut line.stamp }) ≡ line_text line
text_cut line = rw (micros_cut line.stamp.nanos) refl

note_said : (note : Note) → IsKeepable note → IsSaid (kept_note note)
note_said note n =
    let log = line_text note.line in
    let k : KeptLine = Chunks note.key log in
    let chunk : chunk_in log ≡ Some (cut_note note).line = chunk_read log (cut_note note).line (reads_back note.line n.line n.seconds n.chunk n.count) in
    let w = notes_written (note ∷ []) (All-push IsKeepable [] note (All-nil IsKeepable) n) in record {
      read = read_of_spelled k (line_of k) (fields_text (kept_row k).1, refl, text_follows (kept_row k).1 (sent_key note.key n.key, tt));
      written = ap (is_log_of log) chunk ∙ ap (λ (t : List ℕ). bytes_eq t log) (text_cut note.line) ∙ itself log;
      apart = (and_parts (not (has_newline (written_note note))) true w.apart).0;
    }

-- ---- all of them

abbrev pub AreSaid : List KeptLine → Type 0
AreSaid [] = Unit {0}
AreSaid (k ∷ ks) = IsSaid k × AreSaid ks

said_both : (ks more : List KeptLine) → AreSaid ks → AreSaid more → AreSaid (ks ++ more)
said_both [] more h m = m
said_both (k ∷ ks) more h m = (h.0, said_both ks more h.1 m)

lines_said : (lines : List Line) → list_all is_fit lines ≡ true → list_all has_text lines ≡ true → AreSaid (map kept_of lines)
lines_said [] h t = tt
lines_said (line ∷ lines) h t =
    let fit = and_parts (is_fit line) (list_all is_fit lines) h in
    let texts = and_parts (has_text line) (list_all has_text lines) t in
    (register_said line fit.0 texts.0, lines_said lines fit.1 texts.1)

notes_said : (notes : List Note) → All IsKeepable notes → AreSaid (map kept_note notes)
notes_said [] h = tt
notes_said (note ∷ notes) h = (note_said note (h 0 note (omega arith)), notes_said notes (λ k d below. h (suc k) d (omega arith)))

-- each line of registers has a text
both_texts : (xs ys : List Line) → list_all has_text xs ≡ true → list_all has_text ys ≡ true → list_all has_text (xs ++ ys) ≡ true
both_texts [] ys h k = k
both_texts (x ∷ xs) ys h k =
    let parts = and_parts (has_text x) (list_all has_text xs) h in both_true (has_text x) (list_all has_text (xs ++ ys)) parts.0 (both_texts xs ys parts.1 k)

config_texts : (es : Texts) → list_all has_text (map (λ e. ConfigLine e.0 e.1) es) ≡ true
config_texts [] = refl
config_texts (e ∷ es) = config_texts es

state_texts : (es : Texts) → list_all has_text (map (λ e. StateLine e.0 e.1) es) ≡ true
state_texts [] = refl
state_texts (e ∷ es) = state_texts es

url_texts : (es : Texts) → list_all has_text (map (λ e. UrlLine e.0 e.1) es) ≡ true
url_texts [] = refl
url_texts (e ∷ es) = url_texts es

wanted_texts : (w : List ℕ) → list_all has_text (wanted_lines w) ≡ true
wanted_texts [] = refl
wanted_texts (b ∷ bs) = let some : (suc (length bs) == 0) ≡ false = grind (arith, nat_tests) in ap (λ (s : Bool). not s && true) some

register_texts : (r : RegisterFile) → list_all has_text (lines_of r) ≡ true
register_texts r =
    both_texts (map (λ e. ConfigLine e.0 e.1) r.config) (later_lines_of r) (config_texts r.config)
    (both_texts (wanted_lines r.wanted) (keyed_lines_of r) (wanted_texts r.wanted)
    (both_texts (map (λ e. StateLine e.0 e.1) r.state) (map (λ e. UrlLine e.0 e.1) r.urls) (state_texts r.state) (url_texts r.urls)))

-- ---- their order

may_stand : (k : KeptLine) → IsSaid k → is_kept (line_of k) ≡ true
may_stand k s =
    both_true (is_written_line (line_of k)) (not (has_newline (line_of k)))
    (ap (is_written_as (line_of k)) s.read ∙ both_true (is_written k) (bytes_eq (line_of k) (line_of k)) s.written (itself (line_of k))) s.apart

comes_as : (a k : KeptLine) → IsSaid a → IsSaid k → comes_before (line_of a) (line_of k) ≡ follows (Some a) k
comes_as a k s t = ap (λ (o : Option KeptLine). come_in_order o (kept_reading (line_of k))) s.read ∙ ap (come_in_order (Some a)) t.read

at_end : {X : Type 0} (xs : List X) (x : X) → slice_get (xs ++ x ∷ []) (length xs) ≡ Some x
at_end [] x = refl
at_end (y ∷ xs) x = at_end xs x

last_is : {X : Type 0} (xs : List X) (x : X) → slice_get (xs ++ x ∷ []) (length (xs ++ x ∷ []) - 1) ≡ Some x
last_is xs x =
    let long : length (xs ++ x ∷ []) ≡ length xs + 1 = length-append xs (x ∷ []) in
    let last : length (xs ++ x ∷ []) - 1 ≡ length xs = omega arith in
    ap (λ (n : ℕ). slice_get (xs ++ x ∷ []) n) last ∙ at_end xs x

-- one more after the last
one_behind : (before : List KeptLine) (a k : KeptLine) → AreInOrder (map line_of (before ++ a ∷ [])) → IsSaid a → IsSaid k → follows (Some a) k ≡ true → AreInOrder (map line_of ((before ++ a ∷ []) ++ k ∷ []))
one_behind before a k h s t f =
    let first = map line_of (before ++ a ∷ []) in
    let split : first ≡ map line_of before ++ line_of a ∷ [] = mapped-append line_of before (a ∷ []) in
    let last : slice_get first (length first - 1) ≡ Some (line_of a) =
    ap (λ (l : List (List ℕ)). slice_get l (length l - 1)) split ∙ last_is (map line_of before) (line_of a) in
    let may : may_be_kept first (line_of k) ≡ true =
    both_true (is_kept (line_of k)) (is_behind (slice_get first (length first - 1)) (line_of k)) (may_stand k t) (ap (λ o. is_behind o (line_of k)) last ∙ comes_as a k s t ∙ f) in
    let P : List (List ℕ) → Type 0 = AreInOrder in
    subst P (sym (mapped-append line_of (before ++ a ∷ []) (k ∷ []))) (OneMore first (line_of k) h may)

go_on : (before : List KeptLine) (a : KeptLine) (ks : List KeptLine) → AreInOrder (map line_of (before ++ a ∷ [])) → IsSaid a → AreSaid ks → chain (Some a) ks ≡ true
    → AreInOrder (map line_of ((before ++ a ∷ []) ++ ks))
go_on before a [] h s said c = let P : List KeptLine → Type 0 = λ l. AreInOrder (map line_of l) in subst P (sym (append-nil (before ++ a ∷ []))) h
go_on before a (k ∷ ks) h s said c =
    let parts = and_parts (follows (Some a) k) (chain (Some k) ks) c in
    let P : List KeptLine → Type 0 = λ l. AreInOrder (map line_of l) in
    subst P (joined (before ++ a ∷ []) (k ∷ []) ks) (go_on (before ++ a ∷ []) k ks (one_behind before a k h s said.0 parts.0) said.0 said.1 parts.1)

in_written_order : (ks : List KeptLine) → AreSaid ks → chain None ks ≡ true → AreInOrder (map line_of ks)
in_written_order [] said c = NoneKept
in_written_order (k ∷ ks) said c =
    go_on [] k ks (OneMore [] (line_of k) NoneKept (both_true (is_kept (line_of k)) true (may_stand k said.0) refl)) said.0 said.1 c

-- what is kept, as it is written, may stand in a text
module _ (r : RegisterFile) (kept : IsKept r) (notes : List Note) (keepable : All IsKeepable notes) (order : in_order notes ≡ true) where
  written_is : map line_of (kept_all (lines_of r) notes) ≡ map written_line (lines_of r) ++ map written_note notes
  written_is =
      mapped-append line_of (map kept_of (lines_of r)) (map kept_note notes)
      ∙ ap (λ (l : List (List ℕ)). l ++ map line_of (map kept_note notes)) (mapped line_of kept_of (lines_of r))
      ∙ ap (λ (l : List (List ℕ)). map written_line (lines_of r) ++ l) (mapped line_of kept_note notes)

  pub kept_in_order : AreInOrder (map written_line (lines_of r) ++ map written_note notes)
  kept_in_order =
      subst AreInOrder written_is
      (in_written_order (kept_all (lines_of r) notes)
      (said_both (map kept_of (lines_of r)) (map kept_note notes) (lines_said (lines_of r) (lines_fit r kept) (register_texts r)) (notes_said notes keepable))
      (kept_chain r kept notes keepable order))
