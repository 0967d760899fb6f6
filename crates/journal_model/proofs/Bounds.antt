-- How many bytes of one child can be read.
use Rattle.std.proofs.Common.{◌≡◌, ℕ, ◌+◌, ◌<◌, ◌≤◌, List, [], ◌∷◌, ◌++◌, refl, sym, ap, subst, ◌∙◌, Bool, true, false, not, Option, None, Some, append-nil, length, length-append, arith}
use Rattle.std.specs.Prelude.{◌==◌, ◌&&◌, ◌||◌, nat_le, if◌then◌else◌, IsTrue, sum_by}
use Rattle.std.specs.List.{cons_option, list_all}
use Rattle.std.proofs.lemmas.Bool.Decides.{nat_tests}
use Rattle.std.proofs.lemmas.List.Sums.{sum_by-cons}
use Rattle.annex_model.specs.Lines.{text, has_newline, Cut}
use Rattle.journal_model.specs.declared.verdict.Verdict.TheVariants.{Ended}
use Rattle.journal_model.specs.declared.entry.What.{What}
use Rattle.journal_model.specs.declared.entry.What.TheVariants.{Got, End, Mute}
use Rattle.journal_model.specs.declared.entry.Entry.{Entry}
use Rattle.journal_model.specs.declared.opening.Opening.{Opening}
use Rattle.journal_model.specs.Journal.{line_bytes, bytes_in, line_from, got_lines, open_jobs, is_live, is_full}
use Rattle.journal_model.specs.Due.{due_by, due_after}
use Rattle.journal_model.specs.Limits.{longest_line, most_entries, most_line_bytes}
use Rattle.journal_model.specs.Legality.{Legal, may_come}
use Rattle.journal_model.specs.Wires.{Wired, are_short}
use Rattle.journal_model.proofs.Testing.{all-split}
use Rattle.journal_model.proofs.Soft.{is_soft, soft_got, soft_mute, soft_verdicts, soft_stretch}
use Rattle.journal_model.proofs.Linking.{got_more}
use Rattle.journal_model.proofs.Growing.{Legal-induction}
use Rattle.std.proofs.lemmas.Bool.{and_parts as both}
use Rattle.annex_model.proofs.Across.{text-append}

abbrev heard_size : List Entry → ℕ → ℕ
heard_size past c = length (text (got_lines past c))

-- ---- the lines got of a child are lines of the journal

line_size : (c : ℕ) (w : What) (lines : List (List ℕ)) → length (text (cons_option (line_from c w) lines)) ≤ line_bytes w + 1 + length (text lines)
line_size c (Got child line) lines = go (child == c)
  where
    go : (b : Bool) → length (text (cons_option (if b then Some line else None) lines)) ≤ length line + 1 + length (text lines)
    go true = omega (arith, length-append line (10 ∷ text lines))
    go false = omega arith
line_size c w lines = omega arith

heard_fits : (c : ℕ) (past : List Entry) → heard_size past c ≤ bytes_in past + length past
heard_fits c [] = omega arith
heard_fits c (e ∷ past) = omega (arith, heard_fits c past, line_size c e.what (got_lines past c), sum_by-cons (λ (x : Entry). line_bytes x.what) e past)

-- ---- what is due is no line of a child

pub due_soft : (o : Opening) (past : List Entry) (w : What) → list_all is_soft (due_by o past w) ≡ true
due_soft o past (Got c line) = soft_got o past c line
due_soft o past (End c why) = soft_verdicts c (Ended why) (open_jobs past c)
due_soft o past (Mute c) = soft_mute o past c
due_soft o past w = refl

-- ---- a legal journal

not_full : (entries bytes : ℕ) → not (nat_le most_entries entries || nat_le most_line_bytes bytes) ≡ true → (entries < most_entries) × (bytes < most_line_bytes)
not_full entries bytes h = by_entries (nat_le most_entries entries) (nat_le most_line_bytes bytes) refl refl h
  where
    by_entries : (a b : Bool) → nat_le most_entries entries ≡ a → nat_le most_line_bytes bytes ≡ b → not (a || b) ≡ true → (entries < most_entries) × (bytes < most_line_bytes)
    by_entries true b x y h = absurd cc
    by_entries false true x y h = absurd cc
    by_entries false false x y h = (grind (arith, nat_tests), grind (arith, nat_tests))

short_one : (n : ℕ) → (nat_le n longest_line && true) ≡ true → n ≤ longest_line
short_one n h = let a = (both (nat_le n longest_line) true h).0 in grind (arith, nat_tests)

-- no line more is taken where the journal is full
abbrev pub HeardFits : List Entry → ℕ → Type 0
HeardFits past c = are_short (got_lines past c) ≡ true → heard_size past c ≤ most_entries + most_line_bytes + longest_line

heard_grows : (o : Opening) (c : ℕ) (past : List Entry) (e : Entry) → HeardFits past c → IsTrue (may_come o past e.by e.what) → HeardFits (past ++ e ∷ due_after o past e) c
heard_grows o c past e h may short = subst (λ (ls : List (List ℕ)). length (text ls) ≤ most_entries + most_line_bytes + longest_line) (sym grown) (by_kind e.what may (subst (λ (ls : List (List ℕ)). are_short ls ≡ true) grown short))
  where
    quiet : got_lines (due_after o past e) c ≡ []
    quiet = (soft_stretch c e.by (due_by o past e.what) (due_soft o past e.what)).got

    grown : got_lines (past ++ e ∷ due_after o past e) c ≡ got_lines past c ++ cons_option (line_from c e.what) []
    grown = got_more past (e ∷ due_after o past e) c (cons_option (line_from c e.what) []) (ap (λ (ls : List (List ℕ)). cons_option (line_from c e.what) ls) quiet)

    stays : are_short (got_lines past c ++ []) ≡ true → length (text (got_lines past c ++ [])) ≤ most_entries + most_line_bytes + longest_line
    stays s = subst (λ (ls : List (List ℕ)). length (text ls) ≤ most_entries + most_line_bytes + longest_line) (sym (append-nil (got_lines past c)))
        (h (subst (λ (ls : List (List ℕ)). are_short ls ≡ true) (append-nil (got_lines past c)) s))

    by_kind : (w : What) → may_come o past e.by w ≡ true → are_short (got_lines past c ++ cons_option (line_from c w) []) ≡ true
        → length (text (got_lines past c ++ cons_option (line_from c w) [])) ≤ most_entries + most_line_bytes + longest_line
    by_kind (Got child line) m s = go (child == c) s
      where
        room : (length past < most_entries) × (bytes_in past < most_line_bytes)
        room = not_full (length past) (bytes_in past) (both (is_live past child && not (has_newline line)) (not (is_full past)) m).1

        go : (b : Bool) → are_short (got_lines past c ++ cons_option (if b then Some line else None) []) ≡ true
            → length (text (got_lines past c ++ cons_option (if b then Some line else None) [])) ≤ most_entries + most_line_bytes + longest_line
        go false s = stays s
        go true s =
            let fits : length line ≤ longest_line = short_one (length line) (all-split (λ (l : List ℕ). nat_le (length l) longest_line) (got_lines past c) (line ∷ []) s).1 in
            omega (
              arith,
              room.0,
              room.1,
              fits,
              heard_fits c past,
              ap (λ (bs : List ℕ). length bs) (text-append (got_lines past c) (line ∷ [])),
              length-append (text (got_lines past c)) (text (line ∷ [])),
              length-append line (10 ∷ []),
            )
    by_kind w m s = stays s

pub legal_heard : (o : Opening) (journal : List Entry) (c : ℕ) → Legal o journal → HeardFits journal c
legal_heard o journal c legal =
    Legal-induction o (λ (p : List Entry). HeardFits p c) (λ s. omega arith) (λ p e l h may. heard_grows o c p e h may) journal legal

-- ---- a wire

pub reading_bounded : (o : Opening) (journal : List Entry) (c : ℕ) (read : List ℕ) (taken : Option (List ℕ)) (rest : List ℕ) → Legal o journal
    → Wired journal c (Some read) taken rest → length read < 1100000000
reading_bounded o journal c read taken rest legal w =
    omega (arith, legal_heard o journal c legal w.short, w.little, ap (λ (bs : List ℕ). length bs) w.heard.whole, length-append (text (got_lines journal c)) rest)
