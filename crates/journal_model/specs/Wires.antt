-- What was read of a child and written to it.
use Rattle.std.specs.Prelude.{ℕ, ◌≡◌, ◌+◌, ◌≤◌, nat_le, ◌<◌, ◌&&◌, ◌||◌, not, Bool, true, List, [], ◌∷◌, ◌++◌, length, take, map, filter, Option, Some, IsTrue, IfSome}
use Rattle.std.specs.List.{list_all}
use Rattle.journal_model.specs.declared.verdict.Why.{Why}
use Rattle.journal_model.specs.declared.verdict.Why.TheVariants.{Eof, ReadFault, LongLine}
use Rattle.annex_model.specs.Lines.{text, has_newline, Cut}
use Rattle.journal_model.specs.declared.entry.Entry.{Entry}
use Rattle.journal_model.specs.Journal.{each_of, writes, sends, unsent, is_mute, is_ended, why_of, got_lines, got_from, has_spoken, is_tagged, open_jobs}
use Rattle.journal_model.specs.Legality.{is_empty}
use Rattle.journal_model.specs.Limits.{longest_line, most_read}

-- the lines written to c that a Sent covers
abbrev pub sent_lines : List Entry → ℕ → List (List ℕ)
sent_lines journal c = map (λ w. w.1) (take (length (filter (λ e. sends c e.what) journal)) (each_of (writes c) journal))

-- the text of the next line to c, if there is one
abbrev pub next_text : List (Option ℕ × List ℕ) → List ℕ
next_text [] = []
next_text (w ∷ ws) = text (w.1 ∷ [])

-- what an end says of the bytes that were read and not fed: no line is left in them, or they begin with more than a line may be
abbrev pub RestFits : Why → List ℕ → Type 0
RestFits Eof rest = IsTrue (not (has_newline rest))
RestFits ReadFault rest = IsTrue (not (has_newline rest))
RestFits LongLine rest = (longest_line + 1 ≤ length rest) × IsTrue (not (has_newline (take (longest_line + 1) rest)))
RestFits _ rest = Unit {0}

-- none of the lines is longer than a line may be
abbrev pub are_short : List (List ℕ) → Bool
are_short lines = list_all (λ line. nat_le (length line) longest_line) lines

-- no more was read and not fed than a line may have and one read more
abbrev pub IsLittle : List ℕ → Type 0
IsLittle rest = length rest ≤ longest_line + most_read

-- What was taken is the text of the sent lines, and after an end or a mute the first bytes of the next line, which may be
-- none or all of them.
pub record Took (journal : List Entry) (c : ℕ) (taken : List ℕ) : Type 0 where
  pub begun : ℕ
  pub bytes : taken ≡ text (sent_lines journal c) ++ take begun (next_text (unsent journal c))
  pub whole : IsTrue (not (is_mute journal c || is_ended journal c)) → begun ≡ 0

-- What was read is the lines got from c and then the rest, and what was taken is what was sent, where the halves tell it. No line
-- is longer than it may be, and the rest is little.
pub record Wired (journal : List Entry) (c : ℕ) (given taken : Option (List ℕ)) (rest : List ℕ) : Type 0 where
  pub heard : IfSome given (λ read. Cut read (got_lines journal c) rest)
  pub short : are_short (got_lines journal c) ≡ true
  pub little : IsLittle rest
  pub ended : IfSome (why_of journal c) (λ why. RestFits why rest)
  pub took : IfSome taken (Took journal c)

-- An end and a mute have their causes: at an end of its output the child's outlet has nothing left, where it tells it; a fault
-- of reading or writing was counted.
pub record Caused (journal : List Entry) (c : ℕ) (left : Option (List ℕ)) (read_faults write_faults : ℕ) : Type 0 where
  pub eof : why_of journal c ≡ Some Eof → IfSome left (λ bytes. bytes ≡ [])
  pub read : why_of journal c ≡ Some ReadFault → 0 < read_faults
  pub mute : is_mute journal c ≡ true → 0 < write_faults

-- a line of c may be fed: it is the first, or a job of c is open, or its tag says which job it is for
abbrev pub may_hear : List Entry → ℕ → Bool
may_hear past c = not (has_spoken past c) || (is_tagged past c || not (is_empty (open_jobs past c)))

abbrev pub heard_from : ℕ → List Entry → List Entry → Bool
heard_from c past [] = true
heard_from c past (e ∷ rest) = (not (got_from c e.what) || may_hear past c) && heard_from c (past ++ e ∷ []) rest

-- Each line got of c was fed where it might be. So no child is ended as foul for a line that was not asked for: what it says
-- too early lies in the rest until then.
abbrev pub is_heard_in_turn : List Entry → ℕ → Bool
is_heard_in_turn journal c = heard_from c [] journal
