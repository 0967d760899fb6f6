-- Which entries of a journal are a role's, and what a role did between two journals that it has seen.
use Rattle.std.specs.Prelude.{ℕ, ◌≡◌, ◌==◌, ◌&&◌, ◌||◌, not, Bool, true, false, List, ◌++◌}
use Rattle.std.specs.List.{list_all}
use Rattle.journal_model.specs.declared.verdict.Why.{Why}
use Rattle.journal_model.specs.declared.verdict.Why.TheVariants.{Memory, Closed}
use Rattle.journal_model.specs.declared.verdict.Verdict.{Verdict}
use Rattle.journal_model.specs.declared.verdict.Verdict.TheVariants.{Ended, Unsent}
use Rattle.journal_model.specs.declared.entry.What.{What}
use Rattle.journal_model.specs.declared.entry.What.TheVariants.{Lead, Ask, Put, Sent, Mute, Got, End, Verdict as Settled, Lost}
use Rattle.journal_model.specs.declared.entry.Entry.{Entry}

-- ---- by their numbers

-- none of the entries is of this number
abbrev pub are_others : ℕ → List Entry → Bool
are_others number entries = list_all (λ e. not (e.by == number)) entries

-- all of them are
abbrev pub are_by : ℕ → List Entry → Bool
are_by number entries = list_all (λ e. e.by == number) entries

-- each of the entries that p picks was made by this number
abbrev pub are_own : (What → Bool) → ℕ → List Entry → Bool
are_own p number entries = list_all (λ e. not (p e.what) || e.by == number) entries

-- each of the entries that was made by this number is one that p picks
abbrev pub makes_only : (What → Bool) → ℕ → List Entry → Bool
makes_only p number entries = list_all (λ e. not (e.by == number) || p e.what) entries

-- ---- by what they say of a child

abbrev pub is_memory : Why → Bool
is_memory Memory = true
is_memory why = false

-- the host was done with the child
abbrev pub is_closed : Why → Bool
is_closed Closed = true
is_closed why = false

-- the verdict was given by a line, and not by the child's end or by a failed write
abbrev pub is_by_line : Verdict → Bool
is_by_line (Ended why) = false
is_by_line Unsent = false
is_by_line verdict = true

-- What is known of c's output: its lines, and its end, which may also come because memory ran out.
abbrev pub is_heard : ℕ → What → Bool
is_heard c (Got child line) = child == c
is_heard c (End child why) = child == c && not (is_memory why)
is_heard c _ = false

-- what is known of c's input
abbrev pub is_said : ℕ → What → Bool
is_said c (Sent child) = child == c
is_said c (Mute child) = child == c
is_said c _ = false

-- each entry that names c but its start and the claims for it
abbrev pub is_of_child : ℕ → What → Bool
is_of_child c (Lead child job line) = child == c
is_of_child c (Ask child job task line) = child == c
is_of_child c (Put child job line) = child == c
is_of_child c (Sent child) = child == c
is_of_child c (Mute child) = child == c
is_of_child c (Got child line) = child == c
is_of_child c (End child why) = child == c
is_of_child c (Settled child job verdict) = child == c
is_of_child c (Lost child task) = child == c
is_of_child c _ = false

-- ---- what a role of c makes

-- what an ear does: lines of c, its end, and what these make due. It doesn't close c
abbrev pub by_ear : ℕ → What → Bool
by_ear c (Put child job line) = child == c
by_ear c (Got child line) = child == c
by_ear c (End child why) = child == c && not (is_closed why)
by_ear c (Settled child job verdict) = child == c
by_ear c _ = false

-- what a mouth does: how far c's lines were written, an end because memory ran out, and what these make due, which no line said
abbrev pub by_mouth : ℕ → What → Bool
by_mouth c (Sent child) = child == c
by_mouth c (Mute child) = child == c
by_mouth c (End child why) = child == c && is_memory why
by_mouth c (Settled child job verdict) = child == c && not (is_by_line verdict)
by_mouth c _ = false

-- what both do
abbrev pub by_link : ℕ → What → Bool
by_link c (Put child job line) = child == c
by_link c (Sent child) = child == c
by_link c (Mute child) = child == c
by_link c (Got child line) = child == c
by_link c (End child why) = child == c && not (is_closed why)
by_link c (Settled child job verdict) = child == c
by_link c _ = false

-- what asking over a link does: a request, which may be lost, and a name before it, beside these
abbrev pub by_asker : ℕ → What → Bool
by_asker c (Lead child job line) = child == c
by_asker c (Ask child job task line) = child == c
by_asker c (Lost child task) = child == c
by_asker c w = by_link c w

-- what asking alone does: a request, which may be lost, and a name before it
abbrev pub by_asking : ℕ → What → Bool
by_asking c (Lead child job line) = child == c
by_asking c (Ask child job task line) = child == c
by_asking c (Lost child task) = child == c
by_asking c w = false

-- ---- what a role did

-- The journal has grown. What the role made of it is what `makes` picks; it made all of it where nobody else steps the core.
-- And where others made none of what `mine` picks, what held before holds after.
pub record Moved (number : ℕ) (alone : Bool) (makes mine : What → Bool) (old new : List Entry) (Before After : Type 0) : Type 0 where
  pub more : List Entry
  pub is : new ≡ old ++ more
  pub own : makes_only makes number more ≡ true
  pub lone : alone ≡ true → are_by number more ≡ true
  pub kept : are_own mine number more ≡ true → Before → After
