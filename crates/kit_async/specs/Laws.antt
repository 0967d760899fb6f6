-- What follows of a kit that served: of its status, of what was written, of its jobs, and of its first and last word.
use Rattle.std.specs.Prelude.{ℕ, ◌≡◌, ◌⊎◌, ◌<◌, ◌||◌, Bool, true, false, List, [], ◌∷◌, ◌++◌, length, codes, bytes_eq, Option, Some, None}
use Rattle.std.specs.List.{list_any, list_all}
use Rattle.annex_model.specs.Lines.{has_newline}
use Rattle.kit_serve.specs.Limits.{longest_line, next_line}
use Rattle.kit_serve.specs.Kit.Descriptions.{Description}
use Rattle.kit_async_model.specs.declared.about.About.{About}
use Rattle.kit_async_model.specs.declared.about.Fact.{Fact}
use Rattle.kit_async_model.specs.declared.setup.Setup.{Setup}
use Rattle.kit_async_model.specs.declared.entry.Entry.{Entry}
use Rattle.kit_async_model.specs.declared.entry.Entry.TheVariants.{Heard, Say}
use Rattle.kit_async_model.specs.declared.hearing.Hearing.{Hearing}
use Rattle.kit_async_model.specs.declared.hearing.Hearing.TheVariants.{Foul, Unexpected}
use Rattle.kit_async_model.specs.Abouts.{about_of}
use Rattle.kit_async_model.specs.Hearings.{hearing_of}
use Rattle.kit_async_model.specs.Jobs.{is_awaiting}
use Rattle.kit_async_model.specs.Lines.{said_lines}
use Rattle.kit_async_model.specs.Standings.{Standing, after, opening, standing, unexpected_line}
use Rattle.kit_async.specs.Work.Writing.{written_lines}
use Rattle.kit_async.specs.declared.why.Why.{Why}
use Rattle.kit_async.specs.declared.why.Why.TheVariants.{Eof, ReadFault, Bad}
use Rattle.kit_async.specs.Served.{JournalValue, Serves, Tells}

-- ---- lines that end a kit

-- the line is unexpected where it stands
abbrev pub is_unexpected : Hearing → Bool
is_unexpected Unexpected = true
is_unexpected hearing = false

-- it ends the kit: it is ERROR, has no tag or the tag 0 where lines are tagged, or spells no message where a value is awaited; or it
-- is unexpected
abbrev pub is_ending : Hearing → Bool
is_ending Foul = true
is_ending hearing = is_unexpected hearing

-- some line that was heard is so, by how the kit stood then
abbrev pub is_heard_so : (Hearing → Bool) → Setup → Standing → Entry → Bool
is_heard_so test setup s (Heard line) = test (hearing_of setup s.jobs s.tagged line)
is_heard_so test setup s entry = false

abbrev pub heard_from : (Hearing → Bool) → Setup → Standing → List Entry → Bool
heard_from test setup s [] = false
heard_from test setup s (entry ∷ rest) = is_heard_so test setup s entry || heard_from test setup (after setup s entry) rest

abbrev pub ending_heard : Setup → List Entry → Bool
ending_heard setup journal = heard_from is_ending setup opening journal

abbrev pub unexpected_heard : Setup → List Entry → Bool
unexpected_heard setup journal = heard_from is_unexpected setup opening journal

-- It is Bad exactly where a line ended the kit or is too long; all whole lines were heard where the host's lines came to an end or
-- reading failed, and none of them ended the kit.
abbrev pub EndsAsHeard : Why → Setup → List Entry → List ℕ → Type 0
EndsAsHeard Eof setup journal rest = (ending_heard setup journal ≡ false) × (has_newline rest ≡ false)
EndsAsHeard ReadFault setup journal rest = (ending_heard setup journal ≡ false) × (has_newline rest ≡ false)
EndsAsHeard Bad setup journal rest = (ending_heard setup journal ≡ true) ⊎ (longest_line < length (next_line rest))
EndsAsHeard why setup journal rest = Unit {0}

abbrev pub StatusIsHeard : Type 0
StatusIsHeard =
    (setup : Setup) (old new : Tells) (journal : JournalValue) (s : Serves setup old new journal) → EndsAsHeard journal.why setup journal.entries s.rest

-- ---- what is said and written

-- the host ended it, and no write failed nor was memory wanting
abbrev pub is_whole : Why → Bool
is_whole Eof = true
is_whole ReadFault = true
is_whole Bad = true
is_whole why = false

-- then all that was said is written
abbrev pub AllIsWritten : Type 0
AllIsWritten =
    (setup : Setup) (old new : Tells) (journal : JournalValue) → Serves setup old new journal → is_whole journal.why ≡ true
    → written_lines journal.entries ≡ said_lines journal.entries

-- where the host's lines came to an end, each job that is open awaits a value: all others are settled
abbrev pub JobsAreSettled : Type 0
JobsAreSettled =
    (setup : Setup) (old new : Tells) (journal : JournalValue) → Serves setup old new journal → journal.why ≡ Eof
    → list_all (is_awaiting setup) (standing setup journal.entries).jobs ≡ true

-- ---- the first and the last word

-- these are said at the begin, and to what is unexpected
abbrev pub is_own_word : List ℕ → Bool
is_own_word line = bytes_eq line (codes "VERSION 1") || bytes_eq line unexpected_line

-- the lines that the kit has about its remotes; its facts are told on lines of their own kind
abbrev pub about_lines : Option About → List (List ℕ)
about_lines None = []
about_lines (Some about) = about.configs ++ about.cost ++ about.availability

-- none of them is such a word
abbrev pub TellsNoWord : Setup → Type 0
TellsNoWord setup = list_any is_own_word (about_lines setup.about) ≡ false

-- so it is where they are those of a description
abbrev pub DescriptionsTellNoWord : Type 0
DescriptionsTellNoWord = (setup : Setup) (d : Description) (facts : List Fact) → setup.about ≡ Some (about_of d facts) → TellsNoWord setup

-- these lines are answers, and then, where something was unexpected, the error
abbrev pub AreSaidTo : Bool → List (List ℕ) → Type 0
AreSaidTo true lines = (front : List (List ℕ)) × (lines ≡ front ++ unexpected_line ∷ []) × (list_any is_own_word front ≡ false)
AreSaidTo false lines = list_any is_own_word lines ≡ false

-- Where none of what it has about its remotes is such a word, the version is said before all else and never again, and the error exactly once, as the last line, where something unexpected was
-- heard.
abbrev pub WordsAreSaid : Type 0
WordsAreSaid =
    (setup : Setup) (old new : Tells) (journal : JournalValue) → TellsNoWord setup → Serves setup old new journal → is_whole journal.why ≡ true
    → (rest : List Entry) × (journal.entries ≡ Say 0 (codes "VERSION 1") ∷ rest) × AreSaidTo (unexpected_heard setup journal.entries) (said_lines rest)
