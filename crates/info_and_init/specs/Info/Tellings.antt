-- What telling some of an answer adds to what is printed.
use Rattle.std.specs.Prelude.{ℕ, ◌≡◌, ◌+◌, ◌++◌, Bool, if◌then◌else◌, List, [], ◌∷◌, Option, codes}
use Rattle.annex_model.specs.Lines.{text}
use Rattle.annex_model.specs.Messages.{RemoteMessage, HostMessage}
use Rattle.journal_model.specs.declared.entry.Entry.{Entry}
use Rattle.journal_model.specs.Journal.{is_mute}
use Rattle.info_and_init.specs.Info.Infos.{lines_from, questions_from}
use Rattle.info_and_init.specs.declared.info.telling.InfoText.{InfoText}

-- these lines are printed
abbrev pub HasPrinted : List (List ℕ) → InfoText → InfoText → Type 0
HasPrinted lines before after = after.printed.items ≡ before.printed.items ++ text lines

-- with these messages told, the lines of all that comes after them complete the same text
abbrev pub HasTold : HostMessage → List (Option RemoteMessage) → InfoText → InfoText → Type 0
HasTold q ms before after =
    (rest : List (Option RemoteMessage))
    → before.printed.items ++ text (lines_from q before.field (ms ++ rest)) ≡ after.printed.items ++ text (lines_from q after.field rest)

-- with this job told, the lines of the later ones complete the same text, where they are told too; else it is complete
abbrev pub HasAnswered : List Entry → ℕ → HostMessage → ℕ → Bool → InfoText → InfoText → Type 0
HasAnswered journal c q j more before after =
    (qs : List HostMessage)
    → before.printed.items ++ text (questions_from journal c (q ∷ qs) j)
    ≡ after.printed.items ++ (if more then text (questions_from journal c qs (j + 1)) else [])

abbrev pub mute_lines : List Entry → ℕ → List (List ℕ)
mute_lines journal c = if is_mute journal c then codes "unsent" ∷ [] else []
