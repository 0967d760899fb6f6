-- The line of an entry: its pass, the word for what happened, and its fields, with a space between each two.
use Rattle.std.specs.Prelude.{ℕ, ◌<◌, ◌^◌, Bool, true, false, not, List, [], ◌∷◌, Option, codes, decimal, option_map, option_and_then, bytes_eq, IsTrue}
use Rattle.annex_model.specs.Lines.{has_newline}
use Rattle.journal_model.specs.declared.entry.What.{What}
use Rattle.journal_model.specs.declared.entry.What.TheVariants.{Claim, Start, NoStart, Lead, Ask, Put, Sent, Mute, Got, End, Verdict, Lost, Answer, Note, Again}
use Rattle.journal_model.specs.declared.entry.Entry.{Entry}
use Rattle.journal_text.specs.Entries.Answers.{answer_fields, answer_at, IsAnswer}
use Rattle.journal_text.specs.Entries.Fields.{spaced, first_of, rest_of, number_at, small_at, smalls_at, numbers_at, Row, by_rows}
use Rattle.journal_text.specs.Entries.Verdicts.{verdict_fields, verdict_at, IsVerdict}
use Rattle.journal_text.specs.Entries.Whys.{why_fields, why_at, IsWhy}

-- ASYNC was offered, or not
abbrev pub offer_word : Bool → List ℕ
offer_word true = codes "async"
offer_word false = codes "plain"

abbrev pub what_fields : What → List (List ℕ)
what_fields (Claim task child) = codes "claim" ∷ decimal task ∷ decimal child ∷ []
what_fields (Start child slot offer) = codes "start" ∷ decimal child ∷ decimal slot ∷ offer_word offer ∷ []
what_fields (NoStart slot) = codes "nostart" ∷ decimal slot ∷ []
what_fields (Lead child job line) = codes "lead" ∷ decimal child ∷ decimal job ∷ line ∷ []
what_fields (Ask child job task line) = codes "ask" ∷ decimal child ∷ decimal job ∷ decimal task ∷ line ∷ []
what_fields (Put child job line) = codes "put" ∷ decimal child ∷ decimal job ∷ line ∷ []
what_fields (Sent child) = codes "sent" ∷ decimal child ∷ []
what_fields (Mute child) = codes "mute" ∷ decimal child ∷ []
what_fields (Got child line) = codes "got" ∷ decimal child ∷ line ∷ []
what_fields (End child why) = codes "end" ∷ decimal child ∷ why_fields why
what_fields (Verdict child job verdict) = codes "verdict" ∷ decimal child ∷ decimal job ∷ verdict_fields verdict
what_fields (Lost child task) = codes "lost" ∷ decimal child ∷ decimal task ∷ []
what_fields (Answer task answer) = codes "answer" ∷ decimal task ∷ answer_fields answer
what_fields (Note task chunk count) = codes "note" ∷ decimal task ∷ decimal chunk ∷ decimal count ∷ []
what_fields (Again task answer) = codes "again" ∷ decimal task ∷ answer_fields answer

-- without byte 10
abbrev pub entry_line : Entry → List ℕ
entry_line entry = spaced (decimal entry.by ∷ what_fields entry.what)

-- each number is one of its type, and a line holds no byte 10
abbrev pub IsWhat : What → Type 0
IsWhat (Claim task child) = (task < 2 ^ 32) × (child < 2 ^ 32)
IsWhat (Start child slot offer) = (child < 2 ^ 32) × (slot < 2 ^ 32)
IsWhat (NoStart slot) = slot < 2 ^ 32
IsWhat (Lead child job line) = (child < 2 ^ 32) × (job < 2 ^ 64) × IsTrue (not (has_newline line))
IsWhat (Ask child job task line) = (child < 2 ^ 32) × (job < 2 ^ 64) × (task < 2 ^ 32) × IsTrue (not (has_newline line))
IsWhat (Put child job line) = (child < 2 ^ 32) × (job < 2 ^ 64) × IsTrue (not (has_newline line))
IsWhat (Sent child) = child < 2 ^ 32
IsWhat (Mute child) = child < 2 ^ 32
IsWhat (Got child line) = (child < 2 ^ 32) × IsTrue (not (has_newline line))
IsWhat (End child why) = (child < 2 ^ 32) × IsWhy why
IsWhat (Verdict child job verdict) = (child < 2 ^ 32) × (job < 2 ^ 64) × IsVerdict verdict
IsWhat (Lost child task) = (child < 2 ^ 32) × (task < 2 ^ 32)
IsWhat (Answer task answer) = (task < 2 ^ 32) × IsAnswer answer
IsWhat (Note task chunk count) = (task < 2 ^ 32) × (chunk < 2 ^ 64) × (count < 2 ^ 64)
IsWhat (Again task answer) = (task < 2 ^ 32) × IsAnswer answer

abbrev pub IsEntry : Entry → Type 0
IsEntry entry = (entry.by < 2 ^ 32) × IsWhat entry.what

-- ---- reading

abbrev pub offer_at : List ℕ → Bool
offer_at text = bytes_eq text (codes "async")

abbrev pub ask_at : List ℕ → Option What
ask_at text =
    option_and_then (λ numbers. option_map (λ task. Ask numbers.0 numbers.1 task (rest_of (rest_of (rest_of text)))) (small_at (rest_of (rest_of text)))) (numbers_at text)

abbrev pub lead_at : List ℕ → Option What
lead_at text = option_map (λ numbers. Lead numbers.0 numbers.1 (rest_of (rest_of text))) (numbers_at text)

abbrev pub put_at : List ℕ → Option What
put_at text = option_map (λ numbers. Put numbers.0 numbers.1 (rest_of (rest_of text))) (numbers_at text)

abbrev pub got_at : List ℕ → Option What
got_at text = option_map (λ child. Got child (rest_of text)) (small_at text)

abbrev pub verdict_what : List ℕ → Option What
verdict_what text = option_and_then (λ numbers. option_map (Verdict numbers.0 numbers.1) (verdict_at (rest_of (rest_of text)))) (numbers_at text)

abbrev pub note_at : List ℕ → Option What
note_at text = option_and_then (λ numbers. option_map (Note numbers.0 numbers.1) (number_at (rest_of (rest_of text)))) (numbers_at text)

abbrev pub answer_what : List ℕ → Option What
answer_what text = option_and_then (λ task. option_map (Answer task) (answer_at (rest_of text))) (small_at text)

abbrev pub again_what : List ℕ → Option What
again_what text = option_and_then (λ task. option_map (Again task) (answer_at (rest_of text))) (small_at text)

abbrev pub what_rows : List (Row What)
what_rows =
    record { word = codes "ask"; read = ask_at }
    ∷ record { word = codes "put"; read = put_at }
    ∷ record { word = codes "lead"; read = lead_at }
    ∷ record { word = codes "got"; read = got_at }
    ∷ record { word = codes "answer"; read = answer_what }
    ∷ record { word = codes "again"; read = again_what }
    ∷ record { word = codes "claim"; read = λ text. option_map (λ t. Claim t.0 t.1) (smalls_at text) }
    ∷ record { word = codes "start"; read = λ text. option_map (λ t. Start t.0 t.1 (offer_at (rest_of (rest_of text)))) (smalls_at text) }
    ∷ record { word = codes "nostart"; read = λ text. option_map NoStart (small_at text) }
    ∷ record { word = codes "lost"; read = λ text. option_map (λ t. Lost t.0 t.1) (smalls_at text) }
    ∷ record { word = codes "sent"; read = λ text. option_map Sent (small_at text) }
    ∷ record { word = codes "mute"; read = λ text. option_map Mute (small_at text) }
    ∷ record { word = codes "end"; read = λ text. option_and_then (λ child. option_map (End child) (why_at (rest_of text))) (small_at text) }
    ∷ record { word = codes "verdict"; read = verdict_what }
    ∷ record { word = codes "note"; read = note_at }
    ∷ []

abbrev pub what_at : List ℕ → Option What
what_at text = by_rows what_rows (first_of text) (rest_of text)

abbrev pub entry_at : List ℕ → Option Entry
entry_at text = option_and_then (λ by. option_map (λ what. record { by = by; what = what }) (what_at (rest_of text))) (small_at text)
