-- How a job was settled, as fields of a line.
use Rattle.std.specs.Prelude.{ℕ, ◌<◌, ◌^◌, List, [], ◌∷◌, Option, codes, decimal, option_map}
use Rattle.journal_model.specs.declared.verdict.Verdict.{Verdict}
use Rattle.journal_model.specs.declared.verdict.Verdict.TheVariants.{Done, Failed, Absent, Unknown, Unsupported, Ended, Unsent}
use Rattle.journal_text.specs.Entries.Fields.{Row, by_rows, word_row, number_row, first_of, rest_of}
use Rattle.journal_text.specs.Entries.Whys.{why_fields, why_at, IsWhy}

abbrev pub verdict_fields : Verdict → List (List ℕ)
verdict_fields (Done at) = codes "done" ∷ decimal at ∷ []
verdict_fields (Failed at) = codes "failed" ∷ decimal at ∷ []
verdict_fields (Absent at) = codes "absent" ∷ decimal at ∷ []
verdict_fields (Unknown at) = codes "unknown" ∷ decimal at ∷ []
verdict_fields (Unsupported at) = codes "unsupported" ∷ decimal at ∷ []
verdict_fields (Ended why) = codes "ended" ∷ why_fields why
verdict_fields Unsent = codes "unsent" ∷ []

abbrev pub IsVerdict : Verdict → Type 0
IsVerdict (Done at) = at < 2 ^ 64
IsVerdict (Failed at) = at < 2 ^ 64
IsVerdict (Absent at) = at < 2 ^ 64
IsVerdict (Unknown at) = at < 2 ^ 64
IsVerdict (Unsupported at) = at < 2 ^ 64
IsVerdict (Ended why) = IsWhy why
IsVerdict Unsent = Unit {0}

-- ---- reading

abbrev pub verdict_rows : List (Row Verdict)
verdict_rows =
    number_row (codes "done") Done
    ∷ number_row (codes "failed") Failed
    ∷ number_row (codes "absent") Absent
    ∷ number_row (codes "unknown") Unknown
    ∷ number_row (codes "unsupported") Unsupported
    ∷ record { word = codes "ended"; read = λ text. option_map Ended (why_at text) }
    ∷ word_row (codes "unsent") Unsent
    ∷ []

abbrev pub verdict_at : List ℕ → Option Verdict
verdict_at text = by_rows verdict_rows (first_of text) (rest_of text)
