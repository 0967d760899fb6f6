-- Why a child ended, as fields of a line.
use Rattle.std.specs.Prelude.{ℕ, ◌<◌, ◌^◌, List, [], ◌∷◌, Option, codes, decimal}
use Rattle.journal_model.specs.declared.verdict.Why.{Why}
use Rattle.journal_model.specs.declared.verdict.Why.TheVariants.{Eof, ReadFault, LongLine, Full, Memory, Closed, Foul, Error, Version}
use Rattle.journal_text.specs.Entries.Fields.{Row, by_rows, word_row, number_row, first_of, rest_of}

abbrev pub why_fields : Why → List (List ℕ)
why_fields Eof = codes "eof" ∷ []
why_fields ReadFault = codes "readfault" ∷ []
why_fields LongLine = codes "longline" ∷ []
why_fields Full = codes "full" ∷ []
why_fields Memory = codes "memory" ∷ []
why_fields Closed = codes "closed" ∷ []
why_fields (Foul at) = codes "foul" ∷ decimal at ∷ []
why_fields (Error at) = codes "error" ∷ decimal at ∷ []
why_fields (Version at) = codes "version" ∷ decimal at ∷ []

-- the place is a number of 64 bits
abbrev pub IsWhy : Why → Type 0
IsWhy (Foul at) = at < 2 ^ 64
IsWhy (Error at) = at < 2 ^ 64
IsWhy (Version at) = at < 2 ^ 64
IsWhy why = Unit {0}

-- ---- reading

abbrev pub why_rows : List (Row Why)
why_rows =
    word_row (codes "eof") Eof
    ∷ word_row (codes "readfault") ReadFault
    ∷ word_row (codes "longline") LongLine
    ∷ word_row (codes "full") Full
    ∷ word_row (codes "memory") Memory
    ∷ word_row (codes "closed") Closed
    ∷ number_row (codes "foul") Foul
    ∷ number_row (codes "error") Error
    ∷ number_row (codes "version") Version
    ∷ []

abbrev pub why_at : List ℕ → Option Why
why_at text = by_rows why_rows (first_of text) (rest_of text)
