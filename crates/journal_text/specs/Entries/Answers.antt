-- The answer of a task, as fields of a line.
use Rattle.std.specs.Prelude.{ℕ, ◌<◌, ◌^◌, List, [], ◌∷◌, Option, codes, decimal, option_map}
use Rattle.ann_digest.specs.Digests.{digest_text}
use Rattle.journal_model.specs.declared.answer.Answer.{Answer}
use Rattle.journal_model.specs.declared.answer.Answer.TheVariants.{Stored, Got, Present, Dropped, Renamed, Absent, Unsupported, Unsent, StartFault, NoChild, FileFault, NoFile, Memory, Failed, Unknown, NotPrepared, Ended, Size, Hash}
use Rattle.journal_text.specs.Entries.Digits.{IsDigest, digest_at}
use Rattle.journal_text.specs.Entries.Fields.{Row, by_rows, word_row, number_row, first_of, rest_of}
use Rattle.journal_text.specs.Entries.Whys.{why_fields, why_at, IsWhy}

abbrev pub answer_fields : Answer → List (List ℕ)
answer_fields Stored = codes "stored" ∷ []
answer_fields Got = codes "got" ∷ []
answer_fields Present = codes "present" ∷ []
answer_fields Dropped = codes "dropped" ∷ []
answer_fields Renamed = codes "renamed" ∷ []
answer_fields Absent = codes "absent" ∷ []
answer_fields Unsupported = codes "unsupported" ∷ []
answer_fields Unsent = codes "unsent" ∷ []
answer_fields StartFault = codes "startfault" ∷ []
answer_fields NoChild = codes "nochild" ∷ []
answer_fields FileFault = codes "filefault" ∷ []
answer_fields NoFile = codes "nofile" ∷ []
answer_fields Memory = codes "memory" ∷ []
answer_fields (Failed at) = codes "failed" ∷ decimal at ∷ []
answer_fields (Unknown at) = codes "unknown" ∷ decimal at ∷ []
answer_fields (NotPrepared at) = codes "notprepared" ∷ decimal at ∷ []
answer_fields (Ended why) = codes "ended" ∷ why_fields why
answer_fields (Size bytes) = codes "size" ∷ decimal bytes ∷ []
answer_fields (Hash digest) = codes "hash" ∷ digest_text digest ∷ []

abbrev pub IsAnswer : Answer → Type 0
IsAnswer (Failed at) = at < 2 ^ 64
IsAnswer (Unknown at) = at < 2 ^ 64
IsAnswer (NotPrepared at) = at < 2 ^ 64
IsAnswer (Ended why) = IsWhy why
IsAnswer (Size bytes) = bytes < 2 ^ 64
IsAnswer (Hash digest) = IsDigest digest
IsAnswer answer = Unit {0}

-- ---- reading

abbrev pub answer_rows : List (Row Answer)
answer_rows =
    record { word = codes "hash"; read = λ text. option_map Hash (digest_at text) }
    ∷ word_row (codes "stored") Stored
    ∷ word_row (codes "got") Got
    ∷ word_row (codes "present") Present
    ∷ word_row (codes "dropped") Dropped
    ∷ word_row (codes "renamed") Renamed
    ∷ word_row (codes "absent") Absent
    ∷ word_row (codes "unsupported") Unsupported
    ∷ word_row (codes "unsent") Unsent
    ∷ word_row (codes "startfault") StartFault
    ∷ word_row (codes "nochild") NoChild
    ∷ word_row (codes "filefault") FileFault
    ∷ word_row (codes "nofile") NoFile
    ∷ word_row (codes "memory") Memory
    ∷ number_row (codes "failed") Failed
    ∷ number_row (codes "unknown") Unknown
    ∷ number_row (codes "notprepared") NotPrepared
    ∷ record { word = codes "ended"; read = λ text. option_map Ended (why_at text) }
    ∷ number_row (codes "size") Size
    ∷ []

abbrev pub answer_at : List ℕ → Option Answer
answer_at text = by_rows answer_rows (first_of text) (rest_of text)
