-- What is printed of an answer.
use Rattle.std.specs.Prelude.{ℕ, List, [], ◌∷◌, ◌++◌, Option, Some, None, codes, decimal}
use Rattle.journal_model.specs.declared.verdict.Why.{Why}
use Rattle.journal_model.specs.declared.verdict.Why.TheVariants.{Eof, ReadFault, LongLine, Full, Memory, Closed, Foul, Error, Version}
use Rattle.ann_digest.specs.Digests.{digest_text}
use Rattle.annex_model.specs.Messages.{RemoteMessage, remote_reading, text_in}
use Rattle.annex_model.specs.Tags.{untag, without_tag}
use Rattle.journal_model.specs.declared.answer.Answer.{Answer}
use Rattle.journal_model.specs.declared.answer.Answer.TheVariants.{Stored, Got, Present, Dropped, Renamed, Absent, Unsupported, Unsent, StartFault, NoChild, FileFault, NoFile, Memory as NoRoom, Failed, Unknown, NotPrepared, Ended, Size, Hash}
use Rattle.journal_model.specs.declared.entry.What.{What}
use Rattle.journal_model.specs.declared.entry.What.TheVariants.{Answer as Answered}
use Rattle.journal_model.specs.declared.entry.Entry.{Entry}
use Rattle.journal_model.specs.Journal.{each_of, line_at}

abbrev pub text_of_reading : Option RemoteMessage → List ℕ
text_of_reading None = []
text_of_reading (Some m) = text_in m

-- the text that the line at a place ends with, as the message that it spells. It is empty where that message has none
abbrev pub text_at : List Entry → ℕ → List ℕ
text_at journal at = text_of_reading (remote_reading (without_tag (line_at journal at) (untag (line_at journal at))))

-- a child that ended, by why. A foul line is told as it stood on the wire. No answer tells of a child that was closed
abbrev pub why_words : List Entry → Why → List ℕ
why_words journal Eof = codes "ended eof"
why_words journal ReadFault = codes "ended readfault"
why_words journal LongLine = codes "ended longline"
why_words journal Full = codes "ended full"
why_words journal Memory = codes "memory"
why_words journal Closed = codes "ended closed"
why_words journal (Foul at) = codes "foul " ++ line_at journal at
why_words journal (Error at) = codes "ended error " ++ text_at journal at
why_words journal (Version at) = codes "ended version"

abbrev pub answer_words : List Entry → Answer → List ℕ
answer_words journal Stored = codes "stored"
answer_words journal Got = codes "got"
answer_words journal Present = codes "present"
answer_words journal Dropped = codes "dropped"
answer_words journal Renamed = codes "renamed"
answer_words journal Absent = codes "absent"
answer_words journal Unsupported = codes "unsupported"
answer_words journal Unsent = codes "unsent"
answer_words journal StartFault = codes "startfault"
answer_words journal NoChild = codes "nochild"
answer_words journal FileFault = codes "filefault"
answer_words journal NoFile = codes "nofile"
answer_words journal NoRoom = codes "memory"
answer_words journal (Failed at) = codes "failed " ++ text_at journal at
answer_words journal (Unknown at) = codes "unknown " ++ text_at journal at
answer_words journal (NotPrepared at) = codes "notprepared " ++ text_at journal at
answer_words journal (Ended why) = why_words journal why
answer_words journal (Size bytes) = codes "size " ++ decimal bytes
answer_words journal (Hash digest) = codes "hash " ++ digest_text digest

-- the line of a task: its number, a space, the words, byte 10
abbrev pub answer_line : List Entry → ℕ → Answer → List ℕ
answer_line journal task answer = decimal task ++ 32 ∷ answer_words journal answer ++ 10 ∷ []

abbrev pub answer_in : What → Option (ℕ × Answer)
answer_in (Answered task answer) = Some (task, answer)
answer_in _ = None

-- the answers that the journal gave, each with its task
abbrev pub answers_in : List Entry → List (ℕ × Answer)
answers_in journal = each_of answer_in journal
