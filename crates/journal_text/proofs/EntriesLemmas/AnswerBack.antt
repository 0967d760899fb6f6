-- An answer that is written is read.
use Rattle.std.proofs.Common.{◌≡◌, [], ◌∷◌, Some, refl, ap, ◌∙◌}
use Rattle.std.specs.Prelude.{codes, decimal, option_map}
use Rattle.ann_digest.specs.Digests.{digest_text}
use Rattle.journal_model.specs.declared.answer.Answer.{Answer}
use Rattle.journal_model.specs.declared.answer.Answer.TheVariants.{Stored, Got, Present, Dropped, Renamed, Absent, Unsupported, Unsent, StartFault, NoChild, FileFault, NoFile, Memory, Failed, Unknown, NotPrepared, Ended, Size, Hash}
use Rattle.journal_text.specs.Entries.Fields.{spaced, by_rows}
use Rattle.journal_text.specs.Entries.Whys.{why_fields}
use Rattle.journal_text.specs.Entries.Answers.{answer_fields, answer_at, answer_rows, IsAnswer}
use Rattle.journal_text.proofs.EntriesLemmas.FirstFields.{number_back}
use Rattle.journal_text.proofs.EntriesLemmas.ReadBack.{worded, why_back, digest_read}

pub answer_back : (answer : Answer) → IsAnswer answer → answer_at (spaced (answer_fields answer)) ≡ Some answer
answer_back Stored h = worded (by_rows answer_rows) (codes "stored") [] refl
answer_back Got h = worded (by_rows answer_rows) (codes "got") [] refl
answer_back Present h = worded (by_rows answer_rows) (codes "present") [] refl
answer_back Dropped h = worded (by_rows answer_rows) (codes "dropped") [] refl
answer_back Renamed h = worded (by_rows answer_rows) (codes "renamed") [] refl
answer_back Absent h = worded (by_rows answer_rows) (codes "absent") [] refl
answer_back Unsupported h = worded (by_rows answer_rows) (codes "unsupported") [] refl
answer_back Unsent h = worded (by_rows answer_rows) (codes "unsent") [] refl
answer_back StartFault h = worded (by_rows answer_rows) (codes "startfault") [] refl
answer_back NoChild h = worded (by_rows answer_rows) (codes "nochild") [] refl
answer_back FileFault h = worded (by_rows answer_rows) (codes "filefault") [] refl
answer_back NoFile h = worded (by_rows answer_rows) (codes "nofile") [] refl
answer_back Memory h = worded (by_rows answer_rows) (codes "memory") [] refl
answer_back (Failed at) h = worded (by_rows answer_rows) (codes "failed") (decimal at ∷ []) refl ∙ ap (option_map Failed) (number_back at [] h)
answer_back (Unknown at) h = worded (by_rows answer_rows) (codes "unknown") (decimal at ∷ []) refl ∙ ap (option_map Unknown) (number_back at [] h)
answer_back (NotPrepared at) h = worded (by_rows answer_rows) (codes "notprepared") (decimal at ∷ []) refl ∙ ap (option_map NotPrepared) (number_back at [] h)
answer_back (Ended why) h = worded (by_rows answer_rows) (codes "ended") (why_fields why) refl ∙ ap (option_map Ended) (why_back why h)
answer_back (Size bytes) h = worded (by_rows answer_rows) (codes "size") (decimal bytes ∷ []) refl ∙ ap (option_map Size) (number_back bytes [] h)
answer_back (Hash digest) h = worded (by_rows answer_rows) (codes "hash") (digest_text digest ∷ []) refl ∙ ap (option_map Hash) (digest_read digest h)
