-- A verdict that is written is read.
use Rattle.std.proofs.Common.{◌≡◌, [], ◌∷◌, Some, refl, ap, ◌∙◌}
use Rattle.std.specs.Prelude.{codes, decimal, option_map}
use Rattle.journal_model.specs.declared.verdict.Verdict.{Verdict}
use Rattle.journal_model.specs.declared.verdict.Verdict.TheVariants.{Done, Failed, Absent, Unknown, Unsupported, Ended, Unsent}
use Rattle.journal_text.specs.Entries.Fields.{spaced, by_rows}
use Rattle.journal_text.specs.Entries.Whys.{why_fields}
use Rattle.journal_text.specs.Entries.Verdicts.{verdict_fields, verdict_at, verdict_rows, IsVerdict}
use Rattle.journal_text.proofs.EntriesLemmas.FirstFields.{number_back}
use Rattle.journal_text.proofs.EntriesLemmas.ReadBack.{worded, why_back}

pub verdict_back : (verdict : Verdict) → IsVerdict verdict → verdict_at (spaced (verdict_fields verdict)) ≡ Some verdict
verdict_back (Done at) h = worded (by_rows verdict_rows) (codes "done") (decimal at ∷ []) refl ∙ ap (option_map Done) (number_back at [] h)
verdict_back (Failed at) h = worded (by_rows verdict_rows) (codes "failed") (decimal at ∷ []) refl ∙ ap (option_map Failed) (number_back at [] h)
verdict_back (Absent at) h = worded (by_rows verdict_rows) (codes "absent") (decimal at ∷ []) refl ∙ ap (option_map Absent) (number_back at [] h)
verdict_back (Unknown at) h = worded (by_rows verdict_rows) (codes "unknown") (decimal at ∷ []) refl ∙ ap (option_map Unknown) (number_back at [] h)
verdict_back (Unsupported at) h = worded (by_rows verdict_rows) (codes "unsupported") (decimal at ∷ []) refl ∙ ap (option_map Unsupported) (number_back at [] h)
verdict_back (Ended why) h = worded (by_rows verdict_rows) (codes "ended") (why_fields why) refl ∙ ap (option_map Ended) (why_back why h)
verdict_back Unsent h = worded (by_rows verdict_rows) (codes "unsent") [] refl
