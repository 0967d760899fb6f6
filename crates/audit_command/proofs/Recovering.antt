-- From what the text of a run says so far to what is recovered of it.
use Rattle.std.proofs.Common.{◌≡◌, ◌⊎◌, ℕ, ◌+◌, ◌<◌, List, [], length, map, replicate, sym, ap, subst, ◌∙◌, arith, inl, inr, Some, None, Option, Ok}
use Rattle.std.specs.Prelude.{IfSome}
use Rattle.std.proofs.lemmas.List.{length-replicate}
use Rattle.ann_outside.specs.Causes.{Rose}
use Rattle.ann_outside.specs.Files.{Files, content}
use Rattle.ann_outside.specs.Told.{DeskTold}
use Rattle.ann_outside.specs.TextFile.Reads.{IsReadOf}
use Rattle.ann_outside.specs.declared.text_file.reading.FileRead.TheVariants as F
use Rattle.journal_model.specs.declared.entry.Entry.{Entry}
use Rattle.journal_model.specs.declared.opening.Opening.{Opening}
use Rattle.journal_model.specs.Legality.{numbers_of}
use Rattle.journal_model.specs.Beginnings.{MayBegin}
use Rattle.host_core.specs.CoreValue.{CoreValue}
use Rattle.run_answers.specs.Answers.{answer_of}
use Rattle.journal_audit.specs.Replays.{IsReplayed}
use Rattle.audit_command.specs.Inputs.{audit_limits}
use Rattle.audit_command.specs.SoFar.{IsTextSoFar}
use Rattle.audit_command.specs.Recoveries.{EndsAnswered, EndsIn, EndsRecovery, EndsRun, IsKeptBy, IsRecovered, RecoverDesks, RecoverNames, TextIs}
use Rattle.audit_command.specs.declared.recover.made.RecoverEnd.{RecoverEnd}
use Rattle.audit_command.specs.declared.recover.made.RecoverEnd.TheVariants.{FileFailed, TextTooLarge, Refused, Memory, Unbegun, Wrong, Answered}
use Rattle.audit_command.specs.declared.recover.text.TextRead.TheVariants.{SoFar, Refused as RefusedAt, TooLarge as LargeText}
use Rattle.audit_command.proofs.Fitting.{may_begin}
use Rattle.audit_command.proofs.Restoring.{kept_stays}

-- ---- the text

pub so_far_may_begin : (o : Opening) (journal : List Entry) (lines : List (List ℕ)) → IsTextSoFar o journal lines → MayBegin o
so_far_may_begin o journal lines (inl is) = may_begin o journal lines is
so_far_may_begin o journal lines (inr is) = may_begin o journal _ is

large : (most : ℕ) → (text : List ℕ) × (most < length text)
large most = (replicate (most + 1) 0, let long = length-replicate {A = ℕ} (most + 1) 0 in omega (arith, long))

pub large_text : (name : List ℕ) (told : Option Files) → IfSome told (λ files. IsReadOf name audit_limits.bytes files (Ok F.TooLarge)) → TextIs name told (Ok LargeText)
large_text name None known = (let some = large audit_limits.bytes in (some.0, tt, some.1))
large_text name (Some files) known = (known.0, known.1, known.2)

-- ---- the journal

-- what comes of a core that has made the journal again
pub run_answered : (keep : Option (List ℕ)) (told : Option Files) (table : DeskTold) (o : Opening) (journal left : List Entry) (core : CoreValue) (end : RecoverEnd)
    → core.opening ≡ o → IsReplayed o journal None core.journal → EndsAnswered keep told table journal core left end → EndsRun keep told table o journal left end
run_answered keep told table o journal left core (Answered answers kept) same replayed h = (
  h.0,
  h.1 ∙ ap (λ (x : Opening). map (answer_of journal) (numbers_of x)) same,
  (core.journal, replayed, subst (λ (x : Opening). IsKeptBy keep told table x core.journal kept) same h.2),
)
run_answered keep told table o journal left core Memory same replayed h = h
run_answered keep told table o journal left core FileFailed same replayed h = absurd h
run_answered keep told table o journal left core TextTooLarge same replayed h = absurd h
run_answered keep told table o journal left core (Refused line) same replayed h = absurd h
run_answered keep told table o journal left core Unbegun same replayed h = absurd h
run_answered keep told table o journal left core (Wrong m) same replayed h = absurd h

-- what comes of the text of a run
module _ (names : RecoverNames) (d : RecoverDesks) (o : Opening) (journal : List Entry) where
  pub text_run : (left : List Entry) (end : RecoverEnd) (text : List ℕ) → IfSome d.read (λ files. content names.journal files ≡ Some text) → EndsIn (IsTextSoFar o journal) text
      → EndsRun names.keep d.told d.keeper o journal left end → EndsRecovery names d left end
  text_run left (Answered answers kept) text is so_far h =
      let whole : IsRecovered names d journal answers.items kept = record {
        text = text;
        is = is;
        opening = o;
        so_far = so_far;
        made = h.2.0;
        replayed = h.2.1;
        given = h.1;
        restored = h.2.2;
      } in
      subst (λ (j : List Entry). IsRecovered names d j answers.items kept) (sym h.0) whole
  text_run left (Wrong m) text is so_far h =
      subst (λ (j : List Entry). EndsRecovery names d j (Wrong m)) (sym h.0) (o, h.1, (text, is, so_far, h.2))
  text_run left Memory text is so_far h = h
  text_run left FileFailed text is so_far h = absurd h
  text_run left TextTooLarge text is so_far h = absurd h
  text_run left (Refused line) text is so_far h = absurd h
  text_run left Unbegun text is so_far h = absurd h

-- ---- a text of which nothing was recovered

module _ (names : RecoverNames) (d : RecoverDesks) (left : List Entry) (none : left ≡ []) (same : d.keeper.files ≡ d.told) where
  pub text_unbegun : TextIs names.journal d.read (Ok (SoFar None)) → EndsRecovery names d left Unbegun
  text_unbegun is = (none, (is.0, is.1, is.2, kept_stays names.keep d.told d.keeper same))

  pub text_refused : (line : ℕ) → TextIs names.journal d.read (Ok (RefusedAt line)) → EndsRecovery names d left (Refused line)
  text_refused line is = (none, (is.0, is.1, is.2, kept_stays names.keep d.told d.keeper same))

  pub text_large : TextIs names.journal d.read (Ok LargeText) → EndsRecovery names d left TextTooLarge
  text_large is = (none, (is.0, is.1, is.2, kept_stays names.keep d.told d.keeper same))

  pub text_unread : Rose 0 d.reader.counts.faults ⊎ Rose 0 d.reader.counts.missing → EndsRecovery names d left FileFailed
  text_unread rose = (none, rose, kept_stays names.keep d.told d.keeper same)

  pub text_wanting : EndsRecovery names d left Memory
  text_wanting = (none, kept_stays names.keep d.told d.keeper same)
