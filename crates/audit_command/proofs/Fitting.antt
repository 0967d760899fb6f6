-- A run may begin with the opening of a text.
use Rattle.std.proofs.Common.{◌≡◌, ℕ, ◌≤◌, Bool, true, false, not, List, Option, Some, None, length, get_or, refl, sym, ap, subst, ◌∙◌, arith}
use mathlib.Core.Bool.{false≢true}
use Rattle.std.specs.Prelude.{All}
use Rattle.std.proofs.lemmas.Option.{slice_get-get_or}
use Rattle.uuid.specs.Text.{hyphenated_text, lower, parsed}
use Rattle.annex_model.specs.Lines.{has_newline}
use Rattle.task_text.specs.declared.task.Task.{Task}
use Rattle.journal_model.specs.declared.entry.Entry.{Entry}
use Rattle.journal_model.specs.declared.opening.Opening.{Opening}
use Rattle.task_text.specs.ChunkLog.ChunkLines.{IsWrittenUuid}
use Rattle.task_text.specs.TaskLines.{IsTask}
use Rattle.journal_model.specs.Beginnings.{MayBegin}
use Rattle.journal_model.specs.Limits.{most_again}
use Rattle.journal_model.specs.Replies.{IsLineIdentity}
use Rattle.journal_reader.specs.RunTexts.{IsAgain, is_written_uuid}
use Rattle.cli_words.proofs.Fits.{uuid_fits}
use Rattle.audit_command.specs.Inputs.{IsTextOf}
use Rattle.ann_key.proofs.Lists.{equal_bytes as same_bytes}
use Rattle.journal_model.proofs.FieldLines.{text_fits}

-- ---- a UUID as it is written

written_fits : (text : List ℕ) (u : Option (List ℕ)) → is_written_uuid text u ≡ true → not (has_newline text) ≡ true
written_fits text None h = absurd (false≢true h)
written_fits text (Some u) h =
    let same : hyphenated_text lower u ≡ text = same_bytes (hyphenated_text lower u) text h in
    ap (λ (t : List ℕ). not (has_newline t)) (sym same) ∙ ap not (uuid_fits u)

written_uuid : (text : List ℕ) (u : Option (List ℕ)) → parsed text ≡ u → is_written_uuid text u ≡ true → IsWrittenUuid text
written_uuid text None e h = absurd (false≢true h)
written_uuid text (Some u) e h = (u, e, sym (same_bytes (hyphenated_text lower u) text h))

-- ---- the opening

along : (a b : List ℕ) → a ≡ b → not (has_newline b) ≡ true → not (has_newline a) ≡ true
along a b e h = ap (λ (t : List ℕ). not (has_newline t)) e ∙ h

few_again : (early : Bool) (n : ℕ) → IsAgain early n → n ≤ most_again
few_again false n few = few
few_again true n none = omega (arith, none)

module _ (opening : Opening) (journal : List Entry) (lines : List (List ℕ)) (is : IsTextOf opening journal lines) where
  few_tasks : length opening.tasks ≤ 65536
  few_tasks = let same = ap (λ (ts : List Task). length ts) is.opening_is.tasks in let few = is.class.few in omega arith

  all_tasks : All IsTask is.told.tasks
  all_tasks k d below = is.class.tasks k (get_or is.told.tasks k d) (slice_get-get_or is.told.tasks k d below)

  line_identity : IsLineIdentity opening.identity
  line_identity = record {
    uuid = along opening.identity.uuid is.told.uuid is.opening_is.uuid (written_fits is.told.uuid (parsed is.told.uuid) is.class.uuid);
    name = along opening.identity.name is.told.name is.opening_is.name (text_fits is.told.name is.class.name);
    gitdir = along opening.identity.gitdir is.told.gitdir is.opening_is.gitdir (text_fits is.told.gitdir is.class.gitdir);
  }

  few_runs : opening.again ≤ most_again
  few_runs = subst (λ (n : ℕ). n ≤ most_again) (sym is.opening_is.again) (few_again is.told.early is.told.again is.class.again)

  pub may_begin : MayBegin opening
  may_begin = record {
    few = few_tasks;
    tasks = subst (λ (ts : List Task). All IsTask ts) (sym is.opening_is.tasks) all_tasks;
    lines = line_identity;
    uuid = subst IsWrittenUuid (sym is.opening_is.uuid) (written_uuid is.told.uuid (parsed is.told.uuid) refl is.class.uuid);
    again = few_runs;
  }
