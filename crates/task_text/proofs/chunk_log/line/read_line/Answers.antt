use Rattle.std.proofs.Common.{◌≡◌, sym, ap, ◌∙◌, refl}
use Rattle.std.specs.List.{before_first, after_first}
use Rattle.uuid.specs.Text.{hyphenated_text, lower}
use Rattle.task_text.specs.ChunkLog.ChunkLines.{count_part, is_space, uuid_in, word_part}
use Rattle.task_text.specs.ChunkLog.Stamps.{stamp_in}
use Rattle.task_text.proofs.ChunkLogLemmas.Refused.{without_memory}
use Rattle.task_text.proofs.chunk_log.line.read_line.Goals as goal

pub returns-in_default-uuid_in-clause-read : goal.returns-in_default-uuid_in-clause-read
returns-in_default-uuid_in-clause-read c =
    let word : c.cut_at-2.result.0.now ≡ word_part c.args.line.now = c.cut_at-2.ensures.before ∙ ap (before_first is_space) c.cut_at.ensures.after in (
      (c.in-Some.stamp, ap stamp_in (sym c.cut_at.ensures.before) ∙ sym c.read.ensures.value ∙ c.in-Some.is),
      ap uuid_in (sym word) ∙ sym c.uuid_in.ensures ∙ c.in_default-uuid_in.is,
    )

pub returns-in_default-counts_in-clause-read : goal.returns-in_default-counts_in-clause-read
returns-in_default-counts_in-clause-read c =
    let word : c.cut_at-2.result.0.now ≡ word_part c.args.line.now = c.cut_at-2.ensures.before ∙ ap (before_first is_space) c.cut_at.ensures.after in
    let count : c.cut_at-2.result.1.now ≡ count_part c.args.line.now = c.cut_at-2.ensures.after ∙ ap (after_first is_space) c.cut_at.ensures.after in (
      (c.in-Some.stamp, ap stamp_in (sym c.cut_at.ensures.before) ∙ sym c.read.ensures.value ∙ c.in-Some.is),
      (c.in-Some-uuid_in.uuid, ap uuid_in (sym word) ∙ sym c.uuid_in.ensures ∙ c.in-Some-uuid_in.is),
      rw (word, count) at (sym c.counts_in.ensures.value) ∙ c.in_default-counts_in.is,
    )

pub returns-in_err-uuid-clause-read : goal.returns-in_err-uuid-clause-read
returns-in_err-uuid-clause-read c =
    let word : c.cut_at-2.result.0.now ≡ word_part c.args.line.now = c.cut_at-2.ensures.before ∙ ap (before_first is_space) c.cut_at.ensures.after in
    let count : c.cut_at-2.result.1.now ≡ count_part c.args.line.now = c.cut_at-2.ensures.after ∙ ap (after_first is_space) c.cut_at.ensures.after in
    without_memory _ c.args.line.now c.from_residual.ensures.1
    (record { stamp = c.in-Some.stamp; uuid = hyphenated_text lower c.in-Some-uuid_in.uuid; chunk = c.in-Some-counts_in.chunk; count = c.in-Some-counts_in.count })
    record {
      bytes = c.in-Some-uuid_in.uuid;
      stamp = ap stamp_in (sym c.cut_at.ensures.before) ∙ sym c.read.ensures.value ∙ c.in-Some.is;
      uuid = ap uuid_in (sym word) ∙ sym c.uuid_in.ensures ∙ c.in-Some-uuid_in.is;
      written = refl;
      counts = rw (word, count) at (sym c.counts_in.ensures.value) ∙ c.in-Some-counts_in.is;
    }

pub returns-clause-read : goal.returns-clause-read
returns-clause-read c =
    let word : c.cut_at-2.result.0.now ≡ word_part c.args.line.now = c.cut_at-2.ensures.before ∙ ap (before_first is_space) c.cut_at.ensures.after in
    let count : c.cut_at-2.result.1.now ≡ count_part c.args.line.now = c.cut_at-2.ensures.after ∙ ap (after_first is_space) c.cut_at.ensures.after in
    record {
      bytes = c.in-Some-uuid_in.uuid;
      stamp = ap stamp_in (sym c.cut_at.ensures.before) ∙ sym c.read.ensures.value ∙ c.in-Some.is;
      uuid = ap uuid_in (sym word) ∙ sym c.uuid_in.ensures ∙ c.in-Some-uuid_in.is;
      written = c.in_ok-uuid.ensures.text;
      counts = rw (word, count) at (sym c.counts_in.ensures.value) ∙ c.in-Some-counts_in.is;
    }

pub returns-clause-writable : goal.returns-clause-writable
returns-clause-writable c = record {
  uuid = (c.in-Some-uuid_in.uuid, c.in_ok-uuid.ensures.parsed, c.in_ok-uuid.ensures.text);
  chunk = c.in-Some-counts_in.ensures.chunk;
  nanos = c.in-Some.ensures.small;
}
