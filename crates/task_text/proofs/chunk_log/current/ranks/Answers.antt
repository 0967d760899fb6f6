use Rattle.std.proofs.Common.{List, false, not, sym, ap, subst, ◌∙◌}
use Rattle.std.specs.Prelude.{◌&&◌, filter}
use Rattle.std.specs.Ordering.{is_le}
use Rattle.task_text.specs.ChunkLog.NoteBooks.{place_cmp}
use Rattle.task_text.specs.declared.chunk_log.note.Note.{Note}
use Rattle.task_text.specs.declared.chunk_log.standing.Standing.{Standing}
use Rattle.task_text.proofs.ChunkLogLemmas.AtRemote.{AreRanking, begun, ended, gone_on}
use Rattle.task_text.proofs.chunk_log.current.ranks.Goals as goal

pub loop-note-init : goal.loop-note-init
loop-note-init c =
    let from_first = ap (λ (first : Note). filter (λ (x : Note). is_le (place_cmp first x) && not false) c.args.notes.now.keys) c.requires.first in
    subst (λ (ranks : List Standing). AreRanking c.args.key.now c.args.uuid.now c.args.notes.now.keys c.into_iter-note-iterator.result ranks) (sym c.new-ranks.ensures.items)
    (begun c.args.key.now c.args.uuid.now c.args.notes.now.keys c.into_iter-note-iterator.result c.requires.order
    (c.into_iter-note-iterator.ensures.into_iter_gives ∙ c.range-note-items.ensures.between tt ∙ from_first))

pub loop-note-preserved : goal.loop-note-preserved
loop-note-preserved c =
    gone_on c.args.key.now c.args.uuid.now c.args.notes.now.keys c.loop-note.note-iterator c.next.new.self c.in-Some.note.now c.loop-note.ranks.items c.rank_current.new.others.items
    c.loop-note.invariant c.in-Some.ensures.steps c.in_ok-rank_current.ensures

pub returns-then-not-is_at : goal.returns-then-not-is_at
returns-then-not-is_at c =
    ended c.args.key.now c.args.uuid.now c.args.notes.now.keys c.loop-note.note-iterator c.next.new.self c.in-Some.note.now c.loop-note.ranks.items
    c.loop-note.invariant c.in-Some.ensures.steps (sym c.is_at.ensures ∙ c.if-not-is_at.true)
