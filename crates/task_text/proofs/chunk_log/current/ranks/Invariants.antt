use Rattle.task_text.proofs.ChunkLogLemmas.AtRemote.{AreRanking}
use Rattle.task_text.proofs.chunk_log.current.ranks.Given as goal

abbrev pub invariant-loop-note : goal.invariant-loop-note
invariant-loop-note l = AreRanking l.key l.uuid l.notes.keys l.note-iterator l.ranks.items
