use Rattle.ann_key.specs.KeyRefs.{parts_of}
use Rattle.task_run.proofs.KeysAt.{piece_read, piece_sent}
use Rattle.task_run.proofs.layouts.key_at.Goals as goal

pub returns-else-chunk-eq0-clause-read : goal.returns-else-chunk-eq0-clause-read
returns-else-chunk-eq0-clause-read c = piece_read _ (parts_of c.args.key) _ _ c.if-chunk-eq0.false c.piece.ensures

pub returns-else-chunk-eq0-clause-sent : goal.returns-else-chunk-eq0-clause-sent
returns-else-chunk-eq0-clause-sent c = piece_sent _ c.args.key.text.now (parts_of c.args.key) _ _ c.args.key.spelled c.requires.sent c.piece.ensures
