use Rattle.wire_msg.proofs.host.export_request.Goals as goal

pub returns : goal.returns
returns c = rw (← c.if-is_word.ensures, ← c.if-is_word-2.ensures) c.export_change.ensures
