use Rattle.std.proofs.Common.{sym}
use Rattle.std.specs.Str.{is_utf8}
use Rattle.std.proofs.lemmas.Str.{IsUtf8-from_is_utf8, is_utf8-from_IsUtf8}
use Rattle.kit_async_model.proofs.due.is_text.Goals as goal
use Rattle.ann_key.proofs.Booleans.{never_true as is_false}

pub returns-in-Ok : goal.returns-in-Ok
returns-in-Ok c = sym (is_utf8-from_IsUtf8 c.args.bytes.now c.in-Ok.ensures.cases.1)

pub returns-in-Err : goal.returns-in-Err
returns-in-Err c = sym (is_false (is_utf8 c.args.bytes.now) (λ h. c.in-Err.ensures.cases.0 (IsUtf8-from_is_utf8 c.args.bytes.now h)))
