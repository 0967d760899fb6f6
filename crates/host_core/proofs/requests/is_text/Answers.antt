use Rattle.std.proofs.Common.{◌≡◌, ◌∙◌, ap, refl, Bool, true, false, not}
use Rattle.std.specs.Prelude.{◌&&◌}
use Rattle.std.specs.Str.{is_utf8}
use Rattle.std.proofs.lemmas.Str.{IsUtf8-from_is_utf8, is_utf8-from_IsUtf8}
use Rattle.annex_model.specs.Lines.{has_newline}
use Rattle.host_core.proofs.requests.is_text.Goals as goal
use Rattle.ann_key.proofs.Booleans.{never_true as is_false}

with_utf8 : (u n : Bool) → u ≡ true → not n ≡ (u && not n)
with_utf8 true n h = refl
with_utf8 false n h = absurd cc

without : (u n : Bool) → u ≡ false → false ≡ (u && not n)
without true n h = absurd cc
without false n h = refl

pub returns-in-Ok : goal.returns-in-Ok
returns-in-Ok c =
    let file = c.args.file.now in
    ap not c.has_byte.ensures ∙ with_utf8 (is_utf8 file) (has_newline file) (is_utf8-from_IsUtf8 file c.in-Ok.ensures.cases.1)

pub returns-in-Err : goal.returns-in-Err
returns-in-Err c =
    let file = c.args.file.now in
    without (is_utf8 file) (has_newline file) (is_false (is_utf8 file) (λ h. c.in-Err.ensures.cases.0 (IsUtf8-from_is_utf8 file h)))
