use Rattle.std.proofs.Common.{ℕ, ◌<◌, false, get_or, rules, arith}
use Rattle.std.proofs.Output.{has_written_append, has_written_of_eq}
use Rattle.std.proofs.lemmas.Fmt.{hex_byte}
use Rattle.hex.specs.Hex.{encode_with}
use Rattle.ann_digest.proofs.HexText.{encode_lower-more}
use Rattle.ann_digest.proofs.digest.DigestDisplay.fmt.Goals as goal

pub loop-byte-init : goal.loop-byte-init
unfolding encode_with
loop-byte-init g c = search rules

pub loop-byte-preserved : goal.loop-byte-preserved
loop-byte-preserved g c = λ p.
    let x : ℕ = get_or c.given-byte-items.result.now c.loop-byte.byte-index 0 in
    let fits : get_or c.given-byte-items.result.now c.loop-byte.byte-index 0 < 256 = omega (arith, c.type_inv.byte-items c.loop-byte.byte-index) in
    has_written_of_eq _ _ _ _ _ (encode_lower-more c.given-byte-items.result.now c.loop-byte.byte-index c.loop-byte-test.true fits)
    (has_written_append _ _ _ _ _ _ (c.loop-byte.invariant p) (has_written_of_eq _ _ _ _ _ (hex_byte false x fits) (search rules)))
