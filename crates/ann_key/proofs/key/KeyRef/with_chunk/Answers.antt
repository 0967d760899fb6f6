use Rattle.std.proofs.Common.{◌≡◌, ◌++◌, ◌∷◌, List, ℕ, ap, sym, ◌∙◌, subst}
use Rattle.std.specs.Prelude.{is_some}
use Rattle.std.specs.Fmt.{decimal}
use Rattle.ann_key.specs.Keys.{Parts, IsKey, without_chunk, with_chunk}
use Rattle.ann_key.specs.KeyRefs.{parts_of}
use Rattle.ann_key.proofs.Spelling.{spelled_of_read, read_of_spelled}
use Rattle.ann_key.proofs.Chunks.{chunk_key, fields_are}
use Rattle.ann_key.proofs.key.KeyRef.with_chunk.Goals as goal

spelled : (c : goal.In_ok-text) → IsKey c.in_ok-text.text (with_chunk c.args.size c.args.number (parts_of c.args.self.now))
spelled c =
    let key = c.args.self.now in
    let parts : Parts = parts_of key in
    let fields : List ℕ = 45 ∷ 83 ∷ decimal c.args.size ++ 45 ∷ 67 ∷ decimal c.args.number in
    let whole : c.in_ok-text.text ≡ (key.head.now ++ fields) ++ key.tail.now =
    c.in_ok-text.ensures ∙ ap (λ (x : List ℕ). (key.head.now ++ x) ++ key.tail.now) (c.as_bytes.ensures.value ∙ c.in_ok-fields.ensures.ok) in
    let base : IsKey (key.head.now ++ key.tail.now) (without_chunk parts) = spelled_of_read (key.head.now ++ key.tail.now) (without_chunk parts) key.outside in
    subst (λ (x : List ℕ). IsKey x (with_chunk c.args.size c.args.number parts)) (sym whole)
    (chunk_key key.head.now key.tail.now fields parts c.args.size c.args.number base key.ends
    (fields_are c.args.size c.args.number c.ranges.size.fits c.ranges.number.fits c.requires.size c.requires.number))

pub invariant_of-result : goal.invariant_of-result
invariant_of-result c =
    ap (λ r. is_some {T = Parts} r) (read_of_spelled c.in_ok-text.text (with_chunk c.args.size c.args.number (parts_of c.args.self.now)) (spelled c))

pub returns : goal.returns
returns c = spelled c.before
