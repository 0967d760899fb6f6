use Rattle.std.proofs.Common.{◌≡◌, codes, refl, rules, arith}
use Rattle.std.proofs.lemmas.Slice.Eq.{text_from_reads}
use Rattle.ann_digest.proofs.hash_kind.kind_of.Goals as goal

pub returns-in-SHA224 : goal.returns-in-SHA224
returns-in-SHA224 c =
    let e : c.args.backend.now ≡ codes "SHA224" = text_from_reads c.args.backend.now (codes "SHA224") (omega arith) (search rules) in
    rw e refl

pub returns-in-SHA256 : goal.returns-in-SHA256
returns-in-SHA256 c =
    let e : c.args.backend.now ≡ codes "SHA256" = text_from_reads c.args.backend.now (codes "SHA256") (omega arith) (search rules) in
    rw e refl

pub returns-in-SHA384 : goal.returns-in-SHA384
returns-in-SHA384 c =
    let e : c.args.backend.now ≡ codes "SHA384" = text_from_reads c.args.backend.now (codes "SHA384") (omega arith) (search rules) in
    rw e refl

pub returns-in-SHA512 : goal.returns-in-SHA512
returns-in-SHA512 c =
    let e : c.args.backend.now ≡ codes "SHA512" = text_from_reads c.args.backend.now (codes "SHA512") (omega arith) (search rules) in
    rw e refl
