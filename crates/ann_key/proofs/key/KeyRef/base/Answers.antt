use Rattle.std.proofs.Common.{◌≡◌, ◌++◌, List, ℕ, ap, sym, ◌∙◌, subst, append-nil}
use Rattle.ann_key.specs.Keys.{Parts, IsKey, without_chunk}
use Rattle.ann_key.specs.KeyRefs.{parts_of}
use Rattle.ann_key.proofs.Spelling.{spelled_of_read}
use Rattle.ann_key.proofs.key.KeyRef.base.Goals as goal

pub returns : goal.returns
returns c =
    let key = c.args.self.now in
    let parts : Parts = without_chunk (parts_of key) in
    let whole : c.in_ok-text.text ≡ key.head.now ++ key.tail.now =
    c.in_ok-text.ensures ∙ ap (λ (x : List ℕ). x ++ key.tail.now) (append-nil key.head.now) in
    subst (λ (x : List ℕ). IsKey x parts) (sym whole) (spelled_of_read (key.head.now ++ key.tail.now) parts key.outside)
