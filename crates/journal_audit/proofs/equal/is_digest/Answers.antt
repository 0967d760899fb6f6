use Rattle.std.proofs.Common.{rules, ◌≡◌, ◌↔◌, sym, ap, ◌∙◌}
use Rattle.std.proofs.lemmas.Slice.Eq.{bytes_eq-Decides}
use Rattle.ann_digest.specs.declared.digest.Digest.{Digest}
use Rattle.journal_model.proofs.SameDigest.{same_digest}
use Rattle.journal_audit.proofs.equal.is_digest.Goals as goal

pub returns-then-digest-other : goal.returns-then-digest-other
returns-then-digest-other c =
    let d = bytes_eq-Decides c.args.digest.now.bytes c.args.other.now.bytes in (
      λ h. same_digest c.args.digest.now c.args.other.now (d.0 (sym c.eq.ensures ∙ h)) c.if-digest-other.true,
      λ h. c.eq.ensures ∙ d.1 (ap (λ (x : Digest). x.bytes) h),
    )
