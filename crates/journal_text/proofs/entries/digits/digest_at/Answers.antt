use Rattle.std.proofs.Common.{◌≡◌, ◌≤◌, ℕ, List, Some, Option, true, cond, length, None, sym, ap, ◌∙◌, arith}
use Rattle.std.specs.Prelude.{nat_le}
use Rattle.std.proofs.lemmas.Bool.Decides.{nat_tests}
use Rattle.ann_digest.specs.declared.digest.Digest.{Digest}
use Rattle.journal_text.specs.Entries.Digits.{digest_from, digest_of}
use Rattle.journal_text.proofs.entries.digits.digest_at.Goals as goal

few : (n : ℕ) → n ≤ 64 → nat_le n 64 ≡ true
few n h = grind (arith, nat_tests)

pub returns-then-len-le64 : goal.returns-then-len-le64
returns-then-len-le64 c =
    let given : List ℕ = c.in-Ok.given.items in
    let short : length c.as_slice.result.now ≤ 64 = omega arith in
    let long : length c.in-Ok.given.items ≤ 64 = rw c.as_slice.ensures.value at short in
    ap (λ (d : Digest). Some d) (c.digest_of.ensures ∙ ap digest_of c.as_slice.ensures.value)
    ∙ sym (ap digest_from c.in-Ok.ensures.ok ∙ ap (λ b. cond {A = Option Digest} b (Some (digest_of c.in-Ok.given.items)) None) (few (length c.in-Ok.given.items) long))
