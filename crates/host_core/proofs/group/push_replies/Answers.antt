use Rattle.std.proofs.Common.{◌≡◌, ◌∙◌, ◌+◌, ◌<◌, ◌++◌, [], ◌∷◌, ℕ, List, ap, map, length, length-append, sum_by, vec_len, arith}
use Rattle.std.specs.Prelude.{remove}
use Rattle.journal_model.specs.declared.entry.What.TheVariants.{Put}
use Rattle.journal_model.specs.Due.{made_by}
use Rattle.host_core.proofs.Pushing.{bytes_less, reply_pushed, one_fewer, nonzero}
use Rattle.host_core.proofs.group.push_replies.Goals as goal

pub loop-lines-preserved : goal.loop-lines-preserved
loop-lines-preserved c =
    let xs : List (List ℕ) = c.loop-lines.lines.items in
    let some : 0 < length xs = omega (arith, nonzero (vec_len c.loop-lines.lines) c.loop-lines-test.ensures, c.loop-lines.lines.ok.0) in
    let fewer : length (remove xs 0) + 1 ≡ length xs = one_fewer xs some in
    let left : length c.remove-line.new.self.items ≡ length (remove xs 0) = ap length c.remove-line.ensures.items in
    let lighter : sum_by (λ (line : List ℕ). length line) (remove xs 0) + length c.remove-line.result ≡ sum_by (λ (line : List ℕ). length line) xs = bytes_less xs c.remove-line.result some c.remove-line.ensures.value in
    let lightened : sum_by (λ (line : List ℕ). length line) c.remove-line.new.self.items ≡ sum_by (λ (line : List ℕ). length line) (remove xs 0) = ap (sum_by (λ (line : List ℕ). length line)) c.remove-line.ensures.items in
    let longer : length c.push.new.journal.entries ≡ length c.loop-lines.journal.entries + 1 = ap length c.push.ensures.entries ∙ length-append c.loop-lines.journal.entries (made_by c.args.by (Put c.args.child c.args.job c.remove-line.result ∷ [])) in
    record {
      entries = ap (λ (ys : List (List ℕ)). c.push.new.journal.entries ++ made_by c.args.by (map (λ line. Put c.args.child c.args.job line) ys)) c.remove-line.ensures.items
          ∙ reply_pushed c.args.by c.args.child c.args.job c.loop-lines.journal.entries c.push.new.journal.entries xs c.remove-line.result some c.remove-line.ensures.value c.push.ensures.entries
          ∙ c.loop-lines.invariant.entries;
      kept = c.push.ensures.room ∙ c.loop-lines.invariant.kept;
      spare = omega (arith, lighter, lightened, c.push.ensures.spare, c.loop-lines.invariant.spare);
      room = omega (arith, fewer, left, longer, c.push.ensures.room, c.loop-lines.invariant.room);
    }
