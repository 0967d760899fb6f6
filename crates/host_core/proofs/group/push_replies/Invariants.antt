use Rattle.std.proofs.Common.{◌≡◌, ◌+◌, ◌≤◌, ◌++◌, length, map, sum_by, vec_len}
use Rattle.journal_model.specs.declared.entry.What.TheVariants.{Put}
use Rattle.journal_model.specs.Due.{made_by}
use Rattle.host_core.proofs.group.push_replies.Given as goal

abbrev pub invariant-loop-lines : goal.invariant-loop-lines
invariant-loop-lines l = record {
  entries : l.journal.entries ++ made_by l.by (map (λ line. Put l.child l.job line) l.lines.items)
      ≡ l.initial.journal.entries ++ made_by l.by (map (λ line. Put l.child l.job line) l.initial.lines.items);
  kept : l.journal.room ≡ l.initial.journal.room;
  spare : sum_by (λ line. length line) l.lines.items ≤ l.journal.spare;
  room : length l.journal.entries + length l.lines.items ≤ l.journal.room;
}

abbrev pub decreases-loop-lines : goal.decreases-loop-lines
decreases-loop-lines l = vec_len l.lines
