-- Notes stand in one order.
use Rattle.std.specs.Cmp.{IsTotalOrder, nat_cmp_total, on_total, then_total}
use Rattle.std.specs.Cmp.Lexicographic.{nat_list_cmp_total}
use Rattle.task_text.specs.ChunkLog.NoteBooks.{place_cmp}

pub places_ordered : IsTotalOrder place_cmp
places_ordered =
    then_total (then_total (on_total (λ n. n.key) nat_list_cmp_total) (on_total (λ n. n.line.uuid) nat_list_cmp_total)) (on_total (λ n. n.line.chunk) nat_cmp_total)
