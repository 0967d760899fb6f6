-- What a book keeps as a note is added, and what it lends.
use Rattle.std.proofs.Common.{◌≡◌, ℕ, Bool, true, false, cond, List, [], ◌∷◌, ◌++◌, Bor, Result, Ok, Err, All, None, length, map, sym, ap, subst, ◌∙◌, arith}
use Rattle.std.specs.Prelude.{OnOk, OnErr, IsTrue}
use Rattle.std.specs.declared.cmp.Ordering.{Ordering}
use Rattle.std.specs.declared.cmp.Ordering.TheVariants.{Less, Equal, Greater}
use Rattle.std.proofs.lemmas.List.{get_or-map, length-map}
use Rattle.std.proofs.lemmas.List.Elements.{All-cons, All-head, All-nil, All-tail}
use Rattle.ann_key.specs.declared.bytes.NoMemory.{NoMemory}
use Rattle.task_text.specs.ChunkLog.NoteBooks.{counting, in_order, inserted, is_no_later, place_cmp, placed, IsNote}
use Rattle.task_text.specs.declared.chunk_log.note.Note.{Note}
use Rattle.task_text.proofs.ChunkLogLemmas.Counting.{inserted_counts}
use Rattle.task_text.proofs.ChunkLogLemmas.InOrder.{in_order-inserted}

All-inserted : (P : Note → Type 0) (note : Note) (xs : List Note) → P note → All P xs → All P (inserted note xs)
All-inserted P note [] own all = All-cons P note [] own (All-nil P)
All-inserted P note (x ∷ xs) own all =
    go (place_cmp x note) (All-head P x xs all) (All-tail P x xs all) (All-inserted P note xs own (All-tail P x xs all))
  where
    one : (b : Bool) → P x → P (cond b note x)
    one true h = own
    one false h = h

    go : (o : Ordering) → P x → All P xs → All P (inserted note xs) → All P (placed note x xs (inserted note xs) o)
    go Less first rest more = All-cons P x (inserted note xs) first more
    go Equal first rest more = All-cons P (cond (is_no_later x.line.stamp note.line.stamp) note x) xs (one (is_no_later x.line.stamp note.line.stamp) first) rest
    go Greater first rest more = All-cons P note (x ∷ xs) own (All-cons P x xs first rest)

pub kept : (r : Result (Unit {0}) NoMemory) (note : Note) (before after : List Note) → OnOk r (after ≡ inserted note before) → OnErr r (after ≡ before)
    → IsTrue (in_order before) → All IsNote before → IsNote note → IsTrue (in_order after) × All IsNote after
kept (Ok u) note before after ok err order all own =
    subst (λ (l : List Note). IsTrue (in_order l) × All IsNote l) (sym ok) (in_order-inserted note before order, All-inserted IsNote note before own all)
kept (Err e) note before after ok err order all own = subst (λ (l : List Note). IsTrue (in_order l) × All IsNote l) (sym err) (order, all)

pub counted : (r : Result (Unit {0}) NoMemory) (note : Note) (before after : List Note) → OnOk r (after ≡ inserted note before) → IsTrue (in_order before)
    → OnOk r ((key uuid : List ℕ) (chunk : ℕ) → counting after key uuid chunk ≡ counting (before ++ note ∷ []) key uuid chunk)
counted (Ok u) note before after ok order = λ key uuid chunk. ap (λ (l : List Note). counting l key uuid chunk) ok ∙ inserted_counts key uuid chunk note before order None
counted (Err e) note before after ok order = tt

-- notes that are lent are notes
pub lent : (ls : List (Bor Note)) (notes : List Note) → map (λ (n : Bor Note). n.now) ls ≡ notes → All IsNote notes → All (λ (n : Bor Note). IsNote n.now) ls
lent ls notes same all = λ k d within.
    let long : length (map (λ (n : Bor Note). n.now) ls) ≡ length ls = length-map ls (λ (n : Bor Note). n.now) in
    subst IsNote (get_or-map (λ (n : Bor Note). n.now) ls k d d.now within) (subst (All IsNote) (sym same) all k d.now (omega arith))
