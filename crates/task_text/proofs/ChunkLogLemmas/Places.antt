-- The places of notes.
use Rattle.std.proofs.Common.{◌≡◌, ℕ, true, List, refl, sym, ap, ◌∙◌}
use Rattle.std.specs.Prelude.{◌==◌, ◌&&◌, bytes_eq}
use Rattle.std.specs.Cmp.{IsTotalOrder}
use Rattle.std.specs.Cmp.Lexicographic.{slice_cmp}
use Rattle.std.specs.Ordering.{is_eq, nat_cmp, ordering_then}
use Rattle.std.specs.declared.cmp.Ordering.{Ordering}
use Rattle.std.specs.declared.cmp.Ordering.TheVariants.{Less, Equal, Greater}
use Rattle.std.proofs.lemmas.Bool.{and_parts, eqb-true}
use Rattle.std.proofs.lemmas.Cmp.{tied_itself, ranked}
use Rattle.std.proofs.lemmas.Map.Text.{is_eq-slice_cmp}
use Rattle.std.proofs.lemmas.Slice.Eq.{bytes_eq-Decides}
use Rattle.task_text.specs.ChunkLog.NoteBooks.{is_of, place_cmp}
use Rattle.task_text.specs.ChunkLog.Places.{places_ordered}
use Rattle.task_text.specs.declared.chunk_log.note.Note.{Note}

pub place_total : IsTotalOrder place_cmp
place_total = places_ordered

pub tied : (a b : Ordering) → ordering_then a b ≡ Equal → (a ≡ Equal) × (b ≡ Equal)
tied Less b h = absurd cc
tied Equal b h = (refl, h)
tied Greater b h = absurd cc

pub same_text : (xs ys : List ℕ) → slice_cmp nat_cmp xs ys ≡ Equal → xs ≡ ys
same_text xs ys h = (bytes_eq-Decides xs ys).0 (sym (is_eq-slice_cmp xs ys) ∙ ap is_eq h)

same_number : (x y : ℕ) → nat_cmp x y ≡ Equal → x ≡ y
same_number x y h = ranked x y Equal (sym h)

pub record SamePlace (a b : Note) : Type 0 where
  pub key : a.key ≡ b.key
  pub uuid : a.line.uuid ≡ b.line.uuid
  pub chunk : a.line.chunk ≡ b.line.chunk

pub same_place : (a b : Note) → place_cmp a b ≡ Equal → SamePlace a b
same_place a b h =
    let outer = tied (ordering_then (slice_cmp nat_cmp a.key b.key) (slice_cmp nat_cmp a.line.uuid b.line.uuid)) (nat_cmp a.line.chunk b.line.chunk) h in
    let inner = tied (slice_cmp nat_cmp a.key b.key) (slice_cmp nat_cmp a.line.uuid b.line.uuid) outer.0 in
    record { key = same_text a.key b.key inner.0; uuid = same_text a.line.uuid b.line.uuid inner.1; chunk = same_number a.line.chunk b.line.chunk outer.1 }

-- notes of one place are of the same key, UUID and chunk size
pub is_of-same : (key uuid : List ℕ) (chunk : ℕ) (a b : Note) → place_cmp a b ≡ Equal → is_of key uuid chunk a ≡ is_of key uuid chunk b
is_of-same key uuid chunk a b h = let s = same_place a b h in rw (s.key, s.uuid, s.chunk) refl

-- and the other way round
pub same-is_of : (key uuid : List ℕ) (chunk : ℕ) (a b : Note) → is_of key uuid chunk a ≡ true → is_of key uuid chunk b ≡ true → place_cmp a b ≡ Equal
same-is_of key uuid chunk a b h k =
    let p = and_parts (bytes_eq a.key key && bytes_eq a.line.uuid uuid) (a.line.chunk == chunk) h in
    let q = and_parts (bytes_eq b.key key && bytes_eq b.line.uuid uuid) (b.line.chunk == chunk) k in
    let p2 = and_parts (bytes_eq a.key key) (bytes_eq a.line.uuid uuid) p.0 in
    let q2 = and_parts (bytes_eq b.key key) (bytes_eq b.line.uuid uuid) q.0 in
    let text : b.key ≡ a.key = (bytes_eq-Decides b.key key).0 q2.0 ∙ sym ((bytes_eq-Decides a.key key).0 p2.0) in
    let name : b.line.uuid ≡ a.line.uuid = (bytes_eq-Decides b.line.uuid uuid).0 q2.1 ∙ sym ((bytes_eq-Decides a.line.uuid uuid).0 p2.1) in
    let size : b.line.chunk ≡ a.line.chunk = eqb-true b.line.chunk chunk q.1 ∙ sym (eqb-true a.line.chunk chunk p.1) in
    rw (text, name, size) (tied_itself place_total a)
