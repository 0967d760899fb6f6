-- What a drop asks and notes, and how it is answered.
use Rattle.std.specs.Prelude.{ℕ, ◌≡◌, ◌+◌, ◌==◌, nat_le, nat_lt, true, if◌then◌else◌, List, [], ◌∷◌, length, take, Some, count_by}
use Rattle.std.specs.Bool.{MatchBool}
use Rattle.std.specs.List.{list_all, flat_map}
use Rattle.ann_key.specs.Keys.{Parts}
use Rattle.annex_model.specs.Messages.{HostMessage, Remove}
use Rattle.task_model.specs.Askers.{Asking, Noting}
use Rattle.journal_model.specs.declared.answer.Answer.{Answer}
use Rattle.journal_model.specs.declared.answer.Answer.TheVariants.{Dropped}
use Rattle.task_model.specs.Stops.{is_done, all_but_last, last_failed}
use Rattle.task_model.specs.Requests.{AskInOrder}
use Rattle.task_model.specs.Layouts.{keys_of_layout}

abbrev pub remove_request : ℕ → List ℕ → HostMessage
remove_request n key = Remove key

-- the keys of all layouts
abbrev pub keys_dropped : Parts → List ℕ → List Parts
keys_dropped key sizes = flat_map (keys_of_layout key) sizes

-- The notes of a whole drop: after the last key of each chunk layout, that there are none of these chunks. Of the layouts,
-- `after` keys come before these.
abbrev pub drop_notes : Parts → ℕ → List ℕ → List Noting
drop_notes key behind [] = []
drop_notes key behind (chunk ∷ sizes) =
    if chunk == 0 then drop_notes key (behind + length (keys_of_layout key chunk)) sizes
    else record { chunk = chunk; count = 0; behind = behind + length (keys_of_layout key chunk) }
    ∷ drop_notes key (behind + length (keys_of_layout key chunk)) sizes

-- The remote is asked to remove the keys of layout after layout, in their order. All were removed but perhaps the last. The note
-- of a chunk layout stands after its last key, once that was removed, and before the next request.
pub record DropAsks (key : Parts) (sizes : List ℕ) (asked : List Asking) (noted : List Noting) : Type 0 where
  pub in_order : AskInOrder remove_request 1 (keys_dropped key sizes) asked
  pub each_done : list_all is_done (all_but_last asked) ≡ true
  pub notes : noted ≡ take (length noted) (drop_notes key 0 sizes)
  pub notes_late : list_all (λ (note : Noting). nat_le note.behind (count_by is_done asked)) noted ≡ true
  pub notes_soon : nat_le (count_by (λ (note : Noting). nat_lt note.behind (length asked)) (drop_notes key 0 sizes)) (length noted) ≡ true

-- Dropped exactly where every key was removed, of which the plain one is the last. Else the last request failed.
pub record DropAnswers (key : Parts) (sizes : List ℕ) (asked : List Asking) (answer : Answer) : Type 0 where
  pub dropped : MatchBool (count_by is_done asked == length (keys_dropped key sizes)) (answer ≡ Dropped) (last_failed asked ≡ Some answer)
