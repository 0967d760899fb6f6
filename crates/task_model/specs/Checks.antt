-- What a check asks, and how it is answered.
use Rattle.std.specs.Prelude.{ℕ, ◌≡◌, ◌==◌, ◌&&◌, not, Bool, List, [], ◌∷◌, length, Option, Some, None, count_by}
use Rattle.std.specs.Bool.{MatchBool}
use Rattle.std.specs.List.{list_all, list_any, filter_map, zip}
use Rattle.ann_key.specs.Keys.{Parts}
use Rattle.journal_model.specs.declared.verdict.Verdict.{Verdict}
use Rattle.journal_model.specs.declared.verdict.Verdict.TheVariants.{Unknown as UnknownAt}
use Rattle.annex_model.specs.Messages.{HostMessage, Checkpresent}
use Rattle.task_model.specs.Askers.{Asking}
use Rattle.journal_model.specs.declared.answer.Answer.{Answer}
use Rattle.journal_model.specs.declared.answer.Answer.TheVariants.{Present, Absent, Unknown}
use Rattle.task_model.specs.Stops.{is_done}
use Rattle.task_model.specs.Requests.{rounds, RoundsAsk}

abbrev pub present_request : ℕ → List ℕ → HostMessage
present_request n key = Checkpresent key

-- all keys of the layout were asked for, and are there
abbrev pub is_there : List Parts × List Asking → Bool
is_there tried = length tried.1 == length tried.0 && list_all is_done tried.1

abbrev pub unknown_at : Verdict → Option Answer
unknown_at (UnknownAt at) = Some (Unknown at)
unknown_at _ = None

abbrev pub first_or : {X : Type 0} → X → List X → X
first_or other [] = other
first_or other (x ∷ xs) = x

-- the first Unknown, and where there is none Absent
abbrev pub not_there : List Asking → Answer
not_there asked = first_or Absent (filter_map (λ (a : Asking). unknown_at a.verdict) asked)

-- Layout after layout, whether its keys are there, in their order, until one isn't.
pub record CheckAsks (layouts : List (List Parts)) (asked : List Asking) : Type 0 where
  pub in_order : RoundsAsk present_request 1 layouts (rounds asked)

-- Present exactly where all keys of a layout are there. Else a key of each layout isn't, and the answer is the first Unknown or Absent.
pub record CheckAnswers (layouts : List (List Parts)) (asked : List Asking) (answer : Answer) : Type 0 where
  pub found : MatchBool (list_any is_there (zip layouts (rounds asked))) (answer ≡ Present)
      ((count_by (λ a. not (is_done a)) asked ≡ length layouts) × (answer ≡ not_there asked))
