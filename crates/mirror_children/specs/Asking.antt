-- What asking one child after the other comes to.
use Rattle.std.specs.Prelude.{ℕ, ◌≡◌, not, Bool, true, false, List, ◌++◌, ◌∷◌, [], length, slice_index_or, slice_set, Result, Ok, Err}
use Rattle.std.specs.List.{list_all, list_any}
use Rattle.ann_key.specs.declared.bytes.NoMemory.{NoMemory}
use Rattle.annex_model.specs.Messages.{HostMessage}
use Rattle.journal_model.specs.declared.verdict.Verdict.{Verdict}
use Rattle.mirror_children.specs.Children.{ChildValue}
use Rattle.mirror_children.specs.Rule.{AsksFront, IsAsBefore, IsAsked, is_done, is_enough, is_starved}

-- as long as it is done, or as long as it isn't
abbrev pub goes_while : Bool → (Verdict → Bool)
goes_while true = is_done
goes_while false = λ v. not (is_done v)

-- the child at this place was asked, and came to this verdict
abbrev pub AsksAt : HostMessage → ℕ → List ChildValue → List ChildValue → Verdict → Type 0
AsksAt q at old new v = (c : ChildValue) × (c' : ChildValue) × (slice_index_or old at c ≡ c) × IsAsked q c c' v × (new ≡ slice_set old at c')

-- nothing was asked of it
abbrev pub LeavesAt : ℕ → List ChildValue → List ChildValue → Type 0
LeavesAt at old new = (c : ChildValue) × (c' : ChildValue) × (slice_index_or old at c ≡ c) × IsAsBefore c c' × (new ≡ slice_set old at c')

-- those before the last one went on so, and the last verdict was that of the child at this place
pub record AskedTo (goes : Verdict → Bool) (q : HostMessage) (old new : List ChildValue) (at : ℕ) (last : Verdict) : Type 0 where
  pub before : List Verdict
  pub place : length before ≡ at
  pub asked : AsksFront goes q old new (before ++ last ∷ [])
  pub went : list_all goes before ≡ true
  pub enough : is_enough goes old (before ++ last ∷ []) ≡ true
  pub fed : list_any is_starved (before ++ last ∷ []) ≡ false

abbrev pub AsksEach : (Verdict → Bool) → HostMessage → List ChildValue → List ChildValue → Result (ℕ × Verdict) NoMemory → Type 0
AsksEach goes q old new (Ok asked) = AskedTo goes q old new asked.0 asked.1
AsksEach goes q old new (Err e) = (vs : List Verdict) × AsksFront goes q old new vs
