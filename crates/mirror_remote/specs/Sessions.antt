-- Lists of calls of a mirror.
use Rattle.std.specs.Prelude.{◌≡◌, Bool, true, false, List, [], ◌∷◌, Result, Ok}
use Rattle.ann_key.specs.declared.bytes.NoMemory.{NoMemory}
use Rattle.annex_model.specs.Messages.{HostMessage, Transfer, Checkpresent, Remove}
use Rattle.journal_model.specs.declared.verdict.Verdict.{Verdict}
use Rattle.kit_serve.specs.declared.kit.call.Said.{Said}
use Rattle.kit_serve.specs.declared.kit.call.Said.TheVariants.{Yes, Set}
use Rattle.kit_serve.specs.declared.kit.call.Asked.{Asked}
use Rattle.kit_serve.specs.declared.kit.call.Asked.TheVariants.{Prepare as AskPrepare, Initialize as AskInitialize, Store as AskStore, Retrieve as AskRetrieve, Check as AskCheck, Remove as AskRemove}
use Rattle.mirror_children.specs.Children.{ChildValue}
use Rattle.mirror_children.specs.Rule.{IsAsked, is_done, RulesAll, RulesCheck, RulesRetrieve}
use Rattle.mirror_remote.specs.Starts.Outcomes.{MirrorValue}
use Rattle.mirror_remote.specs.Mirrors.{Prepares}

-- what was asked of a mirror, and what it answered
pub record Called : Type 0 where
  pub asked : Asked
  pub answer : Result Said NoMemory

-- all but the children is as before
abbrev pub RestStays : MirrorValue → MirrorValue → Type 0
RestStays old new = (new.logs ≡ old.logs) × (new.programs ≡ old.programs)

-- what each of the five calls keeps to
abbrev pub Keeps : Asked → Result Said NoMemory → MirrorValue → MirrorValue → Type 0
Keeps (AskPrepare values) answer old new = Prepares values old new answer
Keeps (AskInitialize values) answer old new = Prepares values old new answer
Keeps (AskStore key file) answer old new = RulesAll (Transfer true key file) old.children new.children answer × RestStays old new
Keeps (AskRetrieve key file) answer old new = RulesRetrieve (Transfer false key file) old.children new.children answer × RestStays old new
Keeps (AskCheck key) answer old new = RulesCheck (Checkpresent key) old.children new.children answer × RestStays old new
Keeps (AskRemove key) answer old new = RulesAll (Remove key) old.children new.children answer × RestStays old new

-- these calls were made, one after the other, and each kept to its rule
abbrev pub AreCalls : MirrorValue → List Called → MirrorValue → Type 0
AreCalls old [] new = new ≡ old
AreCalls old (call ∷ calls) new = (mid : MirrorValue) × Keeps call.asked call.answer old mid × AreCalls mid calls new

-- nothing has been prepared
abbrev pub IsFresh : MirrorValue → Type 0
IsFresh m = (m.children ≡ []) × (m.logs ≡ [])

abbrev pub is_prepare : Asked → Bool
is_prepare (AskPrepare values) = true
is_prepare (AskInitialize values) = true
is_prepare asked = false

-- whether a mirror is prepared after a call, by whether it was so before
abbrev pub prepared_by : Asked → Result Said NoMemory → Bool → Bool
prepared_by (AskPrepare values) (Ok Yes) was = true
prepared_by (AskPrepare values) (Ok (Set pairs)) was = true
prepared_by (AskPrepare values) answer was = false
prepared_by (AskInitialize values) (Ok Yes) was = true
prepared_by (AskInitialize values) (Ok (Set pairs)) was = true
prepared_by (AskInitialize values) answer was = false
prepared_by asked answer was = was

-- the last prepare said Yes, or the mirror was prepared before and there was none
abbrev pub is_prepared_after : Bool → List Called → Bool
is_prepared_after was [] = was
is_prepared_after was (call ∷ calls) = is_prepared_after (prepared_by call.asked call.answer was) calls

-- each child was asked, and did it
abbrev pub AllDid : HostMessage → List ChildValue → List ChildValue → Type 0
AllDid q [] [] = Unit {0}
AllDid q (c ∷ cs) (c' ∷ cs') = ((v : Verdict) × IsAsked q c c' v × (is_done v ≡ true)) × AllDid q cs cs'
AllDid q _ _ = ⊥
