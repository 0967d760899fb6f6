-- The mirror rule: which children a call asks, in which order, and what it says.
use Rattle.std.specs.Prelude.{ℕ, ◌≡◌, ◌==◌, ◌&&◌, ◌||◌, not, Bool, true, false, if◌then◌else◌, List, [], ◌∷◌, ◌++◌, length, None, Result, Ok, Err, IfSome, codes, decimal}
use Rattle.std.specs.List.{list_all, list_any, before_first}
use Rattle.ann_key.specs.declared.bytes.NoMemory.{NoMemory}
use Rattle.annex_model.specs.Messages.{HostMessage, Transfer, Checkpresent, Remove, is_sent_key}
use Rattle.journal_model.specs.declared.verdict.Verdict.{Verdict}
use Rattle.journal_model.specs.declared.verdict.Verdict.TheVariants.{Done, Failed, Absent, Unknown, Unsupported, Ended, Unsent}
use Rattle.journal_model.specs.declared.entry.Entry.{Entry}
use Rattle.journal_model.specs.Legality.{is_text}
use Rattle.journal_model.specs.Output.{text_at}
use Rattle.journal_model.specs.Due.{replies_at}
use Rattle.journal_model.specs.Parts.{part}
use Rattle.journal_model.specs.Projection.{Ends, final_in}
use Rattle.host_core.specs.Steps.{next_job}
use Rattle.journal_model.specs.Shares.{is_memory}
use Rattle.child_link.specs.Alone.{AskedAlone}
use Rattle.kit_serve.specs.declared.kit.call.Said.{Said}
use Rattle.kit_serve.specs.declared.kit.call.Said.TheVariants.{Yes, No, Failure}
use Rattle.mirror_children.specs.Children.{ChildValue}

-- ---- verdicts

abbrev pub is_done : Verdict → Bool
is_done (Done at) = true
is_done v = false

abbrev pub is_absent : Verdict → Bool
is_absent (Absent at) = true
is_absent v = false

-- the child ended because memory ran out
abbrev pub is_starved : Verdict → Bool
is_starved (Ended why) = is_memory why
is_starved v = false

-- ---- which children are asked

-- a request that a mirror puts to a child that is prepared: its key can stand in a message, and its file is named by text on one line
abbrev pub is_mirrored : HostMessage → Bool
is_mirrored (Transfer store key file) = is_text file && is_sent_key key
is_mirrored (Checkpresent key) = is_sent_key key
is_mirrored (Remove key) = is_sent_key key
is_mirrored q = false

-- Where a line gave the verdict, the part of the child's next job is a whole conversation about this request, which ends so at that line.
abbrev pub IsTold : HostMessage → ChildValue → ChildValue → Verdict → Type 0
IsTold q old new v = IfSome (final_in v) (λ f. Ends (replies_at new.opening new.journal) q (part new.journal 1 (next_job old.journal 1)) f.0 f.1)

-- the request was put to the child, as its next job, and came to this verdict, or it was lost, since the child had ended or was mute
pub record IsAsked (q : HostMessage) (old new : ChildValue) (v : Verdict) : Type 0 where
  pub asked : AskedAlone old.opening old.journal new.journal 0 1 0 None q v
  pub told : IsTold q old new v
  pub opening : new.opening ≡ old.opening
  pub number : new.number ≡ old.number

-- nothing was asked of the child
pub record IsAsBefore (old new : ChildValue) : Type 0 where
  pub journal : new.journal ≡ old.journal
  pub opening : new.opening ≡ old.opening
  pub number : new.number ≡ old.number

abbrev pub AreAsBefore : List ChildValue → List ChildValue → Type 0
AreAsBefore [] [] = Unit {0}
AreAsBefore (c ∷ cs) (c' ∷ cs') = IsAsBefore c c' × AreAsBefore cs cs'
AreAsBefore _ _ = ⊥

-- it goes on so, or nothing more was asked
abbrev pub GoesOn : Bool → Type 0 → List ChildValue → List ChildValue → List Verdict → Type 0
GoesOn true More cs cs' vs = More
GoesOn false More cs cs' vs = AreAsBefore cs cs' × (vs ≡ [])

-- One child after the other was asked, each as long as the verdict before it passes the test, and came to these verdicts. Nothing was asked of
-- the others.
abbrev pub AsksFront : (Verdict → Bool) → HostMessage → List ChildValue → List ChildValue → List Verdict → Type 0
AsksFront goes q cs cs' [] = AreAsBefore cs cs'
AsksFront goes q (c ∷ cs) (c' ∷ cs') (v ∷ vs) = IsAsked q c c' v × GoesOn (goes v) (AsksFront goes q cs cs' vs) cs cs' vs
AsksFront goes q _ _ _ = ⊥

-- no more of these children are to be asked: the last verdict doesn't pass the test, or each child was asked
abbrev pub is_enough : (Verdict → Bool) → List ChildValue → List Verdict → Bool
is_enough goes cs vs = not (list_all goes vs) || length vs == length cs

-- ---- what is said

-- a failure for this reason, with the number of the mirror. It is cut before a byte 10, which no line holds
abbrev pub failure : List ℕ → Said
failure text = Failure (before_first (λ b. b == 10) text)

abbrev pub mirror_failure : ℕ → List ℕ → Said
mirror_failure n text = failure (codes "mirror" ++ decimal n ++ codes ": " ++ text)

-- why it isn't done: the text of the line that said so, or a word
abbrev pub verdict_text : List Entry → Verdict → List ℕ
verdict_text journal (Done at) = []
verdict_text journal (Failed at) = text_at journal at
verdict_text journal (Absent at) = codes "absent"
verdict_text journal (Unknown at) = text_at journal at
verdict_text journal (Unsupported at) = codes "unsupported"
verdict_text journal (Ended why) = codes "ended"
verdict_text journal Unsent = codes "unsent"

abbrev pub refusal : ChildValue → Verdict → Said
refusal c v = mirror_failure c.number (verdict_text c.journal v)

-- the refusal of the child that was asked last
abbrev pub last_refusal : List ChildValue → List Verdict → Said
last_refusal (c ∷ cs) (v ∷ []) = refusal c v
last_refusal (c ∷ cs) (v ∷ w ∷ vs) = last_refusal cs (w ∷ vs)
last_refusal _ _ = No

-- a store and a remove: each child has to do it
abbrev pub all_said : List ChildValue → List Verdict → Said
all_said cs vs = if list_all is_done vs then Yes else last_refusal cs vs

-- a check: each child has to have it, and one that says it has not decides
abbrev pub check_said : List ChildValue → List Verdict → Said
check_said cs vs = if list_all is_done vs then Yes else if list_any is_absent vs then No else last_refusal cs vs

-- a retrieve: one child has to give it
abbrev pub retrieve_said : List ChildValue → List Verdict → Said
retrieve_said cs vs = if list_any is_done vs then Yes else failure (codes "no mirror gave it")

-- ---- a call

-- children were asked as long as it goes on so, none of them ended because memory ran out, and it is said what their verdicts say
pub record Answers (goes : Verdict → Bool) (q : HostMessage) (says : List ChildValue → List Verdict → Said) (old new : List ChildValue) (said : Said) : Type 0 where
  pub verdicts : List Verdict
  pub asked : AsksFront goes q old new verdicts
  pub enough : is_enough goes old verdicts ≡ true
  pub fed : list_any is_starved verdicts ≡ false
  pub is : said ≡ says new verdicts

-- a mirror without children says that it isn't prepared
abbrev pub AnswersOver : (Verdict → Bool) → HostMessage → (List ChildValue → List Verdict → Said) → List ChildValue → List ChildValue → Said → Type 0
AnswersOver goes q says [] new said = (new ≡ []) × (said ≡ failure (codes "not prepared"))
AnswersOver goes q says (c ∷ cs) new said = Answers goes q says (c ∷ cs) new said

-- the same of a call that is out of memory: some children were asked
abbrev pub Rules : (Verdict → Bool) → HostMessage → (List ChildValue → List Verdict → Said) → List ChildValue → List ChildValue → Result Said NoMemory → Type 0
Rules goes q says old new (Ok said) = AnswersOver goes q says old new said
Rules goes q says old new (Err e) = (vs : List Verdict) × AsksFront goes q old new vs

-- store, check and remove go on while it is done, and retrieve goes on while it isn't
abbrev pub RulesAll : HostMessage → List ChildValue → List ChildValue → Result Said NoMemory → Type 0
RulesAll q old new result = Rules is_done q all_said old new result

abbrev pub RulesCheck : HostMessage → List ChildValue → List ChildValue → Result Said NoMemory → Type 0
RulesCheck q old new result = Rules is_done q check_said old new result

abbrev pub RulesRetrieve : HostMessage → List ChildValue → List ChildValue → Result Said NoMemory → Type 0
RulesRetrieve q old new result = Rules (λ v. not (is_done v)) q retrieve_said old new result
