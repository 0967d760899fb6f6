-- The event that is made for a claim, a request, a name or a line appends it, if it may stand. The other kinds need no lemma.
use Rattle.std.proofs.Common.{◌≡◌, ◌≢◌, ◌⊎◌, inl, inr, ℕ, List, [], ◌∷◌, ◌++◌, refl, sym, ap, subst, ◌∙◌, Bool, true, false, cond, not, Option, Some, None}
use Rattle.std.specs.Prelude.{◌&&◌, ◌||◌, ◌==◌, option_and_then, IfOk, IfSome, IsNone, Result, Ok, Err, bytes_eq}
use Rattle.ann_key.specs.declared.bytes.NoMemory.{NoMemory}
use Rattle.std.specs.Str.{is_utf8}
use Rattle.std.specs.List.{list_any}
use Rattle.std.proofs.lemmas.Slice.Eq.{bytes_eq-Decides}
use Rattle.annex_model.specs.Lines.{has_newline}
use Rattle.annex_model.specs.Messages.{HostMessage, Export, Checkpresentexport, host_line, host_reading, is_askable}
use Rattle.annex_model.specs.Talks.{has_lead}
use Rattle.annex_model.specs.Turns.{is_at}
use Rattle.annex_model.specs.declared.turn.Turn.TheVariants.{Later}
use Rattle.journal_model.specs.declared.entry.What.{What}
use Rattle.journal_model.specs.declared.entry.What.TheVariants.{Claim, Lead, Ask, Got, Lost, Answer as Answered, Again}
use Rattle.journal_model.specs.declared.answer.Answer.{Answer}
use Rattle.journal_model.specs.declared.entry.Entry.{Entry}
use Rattle.journal_model.specs.declared.opening.Opening.{Opening}
use Rattle.journal_model.specs.Due.{made_by}
use Rattle.journal_model.specs.Journal.{each_of, is_started, is_ended, is_mute, is_live, is_full, addressed, on_wire}
use Rattle.journal_model.specs.Legality.{MayStand, asks_job, claimed_for, is_led, least_free, is_prepared, is_in_turn, is_text, may_ask, may_come, may_lead, is_number, is_claimed_by, is_run_again, has_open_job, asks_in_turn, needs_lead, says_name}
use Rattle.journal_model.proofs.Looks.{entry}
use Rattle.journal_model.proofs.Named.{same_addressed, same_ask}
use Rattle.annex_model.proofs.Classes.{askable_test}
use Rattle.journal_model.proofs.Asking.{read_askable}
use Rattle.host_core.proofs.Opened.{turn_asks}
use Rattle.host_talk.specs.declared.request.request.Request.{Request}
use Rattle.host_talk.specs.declared.request.request.Request.TheVariants.{CheckExport}
use Rattle.host_talk.specs.Request.Requests.{message_of, name_of, is_request}
use Rattle.host_talk.proofs.RequestLemmas.Reading.{unnamed}
use Rattle.host_core.specs.declared.event.Event.TheVariants.{Claim as ClaimEvent, Ask as AskEvent, Got as GotEvent, Answer as AnswerEvent}
use Rattle.host_core.specs.declared.event.Reply.TheVariants.{Job}
use Rattle.host_core.specs.Steps.{Step, step_of, group_of, append, asking, odd, gone, is_named_well, next_job, next_on_wire, may_request}
use Rattle.journal_audit.specs.Replays.{AsksAfter, IsLedBy, MayBeNext, Pairs, Says, SaysName, Suits, name_in}
use Rattle.std.proofs.lemmas.Bool.{not-true as is_not, ne_eqb as differ, eqb-true as same_number, and_parts as both}
use Rattle.host_core.proofs.Choosing.{live, numbered, claim_chosen as claimed}
use Rattle.host_core.proofs.Stepping.{unnamed as leadless}

-- ---- the claim of the least free task

pub suits_claim : (o : Opening) (past : List Entry) (by : ℕ) (w : What) (task child : ℕ) → w ≡ Claim task child → Suits o past by w (Some (ClaimEvent child))
suits_claim o past by w task child is = subst (λ (v : What). Suits o past by v (Some (ClaimEvent child))) (sym is) (λ h. go by h)
  where
    go : (by : ℕ) → may_come o past by (Claim task child) ≡ true → (step_of o past by (ClaimEvent child)).group ≡ group_of o past by (Claim task child)
    go by h =
        let t = both (is_number task (least_free o past)) ((child == 0 && by == 0) || (is_prepared past child && is_live past child && not (is_mute past child))) h in
        claimed o past by task child (child == 0 && by == 0) refl (numbered task (least_free o past) t.0) t.1

-- ---- a task that is answered, or to be run again

pub suits_answer : (o : Opening) (past : List Entry) (by : ℕ) (w : What) (task : ℕ) (answer : Answer) → w ≡ Answered task answer → Suits o past by w (Some (AnswerEvent task answer))
suits_answer o past by w task answer is = subst (λ (v : What). Suits o past by v (Some (AnswerEvent task answer))) (sym is) (λ h. go h)
  where
    go : may_come o past by (Answered task answer) ≡ true → (step_of o past by (AnswerEvent task answer)).group ≡ group_of o past by (Answered task answer)
    go h =
        let t = both (is_claimed_by past by task && not (has_open_job past task)) (not (is_run_again o past task answer)) h in
        rw (t.0, is_not (is_run_again o past task answer) t.1) refl

pub suits_again : (o : Opening) (past : List Entry) (by : ℕ) (w : What) (task : ℕ) (answer : Answer) → w ≡ Again task answer → Suits o past by w (Some (AnswerEvent task answer))
suits_again o past by w task answer is = subst (λ (v : What). Suits o past by v (Some (AnswerEvent task answer))) (sym is) (λ h. go h)
  where
    go : may_come o past by (Again task answer) ≡ true → (step_of o past by (AnswerEvent task answer)).group ≡ group_of o past by (Again task answer)
    go h =
        let t = both (is_claimed_by past by task && not (has_open_job past task)) (is_run_again o past task answer) h in
        rw (t.0, t.1) refl

-- ---- a request

-- what was read asks the message, or no request does
pub read_asks : (o : Option Request) (r : Request) (m : HostMessage) → IfSome o (λ x. message_of x ≡ m) → o ≡ Some r → message_of r ≡ m
read_asks o r m asks is = subst (λ (x : Option Request). IfSome x (λ y. message_of y ≡ m)) is asks

pub read_none : (o : Option Request) (m : HostMessage) → (IsNone o → is_request m ≡ false) → o ≡ None → is_request m ≡ false
read_none o m none is = none (subst (λ (x : Option Request). IsNone x) (sym is) refl)

-- ---- what an event that asks appends, where the child is there

-- a step by its tests
may_be_asked : (may well ended mute : Bool) (lost made : Step) → may ≡ true → well ≡ true → ended ≡ false → mute ≡ false → (cond (may && well) (cond (ended || mute) lost made) odd).group ≡ made.group
may_be_asked true true false false lost made p q r s = refl
may_be_asked true true false true lost made p q r s = absurd cc
may_be_asked true true true mute lost made p q r s = absurd cc
may_be_asked true false ended mute lost made p q r s = absurd cc
may_be_asked false well ended mute lost made p q r s = absurd cc

may_be_lost : (may gone : Bool) (lost made : Step) → may ≡ true → gone ≡ true → (cond (may && true) (cond gone lost made) odd).group ≡ lost.group
may_be_lost true true lost made p q = refl
may_be_lost true false lost made p q = absurd cc
may_be_lost false gone lost made p q = absurd cc

may_not : (may : Bool) (s : Step) → may ≡ false → (cond may s odd).group ≡ []
may_not true s h = absurd cc
may_not false s h = refl

module _ (o : Opening) (past : List Entry) (by child task : ℕ) (r : Request) (q : HostMessage) (n : Option (List ℕ)) (is : message_of r ≡ q) (says : name_of r ≡ n) where
  abbrev Stepped : HostMessage → Option (List ℕ) → List Entry
  Stepped x k = (cond (may_request past by task child x && is_named_well k) (cond (is_ended past child || is_mute past child) (append o past by (Lost child task) (gone past child))
      (record { reply = Job (next_job past child); group = made_by by (asking past task child k x) })) odd).group

  stepped : (step_of o past by (AskEvent child task r)).group ≡ Stepped q n
  stepped =
      let plain : (step_of o past by (AskEvent child task r)).group ≡ Stepped q (name_of r) =
      subst (λ (x : HostMessage). (step_of o past by (AskEvent child task r)).group ≡ Stepped x (name_of r)) is refl in
      subst (λ (k : Option (List ℕ)). (step_of o past by (AskEvent child task r)).group ≡ Stepped q k) says plain

  asked : may_request past by task child q ≡ true → is_named_well n ≡ true → is_ended past child ≡ false → is_mute past child ≡ false
      → (step_of o past by (AskEvent child task r)).group ≡ made_by by (asking past task child n q)
  asked may well e m =
      stepped
      ∙ may_be_asked (may_request past by task child q) (is_named_well n) (is_ended past child) (is_mute past child) (append o past by (Lost child task) (gone past child))
      (record { reply = Job (next_job past child); group = made_by by (asking past task child n q) }) may well e m

  refused : (may_request past by task child q && is_named_well n) ≡ false → (step_of o past by (AskEvent child task r)).group ≡ []
  refused never =
      stepped
      ∙ may_not (may_request past by task child q && is_named_well n)
      (cond (is_ended past child || is_mute past child) (append o past by (Lost child task) (gone past child))
      (record { reply = Job (next_job past child); group = made_by by (asking past task child n q) })) never

-- the parts of what is said of a request that may come
module _ (o : Opening) (past : List Entry) (by child job task : ℕ) (line : List ℕ) (may : may_come o past by (Ask child job task line) ≡ true) where
  all : ((is_live past child && not (is_mute past child) && job == next_job past child && asks_in_turn past child job line (host_reading (addressed past child line).1)) ≡ true) × (may_ask past by task child ≡ true)
  all = both (is_live past child && not (is_mute past child) && job == next_job past child && asks_in_turn past child job line (host_reading (addressed past child line).1)) (may_ask past by task child) may

  turned : ((is_live past child && not (is_mute past child) && job == next_job past child) ≡ true) × (asks_in_turn past child job line (host_reading (addressed past child line).1) ≡ true)
  turned = both (is_live past child && not (is_mute past child) && job == next_job past child) (asks_in_turn past child job line (host_reading (addressed past child line).1)) all.0

  next : ((is_live past child && not (is_mute past child)) ≡ true) × ((job == next_job past child) ≡ true)
  next = both (is_live past child && not (is_mute past child)) (job == next_job past child) turned.0

  there : (is_live past child ≡ true) × (not (is_mute past child) ≡ true)
  there = both (is_live past child) (not (is_mute past child)) next.0

  ask_may : may_ask past by task child ≡ true
  ask_may = all.1

  ask_started : is_started past child ≡ true
  ask_started = (live past child there.0).0

  ask_live : is_ended past child ≡ false
  ask_live = (live past child there.0).1

  ask_heard : is_mute past child ≡ false
  ask_heard = is_not (is_mute past child) there.1

  ask_next : job ≡ next_job past child
  ask_next = same_number job (next_job past child) next.1

  ask_turn : (q : HostMessage) → host_reading (addressed past child line).1 ≡ Some q → (is_in_turn past child job q ≡ true) × (bytes_eq line (on_wire past child job (host_line q)) ≡ true)
  ask_turn q reads =
      both (is_in_turn past child job q) (bytes_eq line (on_wire past child job (host_line q)))
      (subst (λ (x : Option HostMessage). asks_in_turn past child job line x ≡ true) reads turned.1)

  ask_request : (q : HostMessage) → host_reading (addressed past child line).1 ≡ Some q → may_request past by task child q ≡ true
  ask_request q reads =
      let turn : is_in_turn past child (next_job past child) q ≡ true = ap (λ (k : ℕ). is_in_turn past child k q) (sym ask_next) ∙ (ask_turn q reads).0 in
      rw (ask_started, ask_may, turn, askable_test q (read_askable q (addressed past child line).1 reads)) refl

  ask_written : (q : HostMessage) → host_reading (addressed past child line).1 ≡ Some q → next_on_wire past child q ≡ line
  ask_written q reads =
      ap (λ (k : ℕ). on_wire past child k (host_line q)) (sym ask_next) ∙ sym ((bytes_eq-Decides line (on_wire past child job (host_line q))).0 (ask_turn q reads).1)

-- ---- a request without a name

pub suits_ask : (o : Opening) (past : List Entry) (by child job task : ℕ) (line text : List ℕ) (m : HostMessage) (r : Request)
    → text ≡ (addressed past child line).1 → Some m ≡ host_reading text → message_of r ≡ m
    → Suits o past by (Ask child job task line) (Some (AskEvent child task r))
suits_ask o past by child job task line text m r plain reading request = λ may. (
    let reads : host_reading (addressed past child line).1 ≡ Some m = ap host_reading (sym plain) ∙ sym reading in
    let x = both (not (needs_lead past (Ask child job task line))) (may_come o past by (Ask child job task line)) may in
    let free : has_lead (message_of r) ≡ false = ap has_lead request ∙ is_not (has_lead m) (subst (λ (q : Option HostMessage). not (is_led q) ≡ true) reads x.0) in
    let written = ask_written o past by child job task line x.1 m reads in
    let next = ask_next o past by child job task line x.1 in
    asked o past by child task r m None request (unnamed r free) (ask_request o past by child job task line x.1 m reads) refl
    (ask_live o past by child job task line x.1) (ask_heard o past by child job task line x.1)
    ∙ (rw (written, sym next) refl))

-- a line that is no request's may not be asked
pub suits_unread : (o : Opening) (past : List Entry) (by child job task : ℕ) (line text : List ℕ)
    → text ≡ (addressed past child line).1 → None ≡ host_reading text → Suits o past by (Ask child job task line) None
suits_unread o past by child job task line text plain reading = λ may. (
    let reads : host_reading (addressed past child line).1 ≡ None = ap host_reading (sym plain) ∙ sym reading in
    let x = both (not (needs_lead past (Ask child job task line))) (may_come o past by (Ask child job task line)) may in
    let no : false ≡ true = subst (λ (q : Option HostMessage). asks_in_turn past child job line q ≡ true) reads (turned o past by child job task line x.1).1 in
    cc)

-- nor may one whose message is no request's
pub suits_none : (o : Opening) (past : List Entry) (by child job task : ℕ) (line text : List ℕ) (m : HostMessage)
    → text ≡ (addressed past child line).1 → Some m ≡ host_reading text → is_request m ≡ false → Suits o past by (Ask child job task line) None
suits_none o past by child job task line text m plain reading none = λ may. (
    let reads : host_reading (addressed past child line).1 ≡ Some m = ap host_reading (sym plain) ∙ sym reading in
    let x = both (not (needs_lead past (Ask child job task line))) (may_come o past by (Ask child job task line)) may in
    let no : true ≡ false = sym (turn_asks past child job m (ask_turn o past by child job task line x.1 m reads).0) ∙ none in
    cc)

pub suits_lost : (o : Opening) (past : List Entry) (by child task : ℕ) (r : Request) → MayBeNext past child r → Suits o past by (Lost child task) (Some (AskEvent child task r))
suits_lost o past by child task r next = λ h. (
    let t = both (is_started past child && (is_ended past child || is_mute past child)) (may_ask past by task child) h in
    let u = both (is_started past child) (is_ended past child || is_mute past child) t.0 in
    let request : may_request past by task child (message_of r) ≡ true = rw (u.0, t.1, next.turn, next.askable) refl in
    stepped o past by child task r (message_of r) None refl next.plain
    ∙ may_be_lost (may_request past by task child (message_of r)) (is_ended past child || is_mute past child) (append o past by (Lost child task) (gone past child))
    (record { reply = Job (next_job past child); group = made_by by (asking past task child None (message_of r)) }) request u.1)

-- ---- a name

-- the parts of what is said of a name that may stand
module _ (o : Opening) (past : List Entry) (by child job : ℕ) (line name : List ℕ) (reads : host_reading (addressed past child line).1 ≡ Some (Export name))
    (may : MayStand o past [] (entry by (Lead child job line))) where
  name_all : ((is_live past child && not (is_mute past child) && job == next_job past child && says_name past child job line (host_reading (addressed past child line).1)) ≡ true) × (may_lead past by child ≡ true)
  name_all = both (is_live past child && not (is_mute past child) && job == next_job past child && says_name past child job line (host_reading (addressed past child line).1)) (may_lead past by child) may

  name_says : ((is_live past child && not (is_mute past child) && job == next_job past child) ≡ true) × (says_name past child job line (host_reading (addressed past child line).1) ≡ true)
  name_says = both (is_live past child && not (is_mute past child) && job == next_job past child) (says_name past child job line (host_reading (addressed past child line).1)) name_all.0

  name_is_next : ((is_live past child && not (is_mute past child)) ≡ true) × ((job == next_job past child) ≡ true)
  name_is_next = both (is_live past child && not (is_mute past child)) (job == next_job past child) name_says.0

  name_there : (is_live past child ≡ true) × (not (is_mute past child) ≡ true)
  name_there = both (is_live past child) (not (is_mute past child)) name_is_next.0

  name_started : is_started past child ≡ true
  name_started = (live past child name_there.0).0

  name_live : is_ended past child ≡ false
  name_live = (live past child name_there.0).1

  name_heard : is_mute past child ≡ false
  name_heard = is_not (is_mute past child) name_there.1

  name_next : job ≡ next_job past child
  name_next = same_number job (next_job past child) name_is_next.1

  name_told : (is_text name ≡ true) × (bytes_eq line (on_wire past child job (host_line (Export name))) ≡ true)
  name_told = both (is_text name) (bytes_eq line (on_wire past child job (host_line (Export name))))
      (subst (λ (x : Option HostMessage). says_name past child job line x ≡ true) reads name_says.1)

  name_well : is_text name ≡ true
  name_well = name_told.0

  name_written : next_on_wire past child (Export name) ≡ line
  name_written =
      ap (λ (k : ℕ). on_wire past child k (host_line (Export name))) (sym name_next)
      ∙ sym ((bytes_eq-Decides line (on_wire past child job (host_line (Export name)))).0 name_told.1)

  name_lead : (is_at Later (next_job past child) ≡ true) × (list_any (λ t. may_ask past by t child) (0 ∷ each_of (claimed_for child) past) ≡ true)
  name_lead = both (is_at Later (next_job past child)) (list_any (λ t. may_ask past by t child) (0 ∷ each_of (claimed_for child) past)) name_all.1

  -- an event that asks with this name says it first
  name_first : (task : ℕ) (r : Request) (q : HostMessage) → message_of r ≡ q → name_of r ≡ Some name → may_request past by task child q ≡ true
      → (step_of o past by (AskEvent child task r)).group ≡ entry by (Lead child job line) ∷ entry by (Ask child job task (next_on_wire past child q)) ∷ []
  name_first task r q is says may =
      asked o past by child task r q (Some name) is says may name_well name_live name_heard
      ∙ ap (λ (x : List ℕ). entry by (Lead child (next_job past child) x) ∷ entry by (Ask child (next_job past child) task (next_on_wire past child q)) ∷ []) name_written
      ∙ ap (λ (k : ℕ). entry by (Lead child k line) ∷ entry by (Ask child k task (next_on_wire past child q)) ∷ []) (sym name_next)

  -- or nothing
  name_or_nothing : (task : ℕ) (r : Request) → name_of r ≡ Some name
      → ((step_of o past by (AskEvent child task r)).group ≡ []) ⊎ ((rest : List Entry) × ((step_of o past by (AskEvent child task r)).group ≡ entry by (Lead child job line) ∷ rest))
  name_or_nothing task r says = go (may_request past by task child (message_of r)) refl
    where
      go : (b : Bool) → may_request past by task child (message_of r) ≡ b
          → ((step_of o past by (AskEvent child task r)).group ≡ []) ⊎ ((rest : List Entry) × ((step_of o past by (AskEvent child task r)).group ≡ entry by (Lead child job line) ∷ rest))
      go true h = inr (entry by (Ask child job task (next_on_wire past child (message_of r))) ∷ [], name_first task r (message_of r) refl says h)
      go false h = inl (refused o past by child task r (message_of r) (Some name) refl says (rw h refl))

-- a line of which a name is read says it
pub said : (r : Option HostMessage) (name : List ℕ) → Some name ≡ option_and_then name_in r → r ≡ Some (Export name)
said (Some (Export n)) name h = let same : name ≡ n = cc in ap (λ (x : List ℕ). Some (Export x)) (sym same)
said (Some q) name h = absurd cc
said None name h = absurd cc

-- and one of which none is read may not stand as a name
pub unsaid : (o : Opening) (past : List Entry) (by child job : ℕ) (line : List ℕ) → None ≡ option_and_then name_in (host_reading (addressed past child line).1)
    → MayStand o past [] (entry by (Lead child job line)) → ⊥
unsaid o past by child job line none may = go (host_reading (addressed past child line).1) none says
  where
    says : says_name past child job line (host_reading (addressed past child line).1) ≡ true
    says = (both (is_live past child && not (is_mute past child) && job == next_job past child) (says_name past child job line (host_reading (addressed past child line).1))
        (both (is_live past child && not (is_mute past child) && job == next_job past child && says_name past child job line (host_reading (addressed past child line).1)) (may_lead past by child) may).0).1

    go : (r : Option HostMessage) → None ≡ option_and_then name_in r → says_name past child job line r ≡ true → ⊥
    go (Some (Export n)) none h = cc
    go (Some q) none h = cc
    go None none h = cc

-- no task may ask, so no name may be said
pub no_name : (o : Opening) (past : List Entry) (by child : ℕ) (name : List ℕ) → ((t : ℕ) → may_ask past by t child ≡ false) → (job : ℕ) (line : List ℕ)
    → host_reading (addressed past child line).1 ≡ Some (Export name) → SaysName o past by child job line None
no_name o past by child name none job line reads = λ may. absurd (
    let lead = (name_lead o past by child job line name reads may).1 in
    let no : false ≡ true = sym (nobody (0 ∷ each_of (claimed_for child) past)) ∙ lead in
    cc)
  where
    nobody : (xs : List ℕ) → list_any (λ (t : ℕ). may_ask past by t child) xs ≡ false
    nobody [] = refl
    nobody (x ∷ xs) = rw (none x, nobody xs) refl

-- nor may one that is no text
no_text_name : (o : Opening) (past : List Entry) (by child job : ℕ) (line name : List ℕ) → is_utf8 name ≡ false → Says past child line name → MayStand o past [] (entry by (Lead child job line)) → ⊥
no_text_name o past by child job line name bad reads may =
    let text = both (is_utf8 name) (not (has_newline name)) (name_well o past by child job line name reads may) in
    let no : false ≡ true = sym bad ∙ text.0 in
    cc

pub text_says : (past : List Entry) (c : ℕ) (line bytes : List ℕ) (r : Result (Option (List ℕ)) NoMemory) → Says past c line bytes → IfOk r (λ x. IfSome x (λ t. t ≡ bytes))
    → IfOk r (λ x. IfSome x (λ t. Says past c line t))
text_says past c line bytes (Ok (Some t)) reads same = subst (λ (n : List ℕ). Says past c line n) (sym same) reads
text_says past c line bytes (Ok None) reads same = tt
text_says past c line bytes (Err e) reads same = tt

pub text_never : (o : Opening) (past : List Entry) (c : ℕ) (line bytes : List ℕ) (r : Result (Option (List ℕ)) NoMemory) → Says past c line bytes → IfOk r (λ x. IsNone x → is_utf8 bytes ≡ false)
    → IfOk r (λ x. IsNone x → (by job : ℕ) → MayStand o past [] (record { by = by; what = Lead c job line }) → ⊥)
text_never o past c line bytes (Ok (Some t)) reads bad = λ none. absurd cc
text_never o past c line bytes (Ok None) reads bad = λ none by job may. no_text_name o past by c job line bytes (bad none) reads may
text_never o past c line bytes (Err e) reads bad = tt

-- some task may ask, by a check of this name
pub some_name : (o : Opening) (past : List Entry) (by child task : ℕ) (key name : List ℕ) → may_ask past by task child ≡ true → is_askable (Checkpresentexport key) ≡ true
    → (job : ℕ) (line : List ℕ) → host_reading (addressed past child line).1 ≡ Some (Export name) → SaysName o past by child job line (Some (AskEvent child task (CheckExport key name)))
some_name o past by child task key name ask sendable job line reads = λ may. (
    let later : is_at Later (next_job past child) ≡ true = (name_lead o past by child job line name reads may).0 in
    let request : may_request past by task child (Checkpresentexport key) ≡ true = rw (name_started o past by child job line name reads may, ask, later, sendable) refl in (
      entry by (Ask child job task (next_on_wire past child (Checkpresentexport key))) ∷ [],
      name_first o past by child job line name reads may task (CheckExport key name) (Checkpresentexport key) refl refl request,
    ))

-- ---- what is asked after a name

pub after_unread : (name : List ℕ) (reading : Option HostMessage) → None ≡ reading → AsksAfter name reading None
after_unread name reading none = λ q is. absurd (let bad : None ≡ Some q = none ∙ is in cc)

pub after_none : (name : List ℕ) (reading : Option HostMessage) (m : HostMessage) → Some m ≡ reading → is_request m ≡ false → AsksAfter name reading None
after_none name reading m is never = λ q there. (
    let found : Some m ≡ Some q = is ∙ there in
    let same : m ≡ q = cc in
    subst (λ (x : HostMessage). (has_lead x && is_request x) ≡ false) same (right (has_lead m) (is_request m) never))
  where
    right : (a b : Bool) → b ≡ false → (a && b) ≡ false
    right true b h = h
    right false b h = refl

pub after_named : (name : List ℕ) (reading : Option HostMessage) (m : HostMessage) (r : Request) (n : List ℕ) (x : Option Request) → Some m ≡ reading → message_of r ≡ m → n ≡ name
    → IfSome x (λ y. message_of y ≡ message_of r) → IfSome x (λ y. name_of y ≡ Some n) → (IsNone x → name_of r ≡ None) → AsksAfter name reading x
after_named name reading m r n (Some y) is asks same keeps named none = (sym is ∙ ap Some (sym asks) ∙ ap Some (sym keeps), named ∙ ap Some same)
after_named name reading m r n None is asks same keeps named none = λ q there. (
    let found : Some m ≡ Some q = is ∙ there in
    let same : m ≡ q = cc in
    let plain : has_lead q ≡ false = ap has_lead (sym same) ∙ ap has_lead (sym asks) ∙ leadless r (none refl) in
    (rw plain refl))

-- ---- a name and the next entry

-- what is said of the next entry, if the name leads it
module _ (o : Opening) (past : List Entry) (by child job : ℕ) (line : List ℕ) (f : Entry) (due : IsLedBy o past by child job line f) where
  abbrev named : List Entry
  named = past ++ entry by (Lead child job line) ∷ []

  led_come : ((f.by == by && asks_job child job f.what && needs_lead named f.what) ≡ true) × (may_come o named f.by f.what ≡ true)
  led_come = both (f.by == by && asks_job child job f.what && needs_lead named f.what) (may_come o named f.by f.what) due

  led_needs : ((f.by == by && asks_job child job f.what) ≡ true) × (needs_lead named f.what ≡ true)
  led_needs = both (f.by == by && asks_job child job f.what) (needs_lead named f.what) led_come.0

  led_asks : ((f.by == by) ≡ true) × (asks_job child job f.what ≡ true)
  led_asks = both (f.by == by) (asks_job child job f.what) led_needs.0

  led_mine : f.by ≡ by
  led_mine = same_number f.by by led_asks.0

-- it asks this child by a request that is read of its line
module _ (o : Opening) (past : List Entry) (by child job : ℕ) (line name : List ℕ) (reads : host_reading (addressed past child line).1 ≡ Some (Export name)) where
  -- the parts of an entry that asks this child
  came_after : (b k task : ℕ) (asks : List ℕ) → IsLedBy o past by child job line (entry b (Ask child k task asks)) → may_come o past by (Ask child k task asks) ≡ true
  came_after b k task asks due =
      let f : Entry = entry b (Ask child k task asks) in
      sym (same_ask past by child job line o child k task asks)
      ∙ subst (λ (n : ℕ). may_come o (past ++ entry by (Lead child job line) ∷ []) n (Ask child k task asks) ≡ true) (led_mine o past by child job line f due) (led_come o past by child job line f due).1

  pub pairs_ask : (b k task : ℕ) (asks : List ℕ) (r : Request) → AsksAfter name (host_reading (addressed past child asks).1) (Some r)
      → Pairs o past by child job line (Some (entry b (Ask child k task asks))) (Some (AskEvent child task r))
  pairs_ask b k task asks r reading = record {
    first = λ may. name_or_nothing o past by child job line name reads may task r reading.1;
    both = go;
  }
    where
      l : Entry
      l = entry by (Lead child job line)

      go : MayStand o past [] l → (f : Entry) → Some (entry b (Ask child k task asks)) ≡ Some f → IsLedBy o past by child job line f
          → (step_of o past by (AskEvent child task r)).group ≡ l ∷ f ∷ []
      go may f is due =
          let same : entry b (Ask child k task asks) ≡ f = cc is in
          let d : IsLedBy o past by child job line (entry b (Ask child k task asks)) = subst (IsLedBy o past by child job line) (sym same) due in
          let asking = led_asks o past by child job line (entry b (Ask child k task asks)) d in
          let this : k ≡ job = same_number k job (both (child == child) (k == job) asking.1).1 in
          let mine : b ≡ by = led_mine o past by child job line (entry b (Ask child k task asks)) d in
          let came = came_after b k task asks d in
          let q = message_of r in
          let request : may_request past by task child q ≡ true = ask_request o past by child k task asks came q reading.0 in
          let written : next_on_wire past child q ≡ asks = ask_written o past by child k task asks came q reading.0 in
          name_first o past by child job line name reads may task r q refl reading.1 request
          ∙ ap (λ (w : List ℕ). l ∷ entry by (Ask child job task w) ∷ []) written
          ∙ ap (λ (j : ℕ). l ∷ entry by (Ask child j task asks) ∷ []) (sym this)
          ∙ ap (λ (n : ℕ). l ∷ entry n (Ask child k task asks) ∷ []) (sym mine)
          ∙ ap (λ (e : Entry). l ∷ e ∷ []) same

  -- where no such request is read, the name doesn't lead it
  pub pairs_unread : (b k task : ℕ) (asks : List ℕ) → AsksAfter name (host_reading (addressed past child asks).1) None
      → Pairs o past by child job line (Some (entry b (Ask child k task asks))) None
  pairs_unread b k task asks none = record { first = λ may. inl refl; both = λ may f is due. absurd (go may f is due) }
    where
      go : MayStand o past [] (entry by (Lead child job line)) → (f : Entry) → Some (entry b (Ask child k task asks)) ≡ Some f → IsLedBy o past by child job line f → ⊥
      go may f is due =
          let same : entry b (Ask child k task asks) ≡ f = cc is in
          let d : IsLedBy o past by child job line (entry b (Ask child k task asks)) = subst (IsLedBy o past by child job line) (sym same) due in
          let came = came_after b k task asks d in
          let lead : is_led (host_reading (addressed past child asks).1) ≡ true =
          ap (λ (x : Option ℕ × List ℕ). is_led (host_reading x.1)) (sym (same_addressed past by child job line child asks)) ∙ (led_needs o past by child job line (entry b (Ask child k task asks)) d).1 in
          by_reading (host_reading (addressed past child asks).1) refl lead came
        where
          by_reading : (x : Option HostMessage) → host_reading (addressed past child asks).1 ≡ x → is_led x ≡ true → may_come o past by (Ask child k task asks) ≡ true → ⊥
          by_reading None is lead came = cc
          by_reading (Some q) is lead came =
              let request : is_request q ≡ true = turn_asks past child k q (ask_turn o past by child k task asks came q is).0 in
              let no : false ≡ true = sym (none q is) ∙ (rw (lead, request) refl) in
              cc

-- the next entry asks this child
pub pairs_led : (o : Opening) (past : List Entry) (by child job : ℕ) (line name : List ℕ) (f : Entry) (asked k task : ℕ) (asks : List ℕ) (r : Request) → f.what ≡ Ask asked k task asks → asked ≡ child
    → AsksAfter name (host_reading (addressed past child asks).1) (Some r) → Says past child line name → Pairs o past by child job line (Some f) (Some (AskEvent child task r))
pairs_led o past by child job line name f asked k task asks r is mine after reads =
    let what : f.what ≡ Ask child k task asks = is ∙ ap (λ (c : ℕ). Ask c k task asks) mine in
    subst (λ (w : What). Pairs o past by child job line (Some (entry f.by w)) (Some (AskEvent child task r))) (sym what) (pairs_ask o past by child job line name reads f.by k task asks r after)

pub pairs_unled : (o : Opening) (past : List Entry) (by child job : ℕ) (line name : List ℕ) (f : Entry) (asked k task : ℕ) (asks : List ℕ) → f.what ≡ Ask asked k task asks → asked ≡ child
    → AsksAfter name (host_reading (addressed past child asks).1) None → Says past child line name → Pairs o past by child job line (Some f) None
pairs_unled o past by child job line name f asked k task asks is mine after reads =
    let what : f.what ≡ Ask child k task asks = is ∙ ap (λ (c : ℕ). Ask c k task asks) mine in
    subst (λ (w : What). Pairs o past by child job line (Some (entry f.by w)) None) (sym what) (pairs_unread o past by child job line name reads f.by k task asks after)

-- nor another entry
pub pairs_other : (o : Opening) (past : List Entry) (by child job : ℕ) (line : List ℕ) (f : Entry) → asks_job child job f.what ≡ false → Pairs o past by child job line (Some f) None
pairs_other o past by child job line f other = record { first = λ may. inl refl; both = λ may g is due. absurd (go g is due) }
  where
    go : (g : Entry) → Some f ≡ Some g → IsLedBy o past by child job line g → ⊥
    go g is due =
        let same : f ≡ g = cc is in
        let d : IsLedBy o past by child job line f = subst (IsLedBy o past by child job line) (sym same) due in
        let no : false ≡ true = sym other ∙ (led_asks o past by child job line f d).1 in
        cc

-- nor one that asks another child
pub pairs_elsewhere : (o : Opening) (past : List Entry) (by child job : ℕ) (line : List ℕ) (f : Entry) (asked k task : ℕ) (asks : List ℕ) → f.what ≡ Ask asked k task asks → asked ≢ child
    → Pairs o past by child job line (Some f) None
pairs_elsewhere o past by child job line f asked k task asks is other =
    pairs_other o past by child job line f (ap (asks_job child job) is ∙ (rw (differ asked child other) refl))

pub pairs_nothing : (o : Opening) (past : List Entry) (by child job : ℕ) (line : List ℕ) → Pairs o past by child job line None None
pairs_nothing o past by child job line = record { first = λ may. inl refl; both = λ may f is due. absurd cc }

-- ---- a line

pub suits_got : (o : Opening) (past : List Entry) (by child : ℕ) (said line : List ℕ) → said ≡ line → Suits o past by (Got child line) (Some (GotEvent child said))
suits_got o past by child said line is = subst (λ (l : List ℕ). Suits o past by (Got child l) (Some (GotEvent child said))) is (λ h. go by h)
  where
    go : (by : ℕ) → (is_live past child && not (has_newline said) && not (is_full past)) ≡ true → (step_of o past by (GotEvent child said)).group ≡ group_of o past by (Got child said)
    go by h =
        let a = both (is_live past child && not (has_newline said)) (not (is_full past)) h in
        let t = both (is_live past child) (not (has_newline said)) a.0 in
        let l = live past child t.0 in
        rw (l.0, is_not (has_newline said) t.1, l.1, is_not (is_full past) a.1) refl
