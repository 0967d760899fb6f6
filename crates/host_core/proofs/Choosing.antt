-- Each entry that may come is what some event appends first.
use Rattle.std.proofs.Common.{◌≡◌, ℕ, List, [], ◌∷◌, ◌+◌, ◌<◌, ◌^◌, refl, sym, ap, subst, ◌∙◌, Bool, true, false, cond, not, Option, Some, None, arith, inl, inr, length}
use Rattle.std.specs.Prelude.{◌&&◌, ◌||◌, ◌==◌, nat_lt, bytes_eq, codes}
use Rattle.std.proofs.lemmas.Bool.Decides.{nat_tests}
use Rattle.std.proofs.lemmas.Slice.Eq.{bytes_eq-Decides}
use Rattle.journal_model.specs.declared.verdict.Why.{Why}
use Rattle.journal_model.specs.declared.verdict.Why.TheVariants.{Full}
use Rattle.annex_model.specs.Lines.{has_newline}
use Rattle.annex_model.specs.Messages.{HostMessage, AskExtensions, Prepare, Initremote, Transfer, Checkpresent, Remove, Listconfigs, Getcost, Getavailability, Getinfo, Whereis, Exportsupported, Export, Transferexport, Checkpresentexport, Removeexport, Renameexport, Value, Creds, HostError, host_line, host_reading, is_askable}
use Rattle.journal_model.specs.declared.entry.What.{What}
use Rattle.journal_model.specs.declared.entry.What.TheVariants.{Claim, Start, NoStart, Lead, Ask, Put, Sent, Mute, Got, End, Verdict as Settled, Lost, Answer as Answered, Note as Noted, Again}
use Rattle.journal_model.specs.declared.entry.Entry.{Entry}
use Rattle.journal_model.specs.declared.opening.Opening.{Opening}
use Rattle.journal_model.specs.Journal.{any, each_of, offers, is_started, is_ended, is_mute, is_live, unsent, addressed, on_wire, is_full}
use Rattle.journal_model.specs.Legality.{is_empty, count, is_start, least_free, is_prepared, is_in_turn, may_ask, may_stop, may_come, may_lead, MayStand, IsGroup, needs_lead, is_led, says_name, is_text, claimed_for, is_number, asks_in_turn, is_run_again, offered_names}
use Rattle.annex_model.proofs.Classes.{askable_test}
use Rattle.journal_model.proofs.Asking.{read_askable}
use Rattle.host_talk.specs.declared.request.request.Request.{Request}
use Rattle.host_talk.specs.declared.request.request.Request.TheVariants.{Extensions, Prepare as PrepareRequest, InitRemote as InitRemoteRequest, ListConfigs, GetCost, GetAvailability, GetInfo, Transfer as TransferRequest, CheckPresent, Remove as RemoveRequest, WhereIs, ExportSupported, CheckExport}
use Rattle.annex_model.specs.Extensions.{names_of}
use Rattle.annex_model.specs.Talks.{has_lead}
use Rattle.annex_model.specs.Turns.{is_at}
use Rattle.annex_model.specs.declared.turn.Turn.TheVariants.{Later}
use Rattle.journal_model.specs.Due.{due_after, made_by}
use Rattle.journal_model.proofs.Growing.{is_lead}
use Rattle.host_talk.specs.Request.Requests.{message_of, name_of}
use Rattle.host_core.specs.declared.event.Event.{Event}
use Rattle.host_core.specs.declared.event.Event.TheVariants.{Claim as ClaimEvent, Start as StartEvent, NoStart as NoStartEvent, Ask as AskEvent, Got as GotEvent, Stop, Sent as SentEvent, Mute as MuteEvent, Answer as AnswerEvent, Note as NoteEvent}
use Rattle.host_core.specs.declared.event.Reply.TheVariants.{Job}
use Rattle.host_core.specs.Steps.{Step, step_of, group_of, append, odd, gone, claim, next_job, next_on_wire, asking, is_named_well, may_request, may_answer, may_end, Comes, Appends}
use Rattle.host_core.proofs.Stepping.{step_comes}
use Rattle.std.proofs.lemmas.Bool.{not-true as is_not, eqb-true as same_number, and_parts as both}
use Rattle.ann_key.proofs.Lists.{any_some}

pub live : (past : List Entry) (c : ℕ) → is_live past c ≡ true → (is_started past c ≡ true) × (is_ended past c ≡ false)
live past c h = (let t = both (is_started past c) (not (is_ended past c)) h in (t.0, go (is_ended past c) t.1))
  where
    go : (b : Bool) → not b ≡ true → b ≡ false
    go true h = absurd cc
    go false h = refl

-- ---- the claim of the least free task

pub numbered : (t : ℕ) (free : Option ℕ) → is_number t free ≡ true → free ≡ Some t
numbered t None h = absurd cc
numbered t (Some k) h = ap Some (same_number k t h)

claimed : (o : Opening) (past : List Entry) (by t child : ℕ) → least_free o past ≡ Some t → (claim o past by child (least_free o past)).group ≡ group_of o past by (Claim t child)
claimed o past by t child e = ap (λ (free : Option ℕ). (claim o past by child free).group) e

pub claim_chosen : (o : Opening) (past : List Entry) (by t child : ℕ) (main : Bool) → (child == 0 && by == 0) ≡ main → least_free o past ≡ Some t
    → (main || (is_prepared past child && is_live past child && not (is_mute past child))) ≡ true
    → (step_of o past by (ClaimEvent child)).group ≡ group_of o past by (Claim t child)
claim_chosen o past by t child true m e h = rw m (claimed o past by t child e)
claim_chosen o past by t child false m e h =
    let x = both (is_prepared past child && is_live past child) (not (is_mute past child)) h in
    let y = both (is_prepared past child) (is_live past child) x.0 in
    let l = live past child y.1 in
    rw (m, l.0, y.0, l.1, is_not (is_mute past child) x.1) (claimed o past by t child e)

-- ---- a request

-- the request that a message in its turn asks which needs no name
requested : (past : List Entry) (c job : ℕ) (q : HostMessage) → has_lead q ≡ false → is_in_turn past c job q ≡ true → (r : Request) × (message_of r ≡ q) × (name_of r ≡ None)
requested past c job (AskExtensions names) plain h =
    let t = both (job == 0) (bytes_eq names (offered_names past c)) h in
    (Extensions (any (offers c) past), ap AskExtensions (sym ((bytes_eq-Decides names (offered_names past c)).0 t.1)), refl)
requested past c job Prepare plain h = (PrepareRequest, refl, refl)
requested past c job Initremote plain h = (InitRemoteRequest, refl, refl)
requested past c job (Transfer store key file) plain h = (TransferRequest store key file, refl, refl)
requested past c job (Checkpresent key) plain h = (CheckPresent key, refl, refl)
requested past c job (Remove key) plain h = (RemoveRequest key, refl, refl)
requested past c job Listconfigs plain h = (ListConfigs, refl, refl)
requested past c job Getcost plain h = (GetCost, refl, refl)
requested past c job Getavailability plain h = (GetAvailability, refl, refl)
requested past c job Getinfo plain h = (GetInfo, refl, refl)
requested past c job (Whereis key) plain h = (WhereIs key, refl, refl)
requested past c job Exportsupported plain h = (ExportSupported, refl, refl)
requested past c job (Export name) plain h = absurd cc
requested past c job (Transferexport store key file) plain h = absurd cc
requested past c job (Checkpresentexport key) plain h = absurd cc
requested past c job (Removeexport key) plain h = absurd cc
requested past c job (Renameexport key onto) plain h = absurd cc
requested past c job (Value value) plain h = absurd cc
requested past c job (Creds user password) plain h = absurd cc
requested past c job (HostError text) plain h = absurd cc

-- some event gives the entry with what it makes due
abbrev Gives : Opening → List Entry → ℕ → What → Type 0
Gives o past by w = (event : Event) × ((step_of o past by event).group ≡ group_of o past by w)

ask_chosen : (o : Opening) (past : List Entry) (by child job task : ℕ) (line : List ℕ) (r : Option HostMessage)
    → host_reading (addressed past child line).1 ≡ r → is_led r ≡ false → is_started past child ≡ true → is_ended past child ≡ false → is_mute past child ≡ false
    → job ≡ next_job past child → asks_in_turn past child job line r ≡ true → may_ask past by task child ≡ true
    → Gives o past by (Ask child job task line)
ask_chosen o past by child job task line None reads plain s e m j turn may = absurd cc
ask_chosen o past by child job task line (Some q) reads plain s e m j turn may =
    let t = both (is_in_turn past child job q) (bytes_eq line (on_wire past child job (host_line q))) turn in
    let wired : line ≡ on_wire past child job (host_line q) = (bytes_eq-Decides line (on_wire past child job (host_line q))).0 t.1 in
    let r = requested past child job q plain t.0 in
    let askable : is_askable q ≡ true = askable_test q (read_askable q (addressed past child line).1 reads) in
    let turned : is_in_turn past child (next_job past child) q ≡ true = ap (λ (k : ℕ). is_in_turn past child k q) (sym j) ∙ t.0 in
    let request : may_request past by task child q ≡ true = (let all : (is_started past child && may_ask past by task child && is_in_turn past child (next_job past child) q && is_askable q) ≡ true = rw (s, may, turned, askable) refl in all) in
    let written : next_on_wire past child q ≡ line = ap (λ (k : ℕ). on_wire past child k (host_line q)) (sym j) ∙ sym wired in
    let P : HostMessage → Option (List ℕ) → Type 0 = λ x n. (step_of o past by (AskEvent child task r.0)).group ≡ (Stepped x n) in
    let named : P q (name_of r.0) = subst (λ (x : HostMessage). P x (name_of r.0)) r.1 refl in
    let stepped : P q None = subst (λ (n : Option (List ℕ)). P q n) r.2 named in (
      AskEvent child task r.0,
      stepped ∙ (rw (request, e, m, written, sym j) refl),
    )
  where
    Stepped : HostMessage → Option (List ℕ) → List Entry
    Stepped x n = (cond (may_request past by task child x && is_named_well n) (cond (is_ended past child || is_mute past child) (append o past by (Lost child task) (gone past child))
        (record { reply = Job (next_job past child); group = made_by by (asking past task child n x) })) odd).group

-- ---- a name

lead_chosen : (o : Opening) (past : List Entry) (by child job : ℕ) (line : List ℕ) (r : Option HostMessage) → is_started past child ≡ true → is_ended past child ≡ false
    → is_mute past child ≡ false → job ≡ next_job past child → says_name past child job line r ≡ true → may_lead past by child ≡ true → Appends o past by (Lead child job line)
lead_chosen o past by child job line None s e m j says may = absurd cc
lead_chosen o past by child job line (Some (Export name)) s e m j says may =
    let n = both (is_text name) (bytes_eq line (on_wire past child job (host_line (Export name)))) says in
    let wired : line ≡ on_wire past child job (host_line (Export name)) = (bytes_eq-Decides line (on_wire past child job (host_line (Export name)))).0 n.1 in
    let written : next_on_wire past child (Export name) ≡ line = ap (λ (k : ℕ). on_wire past child k (host_line (Export name))) (sym j) ∙ sym wired in
    let l = both (is_at Later (next_job past child)) _ may in
    let t = any_some (λ u. may_ask past by u child) (0 ∷ each_of (claimed_for child) past) l.1 in
    let request : may_request past by t.0 child (Checkpresentexport (codes "WORM--a")) ≡ true = rw (s, t.1, l.0) refl in (
      AskEvent child t.0 (CheckExport (codes "WORM--a") name),
      record { by = by; what = Ask child (next_job past child) t.0 (next_on_wire past child (Checkpresentexport (codes "WORM--a"))) } ∷ [],
      rw (request, n.0, e, m) (ap (λ (x : List ℕ). made_by by (Lead child (next_job past child) x ∷ Ask child (next_job past child) t.0 (next_on_wire past child (Checkpresentexport (codes "WORM--a"))) ∷ [])) written
          ∙ ap (λ (k : ℕ). record { by = by; what = Lead child k line } ∷ record { by = by; what = Ask child (next_job past child) t.0 (next_on_wire past child (Checkpresentexport (codes "WORM--a"))) } ∷ []) (sym j)),
    )
lead_chosen o past by child job line (Some q) s e m j says may = absurd cc

-- a request without a name that may be asked as this job
some_request : (past : List Entry) (c job : ℕ)
    → (r : Request) × (is_in_turn past c job (message_of r) ≡ true) × (is_askable (message_of r) ≡ true) × (name_of r ≡ None)
some_request past c job = go (job == 0) refl (job == 1) refl
  where
    offered : (b : Bool) → bytes_eq (names_of b) (names_of b) ≡ true
    offered true = refl
    offered false = refl

    go : (a : Bool) → (job == 0) ≡ a → (b : Bool) → (job == 1) ≡ b
        → (r : Request) × (is_in_turn past c job (message_of r) ≡ true) × (is_askable (message_of r) ≡ true) × (name_of r ≡ None)
    go true e b f = (Extensions (any (offers c) past), rw e (offered (any (offers c) past)), refl, refl)
    go false e true f = (PrepareRequest, rw f refl, refl, refl)
    go false e false f =
        let later : nat_lt 1 job ≡ true = grind (arith, nat_tests) in
        (CheckPresent (codes "WORM--a"), rw later refl, refl, refl)

lost_chosen : (o : Opening) (past : List Entry) (by child task : ℕ) → is_started past child ≡ true → (is_ended past child || is_mute past child) ≡ true
    → may_ask past by task child ≡ true → Gives o past by (Lost child task)
lost_chosen o past by child task s g may =
    let r = some_request past child (next_job past child) in
    let q = message_of r.0 in
    let request : (is_started past child && may_ask past by task child && is_in_turn past child (next_job past child) q && is_askable q) ≡ true = rw (s, may, r.1, r.2) refl in
    (AskEvent child task r.0, rw (request, r.3, g) refl)

-- ---- an end

stop_chosen : (o : Opening) (past : List Entry) (by child : ℕ) (why : Why) → is_started past child ≡ true → is_ended past child ≡ false
    → may_end past child why ≡ true → Gives o past by (End child why)
stop_chosen o past by child why s e may = (Stop child why, rw (s, may, e) refl)

-- at a full journal by a line, and else by a stop
end_chosen : (o : Opening) (past : List Entry) (by child : ℕ) (why : Why) → is_started past child ≡ true → is_ended past child ≡ false
    → may_stop past child why ≡ true → Gives o past by (End child why)
end_chosen o past by child Full s e may = (GotEvent child [], rw (s, e, may) refl)
end_chosen o past by child why s e may = stop_chosen o past by child why s e may

-- ---- each kind of entry

given : (o : Opening) (past : List Entry) (by : ℕ) (w : What) → is_lead w ≡ false → needs_lead past w ≡ false → may_come o past by w ≡ true → Gives o past by w
given o past by (Claim task child) plain free h =
    let t = both (is_number task (least_free o past)) ((child == 0 && by == 0) || (is_prepared past child && is_live past child && not (is_mute past child))) h in
    (ClaimEvent child, claim_chosen o past by task child (child == 0 && by == 0) refl (numbered task (least_free o past) t.0) t.1)
given o past by (Start child slot offer) plain free h =
    let t = both (by == 0 && child == count is_start past + 1) (nat_lt child (2 ^ 32)) h in
    let u = both (by == 0) (child == count is_start past + 1) t.0 in
    let n : child ≡ count is_start past + 1 = same_number child (count is_start past + 1) u.1 in
    let test : (by == 0 && nat_lt (count is_start past) 4294967295) ≡ true = (let small : nat_lt (count is_start past) 4294967295 ≡ true = lower (count is_start past) child n t.1 in rw (u.0, small) refl) in
    (StartEvent slot offer, rw test (ap (λ (k : ℕ). group_of o past by (Start k slot offer)) (sym n)))
  where
    lower : (k child : ℕ) → child ≡ k + 1 → nat_lt child (2 ^ 32) ≡ true → nat_lt k 4294967295 ≡ true
    lower k child n h = grind (arith, nat_tests)
given o past by (NoStart slot) plain free h = (NoStartEvent slot, rw h refl)
given o past by (Ask child job task line) plain free h =
    let q = host_reading (addressed past child line).1 in
    let a = both (is_live past child && not (is_mute past child) && job == next_job past child && asks_in_turn past child job line q) (may_ask past by task child) h in
    let b = both (is_live past child && not (is_mute past child) && job == next_job past child) (asks_in_turn past child job line q) a.0 in
    let d = both (is_live past child && not (is_mute past child)) (job == next_job past child) b.0 in
    let e = both (is_live past child) (not (is_mute past child)) d.0 in
    let l = live past child e.0 in
    ask_chosen o past by child job task line q refl free l.0 l.1 (is_not (is_mute past child) e.1) (same_number job (next_job past child) d.1) b.1 a.1
given o past by (Lead child job line) plain free h = absurd cc
given o past by (Put child job line) plain free h = absurd cc
given o past by (Sent child) plain free h = (SentEvent child, rw (is_not (is_empty (unsent past child)) h) refl)
given o past by (Mute child) plain free h = (MuteEvent child, rw h refl)
given o past by (Got child line) plain free h =
    let t = both (is_live past child && not (has_newline line)) (not (is_full past)) h in
    let u = both (is_live past child) (not (has_newline line)) t.0 in
    let l = live past child u.0 in
    (GotEvent child line, rw (l.0, is_not (has_newline line) u.1, l.1, is_not (is_full past) t.1) refl)
given o past by (End child why) plain free h =
    let t = both (is_live past child) (may_stop past child why) h in
    let l = live past child t.0 in
    end_chosen o past by child why l.0 l.1 t.1
given o past by (Settled child job verdict) plain free h = absurd cc
given o past by (Lost child task) plain free h =
    let t = both (is_started past child && (is_ended past child || is_mute past child)) (may_ask past by task child) h in
    let u = both (is_started past child) (is_ended past child || is_mute past child) t.0 in
    lost_chosen o past by child task u.0 u.1 t.1
given o past by (Answered task answer) plain free h =
    let t = both (may_answer past by task) (not (is_run_again o past task answer)) h in
    (AnswerEvent task answer, rw (t.0, is_not (is_run_again o past task answer) t.1) refl)
given o past by (Again task answer) plain free h =
    let t = both (may_answer past by task) (is_run_again o past task answer) h in
    (AnswerEvent task answer, rw (t.0, t.1) refl)
given o past by (Noted task chunk count) plain free h = (NoteEvent task chunk count, rw h refl)

pub chosen : (o : Opening) (past : List Entry) (by : ℕ) (w : What) → MayStand o past [] (record { by = by; what = w }) → Appends o past by w
chosen o past by (Lead child job line) may =
    let a = both (is_live past child && not (is_mute past child) && job == next_job past child && says_name past child job line (host_reading (addressed past child line).1)) (may_lead past by child) may in
    let b = both (is_live past child && not (is_mute past child) && job == next_job past child) (says_name past child job line (host_reading (addressed past child line).1)) a.0 in
    let d = both (is_live past child && not (is_mute past child)) (job == next_job past child) b.0 in
    let e = both (is_live past child) (not (is_mute past child)) d.0 in
    let l = live past child e.0 in
    lead_chosen o past by child job line (host_reading (addressed past child line).1) l.0 l.1 (is_not (is_mute past child) e.1) (same_number job (next_job past child) d.1) b.1 a.1
chosen o past by w may =
    let t = both (not (needs_lead past w)) (may_come o past by w) may in
    let g = given o past by w refl (is_not (needs_lead past w) t.0) t.1 in
    (g.0, due_after o past (record { by = by; what = w }), g.1)

-- what an event appends first may stand
pub appended : (o : Opening) (past : List Entry) (by : ℕ) (w : What) → length past < 2 ^ 64 → Appends o past by w → MayStand o past [] (record { by = by; what = w })
appended o past by w few a = go (step_of o past by a.0) (step_comes o past by a.0 few) a.2
  where
    go : (s : Step) → Comes o past s → s.group ≡ record { by = by; what = w } ∷ a.1 → MayStand o past [] (record { by = by; what = w })
    go s (inl none) e = absurd (let no : [] ≡ record { by = by; what = w } ∷ a.1 = sym none ∙ e in cc)
    go s (inr g) e = (subst (IsGroup o past) e g).stands.0
