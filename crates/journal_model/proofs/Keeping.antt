-- Groups that add to no part, and a request, keep what holds of each job's part in a legal journal.
use Rattle.std.proofs.Common.{◌≡◌, ℕ, append_assoc, List, [], ◌∷◌, ◌++◌, ◌+◌, ◌≤◌, refl, sym, ap, subst, ◌∙◌, Bool, true, false, length, not, ◌==◌, cond, Some, None, Option, arith, length-append, ◌⊎◌, inl, inr}
use Rattle.std.specs.Prelude.{◌&&◌, ◌||◌, ◌↔◌, map, filter}
use Rattle.std.specs.List.{list_any, cons_option, flat_map}
use Rattle.std.specs.Option.{option_or}
use Rattle.std.proofs.lemmas.List.{append-nil}
use Rattle.std.proofs.lemmas.List.Folds.{list_any-append}
use Rattle.journal_model.specs.declared.verdict.Why.{Why}
use Rattle.journal_model.specs.declared.verdict.Verdict.{Verdict}
use Rattle.journal_model.specs.declared.verdict.Verdict.TheVariants.{Done as DoneAt, Ended, Unsent}
use Rattle.std.specs.Prelude.{bytes_eq}
use Rattle.std.proofs.lemmas.Slice.Eq.{bytes_eq-Decides}
use Rattle.annex_model.specs.Messages.{HostMessage, Export, Transferexport, Checkpresentexport, Removeexport, Renameexport, IsAskable, host_line, host_reading}
use Rattle.annex_model.specs.Talks.{Item, Host, Talking, IsLead, AreReplied, has_lead, request_lines, of_host, shown, with_replies, remote_items, said, shape_of, may_go_on}
use Rattle.annex_model.specs.Hearings.{asked_by, request_in}
use Rattle.annex_model.specs.Turns.{turn_of, is_at}
use Rattle.annex_model.proofs.Leads.{plain_asked}
use Rattle.annex_model.proofs.Readings.{canonical_read}
use Rattle.annex_model.proofs.Fronts.{front_of}
use Rattle.journal_model.specs.declared.opening.Opening.{Opening}
use Rattle.journal_model.specs.declared.entry.What.{What}
use Rattle.journal_model.specs.declared.entry.What.TheVariants.{Lead, Ask, Mute, Got, End, Verdict as Settled}
use Rattle.journal_model.specs.declared.entry.Entry.{Entry}
use Rattle.journal_model.specs.Journal.{asks, asked_jobs, each_of, first_of, verdict_in, verdict_of, has_spoken, got_from, got_lines, open_jobs, is_open, is_unsent, addressed, on_wire}
use Rattle.journal_model.specs.Parts.{part, part_from, is_place, is_for}
use Rattle.journal_model.specs.Due.{due_after, made_by, ending, replies_at}
use Rattle.journal_model.specs.Legality.{may_come, may_ask, asks_in_turn, is_in_turn, suits_child, is_text, is_greeted, is_led, says_name, claimed_for}
use Rattle.journal_model.specs.Projection.{Fits, JobFits, PartIsAsked}
use Rattle.journal_model.proofs.PartsGrow.{part-group}
use Rattle.journal_model.proofs.Asking.{asked_text, text_on_wire, read_askable}
use Rattle.journal_model.proofs.Growing.{Led, pair}
use Rattle.journal_model.proofs.Replying.{IsPlaced, longer}
use Rattle.journal_model.proofs.Looks.{entry, is_asked, each_of-append, any-append, verdict_of-append, or_none, filter_none, unasked_closed, silent_lines, settled_all, verdicts_part, verdicts_job, verdicts_one, none_unasked}
use Rattle.annex_model.proofs.Awaiting.{nothing_goes_on as waits_first}
use Rattle.std.proofs.lemmas.Bool.{and_right as and_false, eqb-true as same_number, ne_eqb as differ, and_parts as both}
use Rattle.ann_key.proofs.Booleans.{and_last as and_right, left_false as either_left, true_and_false as true_not_false}

-- Replies are said of the journal that may come of this one, so that nothing has to be said again of an old part.
pub record Inv (o : Opening) (past : List Entry) : Type 0 where
  pub jobs : (rest : List Entry) (c j : ℕ) → JobFits (replies_at o (past ++ rest)) past c j
  pub placed : (c : ℕ) → IsPlaced past c
  pub asked : (c j : ℕ) → PartIsAsked past c j
  pub silent : (c : ℕ) → has_spoken past c ≡ false → asked_jobs past c ≡ []
  pub fresh : (c j : ℕ) → length (asked_jobs past c) ≤ j → is_asked past c j ≡ false

-- what held of the jobs, seen from after a group
pub earlier : (o : Opening) (past group rest : List Entry) (c j : ℕ) → Inv o past → Fits (replies_at o ((past ++ group) ++ rest)) (part past c j) (verdict_of past c j)
earlier o past group rest c j inv =
    subst (λ (journal : List Entry). Fits (replies_at o journal) (part past c j) (verdict_of past c j)) (sym (append_assoc past group rest)) (inv.jobs (group ++ rest) c j)

-- ---- a group that asks nothing and adds to no part, and settles jobs by an end or a fault of writing alone

abbrev IsEnding : Option Verdict → Type 0
IsEnding v = (v ≡ None) ⊎ ((why : Why) × (v ≡ Some (Ended why))) ⊎ (v ≡ Some Unsent)

ended_fits : (replies : ℕ → List (List ℕ)) (p : List Item) (v w : Option Verdict) → IsEnding w → (p ≡ [] → w ≡ None) → Fits replies p v → Fits replies p (option_or v w)
ended_fits replies [] v w h z f = or_none v w (z refl) ∙ f
ended_fits replies (i ∷ is) (Some v) w h z f = f
ended_fits replies (i ∷ is) None w h z f = go h
  where
    go : IsEnding w → Fits replies (i ∷ is) w
    go (inl e) = subst (λ (x : Option Verdict). Fits replies (i ∷ is) x) (sym e) f
    go (inr (inl e)) = subst (λ (x : Option Verdict). Fits replies (i ∷ is) x) (sym e.1) f
    go (inr (inr e)) = subst (λ (x : Option Verdict). Fits replies (i ∷ is) x) (sym e) f

-- such a verdict names no line
ending_done : (v w : Option Verdict) (at : ℕ) → IsEnding w → option_or v w ≡ Some (DoneAt at) → v ≡ Some (DoneAt at)
ending_done (Some v) w at h e = e
ending_done None w at (inl n) e = absurd (let bad : None ≡ Some (DoneAt at) = sym n ∙ e in cc)
ending_done None w at (inr (inl n)) e = absurd (let bad : Some (Ended n.0) ≡ Some (DoneAt at) = sym n.1 ∙ e in cc)
ending_done None w at (inr (inr n)) e = absurd (let bad : Some Unsent ≡ Some (DoneAt at) = sym n ∙ e in cc)

quiet : (o : Opening) (past : List Entry) (e : Entry) (due : List Entry) → Inv o past → may_come o past e.by e.what ≡ true
    → ((c : ℕ) → asked_jobs (e ∷ due) c ≡ [])
    → ((c j : ℕ) → part_from c j past (e ∷ due) ≡ [])
    → ((c j : ℕ) → IsEnding (verdict_of (e ∷ due) c j))
    → ((c j : ℕ) → is_asked past c j ≡ false → verdict_of (e ∷ due) c j ≡ None)
    → Inv o (past ++ e ∷ due)
quiet o past e due inv may no_job no_part ending unasked =
    let grown : (c j : ℕ) → part (past ++ e ∷ due) c j ≡ part past c j =
    λ c j. part-group o c j past e due may ∙ ap (λ (is : List Item). part past c j ++ is) (no_part c j) ∙ append-nil (part past c j) in
    let jobs : (c : ℕ) → asked_jobs (past ++ e ∷ due) c ≡ asked_jobs past c =
    λ c. each_of-append (asks c) past (e ∷ due) ∙ ap (λ (ks : List ℕ). asked_jobs past c ++ ks) (no_job c) ∙ append-nil (asked_jobs past c) in
    record {
      jobs = λ rest c j. (
          let replies : ℕ → List (List ℕ) = replies_at o ((past ++ e ∷ due) ++ rest) in
          let kept : Fits replies (part past c j) (option_or (verdict_of past c j) (verdict_of (e ∷ due) c j)) =
          ended_fits replies (part past c j) (verdict_of past c j) (verdict_of (e ∷ due) c j) (ending c j) (λ empty. unasked c j ((inv.asked c j).0 empty)) (earlier o past (e ∷ due) rest c j inv) in
          let a = subst (λ (p : List Item). Fits replies p (option_or (verdict_of past c j) (verdict_of (e ∷ due) c j))) (sym (grown c j)) kept in
          subst (λ (v : Option Verdict). Fits replies (part (past ++ e ∷ due) c j) v) (sym (verdict_of-append c j past (e ∷ due))) a);
      placed = λ c j at h. (
          let before = ending_done (verdict_of past c j) (verdict_of (e ∷ due) c j) at (ending c j) (sym (verdict_of-append c j past (e ∷ due)) ∙ h) in
          longer at past (e ∷ due) (inv.placed c j at before));
      asked = λ c j. (
          let a = subst (λ (p : List Item). (p ≡ []) ↔ (is_asked past c j ≡ false)) (sym (grown c j)) (inv.asked c j) in
          subst (λ (ks : List ℕ). (part (past ++ e ∷ due) c j ≡ []) ↔ (list_any (λ k. k == j) ks ≡ false)) (sym (jobs c)) a);
      silent = λ c h. (
          let before : has_spoken past c ≡ false = either_left (has_spoken past c) (has_spoken (e ∷ due) c) (sym (any-append (got_from c) past (e ∷ due)) ∙ h) in
          jobs c ∙ inv.silent c before);
      fresh = λ c j h. (
          let before = inv.fresh c j (subst (λ (ks : List ℕ). length ks ≤ j) (jobs c) h) in
          subst (λ (ks : List ℕ). list_any (λ k. k == j) ks ≡ false) (sym (jobs c)) before);
    }

-- ---- an end, and a fault of writing

ending_of_end : (v : Option Verdict) (why : Why) → (v ≡ None) ⊎ (v ≡ Some (Ended why)) → IsEnding v
ending_of_end v why (inl e) = inl e
ending_of_end v why (inr e) = inr (inl (why, e))

ending_of_unsent : (v : Option Verdict) → (v ≡ None) ⊎ (v ≡ Some Unsent) → IsEnding v
ending_of_unsent v (inl e) = inl e
ending_of_unsent v (inr e) = inr (inr e)

pub end_inv : (o : Opening) (past : List Entry) (by child : ℕ) (why : Why) → Inv o past → may_come o past by (End child why) ≡ true
    → Inv o (past ++ entry by (End child why) ∷ due_after o past (entry by (End child why)))
end_inv o past by child why inv may =
    quiet o past (entry by (End child why)) (settled_all by child (Ended why) (open_jobs past child)) inv may
    (λ c. verdicts_job c by child (Ended why) (open_jobs past child))
    (λ c j. verdicts_part c j child by (past ++ entry by (End child why) ∷ []) (Ended why) (open_jobs past child))
    (λ c j. ending_of_end (verdict_of (settled_all by child (Ended why) (open_jobs past child)) c j) why (verdicts_one c j by child (Ended why) (open_jobs past child)))
    (λ c j h. none_unasked c j by child (Ended why) past (open_jobs past child) h (λ k closed. closed))

pub mute_inv : (o : Opening) (past : List Entry) (by child : ℕ) (live : Bool) → Inv o past → may_come o past by (Mute child) ≡ true
    → Inv o (past ++ entry by (Mute child) ∷ made_by by (cond live (map (λ (k : ℕ). Settled child k Unsent) (filter (is_unsent past child) (open_jobs past child))) []))
mute_inv o past by child false inv may =
    quiet o past (entry by (Mute child)) [] inv may (λ c. refl) (λ c j. refl) (λ c j. inl refl) (λ c j h. refl)
mute_inv o past by child true inv may =
    let ks = filter (is_unsent past child) (open_jobs past child) in
    quiet o past (entry by (Mute child)) (settled_all by child Unsent ks) inv may
    (λ c. verdicts_job c by child Unsent ks)
    (λ c j. verdicts_part c j child by (past ++ entry by (Mute child) ∷ []) Unsent ks)
    (λ c j. ending_of_unsent (verdict_of (settled_all by child Unsent ks) c j) (verdicts_one c j by child Unsent ks))
    (λ c j h. none_unasked c j by child Unsent past ks h (λ k closed. filter_none (λ x. x == k) (is_unsent past child) (open_jobs past child) closed))

pub plain_inv : (o : Opening) (past : List Entry) (by : ℕ) (w : What) → Inv o past → may_come o past by w ≡ true
    → ((c : ℕ) → asks c w ≡ None) → ((c j : ℕ) → part_from c j past (entry by w ∷ []) ≡ []) → ((c j : ℕ) → verdict_in c j w ≡ None)
    → Inv o (past ++ entry by w ∷ [])
plain_inv o past by w inv may n p v =
    quiet o past (entry by w) [] inv may
    (λ c. ap (λ (x : Option ℕ). cons_option x []) (n c))
    p
    (λ c j. inl (ap (λ (x : Option Verdict). first_of (cons_option x [])) (v c j)))
    (λ c j h. ap (λ (x : Option Verdict). first_of (cons_option x [])) (v c j))

-- ---- a request

-- a child is asked after its first line alone
greeted : (o : Opening) (past : List Entry) (c : ℕ) → Inv o past → is_greeted past c (length (asked_jobs past c)) ≡ true → has_spoken past c ≡ true
greeted o past c inv allows = go (has_spoken past c) refl
  where
    go : (b : Bool) → has_spoken past c ≡ b → has_spoken past c ≡ true
    go true e = e
    go false e =
        let first : is_greeted past c 0 ≡ true = subst (λ (ks : List ℕ). is_greeted past c (length ks) ≡ true) (inv.silent c e) allows in
        let lines : got_lines past c ≡ [] = silent_lines past c e in
        absurd (cc (rw lines at first))

other_child : (past : List Entry) (child c : ℕ) → has_spoken past child ≡ true → has_spoken past c ≡ false → (child == c) ≡ false
other_child past child c spoke silent = go (child == c) refl
  where
    go : (b : Bool) → (child == c) ≡ b → (child == c) ≡ false
    go false e = e
    go true e =
        let C : child ≡ c = same_number child c e in
        true_not_false (has_spoken past c) (subst (λ (x : ℕ). has_spoken past x ≡ true) C spoke) silent

-- the jobs asked on c, with one more on child
abbrev with_job : List ℕ → Bool → ℕ → List ℕ
with_job ks here job = ks ++ cons_option (cond here (Some job) None) []

-- the part, with these items more
abbrev pub with_items : List Item → Bool → List Item → List Item
with_items p here is = p ++ cond here is []

later_job : (ks : List ℕ) (job j : ℕ) (b : Bool) → (b ≡ true → job ≡ length ks) → (length ks ≤ j → list_any (λ k. k == j) ks ≡ false)
    → length (with_job ks b job) ≤ j → list_any (λ k. k == j) (with_job ks b job) ≡ false
later_job ks job j false number fresh h =
    subst (λ (xs : List ℕ). list_any (λ k. k == j) xs ≡ false) (sym (append-nil ks)) (fresh (subst (λ (xs : List ℕ). length xs ≤ j) (append-nil ks) h))
later_job ks job j true number fresh h =
    let n : job ≡ length ks = number refl in
    let long : length (ks ++ job ∷ []) ≡ length ks + 1 = length-append ks (job ∷ []) in
    let other : (job == j) ≡ false = differ job j (λ e. omega (arith, long, n, e)) in
    list_any-append (λ k. k == j) ks (job ∷ []) ∙ rw (fresh (omega (arith, long)), other) refl

not_both : (x : Bool) → (x || (true || false)) ≡ false → ⊥
not_both true h = absurd cc
not_both false h = absurd cc

pub no_push : {X : Type 0} (xs : List X) (x : X) → xs ++ x ∷ [] ≡ [] → ⊥
no_push [] x h = absurd cc
no_push (y ∷ ys) x h = absurd cc

no_pushes : {X : Type 0} (xs : List X) (x : X) (ys : List X) → xs ++ x ∷ ys ≡ [] → ⊥
no_pushes [] x ys h = absurd cc
no_pushes (z ∷ xs) x ys h = absurd cc

asks_asked : (p : List Item) (ks : List ℕ) (i : Item) (is : List Item) (a b : Bool) (job j : ℕ) → (job == j) ≡ b → ((p ≡ []) ↔ (list_any (λ k. k == j) ks ≡ false))
    → ((with_items p (a && b) (i ∷ is) ≡ []) ↔ (list_any (λ k. k == j) (with_job ks a job) ≡ false))
asks_asked p ks i is false b job j e f =
    let q = subst (λ (x : List Item). (x ≡ []) ↔ (list_any (λ k. k == j) ks ≡ false)) (sym (append-nil p)) f in
    subst (λ (x : List ℕ). (p ++ [] ≡ []) ↔ (list_any (λ k. k == j) x ≡ false)) (sym (append-nil ks)) q
asks_asked p ks i is true false job j e f =
    let q = subst (λ (x : List Item). (x ≡ []) ↔ (list_any (λ k. k == j) ks ≡ false)) (sym (append-nil p)) f in
    let more : list_any (λ k. k == j) (ks ++ job ∷ []) ≡ list_any (λ k. k == j) ks = list_any-append (λ k. k == j) ks (job ∷ []) ∙ rw e (either_none (list_any (λ k. k == j) ks)) in
    subst (λ (x : Bool). (p ++ [] ≡ []) ↔ (x ≡ false)) (sym more) q
  where
    either_none : (x : Bool) → (x || false) ≡ x
    either_none true = refl
    either_none false = refl
asks_asked p ks i is true true job j e f =
    let more : list_any (λ k. k == j) (ks ++ job ∷ []) ≡ (list_any (λ k. k == j) ks || (true || false)) = list_any-append (λ k. k == j) ks (job ∷ []) ∙ rw e refl in
    (λ h. absurd (no_pushes p i is h), λ h. absurd (not_both (list_any (λ k. k == j) ks) (sym more ∙ h)))

asks_fit : (replies : ℕ → List (List ℕ)) (p : List Item) (v : Option Verdict) (is : List Item) (b : Bool) → Fits replies p v
    → (b ≡ true → (p ≡ []) × Fits replies is None)
    → Fits replies (with_items p b is) (option_or v None)
asks_fit replies p v is false f new =
    let a = subst (λ (x : List Item). Fits replies x v) (sym (append-nil p)) f in
    subst (λ (x : Option Verdict). Fits replies (p ++ []) x) (sym (or_none v None refl)) a
asks_fit replies p v is true f new =
    let facts = new refl in
    let unsettled : v ≡ None = subst (λ (x : List Item). Fits replies x v) facts.0 f in
    let a = subst (λ (x : List Item). Fits replies (x ++ is) None) (sym facts.0) facts.1 in
    subst (λ (x : Option Verdict). Fits replies (p ++ is) (option_or x None)) (sym unsettled) a

-- a request alone talks, with such a lead as it has
first_fits : (replies : ℕ → List (List ℕ)) (is : List Item) (q : HostMessage) (lead : List (List ℕ)) → IsAskable q → request_in is ≡ Some q → IsLead q lead
    → map shown is ≡ of_host (request_lines lead q) → said is ≡ [] → remote_items is ≡ [] → (is ≡ [] → ⊥) → Fits replies is None
first_fits replies [] q lead askable asks leads lines none quiet some = absurd (some refl)
first_fits replies (i ∷ is) q lead askable asks leads lines none quiet some =
    let part : List Item = i ∷ is in
    let whole : AreReplied replies lead q part =
    lines ∙ sym (append-nil (of_host (request_lines lead q)))
    ∙ ap (λ (xs : List Item). of_host (request_lines lead q) ++ flat_map (with_replies replies) xs) (sym quiet) in
    let talking : Talking replies q part = record {
      replied = record { lead = lead; leads = leads; lines = whole };
      waits = ap (may_go_on (shape_of q)) none ∙ waits_first (shape_of q);
    } in
    (q, asks, askable, record { talking = talking; front = front_of replies q part talking })

alone_fits : (replies : ℕ → List (List ℕ)) (at : ℕ) (text : List ℕ) (q : HostMessage) → host_reading text ≡ Some q → text ≡ host_line q → IsLead q []
    → Fits replies (record { side = Host; at = at; text = text } ∷ []) None
alone_fits replies at text q reads written plain =
    first_fits replies (record { side = Host; at = at; text = text } ∷ []) q [] (read_askable q text reads)
    (ap (λ (o : Option HostMessage). asked_by o []) reads ∙ plain_asked q [] plain) plain
    (ap (λ (x : List ℕ). (Host, x) ∷ []) written) refl refl (λ h. cc)

-- after a name too
named_fits : (replies : ℕ → List (List ℕ)) (at at' : ℕ) (name text said : List ℕ) (q : HostMessage) → said ≡ host_line (Export name)
    → host_reading text ≡ Some q → text ≡ host_line q → IsLead q (host_line (Export name) ∷ [])
    → Fits replies (record { side = Host; at = at; text = said } ∷ record { side = Host; at = at'; text = text } ∷ []) None
named_fits replies at at' name text said q names reads written leads =
    first_fits replies (record { side = Host; at = at; text = said } ∷ record { side = Host; at = at'; text = text } ∷ []) q (host_line (Export name) ∷ [])
    (read_askable q text reads)
    (ap (λ (o : Option HostMessage). asked_by o (record { side = Host; at = at'; text = text } ∷ [])) (ap host_reading names ∙ canonical_read (Export name) tt) ∙ reads) leads
    (ap (λ (x : List ℕ). (Host, x) ∷ (Host, text) ∷ []) names ∙ ap (λ (x : List ℕ). (Host, host_line (Export name)) ∷ (Host, x) ∷ []) written) refl refl (λ h. cc)

-- a request without a lead that is in its turn
pub plain_lead : (q : HostMessage) (job : ℕ) → has_lead q ≡ false → is_at (turn_of q) job ≡ true → IsLead q []
plain_lead (Transferexport store key file) job h t = absurd cc
plain_lead (Checkpresentexport key) job h t = absurd cc
plain_lead (Removeexport key) job h t = absurd cc
plain_lead (Renameexport key onto) job h t = absurd cc
plain_lead (Export name) job h t = absurd cc
plain_lead q job h t = refl

-- and one that has a lead
name_leads : (q : HostMessage) (name : List ℕ) → has_lead q ≡ true → IsLead q (host_line (Export name) ∷ [])
name_leads (Transferexport store key file) name h = (name, refl)
name_leads (Checkpresentexport key) name h = (name, refl)
name_leads (Removeexport key) name h = (name, refl)
name_leads (Renameexport key onto) name h = (name, refl)
name_leads q name h = absurd cc

-- ---- what asks the next job of a child, and adds no more than its first items

record Asks (past group : List Entry) (child job : ℕ) (first : ℕ → List Item) : Type 0 where
  grown : (c j : ℕ) → part (past ++ group) c j ≡ with_items (part past c j) (child == c && job == j) (first c)
  jobs : (c : ℕ) → asked_jobs (past ++ group) c ≡ with_job (asked_jobs past c) (child == c) job
  unsettled : (c j : ℕ) → verdict_of group c j ≡ None
  quiet : (c : ℕ) → has_spoken group c ≡ false
  number : job ≡ length (asked_jobs past child)
  some : (c : ℕ) → (i : Item) × (is : List Item) × (first c ≡ i ∷ is)
  fits : (replies : ℕ → List (List ℕ)) → Fits replies (first child) None

asks_inv : (o : Opening) (past group : List Entry) (child job : ℕ) (first : ℕ → List Item) → Inv o past → has_spoken past child ≡ true → Asks past group child job first → Inv o (past ++ group)
asks_inv o past group child job first inv spoken a =
    let new : is_asked past child job ≡ false = inv.fresh child job (let n = a.number in omega (arith, n)) in
    record {
      jobs = λ rest c j. (
          let replies : ℕ → List (List ℕ) = replies_at o ((past ++ group) ++ rest) in
          let base = asks_fit replies (part past c j) (verdict_of past c j) (first c) (child == c && job == j) (earlier o past group rest c j inv)
          (λ one.
          let here = both (child == c) (job == j) one in
          let C : child ≡ c = same_number child c here.0 in
          let J : job ≡ j = same_number job j here.1 in
          let at_c = subst (λ (x : ℕ). (part past x job ≡ []) × Fits replies (first x) None) C ((inv.asked child job).1 new, a.fits replies) in
          subst (λ (x : ℕ). (part past c x ≡ []) × Fits replies (first c) None) J at_c) in
          let b = subst (λ (x : List Item). Fits replies x (option_or (verdict_of past c j) None)) (sym (a.grown c j)) base in
          subst (λ (x : Option Verdict). Fits replies (part (past ++ group) c j) x)
          (ap (option_or (verdict_of past c j)) (sym (a.unsettled c j)) ∙ sym (verdict_of-append c j past group)) b);
      placed = λ c j at h. (
          let before : verdict_of past c j ≡ Some (DoneAt at) = sym (verdict_of-append c j past group ∙ or_none (verdict_of past c j) (verdict_of group c j) (a.unsettled c j)) ∙ h in
          longer at past group (inv.placed c j at before));
      asked = λ c j. (
          let s = a.some c in
          let base = asks_asked (part past c j) (asked_jobs past c) s.0 s.1 (child == c) (job == j) job j refl (inv.asked c j) in
          let b = subst (λ (x : List Item). (with_items (part past c j) (child == c && job == j) x ≡ []) ↔ (list_any (λ k. k == j) (with_job (asked_jobs past c) (child == c) job) ≡ false)) (sym s.2) base in
          let d = subst (λ (x : List Item). (x ≡ []) ↔ (list_any (λ k. k == j) (with_job (asked_jobs past c) (child == c) job) ≡ false)) (sym (a.grown c j)) b in
          subst (λ (x : List ℕ). (part (past ++ group) c j ≡ []) ↔ (list_any (λ k. k == j) x ≡ false)) (sym (a.jobs c)) d);
      silent = λ c h. (
          let before : has_spoken past c ≡ false = either_left (has_spoken past c) (has_spoken group c) (sym (any-append (got_from c) past group) ∙ h) in
          let other : (child == c) ≡ false = other_child past child c spoken before in
          a.jobs c ∙ rw (other, append-nil (asked_jobs past c)) (inv.silent c before));
      fresh = λ c j h. (
          let here : (child == c) ≡ true → job ≡ length (asked_jobs past c) = λ one. subst (λ (x : ℕ). job ≡ length (asked_jobs past x)) (same_number child c one) a.number in
          let b = later_job (asked_jobs past c) job j (child == c) here (inv.fresh c j) (subst (λ (ks : List ℕ). length ks ≤ j) (a.jobs c) h) in
          subst (λ (ks : List ℕ). list_any (λ k. k == j) ks ≡ false) (sym (a.jobs c)) b);
    }

-- the reading of a line that is asked in its turn is in its turn
pub in_turn_of : (past : List Entry) (c job : ℕ) (line : List ℕ) (r : Option HostMessage) (q : HostMessage) → r ≡ Some q → asks_in_turn past c job line r ≡ true → is_at (turn_of q) job ≡ true
in_turn_of past c job line r q e h =
    (both (is_at (turn_of q) job) (suits_child past c q)
    (both (is_in_turn past c job q) (bytes_eq line (on_wire past c job (host_line q))) (subst (λ (x : Option HostMessage). asks_in_turn past c job line x ≡ true) e h)).0).0

pub ask_inv : (o : Opening) (past : List Entry) (by child job task : ℕ) (line : List ℕ) → Inv o past → may_come o past by (Ask child job task line) ≡ true
    → is_led (host_reading (addressed past child line).1) ≡ false
    → (job == length (asked_jobs past child)) ≡ true → asks_in_turn past child job line (host_reading (addressed past child line).1) ≡ true
    → is_greeted past child (length (asked_jobs past child)) ≡ true
    → Inv o (past ++ entry by (Ask child job task line) ∷ [])
ask_inv o past by child job task line inv may unled next in_turn allows =
    let e : Entry = entry by (Ask child job task line) in
    let q = asked_text past child job line (host_reading (addressed past child line).1) refl in_turn in
    let plain : IsLead q.0 [] = plain_lead q.0 job (sym (ap is_led q.1) ∙ unled) (in_turn_of past child job line (host_reading (addressed past child line).1) q.0 q.1 in_turn) in
    asks_inv o past (e ∷ []) child job (λ c. record { side = Host; at = length past; text = (addressed past c line).1 } ∷ []) inv (greeted o past child inv allows) record {
      grown = λ c j. part-group o c j past e [] may ∙ ap (λ (xs : List Item). part past c j ++ xs) (one_item (child == c && job == j) record { side = Host; at = length past; text = (addressed past c line).1 });
      jobs = λ c. each_of-append (asks c) past (e ∷ []);
      unsettled = λ c j. refl;
      quiet = λ c. refl;
      number = same_number job (length (asked_jobs past child)) next;
      some = λ c. (record { side = Host; at = length past; text = (addressed past c line).1 }, [], refl);
      fits = λ replies. alone_fits replies (length past) (addressed past child line).1 q.0 q.1 q.2 plain;
    }
  where
    one_item : (b : Bool) (i : Item) → cons_option (cond b (Some i) None) [] ≡ cond b (i ∷ []) []
    one_item true i = refl
    one_item false i = refl

-- ---- a name, and the request that it leads

-- the text of a line that says a name is the canonical one
pub named_text : (past : List Entry) (c job : ℕ) (line : List ℕ) (r : Option HostMessage) → host_reading (addressed past c line).1 ≡ r → says_name past c job line r ≡ true
    → (name : List ℕ) × ((addressed past c line).1 ≡ host_line (Export name))
named_text past c job line None e h = absurd cc
named_text past c job line (Some (Export name)) e h =
    (name, text_on_wire past c job line (Export name) e ((bytes_eq-Decides line (on_wire past c job (host_line (Export name)))).0 (and_right (is_text name) _ h)))
named_text past c job line (Some q) e h = absurd cc

any_says : {X : Type 0} (p : X → Bool) (b : Bool) → ((x : X) → p x ≡ true → b ≡ true) → (xs : List X) → list_any p xs ≡ true → b ≡ true
any_says p b f [] h = absurd cc
any_says p b f (x ∷ xs) h = go (p x) refl h (any_says p b f xs)
  where
    go : (a : Bool) → p x ≡ a → (a || list_any p xs) ≡ true → (list_any p xs ≡ true → b ≡ true) → b ≡ true
    go true e h r = f x e
    go false e h r = r h

pub led_inv : (o : Opening) (past : List Entry) (by child job task : ℕ) (name line : List ℕ) → Inv o past → Led o past by child job task name line
    → Inv o (past ++ pair by child job task name line)
led_inv o past by child job task name line inv l =
    let e : Entry = entry by (Lead child job name) in
    let mid : List Entry = past ++ e ∷ [] in
    let five = both _ _ l.first in
    let four = both _ _ five.0 in
    let three = both _ _ four.0 in
    let allows : is_greeted past child (length (asked_jobs past child)) ≡ true =
    any_says (λ t. may_ask past by t child) (is_greeted past child (length (asked_jobs past child))) (λ t h. (both _ _ (both _ _ h).0).0) (0 ∷ each_of (claimed_for child) past) (both _ _ five.1).1 in
    let says = named_text past child job name (host_reading (addressed past child name).1) refl four.1 in
    let in_turn : asks_in_turn mid child job line (host_reading (addressed mid child line).1) ≡ true = (both _ _ (both _ _ l.second).0).1 in
    let q = asked_text mid child job line (host_reading (addressed mid child line).1) refl in_turn in
    let leads : IsLead q.0 (host_line (Export says.0) ∷ []) = name_leads q.0 says.0 (sym (ap is_led q.1) ∙ l.led) in
    asks_inv o past (pair by child job task name line) child job
    (λ c. record { side = Host; at = length past; text = (addressed past c name).1 } ∷ record { side = Host; at = length mid; text = (addressed mid c line).1 } ∷ [])
    inv (greeted o past child inv allows) record {
      grown = λ c j.
          part-group o c j past e (entry by (Ask child job task line) ∷ []) l.first
          ∙ ap (λ (xs : List Item). part past c j ++ xs)
          (two_items (child == c && job == j) record { side = Host; at = length past; text = (addressed past c name).1 } record { side = Host; at = length mid; text = (addressed mid c line).1 });
      jobs = λ c. each_of-append (asks c) past (pair by child job task name line);
      unsettled = λ c j. refl;
      quiet = λ c. refl;
      number = same_number job (length (asked_jobs past child)) three.1;
      some = λ c. (record { side = Host; at = length past; text = (addressed past c name).1 }, record { side = Host; at = length mid; text = (addressed mid c line).1 } ∷ [], refl);
      fits = λ replies. named_fits replies (length past) (length mid) says.0 (addressed mid child line).1 (addressed past child name).1 q.0 says.1 q.1 q.2 leads;
    }
  where
    two_items : (b : Bool) (i k : Item) → cons_option (cond b (Some i) None) (cons_option (cond b (Some k) None) []) ≡ cond b (i ∷ k ∷ []) []
    two_items true i k = refl
    two_items false i k = refl

-- ---- a line that ends its child, and a greeting

shut : (a x y p : Bool) → p ≡ true → (a && x && y && not (a && p)) ≡ false
shut true x y p h = rw h (and_false (x && y) false refl)
shut false x y p h = refl

pub foul_inv : (o : Opening) (past : List Entry) (by child : ℕ) (line : List ℕ) (why : Why) → Inv o past → may_come o past by (Got child line) ≡ true
    → is_place (length past) why ≡ true
    → Inv o (past ++ entry by (Got child line) ∷ made_by by (ending past child why))
foul_inv o past by child line why inv may named =
    let ks = open_jobs past child in
    quiet o past (entry by (Got child line)) (entry by (End child why) ∷ settled_all by child (Ended why) ks) inv may
    (λ c. verdicts_job c by child (Ended why) ks)
    (λ c j. rw (closed_item c j) (verdicts_part c j child by ((past ++ entry by (Got child line) ∷ []) ++ entry by (End child why) ∷ []) (Ended why) ks))
    (λ c j. ending_of_end (verdict_of (settled_all by child (Ended why) ks) c j) why (verdicts_one c j by child (Ended why) ks))
    (λ c j h. none_unasked c j by child (Ended why) past ks h (λ k closed. closed))
  where
    closed_item : (c j : ℕ) → (child == c && is_for j (addressed past c line).0 && is_open past c j && not (child == c && is_place (length past) why)) ≡ false
    closed_item c j = shut (child == c) (is_for j (addressed past c line).0) (is_open past c j) (is_place (length past) why) named

-- a line that is for no open job, and makes nothing due
pub passed_inv : (o : Opening) (past : List Entry) (by child : ℕ) (line : List ℕ) → Inv o past → may_come o past by (Got child line) ≡ true
    → ((j : ℕ) → (is_for j (addressed past child line).0 && is_open past child j) ≡ false) → Inv o (past ++ entry by (Got child line) ∷ [])
passed_inv o past by child line inv may closed =
    plain_inv o past by (Got child line) inv may (λ c. refl) (λ c j. rw (closed_item c j (child == c) refl) refl) (λ c j. refl)
  where
    closed_item : (c j : ℕ) (b : Bool) → (child == c) ≡ b → (b && is_for j (addressed past c line).0 && is_open past c j && not false) ≡ false
    closed_item c j false e = refl
    closed_item c j true e =
        let here : (is_for j (addressed past c line).0 && is_open past c j) ≡ false =
        subst (λ (x : ℕ). (is_for j (addressed past x line).0 && is_open past x j) ≡ false) (same_number child c e) (closed j) in
        ap (λ (b : Bool). b && true) here

pub greet_inv : (o : Opening) (past : List Entry) (by child : ℕ) (line : List ℕ) → Inv o past → may_come o past by (Got child line) ≡ true
    → has_spoken past child ≡ false → Inv o (past ++ entry by (Got child line) ∷ [])
greet_inv o past by child line inv may silent =
    passed_inv o past by child line inv may
    (λ j.
    let closed : is_open past child j ≡ false = unasked_closed child j past (ap (list_any (λ k. k == j)) (inv.silent child silent)) in
    and_false (is_for j (addressed past child line).0) (is_open past child j) closed)
