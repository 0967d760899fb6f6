-- In a legal journal each job's part fits its request and its verdict.
use Rattle.std.proofs.Common.{◌≡◌, ℕ, ◌<◌, List, [], ◌∷◌, ◌++◌, ◌≤◌, refl, sym, ap, subst, ◌∙◌, Bool, true, false, length, not, ◌==◌, cond, Some, None, Option, arith, length-append}
use Rattle.std.specs.Prelude.{◌&&◌, ◌↔◌, map}
use Rattle.std.specs.List.{list_any, cons_option}
use Rattle.std.specs.Option.{option_or}
use Rattle.std.proofs.lemmas.List.{append-nil}
use Rattle.journal_model.specs.declared.verdict.Why.TheVariants.{Foul, Error as ErrorAt, Version as VersionFault}
use Rattle.journal_model.specs.declared.verdict.Verdict.{Verdict}
use Rattle.journal_model.specs.declared.verdict.Verdict.TheVariants.{Done as DoneAt}
use Rattle.annex_model.specs.declared.final_line.Final.{Final}
use Rattle.annex_model.specs.declared.final_line.Final.TheVariants.{Done, Failed, Absent, Unknown, Unsupported}
use Rattle.annex_model.specs.Messages.{RemoteMessage, HostMessage, IsAskable, host_reading, remote_reading}
use Rattle.annex_model.specs.Talks.{Item, Conv, Talking, is_aside, final_of, awaits, said, item_is_aside, spells_aside}
use Rattle.annex_model.proofs.TalksGrow.{Conv-push, Talking-aside, said-push, replied-push, from_remote, from_host}
use Rattle.annex_model.proofs.Fronts.{front_of}
use Rattle.annex_model.proofs.Leads.{asked_more}
use Rattle.journal_model.specs.declared.opening.Opening.{Opening}
use Rattle.journal_model.specs.declared.entry.What.{What}
use Rattle.journal_model.specs.declared.entry.What.TheVariants.{Claim, Start, NoStart, Lead, Ask, Put, Sent, Mute, Got, End, Verdict as Settled, Lost, Answer as Answered, Note as Noted, Again}
use Rattle.journal_model.specs.declared.entry.Entry.{Entry}
use Rattle.journal_model.specs.Journal.{asks, asked_jobs, first_of, verdict_of, has_spoken, got_from, is_open, is_live, addressed}
use Rattle.journal_model.specs.Parts.{part, part_from, is_for, ends_at}
use Rattle.annex_model.specs.Hearings.{request_in, Aside, hearing, hearing_of, by_answer}
use Rattle.journal_model.specs.Due.{due_after, made_by, verdict_at, ending, due_by_got, after_line, after_late, after_hearing, is_error, is_passed, is_version_one, replies, replies_said, replying, replies_at}
use Rattle.journal_model.specs.Legality.{Legal, MayStand, may_come, is_led}
use Rattle.journal_model.specs.Projection.{Fits, PartFits, FitsFinal, JobFits, PartIsAsked, Ends, final_in, last_place}
use Rattle.journal_model.proofs.Growing.{groups_from, is_lead}
use Rattle.journal_model.proofs.PartsGrow.{part-group}
use Rattle.journal_model.proofs.Looks.{entry, is_asked, each_of-append, any-append, verdict_of-append, or_none, settled_none, unasked_closed, open_unsettled}
use Rattle.journal_model.proofs.Replying.{IsPlaced, longer, placed_kept, tag_kept, said_small, reply_places, reply_texts, reply_part, replies_here}
use Rattle.journal_model.proofs.Keeping.{Inv, earlier, end_inv, mute_inv, plain_inv, ask_inv, led_inv, foul_inv, passed_inv, greet_inv}
use Rattle.ann_key.proofs.Lists.{last_or-push as last_push, nil_front as no_append}
use Rattle.std.proofs.lemmas.Bool.{not-true as not_true, eqb-true as same_number, and_parts as both}
use Rattle.ann_key.proofs.Numbers.{same_number as same}
use Rattle.ann_key.proofs.Booleans.{left_false as either_left, true_and_false as true_not_false}

-- ---- what one more item makes of a part

final_back : (f : Final) (at : ℕ) → final_in (verdict_at f at) ≡ Some (f, at)
final_back Done at = refl
final_back Failed at = refl
final_back Absent at = refl
final_back Unknown at = refl
final_back Unsupported at = refl

ends_fits : (f : ℕ → List (List ℕ)) (q : HostMessage) (p : List Item) (w : Final) (at : ℕ) → Ends f q p w at → PartFits f q p (Some (verdict_at w at))
ends_fits f q p w at h = subst (λ (x : Option (Final × ℕ)). FitsFinal f q p x) (sym (final_back w at)) h

-- the place that it names is its own
final_place : (f : Final) (at place : ℕ) → Some (verdict_at f at) ≡ Some (DoneAt place) → place ≡ at
final_place Done at place h = cc
final_place Failed at place h = absurd cc
final_place Absent at place h = absurd cc
final_place Unknown at place h = absurd cc
final_place Unsupported at place h = absurd cc

is_plain : (m : RemoteMessage) (at : ℕ) (text : List ℕ) (b : Bool) → remote_reading text ≡ Some m → is_aside m ≡ b → item_is_aside (from_remote at text) ≡ b
is_plain m at text b spelled e = ap (λ (r : Option RemoteMessage). spells_aside r) spelled ∙ e

-- a last line, said in a job that talks
last_fits : (f : ℕ → List (List ℕ)) (p : List Item) (q : HostMessage) (m : RemoteMessage) (w : Final) (at : ℕ) (text : List ℕ)
    → request_in p ≡ Some q → Fits f p None → remote_reading text ≡ Some m → is_aside m ≡ false
    → final_of q (said p ++ Some m ∷ []) ≡ Some w → Fits f (p ++ from_remote at text ∷ []) (Some (verdict_at w at))
last_fits f [] q m w at text request fits spelled no_aside final = absurd cc
last_fits f (i ∷ is) q m w at text request fits spelled no_aside final =
    let p : List Item = i ∷ is in
    let Q : fits.0 ≡ q = cc (fits.1, request) in
    let askable = subst IsAskable Q fits.2 in
    let talking : Talking f q p = subst (λ (x : HostMessage). Talking f x p) Q fits.3.talking in
    let plain = is_plain m at text false spelled no_aside in
    let said_is : final_of q (said (p ++ from_remote at text ∷ [])) ≡ Some w = rw (said-push p at text plain) (rw spelled final) in
    let whole : Conv f q (p ++ from_remote at text ∷ []) = Conv-push f q p at text plain talking (rw spelled (rw final refl)) in
    let place : last_place (p ++ from_remote at text ∷ []) ≡ Some at = rw (last_push None p (from_remote at text)) refl in
    (q, asked_more p (from_remote at text ∷ []) q request, askable, ends_fits f q (p ++ from_remote at text ∷ []) w at (record { whole = whole; final = said_is; place = place }))

-- a line of an answer that goes on
more_fits : (f : ℕ → List (List ℕ)) (p : List Item) (q : HostMessage) (m : RemoteMessage) (at : ℕ) (text : List ℕ)
    → request_in p ≡ Some q → Fits f p None → remote_reading text ≡ Some m → is_aside m ≡ false
    → awaits q (said p ++ Some m ∷ []) ≡ true → Fits f (p ++ from_remote at text ∷ []) None
more_fits f [] q m at text request fits spelled no_aside waits = absurd cc
more_fits f (i ∷ is) q m at text request fits spelled no_aside waits =
    let p : List Item = i ∷ is in
    let Q : fits.0 ≡ q = cc (fits.1, request) in
    let askable = subst IsAskable Q fits.2 in
    let before : Talking f q p = subst (λ (x : HostMessage). Talking f x p) Q fits.3.talking in
    let plain = is_plain m at text false spelled no_aside in
    let talking : Talking f q (p ++ from_remote at text ∷ []) = record {
      replied = replied-push f q p at text plain before.replied;
      waits = rw (said-push p at text plain) (rw spelled waits);
    } in
    (q, asked_more p (from_remote at text ∷ []) q request, askable, record { talking = talking; front = front_of f q (p ++ from_remote at text ∷ []) talking })

-- an aside, with the replies that it is owed
aside_fits : (f : ℕ → List (List ℕ)) (p : List Item) (m : RemoteMessage) (at : ℕ) (text : List ℕ) (rs : List (ℕ × List ℕ)) → (p ≡ [] → ⊥) → Fits f p None
    → remote_reading text ≡ Some m → is_aside m ≡ true → map (λ (r : ℕ × List ℕ). r.1) rs ≡ f at → Fits f (p ++ from_remote at text ∷ map from_host rs) None
aside_fits f [] m at text rs some fits spelled aside owed = absurd (some refl)
aside_fits f (i ∷ is) m at text rs some fits spelled aside owed =
    let p : List Item = i ∷ is in
    let talking : Talking f fits.0 (p ++ from_remote at text ∷ map from_host rs) =
    Talking-aside f fits.0 p at text rs (is_plain m at text true spelled aside) owed fits.3.talking in
    (fits.0, asked_more p (from_remote at text ∷ map from_host rs) fits.0 fits.1, fits.2, record { talking = talking; front = front_of f fits.0 (p ++ from_remote at text ∷ map from_host rs) talking })

-- ---- a line that joins the part of its job, and settles it or makes nothing due

-- the line is the item of the job that it is for, which is open, and of no other
heard_item : (past : List Entry) (child c j k : ℕ) (line : List ℕ) → (addressed past child line).0 ≡ Some j → is_open past child j ≡ true
    → (child == c && is_for k (addressed past c line).0 && is_open past c k && not false) ≡ (child == c && j == k)
heard_item past child c j k line for opened = go (child == c) refl
  where
    go : (b : Bool) → (child == c) ≡ b → (b && is_for k (addressed past c line).0 && is_open past c k && not false) ≡ (b && j == k)
    go false e = refl
    go true e =
        let C : child ≡ c = same_number child c e in
        let here : (addressed past c line).0 ≡ Some j = subst (λ (x : ℕ). (addressed past x line).0 ≡ Some j) C for in
        let opened' : is_open past c j ≡ true = subst (λ (x : ℕ). is_open past x j ≡ true) C opened in
        ap (λ (x : Option ℕ). true && is_for k x && is_open past c k && not false) here ∙ by_job (j == k) refl opened'
      where
        by_job : (b : Bool) → (j == k) ≡ b → is_open past c j ≡ true → (b && is_open past c k && true) ≡ b
        by_job false e' h = refl
        by_job true e' h =
            let J : j ≡ k = same_number j k e' in
            rw (subst (λ (x : ℕ). is_open past c x ≡ true) J h) refl

-- What the line and what is due after it make of parts and verdicts: the job that it is for grows by the line and these replies,
-- and gets this verdict, if one.
record Joins (past : List Entry) (by child j : ℕ) (line : List ℕ) (due : List Entry) (rs : List (ℕ × List ℕ)) (w : Option Verdict) : Type 0 where
  part : (c k : ℕ) → part_from c k past (entry by (Got child line) ∷ due)
      ≡ cond (child == c && j == k) (from_remote (length past) (addressed past child line).1 ∷ map from_host rs) []
  asks : (c : ℕ) → asked_jobs due c ≡ []
  verdict : (c k : ℕ) → verdict_of due c k ≡ cond (child == c && j == k) w None
  place : (at : ℕ) → w ≡ Some (DoneAt at) → at ≡ length past

heard_part : (past : List Entry) (by child j : ℕ) (line : List ℕ) (due : List Entry) (tail : List Item) (c k : ℕ)
    → (addressed past child line).0 ≡ Some j → is_open past child j ≡ true → ((c p : ℕ) → ends_at c p due ≡ false)
    → part_from c k (past ++ entry by (Got child line) ∷ []) due ≡ cond (child == c && j == k) tail []
    → part_from c k past (entry by (Got child line) ∷ due)
    ≡ cond (child == c && j == k) (from_remote (length past) (addressed past child line).1 ∷ tail) []
heard_part past by child j line due tail c k for opened named rest =
    let item : Option Item = Some (from_remote (length past) (addressed past c line).1) in
    let more : List Item = part_from c k (past ++ entry by (Got child line) ∷ []) due in
    ap (λ (b : Bool). cons_option (cond (child == c && is_for k (addressed past c line).0 && is_open past c k && not b) item None) more) (named c (length past))
    ∙ ap (λ (b : Bool). cons_option (cond b item None) more) (heard_item past child c j k line for opened)
    ∙ ap (cons_option (cond (child == c && j == k) item None)) rest
    ∙ by_child (child == c) refl
  where
    by_child : (b : Bool) → (child == c) ≡ b
        → cons_option (cond (b && j == k) (Some (from_remote (length past) (addressed past c line).1)) None) (cond (b && j == k) tail [])
        ≡ cond (b && j == k) (from_remote (length past) (addressed past child line).1 ∷ tail) []
    by_child false h = refl
    by_child true h = by_job (j == k)
      where
        text : (addressed past c line).1 ≡ (addressed past child line).1
        text = ap (λ (d : ℕ). (addressed past d line).1) (sym (same_number child c h))

        by_job : (b : Bool) → cons_option (cond b (Some (from_remote (length past) (addressed past c line).1)) None) (cond b tail [])
            ≡ cond b (from_remote (length past) (addressed past child line).1 ∷ tail) []
        by_job false = refl
        by_job true = ap (λ (t : List ℕ). from_remote (length past) t ∷ tail) text

abbrev settled_if : ℕ → ℕ → ℕ → Option Verdict → List Entry
settled_if by child j None = []
settled_if by child j (Some v) = entry by (Settled child j v) ∷ []

either_nothing : {X : Type 0} (b : Bool) (x : X) → x ≡ cond b x x
either_nothing true x = refl
either_nothing false x = refl

-- nothing is due, or a verdict
settled_joins : (past : List Entry) (by child j : ℕ) (line : List ℕ) (w : Option Verdict) → (addressed past child line).0 ≡ Some j → is_open past child j ≡ true
    → ((at : ℕ) → w ≡ Some (DoneAt at) → at ≡ length past) → Joins past by child j line (settled_if by child j w) [] w
settled_joins past by child j line w for opened place = record {
  part = λ c k. heard_part past by child j line (settled_if by child j w) [] c k for opened (named w) (rest w c k);
  asks = λ c. asks w c;
  verdict = λ c k. verdict w c k;
  place = place;
}
  where
    named : (w : Option Verdict) (c p : ℕ) → ends_at c p (settled_if by child j w) ≡ false
    named None c p = refl
    named (Some v) c p = refl

    rest : (w : Option Verdict) (c k : ℕ) → part_from c k (past ++ entry by (Got child line) ∷ []) (settled_if by child j w) ≡ cond (child == c && j == k) [] []
    rest None c k = either_nothing (child == c && j == k) []
    rest (Some v) c k = either_nothing (child == c && j == k) []

    asks : (w : Option Verdict) (c : ℕ) → asked_jobs (settled_if by child j w) c ≡ []
    asks None c = refl
    asks (Some v) c = refl

    verdict : (w : Option Verdict) (c k : ℕ) → verdict_of (settled_if by child j w) c k ≡ cond (child == c && j == k) w None
    verdict None c k = either_nothing (child == c && j == k) None
    verdict (Some v) c k = go (child == c && j == k)
      where
        go : (b : Bool) → first_of (cons_option (cond b (Some v) None) []) ≡ cond b (Some v) None
        go true = refl
        go false = refl

-- replies are due
replied_joins : (past : List Entry) (by child j : ℕ) (line : List ℕ) (lines : List (List ℕ)) → IsPlaced past child → (addressed past child line).0 ≡ Some j → is_open past child j ≡ true
    → Joins past by child j line (made_by by (replying past child j lines)) (reply_places past (past ++ entry by (Got child line) ∷ []) by child j lines) None
replied_joins past by child j line lines placed for opened = record {
  part = λ c k.
      heard_part past by child j line (made_by by (replying past child j lines)) (map from_host (reply_places past before by child j lines)) c k for opened (named lines)
      (reply_part past before by child j lines (placed_kept past (entry by (Got child line) ∷ []) child placed (λ i. refl))
      (tag_kept past (entry by (Got child line) ∷ []) child placed refl refl) (said_small past child j line for) c k);
  asks = λ c. asks lines c;
  verdict = λ c k. verdict lines c k ∙ either_nothing (child == c && j == k) None;
  place = λ at h. absurd (no_place at h);
}
  where
    before : List Entry
    before = past ++ entry by (Got child line) ∷ []

    named : (lines : List (List ℕ)) (c p : ℕ) → ends_at c p (made_by by (replying past child j lines)) ≡ false
    named [] c p = refl
    named (l ∷ ls) c p = refl

    asks : (lines : List (List ℕ)) (c : ℕ) → asked_jobs (made_by by (replying past child j lines)) c ≡ []
    asks [] c = refl
    asks (l ∷ ls) c = asks ls c

    verdict : (lines : List (List ℕ)) (c k : ℕ) → verdict_of (made_by by (replying past child j lines)) c k ≡ None
    verdict [] c k = refl
    verdict (l ∷ ls) c k = verdict ls c k

    no_place : (at : ℕ) → None ≡ Some (DoneAt at) → ⊥
    no_place at h = cc

join_fits : (f : ℕ → List (List ℕ)) (p : List Item) (v : Option Verdict) (is : List Item) (w : Option Verdict) (b : Bool) → Fits f p v
    → (b ≡ true → (v ≡ None) × Fits f (p ++ is) w)
    → Fits f (p ++ cond b is []) (option_or v (cond b w None))
join_fits f p v is w false h new =
    let a = subst (λ (x : List Item). Fits f x v) (sym (append-nil p)) h in
    subst (λ (x : Option Verdict). Fits f (p ++ []) x) (sym (or_none v None refl)) a
join_fits f p v is w true h new =
    let facts = new refl in
    subst (λ (x : Option Verdict). Fits f (p ++ is) (option_or x w)) (sym facts.0) facts.1

join_asked : (p : List Item) (asked : Bool) (is : List Item) (b : Bool) → ((p ≡ []) ↔ (asked ≡ false)) → (b ≡ true → p ≡ [] → ⊥)
    → ((p ++ cond b is [] ≡ []) ↔ (asked ≡ false))
join_asked p asked is false f some = subst (λ (x : List Item). (x ≡ []) ↔ (asked ≡ false)) (sym (append-nil p)) f
join_asked p asked is true f some = (λ h. absurd (some refl (no_append p is h)), λ h. absurd (some refl (f.1 h)))

open_part : (o : Opening) (past : List Entry) (c j : ℕ) → Inv o past → is_open past c j ≡ true → part past c j ≡ [] → ⊥
open_part o past c j inv opened empty = true_not_false (is_open past c j) opened (unasked_closed c j past ((inv.asked c j).0 empty))

open_fits : (o : Opening) (past group rest : List Entry) (c j : ℕ) → Inv o past → is_open past c j ≡ true
    → Fits (replies_at o ((past ++ group) ++ rest)) (part past c j) None
open_fits o past group rest c j inv opened =
    subst (λ (v : Option Verdict). Fits (replies_at o ((past ++ group) ++ rest)) (part past c j) v) (settled_none past c j (open_unsettled past c j opened))
    (earlier o past group rest c j inv)

join_inv : (o : Opening) (past : List Entry) (by child j : ℕ) (line : List ℕ) (due : List Entry) (rs : List (ℕ × List ℕ)) (w : Option Verdict)
    → Inv o past → may_come o past by (Got child line) ≡ true → is_open past child j ≡ true → Joins past by child j line due rs w
    → ((rest : List Entry) → Fits (replies_at o ((past ++ entry by (Got child line) ∷ due) ++ rest))
    (part past child j ++ from_remote (length past) (addressed past child line).1 ∷ map from_host rs) w)
    → Inv o (past ++ entry by (Got child line) ∷ due)
join_inv o past by child j line due rs w inv may opened joins joined =
    let e : Entry = entry by (Got child line) in
    let items : List Item = from_remote (length past) (addressed past child line).1 ∷ map from_host rs in
    let no_verdict : verdict_of past child j ≡ None = settled_none past child j (open_unsettled past child j opened) in
    let some : part past child j ≡ [] → ⊥ = open_part o past child j inv opened in
    let grown : (c k : ℕ) → part (past ++ e ∷ due) c k ≡ part past c k ++ cond (child == c && j == k) items [] =
    λ c k. part-group o c k past e due may ∙ ap (λ (is : List Item). part past c k ++ is) (joins.part c k) in
    let verdicts : (c k : ℕ) → verdict_of (past ++ e ∷ due) c k ≡ option_or (verdict_of past c k) (cond (child == c && j == k) w None) =
    λ c k. verdict_of-append c k past (e ∷ due) ∙ ap (option_or (verdict_of past c k)) (joins.verdict c k) in
    let jobs : (c : ℕ) → asked_jobs (past ++ e ∷ due) c ≡ asked_jobs past c =
    λ c. each_of-append (asks c) past (e ∷ due) ∙ ap (λ (ks : List ℕ). asked_jobs past c ++ ks) (joins.asks c) ∙ append-nil (asked_jobs past c) in
    record {
      jobs = λ rest c k. (
          let f : ℕ → List (List ℕ) = replies_at o ((past ++ e ∷ due) ++ rest) in
          let base = join_fits f (part past c k) (verdict_of past c k) items w (child == c && j == k) (earlier o past (e ∷ due) rest c k inv)
          (λ one.
          let here = both (child == c) (j == k) one in
          let C : child ≡ c = same_number child c here.0 in
          let J : j ≡ k = same_number j k here.1 in
          let at_c = subst (λ (x : ℕ). (verdict_of past x j ≡ None) × Fits f (part past x j ++ items) w) C (no_verdict, joined rest) in
          subst (λ (x : ℕ). (verdict_of past c x ≡ None) × Fits f (part past c x ++ items) w) J at_c) in
          let a = subst (λ (x : List Item). Fits f x (option_or (verdict_of past c k) (cond (child == c && j == k) w None))) (sym (grown c k)) base in
          subst (λ (x : Option Verdict). Fits f (part (past ++ e ∷ due) c k) x) (sym (verdicts c k)) a);
      placed = λ c k at h. place c k (verdict_of past c k) refl (child == c && j == k) at (sym (verdicts c k) ∙ h);
      asked = λ c k. (
          let base = join_asked (part past c k) (is_asked past c k) items (child == c && j == k) (inv.asked c k)
          (λ one.
          let here = both (child == c) (j == k) one in
          let C : child ≡ c = same_number child c here.0 in
          let J : j ≡ k = same_number j k here.1 in
          let at_c = subst (λ (x : ℕ). part past x j ≡ [] → ⊥) C some in
          subst (λ (x : ℕ). part past c x ≡ [] → ⊥) J at_c) in
          let a = subst (λ (x : List Item). (x ≡ []) ↔ (is_asked past c k ≡ false)) (sym (grown c k)) base in
          subst (λ (ks : List ℕ). (part (past ++ e ∷ due) c k ≡ []) ↔ (list_any (λ x. x == k) ks ≡ false)) (sym (jobs c)) a);
      silent = λ c h. (
          let before : has_spoken past c ≡ false = either_left (has_spoken past c) (has_spoken (e ∷ due) c) (sym (any-append (got_from c) past (e ∷ due)) ∙ h) in
          jobs c ∙ inv.silent c before);
      fresh = λ c k h. (
          let before = inv.fresh c k (subst (λ (ks : List ℕ). length ks ≤ k) (jobs c) h) in
          subst (λ (ks : List ℕ). list_any (λ x. x == k) ks ≡ false) (sym (jobs c)) before);
    }
  where
    here : (at : ℕ) → at ≡ length past → at < length (past ++ entry by (Got child line) ∷ due)
    here at e = let n = length-append past (entry by (Got child line) ∷ due) in omega (arith, n, e)

    place : (c k : ℕ) (v : Option Verdict) → verdict_of past c k ≡ v → (b : Bool) (at : ℕ) → option_or v (cond b w None) ≡ Some (DoneAt at) → at < length (past ++ entry by (Got child line) ∷ due)
    place c k (Some v) e b at h = longer at past (entry by (Got child line) ∷ due) (inv.placed c k at (e ∙ h))
    place c k None e true at h = here at (joins.place at h)
    place c k None e false at h = absurd (no_place h)
      where
        no_place : None ≡ Some (DoneAt at) → ⊥
        no_place h = cc

-- ---- each line, and each group

-- a line of no open job
late_inv : (o : Opening) (past : List Entry) (by child : ℕ) (line : List ℕ) (job : Option ℕ) (m : RemoteMessage) → Inv o past
    → may_come o past by (Got child line) ≡ true → ((j : ℕ) → (is_for j (addressed past child line).0 && is_open past child j) ≡ false)
    → Inv o (past ++ entry by (Got child line) ∷ made_by by (after_late past child job m))
late_inv o past by child line job m inv may closed = by_passed (is_passed past child job m)
  where
    by_passed : (b : Bool) → Inv o (past ++ entry by (Got child line) ∷ made_by by (cond b [] (ending past child (Foul (length past)))))
    by_passed true = passed_inv o past by child line inv may closed
    by_passed false = foul_inv o past by child line (Foul (length past)) inv may (same (length past))

heard_inv : (o : Opening) (past : List Entry) (by child j : ℕ) (line : List ℕ) (m : RemoteMessage) → Inv o past → may_come o past by (Got child line) ≡ true
    → (addressed past child line).0 ≡ Some j → is_open past child j ≡ true → remote_reading (addressed past child line).1 ≡ Some m
    → (aside : Bool) → is_aside m ≡ aside → (r : Option HostMessage) → request_in (part past child j) ≡ r
    → Inv o (past ++ entry by (Got child line) ∷ made_by by (after_hearing o past child j m (cond aside Aside (hearing_of r (said (part past child j) ++ Some m ∷ [])))))
heard_inv o past by child j line m inv may for opened spelled true aside r request =
    let lines : List (List ℕ) = replies o past m in
    let due : List Entry = made_by by (replying past child j lines) in
    let rs : List (ℕ × List ℕ) = reply_places past (past ++ entry by (Got child line) ∷ []) by child j lines in
    join_inv o past by child j line due rs None inv may opened (replied_joins past by child j line lines (inv.placed child) for opened)
    (λ rest.
    aside_fits (replies_at o ((past ++ entry by (Got child line) ∷ due) ++ rest)) (part past child j) m (length past) (addressed past child line).1 rs
    (open_part o past child j inv opened) (open_fits o past (entry by (Got child line) ∷ due) rest child j inv opened) spelled aside
    (reply_texts past (past ++ entry by (Got child line) ∷ []) by child j lines
    ∙ sym (replies_here o past by child line due rest ∙ ap (replies_said o past) spelled)))
heard_inv o past by child j line m inv may for opened spelled false no_aside None request =
    foul_inv o past by child line (Foul (length past)) inv may (same (length past))
heard_inv o past by child j line m inv may for opened spelled false no_aside (Some q) request =
    by_final (final_of q (said (part past child j) ++ Some m ∷ [])) refl (awaits q (said (part past child j) ++ Some m ∷ [])) refl
  where
    group : Option Verdict → List Entry
    group w = entry by (Got child line) ∷ settled_if by child j w

    by_final : (f : Option Final) → final_of q (said (part past child j) ++ Some m ∷ []) ≡ f → (w : Bool) → awaits q (said (part past child j) ++ Some m ∷ []) ≡ w
        → Inv o (past ++ entry by (Got child line) ∷ made_by by (after_hearing o past child j m (by_answer f w)))
    by_final (Some f) final w waits =
        let v : Option Verdict = Some (verdict_at f (length past)) in
        join_inv o past by child j line (settled_if by child j v) [] v inv may opened
        (settled_joins past by child j line v for opened (λ place h. final_place f (length past) place h))
        (λ rest.
        last_fits (replies_at o ((past ++ group v) ++ rest)) (part past child j) q m f (length past) (addressed past child line).1 request
        (open_fits o past (group v) rest child j inv opened) spelled no_aside final)
    by_final None final true waits =
        join_inv o past by child j line [] [] None inv may opened
        (settled_joins past by child j line None for opened (λ at h. absurd (no_place at h)))
        (λ rest.
        more_fits (replies_at o ((past ++ group None) ++ rest)) (part past child j) q m (length past) (addressed past child line).1 request
        (open_fits o past (group None) rest child j inv opened) spelled no_aside waits)
      where
        no_place : (at : ℕ) → None ≡ Some (DoneAt at) → ⊥
        no_place at h = cc
    by_final None final false waits = foul_inv o past by child line (Foul (length past)) inv may (same (length past))

line_inv : (o : Opening) (past : List Entry) (by child : ℕ) (line : List ℕ) → Inv o past → may_come o past by (Got child line) ≡ true
    → (job : Option ℕ) → (addressed past child line).0 ≡ job → (m : Option RemoteMessage) → remote_reading (addressed past child line).1 ≡ m
    → Inv o (past ++ entry by (Got child line) ∷ made_by by (after_line o past child job m))
line_inv o past by child line inv may job for None spelled = foul_inv o past by child line (Foul (length past)) inv may (same (length past))
line_inv o past by child line inv may None for (Some m) spelled =
    late_inv o past by child line None m inv may (λ j. ap (λ (x : Option ℕ). is_for j x && is_open past child j) for)
line_inv o past by child line inv may (Some j) for (Some m) spelled = by_open (is_open past child j) refl
  where
    no_other : is_open past child j ≡ false → (k : ℕ) → (is_for k (addressed past child line).0 && is_open past child k) ≡ false
    no_other shut k = ap (λ (x : Option ℕ). is_for k x && is_open past child k) for ∙ go (j == k) refl
      where
        go : (b : Bool) → (j == k) ≡ b → (b && is_open past child k) ≡ false
        go false e = refl
        go true e = subst (λ (x : ℕ). is_open past child x ≡ false) (same_number j k e) shut

    by_open : (b : Bool) → is_open past child j ≡ b
        → Inv o (past ++ entry by (Got child line) ∷ made_by by (cond b (after_hearing o past child j m (hearing (part past child j) m)) (after_late past child (Some j) m)))
    by_open true opened = heard_inv o past by child j line m inv may for opened spelled (is_aside m) refl (request_in (part past child j)) refl
    by_open false shut = late_inv o past by child line (Some j) m inv may (no_other shut)

got_inv : (o : Opening) (past : List Entry) (by child : ℕ) (line : List ℕ) → Inv o past → may_come o past by (Got child line) ≡ true
    → Inv o (past ++ entry by (Got child line) ∷ made_by by (due_by_got o past child line))
got_inv o past by child line inv may = by_error (is_error (remote_reading (addressed past child line).1))
  where
    by_version : has_spoken past child ≡ false → (b : Bool) → Inv o (past ++ entry by (Got child line) ∷ made_by by (cond b [] (ending past child (VersionFault (length past)))))
    by_version e true = greet_inv o past by child line inv may e
    by_version e false = foul_inv o past by child line (VersionFault (length past)) inv may (same (length past))

    by_speech : (b : Bool) → has_spoken past child ≡ b
        → Inv o (past ++ entry by (Got child line) ∷ made_by by (cond (not b)
        (cond (is_version_one (remote_reading line)) [] (ending past child (VersionFault (length past))))
        (after_line o past child (addressed past child line).0 (remote_reading (addressed past child line).1))))
    by_speech true e = line_inv o past by child line inv may (addressed past child line).0 refl (remote_reading (addressed past child line).1) refl
    by_speech false e = by_version e (is_version_one (remote_reading line))

    by_error : (b : Bool) → Inv o (past ++ entry by (Got child line) ∷ made_by by (cond b (ending past child (ErrorAt (length past)))
        (cond (not (has_spoken past child)) (cond (is_version_one (remote_reading line)) [] (ending past child (VersionFault (length past))))
        (after_line o past child (addressed past child line).0 (remote_reading (addressed past child line).1)))))
    by_error true = foul_inv o past by child line (ErrorAt (length past)) inv may (same (length past))
    by_error false = by_speech (has_spoken past child) refl

step_inv : (o : Opening) (past : List Entry) (by : ℕ) (w : What) → Inv o past → MayStand o past [] (entry by w) → is_lead w ≡ false
    → Inv o (past ++ entry by w ∷ due_after o past (entry by w))
step_inv o past by (Claim task child) inv may plain = plain_inv o past by (Claim task child) inv may (λ c. refl) (λ c j. refl) (λ c j. refl)
step_inv o past by (Start child slot offer) inv may plain = plain_inv o past by (Start child slot offer) inv may (λ c. refl) (λ c j. refl) (λ c j. refl)
step_inv o past by (NoStart slot) inv may plain = plain_inv o past by (NoStart slot) inv may (λ c. refl) (λ c j. refl) (λ c j. refl)
step_inv o past by (Lead child job line) inv may plain = absurd cc
step_inv o past by (Ask child job task line) inv stands plain =
    let unled = not_true _ (both _ _ stands).0 in
    let may = (both (not (is_led (host_reading (addressed past child line).1))) (may_come o past by (Ask child job task line)) stands).1 in
    let four = both _ _ may in
    let three = both _ _ four.0 in
    let two = both _ _ three.0 in
    let asking = both _ _ four.1 in
    ask_inv o past by child job task line inv may unled two.1 three.1 (both _ _ asking.0).0
step_inv o past by (Put child job line) inv may plain = absurd cc
step_inv o past by (Sent child) inv may plain = plain_inv o past by (Sent child) inv may (λ c. refl) (λ c j. refl) (λ c j. refl)
step_inv o past by (Mute child) inv may plain = mute_inv o past by child (is_live past child) inv may
step_inv o past by (Got child line) inv may plain = got_inv o past by child line inv may
step_inv o past by (End child why) inv may plain = end_inv o past by child why inv may
step_inv o past by (Settled child job verdict) inv may plain = absurd cc
step_inv o past by (Lost child task) inv may plain = plain_inv o past by (Lost child task) inv may (λ c. refl) (λ c j. refl) (λ c j. refl)
step_inv o past by (Answered task answer) inv may plain = plain_inv o past by (Answered task answer) inv may (λ c. refl) (λ c j. refl) (λ c j. refl)
step_inv o past by (Again task answer) inv may plain = plain_inv o past by (Again task answer) inv may (λ c. refl) (λ c j. refl) (λ c j. refl)
step_inv o past by (Noted task chunk count) inv may plain = plain_inv o past by (Noted task chunk count) inv may (λ c. refl) (λ c j. refl) (λ c j. refl)

pub invariant : (o : Opening) (journal : List Entry) → Legal o journal → Inv o journal
invariant o journal legal =
    groups_from o (Inv o) record { plain = λ p e inv may plain. step_inv o p e.by e.what inv may plain; pairs = λ p by child job task name line inv led. led_inv o p by child job task name line inv led } [] [] journal refl
    (record { jobs = λ rest c j. refl; placed = λ c j at h. absurd (no_place at h); asked = λ c j. (λ h. refl, λ h. refl); silent = λ c h. refl; fresh = λ c j h. refl })
    legal.stands legal.nothing_due
  where
    no_place : (at : ℕ) → None ≡ Some (DoneAt at) → ⊥
    no_place at h = cc

pub parts_fit : (o : Opening) (journal : List Entry) → Legal o journal → (c j : ℕ) → JobFits (replies_at o journal) journal c j
parts_fit o journal legal c j =
    subst (λ (all : List Entry). JobFits (replies_at o all) journal c j) (append-nil journal) ((invariant o journal legal).jobs [] c j)

pub asked_parts : (o : Opening) (journal : List Entry) → Legal o journal → (c j : ℕ) → PartIsAsked journal c j
asked_parts o journal legal = (invariant o journal legal).asked
