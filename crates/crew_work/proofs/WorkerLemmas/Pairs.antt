-- What asking and noting do to the requests and the notes that a journal has of a task.
use Rattle.std.proofs.Common.{◌≡◌, ℕ, ◌<◌, ◌^◌, List, [], ◌∷◌, ◌++◌, length, append_assoc, refl, sym, ap, subst, ◌∙◌, Bool, true, false, not, ◌==◌, Some, None, Option, inl, inr, arith}
use Rattle.std.proofs.lemmas.Bool.Decides.{nat_tests}
use Rattle.std.specs.Prelude.{◌&&◌, ◌||◌, nat_lt}
use Rattle.std.specs.List.{list_any}
use Rattle.std.proofs.lemmas.List.Folds.{list_any-append}
use Rattle.annex_model.specs.Messages.{HostMessage, Export, host_line, host_reading, is_askable}
use Rattle.annex_model.proofs.Classes.{test_askable}
use Rattle.annex_model.proofs.Readings.{canonical_read}
use Rattle.journal_model.specs.declared.verdict.Why.{Why}
use Rattle.journal_model.specs.declared.verdict.Verdict.{Verdict}
use Rattle.journal_model.specs.declared.entry.What.{What}
use Rattle.journal_model.specs.declared.entry.What.TheVariants.{Lead, Ask, Put, Sent, Mute, Got, End, Verdict as Settled, Lost, Note}
use Rattle.journal_model.specs.declared.entry.Entry.{Entry}
use Rattle.journal_model.specs.declared.opening.Opening.{Opening}
use Rattle.journal_model.specs.Journal.{any, addressed, each_of, is_open, is_started, verdict_of, why_of}
use Rattle.journal_model.specs.Due.{made_by}
use Rattle.journal_model.specs.Legality.{Legal, has_open_job, is_claimed_by, is_held_by, holder, is_in_turn, job_for, may_ask, may_note, task_of}
use Rattle.journal_model.specs.Makers.{is_of_task, is_taken_by}
use Rattle.journal_model.specs.Shares.{are_own, makes_only, by_link}
use Rattle.journal_model.proofs.Holding.{holder_append}
use Rattle.journal_model.proofs.Idling.{claimed_positive}
use Rattle.journal_model.proofs.Looks.{entry, each_of-append}
use Rattle.journal_model.proofs.Named.{same_addressed}
use Rattle.journal_model.proofs.Testing.{all-split, only_others as others_make}
use Rattle.journal_model.proofs.Working.{all_asked, closed_all, held_alone, holder_apart, jobs_stay_closed, no_jobs_in, settled_closed}
use Rattle.journal_model.proofs.Unbounded.{held_positive, none_by}
use Rattle.host_core.proofs.Wiring.{wired_text}
use Rattle.host_core.specs.Steps.{Step, step_of, append, asking, may_request, next_job, next_on_wire}
use Rattle.host_core.specs.declared.event.Event.TheVariants.{Note as NoteEvent}
use Rattle.host_core.specs.declared.event.Reply.{Reply}
use Rattle.host_core.specs.declared.event.Reply.TheVariants.{Done}
use Rattle.task_model.specs.Askers.{Asking, Noting, is_gone, said_with}
use Rattle.task_model.specs.Askings.{askings, lost_verdict, name_before}
use Rattle.task_model.proofs.Askings.{asks_for, askings-unasked, askings-ask, askings-lost}
use Rattle.task_model.proofs.NamesBefore.{none_before, one_before}
use Rattle.child_link.specs.Doors.{Passed, Appended, Made}
use Rattle.child_link.specs.Events.{IsJob}
use Rattle.child_link.specs.Asks.{HasAsked, Grows, lost_as, never}
use Rattle.child_link.proofs.Linked.{any_narrower}
use Rattle.child_link.proofs.Roles.{moved_by, none_made}
use Rattle.crew_work.specs.Worker.AtTasks.{AtTask, SameTask, AsksNow, NotesNow, notings}
use Rattle.crew_work.specs.Worker.Noting.{is_done, by_noting}
use Rattle.crew_work.proofs.WorkerLemmas.Noted.{notes_for, notings-unnoted, notings-note}
use Rattle.ann_key.proofs.Numbers.{same_number as same}
use Rattle.ann_key.proofs.Booleans.{and_last as and_right, or_neither as neither}
use Rattle.task_model.proofs.Across.{said_kept as said_before}
use Rattle.journal_model.proofs.Across.{verdict_settles}

-- ---- entries of a task

asks_of : (t : ℕ) (w : What) → asks_for t w ≡ true → is_of_task t w ≡ true
asks_of t (Ask child job task line) h = h
asks_of t (Lost child task) h = h
asks_of t w h = absurd cc

notes_of : (t : ℕ) (w : What) → notes_for t w ≡ true → is_of_task t w ≡ true
notes_of t (Note task chunk count) h = h
notes_of t w h = absurd cc

-- a link makes nothing of any task
pub link_untasked : (c t : ℕ) (w : What) → by_link c w ≡ true → is_of_task t w ≡ false
link_untasked c t (Put child job line) h = refl
link_untasked c t (Sent child) h = refl
link_untasked c t (Mute child) h = refl
link_untasked c t (Got child line) h = refl
link_untasked c t (End child why) h = refl
link_untasked c t (Settled child job verdict) h = refl
link_untasked c t w h = absurd cc

pub never_untasked : (t : ℕ) (w : What) → never w ≡ true → is_of_task t w ≡ false
never_untasked t w h = absurd cc

-- what a request that found its child gone stands for
lost_same : (why : Option Why) → lost_verdict why ≡ lost_as why
lost_same None = refl
lost_same (Some why) = refl

lost_gone : (why : Option Why) → is_gone (lost_as why) ≡ true
lost_gone None = refl
lost_gone (Some why) = refl

unsaid : (name : Option (List ℕ)) → said_with name None ≡ None
unsaid None = refl
unsaid (Some name) = refl

-- ---- how a task stands in a longer journal

module _ (o : Opening) (n t : ℕ) where
  -- a role that makes nothing of the task makes nothing of it, nor do others
  pub apart : (makes : What → Bool) → ((w : What) → makes w ≡ true → is_of_task t w ≡ false) → (seen more : List Entry) → Legal o (seen ++ more)
      → is_claimed_by seen n t ≡ true → makes_only makes n more ≡ true → any (is_of_task t) more ≡ false
  apart makes none seen more legal held own =
      held_alone o seen more n t (held_positive o seen more n t legal held) legal held (none_by makes (is_of_task t) none n more own)

  pub at_on : (past more : List Entry) → AtTask o n t past → Legal o (past ++ more) → any (is_of_task t) more ≡ false → AtTask o n t (past ++ more)
  at_on past more at legal none = record {
    legal = legal;
    held = ap (is_held_by n) (holder_apart past more t none) ∙ at.held;
    shut = jobs_stay_closed past more t (no_jobs_in t more none) at.shut;
  }

  pub asked_on : (past more : List Entry) → AtTask o n t past → any (is_of_task t) more ≡ false → askings (past ++ more) t ≡ askings past t
  asked_on past more at none = askings-unasked past more t at.shut (any_narrower (asks_for t) (is_of_task t) (asks_of t) more none)

  pub noted_on : (past more : List Entry) → AtTask o n t past → any (is_of_task t) more ≡ false → notings (past ++ more) t ≡ notings past t
  noted_on past more at none = notings-unnoted past more t at.shut (any_narrower (notes_for t) (is_of_task t) (notes_of t) more none)

  pub passed : {a : Bool} {old new : List Entry} → AtTask o n t old → Legal o new → Passed n a old new → SameTask o n t old new
  passed {old = old} {new = new} at legal s =
      let none = apart never (never_untasked t) old s.others (subst (Legal o) s.is legal) at.held (others_make never n s.others s.apart) in
      subst (SameTask o n t old) (sym s.is) record {
        at = at_on old s.others at (subst (Legal o) s.is legal) none;
        asked = asked_on old s.others at none;
        noted = noted_on old s.others at none;
      }

  -- ---- a request

  reads : (past : List Entry) (c : ℕ) (q : HostMessage) → may_request past n t c q ≡ true → next_job past c < 2 ^ 64 → host_reading (addressed past c (next_on_wire past c q)).1 ≡ Some q
  reads past c q may small =
      let askable : is_askable q ≡ true = and_right (is_started past c && may_ask past n t c && is_in_turn past c (next_job past c) q) (is_askable q) may in
      ap host_reading (wired_text past c (next_job past c) (host_line q) small) ∙ canonical_read q (test_askable q askable)

  -- the task is held, no job of it is open, its line reads as the request, and this name stands before it
  settled_at : (past more : List Entry) (c job : ℕ) (line : List ℕ) (name : Option (List ℕ)) (q : HostMessage) (v : Verdict) → is_claimed_by past n t ≡ true → has_open_job past t ≡ false
      → host_reading (addressed past c line).1 ≡ Some q → name_before past c job ≡ name → any (is_of_task t) more ≡ false → Legal o (past ++ entry n (Ask c job t line) ∷ more)
      → verdict_of (past ++ entry n (Ask c job t line) ∷ more) c job ≡ Some v → AsksNow o n t past (past ++ entry n (Ask c job t line) ∷ more) name q v
  settled_at past more c job line name q v claimed closed reads named none legal settled = record {
    at = record { legal = legal; held = ap (is_held_by n) held ∙ claimed; shut = shut };
    asked = record {
      request = Some q;
      kept = refl;
      added = askings-ask past more t n c job line (Some q) name v closed (any_narrower (asks_for t) (is_of_task t) (asks_of t) more none) reads named settled
          ∙ ap (λ (x : Option (List ℕ)). askings past t ++ record { request = Some q; name = x; verdict = v } ∷ []) (sym (said_before name q));
    };
    noted = notings-unnoted past group t closed (any_narrower (notes_for t) (is_of_task t) (notes_of t) more none);
  }
    where
      group : List Entry
      group = entry n (Ask c job t line) ∷ more

      held : holder (past ++ group) t ≡ holder past t
      held = ap (λ (x : List Entry). holder x t) (sym (append_assoc past (entry n (Ask c job t line) ∷ []) more))
          ∙ holder_apart (past ++ entry n (Ask c job t line) ∷ []) more t none ∙ holder_append past (entry n (Ask c job t line) ∷ []) t

      jobs : each_of (job_for t) group ≡ (c, job) ∷ []
      jobs = rw (same t, no_jobs_in t more none) refl

      shut : has_open_job (past ++ group) t ≡ false
      shut = ap (list_any (λ q. is_open (past ++ group) q.0 q.1)) (each_of-append (job_for t) past group ∙ ap (λ (x : List (ℕ × ℕ)). each_of (job_for t) past ++ x) jobs)
          ∙ list_any-append (λ (q : ℕ × ℕ). is_open (past ++ group) q.0 q.1) (each_of (job_for t) past) ((c, job) ∷ [])
          ∙ neither (list_any (λ q. is_open (past ++ group) q.0 q.1) (each_of (job_for t) past)) (is_open (past ++ group) c job || false)
          (closed_all past group (each_of (job_for t) past) (all_asked t past) closed)
          (rw (settled_closed (past ++ group) c job (verdict_settles (past ++ group) c job v settled)) refl)

  lost_at : (past : List Entry) (c : ℕ) (name : Option (List ℕ)) (q : HostMessage) → AtTask o n t past → Legal o (past ++ entry n (Lost c t) ∷ [])
      → AsksNow o n t past (past ++ entry n (Lost c t) ∷ []) name q (lost_as (why_of past c))
  lost_at past c name q at legal = record {
    at = record {
      legal = legal;
      held = ap (is_held_by n) (holder_append past (entry n (Lost c t) ∷ []) t) ∙ at.held;
      shut = jobs_stay_closed past (entry n (Lost c t) ∷ []) t refl at.shut;
    };
    asked = record {
      request = None;
      kept = lost_gone (why_of past c);
      added = askings-lost past [] t n c at.shut refl
          ∙ ap (λ (v : Verdict). askings past t ++ record { request = None; name = None; verdict = v } ∷ []) (lost_same (why_of past c))
          ∙ ap (λ (x : Option (List ℕ)). askings past t ++ record { request = None; name = x; verdict = lost_as (why_of past c) } ∷ []) (sym (unsaid name));
    };
    noted = notings-unnoted past (entry n (Lost c t) ∷ []) t at.shut refl;
  }

  -- after entries that ask and note nothing of the task
  asks_from : (old mid new : List Entry) (name : Option (List ℕ)) (q : HostMessage) (v : Verdict) → askings mid t ≡ askings old t → notings mid t ≡ notings old t
      → AsksNow o n t mid new name q v → AsksNow o n t old new name q v
  asks_from old mid new name q v asks notes a = record {
    at = a.at;
    asked = record {
      request = a.asked.request;
      kept = a.asked.kept;
      added = a.asked.added ∙ ap (λ (xs : List Asking). xs ++ record { request = a.asked.request; name = said_with name a.asked.request; verdict = v } ∷ []) asks;
    };
    noted = a.noted ∙ notes;
  }

  -- the request, and the name before it, and then what makes nothing of the task
  settled_named : (past more : List Entry) (c : ℕ) (name : Option (List ℕ)) (q : HostMessage) (v : Verdict) → AtTask o n t past → next_job past c < 2 ^ 64 → host_reading (addressed past c (next_on_wire past c q)).1 ≡ Some q
      → any (is_of_task t) more ≡ false → Legal o (past ++ (made_by n (asking past t c name q) ++ more))
      → verdict_of (past ++ (made_by n (asking past t c name q) ++ more)) c (next_job past c) ≡ Some v → AsksNow o n t past (past ++ (made_by n (asking past t c name q) ++ more)) name q v
  settled_named past more c None q v at small reads none legal settled =
      settled_at past more c (next_job past c) (next_on_wire past c q) None q v at.held at.shut reads (none_before o past c (next_job past c) at.legal) none legal settled
  settled_named past more c (Some name) q v at small reads none legal settled =
      subst (λ (x : List Entry). AsksNow o n t past x (Some name) q v) back
      (asks_from past mid (mid ++ entry n (Ask c (next_job past c) t (next_on_wire past c q)) ∷ more) (Some name) q v (asked_on past (lead ∷ []) at refl) (noted_on past (lead ∷ []) at refl)
      (settled_at mid more c (next_job past c) (next_on_wire past c q) (Some name) q v held closed
      (ap (λ (r : Option ℕ × List ℕ). host_reading r.1) (same_addressed past n c (next_job past c) (next_on_wire past c (Export name)) c (next_on_wire past c q)) ∙ reads)
      (one_before past n c (next_job past c) (next_on_wire past c (Export name)) name said) none
      (subst (Legal o) (sym back) legal) (subst (λ (x : List Entry). verdict_of x c (next_job past c) ≡ Some v) (sym back) settled)))
    where
      lead : Entry
      lead = entry n (Lead c (next_job past c) (next_on_wire past c (Export name)))

      mid : List Entry
      mid = past ++ lead ∷ []

      said : host_reading (addressed mid c (next_on_wire past c (Export name))).1 ≡ Some (Export name)
      said = ap (λ (r : Option ℕ × List ℕ). host_reading r.1) (same_addressed past n c (next_job past c) (next_on_wire past c (Export name)) c (next_on_wire past c (Export name)))
          ∙ ap host_reading (wired_text past c (next_job past c) (host_line (Export name)) small) ∙ canonical_read (Export name) tt

      back : mid ++ entry n (Ask c (next_job past c) t (next_on_wire past c q)) ∷ more ≡ past ++ lead ∷ entry n (Ask c (next_job past c) t (next_on_wire past c q)) ∷ more
      back = append_assoc past (lead ∷ []) (entry n (Ask c (next_job past c) t (next_on_wire past c q)) ∷ more)

      held : is_claimed_by mid n t ≡ true
      held = ap (is_held_by n) (holder_append past (lead ∷ []) t) ∙ at.held

      closed : has_open_job mid t ≡ false
      closed = jobs_stay_closed past (lead ∷ []) t refl at.shut

  -- whoever asks holds the task still
  asking_holds : (past : List Entry) (c : ℕ) (name : Option (List ℕ)) (q : HostMessage) → is_claimed_by past n t ≡ true → is_claimed_by (past ++ made_by n (asking past t c name q)) n t ≡ true
  asking_holds past c None q held = ap (is_held_by n) (holder_append past (made_by n (asking past t c None q)) t) ∙ held
  asking_holds past c (Some name) q held = ap (is_held_by n) (holder_append past (made_by n (asking past t c (Some name) q)) t) ∙ held

  pub asked : {a : Bool} {makes : What → Bool} {Known : ℕ → Type 0} {old new : List Entry} (c : ℕ) (name : Option (List ℕ)) (q : HostMessage) (v : Verdict)
      → ((w : What) → makes w ≡ true → is_of_task t w ≡ false) → AtTask o n t old → Legal o new → HasAsked o n a makes old new c t name q Known v → AsksNow o n t old new name q v
  asked {makes = makes} {old = old} {new = new} c name q v none at legal (inl s) =
      let p : List Entry = s.asked.past in
      let before : SameTask o n t old p = passed at (s.asked.legal at.legal) s.asked.passed in
      let j : IsJob n c t q s.job p = s.asked.found in
      let group : List Entry = made_by n (asking p t c name q) in
      let is : new ≡ p ++ (group ++ s.on.more) = s.on.is ∙ ap (λ (x : List Entry). x ++ s.on.more) s.asked.is ∙ append_assoc p group s.on.more in
      let whole : Legal o (p ++ (group ++ s.on.more)) = subst (Legal o) is legal in
      let un = apart makes none (p ++ group) s.on.more (subst (Legal o) (sym (append_assoc p group s.on.more)) whole) (asking_holds p c name q before.at.held) s.on.own in
      let small : next_job p c < 2 ^ 64 = subst (λ (k : ℕ). k < 2 ^ 64) j.next s.small in
      subst (λ (x : List Entry). AsksNow o n t old x name q v) (sym is)
      (asks_from old p (p ++ (group ++ s.on.more)) name q v before.asked before.noted
      (settled_named p s.on.more c name q v before.at small (reads p c q j.may small) un whole
      (subst (λ (k : ℕ). verdict_of (p ++ (group ++ s.on.more)) c k ≡ Some v) j.next (subst (λ (x : List Entry). verdict_of x c s.job ≡ Some v) is s.settled))))
  asked {old = old} {new = new} c name q v none at legal (inr s) =
      let p : List Entry = s.past in
      let before : SameTask o n t old p = passed at (s.legal at.legal) s.passed in
      subst (λ (x : List Entry). AsksNow o n t old x name q v) (sym s.is)
      (asks_from old p (p ++ entry n (Lost c t) ∷ []) name q v before.asked before.noted
      (subst (λ (w : Verdict). AsksNow o n t p (p ++ entry n (Lost c t) ∷ []) name q w) (sym s.found.1) (lost_at p c name q before.at (subst (Legal o) s.is legal))))

  -- ---- a note

  pub noted : {a : Bool} {old new : List Entry} {reply : Reply} (chunk count : ℕ) → may_note (task_of o t) ≡ true → 0 < chunk → AtTask o n t old → Legal o new
      → Made o n a old new (NoteEvent t chunk count) reply → (is_done reply ≡ true) × NotesNow o n t old new chunk count × Grows n a (by_noting t) old new
  noted {a} {old} {new} {reply} chunk count may some at legal m =
      let p : List Entry = m.past in
      let e : Entry = entry n (Note t chunk count) in
      let before : SameTask o n t old p = passed at (m.legal at.legal) m.passed in
      let more : nat_lt 0 chunk ≡ true = grind (arith, nat_tests) in
      let step : step_of o p n (NoteEvent t chunk count) ≡ append o p n (Note t chunk count) Done = rw (before.at.held, may, before.at.shut, more) refl in
      let is : new ≡ p ++ e ∷ [] = m.is ∙ ap (λ (s : Step). p ++ s.group) step in
      let there : Appended o n a old new (Note t chunk count) (λ past. Unit {0}) = record { past = p; passed = m.passed; legal = m.legal; found = tt; is = is } in
      let done : reply ≡ Done = m.reply_is ∙ ap (λ (s : Step). s.reply) step in (
        ap is_done done,
        subst (λ (x : List Entry). NotesNow o n t old x chunk count) (sym is) record {
          at = record {
            legal = subst (Legal o) is legal;
            held = ap (is_held_by n) (holder_append p (e ∷ []) t) ∙ before.at.held;
            shut = jobs_stay_closed p (e ∷ []) t refl before.at.shut;
          };
          asked = askings-unasked p (e ∷ []) t before.at.shut refl ∙ before.asked;
          noted = notings-note p t n chunk count before.at.shut
              ∙ ap (λ (xs : List Noting). xs ++ record { chunk = chunk; count = count; behind = length (askings p t) } ∷ []) before.noted
              ∙ ap (λ (xs : List Asking). notings old t ++ record { chunk = chunk; count = count; behind = length xs } ∷ []) before.asked;
        },
        moved_by there (rw (same t) refl) (λ none u. u),
      )
