-- A start that gave no child that is ready: one task is answered by what came of it.
use Rattle.ann_outside.specs.Told.{DeskTold}
use Rattle.std.proofs.Common.{◌≡◌, ◌⊎◌, ℕ, List, [], ◌∷◌, ◌++◌, refl, sym, ap, subst, ◌∙◌, append_assoc, append-nil, Bool, true, false, not, Some, None, Option, inl, inr}
use Rattle.std.specs.Prelude.{◌&&◌, ◌||◌, is_some, option_and_then, option_map}
use Rattle.std.specs.List.{list_all}
use Rattle.journal_model.specs.declared.verdict.Why.{Why}
use Rattle.journal_model.specs.declared.verdict.Why.TheVariants.{Closed}
use Rattle.journal_model.specs.declared.verdict.Verdict.{Verdict}
use Rattle.journal_model.specs.declared.verdict.Verdict.TheVariants.{Failed, Unsupported}
use Rattle.journal_model.specs.declared.answer.Answer.{Answer}
use Rattle.journal_model.specs.declared.answer.Answer.TheVariants.{Unsent as UnsentAnswer, StartFault, NotPrepared, Ended as EndedAnswer}
use Rattle.journal_model.specs.declared.entry.What.{What}
use Rattle.journal_model.specs.declared.entry.What.TheVariants.{Claim, Start, NoStart, Answer as Answered}
use Rattle.journal_model.specs.declared.entry.Entry.{Entry}
use Rattle.journal_model.specs.declared.opening.Opening.{Opening}
use Rattle.journal_model.specs.Journal.{any, each_of, is_ended, is_mute, is_tagged, verdict_of, why_of}
use Rattle.journal_model.specs.Legality.{is_busy, is_done, prepares}
use Rattle.journal_model.specs.Shares.{is_closed}
use Rattle.journal_model.proofs.Holding.{holder_append}
use Rattle.journal_model.proofs.Linking.{why_is_end}
use Rattle.journal_model.proofs.Looks.{or_none, verdict_of-append}
use Rattle.journal_model.proofs.Testing.{all-join}
use Rattle.host_core.specs.Steps.{are_all_claimed}
use Rattle.child_life.specs.Start.Greetings.{Greeted, HasEnded, IsRefused, IsUnsent, is_of_greeting, is_refusal}
use Rattle.task_model.specs.declared.setup.Setup.{Setup}
use Rattle.task_model.specs.TaskRuns.{ended_answer, failed_start, gone_answer, or_refusal, refusal_of, refused_at, unready_answer}
use Rattle.crew_work.specs.Laws.Tasks.{turns_by}
use Rattle.crew_work.proofs.LawsLemmas.Turning.{turns_by-append}
use Rattle.run_starts.specs.Starting.{is_ready_untagged, is_spent, is_unclosed}
use Rattle.run_starts.specs.Rounds.{start_untaken, turn_of}
use Rattle.run_starts.specs.Stints.{AnswersOne, Stint, TasksDone, TurnsAway, in_stint, main_entry}
use Rattle.crew_work.proofs.WorkerLemmas.Working.{ends_behind}
use Rattle.run_starts.proofs.Apart.{spent_on, why_unclosed}
use Rattle.run_starts.proofs.Losing.{lost_tasks}
use Rattle.run_starts.proofs.Nexts.{is_quiet, next_quiet}
use Rattle.run_starts.proofs.Runs.{IsOfNoCall, done_same, done_zero}
use Rattle.run_starts.proofs.Stinting.{Closing, Part, closing, closing_ends, closing_loses, closing_part, closing_rests, greeting_claims_none, greeting_closes_none, greeting_part, greeting_rests, greeting_takes_none, of_closing, part_both, quiet_greeting, served_lost, zero_part}
use Rattle.run_starts.proofs.Tests.{claimed_same, each_none}
use Rattle.run_starts.proofs.Turns.{child_untaken, claim_takes, fault_untaken, none_fails}
use Rattle.run_starts.proofs.Zeros.{rests_one}
use Rattle.std.proofs.lemmas.Option.{same_Some as same_some}
use Rattle.ann_key.proofs.Booleans.{or_left, or_right}

pub and_true : (b : Bool) → b ≡ (b && true)
and_true true = refl
and_true false = refl

-- ---- what came of the start

-- the child that was greeted stands for the answer, and is spent
pub record IsUnready (g : List Entry) (c : ℕ) (answer : Answer) : Type 0 where
  pub says : unready_answer g c ≡ Some answer
  pub spent : is_spent g c ≡ true
  pub undone : is_done (verdict_of g c 1) ≡ false
  pub quiet : IsOfNoCall answer

refused_place : (v : Verdict) (at : ℕ) → (v ≡ Failed at) ⊎ (v ≡ Unsupported at) → refused_at v ≡ Some at
refused_place v at (inl e) = ap refused_at e
refused_place v at (inr e) = ap refused_at e

pub refused_some : (past : List Entry) (c : ℕ) (v : Verdict) → IsRefused past c v → is_some (refused_at v) ≡ true
refused_some past c v h = ap is_some (refused_place v h.place h.refusal)

pub unready_refused : (g : List Entry) (c : ℕ) (v : Verdict) (answer : Answer) → IsRefused g c v → Some answer ≡ option_map NotPrepared (refused_at v) → IsUnready g c answer
unready_refused g c v answer h is =
    let place : refused_at v ≡ Some h.place = refused_place v h.place h.refusal in
    let refusal : refusal_of g c ≡ Some h.place = ap (option_and_then refused_at) h.settled ∙ place in
    let said : unready_answer g c ≡ Some (NotPrepared h.place) = rw h.undone (ap (or_refusal (gone_answer g c)) refusal) in
    let named : Some answer ≡ Some (NotPrepared h.place) = is ∙ ap (option_map NotPrepared) place in
    record {
      says = said ∙ sym named;
      spent = or_left (is_some (refusal_of g c)) (is_mute g c || is_unclosed (why_of g c)) (ap is_some refusal);
      undone = h.undone;
      quiet = subst IsOfNoCall (sym (same_some answer (NotPrepared h.place) named)) refl;
    }

unrefused : (v : Option Verdict) → is_refusal v ≡ false → option_and_then refused_at v ≡ None
unrefused None h = refl
unrefused (Some (Failed at)) h = absurd cc
unrefused (Some (Unsupported at)) h = absurd cc
unrefused (Some v) h = refl

kept_answer : (why : Why) → is_closed why ≡ false → ended_answer (Some why) ≡ Some (EndedAnswer why)
kept_answer Closed h = absurd cc
kept_answer why h = refl

pub unready_ended : (g : List Entry) (c : ℕ) (why : Why) → HasEnded g c why → IsUnready g c (EndedAnswer why)
unready_ended g c why h =
    let ended : is_ended g c ≡ true = sym (why_is_end g c) ∙ ap is_some h.ended in
    let none : refusal_of g c ≡ None = unrefused (verdict_of g c 1) h.unrefused in
    let gone : gone_answer g c ≡ Some (EndedAnswer why) = rw (ended, h.ended) (kept_answer why h.kept) in
    record {
      says = rw h.undone (ap (or_refusal (gone_answer g c)) none ∙ gone);
      spent = or_right (is_some (refusal_of g c)) (is_mute g c || is_unclosed (why_of g c)) (or_right (is_mute g c) (is_unclosed (why_of g c)) (ap is_unclosed h.ended ∙ why_unclosed why h.kept));
      undone = h.undone;
      quiet = refl;
    }

pub unready_unsent : (g : List Entry) (c : ℕ) → IsUnsent g c → IsUnready g c UnsentAnswer
unready_unsent g c h =
    let none : refusal_of g c ≡ None = unrefused (verdict_of g c 1) h.unrefused in
    let gone : gone_answer g c ≡ Some UnsentAnswer = rw (h.live, h.mute) refl in
    record {
      says = rw h.undone (ap (or_refusal (gone_answer g c)) none ∙ gone);
      spent = or_right (is_some (refusal_of g c)) (is_mute g c || is_unclosed (why_of g c)) (or_left (is_mute g c) (is_unclosed (why_of g c)) h.mute);
      undone = h.undone;
      quiet = refl;
    }

-- ---- the stint

no_turn : (c : ℕ) (w : What) → is_of_greeting c w ≡ true → turn_of w ≡ None
no_turn c (Claim task child) h = absurd cc
no_turn c (Start child slot offer) h = absurd cc
no_turn c (NoStart slot) h = absurd cc
no_turn c w h = refl

module _ (o : Opening) (setup : Setup) (offer : Bool) (old g new : List Entry) (c : ℕ) (answer : Answer) (desk : DeskTold)
    (left : are_all_claimed o old ≡ false) (rest : (t : ℕ) → is_busy old t ≡ false) (greeted : Greeted old g 0 offer c) (unready : IsUnready g c answer) where
  abbrev first : Entry
  first = main_entry (Start c 0 offer)

  still_left : are_all_claimed o g ≡ false
  still_left = ap (are_all_claimed o) greeted.grown ∙ claimed_same o old (first ∷ greeted.more) (greeting_claims_none old g offer c greeted) (greeting_closes_none old g offer c greeted) ∙ left

  untaken_now : start_untaken g ≡ Some (Some c)
  untaken_now = ap start_untaken greeted.grown ∙ child_untaken old greeted.more c offer (each_none turn_of (is_of_greeting c) (no_turn c) greeted.more greeted.own)

  failed : failed_start g (start_untaken g) ≡ Some answer
  failed = ap (failed_start g) untaken_now ∙ unready.says

  module _ (mid : List Entry) (t : ℕ) (is : mid ≡ g ++ main_entry (Claim t 0) ∷ main_entry (Answered t answer) ∷ []) (k : Closing c mid new) where
    abbrev zero : List Entry
    zero = main_entry (Claim t 0) ∷ main_entry (Answered t answer) ∷ []

    abbrev later : List Entry
    later = greeted.more ++ (zero ++ k.tail)

    behind : new ≡ g ++ (zero ++ k.tail)
    behind = k.is ∙ ap (λ (x : List Entry). x ++ k.tail) is ∙ append_assoc g zero k.tail

    whole : new ≡ old ++ first ∷ later
    whole = behind ∙ ap (λ (x : List Entry). x ++ (zero ++ k.tail)) greeted.grown ∙ append_assoc old (first ∷ greeted.more) (zero ++ k.tail)

    part : Part c later
    part = part_both c greeted.more (zero ++ k.tail) (greeting_part c greeted.more greeted.own greeted.main) (part_both c zero k.tail (zero_part c t answer) (closing_part c k.tail k.one))

    taken : turns_by 0 (old ++ first ∷ []) later ≡ turns_by 0 g zero
    taken = turns_by-append 0 (old ++ first ∷ []) greeted.more (zero ++ k.tail)
        ∙ ap (λ (l : List (ℕ × ℕ)). l ++ turns_by 0 ((old ++ first ∷ []) ++ greeted.more) (zero ++ k.tail)) (greeting_takes_none old g offer c greeted (old ++ first ∷ []))
        ∙ ap (λ (p : List Entry). turns_by 0 p (zero ++ k.tail)) (append_assoc old (first ∷ []) greeted.more ∙ sym greeted.grown)
        ∙ turns_by-append 0 g zero k.tail ∙ ap (λ (l : List (ℕ × ℕ)). turns_by 0 g zero ++ l) (of_closing c k.tail k.one (λ (x : List Entry). turns_by 0 (g ++ zero) x ≡ []) refl refl)

    done : TasksDone o setup new (old ++ first ∷ []) later desk desk
    done = done_same o setup new g (old ++ first ∷ []) zero later desk desk taken (done_zero o setup new g k.tail t answer desk behind failed unready.quiet)

    pub unprepared : is_ready_untagged new c ≡ false
    unprepared =
        let none : verdict_of (zero ++ k.tail) c 1 ≡ None = of_closing c k.tail k.one (λ (x : List Entry). verdict_of (zero ++ x) c 1 ≡ None) refl refl in
        let v : verdict_of new c 1 ≡ verdict_of g c 1 = ap (λ (j : List Entry). verdict_of j c 1) behind ∙ verdict_of-append c 1 g (zero ++ k.tail) ∙ or_none (verdict_of g c 1) (verdict_of (zero ++ k.tail) c 1) none in
        ap (λ (b : Bool). (b && any (prepares c) new) && not (is_tagged new c)) (ap is_done v ∙ unready.undone)

    pub turned_away : Stint o setup offer offer (Start c 0 offer) old new desk desk
    turned_away = record {
      stretch = record {
        left = left;
        later = later;
        is = whole;
        start = inl (ap (λ (n : ℕ). Start n 0 offer) greeted.next);
        turn = next_quiet o (old ++ first ∷ []) later (all-join (λ (e : Entry). is_quiet e.what) greeted.more (zero ++ k.tail) (quiet_greeting old g offer c greeted)
            (of_closing c k.tail k.one (λ (x : List Entry). list_all (λ (e : Entry). is_quiet e.what) (zero ++ x) ≡ true) refl refl));
        within = subst (λ (n : ℕ). list_all (λ (e : Entry). in_stint n e.what) later ≡ true) greeted.next part.within;
        asks = part.asks;
        lost = served_lost old g offer c greeted (zero ++ k.tail) (closing_loses c k.tail k.one);
        rest = λ u. ap (λ (j : List Entry). is_busy j u) (k.is ∙ ap (λ (x : List Entry). x ++ k.tail) is)
            ∙ closing_rests c k.tail k.one (g ++ zero) (rests_one g t answer (greeting_rests old g offer c greeted rest)) u;
        ended = ap (λ (b : Bool). b && true) k.ended;
        spent = inl (ap (λ (b : Bool). b && true) (ap (λ (j : List Entry). is_spent j c) behind ∙ spent_on g (zero ++ k.tail) c unready.spent));
        untaken = none_fails new (ap start_untaken behind ∙ claim_takes g k.tail t answer (of_closing c k.tail k.one (λ (x : List Entry). each_of turn_of x ≡ []) refl refl));
        offers = and_true offer ∙ ap (λ (b : Bool). offer && not (b || false)) (sym unprepared);
      };
      main = part.main;
      done = done;
      last = λ all. closing_ends c k.tail k.one g new (main_entry (Claim t 0)) (main_entry (Answered t answer) ∷ []) (k.is ∙ ap (λ (x : List Entry). x ++ k.tail) is) refl;
    }

  pub away_stint : TurnsAway o c g new answer → Stint o setup offer offer (Start c 0 offer) old new desk desk
  away_stint (mid, (false, a), closes) = absurd (let bad : true ≡ false = sym a.1 ∙ still_left in cc)
  away_stint (mid, (true, a), closes) = turned_away mid a.0 a.2 (closing c mid new closes)

-- ---- no child was started

module _ (o : Opening) (setup : Setup) (offer : Bool) (old g new : List Entry) (desk : DeskTold)
    (left : are_all_claimed o old ≡ false) (rest : (t : ℕ) → is_busy old t ≡ false) (failed : g ≡ old ++ main_entry (NoStart 0) ∷ []) where
  fault_left : are_all_claimed o g ≡ false
  fault_left = ap (are_all_claimed o) failed ∙ claimed_same o old (main_entry (NoStart 0) ∷ []) refl refl ∙ left

  pub fault_rests : (t : ℕ) → is_busy g t ≡ false
  fault_rests t = ap (λ (j : List Entry). is_busy j t) failed ∙ closing_free t
    where
      closing_free : (u : ℕ) → is_busy (old ++ main_entry (NoStart 0) ∷ []) u ≡ false
      closing_free u = ap is_some (holder_append old (main_entry (NoStart 0) ∷ []) u) ∙ rest u

  fault_failed : failed_start g (start_untaken g) ≡ Some StartFault
  fault_failed = ap (failed_start g) (ap start_untaken failed ∙ fault_untaken old)

  fault_one : (t : ℕ) → new ≡ g ++ main_entry (Claim t 0) ∷ main_entry (Answered t StartFault) ∷ [] → Stint o setup offer offer (NoStart 0) old new desk desk
  fault_one t is = record {
    stretch = record {
      left = left;
      later = main_entry (Claim t 0) ∷ main_entry (Answered t StartFault) ∷ [];
      is = is ∙ ap (λ (x : List Entry). x ++ main_entry (Claim t 0) ∷ main_entry (Answered t StartFault) ∷ []) failed
          ∙ append_assoc old (main_entry (NoStart 0) ∷ []) (main_entry (Claim t 0) ∷ main_entry (Answered t StartFault) ∷ []);
      start = inr refl;
      turn = next_quiet o (old ++ main_entry (NoStart 0) ∷ []) (main_entry (Claim t 0) ∷ main_entry (Answered t StartFault) ∷ []) refl;
      within = refl;
      asks = refl;
      lost = lost_tasks (old ++ main_entry (NoStart 0) ∷ []) (main_entry (Claim t 0) ∷ main_entry (Answered t StartFault) ∷ []) refl;
      rest = λ u. ap (λ (j : List Entry). is_busy j u) is ∙ rests_one g t StartFault fault_rests u;
      ended = refl;
      spent = inl refl;
      untaken = none_fails new (ap start_untaken is ∙ claim_takes g [] t StartFault refl);
      offers = and_true offer;
    };
    main = refl;
    done = subst (λ (p : List Entry). TasksDone o setup new p (main_entry (Claim t 0) ∷ main_entry (Answered t StartFault) ∷ []) desk desk) failed
        (done_zero o setup new g [] t StartFault desk is fault_failed refl);
    last = λ all. record {
      past = g ++ main_entry (Claim t 0) ∷ main_entry (Answered t StartFault) ∷ [];
      closings = [];
      is = is ∙ sym (append-nil (g ++ main_entry (Claim t 0) ∷ main_entry (Answered t StartFault) ∷ []));
      answered = ends_behind g (main_entry (Claim t 0)) (main_entry (Answered t StartFault) ∷ []) refl;
      closed = refl;
    };
  }

  pub fault_stint : (b : Bool) → AnswersOne o g new (λ t. StartFault) b → Stint o setup offer offer (NoStart 0) old new desk desk
  fault_stint true a = fault_one a.0 a.2
  fault_stint false a = absurd (let bad : true ≡ false = sym a.1 ∙ fault_left in cc)
