-- A child that got ready: it does tasks until it is gone or all are claimed.
use Rattle.ann_outside.specs.Told.{DeskTold}
use Rattle.std.proofs.Common.{◌≡◌, ◌⊎◌, ℕ, ◌+◌, ◌≤◌, List, [], ◌∷◌, ◌++◌, refl, sym, ap, subst, ◌∙◌, append_assoc, append-nil, length, Bool, true, false, not, ◌==◌, cond, Some, None, Option, arith, inl, inr}
use Rattle.std.specs.Prelude.{◌&&◌, ◌||◌, is_some, filter}
use Rattle.std.specs.List.{list_all}
use Rattle.std.specs.Option.{option_or}
use Rattle.std.proofs.lemmas.List.Folds.{list_all-append}
use Rattle.journal_model.specs.declared.verdict.Why.{Why}
use Rattle.journal_model.specs.declared.verdict.Verdict.{Verdict}
use Rattle.journal_model.specs.declared.entry.What.{What}
use Rattle.journal_model.specs.declared.entry.What.TheVariants.{Start, End}
use Rattle.journal_model.specs.declared.entry.Entry.{Entry}
use Rattle.journal_model.specs.declared.opening.Opening.{Opening}
use Rattle.journal_model.specs.Journal.{accepts_async, any, asked_jobs, ends, is_ended, is_mute, is_settled, is_tagged, offers, open_jobs, verdict_of, why_of}
use Rattle.journal_model.specs.Legality.{Legal, count, is_busy, is_done, is_prepared, is_start, prepares}
use Rattle.journal_model.specs.Shares.{is_closed}
use Rattle.journal_model.proofs.Fresh.{fresh}
use Rattle.journal_model.proofs.Linking.{why_is_end, why_of-append}
use Rattle.journal_model.proofs.Looks.{any-append, unsettled, verdict_of-append}
use Rattle.journal_model.proofs.Projecting.{invariant}
use Rattle.journal_model.proofs.Testing.{all-join}
use Rattle.host_core.specs.Steps.{are_all_claimed, is_gone}
use Rattle.crew_work.specs.Laws.Tasks.{IsThrough}
use Rattle.child_life.specs.Start.Greetings.{Greeted, IsReady, is_of_greeting}
use Rattle.child_life.proofs.StartLemmas.Begun.{later_unstarted}
use Rattle.task_model.specs.declared.setup.Setup.{Setup}
use Rattle.task_model.specs.TaskRuns.{gone_answer, or_refusal, refusal_of, unready_answer}
use Rattle.crew_work.specs.Worker.Works.{by_worker, ends_closed}
use Rattle.crew_work.proofs.WorkerLemmas.Turning.{alone_only}
use Rattle.crew_work.specs.Laws.Tasks.{turns_by}
use Rattle.crew_work.proofs.LawsLemmas.Turning.{turns_by-append}
use Rattle.run_starts.specs.Starting.{is_any_start, is_ready_untagged, is_spent, is_unclosed}
use Rattle.run_starts.specs.Rounds.{AllStandNext, EndsClosed, NoneUntaken}
use Rattle.run_starts.specs.Stints.{HasServed, Stint, TasksDone, in_stint, main_entry}
use Rattle.run_starts.proofs.Apart.{ended_unclosed, is_unclosed_end, no_offer, no_start_in, spent_on}
use Rattle.run_starts.proofs.Later.{late_from}
use Rattle.run_starts.proofs.Losing.{loses_task}
use Rattle.run_starts.proofs.Nexts.{next_both, next_quiet, next_where}
use Rattle.run_starts.proofs.Runs.{done_same, worker_runs}
use Rattle.run_starts.proofs.Stinting.{Closing, Part, closing, closing_claims, closing_ends, closing_part, closing_rests, closing_loses, greeting_claims_none, greeting_closes_none, greeting_part, greeting_takes_none, quiet_greeting, served_lost, worker_loses, of_closing, part_both, worker_part}
use Rattle.run_starts.proofs.Tests.{claimed_same}
use Rattle.run_starts.proofs.Turns.{ready_untaken}
use Rattle.journal_model.proofs.Replying.{accepted}
use Rattle.std.proofs.lemmas.Bool.{and_parts as both}
use Rattle.ann_key.proofs.Booleans.{or_left, or_right, or_false}
use Rattle.journal_model.proofs.Across.{none_so as any_none}

-- ---- a ready child stays so, and tagged or not

pub done_more : (v w : Option Verdict) → is_done v ≡ true → is_done (option_or v w) ≡ true
done_more None w h = absurd cc
done_more (Some v) w h = h

module _ (o : Opening) (g more : List Entry) (c : ℕ) (legal : Legal o g) (ready : IsReady g c) (idle : open_jobs g c ≡ []) (within : list_all (λ (e : Entry). in_stint c e.what) more ≡ true) where
  settled_first : is_settled g c 0 ≡ true
  settled_first = go (is_settled g c 0) refl (sym (ap (filter (λ (j : ℕ). not (is_settled g c j))) ready.jobs) ∙ idle)
    where
      go : (b : Bool) → is_settled g c 0 ≡ b
          → cond (not (is_settled g c 0)) (0 ∷ filter (λ (j : ℕ). not (is_settled g c j)) (1 ∷ [])) (filter (λ (j : ℕ). not (is_settled g c j)) (1 ∷ [])) ≡ [] → is_settled g c 0 ≡ true
      go true e h = e
      go false e h = absurd (let bad : 0 ∷ filter (λ (j : ℕ). not (is_settled g c j)) (1 ∷ []) ≡ [] = subst (λ (b : Bool). cond (not b) (0 ∷ filter (λ (j : ℕ). not (is_settled g c j)) (1 ∷ [])) (filter (λ (j : ℕ). not (is_settled g c j)) (1 ∷ [])) ≡ []) e h in cc)

  first_same : verdict_of (g ++ more) c 0 ≡ verdict_of g c 0
  first_same = verdict_of-append c 0 g more ∙ go (verdict_of g c 0) refl
    where
      go : (v : Option Verdict) → verdict_of g c 0 ≡ v → option_or v (verdict_of more c 0) ≡ v
      go (Some v) e = refl
      go None e = absurd (let bad : true ≡ false = sym settled_first ∙ unsettled g c 0 e in cc)

  unoffered : any (offers c) (g ++ more) ≡ any (offers c) g
  unoffered = any-append (offers c) g more ∙ ap (λ (b : Bool). any (offers c) g || b) (any_none (in_stint c) (offers c) (λ w h. no_offer c w (no_start_in c w h)) more within) ∙ or_false (any (offers c) g)

  pub tag_same : is_tagged (g ++ more) c ≡ is_tagged g c
  tag_same =
      ap (λ (b : Bool). b && accepts_async (g ++ more) (verdict_of (g ++ more) c 0)) unoffered
      ∙ ap (λ (v : Option Verdict). any (offers c) g && accepts_async (g ++ more) v) first_same
      ∙ ap (λ (b : Bool). any (offers c) g && b) (accepted g more (verdict_of g c 0) ((invariant o g legal).placed c 0))

  done_still : is_done (verdict_of (g ++ more) c 1) ≡ true
  done_still = ap is_done (verdict_of-append c 1 g more) ∙ done_more (verdict_of g c 1) (verdict_of more c 1) (both (is_done (verdict_of g c 1)) (any (prepares c) g) ready.prepared).0

  pub prepared_still : is_prepared (g ++ more) c ≡ true
  prepared_still =
      let asked : any (prepares c) (g ++ more) ≡ true = any-append (prepares c) g more ∙ or_left (any (prepares c) g) (any (prepares c) more) (both (is_done (verdict_of g c 1)) (any (prepares c) g) ready.prepared).1 in
      rw (done_still, asked) refl

  pub ready_now : is_ready_untagged (g ++ more) c ≡ not (is_tagged g c)
  ready_now = ap (λ (b : Bool). b && not (is_tagged (g ++ more) c)) prepared_still ∙ ap not tag_same

  pub answers_nothing : unready_answer (g ++ more) c ≡ None
  answers_nothing = ap (λ (b : Bool). cond b None (or_refusal (gone_answer (g ++ more) c) (refusal_of (g ++ more) c))) done_still

-- after its greeting no start is left for a task to take up, so one may be claimed for the child
module _ (o : Opening) (old g : List Entry) (offer : Bool) (c : ℕ) (greeted : Greeted old g 0 offer c) (legal : Legal o g) (ready : IsReady g c) where
  abbrev begun : Entry
  begun = main_entry (Start c 0 offer)

  pub ready_taken : (more : List Entry) → list_all (λ (e : Entry). in_stint c e.what) more ≡ true → NoneUntaken (g ++ more)
  ready_taken more within =
      let grown : g ++ more ≡ old ++ begun ∷ (greeted.more ++ more) = ap (λ (x : List Entry). x ++ more) greeted.grown ∙ append_assoc old (begun ∷ greeted.more) more in
      subst NoneUntaken (sym grown)
      (ready_untaken old (greeted.more ++ more) c offer c (all-join (λ (e : Entry). in_stint c e.what) greeted.more more (greeting_part c greeted.more greeted.own greeted.main).within within)
      (subst (λ (j : List Entry). unready_answer j c ≡ None) grown (answers_nothing o g more c legal ready greeted.idle within)))

  pub served_next : (more : List Entry) → list_all (λ (e : Entry). in_stint c e.what) more ≡ true → AllStandNext o (old ++ begun ∷ []) (greeted.more ++ more)
  served_next more within =
      next_both o (old ++ begun ∷ []) greeted.more more (next_quiet o (old ++ begun ∷ []) greeted.more (quiet_greeting old g offer c greeted))
      (subst (λ (p : List Entry). AllStandNext o p more) (greeted.grown ∙ sym (append_assoc old (begun ∷ []) greeted.more))
      (next_where o g more (any_none (in_stint c) is_any_start (no_start_in c) more within) (λ front rest split. ready_taken front (front_within front rest split))))
    where
      front_within : (front rest : List Entry) → more ≡ front ++ rest → list_all (λ (e : Entry). in_stint c e.what) front ≡ true
      front_within front rest split = (both (list_all (λ (e : Entry). in_stint c e.what) front) (list_all (λ (e : Entry). in_stint c e.what) rest)
          (sym (list_all-append (λ (e : Entry). in_stint c e.what) front rest) ∙ ap (list_all (λ (e : Entry). in_stint c e.what)) (sym split) ∙ within)).0

-- ---- what ends a child that works

pub greeting_unclosed : (c : ℕ) (w : What) → is_of_greeting c w ≡ true → is_unclosed_end w ≡ true
greeting_unclosed c (End child why) h = (both (child == c) (not (is_closed why)) h).1
greeting_unclosed c w h = refl

pub worker_unclosed : (c : ℕ) (w : What) → by_worker true c w ≡ true → is_unclosed_end w ≡ true
worker_unclosed c (End child why) h = (both (child == c) (not (is_closed why)) h).1
worker_unclosed c w h = refl

pub all_unclosed : (p : What → Bool) → ((w : What) → p w ≡ true → is_unclosed_end w ≡ true) → (xs : List Entry) → list_all (λ (e : Entry). p e.what) xs ≡ true → list_all (λ (e : Entry). is_unclosed_end e.what) xs ≡ true
all_unclosed p f [] h = refl
all_unclosed p f (e ∷ xs) h =
    let t = both (p e.what) (list_all (λ (x : Entry). p x.what) xs) h in
    rw (f e.what t.0, all_unclosed p f xs t.1) refl

module _ (o : Opening) (old xs : List Entry) (c : ℕ) (legal : Legal o old) (next : c ≡ count is_start old + 1) (unclosed : list_all (λ (e : Entry). is_unclosed_end e.what) xs ≡ true) where
  unseen : why_of old c ≡ None
  unseen = (fresh o old legal c (later_unstarted o old legal c (omega (arith, next)))).ends

  -- a new child that such entries end
  pub new_unclosed : is_ended (old ++ xs) c ≡ true → is_unclosed (why_of (old ++ xs) c) ≡ true
  new_unclosed h =
      let live : is_ended old c ≡ false = sym (why_is_end old c) ∙ ap is_some unseen in
      let here : is_ended xs c ≡ true = sym (any-append (ends c) old xs ∙ ap (λ (b : Bool). b || is_ended xs c) live) ∙ h in
      ap is_unclosed (why_of-append old xs c ∙ ap (λ (w : Option Why). option_or w (why_of xs c)) unseen) ∙ ended_unclosed c xs unclosed here

-- ---- the stint

pub untagged : (a b : Bool) → (a && b) ≡ (a && not (not b || false))
untagged true true = refl
untagged true false = refl
untagged false b = refl

module _ (o : Opening) (setup : Setup) (offer tagged : Bool) (old g new : List Entry) (c : ℕ) (desk desk' : DeskTold)
    (legal : Legal o old) (left : are_all_claimed o old ≡ false) (greeted : Greeted old g 0 offer c) (legal' : Legal o g) (ready : IsReady g c) (tag : tagged ≡ is_tagged g c) (s : HasServed o setup c g new desk desk') where
  abbrev first : Entry
  first = main_entry (Start c 0 offer)

  abbrev its : List Entry
  its = s.worked.did.moved.more

  k : Closing c s.mid new
  k = closing c s.mid new s.closes

  abbrev later : List Entry
  later = greeted.more ++ (its ++ k.tail)

  behind : new ≡ g ++ (its ++ k.tail)
  behind = k.is ∙ ap (λ (x : List Entry). x ++ k.tail) s.worked.did.moved.is ∙ append_assoc g its k.tail

  whole : new ≡ old ++ first ∷ later
  whole = behind ∙ ap (λ (x : List Entry). x ++ (its ++ k.tail)) greeted.grown ∙ append_assoc old (first ∷ greeted.more) (its ++ k.tail)

  two : 2 ≤ length (asked_jobs g c)
  two = (let n = ap length ready.jobs in omega (arith, n))

  worked_part : Part c its
  worked_part = worker_part c its (alone_only s.worked refl) (s.worked.did.moved.lone refl) (late_from o c g its legal' (subst (Legal o) s.worked.did.moved.is s.can.serves.legal) two)

  rest_part : Part c (its ++ k.tail)
  rest_part = part_both c its k.tail worked_part (closing_part c k.tail k.one)

  part : Part c later
  part = part_both c greeted.more (its ++ k.tail) (greeting_part c greeted.more greeted.own greeted.main) rest_part

  taken : turns_by 0 (old ++ first ∷ []) later ≡ turns_by 0 g its
  taken = turns_by-append 0 (old ++ first ∷ []) greeted.more (its ++ k.tail)
      ∙ ap (λ (l : List (ℕ × ℕ)). l ++ turns_by 0 ((old ++ first ∷ []) ++ greeted.more) (its ++ k.tail)) (greeting_takes_none old g offer c greeted (old ++ first ∷ []))
      ∙ ap (λ (p : List Entry). turns_by 0 p (its ++ k.tail)) (append_assoc old (first ∷ []) greeted.more ∙ sym greeted.grown)
      ∙ turns_by-append 0 g its k.tail ∙ ap (λ (l : List (ℕ × ℕ)). turns_by 0 g its ++ l) (of_closing c k.tail k.one (λ (x : List Entry). turns_by 0 (g ++ its) x ≡ []) refl refl) ∙ append-nil (turns_by 0 g its)

  done : TasksDone o setup new (old ++ first ∷ []) later desk desk'
  done =
      let at_end : TasksDone o setup (s.mid ++ k.tail) g its desk desk' = record {
        done = s.worked.done;
        claimed = sym s.worked.did.claimed;
        ran = worker_runs o setup c s.mid k.tail s.worked.done s.can.serves.number s.worked.ran;
        log_is = s.worked.log_is;
        caused = s.worked.caused;
      } in
      done_same o setup new g (old ++ first ∷ []) its later desk desk' taken (subst (λ (j : List Entry). TasksDone o setup j g its desk desk') (sym k.is) at_end)

  abbrev so_far : List Entry
  so_far = (first ∷ greeted.more) ++ its

  mid_is : s.mid ≡ old ++ so_far
  mid_is = s.worked.did.moved.is ∙ ap (λ (x : List Entry). x ++ its) greeted.grown ∙ append_assoc old (first ∷ greeted.more) its

  gone_spent : is_gone s.mid c ≡ true → is_spent s.mid c ≡ true
  gone_spent h = go (is_ended s.mid c) refl (is_mute s.mid c) refl h
    where
      go : (a : Bool) → is_ended s.mid c ≡ a → (b : Bool) → is_mute s.mid c ≡ b → (a || b) ≡ true → is_spent s.mid c ≡ true
      go true x b y i =
          let unclosed : is_unclosed (why_of s.mid c) ≡ true = subst (λ (j : List Entry). is_ended j c ≡ true → is_unclosed (why_of j c) ≡ true) (sym mid_is)
          (new_unclosed o old so_far c legal greeted.next
          (all-join (λ (e : Entry). is_unclosed_end e.what) (first ∷ greeted.more) its (all_unclosed (is_of_greeting c) (greeting_unclosed c) greeted.more greeted.own)
          (all_unclosed (by_worker true c) (worker_unclosed c) its (alone_only s.worked refl)))) x in
          or_right (is_some (refusal_of s.mid c)) (is_mute s.mid c || is_unclosed (why_of s.mid c)) (or_right (is_mute s.mid c) (is_unclosed (why_of s.mid c)) unclosed)
      go false x true y i = or_right (is_some (refusal_of s.mid c)) (is_mute s.mid c || is_unclosed (why_of s.mid c)) (or_left (is_mute s.mid c) (is_unclosed (why_of s.mid c)) y)
      go false x false y i = absurd cc

  over : (list_all (is_spent new) (c ∷ []) ≡ true) ⊎ (are_all_claimed o new ≡ true)
  over = go s.through
    where
      go : IsThrough o s.mid c → (list_all (is_spent new) (c ∷ []) ≡ true) ⊎ (are_all_claimed o new ≡ true)
      go (inl all) = inr (ap (are_all_claimed o) k.is ∙ closing_claims c k.tail k.one o s.mid ∙ all)
      go (inr gone) = inl (ap (λ (b : Bool). b && true) (ap (λ (j : List Entry). is_spent j c) k.is ∙ spent_on s.mid k.tail c (gone_spent gone)))

  -- where all are claimed then, a task was: the worker's last entry closes its run
  ends_now : are_all_claimed o new ≡ true → EndsClosed new
  ends_now all = go its refl (s.worked.last refl)
    where
      unworked : its ≡ [] → are_all_claimed o new ≡ false
      unworked none =
          ap (are_all_claimed o) k.is ∙ closing_claims c k.tail k.one o s.mid ∙ ap (are_all_claimed o) (s.worked.did.moved.is ∙ ap (λ (x : List Entry). g ++ x) none ∙ append-nil g)
          ∙ ap (are_all_claimed o) greeted.grown ∙ claimed_same o old (first ∷ greeted.more) (greeting_claims_none old g offer c greeted) (greeting_closes_none old g offer c greeted) ∙ left

      go : (xs : List Entry) → its ≡ xs → ends_closed xs ≡ true → EndsClosed new
      go [] is h = absurd (let bad : true ≡ false = sym all ∙ unworked is in cc)
      go (x ∷ xs) is h = closing_ends c k.tail k.one g new x xs (k.is ∙ ap (λ (y : List Entry). y ++ k.tail) (s.worked.did.moved.is ∙ ap (λ (y : List Entry). g ++ y) is)) h

  ready_said : is_ready_untagged new c ≡ not tagged
  ready_said = ap (λ (j : List Entry). is_ready_untagged j c) behind ∙ ready_now o g (its ++ k.tail) c legal' ready greeted.idle rest_part.within ∙ ap not (sym tag)

  pub served_stint : Stint o setup offer (offer && tagged) (Start c 0 offer) old new desk desk'
  served_stint = record {
    stretch = record {
      left = left;
      later = later;
      is = whole;
      start = inl (ap (λ (n : ℕ). Start n 0 offer) greeted.next);
      turn = served_next o old g offer c greeted legal' ready (its ++ k.tail) rest_part.within;
      within = subst (λ (n : ℕ). list_all (λ (e : Entry). in_stint n e.what) later ≡ true) greeted.next part.within;
      asks = part.asks;
      lost = served_lost old g offer c greeted (its ++ k.tail) (all-join (λ (e : Entry). loses_task e.what) its k.tail (worker_loses c its (alone_only s.worked refl)) (closing_loses c k.tail k.one));
      rest = λ u. ap (λ (j : List Entry). is_busy j u) k.is ∙ closing_rests c k.tail k.one s.mid s.can.rests.rest u;
      ended = ap (λ (b : Bool). b && true) k.ended;
      spent = over;
      untaken = subst NoneUntaken (sym behind) (ready_taken o old g offer c greeted legal' ready (its ++ k.tail) rest_part.within);
      offers = untagged offer tagged ∙ ap (λ (b : Bool). offer && not (b || false)) (sym ready_said);
    };
    main = part.main;
    done = done;
    last = ends_now;
  }
