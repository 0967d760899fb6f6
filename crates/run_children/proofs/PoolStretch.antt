-- A child of slot 0 that takes no tags: a pool is started after it and does tasks, and all are closed.
use Rattle.ann_outside.specs.Told.{DeskTold, ProgramsTold}
use Rattle.std.proofs.Common.{◌≡◌, ◌⊎◌, ℕ, ◌+◌, ◌≤◌, List, [], ◌∷◌, ◌++◌, refl, sym, ap, subst, ◌∙◌, append_assoc, append-nil, length, Bool, true, false, not, ◌==◌, cond, Some, None, Option, arith, inl, inr}
use Rattle.std.specs.Prelude.{◌&&◌, ◌||◌, filter, nat_le, option_and_then, option_map}
use Rattle.std.specs.List.{cons_option, last_or, list_all, list_any}
use Rattle.std.specs.Option.{option_or}
use Rattle.std.proofs.lemmas.List.Folds.{list_all-append}
use Rattle.ann_outside.specs.Starts.{Starts}
use Rattle.ann_outside.specs.Causes.{AddsOne}
use Rattle.journal_model.specs.declared.verdict.Verdict.{Verdict}
use Rattle.journal_model.specs.declared.entry.What.{What}
use Rattle.journal_model.specs.declared.entry.What.TheVariants.{Claim, Start, NoStart}
use Rattle.journal_model.specs.declared.entry.Entry.{Entry}
use Rattle.journal_model.specs.declared.opening.Opening.{Opening}
use Rattle.journal_model.specs.Halves.{EarValue, MouthValue}
use Rattle.journal_model.specs.Journal.{accepts_async, any, each_of, is_ended, is_settled, is_tagged, offers, open_jobs, verdict_of}
use Rattle.journal_model.specs.Legality.{Legal, count, is_done, is_start, prepares}
use Rattle.journal_model.proofs.Looks.{any-append, each_of-append, unsettled, verdict_of-append}
use Rattle.journal_model.proofs.Projecting.{invariant}
use Rattle.journal_model.proofs.Testing.{all-join}
use Rattle.host_core.specs.Steps.{are_all_claimed}
use Rattle.child_link.proofs.Linked.{any_narrower}
use Rattle.child_life.specs.Start.Greetings.{AreNumbered, Greeted, IsReady, is_of_greeting}
use Rattle.child_life.specs.End.Programs.{AddsAll, HaveStarted, RoseBy, is_failed_start, told, told_in}
use Rattle.child_link.specs.Wires.{WireValue}
use Rattle.child_life.specs.End.Wires.{IsOfStart, came, came_in}
use Rattle.task_model.specs.declared.setup.Setup.{Setup}
use Rattle.task_model.specs.TaskRuns.{failed_start, gone_answer, or_refusal, refusal_of, unready_answer}
use Rattle.run_starts.specs.Starting.{children, is_any_start, is_ready_untagged, started_in}
use Rattle.run_starts.specs.Rounds.{AllLostWell, AllStandNext, NoneUntaken, StandsNext, is_of_run, start_untaken, turn_of}
use Rattle.run_starts.specs.Stints.{AreLinked, MayHaveAsked, in_stint, main_entry}
use Rattle.run_starts.proofs.Apart.{no_start_in}
use Rattle.run_starts.proofs.Leaving.{none_told, failed_start_is, of_start}
use Rattle.run_starts.proofs.Losing.{greeted_next, lost_both, lost_greeting}
use Rattle.run_starts.proofs.Nexts.{next_both, next_quiet}
use Rattle.run_starts.proofs.Stinting.{greeting_part, greeting_claims_none, quiet_greeting}
use Rattle.run_starts.proofs.Tests.{each_none, no_children, none_came}
use Rattle.run_children.specs.PoolChildren.Slots.{AllInTurn, begins_by_start, has_pool, in_pool, is_first_start, is_lost, is_unclaimed_since, last_slot, offers_tags, slot_of, spends}
use Rattle.run_children.specs.Desks.{DesksDid, HaveDesks}
use Rattle.run_children.specs.Pools.{LeavesPool, ServesPool}
use Rattle.run_children.specs.Posts.{AllPosted}
use Rattle.run_children.specs.Starts.{JobStretch, OneJobStart, StartsAll}
use Rattle.run_children.proofs.Desks.{desks_join, desks_nothing, have_both, have_none}
use Rattle.run_children.proofs.Objects.{linked_shifted, rose_later}
use Rattle.run_children.proofs.Posting.{posted_both, posted_main}
use Rattle.run_children.proofs.Slots.{first_none, new_slot, new_unclaimed, pool_of, stint_pool}
use Rattle.run_children.proofs.Spent.{lost_spends}
use Rattle.run_children.proofs.Stretching.{greeting_turn, job_start}
use Rattle.run_children.proofs.PoolLinks.{stays_same as stays_so}
use Rattle.journal_model.proofs.Replying.{accepted}
use Rattle.std.proofs.lemmas.Bool.{and_parts as both}
use Rattle.ann_key.proofs.Booleans.{left_false as either_left, or_neither as neither, or_false, or_left}
use Rattle.journal_model.proofs.Working.{count-append, count_none}
use Rattle.run_children.proofs.PoolChildrenLemmas.Own.{rest_shut}
use Rattle.run_children.proofs.PoolChildrenLemmas.SlotLaws.{turn_both}
use Rattle.run_children.proofs.PoolWhole.{tags_start as no_tags}
use Rattle.child_life.proofs.EndLemmas.Across.{adds_both, adds_one}
use Rattle.journal_model.proofs.Across.{all_in, none_so as any_none}
use Rattle.task_model.proofs.Across.{prepared_on}
use Rattle.ann_key.proofs.Lists.{last_or-append}

-- ---- what the last start came to

abbrev Turn : Type 0
Turn = Option (Option ℕ)

abbrev Comes : List Entry → Turn → Type 0
Comes xs y = (last_or (Some y) (each_of turn_of xs) ≡ Some y) ⊎ (last_or (Some y) (each_of turn_of xs) ≡ Some None)

-- after it there stand claims alone
pool_turns : (n : ℕ) (x : Turn) (xs : List Entry) → list_all (λ (e : Entry). in_pool n e.what) xs ≡ true → (last_or (Some x) (each_of turn_of xs) ≡ Some x) ⊎ (last_or (Some x) (each_of turn_of xs) ≡ Some None)
pool_turns n x [] h = inl refl
pool_turns n x (e ∷ xs) h =
    let t = both (in_pool n e.what) (list_all (λ (y : Entry). in_pool n y.what) xs) h in
    go e.what t.0 (pool_turns n x xs t.1) (pool_turns n None xs t.1)
  where
    taken : Comes xs None → (last_or (Some None) (each_of turn_of xs) ≡ Some x) ⊎ (last_or (Some None) (each_of turn_of xs) ≡ Some None)
    taken (inl y) = inr y
    taken (inr y) = inr y

    elsewhere : (b : Bool) (y : Turn) → not b ≡ true → Comes xs x
        → (last_or (Some x) (cons_option (cond b (Some y) None) (each_of turn_of xs)) ≡ Some x) ⊎ (last_or (Some x) (cons_option (cond b (Some y) None) (each_of turn_of xs)) ≡ Some None)
    elsewhere true y i r = absurd cc
    elsewhere false y i r = r

    go : (w : What) → in_pool n w ≡ true → Comes xs x → Comes xs None → (last_or (Some x) (cons_option (turn_of w) (each_of turn_of xs)) ≡ Some x) ⊎ (last_or (Some x) (cons_option (turn_of w) (each_of turn_of xs)) ≡ Some None)
    go (Claim task child) k r s = taken s
    go (Start child slot offer) k r s = elsewhere (slot == 0) (Some (Some child)) (both (nat_le n child) (not (slot == 0)) k).1 r
    go (NoStart slot) k r s = elsewhere (slot == 0) (Some None) k r
    go w k r s = r

pool_untaken : (old later : List Entry) (c n : ℕ) (offer : Bool) → list_all (λ (e : Entry). in_pool n e.what) later ≡ true → unready_answer (old ++ main_entry (Start c 0 offer) ∷ later) c ≡ None
    → failed_start (old ++ main_entry (Start c 0 offer) ∷ later) (start_untaken (old ++ main_entry (Start c 0 offer) ∷ later)) ≡ None
pool_untaken old later c n offer within ready = go (pool_turns n (Some (Some c)) later within)
  where
    begun : List Entry
    begun = old ++ main_entry (Start c 0 offer) ∷ later

    last_is : last_or None (each_of turn_of begun) ≡ last_or (Some (Some (Some c))) (each_of turn_of later)
    last_is = ap (last_or None) (each_of-append turn_of old (main_entry (Start c 0 offer) ∷ later)) ∙ last_or-append None (each_of turn_of old) (Some (Some c) ∷ each_of turn_of later)

    go : (last_or (Some (Some (Some c))) (each_of turn_of later) ≡ Some (Some (Some c))) ⊎ (last_or (Some (Some (Some c))) (each_of turn_of later) ≡ Some None) → failed_start begun (start_untaken begun) ≡ None
    go (inl e) = ap (λ (x : Option Turn). failed_start begun (option_and_then (λ turn. turn) x)) (last_is ∙ e) ∙ ready
    go (inr e) = ap (λ (x : Option Turn). failed_start begun (option_and_then (λ turn. turn) x)) (last_is ∙ e)

-- ---- the child of slot 0

module _ (o : Opening) (g more : List Entry) (c : ℕ) (legal : Legal o g) (ready : IsReady g c) (idle : open_jobs g c ≡ []) (untagged : any offers_tags more ≡ false) where
  settled_first : is_settled g c 0 ≡ true
  settled_first = go (is_settled g c 0) refl (sym (ap (filter (λ (j : ℕ). not (is_settled g c j))) ready.jobs) ∙ idle)
    where
      go : (b : Bool) → is_settled g c 0 ≡ b
          → cond (not (is_settled g c 0)) (0 ∷ filter (λ (j : ℕ). not (is_settled g c j)) (1 ∷ [])) (filter (λ (j : ℕ). not (is_settled g c j)) (1 ∷ [])) ≡ [] → is_settled g c 0 ≡ true
      go true e h = e
      go false e h = absurd (let bad : 0 ∷ filter (λ (j : ℕ). not (is_settled g c j)) (1 ∷ []) ≡ [] = subst (λ (b : Bool). cond (not b) (0 ∷ filter (λ (j : ℕ). not (is_settled g c j)) (1 ∷ [])) (filter (λ (j : ℕ). not (is_settled g c j)) (1 ∷ [])) ≡ []) e h in cc)

  first_same : verdict_of (g ++ more) c 0 ≡ verdict_of g c 0
  first_same = verdict_of-append c 0 g more ∙ go (verdict_of g c 0) refl
    where
      go : (v : Option Verdict) → verdict_of g c 0 ≡ v → option_or v (verdict_of more c 0) ≡ v
      go (Some v) e = refl
      go None e = absurd (let bad : true ≡ false = sym settled_first ∙ unsettled g c 0 e in cc)

  offered_of : (w : What) → offers c w ≡ true → offers_tags w ≡ true
  offered_of (Start child slot offer) h = (both (child == c) offer h).1
  offered_of w h = absurd cc

  tag_same : is_tagged (g ++ more) c ≡ is_tagged g c
  tag_same =
      ap (λ (b : Bool). b && accepts_async (g ++ more) (verdict_of (g ++ more) c 0))
      (any-append (offers c) g more ∙ ap (λ (b : Bool). any (offers c) g || b) (any_narrower (offers c) offers_tags offered_of more untagged) ∙ or_false (any (offers c) g))
      ∙ ap (λ (v : Option Verdict). any (offers c) g && accepts_async (g ++ more) v) first_same
      ∙ ap (λ (b : Bool). any (offers c) g && b) (accepted g more (verdict_of g c 0) ((invariant o g legal).placed c 0))

  pub ready_still : is_ready_untagged (g ++ more) c ≡ not (is_tagged g c)
  ready_still = ap (λ (b : Bool). b && not (is_tagged (g ++ more) c)) (prepared_on g more c ready.prepared) ∙ ap not tag_same

  pub nothing_owed : unready_answer (g ++ more) c ≡ None
  nothing_owed = ap (λ (b : Bool). cond b None (or_refusal (gone_answer (g ++ more) c) (refusal_of (g ++ more) c)))
      (both (is_done (verdict_of (g ++ more) c 1)) (any (prepares c) (g ++ more)) (prepared_on g more c ready.prepared)).0

-- ---- in which turn

-- Entries of a pool stand in their turn where no start is left for a task to take up at each place.
next_pool : (o : Opening) (past : List Entry) (n : ℕ) (xs : List Entry) → list_all (λ (e : Entry). in_pool n e.what) xs ≡ true → ((front rest : List Entry) → xs ≡ front ++ rest → NoneUntaken (past ++ front)) → AllStandNext o past xs
next_pool o past n [] within f = tt
next_pool o past n (e ∷ xs) within f =
    let t = both (in_pool n e.what) (list_all (λ (x : Entry). in_pool n x.what) xs) within in (
      one e.what t.0 (subst NoneUntaken (append-nil past) (f [] (e ∷ xs) refl)),
      next_pool o (past ++ e ∷ []) n xs t.1 (λ front rest is. subst NoneUntaken (sym (append_assoc past (e ∷ []) front)) (f (e ∷ front) rest (ap (λ (l : List Entry). e ∷ l) is))),
    )
  where
    elsewhere : {A : Type 0} (slot : ℕ) → not (slot == 0) ≡ true → slot ≡ 0 → A
    elsewhere slot other is = (let bad : not (slot == 0) ≡ false = ap (λ (m : ℕ). not (m == 0)) is in let worse : true ≡ false = sym other ∙ bad in absurd cc)

    one : (w : What) → in_pool n w ≡ true → NoneUntaken past → StandsNext o past w
    one (Start child slot offer) k m = λ zeroth. elsewhere slot (both (nat_le n child) (not (slot == 0)) k).1 zeroth
    one (NoStart slot) k m = λ zeroth. elsewhere slot k zeroth
    one (Claim task child) k m = λ some. m
    one w k m = tt

-- ---- the greeting

greeting_stint : (c : ℕ) (old g : List Entry) (offer : Bool) → (greeted : Greeted old g 0 offer c) → list_all (λ (e : Entry). in_stint c e.what) greeted.more ≡ true
greeting_stint c old g offer greeted = (greeting_part c greeted.more greeted.own greeted.main).within

unslotted : (c : ℕ) (w : What) → is_of_greeting c w ≡ true → slot_of w ≡ None
unslotted c (Start child slot offer) h = absurd cc
unslotted c (NoStart slot) h = absurd cc
unslotted c w h = refl

unbegun : (c : ℕ) (w : What) → is_of_greeting c w ≡ true → begins_by_start w ≡ None
unbegun c (Start child slot offer) h = absurd cc
unbegun c (NoStart slot) h = absurd cc
unbegun c (Claim task child) h = absurd cc
unbegun c w h = refl

starting : (w : What) → is_start w ≡ true → is_any_start w ≡ true
starting (Start child slot offer) h = refl
starting w h = absurd cc

module _ (o : Opening) (old g : List Entry) (offer : Bool) (c : ℕ) (greeted : Greeted old g 0 offer c) where
  pub none_started : any is_any_start greeted.more ≡ false
  none_started = any_none (in_stint c) is_any_start (no_start_in c) greeted.more (greeting_stint c old g offer greeted)

  in_its_pool : list_all (λ (e : Entry). in_pool c e.what) greeted.more ≡ true
  in_its_pool = all_in (in_stint c) (in_pool c) (stint_pool c) greeted.more (greeting_stint c old g offer greeted)

  -- a pool may be gathered after it
  pub greeted_slot : last_slot g ≡ 0
  greeted_slot = ap last_slot greeted.grown ∙ new_slot old greeted.more c offer (each_none slot_of (is_of_greeting c) (unslotted c) greeted.more greeted.own)

  pub greeted_unclaimed : is_unclaimed_since g ≡ true
  greeted_unclaimed = ap is_unclaimed_since greeted.grown ∙ new_unclaimed old greeted.more c offer (each_none begins_by_start (is_of_greeting c) (unbegun c) greeted.more greeted.own)

  pub greeted_count : count is_start g ≡ count is_start old + 1
  greeted_count =
      let none : count is_start greeted.more ≡ 0 = count_none is_start greeted.more (any_narrower is_start is_any_start starting greeted.more none_started) in
      ap (count is_start) greeted.grown ∙ count-append is_start old (main_entry (Start c 0 offer) ∷ greeted.more) ∙ (omega (arith, none))

  pub greeted_pool : IsReady g c → is_tagged g c ≡ false → has_pool g ≡ true
  greeted_pool ready tag =
      ap has_pool greeted.grown ∙ pool_of old greeted.more c c offer in_its_pool ∙ ap (λ (j : List Entry). is_ready_untagged j c) (sym greeted.grown)
      ∙ (let prepared = ready.prepared in rw (prepared, tag) refl)

-- ---- the stretch

module _ (o : Opening) (setup : Setup) (limit : ℕ) (offer : Bool) (old g new : List Entry) (c : ℕ) (desks desks' : List DeskTold) (whole : Bool)
    (greeted : Greeted old g 0 offer c) (legal' : Legal o g) (ready : IsReady g c) (many : length desks ≡ 1 → ⊥) (left : are_all_claimed o old ≡ false) (s : ServesPool o setup limit c g new desks desks' whole) where
  abbrev first : Entry
  first = main_entry (Start c 0 offer)

  abbrev at_start : List Entry
  at_start = old ++ first ∷ []

  abbrev pub pool_later : List Entry
  pool_later = greeted.more ++ s.later

  pool_whole : new ≡ old ++ first ∷ pool_later
  pool_whole = s.is ∙ ap (λ (x : List Entry). x ++ s.later) greeted.grown ∙ append_assoc old (first ∷ greeted.more) s.later

  at_greeted : g ≡ at_start ++ greeted.more
  at_greeted = greeted.grown ∙ sym (append_assoc old (first ∷ []) greeted.more)

  within : list_all (λ (e : Entry). in_pool c e.what) pool_later ≡ true
  within = all-join (λ (e : Entry). in_pool c e.what) greeted.more s.later (in_its_pool o old g offer c greeted) s.within

  its_children : children pool_later ≡ children s.later
  its_children = each_of-append started_in greeted.more s.later ∙ ap (λ (ds : List ℕ). ds ++ children s.later) (no_children greeted.more (none_started o old g offer c greeted))

  untagged_all : any offers_tags pool_later ≡ false
  untagged_all = any-append offers_tags greeted.more s.later ∙ neither (any offers_tags greeted.more) (any offers_tags s.later)
      (any_narrower offers_tags is_any_start no_tags greeted.more (none_started o old g offer c greeted)) s.untagged

  ready_new : is_tagged g c ≡ false → is_ready_untagged new c ≡ true
  ready_new tag = ap (λ (j : List Entry). is_ready_untagged j c) s.is ∙ ready_still o g s.later c legal' ready greeted.idle s.untagged ∙ ap not tag

  -- at each place of it no start is left for a task to take up
  pool_taken : (front rest : List Entry) → s.later ≡ front ++ rest → NoneUntaken (g ++ front)
  pool_taken front rest split =
      let grown : g ++ front ≡ old ++ first ∷ (greeted.more ++ front) = ap (λ (x : List Entry). x ++ front) greeted.grown ∙ append_assoc old (first ∷ greeted.more) front in
      subst NoneUntaken (sym grown)
      (pool_untaken old (greeted.more ++ front) c c offer (all-join (λ (e : Entry). in_pool c e.what) greeted.more front (in_its_pool o old g offer c greeted) front_within)
      (subst (λ (j : List Entry). unready_answer j c ≡ None) grown (nothing_owed o g front c legal' ready greeted.idle front_untagged)))
    where
      front_within : list_all (λ (e : Entry). in_pool c e.what) front ≡ true
      front_within = (both (list_all (λ (e : Entry). in_pool c e.what) front) (list_all (λ (e : Entry). in_pool c e.what) rest)
          (sym (list_all-append (λ (e : Entry). in_pool c e.what) front rest) ∙ ap (list_all (λ (e : Entry). in_pool c e.what)) (sym split) ∙ s.within)).0

      front_untagged : any offers_tags front ≡ false
      front_untagged = either_left (any offers_tags front) (any offers_tags rest) (sym (any-append offers_tags front rest) ∙ ap (any offers_tags) (sym split) ∙ s.untagged)

  order : AllStandNext o at_start pool_later
  order = next_both o at_start greeted.more s.later (next_quiet o at_start greeted.more (quiet_greeting old g offer c greeted))
      (subst (λ (p : List Entry). AllStandNext o p s.later) at_greeted (next_pool o g c s.later s.within pool_taken))

  spent : (list_any (is_lost new) (c ∷ children s.later) ≡ true) ⊎ (are_all_claimed o new ≡ true) → (spends at_start (Start c 0 offer) pool_later ≡ true) ⊎ (are_all_claimed o new ≡ true)
  spent (inl h) = inl (lost_spends old new pool_later c offer pool_whole (any_none (in_pool c) is_first_start (first_none c) pool_later within) (ap (λ (ds : List ℕ). list_any (is_lost new) (c ∷ ds)) its_children ∙ h))
  spent (inr h) = inr h

  -- whether ASYNC is offered from then on
  abbrev pub pool_next : Bool
  pool_next = offer && not (list_any (is_ready_untagged new) (c ∷ children pool_later))

  no_more : is_tagged g c ≡ false → offer && false ≡ pool_next
  no_more tag = ap (λ (b : Bool). offer && not b) (sym (or_left (is_ready_untagged new c) (list_any (is_ready_untagged new) (children pool_later)) (ready_new tag)))

  pub pool_stretch : JobStretch o setup limit offer pool_next (Start c 0 offer) old new desks desks' whole
  pool_stretch = record {
    left = left;
    later = pool_later;
    is = pool_whole;
    start = inl (ap (λ (n : ℕ). Start n 0 offer) greeted.next);
    within = subst (λ (n : ℕ). list_all (λ (e : Entry). in_pool n e.what) pool_later ≡ true) greeted.next within;
    untagged = untagged_all;
    asks = all-join (λ (e : Entry). is_of_run e.what) greeted.more s.later (greeting_part c greeted.more greeted.own greeted.main).asks s.asks;
    lost = lost_both at_start greeted.more s.later (lost_greeting at_start c greeted.more (greeted_next old c 0 offer) greeted.own) (subst (λ (p : List Entry). AllLostWell p s.later) at_greeted s.lost);
    posts = posted_both at_start greeted.more s.later (posted_main at_start greeted.more greeted.main) (subst (λ (p : List Entry). AllPosted p s.later) at_greeted s.posts);
    turn = turn_both o (length desks) at_start greeted.more s.later (greeting_turn o (length desks) at_start old g offer c greeted)
        (subst (λ (p : List Entry). AllInTurn o (length desks) p s.later) at_greeted s.turn);
    order = order;
    rest = s.calm.idle;
    ended = ap (λ (ds : List ℕ). list_all (is_ended new) (c ∷ ds)) its_children ∙ s.ended;
    spent = λ w. spent (s.spent w);
    manned = s.manned;
    untaken = subst NoneUntaken (sym s.is) (pool_taken s.later [] (sym (append-nil s.later)));
    offers = refl;
    placed = have_both (length desks) at_start greeted.more s.later (have_none (length desks) at_start greeted.more (greeting_claims_none old g offer c greeted))
        (subst (λ (p : List Entry). HaveDesks (length desks) p s.later) at_greeted s.placed);
    did = desks_join o setup limit new at_start greeted.more s.later 1 desks desks desks' (desks_nothing o setup limit new at_start greeted.more 1 desks (greeting_claims_none old g offer c greeted))
        (subst (λ (p : List Entry). DesksDid o setup limit new p s.later 1 desks desks') at_greeted s.did);
    alone = λ one. absurd (many one);
    last = λ one. absurd (many one);
    shut = λ shut. rest_shut new s.calm;
  }

  pub pool_start : {program : List ℕ} {before after : ProgramsTold} {wires wires' : List WireValue} → StartsAll program new (first ∷ pool_later) before after wires wires'
      → OneJobStart o setup limit offer pool_next whole program old new desks desks' before after wires wires'
  pool_start objects = job_start pool_later pool_whole objects pool_stretch

  -- none is, after one that takes no tags
  pub untagged_start : {program : List ℕ} {before after : ProgramsTold} {wires wires' : List WireValue} → is_tagged g c ≡ false → StartsAll program new (first ∷ pool_later) before after wires wires'
      → OneJobStart o setup limit offer (offer && false) whole program old new desks desks' before after wires wires'
  untagged_start {program} {before} {after} {wires} {wires'} tag objects =
      subst (λ (next : Bool). OneJobStart o setup limit offer next whole program old new desks desks' before after wires wires') (sym (no_more tag)) (pool_start objects)

-- ---- the objects

-- The child of slot 0 was started, and then, where programs were asked for what `others` says, its pool.
module _ (program : List ℕ) (new tail others : List Entry) (c : ℕ) (before mid : ProgramsTold) (ear : EarValue) (mouth : MouthValue) (adds : AddsOne before.starts mid.starts (program, true)) (le : before.faults ≤ mid.faults)
    (numbered : AreNumbered mid.starts ear mouth) (is_child : ear.child ≡ c) (came_is : came tail ≡ Some c ∷ came others) (told_is : told program tail ≡ (program, true) ∷ told program others)
    (failed_is : count is_failed_start tail ≡ count is_failed_start others) where
  pub first_objects : (W : Type 0) (last after : ProgramsTold) (wires wires' : List WireValue) → (l : LeavesPool W program new others ear mouth mid last wires wires') → AddsAll mid.starts after.starts (told program others) → after.faults ≡ last.faults
      → StartsAll program new tail before after wires wires'
  first_objects W last after wires wires' l all same = record {
    adds = subst (AddsAll before.starts after.starts) (sym told_is) (adds_both before.starts mid.starts after.starts ((program, true) ∷ []) (told program others) (adds_one before.starts mid.starts (program, true) adds) all);
    new = l.own ∷ l.more;
    laid = l.laid;
    linked = subst (λ (cs : List (Option ℕ)). AreLinked before.starts new 0 cs (l.own ∷ l.more)) (sym came_is) (
      l.left.child ∙ is_child,
      record {
        linked = l.left.held;
        inlet = subst (IsOfStart before.starts 1) (sym l.left.numbers.0) (of_start before.starts mid.starts (program, true) mouth.number adds numbered.0);
        outlet = subst (IsOfStart before.starts 1) (sym l.left.numbers.1) (of_start before.starts mid.starts (program, true) ear.number adds numbered.1);
        closed = l.left.closed;
      },
      linked_shifted before.starts mid.starts ((program, true) ∷ []) new 1 (adds_one before.starts mid.starts (program, true) adds) refl 0 (came others) l.more l.linked,
    );
    faults = subst (RoseBy (count is_failed_start tail) before.faults) (sym same) (subst (λ (n : ℕ). RoseBy n before.faults last.faults) (sym failed_is) (rose_later (count is_failed_start others) before.faults mid.faults last.faults le l.faults));
    later_faults = (let a = l.later_faults in omega (arith, le, a, same));
  }

-- after the start there stand entries that start nothing, and then others
module _ (program : List ℕ) (new more others : List Entry) (c : ℕ) (offer : Bool) (before mid : ProgramsTold) (ear : EarValue) (mouth : MouthValue) (adds : AddsOne before.starts mid.starts (program, true)) (le : before.faults ≤ mid.faults)
    (numbered : AreNumbered mid.starts ear mouth) (is_child : ear.child ≡ c) (none : any is_any_start more ≡ false) where
  pub its_objects : (W : Type 0) (last after : ProgramsTold) (wires wires' : List WireValue) → LeavesPool W program new others ear mouth mid last wires wires' → AddsAll mid.starts after.starts (told program others) → after.faults ≡ last.faults
      → StartsAll program new (main_entry (Start c 0 offer) ∷ (more ++ others)) before after wires wires'
  its_objects = first_objects program new (main_entry (Start c 0 offer) ∷ (more ++ others)) others c before mid ear mouth adds le numbered is_child
      (ap (λ (cs : List (Option ℕ)). Some c ∷ cs) (each_of-append came_in more others ∙ ap (λ (cs : List (Option ℕ)). cs ++ came others) (none_came more none)))
      (ap (λ (ts : Starts). (program, true) ∷ ts) (each_of-append (told_in program) more others ∙ ap (λ (ts : Starts). ts ++ told program others) (none_told program more none)))
      (let none_failed = count_none is_failed_start more (any_narrower is_failed_start is_any_start failed_start_is more none) in count-append is_failed_start more others ∙ (omega (arith, none_failed)))

-- ---- where no memory was found to start one more

-- what programs tell after so many starts
abbrev pub told_after : Option Starts → Starts → Option Starts
told_after starts more = option_map (λ (xs : Starts). xs ++ more) starts

adds_after : (starts : Option Starts) (more : Starts) → AddsAll starts (told_after starts more) more
adds_after None more = tt
adds_after (Some xs) more = refl

asked_after : (old new : Option Starts) (more : Starts) (x : List ℕ × Bool) → AddsAll old new (more ++ x ∷ []) → AddsOne (told_after old more) new x
asked_after None None more x h = tt
asked_after None (Some ys) more x h = absurd h
asked_after (Some xs) None more x h = absurd h
asked_after (Some xs) (Some ys) more x h = h ∙ sym (append_assoc xs more (x ∷ []))

-- the programs, as they told the starts that were made
pub record Asked (program : List ℕ) (journal : List Entry) (before after : ProgramsTold) : Type 0 where
  pub mid : ProgramsTold
  pub adds : AddsAll before.starts mid.starts (told program journal)
  pub faults : mid.faults ≡ after.faults
  pub asked : MayHaveAsked program mid after

pub asked_so : (W : Type 0) (program : List ℕ) (journal : List Entry) (before after : ProgramsTold) → HaveStarted W program journal before.starts after.starts → Asked program journal before after
asked_so W program journal before after (inl h) = record { mid = after; adds = h; faults = refl; asked = (inl (stays_so after.starts), omega arith) }
asked_so W program journal before after (inr (w, (b, h))) = record {
  mid = record { starts = told_after before.starts (told program journal); faults = after.faults };
  adds = adds_after before.starts (told program journal);
  faults = refl;
  asked = (inr (b, asked_after before.starts after.starts (told program journal) (program, b) h), omega arith);
}

pub all_told : (W : Type 0) (program : List ℕ) (journal : List Entry) (before after : ProgramsTold) → (W → ⊥) → HaveStarted W program journal before.starts after.starts → AddsAll before.starts after.starts (told program journal)
all_told W program journal before after none (inl h) = h
all_told W program journal before after none (inr (w, h)) = absurd (none w)
