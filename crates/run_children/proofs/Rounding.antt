-- A child that takes tags: a round of workers does tasks over it, and it is closed.
use Rattle.ann_outside.specs.Told.{DeskTold, ProgramsTold}
use Rattle.std.proofs.Common.{◌≡◌, ◌⊎◌, ℕ, ◌+◌, ◌≤◌, List, [], ◌∷◌, ◌++◌, refl, sym, ap, subst, ◌∙◌, append_assoc, length, Bool, true, false, not, arith, inl, inr}
use Rattle.std.specs.Prelude.{◌&&◌, ◌||◌, ◌==◌}
use Rattle.std.specs.List.{list_all, range_with_len}
use Rattle.std.proofs.lemmas.List.Folds.{list_all-append}
use Rattle.journal_model.specs.declared.entry.What.TheVariants.{Start}
use Rattle.journal_model.specs.declared.entry.Entry.{Entry}
use Rattle.journal_model.specs.declared.opening.Opening.{Opening}
use Rattle.journal_model.specs.Journal.{any, asked_jobs, each_of, is_tagged, open_jobs}
use Rattle.journal_model.specs.Legality.{Legal, is_busy}
use Rattle.journal_model.proofs.Testing.{all-join}
use Rattle.host_core.specs.Steps.{are_all_claimed}
use Rattle.crew_work.specs.Laws.Posts.{makes, tagged_crew}
use Rattle.crew_work.specs.Laws.Rounds.{IsAtRest}
use Rattle.crew_rounds.specs.Tagged.TaggedRounds.{TaggedLeaves}
use Rattle.child_life.specs.Start.Greetings.{Greeted, IsReady}
use Rattle.child_link.specs.Wires.{WireValue}
use Rattle.task_model.specs.declared.setup.Setup.{Setup}
use Rattle.journal_model.proofs.Holding.{claimed}
use Rattle.run_starts.specs.Starting.{is_any_start, is_ready_untagged, is_spent}
use Rattle.run_starts.specs.Rounds.{AllLostWell, NoneUntaken, is_of_run}
use Rattle.run_starts.specs.Stints.{HasServed, Stint, Stretch, in_stint, main_entry, next_child}
use Rattle.run_starts.proofs.Apart.{spent_on}
use Rattle.run_starts.proofs.Growing.{starts_none}
use Rattle.run_starts.proofs.Losing.{greeted_next, lost_both, lost_greeting, lost_others, lost_tasks}
use Rattle.run_starts.proofs.Served.{ready_now, ready_taken, served_next, served_stint, tag_same, untagged}
use Rattle.run_starts.proofs.Stinting.{Closing, closing, closing_claims, closing_loses, closing_part, closing_rests, greeting_claims_none, greeting_part, of_closing}
use Rattle.run_children.specs.Desks.{DesksDid, HaveDesks}
use Rattle.run_children.specs.Posts.{AllPosted}
use Rattle.run_children.specs.Servings.{Serves, ServesRound}
use Rattle.run_children.specs.Starts.{JobStretch, OneJobStart, StartsAll}
use Rattle.run_children.proofs.Desks.{desks_join, desks_nothing, desks_on, have_both, have_none}
use Rattle.run_children.proofs.Posting.{none_main, posted_both, posted_main, posted_tagged}
use Rattle.run_children.proofs.RoundDid.{round_asks, round_desks, round_did, round_over, round_within}
use Rattle.run_children.proofs.Stretching.{behind_first, closed_idle, job_start, served_idle, served_manned, served_turn, stint_job, stretch_job}
use Rattle.std.proofs.lemmas.Bool.{and_parts as both}
use Rattle.run_children.proofs.PoolChildrenLemmas.Own.{rest_shut}

module _ (o : Opening) (setup : Setup) (limit : ℕ) (offer tagged : Bool) (old g new : List Entry) (c : ℕ) (desks desks' : List DeskTold)
    (legal : Legal o old) (left : are_all_claimed o old ≡ false) (greeted : Greeted old g 0 offer c) (legal' : Legal o g) (ready : IsReady g c) (tag : tagged ≡ is_tagged g c) (s : ServesRound o setup c g new desks desks') where
  abbrev first : Entry
  first = main_entry (Start c 0 offer)

  abbrev rest : List Entry
  rest = s.round.0

  leaves : TaggedLeaves o setup (range_with_len 1 (3 + length desks)) g rest s.link desks desks'
  leaves = s.round.2

  k : Closing c s.mid new
  k = closing c s.mid new s.closes

  abbrev later : List Entry
  later = greeted.more ++ (rest ++ k.tail)

  behind : new ≡ g ++ (rest ++ k.tail)
  behind = k.is ∙ ap (λ (x : List Entry). x ++ k.tail) s.round.1 ∙ append_assoc g rest k.tail

  whole : new ≡ old ++ first ∷ later
  whole = behind ∙ ap (λ (x : List Entry). x ++ (rest ++ k.tail)) greeted.grown ∙ append_assoc old (first ∷ greeted.more) (rest ++ k.tail)

  two : 2 ≤ length (asked_jobs g c)
  two = (let n = ap length ready.jobs in omega (arith, n))

  calm : IsAtRest (g ++ rest)
  calm = leaves.round.rounded.at_rest

  rest_within : list_all (λ (e : Entry). in_stint c e.what) rest ≡ true
  rest_within = subst (λ (d : ℕ). list_all (λ (e : Entry). in_stint d e.what) rest ≡ true) s.child (round_within o s.link.ear.child _ g rest leaves.round.rounded)

  rest_asks : list_all (λ (e : Entry). is_of_run e.what) rest ≡ true
  rest_asks = round_asks o s.link.ear.child _ g rest legal' (subst (λ (d : ℕ). 2 ≤ length (asked_jobs g d)) (sym s.child) two) leaves.round.rounded

  end_within : list_all (λ (e : Entry). in_stint c e.what) (rest ++ k.tail) ≡ true
  end_within = all-join (λ (e : Entry). in_stint c e.what) rest k.tail rest_within (closing_part c k.tail k.one).within

  within : list_all (λ (e : Entry). in_stint c e.what) later ≡ true
  within = all-join (λ (e : Entry). in_stint c e.what) greeted.more (rest ++ k.tail) (greeting_part c greeted.more greeted.own greeted.main).within end_within

  asks : list_all (λ (e : Entry). is_of_run e.what) later ≡ true
  asks =
      all-join (λ (e : Entry). is_of_run e.what) greeted.more (rest ++ k.tail) (greeting_part c greeted.more greeted.own greeted.main).asks
      (all-join (λ (e : Entry). is_of_run e.what) rest k.tail rest_asks (closing_part c k.tail k.one).asks)

  no_more : each_of claimed k.tail ≡ []
  no_more = of_closing c k.tail k.one (λ (x : List Entry). each_of claimed x ≡ []) refl refl

  -- the greeting claims nothing, the round's tasks are its desks', and the closing claims nothing
  did : DesksDid o setup limit new (old ++ first ∷ []) later 1 desks desks'
  did = subst (λ (j : List Entry). DesksDid o setup limit j (old ++ first ∷ []) later 1 desks desks') (sym (k.is ∙ ap (λ (x : List Entry). x ++ k.tail) s.round.1)) (
      desks_join o setup limit all (old ++ first ∷ []) greeted.more (rest ++ k.tail) 1 desks desks desks'
      (desks_nothing o setup limit all (old ++ first ∷ []) greeted.more 1 desks (greeting_claims_none old g offer c greeted))
      (subst (λ (p : List Entry). DesksDid o setup limit all p (rest ++ k.tail) 1 desks desks') (greeted.grown ∙ sym (append_assoc old (first ∷ []) greeted.more))
      (desks_join o setup limit all g rest k.tail 1 desks desks' desks' of_round (desks_nothing o setup limit all (g ++ rest) k.tail 1 desks' no_more))))
    where
      all : List Entry
      all = (g ++ rest) ++ k.tail

      of_round : DesksDid o setup limit all g rest 1 desks desks'
      of_round = desks_on o setup limit (g ++ rest) k.tail g rest 1 desks desks'
          (round_did o setup limit _ g rest s.link desks desks' (ap (is_tagged g) s.child ∙ s.tagged) leaves)

  over : (list_all (is_spent new) (c ∷ []) ≡ true) ⊎ (are_all_claimed o new ≡ true)
  over = go (round_over o _ _ _ g rest s.link leaves.round)
    where
      mid_is : new ≡ (g ++ rest) ++ k.tail
      mid_is = k.is ∙ ap (λ (x : List Entry). x ++ k.tail) s.round.1

      go : (are_all_claimed o (g ++ rest) ≡ true) ⊎ (is_spent (g ++ rest) s.link.ear.child ≡ true) → (list_all (is_spent new) (c ∷ []) ≡ true) ⊎ (are_all_claimed o new ≡ true)
      go (inl claimed) = inr (ap (are_all_claimed o) mid_is ∙ closing_claims c k.tail k.one o (g ++ rest) ∙ claimed)
      go (inr spent) = inl (ap (λ (b : Bool). b && true) (
          ap (λ (j : List Entry). is_spent j c) mid_is ∙ spent_on (g ++ rest) k.tail c (ap (is_spent (g ++ rest)) (sym s.child) ∙ spent)))

  ready_said : is_ready_untagged new c ≡ not tagged
  ready_said = ap (λ (j : List Entry). is_ready_untagged j c) behind ∙ ready_now o g (rest ++ k.tail) c legal' ready greeted.idle end_within ∙ ap not (sym tag)

  abbrev n : ℕ
  n = length desks

  abbrev at_start : List Entry
  at_start = old ++ first ∷ []

  not_mains : list_all (λ (e : Entry). not (e.by == 0)) rest ≡ true
  not_mains = none_main (3 + length desks) rest leaves.round.rounded.numbered

  lost : AllLostWell at_start later
  lost = lost_both at_start greeted.more (rest ++ k.tail) (lost_greeting at_start c greeted.more (greeted_next old c 0 offer) greeted.own)
      (lost_both (at_start ++ greeted.more) rest k.tail (lost_others (at_start ++ greeted.more) rest not_mains) (lost_tasks ((at_start ++ greeted.more) ++ rest) k.tail (closing_loses c k.tail k.one)))

  posts : AllPosted at_start later
  posts = posted_both at_start greeted.more (rest ++ k.tail) (posted_main at_start greeted.more greeted.main)
      (subst (λ (p : List Entry). AllPosted p (rest ++ k.tail)) (greeted.grown ∙ sym (append_assoc old (first ∷ []) greeted.more))
      (posted_both g rest k.tail (posted_tagged c g rest tag_at (subst (λ (d : ℕ). list_all (λ (e : Entry). makes (tagged_crew d e.by) e.what) rest ≡ true) s.child leaves.round.rounded.posts))
      (posted_main (g ++ rest) k.tail (closing_part c k.tail k.one).main)))
    where
      tag_at : (front back : List Entry) → rest ≡ front ++ back → is_tagged (g ++ front) c ≡ true
      tag_at front back split = tag_same o g front c legal' ready greeted.idle (both (list_all (λ (e : Entry). in_stint c e.what) front) (list_all (λ (e : Entry). in_stint c e.what) back)
          (sym (list_all-append (λ (e : Entry). in_stint c e.what) front back) ∙ ap (list_all (λ (e : Entry). in_stint c e.what)) (sym split) ∙ rest_within)).0
          ∙ s.tagged

  abbrev stretch : Stretch o offer (offer && tagged) (Start c 0 offer) old new
  stretch = record {
    left = left;
    later = later;
    is = whole;
    start = inl (ap (λ (n : ℕ). Start n 0 offer) greeted.next);
    turn = served_next o old g offer c greeted legal' ready (rest ++ k.tail) end_within;
    within = subst (λ (n : ℕ). list_all (λ (e : Entry). in_stint n e.what) later ≡ true) greeted.next within;
    asks = asks;
    lost = lost;
    rest = λ u. ap (λ (j : List Entry). is_busy j u) k.is ∙ closing_rests c k.tail k.one s.mid (λ t. ap (λ (j : List Entry). is_busy j t) s.round.1 ∙ calm.idle t) u;
    ended = ap (λ (b : Bool). b && true) k.ended;
    spent = over;
    untaken = subst NoneUntaken (sym behind) (ready_taken o old g offer c greeted legal' ready (rest ++ k.tail) end_within);
    offers = untagged offer tagged ∙ ap (λ (b : Bool). offer && not (b || false)) (sym ready_said);
  }

  placed : HaveDesks n at_start later
  placed = have_both n at_start greeted.more (rest ++ k.tail) (have_none n at_start greeted.more (greeting_claims_none old g offer c greeted))
      (subst (λ (p : List Entry). HaveDesks n p (rest ++ k.tail)) (greeted.grown ∙ sym (append_assoc old (first ∷ []) greeted.more))
      (have_both n g rest k.tail (round_desks o s.link.ear.child n g rest (ap (is_tagged g) s.child ∙ s.tagged) leaves.round.rounded) (have_none n (g ++ rest) k.tail no_more)))

  idle : open_jobs new c ≡ []
  idle = closed_idle c s.mid new s.closes (ap (λ (j : List Entry). open_jobs j c) s.round.1 ∙ rest_shut (g ++ rest) calm c)

  pub round_stretch : (full : Bool) → JobStretch o setup limit offer (offer && tagged) (Start c 0 offer) old new desks desks' full
  round_stretch full = stretch_job stretch setup limit desks desks' full (served_turn o n offer old g new c legal' greeted ready (rest ++ k.tail) behind (inr s.tagged) later whole within) placed did
      (λ one. absurd (s.many one)) (λ one. absurd (s.many one)) (λ shut. subst (λ (n : ℕ). open_jobs new n ≡ []) greeted.next idle)
      (served_manned o n offer old g new c legal' greeted ready (rest ++ k.tail) behind (inr s.tagged) end_within) posts

  pub round_start : {program : List ℕ} {before after : ProgramsTold} {wires wires' : List WireValue} (full : Bool) → ((xs : List Entry) → any is_any_start xs ≡ false → StartsAll program new (first ∷ xs) before after wires wires')
      → OneJobStart o setup limit offer (offer && tagged) full program old new desks desks' before after wires wires'
  round_start full objects = job_start later whole (objects later (starts_none stretch)) (round_stretch full)

-- by the main thread alone
module _ (o : Opening) (setup : Setup) (limit : ℕ) (offer tagged : Bool) (old g new : List Entry) (c : ℕ) (desk desk' : DeskTold) (others : List DeskTold)
    (legal : Legal o old) (left : are_all_claimed o old ≡ false) (greeted : Greeted old g 0 offer c) (legal' : Legal o g) (ready : IsReady g c) (tag : tagged ≡ is_tagged g c) (served : HasServed o setup c g new desk desk')
    (few : (length (desk ∷ others) ≡ 1) ⊎ (is_tagged g c ≡ true)) where
  stint : Stint o setup offer (offer && tagged) (Start c 0 offer) old new desk desk'
  stint = served_stint o setup offer tagged old g new c desk desk' legal left greeted legal' ready tag served

  closes : Closing c served.mid new
  closes = closing c served.mid new served.closes

  grown : new ≡ g ++ (served.worked.did.moved.more ++ closes.tail)
  grown = closes.is ∙ ap (λ (x : List Entry). x ++ closes.tail) served.worked.did.moved.is ∙ append_assoc g served.worked.did.moved.more closes.tail

  grown_within : list_all (λ (e : Entry). in_stint c e.what) (served.worked.did.moved.more ++ closes.tail) ≡ true
  grown_within = (both (list_all (λ (e : Entry). in_stint c e.what) greeted.more) (list_all (λ (e : Entry). in_stint c e.what) (served.worked.did.moved.more ++ closes.tail))
      (sym (list_all-append (λ (e : Entry). in_stint c e.what) greeted.more (served.worked.did.moved.more ++ closes.tail))
      ∙ ap (list_all (λ (e : Entry). in_stint c e.what)) (sym (behind_first old stint.stretch.later (greeted.more ++ (served.worked.did.moved.more ++ closes.tail)) new (Start c 0 offer) stint.stretch.is
      (grown ∙ ap (λ (x : List Entry). x ++ (served.worked.did.moved.more ++ closes.tail)) greeted.grown ∙ append_assoc old (main_entry (Start c 0 offer) ∷ greeted.more) (served.worked.did.moved.more ++ closes.tail))))
      ∙ subst (λ (n : ℕ). list_all (λ (e : Entry). in_stint n e.what) stint.stretch.later ≡ true) (sym greeted.next) stint.stretch.within)).1

  alone_stretch : (full : Bool) → JobStretch o setup limit offer (offer && tagged) (Start c 0 offer) old new (desk ∷ others) (desk' ∷ others) full
  alone_stretch full = stint_job o setup limit offer (offer && tagged) (Start c 0 offer) old new desk desk' others stint full
      (served_turn o (length (desk ∷ others)) offer old g new c legal' greeted ready (served.worked.did.moved.more ++ closes.tail) grown few stint.stretch.later stint.stretch.is
      (subst (λ (n : ℕ). list_all (λ (e : Entry). in_stint n e.what) stint.stretch.later ≡ true) (sym greeted.next) stint.stretch.within))
      (λ shut. served_idle o setup c (next_child old) g new desk desk' greeted.next served)
      (served_manned o (length (desk ∷ others)) offer old g new c legal' greeted ready (served.worked.did.moved.more ++ closes.tail) grown few grown_within)

  pub alone_start : {program : List ℕ} {before after : ProgramsTold} {wires wires' : List WireValue} (full : Bool) → ((xs : List Entry) → any is_any_start xs ≡ false → StartsAll program new (main_entry (Start c 0 offer) ∷ xs) before after wires wires')
      → OneJobStart o setup limit offer (offer && tagged) full program old new (desk ∷ others) (desk' ∷ others) before after wires wires'
  alone_start full objects = job_start stint.stretch.later stint.stretch.is (objects stint.stretch.later (starts_none stint.stretch)) (alone_stretch full)

-- a child that is ready: tasks were done over it, by one worker or by a round
pub served_start : (o : Opening) (setup : Setup) (limit : ℕ) (offer tagged : Bool) (old g new : List Entry) (c : ℕ) (desks desks' : List DeskTold) {program : List ℕ} {before after : ProgramsTold} {wires wires' : List WireValue} (full : Bool)
    → Legal o old → are_all_claimed o old ≡ false → Greeted old g 0 offer c → Legal o g → IsReady g c → tagged ≡ is_tagged g c → Serves o setup c g new desks desks' → (length desks ≡ 1) ⊎ (is_tagged g c ≡ true)
    → ((xs : List Entry) → any is_any_start xs ≡ false → StartsAll program new (main_entry (Start c 0 offer) ∷ xs) before after wires wires')
    → OneJobStart o setup limit offer (offer && tagged) full program old new desks desks' before after wires wires'
served_start o setup limit offer tagged old g new c desks desks' {program} {before} {after} {wires} {wires'} full legal left greeted legal' ready tag (inl a) few objects =
    subst (λ (ds : List DeskTold). OneJobStart o setup limit offer (offer && tagged) full program old new ds desks' before after wires wires') (sym a.before)
    (subst (λ (es : List DeskTold). OneJobStart o setup limit offer (offer && tagged) full program old new (a.desk ∷ a.others) es before after wires wires') (sym a.after)
    (alone_start o setup limit offer tagged old g new c a.desk a.desk' a.others legal left greeted legal' ready tag a.served (subst (λ (ds : List DeskTold). (length ds ≡ 1) ⊎ (is_tagged g c ≡ true)) a.before few) full objects))
served_start o setup limit offer tagged old g new c desks desks' full legal left greeted legal' ready tag (inr s) few objects =
    round_start o setup limit offer tagged old g new c desks desks' legal left greeted legal' ready tag s full objects
