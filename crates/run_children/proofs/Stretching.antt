-- One start of slot 0 and what follows it, over one child at a time.
use Rattle.ann_outside.specs.Told.{DeskTold, ProgramsTold}
use Rattle.std.proofs.Common.{◌≡◌, ◌⊎◌, ℕ, ◌+◌, ◌<◌, List, [], ◌∷◌, ◌++◌, refl, sym, ap, subst, ◌∙◌, append_assoc, append-nil, length, Bool, true, false, not, Some, None, arith, inl, inr}
use Rattle.std.specs.Prelude.{◌&&◌, Option, is_some}
use Rattle.std.specs.Option.{option_or}
use Rattle.std.specs.List.{cons_option, list_all, list_any}
use Rattle.std.proofs.lemmas.List.{append_cancel_left}
use Rattle.std.proofs.lemmas.List.Folds.{list_all-append}
use Rattle.journal_model.specs.declared.answer.Answer.{Answer}
use Rattle.journal_model.specs.declared.verdict.Verdict.{Verdict}
use Rattle.journal_model.specs.declared.verdict.Why.TheVariants.{Closed}
use Rattle.journal_model.specs.declared.entry.What.{What}
use Rattle.journal_model.specs.declared.entry.What.TheVariants.{Claim, Start, NoStart, End, Answer as Answered, Again}
use Rattle.journal_model.proofs.Holding.{claimed}
use Rattle.journal_model.specs.declared.entry.Entry.{Entry}
use Rattle.journal_model.specs.declared.opening.Opening.{Opening}
use Rattle.journal_model.specs.Journal.{any, asks, asked_jobs, is_ended, is_tagged, open_jobs, verdict_of, why_of}
use Rattle.journal_model.specs.Halves.{EarValue, MouthValue}
use Rattle.journal_model.specs.Legality.{Legal, is_done, is_prepared, prepares}
use Rattle.journal_model.specs.Shares.{are_by}
use Rattle.journal_model.proofs.Linking.{why_is_end}
use Rattle.journal_model.proofs.Looks.{or_none, verdict_of-append}
use Rattle.journal_model.proofs.Testing.{all-join}
use Rattle.host_core.specs.Steps.{are_all_claimed}
use Rattle.child_link.specs.Alone.{Closes}
use Rattle.child_link.specs.Writings.{LoneWired}
use Rattle.child_link.proofs.Linked.{any_narrower}
use Rattle.crew_work.specs.Laws.Rounds.{IsAtRest}
use Rattle.child_life.specs.Start.Greetings.{Greeted, IsReady, is_of_greeting}
use Rattle.child_life.proofs.StartLemmas.Begun.{later_unstarted}
use Rattle.child_link.specs.Wires.{WireValue}
use Rattle.crew_work.specs.Worker.KnownLayouts.{IsBook}
use Rattle.task_model.specs.declared.setup.Setup.{Setup}
use Rattle.crew_work.specs.Worker.Works.{CanWork}
use Rattle.run_starts.specs.Starting.{children, is_any_start, is_ready_untagged, is_spent, is_unclosed, started_in}
use Rattle.run_starts.specs.Rounds.{EndsClosed}
use Rattle.run_starts.specs.Stints.{AnswersOne, HasServed, IsStart, Stint, Stretch, TurnsAway, in_stint, main_entry, next_child}
use Rattle.run_starts.proofs.Apart.{no_start_in}
use Rattle.run_starts.proofs.Growing.{starts_none}
use Rattle.run_starts.proofs.Nexts.{is_quiet, quiet_starts}
use Rattle.run_starts.proofs.Served.{all_unclosed, greeting_unclosed, new_unclosed, ready_now}
use Rattle.run_starts.proofs.Stinting.{Closing, closing, greeting_part, greeting_rests, greeting_works, of_closing, one_idle, quiet_greeting}
use Rattle.run_starts.proofs.Tests.{no_children}
use Rattle.run_children.specs.PoolChildren.Pools.{changes_claim}
use Rattle.run_children.specs.PoolChildren.Slots.{AllInTurn, IsManned, has_pool, in_pool, offers_tags, spends}
use Rattle.run_children.proofs.PoolChildrenLemmas.SlotLaws.{first_started, none_first, pool_of as pool_is, turn_quiet, turn_both, turn_where as turn_manned}
use Rattle.run_children.specs.Desks.{DesksDid, HaveDesks}
use Rattle.run_children.specs.Posts.{AllPosted, since_start}
use Rattle.run_children.specs.Servings.{CanBeServed}
use Rattle.run_children.specs.Starts.{JobStretch, OneJobStart, StartsAll}
use Rattle.run_children.proofs.Desks.{desks_main, have_main}
use Rattle.run_children.proofs.Posting.{posted_main}
use Rattle.run_children.proofs.Shutting.{AreShut, shut_next}
use Rattle.run_children.proofs.Since.{since_begun}
use Rattle.run_children.proofs.Slots.{manned_none, manned_one, pool_failed, pool_of, stint_pool}
use Rattle.run_children.proofs.Spent.{own_spends}
use Rattle.run_children.proofs.PoolWhole.{tags_start as no_tags}
use Rattle.std.proofs.lemmas.Bool.{and_parts as both}
use Rattle.run_children.proofs.PoolChildrenLemmas.Own.{rest_shut, shut_open}
use Rattle.journal_model.proofs.Across.{all_in, none_so as any_none, idle_on}
use Rattle.task_model.proofs.Across.{prepared_on}

-- ---- the start itself

start_asks : (old : List Entry) (offer : Bool) (first : What) (d : ℕ) → IsStart old offer first → asks d first ≡ None
start_asks old offer first d (inl e) = ap (asks d) e
start_asks old offer first d (inr e) = ap (asks d) e

pub start_takes : (old : List Entry) (offer : Bool) (first : What) → IsStart old offer first → claimed first ≡ None
start_takes old offer first (inl e) = ap claimed e
start_takes old offer first (inr e) = ap claimed e

start_shut : (old : List Entry) (offer : Bool) (first : What) → IsStart old offer first → AreShut old → AreShut (old ++ main_entry first ∷ [])
start_shut old offer first is shut d = idle_on old (main_entry first ∷ []) d (rw (start_asks old offer first d is) refl) (shut d)

-- after a start, entries of its child
pub start_shuts : (old new later : List Entry) (offer : Bool) (first : What) (c : ℕ) → IsStart old offer first → new ≡ old ++ main_entry first ∷ later
    → list_all (λ (e : Entry). in_stint c e.what) later ≡ true → (AreShut old → open_jobs new c ≡ []) → AreShut old → AreShut new
start_shuts old new later offer first c start is within idle shut =
    subst AreShut (sym whole) (shut_next (old ++ main_entry first ∷ []) later c within (ap (λ (j : List Entry). open_jobs j c) (sym whole) ∙ idle shut) (start_shut old offer first start shut))
  where
    whole : new ≡ (old ++ main_entry first ∷ []) ++ later
    whole = is ∙ sym (append_assoc old (main_entry first ∷ []) later)

-- ---- what stands after it

-- what stands after the start, where the journal has both
pub behind_first : (old later more new : List Entry) (first : What) → new ≡ old ++ main_entry first ∷ later → new ≡ old ++ main_entry first ∷ more → later ≡ more
behind_first old later more new first is so = tails (append_cancel_left old (main_entry first ∷ later) (main_entry first ∷ more) (sym is ∙ so))
  where
    tails : main_entry first ∷ later ≡ main_entry first ∷ more → later ≡ more
    tails e = cc

-- what stands after the start starts nothing and claims nothing for a child, and no pool serves
pub record QuietStretch (old new : List Entry) (first : What) : Type 0 where
  pub more : List Entry
  pub is : new ≡ old ++ main_entry first ∷ more
  pub quiet : list_all (λ e. is_quiet e.what) more ≡ true
  pub unpooled : (front rest : List Entry) → more ≡ front ++ rest → has_pool (old ++ main_entry first ∷ front) ≡ false

pub quiet_none : {old new : List Entry} {first : What} (q : QuietStretch old new first) → any is_any_start q.more ≡ false
quiet_none q = any_none is_quiet is_any_start quiet_starts q.more q.quiet

pub quiet_turns : {old new : List Entry} {first : What} (o : Opening) (jobs : ℕ) (q : QuietStretch old new first) (later : List Entry) → new ≡ old ++ main_entry first ∷ later → AllInTurn o jobs (old ++ main_entry first ∷ []) later
quiet_turns {old} {new} {first} o jobs q later is =
    subst (AllInTurn o jobs (old ++ main_entry first ∷ [])) (behind_first old q.more later new first q.is is)
    (turn_manned o jobs (old ++ main_entry first ∷ []) q.more (quiet_none q)
    (λ front rest split. subst (IsManned o jobs) (sym (append_assoc old (main_entry first ∷ []) front)) (manned_none o jobs (old ++ main_entry first ∷ front) (q.unpooled front rest split))))

pub quiet_manned : {old new : List Entry} {first : What} (o : Opening) (jobs : ℕ) → QuietStretch old new first → IsManned o jobs new
quiet_manned {old} {new} {first} o jobs q = manned_none o jobs new (ap has_pool q.is ∙ q.unpooled q.more [] (sym (append-nil q.more)))

front_quiet : (more front rest : List Entry) → list_all (λ (e : Entry). is_quiet e.what) more ≡ true → more ≡ front ++ rest → any is_any_start front ≡ false
front_quiet more front rest quiet split = any_none is_quiet is_any_start quiet_starts front
    (both (list_all (λ (e : Entry). is_quiet e.what) front) (list_all (λ (e : Entry). is_quiet e.what) rest)
    (sym (list_all-append (λ (e : Entry). is_quiet e.what) front rest) ∙ ap (list_all (λ (e : Entry). is_quiet e.what)) (sym split) ∙ quiet)).0

-- the stretch, and the objects of the same entries
pub job_start : {o : Opening} {setup : Setup} {limit : ℕ} {offer next whole : Bool} {program : List ℕ} {first : What} {old new : List Entry} {desks desks' : List DeskTold} {before after : ProgramsTold} {wires wires' : List WireValue}
    (later : List Entry) → new ≡ old ++ main_entry first ∷ later → StartsAll program new (main_entry first ∷ later) before after wires wires' → JobStretch o setup limit offer next first old new desks desks' whole
    → OneJobStart o setup limit offer next whole program old new desks desks' before after wires wires'
job_start {o} {setup} {limit} {offer} {next} {whole} {program} {first} {old} {new} {desks} {desks'} {before} {after} {wires} {wires'} later is objects s =
    (first, s, subst (λ (x : List Entry). StartsAll program new (main_entry first ∷ x) before after wires wires') (behind_first old later s.later new first is s.is) objects)

-- ---- over one child at a time

-- what a stretch of one child is in a run with several desks
module _ {o : Opening} {offer next : Bool} {first : What} {old new : List Entry} (s : Stretch o offer next first old new) where
  one_child : children (main_entry first ∷ s.later) ≡ children (main_entry first ∷ [])
  one_child = ap (λ (ds : List ℕ). cons_option (started_in first) ds) (no_children s.later (starts_none s))

  pub stretch_job : (setup : Setup) (limit : ℕ) (desks desks' : List DeskTold) (whole : Bool) → AllInTurn o (length desks) (old ++ main_entry first ∷ []) s.later → HaveDesks (length desks) (old ++ main_entry first ∷ []) s.later
      → DesksDid o setup limit new (old ++ main_entry first ∷ []) s.later 1 desks desks' → (length desks ≡ 1 → are_by 0 s.later ≡ true) → (length desks ≡ 1 → are_all_claimed o new ≡ true → EndsClosed new)
      → (AreShut old → open_jobs new (next_child old) ≡ []) → IsManned o (length desks) new → AllPosted (old ++ main_entry first ∷ []) s.later → JobStretch o setup limit offer next first old new desks desks' whole
  stretch_job setup limit desks desks' whole turn placed did alone last idle manned posts = record {
    left = s.left;
    later = s.later;
    is = s.is;
    start = s.start;
    within = all_in (in_stint (next_child old)) (in_pool (next_child old)) (stint_pool (next_child old)) s.later s.within;
    untagged = any_narrower offers_tags is_any_start no_tags s.later (starts_none s);
    asks = s.asks;
    lost = s.lost;
    posts = posts;
    turn = turn;
    order = s.turn;
    rest = s.rest;
    ended = ap (list_all (is_ended new)) one_child ∙ s.ended;
    spent = λ w. spent s.spent;
    manned = λ w. manned;
    untaken = s.untaken;
    offers = s.offers ∙ ap (λ (ds : List ℕ). offer && not (list_any (is_ready_untagged new) ds)) (sym one_child);
    placed = placed;
    did = did;
    alone = alone;
    last = last;
    shut = start_shuts old new s.later offer first (next_child old) s.start s.is s.within idle;
  }
    where
      spent : (list_all (is_spent new) (children (main_entry first ∷ [])) ≡ true) ⊎ (are_all_claimed o new ≡ true) → (spends (old ++ main_entry first ∷ []) first s.later ≡ true) ⊎ (are_all_claimed o new ≡ true)
      spent (inl h) = inl (own_spends old new s.later first s.is (none_first s.later (starts_none s)) h)
      spent (inr h) = inr h

-- ---- by the main thread alone

module _ (o : Opening) (setup : Setup) (limit : ℕ) (offer next : Bool) (first : What) (old new : List Entry) where
  pub stint_job : (desk desk' : DeskTold) (others : List DeskTold) (s : Stint o setup offer next first old new desk desk') → (whole : Bool)
      → AllInTurn o (length (desk ∷ others)) (old ++ main_entry first ∷ []) s.stretch.later → (AreShut old → open_jobs new (next_child old) ≡ []) → IsManned o (length (desk ∷ others)) new
      → JobStretch o setup limit offer next first old new (desk ∷ others) (desk' ∷ others) whole
  stint_job desk desk' others s whole turn idle manned =
      stretch_job s.stretch setup limit (desk ∷ others) (desk' ∷ others) whole turn
      (have_main (length (desk ∷ others)) (old ++ main_entry first ∷ []) s.stretch.later (omega arith) s.main)
      (desks_main o setup limit new (old ++ main_entry first ∷ []) s.stretch.later desk desk' others s.main s.done)
      (λ one. s.main) (λ one. s.last) idle manned (posted_main (old ++ main_entry first ∷ []) s.stretch.later s.main)

  -- where no desk is used
  pub stint_any : (desks : List DeskTold) → 0 < length desks → ((d : DeskTold) → Stint o setup offer next first old new d d) → (whole : Bool) → QuietStretch old new first
      → (AreShut old → open_jobs new (next_child old) ≡ []) → JobStretch o setup limit offer next first old new desks desks whole
  stint_any [] some f whole q idle = absurd (let bad : ⊥ = omega (arith, some) in bad)
  stint_any (d ∷ ds) some f whole q idle = stint_job d d ds (f d) whole (quiet_turns o (length (d ∷ ds)) q (f d).stretch.later (f d).stretch.is) idle (quiet_manned o (length (d ∷ ds)) q)

-- ---- in which turn its entries stand

greeting_claims : (c : ℕ) (w : What) → is_of_greeting c w ≡ true → changes_claim w ≡ false
greeting_claims c (Claim task child) h = absurd cc
greeting_claims c (Again task answer) h = absurd cc
greeting_claims c w h = refl

pub greeting_turn : (o : Opening) (jobs : ℕ) (past old g : List Entry) (offer : Bool) (c : ℕ) → (greeted : Greeted old g 0 offer c) → AllInTurn o jobs past greeted.more
greeting_turn o jobs past old g offer c greeted = turn_quiet o jobs past greeted.more (any_none is_quiet is_any_start quiet_starts greeted.more (quiet_greeting old g offer c greeted))
    (any_none (is_of_greeting c) changes_claim (greeting_claims c) greeted.more greeted.own)

quiet_closing : (c : ℕ) (tail : List Entry) → (tail ≡ []) ⊎ (tail ≡ main_entry (End c Closed) ∷ []) → list_all (λ (e : Entry). is_quiet e.what) tail ≡ true
quiet_closing c tail one = of_closing c tail one (λ (x : List Entry). list_all (λ (e : Entry). is_quiet e.what) x ≡ true) refl refl

-- one task that was claimed without a child
pub record QuietTail (old new : List Entry) : Type 0 where
  pub tail : List Entry
  pub is : new ≡ old ++ tail
  pub quiet : list_all (λ e. is_quiet e.what) tail ≡ true
  pub unsettled : (c : ℕ) → verdict_of tail c 1 ≡ None

quiet_one : (o : Opening) (old new : List Entry) (answer : ℕ → Answer) (b : Bool) → AnswersOne o old new answer b → QuietTail old new
quiet_one o old new answer true a = record { tail = main_entry (Claim a.0 0) ∷ main_entry (Answered a.0 (answer a.0)) ∷ []; is = a.2; quiet = refl; unsettled = λ c. refl }
quiet_one o old new answer false a = record { tail = []; is = a.0 ∙ sym (append-nil old); quiet = refl; unsettled = λ c. refl }

-- where the greeted child was turned away
module _ (old g mid new : List Entry) (offer : Bool) (c : ℕ) (undone : is_done (verdict_of g c 1) ≡ false) (greeted : Greeted old g 0 offer c) (one : QuietTail g mid) (k : Closing c mid new) where
  abbrev turned : List Entry
  turned = one.tail ++ k.tail

  abbrev away_more : List Entry
  away_more = greeted.more ++ turned

  behind_away : new ≡ g ++ turned
  behind_away = k.is ∙ ap (λ (x : List Entry). x ++ k.tail) one.is ∙ append_assoc g one.tail k.tail

  whole_away : new ≡ old ++ main_entry (Start c 0 offer) ∷ away_more
  whole_away = behind_away ∙ ap (λ (x : List Entry). x ++ turned) greeted.grown ∙ append_assoc old (main_entry (Start c 0 offer) ∷ greeted.more) turned

  quiet_away : list_all (λ (e : Entry). is_quiet e.what) away_more ≡ true
  quiet_away = all-join (λ (e : Entry). is_quiet e.what) greeted.more turned (quiet_greeting old g offer c greeted) (all-join (λ (e : Entry). is_quiet e.what) one.tail k.tail one.quiet (quiet_closing c k.tail k.one))

  unprepared : is_prepared new c ≡ false
  unprepared =
      let none : verdict_of turned c 1 ≡ None =
      verdict_of-append c 1 one.tail k.tail ∙ ap (λ (v : Option Verdict). option_or v (verdict_of k.tail c 1)) (one.unsettled c) ∙ of_closing c k.tail k.one (λ (x : List Entry). verdict_of x c 1 ≡ None) refl refl in
      let v : verdict_of new c 1 ≡ verdict_of g c 1 = ap (λ (j : List Entry). verdict_of j c 1) behind_away ∙ verdict_of-append c 1 g turned ∙ or_none (verdict_of g c 1) (verdict_of turned c 1) none in
      ap (λ (d : Bool). d && any (prepares c) new) (ap is_done v ∙ undone)

  -- it was never prepared
  never : (front rest : List Entry) → away_more ≡ front ++ rest → is_prepared (old ++ main_entry (Start c 0 offer) ∷ front) c ≡ false
  never front rest split = go (is_prepared (old ++ main_entry (Start c 0 offer) ∷ front) c) refl
    where
      is_whole : new ≡ (old ++ main_entry (Start c 0 offer) ∷ front) ++ rest
      is_whole = whole_away ∙ ap (λ (x : List Entry). old ++ main_entry (Start c 0 offer) ∷ x) split ∙ sym (append_assoc old (main_entry (Start c 0 offer) ∷ front) rest)

      go : (d : Bool) → is_prepared (old ++ main_entry (Start c 0 offer) ∷ front) c ≡ d → d ≡ false
      go false e = refl
      go true e = (let bad : true ≡ false = sym (ap (λ (j : List Entry). is_prepared j c) is_whole ∙ prepared_on (old ++ main_entry (Start c 0 offer) ∷ front) rest c e) ∙ unprepared in absurd cc)

  pub away_stretch : QuietStretch old new (Start c 0 offer)
  away_stretch = record {
    more = away_more;
    is = whole_away;
    quiet = quiet_away;
    unpooled = λ front rest split. pool_is (old ++ main_entry (Start c 0 offer) ∷ front) c (first_started old front 0 c offer (none_first front (front_quiet away_more front rest quiet_away split)))
        ∙ ap (λ (d : Bool). d && not (is_tagged (old ++ main_entry (Start c 0 offer) ∷ front) c)) (never front rest split);
  }

pub away_quiet : (o : Opening) (offer : Bool) (old g new : List Entry) (c : ℕ) (answer : Answer) → is_done (verdict_of g c 1) ≡ false → Greeted old g 0 offer c → TurnsAway o c g new answer → QuietStretch old new (Start c 0 offer)
away_quiet o offer old g new c answer undone greeted (mid, (b, a), closes) = away_stretch old g mid new offer c undone greeted (quiet_one o g mid (λ t. answer) b a) (closing c mid new closes)

-- where no child was started
pub fault_quiet : (o : Opening) (old g new : List Entry) (answer : Answer) (b : Bool) → g ≡ old ++ main_entry (NoStart 0) ∷ [] → AnswersOne o g new (λ t. answer) b → QuietStretch old new (NoStart 0)
fault_quiet o old g new answer b failed a = record {
  more = one.tail;
  is = one.is ∙ ap (λ (x : List Entry). x ++ one.tail) failed ∙ append_assoc old (main_entry (NoStart 0) ∷ []) one.tail;
  quiet = one.quiet;
  unpooled = λ front rest split. pool_failed old front (front_quiet one.tail front rest one.quiet split);
}
  where
    one : QuietTail g new
    one = quiet_one o g new (λ t. answer) b a

-- where the child is ready, and there is one desk, or the child takes tags
module _ (o : Opening) (jobs : ℕ) (offer : Bool) (old g new : List Entry) (c : ℕ) (legal : Legal o g) (greeted : Greeted old g 0 offer c) (ready : IsReady g c) where
  abbrev at_start : List Entry
  at_start = old ++ main_entry (Start c 0 offer) ∷ []

  untagged_not : (more : List Entry) → list_all (λ (e : Entry). in_stint c e.what) more ≡ true → is_tagged g c ≡ true → has_pool (g ++ more) ≡ false
  untagged_not more within tag =
      let grown : g ++ more ≡ old ++ main_entry (Start c 0 offer) ∷ (greeted.more ++ more) = ap (λ (x : List Entry). x ++ more) greeted.grown ∙ append_assoc old (main_entry (Start c 0 offer) ∷ greeted.more) more in
      let all : list_all (λ (e : Entry). in_pool c e.what) (greeted.more ++ more) ≡ true =
      all_in (in_stint c) (in_pool c) (stint_pool c) (greeted.more ++ more) (all-join (λ (e : Entry). in_stint c e.what) greeted.more more (greeting_part c greeted.more greeted.own greeted.main).within within) in
      ap has_pool grown ∙ pool_of old (greeted.more ++ more) c c offer all ∙ ap (λ (j : List Entry). is_ready_untagged j c) (sym grown)
      ∙ ready_now o g more c legal ready greeted.idle within ∙ ap not tag

  one_or_tagged : (more : List Entry) → list_all (λ (e : Entry). in_stint c e.what) more ≡ true → (jobs ≡ 1) ⊎ (is_tagged g c ≡ true) → IsManned o jobs (g ++ more)
  one_or_tagged more within (inl one) = subst (λ (n : ℕ). IsManned o n (g ++ more)) (sym one) (manned_one o (g ++ more))
  one_or_tagged more within (inr tag) = manned_none o jobs (g ++ more) (untagged_not more within tag)

  pub served_manned : (more : List Entry) → new ≡ g ++ more → (jobs ≡ 1) ⊎ (is_tagged g c ≡ true) → list_all (λ (e : Entry). in_stint c e.what) more ≡ true → IsManned o jobs new
  served_manned more behind few within = subst (IsManned o jobs) (sym behind) (one_or_tagged more within few)

  pub served_turn : (more : List Entry) → new ≡ g ++ more → (jobs ≡ 1) ⊎ (is_tagged g c ≡ true) → (later : List Entry) → new ≡ old ++ main_entry (Start c 0 offer) ∷ later
      → list_all (λ (e : Entry). in_stint c e.what) later ≡ true → AllInTurn o jobs at_start later
  served_turn more behind few later is within =
      let whole : new ≡ old ++ main_entry (Start c 0 offer) ∷ (greeted.more ++ more) = behind ∙ ap (λ (x : List Entry). x ++ more) greeted.grown ∙ append_assoc old (main_entry (Start c 0 offer) ∷ greeted.more) more in
      let same : later ≡ greeted.more ++ more = behind_first old later (greeted.more ++ more) new (Start c 0 offer) is whole in
      let here : list_all (λ (e : Entry). in_stint c e.what) more ≡ true =
      (both (list_all (λ (e : Entry). in_stint c e.what) greeted.more) (list_all (λ (e : Entry). in_stint c e.what) more)
      (sym (list_all-append (λ (e : Entry). in_stint c e.what) greeted.more more) ∙ ap (list_all (λ (e : Entry). in_stint c e.what)) (sym same) ∙ within)).1 in
      subst (AllInTurn o jobs at_start) (sym same) (turn_both o jobs at_start greeted.more more (greeting_turn o jobs at_start old g offer c greeted)
      (subst (λ (p : List Entry). AllInTurn o jobs p more) (greeted.grown ∙ sym (append_assoc old (main_entry (Start c 0 offer) ∷ []) greeted.more))
      (turn_manned o jobs g more (any_none (in_stint c) is_any_start (no_start_in c) more here)
      (λ front rest split. one_or_tagged front (both (list_all (λ (e : Entry). in_stint c e.what) front) (list_all (λ (e : Entry). in_stint c e.what) rest)
      (sym (list_all-append (λ (e : Entry). in_stint c e.what) front rest) ∙ ap (list_all (λ (e : Entry). in_stint c e.what)) (sym split) ∙ here)).0 few))))

-- ---- its jobs

pub closed_idle : (c : ℕ) (mid new : List Entry) → Closes 0 c mid new → open_jobs mid c ≡ [] → open_jobs new c ≡ []
closed_idle c mid new h idle =
    let k : Closing c mid new = closing c mid new h in
    ap (λ (j : List Entry). open_jobs j c) k.is ∙ idle_on mid k.tail c (of_closing c k.tail k.one (λ (x : List Entry). asked_jobs x c ≡ []) refl refl) idle

pub served_idle : (o : Opening) (setup : Setup) (c n : ℕ) (g new : List Entry) (desk desk' : DeskTold) → c ≡ n → HasServed o setup c g new desk desk' → open_jobs new n ≡ []
served_idle o setup c n g new desk desk' is s = subst (λ (k : ℕ). open_jobs new k ≡ []) is (closed_idle c s.mid new s.closes s.can.rests.idle)

pub away_idle : (o : Opening) (c n : ℕ) (g new : List Entry) (answer : Answer) → c ≡ n → open_jobs g c ≡ [] → TurnsAway o c g new answer → open_jobs new n ≡ []
away_idle o c n g new answer is idle (mid, (b, a), closes) = subst (λ (k : ℕ). open_jobs new k ≡ []) is (closed_idle c mid new closes (one_idle o g mid (λ t. answer) c b a idle))

pub fault_idle : (o : Opening) (n : ℕ) (old g new : List Entry) (answer : Answer) (b : Bool) → g ≡ old ++ main_entry (NoStart 0) ∷ [] → AnswersOne o g new (λ t. answer) b → AreShut old → open_jobs new n ≡ []
fault_idle o n old g new answer b is a shut = one_idle o g new (λ t. answer) n b a (ap (λ (j : List Entry). open_jobs j n) is ∙ idle_on old (main_entry (NoStart 0) ∷ []) n refl (shut n))

-- ---- a child that is ready

module _ (o : Opening) (old g : List Entry) (offer : Bool) (c : ℕ) (greeted : Greeted old g 0 offer c) (legal : Legal o old) (legal' : Legal o g) where
  abbrev begun : Entry
  begun = main_entry (Start c 0 offer)

  pub greeted_shut : AreShut old → AreShut g
  greeted_shut shut = start_shuts old g greeted.more offer (Start c 0 offer) c (inl (ap (λ (n : ℕ). Start n 0 offer) greeted.next)) greeted.grown (greeting_part c greeted.more greeted.own greeted.main).within (λ s. greeted.idle) shut

  pub greeted_unclosed : why_of g c ≡ Some Closed → ⊥
  greeted_unclosed h =
      let grown : g ≡ old ++ begun ∷ greeted.more = greeted.grown in
      let why : why_of (old ++ begun ∷ greeted.more) c ≡ Some Closed = ap (λ (j : List Entry). why_of j c) (sym grown) ∙ h in
      let ended : is_ended (old ++ begun ∷ greeted.more) c ≡ true = sym (why_is_end (old ++ begun ∷ greeted.more) c) ∙ ap is_some why in
      let unclosed : is_unclosed (why_of (old ++ begun ∷ greeted.more) c) ≡ true =
      new_unclosed o old (begun ∷ greeted.more) c legal greeted.next (all_unclosed (is_of_greeting c) (greeting_unclosed c) greeted.more greeted.own) ended in
      let bad : false ≡ true = ap is_unclosed (sym why) ∙ unclosed in
      absurd cc

  greeted_mains : are_by 0 (since_start c g) ≡ true
  greeted_mains =
      let next = greeted.next in
      ap (λ (j : List Entry). are_by 0 (since_start c j)) greeted.grown ∙ ap (are_by 0) (since_begun c 0 offer old greeted.more (later_unstarted o old legal c (omega (arith, next)))) ∙ greeted.main

  pub can_be_served : (ear : EarValue) (mouth : MouthValue) (tagged : Bool) → ear.child ≡ c → IsReady g c → tagged ≡ is_tagged g c → IsBook o.notes → IsAtRest old → LoneWired g ear mouth → CanBeServed o g ear mouth tagged
  can_be_served ear mouth tagged is ready tag book calm wired = record {
    can = subst (λ (k : ℕ). CanWork o k g) (sym is) (greeting_works old g offer c greeted o legal' ready book calm.idle);
    calm = record { idle = greeting_rests old g offer c greeted calm.idle; shut = shut_open g (greeted_shut (rest_shut old calm)) };
    wired = wired;
    unclosed = subst (λ (k : ℕ). why_of g k ≡ Some Closed → ⊥) (sym is) greeted_unclosed;
    mains = subst (λ (k : ℕ). are_by 0 (since_start k g) ≡ true) (sym is) greeted_mains;
    tag = tag ∙ ap (is_tagged g) (sym is);
  }
