-- What a pool does between its gathering and its closing: nothing, a round, or the work of the main thread over its first child.
use Rattle.ann_outside.specs.Told.{DeskTold}
use Rattle.std.proofs.Common.{◌≡◌, ◌⊎◌, ℕ, ◌+◌, ◌<◌, ◌≤◌, List, [], ◌∷◌, ◌++◌, refl, sym, ap, subst, ◌∙◌, append_assoc, append-nil, length, length-append, Bool, true, false, not, ◌==◌, Some, None, Option, arith, inl, inr}
use Rattle.std.specs.Prelude.{◌||◌, All, is_some, nat_le, nat_lt}
use Rattle.std.specs.List.{list_all, list_any, range_with_len}
use Rattle.std.specs.Option.{option_or}
use Rattle.std.proofs.lemmas.Bool.Decides.{nat_tests}
use Rattle.std.proofs.lemmas.List.Elements.{All-cons, All-head, All-nil, All-tail, All-weaker}
use Rattle.journal_model.specs.declared.verdict.Why.{Why}
use Rattle.journal_model.specs.declared.verdict.Why.TheVariants.{Closed}
use Rattle.journal_model.specs.declared.entry.What.{What}
use Rattle.journal_model.specs.declared.entry.What.TheVariants.{Claim, Start, NoStart, Lead, Ask, Put, Sent, Mute, Got, End, Verdict as Settled, Lost, Answer as Answered, Note as Noted, Again}
use Rattle.journal_model.specs.declared.entry.Entry.{Entry}
use Rattle.journal_model.specs.declared.opening.Opening.{Opening}
use Rattle.journal_model.specs.Journal.{any, asked_jobs, is_ended, is_mute, is_started, is_tagged, open_jobs, verdict_of, why_of}
use Rattle.journal_model.specs.Legality.{Legal, count, is_busy, is_done, is_prepared, prepares}
use Rattle.crew_work.specs.Laws.Tasks.{turns_by}
use Rattle.crew_work.proofs.LawsLemmas.Turning.{turns_by-append}
use Rattle.journal_model.specs.Shares.{are_by, is_of_child}
use Rattle.journal_model.proofs.Idling.{asks_none, mains_ask}
use Rattle.journal_model.proofs.Linking.{why_is_end, why_of-append}
use Rattle.journal_model.proofs.Looks.{any-append, is_asked}
use Rattle.journal_model.proofs.Projecting.{invariant}
use Rattle.journal_model.proofs.Testing.{all-each, all-join, all-split, by_either}
use Rattle.journal_model.proofs.Verdicts.{unasked_none}
use Rattle.host_core.specs.Steps.{are_all_claimed, is_gone}
use Rattle.child_link.proofs.Linked.{any_narrower}
use Rattle.crew_work.specs.Laws.Laws.{children_of}
use Rattle.crew_work.specs.Laws.Posts.{is_mains, pool_crew}
use Rattle.crew_work.specs.Laws.Rounds.{IsAmong, IsAtRest, IsLostChild, LinkValue, Rounded}
use Rattle.crew_work.specs.Laws.Tasks.{IsThrough}
use Rattle.task_model.specs.declared.setup.Setup.{Setup}
use Rattle.crew_work.specs.Worker.Works.{by_worker}
use Rattle.crew_work.proofs.WorkerLemmas.Turning.{alone_only}
use Rattle.run_starts.specs.Rounds.{AllLostWell, is_of_run}
use Rattle.run_starts.specs.Starting.{is_any_start, is_unclosed}
use Rattle.run_starts.specs.Stints.{HasServed, TasksDone, in_stint}
use Rattle.run_starts.proofs.Apart.{apart_in, ended_unclosed, is_unclosed_end, mute_on, no_start_in, unclosed_on}
use Rattle.run_starts.proofs.Later.{late, late_from}
use Rattle.run_starts.proofs.Losing.{lost_others, lost_tasks, loses_task}
use Rattle.run_starts.proofs.Runs.{done_same, gained_nothing, worker_runs}
use Rattle.run_starts.proofs.Served.{all_unclosed, worker_unclosed as worker_ends}
use Rattle.run_starts.proofs.Stinting.{Closing, Part, closing, closing_claims, closing_loses, closing_part, closing_rests, of_closing, part_both, worker_loses, worker_part}
use Rattle.crew_rounds.specs.Tagged.PoolChildren.{MayServe, PoolCan}
use Rattle.crew_rounds.specs.Pool.Pool.{AreSameLinks, PoolLeaves}
use Rattle.run_children.specs.PoolChildren.Pools.{changes_claim}
use Rattle.run_children.specs.PoolChildren.Slots.{in_pool, is_lost}
use Rattle.run_children.specs.Desks.{DesksDid, HaveDesks, claims_for}
use Rattle.run_children.specs.PoolSteps.{RoundsPool}
use Rattle.run_children.specs.Posts.{AllPosted, since_start}
use Rattle.run_children.specs.Servings.{ServesAlone}
use Rattle.run_children.proofs.Desks.{desks_main, desks_nothing, have_main}
use Rattle.run_children.proofs.PoolPosts.{pool_asks, pool_claims, pool_desks, pool_within, start_is_mains}
use Rattle.run_children.proofs.Pairing.{paired_first}
use Rattle.run_children.proofs.Posting.{none_main, posted_main, posted_pool}
use Rattle.run_children.proofs.PoolTags.{starts_offer, tag_stays}
use Rattle.run_children.proofs.RoundDid.{any_round_did, in_range, lost_unclosed}
use Rattle.run_children.proofs.Shutting.{AreShut, shut_next}
use Rattle.std.proofs.lemmas.Bool.{and_parts as both, ne_eqb as differ, eqb-true as same_number}
use Rattle.ann_key.proofs.Booleans.{left_false as either_left, or_left, or_right}
use Rattle.run_children.proofs.PoolChildrenLemmas.Own.{rest_shut, shut_open}
use Rattle.journal_model.proofs.Across.{none_so as any_none, idle_on}
use Rattle.task_model.proofs.Across.{prepared_on}

-- ---- a child that is lost

pub lost_on : (past more : List Entry) (c : ℕ) → is_lost past c ≡ true → is_lost (past ++ more) c ≡ true
lost_on past more c h =
    let t = both (is_prepared past c) (is_mute past c || is_unclosed (why_of past c)) h in
    rw (prepared_on past more c t.0, go (is_mute past c) (is_unclosed (why_of past c)) (mute_on past more c) (unclosed_on past more c) t.1) refl
  where
    go : (a b : Bool) → (a ≡ true → is_mute (past ++ more) c ≡ true) → (b ≡ true → is_unclosed (why_of (past ++ more) c) ≡ true) → (a || b) ≡ true → (is_mute (past ++ more) c || is_unclosed (why_of (past ++ more) c)) ≡ true
    go true b f g k = or_left (is_mute (past ++ more) c) (is_unclosed (why_of (past ++ more) c)) (f refl)
    go false true f g k = or_right (is_mute (past ++ more) c) (is_unclosed (why_of (past ++ more) c)) (g refl)
    go false false f g k = absurd cc

-- gone, and not by a closing
gone_lost : (past : List Entry) (c : ℕ) → is_prepared past c ≡ true → is_gone past c ≡ true → (why_of past c ≡ Some Closed → ⊥) → is_lost past c ≡ true
gone_lost past c ready gone unclosed = rw (ready, go (is_ended past c) refl (is_mute past c) gone) refl
  where
    go : (a : Bool) → is_ended past c ≡ a → (b : Bool) → (a || b) ≡ true → (b || is_unclosed (why_of past c)) ≡ true
    go a e true h = refl
    go true e false h = lost_unclosed (why_of past c) (why_is_end past c ∙ e) unclosed
    go false e false h = absurd cc

-- what holds of one of the children holds of some
pub among_any : (p : ℕ → Bool) (c : ℕ) (links : List LinkValue) → IsAmong c links → p c ≡ true → list_any (λ (l : LinkValue). p l.ear.child) links ≡ true
among_any p c [] h k = absurd cc
among_any p c (l ∷ links) h k = by_either (l.ear.child == c)
    (λ it. or_left (p l.ear.child) (list_any (λ (x : LinkValue). p x.ear.child) links) (subst (λ (d : ℕ). p d ≡ true) (sym (same_number l.ear.child c it)) k))
    (λ other. or_right (p l.ear.child) (list_any (λ (x : LinkValue). p x.ear.child) links)
    (among_any p c links (sym (ap (λ (b : Bool). b || list_any (λ (x : LinkValue). x.ear.child == c) links) other) ∙ h) k))

at_among : (P : ℕ → Type 0) (c : ℕ) (links : List LinkValue) → All (λ (l : LinkValue). P l.ear.child) links → IsAmong c links → P c
at_among P c [] all h = absurd cc
at_among P c (l ∷ links) all h = by_either (l.ear.child == c)
    (λ it. subst P (same_number l.ear.child c it) (All-head (λ (x : LinkValue). P x.ear.child) l links all))
    (λ other. at_among P c links (All-tail (λ (x : LinkValue). P x.ear.child) l links all) (sym (ap (λ (b : Bool). b || list_any (λ (x : LinkValue). x.ear.child == c) links) other) ∙ h))

-- the links that come back are of the same children
same_among : (c : ℕ) (links links' : List LinkValue) → AreSameLinks links links' → IsAmong c links' → IsAmong c links
same_among c [] [] s h = absurd cc
same_among c [] (m ∷ ms) s h = absurd s
same_among c (l ∷ ls) [] s h = absurd s
same_among c (l ∷ ls) (m ∷ ms) s h = by_either (m.ear.child == c)
    (λ it. or_left (l.ear.child == c) (list_any (λ (x : LinkValue). x.ear.child == c) ls) (subst (λ (d : ℕ). (d == c) ≡ true) s.0.0.0 it))
    (λ other. or_right (l.ear.child == c) (list_any (λ (x : LinkValue). x.ear.child == c) ls)
    (same_among c ls ms s.1 (sym (ap (λ (b : Bool). b || list_any (λ (x : LinkValue). x.ear.child == c) ms) other) ∙ h)))

same_none : (c : ℕ) (links links' : List LinkValue) → AreSameLinks links links' → list_any (λ (l : LinkValue). l.ear.child == c) links ≡ false → list_any (λ (l : LinkValue). l.ear.child == c) links' ≡ false
same_none c links links' s h = go (list_any (λ (l : LinkValue). l.ear.child == c) links') refl
  where
    go : (b : Bool) → list_any (λ (l : LinkValue). l.ear.child == c) links' ≡ b → b ≡ false
    go true e = absurd (let bad : true ≡ false = sym (same_among c links links' s e) ∙ h in cc)
    go false e = refl

-- a prepared child was asked two jobs
two_jobs : (o : Opening) (seen : List Entry) (c : ℕ) → Legal o seen → is_prepared seen c ≡ true → 2 ≤ length (asked_jobs seen c)
two_jobs o seen c legal ready = go (nat_lt 1 (length (asked_jobs seen c))) refl
  where
    none : is_asked seen c 1 ≡ false → true ≡ false
    none h = sym (both (is_done (verdict_of seen c 1)) (any (prepares c) seen) ready).0 ∙ ap is_done (unasked_none o seen legal c 1 h)

    go : (b : Bool) → nat_lt 1 (length (asked_jobs seen c)) ≡ b → 2 ≤ length (asked_jobs seen c)
    go true e = grind (arith, nat_tests)
    go false e =
        let few : length (asked_jobs seen c) ≤ 1 = grind (arith, nat_tests) in
        let bad : true ≡ false = none ((invariant o seen legal).fresh c 1 few) in
        absurd cc

-- ---- what is done

-- After g, where the links are first's and the others', which begin with child `first`.
pub record Middle (o : Opening) (setup : Setup) (limit first : ℕ) (links : List LinkValue) (g mid : List Entry) (desks desks' : List DeskTold) (whole : Bool) : Type 0 where
  pub rest : List Entry
  pub is : mid ≡ g ++ rest
  pub none : any is_any_start rest ≡ false
  pub within : list_all (λ e. in_pool first e.what) rest ≡ true
  pub asks : list_all (λ e. is_of_run e.what) rest ≡ true
  pub lost : AllLostWell g rest
  pub posts : AllPosted g rest
  pub quiet : whole ≡ false → any changes_claim rest ≡ false
  pub legal : Legal o mid
  pub calm : IsAtRest mid
  pub placed : HaveDesks (length desks) g rest
  pub did : DesksDid o setup limit mid g rest 1 desks desks'
  pub others : (c : ℕ) → list_any (λ (l : LinkValue). l.ear.child == c) links ≡ false → any (is_of_child c) rest ≡ false
  pub left : whole ≡ true → (list_any (λ (l : LinkValue). is_lost mid l.ear.child) links ≡ true) ⊎ (are_all_claimed o mid ≡ true)

-- where no memory was found, nothing
pub middle_none : (o : Opening) (setup : Setup) (limit first : ℕ) (links : List LinkValue) (g : List Entry) (desks : List DeskTold) → Legal o g → IsAtRest g → Middle o setup limit first links g g desks desks false
middle_none o setup limit first links g desks legal calm = record {
  rest = [];
  is = sym (append-nil g);
  none = refl;
  within = refl;
  asks = refl;
  lost = tt;
  posts = tt;
  quiet = λ w. refl;
  legal = legal;
  calm = calm;
  placed = tt;
  did = desks_nothing o setup limit g g [] 1 desks refl;
  others = λ c h. refl;
  left = λ w. absurd cc;
}

-- ---- the desks that no worker has

-- a number after those of the round claims nothing
numbered_none : (many n : ℕ) (past xs : List Entry) → 1 + many < n → list_all (λ (e : Entry). list_any (λ (m : ℕ). m == e.by) (range_with_len 1 (1 + many))) xs ≡ true → turns_by n past xs ≡ []
numbered_none many n past [] far h = refl
numbered_none many n past (e ∷ xs) far h =
    let t = both (list_any (λ (m : ℕ). m == e.by) (range_with_len 1 (1 + many))) (list_all (λ (x : Entry). list_any (λ (m : ℕ). m == x.by) (range_with_len 1 (1 + many))) xs) h in
    let below = (in_range 1 (1 + many) e.by t.0).1 in
    let other : (e.by == n) ≡ false = differ e.by n (λ z. absurd (let bad : ⊥ = omega (arith, z, below, far) in bad)) in
    rw (other, numbered_none many n (past ++ e ∷ []) xs far t.1) refl

module _ (o : Opening) (setup : Setup) (limit : ℕ) (journal past xs : List Entry) where
  others_nothing : (k : ℕ) (others : List DeskTold) → ((n : ℕ) → k ≤ n → claims_for n past xs ≡ []) → DesksDid o setup limit journal past xs k others others
  others_nothing k [] none = tt
  others_nothing k (d ∷ ds) none = (
    record { done = []; claimed = sym (none k (omega arith)); ran = tt; log_is = gained_nothing d.log; caused = refl },
    others_nothing (k + 1) ds (λ n le. none n (omega (arith, le))),
  )

  -- the first desks did so, and the others nothing
  pub desks_beside : (k : ℕ) (used used' others : List DeskTold) → ((n : ℕ) → k + length used ≤ n → claims_for n past xs ≡ []) → DesksDid o setup limit journal past xs k used used'
      → DesksDid o setup limit journal past xs k (used ++ others) (used' ++ others)
  desks_beside k [] [] others none h = others_nothing k others (λ n le. none n (omega (arith, le)))
  desks_beside k [] (e ∷ es) others none h = absurd h
  desks_beside k (d ∷ ds) [] others none h = absurd h
  desks_beside k (d ∷ ds) (e ∷ es) others none h = (h.0, desks_beside (k + 1) ds es others (λ n le. none n (omega (arith, le))) h.1)

-- ---- a round

-- entries after g without a start
abbrev Behind : List Entry → List Entry → Type 0
Behind g past = (more : List Entry) × (past ≡ g ++ more) × (any is_any_start more ≡ false)

module _ (o : Opening) (setup : Setup) (limit first : ℕ) (g mid : List Entry) (links links' : List LinkValue) (desks desks' : List DeskTold) (legal : Legal o g) (can : PoolCan o g links)
    (low : All (λ (l : LinkValue). first ≤ l.ear.child) links) (untagged : All (λ (l : LinkValue). is_tagged g l.ear.child ≡ false) links) (mains : All (λ (l : LinkValue). are_by 0 (since_start l.ear.child g) ≡ true) links)
    (same : AreSameLinks links links') (r : RoundsPool o setup g mid links links' desks desks') where
  abbrev rest : List Entry
  rest = r.round.0

  leaves : PoolLeaves o setup (range_with_len 1 (1 + length links)) g rest links links' r.used r.used'
  leaves = r.round.2

  rounded : Rounded o (pool_crew (children_of links)) (range_with_len 1 (1 + length links)) g rest
  rounded = leaves.round.rounded

  no_starts : any is_any_start rest ≡ false
  no_starts = any_narrower is_any_start is_mains start_is_mains rest rounded.mains

  numbers : All (λ (l : LinkValue). 0 < l.ear.child) links
  numbers = All-weaker (MayServe o g) (λ (l : LinkValue). 0 < l.ear.child) (λ l h. h.serves.number) links can.each

  begun : All (λ (l : LinkValue). is_started g l.ear.child ≡ true) links
  begun = All-weaker (MayServe o g) (λ (l : LinkValue). is_started g l.ear.child ≡ true) (λ l h. h.serves.started) links can.each

  ready : All (λ (l : LinkValue). is_prepared g l.ear.child ≡ true) links
  ready = All-weaker (MayServe o g) (λ (l : LinkValue). is_prepared g l.ear.child ≡ true) (λ l h. h.serves.prepared) links can.each

  later : All (λ (l : LinkValue). list_all (λ (e : Entry). late l.ear.child e.what) rest ≡ true) links
  later = All-weaker (MayServe o g) (λ (l : LinkValue). list_all (λ (e : Entry). late l.ear.child e.what) rest ≡ true)
      (λ l h. late_from o l.ear.child g rest legal rounded.legal (two_jobs o g l.ear.child legal h.serves.prepared)) links can.each

  both_tags : (past : List Entry) → Behind g past → (ls : List LinkValue) → All (λ (l : LinkValue). is_prepared g l.ear.child ≡ true) ls → All (λ (l : LinkValue). is_tagged g l.ear.child ≡ false) ls
      → All (λ (l : LinkValue). is_tagged past l.ear.child ≡ false) ls
  both_tags past b [] h k = All-nil (λ (l : LinkValue). is_tagged past l.ear.child ≡ false)
  both_tags past b (l ∷ ls) h k =
      All-cons (λ (x : LinkValue). is_tagged past x.ear.child ≡ false) l ls
      (ap (λ (j : List Entry). is_tagged j l.ear.child) b.1
      ∙ tag_stays o g b.0 l.ear.child legal (All-head (λ (x : LinkValue). is_prepared g x.ear.child ≡ true) l ls h) (starts_offer b.0 l.ear.child b.2)
      ∙ All-head (λ (x : LinkValue). is_tagged g x.ear.child ≡ false) l ls k)
      (both_tags past b ls (All-tail (λ (x : LinkValue). is_prepared g x.ear.child ≡ true) l ls h) (All-tail (λ (x : LinkValue). is_tagged g x.ear.child ≡ false) l ls k))

  behind_on : (past : List Entry) (e : Entry) → is_any_start e.what ≡ false → Behind g past → Behind g (past ++ e ∷ [])
  behind_on past e none b = (
    b.0 ++ e ∷ [],
    ap (λ (x : List Entry). x ++ e ∷ []) b.1 ∙ append_assoc g b.0 (e ∷ []),
    any-append is_any_start b.0 (e ∷ []) ∙ (rw (b.2, none) refl),
  )

  here : Behind g g
  here = ([], sym (append-nil g), refl)

  claimed_so : (k : ℕ) → claims_for k g rest ≡ turns_by (k + 1) g rest
  claimed_so k = pool_claims links (Behind g) behind_on (λ past b. both_tags past b links ready untagged) k g rest here no_starts rounded.posts

  many : length r.used ≡ length links
  many = r.many

  did : DesksDid o setup limit (g ++ rest) g rest 1 desks desks'
  did = subst (λ (ds : List DeskTold). DesksDid o setup limit (g ++ rest) g rest 1 ds desks') (sym r.before) (subst (λ (ds : List DeskTold). DesksDid o setup limit (g ++ rest) g rest 1 (r.used ++ r.others) ds) (sym r.after)
      (desks_beside o setup limit (g ++ rest) g rest 1 r.used r.used' r.others
      (λ n le. claimed_so n ∙ numbered_none (length links) (n + 1) g rest (let so = many in omega (arith, le, so)) rounded.numbered)
      (any_round_did o setup limit 1 g rest claimed_so leaves.dones r.used r.used' leaves.desks_did)))

  few : length links ≤ length desks
  few = (let so = many in let all = ap (λ (ds : List DeskTold). length ds) r.before ∙ length-append r.used r.others in omega (arith, so, all))

  left : (list_any (λ (l : LinkValue). is_lost (g ++ rest) l.ear.child) links ≡ true) ⊎ (are_all_claimed o (g ++ rest) ≡ true)
  left = go leaves.round.left
    where
      go : (are_all_claimed o (g ++ rest) ≡ true) ⊎ ((c : ℕ) × IsAmong c links' × IsLostChild (g ++ rest) c) → (list_any (λ (l : LinkValue). is_lost (g ++ rest) l.ear.child) links ≡ true) ⊎ (are_all_claimed o (g ++ rest) ≡ true)
      go (inl all) = inr all
      go (inr lost) =
          let its : IsAmong lost.0 links = same_among lost.0 links links' same lost.1 in
          inl (among_any (is_lost (g ++ rest)) lost.0 links its
          (gone_lost (g ++ rest) lost.0 (prepared_on g rest lost.0 (at_among (λ (d : ℕ). is_prepared g d ≡ true) lost.0 links ready its)) lost.2.gone lost.2.unclosed))

  pub middle_round : Middle o setup limit first links g mid desks desks' true
  middle_round = subst (λ (j : List Entry). Middle o setup limit first links g j desks desks' true) (sym r.round.1) record {
    rest = rest;
    is = refl;
    none = no_starts;
    within = pool_within links first low rest rounded.posts;
    asks = pool_asks links rest later rounded.posts (all-split (λ (e : Entry). not (asks_none e.what) || e.by == 0) g rest (mains_ask o (g ++ rest) rounded.legal)).1;
    lost = lost_others g rest (none_main (1 + length links) rest rounded.numbered);
    posts = posted_pool links (Behind g) behind_on (λ past b. both_tags past b links ready untagged) can.differ g rest here (paired_first links g begun mains) no_starts rounded.posts;
    quiet = λ w. absurd cc;
    legal = rounded.legal;
    calm = rounded.at_rest;
    placed = pool_desks links (Behind g) behind_on (λ past b. both_tags past b links ready untagged) (length desks) (length links) g rest few here no_starts rounded.posts rounded.numbered;
    did = did;
    others = λ c h. leaves.round.others c (same_none c links links' same h);
    left = λ w. left;
  }

-- ---- the main thread over the first child

stint_pool : (first c : ℕ) (w : What) → first ≤ c → in_stint c w ≡ true → in_pool first w ≡ true
stint_pool first c w le h = go w h
  where
    at : (child : ℕ) → (child == c) ≡ true → nat_le first child ≡ true
    at child k = (let is = same_number child c k in grind (arith, nat_tests))

    go : (v : What) → in_stint c v ≡ true → in_pool first v ≡ true
    go (Claim task child) k = refl
    go (Start child slot offer) k = absurd cc
    go (NoStart slot) k = absurd cc
    go (Lead child job line) k = at child k
    go (Ask child job task line) k = at child k
    go (Put child job line) k = at child k
    go (Sent child) k = at child k
    go (Mute child) k = at child k
    go (Got child line) k = at child k
    go (End child why) k = at child k
    go (Settled child job verdict) k = at child k
    go (Lost child task) k = at child k
    go (Answered task answer) k = refl
    go (Again task answer) k = refl
    go (Noted task chunk count) k = refl

-- ended after g, by entries of which none closes a child
still_unclosed : (g more : List Entry) (c : ℕ) → list_all (λ (e : Entry). is_unclosed_end e.what) more ≡ true → (why_of g c ≡ Some Closed → ⊥) → why_of (g ++ more) c ≡ Some Closed → ⊥
still_unclosed g more c ends before after = go (why_of g c) refl (sym (why_of-append g more c) ∙ after)
  where
    go : (v : Option Why) → why_of g c ≡ v → option_or v (why_of more c) ≡ Some Closed → ⊥
    go (Some w) e h = before (e ∙ h)
    go None e h =
        let ended : is_ended more c ≡ true = sym (why_is_end more c) ∙ ap is_some h in
        let bad : true ≡ false = sym (ended_unclosed c more ends ended) ∙ ap is_unclosed h in
        cc

-- what the main thread made of a child, its closing too
pub record ServedPart (c : ℕ) (g mid : List Entry) : Type 0 where
  pub rest : List Entry
  pub is : mid ≡ g ++ rest
  pub part : Part c rest

pub served_part : {o : Opening} {setup : Setup} {c : ℕ} {g mid : List Entry} {desk desk' : DeskTold} → Legal o g → is_prepared g c ≡ true → HasServed o setup c g mid desk desk' → ServedPart c g mid
served_part {o} {setup} {c} {g} {mid} legal ready s =
    let k : Closing c s.mid mid = closing c s.mid mid s.closes in
    record {
      rest = s.worked.did.moved.more ++ k.tail;
      is = k.is ∙ ap (λ (x : List Entry). x ++ k.tail) s.worked.did.moved.is ∙ append_assoc g s.worked.did.moved.more k.tail;
      part = part_both c s.worked.did.moved.more k.tail
          (worker_part c s.worked.did.moved.more (alone_only s.worked refl) (s.worked.did.moved.lone refl) (late_from o c g s.worked.did.moved.more legal (subst (Legal o) s.worked.did.moved.is s.can.serves.legal) (two_jobs o g c legal ready))) (closing_part c k.tail k.one);
    }

-- all is at rest after it
pub served_calm : {o : Opening} {setup : Setup} {c : ℕ} {g mid : List Entry} {desk desk' : DeskTold} → Legal o g → IsAtRest g → is_prepared g c ≡ true → HasServed o setup c g mid desk desk' → IsAtRest mid
served_calm {o} {setup} {c} {g} {mid} legal calm ready s =
    let k : Closing c s.mid mid = closing c s.mid mid s.closes in
    let p : ServedPart c g mid = served_part legal ready s in
    let idle : open_jobs mid c ≡ [] = ap (λ (j : List Entry). open_jobs j c) k.is ∙ idle_on s.mid k.tail c (of_closing c k.tail k.one (λ (x : List Entry). asked_jobs x c ≡ []) refl refl) s.can.rests.idle in
    record {
      idle = λ t. ap (λ (j : List Entry). is_busy j t) k.is ∙ closing_rests c k.tail k.one s.mid s.can.rests.rest t;
      shut = shut_open mid (subst AreShut (sym p.is) (shut_next g p.rest c p.part.within (ap (λ (j : List Entry). open_jobs j c) (sym p.is) ∙ idle) (rest_shut g calm)));
    }

module _ (o : Opening) (setup : Setup) (limit first : ℕ) (g mid : List Entry) (l : LinkValue) (links : List LinkValue) (desks desks' : List DeskTold) (legal : Legal o g) (can : PoolCan o g (l ∷ links))
    (low : All (λ (x : LinkValue). first ≤ x.ear.child) (l ∷ links)) (legal' : Legal o mid) (a : ServesAlone o setup l.ear.child g mid desks desks') where
  abbrev c : ℕ
  c = l.ear.child

  s : HasServed o setup c g mid a.desk a.desk'
  s = a.served

  its : MayServe o g l
  its = All-head (MayServe o g) l links can.each

  least : first ≤ c
  least = All-head (λ (x : LinkValue). first ≤ x.ear.child) l links low

  abbrev worked : List Entry
  worked = s.worked.did.moved.more

  k : Closing c s.mid mid
  k = closing c s.mid mid s.closes

  abbrev then : List Entry
  then = worked ++ k.tail

  whole : mid ≡ g ++ then
  whole = k.is ∙ ap (λ (x : List Entry). x ++ k.tail) s.worked.did.moved.is ∙ append_assoc g worked k.tail

  part : Part c then
  part = part_both c worked k.tail
      (worker_part c worked (alone_only s.worked refl) (s.worked.did.moved.lone refl) (late_from o c g worked legal (subst (Legal o) s.worked.did.moved.is s.can.serves.legal) (two_jobs o g c legal its.serves.prepared))) (closing_part c k.tail k.one)

  taken : turns_by 0 g then ≡ turns_by 0 g worked
  taken = turns_by-append 0 g worked k.tail ∙ ap (λ (x : List (ℕ × ℕ)). turns_by 0 g worked ++ x) (of_closing c k.tail k.one (λ (x : List Entry). turns_by 0 (g ++ worked) x ≡ []) refl refl) ∙ append-nil (turns_by 0 g worked)

  done : TasksDone o setup mid g then a.desk a.desk'
  done =
      let at_end : TasksDone o setup (s.mid ++ k.tail) g worked a.desk a.desk' = record {
        done = s.worked.done;
        claimed = sym s.worked.did.claimed;
        ran = worker_runs o setup c s.mid k.tail s.worked.done s.can.serves.number s.worked.ran;
        log_is = s.worked.log_is;
        caused = s.worked.caused;
      } in
      done_same o setup mid g g worked then a.desk a.desk' taken (subst (λ (j : List Entry). TasksDone o setup j g worked a.desk a.desk') (sym k.is) at_end)

  did_alone : DesksDid o setup limit mid g then 1 desks desks'
  did_alone = subst (λ (ds : List DeskTold). DesksDid o setup limit mid g then 1 ds desks') (sym a.before) (subst (λ (ds : List DeskTold). DesksDid o setup limit mid g then 1 (a.desk ∷ a.others) ds) (sym a.after)
      (desks_main o setup limit mid g then a.desk a.desk' a.others part.main done))

  some : 0 < length desks
  some = (let is = ap (λ (ds : List DeskTold). length ds) a.before in omega (arith, is))

  calm : IsAtRest mid
  calm = served_calm legal can.calm its.serves.prepared s

  left_alone : (list_any (λ (x : LinkValue). is_lost mid x.ear.child) (l ∷ links) ≡ true) ⊎ (are_all_claimed o mid ≡ true)
  left_alone = go s.through
    where
      ends : list_all (λ (e : Entry). is_unclosed_end e.what) worked ≡ true
      ends = all_unclosed (by_worker true c) (worker_ends c) worked (alone_only s.worked refl)

      unclosed : why_of s.mid c ≡ Some Closed → ⊥
      unclosed h = still_unclosed g worked c ends its.unclosed (ap (λ (j : List Entry). why_of j c) (sym s.worked.did.moved.is) ∙ h)

      go : IsThrough o s.mid c → (list_any (λ (x : LinkValue). is_lost mid x.ear.child) (l ∷ links) ≡ true) ⊎ (are_all_claimed o mid ≡ true)
      go (inl all) = inr (ap (are_all_claimed o) k.is ∙ closing_claims c k.tail k.one o s.mid ∙ all)
      go (inr gone) = inl (or_left (is_lost mid c) (list_any (λ (x : LinkValue). is_lost mid x.ear.child) links)
          (ap (λ (j : List Entry). is_lost j c) k.is ∙ lost_on s.mid k.tail c (gone_lost s.mid c s.can.serves.prepared gone unclosed)))

  pub middle_alone : Middle o setup limit first (l ∷ links) g mid desks desks' true
  middle_alone = record {
    rest = then;
    is = whole;
    none = any_none (in_stint c) is_any_start (no_start_in c) then part.within;
    within = all-each (λ (e : Entry). in_stint c e.what) (λ (e : Entry). in_pool first e.what) (λ e h. stint_pool first c e.what least h) then part.within;
    asks = part.asks;
    lost = lost_tasks g then (all-join (λ (e : Entry). loses_task e.what) worked k.tail (worker_loses c worked (alone_only s.worked refl)) (closing_loses c k.tail k.one));
    posts = posted_main g then part.main;
    quiet = λ w. absurd cc;
    legal = legal';
    calm = calm;
    placed = have_main (length desks) g then some part.main;
    did = did_alone;
    others = λ d h. any_none (in_stint c) (is_of_child d) (apart_in c d (either_left (c == d) (list_any (λ (x : LinkValue). x.ear.child == d) links) h)) then part.within;
    left = λ w. left_alone;
  }
