-- Starts and claims that stand in their turn, as a journal grows.
use Rattle.std.proofs.Common.{◌≡◌, ℕ, ◌+◌, ◌<◌, ◌≤◌, List, [], ◌∷◌, ◌++◌, refl, sym, ap, subst, ◌∙◌, append_assoc, append-nil, length, Bool, true, false, not, ◌==◌, cond, Some, None, Option, arith}
use Rattle.std.specs.Prelude.{◌&&◌, ◌||◌, filter, fold, min, option_and_then, unwrap_or}
use Rattle.std.specs.List.{last_or}
use Rattle.std.specs.Option.{option_or}
use Rattle.journal_model.specs.declared.verdict.Verdict.{Verdict}
use Rattle.journal_model.specs.declared.verdict.Verdict.TheVariants.{Done as DoneAt}
use Rattle.journal_model.specs.declared.entry.What.{What}
use Rattle.journal_model.specs.declared.entry.What.TheVariants.{Claim, Start, NoStart, Again}
use Rattle.journal_model.specs.declared.entry.Entry.{Entry}
use Rattle.journal_model.specs.declared.opening.Opening.{Opening}
use Rattle.annex_model.specs.Messages.{remote_reading}
use Rattle.annex_model.specs.Tags.{names_async}
use Rattle.journal_model.specs.Journal.{accepts_async, any, each_of, got_line, is_tagged, offers, verdict_of, starts}
use Rattle.journal_model.specs.Legality.{Legal, claimed_after, claimed_on, is_busy, is_claimed, is_prepared, numbers_of, count, is_start}
use Rattle.journal_model.specs.Makers.{is_of_task}
use Rattle.journal_model.proofs.Holding.{claimed_append}
use Rattle.journal_model.proofs.Idling.{claimed_positive}
use Rattle.journal_model.proofs.Standing.{task_stands}
use Rattle.journal_model.proofs.Working.{claimed_apart}
use Rattle.journal_model.proofs.Looks.{any-append, each_of-append, verdict_of-append}
use Rattle.journal_model.proofs.Projecting.{invariant}
use Rattle.host_core.specs.Steps.{unclaimed}
use Rattle.run_starts.specs.Starting.{is_any_start, is_ready_untagged}
use Rattle.run_starts.proofs.Tests.{each_without}
use Rattle.run_children.specs.PoolChildren.Pools.{changes_claim}
use Rattle.run_children.specs.PoolChildren.Slots.{AllInTurn, IsManned, StandsInTurn, begins_by_start, first_in, has_pool, is_first_start, is_ready_pool, is_unclaimed_since, last_slot, slot_of, offers_tags}
use Rattle.child_link.proofs.Linked.{any_narrower}
use Rattle.child_life.proofs.StartLemmas.Begun.{later_unstarted}
use Rattle.ann_key.proofs.Lists.{last_or-append, slice_get-left}
use Rattle.std.proofs.lemmas.Bool.{and_parts as both}
use Rattle.ann_key.proofs.Booleans.{left_false as either_left, right_false as either_right, or_left}

-- ---- one stretch after another

pub turn_both : (o : Opening) (jobs : ℕ) (past xs ys : List Entry) → AllInTurn o jobs past xs → AllInTurn o jobs (past ++ xs) ys → AllInTurn o jobs past (xs ++ ys)
turn_both o jobs past [] ys h k = subst (λ (p : List Entry). AllInTurn o jobs p ys) (append-nil past) k
turn_both o jobs past (e ∷ xs) ys h k = (h.0, turn_both o jobs (past ++ e ∷ []) xs ys h.1 (subst (λ (p : List Entry). AllInTurn o jobs p ys) (sym (append_assoc past (e ∷ []) xs)) k))

pub turn_front : (o : Opening) (jobs : ℕ) (past xs ys : List Entry) → AllInTurn o jobs past (xs ++ ys) → AllInTurn o jobs past xs
turn_front o jobs past [] ys h = tt
turn_front o jobs past (e ∷ xs) ys h = (h.0, turn_front o jobs (past ++ e ∷ []) xs ys h.1)

pub turn_back : (o : Opening) (jobs : ℕ) (past xs ys : List Entry) → AllInTurn o jobs past (xs ++ ys) → AllInTurn o jobs (past ++ xs) ys
turn_back o jobs past [] ys h = subst (λ (p : List Entry). AllInTurn o jobs p ys) (sym (append-nil past)) h
turn_back o jobs past (e ∷ xs) ys h = subst (λ (p : List Entry). AllInTurn o jobs p ys) (append_assoc past (e ∷ []) xs) (turn_back o jobs (past ++ e ∷ []) xs ys h.1)

-- entries with neither starts nor claims
pub turn_quiet : (o : Opening) (jobs : ℕ) (past xs : List Entry) → any is_any_start xs ≡ false → any changes_claim xs ≡ false → AllInTurn o jobs past xs
turn_quiet o jobs past [] h k = tt
turn_quiet o jobs past (e ∷ xs) h k = (
  one e.what (either_left (is_any_start e.what) (any is_any_start xs) h) (either_left (changes_claim e.what) (any changes_claim xs) k),
  turn_quiet o jobs (past ++ e ∷ []) xs (either_right (is_any_start e.what) (any is_any_start xs) h) (either_right (changes_claim e.what) (any changes_claim xs) k),
)
  where
    one : (w : What) → is_any_start w ≡ false → changes_claim w ≡ false → StandsInTurn o jobs past w
    one (Start child slot offer) a b = absurd cc
    one (NoStart slot) a b = absurd cc
    one (Claim task child) a b = absurd cc
    one w a b = tt

-- ---- the last of a kind

-- what the last entry of a kind says stays where none of that kind follows
pub last_same : {X : Type 0} (f : What → Option X) (past more : List Entry) → each_of f more ≡ [] → last_or None (each_of f (past ++ more)) ≡ last_or None (each_of f past)
last_same f past more none = ap (last_or None) (each_of-append f past more) ∙ last_or-append None (each_of f past) (each_of f more) ∙ ap (last_or (last_or None (each_of f past))) none

slotless : (w : What) → is_any_start w ≡ false → slot_of w ≡ None
slotless (Start child slot offer) h = absurd cc
slotless (NoStart slot) h = absurd cc
slotless w h = refl

pub unfirst : (w : What) → is_first_start w ≡ false → first_in w ≡ None
unfirst (Start child slot offer) h = rw h refl
unfirst (NoStart slot) h = rw h refl
unfirst w h = refl

unstarted : (w : What) → is_any_start w ≡ false → is_first_start w ≡ false
unstarted (Start child slot offer) h = absurd cc
unstarted (NoStart slot) h = absurd cc
unstarted w h = refl

pub none_first : (xs : List Entry) → any is_any_start xs ≡ false → any is_first_start xs ≡ false
none_first [] h = refl
none_first (e ∷ xs) h = rw (unstarted e.what (either_left (is_any_start e.what) (any is_any_start xs) h), none_first xs (either_right (is_any_start e.what) (any is_any_start xs) h)) refl

pub slot_same : (past more : List Entry) → any is_any_start more ≡ false → last_slot (past ++ more) ≡ last_slot past
slot_same past more none = ap (λ (s : Option ℕ). unwrap_or s 0) (last_same slot_of past more (each_without slot_of is_any_start slotless more none))

pub since_same : (past more : List Entry) → any is_any_start more ≡ false → any changes_claim more ≡ false → is_unclaimed_since (past ++ more) ≡ is_unclaimed_since past
since_same past more starts claimed = ap (λ (s : Option Bool). unwrap_or s false) (last_same begins_by_start past more (none more starts claimed))
  where
    one : (w : What) → is_any_start w ≡ false → changes_claim w ≡ false → begins_by_start w ≡ None
    one (Start child slot offer) a b = absurd cc
    one (NoStart slot) a b = absurd cc
    one (Claim task child) a b = absurd cc
    one w a b = refl

    none : (xs : List Entry) → any is_any_start xs ≡ false → any changes_claim xs ≡ false → each_of begins_by_start xs ≡ []
    none [] a b = refl
    none (e ∷ xs) a b =
        rw (
          one e.what (either_left (is_any_start e.what) (any is_any_start xs) a) (either_left (changes_claim e.what) (any changes_claim xs) b),
          none xs (either_right (is_any_start e.what) (any is_any_start xs) a) (either_right (changes_claim e.what) (any changes_claim xs) b),
        ) refl

-- the child that the last start of slot 0 gave
abbrev pub last_first : List Entry → Option ℕ
last_first past = option_and_then (λ child. child) (last_or None (each_of first_in past))

pub first_same : (past more : List Entry) → any is_first_start more ≡ false → last_first (past ++ more) ≡ last_first past
first_same past more none = ap (option_and_then (λ (child : Option ℕ). child)) (last_same first_in past more (each_without first_in is_first_start unfirst more none))

-- where a child of slot 0 was started, and none after it
pub first_started : (past more : List Entry) (by c : ℕ) (offer : Bool) → any is_first_start more ≡ false → last_first (past ++ record { by = by; what = Start c 0 offer } ∷ more) ≡ Some c
first_started past more by c offer none =
    ap (λ (j : List Entry). last_first j) (sym (append_assoc past (record { by = by; what = Start c 0 offer } ∷ []) more))
    ∙ first_same (past ++ record { by = by; what = Start c 0 offer } ∷ []) more none
    ∙ ap (option_and_then (λ (child : Option ℕ). child))
    (ap (last_or None) (each_of-append first_in past (record { by = by; what = Start c 0 offer } ∷ [])) ∙ last_or-append None (each_of first_in past) (Some c ∷ []))

pub pool_of : (past : List Entry) (c : ℕ) → last_first past ≡ Some c → has_pool past ≡ is_ready_untagged past c
pool_of past c is = ap (is_ready_pool past) is

-- ---- tasks that are left

fewer_left : (p q : ℕ → Bool) → ((t : ℕ) → p t ≡ true → q t ≡ true) → (ts : List ℕ) → length (filter (λ (t : ℕ). not (q t)) ts) ≤ length (filter (λ (t : ℕ). not (p t)) ts)
fewer_left p q f [] = omega arith
fewer_left p q f (t ∷ ts) = go (p t) (q t) (f t) (fewer_left p q f ts)
  where
    go : (a b : Bool) → (a ≡ true → b ≡ true) → length (filter (λ (u : ℕ). not (q u)) ts) ≤ length (filter (λ (u : ℕ). not (p u)) ts)
        → length (cond (not b) (t ∷ filter (λ (u : ℕ). not (q u)) ts) (filter (λ (u : ℕ). not (q u)) ts)) ≤ length (cond (not a) (t ∷ filter (λ (u : ℕ). not (p u)) ts) (filter (λ (u : ℕ). not (p u)) ts))
    go true true f h = h
    go true false f h = absurd (let bad : false ≡ true = f refl in cc)
    go false true f h = omega (arith, h)
    go false false f h = omega (arith, h)

-- of the tasks that were claimed nothing is made more
abbrev pub LeavesClaimed : List Entry → List Entry → Type 0
LeavesClaimed past more = (t : ℕ) → is_claimed past t ≡ true → any (is_of_task t) more ≡ false

-- so it is as a journal grows in which no task was busy
pub leaves_claimed : (o : Opening) (past more : List Entry) → Legal o past → Legal o (past ++ more) → ((t : ℕ) → is_busy past t ≡ false) → LeavesClaimed past more
leaves_claimed o past more legal whole idle t claimed = task_stands o past more legal whole t (claimed_positive o past legal t claimed) claimed (idle t)

pub leaves_front : (past front rest more : List Entry) → more ≡ front ++ rest → LeavesClaimed past more → LeavesClaimed past front
leaves_front past front rest more is h t claimed = either_left (any (is_of_task t) front) (any (is_of_task t) rest) (sym (any-append (is_of_task t) front rest) ∙ ap (any (is_of_task t)) (sym is) ∙ h t claimed)

-- then no more tasks are left
pub left_fewer : (o : Opening) (past more : List Entry) → LeavesClaimed past more → length (unclaimed o (past ++ more)) ≤ length (unclaimed o past)
left_fewer o past more leaves = fewer_left (is_claimed past) (is_claimed (past ++ more)) (λ t h. claimed_apart past more t (leaves t h) ∙ h) (numbers_of o)

all_kept : (p q : ℕ → Bool) → ((t : ℕ) → p t ≡ q t) → (ts : List ℕ) → filter (λ (t : ℕ). not (p t)) ts ≡ filter (λ (t : ℕ). not (q t)) ts
all_kept p q f [] = refl
all_kept p q f (t ∷ ts) = rw (f t, all_kept p q f ts) refl

-- entries that claim none and free none
kept_claims : (t : ℕ) (b : Bool) (xs : List Entry) → any changes_claim xs ≡ false → fold (claimed_on t) b xs ≡ b
kept_claims t b [] h = refl
kept_claims t b (e ∷ xs) h = ap (λ (x : Bool). fold (claimed_on t) x xs) (one e.what (either_left (changes_claim e.what) (any changes_claim xs) h)) ∙ kept_claims t b xs (either_right (changes_claim e.what) (any changes_claim xs) h)
  where
    one : (w : What) → changes_claim w ≡ false → claimed_after t b w ≡ b
    one (Claim task child) h = absurd cc
    one (Again task answer) h = absurd cc
    one w h = refl

-- the same are left where no task is claimed or freed
pub left_same : (o : Opening) (past more : List Entry) → any changes_claim more ≡ false → unclaimed o (past ++ more) ≡ unclaimed o past
left_same o past more none = all_kept (is_claimed (past ++ more)) (is_claimed past) (λ t. claimed_append past more t ∙ kept_claims t (is_claimed past t) more none) (numbers_of o)

-- ---- a pool that is whole

-- each slot of the run's had its start, as far as there are tasks
abbrev pub IsFilled : Opening → ℕ → List Entry → Type 0
IsFilled o jobs past = min jobs (length (unclaimed o past)) ≤ last_slot past + 1

pub filled_on : (o : Opening) (jobs : ℕ) (past more : List Entry) → any is_any_start more ≡ false → LeavesClaimed past more → IsFilled o jobs past → IsFilled o jobs (past ++ more)
filled_on o jobs past more none leaves h =
    let fewer = left_fewer o past more leaves in
    let slot = slot_same past more none in
    let full : min jobs (length (unclaimed o past)) ≤ last_slot past + 1 = h in
    omega arith

pub manned_on : (o : Opening) (jobs : ℕ) (past more : List Entry) → any is_any_start more ≡ false → LeavesClaimed past more → has_pool past ≡ true → IsManned o jobs past → IsManned o jobs (past ++ more)
manned_on o jobs past more none leaves pool h = λ later. filled_on o jobs past more none leaves (h pool)

-- entries without starts, where each claim among them may stand
pub turn_where : (o : Opening) (jobs : ℕ) (past xs : List Entry) → any is_any_start xs ≡ false → ((front rest : List Entry) → xs ≡ front ++ rest → IsManned o jobs (past ++ front)) → AllInTurn o jobs past xs
turn_where o jobs past [] none f = tt
turn_where o jobs past (e ∷ xs) none f = (
  one e.what (either_left (is_any_start e.what) (any is_any_start xs) none) (subst (IsManned o jobs) (append-nil past) (f [] (e ∷ xs) refl)),
  turn_where o jobs (past ++ e ∷ []) xs (either_right (is_any_start e.what) (any is_any_start xs) none)
      (λ front rest is. subst (IsManned o jobs) (sym (append_assoc past (e ∷ []) front)) (f (e ∷ front) rest (ap (λ (l : List Entry). e ∷ l) is))),
)
  where
    one : (w : What) → is_any_start w ≡ false → IsManned o jobs past → StandsInTurn o jobs past w
    one (Start child slot offer) a m = absurd cc
    one (NoStart slot) a m = absurd cc
    one (Claim task child) a m = m
    one w a m = tt

front_none : (p : What → Bool) (xs front rest : List Entry) → xs ≡ front ++ rest → any p xs ≡ false → any p front ≡ false
front_none p xs front rest is h = either_left (any p front) (any p rest) (sym (any-append p front rest) ∙ ap (any p) (sym is) ∙ h)

-- after a pool whose slots are filled
pub turn_filled : (o : Opening) (jobs : ℕ) (past xs : List Entry) → any is_any_start xs ≡ false → LeavesClaimed past xs → IsFilled o jobs past → AllInTurn o jobs past xs
turn_filled o jobs past xs none leaves h =
    turn_where o jobs past xs none (λ front rest is later. filled_on o jobs past front (front_none is_any_start xs front rest is none) (leaves_front past front rest xs is leaves) h)

pub turn_manned : (o : Opening) (jobs : ℕ) (past xs : List Entry) → any is_any_start xs ≡ false → LeavesClaimed past xs → has_pool past ≡ true → IsManned o jobs past → AllInTurn o jobs past xs
turn_manned o jobs past xs none leaves pool h = turn_filled o jobs past xs none leaves (h pool)

-- in a run with one desk a pool is always whole
pub filled_alone : (o : Opening) (jobs : ℕ) (past : List Entry) → jobs ≤ 1 → IsFilled o jobs past
filled_alone o jobs past h = omega arith

-- ---- a child that takes tags

accepted : (past more : List Entry) (v w : Option Verdict) → ((at : ℕ) → v ≡ Some (DoneAt at) → at < length past) → accepts_async past v ≡ true → accepts_async (past ++ more) (option_or v w) ≡ true
accepted past more None w f h = absurd cc
accepted past more (Some (DoneAt at)) w f h = ap (λ (e : Option Entry). names_async (remote_reading (got_line e))) (slice_get-left past more at (f at refl)) ∙ h
accepted past more (Some v) w f h = absurd cc

-- it does so from then on
pub tagged_on : (o : Opening) (past more : List Entry) (c : ℕ) → Legal o past → is_tagged past c ≡ true → is_tagged (past ++ more) c ≡ true
tagged_on o past more c legal h =
    let t = both (any (offers c) past) (accepts_async past (verdict_of past c 0)) h in
    let offered : any (offers c) (past ++ more) ≡ true = any-append (offers c) past more ∙ or_left (any (offers c) past) (any (offers c) more) t.0 in
    let named : accepts_async (past ++ more) (verdict_of (past ++ more) c 0) ≡ true =
    ap (accepts_async (past ++ more)) (verdict_of-append c 0 past more) ∙ accepted past more (verdict_of past c 0) (verdict_of more c 0) ((invariant o past legal).placed c 0) t.1 in
    rw (offered, named) refl

-- so no pool serves after it
pub turn_tagged : (o : Opening) (jobs : ℕ) (past xs : List Entry) (c : ℕ) → Legal o past → last_first past ≡ Some c → is_tagged past c ≡ true → any is_any_start xs ≡ false → AllInTurn o jobs past xs
turn_tagged o jobs past xs c legal first tag none = turn_where o jobs past xs none (λ front rest is. unpooled front (front_none is_any_start xs front rest is none))
  where
    unpooled : (front : List Entry) → any is_any_start front ≡ false → IsManned o jobs (past ++ front)
    unpooled front quiet pool =
        let its : has_pool (past ++ front) ≡ is_ready_untagged (past ++ front) c = pool_of (past ++ front) c (first_same past front (none_first front quiet) ∙ first) in
        let untagged = (both (is_prepared (past ++ front) c) (not (is_tagged (past ++ front) c)) (sym its ∙ pool)).1 in
        let tagged = tagged_on o past front c legal tag in
        absurd (let bad : false ≡ true = ap not (sym tagged) ∙ untagged in cc)

-- ---- a child to which ASYNC wasn't offered

pub offered_starts : (c : ℕ) (w : What) → offers c w ≡ true → starts c w ≡ true
offered_starts c (Start child slot offer) h = (both (child == c) offer h).0
offered_starts c w h = absurd cc

no_tags : (c : ℕ) (w : What) → offers_tags w ≡ false → offers c w ≡ false
no_tags c (Start child slot offer) h = ap (λ (b : Bool). (child == c) && b) h ∙ and_false (child == c)
  where
    and_false : (b : Bool) → (b && false) ≡ false
    and_false true = refl
    and_false false = refl
no_tags c w h = refl

none_offered : (c : ℕ) (xs : List Entry) → any offers_tags xs ≡ false → any (offers c) xs ≡ false
none_offered c [] h = refl
none_offered c (e ∷ xs) h = rw (no_tags c e.what (either_left (offers_tags e.what) (any offers_tags xs) h), none_offered c xs (either_right (offers_tags e.what) (any offers_tags xs) h)) refl

-- a child that was started where none was offered ASYNC takes no tags
pub pool_untagged : (o : Opening) (past more : List Entry) (c : ℕ) → Legal o past → count is_start past < c → any offers_tags more ≡ false → is_tagged (past ++ more) c ≡ false
pool_untagged o past more c legal later none =
    let before : any (offers c) past ≡ false = any_narrower (offers c) (starts c) (offered_starts c) past (later_unstarted o past legal c later) in
    let unoffered : any (offers c) (past ++ more) ≡ false = any-append (offers c) past more ∙ ap (λ (b : Bool). b || any (offers c) more) before ∙ none_offered c more none in
    ap (λ (b : Bool). b && accepts_async (past ++ more) (verdict_of (past ++ more) c 0)) unoffered
