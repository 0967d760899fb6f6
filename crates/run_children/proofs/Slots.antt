-- Starts in their slots: what stands after a start of slot 0, and what each place of it says of the turn.
use Rattle.std.proofs.Common.{◌≡◌, ◌⊎◌, ℕ, zero, suc, ◌<◌, List, [], ◌∷◌, ◌++◌, refl, sym, ap, ◌∙◌, length, Bool, true, false, not, ◌==◌, Some, None, Option, cond, arith, inl, inr}
use Rattle.std.specs.Prelude.{◌&&◌, ◌||◌, nat_le, option_and_then, unwrap_or}
use Rattle.std.specs.List.{cons_option, last_or, list_all, list_any}
use Rattle.std.proofs.Math.Nat.{min-le_left}
use Rattle.std.proofs.lemmas.Bool.Decides.{nat_tests}
use Rattle.journal_model.specs.declared.entry.What.{What}
use Rattle.journal_model.specs.declared.entry.What.TheVariants.{Claim, Start, NoStart, Lead, Ask, Put, Sent, Mute, Got, End, Verdict as Settled, Lost, Answer as Answered, Note, Again}
use Rattle.journal_model.specs.declared.entry.Entry.{Entry}
use Rattle.journal_model.specs.declared.opening.Opening.{Opening}
use Rattle.journal_model.specs.Journal.{any, each_of, offers}
use Rattle.journal_model.specs.Shares.{is_of_child}
use Rattle.journal_model.specs.Legality.{Legal}
use Rattle.journal_model.proofs.Looks.{each_of-append}
use Rattle.host_core.specs.Steps.{unclaimed}
use Rattle.run_starts.specs.Starting.{AllOffer, OffersWell, children, is_any_start, is_offered, is_ready_untagged, started_in}
use Rattle.run_starts.specs.Stints.{in_stint, main_entry}
use Rattle.child_link.proofs.Linked.{any_narrower}
use Rattle.run_starts.proofs.Apart.{ready_same}
use Rattle.run_starts.proofs.Tests.{each_none, each_without}
use Rattle.run_children.specs.PoolChildren.Slots.{AllInTurn, IsInSlot, IsManned, StandsInTurn, begins_by_start, first_in, has_pool, in_pool, is_first_start, is_ready_pool, is_unclaimed_since, last_slot, offers_tags, slot_of}
use Rattle.run_children.proofs.PoolChildrenLemmas.SlotLaws.{LeavesClaimed, filled_on, first_same, last_first, none_first, pool_of as pool_is, unfirst as no_first_in}
use Rattle.std.proofs.lemmas.Bool.{leb-true as at_least, and_parts as both, ne_eqb as differ, eqb-true as same_number}
use Rattle.ann_key.proofs.Booleans.{left_false as either_left, right_false as either_right, or_left, or_right}
use Rattle.ann_key.proofs.Lists.{last_or-push}

-- ---- what stands after a start of slot 0

same_least : (c child : ℕ) → (child == c) ≡ true → nat_le c child ≡ true
same_least c child h = (let e = same_number child c h in grind (arith, nat_tests))

later_differs : (n d child : ℕ) → d < n → nat_le n child ≡ true → (child == d) ≡ false
later_differs n d child below h = (let k = at_least n child h in differ child d (λ e. absurd (omega (arith, e, k, below))))

-- the entries of one child's stint
pub stint_pool : (c : ℕ) (w : What) → in_stint c w ≡ true → in_pool c w ≡ true
stint_pool c (Claim task child) h = refl
stint_pool c (Start child slot offer) h = absurd cc
stint_pool c (NoStart slot) h = absurd cc
stint_pool c (Lead child job line) h = same_least c child h
stint_pool c (Ask child job task line) h = same_least c child h
stint_pool c (Put child job line) h = same_least c child h
stint_pool c (Sent child) h = same_least c child h
stint_pool c (Mute child) h = same_least c child h
stint_pool c (Got child line) h = same_least c child h
stint_pool c (End child why) h = same_least c child h
stint_pool c (Settled child job verdict) h = same_least c child h
stint_pool c (Lost child task) h = same_least c child h
stint_pool c (Answered task answer) h = refl
stint_pool c (Note task chunk count) h = refl
stint_pool c (Again task answer) h = refl

-- nothing is of an earlier child
pub apart_pool : (n d : ℕ) → d < n → (w : What) → in_pool n w ≡ true → is_of_child d w ≡ false
apart_pool n d below (Lead child job line) h = later_differs n d child below h
apart_pool n d below (Ask child job task line) h = later_differs n d child below h
apart_pool n d below (Put child job line) h = later_differs n d child below h
apart_pool n d below (Sent child) h = later_differs n d child below h
apart_pool n d below (Mute child) h = later_differs n d child below h
apart_pool n d below (Got child line) h = later_differs n d child below h
apart_pool n d below (End child why) h = later_differs n d child below h
apart_pool n d below (Settled child job verdict) h = later_differs n d child below h
apart_pool n d below (Lost child task) h = later_differs n d child below h
apart_pool n d below w h = refl

pub offers_of : (d : ℕ) (w : What) → offers d w ≡ true → offers_tags w ≡ true
offers_of d (Start child slot offer) h = (both (child == d) offer h).1
offers_of d w h = absurd cc

-- and no start is in slot 0
pub first_none : (n : ℕ) (w : What) → in_pool n w ≡ true → is_first_start w ≡ false
first_none n (Start child slot offer) h = unslotted (slot == 0) (both (nat_le n child) (not (slot == 0)) h).1
  where
    unslotted : (b : Bool) → not b ≡ true → b ≡ false
    unslotted false k = refl
    unslotted true k = absurd cc
first_none n (NoStart slot) h = unslotted (slot == 0) h
  where
    unslotted : (b : Bool) → not b ≡ true → b ≡ false
    unslotted false k = refl
    unslotted true k = absurd cc
first_none n w h = refl

-- ---- each in its turn

-- one worker needs no pool
pub manned_one : (o : Opening) (past : List Entry) → IsManned o 1 past
manned_one o past = λ pool. (let least = min-le_left 1 (length (unclaimed o past)) in omega (arith, least))

pub manned_none : (o : Opening) (jobs : ℕ) (past : List Entry) → has_pool past ≡ false → IsManned o jobs past
manned_none o jobs past none = λ pool. absurd (let bad : true ≡ false = sym pool ∙ none in cc)

-- entries that start nothing and are of no child leave it so
pub manned_still : (o : Opening) (jobs : ℕ) (past more : List Entry) → Legal o past → any is_any_start more ≡ false → LeavesClaimed past more → ((d : ℕ) → any (is_of_child d) more ≡ false) → IsManned o jobs past → IsManned o jobs (past ++ more)
manned_still o jobs past more legal none leaves apart m = λ pool. filled_on o jobs past more none leaves (m (sym (pool_same (last_first past) refl) ∙ pool))
  where
    first_is : last_first (past ++ more) ≡ last_first past
    first_is = first_same past more (none_first more none)

    unoffered : (d : ℕ) → any (offers d) more ≡ false
    unoffered d = any_narrower (offers d) is_any_start offered_start more none
      where
        offered_start : (w : What) → offers d w ≡ true → is_any_start w ≡ true
        offered_start (Start child slot offer) h = refl
        offered_start w h = absurd cc

    pool_same : (x : Option ℕ) → last_first past ≡ x → has_pool (past ++ more) ≡ has_pool past
    pool_same None e = ap (is_ready_pool (past ++ more)) (first_is ∙ e) ∙ sym (ap (is_ready_pool past) e)
    pool_same (Some c) e = pool_is (past ++ more) c (first_is ∙ e) ∙ ready_same past more c (apart c) o legal (unoffered c) ∙ sym (pool_is past c e)

-- ---- whether a pool serves

abbrev flat : Option (Option ℕ) → Option ℕ
flat o = option_and_then (λ child. child) o

-- what the last of them says, where those after the start say nothing
last_of_start : {X : Type 0} (f : What → Option X) (w : What) (x : X) (old later : List Entry) → f w ≡ Some x → each_of f later ≡ [] → last_or None (each_of f (old ++ main_entry w ∷ later)) ≡ Some x
last_of_start f w x old later is none =
    ap (last_or None) (each_of-append f old (main_entry w ∷ later) ∙ ap (λ (l : List _). each_of f old ++ l) (ap (λ (o : Option _). cons_option o (each_of f later)) is ∙ ap (λ (l : List _). x ∷ l) none))
    ∙ last_or-push None (each_of f old) x

-- after a child of slot 0 it is told by that child
pub pool_of : (old later : List Entry) (c n : ℕ) (offer : Bool) → list_all (λ (e : Entry). in_pool n e.what) later ≡ true
    → has_pool (old ++ main_entry (Start c 0 offer) ∷ later) ≡ is_ready_untagged (old ++ main_entry (Start c 0 offer) ∷ later) c
pool_of old later c n offer within =
    ap (λ (o : Option (Option ℕ)). is_ready_pool (old ++ main_entry (Start c 0 offer) ∷ later) (flat o))
    (last_of_start first_in (Start c 0 offer) (Some c) old later refl (each_none first_in (in_pool n) (λ w h. no_first_in w (first_none n w h)) later within))

-- after a start of slot 0 that gave no child there is none
pub pool_failed : (old later : List Entry) → any is_any_start later ≡ false → has_pool (old ++ main_entry (NoStart 0) ∷ later) ≡ false
pool_failed old later none =
    ap (λ (o : Option (Option ℕ)). is_ready_pool (old ++ main_entry (NoStart 0) ∷ later) (flat o))
    (last_of_start first_in (NoStart 0) None old later refl (each_without first_in is_first_start no_first_in later (none_first later none)))

-- after a start in slot 0, where nothing was started or claimed since
pub new_slot : (old later : List Entry) (c : ℕ) (offer : Bool) → each_of slot_of later ≡ [] → last_slot (old ++ main_entry (Start c 0 offer) ∷ later) ≡ 0
new_slot old later c offer none = ap (λ (o : Option ℕ). unwrap_or o 0) (last_of_start slot_of (Start c 0 offer) 0 old later refl none)

pub new_unclaimed : (old later : List Entry) (c : ℕ) (offer : Bool) → each_of begins_by_start later ≡ [] → is_unclaimed_since (old ++ main_entry (Start c 0 offer) ∷ later) ≡ true
new_unclaimed old later c offer none = ap (λ (o : Option Bool). unwrap_or o false) (last_of_start begins_by_start (Start c 0 offer) true old later refl none)

-- the child that the last start of slot 0 gave is one of the journal's
abbrev Among : List Entry → List Entry → Option (Option ℕ) → Type 0
Among past xs start = (list_any (is_ready_untagged past) (children xs) ≡ true) ⊎ (is_ready_pool past (flat start) ≡ true)

abbrev Says : List Entry → List Entry → Option (Option ℕ) → Type 0
Says past xs start = is_ready_pool past (flat (last_or start (each_of first_in xs))) ≡ true

ready_among : (past xs : List Entry) (init : Option (Option ℕ)) → Says past xs init → Among past xs init
ready_among past [] init h = inr h
ready_among past (e ∷ xs) init h = go e.what h (λ other k. ready_among past xs other k)
  where
    more : (child : ℕ) → (list_any (is_ready_untagged past) (children xs) ≡ true) → (is_ready_untagged past child || list_any (is_ready_untagged past) (children xs)) ≡ true
    more child x = or_right (is_ready_untagged past child) (list_any (is_ready_untagged past) (children xs)) x

    here : (child : ℕ) → Among past xs (Some (Some child)) → ((is_ready_untagged past child || list_any (is_ready_untagged past) (children xs)) ≡ true) ⊎ (is_ready_pool past (flat init) ≡ true)
    here child (inl x) = inl (more child x)
    here child (inr x) = inl (or_left (is_ready_untagged past child) (list_any (is_ready_untagged past) (children xs)) x)

    there : (child : ℕ) → Among past xs init → ((is_ready_untagged past child || list_any (is_ready_untagged past) (children xs)) ≡ true) ⊎ (is_ready_pool past (flat init) ≡ true)
    there child (inl x) = inl (more child x)
    there child (inr x) = inr x

    failed : Among past xs (Some None) → Among past xs init
    failed (inl x) = inl x
    failed (inr x) = absurd (let bad : false ≡ true = x in cc)

    started : (child : ℕ) (b : Bool) → is_ready_pool past (flat (last_or init (cons_option (cond b (Some (Some child)) None) (each_of first_in xs)))) ≡ true → ((other : Option (Option ℕ)) → Says past xs other → Among past xs other)
        → ((is_ready_untagged past child || list_any (is_ready_untagged past) (children xs)) ≡ true) ⊎ (is_ready_pool past (flat init) ≡ true)
    started child true k r = here child (r (Some (Some child)) k)
    started child false k r = there child (r init k)

    unstarted : (b : Bool) → is_ready_pool past (flat (last_or init (cons_option (cond b (Some None) None) (each_of first_in xs)))) ≡ true → ((other : Option (Option ℕ)) → Says past xs other → Among past xs other) → Among past xs init
    unstarted true k r = failed (r (Some None) k)
    unstarted false k r = r init k

    go : (w : What) → is_ready_pool past (flat (last_or init (cons_option (first_in w) (each_of first_in xs)))) ≡ true → ((other : Option (Option ℕ)) → Says past xs other → Among past xs other)
        → (list_any (is_ready_untagged past) (cons_option (started_in w) (children xs)) ≡ true) ⊎ (is_ready_pool past (flat init) ≡ true)
    go (Start child slot offer) k r = started child (slot == 0) k r
    go (NoStart slot) k r = unstarted (slot == 0) k r
    go w k r = r init k

pub pool_ready : (past : List Entry) → has_pool past ≡ true → list_any (is_ready_untagged past) (children past) ≡ true
pool_ready past h = go (ready_among past past None h)
  where
    go : (list_any (is_ready_untagged past) (children past) ≡ true) ⊎ (is_ready_pool past (flat None) ≡ true) → list_any (is_ready_untagged past) (children past) ≡ true
    go (inl x) = x
    go (inr x) = absurd (let bad : false ≡ true = x in cc)

-- so the starts of a pool, which offer nothing, offer ASYNC where they are to
pub pool_offers : (o : Opening) (may : Bool) (jobs n : ℕ) (past xs : List Entry) → AllInTurn o jobs past xs → list_all (λ (e : Entry). in_pool n e.what) xs ≡ true → any offers_tags xs ≡ false → AllOffer may past xs
pool_offers o may jobs n past [] turn within none = tt
pool_offers o may jobs n past (e ∷ xs) turn within none =
    let t = both (in_pool n e.what) (list_all (λ (x : Entry). in_pool n x.what) xs) within in (
      one e.what turn.0 t.0 (either_left (offers_tags e.what) (any offers_tags xs) none),
      pool_offers o may jobs n (past ++ e ∷ []) xs turn.1 t.1 (either_right (offers_tags e.what) (any offers_tags xs) none),
    )
  where
    one : (w : What) → StandsInTurn o jobs past w → in_pool n w ≡ true → offers_tags w ≡ false → OffersWell may past w
    one (Start child slot offer) s k unoffered = by_slot slot s (both (nat_le n child) (not (slot == 0)) k).1
      where
        by_slot : (at : ℕ) → IsInSlot o jobs past at → not (at == 0) ≡ true → offer ≡ (may && is_offered past)
        by_slot zero i z = absurd cc
        by_slot (suc before) i z = unoffered ∙ nothing may (ap not (pool_ready past i.pool))
          where
            nothing : (b : Bool) {x : Bool} → x ≡ false → false ≡ (b && x)
            nothing true h = sym h
            nothing false h = refl
    one (NoStart slot) s k unoffered = tt
    one w s k unoffered = tt
