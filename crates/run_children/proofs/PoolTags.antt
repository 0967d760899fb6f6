-- A child that got ready without tags stays so, and children have their numbers in turn.
use Rattle.std.proofs.Common.{◌≡◌, ℕ, ◌+◌, ◌<◌, List, [], ◌∷◌, ◌++◌, refl, sym, ap, subst, ◌∙◌, Bool, true, false, ◌==◌, Some, None, Option, length, arith, append-nil}
use Rattle.std.specs.Prelude.{◌&&◌, ◌||◌, All, nat_lt}
use Rattle.std.specs.List.{list_any, cons_option}
use Rattle.std.specs.Option.{option_or}
use Rattle.std.proofs.lemmas.List.Elements.{All-nil, All-cons, All-weaker}
use Rattle.journal_model.specs.declared.verdict.Verdict.{Verdict}
use Rattle.journal_model.specs.declared.entry.What.{What}
use Rattle.journal_model.specs.declared.entry.What.TheVariants.{Start, NoStart, Ask}
use Rattle.journal_model.specs.declared.entry.Entry.{Entry}
use Rattle.journal_model.specs.declared.opening.Opening.{Opening}
use Rattle.ann_outside.specs.Starts.{Starts}
use Rattle.journal_model.specs.Journal.{accepts_async, any, asked_jobs, each_of, is_settled, is_tagged, offers, starts, verdict_of}
use Rattle.journal_model.specs.Due.{due_after}
use Rattle.journal_model.specs.Legality.{Legal, asks_prepare, count, is_done, is_greeted, is_prepared, is_start, may_come, prepares}
use Rattle.journal_model.proofs.Growing.{Legal-induction}
use Rattle.journal_model.proofs.Holding.{due_names}
use Rattle.journal_model.proofs.Looks.{any-append, each_of-append, entry, unsettled, verdict_of-append}
use Rattle.journal_model.proofs.Projecting.{invariant}
use Rattle.journal_model.proofs.Testing.{by_either}
use Rattle.child_life.specs.End.Wires.{came, came_in}
use Rattle.crew_work.specs.Laws.Rounds.{LinkValue}
use Rattle.run_starts.specs.Starting.{children, is_any_start, started_in}
use Rattle.run_children.specs.PoolChildren.Pools.{AreSeated, OverBy, SeatValue, Serves}
use Rattle.run_children.specs.PoolChildren.Slots.{offers_tags}
use Rattle.run_children.specs.PoolSteps.{serving}
use Rattle.journal_model.proofs.Replying.{accepted}
use Rattle.std.proofs.lemmas.Bool.{and_parts as both, eqb-true as same_number}
use Rattle.ann_key.proofs.Booleans.{left_false as either_left, right_false as either_right, or_left, or_right, or_false}
use Rattle.journal_model.proofs.Across.{settled_on}

-- ---- job 0 of a prepared child is settled

asked_in : What → Option ℕ
asked_in (Ask child job task line) = Some child
asked_in w = None

unprepared : (c : ℕ) (xs : List Entry) → each_of asked_in xs ≡ [] → any (prepares c) xs ≡ false
unfolding asked_in
unprepared c [] h = refl
unprepared c (e ∷ xs) h = step e.what h (unprepared c xs)
  where
    step : (w : What) → cons_option (asked_in w) (each_of asked_in xs) ≡ [] → (each_of asked_in xs ≡ [] → any (prepares c) xs ≡ false) → (prepares c w || any (prepares c) xs) ≡ false
    step (Ask child job task line) k r = absurd cc
    step w k r = r k

-- what is due asks nothing
due_unprepared : (o : Opening) (past : List Entry) (by c : ℕ) (w : What) → any (prepares c) (due_after o past (entry by w)) ≡ false
unfolding asked_in
due_unprepared o past by c w = unprepared c (due_after o past (entry by w)) (due_names asked_in (λ a b v. refl) (λ a y. refl) (λ a b l. refl) o past by w)

asks_behind : (o : Opening) (past : List Entry) (by c : ℕ) (w : What) → may_come o past by w ≡ true → prepares c w ≡ true → is_settled past c 0 ≡ true
asks_behind o past by c (Ask child job task line) may is =
    let four = both _ _ may in
    let three = both _ _ four.0 in
    let next : (job == length (asked_jobs past child)) ≡ true = (both _ _ three.0).1 in
    let asking = both _ _ four.1 in
    let greeted : is_greeted past child (length (asked_jobs past child)) ≡ true = (both _ _ asking.0).0 in
    let its = both (child == c && job == 1) (asks_prepare line) is in
    let mine = both (child == c) (job == 1) its.0 in
    let one : length (asked_jobs past child) ≡ 1 = sym (same_number job (length (asked_jobs past child)) next) ∙ same_number job 1 mine.1 in
    let here : is_greeted past child 1 ≡ true = subst (λ (n : ℕ). is_greeted past child n ≡ true) one greeted in
    subst (λ (d : ℕ). is_settled past d 0 ≡ true) (same_number child c mine.0) here
asks_behind o past by c w may is = absurd cc

prepared_behind : (o : Opening) (journal : List Entry) → Legal o journal → (c : ℕ) → any (prepares c) journal ≡ true → is_settled journal c 0 ≡ true
prepared_behind o journal l =
    Legal-induction o (λ past. (c : ℕ) → any (prepares c) past ≡ true → is_settled past c 0 ≡ true) (λ c h. absurd cc) (λ past e legal before may. step past e.by e.what before may) journal l
  where
    step : (past : List Entry) (by : ℕ) (w : What) → ((c : ℕ) → any (prepares c) past ≡ true → is_settled past c 0 ≡ true) → may_come o past by w ≡ true
        → (c : ℕ) → any (prepares c) (past ++ entry by w ∷ due_after o past (entry by w)) ≡ true → is_settled (past ++ entry by w ∷ due_after o past (entry by w)) c 0 ≡ true
    step past by w before may c h =
        settled_on past (entry by w ∷ due_after o past (entry by w)) c 0 (go (any (prepares c) past) refl (prepares c w) refl (any (prepares c) (due_after o past (entry by w))) (due_unprepared o past by c w)
        (sym (any-append (prepares c) past (entry by w ∷ due_after o past (entry by w))) ∙ h))
      where
        go : (a : Bool) → any (prepares c) past ≡ a → (b : Bool) → prepares c w ≡ b → (d : Bool) → d ≡ false → (a || (b || d)) ≡ true → is_settled past c 0 ≡ true
        go true x b y d z k = before c x
        go false x true y d z k = asks_behind o past by c w may y
        go false x false y d z k = absurd (let bad : true ≡ false = sym k ∙ z in cc)

-- ---- a prepared child stays so, and tagged or not

pub tag_stays : (o : Opening) (past more : List Entry) (c : ℕ) → Legal o past → is_prepared past c ≡ true → any (offers c) more ≡ false → is_tagged (past ++ more) c ≡ is_tagged past c
tag_stays o past more c legal ready none =
    ap (λ (b : Bool). b && accepts_async (past ++ more) (verdict_of (past ++ more) c 0)) unoffered
    ∙ ap (λ (v : Option Verdict). any (offers c) past && accepts_async (past ++ more) v) first_same
    ∙ ap (λ (b : Bool). any (offers c) past && b) (accepted past more (verdict_of past c 0) ((invariant o past legal).placed c 0))
  where
    settled : is_settled past c 0 ≡ true
    settled = prepared_behind o past legal c (both (is_done (verdict_of past c 1)) (any (prepares c) past) ready).1

    first_same : verdict_of (past ++ more) c 0 ≡ verdict_of past c 0
    first_same = verdict_of-append c 0 past more ∙ go (verdict_of past c 0) refl
      where
        go : (v : Option Verdict) → verdict_of past c 0 ≡ v → option_or v (verdict_of more c 0) ≡ v
        go (Some v) e = refl
        go None e = absurd (let bad : true ≡ false = sym settled ∙ unsettled past c 0 e in cc)

    unoffered : any (offers c) (past ++ more) ≡ any (offers c) past
    unoffered = any-append (offers c) past more ∙ ap (λ (b : Bool). any (offers c) past || b) none ∙ or_false (any (offers c) past)

-- ---- what is not offered

pub starts_offer : (xs : List Entry) (c : ℕ) → any is_any_start xs ≡ false → any (offers c) xs ≡ false
starts_offer [] c h = refl
starts_offer (e ∷ xs) c h = rw (one e.what (either_left (is_any_start e.what) (any is_any_start xs) h), starts_offer xs c (either_right (is_any_start e.what) (any is_any_start xs) h)) refl
  where
    one : (w : What) → is_any_start w ≡ false → offers c w ≡ false
    one (Start child slot offer) k = absurd cc
    one w k = refl

pub tags_offer : (xs : List Entry) (c : ℕ) → any offers_tags xs ≡ false → any (offers c) xs ≡ false
tags_offer [] c h = refl
tags_offer (e ∷ xs) c h = rw (one e.what (either_left (offers_tags e.what) (any offers_tags xs) h), tags_offer xs c (either_right (offers_tags e.what) (any offers_tags xs) h)) refl
  where
    one : (w : What) → offers_tags w ≡ false → offers c w ≡ false
    one (Start child slot offer) k = go (child == c) offer k
      where
        go : (a b : Bool) → b ≡ false → (a && b) ≡ false
        go true b e = e
        go false b e = refl
    one w k = refl

-- ---- children have their numbers in turn

-- the numbers after n, in turn, where a start gave a child
abbrev pub Ascends : ℕ → List (Option ℕ) → Type 0
Ascends n [] = Unit {0}
Ascends n (None ∷ cs) = Ascends n cs
Ascends n (Some c ∷ cs) = (c ≡ n + 1) × Ascends (n + 1) cs

abbrev somes : List (Option ℕ) → ℕ
somes [] = 0
somes (None ∷ cs) = somes cs
somes (Some c ∷ cs) = somes cs + 1

somes_of : (xs : List Entry) → somes (came xs) ≡ count is_start xs
somes_of [] = refl
somes_of (e ∷ xs) = step e.what (somes_of xs)
  where
    step : (w : What) → somes (came xs) ≡ count is_start xs → somes (cons_option (came_in w) (came xs)) ≡ count is_start (entry e.by w ∷ xs)
    step (Start child slot offer) r = omega (arith, r)
    step (NoStart slot) r = r
    step w r = r

ascends_none : (n : ℕ) (cs : List (Option ℕ)) → Ascends n cs → Ascends n (cs ++ None ∷ [])
ascends_none n [] h = tt
ascends_none n (None ∷ cs) h = ascends_none n cs h
ascends_none n (Some c ∷ cs) h = (h.0, ascends_none (n + 1) cs h.1)

ascends_one : (n c : ℕ) (cs : List (Option ℕ)) → c ≡ n + somes cs + 1 → Ascends n cs → Ascends n (cs ++ Some c ∷ [])
ascends_one n c [] e h = (omega (arith, e), tt)
ascends_one n c (None ∷ cs) e h = ascends_one n c cs e h
ascends_one n c (Some d ∷ cs) e h = (h.0, ascends_one (n + 1) c cs (omega (arith, e)) h.1)

ascends_behind : (n : ℕ) (cs ds : List (Option ℕ)) → Ascends n (cs ++ ds) → Ascends (n + somes cs) ds
ascends_behind n [] ds h = subst (λ (m : ℕ). Ascends m ds) (let e : n ≡ n + 0 = omega arith in e) h
ascends_behind n (None ∷ cs) ds h = ascends_behind n cs ds h
ascends_behind n (Some c ∷ cs) ds h = subst (λ (m : ℕ). Ascends m ds) (let e : (n + 1) + somes cs ≡ n + (somes cs + 1) = omega arith in e) (ascends_behind (n + 1) cs ds h.1)

all_ascend : (o : Opening) (journal : List Entry) → Legal o journal → Ascends 0 (came journal)
all_ascend o journal l = Legal-induction o (λ past. Ascends 0 (came past)) tt (λ past e legal before may. step past e.by e.what before may) journal l
  where
    step : (past : List Entry) (by : ℕ) (w : What) → Ascends 0 (came past) → may_come o past by w ≡ true → Ascends 0 (came (past ++ entry by w ∷ due_after o past (entry by w)))
    step past by w before may = subst (Ascends 0) (sym came_are) (first w may)
      where
        came_are : came (past ++ entry by w ∷ due_after o past (entry by w)) ≡ came past ++ cons_option (came_in w) []
        came_are = each_of-append came_in past (entry by w ∷ due_after o past (entry by w))
            ∙ ap (λ (cs : List (Option ℕ)). came past ++ cons_option (came_in w) cs) (due_names came_in (λ c j v. refl) (λ c why. refl) (λ c j line. refl) o past by w)

        first : (v : What) → may_come o past by v ≡ true → Ascends 0 (came past ++ cons_option (came_in v) [])
        first (Start child slot offer) m =
            let next : (child == count is_start past + 1) ≡ true = (both (by == 0) (child == count is_start past + 1) (both (by == 0 && child == count is_start past + 1) (nat_lt child 4294967296) m).0).1 in
            let is = same_number child (count is_start past + 1) next in
            let many = somes_of past in
            ascends_one 0 child (came past) (omega (arith, is, many)) before
        first (NoStart slot) m = ascends_none 0 (came past) before
        first v m = subst (Ascends 0) (sym (append-nil (came past))) before

pub later_ascend : (o : Opening) (old later : List Entry) → Legal o (old ++ later) → Ascends (count is_start old) (came later)
later_ascend o old later legal =
    subst (λ (m : ℕ). Ascends m (came later)) (let so = somes_of old in let e : 0 + somes (came old) ≡ count is_start old = omega (arith, so) in e) (ascends_behind 0 (came old) (came later) (subst (Ascends 0) (each_of-append came_in old later) (all_ascend o (old ++ later) legal)))

-- ---- the children of links

above_less : (m : ℕ) (links : List LinkValue) → All (λ (l : LinkValue). m + 1 < l.ear.child) links → All (λ (l : LinkValue). m < l.ear.child) links
above_less m links h = All-weaker (λ (l : LinkValue). m + 1 < l.ear.child) (λ (l : LinkValue). m < l.ear.child) (λ l k. omega (arith, k)) links h

-- the children of those that serve have greater numbers
pub seated_above : (starts : Option Starts) (g : List Entry) (n m : ℕ) (cs : List (Option ℕ)) (seats : List SeatValue) (links : List LinkValue) → AreSeated starts g n cs seats links → Ascends m cs
    → All (λ (l : LinkValue). m < l.ear.child) links
seated_above starts g n m [] [] [] h a = All-nil (λ (l : LinkValue). m < l.ear.child)
seated_above starts g n m [] [] (l ∷ links) h a = absurd h
seated_above starts g n m [] (s ∷ seats) links h a = absurd h
seated_above starts g n m (None ∷ cs) seats links h a = seated_above starts g (n + 1) m cs seats links h a
seated_above starts g n m (Some c ∷ cs) [] links h a = absurd h
seated_above starts g n m (Some c ∷ cs) (OverBy wire ∷ seats) links h a = above_less m links (seated_above starts g (n + 1) (m + 1) cs seats links h.2 a.1)
seated_above starts g n m (Some c ∷ cs) (Serves ∷ seats) [] h a = absurd h
seated_above starts g n m (Some c ∷ cs) (Serves ∷ seats) (l ∷ links) h a =
    All-cons (λ (x : LinkValue). m < x.ear.child) l links (let is = h.0 in let next = a.0 in omega (arith, is, next)) (above_less m links (seated_above starts g (n + 1) (m + 1) cs seats links h.3 a.1))

-- the children that starts gave
abbrev kept : List (Option ℕ) → List ℕ
kept [] = []
kept (None ∷ cs) = kept cs
kept (Some c ∷ cs) = c ∷ kept cs

kept_children : (xs : List Entry) → kept (came xs) ≡ children xs
kept_children [] = refl
kept_children (e ∷ xs) = step e.what (kept_children xs)
  where
    step : (w : What) → kept (came xs) ≡ children xs → kept (cons_option (came_in w) (came xs)) ≡ cons_option (started_in w) (children xs)
    step (Start child slot offer) r = ap (λ (cs : List ℕ). child ∷ cs) r
    step (NoStart slot) r = r
    step w r = r

seated_kept : (p : ℕ → Bool) (starts : Option Starts) (g : List Entry) (n : ℕ) (cs : List (Option ℕ)) (seats : List SeatValue) (links : List LinkValue) → AreSeated starts g n cs seats links
    → list_any (λ (l : LinkValue). p l.ear.child) links ≡ true → list_any p (kept cs) ≡ true
seated_kept p starts g n [] [] [] h k = absurd cc
seated_kept p starts g n [] [] (l ∷ links) h k = absurd h
seated_kept p starts g n [] (s ∷ seats) links h k = absurd h
seated_kept p starts g n (None ∷ cs) seats links h k = seated_kept p starts g (n + 1) cs seats links h k
seated_kept p starts g n (Some c ∷ cs) [] links h k = absurd h
seated_kept p starts g n (Some c ∷ cs) (OverBy wire ∷ seats) links h k = or_right (p c) (list_any p (kept cs)) (seated_kept p starts g (n + 1) cs seats links h.2 k)
seated_kept p starts g n (Some c ∷ cs) (Serves ∷ seats) [] h k = absurd h
seated_kept p starts g n (Some c ∷ cs) (Serves ∷ seats) (l ∷ links) h k = by_either (p l.ear.child)
    (λ it. or_left (p c) (list_any p (kept cs)) (subst (λ (d : ℕ). p d ≡ true) h.0 it))
    (λ other. or_right (p c) (list_any p (kept cs)) (seated_kept p starts g (n + 1) cs seats links h.3 (sym (ap (λ (b : Bool). b || list_any (λ (x : LinkValue). p x.ear.child) links) other) ∙ k)))

-- what holds of a link's child holds of a child of the entries
pub seated_any : (p : ℕ → Bool) (starts : Option Starts) (g later : List Entry) (seats : List SeatValue) (links : List LinkValue) → AreSeated starts g 0 (came later) seats links
    → list_any (λ (l : LinkValue). p l.ear.child) links ≡ true → list_any p (children later) ≡ true
seated_any p starts g later seats links h k = subst (λ (cs : List ℕ). list_any p cs ≡ true) (kept_children later) (seated_kept p starts g 0 (came later) seats links h k)

-- a link for each seat that serves
pub seated_serving : (starts : Option Starts) (g : List Entry) (n : ℕ) (cs : List (Option ℕ)) (seats : List SeatValue) (links : List LinkValue) → AreSeated starts g n cs seats links → serving seats ≡ length links
seated_serving starts g n [] [] [] h = refl
seated_serving starts g n [] [] (l ∷ links) h = absurd h
seated_serving starts g n [] (s ∷ seats) links h = absurd h
seated_serving starts g n (None ∷ cs) seats links h = seated_serving starts g (n + 1) cs seats links h
seated_serving starts g n (Some c ∷ cs) [] links h = absurd h
seated_serving starts g n (Some c ∷ cs) (OverBy wire ∷ seats) links h = seated_serving starts g (n + 1) cs seats links h.2
seated_serving starts g n (Some c ∷ cs) (Serves ∷ seats) [] h = absurd h
seated_serving starts g n (Some c ∷ cs) (Serves ∷ seats) (l ∷ links) h = (let rest = seated_serving starts g (n + 1) cs seats links h.3 in omega (arith, rest))
