-- The seats of a pool, as its journal grows.
use Rattle.std.proofs.Common.{◌≡◌, ℕ, zero, suc, ◌+◌, ◌<◌, ◌≤◌, List, [], ◌∷◌, ◌++◌, refl, sym, ap, subst, ◌∙◌, length, length-append, Bool, true, false, ◌==◌, Some, None, Option, arith, ◌⊎◌, inl, inr}
use Rattle.std.specs.Prelude.{◌||◌, slice_get}
use Rattle.ann_outside.specs.Starts.{Starts}
use Rattle.journal_model.specs.declared.entry.Entry.{Entry}
use Rattle.journal_model.specs.Journal.{any}
use Rattle.journal_model.specs.Shares.{is_of_child}
use Rattle.child_life.specs.End.Programs.{AddsAll}
use Rattle.child_life.specs.End.Wires.{IsOfStart}
use Rattle.crew_work.specs.Laws.Laws.{Distinct, children_of}
use Rattle.crew_work.specs.Laws.Rounds.{LinkValue}
use Rattle.run_starts.specs.Stints.{AreUpTo}
use Rattle.run_starts.proofs.Leaving.{linked_on}
use Rattle.run_starts.proofs.Tests.{UpTo}
use Rattle.run_children.specs.PoolChildren.Pools.{AreSeated, OverBy, SeatValue, Serves, is_among}

-- ---- told and came

-- a start after those that were told
pub shifted : (old mid : Option Starts) (told_so : Starts) (k j : ℕ) (n : Option ℕ) → AddsAll old mid told_so → length told_so ≡ k → IsOfStart mid j n → IsOfStart old (j + k) n
shifted old mid told_so k j None a e h = tt
shifted None mid told_so k j (Some n) a e h = tt
shifted (Some xs) None told_so k j (Some n) a e h = absurd a
shifted (Some xs) (Some ys) told_so k j (Some n) a e h =
    let many = ap (λ (zs : Starts). length zs) a ∙ length-append xs told_so in
    omega (arith, h, many, e)

-- ---- seats

-- a child of which nothing more is made keeps its seat
pub seated_on : (starts : Option Starts) (past more : List Entry) (most : ℕ) → ((d : ℕ) → d ≤ most → any (is_of_child d) more ≡ false) → (n : ℕ) (cs : List (Option ℕ)) (seats : List SeatValue) (links : List LinkValue)
    → AreUpTo most cs → AreSeated starts past n cs seats links → AreSeated starts (past ++ more) n cs seats links
seated_on starts past more most apart n [] [] [] u h = tt
seated_on starts past more most apart n [] [] (l ∷ links) u h = absurd h
seated_on starts past more most apart n [] (x ∷ seats) links u h = absurd h
seated_on starts past more most apart n (None ∷ cs) seats links u h = seated_on starts past more most apart (n + 1) cs seats links u h
seated_on starts past more most apart n (Some c ∷ cs) [] links u h = absurd h
seated_on starts past more most apart n (Some c ∷ cs) (OverBy wire ∷ seats) links u h =
    let kept = linked_on starts past more most apart n (Some c ∷ []) (wire ∷ []) (u.0, tt) (h.0, h.1, tt) in
    (h.0, kept.1, seated_on starts past more most apart (n + 1) cs seats links u.1 h.2)
seated_on starts past more most apart n (Some c ∷ cs) (Serves ∷ seats) [] u h = absurd h
seated_on starts past more most apart n (Some c ∷ cs) (Serves ∷ seats) (l ∷ links) u h = (h.0, h.1, h.2, seated_on starts past more most apart (n + 1) cs seats links u.1 h.3)

step : (n k : ℕ) → n + suc k ≡ (n + 1) + k
step n k = omega arith

pub seated_both : (starts : Option Starts) (journal : List Entry) (n : ℕ) (cs ds : List (Option ℕ)) (seats seats' : List SeatValue) (links links' : List LinkValue)
    → AreSeated starts journal n cs seats links → AreSeated starts journal (n + length cs) ds seats' links' → AreSeated starts journal n (cs ++ ds) (seats ++ seats') (links ++ links')
seated_both starts journal n [] ds [] seats' [] links' h k = subst (λ (m : ℕ). AreSeated starts journal m ds seats' links') (let e : n + 0 ≡ n = omega arith in e) k
seated_both starts journal n [] ds [] seats' (l ∷ links) links' h k = absurd h
seated_both starts journal n [] ds (x ∷ seats) seats' links links' h k = absurd h
seated_both starts journal n (None ∷ cs) ds seats seats' links links' h k =
    seated_both starts journal (n + 1) cs ds seats seats' links links' h (subst (λ (m : ℕ). AreSeated starts journal m ds seats' links') (step n (length cs)) k)
seated_both starts journal n (Some c ∷ cs) ds [] seats' links links' h k = absurd h
seated_both starts journal n (Some c ∷ cs) ds (OverBy wire ∷ seats) seats' links links' h k =
    (h.0, h.1, seated_both starts journal (n + 1) cs ds seats seats' links links' h.2 (subst (λ (m : ℕ). AreSeated starts journal m ds seats' links') (step n (length cs)) k))
seated_both starts journal n (Some c ∷ cs) ds (Serves ∷ seats) seats' [] links' h k = absurd h
seated_both starts journal n (Some c ∷ cs) ds (Serves ∷ seats) seats' (l ∷ links) links' h k =
    (h.0, h.1, h.2, seated_both starts journal (n + 1) cs ds seats seats' links links' h.3 (subst (λ (m : ℕ). AreSeated starts journal m ds seats' links') (step n (length cs)) k))

swap : (m k : ℕ) → (m + 1) + k ≡ (m + k) + 1
swap m k = omega arith

-- seats that are counted from a later start
pub seated_behind : (old mid : Option Starts) (told_so : Starts) (k : ℕ) (journal : List Entry) (m : ℕ) (cs : List (Option ℕ)) (seats : List SeatValue) (links : List LinkValue) → AddsAll old mid told_so → length told_so ≡ k
    → AreSeated mid journal m cs seats links → AreSeated old journal (m + k) cs seats links
seated_behind old mid told_so k journal m [] [] [] a e h = tt
seated_behind old mid told_so k journal m [] [] (l ∷ links) a e h = absurd h
seated_behind old mid told_so k journal m [] (x ∷ seats) links a e h = absurd h
seated_behind old mid told_so k journal m (None ∷ cs) seats links a e h =
    subst (λ (i : ℕ). AreSeated old journal i cs seats links) (swap m k) (seated_behind old mid told_so k journal (m + 1) cs seats links a e h)
seated_behind old mid told_so k journal m (Some c ∷ cs) [] links a e h = absurd h
seated_behind old mid told_so k journal m (Some c ∷ cs) (OverBy wire ∷ seats) links a e h = (
  h.0,
  record {
    linked = h.1.linked;
    inlet = subst (λ (i : ℕ). IsOfStart old i wire.inlet_number) (swap m k) (shifted old mid told_so k (m + 1) wire.inlet_number a e h.1.inlet);
    outlet = subst (λ (i : ℕ). IsOfStart old i wire.outlet_number) (swap m k) (shifted old mid told_so k (m + 1) wire.outlet_number a e h.1.outlet);
    closed = h.1.closed;
  },
  subst (λ (i : ℕ). AreSeated old journal i cs seats links) (swap m k) (seated_behind old mid told_so k journal (m + 1) cs seats links a e h.2),
)
seated_behind old mid told_so k journal m (Some c ∷ cs) (Serves ∷ seats) [] a e h = absurd h
seated_behind old mid told_so k journal m (Some c ∷ cs) (Serves ∷ seats) (l ∷ links) a e h = (
  h.0,
  subst (λ (i : ℕ). IsOfStart old i l.mouth.number) (swap m k) (shifted old mid told_so k (m + 1) l.mouth.number a e h.1),
  subst (λ (i : ℕ). IsOfStart old i l.ear.number) (swap m k) (shifted old mid told_so k (m + 1) l.ear.number a e h.2),
  subst (λ (i : ℕ). AreSeated old journal i cs seats links) (swap m k) (seated_behind old mid told_so k journal (m + 1) cs seats links a e h.3),
)

-- ---- counts

-- each link has a seat, and each seat a start
pub seats_few : (starts : Option Starts) (journal : List Entry) (n : ℕ) (cs : List (Option ℕ)) (seats : List SeatValue) (links : List LinkValue) → AreSeated starts journal n cs seats links → (length links ≤ length seats) × (length seats ≤ length cs)
seats_few starts journal n [] [] [] h = (omega arith, omega arith)
seats_few starts journal n [] [] (l ∷ links) h = absurd h
seats_few starts journal n [] (x ∷ seats) links h = absurd h
seats_few starts journal n (None ∷ cs) seats links h = (let r = seats_few starts journal (n + 1) cs seats links h in let a = r.0 in let b = r.1 in (a, omega (arith, b)))
seats_few starts journal n (Some c ∷ cs) [] links h = absurd h
seats_few starts journal n (Some c ∷ cs) (OverBy wire ∷ seats) links h = (let r = seats_few starts journal (n + 1) cs seats links h.2 in let a = r.0 in let b = r.1 in (omega (arith, a), omega (arith, b)))
seats_few starts journal n (Some c ∷ cs) (Serves ∷ seats) [] h = absurd h
seats_few starts journal n (Some c ∷ cs) (Serves ∷ seats) (l ∷ links) h = (let r = seats_few starts journal (n + 1) cs seats links h.3 in let a = r.0 in let b = r.1 in (omega (arith, a), omega (arith, b)))

-- the links are of children that starts gave
pub links_low : (starts : Option Starts) (journal : List Entry) (n most : ℕ) (cs : List (Option ℕ)) (seats : List SeatValue) (links : List LinkValue) → AreUpTo most cs → AreSeated starts journal n cs seats links → UpTo most (children_of links)
links_low starts journal n most [] [] [] u h = tt
links_low starts journal n most [] [] (l ∷ links) u h = absurd h
links_low starts journal n most [] (x ∷ seats) links u h = absurd h
links_low starts journal n most (None ∷ cs) seats links u h = links_low starts journal (n + 1) most cs seats links u h
links_low starts journal n most (Some c ∷ cs) [] links u h = absurd h
links_low starts journal n most (Some c ∷ cs) (OverBy wire ∷ seats) links u h = links_low starts journal (n + 1) most cs seats links u.1 h.2
links_low starts journal n most (Some c ∷ cs) (Serves ∷ seats) [] u h = absurd h
links_low starts journal n most (Some c ∷ cs) (Serves ∷ seats) (l ∷ links) u h =
    ((let e = h.0 in let b = u.0 in omega (arith, e, b)), links_low starts journal (n + 1) most cs seats links u.1 h.3)

-- ---- children that differ

at_end : (cs : List ℕ) (c i d : ℕ) → slice_get (cs ++ c ∷ []) i ≡ Some d → (slice_get cs i ≡ Some d) ⊎ ((i ≡ length cs) × (d ≡ c))
at_end [] c zero d h = inr (refl, cc)
at_end [] c (suc i) d h = absurd cc
at_end (x ∷ cs) c zero d h = inl h
at_end (x ∷ cs) c (suc i) d h = go (at_end cs c i d h)
  where
    go : (slice_get cs i ≡ Some d) ⊎ ((i ≡ length cs) × (d ≡ c)) → (slice_get cs i ≡ Some d) ⊎ ((suc i ≡ length (x ∷ cs)) × (d ≡ c))
    go (inl e) = inl e
    go (inr (e, f)) = inr (ap (λ (n : ℕ). suc n) e, f)

up_at : (n : ℕ) (cs : List ℕ) (i d : ℕ) → UpTo n cs → slice_get cs i ≡ Some d → d ≤ n
up_at n [] i d u h = absurd cc
up_at n (x ∷ cs) zero d u h = (let b = u.0 in let e : x ≡ d = cc in omega (arith, b, e))
up_at n (x ∷ cs) (suc i) d u h = up_at n cs i d u.1 h

-- one child more, of a greater number
pub distinct_more : (n : ℕ) (cs : List ℕ) (c : ℕ) → UpTo n cs → n < c → Distinct cs → Distinct (cs ++ c ∷ [])
distinct_more n cs c u lt differ i j d x y = go (at_end cs c i d x) (at_end cs c j d y)
  where
    go : (slice_get cs i ≡ Some d) ⊎ ((i ≡ length cs) × (d ≡ c)) → (slice_get cs j ≡ Some d) ⊎ ((j ≡ length cs) × (d ≡ c)) → i ≡ j
    go (inl a) (inl b) = differ i j d a b
    go (inl a) (inr (e, f)) = absurd (let le = up_at n cs i d u a in let bad : ⊥ = omega (arith, le, f, lt) in bad)
    go (inr (e, f)) (inl b) = absurd (let le = up_at n cs j d u b in let bad : ⊥ = omega (arith, le, f, lt) in bad)
    go (inr (e, f)) (inr (k, l)) = e ∙ sym k

pub up_more : (n m : ℕ) → n ≤ m → (cs : List ℕ) → UpTo n cs → UpTo m cs
up_more n m le [] u = tt
up_more n m le (c ∷ cs) u = ((let b = u.0 in omega (arith, b, le)), up_more n m le cs u.1)

pub up_both : (n : ℕ) (cs ds : List ℕ) → UpTo n cs → UpTo n ds → UpTo n (cs ++ ds)
up_both n [] ds u v = v
up_both n (c ∷ cs) ds u v = (u.0, up_both n cs ds u.1 v)

-- ---- links

pub among_both : (xs ys : List LinkValue) (c : ℕ) → is_among (xs ++ ys) c ≡ (is_among xs c || is_among ys c)
among_both [] ys c = refl
among_both (l ∷ xs) ys c = ap (λ (b : Bool). (l.ear.child == c) || b) (among_both xs ys c) ∙ or_assoc (l.ear.child == c) (is_among xs c) (is_among ys c)
  where
    or_assoc : (a b d : Bool) → (a || (b || d)) ≡ ((a || b) || d)
    or_assoc true b d = refl
    or_assoc false b d = refl
